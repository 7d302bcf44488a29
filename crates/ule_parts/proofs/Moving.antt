-- An event moves at most the thread of its word change: from what is known of each step of a world.
use Rattle.std.proofs.Common.{◌≡◌, ◌≢◌, ◌⊎◌, ℕ, ◌+◌, ◌%◌, ◌<◌, Bool, true, false, ◌==◌, List, [], ◌∷◌, length, map, refl, sym, ap, ◌∙◌, subst, inl, inr, ⊎_elim, slice_set, Option, Some, None, is_some, option_and_then, if◌then◌else◌}
use Rattle.std.specs.Option.{option_map}
use Rattle.std.proofs.lemmas.Bool.{cond-true, cond-false, eq-eqb, ne_eqb}
use Rattle.std.proofs.lemmas.Option.{none-some, same_Some}
use Rattle.std.proofs.lemmas.List.{get_or-set_same}
use Rattle.ule_score.specs.declared.record.ThreadRecord.{ThreadRecord}
use Rattle.ule_types.specs.Commands.{is_among}
use Rattle.ule_types.specs.declared.event.Event.{Event}
use Rattle.ule_types.specs.declared.event.Event.TheVariants.{Tick, Switch, Drop, Bed, Wake, Look, Land, Move, Lend, Unlend, Renice, Hatch, Fork, Return, Exit, Bury, Inherit}
use Rattle.ule_types.specs.declared.event.MoveWhy.{MoveWhy}
use Rattle.ule_types.specs.declared.event.Reply.{Reply}
use Rattle.ule_types.specs.declared.setup.Setup.{Setup}
use Rattle.ule_model.specs.Action.{PairAction}
use Rattle.ule_model.specs.Conditions.{HasEmptyHand, IsHandled}
use Rattle.ule_model.specs.Events.{Locking, queue, queues, chain, limbo, place_of, locking, has, handling, lock_numbers, locks_of, holder_of, sought_in}
use Rattle.ule_model.specs.Frames.{AreTouched, HaveWords, IsTouched, left, reached, thread_in_hand, thread_under, word_after}
use Rattle.ule_model.specs.LockValue.{LockValue, has_under}
use Rattle.ule_model.specs.Places.{hand_of, is_number, is_under, lock_of}
use Rattle.ule_model.specs.Shows.{numbers_of}
use Rattle.ule_model.specs.Step.{step}
use Rattle.ule_model.specs.WellMade.{IsWellMadeWorld}
use Rattle.ule_model.specs.Words.{blocks, change_of, moved_by, taken_by}
use Rattle.ule_model.specs.Words as words
use Rattle.ule_model.specs.World.{Member, World, is_numbered, thread_of}
use Rattle.ule_model.specs.WorldValue.{Shows, WorldValue, held_by, if_thread}
use Rattle.ule_members.proofs.CalendarPlaces.{FindsEach, made_finds}
use Rattle.ule_members.proofs.Given.{each_move}
use Rattle.ule_members.proofs.Numbered.{step_found, step_numbers}
use Rattle.ule_members.proofs.PairDone.{takes_second}
use Rattle.ule_members.proofs.PartDone.{holder_after}
use Rattle.ule_members.proofs.PlaceFinds.{thread_at_within}
use Rattle.ule_members.proofs.Reach.{takes_itself}
use Rattle.ule_members.proofs.Steps.{in_hand_after, step_moves_word, step_holders, step_own_hand, step_touches}
use Rattle.ule_members.proofs.Touches.{touched_number}
use Rattle.ule_members.proofs.Within.{Within, within_thread}
use Rattle.ule_laws.proofs.WorldLaws.{at_some}
use Rattle.ule_courses.proofs.Hands.{found_held, held_in_hand}
use Rattle.ule_micro.specs.declared.entry.HeldLocks.{HeldLocks}
use Rattle.ule_micro.specs.declared.entry.HeldLocks.TheVariants.{One, Two}
use Rattle.ule_micro.specs.declared.word.WordChange.{WordChange}
use Rattle.ule_micro.specs.declared.word.WordChange.TheVariants.{Block, Point}
use Rattle.ule_micro.specs.Means.{thread_of_change}
use Rattle.ule_micro.specs.Histories.{is_lock_among, laid_under}
use Rattle.ule_micro.specs.Laws.{AreItsLocks, Moves, MovesLittle, at_lock, has_true}
use Rattle.ule_micro.specs.Standings.{Acted}
use Rattle.ule_parts.specs.Acts.{AreAt, act_on, lock_list, needs_of, word_change_of}
use Rattle.ule_parts.specs.Workers.{declared_ids_of}
use Rattle.ule_parts.specs.Scheduler.{MayAct, sched_means}
use Rattle.ule_parts.proofs.Numbers.{found_numbered, numbered_found, numbered_held}
use Rattle.ule_parts.proofs.Locks.{FindsLocks, IsActed, acted_shows, are_placed, as_many, hand_some, held_one, held_two, locks_of_possible, some_of}
use Rattle.ule_parts.proofs.Noted.{IsUnderOneOf, listed, reached_place}

-- ---- what a word change says of its event

block_not_point : (o : Option ℕ) (t k : ℕ) → blocks o ≡ Some (words.point t k) → ⊥
block_not_point None t k is = cc
block_not_point (Some u) t k is = cc

-- an event that takes a thread comes with an empty hand
taker_empty : (x : World) (w : ℕ) (e : Event) (r : Reply) (t : ℕ) → change_of e r ≡ Some (words.block t) → IsHandled x w (handling e) → HasEmptyHand x w
taker_empty x w (Drop c channel) r t is handled = handled
taker_empty x w (Wake u) r t is handled = handled
taker_empty x w (Move a b why) r t is handled = handled
taker_empty x w (Hatch u) r t is handled = handled.0
taker_empty x w (Exit c) r t is handled = handled
taker_empty x w (Tick c) r t is handled = absurd (cc)
taker_empty x w (Switch c why) r t is handled = absurd (cc)
taker_empty x w (Bed u channel) r t is handled = absurd (cc)
taker_empty x w (Look c) r t is handled = absurd (cc)
taker_empty x w (Land u c) r t is handled = absurd (cc)
taker_empty x w (Lend u p) r t is handled = absurd (cc)
taker_empty x w (Unlend u) r t is handled = absurd (cc)
taker_empty x w (Renice u n) r t is handled = absurd (cc)
taker_empty x w (Fork c u) r t is handled = absurd (cc)
taker_empty x w (Return u) r t is handled = absurd (cc)
taker_empty x w (Bury u) r t is handled = absurd (cc)
taker_empty x w (Inherit u run) r t is handled = absurd (cc)

-- has moved: the event is a move, and replies that it moved this thread
record HasMoved (e : Event) (r : Reply) (t : ℕ) : Type 0 where
  from : ℕ
  to : ℕ
  why : MoveWhy
  event_is : e ≡ Move from to why
  moved : moved_by r ≡ Some t

-- is put: the event seeks no thread, and lets a thread's word name one of its locks, which it has in hand or moved
record IsPut (x : World) (e : Event) (r : Reply) (t k : ℕ) : Type 0 where
  fixed : sought_in (locking e) ≡ None
  among : is_among (locks_of x e) k ≡ true
  from : (handling e ≡ has t) ⊎ HasMoved e r t

-- a thread that was moved, by the change of its word
moved_point : (o : Option ℕ) (b t k : ℕ) → option_map (λ u. words.point u b) o ≡ Some (words.point t k) → (o ≡ Some t) × (b ≡ k)
moved_point None b t k is = absurd (none-some (words.point t k) is)
moved_point (Some u) b t k is = let same : words.point u b ≡ words.point t k = same_Some (words.point u b) (words.point t k) is in
    (let one : u ≡ t = cc in ap (λ i. Some i) one, let two : b ≡ k = cc in two)

-- where a thread's word names a lock, the thread is put there
putter_has : (x : World) (e : Event) (r : Reply) (t k : ℕ) → change_of e r ≡ Some (words.point t k) → IsPut x e r t k
putter_has x (Bed u channel) r t k is =
    let same : u ≡ t = cc in let lock : 16 + channel % 8 ≡ k = cc in
    record { fixed = refl; among = ap (is_among ((16 + channel % 8) ∷ [])) (sym lock) ∙ takes_itself (16 + channel % 8); from = inl (ap has same) }
putter_has x (Land u c) r t k is =
    let same : u ≡ t = cc in let lock : c ≡ k = cc in record { fixed = refl; among = ap (is_among (c ∷ [])) (sym lock) ∙ takes_itself c; from = inl (ap has same) }
putter_has x (Move a b why) r t k is =
    let z = moved_point (moved_by r) b t k is in
    record {
      fixed = refl;
      among = ap (is_among (locks_of x (Move a b why))) (sym z.1) ∙ takes_second x (Move a b why) a b refl;
      from = inr (record { from = a; to = b; why = why; event_is = refl; moved = z.0 });
    }
putter_has x (Return u) r t k is =
    let same : u ≡ t = cc in let lock : 24 ≡ k = cc in record { fixed = refl; among = ap (is_among (24 ∷ [])) (sym lock) ∙ takes_itself 24; from = inl (ap has same) }
putter_has x (Bury u) r t k is =
    let same : u ≡ t = cc in let lock : 24 ≡ k = cc in record { fixed = refl; among = ap (is_among (24 ∷ [])) (sym lock) ∙ takes_itself 24; from = inl (ap has same) }
putter_has x (Drop c channel) r t k is = absurd (block_not_point (taken_by 0 r) t k is)
putter_has x (Wake u) r t k is = absurd (block_not_point (taken_by u r) t k is)
putter_has x (Hatch u) r t k is = absurd (block_not_point (taken_by u r) t k is)
putter_has x (Exit c) r t k is = absurd (block_not_point (taken_by 0 r) t k is)
putter_has x (Tick c) r t k is = absurd (cc)
putter_has x (Switch c why) r t k is = absurd (cc)
putter_has x (Look c) r t k is = absurd (cc)
putter_has x (Lend u p) r t k is = absurd (cc)
putter_has x (Unlend u) r t k is = absurd (cc)
putter_has x (Renice u n) r t k is = absurd (cc)
putter_has x (Fork c u) r t k is = absurd (cc)
putter_has x (Inherit u run) r t k is = absurd (cc)

-- a thread that a move moved is there
moved_there : (x : World) (w a b : ℕ) (why : MoveWhy) (now t : ℕ) → FindsEach x.members → moved_by (step x w (Move a b why) now).1 ≡ Some t → is_some (thread_of t x.members) ≡ true
moved_there x w a b why now t finds is =
    each_move x w now a b (λ (p : PairAction). moved_by p.reply ≡ Some t → is_some (thread_of t x.members) ≡ true) why finds (λ none. absurd (none-some t none))
    (λ r k l apart at moved. let same : r.id ≡ t = same_Some r.id t moved in ap (λ u. is_some (thread_of u x.members)) (sym same) ∙ ap (λ o. is_some o) at.found) is

-- ---- where a thread stands, by the locks

-- at locks: which of these locks is the one, if there is one
abbrev at_locks : HeldLocks → Option ℕ → List Bool
at_locks held o = map (λ l. is_number l o) (lock_list held)

-- one of them is
has_at : (held : HeldLocks) (k : ℕ) → is_lock_among held k ≡ true → has_true (at_locks held (Some k)) ≡ true
has_at (One a) k among = among
has_at (Two a b) k among = among

-- none is
none_at : (held : HeldLocks) → has_true (at_locks held None) ≡ false
none_at (One a) = refl
none_at (Two a b) = refl

-- that one is
at_is : (held : HeldLocks) (k : ℕ) → at_locks held (Some k) ≡ at_lock held k
at_is (One a) k = refl
at_is (Two a b) k = refl

-- the locks that an event needs and that seeks none are the event's locks
held_same : (s : Setup) (ms : List Member) (held its : HeldLocks) (guarded : List LockValue) (k : Locking) → lock_numbers ms k ≡ lock_list its → sought_in k ≡ None
    → AreItsLocks (sched_means s) held guarded (needs_of k) → held ≡ its
held_same s ms held its guarded (queue c) numbers fixed is = is ∙ sym (held_one its c (sym numbers))
held_same s ms held its guarded (queues a b) numbers fixed is = is ∙ sym (held_two its _ _ (sym numbers))
held_same s ms held its guarded (chain channel) numbers fixed is = is ∙ sym (held_one its (16 + channel % 8) (sym numbers))
held_same s ms held its guarded limbo numbers fixed is = is ∙ sym (held_one its 24 (sym numbers))
held_same s ms held its guarded (place_of t) numbers fixed is = absurd (none-some t (sym fixed))

-- the word of a thread after a step, by number
words_found : (x : World) (w : ℕ) (e : Event) (now t : ℕ) (c : Option words.WordChange) (ms ns : List Member) → AreTouched x w e now ms ns → HaveWords c ms ns → (m n : Member)
    → thread_of t ms ≡ Some m → thread_of t ns ≡ Some n → lock_of n.place ≡ word_after c m
words_found x w e now t c [] ns touched words m n at_m at_n = absurd (none-some m at_m)
words_found x w e now t c (a ∷ ms) [] touched words m n at_m at_n = absurd touched
words_found x w e now t c (a ∷ ms) (b ∷ ns) touched words m n at_m at_n = by (is_numbered t a) at_m
    (ap (λ i. if i == t then Some b else thread_of t ns) (sym (touched_number x w e now a b touched.0)) ∙ at_n) (λ is_m is_n. words_found x w e now t c ms ns touched.1 words.1 m n is_m is_n)
  where
    by : (d : Bool) → (if d then Some a else thread_of t ms) ≡ Some m → (if d then Some b else thread_of t ns) ≡ Some n
        → (thread_of t ms ≡ Some m → thread_of t ns ≡ Some n → lock_of n.place ≡ word_after c m) → lock_of n.place ≡ word_after c m
    by true is_m is_n rest = ap (λ (y : Member). lock_of y.place) (sym (same_Some b n is_n)) ∙ (words.0 ∙ ap (word_after c) (same_Some a m is_m))
    by false is_m is_n rest = rest is_m is_n

module _ (s : Setup) (w : ℕ) (e : Event) (now : ℕ) (hand : Option ThreadRecord) (held : HeldLocks) (guarded : List LockValue)
    (may : MayAct s w e now hand guarded) (its : AreItsLocks (sched_means s) held guarded (needs_of (locking e))) where
  abbrev x : World
  x = may.world

  abbrev x' : World
  x' = (step may.world w e now).0

  abbrev reply : Reply
  reply = (step may.world w e now).1

  locks : FindsLocks s may.value may.world (locking e)
  locks = locks_of_possible s may.value may.world w e now may.shows may.possible

  under : AreAt may.value.values (lock_list locks.held) guarded
  under = subst (λ ls. AreAt may.value.values ls guarded) locks.has.numbers may.guarded_are

  -- what the event makes of the values and of the hand
  abbrev made : Acted (Option ThreadRecord) LockValue Reply
  made = act_on s.settings w e now hand guarded

  acted : IsActed may.value may.world w e now locks.held made
  acted = acted_shows s may.value may.world w e now locks.held guarded hand may.shows may.possible locks.has.numbers under may.hand_is (may.shows.settings ∙ may.is_world.settings)

  -- the whole scheduler after it
  abbrev after : WorldValue
  after = record { settings = may.value.settings; values = laid_under locks.held may.value.values made.values; hands = slice_set may.value.hands w made.hand }

  made_well : IsWellMadeWorld may.world
  made_well = may.is_world.made

  numbers_after : numbers_of x'.members ≡ declared_ids_of s
  numbers_after = step_numbers x w e now made_well may.possible ∙ may.is_world.numbers

  -- whether the hand has a thread, before and after, by the world
  hand_before : (t : ℕ) → is_some (if_thread t hand) ≡ is_some (thread_in_hand w t x.members)
  hand_before t = ap (λ (h : Option ThreadRecord). is_some (if_thread t h)) (sym may.hand_is) ∙ hand_some may.value x w (held_by may.value w) may.shows (may.shows.hands w) t

  hand_after : (t : ℕ) → is_some (if_thread t made.hand) ≡ is_some (thread_in_hand w t x'.members)
  hand_after t = ap (λ (k : Option ThreadRecord). is_some (if_thread t k)) (sym there) ∙ hand_some after x' w (held_by after w) acted.shows (acted.shows.hands w) t
    where
      there : held_by after w ≡ made.hand
      there = get_or-set_same may.value.hands w made.hand None (subst (λ n. w < n) (sym may.shows.workers) may.possible.worker_is)

  -- a declared thread before and after
  record IsSeen (t : ℕ) : Type 0 where
    before : Member
    next : Member
    found : thread_of t x.members ≡ Some before
    found_after : thread_of t x'.members ≡ Some next
    touched : IsTouched x w e now before next
    number : before.thread.id ≡ t
    names : lock_of next.place ≡ word_after (change_of e reply) before
    were : map (λ u. has_under u t) guarded ≡ at_locks locks.held (lock_of before.place)
    are : map (λ u. has_under u t) made.values ≡ at_locks locks.held (lock_of next.place)

  if_some_is : (b : Bool) (m : Member) → is_some (if b then Some m else None) ≡ b
  if_some_is true m = refl
  if_some_is false m = refl

  -- whether it is found under a lock is whether its place lies under it
  under_by : (y : World) (t : ℕ) (m : Member) → Within t m y.members → (l : ℕ) → is_some (thread_under l t y.members) ≡ is_number l (lock_of m.place)
  under_by y t m within l = ap (λ o. is_some o) (thread_at_within (is_under l) t m y.members within) ∙ if_some_is (is_under l m.place) m

  -- where it stands among the values under these locks, by its place
  placed_by : (v : WorldValue) (y : World) (t : ℕ) (m : Member) (ls : List ℕ) (us : List LockValue) → Shows v y → AreAt v.values ls us → Within t m y.members
      → map (λ u. has_under u t) us ≡ map (λ l. is_number l (lock_of m.place)) ls
  placed_by v y t m ls us shows at within = are_placed v y t shows ls us at ∙ (λ i. map (λ l. under_by y t m within l i) ls)

  seen : (t : ℕ) → is_among (declared_ids_of s) t ≡ true → IsSeen t
  seen t dec =
      let there = some_of (thread_of t x.members) (found_numbered t (declared_ids_of s) x.members may.is_world.numbers dec) in
      let next = at_some _ (thread_of t x.members) there.0 (step_found x w e now made_well may.possible t).there there.1 in
      let within : Within t there.0 x.members = within_thread t x.members there.0 made_well.members there.1 in
      let touched = step_touches x w e now made_well may.possible in
      let moved = step_moves_word x w e now made_well may.possible in record {
        before = there.0;
        next = next.0;
        found = there.1;
        found_after = next.1.0;
        touched = next.1.1;
        number = within.number;
        names = words_found x w e now t (change_of e reply) x.members x'.members touched moved there.0 next.0 there.1 next.1.0;
        were = placed_by may.value x t there.0 (lock_list locks.held) guarded may.shows under within;
        are = placed_by after x' t next.0 (lock_list locks.held) made.values acted.shows acted.laid (within_thread t x'.members next.0 acted.shows.made next.1.0);
      }

  -- the hand after the event, by the change of a word
  own : (t : ℕ) (c : Option words.WordChange) → change_of e reply ≡ c → is_some (thread_in_hand w t x'.members) ≡ in_hand_after c t (is_some (thread_in_hand w t x.members))
  own t c is = step_own_hand x w e now made_well may.possible t ∙ ap (λ d. in_hand_after d t (is_some (thread_in_hand w t x.members))) is

  word_is : (t : ℕ) (dec : is_among (declared_ids_of s) t ≡ true) (c : Option words.WordChange) → change_of e reply ≡ c → lock_of (seen t dec).next.place ≡ word_after c (seen t dec).before
  word_is t dec c is = (seen t dec).names ∙ ap (λ d. word_after d (seen t dec).before) is

  -- the values after, by the word
  values_by : (t : ℕ) (dec : is_among (declared_ids_of s) t ≡ true) (c : Option words.WordChange) → change_of e reply ≡ c
      → map (λ u. has_under u t) made.values ≡ at_locks locks.held (word_after c (seen t dec).before)
  values_by t dec c is = (seen t dec).are ∙ ap (at_locks locks.held) (word_is t dec c is)

  -- another thread than the one whose word changes stays
  stays : (t : ℕ) (dec : is_among (declared_ids_of s) t ≡ true) (c : Option words.WordChange) → change_of e reply ≡ c → word_after c (seen t dec).before ≡ lock_of (seen t dec).before.place
      → in_hand_after c t (is_some (thread_in_hand w t x.members)) ≡ is_some (thread_in_hand w t x.members)
      → (map (λ u. has_under u t) made.values ≡ map (λ u. has_under u t) guarded) × (is_some (if_thread t made.hand) ≡ is_some (if_thread t hand))
  stays t dec c is word_stays hand_stays =
      (values_by t dec c is ∙ (ap (at_locks locks.held) word_stays ∙ sym (seen t dec).were), hand_after t ∙ (own t c is ∙ (hand_stays ∙ sym (hand_before t))))

  other_number : (t v : ℕ) (dec : is_among (declared_ids_of s) t ≡ true) → t ≢ v → is_numbered v (seen t dec).before ≡ false
  other_number t v dec far = ne_eqb (seen t dec).before.thread.id v (λ same. far (sym (seen t dec).number ∙ same))

  own_number : (t : ℕ) (dec : is_among (declared_ids_of s) t ≡ true) → is_numbered t (seen t dec).before ≡ true
  own_number t dec = eq-eqb (seen t dec).before.thread.id t (seen t dec).number

  -- a thread whose place lies under one of the locks stands among the values
  stood : (t : ℕ) (dec : is_among (declared_ids_of s) t ≡ true) (k : ℕ) → lock_of (seen t dec).before.place ≡ Some k → is_lock_among locks.held k ≡ true
      → has_true (map (λ u. has_under u t) guarded) ≡ true
  stood t dec k lock among = ap has_true ((seen t dec).were ∙ ap (at_locks locks.held) lock) ∙ has_at locks.held k among

  -- a thread that is taken was under one of the locks
  was_under : (t : ℕ) (dec : is_among (declared_ids_of s) t ≡ true) → change_of e reply ≡ Some (words.block t) → has_true (map (λ u. has_under u t) guarded) ≡ true
  was_under t dec is = by (seen t dec).touched
    where
      empty_before : HasEmptyHand x w
      empty_before = taker_empty x w e reply t is may.possible.hand

      not_own : hand_of (seen t dec).before.place ≡ Some w → ⊥
      not_own own_it = empty_before t (ap (option_and_then (λ (m : Member). hand_of m.place)) (seen t dec).found ∙ own_it)

      taken : is_some (thread_in_hand w t x'.members) ≡ true
      taken = own t (Some (words.block t)) is ∙ cond-true (t == t) true (is_some (thread_in_hand w t x.members)) (eq-eqb t t refl)

      by : IsTouched x w e now (seen t dec).before (seen t dec).next → has_true (map (λ u. has_under u t) guarded) ≡ true
      by (left same) = absurd (not_own (by_hand (found_held w t x'.members acted.shows.made taken) same))
        where
          by_hand : holder_of x'.members t ≡ Some w → (seen t dec).before ≡ (seen t dec).next → hand_of (seen t dec).before.place ≡ Some w
          by_hand has_it eq = ap (λ (m : Member). hand_of m.place) eq ∙ (sym (ap (option_and_then (λ (m : Member). hand_of m.place)) (seen t dec).found_after) ∙ has_it)
      by (reached from to through) = ⊎_elim (λ (at : IsUnderOneOf locks.held (seen t dec).before.place). stood t dec at.0 at.2 at.1)
          (λ (own_it : hand_of (seen t dec).before.place ≡ Some w). absurd (not_own own_it)) (reached_place x w e locks.held (seen t dec).before.place locks.has.numbers from)

  -- a thread whose word is to name a lock
  put : (t k : ℕ) → change_of e reply ≡ Some (words.point t k) → IsPut x e reply t k
  put t k at = putter_has x e reply t k at

  put_among : (t k : ℕ) → change_of e reply ≡ Some (words.point t k) → is_lock_among locks.held k ≡ true
  put_among t k at = listed locks.held k (ap (λ ls. is_among ls k) (sym locks.has.numbers) ∙ (put t k at).among)

  same_held : (t k : ℕ) → change_of e reply ≡ Some (words.point t k) → held ≡ locks.held
  same_held t k at = held_same s x.members held locks.held guarded (locking e) locks.has.numbers (put t k at).fixed its

  -- it was in hand or under one of the locks
  was_there : (t k : ℕ) (dec : is_among (declared_ids_of s) t ≡ true) → change_of e reply ≡ Some (words.point t k)
      → (is_some (if_thread t hand) ≡ true) ⊎ (has_true (map (λ u. has_under u t) guarded) ≡ true)
  was_there t k dec at = by (seen t dec).touched
    where
      named : lock_of (seen t dec).next.place ≡ Some k
      named = word_is t dec (Some (words.point t k)) at ∙ cond-true (is_numbered t (seen t dec).before) (Some k) (lock_of (seen t dec).before.place) (own_number t dec)

      by : IsTouched x w e now (seen t dec).before (seen t dec).next → (is_some (if_thread t hand) ≡ true) ⊎ (has_true (map (λ u. has_under u t) guarded) ≡ true)
      by (left same) = inr (stood t dec k (ap (λ (m : Member). lock_of m.place) same ∙ named) (put_among t k at))
      by (reached from to through) = ⊎_elim (λ (under_it : IsUnderOneOf locks.held (seen t dec).before.place). inr (stood t dec under_it.0 under_it.2 under_it.1))
          (λ (own_it : hand_of (seen t dec).before.place ≡ Some w).
          inl (hand_before t ∙ held_in_hand w t x.members (ap (option_and_then (λ (m : Member). hand_of m.place)) (seen t dec).found ∙ own_it)))
          (reached_place x w e locks.held (seen t dec).before.place locks.has.numbers from)

  -- a thread whose word is to be blocked is declared
  taken_declared : (t : ℕ) → change_of e reply ≡ Some (words.block t) → is_among (declared_ids_of s) t ≡ true
  taken_declared t is = ap (λ us. is_among us t) (sym numbers_after) ∙ numbered_held t w x'.members
      (step_holders x w e now made_well may.possible t ∙ (ap (λ c. holder_after w c t (holder_of x.members t)) is ∙ cond-true (t == t) (Some w) (holder_of x.members t) (eq-eqb t t refl)))

  -- so is one whose word is to name a lock
  put_declared : (t k : ℕ) → change_of e reply ≡ Some (words.point t k) → is_among (declared_ids_of s) t ≡ true
  put_declared t k at = ap (λ us. is_among us t) (sym may.is_world.numbers) ∙ ⊎_elim
      (λ (in_hand : handling e ≡ has t). numbered_held t w x.members (subst (IsHandled x w) in_hand may.possible.hand))
      (λ (m : HasMoved e reply t). sym (numbered_found t x.members) ∙ moved_there x w m.from m.to m.why now t (made_finds x.members made_well.members)
      (ap (λ y. moved_by (step x w y now).1) (sym m.event_is) ∙ m.moved))
      (put t k at).from

  -- the act, by the change of a word
  abbrev IsMoved : Option words.WordChange → Type 0
  IsMoved c = Moves (sched_means s) held hand guarded (word_change_of c) made.hand made.values

  as_before : length made.values ≡ length guarded
  as_before = as_many (laid_under locks.held may.value.values made.values) (lock_list locks.held) made.values acted.laid ∙ sym (as_many may.value.values (lock_list locks.held) guarded under)

  block_is : (t v : ℕ) → ◌≡◌ {A = Option WordChange} (Some (Block v)) (Some (Block t)) → v ≡ t
  block_is t v is = let y : Block v ≡ Block t = same_Some (Block v) (Block t) is in cc

  block_point : (t v k : ℕ) → ◌≡◌ {A = Option WordChange} (Some (Block v)) (Some (Point t k)) → ⊥
  block_point t v k is = let y : Block v ≡ Point t k = same_Some (Block v) (Point t k) is in cc

  point_is : (t v k j : ℕ) → ◌≡◌ {A = Option WordChange} (Some (Point v j)) (Some (Point t k)) → (v ≡ t) × (j ≡ k)
  point_is t v k j is = let y : Point v j ≡ Point t k = same_Some (Point v j) (Point t k) is in (cc, cc)

  moves_by : (c : Option words.WordChange) → change_of e reply ≡ c → IsMoved c
  moves_by None is = record {
    count = as_before;
    of_declared = λ d no_change. absurd (none-some d no_change);
    others = λ t dec far. stays t dec None is refl refl;
    blocks = λ t no_change. absurd (none-some (Block t) no_change);
    points = λ t k no_change. absurd (none-some (Point t k) no_change);
  }
  moves_by (Some (words.block v)) is = record {
    count = as_before;
    of_declared = λ d change. ap (λ c. is_among (declared_ids_of s) (thread_of_change c)) (sym (same_Some (Block v) d change)) ∙ taken_declared v is;
    others = λ t dec far. let apart : t ≢ v = (λ same. far (Block v) refl (sym same)) in
        stays t dec (Some (words.block v)) is (cond-false (is_numbered v (seen t dec).before) None (lock_of (seen t dec).before.place) (other_number t v dec apart))
        (cond-false (t == v) true (is_some (thread_in_hand w t x.members)) (ne_eqb t v apart));
    blocks = λ t change. let same = block_is t v change in let at : change_of e reply ≡ Some (words.block t) = is ∙ ap (λ i. Some (words.block i)) same in let dec = taken_declared t at in (
      was_under t dec at,
      ap has_true (values_by t dec (Some (words.block t)) at ∙ ap (at_locks locks.held) (cond-true (is_numbered t (seen t dec).before) None (lock_of (seen t dec).before.place)
          (own_number t dec))) ∙ none_at locks.held,
      hand_after t ∙ (own t (Some (words.block t)) at ∙ cond-true (t == t) true (is_some (thread_in_hand w t x.members)) (eq-eqb t t refl)),
    );
    points = λ t k change. absurd (block_point t v k change);
  }
  moves_by (Some (words.point v j)) is = record {
    count = as_before;
    of_declared = λ d change. ap (λ c. is_among (declared_ids_of s) (thread_of_change c)) (sym (same_Some (Point v j) d change)) ∙ put_declared v j is;
    others = λ t dec far. let apart : t ≢ v = (λ same. far (Point v j) refl (sym same)) in
        stays t dec (Some (words.point v j)) is (cond-false (is_numbered v (seen t dec).before) (Some j) (lock_of (seen t dec).before.place) (other_number t v dec apart))
        (cond-false (t == v) false (is_some (thread_in_hand w t x.members)) (ne_eqb t v apart));
    blocks = λ t change. absurd (block_point v t j (sym change));
    points = λ t k change. let same = point_is t v k j change in let at : change_of e reply ≡ Some (words.point t k) = is ∙ (λ i. Some (words.point (same.0 i) (same.1 i))) in
        let dec = put_declared t k at in (
          was_there t k dec at,
          ap (λ h. is_lock_among h k) (same_held t k at) ∙ put_among t k at,
          values_by t dec (Some (words.point t k)) at ∙ (ap (at_locks locks.held) (cond-true (is_numbered t (seen t dec).before) (Some k) (lock_of (seen t dec).before.place) (own_number t dec))
              ∙ (at_is locks.held k ∙ ap (λ h. at_lock h k) (sym (same_held t k at)))),
          hand_after t ∙ (own t (Some (words.point t k)) at ∙ cond-true (t == t) false (is_some (thread_in_hand w t x.members)) (eq-eqb t t refl)),
        );
  }

  pub moves : Moves (sched_means s) held hand guarded (word_change_of (change_of e made.reply)) made.hand made.values
  moves = moves_by (change_of e made.reply) (ap (change_of e) (sym acted.reply))

-- each event that may be performed moves at most the thread of its word change
pub moves_little : (s : Setup) → MovesLittle (sched_means s)
moves_little s w e now hand held guarded may rise many its = moves s w e now hand held guarded may its

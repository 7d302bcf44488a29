-- What the parts of an action do to the threads: they touch those within the event's reach alone, the one thread whose lock
-- changes is the one of their word change, and the threads stay well made. One lemma a part, and one induction.
use Rattle.std.proofs.Common.{◌≡◌, ◌≢◌, ℕ, ◌<◌, ◌==◌, ⊎_elim, pos, Bool, true, false, List, [], ◌∷◌, ◌++◌, Option, Some, None, if◌then◌else◌, refl, sym, ◌∙◌, ap, subst}
use Rattle.std.specs.Option.{option_map}
use Rattle.std.proofs.lemmas.Bool.{cases_eq, cond-false, cond-true, cond_both, eq-eqb, ne_eqb, or_cases, or_parts}
use Rattle.std.proofs.lemmas.Option.{none-some}
use Rattle.std.specs.List.{list_any}
use Rattle.std.specs.Prelude.{option_and_then}
use Rattle.ule_prio.specs.Kind.{kind_at}
use Rattle.ule_score.proofs.ChangeLaws.{change_number}
use Rattle.ule_score.specs.Changes.{RecordChange, runs}
use Rattle.ule_score.specs.declared.place.Place.{Place}
use Rattle.ule_score.specs.declared.place.Place.TheVariants.{Running}
use Rattle.ule_score.specs.declared.record.Settings.{Settings}
use Rattle.ule_types.specs.Commands.{is_among}
use Rattle.ule_types.specs.declared.event.Event.{Event}
use Rattle.ule_model.specs.Choice.{choice_of}
use Rattle.ule_model.specs.Events.{holder_of, is_reached, locks_of}
use Rattle.ule_model.specs.Frames.{AreTouched, ComesTo, HaveWords, IsSoundIn, as_it_was, reached, word_after}
use Rattle.ule_model.specs.Insertion.{bucket_of, order_of_insertion, place_of_insertion, queued, with_queued}
use Rattle.ule_model.specs.declared.insertion.Insertion.{Insertion}
use Rattle.ule_model.specs.Places.{hand_of, is_hand_of, is_on, is_under, lock_of, runs_on, waits_on}
use Rattle.ule_model.specs.Switch.{choosing_next, running_chosen}
use Rattle.ule_model.specs.WellMade.{IsPlace, IsWellMade}
use Rattle.ule_model.specs.Words.{WordChange, block, point}
use Rattle.ule_model.specs.World.{Member, Side, World, current_of, is_numbered, moved_to, others, thread_of, with_change}
use Rattle.ule_members.proofs.MadeWell.{IsApartFrom, apart_from_kept, apart_from_off, apart_from_queued, apart_from_running, well_made_put}
use Rattle.ule_members.proofs.Membership.{has_thread_of}
use Rattle.ule_members.proofs.Moves.{bucket_small, changed_by, choice_stands, current_of-between, moved_between, moved_member, moved_recorded_between, others_within, queued_member, recorded_between, within_has}
use Rattle.ule_members.proofs.Reach.{among_where_under, lock_where_waits, no_hand_under, number_from_test, reached_by_lock}
use Rattle.ule_members.proofs.Threads.{find_here, find_kept, find_mapped, thread_of-changed_same, thread_of_within}
use Rattle.ule_members.proofs.Touches.{all_touched_further, comes_by_one, comes_number, comes_numbers, touched_between, touched_number, untouched}
use Rattle.ule_members.proofs.Within.{Within, within_found}
use Rattle.ule_members.proofs.WordLaws.{IsOnWordOf, word_blocked, word_pointed, words_between, words_stay}
use Rattle.ule_members.proofs.Rest.{after_leaving_within}
use Rattle.ule_model.specs.Action.{Part, choose, insert, leaving, move, note, part_done, parts_done}
use Rattle.ule_members.proofs.PartRest.{part_kept}

-- ---- the word of an action

-- how the word of a thread changes that leaves a place of this lock for one of that
abbrev pub word_between : ℕ → Option ℕ → Option ℕ → Option WordChange
word_between t None None = None
word_between t None (Some l) = Some (point t l)
word_between t (Some k) None = Some (block t)
word_between t (Some k) (Some l) = None

-- how a part on CPU c changes a word
abbrev pub word_of_part : ℕ → Part → Option WordChange
word_of_part c (move t from to) = word_between t (lock_of from) (lock_of to)
word_of_part c (insert t from how) = word_between t (lock_of from) (Some c)
word_of_part c p = None

-- a change of a word and then another
abbrev pub word_then : Option WordChange → Option WordChange → Option WordChange
word_then first None = first
word_then first (Some next) = Some next

abbrev pub word_of_parts : ℕ → List Part → Option WordChange
word_of_parts c [] = None
word_of_parts c (p ∷ ps) = word_then (word_of_part c p) (word_of_parts c ps)

-- the holder of thread u after a change of a word by an event of this worker, where this was it before
abbrev pub holder_after : ℕ → Option WordChange → ℕ → Option ℕ → Option ℕ
holder_after worker None u old = old
holder_after worker (Some (block t)) u old = if u == t then Some worker else old
holder_after worker (Some (point t l)) u old = if u == t then None else old

-- ---- what parts need

-- a thread stands at a place
pub record StandsAt (t : ℕ) (place : Place) (ms : List Member) : Type 0 where
  pub member : Member
  pub found : thread_of t ms ≡ Some member
  pub place_is : member.place ≡ place

-- a place on which an action can act: within the event's reach
abbrev pub IsActedOn : World → ℕ → Event → Place → Type 0
IsActedOn w worker e place = is_reached w worker e place ≡ true

-- on the way from one lock to another at most one is none, or the lock stays
abbrev pub IsWay : Option ℕ → Option ℕ → Type 0
IsWay None None = ⊥
IsWay None (Some l) = Unit {0}
IsWay (Some k) None = Unit {0}
IsWay (Some k) (Some l) = k ≡ l

-- two changes of words, one after another, are of one thread
abbrev pub Agree : Option WordChange → Option WordChange → Type 0
Agree None second = Unit {0}
Agree (Some first) None = Unit {0}
Agree (Some (block t)) (Some (point u l)) = t ≡ u
Agree (Some (block t)) (Some (block u)) = ⊥
Agree (Some (point t k)) (Some next) = ⊥

-- what is known of a side: which threads stand where
abbrev pub Known : Type 1
Known = ℕ → Place → Type 0

-- what is known after a part, of threads and, if anything, of there being no current one
abbrev pub known_after : Part → Known → Known
known_after (move t from to) known = λ u place. (u ≡ t) × (place ≡ to)
known_after (insert t from how) known = λ u place. ⊥
known_after choose known = λ u place. ⊥
known_after p known = known

abbrev pub idle_after : ℕ → Part → Type 0 → Type 0
idle_after c (move t from to) idle = from ≡ Running c
idle_after c (insert t from how) idle = from ≡ Running c
idle_after c choose idle = ⊥
idle_after c p idle = idle

-- what is known after all parts
abbrev pub known_after_all : List Part → Known → Known
known_after_all [] known = known
known_after_all (p ∷ ps) known = known_after_all ps (known_after p known)

abbrev pub idle_after_all : ℕ → List Part → Type 0 → Type 0
idle_after_all c [] idle = idle
idle_after_all c (p ∷ ps) idle = idle_after_all c ps (idle_after c p idle)

-- what is known is so
abbrev pub IsKnown : Known → List Member → Type 0
IsKnown known ms = (t : ℕ) (place : Place) → known t place → StandsAt t place ms

-- a thread stands where it stood after a change of a record
note_stands : (settings : Settings) (now t u : ℕ) (change : RecordChange) (place : Place) (ms : List Member) → StandsAt u place ms →
    StandsAt u place (with_change settings now t change ms)
note_stands settings now t u change place ms at = record {
  member = new at.member;
  found = find_mapped (is_numbered u) new numbered ms ∙ ap (option_map new) at.found;
  place_is = cond_both (is_numbered t at.member) (changed_by settings now change at.member) at.member (λ z. z.place ≡ place) (λ here. at.place_is) (λ other. at.place_is);
}
  where
    new : Member → Member
    new x = if is_numbered t x then changed_by settings now change x else x

    numbered : (x : Member) → is_numbered u (new x) ≡ is_numbered u x
    numbered x =
        cond_both (is_numbered t x) (changed_by settings now change x) x (λ z. is_numbered u z ≡ is_numbered u x)
        (λ here. ap (λ (i : ℕ). i == u) (change_number settings now change x.thread)) (λ other. refl)

-- a thread that goes to a place stands there
move_stands : (t : ℕ) (from to : Place) (ms : List Member) → StandsAt t from ms → StandsAt t to (moved_to t to (pos 0) ms)
move_stands t from to ms at = record {
  member = moved_member to (pos 0) at.member;
  found = thread_of-changed_same t (moved_member to (pos 0)) ms (λ x. refl) ∙ ap (option_map (moved_member to (pos 0))) at.found;
  place_is = refl;
}

-- what is to be known of the thread that a part moves
abbrev pub HasMover : Part → Known → Type 0
HasMover (move t from to) known = known t from
HasMover p known = Unit {0}

-- what is known after a part is so
pub known_then : (c now : ℕ) (p : Part) (known : Known) (s : Side) (into : Option ℕ) → IsKnown known s.members → HasMover p known →
    IsKnown (known_after p known) (part_done c now p (s, into)).0.members
known_then c now (note t place change) known s into is mover u at here = note_stands s.settings now t u change at s.members (is u at here)
known_then c now (move t from to) known s into is mover u at here =
    subst (λ (x : ℕ). StandsAt x at (moved_to t to (pos 0) s.members)) (sym here.0)
    (subst (λ (x : Place). StandsAt t x (moved_to t to (pos 0) s.members)) (sym here.1) (move_stands t from to s.members (is t from mover)))
known_then c now (insert t from how) known s into is mover u at here = absurd here
known_then c now choose known s into is mover u at here = absurd here
known_then c now p known s into is mover u at here = is u at here

module _ (w : World) (worker : ℕ) (e : Event) (now : ℕ) where
  -- ---- what is shown

  -- what was done to the threads
  pub record AreDone (change : Option WordChange) (ms ns : List Member) : Type 0 where
    pub touched : AreTouched w worker e now ms ns
    pub words : HaveWords change ms ns
    pub holders : (u : ℕ) → holder_of ns u ≡ holder_after worker change u (holder_of ms u)
    pub made : IsWellMade ns

  -- nothing was done
  pub none_done : (ms : List Member) → IsWellMade ms → AreDone None ms ms
  none_done ms made = record { touched = untouched w worker e now ms; words = words_stay ms; holders = λ u. refl; made = made }

  -- in whose hand a thread is that goes from a place to another, by the change of its word
  abbrev IsPassed : Option WordChange → Place → Place → Type 0
  IsPassed None from to = hand_of to ≡ hand_of from
  IsPassed (Some (block t)) from to = hand_of to ≡ Some worker
  IsPassed (Some (point t l)) from to = hand_of to ≡ None

  module _ (m n : Member) (ms : List Member) (v : Within m.thread.id m ms) (number : n.thread.id ≡ m.thread.id) where
    -- the holder of another thread stays
    holder_other : (u : ℕ) → u ≢ m.thread.id → holder_of (v.before ++ n ∷ v.after) u ≡ holder_of ms u
    holder_other u apart =
        ap (option_and_then (λ (x : Member). hand_of x.place))
        (find_kept (is_numbered u) v.before m n v.after (ne_eqb m.thread.id u (λ same. apart (sym same))) (ne_eqb n.thread.id u (λ same. apart (sym same ∙ number))) ∙
        ap (thread_of u) (sym v.whole))

    -- the holder of the thread itself is the worker in whose hand it is
    holder_own : holder_of (v.before ++ n ∷ v.after) m.thread.id ≡ hand_of n.place
    holder_own =
        ap (option_and_then (λ (x : Member). hand_of x.place))
        (find_here (is_numbered m.thread.id) v.before n v.after v.lacks_before (eq-eqb n.thread.id m.thread.id number))

    -- where a word changes, the holder is what this says of the thread, and of each other what it was
    holder_split : (t u : ℕ) (own : Option ℕ) → t ≡ m.thread.id → hand_of n.place ≡ own →
        holder_of (v.before ++ n ∷ v.after) u ≡ (if u == t then own else holder_of ms u)
    holder_split t u own is hand =
        ⊎_elim
        (λ (same : u ≡ t). ap (holder_of (v.before ++ n ∷ v.after)) (same ∙ is) ∙ holder_own ∙ hand ∙ sym (cond-true (u == t) own (holder_of ms u) (eq-eqb u t same)))
        (λ (other : u ≡ t → ⊥). holder_other u (λ same. other (same ∙ sym is)) ∙ sym (cond-false (u == t) own (holder_of ms u) (ne_eqb u t other)))
        (cases_eq u t)

    -- the holders after one thread was carried
    holders_carried : (change : Option WordChange) → IsOnWordOf m.thread.id change → IsPassed change m.place n.place → (u : ℕ) →
        holder_of (v.before ++ n ∷ v.after) u ≡ holder_after worker change u (holder_of ms u)
    holders_carried None on passed u =
        ⊎_elim
        (λ (same : u ≡ m.thread.id). ap (holder_of (v.before ++ n ∷ v.after)) same ∙ holder_own ∙ passed ∙
        sym (ap (option_and_then (λ (x : Member). hand_of x.place)) (ap (λ (x : ℕ). thread_of x ms) same ∙ thread_of_within m.thread.id m ms v)))
        (λ (other : u ≡ m.thread.id → ⊥). holder_other u other) (cases_eq u m.thread.id)
    holders_carried (Some (block t)) on passed u = holder_split t u (Some worker) on passed
    holders_carried (Some (point t l)) on passed u = holder_split t u None on passed

  -- one thread was carried
  one_done : (change : Option WordChange) (m n : Member) (ms ns : List Member) (v : Within m.thread.id m ms) → ns ≡ v.before ++ n ∷ v.after →
      IsActedOn w worker e m.place → IsActedOn w worker e n.place → ComesTo w now m.thread n.thread → IsOnWordOf m.thread.id change →
      lock_of n.place ≡ word_after change m → IsPassed change m.place n.place → IsPlace n.place → IsApartFrom n v.before v.after → AreDone change ms ns
  one_done change m n ms ns v is from to through on word passed place apart = subst (AreDone change ms) (sym is) (record {
    touched = subst (λ (xs : List Member). AreTouched w worker e now xs (v.before ++ n ∷ v.after)) (sym v.whole) (touched_between w worker e now v.before m n v.after (reached from to through));
    words = subst (λ (xs : List Member). HaveWords change xs (v.before ++ n ∷ v.after)) (sym v.whole) (words_between m.thread.id change v.before m n v.after on v.lacks_before v.lacks_after word);
    holders = holders_carried m n ms v (comes_number through) change on passed;
    made = well_made_put m n ms (v.before ++ n ∷ v.after) v refl (record { numbers = comes_numbers through v.made.numbers; place = place }) apart;
  })

  -- ---- words

  -- the word of a thread that goes from one place to another
  way_word : (t : ℕ) (m n : Member) (from to : Option ℕ) → m.thread.id ≡ t → lock_of m.place ≡ from → lock_of n.place ≡ to → IsWay from to →
      lock_of n.place ≡ word_after (word_between t from to) m
  way_word t m n None None number is goes way = absurd way
  way_word t m n None (Some l) number is goes way = goes ∙ sym (word_pointed t l m number)
  way_word t m n (Some k) None number is goes way = goes ∙ sym (word_blocked t m number)
  way_word t m n (Some k) (Some l) number is goes way = goes ∙ ap (λ (x : ℕ). Some x) (sym way) ∙ sym is

  way_on : (t : ℕ) (m : Member) (from to : Option ℕ) → m.thread.id ≡ t → IsOnWordOf m.thread.id (word_between t from to)
  way_on t m None None number = tt
  way_on t m None (Some l) number = sym number
  way_on t m (Some k) None number = sym number
  way_on t m (Some k) (Some l) number = tt

  -- one thread's word after two changes
  word_twice : (first second : Option WordChange) (l m : Member) → Agree first second → m.thread.id ≡ l.thread.id → lock_of m.place ≡ word_after first l →
      word_after second m ≡ word_after (word_then first second) l
  word_twice None None l m agree number is = is
  word_twice (Some x) None l m agree number is = is
  word_twice None (Some (block t)) l m agree number is =
      ap (λ (i : ℕ). if i == t then None else lock_of m.place) number ∙ ap (λ (o : Option ℕ). if is_numbered t l then None else o) is
  word_twice None (Some (point t k)) l m agree number is =
      ap (λ (i : ℕ). if i == t then Some k else lock_of m.place) number ∙ ap (λ (o : Option ℕ). if is_numbered t l then Some k else o) is
  word_twice (Some (block t)) (Some (point u k)) l m agree number is =
      ap (λ (i : ℕ). if i == u then Some k else lock_of m.place) number ∙ ap (λ (o : Option ℕ). if is_numbered u l then Some k else o) is ∙
      ap (λ (v : ℕ). if is_numbered u l then Some k else if is_numbered v l then None else lock_of l.place) agree ∙
      twice (is_numbered u l)
    where
      twice : (d : Bool) → (if d then Some k else if d then None else lock_of l.place) ≡ (if d then Some k else lock_of l.place)
      twice true = refl
      twice false = refl
  word_twice (Some (block t)) (Some (block u)) l m agree number is = absurd agree
  word_twice (Some (point t k)) (Some x) l m agree number is = absurd agree

  words_then : (first second : Option WordChange) (ls ms ns : List Member) → Agree first second → AreTouched w worker e now ls ms →
      HaveWords first ls ms → HaveWords second ms ns → HaveWords (word_then first second) ls ns
  words_then first second [] [] [] agree touched one two = tt
  words_then first second [] [] (n ∷ ns) agree touched one two = absurd two
  words_then first second [] (m ∷ ms) ns agree touched one two = absurd one
  words_then first second (l ∷ ls) [] ns agree touched one two = absurd one
  words_then first second (l ∷ ls) (m ∷ ms) [] agree touched one two = absurd two
  words_then first second (l ∷ ls) (m ∷ ms) (n ∷ ns) agree touched one two = (
    two.0 ∙ word_twice first second l m agree (touched_number w worker e now l m touched.0) one.0,
    words_then first second ls ms ns agree touched.1 one.1 two.1,
  )

  -- the holder of a thread after two changes
  holder_twice : (first second : Option WordChange) (u : ℕ) (old : Option ℕ) → Agree first second →
      holder_after worker second u (holder_after worker first u old) ≡ holder_after worker (word_then first second) u old
  holder_twice None None u old agree = refl
  holder_twice (Some x) None u old agree = refl
  holder_twice None (Some x) u old agree = refl
  holder_twice (Some (block t)) (Some (point v k)) u old agree =
      ap (λ (x : ℕ). if u == v then None else if u == x then Some worker else old) agree ∙ twice (u == v)
    where
      twice : (d : Bool) → (if d then None else if d then Some worker else old) ≡ (if d then None else old)
      twice true = refl
      twice false = refl
  holder_twice (Some (block t)) (Some (block v)) u old agree = absurd agree
  holder_twice (Some (point t k)) (Some x) u old agree = absurd agree

  -- what was done, and then more
  pub done_then : (first second : Option WordChange) (ls ms ns : List Member) → Agree first second → AreDone first ls ms → AreDone second ms ns →
      AreDone (word_then first second) ls ns
  done_then first second ls ms ns agree one two = record {
    touched = all_touched_further w worker e now ls ms ns one.touched two.touched;
    words = words_then first second ls ms ns agree one.touched one.words two.words;
    holders = λ u. two.holders u ∙ ap (holder_after worker second u) (one.holders u) ∙ holder_twice first second u (holder_of ls u) agree;
    made = two.made;
  }

  -- ---- hands

  -- a place within reach that lies under no lock is the worker's hand
  own_hand : (place : Place) → IsActedOn w worker e place → lock_of place ≡ None → hand_of place ≡ Some worker
  own_hand place acted none =
      ⊎_elim
      (λ (under : list_any (λ l. is_under l place) (locks_of w e) ≡ true).
      let found = among_where_under place (locks_of w e) under in absurd (none-some found.0 (sym none ∙ found.1.0)))
      (λ (hand : is_hand_of worker place ≡ true). number_from_test worker (hand_of place) hand)
      (or_cases (list_any (λ l. is_under l place) (locks_of w e)) (is_hand_of worker place) acted)

  -- in whose hand a thread is that goes from one place to another
  way_passed : (t : ℕ) (from to : Place) → IsActedOn w worker e to → IsWay (lock_of from) (lock_of to) → IsPassed (word_between t (lock_of from) (lock_of to)) from to
  way_passed t from to acted way = split (lock_of from) (lock_of to) refl refl way
    where
      split : (k l : Option ℕ) → lock_of from ≡ k → lock_of to ≡ l → IsWay k l → IsPassed (word_between t k l) from to
      split None None is goes way = absurd way
      split None (Some l) is goes way = no_hand_under l to goes
      split (Some k) None is goes way = own_hand to acted goes
      split (Some k) (Some l) is goes way = no_hand_under l to goes ∙ sym (no_hand_under k from is)

  -- in whose hand a thread is that comes to a queue
  queue_passed : (t c : ℕ) (from to : Place) → lock_of to ≡ Some c → IsWay (lock_of from) (Some c) → IsPassed (word_between t (lock_of from) (Some c)) from to
  queue_passed t c from to goes way = split (lock_of from) refl
    where
      split : (k : Option ℕ) → lock_of from ≡ k → IsPassed (word_between t k (Some c)) from to
      split None is = no_hand_under c to goes
      split (Some k) is = no_hand_under c to goes ∙ sym (no_hand_under k from is)

  module _ (c : ℕ) where
    -- what a part needs, by what is known
    abbrev pub Needs : Part → Known → Type 0 → Type 0
    Needs (note t place change) known idle = known t place × IsActedOn w worker e place × IsSoundIn w now change
    Needs (move t from to) known idle =
        known t from × IsActedOn w worker e from × IsActedOn w worker e to × IsWay (lock_of from) (lock_of to) × IsPlace to × ((d : ℕ) → is_on d to ≡ false)
    Needs (insert t from how) known idle = known t from × IsActedOn w worker e from × IsWay (lock_of from) (Some c)
    Needs choose known idle = idle
    Needs p known idle = Unit {0}

    -- that parts have what they need, one after another, and change one thread's word
    abbrev pub Follows : Known → Type 0 → List Part → Type 0
    Follows known idle [] = Unit {0}
    Follows known idle (p ∷ ps) =
        Needs p known idle × Agree (word_of_part c p) (word_of_parts c ps) × Follows (known_after p known) (idle_after c p idle) ps

    -- a side of which this is known
    pub record IsReady (known : Known) (idle : Type 0) (s : Side) : Type 0 where
      pub settings : s.settings ≡ w.settings
      pub made : IsWellMade s.members
      pub index : s.line.ridx < 64
      pub stands : IsKnown known s.members
      pub none : idle → current_of c s.members ≡ None

    -- ---- the parts

    module _ (t : ℕ) (from : Place) (ms : List Member) (made : IsWellMade ms) (at : StandsAt t from ms) where
      abbrev own : Member
      own = at.member

      own_number : own.thread.id ≡ t
      own_number = (has_thread_of t own ms at.found).1

      own_within : Within own.thread.id own ms
      own_within = within_found (is_numbered t) ms own made at.found

      -- a record changes
      note_done : (change : RecordChange) → IsActedOn w worker e from → IsSoundIn w now change → AreDone None ms (with_change w.settings now t change ms)
      note_done change acted sound =
          let n : Member = changed_by w.settings now change own in
          let here = subst (IsActedOn w worker e) (sym at.place_is) acted in
          subst (λ (u : ℕ). AreDone None ms (with_change w.settings now u change ms)) own_number
          (one_done None own n ms (with_change w.settings now own.thread.id change ms) own_within (recorded_between w.settings now change own ms own_within) here here
          (comes_by_one w now change own.thread sound) tt refl refl own_within.made.place (apart_from_kept own n ms own_within (change_number w.settings now change own.thread) refl refl))

      -- a thread goes to a place in no queue
      move_done : (to : Place) → IsActedOn w worker e from → IsActedOn w worker e to → IsWay (lock_of from) (lock_of to) → IsPlace to →
          ((d : ℕ) → is_on d to ≡ false) → AreDone (word_between t (lock_of from) (lock_of to)) ms (moved_to t to (pos 0) ms)
      move_done to acted goes way place off =
          let n : Member = moved_member to (pos 0) own in
          subst (λ (u : ℕ). AreDone (word_between t (lock_of from) (lock_of to)) ms (moved_to u to (pos 0) ms)) own_number
          (one_done (word_between t (lock_of from) (lock_of to)) own n ms (moved_to own.thread.id to (pos 0) ms) own_within (moved_between own ms own_within to (pos 0))
          (subst (IsActedOn w worker e) (sym at.place_is) acted) goes (as_it_was own.thread) (way_on t own (lock_of from) (lock_of to) own_number)
          (way_word t own n (lock_of from) (lock_of to) own_number (ap lock_of at.place_is) refl way)
          (subst (λ (p : Place). IsPassed (word_between t (lock_of from) (lock_of to)) p to) (sym at.place_is) (way_passed t from to goes way)) place (apart_from_off own n ms own_within refl off))

      -- where it ran, none runs then
      move_idle : (to : Place) → ((d : ℕ) → is_on d to ≡ false) → from ≡ Running c → current_of c (moved_to t to (pos 0) ms) ≡ None
      move_idle to off ran =
          ap (λ (u : ℕ). current_of c (moved_to u to (pos 0) ms)) (sym own_number) ∙ ap (current_of c) (moved_between own ms own_within to (pos 0)) ∙
          current_of-between c own (moved_member to (pos 0) own) ms own_within (ap (runs_on c) (at.place_is ∙ ran) ∙ eq-eqb c c refl) (or_parts (runs_on c to) (waits_on c to) (off c)).0

    -- ---- a queue

    module _ (t : ℕ) (from : Place) (how : Insertion) (s : Side) (made : IsWellMade s.members) (at : StandsAt t from s.members) where
      abbrev one : Member
      one = at.member

      one_number : one.thread.id ≡ t
      one_number = (has_thread_of t one s.members at.found).1

      one_within : Within one.thread.id one s.members
      one_within = within_found (is_numbered t) s.members one made at.found

      abbrev queued_one : Member
      queued_one = queued_member how c s.line (one_within.before ++ one_within.after) one

      -- the list with the thread queued
      inserted_between : (queued how c t s).members ≡ one_within.before ++ queued_one ∷ one_within.after
      inserted_between =
          ap (λ (o : Option Member). (with_queued how c o s).members) at.found ∙
          ap (λ (ns : List Member). moved_to one.thread.id (place_of_insertion how c s.line one.thread.priority) (order_of_insertion how c s.line one.thread.priority ns) s.members)
          (others_within one.thread.id one s.members one_within) ∙
          moved_between one s.members one_within (place_of_insertion how c s.line one.thread.priority)
          (order_of_insertion how c s.line one.thread.priority (one_within.before ++ one_within.after))

      -- a thread is queued
      insert_done : is_among (locks_of w e) c ≡ true → s.line.ridx < 64 → IsActedOn w worker e from → IsWay (lock_of from) (Some c) →
          AreDone (word_between t (lock_of from) (Some c)) s.members (queued how c t s).members
      insert_done among index acted way =
          let p : ℕ = one.thread.priority in
          one_done (word_between t (lock_of from) (Some c)) one queued_one s.members (queued how c t s).members one_within inserted_between
          (subst (IsActedOn w worker e) (sym at.place_is) acted) (reached_by_lock w worker e c queued_one.place among refl) (as_it_was one.thread)
          (way_on t one (lock_of from) (Some c) one_number) (way_word t one queued_one (lock_of from) (Some c) one_number (ap lock_of at.place_is) refl way)
          (subst (λ (p : Place). IsPassed (word_between t (lock_of from) (Some c)) p queued_one.place) (sym at.place_is) (queue_passed t c from queued_one.place refl way))
          (bucket_small (kind_at p) how s.line p one_within.made.numbers.priority index)
          (apart_from_queued how c (kind_at p) (bucket_of (kind_at p) how s.line p) one queued_one s.members one_within refl refl refl)

      -- where it ran, none runs then
      insert_idle : from ≡ Running c → current_of c (queued how c t s).members ≡ None
      insert_idle ran =
          ap (current_of c) inserted_between ∙
          current_of-between c one queued_one s.members one_within (ap (runs_on c) (at.place_is ∙ ran) ∙ eq-eqb c c refl) refl

    -- the next thread is chosen, and runs
    choose_done : (s : Side) → is_among (locks_of w e) c ≡ true → IsWellMade s.members → current_of c s.members ≡ None →
        AreDone None s.members (choosing_next c now s).0.members
    choose_done s among made none = split (choice_of c s.line.ridx s.members) refl
      where
        split : (o : Option Member) → choice_of c s.line.ridx s.members ≡ o → AreDone None s.members (running_chosen c now o s).0.members
        split None found = none_done s.members made
        split (Some m) found =
            let stands = choice_stands c s.line.ridx m s.members found in
            let v : Within m.thread.id m s.members = within_has m s.members made stands.0 in
            let n : Member = changed_by s.settings now runs (moved_member (Running c) (pos 0) m) in
            one_done None m n s.members (running_chosen c now (Some m) s).0.members v (moved_recorded_between s.settings now runs m s.members v (Running c) (pos 0))
            (reached_by_lock w worker e c m.place among (lock_where_waits c m.place stands.1)) (reached_by_lock w worker e c n.place among refl)
            (comes_by_one w now runs m.thread tt) tt (sym (lock_where_waits c m.place stands.1)) (sym (no_hand_under c m.place (lock_where_waits c m.place stands.1))) tt (apart_from_running c m n s.members v refl refl none)

    -- ---- what is known, after a change of a record

    -- none runs after it where none ran
    note_idle : (settings : Settings) (t : ℕ) (change : RecordChange) (ms : List Member) → current_of c ms ≡ None → current_of c (with_change settings now t change ms) ≡ None
    note_idle settings t change ms none =
        find_mapped (λ x. runs_on c x.place) (λ x. if is_numbered t x then changed_by settings now change x else x)
        (λ x. cond_both (is_numbered t x) (changed_by settings now change x) x (λ z. runs_on c z.place ≡ runs_on c x.place) (λ here. refl) (λ other. refl)) ms ∙
        ap (option_map (λ x. if is_numbered t x then changed_by settings now change x else x)) none

    -- ---- one lemma a part

    -- a side that differs in its numbers alone is ready
    same_ready : (known : Known) (idle : Type 0) (s n : Side) → IsReady known idle s → n.settings ≡ s.settings → n.members ≡ s.members → (s.line.ridx < 64 → n.line.ridx < 64) →
        IsReady known idle n
    same_ready known idle s n ready settings members index = record {
      settings = settings ∙ ready.settings;
      made = subst IsWellMade (sym members) ready.made;
      index = index ready.index;
      stands = λ t place is. subst (StandsAt t place) (sym members) (ready.stands t place is);
      none = λ is. ap (current_of c) members ∙ ready.none is;
    }

    pub record IsPartDone (p : Part) (known : Known) (idle : Type 0) (s n : Side) : Type 0 where
      pub done : AreDone (word_of_part c p) s.members n.members
      pub ready : IsReady (known_after p known) (idle_after c p idle) n

    pub part_step : (p : Part) (known : Known) (idle : Type 0) (s : Side) (into : Option ℕ) → is_among (locks_of w e) c ≡ true → IsReady known idle s → Needs p known idle →
        IsPartDone p known idle s (part_done c now p (s, into)).0
    part_step (note t place change) known idle s into among ready needs =
        let done : AreDone None s.members (with_change s.settings now t change s.members) =
        subst (λ (x : Settings). AreDone None s.members (with_change x now t change s.members)) (sym ready.settings)
        (note_done t place s.members ready.made (ready.stands t place needs.0) change needs.1 needs.2) in record {
          done = done;
          ready = record {
            settings = ready.settings;
            made = done.made;
            index = ready.index;
            stands = known_then c now (note t place change) known s into ready.stands tt;
            none = λ is. note_idle s.settings t change s.members (ready.none is);
          };
        }
    part_step (move t from to) known idle s into among ready needs =
        let at = ready.stands t from needs.0 in
        let done = move_done t from s.members ready.made at to needs.1 needs.2 needs.3 needs.4 needs.5 in record {
          done = done;
          ready = record {
            settings = ready.settings;
            made = done.made;
            index = (part_kept c now (move t from to) s into).index ready.index;
            stands = known_then c now (move t from to) known s into ready.stands needs.0;
            none = λ ran. move_idle t from s.members ready.made at to needs.5 ran;
          };
        }
    part_step (insert t from how) known idle s into among ready needs =
        let at = ready.stands t from needs.0 in
        let out : Side = leaving from c t s in
        let index : out.line.ridx < 64 = after_leaving_within from c s.line (others t s.members) ready.index in
        let done = insert_done t from how out ready.made at among index needs.1 needs.2 in
        let kept = part_kept c now (insert t from how) s into in record {
          done = done;
          ready = record {
            settings = kept.settings_are ∙ ready.settings;
            made = done.made;
            index = kept.index ready.index;
            stands = λ u place is. absurd is;
            none = λ ran. insert_idle t from how out ready.made at ran;
          };
        }
    part_step choose known idle s into among ready needs =
        let done = choose_done s among ready.made (ready.none needs) in
        let kept = part_kept c now choose s into in record {
          done = done;
          ready = record {
            settings = kept.settings_are ∙ ready.settings;
            made = done.made;
            index = kept.index ready.index;
            stands = λ u place is. absurd is;
            none = λ is. absurd is;
          };
        }
    part_step p known idle s into among ready needs =
        record { done = none_done s.members ready.made; ready = same_ready known idle s (part_done c now p (s, into)).0 ready refl refl (part_kept c now p s into).index }

    -- ---- and one induction

    pub record ArePartsDone (ps : List Part) (known : Known) (idle : Type 0) (s n : Side) : Type 0 where
      pub done : AreDone (word_of_parts c ps) s.members n.members
      pub ready : IsReady (known_after_all ps known) (idle_after_all c ps idle) n

    pub parts_follow : (ps : List Part) (known : Known) (idle : Type 0) (s : Side) (into : Option ℕ) → is_among (locks_of w e) c ≡ true → IsReady known idle s →
        Follows known idle ps → ArePartsDone ps known idle s (parts_done c now ps (s, into)).0
    parts_follow [] known idle s into among ready follows = record { done = none_done s.members ready.made; ready = ready }
    parts_follow (p ∷ ps) known idle s into among ready follows =
        let one = part_step p known idle s into among ready follows.0 in
        let next = part_done c now p (s, into) in
        let rest = parts_follow ps (known_after p known) (idle_after c p idle) next.0 next.1 among one.ready follows.2 in record {
          done = done_then (word_of_part c p) (word_of_parts c ps) s.members next.0.members (parts_done c now ps next).0.members follows.1 one.done rest.done;
          ready = rest.ready;
        }

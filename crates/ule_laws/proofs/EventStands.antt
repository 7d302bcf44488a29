-- An event on the value under its lock and on the worker's hand is its action on the world that they stand for: one theorem
-- for all events, and a line or two for each.
use Rattle.std.proofs.Common.{◌≡◌, ℕ, ◌+◌, ◌%◌, ◌<◌, Bool, true, false, ◌⊎◌, inl, inr, List, [], ◌∷◌, length, Option, Some, None, if◌then◌else◌, refl, sym, ◌∙◌, ap, subst, arith}
use Rattle.std.specs.Option.{option_map}
use Rattle.std.specs.Prelude.{max, min, nat_lt}
use Rattle.std.proofs.lemmas.Bool.{cond-true, eq-eqb, ltb-true}
use Rattle.std.proofs.lemmas.List.{get_or-set_same, length-set}
use Rattle.std.proofs.lemmas.Option.{none-some, same_Some}
use Rattle.ule_score.specs.Changes.{RecordChange, after_change}
use Rattle.ule_score.specs.declared.place.Place.{Place}
use Rattle.ule_score.specs.declared.place.Place.TheVariants.{Running, Queued, Asleep, Unborn, Gone, Hand}
use Rattle.ule_score.specs.declared.record.Change.{Change}
use Rattle.ule_score.specs.declared.record.Change.TheVariants as change
use Rattle.ule_score.specs.declared.record.CpuLine.{CpuLine}
use Rattle.ule_score.specs.declared.record.Settings.{Settings}
use Rattle.ule_score.specs.declared.record.ThreadRecord.{ThreadRecord}
use Rattle.ule_sleep.specs.Chain.{ChainValue, standing_in}
use Rattle.ule_sleep.specs.Limbo.{LimboValue}
use Rattle.ule_threads.specs.declared.standing.Standing.{Standing}
use Rattle.ule_types.specs.Commands.{is_among}
use Rattle.ule_types.specs.declared.event.Event.{Event}
use Rattle.ule_types.specs.declared.event.Event.TheVariants.{Tick, Switch, Drop, Bed, Wake, Look, Land, Move, Lend, Unlend, Renice, Hatch, Fork, Return, Exit, Bury, Inherit}
use Rattle.ule_types.specs.declared.event.Reply.{Reply}
use Rattle.ule_types.specs.declared.event.Reply.TheVariants.{Bedded, Buried, Hatched, Returned, Unmarked}
use Rattle.ule_model.specs.Action.{Action, action_done, answers, parts_done}
use Rattle.ule_model.specs.Actions.{Seen, action_of, change_action, change_action_at, fork_action, give_way_action, go_action, land_action, leave_action, note_action, requeue_action, tick_action, unborn_action, wake_action, wake_action_at}
use Rattle.ule_model.specs.ActionStep.{named_by, named_held, on_chain, on_limbo, on_queue, seen_in, seen_off, seen_on}
use Rattle.ule_model.specs.ActionValue.{HandAndCpu, HandAndSlots, action_in_slots, action_on_cpu, parts_in_slots, parts_on_cpu}
use Rattle.ule_model.specs.Conditions.{HasEmptyHand, IsPossible}
use Rattle.ule_model.specs.CpuNumbers.{low_priority_in}
use Rattle.ule_model.specs.CpuValue.{CpuValue, StandsFor, current_in}
use Rattle.ule_model.specs.Events.{handling, lock_of_thread, locking, locks_of}
use Rattle.ule_model.specs.Landing.{current_record}
use Rattle.ule_model.specs.LockConditions.{IsOnCpu}
use Rattle.ule_model.specs.LockValue.{LockValue, chain, found_in, limbo, nothing, queue}
use Rattle.ule_model.specs.Places.{is_hand_of, is_number, is_under, lock_of}
use Rattle.ule_model.specs.Actions.{unborn_answer}
use Rattle.ule_model.specs.Step.{Stepped, lock_step}
use Rattle.ule_model.specs.Steal.{given_in}
use Rattle.ule_model.specs.Switch.{is_preemption, is_unasked}
use Rattle.ule_model.specs.WellMade.{IsWellMade, IsWellMadeWorld}
use Rattle.ule_model.specs.World.{Member, Side, World, current_of, fresh_line, on_side, side_of, standing_of, thread_of, with_side}
use Rattle.ule_model.specs.WorldValue.{IsAsleepOn, IsChainOf, IsLimboOf, IsQueueOf, Shows, StandsUnder, WorldValue, held_by}
use Rattle.ule_members.proofs.ActionFits.{IsUnder, event_fits, sought_under}
use Rattle.ule_members.proofs.Membership.{has_thread_of}
use Rattle.ule_members.proofs.PartDone.{IsReady, Known, StandsAt, parts_follow}
use Rattle.ule_members.proofs.PlaceFinds.{thread_at_within}
use Rattle.ule_members.proofs.Reach.{IsHeld, held_found, place_from_hand, takes_itself, unborn_found}
use Rattle.ule_members.proofs.Rest.{index_of}
use Rattle.ule_members.proofs.Within.{Within, within_thread}
use Rattle.ule_laws.proofs.CpuNumbers.{current_in_is, low_priority_stands, movable_stands}
use Rattle.ule_laws.proofs.GivenStands.{given_stands}
use Rattle.ule_laws.proofs.PartStands.{ArePartsAlike, FollowsHere, hand_is, parts_alike}
use Rattle.ule_laws.proofs.SeekLaws.{found_stands}
use Rattle.ule_laws.proofs.SlotStands.{AreAlikeUnder, AreHeldUnder, AreSlots, FollowsUnder, GoesUnder, IsStill, chain_slots, is_chain, is_limbo, limbo_slots, parts_under_alike}
use Rattle.ule_laws.proofs.StepFrom.{chain_at, empty_hand, limbo_at, queue_at, two_locks}
use Rattle.ule_laws.proofs.WorldLaws.{IsMadeFor, at_some}

-- ---- what is seen on a CPU

-- an event sees on a value what it sees on the side that the value stands for
pub seen_alike : (worker now : ℕ) (named : Option Member) (v : CpuValue) (s : Side) → StandsFor v s → IsWellMade s.members →
    seen_in worker now (option_map standing_of named) v ≡ seen_on v.cpu worker now named s
seen_alike worker now named v s stands made =
    let of_value = seen_in worker now (option_map standing_of named) v in
    let of_side = seen_on v.cpu worker now named s in
    ap (λ (x : Settings). record of_value { settings = x }) stands.settings ∙
    ap (λ (x : CpuLine). record of_value { settings = s.settings; line = x }) stands.line ∙
    ap (λ (x : ℕ). record of_value { settings = s.settings; line = s.line; load = x }) stands.load ∙
    ap (λ (x : ℕ). record of_side { movable = x; lowpri = low_priority_in v; current = current_in v; given = given_in v }) (movable_stands v s stands made) ∙
    ap (λ (x : ℕ). record of_side { lowpri = x; current = current_in v; given = given_in v }) (low_priority_stands v s stands made) ∙
    ap (λ (x : Option ThreadRecord). record of_side { current = x; given = given_in v }) (current_in_is v s stands made) ∙
    ap (λ (x : Option Standing). record of_side { given = x }) (given_stands v s stands made)

-- ---- where a value stands

-- the side of a CPU in a world that was given it
side_own : (c : ℕ) (s : Side) (w : World) → c < length w.lines → s.settings ≡ w.settings → side_of c (with_side c s w) ≡ s
side_own c s w within settings =
    ap (λ (line : CpuLine). record { settings = w.settings; members = s.members; line = line; balance_word = s.balance_word }) (get_or-set_same w.lines c s.line fresh_line within) ∙
    ap (λ x. record { settings = x; members = s.members; line = s.line; balance_word = s.balance_word }) (sym settings)

-- what stands for CPU c's side stands under its lock once the world has that side
pub queue_stands : (w : World) (c : ℕ) (v new : CpuValue) (made : Side) → IsQueueOf w c v → StandsFor new made → new.cpu ≡ v.cpu → made.settings ≡ w.settings →
    IsQueueOf (with_side c made w) c new
queue_stands w c v new made is stands cpu settings = record {
  cpu = cpu ∙ is.cpu;
  there = subst (λ (i : ℕ). c < i) (sym (length-set w.lines c made.line)) is.there;
  stands = subst (StandsFor new) (sym (side_own c made w is.there settings)) stands;
}

-- a list of one lock has that lock
pub same_lock : (a b : ℕ) → a ∷ [] ≡ b ∷ [] → a ≡ b
same_lock a b same = cc

-- a place under the lock of a CPU is on it
pub on_from_lock : (c : ℕ) (place : Place) → c < 16 → lock_of place ≡ Some c → IsOnCpu c place
on_from_lock c (Running d) few lock = same_Some d c lock
on_from_lock c (Queued d k b) few lock = same_Some d c lock
on_from_lock c (Asleep channel) few lock = absurd (let e = same_Some (16 + channel % 8) c lock in omega arith)
on_from_lock c Unborn few lock = absurd (let e = same_Some 24 c lock in omega arith)
on_from_lock c Gone few lock = absurd (let e = same_Some 24 c lock in omega arith)
on_from_lock c (Hand h) few lock = absurd (none-some c lock)

-- a place where threads sleep, or are unborn or gone
abbrev pub IsOffCpus : Place → Type 0
IsOffCpus (Running c) = ⊥
IsOffCpus (Queued c k b) = ⊥
IsOffCpus (Asleep channel) = Unit {0}
IsOffCpus Unborn = Unit {0}
IsOffCpus Gone = Unit {0}
IsOffCpus (Hand w) = ⊥

module _ (v : WorldValue) (w : World) (worker now : ℕ) (shows : Shows v w) where
  -- a world that is shown is well made
  world_made : IsWellMadeWorld w
  world_made = record { members = shows.made; indexes = shows.indexes }

  -- the event names on the value and the hand whom it names in the world
  abbrev pub NamesAlike : Event → LockValue → Type 0
  NamesAlike e value = named_held (locking e) (handling e) worker value (held_by v worker) ≡ option_map standing_of (named_by w e)

  -- the action of an event as the world shows it, under lock l
  abbrev pub action_at : Event → ℕ → Action
  action_at e l = action_of e (seen_on l worker now (named_by w e) (side_of l w))

  -- the world after it, and the reply
  abbrev under_lock : Event → ℕ → World × Reply
  under_lock e l = on_side l (action_done l now (action_at e l)) w

  -- this was made of the value under lock l and of the hand, as the world has it then
  abbrev IsGivenBy : Event → ℕ → Stepped → Type 0
  IsGivenBy e l made = IsMadeFor (under_lock e l).0 worker l (under_lock e l).1 made

  -- what an event makes of the value under lock l and of the hand is what its action makes of the world there
  abbrev pub IsMadeBy : Event → ℕ → LockValue → Type 0
  IsMadeBy e l value = IsGivenBy e l (lock_step v.settings worker e now (held_by v worker) value)

  -- that the worker's hand is empty
  abbrev pub IsEmpty : Type 0
  IsEmpty = held_by v worker ≡ None

  -- it is where the world has it so
  hand_empty : HasEmptyHand w worker → IsEmpty
  hand_empty empty = empty_hand w worker (held_by v worker) shows.made (shows.hands worker) empty

  -- what is known before an event
  abbrev Truth : Known
  Truth = λ t place. StandsAt t place w.members

  -- the side of each lock is known so
  ready : (l : ℕ) (e : Event) → IsReady w worker e now l Truth (current_of l w.members ≡ None) (side_of l w)
  ready l e = record { settings = refl; made = shows.made; index = index_of w l shows.indexes; stands = λ t place is. is; none = λ is. is }

  -- the one lock of an event is among its locks
  among : (e : Event) (l : ℕ) → locks_of w e ≡ l ∷ [] → is_among (locks_of w e) l ≡ true
  among e l locks = ap (λ (ls : List ℕ). is_among ls l) locks ∙ takes_itself l

  -- an event on a CPU
  made_on_cpu : (e : Event) (c : ℕ) (u : CpuValue) → IsPossible w worker e now → locks_of w e ≡ c ∷ [] → IsQueueOf w c u → NamesAlike e (queue u) →
      FollowsHere c worker (Unit {0}) IsEmpty (action_at e c).parts → IsMadeBy e c (queue u)
  made_on_cpu e c u possible locks is names here =
      subst (λ (named : Option Standing). IsGivenBy e c (on_queue (action_on_cpu now (action_of e (seen_in worker now named u)) h))) (sym names)
      (subst (λ (x : Seen). IsGivenBy e c (on_queue (action_on_cpu now (action_of e x) h))) (sym (seen_alike worker now (named_by w e) u s is.stands shows.made ∙ ap (λ (x : ℕ). seen_on x worker now (named_by w e) s) is.cpu))
      (record { value = queue_stands w c u both_made.0.value meant.0 is both.held.stands both.cpu settings; hand = both.held.hand tt; answer = ap a.reply both.answer }))
    where
      s : Side
      s = side_of c w

      a : Action
      a = action_at e c

      h : HandAndCpu
      h = record { hand = held_by v worker; value = u }

      meant : Side × Option ℕ
      meant = parts_done c now a.parts (s, None)

      both_made : HandAndCpu × Option ℕ
      both_made = parts_on_cpu now a.parts (h, None)

      settings : meant.0.settings ≡ w.settings
      settings = (parts_follow w worker e now c a.parts Truth (current_of c w.members ≡ None) s None (among e c locks) (ready c e) (event_fits w worker now world_made e possible c (among e c locks)).follows).ready.settings

      both : ArePartsAlike worker (Unit {0}) ⊥ h both_made meant
      both =
          parts_alike w worker e now (Unit {0}) a.parts c Truth (current_of c w.members ≡ None) IsEmpty h s None (among e c locks) is.cpu (ready c e)
          (event_fits w worker now world_made e possible c (among e c locks)).follows here (record { stands = is.stands; hand = λ has. shows.hands worker }) (λ is. is)

  -- an event on the threads with places under the lock of a sleep chain or of limbo, of each of which this is so
  module _ (l : ℕ) (P : Standing → Type 0) (keeps : (x : Standing) (r : ThreadRecord) → P x → P (record x { thread = r })) (slots : List (Option Standing)) (are : AreSlots l P w.members slots) where
    -- what it makes of them and of the hand, where it sees this thread
    abbrev made_of_slots : Event → Option Standing → HandAndSlots × Reply
    made_of_slots e named = action_in_slots v.settings now (action_of e (seen_off worker now v.settings named)) (record { hand = held_by v worker; slots = slots })

    -- is what its action makes of the side
    pub record IsMadeOfSlots (e : Event) (made : HandAndSlots × Reply) : Type 0 where
      pub held : AreHeldUnder l worker P made.0 (under_lock e l).0.members
      pub answer : made.1 ≡ (under_lock e l).1

    pub made_in_slots : (e : Event) → IsPossible w worker e now → locks_of w e ≡ l ∷ [] → action_of e (seen_off worker now w.settings (option_map standing_of (named_by w e))) ≡ action_at e l →
        FollowsUnder l worker P IsEmpty (action_at e l).parts → IsMadeOfSlots e (made_of_slots e (option_map standing_of (named_by w e)))
    made_in_slots e possible locks same here =
        subst (λ (x : Settings). IsMadeOfSlots e (action_in_slots v.settings now (action_of e (seen_off worker now x (option_map standing_of (named_by w e)))) h)) (sym shows.settings)
        (subst (λ (x : Action). IsMadeOfSlots e (action_in_slots v.settings now x h)) (sym same) (record { held = both.held; answer = ap a.reply both.answer }))
      where
        a : Action
        a = action_at e l

        h : HandAndSlots
        h = record { hand = held_by v worker; slots = slots }

        both : AreAlikeUnder l worker P ⊥ (parts_in_slots v.settings now a.parts h) None (parts_done l now a.parts (side_of l w, None))
        both =
            parts_under_alike w worker e now l P keeps a.parts Truth (current_of l w.members ≡ None) IsEmpty h (side_of l w) None v.settings shows.settings (among e l locks) (ready l e)
            (event_fits w worker now world_made e possible l (among e l locks)).follows here (record { slots = are; hand = shows.hands worker }) (λ is. is)

  -- so on a sleep chain
  made_on_chain : (e : Event) (l : ℕ) (c : ChainValue) → IsPossible w worker e now → locks_of w e ≡ l ∷ [] → IsChainOf w l c → NamesAlike e (chain c) →
      action_of e (seen_off worker now w.settings (option_map standing_of (named_by w e))) ≡ action_at e l → FollowsUnder l worker (IsAsleepOn c.number) IsEmpty (action_at e l).parts → IsMadeBy e l (chain c)
  made_on_chain e l c possible locks is names same here =
      subst (λ (named : Option Standing). IsGivenBy e l (on_chain c (action_in_slots v.settings now (action_of e (seen_off worker now v.settings named)) (record { hand = held_by v worker; slots = c.slots })))) (sym names)
      (let made = made_in_slots l (IsAsleepOn c.number) (λ x r so. record { channel = so.channel; place = so.place; chain = so.chain }) c.slots
      (chain_slots w l c is) e possible locks same here in record {
        value = is_chain w (under_lock e l).0 l c _ is made.held.slots;
        hand = made.held.hand;
        answer = made.answer;
      })

  -- and in limbo
  made_in_limbo : (e : Event) (l : ℕ) (c : LimboValue) → IsPossible w worker e now → locks_of w e ≡ l ∷ [] → IsLimboOf w l c → NamesAlike e (limbo c) →
      action_of e (seen_off worker now w.settings (option_map standing_of (named_by w e))) ≡ action_at e l → FollowsUnder l worker IsStill IsEmpty (action_at e l).parts → IsMadeBy e l (limbo c)
  made_in_limbo e l c possible locks is names same here =
      subst (λ (named : Option Standing). IsGivenBy e l (on_limbo c (action_in_slots v.settings now (action_of e (seen_off worker now v.settings named)) (record { hand = held_by v worker; slots = c.slots })))) (sym names)
      (let made = made_in_slots l IsStill (λ x r so. so) c.slots (limbo_slots w l c is) e possible locks same here in record {
        value = is_limbo w (under_lock e l).0 l c _ is made.held.slots;
        hand = made.held.hand;
        answer = made.answer;
      })

  -- ---- whom an event names

  -- the thread in the worker's hand
  held_named : (t : ℕ) → IsHeld w.members t worker → option_map (λ r. record { thread = r; place = Hand worker }) (held_by v worker) ≡ option_map standing_of (thread_of t w.members)
  held_named t h =
      let m = h.member in
      let place : m.place ≡ Hand worker = place_from_hand worker m.place h.hand in
      ap (option_map (λ (r : ThreadRecord). record { thread = r; place = Hand worker }))
      (hand_is worker m w.members (held_by v worker) (within_of t m h.found) (ap (is_hand_of worker) place ∙ eq-eqb worker worker refl) (shows.hands worker)) ∙
      ap (λ (p : Place). Some (record { thread = m.thread; place = p })) (sym place) ∙ ap (option_map standing_of) (sym h.found)
    where
      within_of : (t : ℕ) (m : Member) → thread_of t w.members ≡ Some m → Within m.thread.id m w.members
      within_of t m found = subst (λ (u : ℕ). Within u m w.members) (sym (has_thread_of t m w.members found).1) (within_thread t w.members m shows.made found)

  -- a thread that stands under a lock is found there with its place
  pub under_named : (t l : ℕ) (value : LockValue) → StandsUnder w l value → IsUnder w t l → found_in value t ≡ option_map standing_of (thread_of t w.members)
  under_named t l value stands is =
      found_stands w l t value shows.made shows.cpus stands ∙
      ap (option_map standing_of)
      (thread_at_within (is_under l) t is.member w.members (within_thread t w.members is.member shows.made is.found) ∙
      cond-true (is_under l is.member.place) (Some is.member) None (ap (is_number l) is.under ∙ eq-eqb l l refl) ∙ sym is.found)

  -- ---- the kinds of locks

  -- an event on CPU c
  of_cpu : (e : Event) (c l : ℕ) → IsPossible w worker e now → c < length w.lines → locks_of w e ≡ c ∷ [] → locks_of w e ≡ l ∷ [] → (value : LockValue) → StandsUnder w l value →
      ((u : CpuValue) → NamesAlike e (queue u)) → FollowsHere c worker (Unit {0}) IsEmpty (action_at e c).parts → IsMadeBy e l value
  of_cpu e c l possible below own locks value stands names here =
      subst (λ (k : ℕ). StandsUnder w k value → IsMadeBy e k value) (same_lock c l (sym own ∙ locks))
      (λ stands. let q = queue_at w c value below shows.cpus stands in
      subst (IsMadeBy e c) (sym q.1) (made_on_cpu e c q.0 possible own q.2 (names q.0) here)) stands

  -- an event in limbo
  of_limbo : (e : Event) (l : ℕ) → IsPossible w worker e now → locks_of w e ≡ 24 ∷ [] → locks_of w e ≡ l ∷ [] → (value : LockValue) → StandsUnder w l value → ((c : LimboValue) → IsLimboOf w 24 c → NamesAlike e (limbo c)) →
      action_of e (seen_off worker now w.settings (option_map standing_of (named_by w e))) ≡ action_at e 24 → FollowsUnder 24 worker IsStill IsEmpty (action_at e 24).parts → IsMadeBy e l value
  of_limbo e l possible own locks value stands names same here =
      subst (λ (k : ℕ). StandsUnder w k value → IsMadeBy e k value) (same_lock 24 l (sym own ∙ locks))
      (λ stands. let q = limbo_at w value shows.cpus stands in
      subst (IsMadeBy e 24) (sym q.1) (made_in_limbo e 24 q.0 possible own q.2 (names q.0 q.2) same here)) stands

  -- a thread goes between the hand and a place under lock l
  goes_under : (l t : ℕ) (P : Standing → Type 0) (from to : Place) (reply : Reply) (m : Member) → thread_of t w.members ≡ Some m → m.place ≡ from → GoesUnder l worker P IsEmpty from to →
      FollowsUnder l worker P IsEmpty (go_action t to reply (option_map standing_of (thread_of t w.members))).parts
  goes_under l t P from to reply m found place goes =
      subst (λ (o : Option Member). FollowsUnder l worker P IsEmpty (go_action t to reply (option_map standing_of o)).parts) (sym found)
      (subst (λ (p : Place). GoesUnder l worker P IsEmpty p to) (sym place) goes, tt)

  -- an event that seeks thread t, and acts on it by its place and its record
  module _ (e : Event) (t : ℕ) (act : Place → ThreadRecord → Seen → Action) (acts : (at : Seen) (x : Standing) → at.named ≡ Some x → action_of e at ≡ act x.place x.thread at)
      (named : named_by w e ≡ thread_of t w.members) (names : (value : LockValue) → found_in value t ≡ option_map standing_of (thread_of t w.members) → NamesAlike e value)
      (here : (l : ℕ) (p : Place) (r : ThreadRecord) (at : Seen) → IsOnCpu l p → FollowsHere l worker (Unit {0}) IsEmpty (act p r at).parts)
      (under : (l : ℕ) (P : Standing → Type 0) (p : Place) (r : ThreadRecord) (at : Seen) → at.worker ≡ worker → IsOffCpus p → lock_of p ≡ Some l → FollowsUnder l worker P IsEmpty (act p r at).parts)
      (alike : (p : Place) (r : ThreadRecord) (at to : Seen) → IsOffCpus p → at.worker ≡ to.worker → at.now ≡ to.now → at.settings ≡ to.settings → act p r at ≡ act p r to) where
    -- on each kind of lock
    of_sought : (l : ℕ) → IsPossible w worker e now → locks_of w e ≡ l ∷ [] → IsUnder w t l → (value : LockValue) → StandsUnder w l value → IsMadeBy e l value
    of_sought l possible locks is value stands = by_kind value stands (under_named t l value stands is)
      where
        m : Member
        m = is.member

        sees : option_map standing_of (named_by w e) ≡ Some (standing_of m)
        sees = ap (option_map standing_of) (named ∙ is.found)

        at : Seen
        at = seen_on l worker now (named_by w e) (side_of l w)

        off : Seen
        off = seen_off worker now w.settings (option_map standing_of (named_by w e))

        action_is : act m.place m.thread at ≡ action_at e l
        action_is = sym (acts at (standing_of m) sees)

        same : IsOffCpus m.place → action_of e off ≡ action_at e l
        same away = acts off (standing_of m) sees ∙ alike m.place m.thread off at away refl refl refl ∙ action_is

        follows : (P : Standing → Type 0) → IsOffCpus m.place → FollowsUnder l worker P IsEmpty (action_at e l).parts
        follows P away = subst (λ (a : Action). FollowsUnder l worker P IsEmpty a.parts) action_is (under l P m.place m.thread at refl away is.under)

        still_off : (p : Place) → (p ≡ Unborn) ⊎ (p ≡ Gone) → IsOffCpus p
        still_off p (inl unborn) = subst IsOffCpus (sym unborn) tt
        still_off p (inr gone) = subst IsOffCpus (sym gone) tt

        by_kind : (value : LockValue) → StandsUnder w l value → found_in value t ≡ option_map standing_of (thread_of t w.members) → IsMadeBy e l value
        by_kind (queue u) stands finds =
            made_on_cpu e l u possible locks stands (names (queue u) finds)
            (subst (λ (a : Action). FollowsHere l worker (Unit {0}) IsEmpty a.parts) action_is
            (here l m.place m.thread at (on_from_lock l m.place (let below = stands.there in let few = shows.cpus in omega arith) is.under)))
        by_kind (chain c) stands finds =
            let asleep = at_some (IsAsleepOn c.number) (standing_in c.slots t) (standing_of m) (stands.asleep t) (finds ∙ ap (option_map standing_of) is.found) in
            let away = subst IsOffCpus (sym asleep.place) tt in
            made_on_chain e l c possible locks stands (names (chain c) finds) (same away) (follows (IsAsleepOn c.number) away)
        by_kind (limbo c) stands finds =
            let away = still_off m.place (at_some IsStill (standing_in c.slots t) (standing_of m) (stands.still t) (finds ∙ ap (option_map standing_of) is.found)) in
            made_in_limbo e l c possible locks stands (names (limbo c) finds) (same away) (follows IsStill away)
        by_kind nothing stands finds = absurd (none-some (standing_of m) (finds ∙ ap (option_map standing_of) is.found))

  -- ---- what the parts of each event need

  -- a tick notes the current thread on the CPU
  tick_here : (c : ℕ) (at : Seen) (o : Option ThreadRecord) → at.cpu ≡ c → FollowsHere c worker (Unit {0}) IsEmpty (tick_action o at).parts
  tick_here c at None own = (tt, tt)
  tick_here c at (Some r) own = (tt, (own, (tt, tt)))

  -- a thread that gives way is noted and queued on the CPU
  give_way_here : (c : ℕ) (at : Seen) (preempted : Bool) (o : Option ThreadRecord) → at.cpu ≡ c → FollowsHere c worker (Unit {0}) IsEmpty (give_way_action preempted o at).parts
  give_way_here c at preempted None own = (tt, (tt, tt))
  give_way_here c at preempted (Some r) own = (tt, (own, (tt, (own, (tt, tt)))))

  -- a switch may have nobody give way
  switch_here : (c : ℕ) (at : Seen) (d preempted : Bool) → at.cpu ≡ c → FollowsHere c worker (Unit {0}) IsEmpty (if d then answers Unmarked else give_way_action preempted at.current at).parts
  switch_here c at true preempted own = tt
  switch_here c at false preempted own = give_way_here c at preempted at.current own

  -- a thread that leaves goes to the empty hand
  leave_here : (c : ℕ) (at : Seen) (change : RecordChange) (reply : ThreadRecord → Option ℕ → Reply) (o : Option ThreadRecord) → IsEmpty → at.cpu ≡ c → at.worker ≡ worker →
      FollowsHere c worker (Unit {0}) IsEmpty (leave_action change reply o at).parts
  leave_here c at change reply None empty own by = tt
  leave_here c at change reply (Some r) empty own by = ((λ has. empty, own, ap (λ (x : ℕ). Hand x) by), (by, (tt, (tt, (tt, tt)))))

  -- a thread that lands comes from the hand
  land_here : (c t : ℕ) (at : Seen) (o : Option Standing) → at.worker ≡ worker → FollowsHere c worker (Unit {0}) IsEmpty (land_action t o at).parts
  land_here c t at None by = tt
  land_here c t at (Some x) by = (by, ((tt, by), (tt, tt)))

  -- a fork notes the child in the hand, and the parent on the CPU
  fork_here : (c t : ℕ) (at : Seen) (o : Option ThreadRecord) (child : Option Standing) → at.cpu ≡ c → at.worker ≡ worker → FollowsHere c worker (Unit {0}) IsEmpty (fork_action t o child at).parts
  fork_here c t at None child own by = tt
  fork_here c t at (Some r) None own by = tt
  fork_here c t at (Some r) (Some child) own by = (by, (own, tt))

  -- a wake finds nobody asleep on a CPU
  wake_here : (t l : ℕ) (p : Place) (r : ThreadRecord) (at : Seen) → IsOnCpu l p → FollowsHere l worker (Unit {0}) IsEmpty (wake_action_at p t r at).parts
  wake_here t l (Running d) r at on = tt
  wake_here t l (Queued d k b) r at on = tt
  wake_here t l (Asleep channel) r at on = absurd on
  wake_here t l Unborn r at on = absurd on
  wake_here t l Gone r at on = absurd on
  wake_here t l (Hand g) r at on = absurd on

  -- a sleeper goes to the empty hand, and no other thread that stands on no CPU
  wake_under : IsEmpty → (t l : ℕ) (P : Standing → Type 0) (p : Place) (r : ThreadRecord) (at : Seen) → at.worker ≡ worker → IsOffCpus p → lock_of p ≡ Some l → FollowsUnder l worker P IsEmpty (wake_action_at p t r at).parts
  wake_under empty t l P (Asleep channel) r at by off lock = ((empty, lock, ap (λ (x : ℕ). Hand x) by), (by, tt))
  wake_under empty t l P Unborn r at by off lock = tt
  wake_under empty t l P Gone r at by off lock = tt
  wake_under empty t l P (Running d) r at by off lock = absurd off
  wake_under empty t l P (Queued d k b) r at by off lock = absurd off
  wake_under empty t l P (Hand g) r at by off lock = absurd off

  -- off the CPUs a wake is made by the worker, the time and the settings alone
  wake_alike : (t : ℕ) (p : Place) (r : ThreadRecord) (at to : Seen) → IsOffCpus p → at.worker ≡ to.worker → at.now ≡ to.now → at.settings ≡ to.settings → wake_action_at p t r at ≡ wake_action_at p t r to
  wake_alike t (Asleep channel) r at to off by time settings =
      ap (λ (x : ℕ). wake_action_at (Asleep channel) t r (record at { worker = x })) by ∙ ap (λ (x : ℕ). wake_action_at (Asleep channel) t r (record at { worker = to.worker; now = x })) time ∙
      ap (λ (x : Settings). wake_action_at (Asleep channel) t r (record at { worker = to.worker; now = to.now; settings = x })) settings
  wake_alike t Unborn r at to off by time settings = refl
  wake_alike t Gone r at to off by time settings = refl
  wake_alike t (Running d) r at to off by time settings = absurd off
  wake_alike t (Queued d k b) r at to off by time settings = absurd off
  wake_alike t (Hand g) r at to off by time settings = absurd off

  -- a change that can move a priority, by the place of its thread
  abbrev change_act : Change → ℕ → Place → ThreadRecord → Seen → Action
  change_act given t p r at = change_action_at p given t r (after_change at.settings given r) at

  -- on a CPU a change notes the thread at its place, and may queue it anew
  change_here : (given : Change) (t l : ℕ) (p : Place) (r : ThreadRecord) (at : Seen) → IsOnCpu l p → FollowsHere l worker (Unit {0}) IsEmpty (change_act given t p r at).parts
  change_here given t l (Running d) r at on = (on, tt)
  change_here given t l (Queued d k b) r at on = if_better (nat_lt (after_change at.settings given r).priority r.priority)
    where
      if_better : (better : Bool) →
          FollowsHere l worker (Unit {0}) IsEmpty (if better then requeue_action (Queued d k b) given t (after_change at.settings given r) at else note_action (Queued d k b) given t (after_change at.settings given r)).parts
      if_better true = (on, (on, (tt, tt)))
      if_better false = (on, tt)
  change_here given t l (Asleep channel) r at on = absurd on
  change_here given t l Unborn r at on = absurd on
  change_here given t l Gone r at on = absurd on
  change_here given t l (Hand g) r at on = absurd on

  -- off the CPUs it notes the thread at its place, or is answered
  change_under : (given : Change) (t l : ℕ) (P : Standing → Type 0) (p : Place) (r : ThreadRecord) (at : Seen) → at.worker ≡ worker → IsOffCpus p → lock_of p ≡ Some l → FollowsUnder l worker P IsEmpty (change_act given t p r at).parts
  change_under given t l P (Asleep channel) r at by off lock = (lock, tt)
  change_under given t l P Unborn r at by off lock = answered (unborn_answer given)
    where
      answered : (o : Option Reply) → FollowsUnder l worker P IsEmpty (unborn_action o given t (after_change at.settings given r)).parts
      answered None = (lock, tt)
      answered (Some refusal) = tt
  change_under given t l P Gone r at by off lock = tt
  change_under given t l P (Running d) r at by off lock = absurd off
  change_under given t l P (Queued d k b) r at by off lock = absurd off
  change_under given t l P (Hand g) r at by off lock = absurd off

  -- and is made by the settings alone
  change_alike : (given : Change) (t : ℕ) (p : Place) (r : ThreadRecord) (at to : Seen) → IsOffCpus p → at.worker ≡ to.worker → at.now ≡ to.now → at.settings ≡ to.settings → change_act given t p r at ≡ change_act given t p r to
  change_alike given t (Asleep channel) r at to off by time settings = ap (λ (x : Settings). note_action (Asleep channel) given t (after_change x given r)) settings
  change_alike given t Unborn r at to off by time settings = ap (λ (x : Settings). unborn_action (unborn_answer given) given t (after_change x given r)) settings
  change_alike given t Gone r at to off by time settings = refl
  change_alike given t (Running d) r at to off by time settings = absurd off
  change_alike given t (Queued d k b) r at to off by time settings = absurd off
  change_alike given t (Hand g) r at to off by time settings = absurd off

  -- ---- each event

  -- an event by which a thread's priority is changed
  change_made : (e : Event) (t : ℕ) (given : Change) → ((at : Seen) → action_of e at ≡ change_action given t at.named at) → named_by w e ≡ thread_of t w.members →
      ((value : LockValue) → found_in value t ≡ option_map standing_of (thread_of t w.members) → NamesAlike e value) → (l : ℕ) → IsPossible w worker e now → locks_of w e ≡ l ∷ [] → lock_of_thread w.members t ≡ l ∷ [] →
      (value : LockValue) → StandsUnder w l value → IsMadeBy e l value
  change_made e t given is named names l possible locks sought =
      of_sought e t (change_act given t) (λ at x sees. is at ∙ ap (λ (o : Option Standing). change_action given t o at) sees) named names (change_here given t) (change_under given t) (change_alike given t)
      l possible locks (sought_under w t l (ap (λ (ls : List ℕ). is_among ls l) sought ∙ takes_itself l))

  -- what a worker makes of the value under the one lock of an event and of its hand is what the event's action makes there
  pub action_made : (e : Event) (l : ℕ) → IsPossible w worker e now → locks_of w e ≡ l ∷ [] → (value : LockValue) → StandsUnder w l value → IsMadeBy e l value
  action_made (Tick c) l possible locks value stands =
      of_cpu (Tick c) c l possible (ltb-true c (length w.lines) possible.cpus) refl locks value stands (λ u. refl) (tick_here c (seen_on c worker now None (side_of c w)) (current_record c w.members) refl)
  action_made (Switch c why) l possible locks value stands =
      of_cpu (Switch c why) c l possible (ltb-true c (length w.lines) possible.cpus) refl locks value stands (λ u. refl)
      (switch_here c (seen_on c worker now None (side_of c w)) (is_unasked why (side_of c w).line.resched) (is_preemption why (side_of c w).line.slice_end) refl)
  action_made (Drop c channel) l possible locks value stands =
      of_cpu (Drop c channel) c l possible (ltb-true c (length w.lines) possible.cpus) refl locks value stands (λ u. refl)
      (leave_here c (seen_on c worker now None (side_of c w)) _ _ (current_record c w.members) (hand_empty possible.hand) refl refl)
  action_made (Exit c) l possible locks value stands =
      of_cpu (Exit c) c l possible (ltb-true c (length w.lines) possible.cpus) refl locks value stands (λ u. refl)
      (leave_here c (seen_on c worker now None (side_of c w)) _ _ (current_record c w.members) (hand_empty possible.hand) refl refl)
  action_made (Land t c) l possible locks value stands =
      of_cpu (Land t c) c l possible (ltb-true c (length w.lines) possible.cpus) refl locks value stands (λ u. held_named t (held_found w.members t worker possible.hand))
      (land_here c t (seen_on c worker now (thread_of t w.members) (side_of c w)) (option_map standing_of (thread_of t w.members)) refl)
  action_made (Fork c t) l possible locks value stands =
      of_cpu (Fork c t) c l possible (ltb-true c (length w.lines) possible.cpus) refl locks value stands (λ u. held_named t (held_found w.members t worker possible.hand))
      (fork_here c t (seen_on c worker now (thread_of t w.members) (side_of c w)) (current_record c w.members) (option_map standing_of (thread_of t w.members)) refl refl)
  action_made (Look c) l possible locks value stands = of_cpu (Look c) c l possible (ltb-true c (length w.lines) possible.cpus) refl locks value stands (λ u. refl) tt
  action_made (Move a b why) l possible locks value stands = absurd (two_locks (min a b) (max a b) l locks)
  action_made (Bed t channel) l possible locks value stands =
      subst (λ (k : ℕ). StandsUnder w k value → IsMadeBy (Bed t channel) k value) (same_lock (16 + channel % 8) l locks)
      (λ stands. let q = chain_at w channel value shows.cpus stands in
      let h = held_found w.members t worker possible.hand in
      subst (IsMadeBy (Bed t channel) (16 + channel % 8)) (sym q.1)
      (made_on_chain (Bed t channel) (16 + channel % 8) q.0 possible refl q.2 (held_named t h) refl
      (goes_under (16 + channel % 8) t (IsAsleepOn q.0.number) (Hand worker) (Asleep channel) Bedded h.member h.found (place_from_hand worker h.member.place h.hand)
      (refl, refl, λ r. record { channel = channel; place = refl; chain = (let number = q.2.number in omega arith) })))) stands
  action_made (Hatch t) l possible locks value stands =
      let h = unborn_found w.members t possible.hand.1 in
      of_limbo (Hatch t) l possible refl locks value stands (λ c is. under_named t 24 (limbo c) is (record { member = h.member; found = h.found; under = ap lock_of h.place })) refl
      (goes_under 24 t IsStill Unborn (Hand worker) Hatched h.member h.found h.place (hand_empty possible.hand.0, refl, refl))
  action_made (Return t) l possible locks value stands =
      let h = held_found w.members t worker possible.hand in
      of_limbo (Return t) l possible refl locks value stands (λ c is. held_named t h) refl
      (goes_under 24 t IsStill (Hand worker) Unborn Returned h.member h.found (place_from_hand worker h.member.place h.hand) (refl, refl, λ r. inl refl))
  action_made (Bury t) l possible locks value stands =
      let h = held_found w.members t worker possible.hand in
      of_limbo (Bury t) l possible refl locks value stands (λ c is. held_named t h) refl
      (goes_under 24 t IsStill (Hand worker) Gone Buried h.member h.found (place_from_hand worker h.member.place h.hand) (refl, refl, λ r. inr refl))
  action_made (Wake t) l possible locks value stands =
      of_sought (Wake t) t (λ p r at. wake_action_at p t r at) (λ at x sees. ap (λ (o : Option Standing). wake_action t o at) sees) refl (λ value finds. finds) (wake_here t)
      (wake_under (hand_empty possible.hand) t) (wake_alike t) l possible locks (sought_under w t l (among (Wake t) l locks)) value stands
  action_made (Lend t p) l possible locks value stands = change_made (Lend t p) t (change.Lend p) (λ at. refl) refl (λ value finds. finds) l possible locks locks value stands
  action_made (Unlend t) l possible locks value stands = change_made (Unlend t) t change.Unlend (λ at. refl) refl (λ value finds. finds) l possible locks locks value stands
  action_made (Renice t n) l possible locks value stands = change_made (Renice t n) t (change.Renice n) (λ at. refl) refl (λ value finds. finds) l possible locks locks value stands
  action_made (Inherit t run) l possible locks value stands = change_made (Inherit t run) t (change.Inherit run) (λ at. refl) refl (λ value finds. finds) l possible locks locks value stands

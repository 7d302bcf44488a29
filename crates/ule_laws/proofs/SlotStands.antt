-- The threads with places under the lock of a sleep chain or of limbo, and the worker's hand: a part of an action on them is
-- that part on the side that they stand for.
use Rattle.std.proofs.Common.{◌≡◌, ◌⊎◌, ℕ, ◌<◌, true, false, pos, List, [], ◌∷◌, length, length-set, slice_set, Option, Some, None, IfSome, refl, sym, ◌∙◌, ap, subst}
use Rattle.std.specs.Option.{option_map}
use Rattle.std.proofs.lemmas.Bool.{cond-true, eq-eqb}
use Rattle.ule_score.proofs.ChangeLaws.{change_number}
use Rattle.ule_score.specs.Changes.{record_after}
use Rattle.ule_score.specs.declared.place.Place.{Place}
use Rattle.ule_score.specs.declared.place.Place.TheVariants.{Running, Queued, Asleep, Unborn, Gone, Hand}
use Rattle.ule_score.specs.declared.record.Settings.{Settings}
use Rattle.ule_score.specs.declared.record.ThreadRecord.{ThreadRecord}
use Rattle.ule_sleep.specs.Limbo.{LimboValue}
use Rattle.ule_sleep.specs.Chain.{ChainValue, standing_in, thread_standing, with_standing, without_standing}
use Rattle.ule_threads.specs.declared.standing.Standing.{Standing}
use Rattle.ule_types.specs.Commands.{is_among}
use Rattle.ule_types.specs.declared.event.Event.{Event}
use Rattle.ule_model.specs.Action.{Part, choose, clear_marks, clock, count_switch, end_slice_if, insert, mark_if, move, note, part_done, parts_done}
use Rattle.ule_model.specs.ActionValue.{HandAndSlots, part_in_slots, parts_in_slots, put_down}
use Rattle.ule_model.specs.Events.{locks_of}
use Rattle.ule_model.specs.Places.{is_hand_of, is_number, is_under, lock_of}
use Rattle.ule_model.specs.World.{Member, Side, World, is_numbered, moved_to, standing_of, with_change, with_record}
use Rattle.ule_model.specs.WorldValue.{IsAsleepOn, IsChainOf, IsLimboOf}
use Rattle.ule_members.proofs.Membership.{has_thread_of}
use Rattle.ule_members.proofs.Moves.{changed_by, moved_member}
use Rattle.ule_members.proofs.PartDone.{Follows, IsReady, Known, Needs, StandsAt, idle_after, known_after, part_step}
use Rattle.ule_members.proofs.PlaceFinds.{thread_at_within}
use Rattle.ule_members.proofs.Reach.{no_hand_under}
use Rattle.ule_members.proofs.Within.{Within, changed, within_found}
use Rattle.ule_laws.proofs.LockLaws.{AreThese, IsThis, put_in, put_under, take_from_under, take_out_of, these_kept}
use Rattle.ule_laws.proofs.PartStands.{hand_is, hand_kept, hand_noted, in_own_hand}
use Rattle.ule_laws.proofs.StepFrom.{put_each, take_each}

-- ---- the threads under a lock

-- a thread with its place, its record changed so
abbrev pub noted_standing : (ThreadRecord → ThreadRecord) → Standing → Standing
noted_standing change s = record s { thread = change s.thread }

-- these, one for each thread number, are the threads under lock l, and this is so of each
pub record AreSlots (l : ℕ) (P : Standing → Type 0) (ms : List Member) (slots : List (Option Standing)) : Type 0 where
  pub these : AreThese l ms slots
  pub count : length slots ≡ 256
  pub each : (u : ℕ) → IfSome (standing_in slots u) P

module _ (l : ℕ) (P : Standing → Type 0) (m : Member) (ms : List Member) (slots : List (Option Standing)) (v : Within m.thread.id m ms) (are : AreSlots l P ms slots) where
  -- they have room for the thread
  small : m.thread.id < length slots
  small = subst (λ (i : ℕ). m.thread.id < i) (sym are.count) v.made.numbers.id

  -- the slot of a thread under the lock
  pub own_slot : is_under l m.place ≡ true → standing_in slots m.thread.id ≡ Some (standing_of m)
  own_slot under = are.these m.thread.id ∙ ap (option_map standing_of) (thread_at_within (is_under l) m.thread.id m ms v ∙ cond-true (is_under l m.place) (Some m) None under)

  -- a thread comes under the lock
  pub slots_joined : (to : Place) → is_under l to ≡ true → P (record { thread = m.thread; place = to }) →
      AreSlots l P (moved_to m.thread.id to (pos 0) ms) (with_standing m.thread to slots)
  slots_joined to under so = record {
    these = put_under l m.thread.id m ms slots (moved_member to (pos 0)) v small refl under are.these;
    count = length-set slots m.thread.id (Some (record { thread = m.thread; place = to })) ∙ are.count;
    each = put_each P slots m.thread.id (record { thread = m.thread; place = to }) are.each so;
  }

  -- a thread leaves the lock
  pub slots_left : (f : Member → Member) → (f m).thread.id ≡ m.thread.id → is_under l (f m).place ≡ false → AreSlots l P (changed m.thread.id f ms) (without_standing m.thread.id slots)
  slots_left f number off = record {
    these = take_from_under l m.thread.id m ms slots f v small number off are.these;
    count = length-set slots m.thread.id None ∙ are.count;
    each = take_each P slots m.thread.id are.each;
  }

  -- the record of a thread under the lock changes
  pub slots_noted : (change : ThreadRecord → ThreadRecord) → (change m.thread).id ≡ m.thread.id → ((s : Standing) → P s → P (record s { thread = change s.thread })) → is_under l m.place ≡ true →
      AreSlots l P (with_record m.thread.id change ms) (slice_set slots m.thread.id (option_map (noted_standing change) (standing_in slots m.thread.id)))
  slots_noted change number keeps under =
      let new : Standing = record { thread = change m.thread; place = m.place } in
      let so : P (standing_of m) = subst (λ (o : Option Standing). IfSome o P) (own_slot under) (are.each m.thread.id) in
      subst (λ (o : Option Standing). AreSlots l P (with_record m.thread.id change ms) (slice_set slots m.thread.id (option_map (noted_standing change) o))) (sym (own_slot under))
      (record {
        these =
            subst (λ (i : ℕ). AreThese l (with_record m.thread.id change ms) (slice_set slots i (Some new))) number
            (put_under l m.thread.id m ms slots (λ x. record x { thread = change x.thread }) v small number under are.these);
        count = length-set slots m.thread.id (Some new) ∙ are.count;
        each = put_each P slots m.thread.id new are.each (keeps (standing_of m) so);
      })

-- a thread that is unborn or gone
abbrev pub IsStill : Standing → Type 0
IsStill s = (s.place ≡ Unborn) ⊎ (s.place ≡ Gone)

-- those of a chain are the threads under its lock, each asleep on a channel of it
pub chain_slots : (w : World) (l : ℕ) (v : ChainValue) → IsChainOf w l v → AreSlots l (IsAsleepOn v.number) w.members v.slots
chain_slots w l v is = record { these = is.under; count = is.slots; each = is.asleep }

-- so a chain with other threads of another world is the value of its lock there
pub is_chain : (w n : World) (l : ℕ) (v : ChainValue) (slots : List (Option Standing)) → IsChainOf w l v → AreSlots l (IsAsleepOn v.number) n.members slots → IsChainOf n l (record v { slots = slots })
is_chain w n l v slots is are = record { number = is.number; small = is.small; slots = are.count; under = are.these; asleep = are.each }

-- and those of limbo, each unborn or gone
pub limbo_slots : (w : World) (l : ℕ) (v : LimboValue) → IsLimboOf w l v → AreSlots l IsStill w.members v.slots
limbo_slots w l v is = record { these = is.under; count = is.slots; each = is.still }

-- and limbo with other threads
pub is_limbo : (w n : World) (l : ℕ) (v : LimboValue) (slots : List (Option Standing)) → IsLimboOf w l v → AreSlots l IsStill n.members slots → IsLimboOf n l (record v { slots = slots })
is_limbo w n l v slots is are = record { number = is.number; slots = are.count; under = are.these; still = are.each }

-- ---- what parts need

-- a place under lock l, or this worker's hand
abbrev pub IsUnderOrHeld : ℕ → ℕ → Place → Type 0
IsUnderOrHeld l worker (Running d) = lock_of (Running d) ≡ Some l
IsUnderOrHeld l worker (Queued d k b) = lock_of (Queued d k b) ≡ Some l
IsUnderOrHeld l worker (Asleep channel) = lock_of (Asleep channel) ≡ Some l
IsUnderOrHeld l worker Unborn = lock_of Unborn ≡ Some l
IsUnderOrHeld l worker Gone = lock_of Gone ≡ Some l
IsUnderOrHeld l worker (Hand w) = w ≡ worker

-- a thread goes from the hand to a place under lock l of which this is so, or from under it to the empty hand
abbrev pub GoesUnder : ℕ → ℕ → (Standing → Type 0) → Type 0 → Place → Place → Type 0
GoesUnder l worker P empty (Running d) to = empty × (lock_of (Running d) ≡ Some l) × (to ≡ Hand worker)
GoesUnder l worker P empty (Queued d k b) to = empty × (lock_of (Queued d k b) ≡ Some l) × (to ≡ Hand worker)
GoesUnder l worker P empty (Asleep channel) to = empty × (lock_of (Asleep channel) ≡ Some l) × (to ≡ Hand worker)
GoesUnder l worker P empty Unborn to = empty × (lock_of Unborn ≡ Some l) × (to ≡ Hand worker)
GoesUnder l worker P empty Gone to = empty × (lock_of Gone ≡ Some l) × (to ≡ Hand worker)
GoesUnder l worker P empty (Hand w) to = (w ≡ worker) × (lock_of to ≡ Some l) × ((r : ThreadRecord) → P (record { thread = r; place = to }))

-- what a part needs under lock l, where this says that the hand is empty: the parts of a CPU have no place there
abbrev pub NeedsUnder : ℕ → ℕ → (Standing → Type 0) → Part → Type 0 → Type 0
NeedsUnder l worker P (note t place change) empty = IsUnderOrHeld l worker place
NeedsUnder l worker P (move t from to) empty = GoesUnder l worker P empty from to
NeedsUnder l worker P (insert t from how) empty = ⊥
NeedsUnder l worker P choose empty = ⊥
NeedsUnder l worker P clear_marks empty = ⊥
NeedsUnder l worker P count_switch empty = ⊥
NeedsUnder l worker P (mark_if takes) empty = ⊥
NeedsUnder l worker P (end_slice_if ended) empty = ⊥
NeedsUnder l worker P clock empty = ⊥

-- what says after a part that the hand is empty: no more is known after a thread went
abbrev pub empty_under : Part → Type 0 → Type 0
empty_under (note t place change) empty = empty
empty_under (move t from to) empty = ⊥
empty_under (insert t from how) empty = ⊥
empty_under choose empty = ⊥
empty_under clear_marks empty = ⊥
empty_under count_switch empty = ⊥
empty_under (mark_if takes) empty = ⊥
empty_under (end_slice_if ended) empty = ⊥
empty_under clock empty = ⊥

-- that parts have what they need, one after another
abbrev pub FollowsUnder : ℕ → ℕ → (Standing → Type 0) → Type 0 → List Part → Type 0
FollowsUnder l worker P empty [] = Unit {0}
FollowsUnder l worker P empty (p ∷ ps) = NeedsUnder l worker P p empty × FollowsUnder l worker P (empty_under p empty) ps

-- ---- a part

-- the threads are those under lock l, and the hand is what the worker has there
pub record AreHeldUnder (l worker : ℕ) (P : Standing → Type 0) (h : HandAndSlots) (ms : List Member) : Type 0 where
  pub slots : AreSlots l P ms h.slots
  pub hand : IsThis worker ms h.hand

-- what a part gives, on them and on the side
pub record AreAlikeUnder (l worker : ℕ) (P : Standing → Type 0) (empty : Type 0) (made : HandAndSlots) (into : Option ℕ) (meant : Side × Option ℕ) : Type 0 where
  pub held : AreHeldUnder l worker P made meant.0.members
  pub answer : into ≡ meant.1
  pub empty_hand : empty → made.hand ≡ None

-- a place under a lock is tested so
under_lock : (l : ℕ) (place : Place) → lock_of place ≡ Some l → is_under l place ≡ true
under_lock l place is = ap (is_number l) is ∙ eq-eqb l l refl

-- a place under a lock is in no hand
out_of_hand : (worker l : ℕ) (place : Place) → lock_of place ≡ Some l → is_hand_of worker place ≡ false
out_of_hand worker l place is = ap (is_number worker) (no_hand_under l place is)

module _ (w : World) (worker : ℕ) (e : Event) (now l : ℕ) (P : Standing → Type 0) (keeps : (s : Standing) (r : ThreadRecord) → P s → P (record s { thread = r })) where
  -- a part on the threads under the lock and the hand is that part on the side
  under_alike : (p : Part) (known : Known) (idle empty : Type 0) (h : HandAndSlots) (s : Side) (into : Option ℕ) → IsReady w worker e now l known idle s → Needs w worker e now l p known idle →
      NeedsUnder l worker P p empty → AreHeldUnder l worker P h s.members → (empty → h.hand ≡ None) →
      AreAlikeUnder l worker P (empty_under p empty) (part_in_slots s.settings now p h) into (part_done l now p (s, into))
  under_alike (note t place change) known idle empty h s into ready needs here held none =
      subst (λ (u : ℕ). AreAlikeUnder l worker P empty (part_in_slots s.settings now (note u place change) h) into (part_done l now (note u place change) (s, into))) number (at_place place at.place_is here)
    where
      at : StandsAt t place s.members
      at = ready.stands t place needs.0

      m : Member
      m = at.member

      number : m.thread.id ≡ t
      number = (has_thread_of t m s.members at.found).1

      v : Within m.thread.id m s.members
      v = within_found (is_numbered t) s.members m ready.made at.found

      new : ThreadRecord → ThreadRecord
      new r = record_after s.settings now change r

      under : (p : Place) → m.place ≡ p → lock_of p ≡ Some l →
          AreAlikeUnder l worker P empty (record h { slots = slice_set h.slots m.thread.id (option_map (noted_standing new) (standing_in h.slots m.thread.id)) }) into
          (record s { members = with_change s.settings now m.thread.id change s.members }, into)
      under p is lock = record {
        held = record {
          slots =
              slots_noted l P m s.members h.slots v held.slots new (change_number s.settings now change m.thread) (λ x so. keeps x (new x.thread) so) (ap (is_under l) is ∙ under_lock l p lock);
          hand =
              hand_kept worker m.thread.id m s.members (changed_by s.settings now change) v (change_number s.settings now change m.thread) (ap (is_hand_of worker) is ∙ out_of_hand worker l p lock)
              (ap (is_hand_of worker) is ∙ out_of_hand worker l p lock) h.hand held.hand;
        };
        answer = refl;
        empty_hand = none;
      }

      in_hand : (g : ℕ) → m.place ≡ Hand g → g ≡ worker →
          AreAlikeUnder l worker P empty (record h { hand = option_map new h.hand }) into (record s { members = with_change s.settings now m.thread.id change s.members }, into)
      in_hand g is own = record {
        held = record {
          slots = record {
            these = still_these g is;
            count = held.slots.count;
            each = held.slots.each;
          };
          hand = hand_noted worker m s.members h.hand new (change_number s.settings now change m.thread) v (in_own_hand worker g m.place is own) held.hand;
        };
        answer = refl;
        empty_hand = λ is. ap (option_map new) (none is);
      }
        where
          still_these : (g : ℕ) → m.place ≡ Hand g → AreThese l (with_change s.settings now m.thread.id change s.members) h.slots
          still_these g is = these_kept l m s.members (changed_by s.settings now change) v (change_number s.settings now change m.thread) (ap (is_under l) is) (ap (is_under l) is) h.slots held.slots.these

      at_place : (p : Place) → m.place ≡ p → IsUnderOrHeld l worker p →
          AreAlikeUnder l worker P empty (part_in_slots s.settings now (note m.thread.id p change) h) into (part_done l now (note m.thread.id p change) (s, into))
      at_place (Running d) is lock = under (Running d) is lock
      at_place (Queued d k b) is lock = under (Queued d k b) is lock
      at_place (Asleep channel) is lock = under (Asleep channel) is lock
      at_place Unborn is lock = under Unborn is lock
      at_place Gone is lock = under Gone is lock
      at_place (Hand g) is own = in_hand g is own
  under_alike (move t from to) known idle empty h s into ready needs here held none =
      subst (λ (u : ℕ). AreAlikeUnder l worker P ⊥ (part_in_slots s.settings now (move u from to) h) into (part_done l now (move u from to) (s, into))) number (at_place from at.place_is here)
    where
      at : StandsAt t from s.members
      at = ready.stands t from needs.0

      m : Member
      m = at.member

      number : m.thread.id ≡ t
      number = (has_thread_of t m s.members at.found).1

      v : Within m.thread.id m s.members
      v = within_found (is_numbered t) s.members m ready.made at.found

      -- to the hand
      up : (p : Place) → m.place ≡ p → empty × (lock_of p ≡ Some l) × (to ≡ Hand worker) →
          AreHeldUnder l worker P (record { hand = thread_standing (standing_in h.slots m.thread.id); slots = without_standing m.thread.id h.slots }) (moved_to m.thread.id to (pos 0) s.members)
      up p is goes =
          subst (λ (q : Place). AreHeldUnder l worker P (record { hand = thread_standing (standing_in h.slots m.thread.id); slots = without_standing m.thread.id h.slots }) (moved_to m.thread.id q (pos 0) s.members)) (sym goes.2)
          (record {
            slots = slots_left l P m s.members h.slots v held.slots (moved_member (Hand worker) (pos 0)) refl refl;
            hand =
                subst (λ (o : Option Standing). IsThis worker (moved_to m.thread.id (Hand worker) (pos 0) s.members) (thread_standing o)) (sym (own_slot l P m s.members h.slots v held.slots (ap (is_under l) is ∙ under_lock l p goes.1)))
                (put_in worker m.thread.id m s.members (moved_member (Hand worker) (pos 0)) v refl (eq-eqb worker worker refl) (subst (IsThis worker s.members) (none goes.0) held.hand));
          })

      -- from the hand
      down : (g : ℕ) → m.place ≡ Hand g → (g ≡ worker) × (lock_of to ≡ Some l) × ((r : ThreadRecord) → P (record { thread = r; place = to })) →
          AreHeldUnder l worker P (put_down to h.hand h) (moved_to m.thread.id to (pos 0) s.members)
      down g is goes =
          let here = in_own_hand worker g m.place is goes.0 in
          let this = hand_is worker m s.members h.hand v here held.hand in
          subst (λ (o : Option ThreadRecord). AreHeldUnder l worker P (put_down to o h) (moved_to m.thread.id to (pos 0) s.members)) (sym this)
          (record {
            slots = slots_joined l P m s.members h.slots v held.slots to (under_lock l to goes.1) (goes.2 m.thread);
            hand = take_out_of worker m.thread.id m s.members (moved_member to (pos 0)) v refl here (out_of_hand worker l to goes.1) m.thread (subst (IsThis worker s.members) this held.hand);
          })

      gone : (made : HandAndSlots) → AreHeldUnder l worker P made (moved_to m.thread.id to (pos 0) s.members) → AreAlikeUnder l worker P ⊥ made into (part_done l now (move m.thread.id from to) (s, into))
      gone made put = record { held = put; answer = refl; empty_hand = λ is. absurd is }

      at_place : (p : Place) → m.place ≡ p → GoesUnder l worker P empty p to →
          AreAlikeUnder l worker P ⊥ (part_in_slots s.settings now (move m.thread.id p to) h) into (part_done l now (move m.thread.id from to) (s, into))
      at_place (Running d) is goes = gone _ (up (Running d) is goes)
      at_place (Queued d k b) is goes = gone _ (up (Queued d k b) is goes)
      at_place (Asleep channel) is goes = gone _ (up (Asleep channel) is goes)
      at_place Unborn is goes = gone _ (up Unborn is goes)
      at_place Gone is goes = gone _ (up Gone is goes)
      at_place (Hand g) is goes = gone _ (down g is goes)
  under_alike (insert t from how) known idle empty h s into ready needs here held none = absurd here
  under_alike choose known idle empty h s into ready needs here held none = absurd here
  under_alike clear_marks known idle empty h s into ready needs here held none = absurd here
  under_alike count_switch known idle empty h s into ready needs here held none = absurd here
  under_alike (mark_if takes) known idle empty h s into ready needs here held none = absurd here
  under_alike (end_slice_if ended) known idle empty h s into ready needs here held none = absurd here
  under_alike clock known idle empty h s into ready needs here held none = absurd here

  -- parts that follow are on the threads under the lock and the hand what they are on the side
  pub parts_under_alike : (ps : List Part) (known : Known) (idle empty : Type 0) (h : HandAndSlots) (s : Side) (into : Option ℕ) (settings : Settings) → settings ≡ s.settings → is_among (locks_of w e) l ≡ true →
      IsReady w worker e now l known idle s → Follows w worker e now l known idle ps → FollowsUnder l worker P empty ps → AreHeldUnder l worker P h s.members → (empty → h.hand ≡ None) →
      AreAlikeUnder l worker P ⊥ (parts_in_slots settings now ps h) into (parts_done l now ps (s, into))
  parts_under_alike [] known idle empty h s into settings same among ready follows here held none = record { held = held; answer = refl; empty_hand = λ is. absurd is }
  parts_under_alike (p ∷ ps) known idle empty h s into settings same among ready follows here held none =
      subst (λ (x : Settings). AreAlikeUnder l worker P ⊥ (parts_in_slots x now ps (part_in_slots x now p h)) into (parts_done l now ps (part_done l now p (s, into)))) (sym same)
      (let one = under_alike p known idle empty h s into ready follows.0 here.0 held none in
      let next = part_done l now p (s, into) in
      let step = part_step w worker e now l p known idle s into among ready follows.0 in
      let rest = parts_under_alike ps (known_after p known) (idle_after l p idle) (empty_under p empty) (part_in_slots s.settings now p h) next.0 next.1 s.settings
      (ready.settings ∙ sym step.ready.settings) among step.ready follows.2 here.1 one.held one.empty_hand in
      record { held = rest.held; answer = one.answer ∙ rest.answer; empty_hand = λ is. absurd is })

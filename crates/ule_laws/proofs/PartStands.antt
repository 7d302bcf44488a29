-- A part of an action on a CPU's value and the worker's hand is that part on the side that they stand for: one lemma a part,
-- and one induction.
use Rattle.std.proofs.Common.{◌≡◌, ℕ, ◌==◌, pos, true, false, ◌&&◌, List, [], ◌∷◌, ◌++◌, Option, Some, None, refl, sym, ◌∙◌, ap, subst}
use Rattle.std.specs.Option.{option_map}
use Rattle.std.proofs.lemmas.Bool.{and_right, cond-false, cond-true, cond_both, eq-eqb, ne_eqb}
use Rattle.ule_prio.specs.declared.kind.Kind.TheVariants.{Real, Batch, Idle}
use Rattle.ule_score.proofs.ChangeLaws.{change_number}
use Rattle.ule_score.specs.Changes.{record_after, runs}
use Rattle.ule_score.specs.declared.place.Place.{Place}
use Rattle.ule_score.specs.declared.place.Place.TheVariants.{Running, Queued, Asleep, Unborn, Gone, Hand}
use Rattle.ule_score.specs.declared.record.Settings.{Settings}
use Rattle.ule_score.specs.declared.record.ThreadRecord.{ThreadRecord}
use Rattle.ule_types.specs.Commands.{is_among}
use Rattle.ule_types.specs.declared.event.Event.{Event}
use Rattle.ule_model.specs.Action.{Part, choose, clear_marks, clock, count_switch, end_slice_if, insert, leaving, mark_if, move, note, part_done, parts_done}
use Rattle.ule_model.specs.ActionValue.{HandAndCpu, inserted_anew, inserted_from_hand, part_on_cpu, parts_on_cpu, value_leaving}
use Rattle.ule_model.specs.Choice.{choice_of}
use Rattle.ule_model.specs.CpuValue.{CpuValue, StandsFor, inserted, inserted_thread, removed_from, with_thread_after}
use Rattle.ule_model.specs.Events.{locks_of}
use Rattle.ule_model.specs.Frames.{thread_in_hand}
use Rattle.ule_model.specs.declared.insertion.Insertion.{Insertion}
use Rattle.ule_model.specs.Insertion.{order_of_insertion, place_of_insertion, queued, with_queued}
use Rattle.ule_model.specs.Landing.{marked_if}
use Rattle.ule_model.specs.LockConditions.{IsOnCpu}
use Rattle.ule_model.specs.Places.{is_hand_of, is_number, is_on, runs_on}
use Rattle.ule_model.specs.Switch.{choosing_next, running_chosen}
use Rattle.ule_model.specs.Tick.{marked_at_end}
use Rattle.ule_model.specs.WellMade.{IsWellMade}
use Rattle.ule_model.specs.World.{Member, Side, World, is_numbered, moved_to, others, thread_of, with_change}
use Rattle.ule_model.specs.WorldValue.{if_thread}
use Rattle.ule_members.proofs.Membership.{has_thread_of}
use Rattle.ule_members.proofs.Moves.{changed_by, choice_stands, moved_member, within_has}
use Rattle.ule_members.proofs.PartDone.{Follows, IsReady, Known, Needs, StandsAt, idle_after, known_after, part_step}
use Rattle.ule_members.proofs.PlaceFinds.{thread_at_within}
use Rattle.ule_members.proofs.Reach.{lock_where_waits, no_hand_under}
use Rattle.ule_members.proofs.Threads.{changed_further, find_kept, thread_of_within}
use Rattle.ule_members.proofs.Within.{Within, changed, changed_within, within_found}
use Rattle.ule_laws.proofs.Beside.{StandsBeside, absent_lifted, gone_put, lifted_stands, running_lifted}
use Rattle.ule_laws.proofs.ChoosingLaws.{changed_stands, choosing_stands, elsewhere_recorded}
use Rattle.ule_laws.proofs.CpuLines.{clocked_stands, count_stands, marks_stand, with_line_stands}
use Rattle.ule_laws.proofs.LockLaws.{IsThis, put_in, put_only, take_out_of}
use Rattle.ule_laws.proofs.Queueing.{IsJoined, inserted_stands}

-- ---- places

-- a place on CPU c, or else the hand of a worker of which this has to be so
abbrev pub IsOnOrHeld : ℕ → (ℕ → Type 0) → Place → Type 0
IsOnOrHeld c held (Running d) = d ≡ c
IsOnOrHeld c held (Queued d k b) = d ≡ c
IsOnOrHeld c held (Asleep channel) = ⊥
IsOnOrHeld c held Unborn = ⊥
IsOnOrHeld c held Gone = ⊥
IsOnOrHeld c held (Hand w) = held w

-- ---- a thread that leaves its place on the CPU

-- the value stands for the side but for that thread
left_beside : (from : Place) (m : Member) (v : CpuValue) (s : Side) (w : Within m.thread.id m s.members) → StandsFor v s → m.place ≡ from → IsOnCpu v.cpu from →
    StandsBeside m (value_leaving from m.thread.id v) (leaving from v.cpu m.thread.id s) (w.before ++ w.after)
left_beside (Running d) m v s w stands is on = running_lifted m v s w stands (ap (runs_on v.cpu) is ∙ eq-eqb v.cpu d (sym on))
left_beside (Queued d k b) m v s w stands is on =
    subst (λ (place : Place). StandsBeside m (removed_from k m.thread.id v) (leaving place v.cpu m.thread.id s) (w.before ++ w.after)) is
    (lifted_stands k b m v s w stands (is ∙ ap (λ (x : ℕ). Queued x k b) on))
left_beside (Asleep channel) m v s w stands is on = absurd on
left_beside Unborn m v s w stands is on = absurd on
left_beside Gone m v s w stands is on = absurd on
left_beside (Hand w) m v s within stands is on = absurd on

-- the CPU's number stays
leaving_cpu : (from : Place) (t : ℕ) (v : CpuValue) → (value_leaving from t v).cpu ≡ v.cpu
leaving_cpu (Running d) t v = refl
leaving_cpu (Queued d Real b) t v = refl
leaving_cpu (Queued d Batch b) t v = refl
leaving_cpu (Queued d Idle b) t v = refl
leaving_cpu (Asleep channel) t v = refl
leaving_cpu Unborn t v = refl
leaving_cpu Gone t v = refl
leaving_cpu (Hand w) t v = refl

-- what becomes of the value and of the side alike
pub record ArePut (v new : CpuValue) (s : Side) : Type 0 where
  pub stands : StandsFor new s
  pub cpu : new.cpu ≡ v.cpu

-- it is queued anew
anew_stands : (from : Place) (how : Insertion) (m : Member) (v : CpuValue) (s : Side) → Within m.thread.id m s.members → StandsFor v s → m.place ≡ from → IsOnCpu v.cpu from →
    ArePut v (inserted_anew from how m.thread.id v) (queued how v.cpu m.thread.id (leaving from v.cpu m.thread.id s))
anew_stands from how m v s w stands is on = record {
  stands =
      subst (λ (o : Option ThreadRecord). StandsFor (inserted_thread how m.thread.id o left) (queued how v.cpu m.thread.id side)) (sym beside.own)
      (subst (λ (c : ℕ). StandsFor (inserted how m.thread.priority m.thread.id left) (queued how c m.thread.id side)) (leaving_cpu from m.thread.id v) joined.stands);
  cpu = ap (λ (o : Option ThreadRecord). (inserted_thread how m.thread.id o left).cpu) beside.own ∙ joined.cpu ∙ leaving_cpu from m.thread.id v;
}
  where
    left : CpuValue
    left = value_leaving from m.thread.id v

    side : Side
    side = leaving from v.cpu m.thread.id s

    beside : StandsBeside m left side (w.before ++ w.after)
    beside = left_beside from m v s w stands is on

    joined : IsJoined left (inserted how m.thread.priority m.thread.id left) (queued how left.cpu m.thread.id side)
    joined = inserted_stands how m left side w beside

-- ---- the hand

-- a thread that is in no hand before and after leaves the hand
pub hand_kept : (worker t : ℕ) (m : Member) (ms : List Member) (f : Member → Member) → Within t m ms → (f m).thread.id ≡ m.thread.id → is_hand_of worker m.place ≡ false →
    is_hand_of worker (f m).place ≡ false → (hand : Option ThreadRecord) → IsThis worker ms hand → IsThis worker (changed t f ms) hand
hand_kept worker t m ms f v number was is hand this u =
    this u ∙ ap (option_map (λ (n : Member). n.thread))
    (ap (thread_in_hand worker u) v.whole ∙
    sym (find_kept (λ x. is_numbered u x && is_hand_of worker x.place) v.before m (f m) v.after (and_right (is_numbered u m) (is_hand_of worker m.place) was) (and_right (is_numbered u (f m)) (is_hand_of worker (f m).place) is)) ∙
    ap (thread_in_hand worker u) (sym (changed_within t m ms v f)))

-- what a worker has in hand is the thread of this world that is there
pub hand_is : (worker : ℕ) (m : Member) (ms : List Member) (hand : Option ThreadRecord) → Within m.thread.id m ms → is_hand_of worker m.place ≡ true → IsThis worker ms hand → hand ≡ Some m.thread
hand_is worker m ms hand v here this =
    only hand (this m.thread.id ∙ ap (option_map (λ (n : Member). n.thread)) (thread_at_within (is_hand_of worker) m.thread.id m ms v ∙ cond-true (is_hand_of worker m.place) (Some m) None here))
  where
    only : (o : Option ThreadRecord) → if_thread m.thread.id o ≡ Some m.thread → o ≡ Some m.thread
    only None is = cc
    only (Some r) is = cond_both (r.id == m.thread.id) (Some r) None (λ z. z ≡ Some m.thread → Some r ≡ Some m.thread) (λ same e. e) (λ other e. cc) is

-- a place on a CPU is in no hand
off_hand : (worker c : ℕ) (place : Place) → IsOnCpu c place → is_hand_of worker place ≡ false
off_hand worker c (Running d) on = refl
off_hand worker c (Queued d k b) on = refl
off_hand worker c (Asleep channel) on = absurd on
off_hand worker c Unborn on = absurd on
off_hand worker c Gone on = absurd on
off_hand worker c (Hand w) on = absurd on

-- a worker's own hand is tested so
pub in_own_hand : (worker h : ℕ) (place : Place) → place ≡ Hand h → h ≡ worker → is_hand_of worker place ≡ true
in_own_hand worker h place is own = ap (is_hand_of worker) is ∙ eq-eqb worker h (sym own)

-- the hand whose thread's record changes
pub hand_noted : (worker : ℕ) (m : Member) (ms : List Member) (hand : Option ThreadRecord) (change : ThreadRecord → ThreadRecord) → (change m.thread).id ≡ m.thread.id → Within m.thread.id m ms →
    is_hand_of worker m.place ≡ true → IsThis worker ms hand → IsThis worker (changed m.thread.id (λ x. record x { thread = change x.thread }) ms) (option_map change hand)
hand_noted worker m ms hand change number v here this =
    let has : hand ≡ Some m.thread = hand_is worker m ms hand v here this in
    subst (λ (o : Option ThreadRecord). IsThis worker (changed m.thread.id (λ x. record x { thread = change x.thread }) ms) (option_map change o)) (sym has)
    (put_only worker m.thread.id m ms (λ x. record x { thread = change x.thread }) v number here (hand_alone worker m ms (subst (IsThis worker ms) has this)))
  where
    hand_alone : (worker : ℕ) (m : Member) (ms : List Member) → IsThis worker ms (Some m.thread) → (u : ℕ) → (u ≡ m.thread.id → ⊥) → None ≡ option_map (λ n. n.thread) (thread_in_hand worker u ms)
    hand_alone worker m ms held u other = sym (cond-false (m.thread.id == u) (Some m.thread) None (ne_eqb m.thread.id u (λ same. other (sym same)))) ∙ held u

-- ---- what parts need of the value and the hand

-- what a part needs, where this says that the hand is the worker's, and that it is empty
abbrev pub NeedsHere : ℕ → ℕ → Type 0 → Part → Type 0 → Type 0
NeedsHere c worker holds (note t place change) empty = IsOnOrHeld c (λ w. w ≡ worker) place
NeedsHere c worker holds (move t from to) empty = (holds → empty) × IsOnCpu c from × (to ≡ Hand worker)
NeedsHere c worker holds (insert t from how) empty = IsOnOrHeld c (λ w. holds × (w ≡ worker)) from
NeedsHere c worker holds choose empty = Unit {0}
NeedsHere c worker holds clear_marks empty = Unit {0}
NeedsHere c worker holds count_switch empty = Unit {0}
NeedsHere c worker holds (mark_if takes) empty = Unit {0}
NeedsHere c worker holds (end_slice_if ended) empty = Unit {0}
NeedsHere c worker holds clock empty = Unit {0}

-- what says after a part that the hand is empty
abbrev pub empty_after : Part → Type 0 → Type 0
empty_after (note t place change) empty = empty
empty_after (move t from to) empty = ⊥
empty_after (insert t from how) empty = ⊥
empty_after choose empty = empty
empty_after clear_marks empty = empty
empty_after count_switch empty = empty
empty_after (mark_if takes) empty = empty
empty_after (end_slice_if ended) empty = empty
empty_after clock empty = empty

-- that parts have what they need, one after another
abbrev pub FollowsHere : ℕ → ℕ → Type 0 → Type 0 → List Part → Type 0
FollowsHere c worker holds empty [] = Unit {0}
FollowsHere c worker holds empty (p ∷ ps) = NeedsHere c worker holds p empty × FollowsHere c worker holds (empty_after p empty) ps

-- ---- a part

-- the value stands for this side, and the hand for what the worker has, where it is the worker's
pub record IsHeldOn (worker : ℕ) (holds : Type 0) (h : HandAndCpu) (s : Side) : Type 0 where
  pub stands : StandsFor h.value s
  pub hand : holds → IsThis worker s.members h.hand

-- what a part gives, on the value and the hand and on the side
pub record ArePartsAlike (worker : ℕ) (holds empty : Type 0) (h : HandAndCpu) (made : HandAndCpu × Option ℕ) (meant : Side × Option ℕ) : Type 0 where
  pub held : IsHeldOn worker holds made.0 meant.0
  pub answer : made.1 ≡ meant.1
  pub cpu : made.0.value.cpu ≡ h.value.cpu
  pub empty_hand : empty → made.0.hand ≡ None

-- a part of the CPU's numbers alone leaves the hand
numbers_alike : (worker : ℕ) (holds empty : Type 0) (h : HandAndCpu) (s n : Side) (into : Option ℕ) (new : CpuValue) → IsHeldOn worker holds h s → (empty → h.hand ≡ None) →
    StandsFor new n → n.members ≡ s.members → new.cpu ≡ h.value.cpu → ArePartsAlike worker holds empty h (record h { value = new }, into) (n, into)
numbers_alike worker holds empty h s n into new held none stands same cpu = record {
  held = record { stands = stands; hand = λ has. subst (λ (ms : List Member). IsThis worker ms h.hand) (sym same) (held.hand has) };
  answer = refl;
  cpu = cpu;
  empty_hand = none;
}

module _ (w : World) (worker : ℕ) (e : Event) (now : ℕ) (holds : Type 0) where
  -- a part on the value under the CPU's lock and the hand is that part on the side
  pub part_alike : (p : Part) (known : Known) (idle empty : Type 0) (h : HandAndCpu) (s : Side) (into : Option ℕ) → IsReady w worker e now h.value.cpu known idle s →
      Needs w worker e now h.value.cpu p known idle → NeedsHere h.value.cpu worker holds p empty → IsHeldOn worker holds h s → (empty → h.hand ≡ None) →
      ArePartsAlike worker holds (empty_after p empty) h (part_on_cpu now p (h, into)) (part_done h.value.cpu now p (s, into))
  part_alike (note t place change) known idle empty h s into ready needs here held none =
      subst (λ (u : ℕ). ArePartsAlike worker holds empty h (part_on_cpu now (note u place change) (h, into)) (part_done h.value.cpu now (note u place change) (s, into))) number (at_place place at.place_is here)
    where
      at : StandsAt t place s.members
      at = ready.stands t place needs.0

      m : Member
      m = at.member

      number : m.thread.id ≡ t
      number = (has_thread_of t m s.members at.found).1

      v : Within m.thread.id m s.members
      v = within_found (is_numbered t) s.members m ready.made at.found

      -- on the CPU
      on_cpu : IsOnCpu h.value.cpu m.place →
          ArePartsAlike worker holds empty h (record h { value = with_thread_after now m.thread.id change h.value }, into) (record s { members = with_change s.settings now m.thread.id change s.members }, into)
      on_cpu on = record {
        held = record {
          stands = changed_stands now m.thread.id change m h.value s held.stands v;
          hand = λ has.
              hand_kept worker m.thread.id m s.members (changed_by s.settings now change) v (change_number s.settings now change m.thread) (off_hand worker h.value.cpu m.place on)
              (off_hand worker h.value.cpu m.place on) h.hand (held.hand has);
        };
        answer = refl;
        cpu = refl;
        empty_hand = none;
      }

      -- in the hand
      in_hand : (g : ℕ) → m.place ≡ Hand g → g ≡ worker →
          ArePartsAlike worker holds empty h (record h { hand = option_map (record_after h.value.settings now change) h.hand }, into) (record s { members = with_change s.settings now m.thread.id change s.members }, into)
      in_hand g is own = record {
        held = record {
          stands = (elsewhere_recorded m.thread.id (record_after s.settings now change) m h.value s (change_number s.settings now change) held.stands v (ap (is_on h.value.cpu) is)).1;
          hand = λ has.
              subst (λ (x : Settings). IsThis worker (with_change s.settings now m.thread.id change s.members) (option_map (record_after x now change) h.hand)) (sym held.stands.settings)
              (hand_noted worker m s.members h.hand (record_after s.settings now change) (change_number s.settings now change m.thread) v (in_own_hand worker g m.place is own) (held.hand has));
        };
        answer = refl;
        cpu = refl;
        empty_hand = λ is. ap (option_map (record_after h.value.settings now change)) (none is);
      }

      at_place : (p : Place) → m.place ≡ p → IsOnOrHeld h.value.cpu (λ g. g ≡ worker) p →
          ArePartsAlike worker holds empty h (part_on_cpu now (note m.thread.id p change) (h, into)) (part_done h.value.cpu now (note m.thread.id p change) (s, into))
      at_place (Running d) is on = on_cpu (subst (IsOnCpu h.value.cpu) (sym is) on)
      at_place (Queued d k b) is on = on_cpu (subst (IsOnCpu h.value.cpu) (sym is) on)
      at_place (Asleep channel) is on = absurd on
      at_place Unborn is on = absurd on
      at_place Gone is on = absurd on
      at_place (Hand g) is own = in_hand g is own
  part_alike (insert t from how) known idle empty h s into ready needs here held none =
      subst (λ (u : ℕ). ArePartsAlike worker holds ⊥ h (part_on_cpu now (insert u from how) (h, into)) (part_done h.value.cpu now (insert u from how) (s, into))) number (at_place from at.place_is here)
    where
      at : StandsAt t from s.members
      at = ready.stands t from needs.0

      m : Member
      m = at.member

      number : m.thread.id ≡ t
      number = (has_thread_of t m s.members at.found).1

      v : Within m.thread.id m s.members
      v = within_found (is_numbered t) s.members m ready.made at.found

      -- the place of the thread in its queue
      queued_at : Side → Member → Member
      queued_at left = moved_member (place_of_insertion how h.value.cpu left.line m.thread.priority) (order_of_insertion how h.value.cpu left.line m.thread.priority (others m.thread.id left.members))

      -- the threads with it queued
      queued_is : (left : Side) → left.members ≡ s.members → (queued how h.value.cpu m.thread.id left).members ≡ changed m.thread.id (queued_at left) left.members
      queued_is left same =
          ap (λ (o : Option Member). (with_queued how h.value.cpu o left).members) (ap (λ (ms : List Member). thread_of m.thread.id ms) same ∙ thread_of_within m.thread.id m s.members v)

      -- from its place on the CPU
      on_cpu : (p : Place) → m.place ≡ p → IsOnCpu h.value.cpu p →
          ArePartsAlike worker holds ⊥ h (record h { value = inserted_anew p how m.thread.id h.value }, into) (queued how h.value.cpu m.thread.id (leaving p h.value.cpu m.thread.id s), into)
      on_cpu p is on =
          let put = anew_stands p how m h.value s v held.stands is on in record {
            held = record {
              stands = put.stands;
              hand = λ has.
                  subst (λ (ms : List Member). IsThis worker ms h.hand) (sym (queued_is (leaving p h.value.cpu m.thread.id s) refl))
                  (hand_kept worker m.thread.id m s.members (queued_at (leaving p h.value.cpu m.thread.id s)) v refl (ap (is_hand_of worker) is ∙ off_hand worker h.value.cpu p on) refl h.hand (held.hand has));
            };
            answer = refl;
            cpu = put.cpu;
            empty_hand = λ is. absurd is;
          }

      -- from the hand
      from_hand : (g : ℕ) → m.place ≡ Hand g → holds × (g ≡ worker) →
          ArePartsAlike worker holds ⊥ h (inserted_from_hand how h.hand h, into) (queued how h.value.cpu m.thread.id s, into)
      from_hand g is own =
          let here = in_own_hand worker g m.place is own.1 in
          let this = hand_is worker m s.members h.hand v here (held.hand own.0) in
          let joined = inserted_stands how m _ s v (absent_lifted m h.value s v held.stands (ap (is_on h.value.cpu) is)) in
          subst (λ (o : Option ThreadRecord). ArePartsAlike worker holds ⊥ h (inserted_from_hand how o h, into) (queued how h.value.cpu m.thread.id s, into)) (sym this)
          (record {
            held = record {
              stands = joined.stands;
              hand = λ has.
                  subst (λ (ms : List Member). IsThis worker ms None) (sym (queued_is s refl))
                  (take_out_of worker m.thread.id m s.members (queued_at s) v refl here refl m.thread (subst (IsThis worker s.members) this (held.hand has)));
            };
            answer = refl;
            cpu = joined.cpu;
            empty_hand = λ is. absurd is;
          })

      at_place : (p : Place) → m.place ≡ p → IsOnOrHeld h.value.cpu (λ g. holds × (g ≡ worker)) p →
          ArePartsAlike worker holds ⊥ h (part_on_cpu now (insert m.thread.id p how) (h, into)) (part_done h.value.cpu now (insert m.thread.id p how) (s, into))
      at_place (Running d) is on = on_cpu (Running d) is on
      at_place (Queued d k b) is on = on_cpu (Queued d k b) is on
      at_place (Asleep channel) is on = absurd on
      at_place Unborn is on = absurd on
      at_place Gone is on = absurd on
      at_place (Hand g) is own = from_hand g is own
  part_alike (move t from to) known idle empty h s into ready needs here held none =
      subst (λ (place : Place). ArePartsAlike worker holds ⊥ h (part_on_cpu now (move t from place) (h, into)) (part_done h.value.cpu now (move t from place) (s, into))) (sym here.2)
      (subst (λ (u : ℕ). ArePartsAlike worker holds ⊥ h (part_on_cpu now (move u from (Hand worker)) (h, into)) (part_done h.value.cpu now (move u from (Hand worker)) (s, into))) number taken)
    where
      at : StandsAt t from s.members
      at = ready.stands t from needs.0

      m : Member
      m = at.member

      number : m.thread.id ≡ t
      number = (has_thread_of t m s.members at.found).1

      v : Within m.thread.id m s.members
      v = within_found (is_numbered t) s.members m ready.made at.found

      beside : StandsBeside m (value_leaving from m.thread.id h.value) (leaving from h.value.cpu m.thread.id s) (v.before ++ v.after)
      beside = left_beside from m h.value s v held.stands at.place_is here.1

      taken : ArePartsAlike worker holds ⊥ h (part_on_cpu now (move m.thread.id from (Hand worker)) (h, into)) (part_done h.value.cpu now (move m.thread.id from (Hand worker)) (s, into))
      taken = record {
        held = record {
          stands = gone_put m (value_leaving from m.thread.id h.value) (leaving from h.value.cpu m.thread.id s) v beside (Hand worker) (pos 0) refl;
          hand = λ has.
              subst (IsThis worker (moved_to m.thread.id (Hand worker) (pos 0) s.members)) (sym beside.own)
              (put_in worker m.thread.id m s.members (moved_member (Hand worker) (pos 0)) v refl (eq-eqb worker worker refl) (subst (IsThis worker s.members) (none (here.0 has)) (held.hand has)));
        };
        answer = refl;
        cpu = leaving_cpu from m.thread.id h.value;
        empty_hand = λ is. absurd is;
      }
  part_alike choose known idle empty h s into ready needs here held none =
      let runner : h.value.current ≡ None = held.stands.current ∙ ap (option_map (λ (m : Member). m.thread.id)) (ready.none needs) in
      let next = choosing_stands now h.value s held.stands ready.made runner in record {
        held = record { stands = next.stands; hand = λ has. chosen_hand s h.hand ready.made (held.hand has) };
        answer = next.answer;
        cpu = next.cpu;
        empty_hand = none;
      }
    where
      chosen_hand : (s : Side) (hand : Option ThreadRecord) → IsWellMade s.members → IsThis worker s.members hand → IsThis worker (choosing_next h.value.cpu now s).0.members hand
      chosen_hand s hand made this = split (choice_of h.value.cpu s.line.ridx s.members) refl
        where
          split : (o : Option Member) → choice_of h.value.cpu s.line.ridx s.members ≡ o → IsThis worker (running_chosen h.value.cpu now o s).0.members hand
          split None found = this
          split (Some m) found =
              let stands = choice_stands h.value.cpu s.line.ridx m s.members found in
              let f = moved_member (Running h.value.cpu) (pos 0) in
              let g = changed_by s.settings now runs in
              subst (λ (ms : List Member). IsThis worker ms hand) (sym (changed_further m.thread.id f g s.members (λ n. refl)))
              (hand_kept worker m.thread.id m s.members (λ n. g (f n)) (within_has m s.members made stands.0) refl
              (ap (is_number worker) (no_hand_under h.value.cpu m.place (lock_where_waits h.value.cpu m.place stands.1))) refl hand this)
  part_alike clear_marks known idle empty h s into ready needs here held none =
      numbers_alike worker holds empty h s (part_done h.value.cpu now clear_marks (s, into)).0 into (part_on_cpu now clear_marks (h, into)).0.value held none (marks_stand h.value s held.stands) refl refl
  part_alike count_switch known idle empty h s into ready needs here held none =
      numbers_alike worker holds empty h s (part_done h.value.cpu now count_switch (s, into)).0 into (part_on_cpu now count_switch (h, into)).0.value held none (count_stands h.value s held.stands) refl refl
  part_alike (mark_if takes) known idle empty h s into ready needs here held none =
      numbers_alike worker holds empty h s (part_done h.value.cpu now (mark_if takes) (s, into)).0 into (part_on_cpu now (mark_if takes) (h, into)).0.value held none
      (with_line_stands (marked_if takes) h.value s held.stands.index held.stands) refl refl
  part_alike (end_slice_if ended) known idle empty h s into ready needs here held none =
      numbers_alike worker holds empty h s (part_done h.value.cpu now (end_slice_if ended) (s, into)).0 into (part_on_cpu now (end_slice_if ended) (h, into)).0.value held none
      (with_line_stands (marked_at_end ended) h.value s held.stands.index held.stands) refl refl
  part_alike clock known idle empty h s into ready needs here held none =
      numbers_alike worker holds empty h s (part_done h.value.cpu now clock (s, into)).0 into (part_on_cpu now clock (h, into)).0.value held none (clocked_stands h.value s held.stands) refl refl

  -- ---- and one induction

  -- parts that follow are on the value and the hand what they are on the side of CPU c
  pub parts_alike : (ps : List Part) (c : ℕ) (known : Known) (idle empty : Type 0) (h : HandAndCpu) (s : Side) (into : Option ℕ) → is_among (locks_of w e) c ≡ true → h.value.cpu ≡ c →
      IsReady w worker e now c known idle s → Follows w worker e now c known idle ps → FollowsHere c worker holds empty ps → IsHeldOn worker holds h s → (empty → h.hand ≡ None) →
      ArePartsAlike worker holds ⊥ h (parts_on_cpu now ps (h, into)) (parts_done c now ps (s, into))
  parts_alike [] c known idle empty h s into among cpu ready follows here held none = record { held = held; answer = refl; cpu = refl; empty_hand = λ is. absurd is }
  parts_alike (p ∷ ps) c known idle empty h s into among cpu ready follows here held none =
      let one =
      subst (λ (d : ℕ). IsReady w worker e now d known idle s → Needs w worker e now d p known idle → NeedsHere d worker holds p empty →
      ArePartsAlike worker holds (empty_after p empty) h (part_on_cpu now p (h, into)) (part_done d now p (s, into))) cpu
      (λ ready needs here. part_alike p known idle empty h s into ready needs here held none) ready follows.0 here.0 in
      let next = part_done c now p (s, into) in
      let made = part_on_cpu now p (h, into) in
      let rest =
      subst (λ (o : Option ℕ). ArePartsAlike worker holds ⊥ made.0 (parts_on_cpu now ps made) (parts_done c now ps (next.0, o))) one.answer
      (parts_alike ps c (known_after p known) (idle_after c p idle) (empty_after p empty) made.0 next.0 made.1 among (one.cpu ∙ cpu)
      (part_step w worker e now c p known idle s into among ready follows.0).ready follows.2 here.1 one.held one.empty_hand) in
      record { held = rest.held; answer = rest.answer; cpu = rest.cpu ∙ one.cpu; empty_hand = λ is. absurd is }

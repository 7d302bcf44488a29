-- What a tick, a switch, a drop and a landing make of a CPU's value and of the worker's hand is what they make of its
-- side of a world.
use Rattle.std.proofs.Common.{◌≡◌, ℕ, ◌+◌, ◌==◌, Bool, false, not, List, ◌++◌, slice_set, if◌then◌else◌, Option, Some, None, refl, sym, ◌∙◌, ap, subst, set-set}
use Rattle.std.specs.Option.{option_map}
use Rattle.ule_prio.specs.Kind.{kind_at}
use Rattle.ule_prio.specs.Preemption.{takes_over}
use Rattle.ule_score.specs.Changes.{RecordChange, placed, placed_on, record_after}
use Rattle.ule_score.specs.declared.record.CpuLine.{CpuLine}
use Rattle.ule_score.specs.declared.record.Settings.{Settings}
use Rattle.ule_score.specs.declared.record.ThreadRecord.{ThreadRecord}
use Rattle.ule_types.specs.declared.event.Reply.{Reply}
use Rattle.ule_types.specs.declared.event.Reply.TheVariants.{Landed}
use Rattle.ule_model.specs.CpuValue.{CpuValue, StandsFor, takes_over_in, value_added, value_laid}
use Rattle.ule_model.specs.Insertion.{bucket_of, queued}
use Rattle.ule_model.specs.declared.insertion.Insertion.TheVariants.{Ordinary}
use Rattle.ule_model.specs.Landing.{current_priority, current_record, is_taking_over, marked_if}
use Rattle.ule_model.specs.CpuActions.{landed}
use Rattle.ule_model.specs.Action.{action_done}
use Rattle.ule_model.specs.Actions.{land_action}
use Rattle.ule_model.specs.ActionStep.{seen_on}
use Rattle.ule_model.specs.Places.{is_on}
use Rattle.ule_model.specs.WellMade.{IsWellMade}
use Rattle.ule_model.specs.World.{Member, Side, standing_of, thread_of, with_change}
use Rattle.ule_laws.proofs.Beside.{StandsBeside, absent_lifted}
use Rattle.ule_laws.proofs.ChoosingLaws.{changed_stands}
use Rattle.ule_laws.proofs.CpuNumbers.{current_in_is}
use Rattle.ule_laws.proofs.CpuLines.{with_line_stands}
use Rattle.ule_laws.proofs.Queueing.{IsJoined, inserted_stands}
use Rattle.ule_laws.proofs.WellMade.{well_made-with_change}
use Rattle.ule_members.proofs.Threads.{thread_of-changed, thread_on_within}
use Rattle.ule_members.proofs.Within.{Within, within_thread}

-- ---- a landing

-- what a landing of m gives, on the value and on the side
pub record AreLanded (m : Member) (remote : Bool) (v : CpuValue) (meant : Side × Reply) : Type 0 where
  pub stands : StandsFor (value_added m.thread remote v) meant.0
  pub answer : meant.1 ≡ Landed (kind_at m.thread.priority) (bucket_of (kind_at m.thread.priority) Ordinary v.line m.thread.priority) (takes_over_in m.thread.priority remote v)
  pub well_made : IsWellMade meant.0.members
  pub cpu : (value_added m.thread remote v).cpu ≡ v.cpu

-- a change of the record of a thread on no CPU leaves what a value stands for
off_changed : (now t : ℕ) (change : RecordChange) (m : Member) (v : CpuValue) (s : Side) → StandsFor v s → Within t m s.members → is_on v.cpu m.place ≡ false →
    StandsFor (record v { threads = slice_set v.threads t None }) (record s { members = with_change s.settings now t change s.members })
off_changed now t change m v s stands w off =
    subst (λ (o : Option ThreadRecord). StandsFor (record v { threads = slice_set v.threads t (option_map (record_after v.settings now change) o) })
    (record s { members = with_change s.settings now t change s.members }))
    (stands.threads t ∙ ap (option_map (λ (n : Member). n.thread)) (thread_on_within v.cpu t m s.members w ∙ ap (λ d. if d then Some m else None) off))
    (changed_stands now t change m v s stands w)

-- a thread on no CPU comes to this one, and is queued
placed_stands : (now : ℕ) (m : Member) (v : CpuValue) (s : Side) → StandsFor v s → IsWellMade s.members → Within m.thread.id m s.members → is_on v.cpu m.place ≡ false →
    IsJoined v (value_laid (placed_on v.cpu m.thread) v)
    (queued Ordinary v.cpu m.thread.id (record s { members = with_change s.settings now m.thread.id (placed v.cpu) s.members }))
placed_stands now m v s stands made w off =
    record { stands = joined.stands; well_made = joined.well_made; cpu = joined.cpu; current = joined.current; line = joined.line }
  where
    t : ℕ
    t = m.thread.id

    n : Member
    n = record m { thread = record_after s.settings now (placed v.cpu) m.thread }

    changed_side : Side
    changed_side = record s { members = with_change s.settings now t (placed v.cpu) s.members }

    with_one : CpuValue
    with_one = record v { threads = slice_set v.threads t (Some n.thread); load = v.load + 1 }

    within : Within t n changed_side.members
    within =
        within_thread t changed_side.members n (well_made-with_change s.settings now t (placed v.cpu) s.members tt made)
        (thread_of-changed t m s.members w (λ x. record x { thread = record_after s.settings now (placed v.cpu) x.thread }) refl)

    beside : StandsBeside n with_one changed_side (within.before ++ within.after)
    beside =
        subst (λ (threads : List (Option ThreadRecord)). StandsBeside n (record v { threads = threads; load = v.load + 1 }) changed_side (within.before ++ within.after))
        (set-set v.threads t None (Some n.thread))
        (absent_lifted n (record v { threads = slice_set v.threads t None }) changed_side within (off_changed now t (placed v.cpu) m v s stands w off) off)

    joined : IsJoined with_one (value_laid n.thread v) (queued Ordinary v.cpu t changed_side)
    joined = inserted_stands Ordinary n with_one changed_side within beside

-- what a thread takes over, it takes over on the side
pub takes_alike : (worker p : ℕ) (v : CpuValue) (s : Side) → StandsFor v s → IsWellMade s.members →
    takes_over_in p (not (worker == v.cpu)) v ≡ is_taking_over p v.cpu worker s
takes_alike worker p v s stands made =
    ap (λ (o : Option ThreadRecord). takes_over p (current_priority o) (not (worker == v.cpu)) v.settings.preempt) (current_in_is v s stands made)
    ∙ ap (λ (settings : Settings). takes_over p (current_priority (current_record v.cpu s.members)) (not (worker == v.cpu)) settings.preempt) stands.settings

-- the step of a landing
pub landed_stands : (worker now : ℕ) (m : Member) (v : CpuValue) (s : Side) → StandsFor v s → IsWellMade s.members →
    thread_of m.thread.id s.members ≡ Some m → is_on v.cpu m.place ≡ false →
    AreLanded m (not (worker == v.cpu)) v (landed m.thread.id v.cpu worker now s)
landed_stands worker now m v s stands made found off =
    subst (λ (o : Option Member). AreLanded m (not (worker == v.cpu)) v (action_done v.cpu now (land_action m.thread.id (option_map standing_of o) (seen_on v.cpu worker now o s)) s)) (sym found)
    (subst (λ (takes : Bool). AreLanded m (not (worker == v.cpu)) v (meant takes)) (takes_alike worker p v s stands made)
    (record {
      stands = with_line_stands (marked_if takes) (value_laid (placed_on v.cpu m.thread) v) next joined.stands.index joined.stands;
      answer = ap (λ (line : CpuLine). Landed (kind_at p) (bucket_of (kind_at p) Ordinary line p) takes) (sym stands.line);
      well_made = joined.well_made;
      cpu = joined.cpu;
    }))
  where
    p : ℕ
    p = m.thread.priority

    takes : Bool
    takes = takes_over_in p (not (worker == v.cpu)) v

    next : Side
    next = queued Ordinary v.cpu m.thread.id (record s { members = with_change s.settings now m.thread.id (placed v.cpu) s.members })

    meant : Bool → Side × Reply
    meant d = (record next { line = marked_if d next.line }, Landed (kind_at p) (bucket_of (kind_at p) Ordinary s.line p) d)

    joined : IsJoined v (value_laid (placed_on v.cpu m.thread) v) next
    joined = placed_stands now m v s stands made (within_thread m.thread.id s.members m made found) off

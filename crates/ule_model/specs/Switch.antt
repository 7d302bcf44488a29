-- The switch of a CPU, after sched_switch and choosethread; and how a thread leaves its place on a CPU.
use Rattle.std.specs.Prelude.{ℕ, Bool, false, not, ◌==◌, pos, List, length, Option, Some, None, if◌then◌else◌}
pub use Rattle.ule_io.specs.Counter.{one_more}
use Rattle.ule_prio.specs.declared.kind.Kind.{Kind}
use Rattle.ule_prio.specs.declared.kind.Kind.TheVariants.{Real, Batch, Idle}
use Rattle.ule_score.specs.Changes.{runs}
use Rattle.ule_score.specs.declared.place.Place.{Place}
use Rattle.ule_score.specs.declared.place.Place.TheVariants.{Running, Queued, Asleep, Unborn, Gone, Hand}
use Rattle.ule_score.specs.declared.record.CpuLine.{CpuLine}
use Rattle.ule_score.specs.declared.record.Why.{Why}
use Rattle.ule_score.specs.declared.record.Why.TheVariants.{Yield, Resched}
use Rattle.ule_types.specs.declared.event.Reply.{Reply}
use Rattle.ule_types.specs.declared.event.Reply.TheVariants.{Nothing, Switched}
use Rattle.ule_model.specs.CalendarIndexes.{ridx_after_removal}
use Rattle.ule_model.specs.Choice.{choice_of}
use Rattle.ule_model.specs.Insertion.{Insertion, Ordinary, Preempted, members_in}
use Rattle.ule_model.specs.World.{Member, Side, moved_to, others, with_change}

-- ---- leaving a place

-- the numbers of CPU c after a thread left the calendar, where these threads are left
abbrev pub after_batch_removal : ℕ → CpuLine → List Member → CpuLine
after_batch_removal c line left =
    record line { ridx = ridx_after_removal line.idx line.ridx (length (members_in c Batch line.ridx left) == 0) }

-- the numbers of CPU c after a thread left its queue of this kind
abbrev pub after_queue_removal : Kind → ℕ → CpuLine → List Member → CpuLine
after_queue_removal Real c line left = line
after_queue_removal Batch c line left = after_batch_removal c line left
after_queue_removal Idle c line left = line

-- the numbers of CPU c after a thread left this place
abbrev pub after_leaving : Place → ℕ → CpuLine → List Member → CpuLine
after_leaving (Queued d k b) c line left = after_queue_removal k c line left
after_leaving (Running d) c line left = line
after_leaving (Asleep channel) c line left = line
after_leaving Unborn c line left = line
after_leaving Gone c line left = line
after_leaving (Hand w) c line left = line

-- the side of CPU c where this thread has left its place, by the index rule
abbrev pub lifted : ℕ → Member → Side → Side
lifted c m s = record s { line = after_leaving m.place c s.line (others m.thread.id s.members) }

-- ---- the next thread

-- the side with this thread running on CPU c
abbrev pub put_running : ℕ → ℕ → Member → Side → Side
put_running c now m s =
    record s { members = with_change s.settings now m.thread.id runs (moved_to m.thread.id (Running c) (pos 0) s.members) }

-- what choosing comes to: the side, and the thread that runs now
abbrev pub running_chosen : ℕ → ℕ → Option Member → Side → Side × Option ℕ
running_chosen c now None s = (s, None)
running_chosen c now (Some m) s = (put_running c now m (lifted c m s), Some m.thread.id)

-- the next thread of CPU c is chosen, and runs
abbrev pub choosing_next : ℕ → ℕ → Side → Side × Option ℕ
choosing_next c now s = running_chosen c now (choice_of c s.line.ridx s.members) s

-- ---- the switch

-- the side without marks
abbrev pub unmarked : Side → Side
unmarked s = record s { line = record s.line { resched = false; slice_end = false } }

-- the side with one switch more
abbrev pub counted : Side → Side
counted s = record s { line = record s.line { switches = one_more s.line.switches } }

-- the thread that gives way keeps its turn where it was preempted
abbrev pub insertion_of : Bool → Insertion
insertion_of preempted = if preempted then Preempted else Ordinary

-- the reply where there was no current thread
abbrev pub started_reply : Option ℕ → Reply
started_reply None = Nothing
started_reply (Some t) = Switched None (Some t) false

-- whether a switch for this reason takes the processor from a thread that would have gone on
abbrev pub is_preemption : Why → Bool → Bool
is_preemption Yield slice_end = false
is_preemption Resched slice_end = not slice_end

-- whether nothing asks for a switch that wants to be asked for
abbrev pub is_unasked : Why → Bool → Bool
is_unasked Yield resched = false
is_unasked Resched resched = not resched

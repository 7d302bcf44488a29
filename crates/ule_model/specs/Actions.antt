-- What each event does, as an action by what the event sees under its lock and in the worker's hand: one page.
use Rattle.std.specs.Prelude.{ℕ, Bool, true, false, nat_le, nat_lt, ◌==◌, ◌||◌, [], ◌∷◌, Option, Some, None, if◌then◌else◌}
use Rattle.ule_prio.specs.Kind.{kind_at}
use Rattle.ule_prio.specs.Preemption.{takes_over}
use Rattle.ule_score.specs.Changes.{RecordChange, after_change, after_sleep, after_tick, changed, forked, forks, placed, ran, record_after, sleeps, ticked, woken}
use Rattle.ule_score.specs.declared.place.Place.{Place}
use Rattle.ule_score.specs.declared.place.Place.TheVariants.{Running, Queued, Asleep, Unborn, Gone, Hand}
use Rattle.ule_score.specs.declared.record.Change.{Change}
use Rattle.ule_score.specs.declared.record.Change.TheVariants as change
use Rattle.ule_score.specs.declared.record.CpuLine.{CpuLine}
use Rattle.ule_score.specs.declared.record.Settings.{Settings}
use Rattle.ule_score.specs.declared.record.ThreadRecord.{ThreadRecord}
use Rattle.ule_score.specs.declared.record.Why.{Why}
use Rattle.ule_threads.specs.declared.standing.Standing.{Standing}
use Rattle.ule_types.specs.declared.event.Event.{Event}
use Rattle.ule_types.specs.declared.event.Event.TheVariants.{Tick, Switch, Drop, Bed, Wake, Look, Land, Move, Lend, Unlend, Renice, Hatch, Fork, Return, Exit, Bury, Inherit}
use Rattle.ule_types.specs.declared.event.MoveWhy.{MoveWhy}
use Rattle.ule_types.specs.declared.event.MoveWhy.TheVariants.{Steal, Balance}
use Rattle.ule_types.specs.declared.event.Reply.{Reply}
use Rattle.ule_types.specs.declared.event.Reply.TheVariants as answer
use Rattle.ule_types.specs.declared.event.Reply.TheVariants.{Ticked, Unmarked, Nothing, Switched, Dropped, Bedded, NotAsleep, Woken, Landed, Moved, NoneMovable, Changed, NotAllowed, Hatched, Forked, Returned, Exited, Buried, ParentGone}
use Rattle.ule_model.specs.Action.{Action, PairAction, answers, choose, clear_marks, clock, count_switch, end_slice_if, insert, mark_if, move, note, pair_answers}
use Rattle.ule_model.specs.Insertion.{Ordinary, Borrowing, bucket_of}
use Rattle.ule_model.specs.Landing.{current_priority}
use Rattle.ule_model.specs.Switch.{insertion_of, is_preemption, is_unasked, started_reply}
use Rattle.ule_model.specs.Tick.{is_due}

-- what an event of a worker sees under its lock: the numbers of the CPU, its load, its movable count and its low priority, its
-- current thread and the one that it gives to another CPU, whether the worker is another CPU's, and the thread that the event
-- names, which is there or in the worker's hand
pub record Seen : Type 0 where
  pub cpu : ℕ
  pub worker : ℕ
  pub remote : Bool
  pub now : ℕ
  pub settings : Settings
  pub line : CpuLine
  pub load : ℕ
  pub movable : ℕ
  pub lowpri : ℕ
  pub current : Option ThreadRecord
  pub given : Option Standing
  pub named : Option Standing

-- whether a thread of priority p takes over from the current thread
abbrev pub takes_over_seen : ℕ → Seen → Bool
takes_over_seen p at = takes_over p (current_priority at.current) at.remote at.settings.preempt

-- ---- a tick, after sched_clock

-- the CPU's numbers go on; the current thread is charged, and its slice may end
abbrev pub tick_action : Option ThreadRecord → Seen → Action
tick_action None at = record { parts = clock ∷ []; reply = λ into. Ticked None (is_due at.cpu at.line.balance) false }
tick_action (Some r) at =
    let ended = (after_tick at.settings at.now at.load r).1 in record {
      parts = clock ∷ note r.id (Running at.cpu) (ticked at.load) ∷ end_slice_if ended ∷ [];
      reply = λ into. Ticked (Some r.id) (is_due at.cpu at.line.balance) ended;
    }

-- ---- a switch, after sched_switch

-- the current thread, if there is one, is queued again, and the next is chosen
abbrev pub give_way_action : Bool → Option ThreadRecord → Seen → Action
give_way_action preempted None at = record { parts = clear_marks ∷ choose ∷ []; reply = started_reply }
give_way_action preempted (Some r) at = record {
  parts = clear_marks ∷ note r.id (Running at.cpu) ran ∷ count_switch ∷ insert r.id (Running at.cpu) (insertion_of preempted) ∷ choose ∷ [];
  reply = λ into. Switched (Some r.id) into preempted;
}

-- nothing changes where a switch has to be asked for and isn't
abbrev pub switch_action : Why → Seen → Action
switch_action why at =
    if is_unasked why at.line.resched then answers Unmarked
    else give_way_action (is_preemption why at.line.slice_end) at.current at

-- ---- a thread that leaves its CPU

-- the current thread goes to the hand, where this change is noted, and the next is chosen; this replies, by the record
-- that left and the thread that runs now
abbrev pub leave_action : RecordChange → (ThreadRecord → Option ℕ → Reply) → Option ThreadRecord → Seen → Action
leave_action change reply None at = answers Nothing
leave_action change reply (Some r) at = record {
  parts = move r.id (Running at.cpu) (Hand at.worker) ∷ note r.id (Hand at.worker) change ∷ clear_marks ∷ count_switch ∷ choose ∷ [];
  reply = reply r;
}

-- to sleep, after sched_sleep and mi_switch
abbrev pub drop_action : Seen → Action
drop_action at = leave_action sleeps (λ r into. Dropped r.id into) at.current at

-- for good, after sched_throw: the time at which it fell asleep stays
abbrev pub exit_action : Seen → Action
exit_action at = leave_action ran (λ r into. Exited r.id into r.parent r.hist.run) at.current at

-- ---- a thread that goes as it is

-- thread t, if it is there, goes from its place to another on no CPU
abbrev pub go_action : ℕ → Place → Reply → Option Standing → Action
go_action t to reply None = answers Nothing
go_action t to reply (Some s) = record { parts = move t s.place to ∷ []; reply = λ into. reply }

-- ---- a wake, after sched_wakeup

-- what a woken thread's record tells
abbrev pub woken_reply : ThreadRecord → Reply
woken_reply r = Woken r.priority r.bound r.last r.last_run

-- a sleeping thread goes to the hand, where its sleep is noted; one at another place stays
abbrev pub wake_action_at : Place → ℕ → ThreadRecord → Seen → Action
wake_action_at (Asleep channel) t r at = record {
  parts = move t (Asleep channel) (Hand at.worker) ∷ note t (Hand at.worker) woken ∷ [];
  reply = λ into. woken_reply (after_sleep at.settings at.now r);
}
wake_action_at place t r at = answers (NotAsleep place)

abbrev pub wake_action : ℕ → Option Standing → Seen → Action
wake_action t None at = answers Nothing
wake_action t (Some s) at = wake_action_at s.place t s.thread at

-- ---- a landing, after sched_add

-- the thread in hand is queued on the CPU, which is marked where the thread takes over
abbrev pub land_action : ℕ → Option Standing → Seen → Action
land_action t None at = answers Nothing
land_action t (Some s) at =
    let p = s.thread.priority in let takes = takes_over_seen p at in record {
      parts = note t (Hand at.worker) (placed at.cpu) ∷ insert t (Hand at.worker) Ordinary ∷ mark_if takes ∷ [];
      reply = λ into. Landed (kind_at p) (bucket_of (kind_at p) Ordinary at.line p) takes;
    }

-- ---- a move between two CPUs, after tdq_move and sched_balance_pair

-- whether a move is refused: a steal is one from a CPU with enough threads to an empty one, a balance one from a greater load to
-- a smaller, and each needs a movable thread
abbrev pub is_refused : MoveWhy → Seen → Seen → Bool
is_refused Steal from to = nat_lt 0 to.load || (nat_lt from.load from.settings.steal || (from.movable == 0))
is_refused Balance from to = (from.movable == 0) || nat_le from.load to.load

-- what a refused move tells: nothing changes
abbrev pub refused_action : Seen → Seen → PairAction
refused_action from to = pair_answers (NoneMovable from.load from.movable to.load)

-- this thread leaves its place on the first CPU, and lands on the second
abbrev pub given_action : Option Standing → Seen → Seen → PairAction
given_action None from to = refused_action from to
given_action (Some s) from to =
    let t = s.thread.id in let p = s.thread.priority in let takes = takes_over_seen p to in record {
      from = move t s.place (Hand from.worker) ∷ [];
      to = note t (Hand to.worker) (placed to.cpu) ∷ insert t (Hand to.worker) Ordinary ∷ mark_if takes ∷ [];
      reply = Moved t (kind_at p) (bucket_of (kind_at p) Ordinary to.line p) takes;
    }

abbrev pub move_action : MoveWhy → Seen → Seen → PairAction
move_action why from to = if is_refused why from to then refused_action from to else given_action from.given from to

-- ---- a change that can move a priority, after sched_thread_priority

-- what a change answers of a thread that is gone: none is made
abbrev pub gone_answer : Change → Reply
gone_answer (change.Lend p) = NotAllowed Gone
gone_answer change.Unlend = NotAllowed Gone
gone_answer (change.Renice n) = NotAllowed Gone
gone_answer (change.Inherit run) = ParentGone

-- what a change answers of an unborn thread, where none is made; run time is charged to one all the same
abbrev pub unborn_answer : Change → Option Reply
unborn_answer (change.Lend p) = Some (NotAllowed Unborn)
unborn_answer change.Unlend = Some (NotAllowed Unborn)
unborn_answer (change.Renice n) = Some (NotAllowed Unborn)
unborn_answer (change.Inherit run) = None

-- the record changes, and the thread keeps its place
abbrev pub note_action : Place → Change → ℕ → ThreadRecord → Action
note_action place given t new = record { parts = note t place (changed given) ∷ []; reply = λ into. Changed new.priority false false }

-- a queued thread whose priority got better is queued anew as borrowing; the CPU is marked where it takes over
abbrev pub requeue_action : Place → Change → ℕ → ThreadRecord → Seen → Action
requeue_action place given t new at =
    let takes = takes_over_seen new.priority at in record {
      parts = note t place (changed given) ∷ insert t place Borrowing ∷ mark_if takes ∷ [];
      reply = λ into. Changed new.priority true takes;
    }

-- an unborn thread is changed, unless it is answered so
abbrev pub unborn_action : Option Reply → Change → ℕ → ThreadRecord → Action
unborn_action None given t new = note_action Unborn given t new
unborn_action (Some refusal) given t new = answers refusal

-- by the place of the thread, which has this record before and that one after
abbrev pub change_action_at : Place → Change → ℕ → ThreadRecord → ThreadRecord → Seen → Action
change_action_at (Running c) given t r new at = note_action (Running c) given t new
change_action_at (Queued c k b) given t r new at =
    if nat_lt new.priority r.priority then requeue_action (Queued c k b) given t new at else note_action (Queued c k b) given t new
change_action_at (Asleep channel) given t r new at = note_action (Asleep channel) given t new
change_action_at Unborn given t r new at = unborn_action (unborn_answer given) given t new
change_action_at Gone given t r new at = answers (gone_answer given)
change_action_at (Hand w) given t r new at = answers Nothing

abbrev pub change_action : Change → ℕ → Option Standing → Seen → Action
change_action given t None at = answers Nothing
change_action given t (Some s) at = change_action_at s.place given t s.thread (after_change at.settings given s.thread) at

-- ---- a fork, after sched_fork

-- the thread in hand becomes a child of the current thread, which is charged for it
abbrev pub fork_action : ℕ → Option ThreadRecord → Option Standing → Seen → Action
fork_action t None child at = answers Nothing
fork_action t (Some r) None at = answers Nothing
fork_action t (Some r) (Some child) at =
    let birth = forked r at.cpu at.load in record {
      parts = note t (Hand at.worker) birth ∷ note r.id (Running at.cpu) forks ∷ [];
      reply = λ into. Forked r.id (record_after at.settings at.now birth child.thread).priority;
    }

-- ---- the page

-- the action of each event under one lock. A bed is after sleepq_add, a loan sched_lend_prio, its end sched_unlend_prio, a nice value
-- sched_nice, a burial thread_exit, a charge sched_exit; a look reads what
-- cpu_search does; a hatch and a return are this scheduler's own
abbrev pub action_of : Event → Seen → Action
action_of (Tick c) at = tick_action at.current at
action_of (Switch c why) at = switch_action why at
action_of (Drop c channel) at = drop_action at
action_of (Bed t channel) at = go_action t (Asleep channel) Bedded at.named
action_of (Wake t) at = wake_action t at.named at
action_of (Look c) at = answers (answer.Seen at.load at.movable at.lowpri)
action_of (Land t c) at = land_action t at.named at
action_of (Move a b why) at = answers Nothing
action_of (Lend t p) at = change_action (change.Lend p) t at.named at
action_of (Unlend t) at = change_action change.Unlend t at.named at
action_of (Renice t n) at = change_action (change.Renice n) t at.named at
action_of (Hatch t) at = go_action t (Hand at.worker) Hatched at.named
action_of (Fork c t) at = fork_action t at.current at.named at
action_of (Return t) at = go_action t Unborn Returned at.named
action_of (Exit c) at = exit_action at
action_of (Bury t) at = go_action t Gone Buried at.named
action_of (Inherit t run) at = change_action (change.Inherit run) t at.named at

-- the action of an event under two locks, by what it sees under each: a move
abbrev pub pair_action_of : Event → Seen → Seen → PairAction
pair_action_of (Move a b why) from to = move_action why from to
pair_action_of e from to = pair_answers Nothing

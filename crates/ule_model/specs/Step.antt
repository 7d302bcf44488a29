-- The step of the sequential scheduler: what each event does to the world, and what it does to the value under its
-- lock and the worker's hand; and what it answers.
use Rattle.std.specs.Prelude.{ℕ, List, [], ◌∷◌, Option, None}
use Rattle.ule_types.specs.declared.event.Event.{Event}
use Rattle.ule_types.specs.declared.event.Reply.{Reply}
use Rattle.ule_types.specs.declared.event.Reply.TheVariants.{Nothing}
use Rattle.ule_score.specs.declared.record.Settings.{Settings}
use Rattle.ule_score.specs.declared.record.ThreadRecord.{ThreadRecord}
use Rattle.ule_sleep.specs.Chain.{ChainValue}
use Rattle.ule_sleep.specs.Limbo.{LimboValue}
use Rattle.ule_model.specs.Action.{PairAction, action_done, parts_done}
use Rattle.ule_model.specs.Actions.{action_of, pair_action_of}
pub use Rattle.ule_model.specs.ActionStep.{PairStepped, Stepped, kept}
use Rattle.ule_model.specs.ActionStep.{bare_side, named_by, named_held, on_chain, on_limbo, on_queue, seen_in, seen_off, seen_on, seen_under}
use Rattle.ule_model.specs.ActionValue.{action_in_slots, action_on_cpu, parts_on_cpu}
use Rattle.ule_model.specs.CpuValue.{CpuValue}
use Rattle.ule_model.specs.Events.{Locking, handling, lock_numbers, locking, queues}
use Rattle.ule_model.specs.LockValue.{LockValue, queue, chain, limbo, nothing}
use Rattle.ule_model.specs.World.{World, on_side, side_of, with_side}

-- ---- the step on a world

-- the step under these locks: an event whose thread is under none changes nothing
abbrev pub step_under_locks : List ℕ → World → ℕ → Event → ℕ → World × Reply
step_under_locks [] w worker e now = (w, (action_of e (seen_on 0 worker now (named_by w e) (bare_side w))).reply None)
step_under_locks (l ∷ ls) w worker e now = on_side l (action_done l now (action_of e (seen_under w worker now e l))) w

-- an action under the locks of CPU a and then of CPU b
abbrev pub pair_done : ℕ → ℕ → ℕ → PairAction → World → World × Reply
pair_done a b now action w =
    let first = with_side a (parts_done a now action.from (side_of a w, None)).0 w in
    (with_side b (parts_done b now action.to (side_of b first, None)).0 first, action.reply)

-- the step of an event with these locks
abbrev pub step_with : Locking → World → ℕ → Event → ℕ → World × Reply
step_with (queues a b) w worker e now =
    pair_done a b now (pair_action_of e (seen_on a worker now None (side_of a w)) (seen_on b worker now None (side_of b w))) w
step_with locks w worker e now = step_under_locks (lock_numbers w.members locks) w worker e now

-- the step
abbrev pub step : World → ℕ → Event → ℕ → World × Reply
step w worker e now = step_with (locking e) w worker e now

-- ---- the step under a lock

-- an event of a worker on a CPU
abbrev pub queue_step : ℕ → Event → ℕ → Option ThreadRecord → CpuValue → Stepped
queue_step worker e now hand v =
    let named = named_held (locking e) (handling e) worker (queue v) hand in
    on_queue (action_on_cpu now (action_of e (seen_in worker now named v)) (record { hand = hand; value = v }))

-- on a sleep chain
abbrev pub chain_step : Settings → ℕ → Event → ℕ → Option ThreadRecord → ChainValue → Stepped
chain_step settings worker e now hand v =
    let named = named_held (locking e) (handling e) worker (chain v) hand in
    on_chain v (action_in_slots settings now (action_of e (seen_off worker now settings named)) (record { hand = hand; slots = v.slots }))

-- in limbo
abbrev pub limbo_step : Settings → ℕ → Event → ℕ → Option ThreadRecord → LimboValue → Stepped
limbo_step settings worker e now hand v =
    let named = named_held (locking e) (handling e) worker (limbo v) hand in
    on_limbo v (action_in_slots settings now (action_of e (seen_off worker now settings named)) (record { hand = hand; slots = v.slots }))

-- the step of an event under one lock
abbrev pub lock_step : Settings → ℕ → Event → ℕ → Option ThreadRecord → LockValue → Stepped
lock_step settings worker e now hand (queue v) = queue_step worker e now hand v
lock_step settings worker e now hand (chain v) = chain_step settings worker e now hand v
lock_step settings worker e now hand (limbo v) = limbo_step settings worker e now hand v
lock_step settings worker e now hand nothing = kept hand nothing Nothing

-- ---- the step under two locks

-- an action on the hand and two CPUs, one after the other
abbrev pub pair_on_cpus : ℕ → PairAction → Option ThreadRecord → CpuValue → CpuValue → PairStepped
pair_on_cpus now action hand v u =
    let first = (parts_on_cpu now action.from (record { hand = hand; value = v }, None)).0 in
    let second = (parts_on_cpu now action.to (record { hand = first.hand; value = u }, None)).0 in
    record { hand = second.hand; from = queue first.value; to = queue second.value; reply = action.reply }

-- the step of an event under two locks, by the values under the first and the second that it names: those of two CPUs
abbrev pub pair_step : ℕ → Event → ℕ → Option ThreadRecord → LockValue → LockValue → PairStepped
pair_step worker e now hand (queue v) (queue u) =
    pair_on_cpus now (pair_action_of e (seen_in worker now None v) (seen_in worker now None u)) hand v u
pair_step worker e now hand from to = record { hand = hand; from = from; to = to; reply = Nothing }

-- What the calls of each arm of a step come to: the value under the lock, the hand and the reply.
use Rattle.std.specs.Prelude.{ℕ, false, not, ◌==◌, Option, Some, None}
use Rattle.ule_prio.specs.Kind.{kind_at}
use Rattle.ule_score.specs.Changes.{after_change, record_after, woken}
use Rattle.ule_score.specs.declared.place.Place.{Place}
use Rattle.ule_score.specs.declared.place.Place.TheVariants.{Running, Queued, Asleep, Unborn, Gone, Hand}
use Rattle.ule_score.specs.declared.record.Change.{Change}
use Rattle.ule_score.specs.declared.record.Settings.{Settings}
use Rattle.ule_score.specs.declared.record.ThreadRecord.{ThreadRecord}
use Rattle.ule_sleep.specs.Chain.{ChainValue, with_sleeper, with_sleeper_changed, without_sleeper}
use Rattle.ule_sleep.specs.Limbo.{LimboValue, with_still, with_still_changed, without_still}
use Rattle.ule_threads.specs.declared.standing.Standing.{Standing}
use Rattle.ule_types.specs.declared.event.Reply.{Reply}
use Rattle.ule_types.specs.declared.event.Reply.TheVariants.{Nothing, Dropped, Exited, Bedded, NotAsleep, Landed, Moved, Changed, Hatched, Returned, Buried}
use Rattle.ule_model.specs.ActionStep.{PairStepped, Stepped, kept, seen_in}
use Rattle.ule_model.specs.CpuChange.{forked_reply, value_forked}
use Rattle.ule_model.specs.CpuValue.{CpuValue, Taken, takes_over_in, value_added}
use Rattle.ule_model.specs.Insertion.{bucket_of}
use Rattle.ule_model.specs.declared.insertion.Insertion.TheVariants.{Ordinary}
use Rattle.ule_model.specs.LockValue.{queue, chain, limbo}
use Rattle.ule_model.specs.Actions.{gone_answer, move_action, unborn_answer, woken_reply}
use Rattle.ule_model.specs.Step.{pair_on_cpus}
use Rattle.ule_types.specs.declared.event.MoveWhy.{MoveWhy}

-- ---- the events of a CPU

-- a drop: the thread that left goes to the hand
abbrev pub queue_dropped : Option ThreadRecord → CpuValue × Option Taken → Stepped
queue_dropped hand (made, None) = kept hand (queue made) Nothing
queue_dropped hand (made, Some out) = record { hand = Some out.thread; value = queue made; reply = Dropped out.thread.id out.into }

-- what an exit tells of the thread that left with this record: its parent and its run time, and who runs now
abbrev pub exited_reply : ThreadRecord → Option ℕ → Reply
exited_reply r into = Exited r.id into r.parent r.hist.run

-- an exit: the thread that left goes to the hand
abbrev pub queue_exited : Option ThreadRecord → CpuValue × Option Taken → Stepped
queue_exited hand (made, None) = kept hand (queue made) Nothing
queue_exited hand (made, Some out) = record { hand = Some out.thread; value = queue made; reply = exited_reply out.thread out.into }

-- a fork: the thread in the hand becomes the child of the current thread
abbrev pub queue_forked : ℕ → Option ThreadRecord → CpuValue → Stepped
queue_forked now None v = kept None (queue v) Nothing
queue_forked now (Some child) v =
    let done = value_forked now child v in
    record { hand = Some done.child; value = queue done.value; reply = forked_reply done.parent done.child }

-- a landing: the thread in the hand comes to the CPU, asked for by a worker
abbrev pub queue_landed : ℕ → Option ThreadRecord → CpuValue → Stepped
queue_landed worker None v = kept None (queue v) Nothing
queue_landed worker (Some r) v =
    let remote = not (worker == v.cpu) in record {
      hand = None;
      value = queue (value_added r remote v);
      reply = Landed (kind_at r.priority) (bucket_of (kind_at r.priority) Ordinary v.line r.priority) (takes_over_in r.priority remote v);
    }

-- a thread in the hand that left another CPU comes to the CPU, asked for by a worker
abbrev pub queue_taken_in : ℕ → Option ThreadRecord → CpuValue → Stepped
queue_taken_in worker None v = kept None (queue v) Nothing
queue_taken_in worker (Some r) v =
    let remote = not (worker == v.cpu) in record {
      hand = None;
      value = queue (value_added r remote v);
      reply = Moved r.id (kind_at r.priority) (bucket_of (kind_at r.priority) Ordinary v.line r.priority) (takes_over_in r.priority remote v);
    }

-- ---- the events of two CPUs

-- a move from CPU v to CPU u, by what a worker sees of each
abbrev pub queues_moved : ℕ → ℕ → MoveWhy → Option ThreadRecord → CpuValue → CpuValue → PairStepped
queues_moved worker now why hand v u = pair_on_cpus now (move_action why (seen_in worker now None v) (seen_in worker now None u)) hand v u

-- ---- the events of a chain

-- a bed: the thread in the hand falls asleep
abbrev pub chain_bedded : ℕ → Option ThreadRecord → ChainValue → Stepped
chain_bedded channel None v = kept None (chain v) Nothing
chain_bedded channel (Some r) v = record { hand = None; value = chain (with_sleeper r channel v); reply = Bedded }

-- a wake of this sleeper, if it sleeps here: it goes to the hand
abbrev pub chain_woken : Settings → ℕ → ℕ → Option ThreadRecord → Option Standing → ChainValue → Stepped
chain_woken settings now t hand None v = kept hand (chain v) Nothing
chain_woken settings now t hand (Some s) v =
    let r = record_after settings now woken s.thread in
    record { hand = Some r; value = chain (without_sleeper t v); reply = woken_reply r }

-- a change of this sleeper's priority, if it sleeps here
abbrev pub chain_changed : Settings → Change → ℕ → Option ThreadRecord → Option Standing → ChainValue → Stepped
chain_changed settings given t hand None v = kept hand (chain v) Nothing
chain_changed settings given t hand (Some s) v =
    kept hand (chain (with_sleeper_changed settings given t v)) (Changed (after_change settings given s.thread).priority false false)

-- a wake of a thread that stands elsewhere
abbrev pub not_asleep : Option Standing → Reply
not_asleep None = Nothing
not_asleep (Some s) = NotAsleep s.place

-- ---- the events of limbo

-- a hatch: the unborn thread goes to the hand
abbrev pub limbo_hatched : ℕ → Option ThreadRecord → Option Standing → LimboValue → Stepped
limbo_hatched t hand None v = kept hand (limbo v) Nothing
limbo_hatched t hand (Some s) v = record { hand = Some s.thread; value = limbo (without_still t v); reply = Hatched }

-- a return: the thread in the hand is unborn again
abbrev pub limbo_returned : Option ThreadRecord → LimboValue → Stepped
limbo_returned None v = kept None (limbo v) Nothing
limbo_returned (Some r) v = record { hand = None; value = limbo (with_still r Unborn v); reply = Returned }

-- a burial: the thread in the hand is gone
abbrev pub limbo_buried : Option ThreadRecord → LimboValue → Stepped
limbo_buried None v = kept None (limbo v) Nothing
limbo_buried (Some r) v = record { hand = None; value = limbo (with_still r Gone v); reply = Buried }

-- a change of this unborn thread's priority, unless it is answered so
abbrev pub limbo_changed_unborn : Option Reply → Settings → Change → ℕ → Option ThreadRecord → ThreadRecord → LimboValue → Stepped
limbo_changed_unborn None settings given t hand r v =
    kept hand (limbo (with_still_changed settings given t v)) (Changed (after_change settings given r).priority false false)
limbo_changed_unborn (Some refusal) settings given t hand r v = kept hand (limbo v) refusal

-- a change of the priority of a thread at this place
abbrev pub limbo_changed_at : Place → Settings → Change → ℕ → Option ThreadRecord → ThreadRecord → LimboValue → Stepped
limbo_changed_at Unborn settings given t hand r v = limbo_changed_unborn (unborn_answer given) settings given t hand r v
limbo_changed_at Gone settings given t hand r v = kept hand (limbo v) (gone_answer given)
limbo_changed_at (Running c) settings given t hand r v = kept hand (limbo v) Nothing
limbo_changed_at (Queued c k b) settings given t hand r v = kept hand (limbo v) Nothing
limbo_changed_at (Asleep channel) settings given t hand r v = kept hand (limbo v) Nothing
limbo_changed_at (Hand w) settings given t hand r v = kept hand (limbo v) Nothing

-- a change of this thread's priority, if it is here
abbrev pub limbo_changed : Settings → Change → ℕ → Option ThreadRecord → Option Standing → LimboValue → Stepped
limbo_changed settings given t hand None v = kept hand (limbo v) Nothing
limbo_changed settings given t hand (Some s) v = limbo_changed_at s.place settings given t hand s.thread v

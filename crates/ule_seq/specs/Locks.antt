-- What a lock guards, as the model has it, and which events take two.
use Rattle.std.specs.Prelude.{ℕ, List, [], ◌∷◌, Option, Some, None}
use Rattle.ule_model.specs.Events.{Locking, place_of, queues}
use Rattle.ule_model.specs.Events as events
use Rattle.ule_model.specs.LockValue.{LockValue, chain, limbo, nothing, queue}
use Rattle.ule_seq.specs.declared.event_locks.EventLocks.{EventLocks}
use Rattle.ule_seq.specs.declared.event_locks.EventLocks.TheVariants.{Free, One, Two}
use Rattle.ule_seq.specs.declared.lock.Contents.{Contents}
use Rattle.ule_seq.specs.declared.lock.Contents.TheVariants.{Queue, Chain, Limbo, Nothing}

-- contents value: what is under a lock, as the model has it
abbrev pub contents_value : Contents → LockValue
contents_value (Queue v) = queue v
contents_value (Chain v) = chain v
contents_value (Limbo v) = limbo v
contents_value Nothing = nothing

-- the CPUs whose locks an event takes, where it takes two
abbrev pub two_locks : Locking → Option (ℕ × ℕ)
two_locks (queues a b) = Some (a, b)
two_locks (events.queue c) = None
two_locks (events.chain channel) = None
two_locks events.limbo = None
two_locks (place_of t) = None

-- the locks that an event takes, in rising number
abbrev pub lock_list : EventLocks → List ℕ
lock_list Free = []
lock_list (One a) = a ∷ []
lock_list (Two a b) = a ∷ b ∷ []

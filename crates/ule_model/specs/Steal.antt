-- The steal rule, after tdq_steal, runq_steal and runq_steal_from: which thread the queues of a CPU give to another CPU. It is told
-- of lists of numbers, bucket by bucket, of a side of a world, and of a CPU's value.
use Rattle.std.specs.Prelude.{ℕ, Bool, is_none, ◌&&◌, List, [], ◌∷◌, ◌++◌, filter, map, slice_get, Option, Some, None, option_and_then}
use Rattle.std.specs.List.{concat, list_any, range_with_len}
use Rattle.ule_prio.specs.declared.kind.Kind.{Kind}
use Rattle.ule_prio.specs.declared.kind.Kind.TheVariants.{Real, Batch, Idle}
use Rattle.ule_runq.specs.Runq.{threads_from}
use Rattle.ule_threads.specs.declared.standing.Standing.{Standing}
use Rattle.ule_model.specs.CpuNumbers.{is_movable}
use Rattle.ule_model.specs.CpuValue.{CpuValue, first_found}
use Rattle.ule_model.specs.LockValue.{found_on}
use Rattle.ule_model.specs.Places.{waits_on}
use Rattle.ule_model.specs.Shows.{bucket_ids}
use Rattle.ule_model.specs.World.{Member, Side, is_numbered, thread_of}

-- ---- the rule

-- the first of these threads that is movable
abbrev pub first_movable : (ℕ → Bool) → List ℕ → Option ℕ
first_movable movable line = slice_get (filter movable line) 0

-- a real or an idle queue gives the first movable thread, bucket by bucket
abbrev pub plain_pick : (ℕ → Bool) → List (List ℕ) → Option ℕ
plain_pick movable q = first_movable movable (concat q)

-- a line with its first thread behind all others
abbrev pub with_first_last : List ℕ → List ℕ
with_first_last [] = []
with_first_last (t ∷ line) = line ++ t ∷ []

-- a calendar gives the first movable thread from the removal index on, where the thread that its own CPU would choose comes last
abbrev pub calendar_pick : (ℕ → Bool) → List (List ℕ) → ℕ → Option ℕ
calendar_pick movable lists ridx = first_movable movable (with_first_last (threads_from lists ridx))

-- the three queues of a CPU give a thread of the first that has a movable one: the real queue, the calendar, the idle queue
abbrev pub queues_pick : (ℕ → Bool) → ℕ → List (List ℕ) → List (List ℕ) → List (List ℕ) → Option ℕ
queues_pick movable ridx real batch idle =
    first_found (plain_pick movable real) (first_found (calendar_pick movable batch ridx) (plain_pick movable idle))

-- ---- of a side of a world

-- the 64 buckets of CPU c's queue of kind k
abbrev pub buckets_of : ℕ → Kind → List Member → List (List ℕ)
buckets_of c k ms = map (λ b. bucket_ids c k b ms) (range_with_len 0 64)

-- whether thread t is queued on CPU c and not bound
abbrev pub is_movable_on : ℕ → List Member → ℕ → Bool
is_movable_on c ms t = list_any (λ m. is_numbered t m && (waits_on c m.place && is_none m.thread.bound)) ms

-- the thread that CPU c gives to another CPU
abbrev pub given_by : ℕ → Side → Option Member
given_by c s =
    option_and_then (λ t. thread_of t s.members)
    (queues_pick (is_movable_on c s.members) s.line.ridx (buckets_of c Real s.members) (buckets_of c Batch s.members) (buckets_of c Idle s.members))

-- ---- of a CPU's value

-- the number of the thread that the CPU gives to another
abbrev pub stolen_in : CpuValue → Option ℕ
stolen_in v = queues_pick (is_movable v) v.line.ridx v.real v.batch v.idle

-- that thread with its place
abbrev pub given_in : CpuValue → Option Standing
given_in v = option_and_then (found_on v) (stolen_in v)

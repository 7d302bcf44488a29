-- Which thread of a CPU's queues runs next, after tdq_choose.
use Rattle.std.specs.Prelude.{ℕ, ℤ, Bool, nat_lt, int_lt, ◌==◌, ◌&&◌, ◌||◌, List, [], ◌∷◌, filter, Option, Some, None, if◌then◌else◌}
use Rattle.ule_prio.specs.declared.kind.Kind.{Kind}
use Rattle.ule_prio.specs.declared.kind.Kind.TheVariants.{Real, Batch, Idle}
use Rattle.ule_score.specs.declared.place.Place.{Place}
use Rattle.ule_score.specs.declared.place.Place.TheVariants.{Running, Queued, Asleep, Unborn, Gone, Hand}
use Rattle.ule_model.specs.CalendarIndexes.{distance_of}
use Rattle.ule_model.specs.Places.{rank_of, waits_on}
use Rattle.ule_model.specs.World.{Member}

-- how far into its queue a bucket is: in the calendar its distance from the removal index
abbrev pub depth_of : ℕ → Kind → ℕ → ℕ
depth_of ridx Real b = b
depth_of ridx Batch b = distance_of ridx b
depth_of ridx Idle b = b

-- what threads are chosen by: the rank of the queue, the depth of the bucket, the order in it
pub record Turn : Type 0 where
  pub rank : ℕ
  pub depth : ℕ
  pub order : ℤ

-- the turn of a thread by its place; one that isn't queued has none of its own
abbrev pub turn_at : ℕ → Place → ℤ → Turn
turn_at ridx (Running c) order = record { rank = 3; depth = 0; order = order }
turn_at ridx (Queued c k b) order = record { rank = rank_of k; depth = depth_of ridx k b; order = order }
turn_at ridx (Asleep channel) order = record { rank = 3; depth = 0; order = order }
turn_at ridx Unborn order = record { rank = 3; depth = 0; order = order }
turn_at ridx Gone order = record { rank = 3; depth = 0; order = order }
turn_at ridx (Hand w) order = record { rank = 3; depth = 0; order = order }

abbrev pub turn_of : ℕ → Member → Turn
turn_of ridx m = turn_at ridx m.place m.order

-- whether one turn comes before another
abbrev pub comes_before : Turn → Turn → Bool
comes_before s t =
    nat_lt s.rank t.rank || ((s.rank == t.rank) &&
    (nat_lt s.depth t.depth || ((s.depth == t.depth) && int_lt s.order t.order)))

-- the one of two threads whose turn comes first
abbrev pub sooner : ℕ → Member → Option Member → Member
sooner ridx m None = m
sooner ridx m (Some n) = if comes_before (turn_of ridx n) (turn_of ridx m) then n else m

-- the thread whose turn comes first
abbrev pub least : ℕ → List Member → Option Member
least ridx [] = None
least ridx (m ∷ ms) = Some (sooner ridx m (least ridx ms))

-- choice: the queued thread of CPU c with the least turn
abbrev pub choice_of : ℕ → ℕ → List Member → Option Member
choice_of c ridx members = least ridx (filter (λ m. waits_on c m.place) members)

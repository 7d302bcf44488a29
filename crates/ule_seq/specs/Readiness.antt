-- Whether a worker can perform an event now, by the worker that has the sought thread in hand.
use Rattle.std.specs.Prelude.{◌≡◌, ℕ, ◌==◌, Option, Some, None, option_and_then, if◌then◌else◌}
use Rattle.ule_model.specs.Events.{holder_of, sought_by}
use Rattle.ule_model.specs.World.{World}
use Rattle.ule_model.specs.WorldValue.{Shows, WorldValue, holder_in}
use Rattle.ule_types.specs.declared.event.Event.{Event}
use Rattle.ule_seq.specs.declared.world.Ready.{Ready}
use Rattle.ule_seq.specs.declared.world.Ready.TheVariants.{Yes, InHand}

-- whether it can, where this worker has the sought thread in hand
abbrev pub ready_by : ℕ → Option ℕ → Ready
ready_by worker None = Yes
ready_by worker (Some holder) = if holder == worker then Yes else InHand holder

-- whether it can, by what all workers have in hand
abbrev pub ready_in : WorldValue → ℕ → Event → Ready
ready_in v worker e = ready_by worker (option_and_then (holder_in v) (sought_by e))

-- the answer is that of each world that the scheduler shows
abbrev pub Readies : WorldValue → ℕ → Event → Ready → Type 0
Readies v worker e ready = (w : World) → Shows v w → ready ≡ ready_by worker (option_and_then (holder_of w.members) (sought_by e))

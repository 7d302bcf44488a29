-- Whatever follows a command or a reply, the worker stays. The time of a command is that of its first stage; what follows a reply adds none.
use Rattle.std.proofs.Common.{◌≡◌, ℕ, ◌-◌, ◌==◌, Bool, true, false, nat_lt, List, [], ◌∷◌, length, Option, Some, None, if◌then◌else◌, refl}
use Rattle.ule_score.specs.declared.record.Why.TheVariants.{Yield as ByYield}
use Rattle.ule_types.specs.Commands.{amount_of}
use Rattle.ule_types.specs.declared.command.Command.{Command}
use Rattle.ule_types.specs.declared.command.Command.TheVariants as command
use Rattle.ule_types.specs.declared.event.Event.TheVariants.{Look, Switch}
use Rattle.ule_types.specs.declared.event.Reply.{Reply}
use Rattle.ule_types.specs.declared.event.Reply.TheVariants.{Ticked, Dropped, Woken, Hatched, Forked, Exited}
use Rattle.ule_topo.specs.Looks.{look_at}
use Rattle.ule_topo.specs.Mask.{all_cpus, without_cpu}
use Rattle.ule_topo.specs.Tree.{deepest, outward}
use Rattle.ule_search.specs.Search.{highest}
use Rattle.ule_pick.specs.declared.choice.Card.{Card}
use Rattle.ule_balance.specs.Plan.{opening_plan, plan_next, plan_told}
use Rattle.ule_balance.specs.declared.plan.Masks.{Masks}
use Rattle.ule_program.specs.Laws.{time_at}
use Rattle.ule_program.specs.Program.{Own, Next, Ends, Balances, Beds, Lands, Forks, LandsChild, Buries, Charges, Sees, Steals, Moves, Purpose, ToLand, ToSteal, ToBalance, after, balancing, begun, gives, has_moved, idles, is_stolen, lands_on, lands_unless, looked, looks_for, moves, moves_on, moves_pair, saw, searched, steals, steals_from, stops, summary_in, uses_looks}

-- goes on: an own part is still that of this worker, and at a stage that adds no time
abbrev pub GoesOn : ℕ → Own → Type 0
GoesOn worker own = (own.worker ≡ worker) × (time_at own.stage ≡ 0)

-- landings go on
landing_goes_on : (t : ℕ) (card : Card) (bound : Option ℕ) (own : Own) → GoesOn own.worker (lands_unless t card bound own)
landing_goes_on t card (Some c) own = (refl, refl)
landing_goes_on t card None own = at_test (own.topology.cpus == 1)
  where
    at_test : (b : Bool) → GoesOn own.worker (if b then lands_on t 0 own else looks_for (ToLand t card) own)
    at_test true = (refl, refl)
    at_test false = (refl, refl)

-- so do steals
steals_goes_on : (mask : ℕ) (gs : List ℕ) (own : Own) → GoesOn own.worker (steals mask gs own)
unfolding steals
steals_goes_on mask [] own = (refl, refl)
steals_goes_on mask (g ∷ gs) own = at_found (highest own.topology g own.looks mask own.steal own.jitter) (steals_goes_on mask gs (searched own))
  where
    at_found : (o : Option ℕ) → GoesOn own.worker (steals mask gs (searched own)) → GoesOn own.worker (steals_from mask g o (steals mask gs) (searched own))
    at_found None further = further
    at_found (Some v) further = (refl, refl)

idles_goes_on : (own : Own) → GoesOn own.worker (idles own)
idles_goes_on own =
    at_test ((look_at own.looks own.worker).load == 0)
    (steals_goes_on (without_cpu own.worker (all_cpus own.topology.cpus)) (outward own.topology own.worker (deepest own.topology own.worker)) own)
  where
    at_test : (b : Bool) → GoesOn own.worker (steals (without_cpu own.worker (all_cpus own.topology.cpus)) (outward own.topology own.worker (deepest own.topology own.worker)) own) →
        GoesOn own.worker (if b then steals (without_cpu own.worker (all_cpus own.topology.cpus)) (outward own.topology own.worker (deepest own.topology own.worker)) own else stops own)
    at_test true stolen = stolen
    at_test false stolen = (refl, refl)

-- so do balances
pair_goes_on : (left : ℕ) (plan : Masks) (pair : Option (ℕ × ℕ)) (own : Own) → GoesOn own.worker (moves_pair left plan pair own)
pair_goes_on left plan None own = (refl, refl)
pair_goes_on left plan (Some pair) own = (refl, refl)

moves_goes_on : (left : ℕ) (plan : Masks) (own : Own) → GoesOn own.worker (moves left plan own)
moves_goes_on left plan own =
    let planned = plan_next own.topology own.looks plan own.jitter in pair_goes_on left planned.plan planned.pair (record own { jitter = planned.word })

moves_on_goes_on : (left : ℕ) (plan : Masks) (own : Own) → GoesOn own.worker (moves_on left plan own)
moves_on_goes_on left plan own = at_test (left == 0)
  where
    at_test : (b : Bool) → GoesOn own.worker (if b then stops own else moves (left - 1) plan own)
    at_test true = (refl, refl)
    at_test false = moves_goes_on (left - 1) plan own

balancing_goes_on : (own : Own) → GoesOn own.worker (balancing own)
balancing_goes_on own = at_test (own.topology.cpus == 1)
  where
    at_test : (b : Bool) → GoesOn own.worker (if b then stops own else looks_for ToBalance own)
    at_test true = (refl, refl)
    at_test false = (refl, refl)

-- so do looks and what they are used for
used_goes_on : (purpose : Purpose) (now : ℕ) (own : Own) → GoesOn own.worker (uses_looks purpose now own)
used_goes_on (ToLand t card) now own = (refl, refl)
used_goes_on ToSteal now own = idles_goes_on own
used_goes_on ToBalance now own = moves_goes_on (own.topology.cpus - 1) (opening_plan own.topology.cpus) own

looked_goes_on : (purpose : Purpose) (now : ℕ) (own : Own) → GoesOn own.worker (looked purpose now own)
looked_goes_on purpose now own = at_test (nat_lt (length own.looks) own.topology.cpus)
  where
    at_test : (b : Bool) → GoesOn own.worker (if b then gives (Look (length own.looks)) (Sees purpose) own else uses_looks purpose now own)
    at_test true = (refl, refl)
    at_test false = used_goes_on purpose now own

-- whatever follows a reply goes on
pub after_goes_on : (next : Next) (r : Reply) (now : ℕ) (own : Own) → GoesOn own.worker (after next r now own)
after_goes_on Ends r now own = (refl, refl)
after_goes_on Balances (Ticked cur true end) now own = balancing_goes_on own
after_goes_on Balances _ now own = (refl, refl)
after_goes_on (Beds channel) (Dropped out into) now own = (refl, refl)
after_goes_on (Beds channel) _ now own = (refl, refl)
after_goes_on (Lands t) (Woken p bound last last_run) now own = landing_goes_on t (record { priority = p; bound = bound; last = last; last_run = last_run }) bound own
after_goes_on (Lands t) _ now own = (refl, refl)
after_goes_on (Forks t) Hatched now own = (refl, refl)
after_goes_on (Forks t) _ now own = (refl, refl)
after_goes_on (LandsChild t) (Forked parent p) now own = landing_goes_on t (record { priority = p; bound = None; last = own.worker; last_run = now }) None own
after_goes_on (LandsChild t) _ now own = (refl, refl)
after_goes_on Buries (Exited out into parent run) now own = (refl, refl)
after_goes_on Buries _ now own = (refl, refl)
after_goes_on (Charges (Some parent) run) r now own = (refl, refl)
after_goes_on (Charges None run) r now own = (refl, refl)
after_goes_on (Sees purpose) r now own = looked_goes_on purpose now (saw (summary_in r) own)
after_goes_on (Steals v g mask) r now own = at_test (is_stolen r)
  where
    at_test : (b : Bool) → GoesOn own.worker (if b then gives (Switch own.worker ByYield) Ends own else steals (without_cpu v mask) (outward own.topology own.worker g) own)
    at_test true = (refl, refl)
    at_test false = steals_goes_on (without_cpu v mask) (outward own.topology own.worker g) own
after_goes_on (Moves plan low left) r now own = moves_on_goes_on left (plan_told low (has_moved r) plan) own

-- a command adds its amount of time, and its worker stays
pub begun_adds : (c : Command) (own : Own) → ((begun c own).worker ≡ own.worker) × (time_at (begun c own).stage ≡ amount_of c)
begun_adds command.Tick own = (refl, refl)
begun_adds (command.Time k) own = (refl, refl)
begun_adds command.Yield own = (refl, refl)
begun_adds command.Resched own = (refl, refl)
begun_adds (command.Sleep channel) own = (refl, refl)
begun_adds (command.Wake t) own = (refl, refl)
begun_adds (command.Lend t p) own = (refl, refl)
begun_adds (command.Unlend t) own = (refl, refl)
begun_adds (command.Renice t n) own = (refl, refl)
begun_adds (command.Fork t) own = (refl, refl)
begun_adds command.Exit own = (refl, refl)
begun_adds command.Idle own = (refl, refl)
begun_adds command.Balance own = balancing_goes_on own
begun_adds (command.Look c) own = (refl, refl)

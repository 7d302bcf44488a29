-- The parts show the world at the start.
use Rattle.std.proofs.Common.{IsTrue, refl, sym, subst, arith}
use Rattle.ule_model.specs.Start.{world_at_start}
use Rattle.ule_seq.proofs.StartingLaws.{made_show}
use Rattle.ule_seq.proofs.world.World.start.Goals as goal

pub invariant_of-result : goal.invariant_of-result
invariant_of-result c =
    let shows = made_show c.args.s.now c.in_ok-values.values.items c.in_ok-hands.hands.items c.in_ok-values.ensures c.in_ok-hands.ensures in
    let few = shows.cpus in
    let workers = shows.workers in
    let counted = c.in_ok-hands.hands.ok.0 in
    record {
      settings = subst IsTrue (sym c.args.s.now.rules.settings) refl;
      workers = omega (arith, few, workers, counted);
      shown = (world_at_start c.args.s.now, shows);
    }

pub returns-clause-shows : goal.returns-clause-shows
returns-clause-shows c = made_show c.args.s.now c.in_ok-values.values.items c.in_ok-hands.hands.items c.in_ok-values.ensures c.in_ok-hands.ensures

pub returns-clause-value : goal.returns-clause-value
returns-clause-value c = λ i. record { settings = c.args.s.now.settings; values = c.in_ok-values.ensures i; hands = c.in_ok-hands.ensures i }

use Rattle.std.proofs.Common.{sym, subst}
use Rattle.ule_micro.specs.Performing.{HasEffect}
use Rattle.ule_micro.proofs.performing.perform.Goals as goal

pub returns-in-One : goal.returns-in-One
returns-in-One g c = subst (λ held. HasEffect (g.P.Parts.means c.args.parts.now) c.args.own.now c.args.values.now.items c.args.e.now c.args.now held c.perform_one.new.own c.perform_one.new.values.items c.perform_one.result) (sym c.in-One.is) c.perform_one.ensures

pub returns-in-Two : goal.returns-in-Two
returns-in-Two g c = subst (λ held. HasEffect (g.P.Parts.means c.args.parts.now) c.args.own.now c.args.values.now.items c.args.e.now c.args.now held c.perform_two.new.own c.perform_two.new.values.items c.perform_two.result) (sym c.in-Two.is) c.perform_two.ensures

use Rattle.std.proofs.Common.{sym, ap, ◌∙◌}
use Rattle.ule_micro.specs.Means.{fixed_by}
use Rattle.ule_micro.proofs.Refines.{needs_lock, seeks_some}
use Rattle.ule_micro.proofs.micro.Micro.seek.Goals as goal

pub first_read-requires-clause-sought : goal.first_read-requires-clause-sought
first_read-requires-clause-sought g c = sym (ap (λ p. (g.P.Parts.means p).needs c.args.e) (ap (λ y. y.parts) c.self.view_is)) ∙ needs_lock ((g.P.Parts.means c.self.inside.parts).needs c.args.e) c.in-Some.t c.in-Some.ensures

pub unreachable-requires : goal.unreachable-requires
unreachable-requires g c = seeks_some ((g.P.Parts.means c.self.inside.parts).needs c.args.e) (c.requires.seeks ∙ ap fixed_by (sym (ap (λ p. (g.P.Parts.means p).needs c.args.e) (ap (λ y. y.parts) c.self.view_is)))) c.in_default.ensures

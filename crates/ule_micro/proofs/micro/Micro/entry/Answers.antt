use Rattle.std.proofs.Common.{◌≡◌, ◌≤◌, length, refl, ap, sym, subst, ◌∙◌}
use Rattle.std.specs.Prelude.{Some, slice_get, ◌-◌}
use Rattle.std.proofs.lemmas.List.{length-reverse}
use Rattle.ule_micro.proofs.Refines.{reverse_get}
use Rattle.ule_micro.proofs.Showing.{ticket_is}
use Rattle.ule_micro.proofs.micro.Micro.entry.Goals as goal

pub returns : goal.returns
returns g c = let items = c.self.inside.history.items in let x = c.index-entry.result.now in
    let ticket = ap (λ n. n.state.ticket) c.self.view_is in
    let many : c.self.inside.ticket ≡ length items = ticket_is _ _ _ c.self.invariant.0 ∙ length-reverse items in
    let at = reverse_get items c.args.k c.self.inside.ticket x c.requires.from_one (subst (λ n. c.args.k ≤ n) (sym ticket) c.requires.made) many c.index-entry.ensures in
    (x, subst (λ n. slice_get n.state.history (n.state.ticket - c.args.k) ≡ Some x) c.self.view_is at, refl, refl, refl, refl)

use Rattle.std.proofs.Common.{◌<◌, length, subst, sym, ◌∙◌}
use Rattle.ule_words.proofs.Places.{drop_there}
use Rattle.ule_words.proofs.tape.Tape+Numbered+E+R.pass.Goals as goal

pub returns : goal.returns
returns g c = let x = drop_there c.self.inside.items.items c.self.inside.next (subst (λ z. 0 < length z) (sym c.self.view_is) c.requires) in (x.0, sym c.self.view_is ∙ x.1)

use Rattle.std.proofs.Common.{rules, drop, ◌+◌, eqb-true, sym, ◌∙◌}
use Rattle.ule_micro.proofs.Lists.{drop_get}
use Rattle.ule_words.proofs.Places.{or_get}
use Rattle.ule_words.proofs.tape.Tape+Numbered+E+R.begins_with.Goals as goal

pub returns-then-self-len-clause-is : goal.returns-then-self-len-clause-is
returns-then-self-len-clause-is g c = λ e. let n = c.self.inside.next in let xs = c.self.inside.items.items in
    (c.index.result.now, drop (n + 1) xs, sym c.self.view_is ∙ drop_get xs n c.index.result.now (or_get xs n c.index.result.now (search rules) c.index.ensures), eqb-true _ _ e)

use Rattle.std.proofs.Common.{ap, sym, ◌∙◌}
use Rattle.ule_words.specs.Ends.{entry_noted}
use Rattle.ule_words.proofs.Ties.{cons_head}
use Rattle.ule_words.proofs.merge.note_first.Goals as goal

pub returns : goal.returns
returns g c = (c.pass.ensures.0, c.pass.ensures.1, c.note_entry.ensures ∙ ap (λ x. entry_noted (g.P.Parts.notes c.args.parts.now) c.args.out.now x.entry) (cons_head _ _ _ _ (sym c.first-first.ensures.1 ∙ c.pass.ensures.1)))

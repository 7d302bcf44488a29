-- The word at the start is that of the declared threads.
use Rattle.std.proofs.Common.{List, sym, ap, ◌∙◌}
use Rattle.ule_types.specs.declared.setup.Setup.{Setup}
use Rattle.ule_types.specs.declared.setup.ThreadSpec.{ThreadSpec}
use Rattle.ule_seq.specs.Parts.{declared_word}
use Rattle.ule_seq.proofs.OpeningWords.{opening_word_is}
use Rattle.ule_seq.proofs.parts.SchedPartsParts.word_at_start.Goals as goal

pub returns : goal.returns
returns c =
    c.declared_word.ensures ∙
    (ap (λ (specs : List ThreadSpec). declared_word specs c.args.t) (c.as_slice.ensures ∙ ap (λ (s : Setup). s.threads) c.self.view_is) ∙ sym (opening_word_is c.args.self.now c.args.t))

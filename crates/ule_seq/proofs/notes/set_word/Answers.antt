-- The word is set in the line of the thread.
use Rattle.std.proofs.Common.{◌≡◌, sym, ap, ◌∙◌}
use Rattle.std.specs.Prelude.{find, ◌==◌}
use Rattle.ule_types.specs.declared.outcome.ThreadLine.{ThreadLine}
use Rattle.ule_seq.proofs.NoteSteps.{word_set}
use Rattle.ule_seq.proofs.notes.set_word.Goals as goal

pub returns-in-Some : goal.returns-in-Some
returns-in-Some c =
    c.set_thread.ensures ∙
    sym (word_set c.args.out.now c.args.t c.args.word c.in-Some.line (ap (find (λ (m : ThreadLine). m.id == c.args.t)) (sym c.threads.ensures.lines) ∙ (sym c.line_of.ensures ∙ c.in-Some.is)))

use Rattle.std.proofs.Common.{codes}
use Rattle.ule_trace.specs.Line.{line_text}
use Rattle.ule_plain.proofs.Spelling.{four_lines}
use Rattle.ule_plain.specs.Lines.{setting_words}
use Rattle.ule_plain.proofs.line.spell_settings.Goals as goal

pub returns-clause-text : goal.returns-clause-text
returns-clause-text c =
    let s = c.args.s.now in
    rw (c.spell_setting-4.ensures.text, c.spell_setting-3.ensures.text, c.spell_setting-2.ensures.text, c.spell_setting.ensures.text, c.from.ensures, c.from-2.ensures, c.from-3.ensures, c.from-4.ensures)
    (four_lines c.args.held.now (line_text (setting_words (codes "interact") s.interact)) (line_text (setting_words (codes "slice") s.slice)) (line_text (setting_words (codes "preempt") s.preempt)) (line_text (setting_words (codes "steal") s.steal)))

use Rattle.ule_trace.specs.Line.{line_text}
use Rattle.ule_plain.proofs.Spelling.{opening_parts}
use Rattle.ule_plain.specs.Lines.{header_words, jitter_words, cpus_words}
use Rattle.ule_plain.specs.Text.{setting_lines}
use Rattle.ule_plain.proofs.line.spell_opening.Goals as goal

pub returns : goal.returns
returns c =
    rw (c.spell_counted-2.ensures.text, c.spell_counted.ensures.text, c.spell_settings.ensures.text, c.text.ensures, c.from.ensures, c.from-2.ensures)
    (opening_parts c.args.held.now (line_text header_words) (setting_lines c.args.settings.now) (jitter_words c.args.jitter) (cpus_words c.args.cpus))

use Rattle.ule_words.proofs.Numbering.{holders_have, numbers_once, words_tell}
use Rattle.ule_words.proofs.laws.table_shows.Goals as goal

pub returns-clause-holders : goal.returns-clause-holders
returns-clause-holders g c = holders_have (g.P.Parts.means c.args.parts.now)

pub returns-clause-places : goal.returns-clause-places
returns-clause-places g c = words_tell (g.P.Parts.means c.args.parts.now)

pub returns-clause-numbers : goal.returns-clause-numbers
returns-clause-numbers g c = numbers_once (g.P.Parts.means c.args.parts.now)

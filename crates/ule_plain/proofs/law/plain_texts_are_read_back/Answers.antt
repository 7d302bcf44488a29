use Rattle.ule_plain.proofs.TextBack.{text_back}
use Rattle.ule_plain.proofs.law.plain_texts_are_read_back.Goals as goal

pub returns : goal.returns
returns c = text_back

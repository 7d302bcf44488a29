-- A state that agrees and has a legal play is legal so far.
use Rattle.ule_seq.proofs.StepLaws.{legal_so_far}
use Rattle.ule_seq.proofs.places.is_legal_so_far.Goals as goal

pub returns : goal.returns
returns c = legal_so_far c.args.m.now c.keeps_agreement.ensures.agrees c.keeps_agreement.ensures.legal

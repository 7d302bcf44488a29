use Rattle.ule_words.proofs.Performs.{first_low, last_low}
use Rattle.ule_words.proofs.holding.Holding.locks.Goals as goal

pub invariant_of-result : goal.invariant_of-result
invariant_of-result g c = last_low c.args.self.now.last c.args.self.now.first c.in-Some.last c.requires.low c.in-Some.is

pub rising-requires : goal.rising-requires
rising-requires g c = (last_low c.args.self.now.last c.args.self.now.first c.in-Some.last c.requires.low c.in-Some.is, first_low c.args.self.now.last c.args.self.now.first c.in-Some-first.first c.requires.low c.in-Some-first.is)

use Rattle.ule_search.proofs.FoundLaws.{highest_greatest, lowest_least}
use Rattle.ule_search.proofs.laws.searches_find_the_best.Goals as goal

pub returns-clause-lowest : goal.returns-clause-lowest
returns-clause-lowest c = lowest_least

pub returns-clause-highest : goal.returns-clause-highest
returns-clause-highest c = highest_greatest

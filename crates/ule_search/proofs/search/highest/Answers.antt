use Rattle.std.proofs.Common.{rules, ◌≡◌, sym, subst}
use Rattle.ule_search.specs.Laws.{FindsHighest}
use Rattle.ule_search.specs.Search.{highest}
use Rattle.ule_search.proofs.FoundLaws.{highest_greatest, highest_there}
use Rattle.ule_search.proofs.search.highest.Goals as goal

pub returns-clause-best : goal.returns-clause-best
returns-clause-best c =
    let is : c.highest_among.result ≡ highest c.args.t.now c.args.g c.args.looks.now c.args.mask c.args.at_least c.args.j.now.word = search rules in
    subst (FindsHighest c.args.t.now c.args.g c.args.looks.now c.args.mask c.args.at_least c.args.j.now.word) (sym is)
    (highest_greatest c.args.t.now c.args.g c.args.looks.now c.args.mask c.args.at_least c.args.j.now.word)

pub returns-clause-there : goal.returns-clause-there
returns-clause-there c = highest_there
    c.args.t.now c.args.g c.args.looks.now c.args.mask c.args.at_least c.args.j.now.word c.args.t.now.cpus c.highest_among.result c.requires.looked (returns-clause-best c)

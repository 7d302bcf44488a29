use Rattle.std.proofs.Common.{rules, ◌≡◌, sym, subst}
use Rattle.ule_search.specs.Laws.{FindsLowest}
use Rattle.ule_search.specs.Search.{lowest}
use Rattle.ule_search.proofs.FoundLaws.{lowest_least, lowest_there}
use Rattle.ule_search.proofs.search.lowest.Goals as goal

pub returns-clause-best : goal.returns-clause-best
returns-clause-best c =
    let is : c.lowest_among.result ≡ lowest c.args.t.now c.args.g c.args.looks.now c.args.mask c.args.above c.args.limit c.args.prefer c.args.j.now.word = search rules in
    subst (FindsLowest c.args.t.now c.args.g c.args.looks.now c.args.mask c.args.above c.args.limit c.args.prefer c.args.j.now.word) (sym is)
    (lowest_least c.args.t.now c.args.g c.args.looks.now c.args.mask c.args.above c.args.limit c.args.prefer c.args.j.now.word)

pub returns-clause-there : goal.returns-clause-there
returns-clause-there c = lowest_there
    c.args.t.now c.args.g c.args.looks.now c.args.mask c.args.above c.args.limit c.args.prefer c.args.j.now.word c.args.t.now.cpus c.lowest_among.result c.requires.looked (returns-clause-best c)

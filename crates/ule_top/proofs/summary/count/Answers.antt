use Rattle.std.proofs.Common.{arith}
use Rattle.ule_top.proofs.CountLaws.{count_more}
use Rattle.ule_top.specs.Summary.{is_one_of}
use Rattle.ule_top.proofs.summary.count.Goals as goal
use Rattle.ule_top.proofs.summary.count.Goals.{then-is_one_of, else-is_one_of}

pub loop-k-preserved : goal.loop-k-preserved
loop-k-preserved c =
    let more = count_more (is_one_of c.args.which) c.args.o.now.entries c.loop-k.k c.entry.result.now (omega arith) c.entry.ensures in
    elim c.if-is_one_of.branch [ then-is_one_of w ↦ grind (arith, more) | else-is_one_of w ↦ grind (arith, more) ]

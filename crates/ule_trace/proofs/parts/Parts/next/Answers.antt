use Rattle.std.proofs.Common.{rules}
use Rattle.ule_trace.proofs.Parted.{taken_first, taken_last}
use Rattle.ule_trace.proofs.parts.Parts.next.Goals as goal

pub returns-then-at-self-clause-part : goal.returns-then-at-self-clause-part
returns-then-at-self-clause-part c =
    let p = c.self.inside in
    taken_first c.args.self.now p.more p.separator p.rest.now c.end_of_part-at.result c.split_at.result.0.now c.split_at.result.1.now c.split_at-then-at-self.result.1.now
    c.self.view_is (search rules) c.end_of_part-at.ensures.place c.if-at-self.true c.split_at.ensures.front c.split_at.ensures.back c.split_at-then-at-self.ensures.back

pub returns-else-at-self-clause-part : goal.returns-else-at-self-clause-part
returns-else-at-self-clause-part c =
    let p = c.self.inside in
    taken_last c.args.self.now p.more p.separator p.rest.now c.end_of_part-at.result c.self.view_is (search rules) c.end_of_part-at.ensures.place c.if-at-self.false

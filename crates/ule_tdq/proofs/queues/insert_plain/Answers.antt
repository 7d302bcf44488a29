use Rattle.std.proofs.Common.{arith}
use Rattle.ule_tdq.proofs.QueuesLaws.{times_at_head, times_at_tail}
use Rattle.ule_tdq.proofs.queues.insert_plain.Goals as goal

pub returns-in-Ordinary-clause-times : goal.returns-in-Ordinary-clause-times
returns-in-Ordinary-clause-times c = times_at_tail _ _ _ _ c.push_tail.ensures.filed c.push_tail.ensures.whole (omega arith)

pub returns-in-Borrowing-clause-times : goal.returns-in-Borrowing-clause-times
returns-in-Borrowing-clause-times c = times_at_tail _ _ _ _ c.push_tail-in-Borrowing.ensures.filed c.push_tail-in-Borrowing.ensures.whole (omega arith)

pub returns-in-Preempted-clause-times : goal.returns-in-Preempted-clause-times
returns-in-Preempted-clause-times c = times_at_head _ _ _ _ c.push_head.ensures.filed c.push_head.ensures.whole (omega arith)

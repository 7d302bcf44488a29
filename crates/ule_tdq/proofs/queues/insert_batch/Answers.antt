use Rattle.std.proofs.Common.{ap}
use Rattle.ule_calendar.specs.Calendar.{Dial}
use Rattle.ule_tdq.proofs.QueuesLaws.{times_at_head, times_at_tail}
use Rattle.ule_tdq.proofs.queues.insert_batch.Goals as goal

pub returns-in-Ordinary-clause-times : goal.returns-in-Ordinary-clause-times
returns-in-Ordinary-clause-times c =
    let done = c.insert.ensures in
    times_at_tail _ _ _ _ (ap (λ (d : Dial). d.lists) done.filed) done.calendar.queue (rw (← done.bucket) done.within)

pub returns-in-Borrowing-clause-times : goal.returns-in-Borrowing-clause-times
returns-in-Borrowing-clause-times c =
    let done = c.insert_at_index.ensures in
    times_at_tail _ _ _ _ (ap (λ (d : Dial). d.lists) done.filed) done.calendar.queue (rw (← done.bucket) done.within)

pub returns-in-Preempted-clause-times : goal.returns-in-Preempted-clause-times
returns-in-Preempted-clause-times c =
    let done = c.insert_at_index-in-Preempted.ensures in
    times_at_head _ _ _ _ (ap (λ (d : Dial). d.lists) done.filed) done.calendar.queue (rw (← done.bucket) done.within)

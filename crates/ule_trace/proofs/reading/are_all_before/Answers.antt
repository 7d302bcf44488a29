use Rattle.ule_trace.proofs.reading.are_all_before.Goals as goal

pub returns : goal.returns
returns c = rw (← c.threads.ensures.lines) c.are_before.ensures

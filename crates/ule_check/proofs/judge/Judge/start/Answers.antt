-- What was made is the judge at the start.
use Rattle.ule_check.proofs.StartLaws.{judge_starts}
use Rattle.ule_check.proofs.judge.Judge.start.Goals as goal

pub returns : goal.returns
returns c =
    judge_starts c.args.s.now (record { world = c.in_ok-world.world; seats = c.in_ok-seats.seats; latest = c.in_ok-latest.latest; end = c.end_of-end.result })
    c.in_ok-world.ensures.shows c.in_ok-seats.ensures c.in_ok-latest.ensures c.end_of-end.ensures

-- The locks are those that the event takes in each world that the value shows.
use Rattle.std.proofs.Common.{ℕ, Option, ap, sym, ◌∙◌, option_to_list}
use Rattle.ule_seq.proofs.EventLockLaws.{both_locks, one_lock}
use Rattle.ule_seq.proofs.world.World.locks.Goals as goal

pub returns-in-Some-clause-locks : goal.returns-in-Some-clause-locks
returns-in-Some-clause-locks c w shows = c.both.ensures.locks ∙ both_locks w c.args.e.now _ _ (sym c.two_locks.ensures.locks ∙ c.in-Some.is)

pub returns-in-None-clause-locks : goal.returns-in-None-clause-locks
returns-in-None-clause-locks c w shows =
    c.at_most_one.ensures.locks ∙ ap (λ (o : Option ℕ). option_to_list o) c.lock_for.ensures.lock ∙
    one_lock c.args.self.now w c.args.e.now shows (sym c.two_locks.ensures.locks ∙ c.in-None.is)

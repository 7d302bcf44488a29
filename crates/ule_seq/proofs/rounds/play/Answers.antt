-- The outcome is that of the play of the setup.
use Rattle.ule_model.specs.Rounds.{opening}
use Rattle.ule_seq.proofs.PlayLaws.{outcome_of_play}
use Rattle.ule_seq.proofs.rounds.play.Goals as goal

pub returns : goal.returns
returns c =
    outcome_of_play c.args.s.now c.run.new.player c.outcome.result
    (c.run.ensures (opening c.args.s.now) c.in_ok-player.ensures.opens) c.outcome.ensures

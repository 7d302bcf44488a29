use Rattle.ule_top.proofs.MakingLaws.{made_and_played}
use Rattle.ule_top.proofs.summary.play_made.Goals as goal

pub returns : goal.returns
returns c = made_and_played c.args.n c.in_ok-setup.setup c.play.result c.in_ok-setup.ensures c.play.ensures

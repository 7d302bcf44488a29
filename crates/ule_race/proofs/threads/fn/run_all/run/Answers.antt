use Rattle.std.proofs.Common.{arith}
use Rattle.ule_members.proofs.Setups.{setup_scripts}
use Rattle.ule_race.proofs.threads.fn.run_all.run.Goals as goal

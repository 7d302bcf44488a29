use Rattle.std.proofs.Common.{sym}
use Rattle.ule_race.proofs.RaceLaws.{answers_race, answers_usage}
use Rattle.ule_race.proofs.top.race_top.Goals as goal

use Rattle.ule_race.proofs.Running.{IsRunning}
use Rattle.ule_race.proofs.script.run_script.Given as goal

abbrev pub invariant-loop-k : goal.invariant-loop-k
invariant-loop-k g l = IsRunning l.s l.smp.table l.worker l.k l.p

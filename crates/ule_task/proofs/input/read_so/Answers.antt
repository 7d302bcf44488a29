use Rattle.ule_scenario.specs.Scenario.{read_bytes}
use Rattle.ule_task.proofs.input.read_so.Goals as goal

pub returns-in-Err : goal.returns-in-Err
returns-in-Err c = λ input has. c.why_refused.ensures (read_bytes input) (c.in-Err.ensures.told input has)

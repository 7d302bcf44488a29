-- What is kept of turns as its fields have it.
use Rattle.ule_scenario.specs.TailValue.{TurnsValue}
use Rattle.ule_scenario.specs.declared.tail.TurnTail.TheInside.{Inside}

-- what the fields show of the turns
abbrev pub turns_shown : Inside → TurnsValue
turns_shown a = record { any = a.any; fault = a.fault; most = a.most; first = a.first.items }

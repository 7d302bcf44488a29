use Rattle.ule_words.specs.Tells.{Calms}
use Rattle.ule_words.proofs.locks.Locks.point.Given as goal

abbrev pub ghosts-store : goal.ghosts-store
ghosts-store g a = record { then = λ s me found me'. Calms me me' }

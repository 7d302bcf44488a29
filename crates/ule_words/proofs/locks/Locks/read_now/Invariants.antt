use Rattle.ule_words.specs.Tells.{Times}
use Rattle.ule_words.proofs.locks.Locks.read_now.Given as goal

abbrev pub ghosts-load : goal.ghosts-load
ghosts-load g a = record { then = λ s me found me'. Times me found me' }

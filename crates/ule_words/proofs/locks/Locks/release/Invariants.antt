use Rattle.ule_words.specs.Tells.{Releases}
use Rattle.ule_words.proofs.locks.Locks.release.Given as goal

abbrev pub ghosts-store : goal.ghosts-store
ghosts-store g a = record { then = λ s me found me'. Releases s.word me me' }

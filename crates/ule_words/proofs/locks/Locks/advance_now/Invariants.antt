use Rattle.ule_words.specs.Tells.{Advances}
use Rattle.ule_words.proofs.locks.Locks.advance_now.Given as goal

abbrev pub ghosts-fetch_add : goal.ghosts-fetch_add
ghosts-fetch_add g a = record { then = λ s me found me'. Advances a.k me me' }

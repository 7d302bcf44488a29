use Rattle.ule_words.specs.Tells.{Reads}
use Rattle.ule_words.proofs.locks.Locks.read_word.Given as goal

abbrev pub ghosts-load : goal.ghosts-load
ghosts-load g a = record { then = λ s me found me'. Reads (g.P.Parts.means a.self.now.key) s.word me found me' }

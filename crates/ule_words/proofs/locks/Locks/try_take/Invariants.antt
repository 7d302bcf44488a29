use Rattle.ule_words.specs.Tells.{Takes}
use Rattle.ule_words.proofs.locks.Locks.try_take.Given as goal

abbrev pub ghosts-compare_exchange : goal.ghosts-compare_exchange
ghosts-compare_exchange g a = record { then = λ s me found me'. Takes (g.P.Parts.means a.self.now.key) s.word me found me' }

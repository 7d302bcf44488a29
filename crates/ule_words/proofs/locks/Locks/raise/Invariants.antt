use Rattle.std.specs.Prelude.{◌≡◌, Some}
use Rattle.ule_words.specs.Tells.{Commits}
use Rattle.ule_words.proofs.locks.Locks.raise.Given as goal

abbrev pub ghosts-fetch_add : goal.ghosts-fetch_add
ghosts-fetch_add g a = record { then = λ s me found me'. (x : g.row.P-Event.Denot) → g.D.Deed.event ≡ Some x → Commits (g.P.Parts.means a.self.now.key) x me found me' }

use Rattle.std.specs.Prelude.{Some}
use Rattle.ule_words.proofs.locks.Locks.commit.Given as goal

abbrev pub ghosts-raise : goal.ghosts-raise
ghosts-raise g a = record { event = Some a.e.now }

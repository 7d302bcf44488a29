-- A lock that a worker takes by a thread's word.
use Rattle.std.proofs.Common.{◌≡◌, ℕ, ◌<◌, Some, subst}
use Rattle.std.proofs.lemmas.Option.{slice_get_within}
use Rattle.ule_micro.specs.Means.{Means}
use Rattle.ule_micro.specs.declared.locks.TheConstants.{LOCKS}
use Rattle.ule_micro.specs.declared.word.Word.{Word}
use Rattle.ule_words.specs.Held.{value_held}
use Rattle.ule_words.specs.Tells.{IsWordOf}
use Rattle.ule_words.specs.declared.view.Worker.{Worker}

module _ {H O G E R C : Type 0} (m : Means H O G E R C) where
  -- held low: a lock that a worker holds where it reads a word is one that there is
  pub held_low : (p : Worker H G E R) (t : ℕ) (word : Word) (l : ℕ) (v : G) → IsWordOf m p t word → value_held p.held l ≡ Some v → l < LOCKS
  held_low p t word l v told held = subst (λ n. l < n) told.agrees.values (slice_get_within told.state.values l v (told.knows.values l v held))

-- A pass between two commands.
use Rattle.std.specs.Prelude.{◌≡◌, ℕ, List, [], Some, None, slice_get}
use Rattle.ule_micro.specs.Laws.{IsEmpty}
use Rattle.ule_micro.specs.Means.{Means}
use Rattle.ule_micro.specs.Standings.{Standing, rests}
use Rattle.ule_words.specs.Passes.{PassState}
use Rattle.ule_words.specs.Programs.{StandsAt}
use Rattle.ule_smp.specs.Runs.{Runs, opening_point, point_of}

module _ {H O G E R C : Type 0} (m : Means H O G E R C) where
  -- has come to: the pass came here from the start by its program of these commands, the newest first, and keeps what its own part keeps here
  pub record HasComeTo (given : List C) (p : PassState O H G E R) (standing : Standing E R) : Type 0 where
    pub first : O
    pub opens : slice_get m.owns p.worker.number ≡ Some first
    pub items : ℕ
    pub runs : Runs m (opening_point first) given items (point_of p standing)
    pub stands : StandsAt m given p standing
    pub number : m.number p.own ≡ p.worker.number
    pub hand : p.worker.hand ≡ m.hand p.own

  -- is at rest: the pass came to the end of these commands, the newest first; it holds no lock, has no change of a word to store, and nothing in hand
  pub record IsAtRest (given : List C) (p : PassState O H G E R) : Type 0 where
    pub come : HasComeTo given p rests
    pub held : p.worker.held ≡ []
    pub calm : p.worker.pending ≡ None
    pub empty : IsEmpty m p.worker.hand

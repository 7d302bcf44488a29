-- The passes at the start.
use Rattle.std.specs.Prelude.{◌≡◌, ℕ, Some, slice_get}
use Rattle.atomic_table.specs.Seated.{TableId}
use Rattle.ule_micro.specs.Means.{Means}
use Rattle.ule_words.specs.Passes.{PassState}
use Rattle.ule_words.specs.Workers.{first_worker}

module _ {H O G E R C : Type 0} (m : Means H O G E R C) where
  -- is first pass: a worker's pass on this table at the start
  pub record IsFirstPass (w : ℕ) (z : TableId) (p : PassState O H G E R) : Type 0 where
    pub table : p.table ≡ z
    pub own : slice_get m.owns w ≡ Some p.own
    pub worker : p.worker ≡ first_worker m w p.own

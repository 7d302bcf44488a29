-- A pass between two events.
use Rattle.std.specs.Prelude.{◌≡◌, ℕ, Bool, [], None}
use Rattle.atomic_table.specs.Seated.{TableId}
use Rattle.ule_words.specs.Passes.{PassState}

-- is idle: a worker's pass on this table, with this hand and this allowance left, that holds no lock and has no change pending
pub record IsIdle {O G E R : Type 0} (w : ℕ) (z : TableId) (hand : Bool) (left : ℕ) (p : PassState O Bool G E R) : Type 0 where
  pub number : p.worker.number ≡ w
  pub table : p.table ≡ z
  pub carried : p.worker.hand ≡ hand
  pub allowance : p.worker.allowance ≡ left
  pub held : p.worker.held ≡ []
  pub calm : p.worker.pending ≡ None

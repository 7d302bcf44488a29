-- A table of groups of which one more is the last.
use Rattle.std.proofs.Common.{◌≡◌, ℕ, zero, suc, ◌+◌, ◌<◌, List, [], ◌∷◌, ◌++◌, length, take, drop, replicate, refl, arith, ap, add-one}
use Rattle.ule_topo.specs.declared.group.GroupLine.{GroupLine}

-- some groups in front of a table that is full of another one, and this one behind them
lasts : (n : ℕ) (groups : List GroupLine) (g : GroupLine) → length groups < n → take (suc (length groups)) (groups ++ drop (length groups) (replicate n g)) ≡ groups ++ g ∷ []
lasts zero groups g fits = absurd (omega arith)
lasts (suc n) [] g fits = refl
lasts (suc n) (h ∷ groups) g fits = ap (λ (l : List GroupLine). h ∷ l) (lasts n groups g (omega arith))

-- the same of a table of 15
pub with_last : (groups : List GroupLine) (g : GroupLine) → length groups < 15 → take (length groups + 1) (groups ++ drop (length groups) (replicate 15 g)) ≡ groups ++ g ∷ []
with_last groups g fits = rw add-one (lasts 15 groups g fits)

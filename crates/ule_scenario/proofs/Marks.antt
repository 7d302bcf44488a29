-- Tables of threads.
use Rattle.std.proofs.Common.{◌≡◌, ℕ, zero, suc, replicate, ◌<◌, ◌≤◌, Bool, true, false, List, [], ◌∷◌, ◌++◌, map, get_or, refl, arith, sym, ◌∙◌, ⊎_elim}
use Rattle.std.specs.Prelude.{◌||◌, ◌==◌, slice_set}
use Rattle.std.proofs.lemmas.Grind.{common_steps}
use Rattle.std.proofs.lemmas.List.{get_or_past, get_or-set_same, get_or-set_other, map-append, length-set, length-replicate}
use Rattle.std.proofs.lemmas.List.Folds.{list_any-append}
use Rattle.std.proofs.lemmas.Bool.{cases_eq, ne_eqb}
use Rattle.ule_types.specs.Commands.{is_among}
use Rattle.ule_types.specs.declared.setup.ThreadSpec.{ThreadSpec}
use Rattle.ule_scenario.specs.Marks.{AreMarks}

-- what is past the table isn't marked
pub past : (table : List Bool) (ids : List ℕ) (t : ℕ) → AreMarks table ids → 256 ≤ t → false ≡ is_among ids t
past table ids t m far = sym (get_or_past table t false (omega (arith, m.size))) ∙ m.each t

-- nothing more
or_false : (b : Bool) → (b || false) ≡ b
or_false true = refl
or_false false = refl

-- what holds already
or_true : (b : Bool) → (b || true) ≡ true
or_true true = refl
or_true false = refl

-- a number is itself
eq_self : (t : ℕ) → (t == t) ≡ true
eq_self t = grind (arith, common_steps)

-- one more mark
pub marked : (table : List Bool) (ids : List ℕ) (t : ℕ) → t < 256 → AreMarks table ids → AreMarks (slice_set table t true) (ids ++ t ∷ [])
marked table ids t small m = record {
  size = length-set table t true ∙ m.size;
  each = λ u. ⊎_elim
      (λ same. rw same (get_or-set_same table t true false (omega (arith, m.size)) ∙ sym (list_any-append (λ v. v == t) ids (t ∷ []) ∙ rw (eq_self t) (or_true (is_among ids t)))))
      (λ other. get_or-set_other table t u true false other ∙ m.each u ∙ sym (list_any-append (λ v. v == u) ids (t ∷ []) ∙ rw (ne_eqb t u (λ e. other (sym e))) (or_false (is_among ids u))))
      (cases_eq u t);
}

-- the numbers of threads with one more
pub ids_grow : (threads : List ThreadSpec) (spec : ThreadSpec) → map (λ (s : ThreadSpec). s.id) (threads ++ spec ∷ []) ≡ map (λ (s : ThreadSpec). s.id) threads ++ spec.id ∷ []
ids_grow threads spec = map-append (λ (s : ThreadSpec). s.id) threads (spec ∷ [])

-- nothing is marked in a table of no marks
all_false : (n t : ℕ) → get_or (replicate n false) t false ≡ false
all_false zero t = refl
all_false (suc n) zero = refl
all_false (suc n) (suc t) = all_false n t

-- a table of no marks has no thread
pub none_marked : AreMarks (replicate 256 false) []
none_marked = record { size = length-replicate 256 false; each = λ t. all_false 256 t }

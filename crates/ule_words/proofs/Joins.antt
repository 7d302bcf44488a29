-- How two seats become one: only where the workers' knowledge lies changes.
use Rattle.std.proofs.Common.{◌≡◌, ◌≢◌, ◌⊎◌, ℕ, zero, suc, ◌+◌, eqb, eq-eqb, ne_eqb, cond, List, [], ◌∷◌, ◌++◌, length, set, sym, ap, ◌∙◌, subst, inl, inr, ⊎_elim, arith}
use Rattle.std.specs.Prelude.{Some, slice_get}
use Rattle.std.proofs.lemmas.Option.{none-some}
use mathlib.Core.Option.{some}
use lib.ListN.{get_elem?}
use Rattle.atomic_table.specs.Table.{Joins}
use Rattle.atomic_table.proofs.Lists.{at_set, set_else}
use Rattle.ule_micro.specs.Means.{Means}
use Rattle.ule_micro.specs.Shared.{Shared}
use Rattle.ule_words.specs.Rule.{Shows, ShowsWorkers}
use Rattle.ule_words.specs.Tells.{both_of, none_known}
use Rattle.ule_words.specs.declared.view.View.{View}

at_append : {A : Type 0} (xs ys : List A) (j : ℕ) (x : A) → slice_get (xs ++ ys) j ≡ Some x → (slice_get xs j ≡ Some x) ⊎ ((i : ℕ) × (j ≡ length xs + i) × (slice_get ys i ≡ Some x))
at_append [] ys j x e = inr (j, omega arith, e)
at_append (y ∷ xs) ys zero x e = inl e
at_append (y ∷ xs) ys (suc j) x e = ⊎_elim (λ h. inl h) (λ (h : (i : ℕ) × (j ≡ length xs + i) × (slice_get ys i ≡ Some x)). inr (h.0, (let z = h.1 in omega arith), h.2)) (at_append xs ys j x e)

module _ {H O G E R C : Type 0} (m : Means H O G E R C) where
  workers_join : (views : List (View H G E R)) (s : Shared H G E R) (left : List ℕ) (id other : ℕ) (v w : View H G E R) → get_elem? views id ≡ some v → other ≢ id → get_elem? views other ≡ some w
      → ShowsWorkers m views s left → ShowsWorkers m (set (set views id (both_of v w)) other none_known) s left
  workers_join views s left id other v w at two at' r = record {
    seat = λ n. cond (eqb (r.seat n) other) id (r.seat n);
    spot = λ n. cond (eqb (r.seat n) id) (length w.workers + r.spot n) (r.spot n);
    lies = λ k j u x atu atx. ⊎_elim
        (λ (h : (k ≡ other) × (none_known ≡ u)). absurd (none-some x (subst (λ (y : View H G E R). slice_get y.workers j ≡ Some x) (sym h.1) atx)))
        (λ (h : (k ≢ other) × (get_elem? (set views id (both_of v w)) k ≡ some u)). ⊎_elim
        (λ (z : (k ≡ id) × (both_of v w ≡ u)). ⊎_elim
        (λ (y : slice_get w.workers j ≡ Some x). let old = r.lies other j w x at' y in let far : r.seat x.number ≢ id = λ e. two (sym old.1 ∙ e) in
        (old.0, ap (λ b. cond b id (r.seat x.number)) (eq-eqb (r.seat x.number) other old.1) ∙ sym z.0, ap (λ b. cond b (length w.workers + r.spot x.number) (r.spot x.number)) (ne_eqb (r.seat x.number) id far) ∙ old.2))
        (λ (y : (i : ℕ) × (j ≡ length w.workers + i) × (slice_get v.workers i ≡ Some x)). let old = r.lies id y.0 v x at y.2 in let far : r.seat x.number ≢ other = λ e. two (sym e ∙ old.1) in (
          old.0,
          ap (λ b. cond b id (r.seat x.number)) (ne_eqb (r.seat x.number) other far) ∙ (old.1 ∙ sym z.0),
          ap (λ b. cond b (length w.workers + r.spot x.number) (r.spot x.number)) (eq-eqb (r.seat x.number) id old.1) ∙ (ap (λ i. length w.workers + i) old.2 ∙ sym y.1),
        ))
        (at_append w.workers v.workers j x (subst (λ (y : View H G E R). slice_get y.workers j ≡ Some x) (sym z.1) atx)))
        (λ (z : (k ≢ id) × (get_elem? views k ≡ some u)). let old = r.lies k j u x z.1 atx in let far : r.seat x.number ≢ other = λ e. h.0 (sym old.1 ∙ e) in
        (old.0, ap (λ b. cond b id (r.seat x.number)) (ne_eqb (r.seat x.number) other far) ∙ old.1, ap (λ b. cond b (length w.workers + r.spot x.number) (r.spot x.number)) (ne_eqb (r.seat x.number) id (λ e. z.0 (sym old.1 ∙ e))) ∙ old.2))
        (at_set views id k (both_of v w) u h.1))
        (at_set (set views id (both_of v w)) other k none_known u atu);
  }

  -- a seat may take in what another seat knows
  pub gathers : (id other : ℕ) (v w : View H G E R) → Joins (Shows m) id v other w (both_of v w) none_known
  gathers id other v w s r at two at' = record {
    state = r.state;
    agrees = r.agrees;
    holders = r.holders;
    words = r.words;
    values = r.values;
    allowances = r.allowances;
    workers = workers_join s.views r.state r.allowances id other v w at two (sym (set_else s.views id other (both_of v w) two) ∙ at') r.workers;
    advances = r.advances;
    budget = r.budget;
  }

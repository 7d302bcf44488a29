-- Tapes that are dealt from one history give it back.
use Rattle.std.proofs.Common.{◌≡◌, ◌≢◌, ◌⊎◌, ℕ, zero, suc, ◌+◌, ◌-◌, ◌<◌, ◌≤◌, eq-eqb, ne_eqb, List, [], ◌∷◌, ◌++◌, map, length, set, length-set, length-append, append-nil, refl, sym, ap, ◌∙◌, subst, inl, inr, ⊎_elim, arith}
use Rattle.std.specs.Prelude.{Some, reverse, slice_get, if◌then◌else◌}
use Rattle.std.proofs.lemmas.List.{reverse-append}
use Rattle.std.proofs.lemmas.Option.{none-some, same_Some}
use mathlib.Core.Logic.{dite}
use native.Mathlib.Decide.{ℕ_discrete}
use Rattle.ule_micro.specs.Shared.{Stamped}
use Rattle.ule_micro.proofs.Lists.{get_set, something, there}
use Rattle.ule_words.specs.Merge.{AreNumberedFrom, BeginsWith, IsDealt, in_order, only}
use Rattle.ule_words.specs.Workers.{made_by, numbered_in}
use Rattle.ule_words.specs.declared.log.Numbered.{Numbered}
use Rattle.ule_words.proofs.Commits.{made_else, made_here}
use Rattle.ule_words.proofs.Ties.{cons_head}

module _ {A : Type 0} where
  tail_of : List A → List A
  tail_of [] = []
  tail_of (x ∷ xs) = xs

  -- two lists that begin with an item and are equal have the same rest
  cons_tail : (x y : A) (xs ys : List A) → x ∷ xs ≡ y ∷ ys → xs ≡ ys
  unfolding tail_of
  cons_tail x y xs ys e = ap tail_of e

  nil_cons : (x : A) (xs : List A) → [] ≡ x ∷ xs → ⊥
  nil_cons x xs e = let a = ap length e in omega arith

  -- the last place of a list with one more, or another place
  pub at_last : (l : List A) (a : A) (k : ℕ) (b : A) → slice_get (l ++ a ∷ []) k ≡ Some b → (slice_get l k ≡ Some b) ⊎ (a ≡ b)
  at_last [] a zero b e = inr (same_Some a b e)
  at_last [] a (suc k) b e = absurd (none-some b e)
  at_last (x ∷ xs) a zero b e = inl e
  at_last (x ∷ xs) a (suc k) b e = at_last xs a k b e

module _ {E R : Type 0} where
  -- an entry of the worker, and one of another
  only_here : (w : ℕ) (x : Numbered E R) (es : List (Numbered E R)) → x.entry.worker ≡ w → only w (x ∷ es) ≡ x ∷ only w es
  only_here w x es e = ap (λ b. if b then x ∷ only w es else only w es) (eq-eqb x.entry.worker w e)

  only_else : (w : ℕ) (x : Numbered E R) (es : List (Numbered E R)) → x.entry.worker ≢ w → only w (x ∷ es) ≡ only w es
  only_else w x es n = ap (λ b. if b then x ∷ only w es else only w es) (ne_eqb x.entry.worker w n)

  only_end : (w : ℕ) (es : List (Numbered E R)) (y : Numbered E R) → only w (es ++ y ∷ []) ≡ only w es ++ only w (y ∷ [])
  only_end w [] y = refl
  only_end w (x ∷ es) y = dite (ℕ_discrete x.entry.worker w)
      (λ e. only_here w x (es ++ y ∷ []) e ∙ (ap (λ z. x ∷ z) (only_end w es y) ∙ ap (λ z. z ++ only w (y ∷ [])) (sym (only_here w x es e))))
      (λ n. only_else w x (es ++ y ∷ []) n ∙ (only_end w es y ∙ ap (λ z. z ++ only w (y ∷ [])) (sym (only_else w x es n))))

  -- what a worker made is its part of the entries
  pub made_only : (w : ℕ) (h : List (Stamped E R)) → reverse (map numbered_in (made_by w h)) ≡ only w (in_order h)
  made_only w [] = refl
  made_only w (x ∷ h) = let y : Numbered E R = record { number = length h + 1; entry = x.entry } in dite (ℕ_discrete x.entry.worker w)
      (λ e. ap (λ z. reverse (map numbered_in z)) (made_here w x h e) ∙ (reverse-append (let z : List (Numbered E R) = y ∷ [] in z) (map numbered_in (made_by w h))
      ∙ (ap (λ z. z ++ y ∷ []) (made_only w h) ∙ (ap (λ z. only w (in_order h) ++ z) (sym (only_here w y [] e)) ∙ sym (only_end w (in_order h) y)))))
      (λ n. ap (λ z. reverse (map numbered_in z)) (made_else w x h n) ∙ (made_only w h
      ∙ (sym (append-nil (only w (in_order h))) ∙ (ap (λ z. only w (in_order h) ++ z) (sym (only_else w y [] n)) ∙ sym (only_end w (in_order h) y)))))

  pub in_order_length : (h : List (Stamped E R)) → length (in_order h) ≡ length h
  in_order_length [] = refl
  in_order_length (x ∷ h) = length-append (in_order h) (let z : List (Numbered E R) = record { number = length h + 1; entry = x.entry } ∷ [] in z) ∙ (let e = in_order_length h in omega arith)

  rising_end : (a : ℕ) (es : List (Numbered E R)) (x : Numbered E R) → AreNumberedFrom a es → x.number ≡ a + length es → AreNumberedFrom a (es ++ x ∷ [])
  rising_end a [] x r e = (let z = e in omega arith, tt)
  rising_end a (y ∷ es) x r e = (r.0, rising_end (a + 1) es x r.1 (let z = e in omega arith))

  -- a history in order is numbered from 1
  pub in_order_rising : (h : List (Stamped E R)) → AreNumberedFrom 1 (in_order h)
  in_order_rising [] = tt
  in_order_rising (x ∷ h) = rising_end 1 (in_order h) (record { number = length h + 1; entry = x.entry }) (in_order_rising h) (let b = in_order_length h in omega arith)

  -- what holds of the maker of each entry of a history holds of each that is in order
  pub in_order_makers : (n : ℕ) (h : List (Stamped E R)) → ((j : ℕ) (x : Stamped E R) → slice_get h j ≡ Some x → x.entry.worker < n) → (j : ℕ) (x : Numbered E R) → slice_get (in_order h) j ≡ Some x → x.entry.worker < n
  in_order_makers n [] f j x e = absurd (none-some x e)
  in_order_makers n (z ∷ h) f j x e = ⊎_elim (λ (k : slice_get (in_order h) j ≡ Some x). in_order_makers n h (λ i y at. f (suc i) y at) j x k)
      (λ (k : record { number = length h + 1; entry = z.entry } ≡ x). subst (λ (u : Numbered E R). u.entry.worker < n) k (f 0 z refl))
      (at_last (in_order h) (record { number = length h + 1; entry = z.entry }) j x e)

  -- an entry of a rising list has at least its first number
  rising_from : (a w : ℕ) (es : List (Numbered E R)) → AreNumberedFrom a es → (y : Numbered E R) (rest : List (Numbered E R)) → only w es ≡ y ∷ rest → a ≤ y.number
  rising_from a w [] r y rest e = absurd (nil_cons y rest e)
  rising_from a w (x ∷ es) r y rest e = dite (ℕ_discrete x.entry.worker w)
      (λ d. let z : x ≡ y = cons_head x y (only w es) rest (sym (only_here w x es d) ∙ e) in let k : x.number ≡ y.number = ap (λ (u : Numbered E R). u.number) z in let f = r.0 in omega arith)
      (λ d. let k = rising_from (a + 1) w es r.1 y rest (sym (only_else w x es d) ∙ e) in omega arith)

  module _ (n k : ℕ) (x : Numbered E R) (es : List (Numbered E R)) (tapes : List (List (Numbered E R))) (d : IsDealt n k (x ∷ es) tapes) where
    abbrev place : ℕ
    place = n - (x.entry.worker + 1)

    maker : x.entry.worker < n
    maker = d.makers 0 x refl

    -- one tape begins with the next entry
    is_there : (j : ℕ) × (t : List (Numbered E R)) × (slice_get tapes j ≡ Some t) × BeginsWith (k + 1) t
    is_there = let m = maker in let at = something tapes place (let c = d.count in omega arith) in
        let same : n - (place + 1) ≡ x.entry.worker = omega arith in
        (place, at.0, at.1, (x, only x.entry.worker es, d.dealt place at.0 at.1 ∙ (ap (λ w. only w (x ∷ es)) same ∙ only_here x.entry.worker x es refl), d.rising.0))

    module _ (j : ℕ) (y : Numbered E R) (rest : List (Numbered E R)) (at : slice_get tapes j ≡ Some (y ∷ rest)) (num : y.number ≡ k + 1) where
      abbrev w : ℕ
      w = n - (j + 1)

      its : y ∷ rest ≡ only w (x ∷ es)
      its = d.dealt j (y ∷ rest) at

      by : x.entry.worker ≡ w
      by = dite (ℕ_discrete x.entry.worker w) (λ e. e) (λ f. absurd (let z = rising_from (k + 1 + 1) w es d.rising.1 y rest (sym (only_else w x es f) ∙ sym its) in omega arith))

      is_next : x ≡ y
      is_next = sym (cons_head y x rest (only w es) (its ∙ only_here w x es by))

      rest_is : rest ≡ only w es
      rest_is = cons_tail y x rest (only w es) (its ∙ only_here w x es by)

      dealt_on : IsDealt n (k + 1) es (set tapes j rest)
      dealt_on = record {
        count = length-set tapes j rest ∙ d.count;
        rising = d.rising.1;
        makers = λ i z e. d.makers (suc i) z e;
        dealt = λ i t e. ⊎_elim
            (λ (z : (i ≡ j) × (rest ≡ t)). sym z.1 ∙ (rest_is ∙ ap (λ v. only (n - (v + 1)) es) (sym z.0)))
            (λ (z : (i ≢ j) × (slice_get tapes i ≡ Some t)). d.dealt i t z.1 ∙ only_else (n - (i + 1)) x es (λ same. z.0 (let a = by in let c = d.count in let near : j < length tapes = there tapes j (y ∷ rest) at in let far : i < length tapes = there tapes i t z.1 in omega arith)))
            (get_set tapes j i rest t e);
      }

-- one step of the telling, where something is left
module _ {E R : Type 0} (n k count : ℕ) (left : List (Numbered E R)) (tapes : List (List (Numbered E R))) (d : IsDealt n k left tapes) (long : length left + k ≡ count) (more : k < count) where
  parted : (es : List (Numbered E R)) → 0 < length es → (x : Numbered E R) × (rest : List (Numbered E R)) × (es ≡ x ∷ rest)
  parted [] h = absurd (omega arith)
  parted (x ∷ rest) h = (x, rest, refl)

  split : (x : Numbered E R) × (rest : List (Numbered E R)) × (left ≡ x ∷ rest)
  split = parted left (omega arith)

  here : IsDealt n k (split.0 ∷ split.1) tapes
  here = subst (λ z. IsDealt n k z tapes) split.2 d

  -- some tape begins with the next number
  pub there_first : (j : ℕ) × (t : List (Numbered E R)) × (slice_get tapes j ≡ Some t) × BeginsWith (k + 1) t
  there_first = is_there n k split.0 split.1 tapes here

  -- what is left is dealt on the tapes once that tape's first entry was told
  module _ (j : ℕ) (t : List (Numbered E R)) (at : slice_get tapes j ≡ Some t) (f : BeginsWith (k + 1) t) where
    at_cons : slice_get tapes j ≡ Some (f.0 ∷ f.1)
    at_cons = at ∙ ap Some f.2

    pub told_on : (y : Numbered E R) (rest : List (Numbered E R)) → t ≡ y ∷ rest → (l : List (Numbered E R)) × IsDealt n (k + 1) l (set tapes j rest) × (length l + (k + 1) ≡ count) × (left ≡ y ∷ l)
    told_on y rest e = let same : f.0 ≡ y = cons_head f.0 y f.1 rest (sym f.2 ∙ e) in let tail : f.1 ≡ rest = cons_tail f.0 y f.1 rest (sym f.2 ∙ e) in (
      split.1,
      subst (λ z. IsDealt n (k + 1) split.1 (set tapes j z)) tail (dealt_on n k split.0 split.1 tapes here j f.0 f.1 at_cons f.3),
      (let a = ap length split.2 in omega arith),
      split.2 ∙ ap (λ z. z ∷ split.1) (is_next n k split.0 split.1 tapes here j f.0 f.1 at_cons f.3 ∙ same),
    )

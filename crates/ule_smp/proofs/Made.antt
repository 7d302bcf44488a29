-- The entries of a history in order, and each worker's own among them.
use Rattle.std.proofs.Common.{◌≡◌, ℕ, zero, suc, ◌+◌, ◌<◌, ◌≤◌, List, [], ◌∷◌, ◌++◌, length, map, slice_get, Some, refl, sym, ap, ◌∙◌, subst, inl, inr, ◌⊎◌, ⊎_elim, arith, length-append}
use Rattle.std.specs.List.{AllByRecursion}
use Rattle.std.proofs.lemmas.List.{map-append}
use Rattle.std.proofs.lemmas.Option.{none-some, same_Some}
use mathlib.Core.Logic.{dite}
use native.Mathlib.Decide.{ℕ_discrete}
use Rattle.ule_types.specs.declared.event.Entry as types
use Rattle.ule_types.specs.declared.event.Event.{Event}
use Rattle.ule_types.specs.declared.event.Reply.{Reply}
use Rattle.ule_model.specs.Legal.{Timed, entries_of}
use Rattle.ule_members.proofs.Within.{all-append}
use Rattle.ule_courses.proofs.Histories.{entries_of_other, entries_of_own}
use Rattle.ule_micro.specs.Shared.{Stamped, unstamped}
use Rattle.ule_micro.proofs.Starting.{snoc_get, snoc_last}
use Rattle.ule_micro.proofs.Lists.{there}
use Rattle.ule_parts.specs.Histories.{entries_in_order, world_entry}
use Rattle.ule_parts.proofs.Replays.{in_order_more}
use Rattle.ule_words.specs.Workers.{made_by}
use Rattle.ule_words.specs.declared.log.Numbered.{Numbered}
use Rattle.ule_words.proofs.Commits.{made_else, made_here}

-- timed entry: an entry with what its worker had advanced before it
abbrev pub timed_entry : Stamped Event Reply → Timed
timed_entry x = record { entry = world_entry x.entry; amount = x.amount }

-- timed in: the entries of a history so, the oldest first
abbrev pub timed_in : List (Stamped Event Reply) → List Timed
timed_in [] = []
timed_in (x ∷ h) = timed_in h ++ timed_entry x ∷ []

-- timed made: a worker's own entries so
abbrev pub timed_made : List (ℕ × Numbered Event Reply) → List Timed
timed_made [] = []
timed_made (x ∷ mine) = timed_made mine ++ record { entry = world_entry x.1.entry; amount = x.0 } ∷ []

-- they are the entries of the history
pub entries_timed : (h : List (Stamped Event Reply)) → map (λ x. x.entry) (timed_in h) ≡ entries_in_order (unstamped h)
entries_timed [] = refl
entries_timed (x ∷ h) = map-append (λ (y : Timed). y.entry) (timed_in h) (timed_entry x ∷ [])
    ∙ (ap (λ es. es ++ world_entry x.entry ∷ []) (entries_timed h) ∙ sym (in_order_more x.entry (unstamped h)))

-- a worker's own among them are those that it made
pub own_timed : (w : ℕ) (h : List (Stamped Event Reply)) → entries_of w (timed_in h) ≡ timed_made (made_by w h)
own_timed w [] = refl
own_timed w (x ∷ h) = dite (ℕ_discrete x.entry.worker w)
    (λ d. entries_of_own w (timed_in h) (timed_entry x) d ∙ (ap (λ es. es ++ timed_entry x ∷ []) (own_timed w h) ∙ ap timed_made (sym (made_here w x h d))))
    (λ d. entries_of_other w (timed_in h) (timed_entry x) d ∙ (own_timed w h ∙ ap timed_made (sym (made_else w x h d))))

-- what holds of each entry of a history holds of all in order
pub all_timed : (P : Timed → Type 0) (h : List (Stamped Event Reply)) → ((j : ℕ) (x : Stamped Event Reply) → slice_get h j ≡ Some x → P (timed_entry x)) → AllByRecursion P (timed_in h)
all_timed P [] each = tt
all_timed P (x ∷ h) each = all-append P (timed_in h) (timed_entry x ∷ []) (all_timed P h (λ j y at. each (suc j) y at)) (each 0 x refl, tt)

-- there are as many in order as in the history
pub count_in_order : (h : List (Stamped Event Reply)) → length (entries_in_order (unstamped h)) ≡ length h
count_in_order [] = refl
count_in_order (x ∷ h) = ap length (in_order_more x.entry (unstamped h)) ∙ (length-append (entries_in_order (unstamped h)) (world_entry x.entry ∷ []) ∙ (let a = count_in_order h in omega arith))

-- is at its number: an entry that a worker made stands in order at its number
pub record IsAtItsNumber (es : List types.Entry) (x : ℕ × Numbered Event Reply) : Type 0 where
  pub spot : ℕ
  pub number : x.1.number ≡ spot + 1
  pub stands : slice_get es spot ≡ Some (world_entry x.1.entry)

-- it stands there with one entry more
at_number_more : (x : Stamped Event Reply) (h : List (Stamped Event Reply)) (y : ℕ × Numbered Event Reply) → IsAtItsNumber (entries_in_order (unstamped h)) y → IsAtItsNumber (entries_in_order (unstamped (x ∷ h))) y
at_number_more x h y is = record {
  spot = is.spot;
  number = is.number;
  stands = ap (λ es. slice_get es is.spot) (in_order_more x.entry (unstamped h))
      ∙ (snoc_get (entries_in_order (unstamped h)) (world_entry x.entry) is.spot (there (entries_in_order (unstamped h)) is.spot (world_entry y.1.entry) is.stands) ∙ is.stands);
}

-- each entry that a worker made stands in order at its number
pub made_stands : (w : ℕ) (h : List (Stamped Event Reply)) (j : ℕ) (y : ℕ × Numbered Event Reply) → slice_get (made_by w h) j ≡ Some y → IsAtItsNumber (entries_in_order (unstamped h)) y
made_stands w [] j y at = absurd (none-some y at)
made_stands w (x ∷ h) j y at = dite (ℕ_discrete x.entry.worker w)
    (λ d. by j (ap (λ l. slice_get l j) (sym (made_here w x h d)) ∙ at) (λ i f. made_stands w h i y f))
    (λ d. at_number_more x h y (made_stands w h j y (ap (λ l. slice_get l j) (sym (made_else w x h d)) ∙ at)))
  where
    newest : ℕ × Numbered Event Reply
    newest = (x.amount, record { number = length h + 1; entry = x.entry })

    at_newest : IsAtItsNumber (entries_in_order (unstamped (x ∷ h))) newest
    at_newest = record {
      spot = length h;
      number = refl;
      stands = ap (λ es. slice_get es (length h)) (in_order_more x.entry (unstamped h)) ∙ snoc_last (entries_in_order (unstamped h)) (world_entry x.entry) (length h) (sym (count_in_order h));
    }

    by : (i : ℕ) → slice_get (newest ∷ made_by w h) i ≡ Some y → ((k : ℕ) → slice_get (made_by w h) k ≡ Some y → IsAtItsNumber (entries_in_order (unstamped h)) y)
        → IsAtItsNumber (entries_in_order (unstamped (x ∷ h))) y
    by zero f rest = subst (IsAtItsNumber (entries_in_order (unstamped (x ∷ h)))) (same_Some newest y f) at_newest
    by (suc i) f rest = at_number_more x h y (rest i f)

-- is made: the entry at this spot in order is one that its worker made, of the number behind the spot
pub record IsMade (h : List (Stamped Event Reply)) (w k : ℕ) : Type 0 where
  pub index : ℕ
  pub made : ℕ × Numbered Event Reply
  pub stands : slice_get (made_by w h) index ≡ Some made
  pub number : made.1.number ≡ k + 1

-- it is made with one entry more
made_more : (x : Stamped Event Reply) (h : List (Stamped Event Reply)) (w k : ℕ) → IsMade h w k → IsMade (x ∷ h) w k
made_more x h w k is = dite (ℕ_discrete x.entry.worker w)
    (λ d. record { index = suc is.index; made = is.made; stands = ap (λ l. slice_get l (suc is.index)) (made_here w x h d) ∙ is.stands; number = is.number })
    (λ d. record { index = is.index; made = is.made; stands = ap (λ l. slice_get l is.index) (made_else w x h d) ∙ is.stands; number = is.number })

-- each entry in order was made by its worker
pub stands_made : (h : List (Stamped Event Reply)) (k : ℕ) (e : types.Entry) → slice_get (entries_in_order (unstamped h)) k ≡ Some e → IsMade h e.worker k
stands_made [] k e at = absurd (none-some e at)
stands_made (x ∷ h) k e at = dite (ℕ_discrete k (length h)) last (λ far. before far (stands_made h k e))
  where
    all : slice_get (entries_in_order (unstamped h) ++ world_entry x.entry ∷ []) k ≡ Some e
    all = ap (λ es. slice_get es k) (sym (in_order_more x.entry (unstamped h))) ∙ at

    last : k ≡ length h → IsMade (x ∷ h) e.worker k
    last is = record {
      index = 0;
      made = (x.amount, record { number = length h + 1; entry = x.entry });
      stands = ap (λ l. slice_get l 0) (made_here e.worker x h (ap (λ (z : types.Entry). z.worker)
          (same_Some (world_entry x.entry) e (sym (snoc_last (entries_in_order (unstamped h)) (world_entry x.entry) k (is ∙ sym (count_in_order h))) ∙ all))));
      number = ap (λ n. n + 1) (sym is);
    }

    low : (k ≡ length h → ⊥) → k < length (entries_in_order (unstamped h))
    low far = let a = there (entries_in_order (unstamped h) ++ world_entry x.entry ∷ []) k e all in
        let b = length-append (entries_in_order (unstamped h)) (world_entry x.entry ∷ []) in let c = count_in_order h in omega (arith, far)

    before : (k ≡ length h → ⊥) → (slice_get (entries_in_order (unstamped h)) k ≡ Some e → IsMade h e.worker k) → IsMade (x ∷ h) e.worker k
    before far older = made_more x h e.worker k (older (sym (snoc_get (entries_in_order (unstamped h)) (world_entry x.entry) k (low far)) ∙ all))

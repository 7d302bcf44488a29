-- Where a worker stands in its program behind an event that it performed.
use Rattle.std.proofs.Common.{◌≡◌, ℕ, ◌+◌, ◌≤◌, Bool, true, false, List, [], ◌∷◌, length, refl, sym, ap, ◌∙◌, subst, subst₂}
use Rattle.std.specs.Prelude.{Some, nat_lt, if◌then◌else◌}
use Rattle.std.specs.List.{AllByRecursion}
use Rattle.std.proofs.lemmas.Option.{none-some, same_Some}
use Rattle.ule_micro.specs.declared.entry.HeldLocks.{HeldLocks}
use Rattle.ule_micro.specs.declared.entry.HeldLocks.TheVariants.{One, Two}
use Rattle.ule_micro.specs.declared.todo.Todo.TheVariants.{Event}
use Rattle.ule_micro.specs.Histories.{entry_made}
use Rattle.ule_micro.specs.Laws.{IsLawful, lock_count}
use Rattle.ule_micro.specs.Means.{Means}
use Rattle.ule_micro.specs.Standings.{asks, has}
use Rattle.ule_words.specs.Held.{held_values, in_rising_order, locks_of}
use Rattle.ule_words.specs.Passes.{PassState}
use Rattle.ule_words.specs.Programs.{StandsAt}
use Rattle.ule_words.specs.Tells.{CanCommit}
use Rattle.ule_words.specs.Workers.{act_of, committing, entries_in}

module _ {G : Type 0} where
  two_values : (b : Bool) (x y : ℕ × G) → length (let vs : List G = if b then x.1 ∷ y.1 ∷ [] else y.1 ∷ x.1 ∷ [] in vs) ≡ lock_count (if b then Two x.0 y.0 else Two y.0 x.0)
  two_values true x y = refl
  two_values false x y = refl

  -- there is a value for each lock that is held
  pub values_count : (held : List (ℕ × G)) (locks : HeldLocks) → locks_of held ≡ Some locks → length (held_values held) ≡ lock_count locks
  values_count [] locks e = absurd (none-some locks e)
  values_count (x ∷ []) locks e = ap lock_count (same_Some (One x.0) locks e)
  values_count (x ∷ y ∷ held) locks e = two_values (nat_lt x.0 y.0) x y ∙ ap lock_count (same_Some (in_rising_order x.0 y.0) locks e)

module _ {H O G E R C : Type 0} (m : Means H O G E R C) (law : IsLawful m) (p : PassState O H G E R) (num : m.number p.own ≡ p.worker.number) (hand : m.hand p.own ≡ p.worker.hand) (e : E) (locks : HeldLocks) (now : ℕ)
    (can : CanCommit m p.worker e locks now) (may : m.may p.worker.number e now p.worker.hand (held_values p.worker.held)) (none_later : AllByRecursion (λ y. y.now ≤ now) (entries_in p.worker.mine)) where
  -- the worker asks for its next item
  abbrev Asks : List C → ℕ → Type 0
  Asks given number = let left : O = m.with_hand p.own (act_of m p.worker e now).hand in let r : R = (act_of m p.worker e now).reply in
      m.stands (record { given = given; mine = entries_in (committing m p.worker e locks now number).mine }) left (asks (Some (r, now))) × (m.left left (asks (Some (r, now))) + 1 ≤ m.left p.own (has (Event e)))

  asks_next : (given : List C) (number : ℕ) → StandsAt m given p (has (Event e)) → Asks given number
  asks_next given number stands = let w : ℕ = p.worker.number in let guarded = held_values p.worker.held in
      subst (λ (h : H). let left : O = m.with_hand p.own (m.act w e now h guarded).hand in let r : R = (m.act w e now h guarded).reply in
      m.stands (record { given = given; mine = entry_made w e locks now r ∷ entries_in p.worker.mine }) left (asks (Some (r, now))) × (m.left left (asks (Some (r, now))) + 1 ≤ m.left p.own (has (Event e)))) hand
      (law.standing.performs (record { given = given; mine = entries_in p.worker.mine }) p.own (entry_made w e locks now (m.act w e now (m.hand p.own) guarded).reply) guarded stands (sym num)
      (subst (λ h. m.may w e now h guarded) (sym hand) may) can.needs (values_count p.worker.held locks can.holds) refl none_later)

  pub stands_on : (q : PassState O H G E R) (number : ℕ) (reply : R) → q.worker ≡ committing m p.worker e locks now number → q.own ≡ m.with_hand p.own (act_of m p.worker e now).hand → reply ≡ (act_of m p.worker e now).reply
      → (given : List C) → StandsAt m given p (has (Event e)) → StandsAt m given q (asks (Some (reply, now))) × (m.left q.own (asks (Some (reply, now))) + 1 ≤ m.left p.own (has (Event e)))
  stands_on q number reply worker own is given stands = let k = asks_next given number stands in (
    subst (λ o. m.stands (record { given = given; mine = entries_in q.worker.mine }) o (asks (Some (reply, now)))) (sym own)
        (subst (λ r. m.stands (record { given = given; mine = entries_in q.worker.mine }) (m.with_hand p.own (act_of m p.worker e now).hand) (asks (Some (r, now)))) (sym is)
        (subst (λ w. m.stands (record { given = given; mine = entries_in w.mine }) (m.with_hand p.own (act_of m p.worker e now).hand) (asks (Some ((act_of m p.worker e now).reply, now)))) (sym worker) k.0)),
    subst₂ (λ o r. m.left o (asks (Some (r, now))) + 1 ≤ m.left p.own (has (Event e))) (sym own) (sym is) k.1,
  )

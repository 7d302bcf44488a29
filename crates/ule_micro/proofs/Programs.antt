-- How a worker goes through its commands, up to its next item.
use Rattle.std.proofs.Common.{◌≡◌, ℕ, ◌+◌, List, ◌∷◌, drop, refl, sym, ap, ◌∙◌, subst}
use Rattle.std.specs.Prelude.{Option, Some, None, is_some, true, false, slice_get}
use Rattle.ule_micro.specs.declared.todo.Todo.{Todo}
use Rattle.ule_micro.specs.Means.{Means}
use Rattle.ule_micro.specs.Programs.{CanBegin}
use Rattle.ule_micro.specs.Turns.{Fetched, next_command}
use Rattle.ule_micro.proofs.Lists.{drop_get, drop_none}

module _ {H O G E R C : Type 0} (m : Means H O G E R C) where
  -- behind: what the first command leads to, where this came of asking for its first item
  abbrev pub behind : ℕ → List C → Option (Todo E) → O → Fetched O E
  behind k cs item own = elim item as (λ _. Fetched O E) [ None ↦ next_command m own (k + 1) cs | Some x ↦ record { item = Some x; own = own; begun = k + 1 } ]

  -- where no item comes of the first command, the others follow
  pub next_none : (own : O) (k : ℕ) (c : C) (cs : List C) → (m.next (m.begin own c) None).0 ≡ None
      → next_command m own k (c ∷ cs) ≡ next_command m (m.next (m.begin own c) None).1 (k + 1) cs
  next_none own k c cs e = ap (λ o. behind k cs o (m.next (m.begin own c) None).1) e

  -- an item of the first command is the next item
  pub next_some : (own : O) (k : ℕ) (c : C) (cs : List C) (x : Todo E) → (m.next (m.begin own c) None).0 ≡ Some x
      → next_command m own k (c ∷ cs) ≡ record { item = Some x; own = (m.next (m.begin own c) None).1; begun = k + 1 }
  next_some own k c cs x e = ap (λ o. behind k cs o (m.next (m.begin own c) None).1) e

  -- an item that is there
  pub some_is : {X : Type 0} (o : Option X) → is_some o ≡ true → (x : X) × (o ≡ Some x)
  some_is None e = absurd (cc)
  some_is (Some x) e = (x, refl)

  -- an item that is not there
  pub none_is : {X : Type 0} (o : Option X) → is_some o ≡ false → o ≡ None
  none_is None e = refl
  none_is (Some x) e = absurd (cc)

  module _ (orders : List C) (k : ℕ) (own : O) where
    -- no command is left
    pub all_begun : slice_get orders k ≡ None → next_command m own k (drop k orders) ≡ record { item = None; own = own; begun = k }
    all_begun e = ap (next_command m own k) (drop_none orders k e)

    -- the command at this place may begin
    pub may_begin : (c : C) → slice_get orders k ≡ Some c → CanBegin m own (drop k orders) → CanBegin m own (c ∷ drop (k + 1) orders)
    may_begin c at can = subst (CanBegin m own) (drop_get orders k c at) can

    module _ (c : C) (item : Option (Todo E)) (begun told : O) (at : slice_get orders k ≡ Some c) (is_begun : begun ≡ m.begin own c) (is_item : item ≡ (m.next begun None).0) (is_told : told ≡ (m.next begun None).1) where
      item_is : item ≡ (m.next (m.begin own c) None).0
      item_is = is_item ∙ ap (λ o. (m.next o None).0) is_begun

      told_is : told ≡ (m.next (m.begin own c) None).1
      told_is = is_told ∙ ap (λ o. (m.next o None).1) is_begun

      -- an item of the command that began is the next item
      pub has_item : is_some item ≡ true → next_command m own k (drop k orders) ≡ record { item = item; own = told; begun = k + 1 }
      has_item is = let x = some_is item is in ap (next_command m own k) (drop_get orders k c at) ∙ (next_some own k c (drop (k + 1) orders) x.0 (sym item_is ∙ x.1)
          ∙ (λ i. record { item = sym x.1 i; own = sym told_is i; begun = k + 1 }))

      -- without an item of it the way goes on
      pub goes_by : is_some item ≡ false → next_command m own k (drop k orders) ≡ next_command m told (k + 1) (drop (k + 1) orders)
      goes_by is = let x = none_is item is in ap (next_command m own k) (drop_get orders k c at) ∙ (next_none own k c (drop (k + 1) orders) (sym item_is ∙ x)
          ∙ ap (λ o. next_command m o (k + 1) (drop (k + 1) orders)) (sym told_is))

      -- without an item of it the commands behind it may begin
      pub can_go_by : is_some item ≡ false → CanBegin m own (drop k orders) → CanBegin m told (drop (k + 1) orders)
      can_go_by is can = subst (λ o. CanBegin m o (drop (k + 1) orders)) (sym told_is) ((may_begin c at can).2 (sym item_is ∙ none_is item is))

  -- what a worker fetches after it asked for its next item
  abbrev pub fetched : ℕ → List C → Option (Todo E) → O → Fetched O E
  fetched k orders item own = elim item as (λ _. Fetched O E) [ None ↦ next_command m own k orders | Some x ↦ record { item = Some x; own = own; begun = k } ]

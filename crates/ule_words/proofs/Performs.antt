-- What lies in a pass after an event was performed, and what its seat knows.
use Rattle.std.proofs.Common.{◌≡◌, ℕ, ◌+◌, ◌-◌, ◌<◌, ◌≤◌, List, [], ◌∷◌, ◌++◌, length, map, refl, sym, ap, ◌∙◌, subst, arith, length-append}
use Rattle.std.specs.Prelude.{Option, Some, None, is_some}
use Rattle.std.proofs.lemmas.Option.{none-some}
use Rattle.std.proofs.lemmas.List.{reverse-append}
use Rattle.atomic_table.specs.Table.{Me}
use Rattle.ule_micro.specs.declared.entry.HeldLocks.{HeldLocks}
use Rattle.ule_micro.specs.Histories.{entry_made}
use Rattle.ule_micro.specs.Means.{Means}
use Rattle.ule_words.specs.Held.{held_values, held_with, is_held, locks_of, value_held}
use Rattle.ule_words.specs.Passes.{IsTied, LogState, in_field, in_fields}
use Rattle.ule_words.specs.Workers.{act_of, committing, numbered_in, one}
use Rattle.ule_words.specs.Tells.{CanCommit, IsReady}
use Rattle.ule_words.specs.declared.holding.Held.{Held}
use Rattle.ule_words.specs.declared.holding.Holding.{Holding}
use Rattle.ule_words.specs.declared.log.Numbered.{Numbered}
use Rattle.ule_words.specs.declared.view.View.{View}
use Rattle.ule_words.specs.declared.view.Worker.{Worker}
use Rattle.ule_words.proofs.Grips.{slots_still, still_held}
use Rattle.ule_words.proofs.Helds.{found_here, held_first, held_later, held_value}
use Rattle.ule_words.proofs.Ties.{same_lock}

module _ {G : Type 0} where
  two_at_most : (last first : Option (Held G)) → length (in_field last ++ in_field first) ≤ 2
  two_at_most None None = omega arith
  two_at_most None (Some y) = omega arith
  two_at_most (Some x) None = omega arith
  two_at_most (Some x) (Some y) = omega arith

  some_last : (last first : Option (Held G)) (locks : HeldLocks) → (last ≡ None → first ≡ None) → locks_of (in_field last ++ in_field first) ≡ Some locks → (x : Held G) × (last ≡ Some x)
  some_last None None locks order e = absurd (none-some locks e)
  some_last None (Some y) locks order e = absurd (none-some y (sym (order refl)))
  some_last (Some x) first locks order e = (x, refl)

  -- a pass that holds the locks of an event has one that it took last
  pub last_held : (holding : Holding G) (locks : HeldLocks) → (holding.last ≡ None → holding.first ≡ None) → locks_of (in_fields holding) ≡ Some locks → (x : Held G) × (holding.last ≡ Some x)
  last_held holding locks order e = some_last holding.last holding.first locks order e

module _ {G : Type 0} where
  -- the lock that was taken last is low, where all that are held are
  pub last_low : (last first : Option (Held G)) (x : Held G) → ((l : ℕ) (v : G) → value_held (in_field last ++ in_field first) l ≡ Some v → l < 25) → last ≡ Some x → x.lock < 25
  last_low last first x low is = low x.lock x.value (ap (λ t. value_held (in_field t ++ in_field first) x.lock) is ∙ found_here (x.lock, x.value) (in_field first) x.lock refl)

  -- and the one that was taken before it
  pub first_low : (last first : Option (Held G)) (y : Held G) → ((l : ℕ) (v : G) → value_held (in_field last ++ in_field first) l ≡ Some v → l < 25) → first ≡ Some y → y.lock < 25
  first_low None first y low is = low y.lock y.value (ap (λ t. value_held (in_field t) y.lock) is ∙ found_here (y.lock, y.value) [] y.lock refl)
  first_low (Some x) first y low is = let h = held_value ((x.lock, x.value) ∷ in_field first) y.lock
      (ap (λ t. is_held ((x.lock, x.value) ∷ in_field t) y.lock) is ∙ held_later (x.lock, x.value) ((y.lock, y.value) ∷ []) y.lock (held_first (y.lock, y.value) [] y.lock refl)) in low y.lock h.0 h.1

module _ {H O G E R C : Type 0} (m : Means H O G E R C) where
  -- a pass whose worker can commit is ready
  pub ready_pass : (w left time : ℕ) (h : H) (u : ℕ) (holding : Holding G) (list : LogState (Numbered E R)) (me : Me (Option G) (View H G E R)) (t : IsTied w left time h u holding list me) (e : E) (locks : HeldLocks) (now : ℕ)
      → CanCommit m t.worker e locks now → IsReady m me e
  ready_pass w left time h u holding list me t e locks now can = record {
    worker = t.worker;
    knows = ap (λ z. z.0) t.view;
    locks = locks;
    now = now;
    can = can;
    few = subst (λ f. length f ≤ 2) (sym t.held) (two_at_most holding.last holding.first);
  }

  module _ (p : Worker H G E R) (own : O) (holding : Holding G) (now time : ℕ) (e : E) (num : m.number own ≡ p.number) (hand : m.hand own ≡ p.hand) (held : in_fields holding ≡ p.held) (moment : time ≡ now) where
    -- what is performed with: a worker's number, a time, its hand and what it holds
    abbrev With : Type 0
    With = ℕ × ℕ × H × List (ℕ × G)

    with_same : (let a : With = (m.number own, time, m.hand own, in_fields holding) in a) ≡ (p.number, now, p.hand, p.held)
    with_same = λ i. (num i, moment i, hand i, held i)

    -- an event that the worker may perform may be performed with what lies in the pass
    pub may_perform : m.may p.number e now p.hand (held_values p.held) → m.may (m.number own) e time (m.hand own) (held_values (in_fields holding))
    may_perform may = subst (λ (z : With). m.may z.0 e z.1 z.2 (held_values z.3)) (sym with_same) may

    -- and leaves the same
    pub acts_alike : m.act (m.number own) e time (m.hand own) (held_values (in_fields holding)) ≡ act_of m p e now
    acts_alike = ap (λ (z : With). m.act z.0 e z.1 z.2 (held_values z.3)) with_same

  -- a pass after a commit
  pub committed_tied : (w left time : ℕ) (h h' : H) (u u' : ℕ) (holding new : Holding G) (list list' : LogState (Numbered E R)) (me me' : Me (Option G) (View H G E R)) (t : IsTied w left time h u holding list me)
      (e : E) (locks : HeldLocks) (now number : ℕ) (x y : Held G) (made : Numbered E R)
      → 0 < left → holding.last ≡ Some x → new.last ≡ Some y → y.lock ≡ x.lock → ((b : Held G) → new.first ≡ Some b → (a : Held G) × (holding.first ≡ Some a) × (b.lock ≡ a.lock))
      → in_fields new ≡ held_with t.worker.held (act_of m t.worker e now).values → h' ≡ (act_of m t.worker e now).hand → u' ≡ u
      → list' ≡ record { items = list.items ++ made ∷ []; room = list.room } → made ≡ record { number = number; entry = entry_made t.worker.number e locks now (act_of m t.worker e now).reply }
      → me' ≡ (one (committing m t.worker e locks now number), me.1) → IsTied w (left - 1) time h' u' new list' me'
  committed_tied w left time h h' u u' holding new list list' me me' t e locks now number x y made more top after same below held hand num noted is now_me =
      let p = t.worker in let vs = (act_of m p e now).values in record {
        worker = committing m p e locks now number;
        view = now_me ∙ (λ i. (one (committing m p e locks now number), (ap (λ z. z.1) t.view ∙ sym (slots_still p.held vs)) i));
        number = t.number;
        part = num ∙ t.part;
        hand = sym hand;
        allowance = ap (λ z. z - 1) t.allowance;
        time = t.time;
        held = sym held;
        log = ap (λ l. l.items) noted ∙ ((λ i. t.log i ++ is i ∷ []) ∙ sym (reverse-append (let z : List (Numbered E R) = record { number = number; entry = entry_made p.number e locks now (act_of m p e now).reply } ∷ [] in z) (map numbered_in p.mine)));
        room = subst (λ (l : LogState (Numbered E R)). length l.items + (left - 1) ≤ l.room) (sym noted) (let z = t.room in omega (arith, length-append list.items (made ∷ [])));
        order = λ none. absurd (none-some y (sym none ∙ after));
        apart = λ u b at_u at_b lock_same. let old = below b at_b in t.apart x old.0 top old.1 (sym same ∙ (same_lock y u (sym after ∙ at_u) ∙ (lock_same ∙ old.2)));
        low = λ l v has. let old = held_value p.held l (sym (still_held p.held vs l) ∙ ap is_some has) in t.low l old.0 old.1;
      }

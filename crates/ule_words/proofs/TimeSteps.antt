-- What each step on the word of now keeps.
use Rattle.std.proofs.Common.{◌≡◌, ℕ, zero, suc, ◌+◌, ◌-◌, ◌<◌, ◌≤◌, ◌%◌, ◌^◌, List, ◌∷◌, set, refl, sym, ap, ◌∙◌, subst, arith, true≢false, get_or, length-set, mod-eq_of_lt}
use Rattle.std.specs.Prelude.{Option, Some, None, slice_get}
use Rattle.std.proofs.lemmas.Option.{same_Some}
use mathlib.Core.Option.{some}
use lib.ListN.{get_elem?}
use Rattle.atomic_table.specs.Table.{State, keeps, stepped, Allows}
use Rattle.ule_micro.specs.declared.entry.HeldLocks.{HeldLocks}
use Rattle.ule_micro.specs.Means.{Means}
use Rattle.ule_micro.specs.Laws.{IsLawful}
use Rattle.ule_micro.specs.Shared.{Shared, TimeRead, now_advanced, now_read}
use Rattle.ule_micro.proofs.Among.{first_among}
use Rattle.ule_micro.proofs.Lists.{get_else, get_here, there}
use Rattle.ule_micro.proofs.SharedSteps.{advancing_agrees, put_else, put_here, reading_agrees}
use Rattle.ule_words.specs.Held.{locks_of}
use Rattle.ule_words.specs.Workers.{advancing, one, read_under, timed}
use Rattle.ule_words.specs.Rule.{IsWorker, Shows}
use Rattle.ule_words.specs.Tells.{Advances, Times}
use Rattle.ule_words.specs.declared.view.View.{View}
use Rattle.ule_words.specs.declared.view.Worker.{Worker}
use Rattle.ule_words.proofs.Helds.{locks_held, no_locks}
use Rattle.ule_words.proofs.Knows.{knows_kept, one_injective, workers_after}
use Rattle.ule_words.proofs.Shown.{shows_now, together_set, together_small}
use Rattle.ule_words.proofs.WordSteps.{here, its_lock}

-- what holds of each advance holds of one more
each_more : (k : ℕ) (xs : List ℕ) → (1 ≤ k) × (k ≤ 1000000) → ((j x : ℕ) → slice_get xs j ≡ Some x → (1 ≤ x) × (x ≤ 1000000)) → (j x : ℕ) → slice_get (k ∷ xs) j ≡ Some x → (1 ≤ x) × (x ≤ 1000000)
each_more k xs new each zero x e = subst (λ z. (1 ≤ z) × (z ≤ 1000000)) (same_Some k x e) new
each_more k xs new each (suc j) x e = each j x e

module _ {H O G E R C : Type 0} (m : Means H O G E R C) (s : State (Option G) (View H G E R)) (r : Shows m s) (id : ℕ) (p : Worker H G E R) (at : get_elem? s.views id ≡ some (one p)) where
  abbrev st : Shared H G E R
  st = r.state

  abbrev w : ℕ
  w = p.number

  it : IsWorker m r.state r.allowances p
  it = here m s r id p at

  abbrev n : ℕ
  n = get_or s.words 282 0

  now_is : n ≡ st.now
  now_is = r.words.now

  -- a worker that holds no lock keeps no time
  nothing_read : locks_of p.held ≡ None → st.read w ≡ None
  nothing_read none = by (st.read w) refl where
    by : (o : Option TimeRead) → st.read w ≡ o → st.read w ≡ None
    by None e = e
    by (Some t) e = let l = first_among t.locks in absurd (true≢false (sym ((r.agrees.times w t e).holds l.0 l.1) ∙ (it.knows.holds l.0 ∙ no_locks p.held l.0 none)))

  abbrev after : Option HeldLocks → Worker H G E R
  after o = record p { read = read_under o n }

  abbrev reading : Worker H G E R → State (Option G) (View H G E R)
  reading q = record { words = set s.words 282 n; homes = s.homes; views = set s.views id (one q) }

  by_locks : (o : Option HeldLocks) → locks_of p.held ≡ o → Shows m (reading (after o))
  by_locks None none = let k = it.knows in record {
    state = st;
    agrees = r.agrees;
    holders = r.holders;
    words = shows_now s.words st st r.words n (sym now_is) (λ l. refl) (λ t. refl) refl;
    values = record { count = r.values.count; home = r.values.home };
    allowances = r.allowances;
    workers = workers_after m s.views st st r.allowances r.allowances id p (after None) at refl r.workers
        (record {
          number = it.number;
          knows = record { hand = k.hand; holds = k.holds; values = k.values; pending = k.pending; read = nothing_read none; advanced = k.advanced; mine = k.mine; seen = k.seen; numbers = k.numbers };
          left = it.left;
        })
        (λ x far o. o);
    advances = r.advances;
    budget = r.budget;
  }
  by_locks (Some locks) are = let k = it.knows in let s' : Shared H G E R = now_read st w locks in record {
    state = s';
    agrees = reading_agrees m st w locks r.agrees (λ l a. its_lock m s r id p at l (locks_held p.held locks l are a));
    holders = r.holders;
    words = shows_now s.words st s' r.words n (sym now_is) (λ l. refl) (λ t. refl) refl;
    values = record { count = r.values.count; home = r.values.home };
    allowances = r.allowances;
    workers = workers_after m s.views st s' r.allowances r.allowances id p (after (Some locks)) at refl r.workers
        (record {
          number = it.number;
          knows = record {
            hand = k.hand;
            holds = k.holds;
            values = k.values;
            pending = k.pending;
            read = put_here st.read w (Some (record { locks = locks; now = st.now })) ∙ (λ i. Some (record { locks = locks; now = sym now_is i }));
            advanced = k.advanced;
            mine = k.mine;
            seen = k.seen;
            numbers = k.numbers;
          };
          left = it.left;
        })
        (λ x far o. record {
          number = o.number;
          knows = knows_kept st s' x refl (λ i. refl) (λ i h. refl) refl (put_else st.read w (Some (record { locks = locks; now = st.now })) x.number far) refl refl (omega arith) o.knows;
          left = o.left;
        });
    advances = r.advances;
    budget = record { each = r.budget.each; now = r.budget.now; items = r.budget.items; amounts = r.budget.amounts };
  }

  reads_now : Shows m (reading (timed p n))
  reads_now = by_locks (locks_of p.held) refl

  -- now is far below the greatest number
  pub now_small : IsLawful m → st.now ≤ 65536020000
  now_small law = let a = together_small r.advances r.budget.each in let b = r.budget.now in let c = r.budget.items in let d = law.small.small in omega arith

  raises_now : (k : ℕ) → 1 ≤ k → k ≤ 1000000 → 0 < p.allowance → Shows m record { words = set s.words 282 (n + k); homes = s.homes; views = set s.views id (one (advancing p k)) }
  raises_now j least few left = let k = it.knows in let s' : Shared H G E R = now_advanced st w p.advanced j in let less : ℕ = p.allowance - 1 in record {
    state = s';
    agrees = advancing_agrees m st w p.advanced j r.agrees k.advanced;
    holders = r.holders;
    words = shows_now s.words st s' r.words (n + j) (ap (λ z. z + j) (sym now_is)) (λ l. refl) (λ t. refl) refl;
    values = record { count = r.values.count; home = r.values.home };
    allowances = set r.allowances w less;
    workers = workers_after m s.views st s' r.allowances (set r.allowances w less) id p (advancing p j) at refl r.workers
        (record {
          number = it.number;
          knows = record {
            hand = k.hand;
            holds = k.holds;
            values = k.values;
            pending = k.pending;
            read = put_here st.read w None;
            advanced = get_here st.advanced w (p.advanced + j) (there st.advanced w p.advanced k.advanced);
            mine = k.mine;
            seen = k.seen;
            numbers = λ i x e. let z = k.numbers i x e in (z.0, let a = z.1 in omega arith);
          };
          left = get_here r.allowances w less (there r.allowances w p.allowance it.left);
        })
        (λ x far o. record {
          number = o.number;
          knows = knows_kept st s' x refl (λ i. refl) (λ i h. refl) refl (put_else st.read w None x.number far) (get_else st.advanced w x.number (p.advanced + j) far) refl (omega arith) o.knows;
          left = get_else r.allowances w x.number less far ∙ o.left;
        });
    advances = j ∷ r.advances;
    budget = record {
      each = each_more j r.advances (least, few) r.budget.each;
      now = let a = r.budget.now in omega arith;
      items = let a = r.budget.items in let b = together_set r.allowances w p.allowance less it.left in omega arith;
      amounts = length-set st.advanced w (p.advanced + j) ∙ r.budget.amounts;
    };
  }

module _ {H O G E R C : Type 0} (m : Means H O G E R C) where
  -- now may be read
  pub now_allows : (slots id : ℕ) (p : Worker H G E R) (c : List (ℕ × Option G)) → Allows (Shows m) slots id (one p, c) 282 (λ n. n) (Times (one p, c))
  now_allows slots id p c s r deep at small = (one (timed p (get_or s.words 282 0)), keeps, tt, reads_now m s r id p at, λ q e. ap (λ z. (one (timed z (get_or s.words 282 0)), c)) (one_injective p q e))

  -- now may be advanced
  pub advance_allows : IsLawful m → (slots id : ℕ) (p : Worker H G E R) (c : List (ℕ × Option G)) (k : ℕ) → 1 ≤ k → k ≤ 1000000 → 0 < p.allowance → Allows (Shows m) slots id (one p, c) 282 (λ n. (n + k) % 2 ^ 64) (λ _. Advances k (one p, c))
  advance_allows law slots id p c k least few left s r deep at small = let n : ℕ = get_or s.words 282 0 in
      let fits : n + k < 2 ^ 64 = (let a = now_small m s r id p at law in let b : n ≡ r.state.now = r.words.now in omega arith) in (
        one (advancing p k),
        keeps,
        tt,
        subst (λ z. Shows m (stepped s 282 z id c (one (advancing p k)) keeps)) (sym (mod-eq_of_lt fits)) (raises_now m s r id p at k least few left),
        λ q e. ap (λ z. (one (advancing z k), c)) (one_injective p q e),
      )

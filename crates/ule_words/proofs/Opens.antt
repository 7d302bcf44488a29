-- The rule at the start, and when a seat gives a worker to a new seat.
use Rattle.std.proofs.Common.{◌≡◌, ℕ, zero, suc, ◌+◌, ◌<◌, Bool, true, false, List, [], ◌∷◌, ◌++◌, length, map, drop, refl, sym, ap, ◌∙◌, subst, inl, arith, true≢false, length-append}
use Rattle.std.specs.Prelude.{Option, Some, None, slice_get}
use Rattle.std.proofs.lemmas.Option.{none-some, same_Some}
use mathlib.Core.Option.{some}
use lib.ListN.{get_elem?, length-map}
use Rattle.atomic_table.specs.Table.{Splits, opening}
use Rattle.ule_micro.specs.declared.word.Word.TheVariants.{Lock}
use Rattle.ule_micro.specs.Agreement.{under}
use Rattle.ule_micro.specs.Means.{Means, budgets, carried_by}
use Rattle.ule_micro.specs.Laws.{IsLawful}
use Rattle.ule_micro.specs.Shared.{Agrees, together}
use Rattle.ule_micro.proofs.Lists.{get_map, map_get, there}
use Rattle.ule_micro.proofs.Numbers.{budgets_next}
use Rattle.ule_micro.proofs.Starting.{snoc_get, snoc_last}
use Rattle.atomic_table.specs.Seated.{TableId}
use mathlib.Core.Logic.{dite}
use native.Mathlib.Decide.{ℕ_discrete}
use Rattle.ule_words.specs.Workers.{KnowsItsPart, first_worker, first_workers}
use Rattle.ule_words.specs.Rule.{Shows, first_state, first_view}
use Rattle.ule_words.specs.Passes.{PassState}
use Rattle.ule_words.specs.Starts.{AreFirstPasses, AreFirstWords}
use Rattle.ule_words.specs.Tells.{first_of, rest_of}
use Rattle.ule_words.specs.declared.view.View.{View}
use Rattle.ule_words.specs.declared.view.Worker.{Worker}
use Rattle.ule_words.proofs.Knows.{only_first, workers_deal}

none_together : {X : Type 0} (xs : List X) → together (map (λ x. 0) xs) ≡ 0
none_together [] = refl
none_together (x ∷ xs) = let a = none_together xs in omega arith

-- each value is at home at the start
home_first : {G : Type 0} (vs : List G) (l : ℕ) (v : G) → slice_get vs l ≡ Some v → get_elem? (map (λ (x : Option G). some x) (map (λ x. Some x) vs)) l ≡ some (some (Some v))
home_first [] l v e = absurd (none-some v e)
home_first (x ∷ xs) zero v e = ap (λ y. some (some (Some y))) (same_Some x v e)
home_first (x ∷ xs) (suc l) v e = home_first xs l v e

module _ {H O G E R C : Type 0} (m : Means H O G E R C) where
  -- a worker at the start has its own part
  pub first_at : (w : ℕ) (owns : List O) (j : ℕ) (p : Worker H G E R) → slice_get (first_workers m w owns) j ≡ Some p → (own : O) × (slice_get owns j ≡ Some own) × (p ≡ first_worker m (w + j) own)
  first_at w [] j p e = absurd (none-some p e)
  first_at w (own ∷ owns) zero p e = (own, refl, sym (same_Some (first_worker m w own) p e) ∙ ap (λ i. first_worker m i own) (let z : w ≡ w + 0 = omega arith in z))
  first_at w (own ∷ owns) (suc j) p e = let z = first_at (w + 1) owns j p e in (z.0, z.1, z.2 ∙ ap (λ i. first_worker m i z.0) (let y : w + 1 + j ≡ w + suc j = omega arith in y))

  -- the allowances at the start are the budgets
  first_budgets : (w : ℕ) (owns : List O) → together (map (λ (p : Worker H G E R). p.allowance) (first_workers m w owns)) + budgets m.budget w ≡ budgets m.budget (w + length owns)
  first_budgets w [] = let c = ap (budgets m.budget) (let z : w ≡ w + 0 = omega arith in z) in omega arith
  first_budgets w (own ∷ owns) = let a = first_budgets (w + 1) owns in let b = budgets_next m.budget w in let c = ap (budgets m.budget) (let z : w + 1 + length owns ≡ w + suc (length owns) = omega arith in z) in omega arith

  module _ (law : IsLawful m) where
    no_thread : (t w : ℕ) → m.declared t ≡ true → carried_by m (map m.hand m.owns) w t ≡ false
    no_thread t w dec = by (slice_get (map m.hand m.owns) w) refl where
      by : (o : Option H) → slice_get (map m.hand m.owns) w ≡ o → carried_by m (map m.hand m.owns) w t ≡ false
      by None e = ap (λ i. elim i as (λ _. Bool) [ None ↦ false | Some h ↦ m.carried_in h t ]) e
      by (Some h) e = let o = map_get m.hand m.owns w h e in ap (λ i. elim i as (λ _. Bool) [ None ↦ false | Some h ↦ m.carried_in h t ]) e ∙ (ap (λ i. m.carried_in i t) (sym o.2) ∙ law.settled.empty t w o.0 dec o.1)

    -- the state at the start agrees
    pub first_agrees : Agrees m (first_state m)
    first_agrees = record {
      values = law.small.locks;
      locks = λ l. record { named = λ w h. absurd (true≢false (sym h)); held = λ w e. absurd (none-some w e) };
      threads = λ t dec. record {
        place = under (m.word t);
        there = law.settled.stands t dec;
        only_under = λ l e. ap under (sym (law.settled.once t l dec e));
        only_hand = λ w e. absurd (true≢false (sym e ∙ no_thread t w dec));
        word_agrees = inl (refl, λ w c e _. none-some c e);
        change_agrees = λ w c e _. absurd (none-some c e);
      };
      undeclared = λ t none. ap Lock (law.settled.limbo t none);
      changes = λ w c is. absurd (none-some c is);
      times = λ w t is. absurd (none-some t is);
      past = λ j x e. absurd (none-some x e);
      now = let a = none_together m.owns in omega arith;
      ticket = refl;
      history = refl;
    }

    first_knows : (w : ℕ) (own : O) → slice_get m.owns w ≡ Some own → KnowsItsPart (first_state m) (first_worker m w own)
    first_knows w own at = record {
      hand = get_map m.hand m.owns w own at;
      holds = λ l. refl;
      values = λ l v e. absurd (none-some v e);
      pending = refl;
      read = refl;
      advanced = get_map (λ own. 0) m.owns w own at;
      mine = refl;
      seen = omega arith;
      numbers = λ j x e. absurd (none-some x e);
    }

    abbrev workers : List (Worker H G E R)
    workers = first_workers m 0 m.owns

    abbrev allowances : List ℕ
    allowances = map (λ (p : Worker H G E R). p.allowance) workers

    -- the table at the start shows the state at the start
    pub opens : (words : List ℕ) → AreFirstWords m words → Shows m (opening words (map (λ x. Some x) m.values) (first_view m))
    opens words o = record {
      state = first_state m;
      agrees = first_agrees;
      holders = λ w l h. absurd (true≢false (sym h));
      words = record {
        count = o.count;
        locks = o.locks;
        threads = o.threads;
        ticket = o.ticket;
        now = o.now;
      };
      values = record {
        count = length-map (map (λ x. Some x) m.values) (λ (x : Option G). some x) ∙ (length-map m.values (λ x. Some x) ∙ law.small.locks);
        home = λ l v e. home_first m.values l v e;
      };
      allowances = allowances;
      workers = record {
        seat = λ _. 0;
        spot = λ n. n;
        lies = λ k j v p atv atp. let z = only_first (first_view m) v k atv in
            let at : slice_get workers j ≡ Some p = subst (λ (y : View H G E R). slice_get y.workers j ≡ Some p) (sym z.1) atp in
            let f = first_at 0 m.owns j p at in
            let num : p.number ≡ j = (let a = ap (λ (q : Worker H G E R). q.number) f.2 in omega arith) in
            let same : p ≡ first_worker m j f.0 = f.2 ∙ ap (λ i. first_worker m i f.0) (let y : 0 + j ≡ j = omega arith in y) in (
              record {
                number = subst (λ i. i < length m.owns) (sym num) (there m.owns j f.0 f.1);
                knows = subst (KnowsItsPart (first_state m)) (sym same) (first_knows j f.0 f.1);
                left = ap (slice_get allowances) num ∙ get_map (λ (q : Worker H G E R). q.allowance) workers j p at;
              },
              sym z.0,
              num,
            );
      };
      advances = [];
      budget = record {
        each = λ j k e. absurd (none-some k e);
        now = refl;
        items = let a = first_budgets 0 m.owns in let b = law.small.small in let c = ap (budgets m.budget) (let y : 0 + length m.owns ≡ length m.owns = omega arith in y) in let d : budgets m.budget 0 ≡ 0 = refl in omega arith;
        amounts = length-map m.owns (λ own. 0);
      };
    }

  -- a seat may give its first worker to a new seat
  pub deals : (id : ℕ) (p : Worker H G E R) (ps : List (Worker H G E R)) → Splits (Shows m) id (record { workers = p ∷ ps }) (rest_of (record { workers = p ∷ ps })) (first_of (record { workers = p ∷ ps }))
  deals id p ps s r at = record {
    state = r.state;
    agrees = r.agrees;
    holders = r.holders;
    words = r.words;
    values = r.values;
    allowances = r.allowances;
    workers = workers_deal m s.views r.state r.allowances id p ps at r.workers;
    advances = r.advances;
    budget = r.budget;
  }

  -- the workers from one on, the first of them apart
  pub first_drop : (w n : ℕ) (owns : List O) (own : O) → slice_get owns n ≡ Some own → drop n (first_workers m w owns) ≡ first_worker m (w + n) own ∷ drop (suc n) (first_workers m w owns)
  first_drop w n [] own e = absurd (none-some own e)
  first_drop w zero (x ∷ owns) own e = λ i. first_worker m (let z : w ≡ w + 0 = omega arith in z i) (same_Some x own e i) ∷ first_workers m (w + 1) owns
  first_drop w (suc n) (x ∷ owns) own e = first_drop (w + 1) n owns own e ∙ ap (λ i. first_worker m i own ∷ drop (suc n) (first_workers m (w + 1) owns)) (let z : w + 1 + n ≡ w + suc n = omega arith in z)

  -- the passes of the first workers, with one more
  pub first_passes_more : (n : ℕ) (z : TableId) (ps ps' : List (PassState O H G E R)) (p : PassState O H G E R) → AreFirstPasses m n z ps → p.table ≡ z → slice_get m.owns n ≡ Some p.own → p.worker ≡ first_worker m n p.own
      → ps' ≡ ps ++ p ∷ [] → AreFirstPasses m (n + 1) z ps'
  first_passes_more n z ps ps' p old table own worker is = let many = old.count in record {
    count = let a : length ps' ≡ length (ps ++ p ∷ []) = ap length is in let b = length-append ps (p ∷ []) in omega arith;
    each = λ w q at. dite (ℕ_discrete w n)
        (λ e. let same : p ≡ q = same_Some p q (sym (snoc_last ps p w (e ∙ sym many)) ∙ (ap (λ l. slice_get l w) (sym is) ∙ at)) in
        subst (λ (y : PassState O H G E R). (y.table ≡ z) × (slice_get m.owns w ≡ Some y.own) × (y.worker ≡ first_worker m w y.own)) same
        (subst (λ i. (p.table ≡ z) × (slice_get m.owns i ≡ Some p.own) × (p.worker ≡ first_worker m i p.own)) (sym e) (table, own, worker)))
        (λ far. let h : w < length ps' = there ps' w q at in let a : length ps' ≡ length (ps ++ p ∷ []) = ap length is in let b = length-append ps (p ∷ []) in
        old.each w q (sym (snoc_get ps p w (omega arith)) ∙ (ap (λ l. slice_get l w) (sym is) ∙ at)));
  }

  -- the passes of as many workers
  pub first_passes_all : (n k : ℕ) (z : TableId) (ps : List (PassState O H G E R)) → AreFirstPasses m n z ps → n ≡ k → AreFirstPasses m k z ps
  first_passes_all n k z ps are same = subst (λ i. AreFirstPasses m i z ps) same are

-- What each step on a lock's word or a thread's word keeps.
use Rattle.std.proofs.Common.{◌≡◌, ℕ, ◌+◌, ◌<◌, Bool, true, false, eqb, List, ◌∷◌, length, set, refl, sym, ap, ◌∙◌, subst, arith, true≢false, get_or, length-set}
use Rattle.std.specs.Prelude.{Option, Some, None, is_some, slice_get}
use Rattle.std.proofs.lemmas.Option.{none-some}
use mathlib.Core.Option.{some, none}
use mathlib.Core.Logic.{dite}
use native.Mathlib.Decide.{ℕ_discrete}
use lib.ListN.{get_elem?}
use lib.Seq.{set-get_or}
use prog.Atomic.{either}
use Rattle.atomic_table.specs.Table.{State, Act, keeps, takes, gives, stepped, carried_after, Valid, Allows}
use Rattle.atomic_table.proofs.Lists.{set_here, set_else, set_again, exchanged}
use Rattle.ule_micro.specs.declared.word.Word.{Word}
use Rattle.ule_micro.specs.declared.word.Word.TheVariants.{Lock, Blocked}
use Rattle.ule_micro.specs.declared.word.WordChange.TheVariants.{Block, Point}
use Rattle.ule_micro.specs.Means.{Means}
use Rattle.ule_micro.specs.Shared.{Agrees, Shared, lock_released, lock_taken, with_hold, word_stored}
use Rattle.ule_micro.proofs.Lists.{one_there, something}
use Rattle.ule_micro.proofs.SharedSteps.{blocking_agrees, hold_else, hold_here, hold_more, hold_other, pointing_agrees, put_else, put_here, releasing_agrees, taking_agrees}
use Rattle.ule_words.specs.Held.{held_but, is_held, value_held}
use Rattle.ule_words.specs.Workers.{KnowsItsPart, calm, one, releasing, taking}
use Rattle.ule_words.specs.Rule.{IsKept, IsWorker, Shows, thread_word}
use Rattle.ule_words.specs.Tells.{Calms, IsHolderOf, Reads, Releases, Takes}
use Rattle.ule_words.specs.declared.view.View.{View}
use Rattle.ule_words.specs.declared.view.Worker.{Worker}
use Rattle.ule_words.proofs.Helds.{but_else, but_here, found_else, found_here, held_value}
use Rattle.ule_words.proofs.Knows.{knows_kept, one_injective, workers_after}
use Rattle.ule_words.proofs.Shown.{kept_as, lock_busy, lock_free, shows_lock, shows_thread, words_low}

module _ {H O G E R C : Type 0} (m : Means H O G E R C) where
  -- the table of the words
  abbrev pub Board : Type 0
  Board = State (Option G) (View H G E R)

  -- a read changes nothing
  pub unmoved : (s : Board) (id i : ℕ) (v : View H G E R) (c : List (ℕ × Option G)) → get_elem? s.views id ≡ some v → Shows m s → Shows m (stepped s i (get_or s.words i 0) id c v keeps)
  unmoved s id i v c at r = subst (λ (ws : List ℕ). Shows m record { words = ws; homes = s.homes; views = set s.views id v }) (sym (set-get_or s.words i 0))
      (subst (λ (vs : List (View H G E R)). Shows m record { words = s.words; homes = s.homes; views = vs }) (sym (set_again s.views id v at)) r)

  module _ (s : Board) (r : Shows m s) (id : ℕ) (p : Worker H G E R) (at : get_elem? s.views id ≡ some (one p)) where
    abbrev st : Shared H G E R
    st = r.state

    -- the worker that steps
    pub here : IsWorker m r.state r.allowances p
    here = (r.workers.lies id 0 (one p) p at refl).0

    -- a lock that it holds is its own, and there is
    pub its_lock : (l : ℕ) → is_held p.held l ≡ true → st.holds p.number l ≡ true
    its_lock l h = here.knows.holds l ∙ h

    -- a free lock is not held
    free_lock : (l : ℕ) → st.locks l ≡ None → is_held p.held l ≡ false
    free_lock l free = by (is_held p.held l) refl where
      by : (b : Bool) → is_held p.held l ≡ b → is_held p.held l ≡ false
      by true e = absurd (none-some p.number (sym free ∙ (r.agrees.locks l).named p.number (its_lock l e)))
      by false e = e

    taken : (l : ℕ) (v : G) (c : List (ℕ × Option G)) → l < 25 → st.locks l ≡ None → slice_get st.values l ≡ Some v → Shows m (stepped s l (p.number + 1) id c (one (taking p l v)) (takes l (Some v)))
    taken l v c near free at_v = let w : ℕ = p.number in let s' : Shared H G E R = lock_taken st w l in let q : Worker H G E R = taking p l v in let k = here.knows in record {
      state = s';
      agrees = taking_agrees m st w l r.agrees free;
      holders = λ u i h. dite (ℕ_discrete i l)
          (λ z. dite (ℕ_discrete u w) (λ y. (subst (λ x. x < length m.owns) (sym y) here.number, subst (λ x. x < 25) (sym z) near)) (λ far. r.holders u i (sym (hold_other st.holds w l true u i far) ∙ h)))
          (λ far. r.holders u i (sym (hold_else st.holds w l true u i far) ∙ h));
      words = shows_lock s.words st s' r.words l (Some w) near (put_here st.locks l (Some w)) (λ i far. put_else st.locks l (Some w) i far) (λ t. refl) refl refl;
      values = record {
        count = length-set s.homes l none ∙ r.values.count;
        home = λ i u e. dite (ℕ_discrete i l)
            (λ z. subst (λ j. IsKept (get_elem? (set s.homes l none) j) u (s'.locks j)) (sym z) (subst (IsKept (get_elem? (set s.homes l none) l) u) (sym (put_here st.locks l (Some w))) (set_here s.homes l none (let a : length s.homes ≡ 25 = r.values.count in omega arith))))
            (λ far. kept_as (get_elem? s.homes i) (get_elem? (set s.homes l none) i) u (st.locks i) (s'.locks i) (set_else s.homes l i none far) (put_else st.locks l (Some w) i far) (r.values.home i u e));
      };
      allowances = r.allowances;
      workers = workers_after m s.views st s' r.allowances r.allowances id p q at refl r.workers
          (record {
            number = here.number;
            knows = record {
              hand = k.hand;
              holds = λ i. dite (ℕ_discrete i l)
                  (λ z. subst (λ j. with_hold st.holds w l true w j ≡ is_held ((l, v) ∷ p.held) j) (sym z) (hold_here st.holds w l true ∙ sym (ap is_some (found_here (l, v) p.held l refl))))
                  (λ far. hold_more st.holds w l true i far ∙ (k.holds i ∙ sym (ap is_some (found_else (l, v) p.held i (λ e. far (sym e))))));
              values = λ i u e. dite (ℕ_discrete i l)
                  (λ z. subst (λ j. slice_get st.values j ≡ Some u) (sym z) (at_v ∙ (sym (found_here (l, v) p.held l refl) ∙ (ap (value_held ((l, v) ∷ p.held)) (sym z) ∙ e))))
                  (λ far. k.values i u (sym (found_else (l, v) p.held i (λ f. far (sym f))) ∙ e));
              pending = k.pending;
              read = put_here st.read w None;
              advanced = k.advanced;
              mine = k.mine;
              seen = k.seen;
              numbers = k.numbers;
            };
            left = here.left;
          })
          (λ x far o. record {
            number = o.number;
            knows = knows_kept st s' x refl (λ i. hold_other st.holds w l true x.number i far) (λ i h. refl) refl (put_else st.read w None x.number far) refl refl (omega arith) o.knows;
            left = o.left;
          });
      advances = r.advances;
      budget = record { each = r.budget.each; now = r.budget.now; items = r.budget.items; amounts = r.budget.amounts };
    }

    released : (l : ℕ) (v : G) (c : List (ℕ × Option G)) → value_held p.held l ≡ Some v → p.pending ≡ None → Shows m (stepped s l 0 id ((l, Some v) ∷ c) (one (releasing p l)) gives)
    released l v c has quiet = let w : ℕ = p.number in let s' : Shared H G E R = lock_released st w l in let q : Worker H G E R = releasing p l in let k = here.knows in
        let own = its_lock l (ap is_some has) in let near : l < 25 = (r.holders w l own).1 in record {
          state = s';
          agrees = releasing_agrees m st w l r.agrees own (k.pending ∙ quiet);
          holders = λ u i h. dite (ℕ_discrete i l)
              (λ z. dite (ℕ_discrete u w) (λ y. absurd (true≢false (sym h ∙ ((λ n. with_hold st.holds w l false (y n) (z n)) ∙ hold_here st.holds w l false)))) (λ far. r.holders u i (sym (hold_other st.holds w l false u i far) ∙ h)))
              (λ far. r.holders u i (sym (hold_else st.holds w l false u i far) ∙ h));
          words = shows_lock s.words st s' r.words l None near (put_here st.locks l None) (λ i far. put_else st.locks l None i far) (λ t. refl) refl refl;
          values = record {
            count = length-set s.homes l (some (Some v)) ∙ r.values.count;
            home = λ i u e. dite (ℕ_discrete i l)
                (λ z. subst (λ j. IsKept (get_elem? (set s.homes l (some (Some v))) j) u (s'.locks j)) (sym z) (subst (IsKept (get_elem? (set s.homes l (some (Some v))) l) u) (sym (put_here st.locks l None))
                (set_here s.homes l (some (Some v)) (let a : length s.homes ≡ 25 = r.values.count in omega arith) ∙ ap (λ x. some (some (Some x))) (one_there st.values l v u (k.values l v has) (ap (slice_get st.values) (sym z) ∙ e)))))
                (λ far. kept_as (get_elem? s.homes i) (get_elem? (set s.homes l (some (Some v))) i) u (st.locks i) (s'.locks i) (set_else s.homes l i (some (Some v)) far) (put_else st.locks l None i far) (r.values.home i u e));
          };
          allowances = r.allowances;
          workers = workers_after m s.views st s' r.allowances r.allowances id p q at refl r.workers
              (record {
                number = here.number;
                knows = record {
                  hand = k.hand;
                  holds = λ i. dite (ℕ_discrete i l)
                      (λ z. subst (λ j. with_hold st.holds w l false w j ≡ is_held (held_but l p.held) j) (sym z) (hold_here st.holds w l false ∙ sym (ap is_some (but_here p.held l))))
                      (λ far. hold_more st.holds w l false i far ∙ (k.holds i ∙ sym (ap is_some (but_else p.held l i far))));
                  values = λ i u e. dite (ℕ_discrete i l)
                      (λ z. absurd (none-some u (sym (but_here p.held l) ∙ (ap (value_held (held_but l p.held)) (sym z) ∙ e))))
                      (λ far. k.values i u (sym (but_else p.held l i far) ∙ e));
                  pending = k.pending;
                  read = put_here st.read w None;
                  advanced = k.advanced;
                  mine = k.mine;
                  seen = k.seen;
                  numbers = k.numbers;
                };
                left = here.left;
              })
              (λ x far o. record {
                number = o.number;
                knows = knows_kept st s' x refl (λ i. hold_other st.holds w l false x.number i far) (λ i h. refl) refl (put_else st.read w None x.number far) refl refl (omega arith) o.knows;
                left = o.left;
              });
          advances = r.advances;
          budget = record { each = r.budget.each; now = r.budget.now; items = r.budget.items; amounts = r.budget.amounts };
        }

    -- the pending change of a thread's word was stored
    stored : (t : ℕ) (word : Word) (c : List (ℕ × Option G)) → t < 256 → Agrees m (word_stored st p.number t word) → Shows m (stepped s (25 + t) (thread_word word) id c (one (calm p)) keeps)
    stored t word c near agrees = let w : ℕ = p.number in let s' : Shared H G E R = word_stored st w t word in let q : Worker H G E R = calm p in let k = here.knows in record {
      state = s';
      agrees = agrees;
      holders = r.holders;
      words = shows_thread s.words st s' r.words t word near (put_here st.words t word) (λ u far. put_else st.words t word u far) (λ l. refl) refl refl;
      values = record { count = r.values.count; home = r.values.home };
      allowances = r.allowances;
      workers = workers_after m s.views st s' r.allowances r.allowances id p q at refl r.workers
          (record {
            number = here.number;
            knows = record { hand = k.hand; holds = k.holds; values = k.values; pending = put_here st.pending w None; read = k.read; advanced = k.advanced; mine = k.mine; seen = k.seen; numbers = k.numbers };
            left = here.left;
          })
          (λ x far o. record {
            number = o.number;
            knows = knows_kept st s' x refl (λ i. refl) (λ i h. refl) (put_else st.pending w None x.number far) refl refl refl (omega arith) o.knows;
            left = o.left;
          });
      advances = r.advances;
      budget = record { each = r.budget.each; now = r.budget.now; items = r.budget.items; amounts = r.budget.amounts };
    }

  -- a thread's word may be read
  pub read_allows : (slots id : ℕ) (p : Worker H G E R) (c : List (ℕ × Option G)) (t : ℕ) → t < 256 → Allows (Shows m) slots id (one p, c) (25 + t) (λ n. n) (Reads m (25 + t) (one p, c))
  read_allows slots id p c t near s r deep at small = (
    one p,
    keeps,
    tt,
    unmoved s id (25 + t) (one p) c at r,
    (
      refl,
      λ q u e word. let same : t ≡ u = omega arith in subst (λ (y : ℕ). (x : Word) × (get_or s.words (25 + t) 0 ≡ thread_word x) × Rattle.ule_words.specs.Tells.IsLow x × Rattle.ule_words.specs.Tells.IsWordOf m q y x) same (
        r.state.words t,
        r.words.threads t near,
        words_low m r.state r.agrees (λ w l h. (r.holders w l h).1) t,
        record { state = r.state; agrees = r.agrees; knows = subst (KnowsItsPart r.state) (one_injective p q e) (here s r id p at).knows; is = refl },
      ),
    ),
  )

  -- a lock may be tried
  pub take_allows : (slots id : ℕ) (p : Worker H G E R) (c : List (ℕ × Option G)) (l : ℕ) → l < 25 → Allows (Shows m) slots id (one p, c) l (λ n. either (eqb n 0) (p.number + 1) n) (Takes m l (one p, c))
  take_allows slots id p c l near s r deep at small = let x : ℕ = get_or s.words l 0 in let word = r.words.locks l near in
      exchanged x 0 (p.number + 1) (λ n. (w : View H G E R) × (a : Act (Option G)) × Valid s.homes c a × Shows m (stepped s l n id c w a) × Takes m l (one p, c) x (w, carried_after c a))
      (λ zero_word. let free = lock_free (r.state.locks l) (sym word ∙ zero_word) in let v = something r.state.values l (let a : length r.state.values ≡ 25 = r.agrees.values in omega arith) in (
        one (taking p l v.0),
        takes l (Some v.0),
        subst (IsKept (get_elem? s.homes l) v.0) free (r.values.home l v.0 v.1),
        taken s r id p at l v.0 c near free v.1,
        λ q e. (
          λ _. (
            v.0,
            ap (λ z. (one (taking z l v.0), (l, Some v.0) ∷ c)) (one_injective p q e),
            ap (λ z. value_held z.held l) (sym (one_injective p q e)) ∙ Rattle.ule_words.proofs.Helds.unheld_value p.held l (free_lock s r id p at l free),
          ),
          λ busy. absurd (busy zero_word),
        ),
      ))
      (λ busy. let h = lock_busy (r.state.locks l) (λ e. busy (word ∙ e)) in (
        one p,
        keeps,
        tt,
        unmoved s id l (one p) c at r,
        λ q e. (
          λ free. absurd (busy free),
          λ _. (
            refl,
            (
              h.0,
              word ∙ h.2,
              record {
                state = r.state;
                agrees = r.agrees;
                knows = subst (KnowsItsPart r.state) (one_injective p q e) (here s r id p at).knows;
                is = h.1;
                there_is = (r.holders h.0 l ((r.agrees.locks l).held h.0 h.1)).0;
              },
            ),
          ),
        ),
      ))

  -- a lock that is held may be given back
  pub release_allows : (slots id : ℕ) (p : Worker H G E R) (c : List (ℕ × Option G)) (l : ℕ) (v : G) → value_held p.held l ≡ Some v → p.pending ≡ None
      → Allows (Shows m) slots id (one p, (l, Some v) ∷ c) l (λ _. 0) (λ _. Releases l (one p, (l, Some v) ∷ c))
  release_allows slots id p c l v has quiet s r deep at small = (one (releasing p l), gives, tt, released s r id p at l v c has quiet, λ q e. ap (λ z. (one (releasing z l), c)) (one_injective p q e))

  -- a word may be blocked as it is pending
  pub block_allows : (slots id : ℕ) (p : Worker H G E R) (c : List (ℕ × Option G)) (t : ℕ) → t < 256 → p.pending ≡ Some (Block t) → Allows (Shows m) slots id (one p, c) (25 + t) (λ _. 0) (λ _. Calms (one p, c))
  block_allows slots id p c t near is s r deep at small = (
    one (calm p),
    keeps,
    tt,
    stored s r id p at t Blocked c near (blocking_agrees m r.state p.number t r.agrees ((here s r id p at).knows.pending ∙ is)),
    λ q e. ap (λ z. (one (calm z), c)) (one_injective p q e),
  )

  -- a word may be pointed as it is pending
  pub point_allows : (slots id : ℕ) (p : Worker H G E R) (c : List (ℕ × Option G)) (t l : ℕ) → t < 256 → p.pending ≡ Some (Point t l) → Allows (Shows m) slots id (one p, c) (25 + t) (λ _. l + 1) (λ _. Calms (one p, c))
  point_allows slots id p c t l near is s r deep at small = (
    one (calm p),
    keeps,
    tt,
    stored s r id p at t (Lock l) c near (pointing_agrees m r.state p.number t l r.agrees ((here s r id p at).knows.pending ∙ is)),
    λ q e. ap (λ z. (one (calm z), c)) (one_injective p q e),
  )

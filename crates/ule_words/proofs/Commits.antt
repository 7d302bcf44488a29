-- A commit keeps the rule.
use Rattle.std.proofs.Common.{◌≡◌, ◌≢◌, ℕ, zero, suc, ◌+◌, ◌-◌, ◌<◌, ◌≤◌, ◌%◌, ◌^◌, Bool, true, false, List, [], ◌∷◌, length, set, refl, sym, ap, ◌∙◌, subst, subst₂, ⊎_elim, inl, arith, get_or, eq-eqb, ne_eqb, mod-eq_of_lt}
use Rattle.std.specs.Prelude.{Option, Some, slice_get, ◌==◌, if◌then◌else◌}
use Rattle.std.proofs.lemmas.Option.{same_Some}
use mathlib.Core.Option.{some}
use lib.ListN.{get_elem?}
use Rattle.atomic_table.specs.Table.{State, Me, keeps, stepped, carried_after, Allows}
use Rattle.ule_micro.specs.declared.entry.Entry.{Entry}
use Rattle.ule_micro.specs.declared.entry.HeldLocks.{HeldLocks}
use Rattle.ule_micro.specs.Means.{Means, Needs, one as one_lock, both, lock_of}
use Rattle.ule_micro.specs.Standings.{Acted}
use Rattle.ule_micro.specs.Histories.{AreLocksFor, effect_on, entry_made, is_lock_among, own_entries, values_under}
use Rattle.ule_micro.specs.Laws.{AreInRisingOrder, AreItsLocks, AreRising, IsLawful, has_true, places}
use Rattle.ule_micro.specs.Shared.{CanCommit as SharedCanCommit, Shared, Stamped, unstamped}
use Rattle.std.specs.List.{AllByRecursion}
use Rattle.ule_micro.proofs.Among.{bool_case}
use Rattle.ule_micro.proofs.Courses.{own_by}
use Rattle.ule_micro.proofs.Effects.{effect_is, laid_else, stands_here, under_one}
use Rattle.ule_micro.proofs.Lists.{get_else, get_here, something, there}
use Rattle.ule_micro.proofs.SharedCommit.{committing_agrees, committing_may}
use Rattle.ule_micro.proofs.SharedSteps.{put_else, put_here}
use Rattle.ule_micro.proofs.Words.{one_holder}
use Rattle.ule_words.specs.Held.{held_values}
use Rattle.ule_words.specs.Workers.{KnowsItsPart, act_of, committing, entries_in, made_by, one, time_read}
use Rattle.ule_words.specs.Rule.{IsKept, IsWorker, Shows}
use Rattle.ule_words.specs.Tells.{CanCommit, Commits, IsReady}
use Rattle.ule_words.specs.declared.log.Numbered.{Numbered}
use Rattle.ule_words.specs.declared.view.View.{View}
use Rattle.ule_words.specs.declared.view.Worker.{Worker}
use Rattle.ule_words.proofs.Again.{again, agrees_again}
use Rattle.ule_words.proofs.Grips.{among_held, laid_held, still_held, under_held}
use Rattle.ule_words.proofs.Knows.{knows_kept, one_injective, workers_after}
use Rattle.ule_words.proofs.Shown.{shows_ticket, together_at, together_set}
use Rattle.ule_words.proofs.TimeSteps.{now_small}
use Rattle.ule_words.proofs.WordSteps.{here, its_lock}

module _ {E R : Type 0} where
  -- the newest entry of a worker
  pub made_here : (w : ℕ) (x : Stamped E R) (h : List (Stamped E R)) → x.entry.worker ≡ w → made_by w (x ∷ h) ≡ (x.amount, record { number = length h + 1; entry = x.entry }) ∷ made_by w h
  made_here w x h e = ap (λ b. if b then (x.amount, record { number = length h + 1; entry = x.entry }) ∷ made_by w h else made_by w h) (eq-eqb x.entry.worker w e)

  -- an entry of another worker
  pub made_else : (w : ℕ) (x : Stamped E R) (h : List (Stamped E R)) → x.entry.worker ≢ w → made_by w (x ∷ h) ≡ made_by w h
  made_else w x h n = ap (λ b. if b then (x.amount, record { number = length h + 1; entry = x.entry }) ∷ made_by w h else made_by w h) (ne_eqb x.entry.worker w n)

  made_entries : (b : Bool) (x : Stamped E R) (n : ℕ) (mine : List (ℕ × Numbered E R)) (own : List (Entry E R)) → entries_in mine ≡ own
      → entries_in (if b then (x.amount, record { number = n; entry = x.entry }) ∷ mine else mine) ≡ (if b then x.entry ∷ own else own)
  made_entries true x n mine own e = ap (λ es. x.entry ∷ es) e
  made_entries false x n mine own e = e

  -- the entries of a worker are those that it made
  pub entries_made : (w : ℕ) (h : List (Stamped E R)) → entries_in (made_by w h) ≡ own_entries w (unstamped h)
  entries_made w [] = refl
  entries_made w (x ∷ h) = made_entries (x.entry.worker == w) x (length h + 1) (made_by w h) (own_entries w (unstamped h)) (entries_made w h)

  -- numbers and amounts stay in bounds with one more entry
  numbers_more : (x : ℕ × Numbered E R) (mine : List (ℕ × Numbered E R)) (seen seen' amount : ℕ) → ((j : ℕ) (y : ℕ × Numbered E R) → slice_get mine j ≡ Some y → (y.1.number ≤ seen) × (y.0 ≤ amount))
      → seen ≤ seen' → x.1.number ≤ seen' → x.0 ≤ amount → (j : ℕ) (y : ℕ × Numbered E R) → slice_get (x ∷ mine) j ≡ Some y → (y.1.number ≤ seen') × (y.0 ≤ amount)
  numbers_more x mine seen seen' amount old more num amt zero y e = subst (λ (z : ℕ × Numbered E R). (z.1.number ≤ seen') × (z.0 ≤ amount)) (same_Some x y e) (num, amt)
  numbers_more x mine seen seen' amount old more num amt (suc j) y e = let k = old j y e in ((let a = k.0 in omega arith), k.1)

module _ {H O G E R C : Type 0} (m : Means H O G E R C) where
  rising_for : (locks : HeldLocks) (guarded : List G) (n : Needs) → AreRising n → AreItsLocks m locks guarded n → AreInRisingOrder locks
  rising_for locks guarded (one_lock a) low is = subst AreInRisingOrder (sym is) tt
  rising_for locks guarded (both a b) low is = subst AreInRisingOrder (sym is) low.0
  rising_for locks guarded (lock_of t) low (l, is, st) = subst AreInRisingOrder (sym is) tt

  locks_for : (locks : HeldLocks) (values guarded : List G) (n : Needs) → values_under locks values ≡ Some guarded → AreItsLocks m locks guarded n → AreLocksFor m values locks n
  locks_for locks values guarded (one_lock a) under is = is
  locks_for locks values guarded (both a b) under is = is
  locks_for locks values guarded (lock_of t) under (l, is, st) = let u = under_one l values guarded (ap (λ i. values_under i values) (sym is) ∙ under) in
      (l, is, stands_here m values l t u.0 u.1 ∙ subst (λ g. has_true (places m g t) ≡ true) u.2 st)

  module _ (law : IsLawful m) (s : State (Option G) (View H G E R)) (r : Shows m s) (id : ℕ) (p : Worker H G E R) (at : get_elem? s.views id ≡ some (one p)) (e : E) (locks : HeldLocks) (now : ℕ)
      (can : CanCommit m p e locks now) (few : length p.held ≤ 2) where
    abbrev st : Shared H G E R
    st = r.state

    abbrev w : ℕ
    w = p.number

    abbrev n : ℕ
    n = get_or s.words 281 0

    it : IsWorker m r.state r.allowances p
    it = here m s r id p at

    abbrev left : Acted H G R
    left = act_of m p e now

    rise : AreInRisingOrder locks
    rise = rising_for locks (held_values p.held) (m.needs e) (law.sound.rising w (entries_in p.mine) p.hand e can.asks) can.needs

    under : values_under locks st.values ≡ Some (held_values p.held)
    under = under_held st.values locks rise p.held few can.holds it.knows.values

    abbrev after : Acted H G R
    after = effect_on locks st.values left

    shared_can : SharedCanCommit m st w e p.hand locks now p.advanced
    shared_can = record {
      calm = it.knows.pending ∙ can.calm;
      read = it.knows.read ∙ ap time_read can.read;
      hand_is = it.knows.hand;
      advanced = it.knows.advanced;
      asks = subst (λ es. m.asks w es p.hand e) (ap entries_in it.knows.mine ∙ entries_made w st.history) can.asks;
      needs = locks_for locks st.values (held_values p.held) (m.needs e) under can.needs;
    }

    small : st.now < 2 ^ 36
    small = let a = now_small m s r id p at law in omega arith

    -- the event may be performed
    pub may_commit : m.may w e now p.hand (held_values p.held)
    may_commit = let g = committing_may m law st w e p.hand locks now p.advanced r.agrees shared_can small in
        subst (λ vs. m.may w e now p.hand vs) (same_Some g.0 (held_values p.held) (sym g.1 ∙ under)) g.2

    -- the ticket stands where the entries so far end
    pub ticket_small : (n < 65536) × (p.seen ≤ n)
    ticket_small = let a : n ≡ st.ticket = r.words.ticket in let b = r.budget.items in let c = together_at r.allowances w p.allowance it.left in let d = can.left in let f = it.knows.seen in let k = law.small.small in ((omega arith), (omega arith))

    -- no entry of its own is later
    pub none_later : AllByRecursion (λ y. y.now ≤ now) (entries_in p.mine)
    none_later = subst (AllByRecursion (λ y. y.now ≤ now)) (sym (ap entries_in it.knows.mine ∙ entries_made w st.history))
        (own_by w now (unstamped st.history) (λ j x is own. (r.agrees.times w (record { locks = locks; now = now }) shared_can.read).no_earlier.after j x is (inl own)))

    -- the state behind the commit, in which the worker may use the time again
    abbrev s' : Shared H G E R
    s' = again m st w e locks now p.advanced after

    abbrev q : Worker H G E R
    q = committing m p e locks now (n + 1)

    -- what another worker holds, it does not
    not_its : (v l : ℕ) → v ≢ w → st.holds v l ≡ true → is_lock_among locks l ≡ false
    not_its v l far h = ⊎_elim
        (λ a. absurd (far (one_holder (st.locks l) (λ i. st.holds i l) (r.agrees.locks l) v w h (its_lock m s r id p at l (sym (among_held p.held locks few can.holds l) ∙ a)))))
        (λ f. f) (bool_case (is_lock_among locks l))

    home_after : (l : ℕ) (v : G) → slice_get s'.values l ≡ Some v → IsKept (get_elem? s.homes l) v (st.locks l)
    home_after l v at_v = ⊎_elim
        (λ a. let own = its_lock m s r id p at l (sym (among_held p.held locks few can.holds l) ∙ a) in let held = (r.agrees.locks l).named w own in
        let old = something st.values l (let z = (r.holders w l own).1 in let y : length st.values ≡ 25 = r.agrees.values in omega arith) in
        subst (IsKept (get_elem? s.homes l) v) (sym held) (subst (IsKept (get_elem? s.homes l) old.0) held (r.values.home l old.0 old.1)))
        (λ f. r.values.home l v (sym (laid_else st.values locks left.values l f) ∙ at_v))
        (bool_case (is_lock_among locks l))

    knows_after : KnowsItsPart s' q
    knows_after = let k = it.knows in let ticket : n ≡ st.ticket = r.words.ticket in let long = r.agrees.ticket in record {
      hand = get_here st.hands w after.hand (there st.hands w p.hand k.hand);
      holds = λ l. k.holds l ∙ sym (still_held p.held left.values l);
      values = laid_held st.values locks rise p.held left.values few can.holds k.values;
      pending = put_here st.pending w (m.change e after.reply);
      read = k.read;
      advanced = k.advanced;
      mine = (λ i. (p.advanced, record { number = (let z : n + 1 ≡ length st.history + 1 = omega arith in z) i; entry = entry_made w e locks now left.reply }) ∷ k.mine i)
          ∙ sym (made_here w (record { entry = entry_made w e locks now left.reply; amount = p.advanced }) st.history refl);
      seen = omega arith;
      numbers = numbers_more (p.advanced, record { number = n + 1; entry = entry_made w e locks now left.reply }) p.mine p.seen (n + 1) p.advanced k.numbers (let a = ticket_small.1 in omega arith) (omega arith) (omega arith);
    }

    abbrev allowances' : List ℕ
    allowances' = set r.allowances w (p.allowance - 1)

    pub commits : (c : List (ℕ × Option G)) → Shows m (stepped s 281 (n + 1) id c (one q) keeps)
    commits c = let ticket : n ≡ st.ticket = r.words.ticket in record {
      state = s';
      agrees = agrees_again m st w e locks now p.advanced after r.agrees shared_can.read
          (committing_agrees m law st w e p.hand locks now p.advanced after r.agrees shared_can small (effect_is m w e now p.hand locks st.values (held_values p.held) under));
      holders = r.holders;
      words = shows_ticket s.words st s' r.words (n + 1) (ap (λ z. z + 1) (sym ticket)) (λ l. refl) (λ t. refl) refl;
      values = record { count = r.values.count; home = home_after };
      allowances = allowances';
      workers = workers_after m s.views st s' r.allowances allowances' id p q at refl r.workers
          (record { number = it.number; knows = knows_after; left = get_here r.allowances w (p.allowance - 1) (there r.allowances w p.allowance it.left) })
          (λ x far o. record {
            number = o.number;
            knows = knows_kept st s' x (get_else st.hands w x.number after.hand far) (λ l. refl) (λ l h. laid_else st.values locks left.values l (not_its x.number l far (o.knows.holds l ∙ h))) (put_else st.pending w (m.change e after.reply) x.number far)
                refl refl (made_else x.number (record { entry = entry_made w e locks now left.reply; amount = p.advanced }) st.history (λ z. far (sym z))) (omega arith) o.knows;
            left = get_else r.allowances w x.number (p.allowance - 1) far ∙ o.left;
          });
      advances = r.advances;
      budget = record {
        each = r.budget.each;
        now = r.budget.now;
        items = let a = r.budget.items in let b = together_set r.allowances w p.allowance (p.allowance - 1) it.left in let d = can.left in omega arith;
        amounts = r.budget.amounts;
      };
    }

  module _ (law : IsLawful m) where
    -- a worker that is ready may commit
    pub commit_allows : (slots id : ℕ) (me : Me (Option G) (View H G E R)) (e : E) → IsReady m me e → Allows (Shows m) slots id me 281 (λ n. (n + 1) % 2 ^ 64) (Commits m e me)
    commit_allows slots id me e ready s r deep at small =
        let p : Worker H G E R = ready.worker in let locks : HeldLocks = ready.locks in let now : ℕ = ready.now in let can = ready.can in
        let n : ℕ = get_or s.words 281 0 in let at_p : get_elem? s.views id ≡ some (one p) = at ∙ ap (λ z. some z) ready.knows in
        let t = ticket_small law s r id p at_p e locks now can ready.few in
        let fits : n + 1 < 2 ^ 64 = (let a = t.0 in omega arith) in (
          one (committing m p e locks now (n + 1)),
          keeps,
          tt,
          subst (λ z. Shows m (stepped s 281 z id me.1 (one (committing m p e locks now (n + 1))) keeps)) (sym (mod-eq_of_lt fits)) (commits law s r id p at_p e locks now can ready.few me.1),
          λ p' locks' now' is can'. let same : p ≡ p' = one_injective p p' (sym ready.knows ∙ is) in
              let both_read : (locks, now) ≡ (locks', now') = same_Some (locks, now) (locks', now') (sym can.read ∙ (ap (λ (z : Worker H G E R). z.read) same ∙ can'.read)) in (
                (λ i. (one (committing m (same i) e (both_read i).0 (both_read i).1 (n + 1)), me.1)),
                t.0,
                subst (λ (z : Worker H G E R). z.seen ≤ n) same t.1,
                subst₂ (λ (z : Worker H G E R) (y : ℕ). m.may z.number e y z.hand (held_values z.held)) same (ap (λ (z : HeldLocks × ℕ). z.1) both_read) (may_commit law s r id p at_p e locks now can ready.few),
                subst₂ (λ (z : Worker H G E R) (y : ℕ). AllByRecursion (λ x. x.now ≤ y) (entries_in z.mine)) same (ap (λ (z : HeldLocks × ℕ). z.1) both_read) (none_later law s r id p at_p e locks now can ready.few),
              ),
        )

    -- the same where the event was picked
    pub picked_allows : (slots id : ℕ) (me : Me (Option G) (View H G E R)) (e : E) (event : Option E) → event ≡ Some e → IsReady m me e
        → Allows (Shows m) slots id me 281 (λ n. (n + 1) % 2 ^ 64) (λ found me'. (x : E) → event ≡ Some x → Commits m x me found me')
    picked_allows slots id me e event is ready s r deep at small = let a = commit_allows slots id me e ready s r deep at small in
        (a.0, a.1, a.2, a.3, λ x other. subst (λ y. Commits m y me (get_or s.words 281 0) (a.0, carried_after me.1 a.1)) (same_Some e x (sym is ∙ other)) a.4)

-- What the passes leave once all of them are back.
use Rattle.std.proofs.Common.{◌≡◌, ◌⊎◌, ℕ, zero, suc, ◌+◌, ◌-◌, ◌<◌, ◌≤◌, true, List, [], ◌∷◌, ◌++◌, map, length, refl, sym, ap, ◌∙◌, subst, inl, inr, ⊎_elim, arith, true≢false, length-append, length-set, append_assoc}
use Rattle.std.specs.Prelude.{Option, Some, None, reverse, slice_get}
use Rattle.std.proofs.lemmas.Option.{none-some, same_Some}
use mathlib.Core.Option.{some}
use lib.ListN.{get_elem?}
use Rattle.atomic_table.specs.Seated.{TableId}
use Rattle.atomic_table.specs.Table.{Final, Me, Seen, State}
use Rattle.ule_micro.specs.declared.entry.Entry.{Entry}
use Rattle.ule_micro.specs.declared.word.WordChange.{WordChange}
use Rattle.ule_micro.specs.Histories.{Leads, ValuesAndHands}
use Rattle.ule_micro.specs.Laws.{values_and_hands_at_start}
use Rattle.ule_micro.specs.Means.{Means}
use Rattle.ule_micro.specs.Shared.{Shared, Stamped, together, unstamped}
use Rattle.ule_micro.proofs.Among.{first_among}
use Rattle.ule_micro.proofs.Lists.{get_map, length_map, map_get, something, there}
use Rattle.ule_words.specs.Ends.{AreBack, AreGathered, IsLeft, Lies, list_of, lists_back}
use Rattle.ule_words.specs.Held.{is_held}
use Rattle.ule_words.specs.Merge.{IsDealt, in_order, only}
use Rattle.ule_words.specs.Passes.{PassState}
use Rattle.ule_words.specs.Rule.{IsKept, IsWorker, Shows}
use Rattle.ule_words.specs.Workers.{made_by, numbered_in}
use Rattle.ule_words.specs.declared.log.Numbered.{Numbered}
use Rattle.ule_words.specs.declared.view.View.{View}
use Rattle.ule_words.proofs.Merges.{in_order_makers, in_order_rising, made_only}
use Rattle.ule_words.proofs.Numbering.{in_one_list}
use Rattle.ule_words.proofs.Places.{at_get}
use Rattle.ule_words.proofs.Shown.{words_low}

module _ {A : Type 0} where
  -- two lists of one length with the same items are one
  same_items : (xs ys : List A) → length xs ≡ length ys → ((j : ℕ) (a : A) → slice_get ys j ≡ Some a → slice_get xs j ≡ Some a) → xs ≡ ys
  same_items [] [] e f = refl
  same_items [] (y ∷ ys) e f = absurd (omega arith)
  same_items (x ∷ xs) [] e f = absurd (omega arith)
  same_items (x ∷ xs) (y ∷ ys) e f = λ i. same_Some x y (f 0 y refl) i ∷ same_items xs ys (omega arith) (λ j a h. f (suc j) a h) i

  at_end : (l : List A) (a b : A) (k : ℕ) → slice_get (l ++ a ∷ []) k ≡ Some b → (slice_get l k ≡ Some b) ⊎ ((k ≡ length l) × (a ≡ b))
  at_end [] a b zero e = inr (refl, same_Some a b e)
  at_end [] a b (suc k) e = absurd (none-some b e)
  at_end (x ∷ xs) a b zero e = inl e
  at_end (x ∷ xs) a b (suc k) e = ⊎_elim (λ h. inl h) (λ (h : (k ≡ length xs) × (a ≡ b)). inr (let z = h.0 in omega arith, h.1)) (at_end xs a b k e)

  at_mid : (xs ys : List A) (a : A) → slice_get (xs ++ a ∷ ys) (length xs) ≡ Some a
  at_mid [] ys a = refl
  at_mid (x ∷ xs) ys a = at_mid xs ys a

-- amounts that all stand among others are together no more than those
together_within : (xs ys : List ℕ) → ((j a : ℕ) → slice_get xs j ≡ Some a → slice_get ys j ≡ Some a) → together xs ≤ together ys
together_within [] ys f = omega arith
together_within (x ∷ xs) [] f = absurd (none-some x (f 0 x refl))
together_within (x ∷ xs) (y ∷ ys) f = let e : y ≡ x = same_Some y x (f 0 x refl) in let a = together_within xs ys (λ j a h. f (suc j) a h) in omega arith

module _ {O H G E R : Type 0} where
  lists_length : (ps : List (PassState O H G E R)) → length (lists_back ps) ≡ length ps
  lists_length [] = refl
  lists_length (p ∷ ps) = length-append (lists_back ps) (list_of p ∷ []) ∙ (let e = lists_length ps in omega arith)

  list_at : (ps : List (PassState O H G E R)) (j : ℕ) (t : List (Numbered E R)) → slice_get (lists_back ps) j ≡ Some t → (p : PassState O H G E R) × (slice_get ps (length ps - (j + 1)) ≡ Some p) × (t ≡ list_of p)
  list_at [] j t e = absurd (none-some t e)
  list_at (p ∷ ps) j t e = ⊎_elim
      (λ (h : slice_get (lists_back ps) j ≡ Some t). let z = list_at ps j t h in let near : j < length (lists_back ps) = there (lists_back ps) j t h in let long = lists_length ps in
      let at : suc (length ps - (j + 1)) ≡ length (p ∷ ps) - (j + 1) = omega arith in (z.0, subst (λ i. slice_get (p ∷ ps) i ≡ Some z.0) at z.1, z.2))
      (λ (h : (j ≡ length (lists_back ps)) × (list_of p ≡ t)). let long = lists_length ps in let is = h.0 in let at : 0 ≡ length (p ∷ ps) - (j + 1) = omega arith in (p, subst (λ i. slice_get (p ∷ ps) i ≡ Some p) at refl, sym h.1))
      (at_end (lists_back ps) (list_of p) t j e)

  -- there is room for one more tape
  pub room_left : (all rest gathered : List (PassState O H G E R)) (x : PassState O H G E R) → all ≡ rest ++ x ∷ gathered → length all ≤ 255 → length (lists_back gathered) < 255
  room_left all rest gathered x e few = let a = ap length e ∙ length-append rest (x ∷ gathered) in let b = lists_length gathered in omega arith

  -- the next pass is gathered
  pub next_of : (all rest rest' : List (PassState O H G E R)) (x : PassState O H G E R) (me : Me (Option G) (View H G E R)) (tapes : List (List (Numbered E R))) (k : AreGathered all rest me tapes) → rest ≡ rest' ++ x ∷ [] → all ≡ rest' ++ x ∷ k.0
  next_of all rest rest' x me tapes k e = k.1 ∙ (ap (λ l. l ++ k.0) e ∙ append_assoc rest' (x ∷ []) k.0)

module _ {H O G E R C : Type 0} (m : Means H O G E R C) where
  -- a pass among all of them
  pub one_back : (z : TableId) (all : List (PassState O H G E R)) → AreBack m z all → (rest gathered : List (PassState O H G E R)) (x : PassState O H G E R) → all ≡ rest ++ x ∷ gathered → (x.worker.held ≡ []) × (x.table ≡ z)
  one_back z all back rest gathered x e = let k = back.each (length rest) x (ap (λ l. slice_get l (length rest)) e ∙ at_mid rest gathered x) in (k.2, k.0)

  hands_kept : (h : List (Entry E R)) (y : ValuesAndHands H G) → Leads m (values_and_hands_at_start m) h y → length y.hands ≡ length m.owns
  hands_kept [] y l = ap (λ (z : ValuesAndHands H G). length z.hands) l ∙ length_map m.hand m.owns
  hands_kept (x ∷ h) y l = ap (λ (z : ValuesAndHands H G). length z.hands) l.8 ∙ (length-set l.0.hands x.worker l.2.hand ∙ hands_kept h l.0 l.3)

  -- each entry is of a worker that there is
  makers_are : (h : List (Stamped E R)) (y : ValuesAndHands H G) → Leads m (values_and_hands_at_start m) (unstamped h) y → (j : ℕ) (x : Stamped E R) → slice_get h j ≡ Some x → x.entry.worker < length m.owns
  makers_are [] y l j x e = absurd (none-some x e)
  makers_are (z ∷ h) y l zero x e = subst (λ (u : Stamped E R). u.entry.worker < length m.owns) (same_Some z x e) (subst (λ n. z.entry.worker < n) (hands_kept (unstamped h) l.0 l.3) (there l.0.hands z.entry.worker l.1 l.4))
  makers_are (z ∷ h) y l (suc j) x e = makers_are h l.0 l.3 j x e

  module _ (t : State (Option G) (View H G E R)) (r : Shows m t) (z : TableId) (passes : List (PassState O H G E R)) (back : AreBack m z passes)
      (known : (w : ℕ) (p : PassState O H G E R) → slice_get passes w ≡ Some p → IsWorker m r.state r.allowances p.worker) where
    abbrev st : Shared H G E R
    st = r.state

    none_holds : (w l : ℕ) → st.holds w l ≡ true → ⊥
    none_holds w l h = let p = something passes w (let a = back.count in let b = (r.holders w l h).0 in omega arith) in let b = back.each w p.0 p.1 in let k = (known w p.0 p.1).knows in
        true≢false (sym h ∙ (ap (λ i. st.holds i l) (sym b.1) ∙ (k.holds l ∙ ap (λ f. is_held f l) b.2)))

    all_free : (l : ℕ) → st.locks l ≡ None
    all_free l = by (st.locks l) refl where
      by : (o : Option ℕ) → st.locks l ≡ o → st.locks l ≡ None
      by None e = e
      by (Some w) e = absurd (none_holds w l ((r.agrees.locks l).held w e))

    all_calm : (w : ℕ) → st.pending w ≡ None
    all_calm w = by (st.pending w) refl where
      by : (o : Option WordChange) → st.pending w ≡ o → st.pending w ≡ None
      by None e = e
      by (Some c) e = absurd (let h = (r.agrees.changes w c e).1 in let l = first_among h.0.locks in none_holds w l.0 (h.2 l.0 l.1))

    makers : (j : ℕ) (x : Stamped E R) → slice_get st.history j ≡ Some x → x.entry.worker < length m.owns
    makers j x e = makers_are st.history (record { values = st.values; hands = st.hands }) r.agrees.history j x e

    left_over : together (map (λ (p : PassState O H G E R). p.worker.allowance) passes) ≤ together r.allowances
    left_over = together_within (map (λ (p : PassState O H G E R). p.worker.allowance) passes) r.allowances
        (λ w a at. let p = map_get (λ (p : PassState O H G E R). p.worker.allowance) passes w a at in let b = back.each w p.0 p.1 in
        ap (slice_get r.allowances) (sym b.1) ∙ ((known w p.0 p.1).left ∙ ap Some p.2))

    pub leaves : IsLeft m passes st
    leaves = record {
      agrees = r.agrees;
      free = all_free;
      calm = all_calm;
      knows = λ w p at. (known w p at).knows;
      makers = λ j x e. let a = makers j x e in let b = back.count in omega arith;
      once = λ n low high. in_one_list st.history n low (let a = r.agrees.ticket in omega arith);
      items = let a = left_over in let b = r.budget.items in omega arith;
      amounts = r.budget.amounts;
    }

    slots_are : (slots : List (Option G)) → length t.homes ≡ length slots → ((k : ℕ) (y : Option G) → get_elem? t.homes k ≡ some (some y) → get_elem? slots k ≡ some y) → slots ≡ map (λ v. Some v) st.values
    slots_are slots long f = same_items slots (map (λ v. Some v) st.values) (let a = r.values.count in let b : length st.values ≡ 25 = r.agrees.values in let c = length_map (λ (v : G). Some v) st.values in omega arith)
        (λ j y e. let v = map_get (λ (v : G). Some v) st.values j y e in
        at_get slots j y (f j y (subst (IsKept (get_elem? t.homes j) v.0) (all_free j) (r.values.home j v.0 v.1) ∙ ap (λ u. some (some u)) v.2)))

    dealt : IsDealt (length m.owns) 0 (in_order st.history) (lists_back passes)
    dealt = record {
      count = lists_length passes ∙ back.count;
      rising = in_order_rising st.history;
      makers = in_order_makers (length m.owns) st.history makers;
      dealt = λ j tape at. let p = list_at passes j tape at in let w : ℕ = length passes - (j + 1) in let b = back.each w p.0 p.1 in let k = (known w p.0 p.1).knows in
          p.2 ∙ (ap (λ mine. reverse (map numbered_in mine)) k.mine ∙ (ap (λ i. reverse (map numbered_in (made_by i st.history))) b.1 ∙ (made_only w st.history ∙ ap (λ n. only (n - (j + 1)) (in_order st.history)) back.count)));
    }

    pub lies : (slots : List (Option G)) → length t.homes ≡ length slots → ((k : ℕ) (y : Option G) → get_elem? t.homes k ≡ some (some y) → get_elem? slots k ≡ some y) → Lies m st t.words slots (lists_back passes)
    lies slots long f = record {
      words = r.words;
      low = words_low m st r.agrees (λ w l h. (r.holders w l h).1);
      slots = slots_are slots long f;
      count = r.agrees.values;
      dealt = dealt;
      ticket = r.agrees.ticket;
      few = let b = r.budget.items in omega arith;
    }

-- with these parts of a scheduler, of which the table's are the same
module _ {P H O G E R C : Type 0} (means : P → Means H O G E R C) (parts key : P) (same_parts : key ≡ parts) (z : TableId) where
  -- the end: a state that the passes leave, and that lies in memory
  abbrev Ends : List (PassState O H G E R) → List ℕ → List (Option G) → List (List (Numbered E R)) → Type 0
  Ends all words slots tapes = (s : Shared H G E R) × IsLeft (means parts) all s × Lies (means parts) s words slots tapes

  -- what holds of the table's parts holds of the same parts
  ends_same : (all gathered : List (PassState O H G E R)) → all ≡ gathered → (words : List ℕ) (slots : List (Option G)) (tapes : List (List (Numbered E R))) → tapes ≡ lists_back gathered
      → (s : Shared H G E R) → IsLeft (means key) gathered s → Lies (means key) s words slots (lists_back gathered) → Ends all words slots tapes
  ends_same all gathered same words slots tapes lists s left lie = (
    s,
    subst (λ ps. IsLeft (means parts) ps s) (sym same) (subst (λ p. IsLeft (means p) gathered s) same_parts left),
    subst (λ l. Lies (means parts) s words slots l) (sym lists) (subst (λ p. Lies (means p) s words slots (lists_back gathered)) same_parts lie),
  )

  back_same : (all gathered : List (PassState O H G E R)) → all ≡ gathered → AreBack (means parts) z all → AreBack (means key) z gathered
  back_same all gathered same back = subst (λ p. AreBack (means p) z gathered) (sym same_parts) (subst (AreBack (means parts) z) same back)

  -- once one seat knows of all workers
  pub closes : (all gathered : List (PassState O H G E R)) → all ≡ gathered → AreBack (means parts) z all → (id : ℕ) (v : View H G E R) → v ≡ record { workers = map (λ p. p.worker) gathered } → (words : List ℕ) (slots : List (Option G))
      → Final (Seen (Shows (means key)) id v) words slots → (tapes : List (List (Numbered E R))) → tapes ≡ lists_back gathered → Ends all words slots tapes
  closes all gathered same back id v is words slots (t, (r, at), kept, long, f) tapes lists =
      let back' = back_same all gathered same back in
      let known = λ (w : ℕ) (p : PassState O H G E R) (at_p : slice_get gathered w ≡ Some p).
      (r.workers.lies id w (record { workers = map (λ p. p.worker) gathered }) p.worker (at ∙ ap (λ u. some u) is) (get_map (λ (q : PassState O H G E R). q.worker) gathered w p at_p)).0 in
      ends_same all gathered same words slots tapes lists r.state (leaves (means key) t r z gathered back' known)
      (subst (λ u. Lies (means key) r.state u slots (lists_back gathered)) kept (lies (means key) t r z gathered back' known slots long f))

  -- where there is no worker
  pub closes_none : (all : List (PassState O H G E R)) → all ≡ [] → AreBack (means parts) z all → (words : List ℕ) (slots : List (Option G)) → Final (Shows (means key)) words slots → (tapes : List (List (Numbered E R))) → tapes ≡ [] → Ends all words slots tapes
  closes_none all same back words slots (t, r, kept, long, f) tapes lists =
      let back' = back_same all [] same back in
      let known = λ (w : ℕ) (p : PassState O H G E R) (at_p : slice_get [] w ≡ Some p). absurd (none-some p at_p) in
      ends_same all [] same words slots tapes lists r.state (leaves (means key) t r z [] back' known)
      (subst (λ u. Lies (means key) r.state u slots []) kept (lies (means key) t r z [] back' known slots long f))

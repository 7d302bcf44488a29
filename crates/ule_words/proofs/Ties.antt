-- What lies in a pass, and what its seat knows.
use Rattle.std.proofs.Common.{append-nil, ◌≡◌, ◌≢◌, ℕ, ◌-◌, ◌<◌, eq-eqb, ne_eqb, true, List, [], ◌∷◌, ◌++◌, length, sym, refl, ap, ◌∙◌, subst, subst₂, ap₂, arith}
use Rattle.std.specs.Prelude.{Option, Some, None, if◌then◌else◌}
use Rattle.std.proofs.lemmas.Option.{none-some, same_Some}
use mathlib.Core.Logic.{dite}
use native.Mathlib.Decide.{ℕ_discrete}
use Rattle.atomic_table.specs.Table.{Me, turned, rest}
use Rattle.atomic_table.specs.Seated.{TableId}
use Rattle.ule_micro.specs.declared.entry.HeldLocks.{HeldLocks}
use Rattle.ule_words.specs.Held.{value_held, is_held, held_but, locks_of}
use Rattle.ule_words.specs.Passes.{IsTied, LogState, PassState, in_field, in_fields, pass_state_of, slots_out}
use Rattle.ule_words.specs.Workers.{advancing, calm, one, read_under, releasing, taking, timed}
use Rattle.ule_words.specs.Tells.{Takes}
use Rattle.ule_words.specs.declared.holding.Held.{Held}
use Rattle.ule_words.specs.declared.holding.Holding.{Holding}
use Rattle.ule_words.specs.declared.log.Numbered.{Numbered}
use Rattle.ule_words.specs.declared.view.View.{View}
use Rattle.ule_words.specs.declared.view.Worker.{Worker}
use Rattle.ule_words.proofs.Helds.{but_else, but_here, found_else, found_here, held_value}

module _ {O H G E R : Type 0} where
  -- a pass is told by its worker
  pub state_is : (z : TableId) (w : ℕ) (h : H) (own : O) (me : Me (Option G) (View H G E R)) (p : Worker H G E R) (c : List (ℕ × Option G)) → me ≡ (one p, c)
      → pass_state_of z w h own me ≡ record { table = z; own = own; worker = p }
  state_is z w h own me p c e = ap (λ (x : Me (Option G) (View H G E R)). pass_state_of z w h own x) e

  module _ (z : TableId) (w : ℕ) (h : H) (u : ℕ) (own : O) (me : Me (Option G) (View H G E R)) (st : PassState O H G E R) (holding : Holding G)
      (left time : ℕ) (log : LogState (Numbered E R)) (seen : pass_state_of z w h own me ≡ st) (t : IsTied w left time h u holding log me) where
    -- the worker that a contract sees
    pub worker_is : st.worker ≡ t.worker
    worker_is = ap (λ (s : PassState O H G E R). s.worker) (sym seen ∙ state_is z w h own me t.worker (slots_out t.worker.held) t.view)

    -- the pass after its worker became q, and nothing else changed
    pub state_after : (z' : TableId) (me' : Me (Option G) (View H G E R)) (q : Worker H G E R) (c : List (ℕ × Option G)) → z' ≡ z → me' ≡ (one q, c) → pass_state_of z' w h own me' ≡ record st { worker = q }
    state_after z' me' q c same now = state_is z' w h own me' q c now
        ∙ ap₂ (λ (a : TableId) (b : O). let r : PassState O H G E R = record { table = a; own = b; worker = q } in r) (same ∙ ap (λ (s : PassState O H G E R). s.table) seen) (ap (λ (s : PassState O H G E R). s.own) seen)

module _ {X : Type 0} where
  head_or : X → List X → X
  head_or d [] = d
  head_or d (x ∷ xs) = x

  pub cons_head : (x y : X) (xs ys : List X) → x ∷ xs ≡ y ∷ ys → x ≡ y
  unfolding head_or
  cons_head x y xs ys e = ap (head_or x) e

module _ {G : Type 0} where
  in_two : (last first : Option (Held G)) → (last ≡ None → first ≡ None) → length (in_field last ++ in_field first) < 2 → first ≡ None
  in_two None first order few = order refl
  in_two (Some x) None order few = refl
  in_two (Some x) (Some y) order few = absurd (omega arith)

  -- where at most one lock is held, the second field is empty
  pub first_none : (h : Holding G) → (h.last ≡ None → h.first ≡ None) → length (in_fields h) < 2 → h.first ≡ None
  first_none h order few = in_two h.last h.first order few

  lock_or : Option (Held G) → ℕ → ℕ
  lock_or None d = d
  lock_or (Some x) d = x.lock

  pub same_lock : (x y : Held G) → Some x ≡ Some y → x.lock ≡ y.lock
  unfolding lock_or
  same_lock x y e = ap (λ o. lock_or o 0) e

module _ {H G E R : Type 0} where
  -- the seat after the value was taken out of the slot of a lock that was taken
  pub taken_me : (me me' : Me (Option G) (View H G E R)) (q : Worker H G E R) (l : ℕ) (v : G) (c : List (ℕ × Option G)) (o : Option G)
      → me ≡ (one q, (l, Some v) ∷ c) → me.1 ≡ (l, o) ∷ rest me.1 → me' ≡ (me.0, (l, None) ∷ rest me.1) → (Some v ≡ o) × (me' ≡ (one q, (l, None) ∷ c))
  taken_me me me' q l v c o is has now = (
    ap (λ (z : ℕ × Option G). z.1) (cons_head (l, Some v) (l, o) c (rest me.1) (sym (ap (λ z. z.1) is) ∙ has)),
    now ∙ ap (λ z. (z.0, (l, None) ∷ rest z.1)) is,
  )

  -- a pass after it took a lock
  pub put_tied : (w left time : ℕ) (h : H) (u : ℕ) (holding new : Holding G) (log : LogState (Numbered E R)) (me me' : Me (Option G) (View H G E R)) (t : IsTied w left time h u holding log me) (l : ℕ) (v : G) (x : Held G)
      → x.lock ≡ l → x.value ≡ v → new.last ≡ Some x → new.first ≡ holding.last → holding.first ≡ None → value_held t.worker.held l ≡ None → l < 25
      → me' ≡ (one (taking t.worker l v), (l, None) ∷ slots_out t.worker.held) → IsTied w left time h u new log me'
  put_tied w left time h u holding new log me me' t l v x xl xv last first bare fresh near now = record {
    worker = taking t.worker l v;
    view = now;
    number = t.number;
    part = t.part;
    hand = t.hand;
    allowance = t.allowance;
    time = λ r e. absurd (none-some r e);
    log = t.log;
    room = t.room;
    held = (λ i. (sym xl i, sym xv i) ∷ (t.held ∙ ((λ j. in_field holding.last ++ in_field (bare j)) ∙ append-nil (in_field holding.last))) i) ∙ (λ i. in_field (sym last i) ++ in_field (sym first i));
    order = λ e. absurd (none-some x (sym e ∙ last));
    apart = λ a b at_a at_b same. none-some b.value (sym fresh ∙ (ap (λ z. value_held z l) t.held
        ∙ (ap (λ z. value_held (in_field z ++ in_field holding.first) l) (sym first ∙ at_b) ∙ found_here (b.lock, b.value) (in_field holding.first) l (sym same ∙ (same_lock a x (sym at_a ∙ last) ∙ xl)))));
    low = λ k y has. dite (ℕ_discrete l k) (λ e. subst (λ z. z < 25) e near) (λ d. t.low k y (sym (found_else (l, v) t.worker.held k d) ∙ has));
  }

  -- what a take that won tells
  pub won : {O C : Type 0} (m : Rattle.ule_micro.specs.Means.Means H O G E R C) (w left time : ℕ) (h : H) (u : ℕ) (holding : Holding G) (log : LogState (Numbered E R)) (me me' : Me (Option G) (View H G E R)) (l found : ℕ) (t : IsTied w left time h u holding log me)
      → Takes m l me found me' → found ≡ 0 → (v : G) × (me' ≡ (one (taking t.worker l v), (l, Some v) ∷ slots_out t.worker.held)) × (value_held t.worker.held l ≡ None)
  won m w left time h u holding log me me' l found t told free = let k = (told t.worker (ap (λ x. x.0) t.view)).0 free in
      (k.0, k.1 ∙ ap (λ x. (one (taking t.worker l k.0), (l, Some k.0) ∷ x.1)) t.view, k.2)

module _ {G : Type 0} where
  alone_first : (first : Option (Held G)) (l : ℕ) → ((y : Held G) → first ≡ Some y → l ≢ y.lock) → held_but l (in_field first) ≡ in_field first
  alone_first None l n = refl
  alone_first (Some y) l n = ap (λ b. if b then held_but l [] else (y.lock, y.value) ∷ []) (ne_eqb y.lock l (λ e. n y refl (sym e)))

  drawn_some : (x : Held G) (first : Option (Held G)) (l : ℕ) → x.lock ≡ l → ((y : Held G) → first ≡ Some y → x.lock ≢ y.lock) → held_but l ((x.lock, x.value) ∷ in_field first) ≡ in_field first
  drawn_some x first l e apart = ap (λ b. if b then held_but l (in_field first) else (x.lock, x.value) ∷ held_but l (in_field first)) (eq-eqb x.lock l e) ∙ alone_first first l (λ y at same. apart y at (e ∙ same))

  -- what is left beside the lock that was taken last
  pub drawn_last : (last first : Option (Held G)) (x : Held G) (l : ℕ) → last ≡ Some x → x.lock ≡ l → ((x y : Held G) → last ≡ Some x → first ≡ Some y → x.lock ≢ y.lock) → held_but l (in_field last ++ in_field first) ≡ in_field first
  drawn_last last first x l is e apart = ap (λ t. held_but l (in_field t ++ in_field first)) is ∙ drawn_some x first l e (λ y at. apart x y is at)

  -- the value of the lock that was taken last
  pub last_value : (last first : Option (Held G)) (x : Held G) (l : ℕ) → last ≡ Some x → x.lock ≡ l → value_held (in_field last ++ in_field first) l ≡ Some x.value
  last_value last first x l is e = ap (λ t. value_held (in_field t ++ in_field first) l) is ∙ found_here (x.lock, x.value) (in_field first) l e

  -- a lock that is held and is not the one taken last is the one taken first
  pub drawn_first : (last first : Option (Held G)) (y : Held G) (l : ℕ) → ((x : Held G) → last ≡ Some x → x.lock ≢ l) → (last ≡ None → first ≡ None) → first ≡ Some y
      → is_held (in_field last ++ in_field first) l ≡ true
      → (value_held (in_field last ++ in_field first) l ≡ Some y.value) × (held_but l (in_field last ++ in_field first) ≡ in_field last)
      × (turned (slots_out (in_field last ++ in_field first)) ≡ (l, None) ∷ slots_out (in_field last))
  drawn_first None first y l not_last order is has = absurd (none-some y (sym (order refl) ∙ is))
  drawn_first (Some x) None y l not_last order is has = absurd (none-some y is)
  drawn_first (Some x) (Some z) y l not_last order is has =
      let other : x.lock ≢ l = not_last x refl in
      let skip : value_held ((x.lock, x.value) ∷ (z.lock, z.value) ∷ []) l ≡ value_held ((z.lock, z.value) ∷ []) l = found_else (x.lock, x.value) ((z.lock, z.value) ∷ []) l other in
      let v = held_value ((x.lock, x.value) ∷ (z.lock, z.value) ∷ []) l has in
      let at : z.lock ≡ l = dite (ℕ_discrete z.lock l) (λ e. e) (λ n. absurd (none-some v.0 (sym (skip ∙ found_else (z.lock, z.value) [] l n) ∙ v.1))) in (
        skip ∙ (found_here (z.lock, z.value) [] l at ∙ ap (λ (h : Held G). Some h.value) (same_Some z y is)),
        ap (λ b. if b then held_but l ((z.lock, z.value) ∷ []) else (x.lock, x.value) ∷ held_but l ((z.lock, z.value) ∷ [])) (ne_eqb x.lock l other)
            ∙ ap (λ b. (x.lock, x.value) ∷ (if b then held_but l [] else (z.lock, z.value) ∷ [])) (eq-eqb z.lock l at),
        λ i. (at i, None) ∷ (x.lock, None) ∷ [],
      )

module _ {H G E R : Type 0} where
  -- a pass after it gave a lock back
  pub drawn_tied : (w left time : ℕ) (h : H) (u : ℕ) (holding new : Holding G) (log : LogState (Numbered E R)) (me me' : Me (Option G) (View H G E R)) (t : IsTied w left time h u holding log me) (l : ℕ)
      → in_fields new ≡ held_but l (in_fields holding) → new.first ≡ None → me' ≡ (one (releasing t.worker l), slots_out (held_but l t.worker.held)) → IsTied w left time h u new log me'
  drawn_tied w left time h u holding new log me me' t l fs bare now = record {
    worker = releasing t.worker l;
    view = now;
    number = t.number;
    part = t.part;
    hand = t.hand;
    allowance = t.allowance;
    time = λ r e. absurd (none-some r e);
    log = t.log;
    room = t.room;
    held = ap (held_but l) t.held ∙ sym fs;
    order = λ e. bare;
    apart = λ x y a b. absurd (none-some y (sym bare ∙ b));
    low = λ k y has. dite (ℕ_discrete k l) (λ e. absurd (none-some y (sym (but_here t.worker.held l) ∙ (ap (value_held (held_but l t.worker.held)) (sym e) ∙ has)))) (λ d. t.low k y (sym (but_else t.worker.held l k d) ∙ has));
  }

  -- the seat with the value of the lock back in its slot
  pub front : (me me1 me2 : Me (Option G) (View H G E R)) (p : Worker H G E R) (l : ℕ) (v : G) (fs : List (ℕ × G))
      → me ≡ (one p, slots_out p.held) → p.held ≡ fs → me1 ≡ (me.0, (l, None) ∷ slots_out (held_but l fs)) → me2 ≡ (me1.0, (l, Some v) ∷ rest me1.1) → me2 ≡ (one p, (l, Some v) ∷ slots_out (held_but l p.held))
  front me me1 me2 p l v fs view fields_are drawn now = now ∙ λ i. ((ap (λ z. z.0) drawn ∙ ap (λ z. z.0) view) i, (l, Some v) ∷ (ap (λ z. rest z.1) drawn ∙ ap (λ f. slots_out (held_but l f)) (sym fields_are)) i)

module _ {O H G E R : Type 0} where
  -- a pass that took a lock
  abbrev pub with_taken : PassState O H G E R → ℕ → G → PassState O H G E R
  with_taken s l v = record s { worker = taking s.worker l v }

  -- two passes that are one took a lock alike
  pub taken_same : (s t : PassState O H G E R) (l : ℕ) (v : G) → s ≡ t → with_taken s l v ≡ with_taken t l v
  taken_same s t l v e = ap (λ (x : PassState O H G E R). with_taken x l v) e

read_time : (o : Option HeldLocks) (now : ℕ) (r : HeldLocks × ℕ) → read_under o now ≡ Some r → r.1 ≡ now
read_time None now r e = absurd (none-some r e)
read_time (Some locks) now r e = ap (λ (z : HeldLocks × ℕ). z.1) (sym (same_Some (locks, now) r e))

module _ {H G E R : Type 0} where
  -- a pass whose pending change was stored
  pub calm_tied : (w left time : ℕ) (h : H) (u : ℕ) (holding : Holding G) (log : LogState (Numbered E R)) (me me' : Me (Option G) (View H G E R)) (t : IsTied w left time h u holding log me)
      → me' ≡ (one (calm t.worker), slots_out t.worker.held) → IsTied w left time h u holding log me'
  calm_tied w left time h u holding log me me' t now = record { worker = calm t.worker; view = now; number = t.number; part = t.part; hand = t.hand; allowance = t.allowance; time = t.time; held = t.held; log = t.log; room = t.room; order = t.order; apart = t.apart; low = t.low }

  -- a pass that read now
  pub timed_tied : (w left time now : ℕ) (h : H) (u : ℕ) (holding : Holding G) (log : LogState (Numbered E R)) (me me' : Me (Option G) (View H G E R)) (t : IsTied w left time h u holding log me)
      → me' ≡ (one (timed t.worker now), slots_out t.worker.held) → IsTied w left now h u holding log me'
  timed_tied w left time now h u holding log me me' t is = record { worker = timed t.worker now; view = is; number = t.number; part = t.part; hand = t.hand; allowance = t.allowance; time = λ r e. read_time (locks_of t.worker.held) now r e; held = t.held; log = t.log; room = t.room; order = t.order; apart = t.apart; low = t.low }

  -- a pass that advanced now
  pub advanced_tied : (w left time k : ℕ) (h : H) (u : ℕ) (holding : Holding G) (log : LogState (Numbered E R)) (me me' : Me (Option G) (View H G E R)) (t : IsTied w left time h u holding log me)
      → me' ≡ (one (advancing t.worker k), slots_out t.worker.held) → IsTied w (left - 1) time h u holding log me'
  advanced_tied w left time k h u holding log me me' t now = record { worker = advancing t.worker k; view = now; number = t.number; part = t.part; hand = t.hand; allowance = ap (λ z. z - 1) t.allowance; time = λ r e. absurd (none-some r e); held = t.held; log = t.log; room = (let z = t.room in omega arith); order = t.order; apart = t.apart; low = t.low }

module _ {H G E R : Type 0} where
  -- a pass with the same hand, and the own part of the same worker
  pub hand_tied : (w left time : ℕ) (h h' : H) (u u' : ℕ) (holding : Holding G) (log : LogState (Numbered E R)) (me : Me (Option G) (View H G E R)) → IsTied w left time h u holding log me → h' ≡ h → u' ≡ u → IsTied w left time h' u' holding log me
  hand_tied w left time h h' u u' holding log me t same num = subst₂ (λ x y. IsTied w left time x y holding log me) (sym same) (sym num) t

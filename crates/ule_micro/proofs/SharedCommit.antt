-- A commit keeps what the workers share in agreement, and its event may be performed.
use Rattle.std.proofs.Common.{◌≡◌, ◌≢◌, ◌⊎◌, ℕ, zero, suc, ◌+◌, ◌^◌, ◌<◌, ◌≤◌, Bool, true, false, List, ◌∷◌, length, refl, sym, ap, ◌∙◌, subst, inl, inr, ⊎_elim, arith, true≢false, eq-eqb, ne_eqb}
use Rattle.std.specs.Prelude.{Some, None, slice_get, if◌then◌else◌}
use Rattle.std.proofs.lemmas.Option.{none-some, same_Some}
use mathlib.Core.Logic.{dite}
use native.Mathlib.Decide.{ℕ_discrete}
use Rattle.ule_micro.specs.declared.entry.Entry.{Entry}
use Rattle.ule_micro.specs.declared.entry.HeldLocks.{HeldLocks}
use Rattle.ule_micro.specs.declared.word.WordChange.{WordChange}
use Rattle.ule_micro.specs.Standings.{Acted}
use Rattle.ule_micro.specs.Means.{Means, carried_by, stands_under, thread_of_change}
use Rattle.ule_micro.specs.Histories.{Follows, IsNoEarlierThanShared, Shares, effect_on, effect_under, entry_made, is_lock_among, latest_of, own_entries, values_under}
use Rattle.ule_micro.specs.Laws.{AreInRisingOrder, AreRising, IsLawful, Moves, lock_count}
use Rattle.ule_micro.specs.Agreement.{ThreadAgrees}
use Rattle.ule_micro.specs.Shared.{Agrees, CanCommit, HoldsItsLocks, IsTimely, Shared, Stamped, TimeRead, as_it_stands, committed, unstamped}
use Rattle.ule_micro.specs.SharedLaws.{CommittingAgrees, CommittingMay}
use Rattle.ule_micro.proofs.Lists.{get_here, get_else, there}
use Rattle.ule_micro.proofs.Effects.{apart_for, effect_so, guarded_many, guarded_there, its_locks, laid_many}
use Rattle.ule_micro.proofs.Moves.{Moved, stays, left, came, moved}
use Rattle.ule_micro.proofs.SharedSteps.{others_timely, put_else, put_here}
use Rattle.ule_micro.proofs.Threads.{thread_kept, under_calm, hand_calm, thread_left, thread_came, under_injective, under_no_hand, hand_injective}
use Rattle.ule_micro.proofs.Words.{one_holder}

module _ {E R : Type 0} where
  -- the entry before any other is the newest
  pub latest_here : (w : ℕ) (x : Entry E R) (h : List (Entry E R)) → x.worker ≡ w → latest_of w (x ∷ h) ≡ Some x
  latest_here w x h e = ap (λ b. if b then Some x else latest_of w h) (eq-eqb x.worker w e)

  -- another worker's latest entry stays
  pub latest_else : (w : ℕ) (x : Entry E R) (h : List (Entry E R)) → x.worker ≢ w → latest_of w (x ∷ h) ≡ latest_of w h
  latest_else w x h n = ap (λ b. if b then Some x else latest_of w h) (ne_eqb x.worker w n)

  -- a time that is no earlier than the entries so far, and no earlier than one more that shares with it
  no_earlier_more : (h : List (Entry E R)) (x : Entry E R) (w : ℕ) (held : HeldLocks) (now : ℕ) → IsNoEarlierThanShared h w held now → (Shares w held x → x.now ≤ now)
      → IsNoEarlierThanShared (x ∷ h) w held now
  no_earlier_more h x w held now r new = record { begun = r.begun; after = by } where
    by : (j : ℕ) (y : Entry E R) → slice_get (x ∷ h) j ≡ Some y → Shares w held y → y.now ≤ now
    by zero y e sh = let is : x ≡ y = same_Some x y e in subst (λ (z : Entry E R). z.now ≤ now) is (new (subst (Shares w held) (sym is) sh))
    by (suc j) y e sh = r.after j y e sh

module _ {H O G E R C : Type 0} (m : Means H O G E R C) (law : IsLawful m) (s : Shared H G E R) (k : Agrees m s) (w : ℕ) (e : E) (hand : H) (held : HeldLocks) (now amount : ℕ)
    (can : CanCommit m s w e hand held now amount) (small : s.now < 2 ^ 36) where
  timely : IsTimely s w (record { locks = held; now = now })
  timely = k.times w (record { locks = held; now = now }) can.read

  rises : AreRising (m.needs e)
  rises = law.sound.rising w (own_entries w (unstamped s.history)) hand e can.asks

  -- the values under the event's locks are there
  there_are : (guarded : List G) × (values_under held s.values ≡ Some guarded)
  there_are = guarded_there m s.values held (m.needs e) k.values rises can.needs

  -- the event may be performed on them
  may_act : m.may w e now hand there_are.0
  may_act = law.ready (unstamped s.history) (as_it_stands s) w e now hand held there_are.0 k.history can.hand_is can.asks can.needs there_are.1 timely.no_earlier (let a = timely.past in omega arith)

  module _ (after : Acted H G R) (effect : effect_under m w e now hand held s.values ≡ Some after) where
    abbrev s' : Shared H G E R
    s' = committed m s w e held now amount after

    abbrev x : Entry E R
    x = entry_made w e held now after.reply

    so : after ≡ effect_on held s.values (m.act w e now hand there_are.0)
    so = effect_so m w e now hand held s.values there_are.0 there_are.1 after effect

    follows : Follows m s.values hand x after
    follows = record { locks = can.needs; guarded = there_are.0; under = there_are.1; may = may_act; effect = effect; reply = refl }

    rise : AreInRisingOrder held
    rise = apart_for m s.values held (m.needs e) rises can.needs

    many : length there_are.0 ≡ lock_count held
    many = guarded_many held s.values there_are.0 there_are.1

    -- what the act moves
    moves : Moves m held hand there_are.0 (m.change e (m.act w e now hand there_are.0).reply) (m.act w e now hand there_are.0).hand (m.act w e now hand there_are.0).values
    moves = law.moves w e now hand held there_are.0 may_act rise many (its_locks m s.values there_are.0 held (m.needs e) there_are.1 can.needs)

    moved_to : (t : ℕ) → m.declared t ≡ true → Moved m held hand after.hand s.values after.values t (m.change e after.reply)
    moved_to t dec = subst (λ (y : Acted H G R). Moved m held hand y.hand s.values y.values t (m.change e y.reply)) (sym so)
        (moved m s.values there_are.0 t (m.act w e now hand there_are.0).values held hand (m.act w e now hand there_are.0).hand (m.change e (m.act w e now hand there_are.0).reply) rise there_are.1 many moves dec)

    of_declared : (c : WordChange) → m.change e after.reply ≡ Some c → m.declared (thread_of_change c) ≡ true
    of_declared c is = moves.of_declared c (ap (λ (y : Acted H G R). m.change e y.reply) (sym so) ∙ is)

    alone_in : (l : ℕ) → is_lock_among held l ≡ true → (v : ℕ) → s.holds v l ≡ true → v ≡ w
    alone_in l a v h = one_holder (s.locks l) (λ i. s.holds i l) (k.locks l) v w h (timely.holds l a)

    pends : s'.pending w ≡ m.change e after.reply
    pends = put_here s.pending w (m.change e after.reply)

    others : (v : ℕ) → v ≢ w → s'.pending v ≡ s.pending v
    others v far = put_else s.pending w (m.change e after.reply) v far

    carried_w : (t : ℕ) → carried_by m s'.hands w t ≡ m.carried_in after.hand t
    carried_w t = ap (λ p. elim p as (λ _. Bool) [ None ↦ false | Some h ↦ m.carried_in h t ]) (get_here s.hands w after.hand (there s.hands w hand can.hand_is))

    carried_was : (t : ℕ) → carried_by m s.hands w t ≡ m.carried_in hand t
    carried_was t = ap (λ p. elim p as (λ _. Bool) [ None ↦ false | Some h ↦ m.carried_in h t ]) can.hand_is

    carried_others : (t v : ℕ) → v ≢ w → carried_by m s'.hands v t ≡ carried_by m s.hands v t
    carried_others t v far = ap (λ p. elim p as (λ _. Bool) [ None ↦ false | Some h ↦ m.carried_in h t ]) (get_else s.hands w v after.hand far)

    -- agrees: a thread agrees, where it stands and is carried so
    abbrev AgreesAt : Shared H G E R → ℕ → Type 0
    AgreesAt y t = ThreadAgrees y.holds y.pending (λ l. stands_under m y.values l t) (λ v. carried_by m y.hands v t) t (y.words t)

    -- where a thread stood and was carried before the event, and after it
    abbrev stood_under : ℕ → ℕ → Bool
    stood_under t l = stands_under m s.values l t

    abbrev is_under : ℕ → ℕ → Bool
    is_under t l = stands_under m after.values l t

    abbrev was_carried : ℕ → ℕ → Bool
    was_carried t v = carried_by m s.hands v t

    abbrev is_carried : ℕ → ℕ → Bool
    is_carried t v = carried_by m s'.hands v t

    thread_after : (t : ℕ) → m.declared t ≡ true → AgreesAt s' t
    thread_after t dec = by (moved_to t dec) where
      was : AgreesAt s t
      was = k.threads t dec

      by : Moved m held hand after.hand s.values after.values t (m.change e after.reply) → AgreesAt s' t
      by (stays far stand carry) = thread_kept s.holds s.holds s.pending s'.pending (stood_under t) (is_under t) (was_carried t) (is_carried t) t (s.words t) (s.words t)
          refl stand
          (λ v. dite (ℕ_discrete v w) (λ z. subst (λ i. carried_by m s'.hands i t ≡ carried_by m s.hands i t) (sym z) (carried_w t ∙ (carry ∙ sym (carried_was t)))) (carried_others t v))
          (λ v c is a. dite (ℕ_discrete v w) (λ z. absurd (far c (sym pends ∙ (ap s'.pending (sym z) ∙ is)) a)) (λ o. sym (others v o) ∙ is))
          (λ v c is a. dite (ℕ_discrete v w) (λ z. absurd (none-some c (sym can.calm ∙ (ap s.pending (sym z) ∙ is)))) (λ o. others v o ∙ is))
          (λ v l c is a h. h) was
      by (left a is among stood gone carry) = let z = under_calm s.holds s.pending (stood_under t) (was_carried t) t (s.words t) w can.calm was a (alone_in a among) stood in
          thread_left s.holds s.holds s.pending s'.pending (stood_under t) (is_under t) (was_carried t) (is_carried t) t (s.words t) (s.words t) w was refl z.2 others (carried_others t)
          a z.0 z.1 (timely.holds a among) (pends ∙ is) (carried_w t ∙ carry)
          (λ l st. let g = gone l st in let same : a ≡ l = under_injective a l (sym z.0 ∙ was.only_under l g.0) in true≢false (sym among ∙ (ap (is_lock_among held) same ∙ g.1)))
      by (came c is from among st only carry) = by_place from where
        no_hand_else : ((v : ℕ) → v ≢ w → carried_by m s.hands v t ≡ true → ⊥) → (v : ℕ) → carried_by m s'.hands v t ≡ true → ⊥
        no_hand_else none v ca = dite (ℕ_discrete v w) (λ z. true≢false (sym ca ∙ (ap (λ i. carried_by m s'.hands i t) z ∙ (carried_w t ∙ carry)))) (λ o. none v o (sym (carried_others t v o) ∙ ca))

        by_place : ((m.carried_in hand t ≡ true) ⊎ ((a : ℕ) × (is_lock_among held a ≡ true) × (stands_under m s.values a t ≡ true))) → AgreesAt s' t
        by_place (inl ca) = let z = hand_calm s.holds s.pending (stood_under t) (was_carried t) t (s.words t) w can.calm was (carried_was t ∙ ca) in
            thread_came s.holds s.holds s.pending s'.pending (stood_under t) (is_under t) (was_carried t) (is_carried t) t (s.words t) (s.words t) w was refl z.2 others (carried_others t)
            c (timely.holds c among) (pends ∙ is) st (λ l stl. ⊎_elim (λ y. y) (λ (y : (stands_under m s.values l t ≡ true) × (is_lock_among held l ≡ false)). absurd (under_no_hand l w (sym (was.only_under l y.0) ∙ z.0))) (only l stl))
            (no_hand_else (λ v o h. o (hand_injective v w (sym (was.only_hand v h) ∙ z.0)))) (inl z.1)
        by_place (inr (a, took_it, stood)) = let z = under_calm s.holds s.pending (stood_under t) (was_carried t) t (s.words t) w can.calm was a (alone_in a took_it) stood in
            thread_came s.holds s.holds s.pending s'.pending (stood_under t) (is_under t) (was_carried t) (is_carried t) t (s.words t) (s.words t) w was refl z.2 others (carried_others t)
            c (timely.holds c among) (pends ∙ is) st
            (λ l stl. ⊎_elim (λ y. y) (λ (y : (stands_under m s.values l t ≡ true) × (is_lock_among held l ≡ false)). absurd (let same : a ≡ l = under_injective a l (sym z.0 ∙ was.only_under l y.0) in true≢false (sym took_it ∙ (ap (is_lock_among held) same ∙ y.1)))) (only l stl))
            (no_hand_else (λ v o h. under_no_hand a v (sym z.0 ∙ was.only_hand v h))) (inr (a, z.1, timely.holds a took_it))

    changes_after : (v : ℕ) (c : WordChange) → s'.pending v ≡ Some c → (m.declared (thread_of_change c) ≡ true) × HoldsItsLocks s' v
    changes_after v c is = dite (ℕ_discrete v w)
        (λ z. (of_declared c (sym pends ∙ (ap s'.pending (sym z) ∙ is)), (x, latest_here v x (unstamped s.history) (sym z), λ l among. subst (λ i. s.holds i l ≡ true) (sym z) (timely.holds l among))))
        (λ far. let r = k.changes v c (sym (others v far) ∙ is) in (r.0, (r.1.0, latest_else v x (unstamped s.history) (λ same. far (sym same)) ∙ r.1.1, r.1.2)))

    other_timely : (v : ℕ) (r : TimeRead) → v ≢ w → IsTimely s v r → IsTimely s' v r
    other_timely v r far t = record {
      holds = t.holds;
      past = t.past;
      own = t.own;
      no_earlier = no_earlier_more (unstamped s.history) x v r.locks r.now t.no_earlier (λ sh. absurd (⊎_elim (λ (same : w ≡ v). far (sym same))
          (λ (z : (l : ℕ) × (is_lock_among r.locks l ≡ true) × (is_lock_among held l ≡ true)). far (alone_in z.0 z.2 v (t.holds z.0 z.1))) sh));
    }

    past_after : (i : ℕ) (y : Stamped E R) → slice_get s'.history i ≡ Some y → (20000 + y.amount ≤ y.entry.now) × (y.entry.now ≤ s.now)
    past_after zero y is = subst (λ (z : Stamped E R). (20000 + z.amount ≤ z.entry.now) × (z.entry.now ≤ s.now)) (same_Some _ y is) (timely.own amount can.advanced, timely.past)
    past_after (suc i) y is = k.past i y is

    -- the commit keeps agreement
    commit_agrees : Agrees m s'
    commit_agrees = record {
      values = ap (λ (y : Acted H G R). length y.values) so ∙ (laid_many s.values held (m.act w e now hand there_are.0).values ∙ k.values);
      locks = k.locks;
      threads = thread_after;
      undeclared = k.undeclared;
      changes = changes_after;
      times = others_timely m s w k s' other_timely;
      past = past_after;
      now = k.now;
      ticket = let a = k.ticket in omega arith;
      history = (as_it_stands s, hand, after, k.history, can.hand_is, can.asks, follows, timely.no_earlier, refl);
    }

module _ {H O G E R C : Type 0} (m : Means H O G E R C) (law : IsLawful m) where
  -- an event that can be committed may be performed
  pub committing_may : CommittingMay m
  committing_may s w e hand held now amount k can small = let g = there_are m law s k w e hand held now amount can small in (g.0, g.1, may_act m law s k w e hand held now amount can small)

  -- letting an event take effect keeps agreement
  pub committing_agrees : CommittingAgrees m
  committing_agrees s w e hand held now amount after k can small effect = commit_agrees m law s k w e hand held now amount can small after effect

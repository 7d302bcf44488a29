-- An event that takes effect keeps the state.
use Rattle.std.proofs.Common.{◌≡◌, ◌≢◌, ℕ, ◌+◌, ◌^◌, ◌<◌, true, List, ◌∷◌, map, length, set, sym, refl, ap, ◌∙◌, subst, ⊎_elim, arith}
use Rattle.std.specs.Prelude.{Option, Some, None, slice_get}
use Rattle.ule_micro.specs.declared.entry.Entry.{Entry}
use Rattle.ule_micro.specs.declared.entry.HeldLocks.{HeldLocks}
use Rattle.ule_micro.specs.declared.seat.Phase.TheVariants as phase
use Rattle.ule_micro.specs.declared.seat.Progress.{Progress}
use Rattle.ule_micro.specs.declared.seat.Progress.TheVariants as progress
use Rattle.ule_micro.specs.declared.seat.Seat.{Seat}
use Rattle.ule_micro.specs.declared.word.WordChange.{WordChange}
use Rattle.ule_micro.specs.Means.{Means, Needs, one, both, lock_of, budgets}
use Rattle.ule_micro.specs.Standings.{Acted}
use Rattle.ule_micro.specs.Histories.{effect_on, effect_under, entry_made, values_under, is_lock_among, AreLocksFor, Follows, IsNoEarlierThanShared, own_entries}
use Rattle.ule_micro.specs.Courses.{LegalPlay, performs}
use Rattle.ule_micro.specs.Laws.{AreInRisingOrder, AreOrders, AreRising, IsLawful}
use Rattle.ule_micro.specs.Shared.{Agrees, CanCommit, IsTimely, Shared, Stamped, committed}
use Rattle.ule_micro.specs.States.{State, lock_holder, holds, lock_held_by, pending_by, read_by, read_in, course_of_seat, courses, shared_of, took, standing_of_phase, hand_of_seat}
use Rattle.ule_micro.specs.Turns.{seat_leaving}
use Rattle.ule_micro.specs.Theorem.{HasWhatItNeeds}
use Rattle.ule_micro.specs.Kept.{IsKeptState}
use Rattle.ule_micro.proofs.Lists.{get_map}
use Rattle.ule_micro.proofs.Among.{among_this, bool_case}
use Rattle.ule_micro.proofs.Courses.{asked_for}
use Rattle.ule_micro.proofs.Effects.{apart_for, effect_is, effect_so, in_value, laid_else}
use Rattle.ule_micro.proofs.Seats.{seat_here, held_same, seat_courses_set, seat_course_at, seat_hand_at, hands_set}
use Rattle.ule_micro.proofs.Words.{one_holder}
use Rattle.ule_micro.proofs.Numbers.{play_small, items_small}
use Rattle.ule_micro.proofs.SharedCommit.{committing_agrees, committing_may, latest_else, latest_here}
use Rattle.ule_micro.proofs.Showing.{advanced_same, advanced_there, afterwards, alike_same, kept_by, now_is, put_seat}

module _ {H O G E R C : Type 0} (m : Means H O G E R C) (orders : ℕ → List C) (laws : IsLawful m) (lists : AreOrders m orders)
    (s : State O G E R) (k : IsKeptState m orders s) (w : ℕ) (p : Seat O E R) (at : slice_get s.seats w ≡ Some p) (e : E)
    (held : HeldLocks) (now : ℕ) (here : p.phase ≡ phase.Event e (progress.Timed held now)) where
  abbrev shown : Shared H G E R
  shown = shared_of m s k.agreement.history

  -- the event was asked for
  asked : m.asks w (own_entries w s.history) (m.hand p.own) e
  asked = asked_for m orders laws lists k.play w (course_of_seat p) (seat_course_at s.seats w p p at) e (ap standing_of_phase here)

  -- its locks rise
  pub rises : AreRising (m.needs e)
  rises = laws.sound.rising w (own_entries w s.history) (m.hand p.own) e asked

  -- the worker has no change pending
  pub quiet : p.pending ≡ None
  quiet = by p.pending refl where
    by : (o : Option WordChange) → p.pending ≡ o → p.pending ≡ None
    by None is = is
    by (Some c) is = absurd (let z = (k.agreement.workers w p at).leaving c is in let y : phase.Event e (progress.Timed held now) ≡ phase.Leaving z.0.reply z.0.now z.0.locks = sym here ∙ z.2 in cc)

  locks : AreLocksFor m s.values held (m.needs e)
  locks = (k.agreement.workers w p at).way e (progress.Timed held now) here

  -- so it can commit
  can : CanCommit m shown w e (m.hand p.own) held now p.advanced
  can = record {
    calm = ap pending_by at ∙ quiet;
    read = ap read_by at ∙ ap read_in here;
    hand_is = seat_hand_at m s.seats w p p at;
    advanced = advanced_there s.seats w p p at;
    asks = subst (λ h. m.asks w (own_entries w h) (m.hand p.own) e) (sym k.agreement.same_entries) asked;
    needs = locks;
  }

  times : IsTimely shown w (record { locks = held; now = now })
  times = k.agreement.shared.times w (record { locks = held; now = now }) can.read

  few_ticks : s.now < 2 ^ 36
  few_ticks = let few = play_small m orders laws lists s.history s.values (courses s) k.play in let sum = now_is m orders s k in omega arith

  -- the event may be performed on the values under its locks
  pub performable : (guarded : List G) × (values_under held s.values ≡ Some guarded) × m.may w e now (m.hand p.own) guarded
  performable = committing_may m laws shown w e (m.hand p.own) held now p.advanced k.agreement.shared can few_ticks

  effect_now : (after : Acted H G R) × (effect_under m w e now (m.hand p.own) held s.values ≡ Some after)
  effect_now = (effect_on held s.values (m.act w e now (m.hand p.own) performable.0), effect_is m w e now (m.hand p.own) held s.values performable.0 performable.1)

  -- the play with the entry of the event
  module _ (after : Acted H G R) (effect : effect_under m w e now (m.hand p.own) held s.values ≡ Some after) where
    -- the entry follows from the values and the hand
    pub follows : Follows m s.values (m.hand p.own) (entry_made w e held now after.reply) after
    follows = record {
      locks = locks;
      guarded = performable.0;
      under = performable.1;
      may = performable.2;
      effect = effect;
      reply = refl;
    }

    -- the play goes on with the entry
    pub play_after : LegalPlay m orders (entry_made w e held now after.reply ∷ s.history) after.values (map course_of_seat (set s.seats w (seat_leaving m p e held now after)))
    play_after = subst (LegalPlay m orders (entry_made w e held now after.reply ∷ s.history) after.values) (sym (seat_courses_set s.seats w p (seat_leaving m p e held now after) at))
        (performs (course_of_seat p) (entry_made w e held now after.reply) after k.play (seat_course_at s.seats w p p at) (ap standing_of_phase here) follows
        record {
          no_earlier = subst (λ h. IsNoEarlierThanShared h w held now) k.agreement.same_entries times.no_earlier;
          own = times.own p.advanced (advanced_there s.seats w p p at);
          past = let a = times.past in let b = now_is m orders s k in omega arith;
        })

  -- there is still an item to perform, so the numbers of the worker and of the history are small
  pub still_small : (p.items < 65536) × (length s.history < 65536) × (length s.history < budgets m.budget (length m.owns))
  still_small = let a = effect_now in let q = seat_leaving m p e held now a.0 in let h = entry_made w e held now a.0.reply ∷ s.history in let cs = map course_of_seat (set s.seats w q) in
      let z = play_small m orders laws lists h a.0.values cs (play_after a.0 a.1) in let room = z.0 in let few = z.1 in
      let items = items_small m orders laws lists h a.0.values cs w (course_of_seat q) (play_after a.0 a.1) (get_map course_of_seat (set s.seats w q) w q (seat_here s.seats w p q at)) in
      (omega arith, omega arith, omega arith)

  module _ (after : Acted H G R) (effect : effect_under m w e now (m.hand p.own) held s.values ≡ Some after) where
    abbrev p' : Seat O E R
    p' = seat_leaving m p e held now after

    abbrev x : Entry E R
    x = entry_made w e held now after.reply

    abbrev stamped : List (Stamped E R)
    stamped = record { entry = x; amount = p.advanced } ∷ k.agreement.history

    abbrev s' : State O G E R
    s' = afterwards m orders s k w p at p' s.locks s.words (s.ticket + 1) s.now after.values (x ∷ s.history)

    agrees : Agrees m (shared_of m s' stamped)
    agrees = subst (Agrees m) (sym (alike_same (shared_of m s' stamped) (committed m shown w e held now p.advanced after) (record {
      locks = λ l. refl;
      words = λ t. refl;
      ticket = refl;
      now = refl;
      values = refl;
      hands = hands_set m s.seats w p p' at ∙ ap (set (map (hand_of_seat m) s.seats) w) (laws.hands.put p.own after.hand);
      holds = λ v l. held_same s.seats w p p' at l (sym (ap (λ f. took f l) here)) v;
      pending = put_seat s.seats w p p' at pending_by;
      read = put_seat s.seats w p p' at read_by;
      advanced = advanced_same s.seats w p p' at refl;
      history = refl;
    }))) (committing_agrees m laws shown w e (m.hand p.own) held now p.advanced after k.agreement.shared can few_ticks effect)

    -- another worker's locks are not those of the event
    far_locks : (v : ℕ) (q : Seat O E R) (l : ℕ) → v ≢ w → slice_get s.seats v ≡ Some q → took q.phase l ≡ true → is_lock_among held l ≡ true → ⊥
    far_locks v q l n is took_it a = n (one_holder (lock_holder s l) (λ i. holds s i l) (k.agreement.shared.locks l) v w (ap (λ o. lock_held_by o l) is ∙ took_it) (times.holds l a))

    -- a thread that another worker sought stays under its lock
    sought_stays : (v : ℕ) (q : Seat O E R) (mine : HeldLocks) (n : Needs) → v ≢ w → slice_get s.seats v ≡ Some q
        → ((l : ℕ) → is_lock_among mine l ≡ true → took q.phase l ≡ true) → AreLocksFor m s.values mine n → AreLocksFor m after.values mine n
    sought_stays v q mine (one a) far is had needs = needs
    sought_stays v q mine (both a b) far is had needs = needs
    sought_stays v q mine (lock_of t) far is had (l, one_lock, st) = (
      l,
      one_lock,
      ⊎_elim
          (λ a. absurd (far_locks v q l far is (had l (ap (λ i. is_lock_among i l) one_lock ∙ among_this l)) a))
          (λ out. ap (λ o. in_value m o t) (ap (λ (y : Acted H G R). slice_get y.values l) (effect_so m w e now (m.hand p.own) held s.values performable.0 performable.1 after effect) ∙ laid_else s.values held (m.act w e now (m.hand p.own) performable.0).values l out) ∙ st)
          (bool_case (is_lock_among held l)),
    )

    way_stays : (v : ℕ) (q : Seat O E R) (f : E) (way : Progress) → v ≢ w → slice_get s.seats v ≡ Some q → q.phase ≡ phase.Event f way → HasWhatItNeeds m s f way
        → HasWhatItNeeds m s' f way
    way_stays v q f progress.Open far is there had = had
    way_stays v q f (progress.Named t l) far is there had = had
    way_stays v q f (progress.Taken t l) far is there had = had
    way_stays v q f (progress.Stale l) far is there had = had
    way_stays v q f (progress.Half a b) far is there had = had
    way_stays v q f (progress.Locked mine) far is there had = sought_stays v q mine (m.needs f) far is (λ l a. ap (λ g. took g l) there ∙ a) had
    way_stays v q f (progress.Timed mine n) far is there had = sought_stays v q mine (m.needs f) far is (λ l a. ap (λ g. took g l) there ∙ a) had

    apart : (reply : R) (n : ℕ) (other : HeldLocks) → p'.phase ≡ phase.Leaving reply n other → AreInRisingOrder other
    apart reply n other is = let same : held ≡ other = cc in subst AreInRisingOrder same (apart_for m s.values held (m.needs e) rises locks)

    -- the state after the commit is kept
    pub commit_kept : IsKeptState m orders s'
    commit_kept = kept_by m orders s k w p at p' s.locks s.words (s.ticket + 1) s.now after.values (x ∷ s.history) stamped (ap (λ h. x ∷ h) k.agreement.same_entries) agrees
        (record { number = laws.hands.put_number p.own after.hand ∙ (k.seats w p at).number; begun = (k.seats w p at).begun; apart = apart })
        (λ c is. (x, latest_here w x s.history refl, refl)) (λ f on is. absurd (cc)) (λ fin. absurd (cc)) (λ v far. latest_else v x s.history (λ same. far (sym same))) way_stays k.locks k.words (play_after after effect)

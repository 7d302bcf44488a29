-- A worker that comes to its next item keeps the state: behind an advance, and behind its last release.
use Rattle.std.proofs.Common.{◌≡◌, ℕ, ◌+◌, ◌<◌, true, false, List, length, set, drop, sym, refl, ap, ◌∙◌, subst, arith, length-set}
use Rattle.std.specs.Prelude.{Option, Some, None, slice_get}
use Rattle.std.proofs.lemmas.Option.{none-some}
use Rattle.ule_micro.specs.declared.entry.HeldLocks.TheVariants.{One}
use Rattle.ule_micro.specs.declared.locks.TheConstants.{LOCKS}
use Rattle.ule_micro.specs.declared.seat.Phase.TheVariants as phase
use Rattle.ule_micro.specs.declared.seat.Seat.{Seat}
use Rattle.ule_micro.specs.declared.word.WordChange.{WordChange}
use Rattle.ule_micro.specs.Means.{Means}
use Rattle.ule_micro.specs.Standings.{asks, standing_with}
use Rattle.ule_micro.specs.Courses.{LegalPlay, advances}
use Rattle.ule_micro.specs.Laws.{AreOrders, IsEmpty, IsLawful}
use Rattle.ule_micro.specs.Programs.{CanGoOn}
use Rattle.ule_micro.specs.Shared.{Agrees, updated, now_advanced, lock_released}
use Rattle.ule_micro.specs.States.{State, holds, time_read, read_by, course_of_seat, courses, shared_of, took, standing_of_phase}
use Rattle.ule_micro.specs.Turns.{Fetched, fetch, seat_going_on}
use Rattle.ule_micro.specs.Theorem.{HasWhatItNeeds}
use Rattle.ule_micro.specs.Kept.{IsKeptState}
use Rattle.ule_micro.proofs.Lists.{get_here, map_set, set_same, there, length_map}
use Rattle.ule_micro.proofs.Among.{not_among_one, among_this}
use Rattle.ule_micro.proofs.Courses.{rests_empty}
use Rattle.ule_micro.proofs.Seats.{held_before, held_low, held_same, hands_same, pending_before, pending_same, seat_courses_set, seat_course_at}
use Rattle.ule_micro.proofs.Fetches.{IsFetchedWell, fetch_well}
use Rattle.ule_micro.proofs.Fresh.{took_nothing, read_nothing, standing_given, given_none, given_open, given_not_leaving}
use Rattle.ule_micro.proofs.SharedSteps.{advancing_agrees, releasing_agrees}
use Rattle.ule_micro.proofs.Showing.{advanced_same, advanced_there, alike_same, held_with, index_put, kept_by, put_seat}

module _ {H O G E R C : Type 0} (m : Means H O G E R C) (orders : ℕ → List C) (laws : IsLawful m) (lists : AreOrders m orders) (s : State O G E R) (k : IsKeptState m orders s) (w : ℕ) (p : Seat O E R) (at : slice_get s.seats w ≡ Some p) where
  -- the worker asks for its next item
  module _ (told : Option (R × ℕ)) (items advanced : ℕ) (quiet : p.pending ≡ None)
      (asking : LegalPlay m orders s.history s.values (set (courses s) w record { own = p.own; begun = p.begun; items = items; advanced = advanced; standing = asks told })) where
    abbrev f : Fetched O E
    f = fetch m p.own p.begun told (drop p.begun (orders w))

    abbrev p' : Seat O E R
    p' = seat_going_on m orders w p.own p.begun told items advanced

    in_list : w < length (courses s)
    in_list = let a : w < length s.seats = there s.seats w p at in let b = length_map course_of_seat s.seats in omega arith

    well : CanGoOn m p.own told (drop p.begun (orders w)) × IsFetchedWell m orders laws lists s.history s.values (courses s) w items advanced p.own in_list f
    well = fetch_well m orders laws lists s.history s.values (courses s) w items advanced p.own in_list p.own p.begun told ((k.seats w p at).begun) asking refl refl

    -- the worker may ask for its next item, and begin the commands that follow
    pub can_go_on : CanGoOn m p.own told (drop p.begun (orders w))
    can_go_on = well.0

    -- with these lock words, at this time
    module _ (locks' : List (Option ℕ)) (now' : ℕ) (long : length locks' ≡ LOCKS) where
      abbrev s' : State O G E R
      s' = record { locks = locks'; words = s.words; ticket = s.ticket; now = now'; values = s.values; seats = set s.seats w p'; history = s.history }

      its_course : course_of_seat p' ≡ record { own = f.own; begun = f.begun; items = items; advanced = advanced; standing = standing_with f.item }
      its_course = λ i. record { own = f.own; begun = f.begun; items = items; advanced = advanced; standing = standing_given f.item p'.phase refl i }

      play' : LegalPlay m orders s.history s.values (courses s')
      play' = subst (LegalPlay m orders s.history s.values) (sym (seat_courses_set s.seats w p p' at ∙ ap (set (courses s) w) its_course)) well.1.play

      course_here : slice_get (courses s') w ≡ Some (course_of_seat p')
      course_here = ap (λ cs. slice_get cs w) (seat_courses_set s.seats w p p' at) ∙ get_here (courses s) w (course_of_seat p') in_list

      ends_empty : p'.phase ≡ phase.Finished → IsEmpty m (m.hand p'.own)
      ends_empty fin = let none = given_none f.item p'.phase refl fin in
          rests_empty m orders laws lists play' w (course_of_seat p') course_here (standing_given f.item p'.phase refl ∙ ap standing_with none)

      -- the worker behind its item, from what it shows
      module _ (agrees : Agrees m (shared_of m s' k.agreement.history)) where
        -- the state with the worker at its next item is kept
        pub goes_on : IsKeptState m orders s'
        goes_on = kept_by m orders s k w p at p' locks' s.words s.ticket now' s.values s.history k.agreement.history k.agreement.same_entries agrees
            (record { number = well.1.number ∙ (k.seats w p at).number; begun = well.1.low; apart = λ reply n held is. absurd (given_not_leaving f.item p'.phase reply n held refl is) })
            (λ c is. absurd (none-some c is)) (λ e on is. subst (HasWhatItNeeds m s' e) (sym (given_open f.item p'.phase e on refl is)) tt)
            (λ fin. (well.1.ended (given_none f.item p'.phase refl fin), refl, ends_empty fin)) (λ v far. refl) (λ v q e on far is stands had. had) long k.words play'

  -- a worker that raises the time
  module _ (n : ℕ) (here : p.phase ≡ phase.Advance n) where
    -- a worker that raises the time has no change pending
    pub quiet_advance : p.pending ≡ None
    quiet_advance = by p.pending refl where
      by : (o : Option WordChange) → p.pending ≡ o → p.pending ≡ None
      by None e = e
      by (Some c) e = absurd (let z = (k.agreement.workers w p at).leaving c e in let y : phase.Advance n ≡ phase.Leaving z.0.reply z.0.now z.0.locks = sym here ∙ z.2 in cc)

    -- the play goes on with the advance
    pub asking_advance : LegalPlay m orders s.history s.values (set (courses s) w record { own = p.own; begun = p.begun; items = p.items + 1; advanced = p.advanced + n; standing = asks None })
    asking_advance = advances w (course_of_seat p) n k.play (seat_course_at s.seats w p p at) (ap standing_of_phase here)

    -- the state after an advance is kept
    pub advance_kept : IsKeptState m orders record {
      locks = s.locks;
      words = s.words;
      ticket = s.ticket;
      now = s.now + n;
      values = s.values;
      seats = set s.seats w (seat_going_on m orders w p.own p.begun None (p.items + 1) (p.advanced + n));
      history = s.history;
    }
    advance_kept = let q = seat_going_on m orders w p.own p.begun None (p.items + 1) (p.advanced + n) in
        let f = fetch m p.own p.begun None (drop p.begun (orders w)) in
        goes_on None (p.items + 1) (p.advanced + n) quiet_advance asking_advance s.locks (s.now + n) k.locks
        (subst (Agrees m) (sym (alike_same _ (now_advanced (shared_of m s k.agreement.history) w p.advanced n) (record {
          locks = λ l. refl;
          words = λ t. refl;
          ticket = refl;
          now = refl;
          values = refl;
          hands = hands_same m s.seats w p q at (well None (p.items + 1) (p.advanced + n) quiet_advance asking_advance).1.hand;
          holds = λ v l. held_same s.seats w p q at l (took_nothing f.item q.phase l refl ∙ sym (ap (λ g. took g l) here)) v;
          pending = pending_same s.seats w p q at (sym quiet_advance);
          read = λ v. put_seat s.seats w p q at read_by v ∙ ap (λ r. updated (time_read s) w r v) (read_nothing f.item q.phase refl);
          advanced = map_set (λ (y : Seat O E R). y.advanced) s.seats w q;
          history = refl;
        }))) (advancing_agrees m (shared_of m s k.agreement.history) w p.advanced n k.agreement.shared (advanced_there s.seats w p q at)))

  -- a worker that gives its last lock back
  module _ (a : ℕ) (reply : R) (now : ℕ) (here : p.phase ≡ phase.Leaving reply now (One a)) (quiet : p.pending ≡ None) where
    -- a worker that gives its last lock back is to ask for its next item
    pub asking_leave : LegalPlay m orders s.history s.values (set (courses s) w record { own = p.own; begun = p.begun; items = p.items; advanced = p.advanced; standing = asks (Some (reply, now)) })
    asking_leave = let same : course_of_seat p ≡ record { own = p.own; begun = p.begun; items = p.items; advanced = p.advanced; standing = asks (Some (reply, now)) } = λ i. record { own = p.own; begun = p.begun; items = p.items; advanced = p.advanced; standing = standing_of_phase (here i) } in
        subst (LegalPlay m orders s.history s.values) (sym (set_same (courses s) w _ (seat_course_at s.seats w p p at ∙ ap Some same))) k.play

    -- the state after the last release is kept
    pub leave_kept : IsKeptState m orders record {
      locks = set s.locks a None;
      words = s.words;
      ticket = s.ticket;
      now = s.now;
      values = s.values;
      seats = set s.seats w (seat_going_on m orders w p.own p.begun (Some (reply, now)) p.items p.advanced);
      history = s.history;
    }
    leave_kept = let q = seat_going_on m orders w p.own p.begun (Some (reply, now)) p.items p.advanced in
        let f = fetch m p.own p.begun (Some (reply, now)) (drop p.begun (orders w)) in
        let gone : (l : ℕ) → took q.phase l ≡ false = λ l. took_nothing f.item q.phase l refl in
        let had : holds s w a ≡ true = held_before s.seats w p q at a ∙ (ap (λ g. took g a) here ∙ among_this a) in
        goes_on (Some (reply, now)) p.items p.advanced quiet asking_leave (set s.locks a None) s.now (length-set s.locks a None ∙ k.locks)
        (subst (Agrees m) (sym (alike_same _ (lock_released (shared_of m s k.agreement.history) w a) (record {
          locks = index_put s.locks a None None (held_low s k.agreement.shared.locks w a had);
          words = λ t. refl;
          ticket = refl;
          now = refl;
          values = refl;
          hands = hands_same m s.seats w p q at (well (Some (reply, now)) p.items p.advanced quiet asking_leave).1.hand;
          holds = held_with s.seats w p q at a false (gone a) (λ l n. gone l ∙ sym (ap (λ g. took g l) here ∙ not_among_one a l n));
          pending = pending_same s.seats w p q at (sym quiet);
          read = λ v. put_seat s.seats w p q at read_by v ∙ ap (λ r. updated (time_read s) w r v) (read_nothing f.item q.phase refl);
          advanced = advanced_same s.seats w p q at refl;
          history = refl;
        }))) (releasing_agrees m (shared_of m s k.agreement.history) w a k.agreement.shared had (pending_before s.seats w p q at ∙ quiet)))

-- The code's judge goes on as the definition's.
use Rattle.std.proofs.Common.{◌≡◌, ℕ, ◌+◌, ◌^◌, ◌<◌, ◌≤◌, ◌&&◌, ◌||◌, ◌==◌, nat_le, Bool, true, false, List, [], ◌∷◌, get_or, length, slice_get, slice_index_or, slice_set, Option, Some, None, if◌then◌else◌, option_and_then, refl, sym, ◌∙◌, ap, subst, ⊎_elim, arith}
use Rattle.std.specs.List.{AllByRecursion, list_all}
use Rattle.std.specs.Option.{option_map}
use Rattle.std.proofs.lemmas.Bool.{and_parts, cases_eq, cases_lt, eq-eqb, leb-true, ne_eqb}
use Rattle.std.proofs.lemmas.List.{length-set}
use Rattle.std.proofs.lemmas.Option.{get_or_from_slice_get, none-some, same_Some, slice_get-get_or, slice_get_within}
use Rattle.ule_types.specs.Commands.{is_among}
use Rattle.ule_types.specs.declared.event.Entry.{Entry}
use Rattle.ule_types.specs.declared.event.Event.{Event}
use Rattle.ule_types.specs.declared.event.Reply.{Reply}
use Rattle.ule_types.specs.declared.setup.Setup.{Setup}
use Rattle.ule_program.specs.Courses.{Course}
use Rattle.ule_program.specs.Hearing.{CanHear}
use Rattle.ule_model.specs.Conditions.{IsPossible}
use Rattle.ule_model.specs.Ends.{end_time}
use Rattle.ule_model.specs.Events.{holder_of, is_ready, locks_of, sought_by}
use Rattle.ule_model.specs.Legal.{amount_in_all}
use Rattle.ule_model.specs.Start.{starting_time}
use Rattle.ule_model.specs.Step.{step}
use Rattle.ule_model.specs.WorldValue.{Shows}
use Rattle.ule_members.proofs.Lists.{slice_get-set_other, slice_get-set_same}
use Rattle.ule_members.proofs.Setups.{setup_scripts}
use Rattle.ule_check.proofs.Openings.{each_after_set}
use Rattle.ule_check.specs.Judge.{Due, Judge, behind, due_at, due_of, event_fault, faults_of, first_fault, hand_fault, keeps_time, reply_fault, time_fault, with_times}
use Rattle.ule_check.specs.JudgeValue.{AreSeats, HasHeard, HasJudged, IsJudge, IsSeat, IsTimely, WentOn, entry_fault, goes_on, noted_in}
use Rattle.ule_check.specs.Seats.{due_by, due_in, time_ahead, time_behind}
use Rattle.ule_check.specs.declared.judge.Judge as code
use Rattle.ule_check.specs.declared.seat.Seat.{Seat}
use Rattle.ule_check.specs.declared.verdicts.Fault.{Fault}
use Rattle.ule_check.specs.declared.verdicts.Fault.TheVariants as fault
use Rattle.ule_check.proofs.Faults.{each_under, event_same, first_none, held_ready, time_at_other, time_at_own, time_kept}
use Rattle.ule_check.proofs.Kept.{IsKept, end_below}
use Rattle.ule_check.proofs.NotedTimes.{IsOnTime}
use Rattle.ule_check.proofs.OnTheWay.{due_possible}
use Rattle.ule_check.proofs.Reached.{HasCourse, has_course, reached_kept}
use Rattle.ule_check.proofs.SeatLaws.{told_time}
use Rattle.ule_check.proofs.Sound.{faultless, kept_behind}

-- ---- times under locks

-- the times under some locks are written one after another
noted_times : (ls : List ℕ) (now : ℕ) (latest : List ℕ) (times : ℕ → ℕ) → length latest ≡ 25 → AllByRecursion (λ l. l < 25) ls →
    ((l : ℕ) → l < 25 → slice_get latest l ≡ Some (times l)) → (l : ℕ) → l < 25 → slice_get (noted_in ls now latest) l ≡ Some (with_times ls now times l)
noted_times [] now latest times count within each l below = each l below
noted_times (a ∷ ls) now latest times count within each l below =
    noted_times ls now (slice_set latest a now) (λ k. if a == k then now else times k) (length-set latest a now ∙ count) within.1 here l below ∙ ap Some (either (a == l) (is_among ls l))
  where
    either : (p q : Bool) → (if q then now else (if p then now else times l)) ≡ (if p || q then now else times l)
    either true true = refl
    either true false = refl
    either false true = refl
    either false false = refl

    here : (k : ℕ) → k < 25 → slice_get (slice_set latest a now) k ≡ Some (if a == k then now else times k)
    here k under =
        ⊎_elim
        (λ (same : k ≡ a). subst (λ i. slice_get (slice_set latest a now) i ≡ Some (if a == i then now else times i)) (sym same)
        (slice_get-set_same latest a now (subst (λ n. a < n) (sym count) within.0) ∙ ap (λ (b : Bool). Some (if b then now else times a)) (sym (eq-eqb a a refl))))
        (λ (other : k ≡ a → ⊥). slice_get-set_other latest a k now other ∙ each k under ∙
        ap (λ (b : Bool). Some (if b then now else times k)) (sym (ne_eqb a k (λ is. other (sym is)))))
        (cases_eq k a)

-- there are as many as before
noted_count : (ls : List ℕ) (now : ℕ) (latest : List ℕ) → length (noted_in ls now latest) ≡ length latest
noted_count [] now latest = refl
noted_count (a ∷ ls) now latest = noted_count ls now (slice_set latest a now) ∙ length-set latest a now

-- tests of times that agree under each lock agree
late_alike : (f g : ℕ → ℕ) (now : ℕ) (ls : List ℕ) → AllByRecursion (λ l. l < 25) ls → ((l : ℕ) → l < 25 → f l ≡ g l) →
    list_all (λ l. nat_le (f l) now) ls ≡ list_all (λ l. nat_le (g l) now) ls
late_alike f g now [] within alike = refl
late_alike f g now (l ∷ ls) within alike = (λ i. nat_le (alike l within.0 i) now && late_alike f g now ls within.1 alike i)

-- ---- a worker's next event

-- a seat of a list that has come to an event
pub seat_there : (seats : List Seat) (worker : ℕ) (due : Event) → option_and_then (λ x. x.event) (slice_get seats worker) ≡ Some due →
    (x : Seat) × (slice_get seats worker ≡ Some x) × (x.event ≡ Some due)
seat_there seats worker due is = at_seat (slice_get seats worker) refl is
  where
    at_seat : (o : Option Seat) → slice_get seats worker ≡ o → option_and_then (λ (x : Seat). x.event) o ≡ Some due → (x : Seat) × (slice_get seats worker ≡ Some x) × (x.event ≡ Some due)
    at_seat None got is = absurd (none-some due is)
    at_seat (Some x) got is = (x, got, is)

-- what is due of a seat's event
event_due : (s : Setup) (worker : ℕ) (x : Seat) (d : Due) → due_in s worker x ≡ Some d → (e : Event) × (due_by s worker x e ≡ d)
event_due s worker x d is = at_event x.event is
  where
    at_event : (o : Option Event) → option_map (due_by s worker x) o ≡ Some d → (e : Event) × (due_by s worker x e ≡ d)
    at_event None is = absurd (none-some d is)
    at_event (Some e) is = (e, same_Some (due_by s worker x e) d is)

module _ (s : Setup) (n : ℕ) (v : code.Judge) (j : Judge) (judge : IsJudge s n v j) where
  pub kept : IsKept s j.world j.courses j.own j.latest
  kept = reached_kept s n j judge.reached

  -- the time of each seat fits
  pub seat_fits : (worker : ℕ) (x : Seat) → slice_get v.seats.items worker ≡ Some x → 20000 + time_ahead s worker x < 2 ^ 64
  seat_fits worker x got = omega (arith, (judge.seats.each worker x got).time, end_below s)

  -- there are at most sixteen seats
  pub few_seats : length v.seats.items ≤ 16
  few_seats = omega (arith, judge.seats.count, (setup_scripts s).cpus)

  -- where no seat has come to an event, nothing is due
  pub none_due : (worker : ℕ) → option_and_then (λ x. x.event) (slice_get v.seats.items worker) ≡ None → due_at j worker ≡ None
  none_due worker none = at_seat (slice_get v.seats.items worker) refl none
    where
      no_course : length v.seats.items ≤ worker → due_at j worker ≡ None
      no_course past = at_course (slice_get j.courses worker) refl
        where
          at_course : (o : Option Course) → slice_get j.courses worker ≡ o → option_and_then (due_of (j.amount worker)) o ≡ None
          at_course None got = refl
          at_course (Some course) got = absurd (omega (arith, past, slice_get_within j.courses worker course got, judge.seats.count, kept.count))

      at_seat : (o : Option Seat) → slice_get v.seats.items worker ≡ o → option_and_then (λ (x : Seat). x.event) o ≡ None → due_at j worker ≡ None
      at_seat (Some x) got none = (judge.seats.each worker x got).due ∙ ap (option_map (due_by s worker x)) none
      at_seat None got none =
          ⊎_elim
          (λ (below : worker < length v.seats.items). absurd (missing below (first v.seats.items) refl))
          (λ (past : length v.seats.items ≤ worker). no_course past)
          (cases_lt worker (length v.seats.items))
        where
          first : List Seat → Option Seat
          first [] = None
          first (x ∷ xs) = Some x

          missing : worker < length v.seats.items → (o : Option Seat) → first v.seats.items ≡ o → ⊥
          missing below (Some x) is = none-some (get_or v.seats.items worker x) (sym got ∙ slice_get-get_or v.seats.items worker x below)
          missing below None is = empty v.seats.items is below
            where
              empty : (xs : List Seat) → first xs ≡ None → worker < length xs → ⊥
              empty [] is below = absurd (omega arith)
              empty (x ∷ xs) is below = none-some x (sym is)

-- ---- an entry whose worker's seat has come to an event

module _ (s : Setup) (n : ℕ) (v : code.Judge) (j : Judge) (judge : IsJudge s n v j) (e : Entry) (x : Seat) (due : Event) (got : slice_get v.seats.items e.worker ≡ Some x)
    (at : x.event ≡ Some due) where
  abbrev d : Due
  d = due_by s e.worker x due

  -- that event is due of the worker
  due_is : due_at j e.worker ≡ Some d
  due_is = (judge.seats.each e.worker x got).due ∙ ap (option_map (due_by s e.worker x)) at

  -- it is the fault of the entry that the definition's judge finds first
  found : (new : code.Judge) (why : Fault) → first_fault (faults_of (amount_in_all s.scripts) j d e) ≡ Some why → HasJudged s n j e new (Some why)
  found new why first = record {
    some = ap (entry_fault (amount_in_all s.scripts) j e) due_is ∙ first;
    none = λ none. absurd (none-some why (sym none));
  }

  -- another event
  pub judged_event : (new : code.Judge) (why : Fault) → event_fault due e.event ≡ Some why → HasJudged s n j e new (Some why)
  judged_event new why is =
      found new why
      (λ i. first_fault (is i ∷ hand_fault j.world e ∷ time_fault (keeps_time (amount_in_all s.scripts) j d.amount e) ∷ reply_fault (step j.world e.worker e.event e.now).1 e.reply ∷ []))

  -- a thread in another worker's hand
  pub judged_hand : (new : code.Judge) (why : Fault) → event_fault due e.event ≡ None → hand_fault j.world e ≡ Some why → HasJudged s n j e new (Some why)
  judged_hand new why same is =
      found new why
      (λ i. first_fault (same i ∷ is i ∷ time_fault (keeps_time (amount_in_all s.scripts) j d.amount e) ∷ reply_fault (step j.world e.worker e.event e.now).1 e.reply ∷ []))

  module _ (same : event_fault due e.event ≡ None) (free : hand_fault j.world e ≡ None) (ls : List ℕ) (locks : ls ≡ locks_of j.world e.event) (within : AllByRecursion (λ l. l < 25) ls)
      (kept : Bool)
      (kept_is : kept ≡ ((list_all (λ l. nat_le (slice_index_or v.latest.items l 0) e.now) ls && nat_le x.own e.now) && nat_le (20000 + x.amount) e.now && nat_le e.now v.end)) where
    -- the code's test of the time is the definition's
    time_is : keeps_time (amount_in_all s.scripts) j d.amount e ≡ kept
    time_is =
        let alike : list_all (λ l. nat_le (slice_index_or v.latest.items l 0) e.now) ls ≡ list_all (λ l. nat_le (j.latest l) e.now) ls =
        late_alike (λ l. slice_index_or v.latest.items l 0) j.latest e.now ls within (λ l below. get_or_from_slice_get v.latest.items l (j.latest l) 0 (judge.latest l below)) in
        let own : x.own ≡ j.own e.worker = (judge.seats.each e.worker x got).own in
        sym (kept_is ∙ (λ i. (alike i && nat_le (own i) e.now) && nat_le (20000 + x.amount) e.now && nat_le e.now (judge.end i)) ∙
        ap (λ (ks : List ℕ). (list_all (λ l. nat_le (j.latest l) e.now) ks && nat_le (j.own e.worker) e.now) && nat_le (20000 + x.amount) e.now && nat_le e.now (end_time s.scripts)) locks)

    -- a time that breaks the rules
    pub judged_now : (new : code.Judge) → kept ≡ false → HasJudged s n j e new (Some fault.Now)
    judged_now new late =
        found new fault.Now (λ i. first_fault (same i ∷ free i ∷ ap time_fault (time_is ∙ late) i ∷ reply_fault (step j.world e.worker e.event e.now).1 e.reply ∷ []))

    -- one that keeps them
    pub is_timely : kept ≡ true → IsTimely s j d e
    is_timely holds = record { due = due_is; event = same; free = free; kept = ap time_fault (time_is ∙ holds) }

-- ---- an entry on time

module _ (s : Setup) (n : ℕ) (v : code.Judge) (j : Judge) (judge : IsJudge s n v j) (e : Entry) (d : Due) (timely : IsTimely s j d e) where
  abbrev there : HasCourse j e.worker d
  there = has_course j e.worker d timely.due

  -- the worker has its seat
  pub seat_within : e.worker < length v.seats.items
  seat_within = omega (arith, slice_get_within j.courses e.worker there.course there.got, judge.seats.count, (kept s n v j judge).count)

  -- the event is the one that is due
  event_is : d.event ≡ e.event
  event_is = event_same d.event e.event timely.event

  -- it is ready
  ready : is_ready j.world e.worker e.event ≡ true
  ready = held_ready e.worker (option_and_then (holder_of j.world.members) (sought_by e.event)) timely.free

  -- and on time
  on_time : IsOnTime j.own j.latest j.world e.worker d.event e.now
  on_time =
      let total = amount_in_all s.scripts in
      let locks = list_all (λ l. nat_le (j.latest l) e.now) (locks_of j.world e.event) in
      let own = nat_le (j.own e.worker) e.now in
      let after = nat_le (starting_time + d.amount) e.now in
      let end = nat_le e.now (starting_time + total) in
      let three = and_parts (locks && own && after) end (time_kept (keeps_time total j d.amount e) timely.kept) in
      let two = and_parts (locks && own) after three.0 in
      let one = and_parts locks own two.0 in
      let begun : starting_time + d.amount ≤ e.now = leb-true (starting_time + d.amount) e.now two.1 in
      let ended : e.now ≤ starting_time + total = leb-true e.now (starting_time + total) three.1 in
      subst (λ x. IsOnTime j.own j.latest j.world e.worker x e.now) (sym event_is)
      (record {
        begun = omega (arith, begun);
        bounded = omega (arith, ended, end_below s);
        under = each_under j.latest e.now (locks_of j.world e.event) one.0;
        own_is = leb-true (j.own e.worker) e.now one.1;
      })

  -- it can be performed
  pub can : IsPossible j.world e.worker e.event e.now
  can =
      subst (λ x. IsPossible j.world e.worker x e.now) event_is
      (due_possible s j e.worker (kept s n v j judge) there.course there.got d there.due e.now (subst (λ x. is_ready j.world e.worker x ≡ true) (sym event_is) ready) on_time)

  -- another reply
  pub judged_reply : (new : code.Judge) (reply : Reply) (why : Fault) → reply ≡ (step j.world e.worker e.event e.now).1 → reply_fault reply e.reply ≡ Some why → HasJudged s n j e new (Some why)
  judged_reply new reply why made is = record {
    some = ap (entry_fault (amount_in_all s.scripts) j e) timely.due ∙
        (λ i. first_fault (timely.event i ∷ timely.free i ∷ timely.kept i ∷ (ap (λ r. reply_fault r e.reply) (sym made) ∙ is) i ∷ []));
    none = λ none. absurd (none-some why (sym none));
  }

  -- where the reply is the expected one
  module _ (reply : Reply) (made : reply ≡ (step j.world e.worker e.event e.now).1) (same : reply_fault reply e.reply ≡ None) where
    no_fault : first_fault (faults_of (amount_in_all s.scripts) j d e) ≡ None
    no_fault =
        first_none (event_fault d.event e.event) (hand_fault j.world e) (time_fault (keeps_time (amount_in_all s.scripts) j d.amount e)) (reply_fault (step j.world e.worker e.event e.now).1 e.reply)
        timely.event timely.free timely.kept (ap (λ r. reply_fault r e.reply) (sym made) ∙ same)

    abbrev come : Course
    come = record d.course { last = Some (e.reply, e.now) }

    abbrev after : Judge
    after = behind j d e

    kept_after : IsKept s after.world after.courses after.own after.latest
    kept_after = kept_behind s j e (kept s n v j judge) there.course there.got d there.due (faultless s j d e no_fault)

    come_there : slice_get after.courses e.worker ≡ Some come
    come_there = slice_get-set_same j.courses e.worker come (slice_get_within j.courses e.worker there.course there.got)

    -- the worker's seat before the entry
    module _ (x : Seat) (got : slice_get v.seats.items e.worker ≡ Some x) where
      is_due : (f : Event) × (due_by s e.worker x f ≡ d)
      is_due = event_due s e.worker x d (sym (judge.seats.each e.worker x got).due ∙ timely.due)

      -- its program can hear the reply
      pub hears : CanHear (Some (e.reply, e.now)) x.program
      hears = subst (λ (y : Due). CanHear (Some (e.reply, e.now)) y.course.own) (sym is_due.1) (kept_after.hears e.worker come come_there)

      -- and its time fits
      pub told_fits : time_behind s e.worker x (Some (e.reply, e.now)) < 2 ^ 64
      told_fits = omega (arith, told_time s e.worker x e.reply e.now, seat_fits s n v j judge e.worker x got)

      -- behind the entry it is the worker's seat
      own_seat : (y : Seat) → WentOn s e.worker e.reply e.now x y → IsSeat s after e.worker y
      own_seat y went = record {
        due = ap (option_and_then (due_of (after.amount e.worker))) come_there ∙ ap (λ m. due_of m come) (time_at_own e.worker d.amount j.amount) ∙
            ap (λ (z : Due). due_of z.amount (record z.course { last = Some (e.reply, e.now) })) (sym is_due.1) ∙ went.due;
        own = went.own ∙ sym (time_at_own e.worker e.now j.own);
        time = omega (arith, went.time, told_time s e.worker x e.reply e.now, (judge.seats.each e.worker x got).time);
      }

    -- the seats of the others stay
    other_seat : (w : ℕ) (x : Seat) → (w ≡ e.worker → ⊥) → slice_get v.seats.items w ≡ Some x → IsSeat s after w x
    other_seat w x other at = let was : IsSeat s j w x = judge.seats.each w x at in record {
      due = ap (option_and_then (due_of (after.amount w))) (slice_get-set_other j.courses e.worker w come other) ∙
          ap (λ m. option_and_then (due_of m) (slice_get j.courses w)) (time_at_other e.worker d.amount w j.amount (ne_eqb w e.worker other)) ∙ was.due;
      own = was.own ∙ sym (time_at_other e.worker e.now w j.own (ne_eqb w e.worker other));
      time = was.time;
    }

    -- so the code's judge is behind the entry
    pub is_behind : (new : code.Judge) (ls : List ℕ) → Shows new.world (step j.world e.worker e.event e.now).0 →
        HasHeard s e.worker e.reply e.now v.seats.items new.seats.items → new.latest.items ≡ noted_in ls e.now v.latest.items → new.end ≡ v.end → ls ≡ locks_of j.world e.event →
        AllByRecursion (λ l. l < 25) ls → HasJudged s n j e new None
    is_behind new ls shows heard latest end locks within = record {
      some = tt;
      none = λ none. record {
        due = d;
        due_is = timely.due;
        none = no_fault;
        judge = record {
          reached = goes_on n j d e judge.reached timely.due no_fault;
          world = shows;
          seats = subst (AreSeats s after) (sym heard.seats) (record {
            count = length-set v.seats.items e.worker heard.after ∙ judge.seats.count;
            each = each_after_set (IsSeat s after) v.seats.items e.worker heard.before heard.after heard.got (own_seat heard.before heard.got heard.after heard.went) other_seat;
          });
          locks = ap length latest ∙ noted_count ls e.now v.latest.items ∙ judge.locks;
          latest = λ l below. ap (λ (xs : List ℕ). slice_get xs l) latest ∙ noted_times ls e.now v.latest.items j.latest judge.locks within judge.latest l below ∙
              ap (λ (ks : List ℕ). Some (with_times ks e.now j.latest l)) locks;
          end = end ∙ judge.end;
        };
      };
    }

-- What is judged legal is a whole legal history.
use Rattle.std.proofs.Common.{◌≡◌, ℕ, ◌+◌, ◌<◌, ◌≤◌, ◌==◌, ◌&&◌, nat_le, Bool, true, false, List, [], ◌∷◌, get_or, slice_get, slice_set, Option, Some, None, if◌then◌else◌, option_and_then, refl, sym, ◌∙◌, ap, subst, ⊎_elim, arith}
use Rattle.std.specs.List.{AllByRecursion, list_all, list_any}
use Rattle.std.proofs.lemmas.Bool.{and_parts, cases_eq, cond-true, eqb-true, leb-true, ne_eqb, or_cases}
use Rattle.std.proofs.lemmas.Option.{same_Some, slice_get_within, slice_get-get_or}
use Rattle.ule_types.specs.Commands.{is_among}
use Rattle.ule_types.specs.Outcome.{OutcomeValue}
use Rattle.ule_types.specs.declared.event.Entry.{Entry}
use Rattle.ule_types.specs.declared.event.Item.TheVariants as item
use Rattle.ule_types.specs.declared.setup.Setup.{Setup}
use Rattle.ule_model.specs.Conditions.{IsPossible}
use Rattle.ule_model.specs.Ends.{outcome_of}
use Rattle.ule_model.specs.Events.{handling, holder_of, is_ready, locks_of, sought_by}
use Rattle.ule_model.specs.Finals.{thread_lines}
use Rattle.ule_model.specs.Legal.{BeginsProgram, Completes, IsEntryOf, IsInTime, IsReplayed, Locked, Performs, Timed, acts, advances, after_entry, amount_in_all, entries_of, opening_of, replayed, share, stays, with_locks}
use Rattle.ule_program.specs.Courses.{Course, next_step}
use Rattle.ule_model.specs.Rounds.{opening_courses}
use Rattle.ule_model.specs.Start.{starting_time, world_at_start}
use Rattle.ule_model.specs.Step.{step}
use Rattle.ule_members.proofs.Lists.{slice_get-set_other, slice_get-set_same}
use Rattle.ule_members.proofs.Within.{all_along}
use Rattle.ule_courses.proofs.Hands.{handled_thread}
use Rattle.ule_rounds.proofs.Plays.{opening_count, opening_is}
use Rattle.ule_check.proofs.Openings.{all_left}
use Rattle.ule_check.specs.Ending.{cpu_fault, end_fault, ending_faults, missing_from, thread_fault}
use Rattle.ule_check.specs.Judge.{Due, Judge, behind, due_of, event_fault, faults_of, first_fault, hand_fault, judge_at_start, keeps_time, reply_fault, time_fault, with_time}
use Rattle.ule_check.specs.Judged.{judged_entry, judged_from}
use Rattle.ule_check.specs.Laws.{LegalIsWhole}
use Rattle.ule_check.specs.declared.verdicts.Fault.TheVariants as fault
use Rattle.ule_check.specs.declared.verdicts.Verdict.TheVariants.{Legal}
use Rattle.ule_check.proofs.Ahead.{Ends, HasFinalLines, IsLate, of_timed, other_first, own_first}
use Rattle.ule_check.proofs.Complete.{spare}
use Rattle.ule_check.proofs.Dues.{HasEnded, IsDue, KeptByAdvances, ended_holds}
use Rattle.ule_check.proofs.Faults.{cpus_same, each_under, end_same, event_same, held_ready, illegal_none, none_missing, none_of, not_legal, reply_same, shared_lock, threads_same, time_at_other, time_at_own, time_kept}
use Rattle.ule_check.proofs.Kept.{IsKept, end_below, kept_at_start, kept_performed, left_performed, possible}
use Rattle.ule_check.proofs.NotedTimes.{IsOnTime}
use Rattle.ule_check.proofs.OnTheWay.{IsOnTheWay, found}

-- the rest of a history, from the judge who has judged its front
pub record IsRest (s : Setup) (o : OutcomeValue) (j : Judge) (es : List Entry) : Type 0 where
  pub timed : List Timed
  pub entries : of_timed timed ≡ es
  pub workers : AllByRecursion (λ e. e.worker < s.cpus) es
  pub replies : IsReplayed j.world es
  pub ends : (worker : ℕ) (course : Course) → slice_get j.courses worker ≡ Some course → Ends course (j.amount worker) (entries_of worker timed)
  pub late : AllByRecursion (IsLate j.own j.latest) (with_locks j.world es)
  pub in_order : IsInTime (with_locks j.world es)
  pub after_own : AllByRecursion (λ x. starting_time + x.amount ≤ x.entry.now) timed
  pub by_the_end : AllByRecursion (λ x. x.entry.now ≤ starting_time + amount_in_all s.scripts) timed
  pub lines : HasFinalLines s o (replayed j.world es)

-- ---- the end

-- a worker that comes to a course by time alone makes what it makes from there
abbrev MakesAll : Course → ℕ → Course → ℕ → Type 0
MakesAll course amount to passed = (es : List Timed) (end : Course) (total : ℕ) → Performs to passed es end total → Performs course amount es end total

-- a worker that makes no entry more
ends_none : (course : Course) (amount : ℕ) → due_of amount course ≡ None → Ends course amount []
ends_none course amount none =
    let ended : HasEnded (MakesAll course amount) = ended_holds (MakesAll course amount) kept course amount (λ es end total performs. performs) none in
    record { end = ended.course; total = ended.amount; performs = ended.holds [] ended.course ended.amount (stays ended.course ended.amount); finished = ended.none }
  where
    kept : KeptByAdvances (MakesAll course amount)
    kept to after k passed next holds = λ es end total performs. holds es end total (advances to after end passed k total es next performs)

-- where the end has no fault, nothing more comes
rest_none : (s : Setup) (o : OutcomeValue) (j : Judge) → first_fault (ending_faults (amount_in_all s.scripts) o j) ≡ None → IsRest s o j []
unfolding IsReplayed IsInTime with_locks replayed
rest_none s o j none =
    let faults = none_of (missing_from j.amount 0 j.courses) (thread_fault (thread_lines j.world.members) o.threads) (cpu_fault 0 j.world.lines o.cpus)
    (end_fault (starting_time + amount_in_all s.scripts) o.now) none in
    record {
      timed = [];
      entries = refl;
      workers = tt;
      replies = tt;
      ends = λ worker course got.
          let e : 0 + worker ≡ worker = omega arith in
          ends_none course (j.amount worker) (subst (λ m. due_of (j.amount m) course ≡ None) e (none_missing j.amount 0 j.courses faults.0 worker course got));
      late = tt;
      in_order = tt;
      after_own = tt;
      by_the_end = tt;
      lines = record {
        threads = threads_same (thread_lines j.world.members) o.threads faults.1;
        cpus = cpus_same 0 j.world.lines o.cpus faults.2;
        end = end_same (starting_time + amount_in_all s.scripts) o.now faults.3;
      };
    }

-- ---- an entry

-- what is known of an entry in which the judge finds no fault
pub record IsFaultless (s : Setup) (j : Judge) (d : Due) (e : Entry) : Type 0 where
  pub event : d.event ≡ e.event
  pub ready : is_ready j.world e.worker e.event ≡ true
  pub under : (l : ℕ) → is_among (locks_of j.world e.event) l ≡ true → j.latest l ≤ e.now
  pub own_is : j.own e.worker ≤ e.now
  pub after_own : starting_time + d.amount ≤ e.now
  pub by_the_end : e.now ≤ starting_time + amount_in_all s.scripts
  pub reply : (step j.world e.worker e.event e.now).1 ≡ e.reply

-- an entry without a fault is so
pub faultless : (s : Setup) (j : Judge) (d : Due) (e : Entry) → first_fault (faults_of (amount_in_all s.scripts) j d e) ≡ None → IsFaultless s j d e
faultless s j d e none =
    let total = amount_in_all s.scripts in
    let faults = none_of (event_fault d.event e.event) (hand_fault j.world e) (time_fault (keeps_time total j d.amount e)) (reply_fault (step j.world e.worker e.event e.now).1 e.reply) none in
    let locks = list_all (λ l. nat_le (j.latest l) e.now) (locks_of j.world e.event) in
    let own = nat_le (j.own e.worker) e.now in
    let after = nat_le (starting_time + d.amount) e.now in
    let end = nat_le e.now (starting_time + total) in
    let three = and_parts (locks && own && after) end (time_kept (keeps_time total j d.amount e) faults.2) in
    let two = and_parts (locks && own) after three.0 in
    let one = and_parts locks own two.0 in
    record {
      event = event_same d.event e.event faults.0;
      ready = held_ready e.worker (option_and_then (holder_of j.world.members) (sought_by e.event)) faults.1;
      under = each_under j.latest e.now (locks_of j.world e.event) one.0;
      own_is = leb-true (j.own e.worker) e.now one.1;
      after_own = leb-true (starting_time + d.amount) e.now two.1;
      by_the_end = leb-true e.now (starting_time + total) three.1;
      reply = reply_same (step j.world e.worker e.event e.now).1 e.reply faults.3;
    }

module _ (s : Setup) (j : Judge) (e : Entry) (kept : IsKept s j.world j.courses j.own j.latest)
    (course : Course) (got : slice_get j.courses e.worker ≡ Some course) (d : Due) (due : due_of (j.amount e.worker) course ≡ Some d) (fine : IsFaultless s j d e) where
  abbrev w : ℕ
  w = e.worker

  abbrev way : IsDue (IsOnTheWay s j w kept course got d due) d
  way = found s j w kept course got d due

  -- where the entry's event is found
  step_is : next_step way.course ≡ Some (item.Event e.event, d.course)
  step_is = subst (λ x. next_step way.course ≡ Some (item.Event x, d.course)) fine.event way.next

  -- the entry is on time
  on_time : IsOnTime j.own j.latest j.world w e.event e.now
  on_time = record {
    begun = omega (arith, fine.after_own);
    bounded = omega (arith, fine.by_the_end, end_below s);
    under = fine.under;
    own_is = fine.own_is;
  }

  -- so it is possible
  can : IsPossible j.world w e.event e.now
  can = possible s j.world way.holds.courses j.own j.latest w e.event way.course d.course way.holds.is_kept way.holds.there step_is e.now fine.ready on_time

  -- the judge who went on
  pub kept_behind : IsKept s (behind j d e).world (behind j d e).courses (behind j d e).own (behind j d e).latest
  kept_behind =
      subst (λ (cs : List Course). IsKept s (behind j d e).world cs (behind j d e).own (behind j d e).latest)
      (way.holds.set_same (record d.course { last = Some ((step j.world w e.event e.now).1, e.now) }) ∙ ap (λ r. slice_set j.courses w (record d.course { last = Some (r, e.now) })) fine.reply)
      (kept_performed s j.world way.holds.courses j.own j.latest w e.event way.course d.course way.holds.is_kept way.holds.there step_is e.now fine.ready on_time)

  -- with fewer items left
  pub left_behind : all_left s.cpus (behind j d e).courses + 1 ≤ all_left s.cpus j.courses
  left_behind =
      let fewer =
      left_performed s j.world way.holds.courses j.own j.latest w e.event way.course d.course way.holds.is_kept way.holds.there step_is e.now fine.ready on_time in
      let same : all_left s.cpus (slice_set way.holds.courses w (record d.course { last = Some ((step j.world w e.event e.now).1, e.now) })) ≡ all_left s.cpus (behind j d e).courses =
      ap (all_left s.cpus)
      (way.holds.set_same (record d.course { last = Some ((step j.world w e.event e.now).1, e.now) }) ∙ ap (λ r. slice_set j.courses w (record d.course { last = Some (r, e.now) })) fine.reply) in
      omega (arith, fewer, same, way.holds.left)

  abbrev x : Timed
  x = record { entry = e; amount = d.amount }

  -- where its worker stands behind it
  abbrev come : Course
  come = record d.course { last = Some (e.reply, e.now) }

  module _ (o : OutcomeValue) (es : List Entry) (rest : IsRest s o (behind j d e) es) where
    ends_on : (v : ℕ) (c : Course) → slice_get j.courses v ≡ Some c → Ends c (j.amount v) (entries_of v (x ∷ rest.timed))
    ends_on v c at =
        ⊎_elim
        (λ (same : v ≡ w). subst (λ u. Ends c (j.amount u) (entries_of u (x ∷ rest.timed))) (sym same)
        (subst (λ z. Ends z (j.amount w) (entries_of w (x ∷ rest.timed))) (same_Some course c (sym got ∙ subst (λ u. slice_get j.courses u ≡ Some c) same at)) mine))
        (λ (other : v ≡ w → ⊥).
        subst (Ends c (j.amount v)) (sym (other_first v x rest.timed other))
        (subst (λ n. Ends c n (entries_of v rest.timed)) (time_at_other w d.amount v j.amount (ne_eqb v w other))
        (rest.ends v c (slice_get-set_other j.courses w v come other ∙ at))))
        (cases_eq v w)
      where
        last : Ends come d.amount (entries_of w rest.timed)
        last = subst (λ n. Ends come n (entries_of w rest.timed)) (time_at_own w d.amount j.amount)
            (rest.ends w come (slice_get-set_same j.courses w come (slice_get_within j.courses w course got)))

        mine : Ends course (j.amount w) (entries_of w (x ∷ rest.timed))
        mine = subst (Ends course (j.amount w)) (sym (own_first w x rest.timed refl)) (record {
          end = last.end;
          total = last.total;
          performs = way.holds.performs (x ∷ entries_of w rest.timed) last.end last.total
              (acts way.course d.course last.end d.amount last.total e (entries_of w rest.timed) step_is last.performs);
          finished = last.finished;
        })

    abbrev here : Locked
    here = record { entry = e; locks = locks_of j.world e.event }

    -- an entry that is late for the judge who went on
    shares_late : (z : Locked) → IsLate (behind j d e).own (behind j d e).latest z → share here z ≡ true → e.now ≤ z.entry.now
    shares_late z late shares =
        ⊎_elim
        (λ (own : (w == z.entry.worker) ≡ true).
        let same : w ≡ z.entry.worker = eqb-true w z.entry.worker own in
        subst (λ t. t ≤ z.entry.now) (ap (with_time w e.now j.own) (sym same) ∙ time_at_own w e.now j.own) late.own_is)
        (λ (locks : list_any (λ l. is_among z.locks l) here.locks ≡ true).
        let both = shared_lock here.locks z.locks locks in
        subst (λ t. t ≤ z.entry.now) (cond-true (is_among here.locks both.0) e.now (j.latest both.0) both.1) (late.under both.0 both.2))
        (or_cases (w == z.entry.worker) (list_any (λ l. is_among z.locks l) here.locks) shares)

    was_late : (z : Locked) → IsLate (behind j d e).own (behind j d e).latest z → IsLate j.own j.latest z
    was_late z late = record {
      under = λ l among. earlier (is_among here.locks l) refl (j.latest l) e.now z.entry.now (λ is. fine.under l is) (late.under l among);
      own_is = earlier (z.entry.worker == w) refl (j.own z.entry.worker) e.now z.entry.now (λ is. subst (λ v. j.own v ≤ e.now) (sym (eqb-true z.entry.worker w is)) fine.own_is) late.own_is;
    }
      where
        earlier : (b : Bool) {c : Bool} → c ≡ b → (old now by : ℕ) → (b ≡ true → old ≤ now) → (if b then now else old) ≤ by → old ≤ by
        earlier true is old now by past after = omega (arith, past refl)
        earlier false is old now by past after = after

    can_make : IsEntryOf j.world e
    can_make = record { ready = fine.ready; thread = handled_thread j.world w (handling e.event) can.hand; reply = sym fine.reply }

    pub rest_more : IsRest s o j (e ∷ es)
    unfolding IsReplayed IsInTime with_locks replayed
    rest_more = record {
      timed = x ∷ rest.timed;
      entries = ap (λ ys. e ∷ ys) rest.entries;
      workers = (subst (λ n. w < n) kept.count (slice_get_within j.courses w course got), rest.workers);
      replies = (can_make, rest.replies);
      ends = ends_on;
      late = (
        record { under = fine.under; own_is = fine.own_is },
        all_along (IsLate (behind j d e).own (behind j d e).latest) (IsLate j.own j.latest) (with_locks (after_entry j.world e) es) was_late rest.late,
      );
      in_order = (
        all_along (IsLate (behind j d e).own (behind j d e).latest) (λ z. share here z ≡ true → e.now ≤ z.entry.now) (with_locks (after_entry j.world e) es)
            shares_late rest.late,
        rest.in_order,
      );
      after_own = (fine.after_own, rest.after_own);
      by_the_end = (fine.by_the_end, rest.by_the_end);
      lines = rest.lines;
    }

-- ---- the history

-- where the verdict from a judge on is legal, the rest of a history follows
pub sound_from : (s : Setup) (o : OutcomeValue) (es : List Entry) (k : ℕ) (j : Judge) → IsKept s j.world j.courses j.own j.latest →
    judged_from (amount_in_all s.scripts) o k j es ≡ Legal → IsRest s o j es
unfolding judged_from
sound_from s o [] k j kept legal = rest_none s o j (illegal_none k (first_fault (ending_faults (amount_in_all s.scripts) o j)) Legal legal).0
sound_from s o (e ∷ es) k j kept legal = at_course (slice_get j.courses e.worker) refl legal (λ after. sound_from s o es (k + 1) after)
  where
    at_due : (course : Course) → slice_get j.courses e.worker ≡ Some course → (due : Option Due) → due_of (j.amount e.worker) course ≡ due →
        judged_entry (amount_in_all s.scripts) k j e due (λ after. judged_from (amount_in_all s.scripts) o (k + 1) after es) ≡ Legal →
        ((after : Judge) → IsKept s after.world after.courses after.own after.latest → judged_from (amount_in_all s.scripts) o (k + 1) after es ≡ Legal → IsRest s o after es) → IsRest s o j (e ∷ es)
    at_due course got None is verdict rest = absurd (not_legal k fault.Worker verdict)
    at_due course got (Some d) is verdict rest =
        let both = illegal_none k (first_fault (faults_of (amount_in_all s.scripts) j d e)) (judged_from (amount_in_all s.scripts) o (k + 1) (behind j d e) es) verdict in
        let fine = faultless s j d e both.0 in
        rest_more s j e kept course got d is fine o es (rest (behind j d e) (kept_behind s j e kept course got d is fine) both.1)

    at_course : (at : Option Course) → slice_get j.courses e.worker ≡ at →
        judged_entry (amount_in_all s.scripts) k j e (option_and_then (due_of (j.amount e.worker)) at) (λ after. judged_from (amount_in_all s.scripts) o (k + 1) after es) ≡ Legal →
        ((after : Judge) → IsKept s after.world after.courses after.own after.latest → judged_from (amount_in_all s.scripts) o (k + 1) after es ≡ Legal → IsRest s o after es) → IsRest s o j (e ∷ es)
    at_course None got verdict rest = absurd (not_legal k fault.Worker verdict)
    at_course (Some course) got verdict rest = at_due course got (due_of (j.amount e.worker) course) refl verdict rest

-- ---- the law

-- a worker of the setup makes just its entries of the rest from the start
end_of : (s : Setup) (o : OutcomeValue) (rest : IsRest s o (judge_at_start s) o.entries) (worker : ℕ) → worker < s.cpus → Ends (opening_of s s.scripts worker) 0 (entries_of worker rest.timed)
end_of s o rest worker below =
    let course = get_or (opening_courses s) worker (spare s) in
    let got : slice_get (opening_courses s) worker ≡ Some course = slice_get-get_or (opening_courses s) worker (spare s) (subst (λ n. worker < n) (sym (opening_count s)) below) in
    subst (λ c. Ends c 0 (entries_of worker rest.timed)) (sym (opening_is s worker course got)) (rest.ends worker course got)

-- so its entries are the first of its program
begun : (s : Setup) (o : OutcomeValue) (rest : IsRest s o (judge_at_start s) o.entries) (worker : ℕ) → worker < s.cpus → BeginsProgram s s.scripts rest.timed worker
begun s o rest worker below = let at = end_of s o rest worker below in record { end = at.end; total = at.total; performs = at.performs }

-- and all of them
finished : (s : Setup) (o : OutcomeValue) (rest : IsRest s o (judge_at_start s) o.entries) (worker : ℕ) → worker < s.cpus → Completes s s.scripts rest.timed worker
finished s o rest worker below =
    let at = end_of s o rest worker below in record { begins = record { end = at.end; total = at.total; performs = at.performs }; finished = at.finished }

-- the final lines are those of the end
lines_are : (s : Setup) (o : OutcomeValue) → HasFinalLines s o (replayed (world_at_start s) o.entries) → record o { room = 0 } ≡ outcome_of s s.scripts o.entries
lines_are s o lines = sym (λ i. record { entries = o.entries; threads = lines.threads i; cpus = lines.cpus i; now = lines.end i; room = 0 })

-- what is judged legal is a whole legal history
pub legal_is_whole : LegalIsWhole
legal_is_whole s o legal =
    let rest : IsRest s o (judge_at_start s) o.entries = sound_from s o o.entries 1 (judge_at_start s) (kept_at_start s) legal in
    record {
      legal = record {
        timed = rest.timed;
        entries = rest.entries;
        workers = rest.workers;
        replies = rest.replies;
        programs = begun s o rest;
        times = record {
          in_order = subst (λ es. IsInTime (with_locks (world_at_start s) es)) (sym rest.entries) rest.in_order;
          after_own = rest.after_own;
          by_the_end = rest.by_the_end;
        };
      };
      whole = record { timed = rest.timed; entries = rest.entries; programs = finished s o rest };
      lines = lines_are s o rest.lines;
    }

-- A whole legal history is judged legal.
use Rattle.std.proofs.Common.{◌≡◌, ℕ, ◌+◌, ◌<◌, ◌≤◌, ◌==◌, ◌&&◌, nat_le, Bool, true, false, List, [], ◌∷◌, get_or, length, slice_get, Option, Some, None, option_and_then, refl, sym, ◌∙◌, ap, subst, arith}
use Rattle.std.specs.List.{AllByRecursion, list_all, list_any}
use Rattle.std.proofs.lemmas.Bool.{eq-eqb, eqb-true, false≢true, le-leb, ne_eqb, or_left, or_right}
use Rattle.std.proofs.lemmas.List.{length-set}
use Rattle.std.proofs.lemmas.Option.{same_Some, slice_get-get_or}
use Rattle.ule_types.specs.Commands.{is_among}
use Rattle.ule_types.specs.Outcome.{OutcomeValue}
use Rattle.ule_types.specs.declared.event.Entry.{Entry}
use Rattle.ule_types.specs.declared.setup.Setup.{Setup}
use Rattle.ule_model.specs.Events.{holder_of, locks_of, sought_by}
use Rattle.ule_model.specs.Finals.{thread_lines}
use Rattle.ule_model.specs.Legal.{IsEntryOf, IsInTime, IsReplayed, Locked, Timed, after_entry, amount_in_all, entries_of, opening_of, replayed, share, with_locks}
use Rattle.ule_program.specs.Courses.{Course}
use Rattle.ule_model.specs.Start.{starting_time}
use Rattle.ule_model.specs.Step.{step}
use Rattle.ule_members.proofs.Within.{all_both}
use Rattle.ule_check.proofs.Openings.{each_after_set}
use Rattle.ule_check.specs.Ending.{cpu_fault, ending_faults, thread_fault}
use Rattle.ule_check.specs.Judge.{Due, Judge, behind, due_at, due_of, faults_of, first_fault, keeps_time}
use Rattle.ule_check.specs.Judged.{illegal_or, judged_entry, judged_from}
use Rattle.ule_check.specs.declared.verdicts.Verdict.TheVariants.{Legal}
use Rattle.ule_check.proofs.Ahead.{Begins, Ends, HasFinalLines, IsAhead, IsLate, of_timed, other_first, own_first}
use Rattle.ule_check.proofs.Dues.{HasFirst, performs_first}
use Rattle.ule_check.proofs.Faults.{all_under, both_among, cpus_none, end_none, event_none, first_none, held_none, missing_none, reply_none, threads_none, time_at_own, time_at_other, time_by, time_none, times_by}
use Rattle.ule_check.proofs.SameLaws.{and-both}

-- a course to look up with
abbrev pub spare : Setup → Course
spare s = opening_of s [] 0

-- ---- the end

-- where nothing more comes, there is no fault
ended : (s : Setup) (o : OutcomeValue) (j : Judge) → IsAhead s j [] [] → HasFinalLines s o j.world → first_fault (ending_faults (amount_in_all s.scripts) o j) ≡ None
ended s o j ahead lines =
    first_none _ _ _ _ (missing_none j.amount 0 j.courses none)
    (subst (λ xs. thread_fault (thread_lines j.world.members) xs ≡ None) lines.threads (threads_none (thread_lines j.world.members)))
    (subst (λ xs. cpu_fault 0 j.world.lines xs ≡ None) lines.cpus (cpus_none 0 j.world.lines))
    (end_none (starting_time + amount_in_all s.scripts) o.now lines.end)
  where
    none : (worker : ℕ) (course : Course) → slice_get j.courses worker ≡ Some course → due_of (j.amount (0 + worker)) course ≡ None
    none worker course got =
        let e : worker ≡ 0 + worker = omega arith in
        let at = ahead.ends worker course got in
        subst (λ m. due_of (j.amount m) course ≡ None) e (performs_first course at.end (j.amount worker) at.total [] at.performs at.finished)

-- four tests that hold do so together
pub and_all : (a b c d : Bool) → a ≡ true → b ≡ true → c ≡ true → d ≡ true → (a && b && c && d) ≡ true
and_all a b c d p q r t = and-both (a && b && c) d (and-both (a && b) c (and-both a b p q) r) t

-- ---- an entry

-- the first of two lists that are the same, and the rest
heads : (x y : Entry) (xs ys : List Entry) → x ∷ xs ≡ y ∷ ys → x ≡ y
heads x y xs ys same = ap first same
  where
    first : List Entry → Entry
    first [] = x
    first (z ∷ zs) = z

-- and so are their rests
tails : (x y : Entry) (xs ys : List Entry) → x ∷ xs ≡ y ∷ ys → xs ≡ ys
tails x y xs ys same = ap rest same
  where
    rest : List Entry → List Entry
    rest [] = []
    rest (z ∷ zs) = zs

-- a list with an entry is not the empty one
not_nil : (x : Entry) (xs : List Entry) → x ∷ xs ≡ [] → ⊥
not_nil x xs same = false≢true (ap is_nil same)
  where
    is_nil : List Entry → Bool
    is_nil [] = true
    is_nil (z ∷ zs) = false

module _ (s : Setup) (j : Judge) (x y : Timed) (xs ys : List Timed) (count : length j.courses ≡ s.cpus) (ahead : IsAhead s j (x ∷ xs) (y ∷ ys)) where
  abbrev w : ℕ
  w = x.entry.worker

  -- the course of the next entry's worker
  abbrev course : Course
  course = get_or j.courses w (spare s)

  got : slice_get j.courses w ≡ Some course
  got = slice_get-get_or j.courses w (spare s) (subst (λ n. w < n) (sym count) ahead.workers.0)

  -- the two lists begin with one entry
  same : y.entry ≡ x.entry
  same = heads y.entry x.entry (of_timed ys) (of_timed xs) ahead.entries

  -- the entry is its worker's next event, by the list's front
  begins : Begins course (j.amount w) (x ∷ entries_of w xs)
  begins = subst (Begins course (j.amount w)) (own_first w x xs refl) (ahead.begins w course got)

  -- so it is due by the list's front
  first : HasFirst course (j.amount w) x (entries_of w xs) begins.end begins.total
  first = performs_first course begins.end (j.amount w) begins.total (x ∷ entries_of w xs) begins.performs

  abbrev due : Due
  due = record { event = x.entry.event; course = first.after; amount = x.amount }

  due_is_first : due_at j w ≡ Some due
  due_is_first = ap (option_and_then (due_of (j.amount w))) got ∙ first.due

  -- and by the whole list
  ends : Ends course (j.amount w) (y ∷ entries_of w ys)
  ends = subst (Ends course (j.amount w)) (own_first w y ys (ap (λ (e : Entry). e.worker) same)) (ahead.ends w course got)

  -- and due by the whole list
  second : HasFirst course (j.amount w) y (entries_of w ys) ends.end ends.total
  second = performs_first course ends.end (j.amount w) ends.total (y ∷ entries_of w ys) ends.performs

  -- the two give one event, and the same course behind it
  abbrev second_due : Due
  second_due = record { event = y.entry.event; course = second.after; amount = y.amount }

  dues : second_due ≡ due
  dues = same_Some second_due due (sym second.due ∙ first.due)

  -- where the worker stands behind the entry
  abbrev reached : Course
  reached = record first.after { last = Some (x.entry.reply, x.entry.now) }

  abbrev second_reached : Course
  second_reached = record second.after { last = Some (y.entry.reply, y.entry.now) }

  reached_same : second_reached ≡ reached
  reached_same = (λ i. record (dues i).course { last = Some ((same i).reply, (same i).now) })

  -- the judge behind the entry
  abbrev next : Judge
  next = behind j due x.entry

  -- the world can make the entry, and those behind it
  entry_can : IsEntryOf j.world x.entry × IsReplayed (after_entry j.world x.entry) (of_timed xs)
  unfolding IsReplayed
  entry_can = ahead.replies

  -- the entry is late enough, and so are those behind it
  head_late : IsLate j.own j.latest (record { entry = x.entry; locks = locks_of j.world x.entry.event }) ×
      AllByRecursion (IsLate j.own j.latest) (with_locks (after_entry j.world x.entry) (of_timed xs))
  unfolding with_locks
  head_late = ahead.late

  -- the entry with its locks
  abbrev here : Locked
  here = record { entry = x.entry; locks = locks_of j.world x.entry.event }

  -- those behind it that share a lock or the worker with it are no earlier
  ordered : AllByRecursion (λ z. share here z ≡ true → x.entry.now ≤ z.entry.now) (with_locks (after_entry j.world x.entry) (of_timed xs)) ×
      IsInTime (with_locks (after_entry j.world x.entry) (of_timed xs))
  unfolding with_locks IsInTime
  ordered = ahead.in_order

  -- an entry behind this one is late enough for the judge who went on
  still_late : (z : Locked) → IsLate j.own j.latest z → (share here z ≡ true → x.entry.now ≤ z.entry.now) → IsLate next.own next.latest z
  still_late z late after = record {
    under = λ l among. times_by here.locks x.entry.now l z.entry.now j.latest
        (λ taken. after (or_right (w == z.entry.worker) (list_any (λ k. is_among z.locks k) here.locks) (both_among here.locks z.locks l taken among))) (late.under l among);
    own_is = time_by w x.entry.now z.entry.worker z.entry.now j.own
        (λ own. after (or_left (w == z.entry.worker) (list_any (λ k. is_among z.locks k) here.locks) (turned own))) late.own_is;
  }
    where
      turned : (z.entry.worker == w) ≡ true → (w == z.entry.worker) ≡ true
      turned own = eq-eqb w z.entry.worker (sym (eqb-true z.entry.worker w own))

  -- what the other lists have added stays
  amount_other : (v : ℕ) → (v ≡ w → ⊥) → next.amount v ≡ j.amount v
  amount_other v other = time_at_other w x.amount v j.amount (ne_eqb v w other)

  -- the rest is still to come behind the entry
  ahead_next : IsAhead s next xs ys
  ahead_next = record {
    entries = tails y.entry x.entry (of_timed ys) (of_timed xs) ahead.entries;
    workers = ahead.workers.1;
    replies = entry_can.1;
    begins = each_after_set (λ v c. Begins c (next.amount v) (entries_of v xs)) j.courses w course reached got
        (subst (λ n. Begins reached n (entries_of w xs)) (sym (time_at_own w x.amount j.amount)) (record { end = begins.end; total = begins.total; performs = first.rest }))
        (λ v c other found. subst (λ n. Begins c n (entries_of v xs)) (sym (amount_other v other)) (subst (Begins c (j.amount v)) (other_first v x xs other) (ahead.begins v c found)));
    ends = each_after_set (λ v c. Ends c (next.amount v) (entries_of v ys)) j.courses w course reached got
        (subst (λ n. Ends reached n (entries_of w ys)) (sym (time_at_own w x.amount j.amount)) mine)
        (λ v c other found. subst (λ n. Ends c n (entries_of v ys)) (sym (amount_other v other))
        (subst (Ends c (j.amount v)) (other_first v y ys (λ e. other (e ∙ ap (λ (z : Entry). z.worker) same))) (ahead.ends v c found)));
    late = all_both (IsLate j.own j.latest) (λ z. share here z ≡ true → x.entry.now ≤ z.entry.now) (IsLate next.own next.latest) (with_locks (after_entry j.world x.entry) (of_timed xs))
        still_late head_late.1 ordered.0;
    in_order = ordered.1;
    after_own = ahead.after_own.1;
    by_the_end = ahead.by_the_end.1;
  }
    where
      mine : Ends reached x.amount (entries_of w ys)
      mine = subst (λ c. Ends c x.amount (entries_of w ys)) reached_same
          (subst (λ n. Ends second_reached n (entries_of w ys)) (ap (λ (d : Due). d.amount) dues)
          (record { end = ends.end; total = ends.total; performs = second.rest; finished = ends.finished }))

  -- the entry has no fault
  no_fault : first_fault (faults_of (amount_in_all s.scripts) j due x.entry) ≡ None
  no_fault =
      first_none _ _ _ _ (event_none x.entry.event)
      (held_none w (option_and_then (holder_of j.world.members) (sought_by x.entry.event)) entry_can.0.ready)
      (time_none (keeps_time (amount_in_all s.scripts) j x.amount x.entry)
      (and_all (list_all (λ l. nat_le (j.latest l) x.entry.now) (locks_of j.world x.entry.event)) (nat_le (j.own w) x.entry.now) (nat_le (starting_time + x.amount) x.entry.now)
      (nat_le x.entry.now (starting_time + amount_in_all s.scripts))
      (all_under j.latest x.entry.now (locks_of j.world x.entry.event) head_late.0.under)
      (le-leb (j.own w) x.entry.now head_late.0.own_is)
      (le-leb (starting_time + x.amount) x.entry.now ahead.after_own.0)
      (le-leb x.entry.now (starting_time + amount_in_all s.scripts) ahead.by_the_end.0)))
      (reply_none (step j.world w x.entry.event x.entry.now).1 x.entry.reply entry_can.0.reply)

  -- what is known of one entry
  pub record IsJudged : Type 0 where
    pub due_one : Due
    pub due_is : due_at j w ≡ Some due_one
    pub none : first_fault (faults_of (amount_in_all s.scripts) j due_one x.entry) ≡ None
    pub ahead_is : IsAhead s (behind j due_one x.entry) xs ys
    pub count_is : length (behind j due_one x.entry).courses ≡ s.cpus

  -- so it is judged
  pub is_judged : IsJudged
  is_judged = record { due_one = due; due_is = due_is_first; none = no_fault; ahead_is = ahead_next; count_is = length-set j.courses w reached ∙ count }

-- ---- the history

-- what is still to come of a whole legal history is judged legal
pub complete_from : (s : Setup) (o : OutcomeValue) (k : ℕ) (j : Judge) (timed whole : List Timed) → length j.courses ≡ s.cpus → IsAhead s j timed whole →
    HasFinalLines s o (replayed j.world (of_timed timed)) → judged_from (amount_in_all s.scripts) o k j (of_timed timed) ≡ Legal
unfolding judged_from replayed
complete_from s o k j [] [] count ahead lines = ap (λ f. illegal_or k f Legal) (ended s o j ahead lines)
complete_from s o k j [] (y ∷ ys) count ahead lines = absurd (not_nil y.entry (of_timed ys) ahead.entries)
complete_from s o k j (x ∷ xs) [] count ahead lines = absurd (not_nil x.entry (of_timed xs) (sym ahead.entries))
complete_from s o k j (x ∷ xs) (y ∷ ys) count ahead lines =
    let one = is_judged s j x y xs ys count ahead in
    ap (λ (d : Option Due). judged_entry (amount_in_all s.scripts) k j x.entry d (λ after. judged_from (amount_in_all s.scripts) o (k + 1) after (of_timed xs))) one.due_is ∙
    ap (λ f. illegal_or k f (judged_from (amount_in_all s.scripts) o (k + 1) (behind j one.due_one x.entry) (of_timed xs))) one.none ∙
    complete_from s o (k + 1) (behind j one.due_one x.entry) xs ys one.count_is one.ahead_is lines

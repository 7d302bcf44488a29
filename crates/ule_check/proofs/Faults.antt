-- When there is no fault: one by one, and of some the first.
use Rattle.std.proofs.Common.{◌≡◌, ℕ, zero, suc, ◌+◌, ◌≤◌, ◌==◌, min, nat_le, is_some, Bool, true, false, List, [], ◌∷◌, Option, Some, None, if◌then◌else◌, slice_get, refl, sym, ◌∙◌, ap, subst, ⊎_elim, arith}
use Rattle.std.specs.List.{list_all, list_any}
use Rattle.std.proofs.lemmas.Bool.{and_parts, cond-true, cond-false, eq-eqb, eqb-true, false≢true, leb-true, le-leb, or_cases, or_left, or_right}
use Rattle.std.proofs.lemmas.Option.{none-some, same_Some}
use Rattle.ule_score.specs.declared.record.CpuLine.{CpuLine}
use Rattle.ule_types.specs.Commands.{is_among}
use Rattle.ule_types.specs.declared.event.Event.{Event}
use Rattle.ule_types.specs.declared.event.Reply.{Reply}
use Rattle.ule_types.specs.declared.outcome.ThreadLine.{ThreadLine}
use Rattle.ule_model.specs.Events.{is_no_others}
use Rattle.ule_program.specs.Courses.{Course}
use Rattle.ule_check.specs.Ending.{cpu_fault, end_fault, missing_from, thread_fault}
use Rattle.ule_check.specs.Judge.{Due, due_of, event_fault, first_fault, held_fault, reply_fault, time_fault, with_time, with_times}
use Rattle.ule_check.specs.Judged.{illegal_or}
use Rattle.ule_check.specs.Same.{is_same_cpu_line, is_same_event, is_same_thread_line, is_same_reply}
use Rattle.ule_check.specs.declared.verdicts.Fault.{Fault}
use Rattle.ule_check.specs.declared.verdicts.Fault.TheVariants as fault
use Rattle.ule_check.specs.declared.verdicts.FinalName.TheVariants as name
use Rattle.ule_check.specs.declared.verdicts.Verdict.{Verdict}
use Rattle.ule_check.specs.declared.verdicts.Verdict.TheVariants.{Legal, Illegal}
use Rattle.ule_check.proofs.SameLaws.{and-both, cpu_line_itself, event_itself, line_itself, reply_itself, same_cpu_line, same_event, same_line, same_reply}

-- ---- verdicts

-- whether a verdict is legal
abbrev is_legal : Verdict → Bool
is_legal Legal = true
is_legal (Illegal k why) = false

-- a fault is not legal
pub not_legal : (k : ℕ) (why : Fault) → Illegal k why ≡ Legal → ⊥
not_legal k why is = false≢true (ap is_legal is)

-- where the verdict is legal there is no fault, and the rest is legal
pub illegal_none : (k : ℕ) (o : Option Fault) (rest : Verdict) → illegal_or k o rest ≡ Legal → (o ≡ None) × (rest ≡ Legal)
illegal_none k None rest is = (refl, is)
illegal_none k (Some why) rest is = absurd (not_legal k why is)

-- ---- four faults

-- of four that are none the first is none
pub first_none : (a b c d : Option Fault) → a ≡ None → b ≡ None → c ≡ None → d ≡ None → first_fault (a ∷ b ∷ c ∷ d ∷ []) ≡ None
first_none a b c d p q r t = (λ i. first_fault (p i ∷ q i ∷ r i ∷ t i ∷ []))

-- where the first of four is none, all are
pub none_of : (a b c d : Option Fault) → first_fault (a ∷ b ∷ c ∷ d ∷ []) ≡ None → (a ≡ None) × (b ≡ None) × (c ≡ None) × (d ≡ None)
none_of None None None None is = (refl, refl, refl, refl)
none_of None None None (Some x) is = absurd (none-some x (sym is))
none_of None None (Some x) d is = absurd (none-some x (sym is))
none_of None (Some x) c d is = absurd (none-some x (sym is))
none_of (Some x) b c d is = absurd (none-some x (sym is))

-- ---- tests

-- a test that gives no fault holds
passes : (b : Bool) (x : Fault) → (if b then None else Some x) ≡ None → b ≡ true
passes true x is = refl
passes false x is = absurd (none-some x (sym is))

-- a test that holds gives no fault
passed : (b : Bool) (x : Fault) → b ≡ true → (if b then None else Some x) ≡ None
passed b x is = cond-true b None (Some x) is

-- where there is no fault of the event, it is the one that is due
pub event_same : (due found : Event) → event_fault due found ≡ None → due ≡ found
event_same due found is = same_event due found (passes (is_same_event due found) (fault.Event due) is)

-- the event that is due has no fault
pub event_none : (e : Event) → event_fault e e ≡ None
event_none e = passed (is_same_event e e) (fault.Event e) (event_itself e)

-- where there is no fault of the reply, it is the expected one
pub reply_same : (expected found : Reply) → reply_fault expected found ≡ None → expected ≡ found
reply_same expected found is = same_reply expected found (passes (is_same_reply expected found) (fault.Reply expected found) is)

-- the expected reply has no fault
pub reply_none : (expected found : Reply) → found ≡ expected → reply_fault expected found ≡ None
reply_none expected found is = passed (is_same_reply expected found) (fault.Reply expected found) (subst (λ r. is_same_reply expected r ≡ true) (sym is) (reply_itself expected))

-- where there is no fault of the hand, the event is ready
pub held_ready : (worker : ℕ) (o : Option ℕ) → held_fault worker o ≡ None → is_no_others worker o ≡ true
held_ready worker None is = refl
held_ready worker (Some holder) is = passes (holder == worker) (fault.Hand holder) is

-- an event that is ready has no fault of the hand
pub held_none : (worker : ℕ) (o : Option ℕ) → is_no_others worker o ≡ true → held_fault worker o ≡ None
held_none worker None is = refl
held_none worker (Some holder) is = passed (holder == worker) (fault.Hand holder) is

-- where there is no fault of the time, it keeps the rules
pub time_kept : (b : Bool) → time_fault b ≡ None → b ≡ true
time_kept b is = passes b fault.Now is

-- a time that keeps the rules has no fault
pub time_none : (b : Bool) → b ≡ true → time_fault b ≡ None
time_none b is = passed b fault.Now is

-- ---- times

-- no time under these locks is later than now, by the test of each
pub all_under : (times : ℕ → ℕ) (now : ℕ) (ls : List ℕ) → ((l : ℕ) → is_among ls l ≡ true → times l ≤ now) → list_all (λ l. nat_le (times l) now) ls ≡ true
all_under times now [] each = refl
all_under times now (x ∷ xs) each =
    let here : nat_le (times x) now ≡ true = le-leb (times x) now (each x (or_left (x == x) (is_among xs x) (eq-eqb x x refl))) in
    let rest : list_all (λ l. nat_le (times l) now) xs ≡ true = all_under times now xs (λ l among. each l (or_right (x == l) (is_among xs l) among)) in
    and-both (nat_le (times x) now) (list_all (λ l. nat_le (times l) now) xs) here rest

-- and the converse
pub each_under : (times : ℕ → ℕ) (now : ℕ) (ls : List ℕ) → list_all (λ l. nat_le (times l) now) ls ≡ true → (l : ℕ) → is_among ls l ≡ true → times l ≤ now
each_under times now [] all l among = absurd (false≢true among)
each_under times now (x ∷ xs) all l among =
    let both = and_parts (nat_le (times x) now) (list_all (λ l. nat_le (times l) now) xs) all in
    ⊎_elim (λ (here : (x == l) ≡ true). subst (λ m. times m ≤ now) (eqb-true x l here) (leb-true (times x) now both.0))
    (λ (rest : is_among xs l ≡ true). each_under times now xs both.1 l rest)
    (or_cases (x == l) (is_among xs l) among)

-- the time written at a number is found there
pub time_at_own : (at now : ℕ) (times : ℕ → ℕ) → with_time at now times at ≡ now
time_at_own at now times = cond-true (at == at) now (times at) (eq-eqb at at refl)

-- at any other number the time is as before
pub time_at_other : (at now n : ℕ) (times : ℕ → ℕ) → (n == at) ≡ false → with_time at now times n ≡ times n
time_at_other at now n times other = cond-false (n == at) now (times n) other

-- a time among some, where each changed one is late enough and each other one was
pub times_by : (ls : List ℕ) (now l by : ℕ) (times : ℕ → ℕ) → (is_among ls l ≡ true → now ≤ by) → times l ≤ by → with_times ls now times l ≤ by
times_by ls now l by times changed was = at_test (is_among ls l) changed
  where
    at_test : (b : Bool) → (b ≡ true → now ≤ by) → (if b then now else times l) ≤ by
    at_test true late = late refl
    at_test false late = was

-- the same of a time written at one number
pub time_by : (at now n by : ℕ) (times : ℕ → ℕ) → ((n == at) ≡ true → now ≤ by) → times n ≤ by → with_time at now times n ≤ by
time_by at now n by times changed was = at_test (n == at) changed
  where
    at_test : (b : Bool) → (b ≡ true → now ≤ by) → (if b then now else times n) ≤ by
    at_test true late = late refl
    at_test false late = was

-- two lists of locks with one in both
pub both_among : (ls ks : List ℕ) (l : ℕ) → is_among ls l ≡ true → is_among ks l ≡ true → list_any (λ x. is_among ks x) ls ≡ true
both_among [] ks l first second = absurd (false≢true first)
both_among (x ∷ xs) ks l first second =
    ⊎_elim (λ (here : (x == l) ≡ true). or_left (is_among ks x) (list_any (λ y. is_among ks y) xs) (subst (λ m. is_among ks m ≡ true) (sym (eqb-true x l here)) second))
    (λ (rest : is_among xs l ≡ true). or_right (is_among ks x) (list_any (λ y. is_among ks y) xs) (both_among xs ks l rest second))
    (or_cases (x == l) (is_among xs l) first)

-- and the converse
pub shared_lock : (ls ks : List ℕ) → list_any (λ x. is_among ks x) ls ≡ true → (l : ℕ) × (is_among ls l ≡ true) × (is_among ks l ≡ true)
shared_lock [] ks any = absurd (false≢true any)
shared_lock (x ∷ xs) ks any =
    ⊎_elim (λ (here : is_among ks x ≡ true). (x, or_left (x == x) (is_among xs x) (eq-eqb x x refl), here))
    (λ (rest : list_any (λ y. is_among ks y) xs ≡ true). let z = shared_lock xs ks rest in (z.0, or_right (x == z.0) (is_among xs z.0) z.1, z.2))
    (or_cases (is_among ks x) (list_any (λ y. is_among ks y) xs) any)

-- ---- the end

-- no worker has a further event
pub missing_none : (amount : ℕ → ℕ) (n : ℕ) (courses : List Course) →
    ((worker : ℕ) (course : Course) → slice_get courses worker ≡ Some course → due_of (amount (n + worker)) course ≡ None) → missing_from amount n courses ≡ None
missing_none amount n [] ended = refl
missing_none amount n (course ∷ courses) ended =
    let zero_more : n + 0 ≡ n = omega arith in
    let here : due_of (amount n) course ≡ None = subst (λ m. due_of (amount m) course ≡ None) zero_more (ended 0 course refl) in
    ap (λ (o : Option Due). if is_some o then Some (fault.Missing n) else missing_from amount (n + 1) courses) here ∙
    missing_none amount (n + 1) courses
    (λ worker c got. let one_more : n + suc worker ≡ n + 1 + worker = omega arith in subst (λ m. due_of (amount m) c ≡ None) one_more (ended (suc worker) c got))

-- and the converse
pub none_missing : (amount : ℕ → ℕ) (n : ℕ) (courses : List Course) → missing_from amount n courses ≡ None →
    (worker : ℕ) (course : Course) → slice_get courses worker ≡ Some course → due_of (amount (n + worker)) course ≡ None
none_missing amount n [] none worker course got = absurd (none-some course got)
none_missing amount n (c ∷ courses) none worker course got = at_due (due_of (amount n) c) refl none (none_missing amount (n + 1) courses) worker course got
  where
    by_place : due_of (amount n) c ≡ None → ((worker : ℕ) (course : Course) → slice_get courses worker ≡ Some course → due_of (amount (n + 1 + worker)) course ≡ None) →
        (worker : ℕ) (course : Course) → slice_get (c ∷ courses) worker ≡ Some course → due_of (amount (n + worker)) course ≡ None
    by_place here rest zero course got =
        let zero_more : n ≡ n + 0 = omega arith in
        subst (λ m. due_of (amount m) course ≡ None) zero_more (subst (λ x. due_of (amount n) x ≡ None) (same_Some c course got) here)
    by_place here rest (suc worker) course got =
        let one_more : n + 1 + worker ≡ n + suc worker = omega arith in subst (λ m. due_of (amount m) course ≡ None) one_more (rest worker course got)

    at_due : (o : Option Due) → due_of (amount n) c ≡ o → (if is_some o then Some (fault.Missing n) else missing_from amount (n + 1) courses) ≡ None →
        (missing_from amount (n + 1) courses ≡ None → (worker : ℕ) (course : Course) → slice_get courses worker ≡ Some course → due_of (amount (n + 1 + worker)) course ≡ None) →
        (worker : ℕ) (course : Course) → slice_get (c ∷ courses) worker ≡ Some course → due_of (amount (n + worker)) course ≡ None
    at_due (Some d) is none rest worker course got = absurd (none-some (fault.Missing n) (sym none))
    at_due None is none rest worker course got = by_place is (rest none) worker course got

-- the same lines of threads have no fault
pub threads_none : (xs : List ThreadLine) → thread_fault xs xs ≡ None
threads_none [] = refl
threads_none (x ∷ xs) = cond-true (is_same_thread_line x x) (thread_fault xs xs) (Some (fault.Final (name.Thread (min x.id x.id)))) (line_itself x) ∙ threads_none xs

-- lines of threads without a fault are the same
pub threads_same : (xs ys : List ThreadLine) → thread_fault xs ys ≡ None → xs ≡ ys
threads_same [] [] none = refl
threads_same [] (y ∷ ys) none = absurd (none-some _ (sym none))
threads_same (x ∷ xs) [] none = absurd (none-some _ (sym none))
threads_same (x ∷ xs) (y ∷ ys) none = at_test (is_same_thread_line x y) refl none (threads_same xs ys)
  where
    at_test : (b : Bool) → is_same_thread_line x y ≡ b → (if b then thread_fault xs ys else Some (fault.Final (name.Thread (min x.id y.id)))) ≡ None →
        (thread_fault xs ys ≡ None → xs ≡ ys) → x ∷ xs ≡ y ∷ ys
    at_test false is none rest = absurd (none-some _ (sym none))
    at_test true is none rest = (λ i. same_line x y is i ∷ rest none i)

-- the same lines of CPUs have no fault
pub cpus_none : (c : ℕ) (xs : List CpuLine) → cpu_fault c xs xs ≡ None
cpus_none c [] = refl
cpus_none c (x ∷ xs) = cond-true (is_same_cpu_line x x) (cpu_fault (c + 1) xs xs) (Some (fault.Final (name.Cpu c))) (cpu_line_itself x) ∙ cpus_none (c + 1) xs

-- lines of CPUs without a fault are the same
pub cpus_same : (c : ℕ) (xs ys : List CpuLine) → cpu_fault c xs ys ≡ None → xs ≡ ys
cpus_same c [] [] none = refl
cpus_same c [] (y ∷ ys) none = absurd (none-some _ (sym none))
cpus_same c (x ∷ xs) [] none = absurd (none-some _ (sym none))
cpus_same c (x ∷ xs) (y ∷ ys) none = at_test (is_same_cpu_line x y) refl none (cpus_same (c + 1) xs ys)
  where
    at_test : (b : Bool) → is_same_cpu_line x y ≡ b → (if b then cpu_fault (c + 1) xs ys else Some (fault.Final (name.Cpu c))) ≡ None → (cpu_fault (c + 1) xs ys ≡ None → xs ≡ ys) → x ∷ xs ≡ y ∷ ys
    at_test false is none rest = absurd (none-some _ (sym none))
    at_test true is none rest = (λ i. same_cpu_line x y is i ∷ rest none i)

-- times at the end without a fault are the same
pub end_same : (expected found : ℕ) → end_fault expected found ≡ None → expected ≡ found
end_same expected found none = eqb-true expected found (passes (expected == found) (fault.Final name.Now) none)

-- the same times at the end have no fault
pub end_none : (expected found : ℕ) → expected ≡ found → end_fault expected found ≡ None
end_none expected found is = passed (expected == found) (fault.Final name.Now) (eq-eqb expected found is)

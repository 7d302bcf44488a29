-- What a look at a CPU sees by its value is what it sees by the side of a world that the value stands for.
use Rattle.std.proofs.Common.{◌≡◌, ℕ, ◌+◌, ◌<◌, Bool, true, false, ◌&&◌, ◌||◌, cond, List, [], ◌∷◌, length, slice_index_or, slice_set, Option, Some, None, ⊎_elim, if◌then◌else◌, refl, sym, ◌∙◌, ap, subst, arith, length-set, get_or-set_same, get_or-set_other}
use Rattle.std.specs.Prelude.{count_by, is_none, min, option_and_then, suc}
use Rattle.std.specs.List.{AllByRecursion, find}
use Rattle.std.specs.Option.{option_map}
use Rattle.std.proofs.lemmas.Bool.{both_ways, cases_eq, eq-eqb, ne_eqb, or_left, or_right}
use Rattle.std.proofs.lemmas.List.Sums.{sum_by-cons, sum_by-set}
use Rattle.ule_prio.specs.declared.kind.Kind.{Kind}
use Rattle.ule_score.specs.declared.place.Place.{Place}
use Rattle.ule_score.specs.declared.record.ThreadRecord.{ThreadRecord}
use Rattle.ule_topo.specs.declared.look.Summary.{Summary}
use Rattle.ule_model.specs.Choice.{choice_of}
use Rattle.ule_model.specs.CpuNumbers.{is_unbound, low_priority_in, low_priority_of, movable_in, movable_of, next_record, queued_records, records_but, summary_of, value_summary}
use Rattle.ule_model.specs.CpuValue.{CpuValue, StandsFor, current_in, first_in, thread_in}
use Rattle.ule_model.specs.Landing.{current_priority, current_record}
use Rattle.ule_model.specs.Places.{is_on, runs_on, waits_on}
use Rattle.ule_model.specs.Tick.{load_of}
use Rattle.ule_model.specs.WellMade.{AllApart, AreApart, IsMade, IsWellMade}
use Rattle.ule_model.specs.World.{Member, Side, current_of, is_numbered, thread_of}
use Rattle.ule_laws.proofs.ChoiceLaws.{Agrees, choices_agree}
use Rattle.ule_laws.proofs.CpuPlaces.{runner_of_current}
use Rattle.ule_laws.proofs.PlaceLaws.{place_from_runs_on, waits_on_place}
use Rattle.ule_members.proofs.Membership.{all_has, has_within, same_from_number}
use Rattle.ule_members.proofs.Threads.{current_runs, find_nowhere, find_only, no_other_runs, none_passes, thread_on_within, within_current}
use Rattle.ule_members.proofs.Within.{Lacks, Within, all_along, lacks_from_apart, within_thread}

-- ---- a table of records counts the threads that it is of

-- the thread of a number that passes a test
abbrev pub thread_where : (Member → Bool) → ℕ → List Member → Option Member
thread_where p t ms = find (λ m. is_numbered t m && p m) ms

-- threads that lack a number have none of that number that passes a test
pub lacks_where : (p : Member → Bool) (t : ℕ) (ms : List Member) → Lacks t ms → AllByRecursion (λ n. (is_numbered t n && p n) ≡ false) ms
lacks_where p t ms lacks =
    all_along (λ n. is_numbered t n ≡ false) (λ n. (is_numbered t n && p n) ≡ false) ms (λ n fails. ap (λ d. d && p n) fails) lacks

-- the thread of a number passes the test or is not found
pub found_where : (p : Member → Bool) (t : ℕ) (m : Member) (ms : List Member) → Within t m ms → thread_where p t ms ≡ (if p m then Some m else None)
found_where p t m ms w =
    ap (thread_where p t) w.whole ∙
    find_only (λ n. is_numbered t n && p n) w.before m w.after (lacks_where p t w.before w.lacks_before) (lacks_where p t w.after w.lacks_after) ∙
    ap (λ d. if d && p m then Some m else None) (eq-eqb m.thread.id t w.number)

-- what a record in a table adds to the count
abbrev free_at : Option ThreadRecord → ℕ
free_at o = cond (is_unbound o) 1 0

-- a table without records counts none
none_counted : (slots : List (Option ThreadRecord)) → ((t : ℕ) → slice_index_or slots t None ≡ None) → count_by is_unbound slots ≡ 0
none_counted [] none = refl
none_counted (o ∷ rest) none =
    let first : free_at o ≡ 0 = ap free_at (none 0) in
    let more : count_by is_unbound rest ≡ 0 = none_counted rest (λ t. none (suc t)) in
    let all : count_by is_unbound (o ∷ rest) ≡ free_at o + count_by is_unbound rest = sum_by-cons free_at o rest in
    omega arith

-- a table has the records of the threads that pass a test
abbrev pub IsTableOf : (Member → Bool) → List Member → List (Option ThreadRecord) → Type 0
IsTableOf p ms slots = (t : ℕ) → slice_index_or slots t None ≡ option_map (λ m. m.thread) (thread_where p t ms)

-- threads that are apart from one have none of its number
none_behind : (p : Member → Bool) (m : Member) (ms : List Member) → AllByRecursion (AreApart m) ms → thread_where p m.thread.id ms ≡ None
none_behind p m ms apart = find_nowhere (λ n. is_numbered m.thread.id n && p n) ms (lacks_where p m.thread.id ms (lacks_from_apart m ms apart))

-- a table without the first thread's record is the table of the others
table_less : (p : Member → Bool) (slots : List (Option ThreadRecord)) (m : Member) (ms : List Member) → m.thread.id < length slots →
    AllByRecursion (AreApart m) ms → IsTableOf p (m ∷ ms) slots → IsTableOf p ms (slice_set slots m.thread.id None)
table_less p slots m ms within apart each u = ⊎_elim same other (cases_eq u m.thread.id)
  where
    t : ℕ
    t = m.thread.id

    same : u ≡ t → slice_index_or (slice_set slots t None) u None ≡ option_map (λ n. n.thread) (thread_where p u ms)
    same is =
        subst (λ (z : ℕ). slice_index_or (slice_set slots t None) z None ≡ option_map (λ n. n.thread) (thread_where p z ms)) (sym is)
        (get_or-set_same slots t None None within ∙ sym (ap (option_map (λ (n : Member). n.thread)) (none_behind p m ms apart)))

    other : (u ≡ t → ⊥) → slice_index_or (slice_set slots t None) u None ≡ option_map (λ n. n.thread) (thread_where p u ms)
    other differs =
        get_or-set_other slots t u None None differs ∙ each u ∙
        ap (λ d. option_map (λ (n : Member). n.thread) (if d && p m then Some m else thread_where p u ms)) (ne_eqb t u (λ e. differs (sym e)))

-- a table counts one thread more, if it passes the test and is not bound
one_more_counted : (p : Member → Bool) (slots : List (Option ThreadRecord)) (m : Member) (ms : List Member) → m.thread.id < length slots →
    AllByRecursion (AreApart m) ms → IsTableOf p (m ∷ ms) slots →
    count_by is_unbound (slice_set slots m.thread.id None) ≡ count_by (λ n. p n && is_none n.thread.bound) ms →
    count_by is_unbound slots ≡ count_by (λ n. p n && is_none n.thread.bound) (m ∷ ms)
one_more_counted p slots m ms within apart each rest = omega (arith, rest, one, taken, whole)
  where
    t : ℕ
    t = m.thread.id

    at : slice_index_or slots t None ≡ option_map (λ n. n.thread) (if p m then Some m else None)
    at =
        each t ∙ ap (λ d. option_map (λ (n : Member). n.thread) (if d && p m then Some m else thread_where p t ms)) (eq-eqb t t refl) ∙
        ap (λ o. option_map (λ (n : Member). n.thread) (if p m then Some m else o)) (none_behind p m ms apart)

    own : (d : Bool) → free_at (option_map (λ n. n.thread) (if d then Some m else None)) ≡ cond (d && is_none m.thread.bound) 1 0
    own true = refl
    own false = refl

    one : free_at (slice_index_or slots t None) ≡ cond (p m && is_none m.thread.bound) 1 0
    one = ap free_at at ∙ own (p m)

    taken : count_by is_unbound (slice_set slots t None) + free_at (slice_index_or slots t None) ≡ count_by is_unbound slots + 0
    taken = sum_by-set free_at slots t None None within

    whole : count_by (λ n. p n && is_none n.thread.bound) (m ∷ ms) ≡ cond (p m && is_none m.thread.bound) 1 0 + count_by (λ n. p n && is_none n.thread.bound) ms
    whole = sum_by-cons (λ n. cond (p n && is_none n.thread.bound) 1 0) m ms

-- the records in a table of the threads that pass a test are counted as those threads are
pub table_counts : (p : Member → Bool) (slots : List (Option ThreadRecord)) (ms : List Member) → AllByRecursion IsMade ms → AllApart ms →
    length slots ≡ 256 → IsTableOf p ms slots → count_by is_unbound slots ≡ count_by (λ m. p m && is_none m.thread.bound) ms
table_counts p slots [] made apart long each = none_counted slots each
table_counts p slots (m ∷ ms) made apart long each =
    let within : m.thread.id < length slots = let small = made.0.numbers.id in omega arith in
    one_more_counted p slots m ms within apart.0 each
    (table_counts p (slice_set slots m.thread.id None) ms made.1 apart.1 (length-set slots m.thread.id None ∙ long) (table_less p slots m ms within apart.0 each))

-- ---- the queued threads

-- the current thread's record is not among the others'
but_current : (threads : List (Option ThreadRecord)) (t : ℕ) → t < length threads → slice_index_or (records_but (Some t) threads) t None ≡ None
but_current threads t within = get_or-set_same threads t None None within

-- the record of a thread that isn't the current one is among them
but_other : (current : Option ℕ) (threads : List (Option ThreadRecord)) (t : ℕ) → ((u : ℕ) → current ≡ Some u → u ≡ t → ⊥) →
    slice_index_or (records_but current threads) t None ≡ slice_index_or threads t None
but_other None threads t differs = refl
but_other (Some u) threads t differs = get_or-set_other threads u t None None (λ e. differs u refl (sym e))

-- a thread that runs on a CPU is the current one there
current_where : (c t : ℕ) (m : Member) (ms : List Member) → Within t m ms → runs_on c m.place ≡ true → current_of c ms ≡ Some m
current_where c t m ms w runs =
    ap (current_of c) w.whole ∙
    find_only (λ n. runs_on c n.place) w.before m w.after (no_other_runs c m w.before w.apart_before runs) (no_other_runs c m w.after w.apart_after runs) ∙
    ap (λ (d : Bool). if d then Some m else None) runs

-- whether a thread on a CPU runs there is told by its place
waits_not : (c : ℕ) (p : Place) → runs_on c p ≡ true → waits_on c p ≡ false
waits_not c p runs = ap (waits_on c) (place_from_runs_on c p runs)

-- the records of the queued threads are those of the threads that wait on the CPU
pub queued_table : (v : CpuValue) (s : Side) → StandsFor v s → IsWellMade s.members → (t : ℕ) →
    slice_index_or (queued_records v) t None ≡ option_map (λ m. m.thread) (thread_where (λ m. waits_on v.cpu m.place) t s.members)
queued_table v s stands made t = split (thread_of t s.members) refl
  where
    waits : Member → Bool
    waits m = waits_on v.cpu m.place

    Tells : Type 0
    Tells = slice_index_or (queued_records v) t None ≡ option_map (λ m. m.thread) (thread_where waits t s.members)

    nobody : Lacks t s.members → (u : ℕ) → v.current ≡ Some u → u ≡ t → ⊥
    nobody lacks u current same =
        let r = runner_of_current v s stands made u current in
        both_ways (is_numbered t r.runner) (all_has (λ n. is_numbered t n ≡ false) r.runner s.members lacks r.has)
        (eq-eqb r.runner.thread.id t (r.number ∙ same))

    another : (m : Member) → Within t m s.members → runs_on v.cpu m.place ≡ false → (u : ℕ) → v.current ≡ Some u → u ≡ t → ⊥
    another m w still u current same =
        let r = runner_of_current v s stands made u current in
        both_ways (runs_on v.cpu m.place) still
        (ap (λ (x : Member). runs_on v.cpu x.place)
        (same_from_number m r.runner s.members made (has_within t m s.members w) r.has (w.number ∙ sym same ∙ sym r.number)) ∙ r.runs)

    at : (m : Member) → Within t m s.members → (d : Bool) → runs_on v.cpu m.place ≡ d → Tells
    at m w true runs =
        ap (λ o. slice_index_or (records_but o v.threads) t None)
        (stands.current ∙ ap (option_map (λ (n : Member). n.thread.id)) (current_where v.cpu t m s.members w runs) ∙ ap (λ (u : ℕ). Some u) w.number) ∙
        but_current v.threads t (let small = w.made.numbers.id in let number = w.number in let slots = stands.slots in omega arith) ∙
        sym (ap (option_map (λ (n : Member). n.thread)) (found_where waits t m s.members w ∙ ap (λ d. if d then Some m else None) (waits_not v.cpu m.place runs)))
    at m w false still =
        but_other v.current v.threads t (another m w still) ∙ stands.threads t ∙
        ap (option_map (λ (n : Member). n.thread))
        (thread_on_within v.cpu t m s.members w ∙ ap (λ d. if d || waits_on v.cpu m.place then Some m else None) still ∙ sym (found_where waits t m s.members w))

    split : (o : Option Member) → thread_of t s.members ≡ o → Tells
    split None none =
        let lacks : Lacks t s.members = none_passes (is_numbered t) s.members none in
        but_other v.current v.threads t (nobody lacks) ∙ stands.threads t ∙
        ap (option_map (λ (n : Member). n.thread))
        (find_nowhere (λ n. is_numbered t n && is_on v.cpu n.place) s.members (lacks_where (λ n. is_on v.cpu n.place) t s.members lacks) ∙
        sym (find_nowhere (λ n. is_numbered t n && waits n) s.members (lacks_where waits t s.members lacks)))
    split (Some m) found = at m (within_thread t s.members m made found) (runs_on v.cpu m.place) refl

-- no more records than before are left without one
pub records_but-length : (current : Option ℕ) (threads : List (Option ThreadRecord)) → length (records_but current threads) ≡ length threads
records_but-length None threads = refl
records_but-length (Some t) threads = length-set threads t None

-- the movable count
pub movable_stands : (v : CpuValue) (s : Side) → StandsFor v s → IsWellMade s.members → movable_in v ≡ movable_of v.cpu s.members
movable_stands v s stands made =
    table_counts (λ m. waits_on v.cpu m.place) (queued_records v) s.members made.each made.apart (records_but-length v.current v.threads ∙ stands.slots)
    (queued_table v s stands made)

-- ---- the current thread

-- the record that the value has of its current thread is that thread's
pub current_in_is : (v : CpuValue) (s : Side) → StandsFor v s → IsWellMade s.members → current_in v ≡ current_record v.cpu s.members
current_in_is v s stands made =
    ap (λ (o : Option ℕ). option_and_then (thread_in v) o) stands.current ∙ split (current_of v.cpu s.members) refl
  where
    split : (o : Option Member) → current_of v.cpu s.members ≡ o → option_and_then (thread_in v) (option_map (λ m. m.thread.id) o) ≡ option_map (λ m. m.thread) o
    split None found = refl
    split (Some m) found =
        stands.threads m.thread.id ∙ ap (option_map (λ (n : Member). n.thread))
        (thread_on_within v.cpu m.thread.id m s.members (within_current v.cpu s.members m made found) ∙
        ap (λ d. if d then Some m else None) (or_left (runs_on v.cpu m.place) (waits_on v.cpu m.place) (current_runs v.cpu s.members m found)))

-- ---- the low priority

-- the record of the thread whose turn comes first is that of the choice
pub next_stands : (v : CpuValue) (s : Side) → StandsFor v s → IsWellMade s.members →
    next_record v ≡ option_map (λ m. m.thread) (choice_of v.cpu s.line.ridx s.members)
next_stands v s stands made = look (first_in v) (choice_of v.cpu s.line.ridx s.members) (choices_agree v s stands made)
  where
    look : (first : Option (Kind × ℕ)) (choice : Option Member) → Agrees v.cpu s.members first choice →
        option_and_then (λ f. thread_in v f.1) first ≡ option_map (λ m. m.thread) choice
    look None None agrees = refl
    look None (Some m) agrees = absurd agrees
    look (Some first) None agrees = absurd agrees
    look (Some first) (Some m) agrees =
        stands.threads first.1 ∙ ap (option_map (λ (n : Member). n.thread))
        (thread_on_within v.cpu first.1 m s.members (within_thread first.1 s.members m made agrees.found) ∙
        ap (λ d. if d then Some m else None)
        (or_right (runs_on v.cpu m.place) (waits_on v.cpu m.place) (waits_on_place v.cpu first.0 agrees.bucket m.place agrees.place)))

-- the low priority
pub low_priority_stands : (v : CpuValue) (s : Side) → StandsFor v s → IsWellMade s.members →
    low_priority_in v ≡ low_priority_of v.cpu s.line.ridx s.members
low_priority_stands v s stands made =
    ap (λ o. min (current_priority o) (current_priority (next_record v))) (current_in_is v s stands made) ∙
    ap (λ o. min (current_priority (current_record v.cpu s.members)) (current_priority o)) (next_stands v s stands made)

-- ---- all three

-- what a look at a CPU sees
pub summary_stands : (v : CpuValue) (s : Side) → StandsFor v s → IsWellMade s.members → value_summary v ≡ summary_of v.cpu s
summary_stands v s stands made =
    ap (λ (n : ℕ). meant n (movable_in v) (low_priority_in v)) stands.load ∙
    ap (λ (n : ℕ). meant (load_of v.cpu s.members) n (low_priority_in v)) (movable_stands v s stands made) ∙
    ap (λ (n : ℕ). meant (load_of v.cpu s.members) (movable_of v.cpu s.members) n) (low_priority_stands v s stands made)
  where
    meant : ℕ → ℕ → ℕ → Summary
    meant load movable low = record { load = load; movable = movable; lowpri = low }

-- The list of threads after one thread's record is changed, or it is moved, queued or chosen: the
-- threads before it, the thread as it is then, and the threads after it.
use Rattle.std.proofs.Common.{◌≡◌, ℕ, ◌<◌, ◌+◌, ◌%◌, ◌==◌, ℤ, Bool, true, false, not, ◌&&◌, List, [], ◌∷◌, ◌++◌, filter, Option, Some, None, if◌then◌else◌, inl, inr, refl, ◌∙◌, ap, subst, arith}
use Rattle.std.specs.Option.{option_map}
use Rattle.std.proofs.lemmas.Bool.{cond_both, cond-false, cond-true, eq-eqb}
use Rattle.std.proofs.lemmas.Option.{none-some, same_Some}
use Rattle.ule_prio.specs.declared.kind.Kind.{Kind}
use Rattle.ule_prio.specs.declared.kind.Kind.TheVariants.{Real, Batch, Idle}
use Rattle.ule_score.specs.Changes.{RecordChange, record_after}
use Rattle.ule_score.specs.declared.place.Place.{Place}
use Rattle.ule_score.specs.declared.record.CpuLine.{CpuLine}
use Rattle.ule_score.specs.declared.record.Settings.{Settings}
use Rattle.ule_model.specs.CalendarIndexes.{calendar_bucket, reach_of}
use Rattle.ule_model.specs.Choice.{choice_of, comes_before, least, sooner, turn_of}
use Rattle.ule_model.specs.Insertion.{bucket_of, order_of_insertion, place_of_insertion, queued, with_queued}
use Rattle.ule_model.specs.declared.insertion.Insertion.{Insertion}
use Rattle.ule_model.specs.declared.insertion.Insertion.TheVariants.{Ordinary, Borrowing, Preempted}
use Rattle.ule_model.specs.Places.{runs_on, waits_on}
use Rattle.ule_model.specs.WellMade.{IsWellMade}
use Rattle.ule_model.specs.World.{Member, Side, current_of, is_numbered, moved_to, others, thread_of, with_change}
use Rattle.ule_members.proofs.Membership.{Has, has_filtered, thread_of_has}
use Rattle.ule_score.proofs.ChangeLaws.{change_number}
use Rattle.ule_members.proofs.Threads.{changed_further, find_nowhere, no_other_runs, thread_of-changed_same, thread_of_within}
use Rattle.ule_members.proofs.Within.{Lacks, Within, all-append, changed_within, within_thread}

-- ---- the others

-- the others of a list without thread t are all
pub others_lacking : (t : ℕ) (ms : List Member) → Lacks t ms → others t ms ≡ ms
others_lacking t [] lacks = refl
others_lacking t (m ∷ ms) lacks =
    cond-true (not (is_numbered t m)) (m ∷ others t ms) (others t ms) (ap not lacks.0) ∙ ap (λ ns. m ∷ ns) (others_lacking t ms lacks.1)

-- the others of a list with one thread t are those before it and those after it
pub others_between : (t : ℕ) (before : List Member) (m : Member) (after : List Member) → Lacks t before → m.thread.id ≡ t → Lacks t after →
    others t (before ++ m ∷ after) ≡ before ++ after
others_between t [] m after front number back =
    cond-false (not (is_numbered t m)) (m ∷ others t after) (others t after) (ap not (eq-eqb m.thread.id t number)) ∙ others_lacking t after back
others_between t (b ∷ bs) m after front number back =
    cond-true (not (is_numbered t b)) (b ∷ others t (bs ++ m ∷ after)) (others t (bs ++ m ∷ after)) (ap not front.0) ∙
    ap (λ ns. b ∷ ns) (others_between t bs m after front.1 number back)

-- the others of a thread within a list are those before it and those after it
pub others_within : (t : ℕ) (m : Member) (ms : List Member) (v : Within t m ms) → others t ms ≡ v.before ++ v.after
others_within t m ms v = ap (others t) v.whole ∙ others_between t v.before m v.after v.lacks_before v.number v.lacks_after

-- ---- moves and changes of a record

-- a thread's record after a change
abbrev pub changed_by : Settings → ℕ → RecordChange → Member → Member
changed_by settings now change m = record m { thread = record_after settings now change m.thread }

-- a thread at another place
abbrev pub moved_member : Place → ℤ → Member → Member
moved_member place order m = record m { place = place; order = order }

-- the list with one thread moved
pub moved_between : (m : Member) (ms : List Member) (v : Within m.thread.id m ms) (place : Place) (order : ℤ) →
    moved_to m.thread.id place order ms ≡ v.before ++ moved_member place order m ∷ v.after
moved_between m ms v place order = changed_within m.thread.id m ms v (moved_member place order)

-- the list with one thread's record changed
pub recorded_between : (settings : Settings) (now : ℕ) (change : RecordChange) (m : Member) (ms : List Member) (v : Within m.thread.id m ms) →
    with_change settings now m.thread.id change ms ≡ v.before ++ changed_by settings now change m ∷ v.after
recorded_between settings now change m ms v = changed_within m.thread.id m ms v (changed_by settings now change)

-- the list with one thread's record changed and the thread moved
pub carried_between : (settings : Settings) (now : ℕ) (change : RecordChange) (m : Member) (ms : List Member) (v : Within m.thread.id m ms) (place : Place) (order : ℤ) →
    moved_to m.thread.id place order (with_change settings now m.thread.id change ms) ≡
    v.before ++ moved_member place order (changed_by settings now change m) ∷ v.after
carried_between settings now change m ms v place order =
    changed_further m.thread.id (changed_by settings now change) (moved_member place order) ms (λ n. change_number settings now change n.thread) ∙
    changed_within m.thread.id m ms v (λ n. moved_member place order (changed_by settings now change n))

-- the list with one thread moved and its record changed
pub moved_recorded_between : (settings : Settings) (now : ℕ) (change : RecordChange) (m : Member) (ms : List Member) (v : Within m.thread.id m ms) (place : Place) (order : ℤ) →
    with_change settings now m.thread.id change (moved_to m.thread.id place order ms) ≡
    v.before ++ changed_by settings now change (moved_member place order m) ∷ v.after
moved_recorded_between settings now change m ms v place order =
    changed_further m.thread.id (moved_member place order) (changed_by settings now change) ms (λ n. refl) ∙
    changed_within m.thread.id m ms v (λ n. changed_by settings now change (moved_member place order n))

-- ---- insertion

-- a thread queued on CPU c by its priority, where these are the others
abbrev pub queued_member : Insertion → ℕ → CpuLine → List Member → Member → Member
queued_member how c line rest m =
    moved_member (place_of_insertion how c line m.thread.priority) (order_of_insertion how c line m.thread.priority rest) m

-- the list with one thread's record changed and the thread queued
pub queued_between : (how : Insertion) (c now : ℕ) (change : RecordChange) (m : Member) (s : Side) (v : Within m.thread.id m s.members) →
    (queued how c m.thread.id (record s { members = with_change s.settings now m.thread.id change s.members })).members ≡
    v.before ++ queued_member how c s.line (v.before ++ v.after) (changed_by s.settings now change m) ∷ v.after
queued_between how c now change m s v =
    ap (λ (o : Option Member). (with_queued how c o side).members) found ∙
    ap (λ (u : ℕ). moved_to u (place_of_insertion how c s.line n.thread.priority) (order_of_insertion how c s.line n.thread.priority (others u side.members)) side.members) number ∙
    ap (λ (ns : List Member). moved_to m.thread.id (place_of_insertion how c s.line n.thread.priority) (order_of_insertion how c s.line n.thread.priority ns) side.members) rest ∙
    carried_between s.settings now change m s.members v (place_of_insertion how c s.line n.thread.priority) (order_of_insertion how c s.line n.thread.priority (v.before ++ v.after))
  where
    n : Member
    n = changed_by s.settings now change m

    side : Side
    side = record s { members = with_change s.settings now m.thread.id change s.members }

    number : n.thread.id ≡ m.thread.id
    number = change_number s.settings now change m.thread

    found : thread_of m.thread.id side.members ≡ Some n
    found =
        thread_of-changed_same m.thread.id (changed_by s.settings now change) s.members (λ x. change_number s.settings now change x.thread) ∙
        ap (option_map (changed_by s.settings now change)) (thread_of_within m.thread.id m s.members v)

    rest : others m.thread.id side.members ≡ v.before ++ v.after
    rest = ap (others m.thread.id) (recorded_between s.settings now change m s.members v) ∙ others_between m.thread.id v.before n v.after v.lacks_before number v.lacks_after

-- a calendar's insertion bucket is one that there is
pub calendar_bucket_small : (idx ridx p : ℕ) → calendar_bucket idx ridx p < 64
calendar_bucket_small idx ridx p = step (not (ridx == idx) && ((reach_of p + idx) % 64 == ridx))
  where
    step : (d : Bool) → (if d then ((reach_of p + idx) % 64 + 63) % 64 else (reach_of p + idx) % 64) < 64
    step true = omega arith
    step false = omega arith

-- the bucket of an insertion is one that there is
pub bucket_small : (k : Kind) (how : Insertion) (line : CpuLine) (p : ℕ) → p < 256 → line.ridx < 64 → bucket_of k how line p < 64
bucket_small Real how line p small at = omega arith
bucket_small Batch Ordinary line p small at = calendar_bucket_small line.idx line.ridx p
bucket_small Batch Borrowing line p small at = at
bucket_small Batch Preempted line p small at = at
bucket_small Idle how line p small at = omega arith

-- ---- the choice

-- a thread that stands in a well-made list is within it
pub within_has : (m : Member) (ms : List Member) → IsWellMade ms → Has m ms → Within m.thread.id m ms
within_has m ms made has = within_thread m.thread.id ms m made (thread_of_has m ms made.apart has)

-- the thread whose turn comes first is one of them
pub least_has : (ridx : ℕ) (m : Member) (ms : List Member) → least ridx ms ≡ Some m → Has m ms
least_has ridx m [] found = absurd (none-some m found)
least_has ridx m (x ∷ xs) found = at_least (least ridx xs) (λ n is. least_has ridx n xs is) (same_Some (sooner ridx x (least ridx xs)) m found)
  where
    at_least : (o : Option Member) → ((n : Member) → o ≡ Some n → Has n xs) → sooner ridx x o ≡ m → Has m (x ∷ xs)
    at_least None rest is = inl is
    at_least (Some n) rest is =
        cond_both (comes_before (turn_of ridx n) (turn_of ridx x)) n x (λ z. z ≡ m → Has m (x ∷ xs))
        (λ sooner same. inr (subst (λ z. Has z xs) same (rest n refl))) (λ later same. inl same) is

-- the choice is one of the queued threads
pub choice_stands : (c ridx : ℕ) (m : Member) (ms : List Member) → choice_of c ridx ms ≡ Some m → Has m ms × (waits_on c m.place ≡ true)
choice_stands c ridx m ms found =
    has_filtered (λ n. waits_on c n.place) m ms (least_has ridx m (filter (λ n. waits_on c n.place) ms) found)

-- where the current thread is put elsewhere, none runs
pub current_of-between : (c : ℕ) (m n : Member) (ms : List Member) (v : Within m.thread.id m ms) → runs_on c m.place ≡ true → runs_on c n.place ≡ false →
    current_of c (v.before ++ n ∷ v.after) ≡ None
current_of-between c m n ms v runs off =
    find_nowhere (λ x. runs_on c x.place) (v.before ++ n ∷ v.after)
    (all-append (λ x. runs_on c x.place ≡ false) v.before (n ∷ v.after) (no_other_runs c m v.before v.apart_before runs) (off, no_other_runs c m v.after v.apart_after runs))

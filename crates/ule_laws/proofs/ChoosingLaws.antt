-- Changes of records, and the choice of the next thread, on a CPU's value and on the side of a world that it
-- stands for.
use Rattle.std.proofs.Common.{◌≡◌, ℕ, ◌<◌, pos, Bool, true, false, List, [], ◌∷◌, ◌++◌, map, length, slice_index_or, slice_set, if◌then◌else◌, Option, Some, None, ⊎_elim, refl, sym, ◌∙◌, ap, subst, arith, length-set, get_or-set_same, get_or-set_other}
use Rattle.std.proofs.lemmas.List.{set-get_or}
use Rattle.std.specs.List.{find}
use Rattle.std.specs.Option.{option_map}
use Rattle.std.proofs.lemmas.Bool.{cases_eq}
use Rattle.ule_prio.specs.declared.kind.Kind.{Kind}
use Rattle.ule_prio.specs.declared.kind.Kind.TheVariants.{Real, Batch, Idle}
use Rattle.ule_score.proofs.ChangeLaws.{change_number}
use Rattle.ule_score.specs.Changes.{RecordChange, record_after, runs}
use Rattle.ule_score.specs.declared.place.Place.TheVariants.{Running, Queued}
use Rattle.ule_score.specs.declared.record.Settings.{Settings}
use Rattle.ule_score.specs.declared.record.ThreadRecord.{ThreadRecord}
use Rattle.ule_model.specs.Choice.{choice_of}
use Rattle.ule_model.specs.CpuValue.{CpuValue, StandsFor, chosen_next, current_chosen, first_in, queue_of, removed_from, thread_in, thread_on, with_current, with_thread_after}
use Rattle.ule_model.specs.Places.{is_on, runs_on}
use Rattle.ule_model.specs.Shows.{ShowsQueue}
use Rattle.ule_model.specs.Switch.{choosing_next, lifted, put_running, running_chosen}
use Rattle.ule_model.specs.WellMade.{IsWellMade}
use Rattle.ule_model.specs.World.{Member, Side, current_of, is_numbered, moved_to, thread_of, with_change, with_record}
use Rattle.ule_laws.proofs.Beside.{StandsBeside, lifted_stands, running_put}
use Rattle.ule_laws.proofs.Buckets.{shows-with_record}
use Rattle.ule_laws.proofs.ChoiceLaws.{Agrees, choices_agree}
use Rattle.ule_laws.proofs.QueueKinds.{by_kind}
use Rattle.ule_laws.proofs.WellMade.{well_made-with_change, well_made_running}
use Rattle.ule_members.proofs.Loads.{load-with_record}
use Rattle.ule_members.proofs.Threads.{thread_of-changed, thread_on-changed, thread_on-changed_other, thread_on_within}
use Rattle.ule_members.proofs.Within.{Within, within_thread}

-- ---- a record changed

-- what is found among elements that keep a test is the image of what was found
find-map_kept : {X : Type 0} (p : X → Bool) (g : X → X) → ((x : X) → p (g x) ≡ p x) → (xs : List X) → find p (map g xs) ≡ option_map g (find p xs)
find-map_kept p g kept [] = refl
find-map_kept p g kept (x ∷ xs) = rw (kept x) (step p g x xs (p x) (find-map_kept p g kept xs))
  where
    step : {X : Type 0} (p : X → Bool) (g : X → X) (x : X) (xs : List X) (b : Bool) → find p (map g xs) ≡ option_map g (find p xs) →
        (if b then Some (g x) else find p (map g xs)) ≡ option_map g (if b then Some x else find p xs)
    step p g x xs true rest = refl
    step p g x xs false rest = rest

-- a change of records that keeps numbers keeps the number of the current thread
current_recorded : (c t : ℕ) (change : ThreadRecord → ThreadRecord) (ms : List Member) → ((r : ThreadRecord) → (change r).id ≡ r.id) →
    option_map (λ n. n.thread.id) (current_of c ms) ≡ option_map (λ n. n.thread.id) (current_of c (with_record t change ms))
current_recorded c t change ms kept =
    sym (ap (option_map (λ (n : Member). n.thread.id)) (find-map_kept (λ n. runs_on c n.place) one (λ n. place_kept n (is_numbered t n)) ms) ∙ ids_kept (current_of c ms))
  where
    one : Member → Member
    one n = if is_numbered t n then record n { thread = change n.thread } else n

    place_kept : (n : Member) (d : Bool) → runs_on c (if d then record n { thread = change n.thread } else n).place ≡ runs_on c n.place
    place_kept n true = refl
    place_kept n false = refl

    id_kept : (n : Member) (d : Bool) → (if d then record n { thread = change n.thread } else n).thread.id ≡ n.thread.id
    id_kept n true = kept n.thread
    id_kept n false = refl

    ids_kept : (o : Option Member) → option_map (λ n. n.thread.id) (option_map one o) ≡ option_map (λ n. n.thread.id) o
    ids_kept None = refl
    ids_kept (Some n) = ap (λ (u : ℕ). Some u) (id_kept n (is_numbered t n))

-- the records of a CPU's threads, one of them changed
threads_recorded : (c t : ℕ) (change : ThreadRecord → ThreadRecord) (m : Member) (ms : List Member) (threads : List (Option ThreadRecord)) →
    ((r : ThreadRecord) → (change r).id ≡ r.id) → Within t m ms → length threads ≡ 256 →
    ((u : ℕ) → slice_index_or threads u None ≡ option_map (λ n. n.thread) (thread_on c u ms)) → (u : ℕ) →
    slice_index_or (slice_set threads t (option_map change (slice_index_or threads t None))) u None ≡
    option_map (λ n. n.thread) (thread_on c u (with_record t change ms))
threads_recorded c t change m ms threads kept w slots each u = ⊎_elim same other (cases_eq u t)
  where
    new : List (Option ThreadRecord)
    new = slice_set threads t (option_map change (slice_index_or threads t None))

    images : (d : Bool) →
        option_map change (option_map (λ n. n.thread) (if d then Some m else None)) ≡
        option_map (λ n. n.thread) (if d then Some (record m { thread = change m.thread }) else None)
    images true = refl
    images false = refl

    within : t < length threads
    within = let small = w.made.numbers.id in let number = w.number in omega arith

    at : slice_index_or new t None ≡ option_map (λ n. n.thread) (thread_on c t (with_record t change ms))
    at =
        get_or-set_same threads t (option_map change (slice_index_or threads t None)) None within
        ∙ ap (option_map change) (each t ∙ ap (option_map (λ (n : Member). n.thread)) (thread_on_within c t m ms w))
        ∙ images (is_on c m.place)
        ∙ sym (ap (option_map (λ (n : Member). n.thread)) (thread_on-changed c t m ms w (λ n. record n { thread = change n.thread }) (kept m.thread)))

    same : u ≡ t → slice_index_or new u None ≡ option_map (λ n. n.thread) (thread_on c u (with_record t change ms))
    same is = subst (λ (z : ℕ). slice_index_or new z None ≡ option_map (λ n. n.thread) (thread_on c z (with_record t change ms))) (sym is) at

    other : (u ≡ t → ⊥) → slice_index_or new u None ≡ option_map (λ n. n.thread) (thread_on c u (with_record t change ms))
    other apart =
        get_or-set_other threads t u (option_map change (slice_index_or threads t None)) None apart ∙ each u
        ∙ ap (option_map (λ (n : Member). n.thread)) (sym (thread_on-changed_other c u t m ms w (λ n. record n { thread = change n.thread }) (kept m.thread) apart))

-- the value with a thread's record changed stands for the side with it changed
pub recorded_stands : (t : ℕ) (change : ThreadRecord → ThreadRecord) (m : Member) (v : CpuValue) (s : Side) → ((r : ThreadRecord) → (change r).id ≡ r.id) →
    StandsFor v s → Within t m s.members →
    StandsFor (record v { threads = slice_set v.threads t (option_map change (thread_in v t)) }) (record s { members = with_record t change s.members })
recorded_stands t change m v s kept stands w = record {
  settings = stands.settings;
  line = stands.line;
  balance_word = stands.balance_word;
  current = stands.current ∙ current_recorded v.cpu t change s.members kept;
  load = stands.load ∙ sym (load-with_record v.cpu t change s.members);
  slots = length-set v.threads t (option_map change (thread_in v t)) ∙ stands.slots;
  threads = threads_recorded v.cpu t change m s.members v.threads kept w stands.slots stands.threads;
  queues = by_kind (λ k. ShowsQueue (queue_of k new) v.cpu k (with_record t change s.members)) (shown Real) (shown Batch) (shown Idle);
  index = stands.index;
}
  where
    new : CpuValue
    new = record v { threads = slice_set v.threads t (option_map change (thread_in v t)) }

    shown : (k : Kind) → ShowsQueue (queue_of k v) v.cpu k (with_record t change s.members)
    shown k = shows-with_record (queue_of k v) v.cpu k s.members t change kept (stands.queues k)

-- a change of the record of a thread on no CPU leaves what a value stands for
pub elsewhere_recorded : (t : ℕ) (change : ThreadRecord → ThreadRecord) (m : Member) (v : CpuValue) (s : Side) →
    ((r : ThreadRecord) → (change r).id ≡ r.id) → StandsFor v s → Within t m s.members → is_on v.cpu m.place ≡ false →
    (thread_in v t ≡ None) × StandsFor v (record s { members = with_record t change s.members })
elsewhere_recorded t change m v s kept stands w off = (
  none,
  subst (λ (threads : List (Option ThreadRecord)). StandsFor (record v { threads = threads }) (record s { members = with_record t change s.members }))
      (ap (λ (o : Option ThreadRecord). slice_set v.threads t (option_map change o)) none
      ∙ ap (λ (o : Option ThreadRecord). slice_set v.threads t o) (sym none) ∙ set-get_or v.threads t None)
      (recorded_stands t change m v s kept stands w),
)
  where
    none : thread_in v t ≡ None
    none =
        stands.threads t ∙ ap (option_map (λ (x : Member). x.thread))
        (thread_on_within v.cpu t m s.members w ∙ ap (λ d. if d then Some m else None) off)

-- a thread's record goes through a change at one time, on the value and on the side
pub changed_stands : (now t : ℕ) (change : RecordChange) (m : Member) (v : CpuValue) (s : Side) → StandsFor v s → Within t m s.members →
    StandsFor (with_thread_after now t change v) (record s { members = with_change s.settings now t change s.members })
changed_stands now t change m v s stands w =
    subst (λ (settings : Settings). StandsFor (with_thread_after now t change v) (record s { members = with_change settings now t change s.members })) stands.settings
    (recorded_stands t (record_after v.settings now change) m v s (change_number v.settings now change) stands w)

-- ---- the choice

-- what choosing gives, on the value and on the side
pub record AreChosen (v : CpuValue) (made : CpuValue × Option ℕ) (meant : Side × Option ℕ) : Type 0 where
  pub stands : StandsFor made.0 meant.0
  pub answer : made.1 ≡ meant.1
  pub well_made : IsWellMade meant.0.members
  pub cpu : made.0.cpu ≡ v.cpu

-- a CPU with no current thread has none in the world
none_from_ids : (o : Option Member) → option_map (λ m. m.thread.id) o ≡ None → o ≡ None
none_from_ids None none = refl
none_from_ids (Some m) none = cc

-- taking a thread out of a queue leaves the CPU's number
pub removed_cpu : (k : Kind) (t : ℕ) (v : CpuValue) → (removed_from k t v).cpu ≡ v.cpu
removed_cpu Real t v = refl
removed_cpu Batch t v = refl
removed_cpu Idle t v = refl

-- taking a thread out of a queue leaves the CPU's current thread
removed_current : (k : Kind) (t : ℕ) (v : CpuValue) → (removed_from k t v).current ≡ v.current
removed_current Real t v = refl
removed_current Batch t v = refl
removed_current Idle t v = refl

-- a queued thread runs, on the value and on the side, where no thread ran
running_stands : (now : ℕ) (k : Kind) (b : ℕ) (m : Member) (v : CpuValue) (s : Side) → StandsFor v s → IsWellMade s.members →
    Within m.thread.id m s.members → m.place ≡ Queued v.cpu k b → v.current ≡ None →
    AreChosen v (with_current now k m.thread.id v, Some m.thread.id) (put_running v.cpu now m (lifted v.cpu m s), Some m.thread.id)
running_stands now k b m v s stands made w place none =
    record { stands = after; answer = refl; well_made = well_made-with_change s.settings now t runs moved tt still; cpu = removed_cpu k t v }
  where
    t : ℕ
    t = m.thread.id

    out : CpuValue
    out = removed_from k t v

    moved : List Member
    moved = moved_to t (Running v.cpu) (pos 0) s.members

    n : Member
    n = record m { place = Running v.cpu; order = pos 0 }

    beside : StandsBeside m out (lifted v.cpu m s) (w.before ++ w.after)
    beside = lifted_stands k b m v s w stands place

    idle : current_of out.cpu (w.before ++ w.after) ≡ None
    idle = none_from_ids (current_of out.cpu (w.before ++ w.after)) (sym beside.current ∙ removed_current k t v ∙ none)

    still : IsWellMade moved
    still = well_made_running t m s.members w v.cpu (pos 0) (subst (λ (c : ℕ). current_of c (w.before ++ w.after) ≡ None) (removed_cpu k t v) idle)

    within : Within t n moved
    within = within_thread t moved n still (thread_of-changed t m s.members w (λ x. record x { place = Running v.cpu; order = pos 0 }) refl)

    put : StandsFor (record out { current = Some t }) (record (lifted v.cpu m s) { members = moved })
    put =
        subst (λ (c : ℕ). StandsFor (record out { current = Some t }) (record (lifted v.cpu m s) { members = moved_to t (Running c) (pos 0) s.members }))
        (removed_cpu k t v) (running_put m out (lifted v.cpu m s) w beside idle)

    after : StandsFor (with_current now k t v) (put_running v.cpu now m (lifted v.cpu m s))
    after = changed_stands now t runs n (record out { current = Some t }) (record (lifted v.cpu m s) { members = moved }) put within

-- the next thread is chosen, on the value and on the side
pub choosing_stands : (now : ℕ) (v : CpuValue) (s : Side) → StandsFor v s → IsWellMade s.members → v.current ≡ None →
    AreChosen v (chosen_next now v) (choosing_next v.cpu now s)
choosing_stands now v s stands made none =
    look (first_in v) (choice_of v.cpu s.line.ridx s.members) (choices_agree v s stands made)
  where
    look : (first : Option (Kind × ℕ)) (choice : Option Member) → Agrees v.cpu s.members first choice →
        AreChosen v (current_chosen now first v) (running_chosen v.cpu now choice s)
    look None None agrees = record { stands = stands; answer = refl; well_made = made; cpu = refl }
    look None (Some m) agrees = absurd agrees
    look (Some first) None agrees = absurd agrees
    look (Some first) (Some m) agrees =
        subst (λ (t : ℕ). AreChosen v (with_current now first.0 t v, Some t) (put_running v.cpu now m (lifted v.cpu m s), Some m.thread.id)) agrees.number
        (running_stands now first.0 agrees.bucket m v s stands made
        (within_thread m.thread.id s.members m made (ap (λ (u : ℕ). thread_of u s.members) agrees.number ∙ agrees.found)) agrees.place none)

-- A CPU's value beside one thread: how a thread is lifted out of what the value stands for, running, queued or
-- absent, and how it is put back, to run, to wait, or away.
use Rattle.std.proofs.Common.{◌≡◌, ◌≢◌, ℕ, ◌+◌, ◌-◌, ◌%◌, ◌<◌, ◌==◌, ℤ, pos, Bool, true, false, cond, not, ◌&&◌, List, ◌++◌, length, slice_index_or, slice_set, if◌then◌else◌, Some, None, ⊎_elim, refl, sym, ◌∙◌, ap, subst, arith, length-set, get_or-set_same, get_or-set_other}
use Rattle.std.specs.List.{AllByRecursion}
use Rattle.std.specs.Option.{option_map}
use Rattle.std.proofs.lemmas.Bool.{cases_eq, eq-eqb, ne_eqb, and_left, and_right, or_parts, or_left, or_right, both_ways, false_from_ne_true}
use Rattle.ule_prio.specs.declared.kind.Kind.{Kind}
use Rattle.ule_prio.specs.declared.kind.Kind.TheVariants.{Real, Batch, Idle}
use Rattle.ule_runq.specs.Runq.{is_empty_at, without}
use Rattle.ule_score.specs.declared.place.Place.{Place}
use Rattle.ule_score.specs.declared.place.Place.TheVariants.{Running, Queued, Asleep, Unborn, Gone, Hand}
use Rattle.ule_score.specs.declared.record.CpuLine.{CpuLine}
use Rattle.ule_model.specs.CalendarIndexes.{ridx_after_removal}
use Rattle.ule_model.specs.CpuValue.{CpuValue, StandsFor, queue_of, thread_in, thread_on, removed_from, with_queue}
use Rattle.ule_model.specs.Places.{rank_of, is_kind, runs_on, waits_on, waits_in, is_on}
use Rattle.ule_model.specs.Shows.{ShowsQueue}
use Rattle.ule_model.specs.Switch.{after_batch_removal, after_leaving, after_queue_removal, lifted}
use Rattle.ule_model.specs.Tick.{load_of}
use Rattle.ule_model.specs.World.{Member, Side, current_of, is_numbered, moved_to, others}
use Rattle.ule_laws.proofs.Buckets.{IsOut, empty_shown, shows-changed, shows-others, shows-without}
use Rattle.ule_laws.proofs.QueueKinds.{by_kind, each_queue, removed_whole}
use Rattle.ule_laws.proofs.PlaceLaws.{waits_on_place}
use Rattle.ule_members.proofs.Loads.{load-within, load-changed}
use Rattle.ule_members.proofs.Threads.{find_nowhere, find_only, find_skips, no_other_runs, none_passes, thread_on_within, thread_on-changed}
use Rattle.ule_members.proofs.Within.{Within, all-append, all_back, all_front, changed_within}
use Rattle.ule_members.proofs.Apart.{waits_on_where}
use Rattle.ule_members.proofs.Moves.{others_within}

-- this value is CPU v.cpu's side of a world but for thread m: the value has its record, counts it, and has
-- it in no place; these are the other threads
pub record StandsBeside (m : Member) (v : CpuValue) (s : Side) (rest : List Member) : Type 0 where
  pub settings : v.settings ≡ s.settings
  pub line : v.line ≡ s.line
  pub balance_word : v.cpu ≡ 0 → v.balance_word ≡ s.balance_word
  pub current : v.current ≡ option_map (λ n. n.thread.id) (current_of v.cpu rest)
  pub load : v.load ≡ load_of v.cpu rest + 1
  pub slots : length v.threads ≡ 256
  pub own : thread_in v m.thread.id ≡ Some m.thread
  pub threads : (u : ℕ) → u ≢ m.thread.id → thread_in v u ≡ option_map (λ n. n.thread) (thread_on v.cpu u rest)
  pub queues : (k : Kind) → ShowsQueue (queue_of k v) v.cpu k rest
  pub index : v.line.ridx < 64

-- ---- places

-- a place where a thread runs is in no bucket
pub running_out : (c d : ℕ) (k : Kind) (p : Place) → runs_on c p ≡ true → IsOut d k p
running_out c d k (Running e) runs b = refl
running_out c d k (Queued e j f) runs b = absurd (both_ways false refl runs)
running_out c d k (Asleep channel) runs b = refl
running_out c d k Unborn runs b = refl
running_out c d k Gone runs b = refl
running_out c d k (Hand h) runs b = refl

-- a place on another CPU, or on none, is in no bucket of this one
pub off_out : (c : ℕ) (k : Kind) (p : Place) → is_on c p ≡ false → IsOut c k p
off_out c k p off b =
    false_from_ne_true (waits_in c k b p)
    (λ here. both_ways (waits_on c p) (or_parts (runs_on c p) (waits_on c p) off).1 (waits_on_where c k b p here))

-- a place in one queue of a CPU is in no other
pub other_out : (c : ℕ) (j k : Kind) (b : ℕ) (p : Place) → p ≡ Queued c k b → rank_of j ≢ rank_of k → IsOut c j p
other_out c j k b p is apart e =
    ap (waits_in c j e) is ∙
    and_right (c == c) (is_kind j k && (e == b)) (and_left (is_kind j k) (e == b) (ne_eqb (rank_of j) (rank_of k) apart))

-- a place in a queue is no place where a thread runs
pub queued_idle : (c : ℕ) (k : Kind) (b : ℕ) (p : Place) → p ≡ Queued c k b → runs_on c p ≡ false
queued_idle c k b p is = ap (runs_on c) is

-- ---- what the lifts share

-- the records of the other threads
beside_threads : (m : Member) (v : CpuValue) (s : Side) (w : Within m.thread.id m s.members) → StandsFor v s → (u : ℕ) → u ≢ m.thread.id →
    thread_in v u ≡ option_map (λ n. n.thread) (thread_on v.cpu u (w.before ++ w.after))
beside_threads m v s w stands u apart =
    stands.threads u ∙ ap (option_map (λ (n : Member). n.thread))
    (ap (thread_on v.cpu u) w.whole ∙
    find_skips (λ n. is_numbered u n && is_on v.cpu n.place) w.before m w.after
    (and_left (is_numbered u m) (is_on v.cpu m.place) (ne_eqb m.thread.id u (λ e. apart (sym e)))))

-- the load counts the other threads, and this one where it is on the CPU
beside_load : (m : Member) (v : CpuValue) (s : Side) (w : Within m.thread.id m s.members) (d : Bool) → StandsFor v s → is_on v.cpu m.place ≡ d →
    v.load ≡ cond d 1 0 + load_of v.cpu (w.before ++ w.after)
beside_load m v s w d stands on =
    stands.load ∙ load-within v.cpu m.thread.id m s.members w ∙ ap (λ (e : Bool). cond e 1 0 + load_of v.cpu (w.before ++ w.after)) on

-- the record of a thread on the CPU
beside_own : (m : Member) (v : CpuValue) (s : Side) (w : Within m.thread.id m s.members) → StandsFor v s → is_on v.cpu m.place ≡ true →
    thread_in v m.thread.id ≡ Some m.thread
beside_own m v s w stands on =
    stands.threads m.thread.id ∙ ap (option_map (λ (n : Member). n.thread))
    (thread_on_within v.cpu m.thread.id m s.members w ∙ ap (λ d. if d then Some m else None) on)

-- the current thread of the CPU is among the others of one that doesn't run
beside_current : (m : Member) (v : CpuValue) (s : Side) (w : Within m.thread.id m s.members) → StandsFor v s → runs_on v.cpu m.place ≡ false →
    v.current ≡ option_map (λ n. n.thread.id) (current_of v.cpu (w.before ++ w.after))
beside_current m v s w stands idle =
    stands.current ∙ ap (option_map (λ (n : Member). n.thread.id))
    (ap (current_of v.cpu) w.whole ∙ find_skips (λ n. runs_on v.cpu n.place) w.before m w.after idle)

-- ---- the three lifts

-- the current thread is lifted: the CPU has none
pub running_lifted : (m : Member) (v : CpuValue) (s : Side) (w : Within m.thread.id m s.members) → StandsFor v s → runs_on v.cpu m.place ≡ true →
    StandsBeside m (record v { current = None }) s (w.before ++ w.after)
running_lifted m v s w stands runs = record {
  settings = stands.settings;
  line = stands.line;
  balance_word = stands.balance_word;
  current =
      ap (option_map (λ (n : Member). n.thread.id))
      (sym (find_nowhere (λ n. runs_on v.cpu n.place) (w.before ++ w.after)
      (all-append (λ n. runs_on v.cpu n.place ≡ false) w.before w.after
      (no_other_runs v.cpu m w.before w.apart_before runs) (no_other_runs v.cpu m w.after w.apart_after runs))));
  load = (let load : v.load ≡ 1 + load_of v.cpu (w.before ++ w.after) = beside_load m v s w true stands on in omega arith);
  slots = stands.slots;
  own = beside_own m v s w stands on;
  threads = beside_threads m v s w stands;
  queues = by_kind (λ k. ShowsQueue (queue_of k (record v { current = None })) v.cpu k (w.before ++ w.after)) (shown Real) (shown Batch) (shown Idle);
  index = stands.index;
}
  where
    on : is_on v.cpu m.place ≡ true
    on = or_left (runs_on v.cpu m.place) (waits_on v.cpu m.place) runs

    shown : (k : Kind) → ShowsQueue (queue_of k v) v.cpu k (w.before ++ w.after)
    shown k = shows-others (queue_of k v) v.cpu k m.thread.id m s.members w (running_out v.cpu v.cpu k m.place runs) (stands.queues k)

-- the numbers of a CPU after a thread left its queue of a kind, by the others that are left
removed_line : (k : Kind) (m : Member) (v : CpuValue) (s : Side) (w : Within m.thread.id m s.members) → StandsFor v s →
    (removed_from k m.thread.id v).line ≡ after_queue_removal k v.cpu s.line (w.before ++ w.after)
removed_line Real m v s w stands = stands.line
removed_line Batch m v s w stands =
    ap (λ d. record v.line { ridx = ridx_after_removal v.line.idx v.line.ridx d })
    (sym (empty_shown (without m.thread.id v.batch) v.cpu Batch (w.before ++ w.after) v.line.ridx stands.index
    (shows-without v.batch v.cpu Batch m.thread.id m s.members w (stands.queues Batch)))) ∙
    ap (λ (line : CpuLine). after_batch_removal v.cpu line (w.before ++ w.after)) stands.line
removed_line Idle m v s w stands = stands.line

-- the removal index stays that of a bucket where a thread leaves its queue
removed_index : (k : Kind) (t : ℕ) (v : CpuValue) → v.line.ridx < 64 → (removed_from k t v).line.ridx < 64
removed_index Real t v small = small
removed_index Batch t v small = step (not (v.line.idx == v.line.ridx) && is_empty_at (without t v.batch) v.line.ridx)
  where
    step : (d : Bool) → (if d then (v.line.ridx + 1) % 64 else v.line.ridx) < 64
    step true = omega arith
    step false = small
removed_index Idle t v small = small

-- a queued thread is taken out of its queue, by the index rule, on the value and on the side
pub lifted_stands : (k : Kind) (b : ℕ) (m : Member) (v : CpuValue) (s : Side) (w : Within m.thread.id m s.members) → StandsFor v s →
    m.place ≡ Queued v.cpu k b → StandsBeside m (removed_from k m.thread.id v) (lifted v.cpu m s) (w.before ++ w.after)
lifted_stands k b m v s w stands place =
    subst (λ (u : CpuValue). StandsBeside m u (lifted v.cpu m s) (w.before ++ w.after)) (sym (removed_whole k t v)) (record {
      settings = stands.settings;
      line = removed_line k m v s w stands ∙ sym left_line;
      balance_word = stands.balance_word;
      current = beside_current m v s w stands (queued_idle v.cpu k b m.place place);
      load = (let load : v.load ≡ 1 + load_of v.cpu (w.before ++ w.after) = beside_load m v s w true stands on in omega arith);
      slots = stands.slots;
      own = beside_own m v s w stands on;
      threads = beside_threads m v s w stands;
      queues = by_kind (λ j. ShowsQueue (queue_of j whole) v.cpu j (w.before ++ w.after)) (shown Real) (shown Batch) (shown Idle);
      index = removed_index k t v stands.index;
    })
  where
    t : ℕ
    t = m.thread.id

    q : List (List ℕ)
    q = without t (queue_of k v)

    whole : CpuValue
    whole = record v {
      real = queue_of Real (with_queue k q v);
      batch = queue_of Batch (with_queue k q v);
      idle = queue_of Idle (with_queue k q v);
      line = (removed_from k t v).line;
    }

    on : is_on v.cpu m.place ≡ true
    on = or_right (runs_on v.cpu m.place) (waits_on v.cpu m.place) (waits_on_place v.cpu k b m.place place)

    left_line : after_leaving m.place v.cpu s.line (others t s.members) ≡ after_queue_removal k v.cpu s.line (w.before ++ w.after)
    left_line =
        ap (λ (p : Place). after_leaving p v.cpu s.line (others t s.members)) place ∙
        ap (after_queue_removal k v.cpu s.line) (others_within t m s.members w)

    shown : (j : Kind) → ShowsQueue (queue_of j (with_queue k q v)) v.cpu j (w.before ++ w.after)
    shown =
        each_queue (λ j lists. ShowsQueue lists v.cpu j (w.before ++ w.after)) k q v
        (shows-without (queue_of k v) v.cpu k t m s.members w (stands.queues k))
        (λ j apart. shows-others (queue_of j v) v.cpu j t m s.members w (other_out v.cpu j k b m.place place apart) (stands.queues j))

-- an absent thread is taken in: the CPU has its record and counts it
pub absent_lifted : (m : Member) (v : CpuValue) (s : Side) (w : Within m.thread.id m s.members) → StandsFor v s → is_on v.cpu m.place ≡ false →
    StandsBeside m (record v { threads = slice_set v.threads m.thread.id (Some m.thread); load = v.load + 1 }) s (w.before ++ w.after)
absent_lifted m v s w stands off = record {
  settings = stands.settings;
  line = stands.line;
  balance_word = stands.balance_word;
  current = beside_current m v s w stands (or_parts (runs_on v.cpu m.place) (waits_on v.cpu m.place) off).0;
  load = (let load : v.load ≡ 0 + load_of v.cpu (w.before ++ w.after) = beside_load m v s w false stands off in omega arith);
  slots = length-set v.threads m.thread.id (Some m.thread) ∙ stands.slots;
  own = get_or-set_same v.threads m.thread.id (Some m.thread) None (let slots = stands.slots in let small = w.made.numbers.id in omega arith);
  threads = λ u apart. get_or-set_other v.threads m.thread.id u (Some m.thread) None apart ∙ beside_threads m v s w stands u apart;
  queues = by_kind (λ k. ShowsQueue (queue_of k taken_in) v.cpu k (w.before ++ w.after)) (shown Real) (shown Batch) (shown Idle);
  index = stands.index;
}
  where
    taken_in : CpuValue
    taken_in = record v { threads = slice_set v.threads m.thread.id (Some m.thread); load = v.load + 1 }

    shown : (k : Kind) → ShowsQueue (queue_of k v) v.cpu k (w.before ++ w.after)
    shown k = shows-others (queue_of k v) v.cpu k m.thread.id m s.members w (off_out v.cpu k m.place off) (stands.queues k)

-- ---- what the puts share

-- the records once the thread stands at a place on the CPU
pub put_threads : (m : Member) (v : CpuValue) (s : Side) (w : Within m.thread.id m s.members) → StandsBeside m v s (w.before ++ w.after) →
    (place : Place) (order : ℤ) → is_on v.cpu place ≡ true → (u : ℕ) →
    thread_in v u ≡ option_map (λ n. n.thread) (thread_on v.cpu u (moved_to m.thread.id place order s.members))
put_threads m v s w beside place order on u = ⊎_elim same other (cases_eq u t)
  where
    t : ℕ
    t = m.thread.id

    moved : List Member
    moved = moved_to t place order s.members

    same : u ≡ t → thread_in v u ≡ option_map (λ n. n.thread) (thread_on v.cpu u moved)
    same is =
        subst (λ (i : ℕ). thread_in v i ≡ option_map (λ n. n.thread) (thread_on v.cpu i moved)) (sym is)
        (beside.own ∙ ap (option_map (λ (n : Member). n.thread))
        (sym (thread_on-changed v.cpu t m s.members w (λ n. record n { place = place; order = order }) refl ∙
        ap (λ d. if d then Some (record m { place = place; order = order }) else None) on)))

    other : (u ≡ t → ⊥) → thread_in v u ≡ option_map (λ n. n.thread) (thread_on v.cpu u moved)
    other apart =
        beside.threads u apart ∙ ap (option_map (λ (n : Member). n.thread))
        (sym (ap (thread_on v.cpu u) (changed_within t m s.members w (λ n. record n { place = place; order = order })) ∙
        find_skips (λ n. is_numbered u n && is_on v.cpu n.place) w.before (record m { place = place; order = order }) w.after
        (and_left (is_numbered u m) (is_on v.cpu place) (ne_eqb t u (λ e. apart (sym e))))))

-- the load once the thread stands at a place
pub put_load : (m : Member) (v : CpuValue) (s : Side) (w : Within m.thread.id m s.members) (place : Place) (order : ℤ) (d : Bool) → is_on v.cpu place ≡ d →
    load_of v.cpu (moved_to m.thread.id place order s.members) ≡ cond d 1 0 + load_of v.cpu (w.before ++ w.after)
put_load m v s w place order d on =
    load-changed v.cpu m.thread.id m s.members w (λ n. record n { place = place; order = order }) ∙
    ap (λ (e : Bool). cond e 1 0 + load_of v.cpu (w.before ++ w.after)) on

-- the current thread once the thread stands at a place where it doesn't run
pub put_current : (m : Member) (v : CpuValue) (s : Side) (w : Within m.thread.id m s.members) → StandsBeside m v s (w.before ++ w.after) →
    (place : Place) (order : ℤ) → runs_on v.cpu place ≡ false →
    v.current ≡ option_map (λ n. n.thread.id) (current_of v.cpu (moved_to m.thread.id place order s.members))
put_current m v s w beside place order idle =
    beside.current ∙ ap (option_map (λ (n : Member). n.thread.id))
    (sym (ap (current_of v.cpu) (changed_within m.thread.id m s.members w (λ n. record n { place = place; order = order })) ∙
    find_skips (λ n. runs_on v.cpu n.place) w.before (record m { place = place; order = order }) w.after idle))

-- ---- two of the three puts

-- the thread runs on the CPU, where no other does
pub running_put : (m : Member) (v : CpuValue) (s : Side) (w : Within m.thread.id m s.members) → StandsBeside m v s (w.before ++ w.after) →
    current_of v.cpu (w.before ++ w.after) ≡ None →
    StandsFor (record v { current = Some m.thread.id }) (record s { members = moved_to m.thread.id (Running v.cpu) (pos 0) s.members })
running_put m v s w beside none = record {
  settings = beside.settings;
  line = beside.line;
  balance_word = beside.balance_word;
  current = sym (ap (option_map (λ (n : Member). n.thread.id)) found);
  load = (let load = beside.load in let put = put_load m v s w (Running v.cpu) (pos 0) true here in omega arith);
  slots = beside.slots;
  threads = put_threads m v s w beside (Running v.cpu) (pos 0) here;
  queues = by_kind (λ k. ShowsQueue (queue_of k (record v { current = Some m.thread.id })) v.cpu k moved) (shown Real) (shown Batch) (shown Idle);
  index = beside.index;
}
  where
    moved : List Member
    moved = moved_to m.thread.id (Running v.cpu) (pos 0) s.members

    here : is_on v.cpu (Running v.cpu) ≡ true
    here = or_left (v.cpu == v.cpu) false (eq-eqb v.cpu v.cpu refl)

    found : current_of v.cpu moved ≡ Some (record m { place = Running v.cpu; order = pos 0 })
    found =
        let idle : AllByRecursion (λ n. runs_on v.cpu n.place ≡ false) (w.before ++ w.after) =
        none_passes (λ n. runs_on v.cpu n.place) (w.before ++ w.after) none in
        ap (current_of v.cpu) (changed_within m.thread.id m s.members w (λ n. record n { place = Running v.cpu; order = pos 0 })) ∙
        find_only (λ n. runs_on v.cpu n.place) w.before (record m { place = Running v.cpu; order = pos 0 }) w.after
        (all_front (λ n. runs_on v.cpu n.place ≡ false) w.before w.after idle) (all_back (λ n. runs_on v.cpu n.place ≡ false) w.before w.after idle) ∙
        ap (λ d. if d then Some (record m { place = Running v.cpu; order = pos 0 }) else None) (eq-eqb v.cpu v.cpu refl)

    shown : (k : Kind) → ShowsQueue (queue_of k v) v.cpu k moved
    shown k =
        shows-changed (queue_of k v) v.cpu k m.thread.id m s.members w (λ n. record n { place = Running v.cpu; order = pos 0 }) (λ b. refl) (beside.queues k)

-- the thread goes away from the CPU, which gives up its record
pub gone_put : (m : Member) (v : CpuValue) (s : Side) (w : Within m.thread.id m s.members) → StandsBeside m v s (w.before ++ w.after) →
    (place : Place) (order : ℤ) → is_on v.cpu place ≡ false →
    StandsFor (record v { threads = slice_set v.threads m.thread.id None; load = v.load - 1 })
    (record s { members = moved_to m.thread.id place order s.members })
gone_put m v s w beside place order off = record {
  settings = beside.settings;
  line = beside.line;
  balance_word = beside.balance_word;
  current = put_current m v s w beside place order (or_parts (runs_on v.cpu place) (waits_on v.cpu place) off).0;
  load = (let load = beside.load in let put = put_load m v s w place order false off in omega arith);
  slots = length-set v.threads t None ∙ beside.slots;
  threads = λ u. ⊎_elim (same u) (other u) (cases_eq u t);
  queues = by_kind (λ k. ShowsQueue (queue_of k let_go) v.cpu k moved) (shown Real) (shown Batch) (shown Idle);
  index = beside.index;
}
  where
    t : ℕ
    t = m.thread.id

    moved : List Member
    moved = moved_to t place order s.members

    let_go : CpuValue
    let_go = record v { threads = slice_set v.threads t None; load = v.load - 1 }

    same : (u : ℕ) → u ≡ t → slice_index_or (slice_set v.threads t None) u None ≡ option_map (λ n. n.thread) (thread_on v.cpu u moved)
    same u is =
        subst (λ (i : ℕ). slice_index_or (slice_set v.threads t None) i None ≡ option_map (λ n. n.thread) (thread_on v.cpu i moved)) (sym is)
        (get_or-set_same v.threads t None None (let slots = beside.slots in let small = w.made.numbers.id in omega arith) ∙
        ap (option_map (λ (n : Member). n.thread))
        (sym (thread_on-changed v.cpu t m s.members w (λ n. record n { place = place; order = order }) refl ∙
        ap (λ d. if d then Some (record m { place = place; order = order }) else None) off)))

    other : (u : ℕ) → (u ≡ t → ⊥) → slice_index_or (slice_set v.threads t None) u None ≡ option_map (λ n. n.thread) (thread_on v.cpu u moved)
    other u apart =
        get_or-set_other v.threads t u None None apart ∙ beside.threads u apart ∙ ap (option_map (λ (n : Member). n.thread))
        (sym (ap (thread_on v.cpu u) (changed_within t m s.members w (λ n. record n { place = place; order = order })) ∙
        find_skips (λ n. is_numbered u n && is_on v.cpu n.place) w.before (record m { place = place; order = order }) w.after
        (and_left (is_numbered u m) (is_on v.cpu place) (ne_eqb t u (λ e. apart (sym e))))))

    shown : (k : Kind) → ShowsQueue (queue_of k v) v.cpu k moved
    shown k = shows-changed (queue_of k v) v.cpu k t m s.members w (λ n. record n { place = place; order = order }) (off_out v.cpu k place off) (beside.queues k)

-- The thread that the queues of a CPU give to another CPU.
use Rattle.std.proofs.Common.{◌≡◌, ℕ, Bool, true, false, Option, Some, None, List, if◌then◌else◌, refl, sym, ◌∙◌, ap, subst, arith, true≢false}
use Rattle.std.specs.Prelude.{IfSome, IsSome, IsTrue, option_and_then}
use Rattle.std.specs.Option.{option_map}
use Rattle.std.proofs.lemmas.Bool.{eqb-false, ne_eqb}
use Rattle.ule_prio.specs.declared.kind.Kind.{Kind}
use Rattle.ule_prio.specs.declared.kind.Kind.TheVariants.{Real, Batch, Idle}
use Rattle.ule_score.specs.declared.place.Place.{Place}
use Rattle.ule_score.specs.declared.place.Place.TheVariants.{Running, Queued}
use Rattle.ule_score.specs.declared.record.ThreadRecord.{ThreadRecord}
use Rattle.ule_threads.specs.declared.standing.Standing.{Standing}
use Rattle.ule_runq.specs.Runq.{place_in, times}
use Rattle.ule_runq.proofs.RunqLaws.{place_of_present}
use Rattle.ule_model.specs.CpuChange.{kind_if, kind_queued}
use Rattle.ule_model.specs.CpuNumbers.{is_movable, is_unbound}
use Rattle.ule_model.specs.CpuValue.{CpuValue, current_place, first_found, queued_place, thread_in, value_place}
use Rattle.ule_model.specs.LockValue.{found_on}
use Rattle.ule_model.specs.Places.{is_number}
use Rattle.ule_model.specs.Steal.{given_by, is_movable_on, stolen_in}
use Rattle.ule_model.specs.World.{Member, standing_of}
use Rattle.ule_laws.proofs.GivenStands.{given_stands, movable_thread_stands}
use Rattle.ule_tdq.specs.Cpu.{IsRecordOf, KeepsCpu}
use Rattle.ule_tdq.specs.Stands.{Tells, given_on}
use Rattle.ule_tdq.proofs.MovableLaws.{but_at}

-- ---- a thread that stands in a queue

-- a kind is found where one of the three queues has a place of the thread
abbrev pub HasKind : Option (ℕ × ℕ) → Option (ℕ × ℕ) → Option (ℕ × ℕ) → Type 0
HasKind real batch idle = IsSome (first_found (kind_if Real real) (first_found (kind_if Batch batch) (kind_if Idle idle)))

found_in_real : (a b c : Option (ℕ × ℕ)) → IsSome a → HasKind a b c
found_in_real (Some x) b c there = refl
found_in_real None b c there = absurd (true≢false (sym there))

found_in_batch : (a b c : Option (ℕ × ℕ)) → IsSome b → HasKind a b c
found_in_batch (Some x) b c there = refl
found_in_batch None (Some y) c there = refl
found_in_batch None None c there = absurd (true≢false (sym there))

found_in_idle : (a b c : Option (ℕ × ℕ)) → IsSome c → HasKind a b c
found_in_idle (Some x) b c there = refl
found_in_idle None (Some y) c there = refl
found_in_idle None None (Some z) there = refl
found_in_idle None None None there = absurd (true≢false (sym there))

-- a thread that stands in a queue has a place there
has_place : (q : List (List ℕ)) (t : ℕ) → times q t ≡ 1 → IsSome (place_in q t)
has_place q t once = let at = place_of_present q t (omega arith) in subst IsSome (sym at.1.1) refl

pub stands_in_real : (real batch idle : List (List ℕ)) (t : ℕ) → times real t ≡ 1 → HasKind (place_in real t) (place_in batch t) (place_in idle t)
stands_in_real real batch idle t once = found_in_real (place_in real t) (place_in batch t) (place_in idle t) (has_place real t once)

pub stands_in_batch : (real batch idle : List (List ℕ)) (t : ℕ) → times batch t ≡ 1 → HasKind (place_in real t) (place_in batch t) (place_in idle t)
stands_in_batch real batch idle t once = found_in_batch (place_in real t) (place_in batch t) (place_in idle t) (has_place batch t once)

pub stands_in_idle : (real batch idle : List (List ℕ)) (t : ℕ) → times idle t ≡ 1 → HasKind (place_in real t) (place_in batch t) (place_in idle t)
stands_in_idle real batch idle t once = found_in_idle (place_in real t) (place_in batch t) (place_in idle t) (has_place idle t once)

pub if_stands_in_idle : (real batch idle : List (List ℕ)) (o : Option ℕ) → IfSome o (λ t. times idle t ≡ 1) →
    IfSome o (λ t. HasKind (place_in real t) (place_in batch t) (place_in idle t))
if_stands_in_idle real batch idle None once = tt
if_stands_in_idle real batch idle (Some t) once = stands_in_idle real batch idle t once

-- ---- which threads are movable

-- whether a thread may be moved
pub movable_tells : (v : CpuValue) (t : ℕ) (told : Bool) → told ≡ is_movable v t → Tells v told (λ s. is_movable_on v.cpu s.members t)
movable_tells v t told told_is = record { each = λ s made stands. told_is ∙ movable_thread_stands v s stands made t }

-- ---- a movable thread that a queue has

-- a queue of the CPU has thread t, with this record
pub record IsFoundQueued (v : CpuValue) (t : ℕ) : Type 0 where
  pub thread : ThreadRecord
  pub kind : Kind
  pub bucket : ℕ
  pub record_is : thread_in v t ≡ Some thread
  pub queued : kind_queued v t ≡ Some kind
  pub found : found_on v t ≡ Some (record { thread = thread; place = Queued v.cpu kind bucket })

-- where a thread that is not the current one has a place in a queue, it is found there
placed_queued : (c : ℕ) (a b i : Option (ℕ × ℕ)) → HasKind a b i →
    (k : Kind) × (at : ℕ × ℕ) × (first_found (kind_if Real a) (first_found (kind_if Batch b) (kind_if Idle i)) ≡ Some k) ×
    (first_found (queued_place c Real a) (first_found (queued_place c Batch b) (queued_place c Idle i)) ≡ Some (Queued c k at.0, at.1))
placed_queued c (Some x) b i there = (Real, x, refl, refl)
placed_queued c None (Some y) i there = (Batch, y, refl, refl)
placed_queued c None None (Some z) there = (Idle, z, refl, refl)
placed_queued c None None None there = absurd (true≢false (sym there))

-- a movable thread isn't the current one, and has a record
movable_apart : (current : Option ℕ) (t : ℕ) (o : Option ThreadRecord) → is_unbound (if is_number t current then None else o) ≡ true →
    (is_number t current ≡ false) × (r : ThreadRecord) × (o ≡ Some r)
movable_apart current t o movable = split (is_number t current) o refl movable
  where
    split : (d : Bool) (x : Option ThreadRecord) → is_number t current ≡ d → is_unbound (if d then None else x) ≡ true →
        (is_number t current ≡ false) × (r : ThreadRecord) × (x ≡ Some r)
    split true x is free = absurd (true≢false (sym free))
    split false None is free = absurd (true≢false (sym free))
    split false (Some r) is free = (is, r, refl)

-- a thread that isn't the current one doesn't run
not_running : (c : ℕ) (current : Option ℕ) (t : ℕ) → is_number t current ≡ false → current_place c current t ≡ None
not_running c None t apart = refl
not_running c (Some u) t apart =
    ap (λ (d : Bool). if d then Some (Running c, 0) else None)
    (ne_eqb u t (λ same. eqb-false t u apart (sym same)))

-- a movable thread that a queue has is found there
pub movable_found : (v : CpuValue) (t : ℕ) → is_movable v t ≡ true → IsSome (kind_queued v t) → IsFoundQueued v t
movable_found v t movable queued = record {
  thread = own.1;
  kind = at.0;
  bucket = at.1.0;
  record_is = own.2;
  queued = at.2;
  found =
      ap (λ (o : Option ThreadRecord). option_and_then (λ r. option_map (λ p. record { thread = r; place = p.0 }) (value_place v t)) o) own.2 ∙
      ap (option_map (λ (p : Place × ℕ). of_record p))
      (ap (λ (o : Option (Place × ℕ)). first_found o queues) (not_running v.cpu v.current t own.0) ∙ at.3);
}
  where
    own : (is_number t v.current ≡ false) × (r : ThreadRecord) × (thread_in v t ≡ Some r)
    own = movable_apart v.current t (thread_in v t) (ap is_unbound (sym (but_at v.current v.threads t)) ∙ movable)

    at : (k : Kind) × (p : ℕ × ℕ) × (kind_queued v t ≡ Some k) ×
        (first_found (queued_place v.cpu Real (place_in v.real t)) (first_found (queued_place v.cpu Batch (place_in v.batch t)) (queued_place v.cpu Idle (place_in v.idle t))) ≡ Some (Queued v.cpu k p.0, p.1))
    at = placed_queued v.cpu (place_in v.real t) (place_in v.batch t) (place_in v.idle t) queued

    queues : Option (Place × ℕ)
    queues = first_found (queued_place v.cpu Real (place_in v.real t)) (first_found (queued_place v.cpu Batch (place_in v.batch t)) (queued_place v.cpu Idle (place_in v.idle t)))

    of_record : Place × ℕ → Standing
    of_record p = record { thread = own.1; place = p.0 }

-- ---- the thread that is given

-- the number of a thread with its place, by the thread
numbers_alike : (o : Option Member) → option_map (λ (x : Standing). x.thread.id) (option_map standing_of o) ≡ option_map (λ m. m.thread.id) o
numbers_alike None = refl
numbers_alike (Some m) = refl

-- the thread that a CPU gives has its number
given_number : (v : CpuValue) → KeepsCpu v → (o : Option ℕ) → IfSome o (λ t. IsSome (kind_queued v t)) → IfSome o (λ t. IsTrue (is_movable v t)) →
    option_map (λ (x : Standing). x.thread.id) (option_and_then (found_on v) o) ≡ o
given_number v kept None queued movable = refl
given_number v kept (Some t) queued movable =
    let f = movable_found v t movable queued in
    let own : IsRecordOf t f.thread = subst (λ (x : Option ThreadRecord). IfSome x (IsRecordOf t)) f.record_is (kept.records t) in
    ap (option_map (λ (x : Standing). x.thread.id)) f.found ∙ ap (λ (n : ℕ). Some n) own.number

-- the thread that a CPU gives is the one that the side gives
pub steal_tells : (v : CpuValue) (told : Option ℕ) → KeepsCpu v → told ≡ stolen_in v → IfSome told (λ t. IsSome (kind_queued v t)) → IfSome told (λ t. IsTrue (is_movable v t)) →
    Tells v told (given_on v.cpu)
steal_tells v told kept told_is queued movable = record {
  each = λ s made stands.
      (sym (given_number v kept told queued movable) ∙ ap (λ (o : Option ℕ). option_map (λ (x : Standing). x.thread.id) (option_and_then (found_on v) o)) told_is ∙
      ap (option_map (λ (x : Standing). x.thread.id)) (given_stands v s stands made) ∙ numbers_alike (given_by v.cpu s));
}

-- A CPU has a place for each thread of which it has a record, and for no other.
use Rattle.std.proofs.Common.{◌≡◌, ℕ, zero, suc, ◌+◌, ◌==◌, ◌||◌, Bool, true, false, nat_lt, List, Option, Some, None, if◌then◌else◌, is_some, refl, sym, ap, ◌∙◌, arith}
use Rattle.std.specs.List.{position_or_len}
use Rattle.std.specs.Option.{option_map}
use Rattle.std.proofs.lemmas.Bool.Decides.{nat_tests}
use Rattle.ule_prio.specs.declared.kind.Kind.{Kind}
use Rattle.ule_prio.specs.declared.kind.Kind.TheVariants.{Real, Batch, Idle}
use Rattle.ule_score.specs.declared.place.Place.{Place}
use Rattle.ule_score.specs.declared.place.Place.TheVariants.{Queued, Running}
use Rattle.ule_score.specs.declared.record.ThreadRecord.{ThreadRecord}
use Rattle.ule_model.specs.CpuValue.{CpuValue, current_place, first_found, queued_place, thread_in, value_place}
use Rattle.ule_runq.specs.Runq.{bucket_in, list_at, place_in, times}
use Rattle.ule_runq.proofs.RunqLaws.{bucket_in-none, place_of_present}
use Rattle.ule_tdq.specs.Cpu.{once_if, times_current, times_on}

-- of two, one is there where either is
some_found : {X : Type 0} (a b : Option X) → is_some (first_found a b) ≡ (is_some a || is_some b)
some_found None b = refl
some_found (Some x) b = refl

some_mapped : {X Y : Type 0} (f : X → Y) (o : Option X) → is_some (option_map f o) ≡ is_some o
some_mapped f None = refl
some_mapped f (Some x) = refl

-- of two counts, the sum counts something where either does
either_counts : (a b : ℕ) → (nat_lt 0 a || nat_lt 0 b) ≡ nat_lt 0 (a + b)
either_counts a b = step (nat_lt 0 a) (nat_lt 0 b) refl refl
  where
    step : (x y : Bool) → x ≡ nat_lt 0 a → y ≡ nat_lt 0 b → (x || y) ≡ nat_lt 0 (a + b)
    step true y is other = grind (arith, nat_tests)
    step false y is other = grind (arith, nat_tests)

-- a queue has a place for each thread that stands in it
queue_has : (q : List (List ℕ)) (t : ℕ) → is_some (place_in q t) ≡ nat_lt 0 (times q t)
queue_has q t = split (times q t) refl
  where
    split : (n : ℕ) → times q t ≡ n → is_some (place_in q t) ≡ nat_lt 0 (times q t)
    split zero none =
        some_mapped (λ (b : ℕ). (b, position_or_len (λ u. u == t) (list_at q b))) (bucket_in q t) ∙
        (ap (λ (o : Option ℕ). is_some o) (bucket_in-none q t none) ∙ sym (ap (nat_lt 0) none))
    split (suc n) some =
        let found = place_of_present q t (omega arith) in
        let counted : true ≡ nat_lt 0 (times q t) = grind (arith, nat_tests) in
        ap (λ (o : Option (ℕ × ℕ)). is_some o) found.1.1 ∙ counted

queued_has : (c : ℕ) (k : Kind) (q : List (List ℕ)) (t : ℕ) → is_some (queued_place c k (place_in q t)) ≡ nat_lt 0 (times q t)
queued_has c k q t = some_mapped (λ f. (Queued c k f.0, f.1)) (place_in q t) ∙ queue_has q t

-- so does a CPU for its current thread
current_has : (c : ℕ) (o : Option ℕ) (t : ℕ) → is_some (current_place c o t) ≡ nat_lt 0 (times_current o t)
current_has c None t = refl
current_has c (Some u) t = split (u == t) (t == u) refl refl
  where
    split : (a b : Bool) → a ≡ (u == t) → b ≡ (t == u) → is_some {T = Place × ℕ} (if a then Some (Running c, 0) else None) ≡ nat_lt 0 (if b then 1 else 0)
    split true true is other = refl
    split false false is other = refl
    split true false is other = absurd (grind (arith, nat_tests))
    split false true is other = absurd (grind (arith, nat_tests))

-- and so for all threads
place_counts : (v : CpuValue) (t : ℕ) → is_some (value_place v t) ≡ nat_lt 0 (times_on v t)
place_counts v t =
    some_found (current_place v.cpu v.current t) (first_found real (first_found batch idle)) ∙
    (ap (λ b. is_some (current_place v.cpu v.current t) || b) (some_found real (first_found batch idle) ∙ ap (λ b. is_some real || b) (some_found batch idle)) ∙
    ((λ i. current_has v.cpu v.current t i || (queued_has v.cpu Real v.real t i || (queued_has v.cpu Batch v.batch t i || queued_has v.cpu Idle v.idle t i))) ∙
    (ap (λ b. nat_lt 0 (times_current v.current t) || (nat_lt 0 (times v.real t) || b)) (either_counts (times v.batch t) (times v.idle t)) ∙
    (ap (λ b. nat_lt 0 (times_current v.current t) || b) (either_counts (times v.real t) (times v.batch t + times v.idle t)) ∙
    (either_counts (times_current v.current t) (times v.real t + (times v.batch t + times v.idle t)) ∙
    ap (nat_lt 0) (let e : times_current v.current t + (times v.real t + (times v.batch t + times v.idle t)) ≡ times_on v t = omega arith in e))))))
  where
    real : Option (Place × ℕ)
    real = queued_place v.cpu Real (place_in v.real t)

    batch : Option (Place × ℕ)
    batch = queued_place v.cpu Batch (place_in v.batch t)

    idle : Option (Place × ℕ)
    idle = queued_place v.cpu Idle (place_in v.idle t)

record_counts : (o : Option ThreadRecord) → nat_lt 0 (once_if o) ≡ is_some o
record_counts None = refl
record_counts (Some r) = refl

-- a CPU has a place for just the threads of which it has a record, each of which stands in one place
pub place_there : (v : CpuValue) (t : ℕ) (told : Option Place) → times_on v t ≡ once_if (thread_in v t) → told ≡ option_map (λ at. at.0) (value_place v t) → is_some told ≡ is_some (thread_in v t)
place_there v t told once is =
    ap (λ (o : Option Place). is_some o) is ∙
    (some_mapped (λ (at : Place × ℕ). at.0) (value_place v t) ∙ (place_counts v t ∙ (ap (nat_lt 0) once ∙ record_counts (thread_in v t))))

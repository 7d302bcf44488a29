-- What a CPU keeps where one of its records is kept anew or leaves.
use Rattle.std.proofs.Common.{◌≡◌, ◌≢◌, ℕ, ◌<◌, ◌≤◌, subst, Option, Some, None, IfSome, List, length, length-set, slice_index_or, slice_set, sum_by, suc, ◌∷◌, refl, ap, ⊎_elim, get_or-set_same, get_or-set_other, sym, ◌∙◌, ◌+◌, ◌-◌, ◌^◌, [], arith, replicate, IsTrue, Bool, true}
use Rattle.ule_history.proofs.CpuUseUpdateLemmas.{IsBoundedUse-updated_use}
use Rattle.ule_score.proofs.BoundsLemmas.{KeepsBounds-times, KeepsBounds-uses}
use Rattle.ule_score.specs.Changes.{after_running, used}
use Rattle.ule_score.specs.Settings.{are_settings}
use Rattle.ule_runq.specs.Runq.{times}
use Rattle.ule_runq.proofs.RunqLaws.{times_empty}
use Rattle.std.specs.Prelude.{option_and_then}
use Rattle.ule_model.specs.CpuValue.{CpuValue, current_in, thread_in}
use Rattle.ule_tdq.specs.Queues.{once_for}
use Rattle.ule_tdq.specs.Cpu.{IsRecordOf, KeepsCpu, once_if, times_current, times_on}
use Rattle.ule_score.specs.Bounds.{KeepsBounds}
use Rattle.ule_score.specs.declared.record.Settings.{Settings}
use Rattle.std.proofs.lemmas.Option.{none-some}
use Rattle.std.proofs.lemmas.Bool.{cases_eq, cases_lt}
use Rattle.std.proofs.lemmas.List.{get_or_past, set_past}
use Rattle.std.proofs.lemmas.List.Sums.{get_or-le-sum_by, sum_by-cons, sum_by-set}
use Rattle.ule_tdq.proofs.QueuesLaws.{once_for_other, once_for_same}
use Rattle.ule_score.specs.declared.record.CpuLine.{CpuLine}
use Rattle.ule_score.specs.declared.record.ThreadRecord.{ThreadRecord}

-- no record of a list of slots has a CPU-use update later than this time
abbrev pub AllNoEarlier : List (Option ThreadRecord) → ℕ → Type 0
AllNoEarlier threads now = (t : ℕ) → IfSome (slice_index_or threads t None) (λ r. r.usage.ltick ≤ now)

-- slots without a later CPU-use update have none with a record kept anew whose update is no later
pub AllNoEarlier-with : (threads : List (Option ThreadRecord)) (t : ℕ) (r : ThreadRecord) (now : ℕ) →
    AllNoEarlier threads now → r.usage.ltick ≤ now → AllNoEarlier (slice_set threads t (Some r)) now
AllNoEarlier-with threads t r now old here u =
    ⊎_elim (λ (same : u ≡ t). rw same (⊎_elim
    (λ (within : t < length threads). rw (get_or-set_same threads t (Some r) None within) here)
    (λ (past : length threads ≤ t). rw (set_past threads t (Some r) past) (old t))
    (cases_lt t (length threads))))
    (λ (other : u ≢ t). rw (get_or-set_other threads t u (Some r) None other) (old u))
    (cases_eq u t)

-- a CPU with neither a current thread nor queued ones has each thread in no place
pub none_on : (v : CpuValue) → v.current ≡ None → v.real ≡ replicate 64 [] → v.batch ≡ replicate 64 [] → v.idle ≡ replicate 64 [] →
    (t : ℕ) → times_on v t ≡ 0
none_on v current real batch idle t =
    let at = λ (q : List (List ℕ)) (e : q ≡ replicate 64 []). ap (λ (x : List (List ℕ)). times x t) e ∙ times_empty 64 t in
    let a : times_current v.current t ≡ 0 = ap (λ (o : Option ℕ). times_current o t) current in
    let r : times v.real t ≡ 0 = at v.real real in
    let b : times v.batch t ≡ 0 = at v.batch batch in
    let i : times v.idle t ≡ 0 = at v.idle idle in
    omega arith

-- there are no more records than slots
pub records-le-slots : (threads : List (Option ThreadRecord)) → sum_by once_if threads ≤ length threads
records-le-slots [] = omega arith
records-le-slots (None ∷ rest) = let more = records-le-slots rest in let all = sum_by-cons once_if None rest in omega arith
records-le-slots (Some r ∷ rest) = let more = records-le-slots rest in let all = sum_by-cons once_if (Some r) rest in omega arith

-- slots of which none has a record have none in all
pub records_none : (threads : List (Option ThreadRecord)) → ((t : ℕ) → slice_index_or threads t None ≡ None) → sum_by once_if threads ≡ 0
records_none [] none = refl
records_none (o ∷ rest) none =
    let first : once_if o ≡ 0 = ap once_if (none 0) in
    let more : sum_by once_if rest ≡ 0 = records_none rest (λ t. none (suc t)) in
    let all = sum_by-cons once_if o rest in
    omega arith

-- a slot has one record at most
pub once_if-le : (o : Option ThreadRecord) → once_if o ≤ 1
once_if-le None = omega arith
once_if-le (Some r) = omega arith

-- the current thread of a CPU has a slot and a record
pub current-within : (v : CpuValue) (t : ℕ) → KeepsCpu v → v.current ≡ Some t → (t < length v.threads) × (once_if (thread_in v t) ≡ 1)
current-within v t kept current =
    let here : times_current v.current t ≡ 1 = ap (λ (o : Option ℕ). times_current o t) current ∙ once_for_same t in
    let place = kept.places t in
    let most : once_if (thread_in v t) ≤ 1 = once_if-le (thread_in v t) in (
      ⊎_elim
          (λ (within : t < length v.threads). within)
          (λ (past : length v.threads ≤ t).
          let none : once_if (thread_in v t) ≡ 0 = ap once_if (get_or_past v.threads t None past) in absurd (omega arith))
          (cases_lt t (length v.threads)),
      omega arith,
    )

-- a CPU with a current thread has a load
pub load-positive : (v : CpuValue) (t : ℕ) → KeepsCpu v → v.current ≡ Some t → 1 ≤ v.load
load-positive v t kept current =
    let there = current-within v t kept current in
    let part = get_or-le-sum_by once_if v.threads t None there.0 in
    let load = kept.load in
    omega arith

-- a CPU's load is at most 256
pub load-le : (v : CpuValue) → KeepsCpu v → v.load ≤ 256
load-le v kept = let most = records-le-slots v.threads in let load = kept.load in let slots = kept.slots in omega arith

-- a CPU that has no thread keeps what every CPU keeps
pub KeepsCpu_start : (v : CpuValue) → IsTrue (are_settings v.settings) → length v.threads ≡ 256 → ((t : ℕ) → thread_in v t ≡ None) →
    v.current ≡ None → v.load ≡ 0 → v.real ≡ replicate 64 [] → v.batch ≡ replicate 64 [] → v.idle ≡ replicate 64 [] → KeepsCpu v
KeepsCpu_start v settings slots none current load real batch idle = record {
  settings = settings;
  slots = slots;
  places = λ t. none_on v current real batch idle t ∙ sym (ap once_if (none t));
  load = load ∙ sym (records_none v.threads none);
  records = λ t. rw (none t) tt;
}

-- each thread that has a record once the current one was let go stands in one queue, and no other does
current_gone : (v : CpuValue) (t : ℕ) → KeepsCpu v → v.current ≡ Some t → (u : ℕ) →
    0 + (times v.real u + times v.batch u + times v.idle u) ≡ once_if (slice_index_or (slice_set v.threads t None) u None)
current_gone v t kept current u =
    let there = current-within v t kept current in
    let place = kept.places u in
    ⊎_elim (λ (same : u ≡ t).
    let gone : once_if (slice_index_or (slice_set v.threads t None) u None) ≡ 0 =
    ap (λ (k : ℕ). once_if (slice_index_or (slice_set v.threads t None) k None)) same ∙ ap once_if (get_or-set_same v.threads t None None there.0) in
    let one : once_if (thread_in v u) ≡ 1 = ap (λ (k : ℕ). once_if (thread_in v k)) same ∙ there.1 in
    let here : times_current v.current u ≡ 1 = ap (λ (o : Option ℕ). times_current o u) current ∙ ap (once_for t) same ∙ once_for_same t in
    omega arith)
    (λ (other : u ≢ t).
    let kept_on : once_if (slice_index_or (slice_set v.threads t None) u None) ≡ once_if (thread_in v u) =
    ap once_if (get_or-set_other v.threads t u None None other) in
    let nowhere : times_current v.current u ≡ 0 = ap (λ (o : Option ℕ). times_current o u) current ∙ once_for_other t u other in
    omega arith)
    (cases_eq u t)

-- a CPU whose current thread is let go keeps what every CPU keeps
pub KeepsCpu-let_go : (v : CpuValue) (t : ℕ) (line : CpuLine) → KeepsCpu v → v.current ≡ Some t →
    KeepsCpu (record v { threads = slice_set v.threads t None; current = None; load = v.load - 1; line = line })
KeepsCpu-let_go v t line kept current =
    let there = current-within v t kept current in record {
      settings = kept.settings;
      slots = length-set v.threads t None ∙ kept.slots;
      places = current_gone v t kept current;
      load =
          let less = sum_by-set once_if v.threads t None None there.0 in
          let load = kept.load in
          let one = there.1 in
          omega arith;
      records = λ u.
          ⊎_elim (λ (same : u ≡ t). rw (same, get_or-set_same v.threads t None None there.0) tt)
          (λ (other : u ≢ t). rw (get_or-set_other v.threads t u None None other) (kept.records u))
          (cases_eq u t);
    }

-- ---- a record kept anew

-- a CPU after a record of it was kept anew, of which each thread stands in as many places as before
pub record IsKeptAnew (v n : CpuValue) (t : ℕ) (old r : ThreadRecord) : Type 0 where
  pub there : thread_in v t ≡ Some old
  pub number : r.id ≡ old.id
  pub bounds : KeepsBounds r
  pub settings : n.settings ≡ v.settings
  pub threads : n.threads ≡ slice_set v.threads t (Some r)
  pub load : n.load ≡ v.load
  pub places : (u : ℕ) → times_on n u ≡ times_on v u

-- a slot that has a record is one of the slots
slot-within : (threads : List (Option ThreadRecord)) (t : ℕ) (old : ThreadRecord) → slice_index_or threads t None ≡ Some old → t < length threads
slot-within threads t old there =
    ⊎_elim
    (λ (within : t < length threads). within)
    (λ (past : length threads ≤ t). absurd (none-some old (sym (get_or_past threads t None past) ∙ there)))
    (cases_lt t (length threads))

-- a CPU keeps what every CPU keeps after a record of it was kept anew
pub KeepsCpu-anew : (v n : CpuValue) (t : ℕ) (old r : ThreadRecord) → KeepsCpu v → IsKeptAnew v n t old r → KeepsCpu n
KeepsCpu-anew v n t old r kept anew = record {
  settings = subst (λ (s : Settings). IsTrue (are_settings s)) (sym anew.settings) kept.settings;
  slots = ap (λ (xs : List (Option ThreadRecord)). length xs) anew.threads ∙ length-set v.threads t (Some r) ∙ kept.slots;
  places = λ u. anew.places u ∙ kept.places u ∙ sym (counted u);
  load =
      (let more = sum_by-set once_if v.threads t (Some r) None within in
      let here : once_if (slice_index_or v.threads t None) ≡ 1 = ap once_if anew.there in
      let sums : sum_by once_if n.threads ≡ sum_by once_if (slice_set v.threads t (Some r)) = ap (λ (xs : List (Option ThreadRecord)). sum_by once_if xs) anew.threads in
      let load = kept.load in let same = anew.load in
      omega arith);
  records = λ u. ⊎_elim (own u) (other u) (cases_eq u t);
}
  where
    within : t < length v.threads
    within = slot-within v.threads t old anew.there

    slot_same : thread_in n t ≡ Some r
    slot_same = ap (λ (xs : List (Option ThreadRecord)). slice_index_or xs t None) anew.threads ∙ get_or-set_same v.threads t (Some r) None within

    slot_other : (u : ℕ) → u ≢ t → thread_in n u ≡ thread_in v u
    slot_other u apart = ap (λ (xs : List (Option ThreadRecord)). slice_index_or xs u None) anew.threads ∙ get_or-set_other v.threads t u (Some r) None apart

    counted : (u : ℕ) → once_if (thread_in n u) ≡ once_if (thread_in v u)
    counted u =
        ⊎_elim
        (λ (same : u ≡ t). ap (λ (k : ℕ). once_if (thread_in n k)) same ∙ ap once_if slot_same ∙ sym (ap (λ (k : ℕ). once_if (thread_in v k)) same ∙ ap once_if anew.there))
        (λ (apart : u ≢ t). ap once_if (slot_other u apart))
        (cases_eq u t)

    number : r.id ≡ t
    number = anew.number ∙ (subst (λ (o : Option ThreadRecord). IfSome o (IsRecordOf t)) anew.there (kept.records t)).number

    own : (u : ℕ) → u ≡ t → IfSome (thread_in n u) (IsRecordOf u)
    own u same =
        subst (λ (k : ℕ). IfSome (thread_in n k) (IsRecordOf k)) (sym same)
        (subst (λ (o : Option ThreadRecord). IfSome o (IsRecordOf t)) (sym slot_same) (record { number = number; bounds = anew.bounds }))

    other : (u : ℕ) → u ≢ t → IfSome (thread_in n u) (IsRecordOf u)
    other u apart = subst (λ (o : Option ThreadRecord). IfSome o (IsRecordOf u)) (sym (slot_other u apart)) (kept.records u)

-- the record of the current thread is under its number
pub current_in-number : (v : CpuValue) (r : ThreadRecord) → KeepsCpu v → current_in v ≡ Some r → thread_in v r.id ≡ Some r
current_in-number v r kept found = split v.current found
  where
    split : (o : Option ℕ) → option_and_then (thread_in v) o ≡ Some r → thread_in v r.id ≡ Some r
    split None none = absurd (none-some r none)
    split (Some t) there =
        ap (thread_in v) (subst (λ (p : Option ThreadRecord). IfSome p (IsRecordOf t)) there (kept.records t)).number ∙ there

-- ---- a record that notes the time

-- the record that a CPU has of a thread keeps its bounds
pub found-bounds : (v : CpuValue) (t : ℕ) (r : ThreadRecord) → KeepsCpu v → thread_in v t ≡ Some r → KeepsBounds r
found-bounds v t r kept there = (subst (λ (o : Option ThreadRecord). IfSome o (IsRecordOf t)) there (kept.records t)).bounds

-- and has no CPU-use update later than a time that is no earlier than any
pub found-by : (v : CpuValue) (t now : ℕ) (r : ThreadRecord) → AllNoEarlier v.threads now → thread_in v t ≡ Some r → r.usage.ltick ≤ now
found-by v t now r early there = subst (λ (o : Option ThreadRecord). IfSome o (λ x. x.usage.ltick ≤ now)) there (early t)

-- a record brought up to a time keeps its bounds, and has no CPU-use update later than that
pub used-bounds : (running : Bool) (now : ℕ) (r : ThreadRecord) → KeepsBounds r → r.usage.ltick ≤ now → now < 2 ^ 36 →
    KeepsBounds (used running now r) × ((used running now r).usage.ltick ≤ now)
used-bounds running now r bounds by small =
    let noted = (IsBoundedUse-updated_use r.usage now running bounds.usage by).1 in
    (KeepsBounds-uses r now running bounds by small, omega (arith, noted))

-- the record of a thread that has just left the processor keeps its bounds
pub ran-bounds : (now : ℕ) (r : ThreadRecord) → KeepsBounds r → r.usage.ltick ≤ now → now < 2 ^ 36 → KeepsBounds (after_running now r)
ran-bounds now r bounds by small =
    let before = used-bounds true now r bounds by small in
    KeepsBounds-times (used true now r) r.slice_count r.slept_at now before.0 bounds.slice_count bounds.slept_at small

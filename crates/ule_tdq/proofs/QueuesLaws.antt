-- How often threads stand in the queues after an insertion and a removal.
use Rattle.std.proofs.Common.{◌≡◌, ◌≢◌, ℕ, ◌+◌, ◌<◌, List, length, arith, sym, ◌∙◌, ap, cond, ⊎_elim}
use Rattle.std.proofs.lemmas.Bool.{cases_eq, ne_eqb}
use Rattle.std.proofs.lemmas.Bool.Decides.{nat_tests}
use Rattle.ule_runq.specs.Runq.{IsRunq, times, with_tail, with_head, without}
use Rattle.ule_runq.proofs.RunqLaws.{length-with_tail, length-with_head, times-with_tail, times-with_head, times-without_same, times-without_other}
use Rattle.ule_calendar.specs.Calendar.{Dial}
use Rattle.ule_tdq.specs.Queues.{QueuesValue, once_for, times_queued}

-- a queue that is whole with a thread more at a tail has it once more
pub times_at_tail : (q new : List (List ℕ)) (b t : ℕ) → new ≡ with_tail q b t → IsRunq new → b < 64 → (u : ℕ) → times new u ≡ times q u + once_for t u
times_at_tail q new b t filed whole within u =
    let size : length q ≡ 64 = sym (length-with_tail q b t) ∙ ap length (sym filed) ∙ whole.buckets in
    ap (λ x. times x u) filed ∙ times-with_tail q b t u (omega arith)

-- a queue that is whole with a thread more at a head has it once more
pub times_at_head : (q new : List (List ℕ)) (b t : ℕ) → new ≡ with_head q b t → IsRunq new → b < 64 → (u : ℕ) → times new u ≡ times q u + once_for t u
times_at_head q new b t filed whole within u =
    let size : length q ≡ 64 = sym (length-with_head q b t) ∙ ap length (sym filed) ∙ whole.buckets in
    ap (λ x. times x u) filed ∙ times-with_head q b t u (omega arith)

-- a thread is counted once where it is the thread itself
pub once_for_same : (t : ℕ) → once_for t t ≡ 1
once_for_same t = grind (arith, nat_tests)

-- a thread is not counted where it is another
pub once_for_other : (t u : ℕ) → u ≢ t → once_for t u ≡ 0
once_for_other t u other = ap (λ b. cond b 1 0) (ne_eqb u t other)

-- a thread that stood once in a queue is taken out
pub times_out : (q new : List (List ℕ)) (t : ℕ) → new ≡ without t q → times q t ≡ 1 → (u : ℕ) → times new u + once_for t u ≡ times q u
times_out q new t rest there u =
    ⊎_elim (λ (same : u ≡ t).
    let gone : times (without t q) t ≡ 0 = times-without_same t q in
    let one : once_for t t ≡ 1 = once_for_same t in
    ap (λ x. times x u + once_for t u) rest ∙ ap (λ x. times (without t q) x + once_for t x) same ∙ omega arith ∙ sym there ∙ ap (times q) (sym same))
    (λ (other : u ≢ t).
    let left : times (without t q) u ≡ times q u = times-without_other t q u other in
    let none : once_for t u ≡ 0 = once_for_other t u other in
    ap (λ x. times x u + once_for t u) rest ∙ omega arith)
    (cases_eq u t)

-- the queues without a thread that stood once in the one of real priorities
pub times_out_real : (q : QueuesValue) (new : List (List ℕ)) (t : ℕ) → new ≡ without t q.real → times q.real t ≡ 1 → (u : ℕ) →
    times_queued (record q { real = new }) u + once_for t u ≡ times_queued q u
times_out_real q new t rest there u = let out = times_out q.real new t rest there u in omega arith

-- the queues without a thread that stood once in the calendar
pub times_out_batch : (q : QueuesValue) (new : Dial) (t : ℕ) → new.lists ≡ without t q.batch.lists → times q.batch.lists t ≡ 1 → (u : ℕ) →
    times_queued (record q { batch = new }) u + once_for t u ≡ times_queued q u
times_out_batch q new t rest there u = let out = times_out q.batch.lists new.lists t rest there u in omega arith

-- the queues without a thread that stood once in the one of idle priorities
pub times_out_idle : (q : QueuesValue) (new : List (List ℕ)) (t : ℕ) → new ≡ without t q.idle → times q.idle t ≡ 1 → (u : ℕ) →
    times_queued (record q { idle = new }) u + once_for t u ≡ times_queued q u
times_out_idle q new t rest there u = let out = times_out q.idle new t rest there u in omega arith

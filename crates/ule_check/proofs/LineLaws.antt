-- The first line that differs, found from the front.
use Rattle.std.proofs.Common.{◌≡◌, ℕ, ◌+◌, ◌≤◌, Bool, true, false, List, ◌∷◌, drop, length, min, slice_get, Some, None, if◌then◌else◌, refl, sym, ◌∙◌}
use Rattle.std.proofs.lemmas.List.{drop_all}
use Rattle.std.proofs.lemmas.Option.{none-some}
use Rattle.ule_members.proofs.Lists.{drop_at}
use Rattle.ule_score.specs.declared.record.CpuLine.{CpuLine}
use Rattle.ule_types.specs.declared.outcome.ThreadLine.{ThreadLine}
use Rattle.ule_check.specs.Ending.{cpu_fault, first_cpu_fault, first_thread_fault, thread_fault}
use Rattle.ule_check.specs.Same.{is_same_cpu_line, is_same_thread_line}
use Rattle.ule_check.specs.declared.verdicts.Fault.{Fault}
use Rattle.ule_check.specs.declared.verdicts.Fault.TheVariants as fault
use Rattle.ule_check.specs.declared.verdicts.FinalName.TheVariants as name

-- both lists from a line on begin with that line
both_at : (xs ys : List ThreadLine) (i : ℕ) (x y : ThreadLine) → slice_get xs i ≡ Some x → slice_get ys i ≡ Some y →
    thread_fault (drop i xs) (drop i ys) ≡ thread_fault (x ∷ drop (i + 1) xs) (y ∷ drop (i + 1) ys)
both_at xs ys i x y at_x at_y = (λ k. thread_fault (drop_at xs i x at_x k) (drop_at ys i y at_y k))

-- a line that differs
pub line_differs : (xs ys : List ThreadLine) (i : ℕ) (x y : ThreadLine) (why : Fault) → slice_get xs i ≡ Some x → slice_get ys i ≡ Some y → first_thread_fault x y ≡ Some why →
    thread_fault (drop i xs) (drop i ys) ≡ Some why
line_differs xs ys i x y why at_x at_y differs = both_at xs ys i x y at_x at_y ∙ at_test (is_same_thread_line x y) differs
  where
    at_test : (b : Bool) → (if b then None else Some (fault.Final (name.Thread (min x.id y.id)))) ≡ Some why →
        (if b then thread_fault (drop (i + 1) xs) (drop (i + 1) ys) else Some (fault.Final (name.Thread (min x.id y.id)))) ≡ Some why
    at_test true is = absurd (none-some why is)
    at_test false is = is

-- a line that is the same
pub line_same : (xs ys : List ThreadLine) (i : ℕ) (x y : ThreadLine) → slice_get xs i ≡ Some x → slice_get ys i ≡ Some y → first_thread_fault x y ≡ None →
    thread_fault (drop i xs) (drop i ys) ≡ thread_fault (drop (i + 1) xs) (drop (i + 1) ys)
line_same xs ys i x y at_x at_y same = both_at xs ys i x y at_x at_y ∙ at_test (is_same_thread_line x y) same
  where
    at_test : (b : Bool) → (if b then None else Some (fault.Final (name.Thread (min x.id y.id)))) ≡ None →
        (if b then thread_fault (drop (i + 1) xs) (drop (i + 1) ys) else Some (fault.Final (name.Thread (min x.id y.id)))) ≡ thread_fault (drop (i + 1) xs) (drop (i + 1) ys)
    at_test true is = refl
    at_test false is = absurd (none-some _ (sym is))

-- a line that is missing
pub line_missing : (xs ys : List ThreadLine) (i : ℕ) (x : ThreadLine) → slice_get xs i ≡ Some x → length ys ≤ i → thread_fault (drop i xs) (drop i ys) ≡ Some (fault.Final (name.Thread x.id))
line_missing xs ys i x at_x past = (λ k. thread_fault (drop_at xs i x at_x k) (drop_all i ys past k))

-- a line that should not be there
pub line_too_many : (xs ys : List ThreadLine) (i : ℕ) (y : ThreadLine) → length xs ≤ i → slice_get ys i ≡ Some y → thread_fault (drop i xs) (drop i ys) ≡ Some (fault.Final (name.Thread y.id))
line_too_many xs ys i y past at_y = (λ k. thread_fault (drop_all i xs past k) (drop_at ys i y at_y k))

-- the end of both lists
pub no_line_more : (xs ys : List ThreadLine) (i : ℕ) → length xs ≤ i → length ys ≤ i → thread_fault (drop i xs) (drop i ys) ≡ None
no_line_more xs ys i past end = (λ k. thread_fault (drop_all i xs past k) (drop_all i ys end k))

-- ---- lines of CPUs

-- both lists from a line on begin with that line
cpus_at : (xs ys : List CpuLine) (i : ℕ) (x y : CpuLine) → slice_get xs i ≡ Some x → slice_get ys i ≡ Some y →
    cpu_fault i (drop i xs) (drop i ys) ≡ cpu_fault i (x ∷ drop (i + 1) xs) (y ∷ drop (i + 1) ys)
cpus_at xs ys i x y at_x at_y = (λ k. cpu_fault i (drop_at xs i x at_x k) (drop_at ys i y at_y k))

-- a line that differs
pub cpu_differs : (xs ys : List CpuLine) (i : ℕ) (x y : CpuLine) (why : Fault) → slice_get xs i ≡ Some x → slice_get ys i ≡ Some y → first_cpu_fault i x y ≡ Some why →
    cpu_fault i (drop i xs) (drop i ys) ≡ Some why
cpu_differs xs ys i x y why at_x at_y differs = cpus_at xs ys i x y at_x at_y ∙ at_test (is_same_cpu_line x y) differs
  where
    at_test : (b : Bool) → (if b then None else Some (fault.Final (name.Cpu i))) ≡ Some why →
        (if b then cpu_fault (i + 1) (drop (i + 1) xs) (drop (i + 1) ys) else Some (fault.Final (name.Cpu i))) ≡ Some why
    at_test true is = absurd (none-some why is)
    at_test false is = is

-- a line that is the same
pub cpu_same : (xs ys : List CpuLine) (i : ℕ) (x y : CpuLine) → slice_get xs i ≡ Some x → slice_get ys i ≡ Some y → first_cpu_fault i x y ≡ None →
    cpu_fault i (drop i xs) (drop i ys) ≡ cpu_fault (i + 1) (drop (i + 1) xs) (drop (i + 1) ys)
cpu_same xs ys i x y at_x at_y same = cpus_at xs ys i x y at_x at_y ∙ at_test (is_same_cpu_line x y) same
  where
    at_test : (b : Bool) → (if b then None else Some (fault.Final (name.Cpu i))) ≡ None →
        (if b then cpu_fault (i + 1) (drop (i + 1) xs) (drop (i + 1) ys) else Some (fault.Final (name.Cpu i))) ≡ cpu_fault (i + 1) (drop (i + 1) xs) (drop (i + 1) ys)
    at_test true is = refl
    at_test false is = absurd (none-some _ (sym is))

-- a line that is missing
pub cpu_missing : (xs ys : List CpuLine) (i : ℕ) (x : CpuLine) → slice_get xs i ≡ Some x → length ys ≤ i → cpu_fault i (drop i xs) (drop i ys) ≡ Some (fault.Final (name.Cpu i))
cpu_missing xs ys i x at_x past = (λ k. cpu_fault i (drop_at xs i x at_x k) (drop_all i ys past k))

-- a line that should not be there
pub cpu_too_many : (xs ys : List CpuLine) (i : ℕ) (y : CpuLine) → length xs ≤ i → slice_get ys i ≡ Some y → cpu_fault i (drop i xs) (drop i ys) ≡ Some (fault.Final (name.Cpu i))
cpu_too_many xs ys i y past at_y = (λ k. cpu_fault i (drop_all i xs past k) (drop_at ys i y at_y k))

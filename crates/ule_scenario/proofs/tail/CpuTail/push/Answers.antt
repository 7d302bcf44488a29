use Rattle.std.proofs.Common.{◌≡◌, ℕ, Option, [], ◌∷◌, ◌++◌, sym, ap, ◌∙◌}
use Rattle.ule_scenario.specs.Forms.{num, nums, number_fault, first_fault, cpu_faults}
use Rattle.ule_scenario.specs.TailKept.{cpus_kept, next_cpu, most_of, bits_unless}
use Rattle.ule_scenario.specs.declared.tail.CpuTail.{CpuTail}
use Rattle.ule_scenario.proofs.Tails.{bits_grow, cpus_grow}
use Rattle.ule_scenario.proofs.tail.CpuTail.push.Goals as goal

pub returns : goal.returns
unfolding cpus_kept
returns c = λ ts kept.
    let t = c.args.t.now in
    let fault : c.args.self.now.fault ≡ first_fault (cpu_faults 0 ts) = ap (λ (r : CpuTail). r.fault) kept in
    let next : c.args.self.now.next ≡ next_cpu 0 ts = ap (λ (r : CpuTail). r.next) kept in
    let most : c.args.self.now.most ≡ most_of (nums ts) = ap (λ (r : CpuTail). r.most) kept in
    let bits : c.args.self.now.bits ≡ bits_unless (first_fault (cpu_faults 0 ts)) (nums ts) = ap (λ (r : CpuTail). r.bits) kept in
    let f : c.first_of_two-self.result ≡ first_fault (first_fault (cpu_faults 0 ts) ∷ number_fault (next_cpu 0 ts) 15 t ∷ []) =
    c.first_of_two-self.ensures ∙ ap (λ (x : Option ℕ). first_fault (x ∷ c.number_fault.result ∷ [])) fault
    ∙ ap (λ (x : Option ℕ). first_fault (first_fault (cpu_faults 0 ts) ∷ x ∷ [])) (c.number_fault.ensures ∙ ap (λ (n : ℕ). number_fault n 15 t) next) in
    let grown = bits_grow ts t c.args.self.now.bits c.bits_with-self.result c.first_of_two-self.result bits f (rw c.value.ensures at c.bits_with-self.ensures.given) c.bits_with-self.ensures.none in
    let whole = cpus_grow ts t c.bits_with-self.result (grown ∙ ap (λ (g : Option ℕ). bits_unless g (nums ts ++ num (t ∷ []) 0 ∷ [])) f) in
    rw (f, c.value-2.ensures, c.max-self.ensures, c.value-3.ensures, most) (sym whole)

use Rattle.std.proofs.Common.{◌≡◌, ◌+ℤ◌, to_z, w64, sym, ◌∙◌, ap, arith}
use Rattle.std.proofs.lemmas.Int.{ints}
use Rattle.ule_search.specs.Search.{sum_below, key_at}
use Rattle.ule_search.proofs.SumLaws.{sum_more, sum_same, sum_none}
use Rattle.ule_search.proofs.rank.sum.Goals as goal
use Rattle.ule_search.proofs.rank.sum.Goals.{then-has_cpu, else-has_cpu}

pub loop-c-init : goal.loop-c-init
loop-c-init c = record { total = sym (sum_none c.args.keys.now c.args.mask); low = omega (arith, ints); high = omega (arith, ints) }

pub loop-c-preserved : goal.loop-c-preserved
loop-c-preserved c =
    let fit = c.requires.fit c.loop-c.c c.loop-c-test.true in
    elim c.if-has_cpu.branch [
      | then-has_cpu w ↦
          let is : to_z w64 c.if-has_cpu.total-bits ≡ (to_z w64 c.loop-c.total-bits +ℤ key_at c.args.keys.now c.loop-c.c) = omega (arith, ints) in record {
            total =
                is ∙ ap (λ t. t +ℤ key_at c.args.keys.now c.loop-c.c) c.loop-c.invariant.total
                ∙ sym (sum_more c.loop-c.c c.args.keys.now c.args.mask (sym c.has_cpu.ensures ∙ w.if-has_cpu.true));
            low = omega (arith, ints);
            high = omega (arith, ints);
          }
      | else-has_cpu w ↦ record {
        total = w.total-is ∙ c.loop-c.invariant.total ∙ sym (sum_same c.loop-c.c c.args.keys.now c.args.mask (sym c.has_cpu.ensures ∙ w.if-has_cpu.false));
        low = omega (arith, ints);
        high = omega (arith, ints);
      }
    ]

pub returns : goal.returns
returns c = c.loop-c.invariant.total ∙ ap (λ n. sum_below n c.args.keys.now c.args.mask) (omega arith)

use Rattle.std.proofs.Common.{◌++◌, length, map, sym, ap, ◌∙◌, arith}
use Rattle.std.specs.Fmt.{decimal}
use Rattle.std.proofs.lemmas.List.{append-nil}
use Rattle.ule_topo.specs.Mask.{has_cpu}
use Rattle.ule_topo.proofs.BelowLaws.{filter_below_none}
use Rattle.ule_trace.specs.Line.{spaced}
use Rattle.ule_plain.proofs.Spelling.{cpu_in, cpu_out}
use Rattle.ule_plain.proofs.line.spell_cpus.Goals.{then-has_cpu, else-has_cpu}
use Rattle.ule_plain.proofs.line.spell_cpus.Goals as goal

pub loop-c-init : goal.loop-c-init
loop-c-init c = record {
  text = sym (ap (λ ns. c.args.held.now ++ spaced (map decimal ns)) (filter_below_none (has_cpu c.args.mask)) ∙ append-nil c.args.held.now);
  growth = omega arith;
}

pub loop-c-preserved : goal.loop-c-preserved
loop-c-preserved c =
    let so_far = c.loop-c.invariant in
    elim c.if-has_cpu.branch [
      | then-has_cpu w ↦ record {
        text = w.held-is ∙ w.small.ensures.text ∙ cpu_in c.args.held.now c.loop-c.held c.args.mask c.loop-c.c so_far.text (sym c.has_cpu.ensures ∙ w.if-has_cpu.true);
        growth = omega (arith, ap length w.held-is, w.small.ensures.growth, so_far.growth);
      }
      | else-has_cpu w ↦ record {
        text = w.held-is ∙ cpu_out c.args.held.now c.loop-c.held c.args.mask c.loop-c.c so_far.text (sym c.has_cpu.ensures ∙ w.if-has_cpu.false);
        growth = omega (arith, ap length w.held-is, so_far.growth);
      }
    ]

use Rattle.std.proofs.Common.{rules, ◌≡◌, ◌∙◌, ap, sym, refl, Bool, ℕ, arith}
use Rattle.std.proofs.lemmas.List.{get_or_default}
use Rattle.ule_topo.specs.Mask.{below, has_cpu}
use Rattle.ule_topo.specs.Tree.{group_at, no_group}
use Rattle.ule_topo.specs.declared.group.Group.{Group}
use Rattle.ule_topo.proofs.InsideLaws.{last_below_in, last_below_out}
use Rattle.ule_topo.proofs.topology.last_with.Goals as goal
use Rattle.ule_topo.proofs.topology.last_with.Goals.{then-has_cpu, else-has_cpu}

pub loop-i-init : goal.loop-i-init
unfolding below
loop-i-init c = record { last = refl; there = omega arith }

pub loop-i-preserved : goal.loop-i-preserved
loop-i-preserved c =
    let has : ℕ → Bool = λ g. has_cpu (group_at c.args.groups.now g).cpus c.args.c in
    let here : c.index-groups-i.result ≡ group_at c.args.groups.now c.loop-i.i =
    c.index-groups-i.is ∙ get_or_default c.args.groups.now c.loop-i.i c.index-groups-i.result no_group c.loop-i-test.true in
    let read : c.has_cpu.result ≡ has c.loop-i.i = c.has_cpu.ensures ∙ ap (λ (k : Group). has_cpu k.cpus c.args.c) here in
    elim c.if-has_cpu.branch [
      | then-has_cpu w ↦
          record { last = w.found-is ∙ sym (last_below_in has c.loop-i.i (sym read ∙ w.if-has_cpu.true)); there = search rules }
      | else-has_cpu w ↦
          record { last = w.found-is ∙ c.loop-i.invariant.last ∙ sym (last_below_out has c.loop-i.i (sym read ∙ w.if-has_cpu.false)); there = search rules }
    ]

use Rattle.std.proofs.Common.{◌≡◌, ℕ, ◌-◌, arith, sym, subst, ◌∙◌, length, length-set, drop, replicate, take}
use Rattle.std.proofs.lemmas.Bool.{eqb-false}
use Rattle.ule_topo.specs.Tree.{no_group}
use Rattle.ule_topo.proofs.TreeLaws.{ok_tree}
use Rattle.ule_topo.proofs.BuildLaws.{step_more, step_fault, step_rest, step_end}
use Rattle.ule_topo.proofs.topology.Topology.build.Goals as goal

pub returns-in-Err : goal.returns-in-Err
returns-in-Err c =
    step_fault c.args.cpus c.loop-i.i c.loop-i.table c.args.lines.now _ c.loop-i-test.true c.loop-i.invariant.full c.requires.fit
    c.in-Err.fault c.group_of_line.result c.group_of_line.ensures c.in-Err.is c.loop-i.invariant.built

pub loop-i-preserved : goal.loop-i-preserved
loop-i-preserved c = record {
  built =
      step_more c.args.cpus c.loop-i.i c.loop-i.table c.args.lines.now _ c.loop-i-test.true c.loop-i.invariant.full c.requires.fit
      c.in-Ok.group c.group_of_line.result c.group_of_line.ensures c.in-Ok.is c.loop-i.invariant.built;
  rest = step_rest c.loop-i.i c.loop-i.table (omega arith) c.loop-i.invariant.full c.in-Ok.group c.loop-i.invariant.rest;
  full = length-set c.loop-i.table c.loop-i.i c.in-Ok.group ∙ c.loop-i.invariant.full;
}

pub invariant_of-result-2 : goal.invariant_of-result-2
invariant_of-result-2 c =
    let some = eqb-false (length c.args.lines.now) 0 (sym c.is_empty.ensures ∙ c.if-is_empty.false) in
    let end : c.loop-i.i ≡ length c.args.lines.now = omega arith in record {
      one = c.requires.some;
      sixteen = c.requires.few;
      some = omega arith;
      fits = c.requires.fit;
      full = c.loop-i.invariant.full;
      rest = subst (λ (n : ℕ). drop n c.loop-i.table ≡ replicate (15 - n) no_group) end c.loop-i.invariant.rest;
      tree = ok_tree c.args.cpus c.args.lines.now (take (length c.args.lines.now) c.loop-i.table) (step_end c.args.cpus c.loop-i.i c.loop-i.table c.args.lines.now end c.loop-i.invariant.built);
    }

pub returns : goal.returns
returns c = step_end c.args.cpus c.loop-i.i c.loop-i.table c.args.lines.now (omega arith) c.loop-i.invariant.built

-- A CPU that is still to be told of has room, and its line comes last.
use Rattle.std.proofs.Common.{◌≡◌, ◌+◌, ◌<◌, ◌∷◌, ◌++◌, [], List, drop, length, take, sym, ◌∙◌, ap, subst}
use Rattle.ule_score.specs.declared.record.CpuLine.{CpuLine}
use Rattle.ule_types.specs.Outcome.{OutcomeValue}
use Rattle.ule_model.specs.WorldValue.{IsShown, WorldValue}
use Rattle.ule_seq.proofs.FinalLaws.{queue_lines_room, set_no_queue_line, set_queue_line, value_last, value_next}
use Rattle.ule_seq.proofs.world.World.set_cpus.Goals as goal
use Rattle.ule_seq.proofs.world.World.set_cpus.Goals.{in-Some, in_default}

pub invariant_of-set_cpu : goal.invariant_of-set_cpu
invariant_of-set_cpu c =
    subst (λ (ls : List CpuLine). length ls < 16)
    (sym (c.cpus.ensures.lines ∙ ap (λ (o : OutcomeValue). o.cpus) c.loop-guarded.invariant))
    (queue_lines_room c.args.self.now c.loop-guarded.guarded-index c.guarded-item.result
    (drop (c.loop-guarded.guarded-index + 1) c.args.self.now.values) c.in-Some.line
    (subst IsShown c.self.view_is c.self.invariant.shown)
    (value_next c.args.self.now.values c.deref-guarded-items.result.now c.loop-guarded.guarded-index c.guarded-item.result
    (ap (λ (v : WorldValue). v.values) (sym c.self.view_is) ∙ sym c.deref-guarded-items.ensures.value)
    c.loop-guarded-test.true c.guarded-item.is)
    (sym c.cpu_line.ensures ∙ c.in-Some.is))

pub loop-guarded-preserved : goal.loop-guarded-preserved
loop-guarded-preserved c =
    let more : take (c.loop-guarded.guarded-index + 1) c.args.self.now.values ≡ take c.loop-guarded.guarded-index c.args.self.now.values ++ c.guarded-item.result ∷ [] =
    value_last c.args.self.now.values c.deref-guarded-items.result.now c.loop-guarded.guarded-index c.guarded-item.result
    (ap (λ (v : WorldValue). v.values) (sym c.self.view_is) ∙ sym c.deref-guarded-items.ensures.value)
    c.loop-guarded-test.true c.guarded-item.is in
    elim c.match-cpu_line.branch [
      | in-Some w ↦
          w.out-is ∙ set_queue_line c.args.self.now.values c.loop-guarded.guarded-index c.guarded-item.result
          (length w.cpus.result.now) w.in-Some.line c.args.out.now c.loop-guarded.out w.set_cpu.new.self
          c.loop-guarded.invariant w.set_cpu.ensures (ap length w.cpus.ensures.lines) (sym c.cpu_line.ensures ∙ w.in-Some.is) more
      | in_default w ↦
          w.out-is ∙ set_no_queue_line c.args.self.now.values c.loop-guarded.guarded-index c.guarded-item.result
          c.args.out.now c.loop-guarded.out c.loop-guarded.invariant (sym c.cpu_line.ensures ∙ w.in_default.is) more
    ]

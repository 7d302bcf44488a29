-- The line of one thread more comes last.
use Rattle.std.proofs.Common.{◌≡◌, ◌∙◌, sym, subst, IfSome}
use Rattle.ule_model.specs.WorldValue.{line_at}
use Rattle.ule_seq.proofs.FinalLaws.{lines_below_next, line_set, set_no_line}
use Rattle.ule_seq.proofs.world.World.set_threads.Goals as goal
use Rattle.ule_seq.proofs.world.World.set_threads.Goals.{in-Some, in_default}

pub loop-t-preserved : goal.loop-t-preserved
loop-t-preserved c = record {
  lines = elim c.match-thread_line.branch [
    | in-Some w ↦
        w.out-is ∙ line_set (line_at c.args.self.now) c.loop-t.t w.in-Some.line c.args.out.now c.loop-t.out w.set_thread.new.self
        c.loop-t.invariant.lines w.set_thread.ensures w.in-Some.ensures.line w.in-Some.ensures.number c.loop-t.invariant.below
    | in_default w ↦
        w.out-is ∙ set_no_line (line_at c.args.self.now) c.loop-t.t c.args.out.now c.loop-t.out
        c.loop-t.invariant.lines (sym c.thread_line.ensures.line ∙ w.in_default.is)
  ];
  below = lines_below_next (line_at c.args.self.now) c.loop-t.t
      (subst (λ o. IfSome o (λ l. l.id ≡ c.loop-t.t)) c.thread_line.ensures.line c.thread_line.ensures.number) c.loop-t.invariant.below;
}

-- The next command, once begun, gives what the commands not begun give.
use Rattle.std.proofs.Common.{rules, ◌≡◌, false, is_some, refl, ◌+◌, ◌∙◌, arith}
use Rattle.ule_seq.proofs.PlayLaws.{begins_next}
use Rattle.ule_seq.proofs.course.Course.begin_further.Goals as goal

pub loop-worker-preserved : goal.loop-worker-preserved
loop-worker-preserved c =
    let none : is_some c.loop-worker.self.item ≡ false = first_of (cc, search rules, grind arith) in
    c.loop-worker.invariant ∙
    begins_next c.args.s.now c.args.worker c.loop-worker.self
    (record { next = c.loop-worker.self.next + 1; program = c.next-self.new.self; item = c.next-self.result }) c.begin.new.self c.at.result.now
    none c.at.ensures c.begin.ensures refl c.next-self.ensures.item c.next-self.ensures.after

-- The program goes on, and then commands begin until one gives an item.
use Rattle.std.proofs.Common.{None, refl, ◌∙◌}
use Rattle.ule_seq.proofs.PlayLaws.{told_comes}
use Rattle.ule_seq.proofs.course.Course.go_on.Goals as goal

pub returns : goal.returns
returns c =
    told_comes c.args.s.now c.args.worker c.args.self.now (record { next = c.args.self.now.next; program = c.next-self.new.self; item = c.next-self.result }) None
    refl c.next-self.ensures.item c.next-self.ensures.after ∙ c.begin_further.ensures

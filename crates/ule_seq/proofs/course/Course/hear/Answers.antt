-- The program is told, and then commands begin until one gives an item.
use Rattle.std.proofs.Common.{Some, refl, ◌∙◌}
use Rattle.ule_seq.proofs.PlayLaws.{told_comes}
use Rattle.ule_seq.proofs.course.Course.hear.Goals as goal

pub returns : goal.returns
returns c =
    told_comes c.args.s.now c.args.worker c.args.self.now (record { next = c.args.self.now.next; program = c.hear-self.new.self; item = c.hear-self.result }) (Some (c.args.reply.now, c.args.now))
    refl c.hear-self.ensures.item c.hear-self.ensures.after ∙ c.begin_further.ensures

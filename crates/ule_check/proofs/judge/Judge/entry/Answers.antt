-- Nothing is due of the worker, or an event is, by which the entry is judged.
use Rattle.std.proofs.Common.{sym, ◌∙◌, ap}
use Rattle.std.proofs.lemmas.Option.{none-some}
use Rattle.ule_model.specs.Legal.{amount_in_all}
use Rattle.ule_check.specs.JudgeValue.{entry_fault}
use Rattle.ule_check.specs.declared.verdicts.Fault.TheVariants as fault
use Rattle.ule_check.proofs.JudgeLaws.{none_due}
use Rattle.ule_check.proofs.judge.Judge.entry.Goals as goal

pub returns-in-None : goal.returns-in-None
returns-in-None c n j judge = record {
  some = ap (entry_fault (amount_in_all c.args.s.now.scripts) j c.args.e)
      (none_due c.args.s.now n c.args.self.now j judge c.args.e.worker (sym c.due.ensures ∙ c.in-None.is));
  none = λ none. absurd (none-some fault.Worker (sym none));
}

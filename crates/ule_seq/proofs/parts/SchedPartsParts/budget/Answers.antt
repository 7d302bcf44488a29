-- A worker's script is within the budget of all.
use Rattle.std.proofs.Common.{◌≡◌, ◌≤◌, [], length, slice_index_or, refl, sym, ap, ◌∙◌, subst}
use Rattle.ule_types.specs.Commands.{greatest_of}
use Rattle.ule_types.specs.declared.command.Command.{Command}
use Rattle.ule_types.specs.declared.setup.Setup.{Setup}
use Rattle.ule_micro.specs.Laws.{total_charge}
use Rattle.ule_parts.specs.Scheduler.{orders_of}
use Rattle.ule_parts.specs.Workers.{owns_from}
use Rattle.ule_seq.proofs.PartLaws.{budget_small, low_worker}
use Rattle.ule_seq.proofs.parts.SchedPartsParts.budget.Goals as goal

pub commands_of-requires : goal.commands_of-requires
commands_of-requires c = low_worker c.args.self.now c.args.worker (length (owns_from c.args.self.now 0 c.args.self.now.cpus)) refl c.requires

pub charged-requires : goal.charged-requires
charged-requires c =
    let s = c.args.self.now in
    let w = c.args.worker in
    let is : c.commands_of.result.now ≡ orders_of s w = c.commands_of.ensures ∙ ap (λ (x : Setup). slice_index_or x.scripts w []) c.self.view_is in
    let cpus = ap (λ (x : Setup). x.cpus) c.self.view_is in
    subst (λ cs. total_charge (λ (d : Command). greatest_of d w c.self.inside.setup.cpus) cs ≤ 65536) (sym is)
    (subst (λ n. total_charge (λ (d : Command). greatest_of d w n) (orders_of s w) ≤ 65536) (sym cpus) (budget_small s w c.requires))

use Rattle.std.proofs.Common.{◌+◌, length, Option, sym, ap, ◌∙◌}
use Rattle.std.specs.Prelude.{nat_le, nat_lt}
use Rattle.std.specs.List.{list_any}
use Rattle.ule_types.specs.declared.command.Command.{Command}
use Rattle.ule_scenario.specs.Reading.{spent_items}
use Rattle.ule_scenario.specs.Effects.{command_in, turns_in}
use Rattle.ule_scenario.specs.Reasons.{charge, over_budget}
use Rattle.ule_scenario.proofs.Meaning.{up_to_turns, at_workers, at_turns, at_budget}
use Rattle.ule_scenario.proofs.draft.Draft.meaning_reason.Goals as goal

pub returns-then-names_no_worker : goal.returns-then-names_no_worker
returns-then-names_no_worker c = λ line is place pass.
    let r = c.args.self.now in
    let first = c.args.first in
    let head = up_to_turns r line first (sym (c.names_no_cpu.ensures line is) ∙ c.if-names_no_cpu.false) (sym (c.is_repeated.ensures line is) ∙ c.if-is_repeated.false) (sym (c.has_no_base.ensures line is) ∙ c.if-has_no_base.false)
    (sym (c.is_undeclared.ensures line is) ∙ c.if-is_undeclared.false) (sym (c.is_no_fork.ensures line is) ∙ c.if-is_no_fork.false) (sym (c.topology_fault.ensures line is place pass) ∙ c.in_default.is) in
    c.reason-then-names_no_worker.ensures
    ∙ sym (head ∙ at_workers (list_any (λ w. nat_le r.cpus w) (turns_in line first)) (nat_lt 4096 (length r.turns + length (turns_in line first))) (over_budget (spent_items r + charge r (command_in line first)))
    (sym (c.names_no_worker.ensures line is) ∙ c.if-names_no_worker.true))

pub returns-then-has_many_turns : goal.returns-then-has_many_turns
returns-then-has_many_turns c = λ line is place pass.
    let r = c.args.self.now in
    let first = c.args.first in
    let head = up_to_turns r line first (sym (c.names_no_cpu.ensures line is) ∙ c.if-names_no_cpu.false) (sym (c.is_repeated.ensures line is) ∙ c.if-is_repeated.false) (sym (c.has_no_base.ensures line is) ∙ c.if-has_no_base.false)
    (sym (c.is_undeclared.ensures line is) ∙ c.if-is_undeclared.false) (sym (c.is_no_fork.ensures line is) ∙ c.if-is_no_fork.false) (sym (c.topology_fault.ensures line is place pass) ∙ c.in_default.is) in
    c.reason-then-has_many_turns.ensures
    ∙ sym (head ∙ at_turns (list_any (λ w. nat_le r.cpus w) (turns_in line first)) (nat_lt 4096 (length r.turns + length (turns_in line first))) (over_budget (spent_items r + charge r (command_in line first)))
    (sym (c.names_no_worker.ensures line is) ∙ c.if-names_no_worker.false) (sym (c.has_many_turns.ensures line is) ∙ c.if-has_many_turns.true))

pub returns : goal.returns
returns c = λ line is place pass.
    let r = c.args.self.now in
    let first = c.args.first in
    let head = up_to_turns r line first (sym (c.names_no_cpu.ensures line is) ∙ c.if-names_no_cpu.false) (sym (c.is_repeated.ensures line is) ∙ c.if-is_repeated.false) (sym (c.has_no_base.ensures line is) ∙ c.if-has_no_base.false)
    (sym (c.is_undeclared.ensures line is) ∙ c.if-is_undeclared.false) (sym (c.is_no_fork.ensures line is) ∙ c.if-is_no_fork.false) (sym (c.topology_fault.ensures line is place pass) ∙ c.in_default.is) in
    c.over_budget.ensures ∙ ap (λ (x : Option Command). over_budget (spent_items r + charge r x)) (c.command_in.ensures line is pass)
    ∙ sym (head ∙ at_budget (list_any (λ w. nat_le r.cpus w) (turns_in line first)) (nat_lt 4096 (length r.turns + length (turns_in line first))) (over_budget (spent_items r + charge r (command_in line first)))
    (sym (c.names_no_worker.ensures line is) ∙ c.if-names_no_worker.false) (sym (c.has_many_turns.ensures line is) ∙ c.if-has_many_turns.false))

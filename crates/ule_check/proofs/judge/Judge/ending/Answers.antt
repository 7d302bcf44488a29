-- Each test of the code is a fault behind the last entry.
use Rattle.std.proofs.Common.{◌≡◌, ◌+◌, ◌≤◌, List, length, sym, ◌∙◌, ap, subst}
use Rattle.ule_model.specs.Finals.{thread_lines}
use Rattle.ule_model.specs.Legal.{amount_in_all}
use Rattle.ule_model.specs.Start.{starting_time}
use Rattle.ule_check.specs.Ending.{cpu_fault, end_fault, missing_from, thread_fault}
use Rattle.ule_check.specs.JudgeValue.{missing_in}
use Rattle.ule_check.specs.declared.seat.Seat.{Seat}
use Rattle.ule_check.proofs.EndingLaws.{end_cpu, end_last, end_missing, end_thread}
use Rattle.ule_check.proofs.JudgeLaws.{few_seats}
use Rattle.ule_check.proofs.MissingLaws.{missing_is}
use Rattle.ule_check.proofs.judge.Judge.ending.Goals as goal

pub missing-requires : goal.missing-requires
missing-requires c = subst (λ (xs : List Seat). length xs ≤ 16) (sym c.deref.ensures.value) (few_seats c.args.s.now c.requires.judge.0 c.args.self.now c.requires.judge.1 c.requires.judge.2)

pub returns-in-Some : goal.returns-in-Some
returns-in-Some c n j judge =
    let s = c.args.s.now in
    let o = c.args.trace.now in
    let total = amount_in_all s.scripts in
    let missed : missing_from j.amount 0 j.courses ≡ c.missing.result = sym (missing_is s n c.args.self.now j judge) ∙ ap (missing_in 0) (sym c.deref.ensures.value) ∙ sym c.missing.ensures in
    end_missing total o j c.in-Some.why (missed ∙ c.in-Some.is)

pub returns-in-Some-thread_fault : goal.returns-in-Some-thread_fault
returns-in-Some-thread_fault c n j judge =
    let s = c.args.s.now in
    let o = c.args.trace.now in
    let total = amount_in_all s.scripts in
    let missed : missing_from j.amount 0 j.courses ≡ c.missing.result = sym (missing_is s n c.args.self.now j judge) ∙ ap (missing_in 0) (sym c.deref.ensures.value) ∙ sym c.missing.ensures in
    let has = c.finals.ensures.lines j.world judge.world in
    let threads : thread_fault (thread_lines j.world.members) o.threads ≡ c.thread_fault.result =
    sym (c.thread_fault.ensures ∙ (λ i. thread_fault ((c.threads.ensures.lines ∙ has.threads) i) (c.threads-2.ensures.lines i))) in
    end_thread total o j c.in-Some-thread_fault.why (missed ∙ c.in_default.is) (threads ∙ c.in-Some-thread_fault.is)

pub returns-in-Some-cpu_fault : goal.returns-in-Some-cpu_fault
returns-in-Some-cpu_fault c n j judge =
    let s = c.args.s.now in
    let o = c.args.trace.now in
    let total = amount_in_all s.scripts in
    let missed : missing_from j.amount 0 j.courses ≡ c.missing.result = sym (missing_is s n c.args.self.now j judge) ∙ ap (missing_in 0) (sym c.deref.ensures.value) ∙ sym c.missing.ensures in
    let has = c.finals.ensures.lines j.world judge.world in
    let threads : thread_fault (thread_lines j.world.members) o.threads ≡ c.thread_fault.result =
    sym (c.thread_fault.ensures ∙ (λ i. thread_fault ((c.threads.ensures.lines ∙ has.threads) i) (c.threads-2.ensures.lines i))) in
    let cpus : cpu_fault 0 j.world.lines o.cpus ≡ c.cpu_fault.result =
    sym (c.cpu_fault.ensures ∙ (λ i. cpu_fault 0 ((c.cpus.ensures.lines ∙ has.cpus) i) (c.cpus-2.ensures.lines i))) in
    end_cpu total o j c.in-Some-cpu_fault.why (missed ∙ c.in_default.is) (threads ∙ c.in_default-thread_fault.is) (cpus ∙ c.in-Some-cpu_fault.is)

pub returns : goal.returns
returns c n j judge =
    let s = c.args.s.now in
    let o = c.args.trace.now in
    let total = amount_in_all s.scripts in
    let missed : missing_from j.amount 0 j.courses ≡ c.missing.result = sym (missing_is s n c.args.self.now j judge) ∙ ap (missing_in 0) (sym c.deref.ensures.value) ∙ sym c.missing.ensures in
    let has = c.finals.ensures.lines j.world judge.world in
    let threads : thread_fault (thread_lines j.world.members) o.threads ≡ c.thread_fault.result =
    sym (c.thread_fault.ensures ∙ (λ i. thread_fault ((c.threads.ensures.lines ∙ has.threads) i) (c.threads-2.ensures.lines i))) in
    let cpus : cpu_fault 0 j.world.lines o.cpus ≡ c.cpu_fault.result =
    sym (c.cpu_fault.ensures ∙ (λ i. cpu_fault 0 ((c.cpus.ensures.lines ∙ has.cpus) i) (c.cpus-2.ensures.lines i))) in
    let end : end_fault (starting_time + total) o.now ≡ c.end_fault.result = sym (c.end_fault.ensures ∙ (λ i. end_fault (judge.end i) (c.end_time.ensures i))) in
    end_last total o j c.end_fault.result (missed ∙ c.in_default.is) (threads ∙ c.in_default-thread_fault.is) (cpus ∙ c.in_default-cpu_fault.is) end

-- A move is what its calls make of the two CPUs and of the hand.
use Rattle.std.proofs.Common.{sym, ◌∙◌, ap}
use Rattle.ule_score.specs.declared.record.ThreadRecord.{ThreadRecord}
use Rattle.std.specs.Prelude.{Option}
use Rattle.ule_model.specs.LockValue.{queue}
use Rattle.ule_seq.specs.Calls.{queue_taken_in}
use Rattle.ule_seq.proofs.PairSteps.{move_refused, none_given, thread_moved}
use Rattle.ule_seq.proofs.pair.move_thread.Goals as goal

pub returns-then-is_refused : goal.returns-then-is_refused
returns-then-is_refused c =
    move_refused c.args.worker c.args.why c.args.hand.now c.args.from.now c.args.to.now c.none_movable.result
    (λ now. sym (c.is_refused.ensures c.args.worker now) ∙ c.if-is_refused.true) (λ now. c.none_movable.ensures c.args.worker now)

pub returns-in_default : goal.returns-in_default
returns-in_default c =
    none_given c.args.worker c.args.why c.args.hand.now c.args.from.now c.args.to.now c.none_movable-in_default.result
    (λ now. sym (c.is_refused.ensures c.args.worker now) ∙ c.if-is_refused.false) (sym c.in_default.ensures.value)
    (λ now. c.none_movable-in_default.ensures c.args.worker now)

pub returns : goal.returns
returns c =
    thread_moved c.args.worker c.args.why c.args.hand.now c.args.from.now c.args.to.now c.in-Some.t c.rem.result
    (λ now. sym (c.is_refused.ensures c.args.worker now) ∙ c.if-is_refused.false) c.in-Some.ensures.value
    c.in-Some.ensures.movable c.in-Some.ensures.queued c.rem.ensures.thread c.rem.ensures.number
    c.take_in.new.hand (queue c.rem.new.self) (queue c.take_in.new.tdq) c.take_in.result
    (c.take_in.ensures.hand ∙ ap (λ (h : Option ThreadRecord). (queue_taken_in c.args.worker h c.args.to.now).hand) c.put.ensures)
    (ap queue c.rem.ensures.value)
    (c.take_in.ensures.value ∙ ap (λ (h : Option ThreadRecord). (queue_taken_in c.args.worker h c.args.to.now).value) c.put.ensures)
    (c.take_in.ensures.reply ∙ ap (λ (h : Option ThreadRecord). (queue_taken_in c.args.worker h c.args.to.now).reply) c.put.ensures)

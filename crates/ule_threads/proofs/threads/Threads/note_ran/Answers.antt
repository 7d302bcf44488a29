use Rattle.std.proofs.Common.{◌≡◌, Option, false, subst, ◌∙◌, arith, slice_index_or}
use Rattle.ule_score.specs.Changes.{after_running}
use Rattle.ule_score.specs.declared.record.ThreadRecord.{ThreadRecord}
use Rattle.ule_threads.proofs.SlotLaws.{slot_changed}
use Rattle.ule_threads.proofs.threads.Threads.note_ran.Goals as goal

pub returns : goal.returns
returns c =
    let slots = c.reach.new.slots in
    let long = slots.ok.0 in
    let there = c.reach.ensures.there in
    slot_changed slots.items c.args.self.now c.from.result c.args.t c.in-Some.r c.note_ran.new.r (after_running c.args.now) (c.from.ensures ∙ c.t.view_is) (omega arith)
    (c.reach.ensures.slots ∙ c.self.view_is)
    (subst (λ (o : Option ThreadRecord). o ≡ slice_index_or slots.items c.from.result o) c.in-Some.is c.index_mut-slot.ensures.value) c.note_ran.ensures

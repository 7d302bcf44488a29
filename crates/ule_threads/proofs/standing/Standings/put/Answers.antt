use Rattle.std.proofs.Common.{◌∙◌, arith}
use Rattle.ule_threads.proofs.SlotLaws.{slot_set}
use Rattle.ule_threads.proofs.standing.Standings.put.Goals as goal

pub returns : goal.returns
returns c =
    let slots = c.reach.new.slots in
    let long = slots.ok.0 in
    let there = c.reach.ensures.there in
    slot_set slots.items c.args.self.now c.from.result c.args.t c.args.kept (c.from.ensures ∙ c.t.view_is) (omega arith)
    (c.reach.ensures.slots ∙ c.self.view_is)

use Rattle.std.proofs.Common.{◌≡◌, ℕ, ◌+◌, ◌-◌, Bool, ◌++◌, List, Option, None, if◌then◌else◌, replicate, take, ap, ◌∙◌, arith}
use Rattle.ule_threads.proofs.SlotLaws.{resized}
use Rattle.ule_threads.proofs.slots.reach.Goals as goal

pub returns-then-len-at-clause-slots : goal.returns-then-len-at-clause-slots
returns-then-len-at-clause-slots g c =
    let old = c.args.slots.now in
    let at = c.from-at.ensures in
    let len = c.len.ensures in
    let short = c.if-len-at.true in
    let view = c.t.view_is in
    let small = c.t.invariant in
    let room = c.requires.room in
    resized old.items c.resize.new.self.items old.len c.from-at.result old.ok.0 (omega arith) (omega arith)
    (c.resize.ensures.items ∙ ap (λ (b : Bool). if b then take (c.from-at.result + 1) old.items ++ replicate (c.from-at.result + 1 - old.len) None else old.items)
    (c.resize.ensures.succeeds (omega arith)))

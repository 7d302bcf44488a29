use Rattle.std.proofs.Common.{ap, slice_index}
use Rattle.ule_runq.proofs.LinkLaws.{linked_out_last, linked_out_more}
use Rattle.ule_runq.proofs.links.Links.link_out.Goals as goal

pub returns-then-self-from-eq-NONE : goal.returns-then-self-from-eq-NONE
returns-then-self-from-eq-NONE c =
    linked_out_last _ _ c.args.b c.args.t _ _ _ _ c.requires.bucket c.ranges.t.fits (ap (slice_index _) c.from.ensures) (ap (slice_index _) c.from-2.ensures)
    c.from-3.ensures c.from-4.ensures c.join.ensures
    c.if-self-from-eq-NONE.true

pub returns-else-self-from-eq-NONE : goal.returns-else-self-from-eq-NONE
returns-else-self-from-eq-NONE c =
    linked_out_more _ _ c.args.b c.args.t _ _ _ _ c.requires.bucket c.ranges.t.fits (ap (slice_index _) c.from.ensures) (ap (slice_index _) c.from-2.ensures)
    c.from-3.ensures c.from-4.ensures c.join.ensures
    c.if-self-from-eq-NONE.false

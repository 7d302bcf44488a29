use Rattle.std.proofs.Common.{Some, ap, ◌∙◌}
use Rattle.ule_smp.proofs.Goings.{goes_begun_under, goes_ended, goes_through, rests_ended}
use Rattle.ule_smp.proofs.course.attempt.Goals as goal

pub returns-clause-run : goal.returns-clause-run
returns-clause-run g c =
    let m = g.P.Parts.means c.args.locks.now.parts in let law = g.met.P.Parts.lawful c.args.locks.now.parts in let p = c.args.p.now in let b = c.begin.ensures in let t = c.in_default.ensures.taken in
    let n = c.next.ensures in let k = c.next-2.ensures in let d = c.perform_under-told.ensures.performed in
    let end = goes_through m law c.args.c.now p _ _ _ _ c.in-Some-Event.e c.perform_under-told.result c.next.result c.next-2.result c.requires.counts c.requires.can c.requires.left
    (goes_begun_under m law c.args.c.now p c.args.l t.0 _ _ t.1 b.own b.left b.stands)
    (record { item = n.item; own = n.own; stands = n.stands; left = n.left }) (c.in-Some-Event.is ∙ ap (λ z. Some z) c.in-Some-Event.field-0-is) d
    (record { item = k.item; own = k.own; stands = k.stands; left = k.left }) c.in-None.is in
    goes_ended m law c.args.c.now p _ _ end

pub returns-clause-rest : goal.returns-clause-rest
returns-clause-rest g c =
    let m = g.P.Parts.means c.args.locks.now.parts in let law = g.met.P.Parts.lawful c.args.locks.now.parts in let p = c.args.p.now in let b = c.begin.ensures in let t = c.in_default.ensures.taken in
    let n = c.next.ensures in let k = c.next-2.ensures in let d = c.perform_under-told.ensures.performed in
    let end = goes_through m law c.args.c.now p _ _ _ _ c.in-Some-Event.e c.perform_under-told.result c.next.result c.next-2.result c.requires.counts c.requires.can c.requires.left
    (goes_begun_under m law c.args.c.now p c.args.l t.0 _ _ t.1 b.own b.left b.stands)
    (record { item = n.item; own = n.own; stands = n.stands; left = n.left }) (c.in-Some-Event.is ∙ ap (λ z. Some z) c.in-Some-Event.field-0-is) d
    (record { item = k.item; own = k.own; stands = k.stands; left = k.left }) c.in-None.is in
    λ given rest valid. rests_ended m law c.args.c.now p given _ _ end (ap (λ z. z.worker.held) k.own ∙ ap (λ z. z.held) d.worker) (ap (λ z. z.worker.pending) k.own ∙ ap (λ z. z.pending) d.worker) rest valid

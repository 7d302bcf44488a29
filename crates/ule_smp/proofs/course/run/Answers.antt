use Rattle.std.proofs.Common.{Some, None, ap, sym, subst, ◌∙◌}
use Rattle.ule_micro.specs.declared.todo.Todo.TheVariants.{Advance, Event}
use Rattle.ule_smp.proofs.Goings.{advance_left, event_left, goes_advanced, goes_begun, goes_ended, goes_performed, goes_told, rests_ended}
use Rattle.ule_smp.proofs.course.run.Goals as goal

pub loop-init : goal.loop-init
loop-init g c = let m = g.P.Parts.means c.args.locks.now.parts in let law = g.met.P.Parts.lawful c.args.locks.now.parts in let p = c.args.p.now in let b = c.begin.ensures in (
  goes_begun m law c.args.c.now p _ p.worker.held p.worker.read b.own b.left
      (λ given rest valid. b.stands given rest.come.stands (subst (λ z. m.valid z given c.args.c.now) (sym rest.come.number) valid)),
  ap (λ z. z.worker.held) b.own ∙ c.requires.can.1.held,
  ap (λ z. z.worker.pending) b.own ∙ c.requires.can.1.calm,
)

pub advance_now-requires-clause-left : goal.advance_now-requires-clause-left
advance_now-requires-clause-left g c = let m = g.P.Parts.means c.args.locks.now.parts in let law = g.met.P.Parts.lawful c.args.locks.now.parts in let p = c.args.p.now in let n = c.next-in-loop.ensures in
    let has = goes_told m law c.args.c.now p _ c.loop.p _ c.loop.last c.next-in-loop.result (Some (Advance c.in-Some-Advance.k)) (record { item = n.item; own = n.own; stands = n.stands; left = n.left })
    (c.in-Some-Advance.is ∙ ap (λ z. Some z) c.in-Some-Advance.field-0-is) c.loop.invariant.0 in
    advance_left m law c.args.c.now p _ _ c.in-Some-Advance.k c.requires.can c.requires.left has

pub run_event-told-requires-clause-left : goal.run_event-told-requires-clause-left
run_event-told-requires-clause-left g c = let m = g.P.Parts.means c.args.locks.now.parts in let law = g.met.P.Parts.lawful c.args.locks.now.parts in let p = c.args.p.now in let n = c.next-in-loop.ensures in
    let has = goes_told m law c.args.c.now p _ c.loop.p _ c.loop.last c.next-in-loop.result (Some (Event c.in-Some-Event.e)) (record { item = n.item; own = n.own; stands = n.stands; left = n.left })
    (c.in-Some-Event.is ∙ ap (λ z. Some z) c.in-Some-Event.field-0-is) c.loop.invariant.0 in
    event_left m law c.args.c.now p _ _ c.in-Some-Event.e c.requires.counts c.requires.can c.requires.left has

pub returns-in-None-next-clause-run : goal.returns-in-None-next-clause-run
returns-in-None-next-clause-run g c = let m = g.P.Parts.means c.args.locks.now.parts in let law = g.met.P.Parts.lawful c.args.locks.now.parts in let p = c.args.p.now in let n = c.next-in-loop.ensures in
    goes_ended m law c.args.c.now p _ _ (goes_told m law c.args.c.now p _ c.loop.p _ c.loop.last c.next-in-loop.result None (record { item = n.item; own = n.own; stands = n.stands; left = n.left })
    c.in-None-next.is c.loop.invariant.0)

pub returns-in-None-next-clause-rest : goal.returns-in-None-next-clause-rest
returns-in-None-next-clause-rest g c = let m = g.P.Parts.means c.args.locks.now.parts in let law = g.met.P.Parts.lawful c.args.locks.now.parts in let p = c.args.p.now in let n = c.next-in-loop.ensures in
    let end = goes_told m law c.args.c.now p _ c.loop.p _ c.loop.last c.next-in-loop.result None (record { item = n.item; own = n.own; stands = n.stands; left = n.left }) c.in-None-next.is c.loop.invariant.0 in
    λ given rest valid. rests_ended m law c.args.c.now p given _ _ end (ap (λ z. z.worker.held) n.own ∙ c.loop.invariant.1) (ap (λ z. z.worker.pending) n.own ∙ c.loop.invariant.2) rest valid

pub loop-preserved-in-Some-Advance : goal.loop-preserved-in-Some-Advance
loop-preserved-in-Some-Advance g c = let m = g.P.Parts.means c.args.locks.now.parts in let law = g.met.P.Parts.lawful c.args.locks.now.parts in let p = c.args.p.now in let n = c.next-in-loop.ensures in
    let has = goes_told m law c.args.c.now p _ c.loop.p _ c.loop.last c.next-in-loop.result (Some (Advance c.in-Some-Advance.k)) (record { item = n.item; own = n.own; stands = n.stands; left = n.left })
    (c.in-Some-Advance.is ∙ ap (λ z. Some z) c.in-Some-Advance.field-0-is) c.loop.invariant.0 in
    let a = c.advance_now.ensures in (
      goes_advanced m law c.args.c.now p _ _ _ c.in-Some-Advance.k c.requires.can (advance_left m law c.args.c.now p _ _ c.in-Some-Advance.k c.requires.can c.requires.left has) a.pass a.stands has,
      ap (λ z. z.worker.held) a.pass ∙ (ap (λ z. z.worker.held) n.own ∙ c.loop.invariant.1),
      ap (λ z. z.worker.pending) a.pass ∙ (ap (λ z. z.worker.pending) n.own ∙ c.loop.invariant.2),
    )

pub loop-preserved : goal.loop-preserved
loop-preserved g c = let m = g.P.Parts.means c.args.locks.now.parts in let law = g.met.P.Parts.lawful c.args.locks.now.parts in let p = c.args.p.now in let n = c.next-in-loop.ensures in
    let has = goes_told m law c.args.c.now p _ c.loop.p _ c.loop.last c.next-in-loop.result (Some (Event c.in-Some-Event.e)) (record { item = n.item; own = n.own; stands = n.stands; left = n.left })
    (c.in-Some-Event.is ∙ ap (λ z. Some z) c.in-Some-Event.field-0-is) c.loop.invariant.0 in
    let d = c.run_event-told.ensures in (
      goes_performed m law c.args.c.now p _ _ _ c.in-Some-Event.e c.run_event-told.result c.requires.can
          (event_left m law c.args.c.now p _ _ c.in-Some-Event.e c.requires.counts c.requires.can c.requires.left has) d has,
      ap (λ z. z.held) d.worker,
      ap (λ z. z.pending) d.worker,
    )

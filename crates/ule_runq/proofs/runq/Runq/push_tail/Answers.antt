use Rattle.std.proofs.Common.{slice_index, ap}
use Rattle.ule_runq.proofs.Spelled.{spelled_at, spelled_whole, lists_of_spelled, tail_free, tail_linked}
use Rattle.ule_runq.proofs.runq.Runq.push_tail.Goals as goal

pub link_in-requires-clause-before : goal.link_in-requires-clause-before
link_in-requires-clause-before c =
    let spells = spelled_at _ _ _ c.self.invariant c.self.view_is c.deref_mut-links.ensures.value in
    (tail_free _ _ c.args.b c.args.t _ _ spells c.requires.bucket c.t.invariant c.requires.absent c.t.view_is (ap (slice_index _) c.from.ensures)).0

pub link_in-requires-clause-not_before : goal.link_in-requires-clause-not_before
link_in-requires-clause-not_before c =
    let spells = spelled_at _ _ _ c.self.invariant c.self.view_is c.deref_mut-links.ensures.value in
    (tail_free _ _ c.args.b c.args.t _ _ spells c.requires.bucket c.t.invariant c.requires.absent c.t.view_is (ap (slice_index _) c.from.ensures)).1

pub invariant_of-self : goal.invariant_of-self
invariant_of-self c =
    let spells = spelled_at _ _ _ c.self.invariant c.self.view_is c.deref_mut-links.ensures.value in
    spelled_whole _ _
    (tail_linked _ _ c.args.b c.args.t _ _ spells c.requires.bucket c.t.invariant c.requires.absent c.t.view_is _ (ap (slice_index _) c.from.ensures) c.link_in.ensures)

pub returns-clause-filed : goal.returns-clause-filed
returns-clause-filed c =
    let spells = spelled_at _ _ _ c.self.invariant c.self.view_is c.deref_mut-links.ensures.value in
    lists_of_spelled _ _
    (tail_linked _ _ c.args.b c.args.t _ _ spells c.requires.bucket c.t.invariant c.requires.absent c.t.view_is _ (ap (slice_index _) c.from.ensures) c.link_in.ensures)

pub returns-clause-whole : goal.returns-clause-whole
returns-clause-whole c =
    let spells = spelled_at _ _ _ c.self.invariant c.self.view_is c.deref_mut-links.ensures.value in
    (spelled_whole _ _
    (tail_linked _ _ c.args.b c.args.t _ _ spells c.requires.bucket c.t.invariant c.requires.absent c.t.view_is _ (ap (slice_index _) c.from.ensures) c.link_in.ensures)).sound

use Rattle.std.proofs.Common.{arith}
use Rattle.ule_runq.proofs.RunqLaws.{bucket_in_place}
use Rattle.ule_runq.proofs.Spelled.{spelled_at, spelled_whole, lists_of_spelled, placed_present, around_small, taken_out}
use Rattle.ule_runq.proofs.runq.Runq.remove.Goals as goal

pub overflow_cast-b : goal.overflow_cast-b
overflow_cast-b c =
    let spells = spelled_at _ _ _ c.self.invariant c.self.view_is c.deref_mut-links.ensures.value in
    let low = (placed_present _ _ c.args.t _ _ spells c.from.ensures c.t.view_is c.requires).1.bucket in
    omega arith

pub link_out-requires-clause-bucket : goal.link_out-requires-clause-bucket
link_out-requires-clause-bucket c =
    let spells = spelled_at _ _ _ c.self.invariant c.self.view_is c.deref_mut-links.ensures.value in
    (placed_present _ _ c.args.t _ _ spells c.from.ensures c.t.view_is c.requires).1.bucket

pub link_out-requires-clause-before : goal.link_out-requires-clause-before
link_out-requires-clause-before c =
    let spells = spelled_at _ _ _ c.self.invariant c.self.view_is c.deref_mut-links.ensures.value in
    (around_small _ _ c.args.t _ _ _ spells.sound c.t.view_is (placed_present _ _ c.args.t _ _ spells c.from.ensures c.t.view_is c.requires).1).0

pub link_out-requires-clause-behind : goal.link_out-requires-clause-behind
link_out-requires-clause-behind c =
    let spells = spelled_at _ _ _ c.self.invariant c.self.view_is c.deref_mut-links.ensures.value in
    (around_small _ _ c.args.t _ _ _ spells.sound c.t.view_is (placed_present _ _ c.args.t _ _ spells c.from.ensures c.t.view_is c.requires).1).1

pub invariant_of-self : goal.invariant_of-self
invariant_of-self c =
    let spells = spelled_at _ _ _ c.self.invariant c.self.view_is c.deref_mut-links.ensures.value in
    spelled_whole _ _
    (taken_out _ _ _ c.args.t _ _ _ spells c.t.view_is (placed_present _ _ c.args.t _ _ spells c.from.ensures c.t.view_is c.requires).1 c.link_out.ensures)

pub returns-clause-bucket : goal.returns-clause-bucket
returns-clause-bucket c =
    let spells = spelled_at _ _ _ c.self.invariant c.self.view_is c.deref_mut-links.ensures.value in
    let at = (placed_present _ _ c.args.t _ _ spells c.from.ensures c.t.view_is c.requires) in
    bucket_in_place _ c.args.t _ at.0 at.1.place

pub returns-clause-rest : goal.returns-clause-rest
returns-clause-rest c =
    let spells = spelled_at _ _ _ c.self.invariant c.self.view_is c.deref_mut-links.ensures.value in
    lists_of_spelled _ _
    (taken_out _ _ _ c.args.t _ _ _ spells c.t.view_is (placed_present _ _ c.args.t _ _ spells c.from.ensures c.t.view_is c.requires).1 c.link_out.ensures)

pub returns-clause-whole : goal.returns-clause-whole
returns-clause-whole c =
    let spells = spelled_at _ _ _ c.self.invariant c.self.view_is c.deref_mut-links.ensures.value in
    (spelled_whole _ _
    (taken_out _ _ _ c.args.t _ _ _ spells c.t.view_is (placed_present _ _ c.args.t _ _ spells c.from.ensures c.t.view_is c.requires).1 c.link_out.ensures)).sound

-- What is found in the group and its parent say which item follows.
use Rattle.std.proofs.Common.{ℕ, ◌∙◌, ap}
use Rattle.ule_types.specs.declared.event.Event.TheVariants.{Move}
use Rattle.ule_types.specs.declared.event.MoveWhy.TheVariants.{Steal}
use Rattle.ule_topo.specs.Tree.{outward}
use Rattle.ule_program.specs.Program.{Steals, gives, steals, stops}
use Rattle.ule_program.proofs.StealLaws.{steals_found, steals_nothing, steals_outward}
use Rattle.ule_program.proofs.own.Own.+steal_from.Goals as goal

pub returns-in-Some : goal.returns-in-Some
returns-in-Some n c =
    let own = c.args.self.now in
    c.give.ensures ∙
    ap (λ (x : ℕ). gives (Move c.in-Some.v own.worker Steal) (Steals c.in-Some.v c.args.g c.args.mask) (record own { jitter = x })) c.highest-found.ensures.word ∙
    steals_found own c.args.mask c.args.g c.from.result c.requires.seat c.requires.group c.from.ensures c.in-Some.v c.in-Some.ensures.cpu

pub returns-in-Some-outer : goal.returns-in-Some-outer
returns-in-Some-outer n c =
    let own = c.args.self.now in
    c.steal_from.ensures ∙
    ap (λ (x : ℕ). steals c.args.mask (outward own.topology own.worker c.in-Some-outer.further) (record own { jitter = x })) c.highest-found.ensures.word ∙
    steals_outward own c.args.mask c.args.g c.from.result c.requires.seat c.requires.group c.from.ensures c.in-Some-outer.further c.in-None.ensures.cpu c.in-Some-outer.ensures.place

pub returns-in-None-outer : goal.returns-in-None-outer
returns-in-None-outer n c =
    let own = c.args.self.now in
    ap (λ (x : ℕ). stops (record own { jitter = x })) c.highest-found.ensures.word ∙
    steals_nothing own c.args.mask c.args.g c.from.result c.requires.seat c.requires.group c.from.ensures c.in-None.ensures.cpu c.in-None-outer.ensures.place

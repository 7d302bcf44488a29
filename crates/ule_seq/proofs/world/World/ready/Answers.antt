-- The answer is that of each world that the scheduler shows.
use Rattle.std.proofs.Common.{ℕ, Option, ◌∙◌, ap}
use Rattle.std.specs.Option.{option_and_then}
use Rattle.ule_model.specs.Events.{holder_of}
use Rattle.ule_laws.proofs.TellLaws.{holder_shown}
use Rattle.ule_seq.specs.Readiness.{ready_by}
use Rattle.ule_seq.proofs.world.World.ready.Goals as goal

pub returns-in-Some-clause-readies : goal.returns-in-Some-clause-readies
returns-in-Some-clause-readies c w shows =
    c.ready_by.ensures ∙
    ap (ready_by c.args.worker) (c.holder_of.ensures ∙ holder_shown c.args.self.now w c.in-Some.t shows) ∙
    ap (λ (o : Option ℕ). ready_by c.args.worker (option_and_then (holder_of w.members) o)) c.in-Some.ensures

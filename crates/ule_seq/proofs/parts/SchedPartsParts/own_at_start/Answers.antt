-- The own part of a worker that there is.
use Rattle.std.proofs.Common.{None, Some, sym, ap, ◌∙◌, arith}
use Rattle.ule_types.specs.declared.setup.Setup.{Setup}
use Rattle.ule_program.specs.Program.{own_of_setup}
use Rattle.ule_parts.specs.Workers.{Worker}
use Rattle.ule_seq.proofs.PartLaws.{own_there, worker_there}
use Rattle.ule_seq.proofs.parts.SchedPartsParts.own_at_start.Goals as goal

pub start-requires : goal.start-requires
start-requires c = let cpus = ap (λ (s : Setup). s.cpus) c.self.view_is in omega (arith, cpus, worker_there c.args.self.now c.args.worker c.requires)

pub returns : goal.returns
returns c =
    own_there c.args.self.now c.args.worker (worker_there c.args.self.now c.args.worker c.requires) ∙
    ap (λ (o : Worker). Some o) (ap (λ (s : Setup). record { program = own_of_setup s c.args.worker; hand = None }) (sym c.self.view_is) ∙ sym c.start.ensures)

use Rattle.std.proofs.Common.{subst, sym}
use Rattle.ule_race.proofs.Races.{has_room}
use Rattle.ule_smp.specs.Ends.{IsWholeOutcome}
use Rattle.ule_smp.specs.Smp.{AreDone}
use Rattle.ule_types.specs.declared.setup.Setup.{Setup}
use Rattle.ule_race.proofs.play.play_race.Goals as goal

-- src/play.rt
pub close-requires-clause-room : goal.close-requires-clause-room
close-requires-clause-room g c = has_room c.in_ok-smp.smp.setup c.in_ok-room.room c.in_ok-room.ensures

-- src/play.rt
pub returns : goal.returns
returns g c =
    subst (λ (st : Setup). IsWholeOutcome st c.args.s.now.scripts c.close.result) c.in_ok-smp.ensures.setup
    (c.close.ensures c.args.s.now.scripts (subst (λ (st : Setup). AreDone st c.in_ok-smp.smp.table c.args.s.now.scripts c.workers.new.passes.list.items) (sym c.in_ok-smp.ensures.setup) c.workers.ensures)).outcome

-- A world with the opening values of a setup and empty hands shows the world at the start.
use Rattle.std.proofs.Common.{◌≡◌, List, replicate, Option, None, sym, subst}
use Rattle.ule_score.specs.declared.record.ThreadRecord.{ThreadRecord}
use Rattle.ule_types.specs.declared.setup.Setup.{Setup}
use Rattle.ule_model.specs.LockValue.{LockValue}
use Rattle.ule_model.specs.OpeningValues.{opening_scheduler}
use Rattle.ule_model.specs.Start.{world_at_start}
use Rattle.ule_model.specs.WorldValue.{Shows}
use Rattle.ule_laws.proofs.OpeningLaws.{opening_shows}

-- the values and hands that were made show the world at the start
pub made_show : (s : Setup) (values : List LockValue) (hands : List (Option ThreadRecord)) → values ≡ (opening_scheduler s).values → hands ≡ replicate s.cpus None →
    Shows (record { settings = s.settings; values = values; hands = hands }) (world_at_start s)
made_show s values hands values_are hands_are =
    subst (λ (hs : List (Option ThreadRecord)). Shows (record { settings = s.settings; values = values; hands = hs }) (world_at_start s)) (sym hands_are)
    (subst (λ (vs : List LockValue). Shows (record { settings = s.settings; values = vs; hands = replicate s.cpus None }) (world_at_start s)) (sym values_are) (opening_shows s))

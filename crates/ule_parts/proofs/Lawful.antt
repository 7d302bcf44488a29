-- The scheduler of a setup is lawful: its opening values show the world at the start, and from that each law follows.
use Rattle.std.proofs.Common.{◌≡◌, ℕ, zero, suc, List, ◌∷◌, map, replicate, Option, None, refl, sym, ap, subst}
use Rattle.ule_score.specs.declared.record.ThreadRecord.{ThreadRecord}
use Rattle.ule_types.specs.declared.setup.Setup.{Setup}
use Rattle.ule_model.specs.OpeningValues.{opening_scheduler}
use Rattle.ule_model.specs.Start.{world_at_start}
use Rattle.ule_model.specs.WorldValue.{Shows}
use Rattle.ule_members.proofs.Setups.{setup_scripts}
use Rattle.ule_laws.proofs.OpeningLaws.{opening_shows}
use Rattle.ule_micro.specs.Laws.{IsLawful, values_and_hands_at_start}
use Rattle.ule_parts.specs.Histories.{scheduler_with}
use Rattle.ule_parts.specs.Workers.{Worker, owns_from}
use Rattle.ule_parts.specs.Scheduler.{sched_means}
use Rattle.ule_parts.proofs.Asking.{asks_soundly, keeps_hands}
use Rattle.ule_parts.proofs.Moving.{moves_little}
use Rattle.ule_parts.proofs.Standing.{keeps_standing}
use Rattle.ule_parts.proofs.Starting.{starts_settled, starts_small}
use Rattle.ule_parts.proofs.Worlds.{readies}

-- the hands of so many own parts at the start are empty
empty_hands : (s : Setup) (w n : ℕ) → map (λ (o : Worker). o.hand) (owns_from s w n) ≡ replicate n None
empty_hands s w zero = refl
empty_hands s w (suc n) = ap (λ hs. None ∷ hs) (empty_hands s (suc w) n)

-- the values and hands at the start show the world at the start
pub start_shown : (s : Setup) → Shows (scheduler_with s (values_and_hands_at_start (sched_means s))) (world_at_start s)
start_shown s = subst (λ (hands : List (Option ThreadRecord)). Shows (record { settings = s.settings; values = (opening_scheduler s).values; hands = hands }) (world_at_start s))
    (sym (empty_hands s 0 s.cpus)) (opening_shows s)

-- the scheduler of a setup is lawful
pub is_lawful : (s : Setup) → IsLawful (sched_means s)
is_lawful s = record {
  small = starts_small s (start_shown s);
  settled = starts_settled s (start_shown s);
  moves = moves_little s;
  hands = keeps_hands s (setup_scripts s).cpus;
  sound = asks_soundly s (setup_scripts s).cpus;
  standing = keeps_standing s;
  ready = readies s (start_shown s);
}

-- The outcome of the rounds of every setup fits a trace.
use Rattle.std.proofs.Common.{◌<◌, ◌^◌, sym, subst, arith}
use Rattle.std.specs.List.{AllByRecursion}
use Rattle.ule_types.specs.declared.setup.Setup.{Setup}
use Rattle.ule_model.specs.Ends.{end_time, end_world}
use Rattle.ule_model.specs.History.{IsHistoryOf}
use Rattle.ule_model.specs.Rounds.{greatest_rounds, play_of}
use Rattle.ule_members.proofs.Setups.{setup_scripts}
use Rattle.ule_parts.proofs.Lawful.{is_lawful}
use Rattle.ule_parts.proofs.Leading.{play_leads}
use Rattle.ule_parts.specs.Plays.{list_of, values_and_hands_of}
use Rattle.ule_parts.specs.Scheduler.{sched_means}
use Rattle.ule_rounds.proofs.Finishing.{rounds_played}
use Rattle.ule_rounds.proofs.HistoryLaws.{history_of_rounds}
use Rattle.ule_rounds.proofs.RoundPlays.{orders, time_below}
use Rattle.ule_ranges.specs.Laws.{PlaysFit}
use Rattle.ule_ranges.proofs.EndRanges.{threads_fit, threads_rise}
use Rattle.ule_ranges.proofs.HistoryRanges.{IsEntryOnChannel, IsHistoryInRange, history_ranges}
use Rattle.ule_ranges.proofs.PlayChannels.{legal_channels}

-- the entries of the rounds are a history in range
rounds_ranges : (s : Setup) → IsHistoryInRange s (play_of s).entries
rounds_ranges s =
    let r = (rounds_played s greatest_rounds).1 in
    let channels : AllByRecursion IsEntryOnChannel (play_of s).entries = legal_channels s (history_of_rounds s).legal in
    subst (IsHistoryInRange s) r.entries
    (history_ranges s r.history (values_and_hands_of r.values r.courses) (play_leads (sched_means s) (list_of s.scripts) (is_lawful s) (orders s) r.legal)
    (subst (AllByRecursion IsEntryOnChannel) (sym r.entries) channels))

-- the time at their end is within bounds
end_small : (s : Setup) → end_time s.scripts < 2 ^ 64
end_small s =
    let history : IsHistoryOf s (play_of s) = history_of_rounds s in
    let played = rounds_played s greatest_rounds in
    let below : end_time s.scripts < 2 ^ 36 = subst (λ n. n < 2 ^ 36) history.time (time_below s played.0 (play_of s) played.1) in omega (arith, below)

pub plays_fit : PlaysFit
plays_fit s =
    let ranges = rounds_ranges s in record {
      count = (history_of_rounds s).count;
      entries = ranges.entries;
      rising = threads_rise s (end_world s (play_of s).entries) ranges.of_setup ranges.world;
      threads = threads_fit s (end_world s (play_of s).entries) ranges.of_setup ranges.world;
      some_cpu = omega (arith, ranges.of_setup.lines, (setup_scripts s).some);
      few_cpus = ranges.world.cpus;
      cpus = ranges.world.lines;
      now = end_small s;
    }

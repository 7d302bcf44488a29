-- What the scheduler's values go through, entry by entry, is in the ranges of a trace, where the entries name channels in range.
use Rattle.std.proofs.Common.{◌<◌, List, [], ◌∷◌, ◌++◌, Option, sym, subst, arith}
use Rattle.std.specs.List.{AllByRecursion}
use Rattle.ule_score.specs.declared.record.ThreadRecord.{ThreadRecord}
use Rattle.ule_types.specs.declared.event.Entry as types
use Rattle.ule_types.specs.declared.event.Event.{Event}
use Rattle.ule_types.specs.declared.event.Reply.{Reply}
use Rattle.ule_types.specs.declared.setup.Setup.{Setup}
use Rattle.ule_model.specs.Conditions.{IsPossible}
use Rattle.ule_model.specs.Ends.{end_world}
use Rattle.ule_model.specs.Legal.{IsEntryOf, IsReplayed, after_entry, replayed}
use Rattle.ule_model.specs.LockValue.{LockValue}
use Rattle.ule_model.specs.Start.{world_at_start}
use Rattle.ule_model.specs.World.{World}
use Rattle.ule_members.proofs.Within.{all-append, all_back, all_front}
use Rattle.ule_courses.proofs.Histories.{replayed_push, replayed_start}
use Rattle.ule_micro.specs.declared.entry.Entry.{Entry}
use Rattle.ule_micro.specs.Histories.{Leads, ValuesAndHands}
use Rattle.ule_micro.specs.Laws.{values_and_hands_at_start}
use Rattle.ule_parts.specs.Histories.{entries_in_order, world_entry}
use Rattle.ule_parts.specs.Scheduler.{IsWorldOf, sched_means}
use Rattle.ule_parts.proofs.Lawful.{start_shown}
use Rattle.ule_parts.proofs.Replays.{in_order_more}
use Rattle.ule_parts.proofs.Worlds.{IsReached, possible, reached_by}
use Rattle.ule_trace.specs.Ranges.{EntryFits, ReplyFits}
use Rattle.ule_ranges.proofs.Channels.{NamesChannel}
use Rattle.ule_ranges.proofs.StartRanges.{start_ranges}
use Rattle.ule_ranges.proofs.StepRanges.{event_in_range, step_ranges}
use Rattle.ule_ranges.proofs.WorldRanges.{IsWorldInRange}

-- the last entry of a history that a world can make is one that the world before it can make
last_entry : (w : World) (es : List types.Entry) (e : types.Entry) → IsReplayed w (es ++ e ∷ []) → IsEntryOf (replayed w es) e
unfolding IsReplayed replayed
last_entry w [] e made = made.0
last_entry w (x ∷ xs) e made = last_entry (after_entry w x) xs e made.1

-- an entry whose event names a channel in range
abbrev pub IsEntryOnChannel : types.Entry → Type 0
IsEntryOnChannel e = NamesChannel e.event

module _ (s : Setup) where
  -- a history that leads to a world in range, and whose entries fit a trace
  pub record IsHistoryInRange (es : List types.Entry) : Type 0 where
    pub world : IsWorldInRange (end_world s es)
    pub of_setup : IsWorldOf s (end_world s es)
    pub entries : AllByRecursion EntryFits es

  -- the world that a history leads to is one of the setup
  reached_world : (h : List (Entry Event Reply)) (y : ValuesAndHands (Option ThreadRecord) LockValue) (r : IsReached s h y) → IsWorldOf s (end_world s (entries_in_order h))
  reached_world h y r = subst (IsWorldOf s) (sym r.replays.world) r.is_world

  -- one entry more
  one_more_entry : (es : List types.Entry) (e : types.Entry) → IsHistoryInRange es → IsPossible (end_world s es) e.worker e.event e.now → IsEntryOf (end_world s es) e → IsEntryOnChannel e →
      IsWorldOf s (end_world s (es ++ e ∷ [])) → IsHistoryInRange (es ++ e ∷ [])
  one_more_entry es e before can made channel is =
      let low : e.worker < 16 = omega (arith, can.worker_is, before.world.cpus) in
      let step = step_ranges s (end_world s es) before.of_setup before.world e.worker e.now low e.event can channel in record {
        world = subst IsWorldInRange (sym (replayed_push (world_at_start s) es e)) step.world;
        of_setup = is;
        entries = all-append EntryFits es (e ∷ []) before.entries (
          record {
            worker = low;
            event = event_in_range s (end_world s es) before.of_setup before.world e.worker e.now low e.event can channel;
            now = omega (arith, can.bounded);
            reply = subst ReplyFits (sym made.reply) step.reply;
          },
          tt,
        );
      }

  -- every history in order whose entries were asked for, and name channels in range
  pub history_ranges : (h : List (Entry Event Reply)) (y : ValuesAndHands (Option ThreadRecord) LockValue) →
      Leads (sched_means s) (values_and_hands_at_start (sched_means s)) h y → AllByRecursion IsEntryOnChannel (entries_in_order h) → IsHistoryInRange (entries_in_order h)
  history_ranges [] y leads channels = record {
    world = subst IsWorldInRange (sym (replayed_start (world_at_start s))) (start_ranges s);
    of_setup = reached_world [] y (reached_by s (start_shown s) [] y leads);
    entries = tt;
  }
  history_ranges (x ∷ h) y (z, hand, after, leads, at, asked, follows, rules, goes) channels =
      let es : List types.Entry = entries_in_order h in
      let e : types.Entry = world_entry x in
      let named : AllByRecursion IsEntryOnChannel (es ++ e ∷ []) = subst (AllByRecursion IsEntryOnChannel) (in_order_more x h) channels in
      let r = reached_by s (start_shown s) h z leads in
      let after_it = reached_by s (start_shown s) (x ∷ h) y (z, hand, after, leads, at, asked, follows, rules, goes) in
      let can = possible s h z r x.worker x.event hand at asked x.now x.locks follows.locks rules follows.may.possible.bounded in
      subst IsHistoryInRange (sym (in_order_more x h))
      (one_more_entry es e (history_ranges h z leads (all_front IsEntryOnChannel es (e ∷ []) named))
      (subst (λ (v : World). IsPossible v x.worker x.event x.now) (sym r.replays.world) can)
      (last_entry (world_at_start s) es e (subst (IsReplayed (world_at_start s)) (in_order_more x h) after_it.replays.replies))
      (all_back IsEntryOnChannel es (e ∷ []) named).0
      (subst (λ (xs : List types.Entry). IsWorldOf s (end_world s xs)) (in_order_more x h) (reached_world (x ∷ h) y after_it)))

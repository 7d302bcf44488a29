-- The example of a stretch, by computing.
use Rattle.std.proofs.Common.{◌≡◌, ℕ, zero, suc, ◌<◌, List, [], ◌∷◌, Some, None, refl, arith}
use Rattle.ule_history.specs.CpuUseUpdate.{ran_ticks, slid_use, updated_use}
use Rattle.ule_score.specs.Score.{score_of}
use Rattle.ule_score.specs.TimesharePriority.{batch_priority, priority_at, timeshare_priority, use_steps}
use Rattle.ule_score.specs.declared.record.Why.TheVariants as why
use Rattle.ule_slice.specs.Slice.{slice_of}
use Rattle.ule_types.specs.declared.command.Command.{Command}
use Rattle.ule_types.specs.declared.command.Command.TheVariants as command
use Rattle.ule_types.specs.declared.event.Event.TheVariants.{Switch, Tick}
use Rattle.ule_program.specs.Courses.{Course, next_in}
use Rattle.ule_program.specs.Program.{own_of_setup}
use Rattle.ule_program.specs.declared.stage.Stage.{Stage}
use Rattle.ule_program.specs.declared.stage.Stage.TheVariants.{Gives}
use Rattle.ule_program.specs.declared.stage.Next.TheVariants.{Balances, Ends}
use Rattle.ule_model.specs.CalendarIndexes.{distance_of}
use Rattle.ule_model.specs.CalendarPromise.{IsStretch, numbers_on}
use Rattle.ule_model.specs.Legal.{BeginsProgram, IsInTime, IsReplayed, KeepsTime, Timed, acts, opening_of, replayed, stays, with_locks}
use Rattle.ule_model.specs.Start.{world_at_start}
use Rattle.ule_rounds.specs.NearerThread.{ThreadComesNearer, one_cpu, ticked_entry, yield_and_tick, yielded_and_ticked, yielded_entry}

-- ---- the stretch

-- thread 1 stays in its bucket
stays_in_bucket : IsStretch 0 17 1 (world_at_start one_cpu) yielded_and_ticked
unfolding IsStretch timeshare_priority priority_at score_of batch_priority use_steps updated_use slid_use ran_ticks slice_of
stays_in_bucket = (refl, refl, (refl, refl, refl))

-- it comes nearer
comes_to : distance_of (numbers_on 0 (replayed (world_at_start one_cpu) yielded_and_ticked)).ridx 17 ≡ 16
unfolding replayed timeshare_priority priority_at score_of batch_priority use_steps updated_use slid_use ran_ticks slice_of
comes_to = refl

-- ---- the history

-- each entry is made in the world before it
both_replayed : IsReplayed (world_at_start one_cpu) yielded_and_ticked
unfolding IsReplayed timeshare_priority priority_at score_of batch_priority use_steps updated_use slid_use ran_ticks slice_of
both_replayed = (record { ready = refl; thread = refl; reply = refl }, (record { ready = refl; thread = refl; reply = refl }, tt))

-- the entries, before which the list added no time
timed_entries : List Timed
timed_entries = record { entry = yielded_entry; amount = 0 } ∷ record { entry = ticked_entry; amount = 0 } ∷ []

-- the worker at a stage, with the commands not begun
abbrev at_stage : List Command → Stage → Course
at_stage script s = record { script = script; own = record (own_of_setup one_cpu 0) { stage = s }; last = None }

-- the worker's program makes both entries
program_begins : BeginsProgram one_cpu yield_and_tick timed_entries 0
unfolding next_in timed_entries
program_begins = record {
  end = record (at_stage [] (Gives (Tick 0) Balances)) { last = Some (ticked_entry.reply, ticked_entry.now) };
  total = 0;
  performs =
      acts (opening_of one_cpu yield_and_tick 0) (at_stage (command.Tick ∷ []) (Gives (Switch 0 why.Yield) Ends))
      (record (at_stage [] (Gives (Tick 0) Balances)) { last = Some (ticked_entry.reply, ticked_entry.now) }) 0 0 yielded_entry
      (record { entry = ticked_entry; amount = 0 } ∷ []) refl
      (acts (record (at_stage (command.Tick ∷ []) (Gives (Switch 0 why.Yield) Ends)) { last = Some (yielded_entry.reply, yielded_entry.now) }) (at_stage [] (Gives (Tick 0) Balances))
      (record (at_stage [] (Gives (Tick 0) Balances)) { last = Some (ticked_entry.reply, ticked_entry.now) }) 0 0 ticked_entry [] refl
      (stays (record (at_stage [] (Gives (Tick 0) Balances)) { last = Some (ticked_entry.reply, ticked_entry.now) }) 0));
}

-- so of each worker
each_begins : (worker : ℕ) → worker < 1 → BeginsProgram one_cpu yield_and_tick timed_entries worker
each_begins zero below = program_begins
each_begins (suc worker) below = absurd (omega arith)

-- the entries are in time
entries_in_time : KeepsTime (world_at_start one_cpu) timed_entries 0
unfolding IsInTime with_locks timed_entries
entries_in_time = record {
  in_order = ((λ shares. omega arith, tt), (tt, tt));
  after_own = (omega arith, (omega arith, tt));
  by_the_end = (omega arith, (omega arith, tt));
}

-- ---- the law

-- thread 1 comes nearer in a legal history
pub thread_comes_nearer : ThreadComesNearer
unfolding timed_entries
thread_comes_nearer = record {
  legal = record {
    timed = timed_entries;
    entries = refl;
    workers = (omega arith, (omega arith, tt));
    replies = both_replayed;
    programs = each_begins;
    times = entries_in_time;
  };
  stretch = stays_in_bucket;
  before = before_it;
  after = comes_to;
}
  where
    before_it : distance_of (numbers_on 0 (world_at_start one_cpu)).ridx 17 ≡ 17
    before_it = refl

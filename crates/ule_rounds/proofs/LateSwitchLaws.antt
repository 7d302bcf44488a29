-- A legal history in which an entry is earlier than the one before it, by computing.
use Rattle.std.proofs.Common.{ℕ, zero, suc, ◌<◌, List, [], ◌∷◌, Some, None, refl, arith}
use Rattle.std.proofs.lemmas.Bool.{false≢true}
use Rattle.ule_history.specs.CpuUseUpdate.{updated_use, slid_use, ran_ticks}
use Rattle.ule_score.specs.Score.{score_of}
use Rattle.ule_score.specs.TimesharePriority.{timeshare_priority, priority_at, batch_priority, use_steps}
use Rattle.ule_score.specs.declared.record.Why.TheVariants as why
use Rattle.ule_types.specs.declared.command.Command.TheVariants.{Yield}
use Rattle.ule_types.specs.declared.event.Event.TheVariants.{Switch}
use Rattle.ule_program.specs.Courses.{Course, next_in}
use Rattle.ule_program.specs.Program.{own_of_setup}
use Rattle.ule_program.specs.declared.stage.Stage.TheVariants.{Gives}
use Rattle.ule_program.specs.declared.stage.Next.TheVariants.{Ends}
use Rattle.ule_model.specs.Conditions.{IsPossible}
use Rattle.ule_model.specs.Legal.{BeginsProgram, IsEntryOf, IsInTime, IsReplayed, KeepsTime, Timed, acts, advances, opening_of, stays, with_locks}
use Rattle.ule_model.specs.Start.{world_at_start}
use Rattle.ule_rounds.specs.LateSwitch.{LateSwitchIsLegal, between_switches, earlier_switch, late_lists, later_switch, two_cpus}

-- the entries with the time that each worker's list added before them
timed : List Timed
timed = record { entry = later_switch; amount = 5 } ∷ record { entry = earlier_switch; amount = 0 } ∷ []

-- ---- replies

-- the first entry is made in the world at the start
later_made : IsEntryOf (world_at_start two_cpus) later_switch
unfolding timeshare_priority priority_at score_of batch_priority use_steps updated_use slid_use ran_ticks
later_made = record { ready = refl; thread = refl; reply = refl }

-- the second entry is made in the world after it
earlier_made : IsEntryOf between_switches earlier_switch
unfolding timeshare_priority priority_at score_of batch_priority use_steps updated_use slid_use ran_ticks
earlier_made = record { ready = refl; thread = refl; reply = refl }

-- each entry is made in the world before it
both_made : IsReplayed (world_at_start two_cpus) (later_switch ∷ earlier_switch ∷ [])
unfolding IsReplayed
both_made = (later_made, (earlier_made, tt))

-- ---- programs

-- a worker that gave the last item of its list
abbrev course_at : ℕ → Course
course_at worker = record {
  script = [];
  own = record (own_of_setup two_cpus worker) { stage = Gives (Switch worker why.Yield) Ends };
  last = None;
}

-- the first worker lets five ticks pass and yields
first_begins : BeginsProgram two_cpus late_lists timed 0
unfolding next_in timed
first_begins = record {
  end = record (course_at 0) { last = Some (later_switch.reply, later_switch.now) };
  total = 5;
  performs =
      advances (opening_of two_cpus late_lists 0) after_time (record (course_at 0) { last = Some (later_switch.reply, later_switch.now) }) 0 5 5
      (record { entry = later_switch; amount = 5 } ∷ []) refl
      (acts after_time (course_at 0) (record (course_at 0) { last = Some (later_switch.reply, later_switch.now) }) 5 5 later_switch [] refl
      (stays (record (course_at 0) { last = Some (later_switch.reply, later_switch.now) }) 5));
}
  where
    after_time : Course
    after_time = record { script = Yield ∷ []; own = own_of_setup two_cpus 0; last = None }

-- the second worker yields
second_begins : BeginsProgram two_cpus late_lists timed 1
unfolding next_in timed
second_begins = record {
  end = record (course_at 1) { last = Some (earlier_switch.reply, earlier_switch.now) };
  total = 0;
  performs =
      acts (opening_of two_cpus late_lists 1) (course_at 1) (record (course_at 1) { last = Some (earlier_switch.reply, earlier_switch.now) }) 0 0 earlier_switch [] refl
      (stays (record (course_at 1) { last = Some (earlier_switch.reply, earlier_switch.now) }) 0);
}

-- each worker has begun its list
both_begin : (worker : ℕ) → worker < 2 → BeginsProgram two_cpus late_lists timed worker
both_begin zero below = first_begins
both_begin (suc zero) below = second_begins
both_begin (suc (suc worker)) below = absurd (omega arith)

-- ---- times

-- the two entries share neither a lock nor the worker, and neither is earlier than its own list or later than the end
both_in_time : KeepsTime (world_at_start two_cpus) timed 5
unfolding IsInTime with_locks timed
both_in_time = record {
  in_order = ((λ shares. absurd (false≢true shares), tt), (tt, tt));
  after_own = (omega arith, (omega arith, tt));
  by_the_end = (omega arith, (omega arith, tt));
}

-- ---- what each entry needs

-- the first entry is possible at the start
later_can : IsPossible (world_at_start two_cpus) later_switch.worker later_switch.event later_switch.now
unfolding timeshare_priority priority_at score_of batch_priority use_steps updated_use slid_use ran_ticks
later_can = record {
  worker_is = omega arith;
  cpus = refl;
  declared = tt;
  ready = refl;
  hand = tt;
  numbers = tt;
  begun = omega arith;
  bounded = omega arith;
  in_time = (
    λ reached. record { ltick = omega arith; slept_at = omega arith; last_run = omega arith },
    (λ reached. absurd (false≢true reached), tt),
  );
}

-- the second entry is possible behind it, since what it reaches is noted no later
earlier_can : IsPossible between_switches earlier_switch.worker earlier_switch.event earlier_switch.now
unfolding timeshare_priority priority_at score_of batch_priority use_steps updated_use slid_use ran_ticks
earlier_can = record {
  worker_is = omega arith;
  cpus = refl;
  declared = tt;
  ready = refl;
  hand = tt;
  numbers = tt;
  begun = omega arith;
  bounded = omega arith;
  in_time = (
    λ reached. absurd (false≢true reached),
    (λ reached. record { ltick = omega arith; slept_at = omega arith; last_run = omega arith }, tt),
  );
}

-- ---- the law

-- a history is legal in which an entry is earlier than the one before it
pub late_switch_is_legal : LateSwitchIsLegal
unfolding timed
late_switch_is_legal = record {
  legal = record {
    timed = timed;
    entries = refl;
    workers = (omega arith, (omega arith, tt));
    replies = both_made;
    programs = both_begin;
    times = both_in_time;
  };
  later = later_can;
  earlier = earlier_can;
}

-- A turn lost to a thread in another worker's hand: the play and its trace, by computing.
use Rattle.std.proofs.Common.{◌≡◌, List, [], ◌∷◌, Some, None, true, false, pos, refl, lit≤}
use Rattle.std.specs.Fmt.{digits}
use Rattle.ule_history.specs.CpuUseUpdate.{updated_use, slid_use, ran_ticks}
use Rattle.ule_model.specs.Ends.{outcome_of}
use Rattle.ule_model.specs.Legal.{replayed}
use Rattle.ule_program.specs.Courses.{next_in}
use Rattle.ule_model.specs.Rounds.{Play, opening, round, rounds}
use Rattle.ule_prio.specs.declared.class.Class.TheVariants.{Ts}
use Rattle.ule_prio.specs.declared.kind.Kind.TheVariants.{Batch}
use Rattle.ule_score.specs.Score.{score_of}
use Rattle.ule_score.specs.TimesharePriority.{timeshare_priority, priority_at, batch_priority, use_steps}
use Rattle.ule_score.specs.declared.place.Place.TheVariants.{Queued}
use Rattle.ule_score.specs.declared.record.Why.TheVariants.{Yield}
use Rattle.ule_trace.specs.Trace.{trace_text}
use Rattle.ule_types.specs.Outcome.{OutcomeValue}
use Rattle.ule_types.specs.declared.event.Entry.{Entry}
use Rattle.ule_types.specs.declared.event.Event.TheVariants.{Switch, Drop, Bed, Wake, Land}
use Rattle.ule_types.specs.declared.event.Reply.TheVariants.{Switched, Dropped, Bedded, Woken, Landed}
use Rattle.ule_top.proofs.Tracing.{traced_after}
use Rattle.ule_top.specs.Example.{LostTurnIsTraced, lost_turn, lost_turn_trace}

-- the play after its four rounds
last_play : Play
last_play = round (round (round (round (opening lost_turn))))

-- the four rounds come to that play
four_rounds : rounds 4 (opening lost_turn) ≡ last_play
unfolding last_play rounds
four_rounds = refl

-- after the four rounds nothing is left
still : round last_play ≡ last_play
unfolding last_play next_in timeshare_priority priority_at score_of batch_priority use_steps updated_use slid_use ran_ticks
still = refl

-- the entries of the four rounds
noted : List Entry
noted =
    record { worker = 0; event = Switch 0 Yield; now = 20000; reply = Switched None (Some 0) false } ∷
    record { worker = 0; event = Drop 0 3; now = 20001; reply = Dropped 0 None } ∷
    record { worker = 0; event = Bed 0 3; now = 20001; reply = Bedded } ∷
    record { worker = 1; event = Wake 0; now = 20001; reply = Woken 172 (Some 0) 0 20001 } ∷
    record { worker = 1; event = Land 0 0; now = 20001; reply = Landed Batch 17 true } ∷ []

-- what those entries come to
ended : OutcomeValue
ended = record {
  entries = noted;
  threads =
      record {
        id = 0;
        place = Queued 0 Batch 17;
        pos = 0;
        class = Ts;
        nice = pos 0;
        base = 172;
        lent = None;
        priority = 172;
        run = 0;
        slept = 0;
        ticks = 1024;
        ltick = 20001;
        ftick = 20000;
        slice_count = 0;
        slept_at = 0;
        last = 0;
        last_run = 20001;
        bound = Some 0;
        parent = None;
        word = Some 0;
      } ∷ [];
  cpus =
      record { idx = 0; ridx = 0; resched = true; slice_end = false; switches = 1; old_switches = 0; balance = 64 } ∷
      record { idx = 0; ridx = 0; resched = false; slice_end = false; switches = 0; old_switches = 0; balance = 0 } ∷ [];
  now = 20001;
  room = 0;
}

-- that play has those entries, in their order
last_play_noted : last_play.entries ≡ noted
unfolding last_play noted next_in timeshare_priority priority_at score_of batch_priority use_steps updated_use slid_use ran_ticks
last_play_noted = refl

-- the outcome of those entries, step by step from the start
noted_ended : outcome_of lost_turn lost_turn.scripts noted ≡ ended
unfolding noted ended replayed timeshare_priority priority_at score_of batch_priority use_steps updated_use slid_use ran_ticks
noted_ended = refl

-- the text of what they come to
ended_traced : trace_text ended ≡ lost_turn_trace
unfolding digits noted ended
ended_traced = refl

-- the trace of a thread that sleeps and is woken, with a turn lost between
pub lost_turn_traced : LostTurnIsTraced
lost_turn_traced = traced_after 4 lost_turn last_play noted ended lost_turn_trace (lit≤ tt) four_rounds still last_play_noted noted_ended ended_traced

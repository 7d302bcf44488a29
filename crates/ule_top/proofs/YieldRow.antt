-- One thread and one yield: the play and its trace, by computing.
use Rattle.std.proofs.Common.{◌≡◌, List, [], ◌∷◌, Some, None, false, refl, lit≤}
use Rattle.std.specs.Fmt.{digits}
use Rattle.ule_history.specs.CpuUseUpdate.{updated_use, slid_use, ran_ticks}
use Rattle.ule_model.specs.Ends.{outcome_of}
use Rattle.ule_model.specs.Legal.{replayed}
use Rattle.ule_program.specs.Courses.{next_in}
use Rattle.ule_model.specs.Rounds.{Play, opening, round, rounds}
use Rattle.ule_score.specs.Score.{score_of}
use Rattle.ule_score.specs.TimesharePriority.{timeshare_priority, priority_at, batch_priority, use_steps}
use Rattle.ule_score.specs.declared.record.Why.TheVariants.{Yield}
use Rattle.ule_trace.specs.Trace.{trace_text}
use Rattle.ule_types.specs.declared.event.Entry.{Entry}
use Rattle.ule_types.specs.declared.event.Event.TheVariants.{Switch}
use Rattle.ule_types.specs.declared.event.Reply.TheVariants.{Switched}
use Rattle.ule_top.proofs.Tracing.{traced_after}
use Rattle.ule_top.specs.Example.{OneYieldIsTraced, one_yield, one_yield_trace}

-- the play after its one round
last_play : Play
last_play = round (opening one_yield)

-- the one round comes to that play
one_round : rounds 1 (opening one_yield) ≡ last_play
unfolding last_play rounds
one_round = refl

-- after the one round nothing is left
still : round last_play ≡ last_play
unfolding last_play next_in timeshare_priority priority_at score_of batch_priority use_steps updated_use slid_use ran_ticks
still = refl

-- the entries of the one round
noted : List Entry
noted = record { worker = 0; event = Switch 0 Yield; now = 20000; reply = Switched None (Some 0) false } ∷ []

-- that play has those entries, in their order
last_play_noted : last_play.entries ≡ noted
unfolding last_play noted next_in timeshare_priority priority_at score_of batch_priority use_steps updated_use slid_use ran_ticks
last_play_noted = refl

-- the text of the outcome of those entries, step by step from the start
noted_traced : trace_text (outcome_of one_yield one_yield.scripts noted) ≡ one_yield_trace
unfolding digits noted replayed timeshare_priority priority_at score_of batch_priority use_steps updated_use slid_use ran_ticks
noted_traced = refl

-- the trace of one thread and one yield
pub one_yield_traced : OneYieldIsTraced
one_yield_traced =
    traced_after 1 one_yield last_play noted (outcome_of one_yield one_yield.scripts noted) one_yield_trace (lit≤ tt)
    one_round still last_play_noted refl noted_traced

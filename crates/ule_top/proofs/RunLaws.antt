-- What `run` comes to, from what reading and writing come to.
use Rattle.std.proofs.Common.{◌≡◌, ℕ, ◌+◌, ◌%◌, List, [], ◌∷◌, Option, Some, None, Ok, inl, refl, sym, ap, subst, arith}
use Rattle.std.specs.List.{AllByRecursion, cons_option, filter_map, range_with_len}
use Rattle.std.specs.Option.{option_map}
use Rattle.ule_io.specs.Sink.{Appends, SinkState}
use Rattle.ule_io.specs.Source.{SourceState}
use Rattle.ule_members.proofs.Membership.{all_has, has_thread_of}
use Rattle.ule_model.specs.Ends.{outcome_of}
use Rattle.ule_model.specs.Finals.{final_line, thread_lines}
use Rattle.ule_model.specs.History.{IsHistoryOf}
use Rattle.ule_model.specs.Places.{hand_of, lock_of}
use Rattle.ule_model.specs.Rounds.{play_of}
use Rattle.ule_model.specs.World.{Member, World, thread_of}
use Rattle.ule_rounds.proofs.HistoryLaws.{history_of_rounds}
use Rattle.ule_score.specs.declared.place.Place.{Place}
use Rattle.ule_score.specs.declared.place.Place.TheVariants.{Running, Queued, Asleep, Unborn, Gone, Hand}
use Rattle.ule_seq.specs.Outcomes.{IsOutcomeOf}
use Rattle.ule_task.proofs.ScenarioLaws.{below_six, not_usage, reads_setup, reads_unread}
use Rattle.ule_task.specs.Input.{Gave, HasAnswered, IsHad, IsUnread, Reads, Tells}
use Rattle.ule_task.specs.Scenario.{one_text, scenario_intake}
use Rattle.ule_top.specs.Run.{HasRun, NamesItsLock, Runs, rounds_text}
use Rattle.ule_task.specs.declared.input.Unread.{Unread}
use Rattle.ule_trace.specs.Trace.{trace_text}
use Rattle.ule_types.specs.Outcome.{OutcomeValue}
use Rattle.ule_types.specs.declared.setup.Setup.{Setup}

-- ---- the text of an outcome

-- the trace of the outcome of a setup's play is the trace of its history of rounds
pub trace_of : (s : Setup) (o : OutcomeValue) → IsOutcomeOf s o → trace_text o ≡ rounds_text s
trace_of s o is = ap (λ (x : OutcomeValue). trace_text x) is

-- ---- the words of threads

-- a place that is no hand lies under a lock
lock_there : (place : Place) → hand_of place ≡ None → (l : ℕ) × (lock_of place ≡ Some l)
lock_there (Running c) free = (c, refl)
lock_there (Queued c k b) free = (c, refl)
lock_there (Asleep channel) free = (16 + channel % 8, refl)
lock_there Unborn free = (24, refl)
lock_there Gone free = (24, refl)
lock_there (Hand w) free = cc

-- the line of a thread that is in no hand names the lock of its place
line_names : (members : List Member) (m : Member) → hand_of m.place ≡ None → NamesItsLock (final_line members m)
line_names members m free = let there = lock_there m.place free in (there.0, there.1, there.1)

-- where no thread is in a hand, the lines of some numbers name the locks of their places
lines_name : (members : List Member) (ts : List ℕ) → AllByRecursion (λ m. hand_of m.place ≡ None) members →
    AllByRecursion NamesItsLock (filter_map (λ t. option_map (final_line members) (thread_of t members)) ts)
lines_name members [] free = tt
lines_name members (t ∷ ts) free = split (thread_of t members) refl (lines_name members ts free)
  where
    split : (o : Option Member) → thread_of t members ≡ o → AllByRecursion NamesItsLock (filter_map (λ u. option_map (final_line members) (thread_of u members)) ts) →
        AllByRecursion NamesItsLock (cons_option (option_map (final_line members) o) (filter_map (λ u. option_map (final_line members) (thread_of u members)) ts))
    split None found rest = rest
    split (Some m) found rest =
        (line_names members m (all_has (λ n. hand_of n.place ≡ None) m members free (has_thread_of t m members found).0), rest)

-- each thread's word names the lock of its place at the end of a history of rounds
words_name : (s : Setup) → IsHistoryOf s (play_of s) → AllByRecursion NamesItsLock (outcome_of s s.scripts (play_of s).entries).threads
words_name s history =
    subst (λ (w : World). AllByRecursion NamesItsLock (thread_lines w.members)) (sym history.world)
    (lines_name (play_of s).world.members (range_with_len 0 256) history.hands)

-- ---- the answer

-- where the text that is due was written, the headline holds
has_run : (s0 s1 : SourceState) (k0 k1 : SinkState) (status : ℕ) → HasAnswered scenario_intake (one_text rounds_text) s0 s1 k0 k1 status → HasRun s0 s1 k0 k1
has_run s0 s1 k0 k1 status has = record {
  input = has.input;
  setup = has.setup;
  read = has.read;
  spelled = record { reading = has.given.0; read = has.given.1; gives = has.given.2 };
  written = subst (λ (text : List ℕ). Appends k0.taken k1.taken text) has.due.1 has.wrote.written;
  flushed = has.wrote.flushed;
  one_flush = has.wrote.one_flush;
  history = history_of_rounds has.setup;
  words = words_name has.setup (history_of_rounds has.setup);
}

-- what reads so and plays in rounds is `run`
runs_if_reads : (s0 s1 : SourceState) (k0 k1 : SinkState) (status : ℕ) → Reads scenario_intake (one_text rounds_text) s0 s1 k0 k1 status → Runs s0 s1 k0 k1 status
runs_if_reads s0 s1 k0 k1 status reads = record {
  known = below_six (λ s text. text ≡ rounds_text s) s0 s1 k0 k1 status reads;
  done = λ is. has_run s0 s1 k0 k1 status (reads.answered (inl (omega arith)));
  reads = reads;
}

-- what reading a setup and playing it come to is `run`
pub runs_setup : (s0 s1 : SourceState) (k0 k1 : SinkState) (status : ℕ) (s : Setup) → IsHad scenario_intake s0 s1 (Ok s) →
    Gave (record { status = 0; text = rounds_text s }) k0 k1 status → Runs s0 s1 k0 k1 status
runs_setup s0 s1 k0 k1 status s had gave = runs_if_reads s0 s1 k0 k1 status (reads_setup (λ x text. text ≡ rounds_text x) s0 s1 k0 k1 status s (rounds_text s) had refl gave)

-- what reading no setup and telling why come to is `run`
pub runs_unread : (s0 s1 : SourceState) (k0 k1 : SinkState) (status : ℕ) (why : Unread) → IsUnread scenario_intake s0 s1 why → Tells why k0 k1 status → Runs s0 s1 k0 k1 status
runs_unread s0 s1 k0 k1 status why is told = runs_if_reads s0 s1 k0 k1 status (reads_unread (λ s text. text ≡ rounds_text s) s0 s1 k0 k1 status why is told)

-- 1 is no status of `run`
pub run_is_known : (s0 s1 : SourceState) (k0 k1 : SinkState) (status : ℕ) → Runs s0 s1 k0 k1 status → status ≡ 1 → ⊥
run_is_known s0 s1 k0 k1 status runs is = not_usage (λ s text. text ≡ rounds_text s) s0 s1 k0 k1 status runs.reads is

-- What a race comes to, from what reading, racing and writing come to.
use Rattle.std.proofs.Common.{◌≡◌, ◌≢◌, ℕ, true, false, List, Option, Some, None, Ok, inl, inr, refl, sym, ◌∙◌, arith}
use Rattle.std.specs.Prelude.{◌⊎◌}
use Rattle.ule_io.specs.Sink.{SinkState}
use Rattle.ule_io.specs.Source.{SourceState}
use Rattle.ule_race.specs.Race.{Answers, GaveRace, HasRaced, IsRaceText, Races, gave, is_race, unmade}
use Rattle.ule_smp.specs.Ends.{IsWholeOutcome}
use Rattle.ule_task.proofs.ScenarioLaws.{below_six, not_usage, reads_setup, reads_unmade, reads_unread}
use Rattle.ule_task.specs.Input.{IsHad, IsUnread, Reads, Tells, written}
use Rattle.ule_task.specs.Scenario.{scenario_intake, text_alone}
use Rattle.ule_task.specs.declared.input.Unread.{Unread}
use Rattle.ule_task.specs.declared.input.Unread.TheVariants.{ReadFault, Refused, Memory}
use Rattle.ule_text.specs.Words.{Word}
use Rattle.ule_trace.specs.Trace.{trace_text}
use Rattle.ule_types.specs.Outcome.{OutcomeValue}
use Rattle.ule_types.specs.declared.setup.Setup.{Setup}

-- what reading a setup and racing it come to is `race`
pub races_setup : (s0 s1 : SourceState) (k0 k1 : SinkState) (status : ℕ) (kept : Option OutcomeValue) (s : Setup) → IsHad scenario_intake s0 s1 (Ok s) →
    GaveRace s k0 k1 status kept → Races s0 s1 k0 k1 status kept
races_setup s0 s1 k0 k1 status kept s had (gave o whole wrote keeps) =
    let reads = reads_setup IsRaceText s0 s1 k0 k1 status s (trace_text o) had (o, whole, refl) (written wrote) in record {
      known = below_six IsRaceText s0 s1 k0 k1 status reads;
      done = λ is. record {
        input = had.0;
        setup = s;
        outcome = o;
        read = had.1.read;
        spelled = record { reading = had.2.0; read = had.2.1; gives = had.2.2 };
        keeps = keeps.done is;
        whole = whole;
        written = wrote.whole is;
        flushed = wrote.flushed is;
        one_flush = wrote.one_flush is;
      };
      none_kept = keeps.fault;
      reads = reads;
    }
races_setup s0 s1 k0 k1 status kept s had (unmade is same none) = record {
  known = omega arith;
  done = λ zero. absurd (omega arith);
  none_kept = λ other. none;
  reads = reads_unmade IsRaceText s0 s1 k0 k1 status s had is same;
}

-- a status that tells why there is no setup is not 0
not_done : (k0 k1 : SinkState) (status : ℕ) (why : Unread) → Tells why k0 k1 status → status ≡ 0 → ⊥
not_done k0 k1 status ReadFault told is = let two = told.0 in omega arith
not_done k0 k1 status (Refused x) told is = one_of told.known
  where
    one_of : (status ≡ 3) ⊎ (status ≡ 4) → ⊥
    one_of (inl three) = omega arith
    one_of (inr four) = omega arith
not_done k0 k1 status Memory told is = let five = told.0 in omega arith

-- what reading no setup and telling why come to is `race`
pub races_unread : (s0 s1 : SourceState) (k0 k1 : SinkState) (status : ℕ) (why : Unread) → IsUnread scenario_intake s0 s1 why → Tells why k0 k1 status → Races s0 s1 k0 k1 status None
races_unread s0 s1 k0 k1 status why is told =
    let reads = reads_unread IsRaceText s0 s1 k0 k1 status why is told in record {
      known = below_six IsRaceText s0 s1 k0 k1 status reads;
      done = λ zero. absurd (not_done k0 k1 status why told zero);
      none_kept = λ other. refl;
      reads = reads;
    }

-- other words than `race` are told by 1
pub answers_usage : (words : List Word) (s : SourceState) (k : SinkState) → is_race words ≡ false → Answers words s s k k None 1
answers_usage words s k other = record {
  usage = λ is. other;
  usage_only = λ is. refl;
  untouched = λ is. (refl, refl, refl);
  raced = λ is. absurd (let both = sym other ∙ is in cc);
}

-- what a race comes to is what the word `race` comes to
pub answers_race : (words : List Word) (s0 s1 : SourceState) (k0 k1 : SinkState) (kept : Option OutcomeValue) (status : ℕ) → is_race words ≡ true →
    Races s0 s1 k0 k1 status kept → Answers words s0 s1 k0 k1 kept status
answers_race words s0 s1 k0 k1 kept status named races = record {
  usage = λ is. absurd (not_usage IsRaceText s0 s1 k0 k1 status races.reads is);
  usage_only = λ other. absurd (let both = sym other ∙ named in cc);
  untouched = λ is. absurd (not_usage IsRaceText s0 s1 k0 k1 status races.reads is);
  raced = λ is. races;
}

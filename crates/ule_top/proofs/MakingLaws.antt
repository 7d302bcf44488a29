-- What a task that makes the setup of a number comes to, from what writing comes to.
use Rattle.std.proofs.Common.{◌≡◌, ℕ, List, inl, inr, ⊎_elim, refl, ap, arith, Result, Ok, Err}
use Rattle.std.specs.Prelude.{IfOk}
use Rattle.ule_gen.specs.Made.{IsMade}
use Rattle.ule_io.specs.Sink.{SinkState}
use Rattle.ule_io.specs.Source.{SourceState}
use Rattle.ule_task.proofs.WritingLaws.{has_written, took_front}
use Rattle.ule_top.specs.Making.{IsOfMade, Makes, WroteMade, unmade, written}
use Rattle.ule_task.specs.Writing.{Wrote}
use Rattle.ule_top.specs.Summary.{IsMadeAndPlayed, line_of, summary_text}
use Rattle.ule_seq.specs.Outcomes.{IsOutcomeOf}
use Rattle.ule_io.specs.declared.Memory.{Memory}
use Rattle.ule_types.specs.Outcome.{OutcomeValue}
use Rattle.ule_types.specs.declared.setup.Setup.{Setup}

-- the line was written
made_done : (n : ℕ) (text_of : Setup → List ℕ) (s : SourceState) (k0 k1 : SinkState) (status : ℕ) (setup : Setup) → status ≡ 0 → IsMade n setup →
    Wrote k0 k1 (text_of setup) 0 status →
    Makes n text_of s s k0 k1 status
made_done n text_of s k0 k1 status setup is made w = record {
  known = inl is;
  unread = refl;
  done = λ e. record { setup = setup; made = made; wrote = has_written k0 k1 (text_of setup) 0 status w is };
  write_fault = λ e. absurd (omega arith);
  no_memory = λ e. absurd (omega arith);
  write_kept = w.kept;
}

-- a fault of writing came
made_fault : (n : ℕ) (text_of : Setup → List ℕ) (s : SourceState) (k0 k1 : SinkState) (status : ℕ) (setup : Setup) → status ≡ 4 → IsMade n setup →
    Wrote k0 k1 (text_of setup) 0 status →
    Makes n text_of s s k0 k1 status
made_fault n text_of s k0 k1 status setup is made w = record {
  known = inr (inl is);
  unread = refl;
  done = λ e. absurd (omega arith);
  write_fault = λ e. took_front (IsOfMade n text_of) k0 k1 (text_of setup) 0 status (setup, made, refl) w is;
  no_memory = λ e. absurd (omega arith);
  write_kept = w.kept;
}

-- memory ran out
made_no_memory : (n : ℕ) (text_of : Setup → List ℕ) (s : SourceState) (k0 k1 : SinkState) (status : ℕ) → status ≡ 5 → k1 ≡ k0 → Makes n text_of s s k0 k1 status
made_no_memory n text_of s k0 k1 status is same = record {
  known = inr (inr is);
  unread = refl;
  done = λ e. absurd (omega arith);
  write_fault = λ e. absurd (omega arith);
  no_memory = λ e. same;
  write_kept = λ e. (ap (λ (k : SinkState). k.faults) same, ap (λ (k : SinkState). k.empty_takes) same);
}

-- what the setup of a number comes to is the answer, and nothing was read
pub makes : (n : ℕ) (text_of : Setup → List ℕ) (s : SourceState) (k0 k1 : SinkState) (status : ℕ) → WroteMade n text_of k0 k1 status → Makes n text_of s s k0 k1 status
makes n text_of s k0 k1 status (written setup made w) =
    ⊎_elim (λ (is : status ≡ 0). made_done n text_of s k0 k1 status setup is made w) (λ (is : status ≡ 4). made_fault n text_of s k0 k1 status setup is made w) w.known
makes n text_of s k0 k1 status (unmade is same) = made_no_memory n text_of s k0 k1 status is same

-- what the setup of a number and its play come to
pub made_and_played : (n : ℕ) (s : Setup) (result : Result OutcomeValue Memory) → IsMade n s → IfOk result (λ o. IsOutcomeOf s o) → IsMadeAndPlayed n result
made_and_played n s (Ok o) made is = (s, made, is)
made_and_played n s (Err e) made is = tt

-- the line of the outcome of the setup of a number is the line of that setup
pub line_of_setup : (n : ℕ) (s : Setup) (o : OutcomeValue) → IsOutcomeOf s o → line_of n o ≡ summary_text n s
line_of_setup n s o is = ap (λ (x : OutcomeValue). line_of n x) is

-- 1 is no status of a task that makes a setup
pub making_is_known : (n : ℕ) (text_of : Setup → List ℕ) (s0 s1 : SourceState) (k0 k1 : SinkState) (status : ℕ) → Makes n text_of s0 s1 k0 k1 status → status ≡ 1 → ⊥
making_is_known n text_of s0 s1 k0 k1 status makes is = omega (arith, makes.known)

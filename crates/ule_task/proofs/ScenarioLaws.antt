-- What a task comes to that reads a scenario alone and writes one text, from what reading and writing come to.
use Rattle.std.proofs.Common.{◌≡◌, ◌<◌, ℕ, Bool, true, false, List, length, Ok, inl, inr, refl, arith}
use Rattle.std.specs.Prelude.{nat_lt}
use Rattle.std.proofs.lemmas.Bool.{lt-ltb, ltb-false, ltb-true}
use Rattle.ule_io.specs.Sink.{SinkState}
use Rattle.ule_io.specs.Source.{SourceState}
use Rattle.ule_task.proofs.InputLaws.{answers_setup, answers_unmade, answers_unread}
use Rattle.ule_task.specs.Input.{Gave, HasAnswered, IsHad, IsUnread, Reads, RefusesLonger, Tells}
use Rattle.ule_task.specs.Scenario.{scenario_intake, text_alone}
use Rattle.ule_task.specs.declared.input.Unread.{Unread}
use Rattle.ule_types.specs.declared.setup.Setup.{Setup}

-- a scenario above the limit is refused as too long
refuses_longer : RefusesLonger scenario_intake
refuses_longer input longer = rw (lt-ltb 1048576 (length input) longer) refl

module _ (IsTextOf : Setup → List ℕ → Type 0) (s0 s1 : SourceState) (k0 k1 : SinkState) (status : ℕ) where
  -- what reading a setup and writing its text come to is the answer
  pub reads_setup : (s : Setup) (text : List ℕ) → IsHad scenario_intake s0 s1 (Ok s) → IsTextOf s text → Gave (record { status = 0; text = text }) k0 k1 status →
      Reads scenario_intake (text_alone IsTextOf) s0 s1 k0 k1 status
  reads_setup s text had is gave =
      answers_setup scenario_intake (text_alone IsTextOf) s0 s1 k0 k1 status had.0 s (record { status = 0; text = text }) (inl (omega arith)) had.1 had.2 (refl, is) gave

  -- what reading a setup without memory for what it asks for comes to is the answer
  pub reads_unmade : (s : Setup) → IsHad scenario_intake s0 s1 (Ok s) → status ≡ 5 → k1 ≡ k0 → Reads scenario_intake (text_alone IsTextOf) s0 s1 k0 k1 status
  reads_unmade s had is same = answers_unmade scenario_intake (text_alone IsTextOf) s0 s1 k0 k1 status had.0 had.1 is same

  -- what reading no setup and telling why come to is the answer
  pub reads_unread : (why : Unread) → IsUnread scenario_intake s0 s1 why → Tells why k0 k1 status → Reads scenario_intake (text_alone IsTextOf) s0 s1 k0 k1 status
  reads_unread why is told = answers_unread scenario_intake (text_alone IsTextOf) s0 s1 k0 k1 status why refuses_longer is told

  module _ (reads : Reads scenario_intake (text_alone IsTextOf) s0 s1 k0 k1 status) where
    -- a status above 5 would be that of the text, which is 0
    pub below_six : status < 6
    below_six = cases (nat_lt 5 status) refl
      where
        told_zero : HasAnswered scenario_intake (text_alone IsTextOf) s0 s1 k0 k1 status → status ≡ 0
        told_zero has = let told = has.told in let due = has.due.0 in omega arith

        cases : (b : Bool) → nat_lt 5 status ≡ b → status < 6
        cases false small = omega (arith, ltb-false 5 status small)
        cases true great = let more = ltb-true 5 status great in let zero = told_zero (reads.answered (inr more)) in absurd (omega arith)

    -- 1 is no status of such a task
    pub not_usage : status ≡ 1 → ⊥
    not_usage is = let has = reads.answered (inl (omega arith)) in let told = has.told in let due = has.due.0 in omega arith

-- What is common to all tasks that make the setup of a number and read nothing: the cause of every status.
use Rattle.std.specs.Prelude.{◌≡◌, ◌≢◌, ℕ, List, ◌⊎◌}
use Rattle.ule_gen.specs.Made.{IsMade}
use Rattle.ule_io.specs.Sink.{SinkState}
use Rattle.ule_io.specs.Source.{SourceState}
use Rattle.ule_task.specs.Writing.{HasWritten, TookFront, Wrote}
use Rattle.ule_types.specs.declared.setup.Setup.{Setup}

-- a text is this one of the setup that a number makes
abbrev pub IsOfMade : ℕ → (Setup → List ℕ) → List ℕ → Type 0
IsOfMade n text_of text = (s : Setup) × IsMade n s × (text ≡ text_of s)

-- this text of the setup that a number makes was written and flushed
pub record HasMade (n : ℕ) (text_of : Setup → List ℕ) (k0 k1 : SinkState) : Type 0 where
  pub setup : Setup
  pub made : IsMade n setup
  pub wrote : HasWritten k0 k1 (text_of setup)

-- what a task comes to that writes this text of the setup that a number makes
pub record Makes (n : ℕ) (text_of : Setup → List ℕ) (s0 s1 : SourceState) (k0 k1 : SinkState) (status : ℕ) : Type 0 where
  pub known : (status ≡ 0) ⊎ (status ≡ 4) ⊎ (status ≡ 5)
  pub unread : s1 ≡ s0
  pub done : status ≡ 0 → HasMade n text_of k0 k1
  pub write_fault : status ≡ 4 → TookFront (IsOfMade n text_of) k0 k1
  pub no_memory : status ≡ 5 → k1 ≡ k0
  pub write_kept : status ≢ 4 → (k1.faults ≡ k0.faults) × (k1.empty_takes ≡ k0.empty_takes)

-- what the setup of a number comes to: this text of it was written, or there was no memory
pub data WroteMade (n : ℕ) (text_of : Setup → List ℕ) (k0 k1 : SinkState) (status : ℕ) : Type 0 where
  written : (s : Setup) → IsMade n s → Wrote k0 k1 (text_of s) 0 status → WroteMade n text_of k0 k1 status
  unmade : status ≡ 5 → k1 ≡ k0 → WroteMade n text_of k0 k1 status

-- What is common to all tasks that read a scenario: how they read it, and the cause of every status.
use Rattle.std.specs.Fmt.{decimal}
use Rattle.std.specs.Prelude.{◌≡◌, ◌≢◌, ℕ, ◌+◌, ◌<◌, ◌≤◌, List, [], ◌∷◌, ◌++◌, length, codes, Some, Result, Ok, Err, ◌⊎◌}
use Rattle.ule_io.specs.Counter.{Rose, one_more}
use Rattle.ule_io.specs.Sink.{SinkState}
use Rattle.ule_io.specs.Source.{Gives, ReadsWhole, SourceState}
use Rattle.ule_scenario.specs.Reading.{Reading}
use Rattle.ule_scenario.specs.Scenario.{IsReadAs}
use Rattle.ule_scenario.specs.declared.reason.Refusal.{Refusal}
use Rattle.ule_task.specs.Writing.{HasWritten, TookFront, Wrote}
use Rattle.ule_task.specs.declared.input.Unread.{Unread}
use Rattle.ule_task.specs.declared.input.Unread.TheVariants.{ReadFault, Refused, Memory}
use Rattle.ule_types.specs.declared.setup.Setup.{Setup}

-- ---- how a task reads

-- a text with the status that tells that it was written
pub record Told : Type 0 where
  pub status : ℕ
  pub text : List ℕ

-- how a task reads: the most bytes of its input, and what is told of an input
pub record Intake : Type 0 where
  pub limit : ℕ
  pub told : List ℕ → Result Reading Refusal

-- what is due for a setup that an input gives, where one text with its status is
abbrev pub the_one : (List ℕ → Setup → Told) → List ℕ → Setup → Told → Type 0
the_one told input s due = due ≡ told input s

-- an input gives this setup
abbrev pub GivesSetup : Intake → List ℕ → Setup → Type 0
GivesSetup i input s = IsReadAs (Ok s) (i.told input)

-- the line of a refusal
abbrev pub refusal_text : Refusal → List ℕ
refusal_text x = codes "refused " ++ (decimal x.line ++ 32 ∷ (decimal x.reason ++ 32 ∷ (decimal x.detail ++ 10 ∷ [])))

-- the refusal of an input that is too long
abbrev pub too_long_refusal : Refusal
too_long_refusal = record { line = 0; reason = 5; detail = 0 }

-- the input is refused so: this is the first offence of its bytes
abbrev pub Refuses : Intake → List ℕ → Refusal → Type 0
Refuses i input x = i.told input ≡ Err x

-- an input above the limit is refused as too long
abbrev pub RefusesLonger : Intake → Type 0
RefusesLonger i = (input : List ℕ) → i.limit < length input → Refuses i input too_long_refusal

-- ---- what was read

-- at most so many bytes were taken
abbrev pub TookAtMost : SourceState → SourceState → ℕ → Type 0
TookAtMost s0 s1 most = (taken : List ℕ) × Gives s0.left s1.left taken × (length taken ≤ most)

-- at most one read met the end
abbrev pub EndedOnceAtMost : SourceState → SourceState → Type 0
EndedOnceAtMost s0 s1 = (s1.ends ≡ s0.ends) ⊎ (s1.ends ≡ one_more s0.ends)

-- what was read is refused so: it is the whole input, or one byte more than an input may have, and no read met the end
pub data ReadRefused (i : Intake) (s0 s1 : SourceState) (x : Refusal) : Type 0 where
  whole : (input : List ℕ) → ReadsWhole s0 s1 i.limit input → Refuses i input x → ReadRefused i s0 s1 x
  too_long : (taken : List ℕ) → Gives s0.left s1.left taken → length taken ≡ i.limit + 1 → s1.ends ≡ s0.ends → x ≡ too_long_refusal → ReadRefused i s0 s1 x

-- a refusal: what was read is refused so, and the line of the refusal was written and flushed
pub record IsRefused (i : Intake) (s0 s1 : SourceState) (k0 k1 : SinkState) : Type 0 where
  pub refusal : Refusal
  -- where the source tells the input, that is refused so
  pub cause : (input : List ℕ) → s0.left ≡ Some input → Refuses i input refusal
  pub read : ReadRefused i s0 s1 refusal
  pub wrote : HasWritten k0 k1 (refusal_text refusal)

-- the text that is due: one of the setup that the whole input gives, or the line of the refusal of what was read
pub data IsDue (i : Intake) (IsDueFor : List ℕ → Setup → Told → Type 0) (s0 s1 : SourceState) (text : List ℕ) : Type 0 where
  text_due : (input : List ℕ) (s : Setup) (due : Told) → ReadsWhole s0 s1 i.limit input → GivesSetup i input s → IsDueFor input s due → text ≡ due.text → IsDue i IsDueFor s0 s1 text
  refusal_due : (x : Refusal) → ReadRefused i s0 s1 x → text ≡ refusal_text x → IsDue i IsDueFor s0 s1 text

-- what is due was done: the whole input gives a setup, a text that is due for it was written and flushed, and this is its status
pub record HasAnswered (i : Intake) (IsDueFor : List ℕ → Setup → Told → Type 0) (s0 s1 : SourceState) (k0 k1 : SinkState) (status : ℕ) : Type 0 where
  pub input : List ℕ
  pub setup : Setup
  pub answer : Told
  pub read : ReadsWhole s0 s1 i.limit input
  pub given : GivesSetup i input setup
  pub due : IsDueFor input setup answer
  pub wrote : HasWritten k0 k1 answer.text
  pub told : status ≡ answer.status

-- ---- each status with its cause

-- what a task comes to that reads so, and for which this is due
pub record Reads (i : Intake) (IsDueFor : List ℕ → Setup → Told → Type 0) (s0 s1 : SourceState) (k0 k1 : SinkState) (status : ℕ) : Type 0 where
  -- every status but 2 to 5 is that of the text that is due
  pub answered : (status < 2) ⊎ (5 < status) → HasAnswered i IsDueFor s0 s1 k0 k1 status
  pub read_fault : status ≡ 2 → Rose s0.faults s1.faults × (k1 ≡ k0)
  pub fault_within : status ≡ 2 → TookAtMost s0 s1 i.limit
  pub refused : status ≡ 3 → IsRefused i s0 s1 k0 k1
  pub write_fault : status ≡ 4 → TookFront (IsDue i IsDueFor s0 s1) k0 k1
  pub no_memory : status ≡ 5 → k1 ≡ k0
  pub memory_within : status ≡ 5 → TookAtMost s0 s1 (i.limit + 1)
  pub ends : EndedOnceAtMost s0 s1
  -- the counts stand as before the call after every other status
  pub read_kept : status ≢ 2 → s1.faults ≡ s0.faults
  pub write_kept : status ≢ 4 → (k1.faults ≡ k0.faults) × (k1.empty_takes ≡ k0.empty_takes)

-- ---- the parts of the answer

-- why no setup was had: a read failed, or what was read is refused so, or memory ran out
abbrev pub IsUnread : Intake → SourceState → SourceState → Unread → Type 0
IsUnread i s0 s1 ReadFault = Rose s0.faults s1.faults × TookAtMost s0 s1 i.limit × EndedOnceAtMost s0 s1
IsUnread i s0 s1 (Refused x) = ReadRefused i s0 s1 x × (s1.faults ≡ s0.faults)
IsUnread i s0 s1 Memory = TookAtMost s0 s1 (i.limit + 1) × EndedOnceAtMost s0 s1 × (s1.faults ≡ s0.faults)

-- the whole input was read, with no fault
pub record HasInput (i : Intake) (s0 s1 : SourceState) (input : List ℕ) : Type 0 where
  pub read : ReadsWhole s0 s1 i.limit input
  pub kept : s1.faults ≡ s0.faults

-- reading comes to the setup that the whole input gives, or to why there is none
abbrev pub IsHad : Intake → SourceState → SourceState → Result Setup Unread → Type 0
IsHad i s0 s1 (Ok s) = (input : List ℕ) × HasInput i s0 s1 input × GivesSetup i input s
IsHad i s0 s1 (Err why) = IsUnread i s0 s1 why

-- what was read comes to the setup that this tells, or to why there is none
abbrev pub IsToldAs : Result Setup Unread → Result Reading Refusal → Type 0
IsToldAs (Ok s) told = IsReadAs (Ok s) told
IsToldAs (Err (Refused x)) told = told ≡ Err x
IsToldAs (Err Memory) told = Unit {0}
IsToldAs (Err ReadFault) told = ⊥

-- the status that tells why there is no setup
abbrev pub Tells : Unread → SinkState → SinkState → ℕ → Type 0
Tells ReadFault k0 k1 status = (status ≡ 2) × (k1 ≡ k0)
Tells (Refused x) k0 k1 status = Wrote k0 k1 (refusal_text x) 3 status
Tells Memory k0 k1 status = (status ≡ 5) × (k1 ≡ k0)

-- what a setup comes to: what is due for it was written, or there was no memory
pub data Gave (told : Told) (k0 k1 : SinkState) (status : ℕ) : Type 0 where
  written : Wrote k0 k1 told.text told.status status → Gave told k0 k1 status
  unmade : status ≡ 5 → k1 ≡ k0 → Gave told k0 k1 status

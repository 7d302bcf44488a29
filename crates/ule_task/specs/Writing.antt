-- What writing a text comes to, whatever task it belongs to.
use Rattle.std.specs.Prelude.{◌≡◌, ◌≢◌, ℕ, true, List, Result, ◌⊎◌}
use Rattle.ule_io.specs.Counter.{Rose, one_more}
use Rattle.ule_io.specs.Sink.{Appends, AppendsFront, SinkState, WroteWhole}
use Rattle.ule_io.specs.declared.writing.WriteFault.{WriteFault}

-- at most one flush was asked for
abbrev pub FlushedOnceAtMost : SinkState → SinkState → Type 0
FlushedOnceAtMost k0 k1 = (k1.flushes ≡ k0.flushes) ⊎ (k1.flushes ≡ one_more k0.flushes)

-- a text was written whole, and flushed by one flush
pub record HasWritten (k0 k1 : SinkState) (text : List ℕ) : Type 0 where
  pub written : Appends k0.taken k1.taken text
  pub flushed : k1.flushed ≡ true
  pub one_flush : k1.flushes ≡ one_more k0.flushes

-- a fault of writing: a front of a text that is due was taken, and nothing else
pub record TookFront (IsDue : List ℕ → Type 0) (k0 k1 : SinkState) : Type 0 where
  pub text : List ℕ
  pub due : IsDue text
  pub front : AppendsFront k0.taken k1.taken text
  pub cause : Rose k0.faults k1.faults ⊎ Rose k0.empty_takes k1.empty_takes
  pub flushes : FlushedOnceAtMost k0 k1

-- what writing and flushing a text comes to, by the status where both were done
pub record Wrote (k0 k1 : SinkState) (text : List ℕ) (good status : ℕ) : Type 0 where
  pub known : (status ≡ good) ⊎ (status ≡ 4)
  pub whole : status ≡ good → Appends k0.taken k1.taken text
  pub flushed : status ≡ good → k1.flushed ≡ true
  pub one_flush : status ≡ good → k1.flushes ≡ one_more k0.flushes
  pub flushes : FlushedOnceAtMost k0 k1
  pub fault : status ≡ 4 → AppendsFront k0.taken k1.taken text × (Rose k0.faults k1.faults ⊎ Rose k0.empty_takes k1.empty_takes)
  pub kept : status ≢ 4 → (k1.faults ≡ k0.faults) × (k1.empty_takes ≡ k0.empty_takes)

-- how the writing of a text ends: whatever text went to the sink k with this result, the sink is k1 then, and the status tells it
abbrev pub Finishes : SinkState → SinkState → Result Unit WriteFault → ℕ → ℕ → Type 0
Finishes k k1 written good status = (k0 : SinkState) (text : List ℕ) → WroteWhole k0 k text written → Wrote k0 k1 text good status

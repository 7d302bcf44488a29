-- From what writing a text comes to, the parts of an answer.
use Rattle.std.proofs.Common.{◌≡◌, ℕ, List}
use Rattle.ule_io.specs.Sink.{SinkState}
use Rattle.ule_task.specs.Writing.{HasWritten, TookFront, Wrote}

-- a text that was written whole was flushed once
pub has_written : (k0 k1 : SinkState) (text : List ℕ) (good status : ℕ) → Wrote k0 k1 text good status → status ≡ good → HasWritten k0 k1 text
has_written k0 k1 text good status w is = record { written = w.whole is; flushed = w.flushed is; one_flush = w.one_flush is }

-- a fault in a text that is due
pub took_front : (IsDue : List ℕ → Type 0) (k0 k1 : SinkState) (text : List ℕ) (good status : ℕ) → IsDue text → Wrote k0 k1 text good status → status ≡ 4 → TookFront IsDue k0 k1
took_front IsDue k0 k1 text good status due w is =
    let parts = w.fault is in record { text = text; due = due; front = parts.0; cause = parts.1; flushes = w.flushes }

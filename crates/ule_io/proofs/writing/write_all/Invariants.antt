use Rattle.std.proofs.Common.{◌≡◌, ◌<◌, List, ℕ, ◌++◌, length, false}
use Rattle.ule_io.specs.Sink.{Appends}
use Rattle.ule_io.proofs.writing.write_all.Given as goal

-- a front was written with no fault, and the rest is left
abbrev pub invariant-loop-rest : goal.invariant-loop-rest
invariant-loop-rest g l =
    let old = g.K.Sink.state l.initial.out in
    let new = g.K.Sink.state l.out in
    record {
      front : List ℕ;
      parts : l.piece ≡ front ++ l.rest;
      taken : Appends old.taken new.taken front;
      faults : new.faults ≡ old.faults;
      empty_takes : new.empty_takes ≡ old.empty_takes;
      flushes : new.flushes ≡ old.flushes;
      unflushed : 0 < length front → new.flushed ≡ false;
      still_flushed : length front ≡ 0 → new.flushed ≡ old.flushed;
    }

abbrev pub decreases-loop-rest : goal.decreases-loop-rest
decreases-loop-rest g l = length l.rest

use Rattle.std.proofs.Common.{◌≡◌, ◌+◌, ◌-◌, ◌≤◌, length, vec_len}
use Rattle.ule_io.specs.Source.{Gives}
use Rattle.ule_io.specs.declared.reading.TheConstants.{PIECE}
use Rattle.ule_io.proofs.reading.read_all.Given as goal

-- what was taken with no fault is in bytes, at most one byte more than the limit
abbrev pub invariant-loop-piece : goal.invariant-loop-piece
invariant-loop-piece g l =
    let old = g.S.Source.state l.initial.src in
    let new = g.S.Source.state l.src in
    record {
      given : Gives old.left new.left l.bytes.items;
      faults : new.faults ≡ old.faults;
      ends : new.ends ≡ old.ends;
      within : vec_len l.bytes ≤ l.limit + 1;
      room : length l.piece ≡ PIECE;
    }

abbrev pub decreases-loop-piece : goal.decreases-loop-piece
decreases-loop-piece g l = l.limit + 1 - vec_len l.bytes

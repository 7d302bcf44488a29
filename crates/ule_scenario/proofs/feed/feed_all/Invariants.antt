use Rattle.std.proofs.Common.{◌≡◌, ◌+◌, List, ℕ, ◌++◌, length}
use Rattle.ule_io.specs.Source.{Gives}
use Rattle.ule_scenario.specs.ReaderKept.{HasRead}
use Rattle.ule_scenario.specs.declared.feed.TheConstants.{PIECE}
use Rattle.ule_scenario.proofs.feed.feed_all.Given as goal

-- what was taken with no fault, at most the limit, was read behind what had been read before
abbrev pub invariant-loop-n : goal.invariant-loop-n
invariant-loop-n g l =
    let old = g.S.Source.state l.initial.src in
    let new = g.S.Source.state l.src in
    record {
      taken : List ℕ;
      given : Gives old.left new.left taken;
      faults : new.faults ≡ old.faults;
      ends : new.ends ≡ old.ends;
      within : length taken + l.left ≡ l.limit;
      room : length l.piece ≡ PIECE;
      read : (before : List ℕ) → HasRead l.initial.r before → HasRead l.r (before ++ taken);
    }

abbrev pub decreases-loop-n : goal.decreases-loop-n
decreases-loop-n g l = l.left

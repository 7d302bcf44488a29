-- None of the threads so far has the number.
use Rattle.std.proofs.Common.{◌≡◌, drop}
use Rattle.ule_seq.specs.Parts.{declared_word}
use Rattle.ule_seq.proofs.parts.declared_word.Given as goal

abbrev pub invariant-loop-spec : goal.invariant-loop-spec
invariant-loop-spec l = declared_word l.specs l.t ≡ declared_word (drop l.spec-index l.specs) l.t

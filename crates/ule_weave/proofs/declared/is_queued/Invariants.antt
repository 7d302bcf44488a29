-- None of the threads so far has the number.
use Rattle.std.proofs.Common.{◌≡◌, drop, map}
use Rattle.ule_types.specs.Commands.{is_among}
use Rattle.ule_weave.proofs.declared.is_queued.Given as goal

abbrev pub invariant-loop-spec : goal.invariant-loop-spec
invariant-loop-spec l = is_among (map (λ spec. spec.id) l.specs) l.t ≡ is_among (map (λ spec. spec.id) (drop l.spec-index l.specs)) l.t

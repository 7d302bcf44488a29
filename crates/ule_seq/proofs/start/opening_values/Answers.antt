-- One more lock has its opening value.
use Rattle.std.proofs.Common.{◌≡◌, ◌+◌, ◌++◌, ◌∷◌, [], ◌∙◌, sym, arith}
use Rattle.std.proofs.lemmas.List.FromFn.{map-range_with_len_more}
use Rattle.ule_model.specs.OpeningValues.{opening_value}
use Rattle.ule_seq.proofs.start.opening_values.Goals as goal

pub loop-l-preserved : goal.loop-l-preserved
loop-l-preserved c =
    let from_zero : 0 + c.loop-l.l ≡ c.loop-l.l = omega arith in
    c.in-Ok.ensures.items ∙ ((λ i. c.loop-l.invariant i ++ c.in_ok-guarded.ensures i ∷ []) ∙ sym (map-range_with_len_more (opening_value c.args.s.now) 0 c.loop-l.l c.loop-l.l from_zero))

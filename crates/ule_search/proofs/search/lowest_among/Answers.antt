use Rattle.std.proofs.Common.{ℕ, ℤ, List, length, Bool, ◌∙◌, ap, arith, to_z, of_z, w16}
use Rattle.std.proofs.lemmas.Int.{to_z-of_z}
use Rattle.ule_search.specs.Search.{best_cpu, comes_first, may_be_lowest, rank_up}
use Rattle.ule_search.proofs.BestLaws.{kept_all, kept_in, kept_none, kept_out}
use Rattle.ule_search.proofs.search.lowest_among.Goals as goal
use Rattle.ule_search.proofs.search.lowest_among.Goals.{then-may_be_lowest, else-may_be_lowest}

pub loop-c-init : goal.loop-c-init
loop-c-init c = kept_none comes_first _ _

pub loop-c-preserved : goal.loop-c-preserved
loop-c-preserved c =
    let passes : ℕ → Bool = may_be_lowest c.args.group c.args.mask c.args.looks.now (to_z w16 (of_z w16 c.args.above)) c.args.limit in
    let rank : ℕ → List ℤ = rank_up c.args.groups.now c.args.keys.now in
    elim c.if-may_be_lowest.branch [
      | then-may_be_lowest w ↦
          kept_in comes_first rank passes c.loop-c.c c.loop-c.kept _ _ w.ranked_up.result c.may_be_lowest.result c.loop-c.invariant
          c.may_be_lowest.ensures w.if-may_be_lowest.true w.ranked_up.ensures w.lower-kept.ensures w.kept-is
      | else-may_be_lowest w ↦
          kept_out comes_first rank passes c.loop-c.c c.loop-c.kept _ c.may_be_lowest.result c.loop-c.invariant c.may_be_lowest.ensures w.if-may_be_lowest.false w.kept-is
    ]

pub returns : goal.returns
returns c =
    let passes : ℤ → ℕ → Bool = λ above. may_be_lowest c.args.group c.args.mask c.args.looks.now above c.args.limit in
    let rank : ℕ → List ℤ = rank_up c.args.groups.now c.args.keys.now in
    kept_all comes_first rank (passes (to_z w16 (of_z w16 c.args.above))) c.loop-c.c (length c.args.looks.now) c.loop-c.kept _ c.loop-c.invariant (omega arith) c.ranked_cpu.ensures
    ∙ ap (λ (z : ℤ). best_cpu comes_first rank (passes z) (length c.args.looks.now)) (to_z-of_z w16 c.args.above c.ranges.above)

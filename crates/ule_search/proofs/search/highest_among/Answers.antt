use Rattle.std.proofs.Common.{ℕ, ℤ, List, length, Bool, arith}
use Rattle.ule_search.specs.Search.{comes_last, may_be_highest, rank_down}
use Rattle.ule_search.proofs.BestLaws.{kept_all, kept_in, kept_none, kept_out}
use Rattle.ule_search.proofs.search.highest_among.Goals as goal
use Rattle.ule_search.proofs.search.highest_among.Goals.{then-may_be_highest, else-may_be_highest}

pub loop-c-init : goal.loop-c-init
loop-c-init c = kept_none comes_last _ _

pub loop-c-preserved : goal.loop-c-preserved
loop-c-preserved c =
    let passes : ℕ → Bool = may_be_highest c.args.group c.args.mask c.args.looks.now c.args.at_least in
    let rank : ℕ → List ℤ = rank_down c.args.groups.now c.args.keys.now in
    elim c.if-may_be_highest.branch [
      | then-may_be_highest w ↦
          kept_in comes_last rank passes c.loop-c.c c.loop-c.kept _ _ w.ranked_down.result c.may_be_highest.result c.loop-c.invariant
          c.may_be_highest.ensures w.if-may_be_highest.true w.ranked_down.ensures w.higher-kept.ensures w.kept-is
      | else-may_be_highest w ↦
          kept_out comes_last rank passes c.loop-c.c c.loop-c.kept _ c.may_be_highest.result c.loop-c.invariant c.may_be_highest.ensures w.if-may_be_highest.false w.kept-is
    ]

pub returns : goal.returns
returns c = kept_all comes_last _ _ c.loop-c.c (length c.args.looks.now) c.loop-c.kept _ c.loop-c.invariant (omega arith) c.ranked_cpu.ensures

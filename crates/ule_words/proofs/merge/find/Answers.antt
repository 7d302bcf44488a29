use Rattle.std.proofs.Common.{rules, ◌≡◌, subst, arith}
use Rattle.std.specs.Prelude.{Some, slice_get}
use mathlib.Core.Logic.{dite}
use native.Mathlib.Decide.{ℕ_discrete}
use Rattle.ule_micro.proofs.Lists.{one_there, there}
use Rattle.ule_words.specs.Merge.{BeginsWith}
use Rattle.ule_words.proofs.Places.{or_get}
use Rattle.ule_words.proofs.merge.find.Goals as goal

pub returns-then-begins_with : goal.returns-then-begins_with
returns-then-begins_with g c = let f = c.begins_with.ensures.is c.if-begins_with.true in
    (c.index.result.now, or_get c.args.tapes.now.items c.loop-j.j c.index.result.now (search rules) c.index.ensures, f)

pub loop-j-preserved : goal.loop-j-preserved
loop-j-preserved g c = λ i t near at first. dite (ℕ_discrete i c.loop-j.j)
    (λ e. c.begins_with.ensures.is_not c.if-begins_with.false (subst (BeginsWith c.args.number) (one_there c.args.tapes.now.items c.loop-j.j t c.index.result.now (subst (λ z. slice_get c.args.tapes.now.items z ≡ Some t) e at) (or_get c.args.tapes.now.items c.loop-j.j c.index.result.now (search rules) c.index.ensures)) first))
    (λ d. c.loop-j.invariant i t (omega arith) at first)

pub unreachable-requires : goal.unreachable-requires
unreachable-requires g c = let r = c.requires in let near = there c.args.tapes.now.items r.0 r.1 r.2 in
    c.loop-j.invariant r.0 r.1 (search rules) r.2 r.3

use Rattle.std.proofs.Common.{ap, sym, subst, ◌∙◌, arith}
use Rattle.ule_types.specs.Outcome.{RisesFrom}
use Rattle.ule_types.proofs.Placed.{first_place, IsFree, free_from_end, free_from_line, placed-insert, placed-set, length-lt_from_free, RisesFrom-placed}
use Rattle.ule_types.proofs.outcome.place.Goals as goal
use Rattle.ule_types.proofs.outcome.place.Goals.{else-at-len-via-then-at-len+else-eq, else-at-len-via-else-at-len}

-- no line has the id
free : (c : goal.After-insert) → IsFree c.args.l.id c.args.lines.now.items
free c =
    let lines = c.args.lines.now.items in
    let at = c.first_from-at.ensures.place ∙ ap (first_place c.args.l.id) c.deref.ensures.value in
    elim c.else-at-len.branch [
      | else-at-len-via-then-at-len+else-eq w ↦
          free_from_line c.args.l.id lines _ w.index.result.now at w.index.ensures (sym w.eq.ensures ∙ w.if-eq.false)
      | else-at-len-via-else-at-len w ↦ free_from_end c.args.l.id lines _ at (omega arith)
    ]

pub unwrap-requires : goal.unwrap-requires
unwrap-requires c =
    c.insert.ensures.succeeds (omega (arith, length-lt_from_free c.args.l c.args.lines.now.items c.first_from-at.ensures.range c.requires.rising (free c)))

pub returns-then-eq-clause-items : goal.returns-then-eq-clause-items
returns-then-eq-clause-items c =
    let at = c.first_from-at.ensures.place ∙ ap (first_place c.args.l.id) c.deref.ensures.value in
    placed-set c.args.l c.args.lines.now.items _ c.index.result.now at c.requires.rising (omega arith) c.index.ensures (sym c.eq.ensures ∙ c.if-eq.true)

pub returns-then-eq-clause-rising : goal.returns-then-eq-clause-rising
returns-then-eq-clause-rising c =
    subst (RisesFrom 0) (sym (returns-then-eq-clause-items c)) (RisesFrom-placed c.args.l c.args.lines.now.items c.first_from-at.ensures.range c.requires.rising)

pub returns-else-at-len-clause-items : goal.returns-else-at-len-clause-items
returns-else-at-len-clause-items c =
    let at = c.first_from-at.ensures.place ∙ ap (first_place c.args.l.id) c.deref.ensures.value in
    rw (rw c.unwrap.ensures at c.insert.ensures.items) (placed-insert c.args.l c.args.lines.now.items _ at c.requires.rising (free c.before))

pub returns-else-at-len-clause-rising : goal.returns-else-at-len-clause-rising
returns-else-at-len-clause-rising c =
    subst (RisesFrom 0) (sym (returns-else-at-len-clause-items c)) (RisesFrom-placed c.args.l c.args.lines.now.items c.first_from-at.ensures.range c.requires.rising)

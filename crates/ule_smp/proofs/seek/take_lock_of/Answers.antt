use Rattle.std.proofs.Common.{ap, refl, ◌∙◌}
use Rattle.ule_words.specs.Held.{value_held}
use Rattle.ule_words.proofs.Helds.{found_here}
use Rattle.ule_smp.proofs.Holding.{took}
use Rattle.ule_smp.proofs.Locking.{held_low}
use Rattle.ule_smp.proofs.seek.take_lock_of.Goals as goal

pub returns-then-names-clause-locked : goal.returns-then-names-clause-locked
returns-then-names-clause-locked g c = let l = c.in-Lock.l in let v = c.take.ensures.0 in
    let e = took c.args.p.now _ _ l v _ (c.read_word-word.ensures.same ∙ c.loop.invariant) c.take.ensures.1 in (
      v,
      c.read_word-again.ensures.same ∙ e,
      c.read_word-again.ensures.stands l v c.requires.declared (ap (λ z. z.worker.pending) e ∙ c.requires.calm) (c.names.ensures c.if-names.true)
          (ap (λ z. value_held z.worker.held l) e ∙ found_here (l, v) c.args.p.now.worker.held l refl),
    )

pub returns-then-names-clause-low : goal.returns-then-names-clause-low
returns-then-names-clause-low g c = let l = c.in-Lock.l in let v = c.take.ensures.0 in
    held_low (g.P.Parts.means c.args.locks.now.parts) _ c.args.t c.read_word-again.result l v c.read_word-again.ensures.found
    (ap (λ z. value_held z.worker.held l) c.take.ensures.1 ∙ found_here (l, v) _ l refl)

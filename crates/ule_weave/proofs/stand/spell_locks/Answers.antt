use Rattle.std.proofs.Common.{◌++◌, ap, ◌∙◌, arith}
use Rattle.std.specs.Prelude.{◌||◌, is_some, option_to_list}
use Rattle.ule_micro.specs.States.{lock_holder}
use Rattle.ule_trace.specs.Line.{spaced}
use Rattle.ule_weave.specs.TurnText.{held_word}
use Rattle.ule_weave.proofs.Listing.{lock_more, locks_end}
use Rattle.ule_weave.proofs.stand.spell_locks.Goals as goal

pub loop-l-preserved : goal.loop-l-preserved
loop-l-preserved g c =
    let holder = lock_holder c.args.m.now.state in
    let told = c.spell_lock-any.ensures.told ∙ ap (λ o. c.loop-l.any || is_some o) c.holder.ensures in
    let text = c.spell_lock-any.ensures.text ∙ ap (λ o. c.loop-l.held ++ spaced (option_to_list (held_word c.loop-l.l o))) c.holder.ensures in
    record {
      listed = lock_more holder c.loop-l.l c.args.held.now c.loop-l.held c.spell_lock-any.new.held c.loop-l.any c.spell_lock-any.result c.loop-l.invariant.listed told text;
      room = omega arith;
    }

pub returns-clause-text : goal.returns-clause-text
returns-clause-text g c =
    locks_end (lock_holder c.args.m.now.state) c.loop-l.l c.args.held.now c.loop-l.held c.spell_end.new.held c.loop-l.any (omega arith) c.loop-l.invariant.listed c.spell_end.ensures.some c.spell_end.ensures.none

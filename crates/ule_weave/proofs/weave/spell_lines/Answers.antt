use Rattle.std.proofs.Common.{◌≡◌, ap, ◌∙◌, subst, sym, length, ◌≤◌, ◌++◌}
use Rattle.std.specs.Prelude.{All, true}
use Rattle.ule_micro.specs.States.{lock_holder, word_of}
use Rattle.ule_parts.specs.Workers.{declared_ids_of}
use Rattle.ule_trace.specs.Line.{line_text}
use Rattle.ule_types.specs.Commands.{is_among}
use Rattle.ule_weave.specs.TurnText.{entry_at, locks_words, outcome_words, threads_words, turn_words}
use Rattle.ule_weave.specs.WeaveText.{declared_in_order, places_in}
use Rattle.ule_weave.proofs.DeclaredThreads.{declared_each, declared_few}
use Rattle.ule_weave.proofs.Woven.{three_lines}
use Rattle.ule_weave.proofs.weave.spell_lines.Goals as goal

pub spell_threads-requires-clause-few : goal.spell_threads-requires-clause-few
spell_threads-requires-clause-few c = subst (λ xs. length xs ≤ 256) (sym (c.as_slice.ensures.value ∙ c.requires.declared)) (declared_few c.args.m.now.parts)

pub spell_threads-requires-clause-declared : goal.spell_threads-requires-clause-declared
spell_threads-requires-clause-declared c =
    subst (λ xs. All (λ t. is_among (declared_ids_of c.args.m.now.parts) t ≡ true) xs) (sym (c.as_slice.ensures.value ∙ c.requires.declared)) (declared_each c.args.m.now.parts)

pub returns : goal.returns
returns c =
    let x = c.args.m.now.state in
    let s = c.args.m.now.parts in
    three_lines c.args.held.now c.spell_turn.new.held c.spell_locks.new.held c.spell_threads.new.held
    (turn_words c.args.i c.args.worker (outcome_words (entry_at x) c.args.turn.now)) (locks_words (lock_holder x)) (threads_words (word_of x) (places_in s x) (declared_in_order s))
    c.spell_turn.ensures.text c.spell_locks.ensures.text
    (c.spell_threads.ensures.text ∙ ap (λ ids. c.spell_locks.new.held ++ line_text (threads_words (word_of x) (places_in s x) ids)) (c.as_slice.ensures.value ∙ c.requires.declared))

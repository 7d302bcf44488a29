use Rattle.std.proofs.Common.{◌≡◌, ◌+◌, ◌≤◌, ◌++◌, ap, ◌∙◌, sym, subst, length, get_or, arith}
use Rattle.std.specs.Prelude.{nat_lt}
use Rattle.std.specs.List.{list_all}
use Rattle.std.proofs.lemmas.Result.{err_from_is_err_and}
use Rattle.ule_io.specs.Sink.{WroteWhole}
use Rattle.ule_parts.specs.Scheduler.{orders_of, sched_means}
use Rattle.ule_trace.proofs.Progress.{failed}
use Rattle.ule_trace.specs.Line.{line_text, lines_text}
use Rattle.ule_weave.specs.WeaveText.{declared_in_order, done_words, opened, turn_lines, weave_text}
use Rattle.ule_weave.proofs.Opened.{opened_workers, weaves_are_sound}
use Rattle.ule_weave.proofs.Turned.{turn_tells}
use Rattle.ule_weave.proofs.Woven.{turn_below, woven_begun, woven_end, woven_on}
use Rattle.ule_weave.proofs.weave.Weave.write.Goals as goal

pub loop-k-init : goal.loop-k-init
loop-k-init g c =
    let s = c.args.s.now in
    let parts : c.self.inside.micro.parts ≡ s = c.self.view_is ∙ c.requires in
    let at = c.self.invariant.0 ∙ ap opened parts in
    record {
      parts = parts;
      workers = ap (λ x. length x.seats) at ∙ opened_workers s;
      text = woven_begun (g.K.Sink.state c.args.out.now) s c.self.inside.micro.state c.as_slice-turns.result.now c.new-held.result c.text.new.self c.new-held.ensures c.text.ensures at c.as_slice-turns.ensures;
    }

pub advance-turn-requires : goal.advance-turn-requires
advance-turn-requires g c =
    let s = c.args.s.now in
    let turns = c.as_slice-turns.result.now in
    let below = turn_below s.cpus turns c.loop-k.k (ap (list_all (λ w. nat_lt w s.cpus)) c.as_slice-turns.ensures ∙ s.rules.turns) c.loop-k-test.true in
    omega (arith, below, c.loop-k.invariant.workers)

pub spell_lines-requires-clause-entry : goal.spell_lines-requires-clause-entry
spell_lines-requires-clause-entry g c = λ k e.
    let p = c.loop-k.micro.parts in
    let turned = c.advance-turn.ensures.turned in
    let told = turn_tells (sched_means p) (orders_of p) c.loop-k.micro.state (get_or c.as_slice-turns.result.now c.loop-k.k 0) k (turned.1 ∙ e) in
    (told.0, subst (λ x. k ≤ x.ticket) turned.2 told.1)

pub spell_lines-requires-clause-declared : goal.spell_lines-requires-clause-declared
spell_lines-requires-clause-declared g c =
    c.self.invariant.1 ∙ (ap declared_in_order (c.self.view_is ∙ c.requires) ∙ sym (ap declared_in_order (c.advance-turn.ensures.turned.0 ∙ c.loop-k.invariant.parts)))

pub loop-k-preserved : goal.loop-k-preserved
loop-k-preserved g c =
    let s = c.args.s.now in
    let turns = c.as_slice-turns.result.now in
    let turned = c.advance-turn.ensures.turned in
    let next = c.advance-turn.new.self.state in
    let left = c.make_room_for.new.self in
    let text = c.spell_lines.ensures ∙ ap (λ q. left ++ lines_text (turn_lines q (c.loop-k.k + 1) (get_or turns c.loop-k.k 0) c.advance-turn.result next)) turned.0 in
    record {
      parts = turned.0 ∙ c.loop-k.invariant.parts;
      workers = c.advance-turn.ensures.workers ∙ c.loop-k.invariant.workers;
      text = woven_on s c.loop-k.micro.parts c.loop-k.k c.loop-k.micro.state next turns c.advance-turn.result (g.K.Sink.state c.args.out.now) (g.K.Sink.state c.loop-k.out) (g.K.Sink.state c.make_room_for.new.out)
          c.loop-k.held left c.spell_lines.new.held (weave_text s) c.loop-k.invariant.parts c.loop-k.invariant.text c.in_ok-make_room_for.ensures.moved c.loop-k-test.true turned.1 turned.2 text;
    }

pub returns-in_err-make_room_for : goal.returns-in_err-make_room_for
returns-in_err-make_room_for g c =
    let p = err_from_is_err_and c.from_residual.result c.from_residual.ensures.1 in
    record { written = rw (p.1, p.2) (failed c.loop-k.invariant.text c.in_err-make_room_for.ensures.moved); sound = weaves_are_sound c.args.s.now }

pub returns-in_err-make_room_for-2 : goal.returns-in_err-make_room_for-2
returns-in_err-make_room_for-2 g c =
    let p = err_from_is_err_and c.from_residual-in_err-make_room_for-2.result c.from_residual-in_err-make_room_for-2.ensures.1 in
    record { written = rw (p.1, p.2) (failed c.loop-k.invariant.text c.in_err-make_room_for-2.ensures.moved); sound = weaves_are_sound c.args.s.now }

pub returns : goal.returns
returns g c =
    let s = c.args.s.now in
    let turns = c.as_slice-turns.result.now in
    let x = c.loop-k.micro.state in
    let left = c.make_room_for-2.new.self in
    let all : length turns ≡ c.loop-k.k = omega arith in
    let text = c.spell_done.ensures ∙ (ap (λ n. left ++ line_text (done_words n c.from.result)) all ∙ ap (λ n. left ++ line_text (done_words c.loop-k.k n)) (c.from.ensures ∙ c.ticket.ensures)) in
    let wrote = subst (λ h. WroteWhole (g.K.Sink.state c.make_room_for-2.new.out) (g.K.Sink.state c.write_all.new.out) h c.write_all.result) c.as_slice.ensures c.write_all.ensures.wrote in
    record {
      written = woven_end s c.loop-k.k x turns (g.K.Sink.state c.args.out.now) (g.K.Sink.state c.loop-k.out) (g.K.Sink.state c.make_room_for-2.new.out) (g.K.Sink.state c.write_all.new.out)
          c.loop-k.held left c.spell_done.new.held (weave_text s) c.write_all.result c.loop-k.invariant.text c.in_ok-make_room_for-2.ensures.moved (omega arith) text wrote;
      sound = weaves_are_sound s;
    }

-- A turn with no further item changes nothing; any other is the turn of the item that waits, and tells what came of it.
use Rattle.std.proofs.Common.{sym, ◌∙◌, ap, subst, Some, arith}
use Rattle.ule_model.specs.Rounds.{turn}
use Rattle.ule_seq.specs.Playing.{IsPlay}
use Rattle.ule_seq.proofs.PlayLaws.{advance_fits, can_attempt, courses_count, has_room, told_advanced, told_attempted, told_ended, turn_advanced, turn_attempted, turn_ended, turn_found}
use Rattle.ule_seq.proofs.player.Player.turn.Goals as goal

pub item_of-requires : goal.item_of-requires
item_of-requires c = omega (arith, c.requires.worker, courses_count c.args.s.now c.args.self.now c.requires.plays.0 c.requires.plays.1)

pub returns-in_default-clause-turned : goal.returns-in_default-clause-turned
returns-in_default-clause-turned c p play =
    subst (IsPlay c.args.s.now c.args.self.now) (sym (turn_ended c.args.s.now c.args.self.now p c.args.worker play (c.item_of.ensures ∙ c.in_default.is))) play

pub returns-in_default-clause-told : goal.returns-in_default-clause-told
returns-in_default-clause-told c p play = told_ended c.args.s.now c.args.self.now p c.args.worker play (c.item_of.ensures ∙ c.in_default.is)

pub returns-in_default-clause-plays : goal.returns-in_default-clause-plays
returns-in_default-clause-plays c = c.requires.plays

pub attempt-requires-clause-step : goal.attempt-requires-clause-step
attempt-requires-clause-step c ready =
    can_attempt c.args.s.now c.args.self.now c.requires.plays.0 c.args.worker c.in-Event.event
    (turn_found c.args.s.now c.args.self.now c.requires.plays.0 c.args.worker _ c.requires.plays.1 (c.item_of.ensures ∙ c.in-Some.is ∙ ap Some c.in-Event.is)) ready

pub attempt-requires-clause-room : goal.attempt-requires-clause-room
attempt-requires-clause-room c =
    has_room c.args.s.now c.args.self.now c.requires.plays.0 c.args.worker c.in-Event.event
    (turn_found c.args.s.now c.args.self.now c.requires.plays.0 c.args.worker _ c.requires.plays.1 (c.item_of.ensures ∙ c.in-Some.is ∙ ap Some c.in-Event.is))

pub advance-requires-clause-worker : goal.advance-requires-clause-worker
advance-requires-clause-worker c = omega (arith, c.requires.worker, courses_count c.args.s.now c.args.self.now c.requires.plays.0 c.requires.plays.1)

pub advance-requires-clause-fits : goal.advance-requires-clause-fits
advance-requires-clause-fits c =
    advance_fits c.args.s.now c.args.self.now c.requires.plays.0 c.args.worker c.in-Advance.ticks
    (turn_found c.args.s.now c.args.self.now c.requires.plays.0 c.args.worker _ c.requires.plays.1 (c.item_of.ensures ∙ c.in-Some.is ∙ ap Some c.in-Advance.is))

pub returns-in-Event-clause-turned : goal.returns-in-Event-clause-turned
returns-in-Event-clause-turned c p play =
    turn_attempted c.args.s.now c.args.self.now c.attempt.new.self p c.args.worker c.in-Event.event c.attempt.result
    (turn_found c.args.s.now c.args.self.now p c.args.worker _ play (c.item_of.ensures ∙ c.in-Some.is ∙ ap Some c.in-Event.is)) c.attempt.ensures

pub returns-in-Event-clause-told : goal.returns-in-Event-clause-told
returns-in-Event-clause-told c p play =
    told_attempted c.args.s.now c.args.self.now c.attempt.new.self p c.args.worker c.in-Event.event c.attempt.result
    (turn_found c.args.s.now c.args.self.now p c.args.worker _ play (c.item_of.ensures ∙ c.in-Some.is ∙ ap Some c.in-Event.is)) c.attempt.ensures

pub returns-in-Event-clause-plays : goal.returns-in-Event-clause-plays
returns-in-Event-clause-plays c =
    (turn c.requires.plays.0 c.args.worker, returns-in-Event-clause-turned c c.requires.plays.0 c.requires.plays.1)

pub returns-in-Advance-clause-turned : goal.returns-in-Advance-clause-turned
returns-in-Advance-clause-turned c p play =
    turn_advanced c.args.s.now c.args.self.now c.advance.new.self p c.args.worker c.in-Advance.ticks c.advance.result
    (turn_found c.args.s.now c.args.self.now p c.args.worker _ play (c.item_of.ensures ∙ c.in-Some.is ∙ ap Some c.in-Advance.is)) c.advance.ensures

pub returns-in-Advance-clause-told : goal.returns-in-Advance-clause-told
returns-in-Advance-clause-told c p play =
    told_advanced c.args.s.now c.args.self.now c.advance.new.self p c.args.worker c.in-Advance.ticks c.advance.result
    (turn_found c.args.s.now c.args.self.now p c.args.worker _ play (c.item_of.ensures ∙ c.in-Some.is ∙ ap Some c.in-Advance.is)) c.advance.ensures

pub returns-in-Advance-clause-plays : goal.returns-in-Advance-clause-plays
returns-in-Advance-clause-plays c =
    (turn c.requires.plays.0 c.args.worker, returns-in-Advance-clause-turned c c.requires.plays.0 c.requires.plays.1)

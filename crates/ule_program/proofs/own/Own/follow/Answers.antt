-- What follows a steal and a move.
use Rattle.std.proofs.Common.{sym, ◌∙◌, ap}
use Rattle.ule_program.specs.Program.{Next, after}
use Rattle.ule_program.proofs.own.Own.follow.Goals as goal

pub returns-in-Steals : goal.returns-in-Steals
returns-in-Steals c = c.steal_on.ensures c.args.now ∙ ap (λ (next : Next). after next c.args.reply.now c.args.now c.args.self.now) (sym c.in-Steals.is)

pub returns-in-Moves : goal.returns-in-Moves
returns-in-Moves c = c.move_on.ensures c.args.now ∙ ap (λ (next : Next). after next c.args.reply.now c.args.now c.args.self.now) (sym c.in-Moves.is)

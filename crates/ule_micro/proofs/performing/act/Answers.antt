use Rattle.std.proofs.Common.{◌∙◌, ap, ◌+◌}
use Rattle.ule_micro.specs.declared.seat.Phase.TheVariants.{Leaving}
use Rattle.ule_micro.proofs.performing.act.Goals as goal

pub returns : goal.returns
returns g c = let p = c.perform-reply.ensures in let m = g.P.Parts.means c.args.parts.now in (
  p.0,
  p.1,
  (λ i. record {
    own = p.2 i;
    begun = c.args.seat.now.begun;
    items = c.args.seat.now.items + 1;
    advanced = c.args.seat.now.advanced;
    pending = (c.change-pending.ensures ∙ ap (m.change c.args.e) p.4) i;
    phase = Leaving (p.4 i) c.args.now c.args.held.now;
  }),
  p.3,
  p.4,
)

-- The next command, once begun, gives what the commands not begun give.
use Rattle.std.proofs.Common.{rules, ◌≡◌, false, is_some, None, sym, ◌∙◌, ap, arith}
use Rattle.ule_check.specs.Seats.{comes_next, time_ahead}
use Rattle.ule_check.specs.declared.seat.Seat.{Seat}
use Rattle.ule_check.proofs.SeatLaws.{begins_next, begun_fits, begun_time, command_begun, further, given_time}
use Rattle.ule_check.proofs.seat.Seat.begin_further.Goals as goal

pub event_of_item-self-requires-clause-fits : goal.event_of_item-self-requires-clause-fits
event_of_item-self-requires-clause-fits c =
    begun_fits c.args.s.now c.args.worker c.loop-worker.self c.at.result.now c.begin.new.self c.begin.ensures c.at.ensures (omega (arith, c.loop-worker.invariant.less, c.requires.fits))

pub loop-worker-preserved : goal.loop-worker-preserved
loop-worker-preserved c =
    let none : is_some c.loop-worker.self.event ≡ false = first_of (cc, search rules, grind arith) in
    let same = further c.loop-worker.self c.at.result.now c.begin.new.self c.event_of_item-self.new.self c.event_of_item-self.result c.begin.ensures
    c.event_of_item-self.ensures.after c.event_of_item-self.ensures.event in
    let ahead = ap (time_ahead c.args.s.now c.args.worker) same in
    record {
      due = c.loop-worker.invariant.due ∙ begins_next c.args.s.now c.args.worker c.loop-worker.self c.at.result.now none c.at.ensures ∙
          ap (comes_next c.args.s.now c.args.worker) (sym same);
      own = ap (λ (x : Seat). x.own) same ∙ c.loop-worker.invariant.own;
      less = omega (
        arith,
        ahead,
        given_time c.args.s.now c.args.worker (command_begun c.loop-worker.self c.at.result.now) None,
        begun_time c.args.s.now c.args.worker c.loop-worker.self c.at.result.now c.at.ensures,
        c.loop-worker.invariant.less,
      );
    }

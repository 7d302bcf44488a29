use Rattle.std.proofs.Common.{[], refl}
use Rattle.ule_trace.proofs.Progress.{wrote_nothing}
use Rattle.ule_trace.proofs.held.Held.make_room_for.Goals as goal

pub returns-then-len-room-le-CAPACITY-clause-moved : goal.returns-then-len-room-le-CAPACITY-clause-moved
returns-then-len-room-le-CAPACITY-clause-moved g c =
    record { moved = []; parts = refl; written = wrote_nothing (g.K.Sink.state c.args.out.now) }

use Rattle.std.proofs.Common.{[], ◌∷◌, refl}
use Rattle.ule_trace.specs.EventText.{event_text}
use Rattle.ule_top.proofs.VerdictLines.{wrote_part, wrote_then}
use Rattle.ule_top.proofs.verdict_line.end_event.Goals as goal

pub returns-in-Ok : goal.returns-in-Ok
returns-in-Ok g c = wrote_then _ _ _ (event_text c.args.event.now) (10 ∷ []) _ _ refl c.in-Ok.ensures c.write_all.ensures.wrote

pub returns-in-Err : goal.returns-in-Err
returns-in-Err g c = wrote_part _ _ (event_text c.args.event.now) (10 ∷ []) _ c.in-Err.fault refl c.in-Err.ensures

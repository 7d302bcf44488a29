use Rattle.std.proofs.Common.{ℕ, List, [], ◌∷◌, ◌++◌, codes}
use Rattle.ule_top.specs.VerdictLine.{fault_front}
use Rattle.ule_trace.specs.EventText.{event_text}
use Rattle.ule_trace.specs.Line.{joined}
use Rattle.ule_top.proofs.VerdictLines.{event_line, wrote_part, wrote_then}
use Rattle.ule_top.proofs.verdict_line.write_expected.Goals as goal

pub returns-in-Ok : goal.returns-in-Ok
returns-in-Ok g c =
    let front : List ℕ = joined (fault_front c.args.k (codes "event")) ++ 32 ∷ [] in
    wrote_then _ _ _ front (event_text c.args.event.now ++ 10 ∷ []) _ _ (event_line c.args.k c.args.event.now)
    (rw (c.as_slice.ensures, c.spaced_front-text.ensures) at c.in-Ok.ensures.wrote) c.end_event.ensures

pub returns-in-Err : goal.returns-in-Err
returns-in-Err g c =
    let front : List ℕ = joined (fault_front c.args.k (codes "event")) ++ 32 ∷ [] in
    wrote_part _ _ front (event_text c.args.event.now ++ 10 ∷ []) _ c.in-Err.fault (event_line c.args.k c.args.event.now)
    (rw (c.as_slice.ensures, c.spaced_front-text.ensures) at c.in-Err.ensures.wrote)

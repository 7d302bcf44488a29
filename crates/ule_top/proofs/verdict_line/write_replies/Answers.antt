use Rattle.std.proofs.Common.{ℕ, List, [], ◌∷◌, ◌++◌, codes}
use Rattle.ule_top.specs.VerdictLine.{fault_front, found_text}
use Rattle.ule_trace.specs.ReplyText.{reply_text}
use Rattle.ule_trace.specs.Line.{joined}
use Rattle.ule_top.proofs.VerdictLines.{reply_line, wrote_part, wrote_then}
use Rattle.ule_top.proofs.verdict_line.write_replies.Goals as goal

pub returns-in-Ok : goal.returns-in-Ok
returns-in-Ok g c =
    let front : List ℕ = joined (fault_front c.args.k (codes "reply")) ++ 32 ∷ [] in
    wrote_then _ _ _ front (reply_text c.args.expected.now ++ found_text c.args.found.now) _ _ (reply_line c.args.k c.args.expected.now c.args.found.now)
    (rw (c.as_slice.ensures, c.spaced_front-text.ensures) at c.in-Ok.ensures.wrote) c.write_pair.ensures

pub returns-in-Err : goal.returns-in-Err
returns-in-Err g c =
    let front : List ℕ = joined (fault_front c.args.k (codes "reply")) ++ 32 ∷ [] in
    wrote_part _ _ front (reply_text c.args.expected.now ++ found_text c.args.found.now) _ c.in-Err.fault (reply_line c.args.k c.args.expected.now c.args.found.now)
    (rw (c.as_slice.ensures, c.spaced_front-text.ensures) at c.in-Err.ensures.wrote)

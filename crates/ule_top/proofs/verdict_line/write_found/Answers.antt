use Rattle.std.proofs.Common.{[], ◌∷◌, ◌++◌, codes, refl}
use Rattle.ule_trace.specs.ReplyText.{reply_text}
use Rattle.ule_top.proofs.VerdictLines.{wrote_part, wrote_then}
use Rattle.ule_top.proofs.verdict_line.write_found.Goals as goal

pub returns-in-Ok : goal.returns-in-Ok
returns-in-Ok g c = wrote_then _ _ _ (codes " | ") (reply_text c.args.found.now ++ 10 ∷ []) _ _ refl c.in-Ok.ensures.wrote c.end_reply.ensures

pub returns-in-Err : goal.returns-in-Err
returns-in-Err g c = wrote_part _ _ (codes " | ") (reply_text c.args.found.now ++ 10 ∷ []) _ c.in-Err.fault refl c.in-Err.ensures.wrote

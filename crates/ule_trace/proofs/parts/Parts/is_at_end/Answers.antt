use Rattle.ule_trace.proofs.Parted.{end_is}
use Rattle.ule_trace.proofs.parts.Parts.is_at_end.Goals as goal

pub returns : goal.returns
returns c =
    let p = c.self.inside in
    end_is c.args.self.now p.more p.separator p.rest.now c.self.view_is

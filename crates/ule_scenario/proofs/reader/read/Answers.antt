use Rattle.std.proofs.Common.{[]}
use Rattle.ule_scenario.proofs.reader.read.Goals as goal

pub returns : goal.returns
returns c = c.finish.ensures.told c.args.bytes.now (c.in-Ok-feed.ensures.read [] c.in-Ok.ensures)

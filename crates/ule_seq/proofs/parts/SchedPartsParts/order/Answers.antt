-- The script of a worker that there is, up to its end.
use Rattle.std.proofs.Common.{length, refl}
use Rattle.ule_parts.specs.Workers.{owns_from}
use Rattle.ule_seq.proofs.PartLaws.{low_worker}
use Rattle.ule_seq.proofs.parts.SchedPartsParts.order.Goals as goal

pub len-requires : goal.len-requires
len-requires c = low_worker c.args.self.now c.args.worker (length (owns_from c.args.self.now 0 c.args.self.now.cpus)) refl c.requires.worker

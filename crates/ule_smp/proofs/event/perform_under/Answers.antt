use Rattle.ule_smp.proofs.Holding.{acts_so, can_commit_under, has_performed_under}
use Rattle.ule_smp.proofs.event.perform_under.Goals as goal

pub commit-reply-requires-clause-can : goal.commit-reply-requires-clause-can
commit-reply-requires-clause-can g c = (_, _, can_commit_under _ c.args.e.now c.args.taken.now c.args.p.now _ c.read_now-now.result c.read_now-now.ensures c.requires.held c.requires.calm c.requires.left c.requires.asks)

pub returns-clause-performed : goal.returns-clause-performed
returns-clause-performed g c = has_performed_under _ c.args.e.now c.args.taken.now c.args.p.now _ _ _ _ c.read_now-now.result c.commit-reply.result c.read_now-now.ensures c.commit-reply.ensures c.settle.ensures c.give_back.ensures c.requires.held.0

pub returns-clause-acts : goal.returns-clause-acts
returns-clause-acts g c = acts_so _ c.args.e.now c.args.taken.now c.args.p.now _ _ c.read_now-now.result c.commit-reply.result c.read_now-now.ensures c.commit-reply.ensures c.requires.held.0

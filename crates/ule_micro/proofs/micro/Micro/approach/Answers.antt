use Rattle.ule_micro.proofs.Refines.{takes_named, takes_second, frees_stale, at_way}
use Rattle.ule_micro.proofs.micro.Micro.approach.Goals as goal

pub open_event-requires : goal.open_event-requires
open_event-requires g c = record { at = (at_way c.args.self.now.state c.args.worker c.args.e _ _ c.in-Open.is c.requires.at) }

pub take-requires : goal.take-requires
take-requires g c = record { next = takes_named g.P.Parts.means g.P.Parts.orders c.args.self.now.parts c.args.self.now.state c.args.worker c.args.e c.in-Named.t c.in-Named.l (at_way c.args.self.now.state c.args.worker c.args.e _ _ c.in-Named.is c.requires.at) }

pub second_read-requires : goal.second_read-requires
second_read-requires g c = record { at = (at_way c.args.self.now.state c.args.worker c.args.e _ _ c.in-Taken.is c.requires.at) }

pub release-requires : goal.release-requires
release-requires g c = record { next = frees_stale g.P.Parts.means g.P.Parts.orders c.args.self.now.parts c.args.self.now.state c.args.worker c.args.e c.in-Stale.l (at_way c.args.self.now.state c.args.worker c.args.e _ _ c.in-Stale.is c.requires.at) }

pub take-requires-in-Half : goal.take-requires-in-Half
take-requires-in-Half g c = record { next = takes_second g.P.Parts.means g.P.Parts.orders c.args.self.now.parts c.args.self.now.state c.args.worker c.args.e c.in-Half.a c.in-Half.b (at_way c.args.self.now.state c.args.worker c.args.e _ _ c.in-Half.is c.requires.at) }

pub read_now-requires : goal.read_now-requires
read_now-requires g c = record { at = (at_way c.args.self.now.state c.args.worker c.args.e _ _ c.in-Locked.is c.requires.at) }

pub commit-requires : goal.commit-requires
commit-requires g c = record { at = (at_way c.args.self.now.state c.args.worker c.args.e _ _ c.in-Timed.is c.requires.at) }

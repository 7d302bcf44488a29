use Rattle.std.proofs.Common.{sym, ap, ◌∙◌}
use Rattle.std.specs.Prelude.{Some}
use Rattle.ule_micro.proofs.Refines.{opens_one, opens_both, needs_one, needs_both}
use Rattle.ule_micro.proofs.micro.Micro.take_first.Goals as goal

pub take-requires : goal.take-requires
take-requires g c = record { next = opens_one g.P.Parts.means g.P.Parts.orders c.args.self.now.parts c.args.self.now.state c.args.worker c.args.e c.in-One.a c.requires.at (needs_one ((g.P.Parts.means c.args.self.now.parts).needs c.args.e) c.in-One.a (ap Some (sym c.in-One.is) ∙ c.requires.fixed)) }

pub take-requires-in-Two : goal.take-requires-in-Two
take-requires-in-Two g c = record { next = opens_both g.P.Parts.means g.P.Parts.orders c.args.self.now.parts c.args.self.now.state c.args.worker c.args.e c.in-Two.a c.in-Two.b c.requires.at (needs_both ((g.P.Parts.means c.args.self.now.parts).needs c.args.e) c.in-Two.a c.in-Two.b (ap Some (sym c.in-Two.is) ∙ c.requires.fixed)) }

use Rattle.std.proofs.Common.{◌∙◌, ap, sym}
use Rattle.ule_words.proofs.Ties.{hand_tied}
use Rattle.ule_words.proofs.locks.Locks.next.Goals as goal

pub invariant_of-p : goal.invariant_of-p
invariant_of-p g c = let same = g.met.P.Parts.same_hand c.args.self.now.parts in let part = g.met.P.Parts.same_number c.args.self.now.parts in let law = g.met.P.Parts.lawful c.args.self.now.parts in let m = g.P.Parts.means c.args.self.now.parts in
    hand_tied _ _ _ _ _ _ _ _ _ _ c.p.invariant (sym (same c.next.new.own) ∙ (ap m.hand c.next.ensures.own ∙ (law.hands.next c.p.inside.own c.args.last ∙ same c.p.inside.own)))
    (sym (part c.next.new.own) ∙ (ap m.number c.next.ensures.own ∙ (law.hands.next_number c.p.inside.own c.args.last ∙ part c.p.inside.own)))

use Rattle.std.proofs.Common.{◌≤◌, ◌∷◌, ◌∙◌, ap, sym, subst, subst₂}
use Rattle.std.specs.Prelude.{None}
use Rattle.ule_micro.specs.Standings.{asks}
use Rattle.ule_words.specs.Workers.{entries_in}
use Rattle.ule_words.proofs.Ties.{hand_tied, state_is, worker_is}
use Rattle.ule_words.proofs.locks.Locks.begin.Goals as goal

pub begin-requires : goal.begin-requires
begin-requires g c = let m = g.P.Parts.means c.args.self.now.parts in let law = g.met.P.Parts.lawful c.args.self.now.parts in let r = c.requires in
    subst (λ o. m.begins o c.args.c.now) (sym (ap (λ s. s.own) c.p.view_is)) (law.standing.begins (record { given = r.0; mine = entries_in c.args.p.now.worker.mine }) c.args.p.now.own c.args.c.now r.1 r.2).0

pub invariant_of-p : goal.invariant_of-p
invariant_of-p g c = let same = g.met.P.Parts.same_hand c.args.self.now.parts in let part = g.met.P.Parts.same_number c.args.self.now.parts in let law = g.met.P.Parts.lawful c.args.self.now.parts in let m = g.P.Parts.means c.args.self.now.parts in
    hand_tied _ _ _ _ _ _ _ _ _ _ c.p.invariant (sym (same c.begin.new.own) ∙ (ap m.hand c.begin.ensures ∙ (law.hands.begin c.p.inside.own c.args.c.now ∙ same c.p.inside.own)))
    (sym (part c.begin.new.own) ∙ (ap m.number c.begin.ensures ∙ (law.hands.begin_number c.p.inside.own c.args.c.now ∙ part c.p.inside.own)))

pub returns-clause-stands : goal.returns-clause-stands
returns-clause-stands g c = λ given stands valid. let m = g.P.Parts.means c.args.self.now.parts in let law = g.met.P.Parts.lawful c.args.self.now.parts in let t = c.p.invariant in
    subst₂ (λ wk o. m.stands (record { given = c.args.c.now ∷ given; mine = entries_in wk.mine }) o (asks None))
    (worker_is _ _ _ _ _ _ _ _ _ _ _ c.p.view_is t ∙ sym (ap (λ s. s.worker) (state_is c.p.inside.seat.table_id c.p.inside.number (g.P.Own.OwnPart.hand c.begin.new.own) c.begin.new.own c.p.inside.seat.me _ _ t.view)))
    (sym (c.begin.ensures ∙ ap (λ s. m.begin s.own c.args.c.now) c.p.view_is))
    (law.standing.begins (record { given = given; mine = entries_in c.args.p.now.worker.mine }) c.args.p.now.own c.args.c.now stands valid).1

pub returns-clause-left : goal.returns-clause-left
returns-clause-left g c = let m = g.P.Parts.means c.args.self.now.parts in let law = g.met.P.Parts.lawful c.args.self.now.parts in let r = c.requires in
    subst (λ o. m.left o (asks None) ≤ m.charge (m.number c.args.p.now.own) c.args.c.now) (sym (c.begin.ensures ∙ ap (λ s. m.begin s.own c.args.c.now) c.p.view_is))
    (law.standing.begins (record { given = r.0; mine = entries_in c.args.p.now.worker.mine }) c.args.p.now.own c.args.c.now r.1 r.2).2

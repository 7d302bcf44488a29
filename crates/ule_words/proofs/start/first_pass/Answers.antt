use Rattle.std.proofs.Common.{◌≤◌, ◌+◌, ◌∙◌, length, sym, refl, subst, arith}
use Rattle.std.proofs.lemmas.Option.{none-some}
use Rattle.ule_words.specs.Workers.{first_worker}
use Rattle.ule_words.proofs.start.first_pass.Goals as goal

pub invariant_of-result : goal.invariant_of-result
invariant_of-result g c = let m = g.P.Parts.means c.args.parts.now in let own = c.own_at_start.result in record {
  worker = first_worker m c.args.worker own;
  view = c.requires.knows own c.own_at_start.ensures;
  number = refl;
  part = sym (g.met.P.Parts.same_number c.args.parts.now own) ∙ (g.met.P.Parts.lawful c.args.parts.now).small.numbered c.args.worker own c.own_at_start.ensures;
  hand = g.met.P.Parts.same_hand c.args.parts.now own;
  allowance = sym c.budget-allowance.ensures;
  time = λ r e. absurd (none-some r e);
  held = refl;
  log = c.in_ok-log.ensures.0;
  room = subst (λ z. length z + c.budget-allowance.result ≤ c.in_ok-log.log.room) (sym c.in_ok-log.ensures.0) (let a = c.in_ok-log.ensures.1 in omega arith);
  order = λ e. refl;
  apart = λ x y e f. absurd (none-some x e);
  low = λ l v e. absurd (none-some v e);
}

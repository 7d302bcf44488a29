use Rattle.std.proofs.Common.{rules, ◌∙◌, ap, sym, subst, arith}
use Rattle.ule_words.specs.Tells.{IsWordOf}
use Rattle.ule_words.specs.Passes.{pass_state_of}
use Rattle.ule_words.proofs.Reading.{found_word, word_found, stands_held}
use Rattle.ule_words.proofs.WordSteps.{read_allows}
use Rattle.ule_words.proofs.Ties.{worker_is}
use Rattle.ule_words.proofs.locks.Locks.read_word.Goals as goal

pub load-found-requires : goal.load-found-requires
load-found-requires g c = (search rules, (let a = c.args.self.now.sized.0 in let b = c.t.invariant in omega arith), rw c.p.invariant.view (read_allows (g.P.Parts.means c.args.self.now.table.shared.key) _ _ _ _ c.t.inside.0 c.t.invariant))

pub word_in-requires : goal.word_in-requires
word_in-requires g c = found_word (g.P.Parts.means c.args.self.now.table.shared.key) _ _ c.t.inside.0 _ c.p.invariant.worker c.load-found.ensures.2 (ap (λ z. z.0) c.p.invariant.view)

pub invariant_of-p : goal.invariant_of-p
invariant_of-p g c = rw c.load-found.ensures.2.0 c.p.invariant

pub returns-clause-same : goal.returns-clause-same
returns-clause-same g c = (λ i. pass_state_of (c.load-found.ensures.0 i) c.p.inside.number (g.P.Own.OwnPart.hand c.p.inside.own) c.p.inside.own (c.load-found.ensures.2.0 i)) ∙ c.p.view_is

found : (g : _) (c : goal.After-word_in g) → IsWordOf (g.P.Parts.means c.args.self.now.parts) c.args.p.now.worker c.args.t c.word_in.result
found g c = subst (λ k. IsWordOf (g.P.Parts.means k) c.args.p.now.worker c.args.t c.word_in.result) c.args.self.now.same
    (subst (λ w. IsWordOf (g.P.Parts.means c.args.self.now.table.shared.key) w c.args.t c.word_in.result) (sym (worker_is _ _ _ _ _ _ _ _ _ _ _ c.p.view_is c.p.invariant))
    (subst (λ t. IsWordOf (g.P.Parts.means c.args.self.now.table.shared.key) c.p.invariant.worker t c.word_in.result) c.t.view_is
    (word_found (g.P.Parts.means c.args.self.now.table.shared.key) _ _ c.t.inside.0 _ c.p.invariant.worker c.word_in.result c.load-found.ensures.2 (ap (λ z. z.0) c.p.invariant.view) c.word_in.ensures)))

pub returns-clause-found : goal.returns-clause-found
returns-clause-found g c = found g c

pub returns-clause-stands : goal.returns-clause-stands
returns-clause-stands g c = λ l v dec quiet is has. stands_held (g.P.Parts.means c.args.self.now.parts) c.args.p.now.worker c.args.t l v c.word_in.result (found g c) dec quiet is has

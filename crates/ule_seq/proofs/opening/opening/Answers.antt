-- What each lock guards is its opening value.
use Rattle.std.proofs.Common.{◌≡◌, ℕ, ◌-◌, ◌∙◌, ap, subst, arith}
use Rattle.ule_laws.proofs.OpeningLaws.{empty_bare, opens_chain, opens_limbo, opens_nothing, opens_queue}
use Rattle.ule_model.specs.LockValue.{chain, limbo, nothing, queue}
use Rattle.ule_model.specs.OpeningValues.{bare_chain, opening_limbo, opening_queue, opening_value}
use Rattle.ule_seq.proofs.opening.opening.Goals as goal

pub returns-in_ok-opening_queue : goal.returns-in_ok-opening_queue
returns-in_ok-opening_queue c =
    let s = c.args.s.now in
    c.queue.ensures ∙ (ap queue c.in_ok-opening_queue.ensures ∙ subst (λ (l : ℕ). queue (opening_queue s c.l.inside.0) ≡ opening_value s l) c.l.view_is (opens_queue s c.l.inside.0 c.if-l-s.true))

pub returns-then-l-lt-FIRST_CHAIN_LOCK : goal.returns-then-l-lt-FIRST_CHAIN_LOCK
returns-then-l-lt-FIRST_CHAIN_LOCK c =
    let s = c.args.s.now in
    c.nothing.ensures ∙ subst (λ (l : ℕ). nothing ≡ opening_value s l) c.l.view_is (opens_nothing s c.l.inside.0 c.if-l-s.false c.if-l-lt-FIRST_CHAIN_LOCK.true)

pub returns-in_ok-start : goal.returns-in_ok-start
returns-in_ok-start c =
    let s = c.args.s.now in
    let bare = empty_bare (c.l.inside.0 - 16) c.in_ok-start.field-0 c.in_ok-start.ensures.keeps.slots c.in_ok-start.ensures.empty in
    let opens = opens_chain s c.l.inside.0 c.if-l-s.false c.if-l-lt-FIRST_CHAIN_LOCK.false c.if-l-lt-LIMBO_LOCK.true in
    c.chain.ensures ∙ (ap chain bare ∙ subst (λ (l : ℕ). chain (bare_chain (c.l.inside.0 - 16)) ≡ opening_value s l) c.l.view_is opens)

pub returns-in_ok-opening_limbo : goal.returns-in_ok-opening_limbo
returns-in_ok-opening_limbo c =
    let s = c.args.s.now in
    c.limbo.ensures ∙ (ap limbo c.in_ok-opening_limbo.ensures ∙ subst (λ (l : ℕ). limbo (opening_limbo s) ≡ opening_value s l) c.l.view_is (opens_limbo s c.l.inside.0 c.if-l-s.false c.if-l-lt-LIMBO_LOCK.false))

pub start-requires : goal.start-requires
start-requires c = omega (arith, c.if-l-lt-FIRST_CHAIN_LOCK.false, c.if-l-lt-LIMBO_LOCK.true)

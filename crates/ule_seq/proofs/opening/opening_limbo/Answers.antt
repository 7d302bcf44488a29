-- One unborn thread more is put into limbo, and is not there before it.
use Rattle.std.proofs.Common.{◌≡◌, ◌≤◌, ℕ, List, length, slice_get, Some, refl, sym, ◌∙◌, ap, subst}
use Rattle.std.specs.Prelude.{None}
use Rattle.std.proofs.lemmas.Option.{slice_get_read}
use Rattle.ule_score.specs.declared.place.Place.TheVariants.{Unborn}
use Rattle.ule_sleep.specs.Chain.{standing_in}
use Rattle.ule_sleep.specs.Limbo.{LimboValue, with_still}
use Rattle.ule_laws.proofs.OpeningLaws.{all_unborn, limbo_bare, limbo_further, limbo_opened_at, limbo_so_far}
use Rattle.ule_laws.proofs.StartLaws.{limbo_absent}
use Rattle.ule_model.specs.Start.{unborn_record}
use Rattle.ule_seq.proofs.opening.opening_limbo.Goals as goal

pub loop-t-init : goal.loop-t-init
loop-t-init c = limbo_bare c.in_ok-limbo.limbo c.in_ok-limbo.ensures.keeps.slots c.in_ok-limbo.ensures.empty

pub unborn-requires-clause-absent : goal.unborn-requires-clause-absent
unborn-requires-clause-absent c =
    let s = c.args.s.now in
    let k = c.loop-t.t-index in
    let t = c.t-item.result in
    let unborn = c.as_slice-unborn.result.now in
    let here : slice_get s.unborn k ≡ Some t =
    subst (λ (ts : List ℕ). slice_get ts k ≡ Some t) c.as_slice-unborn.ensures (slice_get_read unborn (length unborn) k t refl c.loop-t-test.true c.t-item.is) in
    rw c.unborn_record.ensures.record (subst (λ (v : LimboValue). standing_in v.slots t ≡ None) (sym c.loop-t.invariant) (limbo_absent s k t (limbo_so_far s k) here (limbo_opened_at s k t here)))

pub loop-t-preserved : goal.loop-t-preserved
loop-t-preserved c =
    let s = c.args.s.now in
    let k = c.loop-t.t-index in
    let t = c.t-item.result in
    let unborn = c.as_slice-unborn.result.now in
    let here : slice_get s.unborn k ≡ Some t =
    subst (λ (ts : List ℕ). slice_get ts k ≡ Some t) c.as_slice-unborn.ensures (slice_get_read unborn (length unborn) k t refl c.loop-t-test.true c.t-item.is) in
    rw (c.unborn.ensures.rest, c.unborn_record.ensures.record) (ap (λ (v : LimboValue). with_still (unborn_record t) Unborn v) c.loop-t.invariant ∙ sym (limbo_further s k t here))

pub returns : goal.returns
returns c =
    let all : length c.args.s.now.unborn ≤ c.loop-t.t-index = subst (λ (ts : List ℕ). length ts ≤ c.loop-t.t-index) c.as_slice-unborn.ensures c.loop-t-test.false in
    c.loop-t.invariant ∙ all_unborn c.args.s.now c.loop-t.t-index all

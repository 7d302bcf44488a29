-- One declared thread more is laid where it is on the CPU, and not before it.
use Rattle.std.proofs.Common.{◌≡◌, ◌≤◌, List, length, slice_get, Some, refl, sym, ◌∙◌, subst}
use Rattle.std.proofs.lemmas.Option.{slice_get_read}
use Rattle.ule_laws.proofs.OpeningLaws.{all_queued, queue_lays, queue_opened_at, queue_so_far, starts_bare}
use Rattle.ule_laws.proofs.StartLaws.{queue_absent}
use Rattle.ule_model.specs.CpuValue.{CpuValue, thread_in}
use Rattle.std.specs.Prelude.{None}
use Rattle.ule_types.specs.declared.setup.ThreadSpec.{ThreadSpec}
use Rattle.ule_seq.proofs.opening.opening_queue.Goals as goal

pub loop-spec-init : goal.loop-spec-init
loop-spec-init c = starts_bare c.args.s.now c.args.c c.balance_word.result c.in_ok-tdq.tdq c.balance_word.ensures c.in_ok-tdq.ensures.start

pub lay_own-requires-clause-absent : goal.lay_own-requires-clause-absent
lay_own-requires-clause-absent c =
    let s = c.args.s.now in
    let k = c.loop-spec.spec-index in
    let spec = c.spec-item.result in
    let specs = c.as_slice-specs.result.now in
    let here : slice_get s.threads k ≡ Some spec =
    subst (λ (xs : List ThreadSpec). slice_get xs k ≡ Some spec) c.as_slice-specs.ensures (slice_get_read specs (length specs) k spec refl c.loop-spec-test.true c.spec-item.is) in
    subst (λ (v : CpuValue). thread_in v spec.id ≡ None) (sym c.loop-spec.invariant) (queue_absent s k c.args.c spec (queue_so_far s c.args.c k) here (queue_opened_at s c.args.c c.requires k spec here))

pub loop-spec-preserved : goal.loop-spec-preserved
loop-spec-preserved c =
    let s = c.args.s.now in
    let k = c.loop-spec.spec-index in
    let spec = c.spec-item.result in
    let specs = c.as_slice-specs.result.now in
    let here : slice_get s.threads k ≡ Some spec =
    subst (λ (xs : List ThreadSpec). slice_get xs k ≡ Some spec) c.as_slice-specs.ensures (slice_get_read specs (length specs) k spec refl c.loop-spec-test.true c.spec-item.is) in
    queue_lays s c.args.c k spec here c.loop-spec.tdq c.lay_own.new.tdq c.loop-spec.invariant c.lay_own.ensures.own c.lay_own.ensures.elsewhere

pub returns : goal.returns
returns c =
    let all : length c.args.s.now.threads ≤ c.loop-spec.spec-index =
    subst (λ (xs : List ThreadSpec). length xs ≤ c.loop-spec.spec-index) c.as_slice-specs.ensures c.loop-spec-test.false in
    c.loop-spec.invariant ∙ all_queued c.args.s.now c.args.c c.loop-spec.spec-index all

use Rattle.std.proofs.Common.{◌≡◌, ap, sym, ◌∙◌}
use Rattle.ule_calendar.specs.Calendar.{Dial}
use Rattle.ule_prio.specs.declared.kind.Kind.{Kind}
use Rattle.ule_prio.specs.declared.kind.Kind.TheVariants.{Real, Batch, Idle}
use Rattle.ule_tdq.specs.Queues.{QueuesValue, times_in, times_queued}
use Rattle.ule_tdq.proofs.QueuesLaws.{times_out_real, times_out_batch, times_out_idle}
use Rattle.ule_tdq.proofs.queues.Queues.remove.Goals as goal

pub returns-in-Real-clause-times : goal.returns-in-Real-clause-times
returns-in-Real-clause-times c = λ u.
    let q : QueuesValue = record { real = c.self.inside.real; batch = c.self.inside.batch; idle = c.self.inside.idle } in
    let there : times_in Real q c.args.t ≡ 1 =
    ap (λ (x : QueuesValue). times_in Real x c.args.t) c.self.view_is
    ∙ ap (λ (k : Kind). times_in k c.args.self.now c.args.t) (sym c.in-Real.is) ∙ c.requires in
    times_out_real q _ c.args.t c.remove.ensures.rest there u ∙ ap (λ (x : QueuesValue). times_queued x u) c.self.view_is

pub returns-in-Batch-clause-times : goal.returns-in-Batch-clause-times
returns-in-Batch-clause-times c = λ u.
    let q : QueuesValue = record { real = c.self.inside.real; batch = c.self.inside.batch; idle = c.self.inside.idle } in
    let there : times_in Batch q c.args.t ≡ 1 =
    ap (λ (x : QueuesValue). times_in Batch x c.args.t) c.self.view_is
    ∙ ap (λ (k : Kind). times_in k c.args.self.now c.args.t) (sym c.in-Batch.is) ∙ c.requires in
    times_out_batch q c.remove-in-Batch.new.self c.args.t (ap (λ (d : Dial). d.lists) c.remove-in-Batch.ensures.rest) there u ∙ ap (λ (x : QueuesValue). times_queued x u) c.self.view_is

pub returns-in-Idle-clause-times : goal.returns-in-Idle-clause-times
returns-in-Idle-clause-times c = λ u.
    let q : QueuesValue = record { real = c.self.inside.real; batch = c.self.inside.batch; idle = c.self.inside.idle } in
    let there : times_in Idle q c.args.t ≡ 1 =
    ap (λ (x : QueuesValue). times_in Idle x c.args.t) c.self.view_is
    ∙ ap (λ (k : Kind). times_in k c.args.self.now c.args.t) (sym c.in-Idle.is) ∙ c.requires in
    times_out_idle q _ c.args.t c.remove-in-Idle.ensures.rest there u ∙ ap (λ (x : QueuesValue). times_queued x u) c.self.view_is

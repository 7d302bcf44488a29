-- One worker more has its seat, and at the end all have.
use Rattle.std.proofs.Common.{◌≡◌, ℕ, ◌+◌, List, length, slice_get, Some, sym, ◌∙◌, ap, subst, arith}
use Rattle.std.proofs.lemmas.List.{length_push}
use Rattle.ule_check.specs.Judge.{judge_at_start}
use Rattle.ule_check.specs.JudgeValue.{IsSeat}
use Rattle.ule_check.specs.declared.seat.Seat.{Seat}
use Rattle.ule_check.proofs.StartLaws.{script_fits, seat_opens, seats_more}
use Rattle.ule_check.proofs.judge.opening_seats.Goals as goal

pub start-requires-clause-fits : goal.start-requires-clause-fits
start-requires-clause-fits c = omega (arith, script_fits c.args.s.now c.loop-worker.worker)

pub loop-worker-preserved : goal.loop-worker-preserved
loop-worker-preserved c =
    let seat : Seat = c.start.result in
    let first : IsSeat c.args.s.now (judge_at_start c.args.s.now) (length c.loop-worker.seats.items) seat =
    subst (λ k. IsSeat c.args.s.now (judge_at_start c.args.s.now) k seat) (sym c.loop-worker.invariant.count)
    (seat_opens c.args.s.now c.loop-worker.worker seat c.loop-worker-test.true c.start.ensures.due c.start.ensures.own c.start.ensures.time) in
    record {
      count = ap length c.in-Ok.ensures.items ∙ length_push c.loop-worker.seats.items seat ∙ ap (λ n. n + 1) c.loop-worker.invariant.count;
      each = subst (λ (xs : List Seat). (worker : ℕ) (x : Seat) → slice_get xs worker ≡ Some x → IsSeat c.args.s.now (judge_at_start c.args.s.now) worker x) (sym c.in-Ok.ensures.items)
          (seats_more c.args.s.now c.loop-worker.seats.items seat c.loop-worker.invariant.each first);
    }

pub returns : goal.returns
returns c =
    let all : c.loop-worker.worker ≡ c.args.s.now.cpus = omega arith in
    record { count = c.loop-worker.invariant.count ∙ all; each = c.loop-worker.invariant.each }

-- One worker more has its course, and at the end all have.
use Rattle.std.proofs.Common.{◌≡◌, ℕ, ◌+◌, List, length, slice_get, Some, sym, ◌∙◌, ap, subst, arith}
use Rattle.std.proofs.lemmas.List.{length_push}
use Rattle.ule_seq.specs.Playing.{IsOpening}
use Rattle.ule_seq.specs.declared.course.Course.{Course}
use Rattle.ule_seq.proofs.PlayLaws.{opening_ahead, opening_more}
use Rattle.ule_seq.proofs.course.opening_courses.Goals as goal

pub loop-worker-preserved : goal.loop-worker-preserved
loop-worker-preserved c =
    let course : Course = c.start.result in
    let first : IsOpening c.args.s.now (length c.loop-worker.courses.items) course = subst (λ k. IsOpening c.args.s.now k course) (sym c.loop-worker.invariant.count) c.start.ensures in
    record {
      count = ap length c.in-Ok.ensures.items ∙ length_push c.loop-worker.courses.items course ∙ ap (λ n. n + 1) c.loop-worker.invariant.count;
      each = subst (λ (cs : List Course). (worker : ℕ) (d : Course) → slice_get cs worker ≡ Some d → IsOpening c.args.s.now worker d) (sym c.in-Ok.ensures.items)
          (opening_more c.args.s.now c.loop-worker.courses.items course c.loop-worker.invariant.each first);
    }

pub returns : goal.returns
returns c =
    let all : c.loop-worker.worker ≡ c.args.s.now.cpus = omega arith in
    opening_ahead c.args.s.now c.loop-worker.courses.items (c.loop-worker.invariant.count ∙ all) c.loop-worker.invariant.each

use Rattle.std.proofs.Common.{◌≡◌, ◌==◌, if◌then◌else◌, ◌<◌, ◌∙◌, sym, ap, arith, length, length-set, subst, List, Option}
use Rattle.std.specs.Prelude.{count_by}
use Rattle.ule_model.specs.CpuNumbers.{is_unbound, records_but}
use Rattle.ule_runq.specs.Set.{has}
use Rattle.ule_score.specs.declared.record.ThreadRecord.{ThreadRecord}
use Rattle.ule_tdq.specs.CpuThreads.{HasUnbound}
use Rattle.ule_tdq.proofs.MovableLaws.{unbound_at, unbound_at_within, movable_kept, recounted}
use Rattle.ule_tdq.proofs.threads.CpuThreads.put.Goals as goal

pub invariant_of-self : goal.invariant_of-self
invariant_of-self c =
    let old = c.self.invariant in
    let within : c.args.t < length c.self.inside.records = let slots = old.slots in omega arith in
    record {
      slots = ap (λ (xs : List (Option ThreadRecord)). length xs) c.put.ensures ∙ length-set c.self.inside.records c.args.t c.args.kept ∙ old.slots;
      movable =
          subst (λ (xs : List (Option ThreadRecord)). HasUnbound c.set_movable.new.set (records_but c.self.inside.current xs)) (sym c.put.ensures)
          (movable_kept c.self.inside.movable c.set_movable.new.set c.self.inside.current c.self.inside.records c.args.t c.args.kept within old.movable
          (λ u. c.set_movable.ensures u ∙ ap (λ d. if u == c.args.t then d else has c.self.inside.movable u) c.is_movable-movable.ensures));
      unbound =
          (let whole = ap (λ (xs : List (Option ThreadRecord)). count_by is_unbound xs) c.put.ensures in
          let more = recounted c.self.inside.records c.args.t c.args.kept within in
          let was : c.unbound_in.result ≡ unbound_at c.get.result = c.unbound_in.ensures in
          let had = ap unbound_at c.get.ensures in
          let part = unbound_at_within c.self.inside.records c.args.t within in
          let kept = c.unbound_in-2.ensures in
          let count = old.unbound in
          omega arith);
    }

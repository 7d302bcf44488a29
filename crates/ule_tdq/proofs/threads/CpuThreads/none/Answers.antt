use Rattle.std.proofs.Common.{sym, ◌∙◌, ap}
use Rattle.ule_model.specs.CpuNumbers.{is_unbound}
use Rattle.ule_tdq.proofs.MovableLaws.{none_unbound}
use Rattle.ule_tdq.proofs.threads.CpuThreads.none.Goals as goal

pub invariant_of-result : goal.invariant_of-result
invariant_of-result c =
    let records = c.in_ok-records.ensures in
    record {
      slots = records.slots;
      movable = λ t. c.none-2.ensures t ∙ sym (ap is_unbound (records.none t));
      unbound = sym (none_unbound c.in_ok-records.records records.none);
    }

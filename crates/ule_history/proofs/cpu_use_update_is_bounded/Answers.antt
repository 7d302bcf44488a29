use Rattle.ule_history.proofs.CpuUseUpdateLemmas.{IsBoundedUse-updated_use}
use Rattle.ule_history.proofs.cpu_use_update_is_bounded.Goals as goal

pub returns : goal.returns
returns c = IsBoundedUse-updated_use

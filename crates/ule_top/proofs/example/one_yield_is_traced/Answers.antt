use Rattle.ule_top.proofs.YieldRow.{one_yield_traced}
use Rattle.ule_top.proofs.example.one_yield_is_traced.Goals as goal

pub returns : goal.returns
returns c = one_yield_traced

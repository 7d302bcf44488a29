use Rattle.std.proofs.Common.{arith, refl, lit≤, lit<, sym, ◌∙◌}
use Rattle.ule_seq.proofs.records.record_of.Goals as goal

pub returns-clause-bounds : goal.returns-clause-bounds
returns-clause-bounds c = record {
  history = omega arith;
  usage = record { ordered = omega arith; within = omega arith };
  ltick = lit< tt;
  slept_at = lit< tt;
  last_run = lit< tt;
  slice_count = lit≤ tt;
  priority = refl;
  low = λ ts. c.base_of-base.ensures.low (sym c.class_of.ensures ∙ ts);
  high = λ ts. c.base_of-base.ensures.high (sym c.class_of.ensures ∙ ts);
}

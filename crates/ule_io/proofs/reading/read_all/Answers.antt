use Rattle.std.proofs.Common.{◌++◌, take, arith}
use Rattle.std.proofs.lemmas.Grind.{common_steps}
use Rattle.ule_io.proofs.reading.read_all.Goals as goal

-- the bytes taken so far and those of this read are what was taken
pub returns-then-is_err : goal.returns-then-is_err
returns-then-is_err g c =
    let took = c.in-Ok.ensures.ok in
    record {
      whole = tt;
      too_long = λ e. cc;
      more = λ left e. cc;
      memory = λ _. (
        c.loop-piece.bytes.items ++ take c.in-Ok.n c.read.new.buf,
        grind (arith, common_steps),
        grind (arith, common_steps),
      );
      failed = λ e. cc;
      fault_within = λ e. cc;
      else_kept = λ _. grind arith;
      no_end = λ fault e. grind arith;
      told = grind (arith, common_steps);
    }

use Rattle.std.proofs.Common.{◌++◌, take, arith}
use Rattle.std.proofs.lemmas.Grind.{common_steps}
use Rattle.ule_io.proofs.Written.{writes}
use Rattle.ule_io.proofs.writing.write_all.Goals as goal

pub loop-rest-preserved : goal.loop-rest-preserved
loop-rest-preserved g c =
    let rest = c.loop-rest.rest.now in
    let took = c.in-Ok.ensures.ok in
    record {
      front = c.loop-rest.invariant.front ++ take c.in-Ok.n rest;
      parts = grind (arith, common_steps);
      taken = grind (arith, writes);
      faults = grind arith;
      empty_takes = grind arith;
      flushes = grind arith;
      unflushed = λ some. grind (arith, common_steps);
      still_flushed = λ none. grind (arith, common_steps);
    }

pub returns : goal.returns
returns g c = grind (arith, writes)

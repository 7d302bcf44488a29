use Rattle.std.proofs.Common.{◌≡◌, ◌+◌, ◌<◌, length, arith, sym, ap, ◌∙◌}
use Rattle.std.proofs.lemmas.List.FromFn.{length-map-range_with_len, map-range_with_len_more}
use Rattle.ule_gen.specs.Made.{thread_of}
use Rattle.ule_gen.proofs.setup.threads.Goals as goal

pub append-requires : goal.append-requires
append-requires c =
    omega (arith, ap length c.loop-i.invariant, length-map-range_with_len thread_of 0 c.loop-i.i, c.loop-i-test.true)

pub loop-i-preserved : goal.loop-i-preserved
loop-i-preserved c =
    c.in_ok-append.ensures ∙ rw c.loop-i.invariant (sym (map-range_with_len_more thread_of 0 c.loop-i.i c.loop-i.i (omega arith)))

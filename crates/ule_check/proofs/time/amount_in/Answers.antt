-- The next command's time goes from what is left to what was added.
use Rattle.std.proofs.Common.{arith}
use Rattle.ule_seq.specs.Playing.{script_of}
use Rattle.ule_check.proofs.StartLaws.{amount_next}
use Rattle.ule_check.proofs.time.amount_in.Goals as goal

pub overflow_add-amount : goal.overflow_add-amount
overflow_add-amount c =
    omega (arith, c.loop-k.invariant, amount_next (script_of c.args.s.now c.args.worker) c.loop-k.k c.at.result.now c.at.ensures, c.amount_of-amount.ensures, c.requires.fits)

pub loop-k-preserved : goal.loop-k-preserved
loop-k-preserved c =
    omega (arith, c.loop-k.invariant, amount_next (script_of c.args.s.now c.args.worker) c.loop-k.k c.at.result.now c.at.ensures, c.amount_of-amount.ensures)

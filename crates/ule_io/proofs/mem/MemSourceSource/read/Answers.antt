use Rattle.ule_io.proofs.Played.{reads_on}
use Rattle.ule_io.proofs.mem.MemSourceSource.read.Goals as goal

pub returns-clause-ok : goal.returns-clause-ok
returns-clause-ok c =
    let s = c.self.inside in
    let left = c.split_at.ensures.back in
    let value = c.deref.ensures.value in
    rw (← c.self.view_is, c.in_ok-begin.ensures.ok, c.copy_from_slice.ensures.after, left, value, c.count_end-self-inside.ensures.value) (reads_on s.bytes.items c.args.buf.now s.next s.most c.min-n.result s.calls.faults s.ends c.self.invariant.1 (rw (← value, ← left, ← c.min.ensures) c.min-n.ensures))

use Rattle.std.proofs.Common.{◌≡◌, ◌+◌, ◌<◌, List, ℕ, ◌++◌, drop, take, subst, ◌∙◌, arith}
use Rattle.std.proofs.lemmas.Grind.{common_steps}
use Rattle.ule_scenario.specs.ReaderKept.{HasRead}
use Rattle.ule_scenario.proofs.Feedings.{gives_both, read_to_end, read_too_much, read_without_memory, taken_more}
use Rattle.ule_scenario.proofs.feed.feed_all.Goals as goal

pub returns-in-Ok-eq0 : goal.returns-in-Ok-eq0
returns-in-Ok-eq0 g c =
    let i = c.loop-n.invariant in
    let took = rw c.in-Ok-eq0.field-0-test at c.in-Ok-eq0.ensures.ok in
    (i.taken, read_to_end _ _ _ _ c.loop-n.left i.taken c.read.new.buf i.given i.faults i.ends i.within took (grind (arith, common_steps)), i.read)

pub returns-in_default : goal.returns-in_default
returns-in_default g c =
    let i = c.loop-n.invariant in
    let took = c.in-Ok.ensures.ok in
    read_without_memory _ _ _ _ c.loop-n.left c.in-Ok.n i.taken c.read.new.buf i.given i.faults i.ends i.within took (grind (arith, common_steps)) (grind (arith, common_steps))

pub returns-then-n-left : goal.returns-then-n-left
returns-then-n-left g c =
    let i = c.loop-n.invariant in
    let took = c.in-Ok.ensures.ok in
    read_too_much _ _ _ _ c.loop-n.left c.in-Ok.n i.taken c.read.new.buf i.given i.faults i.ends i.within took (grind (arith, common_steps))

pub loop-n-preserved : goal.loop-n-preserved
loop-n-preserved g c =
    let i = c.loop-n.invariant in
    let took = c.in-Ok.ensures.ok in
    let n = c.in-Ok.n in
    let buf = c.read.new.buf in
    let some : 0 < n = grind (arith, common_steps) in
    record {
      taken = i.taken ++ take n buf;
      given = gives_both _ _ _ i.taken (take n buf) i.given took.given;
      faults = took.faults ∙ i.faults;
      ends = took.else_open some ∙ i.ends;
      within = omega (arith, taken_more _ _ i.taken buf n took, c.if-n-left.false);
      room = grind (arith, common_steps);
      read = λ before has.
          let e : (before ++ i.taken) ++ take n (buf ++ drop (c.min-most.result + 1) c.loop-n.piece) ≡ before ++ (i.taken ++ take n buf) = grind (arith, common_steps) in
          subst (λ (l : List ℕ). HasRead c.feed.new.self l) e (c.in-Ok-feed.ensures.read (before ++ i.taken) (i.read before has));
    }

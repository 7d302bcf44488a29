use Rattle.std.proofs.Common.{◌≡◌, set, sym, ◌∙◌, refl, arith, add-one}
use Rattle.std.proofs.lemmas.List.{set_split}
use Rattle.ule_types.specs.Outcome.{with_cpu}
use Rattle.ule_types.proofs.outcome.Outcome.set_cpu.Goals as goal

pub returns-then-at-len : goal.returns-then-at-len
returns-then-at-len c =
    let at : c.args.c ≡ c.from-at.result = sym (c.from-at.ensures ∙ c.c.view_is) in
    let lines : set c.self.inside.cpus.items c.from-at.result c.args.l ≡ with_cpu c.from-at.result c.args.l c.self.inside.cpus.items =
    set_split c.self.inside.cpus.items c.from-at.result c.args.l (omega arith) ∙ rw add-one refl in
    rw (← c.self.view_is, at, ← lines) refl

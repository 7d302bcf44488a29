use Rattle.std.proofs.Common.{rules, ◌≤◌, ◌<◌, ◌+◌, ap, sym, subst, length, ◌∙◌, arith}
use Rattle.ule_micro.proofs.Lists.{one_there, there}
use Rattle.ule_words.specs.Ends.{numbered_noted}
use Rattle.ule_words.proofs.Merges.{there_first, told_on}
use Rattle.ule_words.proofs.Places.{or_get}
use Rattle.ule_words.proofs.merge.note_entries.Goals as goal

pub find-j-requires : goal.find-j-requires
find-j-requires g c = let r = c.requires.dealt in let k = c.loop-number.invariant.2 r.0 r.1 r.2 in
    there_first _ c.loop-number.number c.args.count k.0 c.loop-number.tapes.items k.1 k.2 c.loop-number-test.true

pub index_mut-requires : goal.index_mut-requires
index_mut-requires g c = let near = there c.loop-number.tapes.items c.find-j.result c.find-j.ensures.0 c.find-j.ensures.1 in search rules

pub note_first-requires-clause-some : goal.note_first-requires-clause-some
note_first-requires-clause-some g c = let t = c.find-j.ensures in
    let same = one_there c.loop-number.tapes.items c.find-j.result t.0 c.index_mut.result.now t.1 (or_get c.loop-number.tapes.items c.find-j.result c.index_mut.result.now (there c.loop-number.tapes.items c.find-j.result t.0 t.1) c.index_mut.ensures.value) in
    subst (λ z. 0 < length z) same (let e = ap length t.2.2 in omega arith)

pub loop-number-preserved : goal.loop-number-preserved
loop-number-preserved g c = let n = g.P.Parts.notes c.args.parts.now in let i = c.loop-number.invariant in let t = c.find-j.ensures in let told = c.note_first.ensures in
    let test = c.loop-number-test.true in
    let same = one_there c.loop-number.tapes.items c.find-j.result t.0 c.index_mut.result.now t.1 (or_get c.loop-number.tapes.items c.find-j.result c.index_mut.result.now (there c.loop-number.tapes.items c.find-j.result t.0 t.1) c.index_mut.ensures.value) in
    let room = (g.met.P.Parts.sound c.args.parts.now).room.entry c.loop-number.out told.0.entry.worker told.0.entry.now told.0.entry.event told.0.entry.reply (let a = i.1 in omega arith) in (
      omega arith,
      subst (λ z. c.args.count ≤ n.room z + (c.loop-number.number + 1)) (sym told.2) (let a = i.1 in omega arith),
      λ es dealt long. let k = i.2 es dealt long in
          let on = told_on _ c.loop-number.number c.args.count k.0 c.loop-number.tapes.items k.1 k.2 test c.find-j.result t.0 t.1 t.2 told.0 c.note_first.new.tape (same ∙ told.1) in
          (on.0, on.1, on.2, ap (numbered_noted n on.0) told.2 ∙ (ap (λ z. numbered_noted n z c.loop-number.out) (sym on.3) ∙ k.3)),
    )

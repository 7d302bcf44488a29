use Rattle.std.proofs.Common.{rules, ◌+◌, drop, ap, sym, subst, ◌∙◌, arith}
use Rattle.std.specs.Prelude.{slice_get}
use Rattle.std.proofs.lemmas.Option.{same_Some}
use Rattle.ule_micro.proofs.Lists.{drop_get}
use Rattle.ule_words.specs.Ends.{values_noted}
use Rattle.ule_words.proofs.Places.{at_get, from_some}
use Rattle.ule_words.proofs.close.note_values.Goals as goal

pub unreachable-requires : goal.unreachable-requires
unreachable-requires g c = let r = c.requires.values in let v = from_some r.0 c.loop-l.l c.take.result (ap (λ z. slice_get z c.loop-l.l) (sym (c.loop-l.invariant.3 ∙ r.1)) ∙ at_get _ c.loop-l.l c.take.result c.take.ensures.value) in
    c.in_default.not-Some v.0 v.2

pub loop-l-preserved : goal.loop-l-preserved
loop-l-preserved g c = let n = g.P.Parts.notes c.args.parts.now in let l = c.loop-l.l in let i = c.loop-l.invariant in (
  (let a = c.loop-l-test.true in omega arith),
  subst (λ z. n.ready z (l + 1)) (sym c.note_value.ensures) ((g.met.P.Parts.sound c.args.parts.now).order.next c.loop-l.out l c.in-Some.value i.1),
  λ vs is. let v = from_some vs l c.take.result (ap (λ z. slice_get z l) (sym (i.3 ∙ is)) ∙ at_get _ l c.take.result c.take.ensures.value) in
      let same = same_Some v.0 c.in-Some.value (sym v.2 ∙ c.in-Some.is) in
      ap (values_noted n (l + 1) (drop (l + 1) vs)) (c.note_value.ensures ∙ ap (n.value c.loop-l.out l) (sym same)) ∙ (ap (λ z. values_noted n l z c.loop-l.out) (sym (drop_get vs l v.0 v.1)) ∙ i.2 vs is),
  search rules,
  search rules,
  search rules,
  search rules,
  search rules,
)

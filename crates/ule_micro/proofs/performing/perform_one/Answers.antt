use Rattle.std.proofs.Common.{◌≡◌, [], ◌∷◌, refl, sym, subst, ◌∙◌, ap}
use Rattle.std.specs.Prelude.{Some, slice_index_or, slice_set}
use Rattle.ule_micro.specs.Performing.{HasEffect}
use Rattle.ule_micro.specs.declared.entry.HeldLocks.TheVariants.{One}
use Rattle.ule_micro.proofs.Lists.{index_get}
use Rattle.ule_micro.proofs.Effects.{performs_so, under_one}
use Rattle.ule_micro.proofs.performing.perform_one.Goals as goal

pub returns : goal.returns
returns g c = let v = c.index_mut-value.result.now in
    let u = under_one c.args.a c.args.values.now.items c.requires.1.0 c.requires.1.1 in
    let same : u.0 ≡ v = sym (c.index_mut-value.ensures.value ∙ (ap (λ i. slice_index_or c.args.values.now.items i v) c.a.view_is ∙ index_get c.args.values.now.items c.args.a v u.0 u.1)) in
    subst (λ i. HasEffect (g.P.Parts.means c.args.parts.now) c.args.own.now c.args.values.now.items c.args.e.now c.args.now (One c.args.a) c.step.new.own (slice_set c.args.values.now.items i c.step.new.value) c.step.result) (sym c.a.view_is)
    (performs_so (g.P.Parts.means c.args.parts.now) c.args.own.now c.step.new.own c.args.values.now.items (v ∷ []) c.args.e.now c.args.now (One c.args.a) (c.step.new.value ∷ []) _ c.step.result
    (c.requires.1.1 ∙ ap Some (u.2 ∙ ap (λ x. x ∷ []) same)) c.step.ensures.own c.step.ensures.value c.step.ensures.reply refl)

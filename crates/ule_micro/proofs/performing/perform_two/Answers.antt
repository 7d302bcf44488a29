use Rattle.std.proofs.Common.{◌≡◌, [], ◌∷◌, length, take, drop, sym, ◌∙◌, ap, ◌++◌}
use Rattle.std.specs.Prelude.{Some, slice_index_or, slice_set}
use Rattle.ule_micro.specs.declared.entry.HeldLocks.TheVariants.{Two}
use Rattle.ule_micro.proofs.Lists.{cut_writes, there}
use Rattle.ule_micro.proofs.Effects.{performs_so, under_two, two_read}
use Rattle.ule_micro.proofs.performing.perform_two.Goals as goal

pub returns : goal.returns
returns g c = let values = c.args.values.now.items in
    let k = c.split_at_mut-low.ensures in
    let u = under_two c.args.a c.args.b values c.requires.1.0 c.requires.1.1 in
    let low : c.split_at_mut-low.result.0.now ≡ take c.args.b values = k.front ∙ (λ i. take (c.b.view_is i) (c.deref_mut.ensures.value i)) in
    let high : c.split_at_mut-low.result.1.now ≡ drop c.args.b values = k.back ∙ (λ i. drop (c.b.view_is i) (c.deref_mut.ensures.value i)) in
    let low_x = c.split_at_mut-low.result.0.now in
    let high_y = c.split_at_mut-low.result.1.now in
    let x = slice_index_or low_x c.a.inside.0 c.index-low-a.result in
    let y = slice_index_or high_y 0 c.index-high-0.result in
    let read = two_read values c.split_at_mut-low.result.0.now c.split_at_mut-low.result.1.now c.args.a c.args.b u.0 u.1 c.index-low-a.result c.index-high-0.result c.requires.0 u.2 u.3 low high (c.index-low-a.is ∙ ap (λ i. slice_index_or c.split_at_mut-low.result.0.now i c.index-low-a.result) c.a.view_is) c.index-high-0.is in
    let len : c.args.values.now.len ≡ length values = c.args.values.now.ok.0 in
    performs_so (g.P.Parts.means c.args.parts.now) c.args.own.now c.step_pair.new.own values (x ∷ y ∷ []) c.args.e.now c.args.now (Two c.args.a c.args.b) (c.step_pair.new.first ∷ c.step_pair.new.second ∷ []) _ c.step_pair.result
    (c.requires.1.1 ∙ ap Some (u.4 ∙ (λ i. sym (sym c.index-low-a.is ∙ read.0) i ∷ sym (sym c.index-high-0.is ∙ read.1) i ∷ [])))
    c.step_pair.ensures.own c.step_pair.ensures.values c.step_pair.ensures.reply
    (ap (λ i. take c.args.values.now.len ((slice_set c.split_at_mut-low.result.0.now i c.step_pair.new.first ++ slice_set c.split_at_mut-low.result.1.now 0 c.step_pair.new.second) ++ drop (length (slice_set c.split_at_mut-low.result.0.now i c.step_pair.new.first ++ slice_set c.split_at_mut-low.result.1.now 0 c.step_pair.new.second)) values)) c.a.view_is
    ∙ cut_writes values c.split_at_mut-low.result.0.now c.split_at_mut-low.result.1.now _ c.args.values.now.len c.args.a c.args.b c.step_pair.new.first c.step_pair.new.second len c.requires.0 (there values c.args.b u.1 u.3) low high)

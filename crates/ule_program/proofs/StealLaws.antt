-- A steal, one group after another: from parent to parent.
use Rattle.std.proofs.Common.{◌≡◌, ℕ, Option, Some, None, refl, sym, ◌∙◌, ap}
use Rattle.ule_types.specs.declared.event.Event.TheVariants.{Move}
use Rattle.ule_types.specs.declared.event.MoveWhy.TheVariants.{Steal}
use Rattle.ule_topo.specs.Inside.{outward_from}
use Rattle.ule_topo.specs.Tree.{outward, parent_of}
use Rattle.ule_topo.proofs.InsideLaws.{outward_by_parents}
use Rattle.ule_search.specs.Search.{highest}
use Rattle.ule_program.specs.Hearing.{IsGroupOf, IsSeat}
use Rattle.ule_program.specs.Program.{Own, Steals, gives, searched, steals, steals_from, stops}

module _ (own : Own) (mask g at_least : ℕ) (seat : IsSeat own.worker own.topology) (group : IsGroupOf own.worker own.topology g) (same : at_least ≡ own.steal) where
  -- a steal in a group of the worker's, by the CPU that is found there and the group's parent
  steals_by : (found parent : Option ℕ) → found ≡ highest own.topology g own.looks mask at_least own.jitter → parent ≡ parent_of own.topology g →
      steals mask (outward own.topology own.worker g) own ≡
      steals_from mask g found (steals mask (outward_from own.topology own.worker parent)) (searched own)
  unfolding steals
  steals_by found parent is outer =
      ap (λ gs. steals mask gs own) (outward_by_parents own.topology own.worker g seat.tree group.there group.own) ∙
      ap (λ (o : Option ℕ). steals_from mask g o (steals mask (outward_from own.topology own.worker (parent_of own.topology g))) (searched own))
      (ap (λ n. highest own.topology g own.looks mask n own.jitter) (sym same) ∙ sym is) ∙
      ap (λ (o : Option ℕ). steals_from mask g found (steals mask (outward_from own.topology own.worker o)) (searched own)) (sym outer)

  -- the thread of the CPU that is found is moved
  pub steals_found : (v : ℕ) → Some v ≡ highest own.topology g own.looks mask at_least own.jitter →
      gives (Move v own.worker Steal) (Steals v g mask) (searched own) ≡ steals mask (outward own.topology own.worker g) own
  steals_found v is = sym (steals_by (Some v) (parent_of own.topology g) is refl)

  -- where none is found, the next group outward follows
  pub steals_outward : (p : ℕ) → None ≡ highest own.topology g own.looks mask at_least own.jitter → Some p ≡ parent_of own.topology g →
      steals mask (outward own.topology own.worker p) (searched own) ≡ steals mask (outward own.topology own.worker g) own
  steals_outward p is outer = sym (steals_by None (Some p) is outer)

  -- and after the root the end
  pub steals_nothing : None ≡ highest own.topology g own.looks mask at_least own.jitter → None ≡ parent_of own.topology g →
      stops (searched own) ≡ steals mask (outward own.topology own.worker g) own
  unfolding steals
  steals_nothing is outer = sym (steals_by None None is outer)

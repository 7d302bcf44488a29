-- Before the first lock the place is looked for among all of them.
use Rattle.std.proofs.Common.{List, sym, ◌∙◌, ap}
use Rattle.std.specs.List.{position_from}
use Rattle.ule_model.specs.LockValue.{LockValue, has_under}
use Rattle.ule_model.specs.WorldValue.{WorldValue, lock_with}
use Rattle.ule_seq.proofs.FirstLock.{front_place}
use Rattle.ule_seq.proofs.world.World.lock_with.Goals as goal

pub loop-lock-init : goal.loop-lock-init
loop-lock-init c =
    ap (λ (v : WorldValue). lock_with c.args.t v.values) (sym c.self.view_is) ∙
    front_place (λ value. has_under value c.args.t) c.self.inside.values.items ∙
    ap (λ (gs : List LockValue). position_from (λ g. has_under g c.args.t) 0 gs) (sym c.deref-guarded-items.ensures.value)

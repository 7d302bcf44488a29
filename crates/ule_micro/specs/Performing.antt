-- What the code that performs an event does to a worker's own part and to the values under the locks.
use Rattle.std.specs.Prelude.{◌≡◌, ℕ, List, Some}
use Rattle.ule_micro.specs.declared.entry.HeldLocks.{HeldLocks}
use Rattle.ule_micro.specs.declared.seat.Seat.{Seat}
use Rattle.ule_micro.specs.Means.{Means}
use Rattle.ule_micro.specs.Standings.{Acted}
use Rattle.ule_micro.specs.Histories.{effect_under, values_under}
use Rattle.ule_micro.specs.Laws.{AreInRisingOrder}
use Rattle.ule_micro.specs.Turns.{seat_leaving}

module _ {H O G E R C : Type 0} (m : Means H O G E R C) where
  -- can perform: there are values under the locks, on which the event may be performed
  abbrev pub CanPerform : O → List G → E → ℕ → HeldLocks → Type 0
  CanPerform own values e now held = AreInRisingOrder held × ((guarded : List G) × (values_under held values ≡ Some guarded) × m.may (m.number own) e now (m.hand own) guarded)

  -- has effect: the event has its effect on the hand and the values, and this reply
  abbrev pub HasEffect : O → List G → E → ℕ → HeldLocks → O → List G → R → Type 0
  HasEffect own values e now held own' values' reply = (after : Acted H G R) × (effect_under m (m.number own) e now (m.hand own) held values ≡ Some after)
      × (own' ≡ m.with_hand own after.hand) × (values' ≡ after.values) × (reply ≡ after.reply)

  -- acts: the event has its effect on the values, and on the worker's hand, its pending change and where it stands
  abbrev pub Acts : Seat O E R → List G → E → ℕ → HeldLocks → Seat O E R → List G → R → Type 0
  Acts p values e now held p' values' reply = (after : Acted H G R) × (effect_under m (m.number p.own) e now (m.hand p.own) held values ≡ Some after)
      × (p' ≡ seat_leaving m p e held now after) × (values' ≡ after.values) × (reply ≡ after.reply)

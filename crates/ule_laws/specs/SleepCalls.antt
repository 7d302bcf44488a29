-- What each call of a sleep chain and of limbo makes of a value stands for what its event makes of every world whose
-- threads under that lock the value had.
use Rattle.std.specs.Prelude.{◌≡◌, ℕ, ◌%◌, pos, Some}
use Rattle.ule_score.specs.Changes.{after_change, woken}
use Rattle.ule_score.specs.declared.place.Place.{Place}
use Rattle.ule_score.specs.declared.place.Place.TheVariants.{Asleep, Unborn, Gone, Hand}
use Rattle.ule_score.specs.declared.record.Change.{Change}
use Rattle.ule_score.specs.declared.record.Settings.{Settings}
use Rattle.ule_sleep.specs.Chain.{ChainValue, with_sleeper, with_sleeper_changed, without_sleeper}
use Rattle.ule_sleep.specs.Limbo.{LimboValue, with_still, with_still_changed, without_still}
use Rattle.ule_model.specs.Places.{lock_of}
use Rattle.ule_model.specs.WellMade.{IsWellMade}
use Rattle.ule_model.specs.World.{Member, World, moved_to, thread_of, with_change, with_record}
use Rattle.ule_model.specs.WorldValue.{IsChainOf, IsLimboOf}

-- thread t of a world whose threads are well made
pub record IsThreadOf (w : World) (t : ℕ) (m : Member) : Type 0 where
  pub made : IsWellMade w.members
  pub found : thread_of t w.members ≡ Some m

-- the world with thread t's record after a change that can move a priority, at the place that it has
abbrev pub with_thread_changed : Settings → Change → ℕ → World → World
with_thread_changed settings change t w = record w { members = with_record t (after_change settings change) w.members }

-- the world with thread t at another place, in no queue
abbrev pub with_thread_at : Place → ℕ → World → World
with_thread_at place t w = record w { members = moved_to t place (pos 0) w.members }

-- the world with thread t in this worker's hand, its record changed as a woken one's
abbrev pub with_thread_woken : Settings → ℕ → ℕ → ℕ → World → World
with_thread_woken settings now worker t w = record w { members = moved_to t (Hand worker) (pos 0) (with_change settings now t woken w.members) }

-- the calls of a chain: a thread falls asleep on a channel of it, a thread is woken, and the record of a thread that
-- sleeps on it changes
pub record ChainCallsStand : Type 0 where
  pub bed :
      (w : World) (l t channel : ℕ) (m : Member) (v : ChainValue) → IsThreadOf w t m → IsChainOf w l v → channel % 8 ≡ v.number →
      IsChainOf (with_thread_at (Asleep channel) t w) l (with_sleeper m.thread channel v)
  pub take_out :
      (w : World) (l t worker now : ℕ) (settings : Settings) (m : Member) (v : ChainValue) → IsThreadOf w t m → IsChainOf w l v →
      IsChainOf (with_thread_woken settings now worker m.thread.id w) l (without_sleeper t v)
  pub change :
      (w : World) (l t : ℕ) (settings : Settings) (change : Change) (m : Member) (v : ChainValue) → IsThreadOf w t m → IsChainOf w l v →
      lock_of m.place ≡ Some l → IsChainOf (with_thread_changed settings change t w) l (with_sleeper_changed settings change t v)

-- the calls of limbo: a thread is unborn again, a thread is buried, an unborn thread is hatched, and the record of a
-- thread that is there changes
pub record LimboCallsStand : Type 0 where
  pub unborn :
      (w : World) (l t : ℕ) (m : Member) (v : LimboValue) → IsThreadOf w t m → IsLimboOf w l v →
      IsLimboOf (with_thread_at Unborn t w) l (with_still m.thread Unborn v)
  pub bury :
      (w : World) (l t : ℕ) (m : Member) (v : LimboValue) → IsThreadOf w t m → IsLimboOf w l v →
      IsLimboOf (with_thread_at Gone t w) l (with_still m.thread Gone v)
  pub hatch :
      (w : World) (l t worker : ℕ) (m : Member) (v : LimboValue) → IsThreadOf w t m → IsLimboOf w l v →
      IsLimboOf (with_thread_at (Hand worker) t w) l (without_still t v)
  pub change :
      (w : World) (l t : ℕ) (settings : Settings) (change : Change) (m : Member) (v : LimboValue) → IsThreadOf w t m → IsLimboOf w l v →
      lock_of m.place ≡ Some l → IsLimboOf (with_thread_changed settings change t w) l (with_still_changed settings change t v)

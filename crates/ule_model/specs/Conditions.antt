-- What a step needs of a world.
use Rattle.std.specs.Prelude.{◌≡◌, ◌≢◌, ℕ, ◌<◌, ◌≤◌, ◌^◌, true, length, IfSome, IsSome, IsTrue, Some}
use Rattle.std.specs.List.{AllByRecursion}
use Rattle.ule_score.specs.Changes.{IsBy}
use Rattle.ule_types.specs.declared.event.Event.{Event}
pub use Rattle.ule_types.specs.Needs.{HasSoundNumbers}
use Rattle.ule_model.specs.Events.{Handling, any, empty, handling, has, holder_of, is_reached, is_ready, is_unborn_thread, names_cpus, sought_by, unborn}
use Rattle.ule_model.specs.Start.{starting_time}
use Rattle.ule_model.specs.World.{Member, World, thread_of}

-- no thread is in worker w's hand
abbrev pub HasEmptyHand : World → ℕ → Type 0
HasEmptyHand w worker = (t : ℕ) → holder_of w.members t ≢ Some worker

-- the worker's hand is as an event needs it
abbrev pub IsHandled : World → ℕ → Handling → Type 0
IsHandled w worker any = Unit {0}
IsHandled w worker empty = HasEmptyHand w worker
IsHandled w worker (unborn t) = HasEmptyHand w worker × (is_unborn_thread (thread_of t w.members) ≡ true)
IsHandled w worker (has t) = holder_of w.members t ≡ Some worker

-- a thread within an event's reach, of which nothing is noted after this time
abbrev pub IsByIfReached : World → ℕ → Event → ℕ → Member → Type 0
IsByIfReached w worker e now m = is_reached w worker e m.place ≡ true → IsBy now m.thread

-- an event that a worker can perform in this world at this time
pub record IsPossible (w : World) (worker : ℕ) (e : Event) (now : ℕ) : Type 0 where
  pub worker_is : worker < length w.lines
  pub cpus : IsTrue (names_cpus (length w.lines) e)
  pub declared : IfSome (sought_by e) (λ t. IsSome (thread_of t w.members))
  pub ready : is_ready w worker e ≡ true
  pub hand : IsHandled w worker (handling e)
  pub numbers : HasSoundNumbers e
  pub begun : starting_time ≤ now
  pub bounded : now < 2 ^ 36
  pub in_time : AllByRecursion (IsByIfReached w worker e now) w.members

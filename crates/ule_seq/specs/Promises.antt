-- What each step of the scheduler keeps, beside what it does: a refusal leaves all as it was, records stay in their bounds, and
-- the calendars keep their promise.
use Rattle.std.specs.Prelude.{◌≡◌, ℕ, ◌+◌, ◌<◌, Bool, true, false}
use Rattle.ule_types.specs.declared.event.Entry.{Entry}
use Rattle.ule_types.specs.declared.event.Event.{Event}
use Rattle.ule_types.specs.declared.event.Event.TheVariants.{Switch}
use Rattle.ule_types.specs.declared.event.Reply.{Reply}
use Rattle.ule_types.specs.declared.event.Reply.TheVariants.{Unmarked, Nothing, NotAsleep, NoneMovable, NotAllowed, ParentGone}
use Rattle.ule_model.specs.CalendarIndexes.{distance_of}
use Rattle.ule_model.specs.CalendarPromise.{AllHaveCloseIndexes, ChoosesNoFarther, IsInBucket, KeepsCalendars, numbers_on, takes_up}
use Rattle.ule_model.specs.Conditions.{IsPossible}
use Rattle.ule_model.specs.History.{KeepsRecords}
use Rattle.ule_model.specs.Legal.{after_entry}
use Rattle.ule_model.specs.World.{World}
use Rattle.ule_model.specs.WorldValue.{Shows, WorldValue}

-- ---- refusals

-- whether nothing is a refusal: a switch takes the marks away all the same
abbrev pub is_vain : Event → Bool
is_vain (Switch c why) = false
is_vain _ = true

-- whether an event's reply tells that it is refused
abbrev pub is_refusal : Event → Reply → Bool
is_refusal e Unmarked = true
is_refusal e Nothing = is_vain e
is_refusal e (NotAsleep place) = true
is_refusal e (NoneMovable load movable other) = true
is_refusal e (NotAllowed place) = true
is_refusal e ParentGone = true
is_refusal e _ = false

-- ---- the calendars

-- the calendars of a world are in order: the insertion indexes are those of buckets, and both indexes are close
pub record HasCalendars (w : World) : Type 0 where
  pub buckets : (c : ℕ) → (numbers_on c w).idx < 64
  pub close : AllHaveCloseIndexes w

-- a thread that stays in bucket b of CPU c's calendar, and isn't taken up, comes nearer by as many buckets as the removal index goes on
abbrev pub ComesNearerBy : ℕ → World → Entry → Type 0
ComesNearerBy c w e =
    (t b : ℕ) → IsInBucket c b t w.members → IsInBucket c b t (after_entry w e).members → takes_up t e ≡ false →
    distance_of (numbers_on c (after_entry w e)).ridx b + distance_of (numbers_on c w).ridx (numbers_on c (after_entry w e)).ridx ≡ distance_of (numbers_on c w).ridx b

-- what an entry keeps of calendars that are in order: they stay so, each index goes on by one bucket at most, what joins the
-- bucket at the removal index while the indexes differ was requeued or preempted, and the thread that is chosen is nearest
pub record KeepsCalendarPromise (w : World) (e : Entry) : Type 0 where
  pub in_order : HasCalendars (after_entry w e)
  pub indexes : KeepsCalendars w e
  pub nearer : (c : ℕ) → ComesNearerBy c w e
  pub nearest : (c b t : ℕ) → IsInBucket c b t w.members → ChoosesNoFarther c b w e

-- ---- the step

-- what a step keeps, by its entry, of each world that the scheduler shows
pub record KeepsPromises (old : WorldValue) (e : Entry) : Type 0 where
  pub records : (w : World) → Shows old w → IsPossible w e.worker e.event e.now → KeepsRecords w → KeepsRecords (after_entry w e)
  pub calendars : (w : World) → Shows old w → IsPossible w e.worker e.event e.now → HasCalendars w → KeepsCalendarPromise w e

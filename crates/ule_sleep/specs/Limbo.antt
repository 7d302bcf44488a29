-- Limbo as a value: the threads that are unborn or gone, by number.
use Rattle.std.specs.Prelude.{◌≡◌, ℕ, List, length, slice_set, Option, Some, None, IfSome, ◌⊎◌}
use Rattle.std.specs.Option.{option_map}
use Rattle.ule_score.specs.Bounds.{KeepsBounds}
use Rattle.ule_score.specs.declared.place.Place.{Place}
use Rattle.ule_score.specs.declared.place.Place.TheVariants.{Unborn, Gone}
use Rattle.ule_score.specs.declared.record.Change.{Change}
use Rattle.ule_score.specs.declared.record.Settings.{Settings}
use Rattle.ule_score.specs.declared.record.ThreadRecord.{ThreadRecord}
use Rattle.ule_threads.specs.declared.standing.Standing.{Standing}
use Rattle.ule_sleep.specs.Chain.{standing_changed, standing_in, with_standing, without_standing}

pub record LimboValue : Type 0 where
  pub slots : List (Option Standing)

-- limbo with this thread at a place
abbrev pub with_still : ThreadRecord → Place → LimboValue → LimboValue
with_still r place v = record v { slots = with_standing r place v.slots }

-- limbo without thread t
abbrev pub without_still : ℕ → LimboValue → LimboValue
without_still t v = record v { slots = without_standing t v.slots }

-- limbo with the record of its thread t after a change that can move a priority
abbrev pub with_still_changed : Settings → Change → ℕ → LimboValue → LimboValue
with_still_changed settings change t v =
    record v { slots = slice_set v.slots t (option_map (standing_changed settings change) (standing_in v.slots t)) }

-- thread t unborn or gone
pub record IsStillOf (t : ℕ) (s : Standing) : Type 0 where
  pub id : s.thread.id ≡ t
  pub place : (s.place ≡ Unborn) ⊎ (s.place ≡ Gone)
  pub bounds : KeepsBounds s.thread

-- what limbo keeps
pub record KeepsLimbo (v : LimboValue) : Type 0 where
  pub slots : length v.slots ≡ 256
  pub stills : (t : ℕ) → IfSome (standing_in v.slots t) (IsStillOf t)

-- limbo without threads
abbrev pub IsEmptyLimbo : LimboValue → Type 0
IsEmptyLimbo v = (t : ℕ) → standing_in v.slots t ≡ None

-- thread t is there and unborn
abbrev pub HasUnborn : LimboValue → ℕ → Type 0
HasUnborn v t = (r : ThreadRecord) × (standing_in v.slots t ≡ Some (record { thread = r; place = Unborn }))

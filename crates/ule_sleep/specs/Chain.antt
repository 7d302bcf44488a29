-- A sleep chain as a value: its number, and the threads that sleep on its channels, by number.
use Rattle.std.specs.Prelude.{◌≡◌, ℕ, ◌%◌, ◌<◌, Bool, List, length, slice_index_or, slice_set, Option, Some, None, IfSome}
use Rattle.std.specs.Option.{option_map}
use Rattle.ule_score.specs.Bounds.{KeepsBounds}
use Rattle.ule_score.specs.Changes.{after_change}
use Rattle.ule_score.specs.declared.record.Change.{Change}
use Rattle.ule_score.specs.declared.record.Changed.{Changed}
use Rattle.ule_score.specs.declared.record.Settings.{Settings}
use Rattle.ule_score.specs.declared.place.Place.{Place}
use Rattle.ule_score.specs.declared.place.Place.TheVariants.{Asleep}
use Rattle.ule_score.specs.declared.record.ThreadRecord.{ThreadRecord}
use Rattle.ule_threads.specs.declared.standing.Standing.{Standing}

-- ---- threads with places, by number

-- thread t with its place, if it is among these
abbrev pub standing_in : List (Option Standing) → ℕ → Option Standing
standing_in slots t = slice_index_or slots t None

-- these with a thread at a place
abbrev pub with_standing : ThreadRecord → Place → List (Option Standing) → List (Option Standing)
with_standing r place slots = slice_set slots r.id (Some (record { thread = r; place = place }))

-- these without thread t
abbrev pub without_standing : ℕ → List (Option Standing) → List (Option Standing)
without_standing t slots = slice_set slots t None

-- the record of a thread with its place, and the place
abbrev pub thread_standing : Option Standing → Option ThreadRecord
thread_standing found = option_map (λ s. s.thread) found

abbrev pub place_standing : Option Standing → Option Place
place_standing found = option_map (λ s. s.place) found

-- ---- a chain

pub record ChainValue : Type 0 where
  pub number : ℕ
  pub slots : List (Option Standing)

-- the chain with this thread asleep on a channel
abbrev pub with_sleeper : ThreadRecord → ℕ → ChainValue → ChainValue
with_sleeper r channel v = record v { slots = with_standing r (Asleep channel) v.slots }

-- the chain without thread t
abbrev pub without_sleeper : ℕ → ChainValue → ChainValue
without_sleeper t v = record v { slots = without_standing t v.slots }

-- a thread with its place, its record after a change that can move a priority
abbrev pub standing_changed : Settings → Change → Standing → Standing
standing_changed settings change s = record s { thread = after_change settings change s.thread }

-- the chain with the record of its sleeper t after a change that can move a priority
abbrev pub with_sleeper_changed : Settings → Change → ℕ → ChainValue → ChainValue
with_sleeper_changed settings change t v =
    record v { slots = slice_set v.slots t (option_map (standing_changed settings change) (standing_in v.slots t)) }

-- what a change of a thread's record comes to where the thread keeps its place
abbrev pub changed_in_place : ThreadRecord → Changed
changed_in_place r = record { priority = r.priority; requeued = Bool.false; marked = Bool.false }

-- thread t asleep on a channel of the chain of this number
pub record IsSleeperOf (number t : ℕ) (s : Standing) : Type 0 where
  pub id : s.thread.id ≡ t
  pub channel : ℕ
  pub place : s.place ≡ Asleep channel
  pub chain : channel % 8 ≡ number
  pub bounds : KeepsBounds s.thread

-- what every chain keeps
pub record KeepsChain (v : ChainValue) : Type 0 where
  pub number : v.number < 8
  pub slots : length v.slots ≡ 256
  pub sleepers : (t : ℕ) → IfSome (standing_in v.slots t) (IsSleeperOf v.number t)

-- a chain of this number without sleepers
pub record IsEmptyChain (v : ChainValue) (number : ℕ) : Type 0 where
  pub number_is : v.number ≡ number
  pub none : (t : ℕ) → standing_in v.slots t ≡ None

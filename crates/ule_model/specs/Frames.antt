-- What a step may touch, and what it leaves: said once for all events.
use Rattle.std.specs.Prelude.{◌≡◌, ◌<◌, ℕ, true, false, ◌&&◌, List, [], ◌∷◌, find, length, slice_index_or, Option, Some, None, if◌then◌else◌}
use Rattle.std.specs.Option.{option_map}
use Rattle.ule_score.specs.Changes.{HasNumbers, IsBy, IsSoundChange, RecordChange, changed, forked, forks, placed, ran, record_after, runs, sleeps, ticked, woken}
use Rattle.ule_score.specs.declared.record.ThreadRecord.{ThreadRecord}
use Rattle.ule_types.specs.Commands.{is_among}
use Rattle.ule_types.specs.declared.event.Event.{Event}
use Rattle.ule_model.specs.Conditions.{IsPossible}
use Rattle.ule_model.specs.Events.{is_reached, locks_of}
use Rattle.ule_model.specs.Places.{is_hand_of, is_under, lock_of}
use Rattle.ule_model.specs.Step.{step}
use Rattle.ule_model.specs.WellMade.{IsWellMadeWorld}
use Rattle.ule_model.specs.Words.{WordChange, block, change_of, point}
use Rattle.ule_model.specs.World.{Member, World, fresh_line, is_numbered, thread_of}

-- ---- look-ups

-- thread t, if its place lies under lock l
abbrev pub thread_under : ℕ → ℕ → List Member → Option Member
thread_under l t ms = find (λ m. is_numbered t m && is_under l m.place) ms

-- thread t, if it is in worker h's hand
abbrev pub thread_in_hand : ℕ → ℕ → List Member → Option Member
thread_in_hand h t ms = find (λ m. is_numbered t m && is_hand_of h m.place) ms

-- ---- the records

-- a thread of the world with this record, whose numbers are in range and of which nothing is noted after this time
pub record IsParent (w : World) (now : ℕ) (parent : ThreadRecord) : Type 0 where
  pub found : option_map (λ m. m.thread) (thread_of parent.id w.members) ≡ Some parent
  pub numbers : HasNumbers parent
  pub by_now : IsBy now parent

-- a change that a step of a world may make: its own numbers are in range, the CPU that it names is there, and a child is that of a
-- thread of the world
abbrev pub IsSoundIn : World → ℕ → RecordChange → Type 0
IsSoundIn w now ran = Unit {0}
IsSoundIn w now runs = Unit {0}
IsSoundIn w now sleeps = Unit {0}
IsSoundIn w now woken = Unit {0}
IsSoundIn w now (ticked load) = Unit {0}
IsSoundIn w now (placed c) = c < length w.lines
IsSoundIn w now (changed change) = IsSoundChange now (changed change)
IsSoundIn w now forks = Unit {0}
IsSoundIn w now (forked parent c load) = IsParent w now parent × (c < length w.lines)

-- a record after any number of changes that a step of a world may make at one time
pub data ComesTo (w : World) (now : ℕ) : ThreadRecord → ThreadRecord → Type 0 where
  as_it_was : (r : ThreadRecord) → ComesTo w now r r
  by_change : (change : RecordChange) (r n : ThreadRecord) → IsSoundIn w now change →
      ComesTo w now (record_after w.settings now change r) n → ComesTo w now r n

-- ---- the threads

-- a thread before and after a step: the step leaves it, or it was and is within the event's reach and
-- its record went through changes at that time
pub data IsTouched (w : World) (worker : ℕ) (e : Event) (now : ℕ) (m n : Member) : Type 0 where
  left : m ≡ n → IsTouched w worker e now m n
  reached : is_reached w worker e m.place ≡ true → is_reached w worker e n.place ≡ true →
      ComesTo w now m.thread n.thread → IsTouched w worker e now m n

-- so each thread of two lists, one after another
abbrev pub AreTouched : World → ℕ → Event → ℕ → List Member → List Member → Type 0
AreTouched w worker e now [] [] = Unit {0}
AreTouched w worker e now [] (n ∷ ns) = ⊥
AreTouched w worker e now (m ∷ ms) [] = ⊥
AreTouched w worker e now (m ∷ ms) (n ∷ ns) = IsTouched w worker e now m n × AreTouched w worker e now ms ns

-- the lock that a thread's word names after this change, where it named the lock of the thread's place
abbrev pub word_after : Option WordChange → Member → Option ℕ
word_after None m = lock_of m.place
word_after (Some (block t)) m = if is_numbered t m then None else lock_of m.place
word_after (Some (point t l)) m = if is_numbered t m then Some l else lock_of m.place

-- each thread's lock afterwards is the one that its word names then
abbrev pub HaveWords : Option WordChange → List Member → List Member → Type 0
HaveWords change [] [] = Unit {0}
HaveWords change [] (n ∷ ns) = ⊥
HaveWords change (m ∷ ms) [] = ⊥
HaveWords change (m ∷ ms) (n ∷ ns) = (lock_of n.place ≡ word_after change m) × HaveWords change ms ns

-- ---- the numbers of CPUs

-- what a step leaves beside the threads: the settings, how many CPUs there are, the numbers of each CPU
-- whose queue lock the event doesn't take, and the balance word where it doesn't take that of CPU 0
pub record LeavesRest (w : World) (e : Event) (n : World) : Type 0 where
  pub settings : n.settings ≡ w.settings
  pub count : length n.lines ≡ length w.lines
  pub lines : (c : ℕ) → is_among (locks_of w e) c ≡ false → slice_index_or n.lines c fresh_line ≡ slice_index_or w.lines c fresh_line
  pub balance_word : is_among (locks_of w e) 0 ≡ false → n.balance_word ≡ w.balance_word

-- ---- the laws

-- a step touches what is within the event's reach alone
abbrev pub StepTouches : Type 0
StepTouches =
    (w : World) (worker : ℕ) (e : Event) (now : ℕ) → IsWellMadeWorld w → IsPossible w worker e now →
    AreTouched w worker e now w.members (step w worker e now).0.members

-- the one thread whose lock changes is the one whose word the event and its reply change
abbrev pub StepMovesWord : Type 0
StepMovesWord =
    (w : World) (worker : ℕ) (e : Event) (now : ℕ) → IsWellMadeWorld w → IsPossible w worker e now →
    HaveWords (change_of e (step w worker e now).1) w.members (step w worker e now).0.members

-- a step leaves what its locks don't guard
abbrev pub StepLeavesRest : Type 0
StepLeavesRest = (w : World) (worker : ℕ) (e : Event) (now : ℕ) → LeavesRest w e (step w worker e now).0

-- a world stays well made
abbrev pub StepIsMade : Type 0
StepIsMade =
    (w : World) (worker : ℕ) (e : Event) (now : ℕ) → IsWellMadeWorld w → IsPossible w worker e now →
    IsWellMadeWorld (step w worker e now).0

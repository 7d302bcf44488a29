-- What a call of a CPU makes of every side of a world that the CPU's value stands for: what the definition of the
-- call's event makes of that side.
use Rattle.std.specs.Prelude.{◌≡◌, ℕ, ℤ, Bool, false, not, ◌==◌, [], Option, Some, None}
use Rattle.std.specs.Option.{option_map}
use Rattle.ule_model.specs.CpuChange.{forked_reply}
use Rattle.ule_model.specs.CpuStart.{line_at_start, word_at_start}
use Rattle.ule_model.specs.CpuValue.{CpuValue, StandsFor, thread_on}
use Rattle.ule_model.specs.Finals.{final_line}
use Rattle.ule_model.specs.CpuActions.{landed}
use Rattle.ule_model.specs.Places.{is_on}
use Rattle.ule_model.specs.CpuActions.{carried_off, forked_on, priority_changed}
use Rattle.ule_model.specs.CpuActions.{departed}
use Rattle.ule_model.specs.Start.{laid_on}
use Rattle.ule_model.specs.Steal.{given_by}
use Rattle.ule_model.specs.WellMade.{IsWellMade}
use Rattle.ule_model.specs.World.{Member, Side, current_of, thread_of}
use Rattle.ule_score.specs.Changes.{HasNumbers, IsSoundChange, changed}
use Rattle.ule_score.specs.declared.place.Place.{Place}
use Rattle.ule_score.specs.declared.record.Change.{Change}
use Rattle.ule_score.specs.declared.record.CpuLine.{CpuLine}
use Rattle.ule_score.specs.declared.record.Settings.{Settings}
use Rattle.ule_score.specs.declared.record.ThreadRecord.{ThreadRecord}
use Rattle.ule_types.specs.declared.event.Reply.{Reply}
use Rattle.ule_types.specs.declared.event.Reply.TheVariants.{Nothing}
use Rattle.ule_types.specs.declared.outcome.ThreadLine.{ThreadLine}
use Rattle.ule_tdq.specs.Records.{leaving}

-- a value and an answer are what an event gave of a side: the value stands for the side after it, the answer is its
-- reply, and its threads are well made
pub record IsGiven (new : CpuValue) (answer : Reply) (meant : Side × Reply) : Type 0 where
  pub stands : StandsFor new meant.0
  pub replied : answer ≡ meant.1
  pub well_made : IsWellMade meant.0.members

-- a value stands for a side, whose threads are well made
pub record IsSideOf (v : CpuValue) (s : Side) : Type 0 where
  pub stands : StandsFor v s
  pub well_made : IsWellMade s.members

-- a call answers an event: on every well-made side that the old value stands for, the event gives the new value and
-- the answer
pub record AnswersEvent (old new : CpuValue) (event : Side → Side × Reply) (answer : Reply) : Type 0 where
  pub each : (s : Side) → IsWellMade s.members → StandsFor old s → IsGiven new answer (event s)

-- ---- a thread that leaves its processor

-- what an event replies by what left, and by the thread that runs now
abbrev pub departed_reply : (ThreadRecord → Option ℕ → Reply) → Option (ThreadRecord × Option ℕ) → Reply
departed_reply reply None = Nothing
departed_reply reply (Some out) = reply out.0 out.1

-- a call answers every event by which the current thread leaves for a worker's hand, to sleep or not, whatever the
-- event replies
pub record AnswersLeaving (old new : CpuValue) (sleeping : Bool) (now : ℕ) (left : Option (ThreadRecord × Option ℕ)) : Type 0 where
  pub each : (worker : ℕ) (reply : ThreadRecord → Option ℕ → Reply) →
      AnswersEvent old new (departed (leaving sleeping) reply old.cpu worker now) (departed_reply reply left)

-- ---- a thread that comes from elsewhere

-- the thread of this record is a thread of the side that stands elsewhere than on CPU c
pub record IsElsewhere (r : ThreadRecord) (c : ℕ) (s : Side) : Type 0 where
  pub member : Member
  pub found : thread_of r.id s.members ≡ Some member
  pub thread : member.thread ≡ r
  pub off : is_on c member.place ≡ false

-- a call answers the landing of the thread of this record, which is asked for by a worker, remote or not
pub record AnswersLanding (old new : CpuValue) (r : ThreadRecord) (remote : Bool) (answer : Reply) : Type 0 where
  pub each : (s : Side) → IsWellMade s.members → StandsFor old s → IsElsewhere r old.cpu s →
      (worker now : ℕ) → remote ≡ not (worker == old.cpu) → IsGiven new answer (landed r.id old.cpu worker now s)

-- a new value stands for every side with a new thread of this record laid on the CPU
pub record StandsWithLaid (old new : CpuValue) (r : ThreadRecord) : Type 0 where
  pub each : (s : Side) → IsWellMade s.members → StandsFor old s → HasNumbers r → thread_of r.id s.members ≡ None →
      IsSideOf new (laid_on old.cpu r s)

-- a call answers a fork of the thread of this record, which has the child's record afterwards
pub record AnswersFork (old new : CpuValue) (now : ℕ) (r child : ThreadRecord) (parent : Option ℕ) : Type 0 where
  pub each : (s : Side) → IsWellMade s.members → StandsFor old s → IsElsewhere r old.cpu s →
      IsGiven new (forked_reply parent child) (forked_on old.cpu r.id now s)
  pub born : (s : Side) → IsWellMade s.members → StandsFor old s → (there : IsElsewhere r old.cpu s) →
      thread_of r.id (forked_on old.cpu r.id now s).0.members ≡ Some (record there.member { thread = child })

-- ---- a thread of the CPU

-- a call answers a change of thread t's priority, which is asked for by a worker, remote or not
pub record AnswersChange (old new : CpuValue) (t : ℕ) (change : Change) (remote : Bool) (answer : Reply) : Type 0 where
  pub each : (worker : ℕ) → remote ≡ not (worker == old.cpu) → IsSoundChange 0 (changed change) →
      AnswersEvent old new (priority_changed t change old.cpu worker) answer

-- a value stands for a side that this thread, of this record, left for a place; its threads are well made where that is on no CPU
pub record IsLeftBy (v : CpuValue) (m : Member) (r : ThreadRecord) (place : Place) (s : Side) : Type 0 where
  pub thread : m.thread ≡ r
  pub stands : StandsFor v s
  pub well_made : ((c : ℕ) → is_on c place ≡ false) → IsWellMade s.members

-- a new value stands for every side without queued thread t, which had this record, wherever else it is put
pub record StandsWithout (old new : CpuValue) (t : ℕ) (r : ThreadRecord) : Type 0 where
  pub each : (s : Side) → IsWellMade s.members → StandsFor old s → (m : Member) → thread_of t s.members ≡ Some m →
      (place : Place) (order : ℤ) → is_on old.cpu place ≡ false → IsLeftBy new m r place (carried_off old.cpu m place order s)

-- ---- the start

-- a value stands for every side without threads that has the numbers of CPU c at the start
pub record StandsAtStart (v : CpuValue) (c : ℕ) (settings : Settings) (word : ℕ) : Type 0 where
  pub each : (s : Side) → s.settings ≡ settings → s.members ≡ [] → s.line ≡ line_at_start c word →
      (c ≡ 0 → s.balance_word ≡ word_at_start c word) → StandsFor v s

-- ---- what a reader tells

-- what was told of the value is what there is to see of every well-made side that the value stands for
pub record Tells {A : Type 0} (v : CpuValue) (told : A) (seen : Side → A) : Type 0 where
  pub each : (s : Side) → IsWellMade s.members → StandsFor v s → told ≡ seen s

-- the mark that asks for a switch
abbrev pub mark_of : Side → Bool
mark_of s = s.line.resched

-- the number of CPU c's current thread
abbrev pub current_on : ℕ → Side → Option ℕ
current_on c s = option_map (λ m. m.thread.id) (current_of c s.members)

-- the number of the thread that CPU c gives to another CPU
abbrev pub given_on : ℕ → Side → Option ℕ
given_on c s = option_map (λ m. m.thread.id) (given_by c s)

-- the record of thread t, if it is on CPU c
abbrev pub record_on : ℕ → ℕ → Side → Option ThreadRecord
record_on c t s = option_map (λ m. m.thread) (thread_on c t s.members)

-- the place of thread t, if it is on CPU c
abbrev pub place_on : ℕ → ℕ → Side → Option Place
place_on c t s = option_map (λ m. m.place) (thread_on c t s.members)

-- the line of thread t, if it is on CPU c
abbrev pub line_on : ℕ → ℕ → Side → Option ThreadLine
line_on c t s = option_map (final_line s.members) (thread_on c t s.members)

-- the numbers of the CPU
abbrev pub numbers_of_cpu : Side → CpuLine
numbers_of_cpu s = s.line

-- The judge as the code has it, and of which judge of the definition it is the value.
use Rattle.std.specs.Prelude.{◌≡◌, ℕ, ◌+◌, ◌<◌, ◌≤◌, List, [], ◌∷◌, drop, is_some, length, slice_get, slice_set, Option, Some, None, IfSome, if◌then◌else◌}
use Rattle.ule_types.specs.Outcome.{OutcomeValue}
use Rattle.ule_types.specs.declared.event.Entry.{Entry}
use Rattle.ule_types.specs.declared.event.Reply.{Reply}
use Rattle.ule_types.specs.declared.setup.Setup.{Setup}
use Rattle.ule_model.specs.Ends.{end_time}
use Rattle.ule_model.specs.Legal.{amount_in_all}
use Rattle.ule_model.specs.WorldValue.{Shows}
use Rattle.ule_check.specs.Judge.{Due, Judge, behind, due_at, due_of, event_fault, faults_of, first_fault, hand_fault, judge_at_start, keeps_time, time_fault}
use Rattle.ule_check.specs.Judged.{judged, judged_from}
use Rattle.ule_check.specs.Seats.{course_at, due_in, time_ahead, time_behind}
use Rattle.ule_check.specs.declared.judge.Judge as code
use Rattle.ule_check.specs.declared.seat.Seat.{Seat}
use Rattle.ule_check.specs.declared.verdicts.Fault.{Fault}
use Rattle.ule_check.specs.declared.verdicts.Fault.TheVariants as fault

-- ---- judges

-- the judges of a setup behind so many entries without a fault
pub data IsReached (s : Setup) : ℕ → Judge → Type 0 where
  starts : IsReached s 0 (judge_at_start s)
  goes_on : (n : ℕ) (j : Judge) (d : Due) (e : Entry) → IsReached s n j → due_at j e.worker ≡ Some d →
      first_fault (faults_of (amount_in_all s.scripts) j d e) ≡ None → IsReached s (n + 1) (behind j d e)

-- ---- seats

-- a seat is that of a worker
pub record IsSeat (s : Setup) (j : Judge) (worker : ℕ) (x : Seat) : Type 0 where
  pub due : due_at j worker ≡ due_in s worker x
  pub own : x.own ≡ j.own worker
  pub time : time_ahead s worker x ≤ amount_in_all s.scripts

-- these are the seats of all workers
pub record AreSeats (s : Setup) (j : Judge) (seats : List Seat) : Type 0 where
  pub count : length seats ≡ s.cpus
  pub each : (worker : ℕ) (x : Seat) → slice_get seats worker ≡ Some x → IsSeat s j worker x

-- a worker's seat went on behind an entry with this reply at this time
pub record WentOn (s : Setup) (worker : ℕ) (reply : Reply) (now : ℕ) (old new : Seat) : Type 0 where
  pub due : due_of old.amount (course_at s worker old (Some (reply, now))) ≡ due_in s worker new
  pub own : new.own ≡ now
  pub time : time_ahead s worker new ≤ time_behind s worker old (Some (reply, now))

-- the seats after a worker's went on
pub record HasHeard (s : Setup) (worker : ℕ) (reply : Reply) (now : ℕ) (old new : List Seat) : Type 0 where
  pub before : Seat
  pub after : Seat
  pub got : slice_get old worker ≡ Some before
  pub went : WentOn s worker reply now before after
  pub seats : new ≡ slice_set old worker after

-- the least worker, of those from this one on, whose seat has a further event
abbrev pub missing_in : ℕ → List Seat → Option Fault
missing_in worker [] = None
missing_in worker (x ∷ xs) = if is_some x.event then Some (fault.Missing worker) else missing_in (worker + 1) xs

-- ---- times

-- the last times under the locks, with this one under some
abbrev pub noted_in : List ℕ → ℕ → List ℕ → List ℕ
noted_in [] now latest = latest
noted_in (l ∷ ls) now latest = noted_in ls now (slice_set latest l now)

-- ---- the judge

-- what the code knows is what the definition's judge behind so many entries knows
pub record IsJudge (s : Setup) (n : ℕ) (v : code.Judge) (j : Judge) : Type 0 where
  pub reached : IsReached s n j
  pub world : Shows v.world j.world
  pub seats : AreSeats s j v.seats.items
  pub locks : length v.latest.items ≡ 25
  pub latest : (l : ℕ) → l < 25 → slice_get v.latest.items l ≡ Some (j.latest l)
  pub end : v.end ≡ end_time s.scripts

-- an entry is its worker's next event, which seeks no thread in another worker's hand, and its time keeps the rules
pub record IsTimely (s : Setup) (j : Judge) (d : Due) (e : Entry) : Type 0 where
  pub due : due_at j e.worker ≡ Some d
  pub event : event_fault d.event e.event ≡ None
  pub free : hand_fault j.world e ≡ None
  pub kept : time_fault (keeps_time (amount_in_all s.scripts) j d.amount e) ≡ None

-- the fault of an entry, by its worker's next event
abbrev pub entry_fault : ℕ → Judge → Entry → Option Due → Option Fault
entry_fault total j e None = Some fault.Worker
entry_fault total j e (Some due) = first_fault (faults_of total j due e)

-- an entry without a fault was judged, and the code's judge is the one behind it
pub record IsBehind (s : Setup) (n : ℕ) (j : Judge) (e : Entry) (new : code.Judge) : Type 0 where
  pub due : Due
  pub due_is : due_at j e.worker ≡ Some due
  pub none : first_fault (faults_of (amount_in_all s.scripts) j due e) ≡ None
  pub judge : IsJudge s (n + 1) new (behind j due e)

-- an entry was judged
pub record HasJudged (s : Setup) (n : ℕ) (j : Judge) (e : Entry) (new : code.Judge) (result : Option Fault) : Type 0 where
  pub some : IfSome result (λ why. entry_fault (amount_in_all s.scripts) j e (due_at j e.worker) ≡ Some why)
  pub none : result ≡ None → IsBehind s n j e new

-- the loop over the entries: a judge of the definition has judged the first i, and his verdict on the others is the judgment
pub record HasJudgedFirst (s : Setup) (o : OutcomeValue) (i : ℕ) (v : code.Judge) : Type 0 where
  pub judge : Judge
  pub is : IsJudge s i v judge
  pub rest : judged_from (amount_in_all s.scripts) o (i + 1) judge (drop i o.entries) ≡ judged s o

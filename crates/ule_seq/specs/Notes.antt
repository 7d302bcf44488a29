-- What the scheduler of a setup keeps of the end of a play: an outcome, which the entries, the lines under each lock, the threads' words and the time come to one after another.
use Rattle.std.specs.Prelude.{ℕ, ◌-◌, ◌≤◌, ◌==◌, Bool, nat_lt, if◌then◌else◌, unwrap_or, find, min, Option, Some, None, List, [], ◌∷◌, ◌++◌, length, zero, suc}
use Rattle.ule_score.specs.declared.record.CpuLine.{CpuLine}
use Rattle.ule_types.specs.Outcome.{OutcomeValue, placed, with_cpu}
use Rattle.ule_types.specs.declared.event.Event.{Event}
use Rattle.ule_types.specs.declared.event.Reply.{Reply}
use Rattle.ule_types.specs.declared.outcome.ThreadLine.{ThreadLine}
use Rattle.ule_types.specs.declared.setup.Setup.{Setup}
use Rattle.ule_model.specs.LockValue.{LockValue, line_under}
use Rattle.ule_micro.specs.Notes.{Notes}
use Rattle.ule_seq.specs.Outcomes.{queue_line}

-- the outcome with an entry more
abbrev pub with_entry : OutcomeValue → ℕ → ℕ → Event → Reply → OutcomeValue
with_entry o worker now e r = record o {
  entries = o.entries ++ (record { worker = worker; event = e; now = now; reply = r }) ∷ [];
  room = o.room - 1;
}

-- the thread lines with one more, if there is one
abbrev pub with_line : Option ThreadLine → List ThreadLine → List ThreadLine
with_line None lines = lines
with_line (Some line) lines = placed line lines

-- the thread lines with that of each of the first so many threads that is under a lock
unfoldable pub with_lines_under : LockValue → ℕ → List ThreadLine → List ThreadLine
with_lines_under v zero lines = lines
with_lines_under v (suc t) lines = with_line (line_under v t) (with_lines_under v t lines)

-- the line of a CPU that there isn't
abbrev pub blank_line : CpuLine
blank_line = record {
  idx = 0;
  ridx = 0;
  resched = Bool.false;
  slice_end = Bool.false;
  switches = 0;
  old_switches = 0;
  balance = 0;
}

-- the CPU lines with that of a lock's CPU, if there is one of its number among so many
abbrev pub with_cpu_under : ℕ → ℕ → LockValue → List CpuLine → List CpuLine
with_cpu_under count l v lines = if nat_lt l count then with_cpu l (unwrap_or (queue_line v) blank_line) lines else lines

-- the outcome with the lines of what is under a lock
abbrev pub with_value : Setup → OutcomeValue → ℕ → LockValue → OutcomeValue
with_value s o l v = record o { threads = with_lines_under v 256 o.threads; cpus = with_cpu_under s.cpus l v o.cpus }

-- a line with another word, if there is a line
abbrev pub with_word_in : Option ℕ → Option ThreadLine → Option ThreadLine
with_word_in word None = None
with_word_in word (Some line) = Some (record line { word = word })

-- the outcome with this word in the line of a thread, if there is one
abbrev pub with_word : OutcomeValue → ℕ → Option ℕ → OutcomeValue
with_word o t word = record o { threads = with_line (with_word_in word (find (λ line. line.id == t) o.threads)) o.threads }

-- what the scheduler keeps; the value of a lock may be told where there are lines of all CPUs of lower numbers
abbrev pub sched_notes : Setup → Notes OutcomeValue LockValue Event Reply
sched_notes s = record {
  entry = with_entry;
  value = with_value s;
  word = with_word;
  now = λ o now. record o { now = now };
  room = λ o. o.room;
  ready = λ o l. min l s.cpus ≤ length o.cpus;
}

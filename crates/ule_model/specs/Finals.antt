-- What a trace tells at the end of a history: a line for each thread and for each CPU.
use Rattle.std.specs.Prelude.{ℕ, ◌&&◌, int_lt, List, count_by, ℤ}
use Rattle.std.specs.List.{filter_map, range_with_len}
use Rattle.std.specs.Option.{option_map}
use Rattle.ule_score.specs.declared.place.Place.{Place}
use Rattle.ule_score.specs.declared.place.Place.TheVariants.{Running, Queued, Asleep, Unborn, Gone, Hand}
use Rattle.ule_score.specs.declared.record.ThreadRecord.{ThreadRecord}
use Rattle.ule_types.specs.declared.outcome.ThreadLine.{ThreadLine}
use Rattle.ule_model.specs.Places.{lock_of, waits_in}
use Rattle.ule_model.specs.World.{Member, thread_of}

-- a thread's position in its bucket: how many threads of that bucket have a smaller order
abbrev pub position_of : Place → ℤ → List Member → ℕ
position_of (Queued c k b) order members = count_by (λ n. waits_in c k b n.place && int_lt n.order order) members
position_of (Running c) order members = 0
position_of (Asleep channel) order members = 0
position_of Unborn order members = 0
position_of Gone order members = 0
position_of (Hand w) order members = 0

-- the line of a record at a place and a position; its word is the lock of the place
abbrev pub line_of : ThreadRecord → Place → ℕ → ThreadLine
line_of r place pos = record {
  id = r.id;
  place = place;
  pos = pos;
  class = r.class;
  nice = r.nice;
  base = r.base;
  lent = r.lent;
  priority = r.priority;
  run = r.hist.run;
  slept = r.hist.slept;
  ticks = r.usage.ticks;
  ltick = r.usage.ltick;
  ftick = r.usage.ftick;
  slice_count = r.slice_count;
  slept_at = r.slept_at;
  last = r.last;
  last_run = r.last_run;
  bound = r.bound;
  parent = r.parent;
  word = lock_of place;
}

-- a thread's line at the end of a whole history
abbrev pub final_line : List Member → Member → ThreadLine
final_line members m = line_of m.thread m.place (position_of m.place m.order members)

-- the lines of all threads, in rising number
abbrev pub thread_lines : List Member → List ThreadLine
thread_lines members =
    filter_map (λ t. option_map (final_line members) (thread_of t members)) (range_with_len 0 256)

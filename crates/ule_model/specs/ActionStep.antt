-- What an event sees: the thread that it names, and what is under its lock, in a world and as a value; and the step of an event on
-- the value under one lock and the worker's hand, as its action by what it sees there.
use Rattle.std.specs.Prelude.{ℕ, not, ◌==◌, Option, Some, None, option_and_then}
use Rattle.std.specs.Option.{option_map}
use Rattle.ule_score.specs.declared.place.Place.TheVariants.{Hand}
use Rattle.ule_score.specs.declared.record.Settings.{Settings}
use Rattle.ule_score.specs.declared.record.ThreadRecord.{ThreadRecord}
use Rattle.ule_sleep.specs.Chain.{ChainValue}
use Rattle.ule_sleep.specs.Limbo.{LimboValue}
use Rattle.ule_threads.specs.declared.standing.Standing.{Standing}
use Rattle.ule_types.specs.declared.event.Event.{Event}
use Rattle.ule_types.specs.declared.event.Reply.{Reply}
use Rattle.ule_model.specs.Actions.{Seen}
use Rattle.ule_model.specs.ActionValue.{HandAndCpu, HandAndSlots}
use Rattle.ule_model.specs.CpuNumbers.{low_priority_in, low_priority_of, movable_in, movable_of}
use Rattle.ule_model.specs.CpuValue.{CpuValue, current_in}
use Rattle.ule_model.specs.Events.{Handling, Locking, any, empty, handling, has, locking, place_of, unborn}
use Rattle.ule_model.specs.Landing.{current_record}
use Rattle.ule_model.specs.LockValue.{LockValue, queue, chain, limbo, found_in}
use Rattle.ule_model.specs.Steal.{given_by, given_in}
use Rattle.ule_model.specs.Tick.{load_of}
use Rattle.ule_model.specs.World.{Member, Side, World, fresh_line, side_of, standing_of, thread_of}

-- ---- on a world

-- the number of the thread that an event names, if one: it seeks the thread, or has it in hand, or takes it there
abbrev pub named_in : Locking → Handling → Option ℕ
named_in (place_of t) needs = Some t
named_in locks any = None
named_in locks empty = None
named_in locks (unborn t) = Some t
named_in locks (has t) = Some t

-- the thread that an event names, if it is there
abbrev pub named_by : World → Event → Option Member
named_by w e = option_and_then (λ t. thread_of t w.members) (named_in (locking e) (handling e))

-- what an event of a worker sees on the side of lock c, where it names this thread
abbrev pub seen_on : ℕ → ℕ → ℕ → Option Member → Side → Seen
seen_on c worker now named s = record {
  cpu = c;
  worker = worker;
  remote = not (worker == c);
  now = now;
  settings = s.settings;
  line = s.line;
  load = load_of c s.members;
  movable = movable_of c s.members;
  lowpri = low_priority_of c s.line.ridx s.members;
  current = current_record c s.members;
  given = option_map standing_of (given_by c s);
  named = option_map standing_of named;
}

-- the side where no lock is taken
abbrev pub bare_side : World → Side
bare_side w = record { settings = w.settings; members = w.members; line = fresh_line; balance_word = w.balance_word }

-- what an event of a worker sees under lock l
abbrev pub seen_under : World → ℕ → ℕ → Event → ℕ → Seen
seen_under w worker now e l = seen_on l worker now (named_by w e) (side_of l w)

-- ---- under one lock

-- the thread that an event names, under the lock or in the worker's hand
abbrev pub named_held : Locking → Handling → ℕ → LockValue → Option ThreadRecord → Option Standing
named_held (place_of t) needs worker value hand = found_in value t
named_held locks any worker value hand = None
named_held locks empty worker value hand = None
named_held locks (unborn t) worker value hand = found_in value t
named_held locks (has t) worker value hand = option_map (λ r. record { thread = r; place = Hand worker }) hand

-- what an event of a worker sees on a CPU, where it names this thread
abbrev pub seen_in : ℕ → ℕ → Option Standing → CpuValue → Seen
seen_in worker now named v = record {
  cpu = v.cpu;
  worker = worker;
  remote = not (worker == v.cpu);
  now = now;
  settings = v.settings;
  line = v.line;
  load = v.load;
  movable = movable_in v;
  lowpri = low_priority_in v;
  current = current_in v;
  given = given_in v;
  named = named;
}

-- what it sees on a sleep chain or in limbo
abbrev pub seen_off : ℕ → ℕ → Settings → Option Standing → Seen
seen_off worker now settings named = record {
  cpu = 0;
  worker = worker;
  remote = not (worker == 0);
  now = now;
  settings = settings;
  line = fresh_line;
  load = 0;
  movable = 0;
  lowpri = 255;
  current = None;
  given = None;
  named = named;
}

-- what an event makes of the hand, the value and the reply
pub record Stepped : Type 0 where
  pub hand : Option ThreadRecord
  pub value : LockValue
  pub reply : Reply

-- what an event under two locks makes of the hand, of the values under the first lock and the second that it names, and the reply
pub record PairStepped : Type 0 where
  pub hand : Option ThreadRecord
  pub from : LockValue
  pub to : LockValue
  pub reply : Reply

-- nothing changes
abbrev pub kept : Option ThreadRecord → LockValue → Reply → Stepped
kept hand value reply = record { hand = hand; value = value; reply = reply }

-- what was made of the hand and the value, and the reply
abbrev pub on_queue : HandAndCpu × Reply → Stepped
on_queue (h, reply) = record { hand = h.hand; value = queue h.value; reply = reply }

abbrev pub on_chain : ChainValue → HandAndSlots × Reply → Stepped
on_chain v (h, reply) = record { hand = h.hand; value = chain (record v { slots = h.slots }); reply = reply }

abbrev pub on_limbo : LimboValue → HandAndSlots × Reply → Stepped
on_limbo v (h, reply) = record { hand = h.hand; value = limbo (record v { slots = h.slots }); reply = reply }

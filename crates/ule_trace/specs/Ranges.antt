-- The ranges of the numbers in a trace: those that its reader takes.
use Rattle.std.specs.Prelude.{◌≡◌, ℕ, ◌<◌, ◌≤◌, ◌^◌, Option, IfSome, length}
use Rattle.std.specs.List.{AllByRecursion}
use Rattle.ule_score.specs.TimesharePriority.{IsNice}
use Rattle.ule_score.specs.declared.place.Place.{Place}
use Rattle.ule_score.specs.declared.place.Place.TheVariants.{Running, Queued, Asleep, Unborn, Gone, Hand}
use Rattle.ule_score.specs.declared.record.CpuLine.{CpuLine}
use Rattle.ule_types.specs.Outcome.{OutcomeValue, RisesFrom}
use Rattle.ule_types.specs.declared.event.Entry.{Entry}
use Rattle.ule_types.specs.declared.event.Event.{Event}
use Rattle.ule_types.specs.declared.event.Event.TheVariants.{Tick, Switch, Drop, Bed, Wake, Look, Land, Move, Lend, Unlend, Renice, Hatch, Fork, Return, Exit, Bury, Inherit}
use Rattle.ule_types.specs.declared.event.Reply.{Reply}
use Rattle.ule_types.specs.declared.event.Reply.TheVariants.{Ticked, Unmarked, Nothing, Switched, Dropped, Bedded, NotAsleep, Woken, Seen, Landed, Moved, NoneMovable, Changed, NotAllowed, Hatched, Forked, Returned, Exited, Buried, ParentGone}
use Rattle.ule_types.specs.declared.outcome.ThreadLine.{ThreadLine}

-- the number of a CPU or worker, of a thread, and of a lock, if there is one
abbrev pub IsCpuIfAny : Option ℕ → Type 0
IsCpuIfAny o = IfSome o (λ c. c < 16)

abbrev pub IsThreadIfAny : Option ℕ → Type 0
IsThreadIfAny o = IfSome o (λ t. t < 256)

abbrev pub IsLockIfAny : Option ℕ → Type 0
IsLockIfAny o = IfSome o (λ l. l < 25)

-- a place
abbrev pub PlaceFits : Place → Type 0
PlaceFits (Running c) = c < 16
PlaceFits (Queued c k b) = (c < 16) × (b < 64)
PlaceFits (Asleep channel) = channel < 65536
PlaceFits Unborn = Unit {0}
PlaceFits Gone = Unit {0}
PlaceFits (Hand w) = w < 16

-- a thread's position: 0 where it isn't queued
abbrev pub PositionFits : Place → ℕ → Type 0
PositionFits (Queued c k b) position = position < 256
PositionFits (Running c) position = position ≡ 0
PositionFits (Asleep channel) position = position ≡ 0
PositionFits Unborn position = position ≡ 0
PositionFits Gone position = position ≡ 0
PositionFits (Hand w) position = position ≡ 0

-- an event
abbrev pub EventFits : Event → Type 0
EventFits (Tick c) = c < 16
EventFits (Switch c why) = c < 16
EventFits (Drop c channel) = (c < 16) × (channel < 65536)
EventFits (Bed t channel) = (t < 256) × (channel < 65536)
EventFits (Wake t) = t < 256
EventFits (Look c) = c < 16
EventFits (Land t c) = (t < 256) × (c < 16)
EventFits (Move a b why) = (a < 16) × (b < 16)
EventFits (Lend t p) = (t < 256) × (p < 256)
EventFits (Unlend t) = t < 256
EventFits (Renice t n) = (t < 256) × IsNice n
EventFits (Hatch t) = t < 256
EventFits (Fork c t) = (c < 16) × (t < 256)
EventFits (Return t) = t < 256
EventFits (Exit c) = c < 16
EventFits (Bury t) = t < 256
EventFits (Inherit t run) = (t < 256) × (run < 2 ^ 64)

-- a reply
abbrev pub ReplyFits : Reply → Type 0
ReplyFits (Ticked current due ended) = IsThreadIfAny current
ReplyFits Unmarked = Unit {0}
ReplyFits Nothing = Unit {0}
ReplyFits (Switched out into preempted) = IsThreadIfAny out × IsThreadIfAny into
ReplyFits (Dropped out into) = (out < 256) × IsThreadIfAny into
ReplyFits Bedded = Unit {0}
ReplyFits (NotAsleep place) = PlaceFits place
ReplyFits (Woken p bound last last_run) = (p < 256) × IsCpuIfAny bound × (last < 16) × (last_run < 2 ^ 64)
ReplyFits (Seen load movable low) = (load < 2 ^ 64) × (movable < 2 ^ 64) × (low < 256)
ReplyFits (Landed kind bucket preempts) = bucket < 64
ReplyFits (Moved t kind bucket preempts) = (t < 256) × (bucket < 64)
ReplyFits (NoneMovable load movable other) = (load < 2 ^ 64) × (movable < 2 ^ 64) × (other < 2 ^ 64)
ReplyFits (Changed p requeued marked) = p < 256
ReplyFits (NotAllowed place) = PlaceFits place
ReplyFits Hatched = Unit {0}
ReplyFits (Forked parent p) = (parent < 256) × (p < 256)
ReplyFits Returned = Unit {0}
ReplyFits (Exited out into parent run) = (out < 256) × IsThreadIfAny into × IsThreadIfAny parent × (run < 2 ^ 64)
ReplyFits Buried = Unit {0}
ReplyFits ParentGone = Unit {0}

-- an entry
pub record EntryFits (e : Entry) : Type 0 where
  pub worker : e.worker < 16
  pub event : EventFits e.event
  pub now : e.now < 2 ^ 64
  pub reply : ReplyFits e.reply

-- a thread's line, but for its number
pub record ThreadFits (l : ThreadLine) : Type 0 where
  pub place : PlaceFits l.place
  pub pos : PositionFits l.place l.pos
  pub nice : IsNice l.nice
  pub base : l.base < 256
  pub lent : IfSome l.lent (λ p. p < 256)
  pub priority : l.priority < 256
  pub run : l.run < 2 ^ 64
  pub slept : l.slept < 2 ^ 64
  pub ticks : l.ticks < 2 ^ 64
  pub ltick : l.ltick < 2 ^ 64
  pub ftick : l.ftick < 2 ^ 64
  pub slice_count : l.slice_count < 2 ^ 64
  pub slept_at : l.slept_at < 2 ^ 64
  pub last : l.last < 16
  pub last_run : l.last_run < 2 ^ 64
  pub bound : IsCpuIfAny l.bound
  pub parent : IsThreadIfAny l.parent
  pub word : IsLockIfAny l.word

-- a CPU's line
pub record CpuFits (l : CpuLine) : Type 0 where
  pub idx : l.idx < 64
  pub ridx : l.ridx < 64
  pub switches : l.switches < 2 ^ 64
  pub old_switches : l.old_switches < 2 ^ 64
  pub balance : l.balance < 2 ^ 64

-- an outcome: at most 65,536 entries, thread lines by rising number, and at least one CPU
pub record OutcomeFits (o : OutcomeValue) : Type 0 where
  pub count : length o.entries ≤ 65536
  pub entries : AllByRecursion EntryFits o.entries
  pub rising : RisesFrom 0 o.threads
  pub threads : AllByRecursion ThreadFits o.threads
  pub some_cpu : 1 ≤ length o.cpus
  pub few_cpus : length o.cpus ≤ 16
  pub cpus : AllByRecursion CpuFits o.cpus
  pub now : o.now < 2 ^ 64

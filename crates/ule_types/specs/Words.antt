-- How an event changes the word of a thread, which names the lock over it or is blocked.
use Rattle.std.specs.Prelude.{ℕ, ◌+◌, ◌%◌, Option, Some, None}
use Rattle.std.specs.Option.{option_map}
use Rattle.ule_types.specs.declared.event.Event.{Event}
use Rattle.ule_types.specs.declared.event.Event.TheVariants as event
use Rattle.ule_types.specs.declared.event.Reply.{Reply}
use Rattle.ule_types.specs.declared.event.Reply.TheVariants.{Ticked, Unmarked, Nothing, Switched, Dropped, Bedded, NotAsleep, Woken, Seen, Landed, Moved, NoneMovable, Changed, NotAllowed, Hatched, Forked, Returned, Exited, Buried, ParentGone}

-- a change of one thread's word
pub data WordChange : Type 0 where
  -- the thread goes to the worker's hand: its word is blocked
  block : ℕ → WordChange
  -- the thread comes under this lock, which its word names from then on
  point : ℕ → ℕ → WordChange

-- the thread that a reply says went to the worker's hand, where the event sought or named this one
abbrev pub taken_by : ℕ → Reply → Option ℕ
taken_by t (Ticked cur due end) = None
taken_by t Unmarked = None
taken_by t Nothing = None
taken_by t (Switched out into preempted) = None
taken_by t (Dropped out into) = Some out
taken_by t Bedded = None
taken_by t (NotAsleep place) = None
taken_by t (Woken priority bound last last_run) = Some t
taken_by t (Seen load movable low) = None
taken_by t (Landed kind bucket takes) = None
taken_by t (Moved u kind bucket takes) = None
taken_by t (NoneMovable a movable b) = None
taken_by t (Changed priority requeued marked) = None
taken_by t (NotAllowed place) = None
taken_by t Hatched = Some t
taken_by t (Forked parent priority) = None
taken_by t Returned = None
taken_by t (Exited out into parent run) = Some out
taken_by t Buried = None
taken_by t ParentGone = None

-- the thread that a reply says was moved from one CPU to another
abbrev pub moved_by : Reply → Option ℕ
moved_by (Ticked cur due end) = None
moved_by Unmarked = None
moved_by Nothing = None
moved_by (Switched out into preempted) = None
moved_by (Dropped out into) = None
moved_by Bedded = None
moved_by (NotAsleep place) = None
moved_by (Woken priority bound last last_run) = None
moved_by (Seen load movable low) = None
moved_by (Landed kind bucket takes) = None
moved_by (Moved u kind bucket takes) = Some u
moved_by (NoneMovable a movable b) = None
moved_by (Changed priority requeued marked) = None
moved_by (NotAllowed place) = None
moved_by Hatched = None
moved_by (Forked parent priority) = None
moved_by Returned = None
moved_by (Exited out into parent run) = None
moved_by Buried = None
moved_by ParentGone = None

abbrev pub blocks : Option ℕ → Option WordChange
blocks taken = option_map block taken

-- the change of a word by an event and its reply, if there is one
abbrev pub change_of : Event → Reply → Option WordChange
change_of (event.Tick c) r = None
change_of (event.Switch c why) r = None
change_of (event.Drop c channel) r = blocks (taken_by 0 r)
change_of (event.Bed t channel) r = Some (point t (16 + channel % 8))
change_of (event.Wake t) r = blocks (taken_by t r)
change_of (event.Look c) r = None
change_of (event.Land t c) r = Some (point t c)
change_of (event.Move a b why) r = option_map (λ t. point t b) (moved_by r)
change_of (event.Lend t p) r = None
change_of (event.Unlend t) r = None
change_of (event.Renice t n) r = None
change_of (event.Hatch t) r = blocks (taken_by t r)
change_of (event.Fork c t) r = None
change_of (event.Return t) r = Some (point t 24)
change_of (event.Exit c) r = blocks (taken_by 0 r)
change_of (event.Bury t) r = Some (point t 24)
change_of (event.Inherit t run) r = None

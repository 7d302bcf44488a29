-- Worked values: the locks that events take, the words that they change, and the lock of a number that no thread has.
use Rattle.std.proofs.Common.{◌≡◌, true, false, refl, Some, None}
use Rattle.ule_prio.specs.declared.kind.Kind.TheVariants.{Batch}
use Rattle.ule_types.specs.declared.event.Event.TheVariants.{Bed, Bury, Move, Tick, Wake}
use Rattle.ule_types.specs.declared.event.MoveWhy.TheVariants.{Steal}
use Rattle.ule_types.specs.declared.event.Reply.TheVariants.{Bedded, Moved, NotAsleep, Woken}
use Rattle.ule_score.specs.declared.place.Place.TheVariants.{Gone}
use Rattle.ule_model.specs.Events.{locking}
use Rattle.ule_model.specs.Words.{change_of}
use Rattle.ule_micro.specs.declared.word.WordChange.TheVariants.{Block, Point}
use Rattle.ule_micro.specs.Means.{both, lock_of, one}
use Rattle.ule_parts.specs.Acts.{names_lower_first, needs_of, word_change_of}
use Rattle.ule_parts.specs.Scheduler.{lock_or_limbo}

-- a tick of CPU 3 takes its queue lock
tick_takes : needs_of (locking (Tick 3)) ≡ one 3
tick_takes = refl

-- a bed on channel 13 takes the lock of chain 5
bed_takes : needs_of (locking (Bed 7 13)) ≡ one 21
bed_takes = refl

-- a burial takes limbo's lock
burial_takes : needs_of (locking (Bury 7)) ≡ one 24
burial_takes = refl

-- a wake takes the lock of its thread's place
wake_takes : needs_of (locking (Wake 7)) ≡ lock_of 7
wake_takes = refl

-- a move from CPU 2 to CPU 1 takes both queue locks in rising order
move_takes : needs_of (locking (Move 2 1 Steal)) ≡ both 1 2
move_takes = refl

-- a bed lets the thread's word name the chain's lock
bed_points : word_change_of (change_of (Bed 7 13) Bedded) ≡ Some (Point 7 21)
bed_points = refl

-- a wake that woke its thread blocks the thread's word
wake_blocks : word_change_of (change_of (Wake 7) (Woken 130 None 0 20000)) ≡ Some (Block 7)
wake_blocks = refl

-- a wake of a thread that is gone changes no word
wake_leaves : word_change_of (change_of (Wake 7) (NotAsleep Gone)) ≡ None
wake_leaves = refl

-- the word of a number that no thread has names limbo's lock
none_in_limbo : lock_or_limbo None ≡ 24
none_in_limbo = refl

-- so it names the greater lock first, and a move from CPU 1 to CPU 2 the lower
move_falls : names_lower_first (locking (Move 2 1 Steal)) ≡ false
move_falls = refl

move_rises : names_lower_first (locking (Move 1 2 Steal)) ≡ true
move_rises = refl

-- a move that moved its thread lets the thread's word name the lock of the CPU that it came to
move_points : word_change_of (change_of (Move 2 1 Steal) (Moved 7 Batch 12 false)) ≡ Some (Point 7 1)
move_points = refl

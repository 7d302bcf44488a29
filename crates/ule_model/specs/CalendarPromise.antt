-- The calendar promise over histories: how the two indexes of a CPU's batch calendar go round, and how near that
-- brings a thread that stays queued in it.
use Rattle.std.specs.Prelude.{◌≡◌, ◌≢◌, ℕ, ◌+◌, ◌≤◌, Bool, true, false, ◌==◌, ◌&&◌, ◌||◌, List, [], ◌∷◌, ◌++◌, Option, Some, None, if◌then◌else◌}
use Rattle.std.specs.Option.{option_map}
use Rattle.ule_prio.specs.declared.kind.Kind.TheVariants.{Batch}
use Rattle.ule_score.specs.declared.place.Place.TheVariants.{Queued}
use Rattle.ule_score.specs.declared.record.CpuLine.{CpuLine}
use Rattle.ule_types.specs.declared.command.Command.{Command}
use Rattle.ule_types.specs.declared.event.Entry.{Entry}
use Rattle.ule_types.specs.declared.event.Event.{Event}
use Rattle.ule_types.specs.declared.event.Event.TheVariants as event
use Rattle.ule_types.specs.declared.event.Reply.{Reply}
use Rattle.ule_types.specs.declared.event.Reply.TheVariants.{Switched, Dropped, Changed, Exited}
use Rattle.ule_types.specs.declared.setup.Setup.{Setup}
use Rattle.ule_model.specs.Action.{Part, choose, part_done}
use Rattle.ule_model.specs.Actions.{action_of}
use Rattle.ule_model.specs.ActionStep.{seen_under}
use Rattle.ule_model.specs.CalendarIndexes.{distance_of}
use Rattle.ule_model.specs.Events.{locks_of, sought_by}
use Rattle.ule_model.specs.Insertion.{members_in}
use Rattle.ule_model.specs.Legal.{IsLegal, after_entry, replayed}
use Rattle.ule_model.specs.Places.{is_number}
use Rattle.ule_model.specs.Start.{world_at_start}
use Rattle.ule_model.specs.Throughout.{HoldsOfEach, HoldsThroughout}
use Rattle.ule_model.specs.Words.{moved_by}
use Rattle.ule_model.specs.World.{Member, Side, World, side_of, thread_of}

-- ---- a calendar in a world

-- the numbers of CPU c
abbrev pub numbers_on : ℕ → World → CpuLine
numbers_on c w = (side_of c w).line

-- thread t stands in bucket b of CPU c's calendar, where these are the threads
abbrev pub IsInBucket : (c b t : ℕ) → List Member → Type 0
IsInBucket c b t ms = option_map (λ m. m.place) (thread_of t ms) ≡ Some (Queued c Batch b)

-- how far the insertion index of CPU c is ahead of the removal index
abbrev pub lead_of : CpuLine → ℕ
lead_of line = distance_of line.ridx line.idx

-- the insertion index is where the removal index is, or one ahead, and then the bucket at the removal index has a thread
pub record HasCloseIndexes (c : ℕ) (w : World) : Type 0 where
  pub lead : lead_of (numbers_on c w) ≤ 1
  pub some : lead_of (numbers_on c w) ≡ 1 → members_in c Batch (numbers_on c w).ridx w.members ≢ []

-- so on each CPU
abbrev pub AllHaveCloseIndexes : World → Type 0
AllHaveCloseIndexes w = (c : ℕ) → HasCloseIndexes c w

-- ---- what an entry says of a thread

-- the thread that a reply says was chosen to run next
abbrev pub chosen_by : Reply → Option ℕ
chosen_by (Switched out into preempted) = into
chosen_by (Dropped out into) = into
chosen_by (Exited out into parent run) = into
chosen_by _ = None

-- the thread that a reply says was preempted
abbrev pub preempted_by : Reply → Option ℕ
preempted_by (Switched out into preempted) = if preempted then out else None
preempted_by _ = None

-- whether a reply says that the thread whose priority changed was requeued
abbrev pub tells_requeued : Reply → Bool
tells_requeued (Changed priority requeued marked) = requeued
tells_requeued _ = false

-- the thread that an event lands on a CPU
abbrev pub landed_by : Event → Option ℕ
landed_by (event.Land t c) = Some t
landed_by _ = None

-- whether an entry requeued thread t, whose priority it made better
abbrev pub requeues : ℕ → Entry → Bool
requeues t e = tells_requeued e.reply && is_number t (sought_by e.event)

-- whether an entry chose thread t, landed it, moved it from one CPU to another, or requeued it
abbrev pub takes_up : ℕ → Entry → Bool
takes_up t e = is_number t (chosen_by e.reply) || is_number t (landed_by e.event) || is_number t (moved_by e.reply) || requeues t e

-- whether an entry requeued thread t or preempted it: in a calendar it joins the bucket at the removal index then
abbrev pub goes_next : ℕ → Entry → Bool
goes_next t e = requeues t e || is_number t (preempted_by e.reply)

-- ---- what an entry keeps

-- an entry brings the indexes of CPU c on by one bucket at most
pub record GoesByOne (c : ℕ) (w : World) (e : Entry) : Type 0 where
  pub insertion : distance_of (numbers_on c w).idx (numbers_on c (after_entry w e)).idx ≤ 1
  pub removal : distance_of (numbers_on c w).ridx (numbers_on c (after_entry w e)).ridx ≤ 1

-- a thread that an entry brings to the bucket at the removal index of CPU c, while the indexes differ, is one that it
-- requeued or preempted
abbrev pub JoinsNext : ℕ → World → Entry → Type 0
JoinsNext c w e =
    (numbers_on c w).idx ≢ (numbers_on c w).ridx → (t : ℕ) → (IsInBucket c (numbers_on c w).ridx t w.members → ⊥) →
    IsInBucket c (numbers_on c w).ridx t (after_entry w e).members → goes_next t e ≡ true

-- what each entry keeps of the calendar of each CPU
pub record KeepsCalendars (w : World) (e : Entry) : Type 0 where
  pub by_one : (c : ℕ) → GoesByOne c w e
  pub joins : (c : ℕ) → JoinsNext c w e

-- ---- how far the indexes go

-- how many buckets the insertion index of CPU c goes on, over these entries
unfoldable pub insertion_advances : ℕ → World → List Entry → ℕ
insertion_advances c w [] = 0
insertion_advances c w (e ∷ es) =
    distance_of (numbers_on c w).idx (numbers_on c (after_entry w e)).idx + insertion_advances c (after_entry w e) es

-- how many buckets the removal index of CPU c goes on, over these entries
unfoldable pub removal_advances : ℕ → World → List Entry → ℕ
removal_advances c w [] = 0
removal_advances c w (e ∷ es) =
    distance_of (numbers_on c w).ridx (numbers_on c (after_entry w e)).ridx + removal_advances c (after_entry w e) es

-- whether an event is a tick of CPU c
abbrev pub is_tick_of : ℕ → Event → Bool
is_tick_of c (event.Tick d) = c == d
is_tick_of c _ = false

-- whether an entry is a tick of CPU c that finds its indexes equal
abbrev pub is_turning : ℕ → World → Entry → Bool
is_turning c w e = is_tick_of c e.event && ((numbers_on c w).idx == (numbers_on c w).ridx)

-- how many of these entries are ticks of CPU c that find its indexes equal
unfoldable pub turning_ticks : ℕ → World → List Entry → ℕ
turning_ticks c w [] = 0
turning_ticks c w (e ∷ es) = (if is_turning c w e then 1 else 0) + turning_ticks c (after_entry w e) es

-- ---- the choice

-- the side from which these parts choose the next thread, if they do
abbrev pub choosing_from : ℕ → ℕ → List Part → Side × Option ℕ → Option Side
choosing_from c now [] at = None
choosing_from c now (choose ∷ ps) (s, into) = Some s
choosing_from c now (p ∷ ps) at = choosing_from c now ps (part_done c now p at)

-- this, where lock c is the first of these
abbrev pub if_first : ℕ → List ℕ → Option Side → Option Side
if_first c [] s = None
if_first c (l ∷ ls) s = if c == l then s else None

-- the side of CPU c from which an event of a worker chooses the next thread, if it does
abbrev pub choosing_side : ℕ → World → ℕ → Event → ℕ → Option Side
choosing_side c w worker e now = if_first c (locks_of w e) (choosing_from c now (action_of e (seen_under w worker now e c)).parts (side_of c w, None))

-- a thread that an entry chose from CPU c's calendar stood there no farther from the removal index than bucket b
abbrev pub ChoosesNoFarther : (c b : ℕ) → World → Entry → Type 0
ChoosesNoFarther c b w e =
    (s : Side) (u a : ℕ) → choosing_side c w e.worker e.event e.now ≡ Some s → chosen_by e.reply ≡ Some u → IsInBucket c a u s.members →
    distance_of s.line.ridx a ≤ distance_of s.line.ridx b

-- ---- a stretch

-- thread t stands in bucket b of CPU c's calendar before and after each of these entries, none of which takes it up
unfoldable pub IsStretch : (c b t : ℕ) → World → List Entry → Type 0
IsStretch c b t w [] = IsInBucket c b t w.members
IsStretch c b t w (e ∷ es) = IsInBucket c b t w.members × (takes_up t e ≡ false) × IsStretch c b t (after_entry w e) es

-- what a stretch of a thread in bucket b of CPU c's calendar keeps: the bucket comes nearer to the removal index by just
-- as many buckets as that goes on; the insertion index goes on no farther than to the bucket and one more, nor are there
-- more ticks of the CPU that find both indexes equal; and no thread is chosen from farther away
pub record KeepsStretch (c b : ℕ) (w : World) (es : List Entry) : Type 0 where
  pub nearer : distance_of (numbers_on c (replayed w es)).ridx b + removal_advances c w es ≡ distance_of (numbers_on c w).ridx b
  pub insertions : insertion_advances c w es ≤ distance_of (numbers_on c w).ridx b + 1
  pub turns : turning_ticks c w es ≤ distance_of (numbers_on c w).ridx b + 1
  pub within_round : turning_ticks c w es ≤ 64
  pub choices : HoldsOfEach (ChoosesNoFarther c b) w es

-- ---- the promise

-- what a history that begins with this world keeps of the calendars
pub record HasCalendarPromise (w : World) (es : List Entry) : Type 0 where
  pub worlds : HoldsThroughout AllHaveCloseIndexes w es
  pub entries : HoldsOfEach KeepsCalendars w es
  pub stretches : (before within after : List Entry) → before ++ within ++ after ≡ es → (c b t : ℕ) →
      IsStretch c b t (replayed w before) within → KeepsStretch c b (replayed w before) within

-- each legal history of each setup and each list of commands for each worker keeps the calendar promise
abbrev pub HistoriesKeepTheCalendarPromise : Type 0
HistoriesKeepTheCalendarPromise =
    (s : Setup) (lists : List (List Command)) (es : List Entry) → IsLegal s lists es → HasCalendarPromise (world_at_start s) es

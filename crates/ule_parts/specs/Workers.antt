-- What a worker of the scheduler keeps where it stands in its program, which events it may ask for, and which commands are valid for it.
use Rattle.std.specs.Prelude.{◌≡◌, ℕ, zero, suc, ◌<◌, is_some, true, false, List, [], ◌∷◌, flat_map, slice_index_or, Option, Some, None}
use Rattle.ule_prio.specs.Class.{is_within}
use Rattle.ule_score.specs.declared.record.ThreadRecord.{ThreadRecord}
use Rattle.ule_types.specs.Commands.{forked_by, is_among, is_command}
use Rattle.ule_types.specs.Rules.{declared_ids}
use Rattle.ule_types.specs.declared.command.Command.{Command}
use Rattle.ule_types.specs.declared.event.Event.{Event}
use Rattle.ule_types.specs.declared.event.Item.TheVariants as item
use Rattle.ule_types.specs.declared.event.Reply.{Reply}
use Rattle.ule_types.specs.declared.setup.Setup.{Setup}
use Rattle.ule_types.specs.Needs.{hatched_by}
use Rattle.ule_model.specs.Events.{Handling, any, empty, unborn, has, handling}
use Rattle.ule_model.specs.Places.{is_number}
use Rattle.ule_program.specs.Groups.{topology_of}
use Rattle.ule_program.specs.Hearing.{CanHear}
use Rattle.ule_program.specs.Laws.{LeadsTo, NamesWhatIs, hatching, time_at}
use Rattle.ule_program.specs.Program.{in_hand, item_at, most, own_of_setup, told_last}
use Rattle.ule_program.specs.declared.own.Own.{Own}
use Rattle.ule_program.specs.declared.stage.Stage.TheVariants.{Ended}
use Rattle.ule_model.specs.WorldValue.{if_thread}
use Rattle.ule_micro.specs.declared.entry.Entry.{Entry}
use Rattle.ule_micro.specs.declared.todo.Todo.TheVariants as todo
use Rattle.ule_micro.specs.Standings.{Journal, Standing, asks, rests}
use Rattle.ule_micro.specs.Standings as standing

-- worker: a worker's own part, which is its program and its hand
pub record Worker : Type 0 where
  pub program : Own
  pub hand : Option ThreadRecord

-- threads hatched: the threads that these entries hatched
abbrev pub threads_hatched : List (Entry Event Reply) → List ℕ
threads_hatched mine = flat_map (λ x. hatched_by x.event) mine

-- threads forked: the threads that these commands fork
abbrev pub threads_forked : List Command → List ℕ
threads_forked given = flat_map forked_by given

-- latest in: the latest time of these entries, the newest first, or the start
abbrev pub latest_in : List (Entry Event Reply) → ℕ
latest_in [] = 20000
latest_in (x ∷ xs) = x.now

-- own at: a worker's program where its next item is found
abbrev pub own_at : Own → Standing Event Reply → Own
own_at own (asks told) = told_last told own
own_at own (standing.has x) = own
own_at own rests = own

-- left at: the greatest number of items that are left of the command
abbrev pub left_at : Own → Standing Event Reply → ℕ
left_at own (asks told) = most (told_last told own)
left_at own (standing.has (todo.Event e)) = most own
left_at own (standing.has (todo.Advance k)) = 1
left_at own rests = 0

-- is item: the item that a worker was given is that of its stage, and what it is told it can hear
abbrev pub IsItem : Own → Standing Event Reply → Type 0
IsItem own (asks told) = CanHear told own
IsItem own (standing.has (todo.Event e)) = item_at own.stage ≡ Some (item.Event e)
IsItem own (standing.has (todo.Advance k)) = (own.stage ≡ Ended) × (is_within 1 1000000 k ≡ true)
IsItem own rests = own.stage ≡ Ended

module _ (s : Setup) where
  -- declared ids of: the numbers of the declared threads
  abbrev pub declared_ids_of : List ℕ
  declared_ids_of = declared_ids s.threads s.unborn

  -- forks of: the threads that a worker's script forks
  abbrev pub forks_of : ℕ → List ℕ
  forks_of w = threads_forked (slice_index_or s.scripts w [])

  -- hand fits: the hand is as the event needs it; a thread to hatch is one that the worker's script forks, and not yet hatched
  abbrev pub HandFits : ℕ → List (Entry Event Reply) → Option ThreadRecord → Handling → Type 0
  HandFits w mine hand any = Unit {0}
  HandFits w mine hand empty = hand ≡ None
  HandFits w mine hand (unborn t) = (hand ≡ None) × (is_among (forks_of w) t ≡ true) × (is_among (threads_hatched mine) t ≡ false)
  HandFits w mine hand (has t) = is_some (if_thread t hand) ≡ true

  -- asks for: a worker with these own entries and this hand may ask for the event
  pub record AsksFor (w : ℕ) (mine : List (Entry Event Reply)) (hand : Option ThreadRecord) (e : Event) : Type 0 where
    pub below : w < s.cpus
    pub names : NamesWhatIs (is_among declared_ids_of) s.cpus e
    pub fits : HandFits w mine hand (handling e)

  -- stands at: what a worker with this hand keeps where its next item is found, with the commands begun and the entries made so far
  pub record StandsAt (j : Journal Event Reply Command) (w : ℕ) (hand : Option ThreadRecord) (own : Own) : Type 0 where
    pub below : w < s.cpus
    pub hand_is : (t : ℕ) → is_some (if_thread t hand) ≡ is_number t (in_hand own.stage)
    pub come : LeadsTo (is_among declared_ids_of) w (topology_of s.cpus s.groups) (latest_in j.mine) (most own) (time_at own.stage) (hatching own.stage) (in_hand own.stage) own
    pub forks : (t : ℕ) → is_among (hatching own.stage) t ≡ true
        → (is_among (forks_of w) t ≡ true) × (is_among (threads_forked j.given) t ≡ true) × (is_among (threads_hatched j.mine) t ≡ false)
    pub given : (t : ℕ) → is_among (threads_hatched j.mine) t ≡ true → is_among (threads_forked j.given) t ≡ true

  -- stands: what a worker keeps where it stands
  abbrev pub Stands : Journal Event Reply Command → Worker → Standing Event Reply → Type 0
  Stands j o at = StandsAt j o.program.worker o.hand (own_at o.program at) × IsItem o.program at

  -- is valid: the command is one of the setup's, and a thread that it forks is one that the worker's script forks, and was not forked before
  pub record IsValid (w : ℕ) (given : List Command) (c : Command) : Type 0 where
    pub command : is_command declared_ids_of s.cpus c ≡ true
    pub forks : (t : ℕ) → is_among (forked_by c) t ≡ true → (is_among (forks_of w) t ≡ true) × (is_among (threads_forked given) t ≡ false)

  -- owns from: the own parts of so many workers at the start, the first being of this number
  abbrev pub owns_from : ℕ → ℕ → List Worker
  owns_from w zero = []
  owns_from w (suc n) = record { program = own_of_setup s w; hand = None } ∷ owns_from (suc w) n

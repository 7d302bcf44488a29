-- What the scheduler of one napping thread means.
use Rattle.std.specs.Prelude.{◌≡◌, ℕ, ◌^◌, ◌<◌, ◌==◌, Bool, true, false, List, [], ◌∷◌, replicate, Option, Some, None, if◌then◌else◌}
use Rattle.ule_micro.specs.declared.todo.Todo.{Todo}
use Rattle.ule_micro.specs.declared.todo.Todo.TheVariants as todo
use Rattle.ule_micro.specs.declared.word.WordChange.{WordChange}
use Rattle.ule_micro.specs.declared.word.WordChange.TheVariants.{Block, Point}
use Rattle.ule_micro.specs.declared.locks.TheConstants.{LIMBO}
use Rattle.ule_micro.specs.Standings.{Acted, Standing, asks, has, rests}
use Rattle.ule_micro.specs.Means.{Means, Needs, one, lock_of}
use Rattle.ule_micro_rows.specs.declared.nap.Spot.{Spot}
use Rattle.ule_micro_rows.specs.declared.nap.Spot.TheVariants.{Empty, Awake, Asleep}
use Rattle.ule_micro_rows.specs.declared.nap.Act.{Act}
use Rattle.ule_micro_rows.specs.declared.nap.Act.TheVariants.{Doze, Bed, Rouse, Land}
use Rattle.ule_micro_rows.specs.declared.nap.Answer.{Answer}
use Rattle.ule_micro_rows.specs.declared.nap.Answer.TheVariants.{Left, Stayed, Came}
use Rattle.ule_micro_rows.specs.declared.nap.Wish.{Wish}
use Rattle.ule_micro_rows.specs.declared.nap.Wish.TheVariants.{Sleep, Wake, Wait}
use Rattle.ule_micro_rows.specs.declared.nap.Stage.{Stage}
use Rattle.ule_micro_rows.specs.declared.nap.Stage.TheVariants.{Rested, Begun, Dozed, Roused}
use Rattle.ule_micro_rows.specs.declared.nap.Napper.{Napper}

-- is declared: the one thread is thread 0
abbrev pub is_declared : ℕ → Bool
is_declared t = t == 0

-- stands in: the thread stands under a lock whose value is not empty
abbrev pub stands_in : Spot → ℕ → Bool
stands_in Empty t = false
stands_in Awake t = t == 0
stands_in Asleep t = t == 0

-- stands here: the thread stands under a lock whose value is not empty
abbrev pub stands_here : Spot → Bool
stands_here Empty = false
stands_here Awake = true
stands_here Asleep = true

-- carried in: the thread is in a hand that is full
abbrev pub carried_in : Bool → ℕ → Bool
carried_in false t = false
carried_in true t = t == 0

-- nap needs: the lock of the queue or of the chain, or that of the thread's place
abbrev pub nap_needs : Act → Needs
nap_needs Doze = one 0
nap_needs Bed = one 16
nap_needs Rouse = lock_of 0
nap_needs Land = one 0

-- needs hand: whether an event needs the thread in hand, or else an empty hand
abbrev pub needs_hand : Act → Bool
needs_hand Doze = false
needs_hand Bed = true
needs_hand Rouse = false
needs_hand Land = true

-- acted: an event on the hand and on what stands under its lock
abbrev pub acted : Act → Bool → Spot → Bool × Spot × Answer
acted Doze hand Empty = (hand, Empty, Stayed)
acted Doze hand Awake = (true, Empty, Left)
acted Doze hand Asleep = (hand, Asleep, Stayed)
acted Bed hand spot = (false, Asleep, Came)
acted Rouse hand Empty = (hand, Empty, Stayed)
acted Rouse hand Awake = (hand, Awake, Stayed)
acted Rouse hand Asleep = (true, Empty, Left)
acted Land hand spot = (false, Awake, Came)

-- act under one: an event on the hand and on the one value under its lock
abbrev pub act_under_one : Bool × Spot × Answer → Acted Bool Spot Answer
act_under_one left = record { hand = left.0; values = left.1 ∷ []; reply = left.2 }

-- nap act: an event under one lock; none is under two
abbrev pub nap_act : Act → Bool → List Spot → Acted Bool Spot Answer
nap_act e hand [] = record { hand = hand; values = []; reply = Stayed }
nap_act e hand (v ∷ []) = act_under_one (acted e hand v)
nap_act e hand (v ∷ u ∷ us) = record { hand = hand; values = v ∷ u ∷ us; reply = Stayed }

-- change: a thread that left is to be blocked, and one that came to be pointed to its lock
abbrev pub change : Act → Answer → Option WordChange
change e Left = Some (Block 0)
change e Stayed = None
change Doze Came = None
change Bed Came = Some (Point 0 16)
change Rouse Came = None
change Land Came = Some (Point 0 0)

-- nap orders: the commands of worker 0, and those of the other
abbrev pub nap_orders : ℕ → List Wish
nap_orders w = (if w == 0 then Sleep ∷ Wait ∷ [] else Wake ∷ [])

-- greatest items: the items of a command, at most
abbrev pub greatest_items : Wish → ℕ
greatest_items Sleep = 2
greatest_items Wake = 2
greatest_items Wait = 1

-- told left: the last event took the thread into the hand
abbrev pub told_left : Option (Answer × ℕ) → Bool
told_left None = false
told_left (Some (Left, now)) = true
told_left (Some (Stayed, now)) = false
told_left (Some (Came, now)) = false

-- nap item: the next item of a command that stands there
abbrev pub nap_item : Stage → Option (Answer × ℕ) → Option (Todo Act)
nap_item Rested told = None
nap_item (Begun Sleep) told = Some (todo.Event Doze)
nap_item (Begun Wake) told = Some (todo.Event Rouse)
nap_item (Begun Wait) told = Some (todo.Advance 5)
nap_item Dozed told = (if told_left told then Some (todo.Event Bed) else None)
nap_item Roused told = (if told_left told then Some (todo.Event Land) else None)

-- nap stage after: where the command stands then
abbrev pub nap_stage_after : Stage → Stage
nap_stage_after Rested = Rested
nap_stage_after (Begun Sleep) = Dozed
nap_stage_after (Begun Wake) = Roused
nap_stage_after (Begun Wait) = Rested
nap_stage_after Dozed = Rested
nap_stage_after Roused = Rested

-- full: whether a worker that stands there has the thread in hand
abbrev pub full : Stage → Standing Act Answer → Bool
full Rested (asks told) = false
full (Begun order) (asks told) = false
full Dozed (asks told) = told_left told
full Roused (asks told) = told_left told
full stage (has (todo.Event e)) = needs_hand e
full stage (has (todo.Advance k)) = false
full stage rests = false

-- nap most: the items that are still to come of the present command, at most
abbrev pub nap_most : Stage → Standing Act Answer → ℕ
nap_most Rested (asks told) = 0
nap_most (Begun order) (asks told) = greatest_items order
nap_most Dozed (asks told) = 1
nap_most Roused (asks told) = 1
nap_most stage (has (todo.Event Doze)) = 2
nap_most stage (has (todo.Event Bed)) = 1
nap_most stage (has (todo.Event Rouse)) = 2
nap_most stage (has (todo.Event Land)) = 1
nap_most stage (has (todo.Advance k)) = 1
nap_most stage rests = 0

-- is stage behind: the stage is the one behind this item
abbrev pub IsStageBehind : Stage → Standing Act Answer → Type 0
IsStageBehind stage (asks told) = Unit {0}
IsStageBehind stage (has (todo.Event Doze)) = stage ≡ Dozed
IsStageBehind stage (has (todo.Event Bed)) = stage ≡ Rested
IsStageBehind stage (has (todo.Event Rouse)) = stage ≡ Roused
IsStageBehind stage (has (todo.Event Land)) = stage ≡ Rested
IsStageBehind stage (has (todo.Advance k)) = (stage ≡ Rested) × (k ≡ 5)
IsStageBehind stage rests = Unit {0}

-- napper: a worker's own part
abbrev pub napper : ℕ → Stage → Bool → Napper
napper number stage hand = record { number = number; stage = stage; hand = hand }

-- nap means: one thread that naps
abbrev pub nap_means : Means Bool Napper Spot Act Answer Wish
nap_means = record {
  declared = is_declared;
  stands_in = stands_in;
  carried_in = carried_in;
  values = Awake ∷ replicate 24 Empty;
  owns = napper 0 Rested false ∷ napper 1 Rested false ∷ [];
  word = λ t. (if is_declared t then 0 else LIMBO);
  budget = λ w. (if w == 0 then 3 else 2);
  number = λ own. own.number;
  hand = λ own. own.hand;
  with_hand = λ own hand. napper own.number own.stage hand;
  needs = nap_needs;
  asks = λ w mine hand e. hand ≡ needs_hand e;
  may = λ w e now hand guarded. (hand ≡ needs_hand e) × (now < 2 ^ 36);
  act = λ w e now hand guarded. nap_act e hand guarded;
  change = change;
  valid = λ w given order. Unit {0};
  charge = λ w order. greatest_items order;
  stands = λ j own standing. (own.hand ≡ full own.stage standing) × IsStageBehind own.stage standing;
  left = λ own standing. nap_most own.stage standing;
  begins = λ own order. Unit {0};
  begin = λ own order. napper own.number (Begun order) own.hand;
  goes_on = λ own told. Unit {0};
  next = λ own told. (nap_item own.stage told, napper own.number (nap_stage_after own.stage) own.hand);
}

-- What the scheduler of one shifting thread means.
use Rattle.std.specs.Prelude.{◌≡◌, ℕ, ◌^◌, ◌<◌, ◌==◌, Bool, true, false, List, [], ◌∷◌, replicate, Option, Some, None, if◌then◌else◌}
use Rattle.ule_micro.specs.declared.todo.Todo.{Todo}
use Rattle.ule_micro.specs.declared.todo.Todo.TheVariants as todo
use Rattle.ule_micro.specs.declared.word.WordChange.{WordChange}
use Rattle.ule_micro.specs.declared.word.WordChange.TheVariants as change
use Rattle.ule_micro.specs.declared.locks.TheConstants.{LIMBO}
use Rattle.ule_micro.specs.Standings.{Acted, Standing, asks, has, rests}
use Rattle.ule_micro.specs.Means.{Means, Needs, both, lock_of}
use Rattle.ule_micro.specs.Laws.{AreRising}
use Rattle.ule_micro_rows.specs.declared.shift.Move.{Move}
use Rattle.ule_micro_rows.specs.declared.shift.Move.TheVariants.{Shift, Look}
use Rattle.ule_micro_rows.specs.declared.shift.Place.{Place}
use Rattle.ule_micro_rows.specs.declared.shift.Place.TheVariants.{First, Second, Same}
use Rattle.ule_micro_rows.specs.declared.shift.Point.{Point}
use Rattle.ule_micro_rows.specs.declared.shift.Point.TheVariants.{Over, Ready}
use Rattle.ule_micro_rows.specs.declared.shift.Mover.{Mover}

-- is here: the one thread, thread 0, is there where this says so
abbrev pub is_here : Bool → ℕ → Bool
is_here false t = false
is_here true t = t == 0

-- shift needs: the locks of both queues, or that of the thread's place
abbrev pub shift_needs : Move → Needs
shift_needs (Shift a b) = both a b
shift_needs Look = lock_of 0

-- shifted: the thread goes from the queue where it stands to the other
abbrev pub shifted : Bool → Bool → Bool → Bool × Bool × Bool × Place
shifted hand true u = (hand, false, true, Second)
shifted hand false true = (hand, true, false, First)
shifted hand false false = (hand, false, false, Same)

-- act under both: an event on the hand and on the two values under its locks
abbrev pub act_under_both : Bool × Bool × Bool × Place → Acted Bool Bool Place
act_under_both left = record { hand = left.0; values = left.1 ∷ left.2 ∷ []; reply = left.3 }

-- shift act: under two locks the thread is shifted, and under one nothing changes
abbrev pub shift_act : Bool → List Bool → Acted Bool Bool Place
shift_act hand [] = record { hand = hand; values = []; reply = Same }
shift_act hand (v ∷ []) = record { hand = hand; values = v ∷ []; reply = Same }
shift_act hand (v ∷ u ∷ us) = act_under_both (shifted hand v u)

-- word change: the thread's word is to be pointed to the lock of the queue that it went to
abbrev pub word_change : Move → Place → Option WordChange
word_change (Shift a b) First = Some (change.Point 0 a)
word_change (Shift a b) Second = Some (change.Point 0 b)
word_change (Shift a b) Same = None
word_change Look reply = None

-- again: a move 512 times
unfoldable pub again : Move → List Move
again e = replicate 512 e

-- shift orders: worker 0 shifts again and again, and the other looks, shifts once, and looks again and again
abbrev pub shift_orders : ℕ → List Move
shift_orders w = (if w == 0 then again (Shift 0 1) else Look ∷ Shift 0 1 ∷ again Look)

-- shift item: the event of a command that was begun
abbrev pub shift_item : Point → Option (Todo Move)
shift_item Over = None
shift_item (Ready e) = Some (todo.Event e)

-- mover: a worker's own part
abbrev pub mover : ℕ → Point → Bool → Mover
mover number point hand = record { number = number; point = point; hand = hand }

-- is point behind: the point is the one behind an event, whose locks rise as those of the command do, and no item raises the time
abbrev pub IsPointBehind : Point → Standing Move Place → Type 0
IsPointBehind Over (asks told) = Unit {0}
IsPointBehind (Ready e) (asks told) = AreRising (shift_needs e)
IsPointBehind point (has (todo.Event e)) = (point ≡ Over) × AreRising (shift_needs e)
IsPointBehind point (has (todo.Advance k)) = ⊥
IsPointBehind point rests = Unit {0}

-- shift most: the items that are still to come of the present command, at most
abbrev pub shift_most : Point → Standing Move Place → ℕ
shift_most Over (asks told) = 0
shift_most (Ready e) (asks told) = 1
shift_most point (has x) = 1
shift_most point rests = 0

-- shift means: one thread that is shifted, by events some of which name queues that there are not
abbrev pub shift_means : Means Bool Mover Bool Move Place Move
shift_means = record {
  declared = λ t. t == 0;
  stands_in = is_here;
  carried_in = is_here;
  values = true ∷ replicate 24 false;
  owns = mover 0 Over false ∷ mover 1 Over false ∷ [];
  word = λ t. (if t == 0 then 0 else LIMBO);
  budget = λ w. (if w == 0 then 512 else 514);
  number = λ own. own.number;
  hand = λ own. own.hand;
  with_hand = λ own hand. mover own.number own.point hand;
  needs = shift_needs;
  asks = λ w mine hand e. (hand ≡ false) × AreRising (shift_needs e);
  may = λ w e now hand guarded. (hand ≡ false) × (now < 2 ^ 36) × AreRising (shift_needs e);
  act = λ w e now hand guarded. shift_act hand guarded;
  change = word_change;
  valid = λ w given order. AreRising (shift_needs order);
  charge = λ w order. 1;
  stands = λ j own standing. (own.hand ≡ false) × IsPointBehind own.point standing;
  left = λ own standing. shift_most own.point standing;
  begins = λ own order. Unit {0};
  begin = λ own order. mover own.number (Ready order) own.hand;
  goes_on = λ own told. Unit {0};
  next = λ own told. (shift_item own.point, mover own.number Over own.hand);
}

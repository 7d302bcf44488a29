-- What an event does to the values under its locks and to the worker's hand, and what it needs, in the step model's words.
use Rattle.std.specs.Prelude.{◌≡◌, ℕ, ◌+◌, ◌%◌, min, max, Bool, true, false, nat_lt, List, [], ◌∷◌, slice_get, Option, Some, None}
use Rattle.ule_score.specs.declared.record.Settings.{Settings}
use Rattle.ule_score.specs.declared.record.ThreadRecord.{ThreadRecord}
use Rattle.ule_types.specs.declared.event.Event.{Event}
use Rattle.ule_types.specs.declared.event.Item.{Item}
use Rattle.ule_types.specs.declared.event.Item.TheVariants as item
use Rattle.ule_types.specs.declared.event.Reply.{Reply}
use Rattle.ule_types.specs.declared.event.Reply.TheVariants.{Nothing}
use Rattle.ule_model.specs.Events.{Locking, queue, queues, chain, limbo, place_of, locking}
use Rattle.ule_model.specs.LockValue.{LockValue}
use Rattle.ule_model.specs.Step.{PairStepped, Stepped, lock_step, pair_step}
use Rattle.ule_model.specs.Words as words
use Rattle.ule_micro.specs.declared.entry.HeldLocks.{HeldLocks}
use Rattle.ule_micro.specs.declared.entry.HeldLocks.TheVariants.{One, Two}
use Rattle.ule_micro.specs.declared.locks.TheConstants.{LIMBO}
use Rattle.ule_micro.specs.declared.todo.Todo.{Todo}
use Rattle.ule_micro.specs.declared.todo.Todo.TheVariants as todo
use Rattle.ule_micro.specs.declared.word.WordChange.{WordChange}
use Rattle.ule_micro.specs.declared.word.WordChange.TheVariants.{Block, Point}
use Rattle.ule_micro.specs.Means.{Needs, one, both, lock_of}
use Rattle.ule_micro.specs.Standings.{Acted}

-- todo of: an item as the step model has it
abbrev pub todo_of : Option Item → Option (Todo Event)
todo_of None = None
todo_of (Some (item.Event e)) = Some (todo.Event e)
todo_of (Some (item.Advance k)) = Some (todo.Advance k)

-- needs of: the locks that an event takes, as the step model has them
abbrev pub needs_of : Locking → Needs
needs_of (queue c) = one c
needs_of (queues a b) = both (min a b) (max a b)
needs_of (chain channel) = one (16 + channel % 8)
needs_of limbo = one LIMBO
needs_of (place_of t) = lock_of t

-- word change of: a change of a word as the step model has it
abbrev pub word_change_of : Option words.WordChange → Option WordChange
word_change_of None = None
word_change_of (Some (words.block t)) = Some (Block t)
word_change_of (Some (words.point t l)) = Some (Point t l)

-- acted under one: what an event leaves of the hand and of one value, with its reply
abbrev pub acted_under_one : Stepped → Acted (Option ThreadRecord) LockValue Reply
acted_under_one made = record { hand = made.hand; values = made.value ∷ []; reply = made.reply }

-- names lower first: whether of two locks that an event names the first has the lower number
abbrev pub names_lower_first : Locking → Bool
names_lower_first (queues a b) = nat_lt a b
names_lower_first k = true

-- acted under two: what an event leaves of the hand and of the values of the two locks that it names, with its reply; the lower lock's value is first
abbrev pub acted_under_two : Bool → PairStepped → Acted (Option ThreadRecord) LockValue Reply
acted_under_two true made = record { hand = made.hand; values = made.from ∷ made.to ∷ []; reply = made.reply }
acted_under_two false made = record { hand = made.hand; values = made.to ∷ made.from ∷ []; reply = made.reply }

-- act under two: what an event of a worker does at a time to the hand and to the values of two locks, the lower lock's first, where it names the lower first or not
abbrev pub act_under_two : Bool → ℕ → Event → ℕ → Option ThreadRecord → LockValue → LockValue → Acted (Option ThreadRecord) LockValue Reply
act_under_two true w e now hand low high = acted_under_two true (pair_step w e now hand low high)
act_under_two false w e now hand low high = acted_under_two false (pair_step w e now hand high low)

-- act on: what an event of a worker does at a time to the hand and to the values under its locks
abbrev pub act_on : Settings → ℕ → Event → ℕ → Option ThreadRecord → List LockValue → Acted (Option ThreadRecord) LockValue Reply
act_on settings w e now hand [] = record { hand = hand; values = []; reply = Nothing }
act_on settings w e now hand (v ∷ []) = acted_under_one (lock_step settings w e now hand v)
act_on settings w e now hand (v ∷ u ∷ us) = act_under_two (names_lower_first (locking e)) w e now hand v u

-- lock list: the locks that are held, in rising number
abbrev pub lock_list : HeldLocks → List ℕ
lock_list (One a) = a ∷ []
lock_list (Two a b) = a ∷ b ∷ []

-- are at: these values stand under these locks
abbrev pub AreAt : List LockValue → List ℕ → List LockValue → Type 0
AreAt values [] [] = Unit {0}
AreAt values [] (v ∷ vs) = ⊥
AreAt values (l ∷ ls) [] = ⊥
AreAt values (l ∷ ls) (v ∷ vs) = (slice_get values l ≡ Some v) × AreAt values ls vs

-- How a worker goes through its program: the commands that it begins, and the items that they bring.
use Rattle.std.specs.Prelude.{◌≡◌, ℕ, ◌+◌, ◌<◌, ◌≤◌, List, [], ◌∷◌, ◌++◌, Option, Some, None}
use Rattle.std.specs.List.{AllByRecursion}
use Rattle.ule_micro.specs.declared.todo.Todo.TheVariants.{Advance, Event}
use Rattle.ule_micro.specs.Means.{Means, one}
use Rattle.ule_micro.specs.Standings.{Journal, Standing, asks, has, rests, standing_with}
use Rattle.ule_words.specs.Passes.{PassState}
use Rattle.ule_words.specs.declared.log.Numbered.{Numbered}

-- point: where a worker stands in its program, with its own part, its entries, the newest first, each with what it had advanced before it, and what it advanced so far
pub record Point (O E R : Type 0) : Type 0 where
  pub own : O
  pub standing : Standing E R
  pub mine : List (ℕ × Numbered E R)
  pub advanced : ℕ

module _ {O H G E R : Type 0} where
  -- point of: the point of a pass whose worker stands there
  abbrev pub point_of : PassState O H G E R → Standing E R → Point O E R
  point_of p standing = record { own = p.own; standing = standing; mine = p.worker.mine; advanced = p.worker.advanced }

module _ {O E R : Type 0} where
  -- opening point: before the first command
  abbrev pub opening_point : O → Point O E R
  opening_point own = record { own = own; standing = rests; mine = []; advanced = 0 }

module _ {H O G E R C : Type 0} (m : Means H O G E R C) where
  -- point begun: the worker began a command
  abbrev pub point_begun : C → Point O E R → Point O E R
  point_begun c at = record at { own = m.begin at.own c; standing = asks None }

  -- point answered: the worker was told its next item
  abbrev pub point_answered : Option (R × ℕ) → Point O E R → Point O E R
  point_answered told at = record at { own = (m.next at.own told).1; standing = standing_with (m.next at.own told).0 }

  -- point advanced: the worker advanced now by k hz ticks
  abbrev pub point_advanced : ℕ → Point O E R → Point O E R
  point_advanced k at = record at { standing = asks None; advanced = at.advanced + k }

  -- point performed: the worker made an entry, which left this hand
  abbrev pub point_performed : H → Numbered E R → Point O E R → Point O E R
  point_performed hand x at = record { own = m.with_hand at.own hand; standing = asks (Some (x.entry.reply, x.entry.now)); mine = (at.advanced, x) ∷ at.mine; advanced = at.advanced }

  -- runs: from one point a worker came to another by its program, began these commands, the newest first, and performed so many items
  pub data Runs (from : Point O E R) : List C → ℕ → Point O E R → Type 0 where
    stays : Runs from [] 0 from
    begins : {given : List C} {items : ℕ} {at : Point O E R} (c : C) → Runs from given items at → at.standing ≡ rests → Runs from (c ∷ given) items (point_begun c at)
    answers : {given : List C} {items : ℕ} {at : Point O E R} (told : Option (R × ℕ)) → Runs from given items at → at.standing ≡ asks told → Runs from given items (point_answered told at)
    advances : {given : List C} {items : ℕ} {at : Point O E R} (k : ℕ) → Runs from given items at → at.standing ≡ has (Advance k) → Runs from given (items + 1) (point_advanced k at)
    performs : {given : List C} {items : ℕ} {at : Point O E R} (hand : H) (x : Numbered E R) → Runs from given items at → at.standing ≡ has (Event x.entry.event)
        → Runs from given (items + 1) (point_performed hand x at)

module _ {E R : Type 0} where
  -- newest reply: the reply of the newest of these entries
  abbrev pub newest_reply : List (ℕ × Numbered E R) → Option R
  newest_reply [] = None
  newest_reply (x ∷ more) = Some x.1.entry.reply

-- has run: the pass ran the command to its end. Its own entries are those before and behind them those of the command's program, in order and once each, with numbers above all that it had seen;
-- its answer is the reply of the last one, and its allowance fell by the items that it performed, which are at most those charged
pub record HasRun {H O G E R C : Type 0} (m : Means H O G E R C) (c : C) (p : PassState O H G E R) (answer : Option R) (q : PassState O H G E R) : Type 0 where
  pub items : ℕ
  pub runs : Runs m (point_of p rests) (c ∷ []) items (point_of q rests)
  pub more : List (ℕ × Numbered E R)
  pub adds : q.worker.mine ≡ more ++ p.worker.mine
  pub above : AllByRecursion (λ x. p.worker.seen < x.1.number) more
  pub seen : p.worker.seen ≤ q.worker.seen
  pub answers : answer ≡ newest_reply more
  pub left : q.worker.allowance + items ≡ p.worker.allowance
  pub few : items ≤ m.charge (m.number p.own) c
  pub table : q.table ≡ p.table
  pub number : q.worker.number ≡ p.worker.number

module _ {H O G E R C : Type 0} (m : Means H O G E R C) where
  -- counts events: where a worker has an event to perform, the items that are left of its command are one at least
  abbrev pub CountsEvents : Type 0
  CountsEvents = (j : Journal E R C) (o : O) (e : E) → m.stands j o (has (Event e)) → 1 ≤ m.left o (has (Event e))

  -- is one under: of a worker with this own part the command is one event under this lock
  pub record IsOneUnder (l : ℕ) (c : C) (o : O) : Type 0 where
    pub event : E
    pub item : (m.next (m.begin o c) None).0 ≡ Some (Event event)
    pub needs : (e : E) → (m.next (m.begin o c) None).0 ≡ Some (Event e) → m.needs e ≡ one l
    pub last : (hand : H) (told : R × ℕ) → (m.next (m.with_hand (m.next (m.begin o c) None).1 hand) (Some told)).0 ≡ None

-- A pass: what a contract sees of it, and how what lies in it agrees with what its seat knows.
use Rattle.std.specs.Prelude.{◌≡◌, ◌≢◌, ℕ, ◌+◌, ◌≤◌, ◌<◌, List, [], ◌∷◌, ◌++◌, length, map, reverse, Option, Some, None}
use Rattle.atomic_table.specs.Seated.{TableId}
use Rattle.atomic_table.specs.Table.{Me}
use Rattle.ule_micro.specs.declared.entry.HeldLocks.{HeldLocks}
use Rattle.ule_micro.specs.declared.locks.TheConstants.{LOCKS}
use Rattle.ule_words.specs.Held.{value_held}
use Rattle.ule_words.specs.Workers.{numbered_in, one}
use Rattle.ule_words.specs.declared.holding.Held.{Held}
use Rattle.ule_words.specs.declared.holding.Holding.{Holding}
use Rattle.ule_words.specs.declared.log.Numbered.{Numbered}
use Rattle.ule_words.specs.declared.view.View.{View}
use Rattle.ule_words.specs.declared.view.Worker.{Worker}

-- pass state: the table that a pass is of, its worker's own part, and what it knows
pub record PassState (O H G E R : Type 0) : Type 0 where
  pub table : TableId
  pub own : O
  pub worker : Worker H G E R

-- log state: a list of entries, and how many there is room for
pub record LogState (T : Type 0) : Type 0 where
  pub items : List T
  pub room : ℕ

-- in field: a lock that is held, if there is one, with its value
abbrev pub in_field : {G : Type 0} → Option (Held G) → List (ℕ × G)
in_field None = []
in_field (Some x) = (x.lock, x.value) ∷ []

-- in fields: the locks that are held, with their values, the lock that was taken last first
abbrev pub in_fields : {G : Type 0} → Holding G → List (ℕ × G)
in_fields h = in_field h.last ++ in_field h.first

-- slots out: the slots of these locks, empty, since their values are with the holder
abbrev pub slots_out : {G : Type 0} → List (ℕ × G) → List (ℕ × Option G)
slots_out held = map (λ x. (x.0, None)) held

module _ {H G E R : Type 0} where
  -- nothing known: a worker of which nothing is known
  abbrev pub nothing_known : ℕ → H → Worker H G E R
  nothing_known w hand = record { number = w; hand = hand; held = []; pending = None; read = None; advanced = 0; allowance = 0; mine = []; seen = 0 }

  -- first or: the first worker, or this one where there is none
  abbrev pub first_or : Worker H G E R → List (Worker H G E R) → Worker H G E R
  first_or other [] = other
  first_or other (p ∷ ps) = p

  -- pass state of: a pass with this table, number, hand and own part, by what its seat knows
  abbrev pub pass_state_of : {O : Type 0} → TableId → ℕ → H → O → Me (Option G) (View H G E R) → PassState O H G E R
  pass_state_of table w hand own me = record { table = table; own = own; worker = first_or (nothing_known w hand) me.0.workers }

  -- is tied: what lies in a pass is what its seat knows
  pub record IsTied (w left last_time : ℕ) (carried : H) (of_part : ℕ) (holding : Holding G) (list : LogState (Numbered E R)) (me : Me (Option G) (View H G E R)) : Type 0 where
    pub worker : Worker H G E R
    -- the seat knows this worker alone, and has taken the slots of the locks that it holds
    pub view : me ≡ (one worker, slots_out worker.held)
    pub number : worker.number ≡ w
    -- its own part is its worker's
    pub part : of_part ≡ w
    pub hand : worker.hand ≡ carried
    pub allowance : worker.allowance ≡ left
    pub time : (r : HeldLocks × ℕ) → worker.read ≡ Some r → r.1 ≡ last_time
    pub held : worker.held ≡ in_fields holding
    -- its list has its entries, the oldest first, and room for all that its allowance admits
    pub log : list.items ≡ reverse (map numbered_in worker.mine)
    pub room : length list.items + left ≤ list.room
    -- of its two fields the first is used first, and no lock is in both
    pub order : holding.last ≡ None → holding.first ≡ None
    pub apart : (x y : Held G) → holding.last ≡ Some x → holding.first ≡ Some y → x.lock ≢ y.lock
    pub low : (l : ℕ) (v : G) → value_held worker.held l ≡ Some v → l < LOCKS

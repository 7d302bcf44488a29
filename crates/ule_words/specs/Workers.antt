-- What a pass knows of its worker, and how it agrees with what the workers share.
use Rattle.std.specs.Prelude.{◌≡◌, ℕ, ◌+◌, ◌-◌, ◌≤◌, ◌==◌, List, [], ◌∷◌, length, map, Option, Some, None, slice_get, if◌then◌else◌}
use Rattle.ule_micro.specs.declared.entry.Entry.{Entry}
use Rattle.ule_micro.specs.declared.entry.HeldLocks.{HeldLocks}
use Rattle.ule_micro.specs.Histories.{entry_made}
use Rattle.ule_micro.specs.Means.{Means}
use Rattle.ule_micro.specs.Standings.{Acted}
use Rattle.ule_micro.specs.Shared.{Shared, Stamped, TimeRead}
use Rattle.ule_words.specs.Held.{value_held, is_held, held_but, held_values, held_with, locks_of}
use Rattle.ule_words.specs.declared.log.Numbered.{Numbered}
use Rattle.ule_words.specs.declared.view.View.{View}
use Rattle.ule_words.specs.declared.view.Worker.{Worker}

module _ {E R : Type 0} where
  -- made by: the entries of one worker in a history, the newest first, each with what the worker had advanced before it, and with its number, which is the ticket after its commit
  abbrev pub made_by : ℕ → List (Stamped E R) → List (ℕ × Numbered E R)
  made_by w [] = []
  made_by w (x ∷ h) = (if x.entry.worker == w then (x.amount, record { number = length h + 1; entry = x.entry }) ∷ made_by w h else made_by w h)

  -- numbered in: an entry with its number, without what its worker had advanced
  abbrev pub numbered_in : ℕ × Numbered E R → Numbered E R
  numbered_in x = x.1

  -- entries in: entries without their numbers
  abbrev pub entries_in : List (ℕ × Numbered E R) → List (Entry E R)
  entries_in mine = map (λ x. x.1.entry) mine

-- time read: a time, with the locks that it was read under
abbrev pub time_read : Option (HeldLocks × ℕ) → Option TimeRead
time_read None = None
time_read (Some r) = Some (record { locks = r.0; now = r.1 })

-- read under: a time that was read under locks, or under none, where it tells nothing
abbrev pub read_under : Option HeldLocks → ℕ → Option (HeldLocks × ℕ)
read_under None now = None
read_under (Some locks) now = Some (locks, now)

module _ {H G E R : Type 0} where
  -- one: what a seat knows that has one worker
  abbrev pub one : Worker H G E R → View H G E R
  one p = record { workers = p ∷ [] }

  -- knows its part: what a worker knows agrees with the state
  pub record KnowsItsPart (s : Shared H G E R) (p : Worker H G E R) : Type 0 where
    pub hand : slice_get s.hands p.number ≡ Some p.hand
    -- the locks that it holds are those of the state, and it has their values
    pub holds : (l : ℕ) → s.holds p.number l ≡ is_held p.held l
    pub values : (l : ℕ) (v : G) → value_held p.held l ≡ Some v → slice_get s.values l ≡ Some v
    pub pending : s.pending p.number ≡ p.pending
    pub read : s.read p.number ≡ time_read p.read
    pub advanced : slice_get s.advanced p.number ≡ Some p.advanced
    -- its entries are those that the history has of it
    pub mine : p.mine ≡ made_by p.number s.history
    -- the greatest number that it saw is not above the ticket, nor below the number of an entry of its own, before which it had advanced no more than by now
    pub seen : p.seen ≤ s.ticket
    pub numbers : (j : ℕ) (x : ℕ × Numbered E R) → slice_get p.mine j ≡ Some x → (x.1.number ≤ p.seen) × (x.0 ≤ p.advanced)

  -- taking: a worker that took a lock, with the value under it
  abbrev pub taking : Worker H G E R → ℕ → G → Worker H G E R
  taking p l v = record p { held = (l, v) ∷ p.held; read = None }

  -- releasing: a worker that gave a lock back
  abbrev pub releasing : Worker H G E R → ℕ → Worker H G E R
  releasing p l = record p { held = held_but l p.held; read = None }

  -- calm: a worker that stored its pending change
  abbrev pub calm : Worker H G E R → Worker H G E R
  calm p = record p { pending = None }

  -- timed: a worker that read this time, under the locks that it holds
  abbrev pub timed : Worker H G E R → ℕ → Worker H G E R
  timed p now = record p { read = read_under (locks_of p.held) now }

  -- advancing: a worker that advanced now by k hz ticks, which is one of its items
  abbrev pub advancing : Worker H G E R → ℕ → Worker H G E R
  advancing p k = record p { read = None; advanced = p.advanced + k; allowance = p.allowance - 1 }

module _ {H O G E R C : Type 0} (m : Means H O G E R C) where
  -- first worker: what is known of a worker at the start
  abbrev pub first_worker : ℕ → O → Worker H G E R
  first_worker w own = record {
    number = w;
    hand = m.hand own;
    held = [];
    pending = None;
    read = None;
    advanced = 0;
    allowance = m.budget w;
    mine = [];
    seen = 0;
  }

  -- act of: what an event of a worker leaves, on its hand and on the values under the locks that it holds
  abbrev pub act_of : Worker H G E R → E → ℕ → Acted H G R
  act_of p e now = m.act p.number e now p.hand (held_values p.held)

  -- committing: a worker whose event took effect under these locks at this time, as the entry of this number
  abbrev pub committing : Worker H G E R → E → HeldLocks → ℕ → ℕ → Worker H G E R
  committing p e locks now number = record {
    number = p.number;
    hand = (act_of p e now).hand;
    held = held_with p.held (act_of p e now).values;
    pending = m.change e (act_of p e now).reply;
    read = p.read;
    advanced = p.advanced;
    allowance = p.allowance - 1;
    mine = (p.advanced, record { number = number; entry = entry_made p.number e locks now (act_of p e now).reply }) ∷ p.mine;
    seen = number;
  }

  -- first workers: these own parts as workers at the start, from number w on
  abbrev pub first_workers : ℕ → List O → List (Worker H G E R)
  first_workers w [] = []
  first_workers w (own ∷ owns) = first_worker w own ∷ first_workers (w + 1) owns

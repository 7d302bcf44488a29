-- The locks that a worker takes for an event, and what an event is from no lock to no lock.
use Rattle.std.specs.Prelude.{◌≡◌, ℕ, ◌+◌, ◌-◌, ◌<◌, ◌≤◌, List, [], ◌∷◌, Some, None}
use Rattle.ule_micro.specs.Laws.{AreItsLocks}
use Rattle.ule_micro.specs.Means.{Means}
use Rattle.ule_micro.specs.Standings.{asks, has}
use Rattle.ule_micro.specs.declared.entry.HeldLocks.{HeldLocks}
use Rattle.ule_micro.specs.declared.entry.HeldLocks.TheVariants.{One, Two}
use Rattle.ule_micro.specs.declared.todo.Todo.TheVariants.{Event}
use Rattle.ule_words.specs.Held.{held_values}
use Rattle.ule_words.specs.Passes.{PassState}
use Rattle.ule_words.specs.Programs.{StandsAt}
use Rattle.ule_words.specs.declared.log.Numbered.{Numbered}
use Rattle.ule_words.specs.declared.view.Worker.{Worker}

-- are held: of these rising locks the last was taken last, and no other is held
abbrev pub AreHeld : {G : Type 0} → HeldLocks → List (ℕ × G) → Type 0
AreHeld {G} (One a) held = (v : G) × (held ≡ (a, v) ∷ [])
AreHeld {G} (Two a b) held = (v : G) × (u : G) × (a < b) × (held ≡ (b, v) ∷ (a, u) ∷ [])

module _ {H G E R : Type 0} where
  -- holding: a worker that holds these locks, and read no time under them
  abbrev pub holding : Worker H G E R → List (ℕ × G) → Worker H G E R
  holding p held = record p { held = held; read = None }

module _ {H O G E R C : Type 0} (m : Means H O G E R C) where
  -- serve: these locks are held, and are those of the event
  abbrev pub Serve : E → HeldLocks → List (ℕ × G) → Type 0
  Serve e locks held = AreHeld locks held × AreItsLocks m locks (held_values held) (m.needs e)

  -- acts so: the event may be performed with this hand on these values, and so answers
  pub record ActsSo (w : ℕ) (hand : H) (guarded : List G) (e : E) (told : R × ℕ) : Type 0 where
    pub may : m.may w e told.1 hand guarded
    pub is_reply : told.0 ≡ (m.act w e told.1 hand guarded).reply

  -- has performed: the pass, without a lock before and behind it, performed the event, as the newest of its entries, with this reply at this time
  pub record HasPerformed (p : PassState O H G E R) (e : E) (told : R × ℕ) (q : PassState O H G E R) : Type 0 where
    pub hand : H
    pub entry : Numbered E R
    pub event : entry.entry.event ≡ e
    pub is_reply : entry.entry.reply ≡ told.0
    pub time : entry.entry.now ≡ told.1
    pub above : p.worker.seen < entry.number
    pub table : q.table ≡ p.table
    pub own : q.own ≡ m.with_hand p.own hand
    pub worker : q.worker ≡ record {
      number = p.worker.number;
      hand = hand;
      held = [];
      pending = None;
      read = None;
      advanced = p.worker.advanced;
      allowance = p.worker.allowance - 1;
      mine = (p.worker.advanced, entry) ∷ p.worker.mine;
      seen = entry.number;
    }
    -- where the event was the worker's item, it now asks for its next one, with one less to come
    pub stands : (given : List C) → StandsAt m given p (has (Event e)) → StandsAt m given q (asks (Some told)) × (m.left q.own (asks (Some told)) + 1 ≤ m.left p.own (has (Event e)))

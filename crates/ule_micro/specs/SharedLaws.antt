-- What each kind of step keeps of what the workers share.
use Rattle.std.specs.Prelude.{◌≡◌, ℕ, ◌^◌, ◌<◌, true, List, Some, None, slice_get}
use Rattle.ule_micro.specs.declared.entry.HeldLocks.{HeldLocks}
use Rattle.ule_micro.specs.declared.word.Word.TheVariants.{Lock, Blocked}
use Rattle.ule_micro.specs.declared.word.WordChange.TheVariants.{Block, Point}
use Rattle.ule_micro.specs.Standings.{Acted}
use Rattle.ule_micro.specs.Means.{Means}
use Rattle.ule_micro.specs.Histories.{effect_under, is_lock_among, values_under}
use Rattle.ule_micro.specs.Shared.{Agrees, CanCommit, Shared, committed, now_advanced, now_read, lock_released, word_stored, lock_taken}

module _ {H O G E R C : Type 0} (m : Means H O G E R C) where
  -- taking agrees: a worker that takes a free lock keeps agreement
  abbrev pub TakingAgrees : Type 0
  TakingAgrees = (s : Shared H G E R) (w l : ℕ) → Agrees m s → s.locks l ≡ None → Agrees m (lock_taken s w l)

  -- releasing agrees: a worker that gives a lock back, and has no change pending, keeps agreement
  abbrev pub ReleasingAgrees : Type 0
  ReleasingAgrees = (s : Shared H G E R) (w l : ℕ) → Agrees m s → s.holds w l ≡ true → s.pending w ≡ None → Agrees m (lock_released s w l)

  -- blocking agrees: a worker that blocks a word as it has pending keeps agreement
  abbrev pub BlockingAgrees : Type 0
  BlockingAgrees = (s : Shared H G E R) (w t : ℕ) → Agrees m s → s.pending w ≡ Some (Block t) → Agrees m (word_stored s w t Blocked)

  -- pointing agrees: a worker that points a word as it has pending keeps agreement
  abbrev pub PointingAgrees : Type 0
  PointingAgrees = (s : Shared H G E R) (w t l : ℕ) → Agrees m s → s.pending w ≡ Some (Point t l) → Agrees m (word_stored s w t (Lock l))

  -- reading agrees: a worker that reads now under locks that it holds keeps agreement
  abbrev pub ReadingAgrees : Type 0
  ReadingAgrees = (s : Shared H G E R) (w : ℕ) (held : HeldLocks) → Agrees m s → ((l : ℕ) → is_lock_among held l ≡ true → s.holds w l ≡ true) → Agrees m (now_read s w held)

  -- advancing agrees: a worker that advances now keeps agreement
  abbrev pub AdvancingAgrees : Type 0
  AdvancingAgrees = (s : Shared H G E R) (w amount k : ℕ) → Agrees m s → slice_get s.advanced w ≡ Some amount → Agrees m (now_advanced s w amount k)

  -- committing may: an event that a worker can commit may be performed on the values under its locks
  abbrev pub CommittingMay : Type 0
  CommittingMay = (s : Shared H G E R) (w : ℕ) (e : E) (hand : H) (held : HeldLocks) (now amount : ℕ) → Agrees m s → CanCommit m s w e hand held now amount → s.now < 2 ^ 36
      → (guarded : List G) × (values_under held s.values ≡ Some guarded) × m.may w e now hand guarded

  -- committing agrees: a worker whose event takes effect keeps agreement
  abbrev pub CommittingAgrees : Type 0
  CommittingAgrees = (s : Shared H G E R) (w : ℕ) (e : E) (hand : H) (held : HeldLocks) (now amount : ℕ) (after : Acted H G R) → Agrees m s → CanCommit m s w e hand held now amount
      → s.now < 2 ^ 36 → effect_under m w e now hand held s.values ≡ Some after → Agrees m (committed m s w e held now amount after)

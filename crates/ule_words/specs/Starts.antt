-- The words and the passes at the start.
use Rattle.std.specs.Prelude.{◌≡◌, ℕ, ◌+◌, ◌<◌, List, length, Some, slice_get, slice_index}
use Rattle.atomic_table.specs.Seated.{TableId}
use Rattle.ule_micro.specs.declared.locks.TheConstants.{LOCKS, THREADS}
use Rattle.ule_micro.specs.Means.{Means}
use Rattle.ule_words.specs.Passes.{PassState}
use Rattle.ule_words.specs.Workers.{first_worker}
use Rattle.ule_words.specs.declared.view.TheConstants.{NOW, TICKET, WORDS}

module _ {H O G E R C : Type 0} (m : Means H O G E R C) where
  -- are first words: all locks are free, each thread's word names the lock of its place, the ticket is 0, and now is 20,000
  pub record AreFirstWords (words : List ℕ) : Type 0 where
    pub count : length words ≡ WORDS
    pub locks : (l : ℕ) → l < LOCKS → slice_index words l ≡ 0
    pub threads : (t : ℕ) → t < THREADS → slice_index words (LOCKS + t) ≡ m.word t + 1
    pub ticket : slice_index words TICKET ≡ 0
    pub now : slice_index words NOW ≡ 20000

  -- are first passes: the passes of the first n workers on this table, each with its own part and with what is known of its worker at the start
  pub record AreFirstPasses (n : ℕ) (table : TableId) (passes : List (PassState O H G E R)) : Type 0 where
    pub count : length passes ≡ n
    pub each : (w : ℕ) (p : PassState O H G E R) → slice_get passes w ≡ Some p
        → (p.table ≡ table) × (slice_get m.owns w ≡ Some p.own) × (p.worker ≡ first_worker m w p.own)

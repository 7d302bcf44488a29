-- What a source tells of itself, and what reading does to it.
use Rattle.std.specs.Prelude.{◌≡◌, ◌≢◌, ℕ, ◌+◌, ◌<◌, ◌≤◌, List, [], ◌++◌, length, take, Option, Some, None, Result, Err, IfOk, is_some}
use Rattle.ule_io.specs.Counter.{Rose, one_more}
use Rattle.ule_io.specs.declared.reading.ReadAllFault.{ReadAllFault}
use Rattle.ule_io.specs.declared.reading.ReadAllFault.TheVariants.{ReadFault, TooLong, Memory}

-- the bytes that are still to come, where the source tells them, and how many faults it has met
pub record SourceState : Type 0 where
  pub left : Option (List ℕ)
  pub faults : ℕ
  -- how many reads into a buffer with room gave no byte, as a read at the end does
  pub ends : ℕ

-- what was told before these bytes were taken off its front
abbrev pub with_front : List ℕ → Option (List ℕ) → Option (List ℕ)
with_front taken None = None
with_front taken (Some rest) = Some (taken ++ rest)

-- the bytes are the front of what was left, and are left no more; what tells goes on telling
abbrev pub Gives : Option (List ℕ) → Option (List ℕ) → List ℕ → Type 0
Gives old new taken = old ≡ with_front taken new

-- nothing is left, where that is told
abbrev pub IsAtEnd : Option (List ℕ) → Type 0
IsAtEnd left = (rest : List ℕ) → left ≡ Some rest → rest ≡ []

-- a read that put n bytes at the front of a buffer
pub record Reads (old new : SourceState) (buffer : List ℕ) (n : ℕ) : Type 0 where
  pub within : n ≤ length buffer
  pub given : Gives old.left new.left (take n buffer)
  pub end : n ≡ 0 → 0 < length buffer → IsAtEnd new.left
  pub met_end : n ≡ 0 → 0 < length buffer → new.ends ≡ one_more old.ends
  pub else_open : 0 < n → new.ends ≡ old.ends
  pub no_room : length buffer ≡ 0 → new.ends ≡ old.ends
  pub faults : new.faults ≡ old.faults

-- a read that failed: no byte is taken
pub record ReadFails (old new : SourceState) : Type 0 where
  pub rose : Rose old.faults new.faults
  pub left : new.left ≡ old.left
  pub ends : new.ends ≡ old.ends

-- these bytes were all that was left
pub record ReadsWhole (old new : SourceState) (limit : ℕ) (bytes : List ℕ) : Type 0 where
  pub given : Gives old.left new.left bytes
  pub end : IsAtEnd new.left
  -- one read met the end, and no read followed it
  pub one_end : new.ends ≡ one_more old.ends
  pub within : length bytes ≤ limit
  -- where the source tells, it told these
  pub all : (left : List ℕ) → old.left ≡ Some left → bytes ≡ left

-- reading to the end, up to a limit
pub record ReadAll (old new : SourceState) (limit : ℕ) (result : Result (List ℕ) ReadAllFault) : Type 0 where
  pub whole : IfOk result (ReadsWhole old new limit)
  -- one byte more than the limit was taken
  pub too_long : result ≡ Err TooLong → (taken : List ℕ) × Gives old.left new.left taken × (length taken ≡ limit + 1)
  -- where the source tells, it told of more bytes than the limit
  pub more : (left : List ℕ) → result ≡ Err TooLong → old.left ≡ Some left → limit < length left
  -- memory may run out behind any read
  pub memory : result ≡ Err Memory → (taken : List ℕ) × Gives old.left new.left taken × (length taken ≤ limit + 1)
  pub failed : result ≡ Err ReadFault → Rose old.faults new.faults
  -- a fault comes before more than the limit was taken
  pub fault_within : result ≡ Err ReadFault → (taken : List ℕ) × Gives old.left new.left taken × (length taken ≤ limit)
  pub else_kept : result ≢ Err ReadFault → new.faults ≡ old.faults
  -- after any other answer no read met the end
  pub no_end : (fault : ReadAllFault) → result ≡ Err fault → new.ends ≡ old.ends
  pub told : is_some new.left ≡ is_some old.left

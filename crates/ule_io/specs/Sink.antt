-- What a sink tells of itself, and what writing does to it.
use Rattle.std.specs.Prelude.{◌≡◌, ◌≢◌, ℕ, ◌<◌, ◌≤◌, Bool, true, false, List, ◌++◌, length, take, Option, Some, None, Result, Err, OnOk, is_some}
use Rattle.ule_io.specs.Counter.{Rose, one_more}
use Rattle.ule_io.specs.declared.writing.WriteFault.{WriteFault}
use Rattle.ule_io.specs.declared.writing.WriteFault.TheVariants.{Failed, TookNothing}

-- the bytes taken so far, where the sink tells them; how many faults it has met; how often it took nothing of a nonempty piece
pub record SinkState : Type 0 where
  pub taken : Option (List ℕ)
  pub faults : ℕ
  pub empty_takes : ℕ
  -- whether no byte was taken since the last flush that succeeded, or since the start
  pub flushed : Bool
  -- how many flushes were asked for
  pub flushes : ℕ

-- a sink after a flush that succeeded
abbrev pub as_flushed : SinkState → SinkState
as_flushed k = record { taken = k.taken; faults = k.faults; empty_takes = k.empty_takes; flushed = true; flushes = one_more k.flushes }

-- what is told after these bytes went to its end
abbrev pub with_back : Option (List ℕ) → List ℕ → Option (List ℕ)
with_back None piece = None
with_back (Some bytes) piece = Some (bytes ++ piece)

-- the piece stands behind what was taken; what tells goes on telling
abbrev pub Appends : Option (List ℕ) → Option (List ℕ) → List ℕ → Type 0
Appends old new piece = new ≡ with_back old piece

-- some front of the text stands behind what was taken
unfoldable pub AppendsFront : Option (List ℕ) → Option (List ℕ) → List ℕ → Type 0
AppendsFront old new text = (front : List ℕ) × (rest : List ℕ) × (text ≡ front ++ rest) × Appends old new front

-- a write that took the first n bytes of a piece, which are not flushed yet
pub record Takes (old new : SinkState) (piece : List ℕ) (n : ℕ) : Type 0 where
  pub within : n ≤ length piece
  pub taken : Appends old.taken new.taken (take n piece)
  pub faults : new.faults ≡ old.faults
  pub took_nothing : n ≡ 0 → 0 < length piece → Rose old.empty_takes new.empty_takes
  pub else_took : 0 < n → new.empty_takes ≡ old.empty_takes
  pub empty_piece : length piece ≡ 0 → new.empty_takes ≡ old.empty_takes
  pub unflushed : 0 < n → new.flushed ≡ false
  pub still_flushed : n ≡ 0 → new.flushed ≡ old.flushed
  pub flushes : new.flushes ≡ old.flushes

-- a write that failed: only the count of faults changes
pub record WriteFails (old new : SinkState) : Type 0 where
  pub rose : Rose old.faults new.faults
  pub taken : new.taken ≡ old.taken
  pub empty_takes : new.empty_takes ≡ old.empty_takes
  pub flushed : new.flushed ≡ old.flushed
  pub flushes : new.flushes ≡ old.flushes

-- a flush that failed: only the counts of faults and of flushes change
pub record FlushFails (old new : SinkState) : Type 0 where
  pub rose : Rose old.faults new.faults
  pub taken : new.taken ≡ old.taken
  pub empty_takes : new.empty_takes ≡ old.empty_takes
  pub flushed : new.flushed ≡ old.flushed
  pub flushes : new.flushes ≡ one_more old.flushes

-- writing a whole text, or a front of it, with no flush
pub record WroteWhole (old new : SinkState) (text : List ℕ) (result : Result Unit WriteFault) : Type 0 where
  pub whole : OnOk result (Appends old.taken new.taken text)
  pub front : AppendsFront old.taken new.taken text
  pub failed : result ≡ Err Failed → Rose old.faults new.faults
  pub else_kept : result ≢ Err Failed → new.faults ≡ old.faults
  pub took_nothing : result ≡ Err TookNothing → Rose old.empty_takes new.empty_takes
  pub else_took : result ≢ Err TookNothing → new.empty_takes ≡ old.empty_takes
  pub flushes : new.flushes ≡ old.flushes
  pub told : is_some new.taken ≡ is_some old.taken

-- writing a text without a flush: only a sink that was flushed and took no byte since is flushed after it
pub record WroteUnflushed (old new : SinkState) (text : List ℕ) (result : Result Unit WriteFault) : Type 0 where
  pub whole : OnOk result (0 < length text → new.flushed ≡ false)
  pub empty : length text ≡ 0 → new.flushed ≡ old.flushed
  pub never_set : new.flushed ≡ true → old.flushed ≡ true

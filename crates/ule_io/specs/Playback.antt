-- A source in memory, and what a read of it does.
use Rattle.std.specs.Prelude.{ℕ, List, length, drop, min, Some, Result, Ok, Err, if◌then◌else◌, ◌&&◌, nat_eq, nat_lt}
use Rattle.ule_io.specs.Counter.{one_more}
use Rattle.ule_io.specs.Calls.{CallRecord, is_listed, after_call, after_fault}
use Rattle.ule_io.specs.Source.{SourceState}
use Rattle.ule_io.specs.declared.Failed.{Failed}

-- the bytes left, the most that a read moves, the calls, and how many reads met the end
pub record Playback : Type 0 where
  pub left : List ℕ
  pub most : ℕ
  pub calls : CallRecord
  pub ends : ℕ

-- it tells all of its bytes
abbrev pub source_state : Playback → SourceState
source_state p = record { left = Some p.left; faults = p.calls.faults; ends = p.ends }

-- how many bytes a read moves into a buffer with this room
abbrev pub read_len : Playback → ℕ → ℕ
read_len p room = min (min p.most room) (length p.left)

-- how many reads met the end, with one that moved n bytes into a buffer with this room
abbrev pub ends_after : ℕ → ℕ → ℕ → ℕ
ends_after ends room n = if nat_lt 0 room && nat_eq n 0 then one_more ends else ends

-- what a read answers
abbrev pub read_answer : Playback → ℕ → Result ℕ Failed
read_answer p room = if is_listed p.calls then Err (record {}) else Ok (read_len p room)

-- what a read leaves
abbrev pub after_read : Playback → ℕ → Playback
after_read p room =
    if is_listed p.calls
    then record { left = p.left; most = p.most; calls = after_fault p.calls; ends = p.ends }
    else record { left = drop (read_len p room) p.left; most = p.most; calls = after_call p.calls; ends = ends_after p.ends room (read_len p room) }

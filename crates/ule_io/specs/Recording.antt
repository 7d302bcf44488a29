-- A sink in memory, and what a write and a flush of it do.
use Rattle.std.specs.Prelude.{ℕ, ◌-◌, List, ◌++◌, length, take, min, Some, Result, Ok, Err, if◌then◌else◌, Bool, true, false, ◌&&◌, ◌||◌, nat_eq, nat_lt, nat_le}
use Rattle.ule_io.specs.Counter.{one_more}
use Rattle.ule_io.specs.Calls.{CallRecord, is_listed, after_call, after_fault}
use Rattle.ule_io.specs.Sink.{SinkState}
use Rattle.ule_io.specs.declared.Failed.{Failed}

-- the bytes taken, for how many there is room, the most that a write takes, the calls, the empty takes, whether all is flushed, and the flushes
pub record Recording : Type 0 where
  pub taken : List ℕ
  pub room : ℕ
  pub most : ℕ
  pub calls : CallRecord
  pub empty_takes : ℕ
  pub flushed : Bool
  pub flushes : ℕ

-- it tells all of its bytes
abbrev pub sink_state : Recording → SinkState
sink_state r = record { taken = Some r.taken; faults = r.calls.faults; empty_takes = r.empty_takes; flushed = r.flushed; flushes = r.flushes }

-- whether a write fails: its number is listed, or a piece that isn't empty finds no room
abbrev pub write_fails : Recording → List ℕ → Bool
write_fails r piece = is_listed r.calls || (nat_lt 0 (length piece) && nat_le r.room (length r.taken))

-- how many bytes of a piece a write takes
abbrev pub write_len : Recording → List ℕ → ℕ
write_len r piece = min (min r.most (length piece)) (r.room - length r.taken)

-- what a write answers
abbrev pub write_answer : Recording → List ℕ → Result ℕ Failed
write_answer r piece = if write_fails r piece then Err (record {}) else Ok (write_len r piece)

-- the empty takes after a write that doesn't fail
abbrev pub takes_after : Recording → List ℕ → ℕ
takes_after r piece =
    if nat_lt 0 (length piece) && nat_eq (write_len r piece) 0 then one_more r.empty_takes else r.empty_takes

-- what a write leaves
abbrev pub after_write : Recording → List ℕ → Recording
after_write r piece =
    if write_fails r piece
    then record { taken = r.taken; room = r.room; most = r.most; calls = after_fault r.calls; empty_takes = r.empty_takes; flushed = r.flushed; flushes = r.flushes }
    else record {
      taken = r.taken ++ take (write_len r piece) piece;
      room = r.room;
      most = r.most;
      calls = after_call r.calls;
      empty_takes = takes_after r piece;
      flushed = if nat_lt 0 (write_len r piece) then false else r.flushed;
      flushes = r.flushes;
    }

-- what a flush answers
abbrev pub flush_answer : Recording → Result Unit Failed
flush_answer r = if is_listed r.calls then Err (record {}) else Ok tt

-- what a flush leaves
abbrev pub after_flush : Recording → Recording
after_flush r = record {
  taken = r.taken;
  room = r.room;
  most = r.most;
  calls = if is_listed r.calls then after_fault r.calls else after_call r.calls;
  empty_takes = r.empty_takes;
  flushed = if is_listed r.calls then r.flushed else true;
  flushes = one_more r.flushes;
}

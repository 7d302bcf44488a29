-- A stathz tick on a CPU, after sched_clock.
use Rattle.std.specs.Prelude.{ℕ, ◌-◌, Bool, nat_le, ◌==◌, ◌&&◌, ◌||◌, List, length, count_by, if◌then◌else◌}
use Rattle.ule_prio.specs.declared.kind.Kind.TheVariants.{Batch}
use Rattle.ule_score.specs.declared.record.CpuLine.{CpuLine}
use Rattle.ule_model.specs.CalendarIndexes.{idx_after_turn, ridx_after_turn}
use Rattle.ule_model.specs.Insertion.{members_in}
use Rattle.ule_model.specs.Places.{is_on}
use Rattle.ule_model.specs.Start.{balance_count, stepped_word}
use Rattle.ule_model.specs.World.{Member, Side}

-- load: how many threads run or are queued on CPU c
abbrev pub load_of : ℕ → List Member → ℕ
load_of c members = count_by (λ m. is_on c m.place) members

-- ---- the CPU's own numbers

-- whether this tick makes a balance due: CPU 0's count falls to 0
abbrev pub is_due : ℕ → ℕ → Bool
is_due c balance = (c == 0) && nat_le balance 1

-- CPU c's balance count after a tick, which is drawn anew where it falls to 0
abbrev pub balance_after_tick : ℕ → ℕ → ℕ → ℕ
balance_after_tick c balance word =
    if is_due c balance then balance_count (stepped_word word) else if c == 0 then balance - 1 else balance

-- the balance word after a tick
abbrev pub word_after_tick : ℕ → ℕ → ℕ → ℕ
word_after_tick c balance word = if is_due c balance then stepped_word word else word

-- the numbers of CPU c after a tick: its load counts as switches, and its calendar turns; the flag
-- says whether the bucket at the removal index is empty
abbrev pub line_after_tick : ℕ → ℕ → Bool → ℕ → CpuLine → CpuLine
line_after_tick c load is_empty word line = record line {
  switches = load;
  old_switches = line.switches;
  balance = balance_after_tick c line.balance word;
  idx = idx_after_turn line.idx line.ridx;
  ridx = ridx_after_turn line.idx line.ridx is_empty;
}

-- the side with CPU c's numbers after a tick
abbrev pub clocked : ℕ → Side → Side
clocked c s = record s {
  line = line_after_tick c (load_of c s.members) (length (members_in c Batch s.line.ridx s.members) == 0) s.balance_word s.line;
  balance_word = word_after_tick c s.line.balance s.balance_word;
}

-- the numbers of a CPU with both marks set where a slice ended
abbrev pub marked_at_end : Bool → CpuLine → CpuLine
marked_at_end ended line = record line { resched = line.resched || ended; slice_end = line.slice_end || ended }

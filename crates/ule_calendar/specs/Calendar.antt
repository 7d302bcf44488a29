-- A batch calendar: 64 lists of thread numbers, and two indexes that go round them.
use Rattle.std.specs.Prelude.{◌≡◌, ℕ, ◌+◌, ◌%◌, ◌<◌, Bool, false, List, if◌then◌else◌, ◌⊎◌}
use Rattle.ule_model.specs.CalendarIndexes.{calendar_bucket, ridx_after_removal, idx_after_turn, ridx_after_turn}
use Rattle.ule_runq.specs.Runq.{IsRunq, is_empty_at, with_tail, with_head, without}

-- a calendar: its buckets, where threads are filed from and where they are taken from
pub record Dial : Type 0 where
  pub lists : List (List ℕ)
  pub idx : ℕ
  pub ridx : ℕ

-- the insertion index is at the removal index, or one ahead of it and the bucket between not empty
abbrev pub AreClose : Dial → Type 0
AreClose d = (d.idx ≡ d.ridx) ⊎ ((d.idx ≡ (d.ridx + 1) % 64) × (is_empty_at d.lists d.ridx ≡ false))

-- what every calendar keeps
pub record IsCalendar (d : Dial) : Type 0 where
  pub queue : IsRunq d.lists
  pub idx : d.idx < 64
  pub ridx : d.ridx < 64
  pub close : AreClose d

-- the calendar with t in the bucket of its priority
abbrev pub with_ordinary : Dial → ℕ → ℕ → Dial
with_ordinary d t p = record d { lists = with_tail d.lists (calendar_bucket d.idx d.ridx p) t }

-- a queue with t in a bucket, at its head or at its tail
abbrev pub with_end : Bool → List (List ℕ) → ℕ → ℕ → List (List ℕ)
with_end head q b t = if head then with_head q b t else with_tail q b t

-- the calendar with t in the bucket that is taken from next
abbrev pub with_next : Dial → ℕ → Bool → Dial
with_next d t head = record d { lists = with_end head d.lists d.ridx t }

-- the calendar without t
abbrev pub after_removal : Dial → ℕ → Dial
after_removal d t = record d {
  lists = without t d.lists;
  ridx = ridx_after_removal d.idx d.ridx (is_empty_at (without t d.lists) d.ridx);
}

-- the calendar after a turn
abbrev pub turned : Dial → Dial
turned d = record d {
  idx = idx_after_turn d.idx d.ridx;
  ridx = ridx_after_turn d.idx d.ridx (is_empty_at d.lists d.ridx);
}

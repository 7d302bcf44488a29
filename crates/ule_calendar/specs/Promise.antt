-- The calendar promise for each single call: how the indexes go round, and how near that brings a bucket.
use Rattle.std.specs.Prelude.{◌≡◌, ℕ, ◌+◌, ◌<◌, ◌≤◌, false, IfSome}
use Rattle.ule_model.specs.CalendarIndexes.{distance_of}
use Rattle.ule_runq.specs.Runq.{bucket_in, is_empty_at}
use Rattle.ule_calendar.specs.Calendar.{Dial}

-- how many steps the insertion index went
abbrev pub idx_steps : Dial → Dial → ℕ
idx_steps old new = distance_of old.idx new.idx

-- how many steps the removal index went
abbrev pub ridx_steps : Dial → Dial → ℕ
ridx_steps old new = distance_of old.ridx new.ridx

-- the bucket at the removal index still has a thread, if this is that bucket
abbrev pub IsKept : Dial → Dial → ℕ → Type 0
IsKept old new b = b ≡ old.ridx → is_empty_at new.lists b ≡ false

-- the removal index came nearer to a bucket by exactly the steps that it went
abbrev pub ComesNearer : Dial → Dial → ℕ → Type 0
ComesNearer old new b = distance_of new.ridx b + ridx_steps old new ≡ distance_of old.ridx b

-- neither index went anywhere
abbrev pub KeepsIndexes : Dial → Dial → Type 0
KeepsIndexes old new = (new.idx ≡ old.idx) × (new.ridx ≡ old.ridx)

-- the insertion index is at most one ahead of the removal index, and then the bucket at the removal index has a thread
pub record DialIsClose (d : Dial) : Type 0 where
  pub apart : distance_of d.ridx d.idx ≤ 1
  pub held : distance_of d.ridx d.idx ≡ 1 → is_empty_at d.lists d.ridx ≡ false

-- what every call keeps: the indexes are close after it, each goes on by one at most, and by the steps of the
-- removal index each bucket comes nearer, but for the one that it left behind empty
pub record DialGoesOn (old new : Dial) : Type 0 where
  pub close : DialIsClose new
  pub idx : idx_steps old new ≤ 1
  pub ridx : ridx_steps old new ≤ 1
  pub nearer : (b : ℕ) → b < 64 → IsKept old new b → ComesNearer old new b

-- the bucket of thread t, if it stands in one, is at the least distance of all that have a thread
abbrev pub IsNearest : Dial → ℕ → Type 0
IsNearest d t =
    IfSome (bucket_in d.lists t) (λ b. (c : ℕ) → c < 64 → is_empty_at d.lists c ≡ false → distance_of d.ridx b ≤ distance_of d.ridx c)

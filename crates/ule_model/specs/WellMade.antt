-- What every world keeps: distinct numbers, one running thread a CPU, distinct orders in a bucket.
use Rattle.std.specs.Prelude.{◌≡◌, ◌≢◌, ℕ, ◌<◌, true, List, [], ◌∷◌}
use Rattle.std.specs.List.{AllByRecursion}
use Rattle.ule_prio.specs.declared.kind.Kind.{Kind}
use Rattle.ule_score.specs.Changes.{HasNumbers}
use Rattle.ule_score.specs.declared.place.Place.{Place}
use Rattle.ule_score.specs.declared.place.Place.TheVariants.{Running, Queued, Asleep, Unborn, Gone, Hand}
use Rattle.ule_score.specs.declared.record.CpuLine.{CpuLine}
use Rattle.ule_model.specs.Places.{runs_on, waits_in}
use Rattle.ule_model.specs.World.{Member, World}

-- whether a place has a bucket that there is
abbrev pub IsPlace : Place → Type 0
IsPlace (Queued c k b) = b < 64
IsPlace (Running c) = Unit {0}
IsPlace (Asleep channel) = Unit {0}
IsPlace Unborn = Unit {0}
IsPlace Gone = Unit {0}
IsPlace (Hand w) = Unit {0}

-- what each thread of a world keeps
pub record IsMade (m : Member) : Type 0 where
  pub numbers : HasNumbers m.thread
  pub place : IsPlace m.place

-- two threads of a world: they have two numbers, two orders in one bucket, and no CPU runs both
pub record AreApart (m n : Member) : Type 0 where
  pub numbers : m.thread.id ≢ n.thread.id
  pub orders : (c : ℕ) (k : Kind) (b : ℕ) →
      waits_in c k b m.place ≡ true → waits_in c k b n.place ≡ true → m.order ≢ n.order
  pub running : (c : ℕ) → runs_on c m.place ≡ true → runs_on c n.place ≡ true → ⊥

-- each two threads are apart
abbrev pub AllApart : List Member → Type 0
AllApart [] = Unit {0}
AllApart (m ∷ ms) = AllByRecursion (AreApart m) ms × AllApart ms

-- what every world keeps
pub record IsWellMade (ms : List Member) : Type 0 where
  pub each : AllByRecursion IsMade ms
  pub apart : AllApart ms

-- the removal index of each CPU is that of a bucket
abbrev pub HaveIndexes : List CpuLine → Type 0
HaveIndexes lines = AllByRecursion (λ line. line.ridx < 64) lines

-- what every world keeps of its threads and of its CPUs
pub record IsWellMadeWorld (w : World) : Type 0 where
  pub members : IsWellMade w.members
  pub indexes : HaveIndexes w.lines

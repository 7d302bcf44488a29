-- A world in the ranges of a trace: its sides, a side put back, and what its records keep.
use Rattle.std.proofs.Common.{ℕ, ◌<◌, ◌≤◌, length, IfSome, arith}
use Rattle.std.specs.Prelude.{slice_index_or}
use Rattle.std.specs.List.{AllByRecursion}
use Rattle.std.proofs.lemmas.Bool.{ltb-true}
use Rattle.std.proofs.lemmas.List.{length-set}
use Rattle.std.proofs.lemmas.Option.{IfSome_then}
use Rattle.std.specs.Prelude.{nat_lt}
use Rattle.ule_score.specs.Bounds.{KeepsBounds}
use Rattle.ule_score.specs.Changes.{HasNumbers}
use Rattle.ule_score.specs.declared.place.Place.{Place}
use Rattle.ule_score.specs.declared.place.Place.TheVariants.{Running, Queued, Asleep, Unborn, Gone, Hand}
use Rattle.ule_score.specs.declared.record.ThreadRecord.{ThreadRecord}
use Rattle.ule_types.proofs.Repeats.{among_passes}
use Rattle.ule_types.specs.declared.setup.Setup.{Setup}
use Rattle.ule_model.specs.WellMade.{IsMade, IsPlace}
use Rattle.ule_model.specs.World.{Member, Side, World, fresh_line, side_of, with_side}
use Rattle.ule_members.proofs.Membership.{Has, all_has}
use Rattle.ule_members.proofs.Rest.{all_at, all_set}
use Rattle.ule_members.proofs.Setups.{setup_scripts, setup_specs}
use Rattle.ule_courses.proofs.Parents.{HasDeclaredParent}
use Rattle.ule_parts.specs.Scheduler.{IsWorldOf}
use Rattle.ule_parts.specs.Workers.{declared_ids_of}
use Rattle.ule_trace.specs.Ranges.{CpuFits, IsCpuIfAny, IsThreadIfAny, PlaceFits}
use Rattle.ule_ranges.proofs.SideRanges.{IsPlaceInRange, IsSideInRange, IsThreadInRange}

-- ---- worlds

-- a world in range
pub record IsWorldInRange (w : World) : Type 0 where
  pub lines : AllByRecursion CpuFits w.lines
  pub cpus : length w.lines ≤ 16
  pub members : AllByRecursion IsThreadInRange w.members
  pub few : length w.members ≤ 256

-- the numbers of a CPU that has not begun
pub fresh_fits : CpuFits fresh_line
fresh_fits = record { idx = omega arith; ridx = omega arith; switches = omega arith; old_switches = omega arith; balance = omega arith }

-- the numbers of a CPU, or those of one that has not begun
pub line_fits : (w : World) (l : ℕ) → IsWorldInRange w → CpuFits (slice_index_or w.lines l fresh_line)
line_fits w l ranges = all_at CpuFits w.lines l fresh_line ranges.lines fresh_fits

-- a side of a world in range
pub side_ranges : (w : World) (l : ℕ) → IsWorldInRange w → IsSideInRange (side_of l w)
side_ranges w l ranges = record { line = line_fits w l ranges; members = ranges.members; few = ranges.few }

-- a world in range with a side in range put back
pub put_back_ranges : (w : World) (l : ℕ) (s : Side) → IsWorldInRange w → IsSideInRange s → IsWorldInRange (with_side l s w)
put_back_ranges w l s ranges side = record {
  lines = all_set CpuFits w.lines l s.line ranges.lines side.line;
  cpus = omega (arith, ranges.cpus, length-set w.lines l s.line);
  members = side.members;
  few = side.few;
}

-- ---- records

-- a place in range whose bucket there is fits a trace
pub place_fits : (place : Place) → IsPlaceInRange place → IsPlace place → PlaceFits place
place_fits (Running c) small made = small
place_fits (Queued c k b) small made = (small, made)
place_fits (Asleep channel) small made = small
place_fits Unborn small made = tt
place_fits Gone small made = tt
place_fits (Hand w) small made = small

-- a record in range
pub record IsRecordInRange (r : ThreadRecord) : Type 0 where
  pub numbers : HasNumbers r
  pub bounds : KeepsBounds r
  pub bound : IsCpuIfAny r.bound
  pub last : r.last < 16
  pub parent : IsThreadIfAny r.parent

module _ (s : Setup) (w : World) (is : IsWorldOf s w) where
  -- each thread of a world of the setup is well made
  pub each_made : (m : Member) → Has m w.members → IsMade m
  each_made m has = all_has IsMade m w.members is.made.members.each has

  -- the number of a CPU of the setup is small
  small_cpu : (c : ℕ) → c < s.cpus → c < 16
  small_cpu c below = omega (arith, below, (setup_scripts s).cpus)

  -- and its record is in range
  pub each_record : (m : Member) → Has m w.members → IsRecordInRange m.thread
  each_record m has = record {
    numbers = (each_made m has).numbers;
    bounds = all_has (λ (n : Member). KeepsBounds n.thread) m w.members is.bounds has;
    bound = IfSome_then m.thread.bound (all_has (λ (n : Member). IfSome n.thread.bound (λ c. c < s.cpus)) m w.members is.bound has) small_cpu;
    last = small_cpu m.thread.last (all_has (λ (n : Member). n.thread.last < s.cpus) m w.members is.last has);
    parent = IfSome_then m.thread.parent (all_has (HasDeclaredParent (declared_ids_of s)) m w.members is.parents has)
        (λ p among. ltb-true p 256 (among_passes (λ u. nat_lt u 256) (declared_ids_of s) p (setup_specs s).numbers among));
  }

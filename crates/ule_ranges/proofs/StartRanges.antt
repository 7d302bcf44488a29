-- The world at the start of a setup is in the ranges of a trace.
use Rattle.std.proofs.Common.{◌≡◌, ℕ, ◌<◌, ◌++◌, nat_lt, List, [], ◌∷◌, fold, replicate, slice_set, Option, Some, None, IfSome, refl, sym, subst, arith}
use Rattle.std.specs.Prelude.{slice_index_or}
use Rattle.std.specs.List.{AllByRecursion}
use Rattle.std.proofs.lemmas.Bool.{and_parts, ltb-true}
use Rattle.ule_score.specs.declared.record.ThreadRecord.{ThreadRecord}
use Rattle.ule_types.specs.Rules.{is_form}
use Rattle.ule_types.specs.declared.setup.Setup.{Setup}
use Rattle.ule_types.specs.declared.setup.ThreadSpec.{ThreadSpec}
use Rattle.ule_model.specs.Insertion.{order_of_insertion, place_of_insertion, with_queued}
use Rattle.ule_model.specs.declared.insertion.Insertion.TheVariants.{Ordinary}
use Rattle.ule_model.specs.Start.{empty_world, laid, record_of, start_line, unborn_member, unborn_record, with_unborn, world_at_start}
use Rattle.ule_model.specs.World.{Member, Side, World, fresh_line, others, side_of, thread_of, with_side}
use Rattle.ule_members.proofs.Rest.{all_at, all_set}
use Rattle.ule_members.proofs.Setups.{setup_scripts}
use Rattle.ule_members.proofs.Starts.{IsGood, all_copies, good_numbers, start_laid}
use Rattle.ule_members.proofs.Within.{all-append, all_along}
use Rattle.ule_courses.proofs.Looks.{few_threads}
use Rattle.ule_trace.specs.Ranges.{CpuFits}
use Rattle.ule_ranges.proofs.SideRanges.{IsThreadInRange, moved_ranges}
use Rattle.ule_ranges.proofs.WorldRanges.{IsWorldInRange, fresh_fits}

-- what is in range while threads are laid
record IsLaidInRange (w : World) : Type 0 where
  lines : AllByRecursion CpuFits w.lines
  members : AllByRecursion IsThreadInRange w.members

-- a new thread behind others
more_ranges : (r : ThreadRecord) (ms : List Member) → r.id < 256 → r.lent ≡ None → AllByRecursion IsThreadInRange ms → AllByRecursion IsThreadInRange (ms ++ unborn_member r ∷ [])
more_ranges r ms small free all =
    all-append IsThreadInRange ms (unborn_member r ∷ []) all
    (record { number = small; place = tt; lent = subst (λ o. IfSome o (λ p. p < 256)) (sym free) tt }, tt)

-- a declared thread is laid
laid_ranges : (w : World) (spec : ThreadSpec) → spec.cpu < 16 → spec.id < 256 → IsLaidInRange w → IsLaidInRange (laid w spec)
laid_ranges w spec there small ranges = split (thread_of spec.id side.members)
  where
    side : Side
    side = record (side_of spec.cpu w) { members = w.members ++ unborn_member (record_of w.settings spec) ∷ [] }

    more : AllByRecursion IsThreadInRange (w.members ++ unborn_member (record_of w.settings spec) ∷ [])
    more = more_ranges (record_of w.settings spec) w.members small refl ranges.members

    lines : AllByRecursion CpuFits (slice_set w.lines spec.cpu (slice_index_or w.lines spec.cpu fresh_line))
    lines = all_set CpuFits w.lines spec.cpu (slice_index_or w.lines spec.cpu fresh_line) ranges.lines (all_at CpuFits w.lines spec.cpu fresh_line ranges.lines fresh_fits)

    split : (o : Option Member) → IsLaidInRange (with_side spec.cpu (with_queued Ordinary spec.cpu o side) w)
    split None = record { lines = lines; members = more }
    split (Some m) = record {
      lines = lines;
      members = moved_ranges m.thread.id (place_of_insertion Ordinary spec.cpu side.line m.thread.priority)
          (order_of_insertion Ordinary spec.cpu side.line m.thread.priority (others m.thread.id side.members)) side.members there more;
    }

-- all declared threads are laid
all_laid : (w : World) (specs : List ThreadSpec) → AllByRecursion (λ spec. (spec.cpu < 16) × (spec.id < 256)) specs → IsLaidInRange w → IsLaidInRange (fold laid w specs)
all_laid w [] good ranges = ranges
all_laid w (spec ∷ specs) good ranges = all_laid (laid w spec) specs good.1 (laid_ranges w spec good.0.0 good.0.1 ranges)

-- all unborn threads come behind them
all_unborn : (w : World) (us : List ℕ) → AllByRecursion (λ u. u < 256) us → IsLaidInRange w → IsLaidInRange (fold with_unborn w us)
all_unborn w [] small ranges = ranges
all_unborn w (u ∷ us) small ranges =
    all_unborn (with_unborn w u) us small.1 (record { lines = ranges.lines; members = more_ranges (unborn_record u) w.members small.0 refl ranges.members })

-- CPU 0's numbers at the start
start_line_fits : (jitter : ℕ) → CpuFits (start_line jitter)
start_line_fits jitter = record { idx = omega arith; ridx = omega arith; switches = omega arith; old_switches = omega arith; balance = omega arith }

-- the world before any thread is laid
empty_ranges : (s : Setup) → IsLaidInRange (empty_world s)
empty_ranges s = record {
  lines = all_set CpuFits (replicate s.cpus fresh_line) 0 (start_line s.jitter) (all_copies CpuFits s.cpus fresh_line fresh_fits) (start_line_fits s.jitter);
  members = tt;
}

-- a thread that a setup declares has a CPU and a number in range
spec_small : (s : Setup) (spec : ThreadSpec) → IsGood s.cpus spec → (spec.cpu < 16) × (spec.id < 256)
spec_small s spec good =
    let valid = and_parts (is_form spec.form) (nat_lt spec.cpu s.cpus) good.0 in (omega (arith, ltb-true spec.cpu s.cpus valid.1, (setup_scripts s).cpus), good.1)

-- the world at the start
pub start_ranges : (s : Setup) → IsWorldInRange (world_at_start s)
start_ranges s =
    let start = start_laid s in
    let good = good_numbers s in
    let small = all_along (IsGood s.cpus) (λ (spec : ThreadSpec). (spec.cpu < 16) × (spec.id < 256)) s.threads (spec_small s) good.queued in
    let ranges = all_unborn (fold laid (empty_world s) s.threads) s.unborn good.unborn (all_laid (empty_world s) s.threads small (empty_ranges s)) in record {
      lines = ranges.lines;
      cpus = omega (arith, start.count, (setup_scripts s).cpus);
      members = ranges.members;
      few = few_threads (world_at_start s).members start.made.members;
    }

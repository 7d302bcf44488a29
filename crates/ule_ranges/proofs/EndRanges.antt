-- The lines of a world in the ranges of a trace fit one.
use Rattle.std.proofs.Common.{◌≡◌, ℕ, ◌<◌, ◌≤◌, ◌+◌, ◌&&◌, zero, suc, Bool, true, false, count_by, List, [], ◌∷◌, length, Option, Some, None, if◌then◌else◌, refl, ◌∙◌, ap, arith, ⊎_elim}
use Rattle.std.specs.Prelude.{int_lt}
use Rattle.std.specs.List.{AllByRecursion, cons_option, filter_map, range_with_len}
use Rattle.std.specs.Option.{option_map}
use Rattle.std.proofs.lemmas.Bool.{and_right, cond-false}
use Rattle.std.proofs.lemmas.List.Sums.{count_by-le-length, sum_by-cons}
use Rattle.ule_score.specs.declared.place.Place.{Place}
use Rattle.ule_score.specs.declared.place.Place.TheVariants.{Running, Queued, Asleep, Unborn, Gone, Hand}
use Rattle.ule_types.specs.Outcome.{RisesFrom}
use Rattle.ule_types.specs.declared.outcome.ThreadLine.{ThreadLine}
use Rattle.ule_types.specs.declared.setup.Setup.{Setup}
use Rattle.ule_model.specs.Finals.{final_line, position_of, thread_lines}
use Rattle.ule_model.specs.Places.{lock_of, waits_in}
use Rattle.ule_model.specs.World.{Member, World, thread_of}
use Rattle.ule_members.proofs.Membership.{Has, all_has, has_thread_of}
use Rattle.ule_laws.proofs.Rising.{int_lt_same}
use Rattle.ule_parts.specs.Scheduler.{IsWorldOf}
use Rattle.ule_trace.specs.Ranges.{IsLockIfAny, PositionFits, ThreadFits}
use Rattle.ule_ranges.proofs.SideRanges.{IsPlaceInRange, IsThreadInRange}
use Rattle.ule_ranges.proofs.WorldRanges.{IsWorldInRange, each_made, each_record, place_fits}

-- a test that one of a list fails passes fewer than all
count_less : {X : Type 0} (p : X → Bool) (x : X) (xs : List X) → Has x xs → p x ≡ false → count_by p xs < length xs
count_less p x [] has fails = absurd has
count_less p x (y ∷ ys) has fails =
    let first : ℕ = if p y then 1 else 0 in
    let more : count_by p (y ∷ ys) ≡ first + count_by p ys = sum_by-cons (λ z. if p z then 1 else 0) y ys in
    ⊎_elim
    (λ (same : y ≡ x).
    let none : first ≡ 0 = cond-false (p y) 1 0 (ap p same ∙ fails) in omega (arith, more, none, count_by-le-length p ys))
    (λ (rest : Has x ys). omega (arith, more, count_less p x ys rest fails, at_most_one (p y)))
    has
  where
    at_most_one : (b : Bool) → (if b then 1 else 0) ≤ 1
    at_most_one true = omega arith
    at_most_one false = omega arith

-- the word of a thread at a place in range
word_fits : (place : Place) → IsPlaceInRange place → IsLockIfAny (lock_of place)
word_fits (Running c) small = omega (arith, small)
word_fits (Queued c k b) small = omega (arith, small)
word_fits (Asleep channel) small = omega arith
word_fits Unborn small = omega arith
word_fits Gone small = omega arith
word_fits (Hand w) small = tt

-- ---- threads

module _ (s : Setup) (w : World) (is : IsWorldOf s w) (ranges : IsWorldInRange w) where
  -- a thread is behind others in its bucket, and not behind itself
  position_fits : (m : Member) → Has m w.members → (place : Place) → PositionFits place (position_of place m.order w.members)
  position_fits m has (Queued c k b) =
      omega (
        arith,
        ranges.few,
        count_less (λ (n : Member). waits_in c k b n.place && int_lt n.order m.order) m w.members has (and_right (waits_in c k b m.place) (int_lt m.order m.order) (int_lt_same m.order)),
      )
  position_fits m has (Running c) = refl
  position_fits m has (Asleep channel) = refl
  position_fits m has Unborn = refl
  position_fits m has Gone = refl
  position_fits m has (Hand h) = refl

  -- the line of a thread fits
  line_of_fits : (m : Member) → Has m w.members → ThreadFits (final_line w.members m)
  line_of_fits m has =
      let r = each_record s w is m has in
      let there = all_has IsThreadInRange m w.members ranges.members has in record {
        place = place_fits m.place there.place (each_made s w is m has).place;
        pos = position_fits m has m.place;
        nice = r.numbers.nice;
        base = r.numbers.base;
        lent = there.lent;
        priority = r.numbers.priority;
        run = omega (arith, r.bounds.history);
        slept = omega (arith, r.bounds.history);
        ticks = omega (arith, r.bounds.usage.within, r.bounds.ltick);
        ltick = omega (arith, r.bounds.ltick);
        ftick = omega (arith, r.bounds.usage.ordered, r.bounds.ltick);
        slice_count = omega (arith, r.bounds.slice_count);
        slept_at = omega (arith, r.bounds.slept_at);
        last = r.last;
        last_run = omega (arith, r.bounds.last_run);
        bound = r.bound;
        parent = r.parent;
        word = word_fits m.place there.place;
      }

  -- the line of the thread with a number, if there is one
  abbrev line_if : ℕ → Option ThreadLine
  line_if t = option_map (final_line w.members) (thread_of t w.members)

  -- the lines of threads by rising numbers, of which the first is at least so great, fit and rise
  record AreLinesInRange (low : ℕ) (lines : List ThreadLine) : Type 0 where
    fit : AllByRecursion ThreadFits lines
    rise : RisesFrom low lines

  lines_from : (low first n : ℕ) → low ≤ first → first + n ≤ 256 → AreLinesInRange low (filter_map line_if (range_with_len first n))
  lines_from low first zero above within = record { fit = tt; rise = tt }
  lines_from low first (suc n) above within = split (λ least over. lines_from least (first + 1) n over (omega (arith, within))) (thread_of first w.members) refl
    where
      split : ((least : ℕ) → least ≤ first + 1 → AreLinesInRange least (filter_map line_if (range_with_len (first + 1) n))) → (o : Option Member) → thread_of first w.members ≡ o →
          AreLinesInRange low (cons_option (option_map (final_line w.members) o) (filter_map line_if (range_with_len (first + 1) n)))
      split rest None found = rest low (omega (arith, above))
      split rest (Some m) found =
          let z = has_thread_of first m w.members found in
          let more = rest (m.thread.id + 1) (omega (arith, z.1)) in
          record { fit = (line_of_fits m z.0, more.fit); rise = (omega (arith, above, z.1), omega (arith, within, z.1), more.rise) }

  pub threads_rise : RisesFrom 0 (thread_lines w.members)
  threads_rise = (lines_from 0 0 256 (omega arith) (omega arith)).rise

  pub threads_fit : AllByRecursion ThreadFits (thread_lines w.members)
  threads_fit = (lines_from 0 0 256 (omega arith) (omega arith)).fit

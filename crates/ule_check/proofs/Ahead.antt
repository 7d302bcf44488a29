-- What is still to come of a whole legal history, at the judge who has judged its front.
use Rattle.std.proofs.Common.{◌≡◌, ℕ, ◌+◌, ◌<◌, ◌≤◌, ◌==◌, true, List, ◌∷◌, slice_get, map, Some, None, sym}
use Rattle.std.specs.List.{AllByRecursion}
use Rattle.std.proofs.lemmas.Bool.{cond-true, cond-false, eq-eqb, ne_eqb}
use Rattle.ule_types.specs.Commands.{is_among}
use Rattle.ule_types.specs.Outcome.{OutcomeValue}
use Rattle.ule_types.specs.declared.event.Entry.{Entry}
use Rattle.ule_types.specs.declared.setup.Setup.{Setup}
use Rattle.ule_model.specs.Finals.{thread_lines}
use Rattle.ule_model.specs.Legal.{IsInTime, IsReplayed, Locked, Performs, Timed, amount_in_all, entries_of, with_locks}
use Rattle.ule_program.specs.Courses.{Course, next_step}
use Rattle.ule_model.specs.Start.{starting_time}
use Rattle.ule_model.specs.World.{World}
use Rattle.ule_check.specs.Judge.{Judge}

-- the entries of some with their times
abbrev pub of_timed : List Timed → List Entry
of_timed timed = map (λ x. x.entry) timed

-- a worker makes these entries first
pub record Begins (course : Course) (amount : ℕ) (es : List Timed) : Type 0 where
  pub end : Course
  pub total : ℕ
  pub performs : Performs course amount es end total

-- a worker makes just these entries
pub record Ends (course : Course) (amount : ℕ) (es : List Timed) : Type 0 where
  pub end : Course
  pub total : ℕ
  pub performs : Performs course amount es end total
  pub finished : next_step end ≡ None

-- an entry is no earlier than the last under its locks and of its worker
pub record IsLate (own latest : ℕ → ℕ) (y : Locked) : Type 0 where
  pub under : (l : ℕ) → is_among y.locks l ≡ true → latest l ≤ y.entry.now
  pub own_is : own y.entry.worker ≤ y.entry.now

-- the final lines are those of a world
pub record HasFinalLines (s : Setup) (o : OutcomeValue) (w : World) : Type 0 where
  pub threads : thread_lines w.members ≡ o.threads
  pub cpus : w.lines ≡ o.cpus
  pub end : starting_time + amount_in_all s.scripts ≡ o.now

-- the entries that are still to come, with times by the lists' fronts, and with times by the whole lists
pub record IsAhead (s : Setup) (j : Judge) (timed whole : List Timed) : Type 0 where
  pub entries : of_timed whole ≡ of_timed timed
  pub workers : AllByRecursion (λ x. x.entry.worker < s.cpus) timed
  pub replies : IsReplayed j.world (of_timed timed)
  pub begins : (worker : ℕ) (course : Course) → slice_get j.courses worker ≡ Some course → Begins course (j.amount worker) (entries_of worker timed)
  pub ends : (worker : ℕ) (course : Course) → slice_get j.courses worker ≡ Some course → Ends course (j.amount worker) (entries_of worker whole)
  pub late : AllByRecursion (IsLate j.own j.latest) (with_locks j.world (of_timed timed))
  pub in_order : IsInTime (with_locks j.world (of_timed timed))
  pub after_own : AllByRecursion (λ x. starting_time + x.amount ≤ x.entry.now) timed
  pub by_the_end : AllByRecursion (λ x. x.entry.now ≤ starting_time + amount_in_all s.scripts) timed

-- a worker's entries behind one of its own
pub own_first : (worker : ℕ) (x : Timed) (xs : List Timed) → x.entry.worker ≡ worker → entries_of worker (x ∷ xs) ≡ x ∷ entries_of worker xs
own_first worker x xs own = cond-true (x.entry.worker == worker) (x ∷ entries_of worker xs) (entries_of worker xs) (eq-eqb x.entry.worker worker own)

-- a worker's entries behind one of another's
pub other_first : (worker : ℕ) (x : Timed) (xs : List Timed) → (worker ≡ x.entry.worker → ⊥) → entries_of worker (x ∷ xs) ≡ entries_of worker xs
other_first worker x xs other = cond-false (x.entry.worker == worker) (x ∷ entries_of worker xs) (entries_of worker xs) (ne_eqb x.entry.worker worker (λ e. other (sym e)))

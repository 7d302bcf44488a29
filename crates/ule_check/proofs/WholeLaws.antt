-- What tells a whole legal history is judged legal, and so is what is told of rounds.
use Rattle.std.proofs.Common.{◌≡◌, ℕ, ◌+◌, ◌<◌, ◌≤◌, List, [], ◌∷◌, slice_get, Some, sym, ◌∙◌, ap, subst, arith}
use Rattle.std.specs.List.{AllByRecursion}
use Rattle.std.proofs.lemmas.Option.{slice_get_within}
use Rattle.ule_types.specs.Outcome.{OutcomeValue}
use Rattle.ule_types.specs.declared.event.Entry.{Entry}
use Rattle.ule_types.specs.declared.setup.Setup.{Setup}
use Rattle.ule_model.specs.Ends.{outcome_of}
use Rattle.ule_model.specs.History.{IsHistoryOf}
use Rattle.ule_model.specs.Legal.{IsLegal, IsReplayed, IsWhole, Locked, Timed, after_entry, amount_in_all, entries_of, replayed, with_locks}
use Rattle.ule_program.specs.Courses.{Course}
use Rattle.ule_model.specs.Rounds.{opening_courses, play_of}
use Rattle.ule_model.specs.Start.{starting_time, world_at_start}
use Rattle.ule_model.specs.World.{World}
use Rattle.ule_members.proofs.Within.{all_along}
use Rattle.ule_rounds.proofs.HistoryLaws.{history_of_rounds}
use Rattle.ule_rounds.proofs.Plays.{opening_count, opening_is}
use Rattle.ule_check.specs.Judge.{judge_at_start}
use Rattle.ule_check.specs.Judged.{judged_from}
use Rattle.ule_check.specs.Laws.{RunsAreLegal, TellsWhole, WholeIsLegal}
use Rattle.ule_check.specs.declared.verdicts.Verdict.TheVariants.{Legal}
use Rattle.ule_check.proofs.Ahead.{Begins, Ends, HasFinalLines, IsAhead, IsLate, of_timed}
use Rattle.ule_check.proofs.Complete.{complete_from}

-- what holds of each entry holds of each with its amount, and the other way
pub timed_all : (P : Entry → Type 0) (xs : List Timed) → AllByRecursion P (of_timed xs) → AllByRecursion (λ x. P x.entry) xs
timed_all P [] all = tt
timed_all P (x ∷ xs) all = (all.0, timed_all P xs all.1)

-- and the converse
pub all_timed : (P : Entry → Type 0) (xs : List Timed) → AllByRecursion (λ x. P x.entry) xs → AllByRecursion P (of_timed xs)
all_timed P [] all = tt
all_timed P (x ∷ xs) all = (all.0, all_timed P xs all.1)

-- what holds of each entry holds of each with its locks
all-with_locks : (P : Entry → Type 0) (w : World) (es : List Entry) → AllByRecursion P es → AllByRecursion (λ x. P x.entry) (with_locks w es)
unfolding with_locks
all-with_locks P w [] all = tt
all-with_locks P w (e ∷ es) all = (all.0, all-with_locks P (after_entry w e) es all.1)

-- a whole legal history is still to come at the start
ahead_at_start : (s : Setup) (o : OutcomeValue) (tells : TellsWhole s o) → IsAhead s (judge_at_start s) tells.legal.timed tells.whole.timed
ahead_at_start s o tells = record {
  entries = tells.whole.entries ∙ sym tells.legal.entries;
  workers = timed_all (λ e. e.worker < s.cpus) tells.legal.timed (subst (AllByRecursion (λ (e : Entry). e.worker < s.cpus)) (sym tells.legal.entries) tells.legal.workers);
  replies = subst (IsReplayed (world_at_start s)) (sym tells.legal.entries) tells.legal.replies;
  begins = λ worker course got.
      let at = tells.legal.programs worker (below worker course got) in
      subst (λ c. Begins c 0 (entries_of worker tells.legal.timed)) (opening_is s worker course got) (record { end = at.end; total = at.total; performs = at.performs });
  ends = λ worker course got.
      let at = tells.whole.programs worker (below worker course got) in
      subst (λ c. Ends c 0 (entries_of worker tells.whole.timed)) (opening_is s worker course got)
      (record { end = at.begins.end; total = at.begins.total; performs = at.begins.performs; finished = at.finished });
  late =
      all_along (λ (y : Locked). starting_time ≤ y.entry.now) (IsLate (λ worker. starting_time) (λ l. starting_time)) (with_locks (world_at_start s) (of_timed tells.legal.timed))
      (λ y begun. record { under = λ l among. begun; own_is = begun })
      (all-with_locks (λ e. starting_time ≤ e.now) (world_at_start s) (of_timed tells.legal.timed)
      (all_timed (λ e. starting_time ≤ e.now) tells.legal.timed
      (all_along (λ (x : Timed). starting_time + x.amount ≤ x.entry.now) (λ x. starting_time ≤ x.entry.now) tells.legal.timed (λ x after. omega (arith, after)) tells.legal.times.after_own)));
  in_order = tells.legal.times.in_order;
  after_own = tells.legal.times.after_own;
  by_the_end = tells.legal.times.by_the_end;
}
  where
    below : (worker : ℕ) (course : Course) → slice_get (opening_courses s) worker ≡ Some course → worker < s.cpus
    below worker course got = subst (λ n. worker < n) (opening_count s) (slice_get_within (opening_courses s) worker course got)

-- what tells a whole legal history is judged legal
pub whole_is_legal : WholeIsLegal
whole_is_legal s o tells =
    subst (λ es. judged_from (amount_in_all s.scripts) o 1 (judge_at_start s) es ≡ Legal) tells.legal.entries
    (complete_from s o 1 (judge_at_start s) tells.legal.timed tells.whole.timed (opening_count s) (ahead_at_start s o tells)
    (subst (λ es. HasFinalLines s o (replayed (world_at_start s) es)) (sym tells.legal.entries)
    (record {
      threads = sym (ap (λ (x : OutcomeValue). x.threads) tells.lines);
      cpus = sym (ap (λ (x : OutcomeValue). x.cpus) tells.lines);
      end = sym (ap (λ (x : OutcomeValue). x.now) tells.lines);
    })))

-- the outcome of the rounds is judged legal
pub runs_are_legal : RunsAreLegal
runs_are_legal s o is =
    let history : IsHistoryOf s (play_of s) = history_of_rounds s in
    let same : o.entries ≡ (play_of s).entries = ap (λ (x : OutcomeValue). x.entries) is in
    whole_is_legal s o
    (record {
      legal = subst (IsLegal s s.scripts) (sym same) history.legal;
      whole = subst (IsWhole s s.scripts) (sym same) history.whole;
      lines = is ∙ ap (outcome_of s s.scripts) (sym same);
    })

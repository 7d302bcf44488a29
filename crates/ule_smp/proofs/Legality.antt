-- The history that all passes leave is a whole legal one of their lists.
use Rattle.std.proofs.Common.{◌≡◌, ℕ, ◌+◌, ◌<◌, ◌≤◌, List, [], ◌∷◌, length, map, reverse, slice_get, Option, Some, None, refl, sym, ap, ◌∙◌, subst, arith}
use Rattle.std.proofs.lemmas.Option.{same_Some}
use Rattle.atomic_table.specs.Seated.{TableId}
use Rattle.ule_score.specs.declared.record.ThreadRecord.{ThreadRecord}
use Rattle.ule_types.specs.declared.command.Command.{Command}
use Rattle.ule_types.specs.declared.event.Entry as types
use Rattle.ule_types.specs.declared.event.Event.{Event}
use Rattle.ule_types.specs.declared.event.Reply.{Reply}
use Rattle.ule_types.specs.declared.setup.Setup.{Setup}
use Rattle.ule_model.specs.Ends.{end_time}
use Rattle.ule_model.specs.Legal.{BeginsProgram, Completes, IsInTime, IsLegal, IsWhole, Performs, amount_in, amount_in_all, entries_of, opening_of, with_locks}
use Rattle.ule_model.specs.LockValue.{LockValue}
use Rattle.ule_model.specs.Start.{starting_time, world_at_start}
use Rattle.ule_program.specs.Courses.{course_of}
use Rattle.ule_program.specs.Program.{own_of_setup}
use Rattle.ule_courses.proofs.Courses.{time_of}
use Rattle.ule_micro.specs.Shared.{Shared, as_it_stands, together, unstamped}
use Rattle.ule_micro.specs.Standings.{rests}
use Rattle.ule_micro.proofs.Lists.{something, there}
use Rattle.ule_parts.specs.Histories.{IsHistoryOfWorlds, entries_in_order}
use Rattle.ule_parts.specs.Plays.{list_of}
use Rattle.ule_parts.specs.Scheduler.{sched_means}
use Rattle.ule_parts.specs.Workers.{owns_from}
use Rattle.ule_parts.proofs.Legality.{histories_are_of_worlds}
use Rattle.ule_parts.proofs.Orders.{many_owns}
use Rattle.ule_parts.proofs.Times.{performs_time}
use Rattle.ule_words.specs.Ends.{AreBack, IsLeft}
use Rattle.ule_words.specs.Workers.{KnowsItsPart, made_by}
use Rattle.ule_smp.specs.Runs.{Runs, opening_point, point_of}
use Rattle.ule_smp.specs.Smp.{AreDone, SchedPass}
use Rattle.ule_smp.proofs.Amounts.{all_added, finished_time}
use Rattle.ule_smp.proofs.Made.{all_timed, entries_timed, own_timed, timed_in, timed_made}
use Rattle.ule_smp.proofs.Programs.{IsCourseAt, onto, onto_reverse, opens_so, runs_course}

module _ (s : Setup) (table : TableId) (lists : List (List Command)) (passes : List SchedPass) (done : AreDone s table lists passes) where
  -- passes that are done are back
  pub are_back : AreBack (sched_means s) table passes
  are_back = record {
    count = done.count ∙ sym (many_owns s 0 s.cpus);
    each = λ w p at. let d = done.each w p at in (d.table_is, d.number, d.rest.held, d.rest.calm);
  }

  module _ (st : Shared (Option ThreadRecord) LockValue Event Reply) (left : IsLeft (sched_means s) passes st) where
    -- entries left: the entries that the passes leave, the oldest first
    abbrev pub entries_left : List types.Entry
    entries_left = entries_in_order (unstamped st.history)

    pub worlds_left : IsHistoryOfWorlds s entries_left (as_it_stands st)
    worlds_left = histories_are_of_worlds s (unstamped st.history) (as_it_stands st) left.agrees.history

    -- each worker of the setup has a pass
    pub pass_there : (w : ℕ) → w < s.cpus → (p : SchedPass) × (slice_get passes w ≡ Some p)
    pass_there w low = something passes w (let a = done.count in omega (arith, low))

    module _ (w : ℕ) (p : SchedPass) (at : slice_get passes w ≡ Some p) where
      knows : KnowsItsPart st p.worker
      knows = left.knows w p at

      number : p.worker.number ≡ w
      number = (done.each w p at).number

      -- its entries are those that the history has of it
      pub its_entries : p.worker.mine ≡ made_by w st.history
      its_entries = knows.mine ∙ ap (λ i. made_by i st.history) number

      course : IsCourseAt s w (reverse (list_of lists w)) [] (point_of p rests)
      course = let come = (done.each w p at).rest.come in
          runs_course s w (subst (λ o. Runs (sched_means s) (opening_point o) (reverse (list_of lists w)) come.items (point_of p rests))
          (opens_so s w come.first (ap (slice_get (owns_from s 0 s.cpus)) (sym number) ∙ come.opens)) come.runs) []

      -- they are those of its list's program
      performs : Performs (opening_of s lists w) 0 (entries_of w (timed_in st.history)) course.course p.worker.advanced
      performs = subst (λ es. Performs (opening_of s lists w) 0 es course.course p.worker.advanced) (ap timed_made its_entries ∙ sym (own_timed w st.history))
          (subst (λ list. Performs (course_of (own_of_setup s w) list) 0 (timed_made p.worker.mine) course.course p.worker.advanced) (onto_reverse (list_of lists w)) course.performs)

      completes : Completes s lists (timed_in st.history) w
      completes = record { begins = record { end = course.course; total = p.worker.advanced; performs = performs }; finished = course.next }

      -- it advanced what its list adds
      advanced_so : p.worker.advanced ≡ amount_in (list_of lists w)
      advanced_so = let z = performs_time performs in let none = finished_time course.course course.next in
          let start : time_of (opening_of s lists w) ≡ amount_in (list_of lists w) = omega arith in omega arith

      kept_so : slice_get st.advanced w ≡ Some p.worker.advanced
      kept_so = ap (slice_get st.advanced) (sym number) ∙ knows.advanced

    completed : (w : ℕ) → w < s.cpus → Completes s lists (timed_in st.history) w
    completed w low = let p = pass_there w low in completes w p.0 p.1

    -- as many amounts are kept as there are workers
    many_amounts : length st.advanced ≡ s.cpus
    many_amounts = left.amounts ∙ many_owns s 0 s.cpus

    -- all advanced what all lists add
    all_so : together st.advanced ≡ amount_in_all lists
    all_so = all_added lists st.advanced
        (λ w a at. let low = there st.advanced w a at in let p = pass_there w (let z = many_amounts in omega (arith, low)) in same_Some a p.0.worker.advanced (sym at ∙ kept_so w p.0 p.1) ∙ advanced_so w p.0 p.1)
        (λ w past. done.others w (let z = many_amounts in omega (arith, past)))

    -- now is the time at the end of the lists
    pub now_so : st.now ≡ end_time lists
    now_so = left.agrees.now ∙ ap (λ n. starting_time + n) all_so

    pub legal_left : IsLegal s lists entries_left
    legal_left = record {
      timed = timed_in st.history;
      entries = entries_timed st.history;
      workers = worlds_left.workers;
      replies = worlds_left.replies;
      programs = λ w low. (completed w low).begins;
      times = record {
        in_order = subst (λ es. IsInTime (with_locks (world_at_start s) es)) (sym (entries_timed st.history)) worlds_left.in_time;
        after_own = all_timed (λ x. starting_time + x.amount ≤ x.entry.now) st.history (λ j x at. (left.agrees.past j x at).0);
        by_the_end = all_timed (λ x. x.entry.now ≤ starting_time + amount_in_all lists) st.history
            (λ j x at. let early = (left.agrees.past j x at).1 in let now = now_so in omega (arith, early, now));
      };
    }

    pub whole_left : IsWhole s lists entries_left
    whole_left = record { timed = timed_in st.history; entries = entries_timed st.history; programs = completed }

-- Each legal play of the scheduler's values is a legal history of worlds.
use Rattle.std.proofs.Common.{◌≡◌, ℕ, zero, suc, ◌+◌, ◌<◌, ◌≤◌, List, [], ◌∷◌, drop, length, slice_get, take, Some, None, refl, sym, ap, ◌∙◌, subst, arith}
use Rattle.std.proofs.lemmas.List.Sums.{sum_by-cons}
use Rattle.ule_types.specs.declared.command.Command.{Command}
use Rattle.ule_types.specs.declared.event.Event.{Event}
use Rattle.ule_types.specs.declared.event.Reply.{Reply}
use Rattle.ule_types.specs.declared.setup.Setup.{Setup}
use Rattle.ule_model.specs.Legal.{BeginsProgram, IsInTime, IsLegal, Timed, amount_in, amount_in_all, opening_of, with_locks}
use Rattle.ule_model.specs.LockValue.{LockValue}
use Rattle.ule_program.specs.Courses.{next_step}
use Rattle.ule_model.specs.Start.{starting_time, world_at_start}
use Rattle.ule_members.proofs.Within.{all_along}
use Rattle.ule_courses.proofs.Courses.{time_of}
use Rattle.ule_micro.specs.declared.entry.Entry.{Entry}
use Rattle.ule_micro.specs.Courses.{LegalPlay, WorkerCourse, all_advanced}
use Rattle.ule_micro.specs.Laws.{AreOrders}
use Rattle.ule_micro.proofs.Lists.{drop_none, something}
use Rattle.ule_micro.proofs.Numbers.{play_counted}
use Rattle.ule_parts.specs.Histories.{HistoriesAreOfWorlds, IsHistoryOfWorlds, entries_in_order}
use Rattle.ule_parts.specs.Plays.{AreAtTheirEnds, IsPlayedLegally, PlaysAreLegal, list_of, values_and_hands_of}
use Rattle.ule_parts.specs.Scheduler.{sched_means}
use Rattle.ule_parts.specs.Workers.{Worker}
use Rattle.ule_parts.proofs.Lawful.{is_lawful, start_shown}
use Rattle.ule_parts.proofs.Leading.{play_leads}
use Rattle.ule_parts.proofs.Orders.{many_owns}
use Rattle.ule_parts.proofs.Playing.{IsCourseOf, IsTimed, next_at, next_of_rest, play_timed}
use Rattle.ule_parts.proofs.Times.{ended_time, performs_time}
use Rattle.ule_parts.proofs.Worlds.{of_worlds}

-- every history in order whose entries were asked for is one of worlds
pub histories_are_of_worlds : HistoriesAreOfWorlds
histories_are_of_worlds s h y leads = of_worlds s (start_shown s) h y leads

-- what all workers advanced is within what all lists add, where each worker's is within its own
all_within : (lists : List (List Command)) (cs : List (WorkerCourse Worker Event Reply))
    → ((w : ℕ) (c : WorkerCourse Worker Event Reply) → slice_get cs w ≡ Some c → c.advanced ≤ amount_in (list_of lists w))
    → all_advanced cs ≤ amount_in_all lists
all_within lists [] each = omega arith
all_within [] (c ∷ cs) each = let a = each 0 c refl in let b = all_within [] cs (λ w d at. each (suc w) d at) in omega arith
all_within (list ∷ lists) (c ∷ cs) each = let a = each 0 c refl in let b = all_within lists cs (λ w d at. each (suc w) d at) in
    let more : amount_in_all (list ∷ lists) ≡ amount_in list + amount_in_all lists = sum_by-cons amount_in list lists in omega arith

-- it is what the lists of these workers add, where each worker's is what its own does
all_spent : (lists : List (List Command)) (cs : List (WorkerCourse Worker Event Reply))
    → ((w : ℕ) (c : WorkerCourse Worker Event Reply) → slice_get cs w ≡ Some c → c.advanced ≡ amount_in (list_of lists w))
    → all_advanced cs ≡ amount_in_all (take (length cs) lists)
all_spent lists [] each = refl
all_spent [] (c ∷ cs) each = omega (arith, each 0 c refl, all_spent [] cs (λ w d at. each (suc w) d at), nothing (length cs))
  where
    nothing : (n : ℕ) → amount_in_all (take n []) ≡ 0
    nothing zero = refl
    nothing (suc n) = refl
all_spent (list ∷ lists) (c ∷ cs) each =
    omega (arith, each 0 c refl, all_spent lists cs (λ w d at. each (suc w) d at), sum_by-cons amount_in list (take (length cs) lists))

module _ (s : Setup) (lists : List (List Command))
    (orders : AreOrders (sched_means s) (list_of lists)) {h : List (Entry Event Reply)} {vs : List LockValue} {cs : List (WorkerCourse Worker Event Reply)}
    (legal : LegalPlay (sched_means s) (list_of lists) h vs cs) where
  timed : IsTimed s lists h cs
  timed = play_timed s lists legal

  worlds : IsHistoryOfWorlds s (entries_in_order h) (values_and_hands_of vs cs)
  worlds = histories_are_of_worlds s h (values_and_hands_of vs cs) (play_leads (sched_means s) (list_of lists) (is_lawful s) orders legal)

  -- each worker of the setup has a course
  course_there : (w : ℕ) → w < s.cpus → (c : WorkerCourse Worker Event Reply) × (slice_get cs w ≡ Some c)
  course_there w low = something cs w (let a = (play_counted (sched_means s) (list_of lists) (is_lawful s) orders legal).workers in let b = many_owns s 0 s.cpus in omega arith)

  begins : (w : ℕ) (c : WorkerCourse Worker Event Reply) → IsCourseOf s lists timed.timed w c → BeginsProgram s lists timed.timed w
  begins w c k = record { end = k.course; total = c.advanced; performs = k.performs }

  -- a worker advanced no more than its list adds
  advanced_within : (w : ℕ) (c : WorkerCourse Worker Event Reply) → slice_get cs w ≡ Some c → c.advanced ≤ amount_in (list_of lists w)
  advanced_within w c at = let z = performs_time (timed.courses w c at).performs in let start : time_of (opening_of s lists w) ≡ amount_in (list_of lists w) = omega arith in omega arith

  is_legal : IsLegal s lists (entries_in_order h)
  is_legal = record {
    timed = timed.timed;
    entries = timed.entries;
    workers = worlds.workers;
    replies = worlds.replies;
    programs = λ w low. let c = course_there w low in begins w c.0 (timed.courses w c.0 c.1);
    times = record {
      in_order = subst (λ es. IsInTime (with_locks (world_at_start s) es)) (sym timed.entries) worlds.in_time;
      after_own = timed.after_own;
      by_the_end = all_along (λ (x : Timed). x.entry.now ≤ starting_time + all_advanced cs) (λ x. x.entry.now ≤ starting_time + amount_in_all lists) timed.timed
          (λ x early. let z = all_within lists cs advanced_within in omega arith) timed.by_now;
    };
  }

  -- a worker behind the last command of its list has no next item
  finished : AreAtTheirEnds lists cs → (w : ℕ) (c : WorkerCourse Worker Event Reply) → slice_get cs w ≡ Some c → (k : IsCourseOf s lists timed.timed w c) → next_step k.course ≡ None
  finished ends w c at k = let end = ends w c at in k.next ∙ (ap (next_at (drop c.begun (list_of lists w)) c.own.program) end.0 ∙ ap (λ script. next_of_rest script c.own.program)
      (drop_none (list_of lists w) c.begun end.1))

  -- at their ends workers advanced what their lists add
  pub all_advanced_at_end : AreAtTheirEnds lists cs → all_advanced cs ≡ amount_in_all (take (length cs) lists)
  all_advanced_at_end ends = all_spent lists cs (λ w c at. (let k = timed.courses w c at in
      let start : time_of (opening_of s lists w) ≡ amount_in (list_of lists w) = omega arith in
      omega (arith, performs_time k.performs, start, ended_time k.course (finished ends w c at k))))

  played_legally : IsPlayedLegally s lists h vs cs
  unfolding begins
  played_legally = record {
    legal = is_legal;
    worlds = worlds;
    whole = λ ends. record {
      timed = timed.timed;
      entries = timed.entries;
      programs = λ w low. let c = course_there w low in let k = timed.courses w c.0 c.1 in record { begins = begins w c.0 k; finished = finished ends w c.0 c.1 k };
    };
  }

-- each legal play of the scheduler's values, whatever its orders, is a legal history of worlds
pub plays_are_legal : PlaysAreLegal
plays_are_legal s lists h values courses orders legal = played_legally s lists orders legal

-- What a judge keeps, whatever the order of times: so the next event of a worker, where it is ready and on time, is possible.
use Rattle.std.proofs.Common.{◌≡◌, ℕ, ◌+◌, ◌^◌, ◌<◌, ◌≤◌, true, List, [], flat_map, length, slice_get, slice_set, Some, IfSome, IsSome, IsTrue, option_and_then, refl, sym, ◌∙◌, ap, subst, arith}
use Rattle.std.specs.List.{AllByRecursion}
use Rattle.std.proofs.lemmas.Bool.{ne_eqb}
use Rattle.std.proofs.lemmas.List.{length-set}
use Rattle.std.proofs.lemmas.Option.{IfSome_then, slice_get_within}
use Rattle.ule_types.proofs.Repeats.{among_front}
use Rattle.ule_types.specs.Commands.{forked_by, is_among}
use Rattle.ule_types.specs.Needs.{hatched_by}
use Rattle.ule_types.specs.Words.{change_of}
use Rattle.ule_types.specs.declared.event.Event.{Event}
use Rattle.ule_types.specs.declared.event.Item.TheVariants as item
use Rattle.ule_types.specs.declared.event.Reply.{Reply}
use Rattle.ule_types.specs.declared.setup.Setup.{Setup}
use Rattle.ule_program.specs.Courses.{Course, next_step}
use Rattle.ule_program.specs.Hearing.{CanHear, IsReplyTo, IsSeat}
use Rattle.ule_program.specs.Laws.{hand_by_word}
use Rattle.ule_program.proofs.GroupLaws.{topology_seat}
use Rattle.ule_model.specs.Conditions.{HasSoundNumbers, IsHandled, IsPossible}
use Rattle.ule_model.specs.Ends.{end_time}
use Rattle.ule_model.specs.Events.{handling, is_ready, locks_of, names_cpus, sought_by}
use Rattle.ule_model.specs.History.{IsHistoryOf}
use Rattle.ule_model.specs.Places.{is_number}
use Rattle.ule_model.specs.Rounds.{greatest_rounds, opening_courses, play_of}
use Rattle.ule_model.specs.Start.{starting_time, world_at_start}
use Rattle.ule_model.specs.Step.{step}
use Rattle.ule_model.specs.World.{Member, World, thread_of}
use Rattle.ule_members.proofs.Setups.{setup_scripts}
use Rattle.ule_members.proofs.Starts.{IsFreshRecord, start_laid}
use Rattle.ule_members.proofs.Unborn.{IsStillUnborn, unborn_stays}
use Rattle.ule_members.proofs.Within.{all_along}
use Rattle.ule_courses.proofs.Courses.{GoesOnAs, HasOrder, IsAtEvent, IsNextItem, course_advanced, course_told, event_at, forks_ahead, hears_at, held_at, left_of, next_is, order_later}
use Rattle.ule_courses.proofs.Hands.{DoAgree, FindsUnborn, agree_set, agree_step, finds_unborn, hand_handled}
use Rattle.ule_courses.proofs.Replies.{step_replies}
use Rattle.ule_parts.specs.Scheduler.{IsWorldOf}
use Rattle.ule_parts.proofs.Worlds.{is_world_after, start_is_world}
use Rattle.ule_parts.specs.Workers.{declared_ids_of}
use Rattle.ule_parts.proofs.Numbers.{found_numbered}
use Rattle.ule_rounds.proofs.Finishing.{rounds_played}
use Rattle.ule_rounds.proofs.HistoryLaws.{history_of_rounds}
use Rattle.ule_rounds.proofs.Plays.{opening_count, opening_is, sum_set}
use Rattle.ule_rounds.proofs.RoundPlays.{time_below}
use Rattle.ule_check.proofs.Forks.{HasForksAhead, forks_opening, forks_set}
use Rattle.ule_check.proofs.Openings.{all_left, each_after_set, opening_hands, opening_order, tree_of}
use Rattle.ule_check.specs.Judge.{with_time, with_times}
use Rattle.ule_check.proofs.Faults.{time_at_other, time_at_own}
use Rattle.ule_check.proofs.NotedTimes.{IsNotedBy, IsOnTime, noted_after, noted_in_time}

-- what a judge keeps: a world of the setup; courses in order by the last time of each worker, which can hear what they were told, and agree with
-- hands and unborn threads; and what is noted of threads
pub record IsKept (s : Setup) (w : World) (courses : List Course) (own latest : ℕ → ℕ) : Type 0 where
  pub world : IsWorldOf s w
  pub count : length courses ≡ s.cpus
  pub orderly : (worker : ℕ) (course : Course) → slice_get courses worker ≡ Some course → HasOrder (declared_ids_of s) worker (tree_of s) (own worker) course
  pub hears : (worker : ℕ) (course : Course) → slice_get courses worker ≡ Some course → CanHear course.last course.own
  pub hands : DoAgree w.members courses
  pub forks : HasForksAhead w.members courses
  pub noted : AllByRecursion (IsNotedBy own latest) w.members

-- the judge at the start keeps it
pub kept_at_start : (s : Setup) → IsKept s (world_at_start s) (opening_courses s) (λ worker. starting_time) (λ l. starting_time)
kept_at_start s = record {
  world = start_is_world s;
  count = opening_count s;
  orderly = opening_order s starting_time;
  hears = λ worker course got. subst (λ (c : Course). CanHear c.last c.own) (opening_is s worker course got) tt;
  hands = opening_hands s;
  forks = forks_opening s;
  noted = all_along (λ (m : Member). IsFreshRecord s.cpus m.thread) (IsNotedBy (λ worker. starting_time) (λ l. starting_time)) (world_at_start s).members
      (λ m fresh. record { under = λ l lock. fresh.by_now; held = λ h hand. fresh.by_now }) (start_laid s).records;
}

-- the time at the end is within bounds, as it is that of the rounds
pub end_below : (s : Setup) → end_time s.scripts < 2 ^ 36
end_below s =
    let history : IsHistoryOf s (play_of s) = history_of_rounds s in
    let played = rounds_played s greatest_rounds in
    subst (λ n. n < 2 ^ 36) history.time (time_below s played.0 (play_of s) played.1)

-- a worker that has a course has its seat in the setup's topology
seat_of : (s : Setup) (w : World) (courses : List Course) (own latest : ℕ → ℕ) (worker : ℕ) (course : Course) → IsKept s w courses own latest → slice_get courses worker ≡ Some course →
    IsSeat worker (tree_of s)
seat_of s w courses own latest worker course kept got =
    topology_seat s.cpus worker s.groups (setup_scripts s).cpus (subst (λ n. worker < n) kept.count (slice_get_within courses worker course got))

-- ---- an advance of time

module _ (s : Setup) (w : World) (courses : List Course) (own latest : ℕ → ℕ) (worker k : ℕ) (course after : Course) (kept : IsKept s w courses own latest)
    (got : slice_get courses worker ≡ Some course) (found : next_step course ≡ Some (item.Advance k, after)) where
  -- where the advance is found
  advance_next : IsNextItem (declared_ids_of s) worker (tree_of s) (own worker) course (item.Advance k) after
  advance_next = next_is (declared_ids_of s) worker (tree_of s) (seat_of s w courses own latest worker course kept got) (own worker) course (item.Advance k) after (kept.orderly worker course got) found

  -- so the course goes on
  went_ahead : GoesOnAs (declared_ids_of s) worker (tree_of s) (own worker) [] (held_at course) course after
  went_ahead = course_advanced (declared_ids_of s) worker (tree_of s) (seat_of s w courses own latest worker course kept got) (own worker) k course after advance_next

  -- it keeps what a judge keeps
  pub kept_advanced : IsKept s w (slice_set courses worker after) own latest
  kept_advanced = record {
    world = kept.world;
    count = length-set courses worker after ∙ kept.count;
    orderly = each_after_set (λ v c. HasOrder (declared_ids_of s) v (tree_of s) (own v) c) courses worker course after got went_ahead.orderly (λ v c other at. kept.orderly v c at);
    hears = each_after_set (λ v (c : Course). CanHear c.last c.own) courses worker course after got (subst (λ (c : Course). CanHear c.last c.own) (sym advance_next.gone) tt)
        (λ v c other at. kept.hears v c at);
    hands = agree_set courses worker course after w.members w.members got kept.hands (λ h t other. refl)
        (λ t. kept.hands worker t ∙ ap (λ o. is_number t (option_and_then held_at o)) got ∙ ap (is_number t) (sym went_ahead.held));
    forks = forks_set courses worker course after [] got went_ahead.forks w.members w.members (λ t other unborn. unborn) kept.forks;
    noted = kept.noted;
  }

  -- and leaves fewer items
  pub left_advanced : all_left s.cpus (slice_set courses worker after) + 1 ≤ all_left s.cpus courses
  left_advanced = omega (arith, sum_set (left_of s.cpus) courses worker course after got, went_ahead.left)

-- ---- an event

-- what a worker's next event finds, whatever its time
pub record IsPlaced (w : World) (worker : ℕ) (e : Event) : Type 0 where
  pub worker_is : worker < length w.lines
  pub cpus : IsTrue (names_cpus (length w.lines) e)
  pub declared : IfSome (sought_by e) (λ t. IsSome (thread_of t w.members))
  pub hand_is : IsHandled w worker (handling e)
  pub numbers : HasSoundNumbers e

module _ (s : Setup) (w : World) (courses : List Course) (own latest : ℕ → ℕ) (worker : ℕ) (e : Event) (course after : Course) (kept : IsKept s w courses own latest)
    (got : slice_get courses worker ≡ Some course) (found : next_step course ≡ Some (item.Event e, after)) where
  -- the worker has its seat
  seat : IsSeat worker (tree_of s)
  seat = seat_of s w courses own latest worker course kept got

  -- where the event is found
  next : IsNextItem (declared_ids_of s) worker (tree_of s) (own worker) course (item.Event e) after
  next = next_is (declared_ids_of s) worker (tree_of s) seat (own worker) course (item.Event e) after (kept.orderly worker course got) found

  -- what is known of it there
  event : IsAtEvent (declared_ids_of s) s.cpus (held_at course) (forks_ahead course) next.script e
  event =
      event_at (declared_ids_of s) worker (tree_of s) (own worker) (left_of s.cpus course) (held_at course) (forks_ahead course) next.script next.own next.own.stage e next.holds next.item

  -- a thread that it hatches is unborn
  hatches : (t : ℕ) → is_among (hatched_by e) t ≡ true → IsStillUnborn t w.members
  hatches t among =
      kept.forks.unborn worker course t got (ap (λ us. is_among us t) (sym event.forks) ∙ among_front (hatched_by e) (flat_map forked_by next.script) t among)

  -- the thread that it seeks is there
  declared : IfSome (sought_by e) (λ t. IsSome (thread_of t w.members))
  declared = IfSome_then (sought_by e) event.names.1 (λ t among. found_numbered t (declared_ids_of s) w.members kept.world.numbers among)

  -- and so is the unborn one that it hatches
  finds : FindsUnborn w.members (handling e)
  finds = finds_unborn w.members (handling e) hatches

  -- what is known of the worker's next event before its time is judged
  pub placed : IsPlaced w worker e
  placed = record {
    worker_is = subst (λ n. worker < n) (sym kept.world.lines) seat.within;
    cpus = subst (λ n. IsTrue (names_cpus n e)) (sym kept.world.lines) event.names.0;
    declared = declared;
    hand_is = hand_handled w worker courses (held_at course) (handling e) kept.world.made.members kept.hands (ap (option_and_then held_at) got) event.fits finds;
    numbers = event.names.2;
  }

  module _ (now : ℕ) (ready : is_ready w worker e ≡ true) (on : IsOnTime own latest w worker e now) where
    -- the worker's next event is possible
    pub possible : IsPossible w worker e now
    possible = record {
      worker_is = placed.worker_is;
      cpus = placed.cpus;
      declared = placed.declared;
      ready = ready;
      hand = placed.hand_is;
      numbers = placed.numbers;
      begun = on.begun;
      bounded = on.bounded;
      in_time = noted_in_time own latest w worker e now on kept.noted;
    }

    abbrev reply : Reply
    reply = (step w worker e now).1

    abbrev come : Course
    come = record after { last = Some (reply, now) }

    -- where the worker's next item is found by now
    next_now : IsNextItem (declared_ids_of s) worker (tree_of s) now course (item.Event e) after
    next_now = next_is (declared_ids_of s) worker (tree_of s) seat now course (item.Event e) after
        (order_later (declared_ids_of s) worker (tree_of s) (own worker) now course on.own_is (kept.orderly worker course got)) found

    -- the reply is one that the event can have
    says : IsReplyTo (is_among (declared_ids_of s)) s.cpus now e reply
    says =
        step_replies (declared_ids_of s) s.cpus w worker now
        (record { bound = kept.world.bound; last = kept.world.last; parents = kept.world.parents; bounds = kept.world.bounds; made = kept.world.made.members }) e declared finds
        (noted_in_time own latest w worker e now on kept.noted)

    -- so the worker goes on
    went : GoesOnAs (declared_ids_of s) worker (tree_of s) now (hatched_by e) (hand_by_word (handling e) (change_of e reply) (held_at course)) course come
    went = course_told (declared_ids_of s) worker (tree_of s) seat now course e after reply next_now says

    -- and its program can hear the reply
    hears_reply : CanHear (Some (reply, now)) after.own
    hears_reply =
        subst (λ (c : Course). CanHear (Some (reply, now)) c.own) (sym next_now.gone)
        (hears_at (declared_ids_of s) worker (tree_of s) now (left_of s.cpus course) (held_at course) (forks_ahead course) next_now.script next_now.own next_now.own.stage e reply
        next_now.holds next_now.item says)

    few : length w.lines ≤ 16
    few = omega (arith, kept.world.lines, (setup_scripts s).cpus)

    -- fewer items are left then
    pub left_performed : all_left s.cpus (slice_set courses worker come) + 1 ≤ all_left s.cpus courses
    left_performed = omega (arith, sum_set (left_of s.cpus) courses worker course come got, went.left)

    -- the judge who went on keeps what a judge keeps
    pub kept_performed : IsKept s (step w worker e now).0 (slice_set courses worker come) (with_time worker now own) (with_times (locks_of w e) now latest)
    kept_performed = record {
      world = is_world_after s w worker e now kept.world possible;
      count = length-set courses worker come ∙ kept.count;
      orderly = each_after_set (λ v c. HasOrder (declared_ids_of s) v (tree_of s) (with_time worker now own v) c) courses worker course come got
          (subst (λ t. HasOrder (declared_ids_of s) worker (tree_of s) t come) (sym (time_at_own worker now own)) went.orderly)
          (λ v c other there. subst (λ t. HasOrder (declared_ids_of s) v (tree_of s) t c) (sym (time_at_other worker now v own (ne_eqb v worker other))) (kept.orderly v c there));
      hears = each_after_set (λ v (c : Course). CanHear c.last c.own) courses worker course come got hears_reply (λ v c other there. kept.hears v c there);
      hands = agree_step w worker e now courses course come kept.world.made possible got kept.hands event.fits went.held;
      forks = forks_set courses worker course come (hatched_by e) got went.forks w.members (step w worker e now).0.members
          (λ t other unborn. unborn_stays w worker e now t kept.world.made possible few other unborn) kept.forks;
      noted = noted_after own latest w worker e now on kept.world.made possible kept.noted;
    }

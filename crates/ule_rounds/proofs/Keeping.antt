-- What is known of a worker's next item in rounds, by the legal play of values that they are.
use Rattle.std.proofs.Common.{◌≡◌, ◌≢◌, ℕ, zero, suc, ◌+◌, ◌≤◌, true, List, [], ◌∷◌, length, length-set, map, set, slice_get, slice_index_or, is_some, Some, None, sym, refl, ap, ◌∙◌, subst, ⊎_elim, arith}
use Rattle.std.proofs.lemmas.Bool.{false≢true}
use Rattle.std.proofs.lemmas.List.Sums.{sum_by-cons}
use Rattle.std.proofs.lemmas.Option.{none-some}
use Rattle.ule_types.specs.declared.event.Event.{Event}
use Rattle.ule_types.specs.declared.event.Item.{Item}
use Rattle.ule_types.specs.declared.event.Item.TheVariants as item
use Rattle.ule_types.specs.declared.event.Reply.{Reply}
use Rattle.ule_types.specs.declared.setup.Setup.{Setup}
use Rattle.ule_program.specs.Courses.{Course, next_step}
use Rattle.ule_program.specs.Hearing.{CanHear}
use Rattle.ule_program.specs.Program.{item_at, most_at}
use Rattle.ule_program.specs.declared.own.Own.{Own}
use Rattle.ule_program.specs.declared.stage.Stage.{Stage}
use Rattle.ule_program.specs.declared.stage.Stage.TheVariants.{Advances, Ended, Gives}
use Rattle.ule_model.specs.Conditions.{IsPossible}
use Rattle.ule_model.specs.Events.{holder_of, is_ready}
use Rattle.ule_model.specs.Rounds.{Play, after_item, greatest_rounds, performed}
use Rattle.ule_model.specs.Step.{step}
use Rattle.ule_model.specs.World.{World}
use Rattle.ule_model.specs.WorldValue.{WorldValue, held_by, if_thread}
use Rattle.ule_courses.proofs.Hands.{held_in_hand}
use Rattle.ule_micro.specs.Courses.{WorkerCourse}
use Rattle.ule_micro.specs.Means.{budgets}
use Rattle.ule_micro.specs.Standings as standing
use Rattle.ule_micro.proofs.Courses.{IsCourse, advances_little, all_are_courses, in_budget}
use Rattle.ule_micro.proofs.Lists.{get_set, there}
use Rattle.ule_micro.proofs.Numbers.{play_counted}
use Rattle.ule_parts.specs.Histories.{scheduler_with}
use Rattle.ule_parts.specs.Plays.{list_of}
use Rattle.ule_parts.specs.Scheduler.{budget_of, sched_means}
use Rattle.ule_parts.specs.Workers.{IsItem, Worker, left_at}
use Rattle.ule_parts.proofs.Lawful.{is_lawful}
use Rattle.ule_parts.proofs.Locks.{hand_some}
use Rattle.ule_parts.proofs.Worlds.{IsReached}
use Rattle.ule_rounds.proofs.Plays.{sum_set}
use Rattle.ule_rounds.proofs.RoundPlays.{IsPlayed, IsSettled, advances_turn, has_item, hears_reply, is_possible, items_of, orders, performs_turn, reached, settles, there_is, todo_item, value_and_hands, world_is}

-- ---- the items

-- the items that workers performed are within their budgets, where the first has this number
items_within : (b : ℕ → ℕ) (k : ℕ) (cs : List (WorkerCourse Worker Event Reply)) → ((w : ℕ) (c : WorkerCourse Worker Event Reply) → slice_get cs w ≡ Some c → c.items ≤ b (k + w))
    → items_of cs + budgets b k ≤ budgets b (k + length cs)
items_within b k [] each = let same : k + 0 ≡ k = omega arith in omega (arith, ap (budgets b) same)
items_within b k (c ∷ cs) each =
    let first : k + 0 ≡ k = omega arith in
    let rest : k + suc (length cs) ≡ suc k + length cs = omega arith in
    omega (
      arith,
      each 0 c refl,
      ap b first,
      ap (budgets b) rest,
      sum_by-cons (λ (d : WorkerCourse Worker Event Reply). d.items) c cs,
      items_within b (suc k) cs (λ w d at. (let next : k + suc w ≡ suc k + w = omega arith in subst (λ i. d.items ≤ b i) next (each (suc w) d at))),
    )

-- where a worker has an item, one is left of its command
item_left_at : (own : Own) (i : Item) → IsItem own (standing.has (todo_item i)) → 1 ≤ left_at own (standing.has (todo_item i))
item_left_at own (item.Advance k) is = omega arith
item_left_at own (item.Event e) is = at_stage own.stage is
  where
    at_stage : (st : Stage) → item_at st ≡ Some (item.Event e) → 1 ≤ most_at st own
    at_stage Ended is = absurd (none-some (item.Event e) is)
    at_stage (Advances k) is = omega arith
    at_stage (Gives f next) is = omega arith

-- ---- hands

-- a hand that has a thread is that of a worker
hand_of_worker : (t h : ℕ) (cs : List (WorkerCourse Worker Event Reply)) → is_some (if_thread t (slice_index_or (map (λ c. c.own.hand) cs) h None)) ≡ true
    → (c : WorkerCourse Worker Event Reply) × (slice_get cs h ≡ Some c) × (is_some (if_thread t c.own.hand) ≡ true)
hand_of_worker t h [] has = absurd (false≢true has)
hand_of_worker t zero (c ∷ cs) has = (c, refl, has)
hand_of_worker t (suc h) (c ∷ cs) has = hand_of_worker t h cs has

module _ (s : Setup) (n : ℕ) (p : Play) (r : IsPlayed s n p) where
  -- a thread in a worker's hand in the world is in that worker's hand in the play of values
  pub in_hand : (t h : ℕ) → holder_of p.world.members t ≡ Some h → (c : WorkerCourse Worker Event Reply) × (slice_get r.courses h ≡ Some c) × (is_some (if_thread t c.own.hand) ≡ true)
  in_hand t h held = hand_of_worker t h r.courses
      (hand_some value come.world h (held_by value h) come.shows (come.shows.hands h) t
      ∙ held_in_hand h t come.world.members (subst (λ (x : World). holder_of x.members t ≡ Some h) (sym (world_is s n p r)) held))
    where
      come : IsReached s r.history (value_and_hands s n p r)
      come = reached s n p r

      value : WorldValue
      value = scheduler_with s (value_and_hands s n p r)

  -- all items of a play are within what all scripts are charged
  within : (cs : List (WorkerCourse Worker Event Reply)) → length cs ≡ length r.courses
      → ((w : ℕ) (c : WorkerCourse Worker Event Reply) → slice_get cs w ≡ Some c → c.items ≤ budget_of s w) → items_of cs ≤ greatest_rounds
  within cs many each =
      let same : 0 + length cs ≡ length (sched_means s).owns = omega (arith, many, (play_counted (sched_means s) (list_of s.scripts) (is_lawful s) (orders s) r.legal).workers) in
      omega (
        arith,
        items_within (budget_of s) 0 cs (λ w c at. (let first : w ≡ 0 + w = omega arith in subst (λ i. c.items ≤ budget_of s i) first (each w c at))),
        ap (budgets (budget_of s)) same,
        (is_lawful s).small.small,
      )

  pub items_few : n ≤ greatest_rounds
  items_few = subst (λ k. k ≤ greatest_rounds) r.items (within r.courses refl (λ w c at. in_budget (sched_means s) (list_of s.scripts) (is_lawful s) (orders s) r.legal w c at))

-- ---- a worker's next item

module _ (s : Setup) (n : ℕ) (p : Play) (r : IsPlayed s n p) (w : ℕ) (course : Course) (got : slice_get p.courses w ≡ Some course) where
  -- the worker goes on to its next item
  pub settled : IsSettled s n p r.courses w
  settled = let c = there_is s n p r w (there p.courses w course got) in settles s n p r w c.0 c.1

  module _ (i : Item) (after : Course) (next : next_step course ≡ Some (i, after)) where
    abbrev c : WorkerCourse Worker Event Reply
    c = settled.now_at

    item_is : c.standing ≡ standing.has (todo_item i)
    item_is = (has_item s n p r.courses w settled course after i got next).0

    is_course : IsCourse (sched_means s) (list_of s.scripts) settled.played.history w c
    is_course = all_are_courses (sched_means s) (list_of s.scripts) (is_lawful s) (orders s) settled.played.legal w c settled.found

    -- an item more is within its budget
    one_more : c.items + 1 ≤ budget_of s w
    one_more = omega (
      arith,
      is_course.count,
      (orders s).charged w,
      ap (left_at c.own.program) item_is,
      item_left_at c.own.program i (subst (IsItem c.own.program) item_is is_course.stands.1),
    )

    -- so a worker with a further item leaves room for it
    pub item_left : n + 1 ≤ greatest_rounds
    item_left = omega (
      arith,
      within s n p settled.played (set settled.played.courses w more) (length-set settled.played.courses w more) each,
      sum_set (λ (d : WorkerCourse Worker Event Reply). d.items) settled.played.courses w c more settled.found,
      settled.played.items,
    )
      where
        more : WorkerCourse Worker Event Reply
        more = record c { items = c.items + 1 }

        each : (v : ℕ) (d : WorkerCourse Worker Event Reply) → slice_get (set settled.played.courses w more) v ≡ Some d → d.items ≤ budget_of s v
        each v d at = ⊎_elim
            (λ (z : (v ≡ w) × (more ≡ d)). subst (λ u. d.items ≤ budget_of s u) (sym z.0) (subst (λ (b : WorkerCourse Worker Event Reply). b.items ≤ budget_of s w) z.1 one_more))
            (λ (z : (v ≢ w) × (slice_get settled.played.courses v ≡ Some d)). in_budget (sched_means s) (list_of s.scripts) (is_lawful s) (orders s) settled.played.legal v d z.1)
            (get_set settled.played.courses w v more d at)

  module _ (e : Event) (after : Course) (next : next_step course ≡ Some (item.Event e, after)) (ready : is_ready p.world w e ≡ true) where
    -- an event that is ready is possible
    pub next_possible : IsPossible p.world w e p.now
    next_possible = is_possible s n p w e course after got next ready r.courses settled

    -- the program that gave it can hear the reply
    pub next_hears : CanHear (Some ((step p.world w e p.now).1, p.now)) after.own
    next_hears = hears_reply s n p w e course after got next ready r.courses settled

    -- it is performed
    pub next_performed : IsPlayed s (n + 1) (performed w e after p)
    next_performed = performs_turn s n p w e course after got next ready r.courses settled

  module _ (k : ℕ) (after : Course) (next : next_step course ≡ Some (item.Advance k, after)) where
    -- time that goes on is at most a million ticks, and not none
    pub advance_within : (1 ≤ k) × (k ≤ 1000000)
    advance_within = advances_little (sched_means s) (list_of s.scripts) (is_lawful s) (orders s) settled.played.legal w settled.now_at settled.found k (item_is (item.Advance k) after next)

    -- time goes on
    pub next_advanced : IsPlayed s (n + 1) (after_item w (item.Advance k) after p)
    next_advanced = advances_turn s n p r.courses w k settled course after got next

-- The rounds of a setup are a legal play of its scheduler's values: each turn is a few of its moves, or none.
use Rattle.std.proofs.Common.{◌≡◌, ◌≢◌, ◌⊎◌, ℕ, zero, suc, ◌+◌, ◌^◌, ◌<◌, ◌≤◌, true, List, [], ◌∷◌, ◌++◌, drop, length, length-set, map, set, slice_get, sum_by, Option, Some, None, refl, sym, ap, ◌∙◌, subst, inl, inr, ⊎_elim, arith}
use Rattle.std.proofs.lemmas.List.{length_push}
use Rattle.std.proofs.lemmas.List.Sums.{sum_by-cons}
use Rattle.std.proofs.lemmas.Option.{none-some, same_Some, some_pair_parts}
use Rattle.ule_score.specs.declared.record.ThreadRecord.{ThreadRecord}
use Rattle.ule_types.specs.declared.command.Command.{Command}
use Rattle.ule_types.specs.declared.event.Event.{Event}
use Rattle.ule_types.specs.declared.event.Item.{Item}
use Rattle.ule_types.specs.declared.event.Item.TheVariants as item
use Rattle.ule_types.specs.declared.event.Reply.{Reply}
use Rattle.ule_types.specs.declared.setup.Setup.{Setup}
use Rattle.ule_program.specs.Courses.{Course, course_of, next_in, next_step}
use Rattle.ule_program.specs.Hearing.{CanHear}
use Rattle.ule_program.specs.Program.{next_of}
use Rattle.ule_model.specs.Conditions.{IsPossible}
use Rattle.ule_model.specs.Events.{is_ready, locking}
use Rattle.ule_model.specs.Legal.{after_entry, opening_of, replayed}
use Rattle.ule_model.specs.LockValue.{LockValue}
use Rattle.ule_model.specs.Rounds.{Play, after_item, entry_of, opening, performed}
use Rattle.ule_model.specs.Start.{world_at_start}
use Rattle.ule_model.specs.Step.{step}
use Rattle.ule_courses.proofs.Histories.{replayed_push, replayed_start}
use Rattle.ule_micro.specs.declared.entry.Entry.{Entry}
use Rattle.ule_micro.specs.declared.todo.Todo.{Todo}
use Rattle.ule_micro.specs.declared.todo.Todo.TheVariants as todo
use Rattle.ule_micro.specs.Courses.{LegalPlay, WorkerCourse, advanced_by, all_advanced, answered, done_by, ordered, unbegun}
use Rattle.ule_micro.specs.Courses as play
use Rattle.ule_micro.specs.Histories.{Follows, IsNoEarlierThanShared, ValuesAndHands, effect_on, own_entries, values_under}
use Rattle.ule_micro.specs.Laws.{AreOrders}
use Rattle.ule_micro.specs.Standings.{Acted, Standing, asks, rests, standing_with}
use Rattle.ule_micro.specs.Standings as standing
use Rattle.ule_micro.proofs.Courses.{asked_for, may_go_on}
use Rattle.ule_micro.proofs.Effects.{effect_is, guarded_there}
use Rattle.ule_micro.proofs.Lists.{drop_get, drop_none, get_else, get_here, get_map, get_set, map_get, something, there}
use Rattle.ule_micro.proofs.Numbers.{advanced_at, advanced_set, play_counted, play_small}
use Rattle.ule_parts.specs.Acts.{act_on, needs_of, todo_of}
use Rattle.ule_parts.specs.Histories.{entries_in_order, scheduler_with, world_entry}
use Rattle.ule_parts.specs.Plays.{list_of}
use Rattle.ule_parts.specs.Scheduler.{sched_means}
use Rattle.ule_parts.specs.Workers.{AsksFor, Worker, owns_from}
use Rattle.ule_parts.proofs.Lawful.{is_lawful, start_shown}
use Rattle.ule_parts.proofs.Leading.{hands_of, play_leads}
use Rattle.ule_parts.proofs.Locks.{FindsLocks, acted_shows, are_under}
use Rattle.ule_parts.proofs.Orders.{are_orders, are_scripts, many_owns}
use Rattle.ule_parts.proofs.Playing.{first_next, next_at, next_of_rest, told_next}
use Rattle.ule_parts.proofs.Replays.{in_order_more}
use Rattle.ule_parts.proofs.Worlds.{IsReached, finds_locks, reached_by}
use Rattle.ule_parts.proofs.Worlds as worlds
use Rattle.ule_rounds.proofs.Plays.{opening_count, opening_is, sum_set}

-- the first of what is left of a list
drop_head : {A : Type 0} (xs : List A) (n : ℕ) (x : A) (ys : List A) → drop n xs ≡ x ∷ ys → (slice_get xs n ≡ Some x) × (drop (n + 1) xs ≡ ys)
drop_head {A} xs n x ys is = by (slice_get xs n) refl
  where
    by : (o : Option A) → slice_get xs n ≡ o → (slice_get xs n ≡ Some x) × (drop (n + 1) xs ≡ ys)
    by None none = let never : [] ≡ x ∷ ys = sym (drop_none xs n none) ∙ is in absurd (cc)
    by (Some y) some =
        let same : y ∷ drop (n + 1) xs ≡ x ∷ ys = sym (drop_get xs n y some) ∙ is in
        let one : y ≡ x = cc in let rest : drop (n + 1) xs ≡ ys = cc in (some ∙ ap (λ z. Some z) one, rest)

-- where nothing is left there is nothing more
drop_nothing : {A : Type 0} (xs : List A) (n : ℕ) → drop n xs ≡ [] → slice_get xs n ≡ None
drop_nothing {A} xs n is = by (slice_get xs n) refl
  where
    by : (o : Option A) → slice_get xs n ≡ o → slice_get xs n ≡ None
    by None none = none
    by (Some y) some = let never : y ∷ drop (n + 1) xs ≡ [] = sym (drop_get xs n y some) ∙ is in absurd (cc)

-- an item as a worker's course has it
abbrev pub todo_item : Item → Todo Event
todo_item (item.Event e) = todo.Event e
todo_item (item.Advance k) = todo.Advance k

-- the items that all workers performed
abbrev pub items_of : List (WorkerCourse Worker Event Reply) → ℕ
items_of cs = sum_by (λ c. c.items) cs

-- no time was advanced and no item performed before the first command
none_yet : (os : List Worker) → (all_advanced {O = Worker} {E = Event} {R = Reply} (map unbegun os) ≡ 0) × (items_of (map unbegun os) ≡ 0)
none_yet [] = (refl, refl)
none_yet (o ∷ os) = let z = none_yet os in (omega (arith, z.0), omega (arith, z.1, sum_by-cons (λ (c : WorkerCourse Worker Event Reply). c.items) (unbegun o) (map unbegun os)))

module _ (s : Setup) where
  abbrev lists : ℕ → List Command
  lists = list_of s.scripts

  pub orders : AreOrders (sched_means s) (list_of s.scripts)
  orders = are_orders s (list_of s.scripts) (are_scripts s)

  -- does stand: a worker of a play of values stands where its course in rounds is
  abbrev DoesStand : ℕ → WorkerCourse Worker Event Reply → Course → Type 0
  DoesStand w c course = next_step course ≡ next_at (drop c.begun (lists w)) c.own.program c.standing

  -- is at its end: a worker stands behind the last command of its list
  abbrev pub IsAtItsEnd : ℕ → WorkerCourse Worker Event Reply → Type 0
  IsAtItsEnd w c = (c.standing ≡ rests) × (slice_get (lists w) c.begun ≡ None)

  -- is played: a legal play of values, after so many items, is where a play in rounds is
  pub record IsPlayed (n : ℕ) (p : Play) : Type 0 where
    pub history : List (Entry Event Reply)
    pub values : List LockValue
    pub courses : List (WorkerCourse Worker Event Reply)
    pub legal : LegalPlay (sched_means s) (list_of s.scripts) history values courses
    pub workers : length p.courses ≡ s.cpus
    pub world : replayed (world_at_start s) p.entries ≡ p.world
    pub entries : entries_in_order history ≡ p.entries
    pub few : length p.entries ≤ n
    pub time : 20000 + all_advanced courses ≡ p.now
    pub items : items_of courses ≡ n
    pub stand : (w : ℕ) (c : WorkerCourse Worker Event Reply) (course : Course) → slice_get courses w ≡ Some c → slice_get p.courses w ≡ Some course → DoesStand w c course

  -- one worker's course changed
  set_here : (cs : List (WorkerCourse Worker Event Reply)) (w : ℕ) (c d : WorkerCourse Worker Event Reply) → slice_get cs w ≡ Some c → slice_get (set cs w d) w ≡ Some d
  set_here cs w c d at = get_here cs w d (there cs w c at)

  module _ (n : ℕ) (p : Play) where
    -- a worker goes on without an item performed
    abbrev goes_on : (r : IsPlayed n p) (w : ℕ) (c d : WorkerCourse Worker Event Reply) → slice_get r.courses w ≡ Some c
        → LegalPlay (sched_means s) (list_of s.scripts) r.history r.values (set r.courses w d)
        → d.advanced ≡ c.advanced → d.items ≡ c.items → ((course : Course) → slice_get p.courses w ≡ Some course → DoesStand w d course) → IsPlayed n p
    goes_on r w c d at legal same as_many next = record {
      history = r.history;
      values = r.values;
      courses = set r.courses w d;
      legal = legal;
      workers = r.workers;
      world = r.world;
      entries = r.entries;
      few = r.few;
      time = omega (arith, advanced_set r.courses w c d at, r.time, same);
      items = omega (arith, sum_set (λ (b : WorkerCourse Worker Event Reply). b.items) r.courses w c d at, r.items, as_many);
      stand = λ v b course found got. ⊎_elim
          (λ (z : (v ≡ w) × (d ≡ b)). subst (λ e. DoesStand v e course) z.1 (subst (λ u. DoesStand u d course) (sym z.0) (next course (subst (λ u. slice_get p.courses u ≡ Some course) z.0 got))))
          (λ (z : (v ≢ w) × (slice_get r.courses v ≡ Some b)). r.stand v b course z.1 got)
          (get_set r.courses w v d b found);
    }

    -- is settled: a worker has its next item, or is behind the last command of its list; the others stand where they stood
    pub record IsSettled (old : List (WorkerCourse Worker Event Reply)) (w : ℕ) : Type 0 where
      pub played : IsPlayed n p
      pub now_at : WorkerCourse Worker Event Reply
      pub found : slice_get played.courses w ≡ Some now_at
      pub stands : ((x : Todo Event) × (now_at.standing ≡ standing.has x)) ⊎ ((now_at.standing ≡ rests) × (drop now_at.begun (lists w) ≡ []))
      pub others : (v : ℕ) → v ≢ w → slice_get played.courses v ≡ slice_get old v

    -- it was so before the worker went on
    settled_before : (old new : List (WorkerCourse Worker Event Reply)) (w : ℕ) → ((v : ℕ) → v ≢ w → slice_get new v ≡ slice_get old v) → IsSettled new w → IsSettled old w
    settled_before old new w same q = record { played = q.played; now_at = q.now_at; found = q.found; stands = q.stands; others = λ v far. q.others v far ∙ same v far }

    -- a worker is told
    abbrev told : (r : IsPlayed n p) (w : ℕ) (c : WorkerCourse Worker Event Reply) (t : Option (Reply × ℕ)) → slice_get r.courses w ≡ Some c → c.standing ≡ asks t → IsPlayed n p
    told r w c t at is = goes_on r w c (answered (sched_means s) c t) at (play.answers w c t r.legal at is) refl refl
        (λ course got. r.stand w c course at got ∙ (ap (next_at (drop c.begun (lists w)) c.own.program) is ∙ told_next (drop c.begun (lists w)) c.own.program t))

    -- a worker begins its next command
    abbrev ordered_next : (r : IsPlayed n p) (w : ℕ) (c : WorkerCourse Worker Event Reply) (order : Command) → slice_get r.courses w ≡ Some c → c.standing ≡ rests
        → slice_get (lists w) c.begun ≡ Some order → IsPlayed n p
    ordered_next r w c order at is next = goes_on r w c (ordered (sched_means s) c order) at (play.begins w c order r.legal at is next) refl refl
        (λ course got. r.stand w c course at got ∙ (ap (next_at (drop c.begun (lists w)) c.own.program) is ∙ ap (λ script. next_of_rest script c.own.program) (drop_get (lists w) c.begun order next)))

    -- once it is told, it has an item, or its command has none
    once_told : (r : IsPlayed n p) (w : ℕ) (c : WorkerCourse Worker Event Reply) → slice_get r.courses w ≡ Some c → (i : Option Item) → c.standing ≡ standing_with (todo_of i)
        → (c.standing ≡ rests → IsSettled r.courses w) → IsSettled r.courses w
    once_told r w c at None is further = further is
    once_told r w c at (Some (item.Event e)) is further = record { played = r; now_at = c; found = at; stands = inl (todo.Event e, is); others = λ v far. refl }
    once_told r w c at (Some (item.Advance k)) is further = record { played = r; now_at = c; found = at; stands = inl (todo.Advance k, is); others = λ v far. refl }

    -- a worker between two commands goes on to its next item
    from_rest : (script : List Command) (r : IsPlayed n p) (w : ℕ) (c : WorkerCourse Worker Event Reply) → slice_get r.courses w ≡ Some c → drop c.begun (lists w) ≡ script → c.standing ≡ rests
        → IsSettled r.courses w
    from_rest [] r w c at left is = record { played = r; now_at = c; found = at; stands = inr (is, left); others = λ v far. refl }
    from_rest (order ∷ script) r w c at left is =
        let head = drop_head (lists w) c.begun order script left in
        let d : WorkerCourse Worker Event Reply = ordered (sched_means s) c order in
        let e : WorkerCourse Worker Event Reply = answered (sched_means s) d None in
        let r1 : IsPlayed n p = ordered_next r w c order at is head.0 in
        let at1 = set_here r.courses w c d at in
        let r2 : IsPlayed n p = told r1 w d None at1 refl in
        let at2 = set_here r1.courses w d e at1 in
        settled_before r.courses r2.courses w (λ v far. get_else r1.courses w v e far ∙ get_else r.courses w v d far)
        (once_told r2 w e at2 (next_of None d.own.program).0 refl (λ rest. from_rest script r2 w e at2 head.1 rest))

    -- a worker goes on to its next item
    pub settles : (r : IsPlayed n p) (w : ℕ) (c : WorkerCourse Worker Event Reply) → slice_get r.courses w ≡ Some c → IsSettled r.courses w
    settles r w c at = by c.standing refl
      where
        by : (st : Standing Event Reply) → c.standing ≡ st → IsSettled r.courses w
        by (standing.has x) is = record { played = r; now_at = c; found = at; stands = inl (x, is); others = λ v far. refl }
        by rests is = from_rest (drop c.begun (lists w)) r w c at refl is
        by (asks t) is =
            let e : WorkerCourse Worker Event Reply = answered (sched_means s) c t in
            let r1 : IsPlayed n p = told r w c t at is in
            let at1 = set_here r.courses w c e at in
            settled_before r.courses r1.courses w (λ v far. get_else r.courses w v e far)
            (once_told r1 w e at1 (next_of t c.own.program).0 refl (λ rest. from_rest (drop e.begun (lists w)) r1 w e at1 refl rest))

    -- the item that it has is that of its course
    pub has_item : (old : List (WorkerCourse Worker Event Reply)) (w : ℕ) (q : IsSettled old w) (course after : Course) (i : Item) → slice_get p.courses w ≡ Some course
        → next_step course ≡ Some (i, after)
        → (q.now_at.standing ≡ standing.has (todo_item i)) × (after ≡ course_of q.now_at.own.program (drop q.now_at.begun (lists w)))
    has_item old w q course after i got next = by q.stands
      where
        script : List Command
        script = drop q.now_at.begun (list_of s.scripts w)

        stand : (st : Standing Event Reply) → q.now_at.standing ≡ st → next_at (drop q.now_at.begun (lists w)) q.now_at.own.program st ≡ Some (i, after)
        stand st is = ap (next_at (drop q.now_at.begun (lists w)) q.now_at.own.program) (sym is) ∙ (sym (q.played.stand w q.now_at course q.found got) ∙ next)

        of_todo : (x : Todo Event) → q.now_at.standing ≡ standing.has x → (q.now_at.standing ≡ standing.has (todo_item i)) × (after ≡ course_of q.now_at.own.program (drop q.now_at.begun (lists w)))
        of_todo (todo.Event e) is =
            let parts = some_pair_parts (item.Event e) i (course_of q.now_at.own.program (drop q.now_at.begun (lists w))) after (stand (standing.has (todo.Event e)) is) in
            (is ∙ ap (λ j. standing.has (todo_item j)) parts.0, sym parts.1)
        of_todo (todo.Advance k) is =
            let parts = some_pair_parts (item.Advance k) i (course_of q.now_at.own.program (drop q.now_at.begun (lists w))) after (stand (standing.has (todo.Advance k)) is) in
            (is ∙ ap (λ j. standing.has (todo_item j)) parts.0, sym parts.1)

        by : ((x : Todo Event) × (q.now_at.standing ≡ standing.has x)) ⊎ ((q.now_at.standing ≡ rests) × (drop q.now_at.begun (lists w) ≡ []))
            → (q.now_at.standing ≡ standing.has (todo_item i)) × (after ≡ course_of q.now_at.own.program (drop q.now_at.begun (lists w)))
        by (inl (x, is)) = of_todo x is
        by (inr (is, nothing_left)) =
            absurd (none-some (i, after) (ap (λ script. next_of_rest script q.now_at.own.program) (sym nothing_left) ∙ stand rests is))

    -- a worker whose course has no next item stands behind the last command of its list
    pub comes_to_end : (old : List (WorkerCourse Worker Event Reply)) (w : ℕ) (q : IsSettled old w) (course : Course) → slice_get p.courses w ≡ Some course → next_step course ≡ None
        → IsAtItsEnd w q.now_at
    comes_to_end old w q course got ended = by q.stands
      where
        none : next_at (drop q.now_at.begun (lists w)) q.now_at.own.program q.now_at.standing ≡ None
        none = sym (q.played.stand w q.now_at course q.found got) ∙ ended

        of_todo : (x : Todo Event) → q.now_at.standing ≡ standing.has x → ⊥
        of_todo (todo.Event e) is = none-some _ (sym none ∙ ap (next_at (drop q.now_at.begun (lists w)) q.now_at.own.program) is)
        of_todo (todo.Advance k) is = none-some _ (sym none ∙ ap (next_at (drop q.now_at.begun (lists w)) q.now_at.own.program) is)

        by : ((x : Todo Event) × (q.now_at.standing ≡ standing.has x)) ⊎ ((q.now_at.standing ≡ rests) × (drop q.now_at.begun (lists w) ≡ [])) → IsAtItsEnd w q.now_at
        by (inl (x, is)) = absurd (of_todo x is)
        by (inr (is, left)) = (is, drop_nothing (lists w) q.now_at.begun left)

  -- both courses of a worker changed
  stand_set : (pc : List Course) (cs : List (WorkerCourse Worker Event Reply)) (w : ℕ) (d : WorkerCourse Worker Event Reply) (reached : Course)
      → ((v : ℕ) (b : WorkerCourse Worker Event Reply) (course : Course) → slice_get cs v ≡ Some b → slice_get pc v ≡ Some course → DoesStand v b course) → DoesStand w d reached
      → (v : ℕ) (b : WorkerCourse Worker Event Reply) (course : Course) → slice_get (set cs w d) v ≡ Some b → slice_get (set pc w reached) v ≡ Some course → DoesStand v b course
  stand_set pc cs w d reached others this v b course found got = ⊎_elim
      (λ (z : (v ≡ w) × (d ≡ b)). ⊎_elim
      (λ (y : (v ≡ w) × (reached ≡ course)). subst (λ u. DoesStand u b course) (sym z.0) (subst (λ e. DoesStand w e course) z.1 (subst (DoesStand w d) y.1 this)))
      (λ (y : (v ≢ w) × (slice_get pc v ≡ Some course)). absurd (y.0 z.0))
      (get_set pc w v reached course got))
      (λ (z : (v ≢ w) × (slice_get cs v ≡ Some b)). ⊎_elim
      (λ (y : (v ≡ w) × (reached ≡ course)). absurd (z.0 y.0))
      (λ (y : (v ≢ w) × (slice_get pc v ≡ Some course)). others v b course z.1 y.1)
      (get_set pc w v reached course got))
      (get_set cs w v d b found)

  -- time goes on
  pub advances_turn : (n : ℕ) (p : Play) (old : List (WorkerCourse Worker Event Reply)) (w k : ℕ) (q : IsSettled n p old w) (course after : Course) → slice_get p.courses w ≡ Some course
      → next_step course ≡ Some (item.Advance k, after) → IsPlayed (n + 1) (after_item w (item.Advance k) after p)
  advances_turn n p old w k q course after got next =
      let z = has_item n p old w q course after (item.Advance k) got next in
      let d : WorkerCourse Worker Event Reply = advanced_by (sched_means s) q.now_at k in record {
        history = q.played.history;
        values = q.played.values;
        courses = set q.played.courses w d;
        legal = play.advances w q.now_at k q.played.legal q.found z.0;
        workers = length-set p.courses w after ∙ q.played.workers;
        world = q.played.world;
        entries = q.played.entries;
        few = omega (arith, q.played.few);
        time = omega (arith, advanced_set q.played.courses w q.now_at d q.found, q.played.time);
        items = omega (arith, sum_set (λ (b : WorkerCourse Worker Event Reply). b.items) q.played.courses w q.now_at d q.found, q.played.items);
        stand = stand_set p.courses q.played.courses w d after q.played.stand (ap next_step z.1);
      }

  -- an entry is no later than what all have advanced
  past_all : {h : List (Entry Event Reply)} {vs : List LockValue} {cs : List (WorkerCourse Worker Event Reply)} → LegalPlay (sched_means s) (list_of s.scripts) h vs cs
      → (j : ℕ) (x : Entry Event Reply)
      → slice_get h j ≡ Some x → x.now ≤ 20000 + all_advanced cs
  past_all play.opens j x at = absurd (none-some x at)
  past_all (play.answers {h} {vs} {cs} w c t legal here is) j x at = omega (arith, past_all legal j x at, advanced_set cs w c (answered (sched_means s) c t) here)
  past_all (play.begins {h} {vs} {cs} w c order legal here is next) j x at = omega (arith, past_all legal j x at, advanced_set cs w c (ordered (sched_means s) c order) here)
  past_all (play.advances {h} {vs} {cs} w c k legal here is) j x at = omega (arith, past_all legal j x at, advanced_set cs w c (advanced_by (sched_means s) c k) here)
  past_all (play.performs {h} {vs} {cs} c y after legal here is follows times) zero x at =
      let same : y.now ≡ x.now = ap (λ (z : Entry Event Reply). z.now) (same_Some y x at) in
      omega (arith, same, times.past, advanced_set cs y.worker c (done_by (sched_means s) c after.hand y.reply y.now) here)
  past_all (play.performs {h} {vs} {cs} c y after legal here is follows times) (suc j) x at =
      omega (arith, past_all legal j x at, advanced_set cs y.worker c (done_by (sched_means s) c after.hand y.reply y.now) here)

  -- the world that a play has come to, by the values and the history
  module _ (n : ℕ) (p : Play) (r : IsPlayed n p) where
    abbrev pub value_and_hands : ValuesAndHands (Option ThreadRecord) LockValue
    value_and_hands = record { values = r.values; hands = hands_of (sched_means s) (list_of s.scripts) (is_lawful s) orders r.courses }

    pub reached : IsReached s r.history value_and_hands
    reached = reached_by s (start_shown s) r.history value_and_hands (play_leads (sched_means s) (list_of s.scripts) (is_lawful s) orders r.legal)

    pub world_is : reached.world ≡ p.world
    world_is = sym reached.replays.world ∙ (ap (replayed (world_at_start s)) r.entries ∙ r.world)

    -- its time is within bounds
    pub time_below : p.now < 2 ^ 36
    time_below = subst (λ k. k < 2 ^ 36) r.time (play_small (sched_means s) (list_of s.scripts) (is_lawful s) orders r.history r.values r.courses r.legal).2

    -- both have a course for each worker
    pub as_many : length r.courses ≡ length p.courses
    as_many = omega (arith, (play_counted (sched_means s) (list_of s.scripts) (is_lawful s) orders r.legal).workers, many_owns s 0 s.cpus, r.workers)

    pub there_is : (w : ℕ) → w < length p.courses → (c : WorkerCourse Worker Event Reply) × (slice_get r.courses w ≡ Some c)
    there_is w low = something r.courses w (subst (λ k. w < k) (sym as_many) low)

  -- an event that is ready
  module _ (n : ℕ) (p : Play) (w : ℕ) (e : Event) (course after : Course) (got : slice_get p.courses w ≡ Some course) (next : next_step course ≡ Some (item.Event e, after))
      (ready : is_ready p.world w e ≡ true) (old : List (WorkerCourse Worker Event Reply)) (q : IsSettled n p old w) where
    abbrev r : IsPlayed n p
    r = q.played

    abbrev c : WorkerCourse Worker Event Reply
    c = q.now_at

    abbrev y : ValuesAndHands (Option ThreadRecord) LockValue
    y = value_and_hands n p r

    abbrev come : IsReached s r.history y
    come = reached n p r

    item_is : (c.standing ≡ standing.has (todo.Event e)) × (after ≡ course_of c.own.program (drop c.begun (lists w)))
    item_is = has_item n p old w q course after (item.Event e) got next

    hand_there : slice_get y.hands w ≡ Some c.own.hand
    hand_there = get_map (λ (d : WorkerCourse Worker Event Reply). d.own.hand) r.courses w c q.found

    asked : AsksFor s w (own_entries w r.history) c.own.hand e
    asked = asked_for (sched_means s) (list_of s.scripts) (is_lawful s) orders r.legal w c q.found e item_is.0

    locks : FindsLocks s (scheduler_with s y) come.world (locking e)
    locks = finds_locks s r.history y come w e c.own.hand hand_there asked (subst (λ x. is_ready x w e ≡ true) (sym (world_is n p r)) ready)

    rules : IsNoEarlierThanShared r.history w locks.held p.now
    rules = record { begun = omega (arith, r.time); after = λ j z at shares. omega (arith, past_all r.legal j z at, r.time) }

    under : (guarded : List LockValue) × (values_under locks.held r.values ≡ Some guarded)
    under = guarded_there (sched_means s) r.values locks.held (needs_of (locking e)) come.shows.locks
        ((is_lawful s).sound.rising w (own_entries w r.history) c.own.hand e asked) locks.are

    can : IsPossible come.world w e p.now
    can = worlds.possible s r.history y come w e c.own.hand hand_there asked p.now locks.held locks.are rules (time_below n p r)

    -- is possible
    pub is_possible : IsPossible p.world w e p.now
    is_possible = subst (λ x. IsPossible x w e p.now) (world_is n p r) can

    abbrev made : Acted (Option ThreadRecord) LockValue Reply
    made = act_on s.settings w e p.now c.own.hand under.0

    abbrev effect : Acted (Option ThreadRecord) LockValue Reply
    effect = effect_on locks.held r.values made

    abbrev x : Entry Event Reply
    x = record { worker = w; locks = locks.held; now = p.now; event = e; reply = made.reply }

    abbrev reply : Reply
    reply = (step p.world w e p.now).1

    reply_is : made.reply ≡ reply
    reply_is = (acted_shows s (scheduler_with s y) come.world w e p.now locks.held under.0 c.own.hand come.shows can locks.has.numbers (are_under locks.held r.values under.0 under.1)
        (worlds.hand_is s r.history y come w e c.own.hand hand_there asked) refl).reply
        ∙ ap (λ v. (step v w e p.now).1) (world_is n p r)

    follows : Follows (sched_means s) r.values c.own.hand x effect
    follows = record {
      locks = locks.are;
      guarded = under.0;
      under = under.1;
      may = worlds.may s r.history y come w e c.own.hand hand_there asked p.now locks.held locks.are rules (time_below n p r) under.0 under.1;
      effect = effect_is (sched_means s) w e p.now c.own.hand locks.held r.values under.0 under.1;
      reply = refl;
    }

    abbrev d : WorkerCourse Worker Event Reply
    d = done_by (sched_means s) c effect.hand x.reply x.now

    legal_then : LegalPlay (sched_means s) (list_of s.scripts) (x ∷ r.history) effect.values (set r.courses w d)
    legal_then = play.performs c x effect r.legal q.found item_is.0 follows
        (record { no_earlier = rules; own = omega (arith, advanced_at r.courses w c q.found, r.time); past = omega (arith, r.time) })

    -- the program that gave it can hear the reply
    pub hears_reply : CanHear (Some (reply, p.now)) after.own
    hears_reply = subst (λ (a : Course). CanHear (Some (reply, p.now)) a.own) (sym item_is.1) (subst (λ told. CanHear (Some (told, p.now)) c.own.program) reply_is
        (may_go_on (sched_means s) (list_of s.scripts) (is_lawful s) orders legal_then w d (set_here r.courses w c d q.found) (Some (x.reply, x.now)) refl))

    stands_then : DoesStand w d (record after { last = Some (reply, p.now) })
    stands_then = ap (λ (a : Course). next_step (record a { last = Some (reply, p.now) })) item_is.1
        ∙ ap (λ (told : Reply). next_in (drop c.begun (lists w)) c.own.program (Some (told, p.now))) (sym reply_is)

    -- and is performed
    pub performs_turn : IsPlayed (n + 1) (performed w e after p)
    performs_turn = record {
      history = x ∷ r.history;
      values = effect.values;
      courses = set r.courses w d;
      legal = legal_then;
      workers = length-set p.courses w (record after { last = Some (reply, p.now) }) ∙ r.workers;
      world = replayed_push (world_at_start s) p.entries (entry_of p w e) ∙ ap (λ v. after_entry v (entry_of p w e)) r.world;
      entries = in_order_more x r.history ∙ (ap (λ es. es ++ world_entry x ∷ []) r.entries ∙ ap
          (λ (told : Reply). p.entries ++ record { worker = w; event = e; now = p.now; reply = told } ∷ []) reply_is);
      few = omega (arith, r.few, length_push p.entries (entry_of p w e));
      time = omega (arith, advanced_set r.courses w c d q.found, r.time);
      items = omega (arith, sum_set (λ (b : WorkerCourse Worker Event Reply). b.items) r.courses w c d q.found, r.items);
      stand = stand_set p.courses r.courses w d (record after { last = Some (reply, p.now) }) r.stand stands_then;
    }

  -- the start
  pub played_opening : IsPlayed 0 (opening s)
  played_opening = record {
    history = [];
    values = (sched_means s).values;
    courses = map unbegun (owns_from s 0 s.cpus);
    legal = play.opens;
    workers = opening_count s;
    world = replayed_start (world_at_start s);
    entries = refl;
    few = omega arith;
    time = omega (arith, (none_yet (owns_from s 0 s.cpus)).0);
    items = (none_yet (owns_from s 0 s.cpus)).1;
    stand = λ w c course found got. let o = map_get unbegun (owns_from s 0 s.cpus) w c found in
        ap next_step (sym (opening_is s w course got)) ∙ subst (λ (b : WorkerCourse Worker Event Reply). next_step (opening_of s s.scripts w) ≡ next_at
        (drop b.begun (lists w)) b.own.program b.standing) o.2
        (first_next s s.scripts w o.0 o.1);
  }

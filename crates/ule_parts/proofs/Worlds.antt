-- After every history in order whose entries were asked for, an event that is asked for may be performed.
use Rattle.std.proofs.Common.{◌≡◌, ◌≢◌, ◌⊎◌, ℕ, ◌^◌, ◌<◌, ◌≤◌, true, false, ◌==◌, ◌++◌, List, [], ◌∷◌, flat_map, length, refl, sym, ap, ◌∙◌, subst, inl, inr, ⊎_elim, arith, slice_get, slice_set, Option, Some, None, IfSome, IsSome, IsTrue}
use Rattle.std.specs.List.{AllByRecursion}
use Rattle.std.proofs.lemmas.Bool.{false≢true, false_from_ne_true, cases_eq, eqb-true, both_ways, or_cases}
use Rattle.std.proofs.lemmas.Option.{IfSome_then}
use Rattle.ule_score.specs.Bounds.{KeepsBounds}
use Rattle.ule_score.specs.Changes.{HasSlice, IsBy}
use Rattle.ule_score.specs.declared.record.ThreadRecord.{ThreadRecord}
use Rattle.ule_types.specs.Commands.{forked_by, is_among}
use Rattle.ule_types.specs.declared.event.Event.{Event}
use Rattle.ule_types.specs.declared.event.Event.TheVariants.{Tick, Switch, Drop, Bed, Wake, Look, Land, Move, Lend, Unlend, Renice, Hatch, Fork, Return, Exit, Bury, Inherit}
use Rattle.ule_types.specs.declared.event.Reply.{Reply}
use Rattle.ule_types.specs.declared.setup.Setup.{Setup}
use Rattle.ule_types.proofs.Repeats.{among_back, among_front, among_of_one, among_passes, distinct_of_two}
use Rattle.ule_model.specs.Conditions.{IsHandled, IsPossible}
use Rattle.ule_model.specs.Events.{handling, Handling, unborn, is_ready, locking, names_cpus, sought_by}
use Rattle.ule_model.specs.Frames.{LeavesRest}
use Rattle.ule_model.specs.LockValue.{LockValue}
use Rattle.ule_model.specs.Start.{starting_time, world_at_start}
use Rattle.ule_model.specs.Step.{step}
use Rattle.ule_model.specs.World.{Member, World, thread_of}
use Rattle.ule_model.specs.WorldValue.{Shows, held_by, IsHandOf}
use Rattle.ule_members.proofs.CalendarStarts.{start_calm}
use Rattle.ule_members.proofs.CalendarStretches.{IsTickOfSome, promise_kept}
use Rattle.ule_members.proofs.Numbered.{step_bounds, step_numbers}
use Rattle.ule_members.proofs.Parents.{step_parents}
use Rattle.ule_members.proofs.Setups.{setup_scripts, setup_slice}
use Rattle.ule_members.proofs.Starts.{IsFreshRecord, IsLaid, IsPlaceAtStart, start_laid}
use Rattle.ule_members.proofs.Steps.{step_is_made, step_leaves_rest}
use Rattle.ule_members.proofs.Unborn.{IsStillUnborn, hatched_by, setup_forks, start_unborn, unborn_stays}
use Rattle.ule_members.proofs.Within.{all_along}
use Rattle.ule_courses.proofs.Bindings.{step_binds}
use Rattle.ule_courses.proofs.LastCpus.{step_lasts}
use Rattle.ule_courses.proofs.Parents.{numbered_among, start_lasts, start_parents}
use Rattle.ule_micro.specs.declared.entry.Entry.{Entry}
use Rattle.ule_micro.specs.declared.entry.HeldLocks.{HeldLocks}
use Rattle.ule_micro.specs.Histories.{AreLocksFor, Follows, IsNoEarlierThanShared, Leads, ValuesAndHands, effect_on, own_entries, values_under}
use Rattle.ule_micro.specs.Laws.{ReadiesEvents, values_and_hands_at_start}
use Rattle.ule_micro.specs.Standings.{Acted}
use Rattle.ule_micro.proofs.Courses.{own_else, own_more}
use Rattle.ule_micro.proofs.Effects.{effect_so}
use Rattle.ule_micro.proofs.Lists.{index_get}
use Rattle.ule_parts.specs.Acts.{AreAt, act_on, needs_of}
use Rattle.ule_parts.specs.Histories.{IsHistoryOfWorlds, entries_in_order, scheduler_with}
use Rattle.ule_parts.specs.Workers.{AsksFor, HandFits, threads_forked, forks_of, threads_hatched, declared_ids_of}
use Rattle.ule_parts.specs.Scheduler.{IsWorldOf, MayAct, sched_means}
use Rattle.ule_parts.proofs.Locks.{FindsLocks, HasLocks, acted_shows, are_under, handled, locks_are, locks_of_ready}
use Rattle.ule_parts.proofs.Replays.{IsReplay, replay_more, replay_starts}
use Rattle.ule_parts.proofs.Numbers.{found_numbered}
use Rattle.ule_parts.proofs.Noted.{IsNoted, noted_after, noted_at_start, noted_in_time}

-- an event that hatches a thread needs it unborn
hatch_needs : (e : Event) (t : ℕ) → is_among (hatched_by e) t ≡ true → handling e ≡ unborn t
hatch_needs (Tick c) t among = absurd (false≢true among)
hatch_needs (Switch c why) t among = absurd (false≢true among)
hatch_needs (Drop c channel) t among = absurd (false≢true among)
hatch_needs (Bed u channel) t among = absurd (false≢true among)
hatch_needs (Wake u) t among = absurd (false≢true among)
hatch_needs (Look c) t among = absurd (false≢true among)
hatch_needs (Land u c) t among = absurd (false≢true among)
hatch_needs (Move a b why) t among = absurd (false≢true among)
hatch_needs (Lend u p) t among = absurd (false≢true among)
hatch_needs (Unlend u) t among = absurd (false≢true among)
hatch_needs (Renice u n) t among = absurd (false≢true among)
hatch_needs (Hatch u) t among = ⊎_elim (λ (here : (u == t) ≡ true). ap unborn (eqb-true u t here)) (λ (rest : false ≡ true). absurd (cc)) (or_cases (u == t) false among)
hatch_needs (Fork c u) t among = absurd (false≢true among)
hatch_needs (Return u) t among = absurd (false≢true among)
hatch_needs (Exit c) t among = absurd (false≢true among)
hatch_needs (Bury u) t among = absurd (false≢true among)
hatch_needs (Inherit u run) t among = absurd (false≢true among)

module _ (s : Setup) where
  -- two workers that fork one thread are one
  one_forker : (i j t : ℕ) → is_among (forks_of s i) t ≡ true → is_among (forks_of s j) t ≡ true → i ≡ j
  one_forker i j t first second = distinct_of_two threads_forked [] refl s.scripts i j t (setup_forks s).distinct first second

  -- is reached: a history leads to a world, which the values and hands show, in which each thread is noted by the latest entry over its place,
  -- and in which each thread is unborn that a worker is to hatch and did not hatch yet
  pub record IsReached (h : List (Entry Event Reply)) (y : ValuesAndHands (Option ThreadRecord) LockValue) : Type 0 where
    pub world : World
    pub is_world : IsWorldOf s world
    pub shows : Shows (scheduler_with s y) world
    pub replays : IsReplay s h world
    pub noted : AllByRecursion (IsNoted h) world.members
    pub unborn : (w t : ℕ) → is_among (forks_of s w) t ≡ true → is_among (threads_hatched (own_entries w h)) t ≡ false → IsStillUnborn t world.members

  -- an event that is asked for
  module _ (h : List (Entry Event Reply)) (y : ValuesAndHands (Option ThreadRecord) LockValue) (r : IsReached h y) (w : ℕ) (e : Event) (hand : Option ThreadRecord)
      (at : slice_get y.hands w ≡ Some hand) (asked : AsksFor s w (own_entries w h) hand e) where
    pub hand_is : held_by (scheduler_with s y) w ≡ hand
    hand_is = index_get y.hands w None hand at

    still : (t : ℕ) (k : Handling) → HandFits s w (own_entries w h) hand k → k ≡ unborn t → IsStillUnborn t r.world.members
    still t k fits is = let z = subst (HandFits s w (own_entries w h) hand) is fits in r.unborn w t z.1 z.2

    cpus : IsTrue (names_cpus (length r.world.lines) e)
    cpus = subst (λ c. IsTrue (names_cpus c e)) (sym r.is_world.lines) asked.names.0

    declared : IfSome (sought_by e) (λ t. IsSome (thread_of t r.world.members))
    declared = IfSome_then (sought_by e) asked.names.1 (λ t among. found_numbered t (declared_ids_of s) r.world.members r.is_world.numbers among)

    its_hand : IsHandled r.world w (handling e)
    its_hand = handled (scheduler_with s y) r.world w hand r.shows (subst (λ o. IsHandOf r.world w o) hand_is (r.shows.hands w)) s (own_entries w h) (handling e) asked.fits
        (λ t is. still t (handling e) asked.fits is)

    -- finds its locks, where the thread that it seeks is in no other worker's hand
    pub finds_locks : is_ready r.world w e ≡ true → FindsLocks s (scheduler_with s y) r.world (locking e)
    finds_locks ready = locks_of_ready s (scheduler_with s y) r.world w e r.shows cpus declared ready its_hand

    module _ (now : ℕ) (held : HeldLocks) (locks : AreLocksFor (sched_means s) y.values held (needs_of (locking e))) (rules : IsNoEarlierThanShared h w held now) (small : now < 2 ^ 36) where
      its : HasLocks r.world (locking e) held
      its = locks_are s (scheduler_with s y) r.world (locking e) held r.shows cpus locks

      -- and is possible
      pub possible : IsPossible r.world w e now
      possible = record {
        worker_is = subst (λ c. w < c) (sym r.is_world.lines) asked.below;
        cpus = cpus;
        declared = declared;
        ready = its.ready w;
        hand = its_hand;
        numbers = asked.names.2;
        begun = rules.begun;
        bounded = small;
        in_time = noted_in_time h r.world w e held now its.numbers rules r.noted;
      }

      -- so it may be performed
      pub may : (guarded : List LockValue) → values_under held y.values ≡ Some guarded → MayAct s w e now hand guarded
      may guarded under = record {
        value = scheduler_with s y;
        world = r.world;
        shows = r.shows;
        is_world = r.is_world;
        possible = possible;
        hand_is = hand_is;
        guarded_are = subst (λ ls. AreAt y.values ls guarded) (sym its.numbers) (are_under held y.values guarded under);
      }

  -- the world after a step
  pub is_world_after : (x : World) (w : ℕ) (e : Event) (now : ℕ) → IsWorldOf s x → IsPossible x w e now → IsWorldOf s (step x w e now).0
  is_world_after x w e now is can = let rest : LeavesRest x e (step x w e now).0 = step_leaves_rest x w e now in record {
    settings = rest.settings ∙ is.settings;
    lines = rest.count ∙ is.lines;
    numbers = step_numbers x w e now is.made can ∙ is.numbers;
    made = step_is_made x w e now is.made can;
    bounds = step_bounds x w e now is.made can (subst HasSlice (sym is.settings) (setup_slice s)) is.bounds;
    bound = step_binds (λ c. c < s.cpus) x w e now is.made can is.bound;
    last = subst (λ n. AllByRecursion (λ m. m.thread.last < n) (step x w e now).0.members) is.lines
        (step_lasts x w e now is.made can (subst (λ n. AllByRecursion (λ m. m.thread.last < n) x.members) (sym is.lines) is.last));
    parents = step_parents (λ u. is_among (declared_ids_of s) u ≡ true) x w e now is.made can (numbered_among (declared_ids_of s) x.members is.numbers) is.parents;
  }

  -- one more entry
  more : (h : List (Entry Event Reply)) (z : ValuesAndHands (Option ThreadRecord) LockValue) (r : IsReached h z) (x : Entry Event Reply) (hand : Option ThreadRecord)
      (after : Acted (Option ThreadRecord) LockValue Reply)
      → slice_get z.hands x.worker ≡ Some hand → AsksFor s x.worker (own_entries x.worker h) hand x.event → Follows (sched_means s) z.values hand x after
      → IsNoEarlierThanShared h x.worker x.locks x.now
      → IsReached (x ∷ h) (record { values = after.values; hands = slice_set z.hands x.worker after.hand })
  more h z r x hand after at asked follows rules =
      let small : x.now < 2 ^ 36 = follows.may.possible.bounded in
      let l : HasLocks r.world (locking x.event) x.locks = its h z r x.worker x.event hand at asked x.now x.locks follows.locks rules small in
      let can = possible h z r x.worker x.event hand at asked x.now x.locks follows.locks rules small in
      let is = hand_is h z r x.worker x.event hand at asked in
      let done = acted_shows s (scheduler_with s z) r.world x.worker x.event x.now x.locks follows.guarded hand r.shows can l.numbers
      (are_under x.locks z.values follows.guarded follows.under) is refl in
      let act = effect_on x.locks z.values (act_on s.settings x.worker x.event x.now hand follows.guarded) in
      let same : after ≡ act = effect_so (sched_means s) x.worker x.event x.now hand x.locks z.values follows.guarded follows.under after follows.effect in
      let reply : x.reply ≡ (step r.world x.worker x.event x.now).1 = sym follows.reply ∙ (ap (λ (f : Acted (Option ThreadRecord) LockValue Reply). f.reply) same ∙ done.reply) in
      let is_new = is_world_after r.world x.worker x.event x.now r.is_world can in
      let new = step r.world x.worker x.event x.now in record {
        world = new.0;
        is_world = is_new;
        replays = replay_more s h r.world x r.replays r.is_world.lines can l.numbers rules reply is_new.made is_new.bounds;
        shows = subst (λ (f : Acted (Option ThreadRecord) LockValue Reply). Shows (record { settings = s.settings; values = f.values; hands = slice_set z.hands x.worker f.hand }) new.0)
            (sym same) done.shows;
        noted = noted_after h r.world x r.is_world.made can l.numbers rules r.noted;
        unborn = λ w t forks hatched. unborn_after w t forks hatched (cases_eq x.worker w) can;
      }
    where
      few : length r.world.lines ≤ 16
      few = omega (arith, r.is_world.lines, (setup_scripts s).cpus)

      -- a thread that another worker forks is not hatched by this one
      apart_from : (w t : ℕ) → is_among (forks_of s w) t ≡ true → x.worker ≢ w → is_among (hatched_by x.event) t ≡ false
      apart_from w t forks far = false_from_ne_true (is_among (hatched_by x.event) t)
          (λ among. let fits = subst (HandFits s x.worker (own_entries x.worker h) hand) (hatch_needs x.event t among) asked.fits in far (one_forker x.worker w t fits.1 forks))

      goes : (w t : ℕ) → is_among (forks_of s w) t ≡ true → is_among (hatched_by x.event) t ≡ false → is_among (threads_hatched (own_entries w h)) t ≡ false → IsPossible r.world x.worker x.event x.now
          → IsStillUnborn t (step r.world x.worker x.event x.now).0.members
      goes w t forks other before can = unborn_stays r.world x.worker x.event x.now t r.is_world.made can few other (r.unborn w t forks before)

      unborn_after : (w t : ℕ) → is_among (forks_of s w) t ≡ true → is_among (threads_hatched (own_entries w (x ∷ h))) t ≡ false → (x.worker ≡ w) ⊎ (x.worker ≡ w → ⊥)
          → IsPossible r.world x.worker x.event x.now
          → IsStillUnborn t (step r.world x.worker x.event x.now).0.members
      unborn_after w t forks hatched (inl same) can =
          let now_and_before : is_among (hatched_by x.event ++ threads_hatched (own_entries w h)) t ≡ false = ap (λ (l : List (Entry Event Reply)). is_among (threads_hatched l) t)
          (sym (own_more w x h same)) ∙ hatched in
          goes w t forks
          (false_from_ne_true (is_among (hatched_by x.event) t) (λ a. both_ways (is_among (hatched_by x.event ++ threads_hatched (own_entries w h)) t) now_and_before
          (among_front (hatched_by x.event) (threads_hatched (own_entries w h)) t a)))
          (false_from_ne_true (is_among (threads_hatched (own_entries w h)) t) (λ a. both_ways (is_among (hatched_by x.event ++ threads_hatched (own_entries w h)) t) now_and_before
          (among_back (hatched_by x.event) (threads_hatched (own_entries w h)) t a))) can
      unborn_after w t forks hatched (inr far) can =
          goes w t forks (apart_from w t forks far) (ap (λ (l : List (Entry Event Reply)). is_among (threads_hatched l) t) (sym (own_else w x h far)) ∙ hatched) can

  -- the world at the start
  start : IsLaid (IsPlaceAtStart s.cpus) s.cpus s.settings (declared_ids_of s) (world_at_start s)
  start = start_laid s

  -- what a fresh record keeps, each record keeps at the start
  of_each : (P : ThreadRecord → Type 0) → ((r : ThreadRecord) → IsFreshRecord s.cpus r → P r) → AllByRecursion (λ m. P m.thread) (world_at_start s).members
  of_each P keeps = all_along (λ (m : Member). IsFreshRecord s.cpus m.thread) (λ m. P m.thread) (world_at_start s).members (λ m fresh. keeps m.thread fresh) start.records

  pub start_is_world : IsWorldOf s (world_at_start s)
  start_is_world = record {
    settings = start.settings_are;
    lines = start.count;
    numbers = start.ids_are;
    made = start.made;
    bounds = of_each KeepsBounds (λ r fresh. fresh.bounds);
    bound = of_each (λ r. IfSome r.bound (λ c. c < s.cpus)) (λ r fresh. fresh.bound);
    last = start_lasts s;
    parents = start_parents s (declared_ids_of s);
  }

  at_start : Shows (scheduler_with s (values_and_hands_at_start (sched_means s))) (world_at_start s) → IsReached [] (values_and_hands_at_start (sched_means s))
  at_start shows = record {
    world = world_at_start s;
    is_world = start_is_world;
    shows = shows;
    replays = replay_starts s start_is_world.made start_is_world.bounds;
    noted = noted_at_start (world_at_start s).members (of_each (λ r. IsBy starting_time r) (λ r fresh. fresh.by_now));
    unborn = λ w t forks hatched. start_unborn s t (among_passes (is_among s.unborn) (flat_map (λ script. flat_map forked_by script) s.scripts) t (setup_forks s).unborn
        (among_of_one threads_forked [] refl s.scripts w t forks));
  }

  -- every history in order whose entries were asked for leads to such a world
  pub reached_by : Shows (scheduler_with s (values_and_hands_at_start (sched_means s))) (world_at_start s) → (h : List (Entry Event Reply)) (y : ValuesAndHands (Option ThreadRecord) LockValue)
      → Leads (sched_means s) (values_and_hands_at_start (sched_means s)) h y → IsReached h y
  reached_by shows [] y leads = subst (IsReached []) (sym leads) (at_start shows)
  reached_by shows (x ∷ h) y (z, hand, after, leads, at, asked, follows, rules, is) = subst (IsReached (x ∷ h)) (sym is) (more h z (reached_by shows h z leads) x hand after at asked follows rules)

  -- after every history in order an event that is asked for may be performed
  pub readies : Shows (scheduler_with s (values_and_hands_at_start (sched_means s))) (world_at_start s) → ReadiesEvents (sched_means s)
  readies shows h y w e now hand held guarded leads at asks locks under rules small = may h y (reached_by shows h y leads) w e hand at asks now held locks rules small guarded under

  -- every such history is one of worlds
  pub of_worlds : Shows (scheduler_with s (values_and_hands_at_start (sched_means s))) (world_at_start s) → (h : List (Entry Event Reply)) (y : ValuesAndHands (Option ThreadRecord) LockValue)
      → Leads (sched_means s) (values_and_hands_at_start (sched_means s)) h y → IsHistoryOfWorlds s (entries_in_order h) y
  of_worlds shows h y leads = let r = reached_by shows h y leads in record {
    workers = r.replays.workers;
    replies = r.replays.replies;
    in_time = r.replays.in_time;
    shows = subst (Shows (scheduler_with s y)) (sym r.replays.world) r.shows;
    made = r.replays.made;
    bounds = r.replays.bounds;
    promise = promise_kept (world_at_start s) (entries_in_order h) (start_calm s) r.replays.replies
        (subst (λ n. AllByRecursion (IsTickOfSome n) (entries_in_order h)) (sym start.count) r.replays.ticks);
  }

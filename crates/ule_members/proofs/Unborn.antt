-- The unborn threads: each thread that a setup declares unborn is so at the start, and stays so through every event
-- but its own hatch.
use Rattle.std.proofs.Common.{◌≡◌, ◌≢◌, ℕ, ◌<◌, ◌≤◌, ◌==◌, ◌||◌, pos, Bool, true, false, List, [], ◌∷◌, ◌++◌, flat_map, fold, length, map, nat_lt, Option, Some, None, if◌then◌else◌, inl, inr, ⊎_elim, refl, sym, ◌∙◌, ap, subst}
use Rattle.std.specs.List.{list_all}
use Rattle.std.specs.Option.{option_map}
use Rattle.std.specs.Prelude.{IfSome, ◌⊎◌}
use Rattle.std.proofs.lemmas.Bool.{both_ways, eq-eqb, false_from_ne_true, false≢true, or_parts}
use Rattle.std.proofs.lemmas.List.{append-nil, append_assoc}
use Rattle.ule_score.proofs.ChangeLaws.{change_number}
use Rattle.ule_prio.specs.declared.kind.Kind.{Kind}
use Rattle.ule_score.specs.Changes.{RecordChange, after_change, ran, record_after, runs, sleeps}
use Rattle.ule_score.specs.declared.place.Place.{Place}
use Rattle.ule_score.specs.declared.place.Place.TheVariants.{Running, Queued, Asleep, Unborn, Gone, Hand}
use Rattle.ule_score.specs.declared.record.Change.{Change}
use Rattle.ule_score.specs.declared.record.Change.TheVariants as change
use Rattle.ule_score.specs.declared.record.ThreadRecord.{ThreadRecord}
use Rattle.ule_types.proofs.Repeats.{distinct_apart}
use Rattle.ule_types.specs.Commands.{forked_by, is_among}
pub use Rattle.ule_types.specs.Needs.{hatched_by}
use Rattle.ule_types.specs.Rules.{is_distinct}
use Rattle.ule_types.specs.declared.event.Event.{Event}
use Rattle.ule_types.specs.declared.event.Event.TheVariants as event
use Rattle.ule_types.specs.declared.event.MoveWhy.{MoveWhy}
use Rattle.ule_threads.specs.declared.standing.Standing.{Standing}
use Rattle.ule_types.specs.declared.event.Reply.{Reply}
use Rattle.ule_types.specs.declared.event.Reply.TheVariants.{Bedded, Buried, Dropped, Exited, Hatched, Returned, Unmarked}
use Rattle.ule_types.specs.declared.setup.Setup.{Setup}
use Rattle.ule_model.specs.Action.{Part, answers, choose, insert, leaving, move, note, part_done, parts_done}
use Rattle.ule_model.specs.Actions.{Seen, action_of, change_action, change_action_at, fork_action, give_way_action, go_action, land_action, leave_action, move_action, note_action, requeue_action, tick_action, unborn_action, wake_action, wake_action_at}
use Rattle.ule_model.specs.ActionStep.{seen_under}
use Rattle.ule_model.specs.Choice.{choice_of}
use Rattle.ule_model.specs.Conditions.{IsPossible}
use Rattle.ule_model.specs.Events.{holder_of, is_unborn, is_unborn_thread, locking, locks_of, queues}
use Rattle.ule_model.specs.Landing.{current_record}
use Rattle.ule_model.specs.Places.{waits_on}
use Rattle.ule_model.specs.Actions.{unborn_answer}
use Rattle.ule_model.specs.Shows.{numbers_of}
use Rattle.ule_model.specs.Start.{laid, empty_world, unborn_member, unborn_record, with_unborn, world_at_start}
use Rattle.ule_model.specs.Step.{step, step_under_locks}
use Rattle.ule_model.specs.Switch.{choosing_next, is_preemption, is_unasked, running_chosen}
use Rattle.ule_model.specs.WellMade.{IsWellMade, IsWellMadeWorld}
use Rattle.ule_model.specs.World.{Member, Side, World, current_of, is_numbered, moved_to, side_of, standing_of, thread_of, with_record}
use Rattle.ule_members.proofs.ActionFits.{event_fits}
use Rattle.ule_members.proofs.CalendarPlaces.{FindsEach, made_finds}
use Rattle.ule_members.proofs.Given.{each_move, move_sees}
use Rattle.ule_members.proofs.Moves.{choice_stands, within_has}
use Rattle.ule_members.proofs.PairDone.{IsMove, move_fits, move_where, second_ready, second_there, side_ready, takes_first, takes_second, world_between}
use Rattle.ule_members.proofs.PartDone.{Follows, IsReady, Known, Needs, StandsAt, idle_after, known_after, known_after_all, part_step}
use Rattle.ule_members.proofs.Reach.{held_found, place_from_hand}
use Rattle.ule_members.proofs.Rest.{index_of}
use Rattle.ule_members.proofs.Setups.{setup_specs}
use Rattle.ule_members.proofs.Starts.{declared_laid, queued_numbers}
use Rattle.ule_members.proofs.Steps.{first_among, step_by_locks, stepped_under_two}
use Rattle.ule_members.proofs.Threads.{thread_of-moved_other, thread_of-queued_other, thread_of_within}

-- thread t is there and unborn
abbrev pub IsStillUnborn : ℕ → List Member → Type 0
IsStillUnborn t ms = is_unborn_thread (thread_of t ms) ≡ true

-- ---- lists

-- an unborn thread is none of those that stand at another place
pub unborn_apart : (t u : ℕ) (m : Member) (ms : List Member) → IsStillUnborn t ms → thread_of u ms ≡ Some m → is_unborn m.place ≡ false → t ≢ u
unborn_apart t u m ms unborn found off same =
    both_ways (is_unborn m.place) off (sym (ap (λ v. is_unborn_thread (thread_of v ms)) same ∙ ap is_unborn_thread found) ∙ unborn)

-- where a record is changed but for its number, an unborn thread stays so
pub unborn_recorded : (t u : ℕ) (f : ThreadRecord → ThreadRecord) (ms : List Member) → ((r : ThreadRecord) → (f r).id ≡ r.id) →
    is_unborn_thread (thread_of t (with_record u f ms)) ≡ is_unborn_thread (thread_of t ms)
unborn_recorded t u f [] kept = refl
unborn_recorded t u f (m ∷ ms) kept = by_number (is_numbered u m) (unborn_recorded t u f ms kept)
  where
    by_test : (b : Bool) (n : Member) → n.place ≡ m.place → is_unborn_thread (thread_of t (with_record u f ms)) ≡ is_unborn_thread (thread_of t ms) →
        is_unborn_thread (if b then Some n else thread_of t (with_record u f ms)) ≡ is_unborn_thread (if b then Some m else thread_of t ms)
    by_test true n place rest = ap is_unborn place
    by_test false n place rest = rest

    by_number : (d : Bool) → is_unborn_thread (thread_of t (with_record u f ms)) ≡ is_unborn_thread (thread_of t ms) →
        is_unborn_thread (thread_of t ((if d then record m { thread = f m.thread } else m) ∷ with_record u f ms)) ≡ is_unborn_thread (thread_of t (m ∷ ms))
    by_number true rest =
        ap (λ (i : ℕ). is_unborn_thread (if i == t then Some (record m { thread = f m.thread }) else thread_of t (with_record u f ms))) (kept m.thread) ∙
        by_test (m.thread.id == t) (record m { thread = f m.thread }) refl rest
    by_number false rest = by_test (m.thread.id == t) m refl rest

-- where another thread is moved, an unborn one stays so
pub unborn_moved : (t u : ℕ) (place : Place) (ms : List Member) → t ≢ u → IsStillUnborn t ms → IsStillUnborn t (moved_to u place (pos 0) ms)
unborn_moved t u place ms apart unborn = ap is_unborn_thread (thread_of-moved_other t u place (pos 0) ms apart) ∙ unborn

-- ---- parts

-- a queued thread is born
waits_born : (c : ℕ) (place : Place) → waits_on c place ≡ true → is_unborn place ≡ false
waits_born c (Running d) waits = refl
waits_born c (Queued d k b) waits = refl
waits_born c (Asleep channel) waits = refl
waits_born c Unborn waits = absurd (false≢true waits)
waits_born c Gone waits = refl
waits_born c (Hand w) waits = refl

-- a part moves no unborn thread, or another than thread t
abbrev IsSpared : ℕ → Part → Type 0
IsSpared t (move u from to) = (is_unborn from ≡ false) ⊎ (t ≢ u)
IsSpared t (insert u from how) = is_unborn from ≡ false
IsSpared t p = Unit {0}

-- so each of these parts
abbrev AreSpared : ℕ → List Part → Type 0
AreSpared t [] = Unit {0}
AreSpared t (p ∷ ps) = IsSpared t p × AreSpared t ps

module _ (w : World) (worker : ℕ) (e : Event) (now c t : ℕ) where
  -- where the next thread is chosen, an unborn one stays so
  choice_spares : (s : Side) → IsWellMade s.members → IsStillUnborn t s.members → IsStillUnborn t (choosing_next c now s).0.members
  choice_spares s made unborn = split (choice_of c s.line.ridx s.members) refl
    where
      split : (o : Option Member) → choice_of c s.line.ridx s.members ≡ o → IsStillUnborn t (running_chosen c now o s).0.members
      split None found = unborn
      split (Some m) found =
          let at = choice_stands c s.line.ridx m s.members found in
          let is = thread_of_within m.thread.id m s.members (within_has m s.members made at.0) in
          unborn_recorded t m.thread.id (record_after s.settings now runs) (moved_to m.thread.id (Running c) (pos 0) s.members) (change_number s.settings now runs) ∙
          unborn_moved t m.thread.id (Running c) s.members (unborn_apart t m.thread.id m s.members unborn is (waits_born c m.place at.1)) unborn

  -- a part that spares it leaves an unborn thread so
  part_spares : (p : Part) (known : Known) (idle : Type 0) (s : Side) (into : Option ℕ) → IsReady w worker e now c known idle s → Needs w worker e now c p known idle → IsSpared t p →
      IsStillUnborn t s.members → IsStillUnborn t (part_done c now p (s, into)).0.members
  part_spares (note u place change) known idle s into ready needs spared unborn =
      unborn_recorded t u (record_after s.settings now change) s.members (change_number s.settings now change) ∙ unborn
  part_spares (move u from to) known idle s into ready needs spared unborn =
      let at = ready.stands u from needs.0 in
      ⊎_elim
      (λ (off : is_unborn from ≡ false). unborn_moved t u to s.members (unborn_apart t u at.member s.members unborn at.found (ap is_unborn at.place_is ∙ off)) unborn)
      (λ (other : t ≢ u). unborn_moved t u to s.members other unborn) spared
  part_spares (insert u from how) known idle s into ready needs spared unborn =
      let at = ready.stands u from needs.0 in
      ap is_unborn_thread (thread_of-queued_other how c t u (leaving from c u s) (unborn_apart t u at.member s.members unborn at.found (ap is_unborn at.place_is ∙ spared))) ∙ unborn
  part_spares choose known idle s into ready needs spared unborn = choice_spares s ready.made unborn
  part_spares p known idle s into ready needs spared unborn = unborn

  -- so parts do
  parts_spare : (ps : List Part) (known : Known) (idle : Type 0) (s : Side) (into : Option ℕ) → is_among (locks_of w e) c ≡ true → IsReady w worker e now c known idle s →
      Follows w worker e now c known idle ps → AreSpared t ps → IsStillUnborn t s.members → IsStillUnborn t (parts_done c now ps (s, into)).0.members
  parts_spare [] known idle s into among ready follows spared unborn = unborn
  parts_spare (p ∷ ps) known idle s into among ready follows spared unborn =
      let next = part_done c now p (s, into) in
      parts_spare ps (known_after p known) (idle_after c p idle) next.0 next.1 among (part_step w worker e now c p known idle s into among ready follows.0).ready follows.2 spared.1
      (part_spares p known idle s into ready follows.0 spared.0 unborn)

-- ---- each event

module _ (t : ℕ) where
  give_way_spares : (p : Bool) (o : Option ThreadRecord) (at : Seen) → AreSpared t (give_way_action p o at).parts
  give_way_spares p None at = (tt, (tt, tt))
  give_way_spares p (Some r) at = (tt, (tt, (tt, (refl, (tt, tt)))))

  switch_spares : (d p : Bool) (o : Option ThreadRecord) (at : Seen) → AreSpared t (if d then answers Unmarked else give_way_action p o at).parts
  switch_spares true p o at = tt
  switch_spares false p o at = give_way_spares p o at

  tick_spares : (o : Option ThreadRecord) (at : Seen) → AreSpared t (tick_action o at).parts
  tick_spares None at = (tt, tt)
  tick_spares (Some r) at = (tt, (tt, (tt, tt)))

  leave_spares : (change : RecordChange) (reply : ThreadRecord → Option ℕ → Reply) (o : Option ThreadRecord) (at : Seen) → AreSpared t (leave_action change reply o at).parts
  leave_spares change reply None at = tt
  leave_spares change reply (Some r) at = (inl refl, (tt, (tt, (tt, (tt, tt)))))

  go_spares : (u : ℕ) (to : Place) (reply : Reply) (o : Option Standing) → IfSome o (λ s. (is_unborn s.place ≡ false) ⊎ (t ≢ u)) → AreSpared t (go_action u to reply o).parts
  go_spares u to reply None spared = tt
  go_spares u to reply (Some s) spared = (spared, tt)

  land_spares : (u : ℕ) (o : Option Standing) (at : Seen) → AreSpared t (land_action u o at).parts
  land_spares u None at = tt
  land_spares u (Some s) at = (tt, (refl, (tt, tt)))

  fork_spares : (u : ℕ) (o : Option ThreadRecord) (child : Option Standing) (at : Seen) → AreSpared t (fork_action u o child at).parts
  fork_spares u None child at = tt
  fork_spares u (Some r) None at = tt
  fork_spares u (Some r) (Some s) at = (tt, (tt, tt))

  wake_spares : (u : ℕ) (o : Option Standing) (at : Seen) → AreSpared t (wake_action u o at).parts
  wake_spares u None at = tt
  wake_spares u (Some s) at = at_place s.place
    where
      at_place : (place : Place) → AreSpared t (wake_action_at place u s.thread at).parts
      at_place (Asleep channel) = (inl refl, (tt, tt))
      at_place (Running c) = tt
      at_place (Queued c k b) = tt
      at_place Unborn = tt
      at_place Gone = tt
      at_place (Hand h) = tt

  change_spares : (given : Change) (u : ℕ) (o : Option Standing) (at : Seen) → AreSpared t (change_action given u o at).parts
  change_spares given u None at = tt
  change_spares given u (Some s) at = at_place s.place
    where
      new : ThreadRecord
      new = after_change at.settings given s.thread

      if_better : (better : Bool) (c b : ℕ) (k : Kind) → AreSpared t (if better then requeue_action (Queued c k b) given u new at else note_action (Queued c k b) given u new).parts
      if_better true c b k = (tt, (refl, (tt, tt)))
      if_better false c b k = (tt, tt)

      unborn : (answer : Option Reply) → AreSpared t (unborn_action answer given u new).parts
      unborn None = (tt, tt)
      unborn (Some refusal) = tt

      at_place : (place : Place) → AreSpared t (change_action_at place given u s.thread new at).parts
      at_place (Running c) = (tt, tt)
      at_place (Queued c k b) = if_better (nat_lt new.priority s.thread.priority) c b k
      at_place (Asleep channel) = (tt, tt)
      at_place Unborn = unborn (unborn_answer given)
      at_place Gone = tt
      at_place (Hand h) = tt

-- a thread that an event has in hand is born
held_born : (w : World) (worker t u : ℕ) → holder_of w.members u ≡ Some worker → IfSome (option_map standing_of (thread_of u w.members)) (λ s. (is_unborn s.place ≡ false) ⊎ (t ≢ u))
held_born w worker t u held =
    let h = held_found w.members u worker held in
    subst (λ (o : Option Member). IfSome (option_map standing_of o) (λ s. (is_unborn s.place ≡ false) ⊎ (t ≢ u))) (sym h.found) (inl (ap is_unborn (place_from_hand worker h.member.place h.hand)))

-- every event but its own hatch spares thread t
event_spares : (w : World) (worker : ℕ) (e : Event) (now l t : ℕ) → IsPossible w worker e now → is_among (hatched_by e) t ≡ false → AreSpared t (action_of e (seen_under w worker now e l)).parts
event_spares w worker (event.Tick c) now l t possible other = tick_spares t (current_record l w.members) (seen_under w worker now (event.Tick c) l)
event_spares w worker (event.Switch c why) now l t possible other =
    switch_spares t (is_unasked why (side_of l w).line.resched) (is_preemption why (side_of l w).line.slice_end) (current_record l w.members) (seen_under w worker now (event.Switch c why) l)
event_spares w worker (event.Drop c channel) now l t possible other = leave_spares t sleeps (λ r into. Dropped r.id into) (current_record l w.members) (seen_under w worker now (event.Drop c channel) l)
event_spares w worker (event.Bed u channel) now l t possible other = go_spares t u (Asleep channel) Bedded (option_map standing_of (thread_of u w.members)) (held_born w worker t u possible.hand)
event_spares w worker (event.Wake u) now l t possible other = wake_spares t u (option_map standing_of (thread_of u w.members)) (seen_under w worker now (event.Wake u) l)
event_spares w worker (event.Look c) now l t possible other = tt
event_spares w worker (event.Land u c) now l t possible other = land_spares t u (option_map standing_of (thread_of u w.members)) (seen_under w worker now (event.Land u c) l)
event_spares w worker (event.Move a b why) now l t possible other = tt
event_spares w worker (event.Lend u p) now l t possible other = change_spares t (change.Lend p) u (option_map standing_of (thread_of u w.members)) (seen_under w worker now (event.Lend u p) l)
event_spares w worker (event.Unlend u) now l t possible other = change_spares t change.Unlend u (option_map standing_of (thread_of u w.members)) (seen_under w worker now (event.Unlend u) l)
event_spares w worker (event.Renice u n) now l t possible other = change_spares t (change.Renice n) u (option_map standing_of (thread_of u w.members)) (seen_under w worker now (event.Renice u n) l)
event_spares w worker (event.Hatch u) now l t possible other =
    go_spares t u (Hand worker) Hatched (option_map standing_of (thread_of u w.members))
    (every (option_map standing_of (thread_of u w.members)) (λ same. both_ways (u == t) (or_parts (u == t) false other).0 (eq-eqb u t (sym same))))
  where
    every : (o : Option Standing) → t ≢ u → IfSome o (λ s. (is_unborn s.place ≡ false) ⊎ (t ≢ u))
    every None apart = tt
    every (Some s) apart = inr apart
event_spares w worker (event.Fork c u) now l t possible other =
    fork_spares t u (current_record l w.members) (option_map standing_of (thread_of u w.members)) (seen_under w worker now (event.Fork c u) l)
event_spares w worker (event.Return u) now l t possible other = go_spares t u Unborn Returned (option_map standing_of (thread_of u w.members)) (held_born w worker t u possible.hand)
event_spares w worker (event.Exit c) now l t possible other = leave_spares t ran (λ r into. Exited r.id into r.parent r.hist.run) (current_record l w.members) (seen_under w worker now (event.Exit c) l)
event_spares w worker (event.Bury u) now l t possible other = go_spares t u Gone Buried (option_map standing_of (thread_of u w.members)) (held_born w worker t u possible.hand)
event_spares w worker (event.Inherit u run) now l t possible other = change_spares t (change.Inherit run) u (option_map standing_of (thread_of u w.members)) (seen_under w worker now (event.Inherit u run) l)

-- every move spares thread t
move_spares : (w : World) (worker now a b t : ℕ) (why : MoveWhy) → FindsEach w.members →
    let p = move_action why (move_sees w worker now a) (move_sees w worker now b) in AreSpared t p.from × AreSpared t p.to
move_spares w worker now a b t why finds =
    each_move w worker now a b (λ p. AreSpared t p.from × AreSpared t p.to) why finds (tt, tt) (λ r k l apart at. ((inl refl, tt), (tt, (refl, (tt, tt)))))

-- an unborn thread stays so through a move
move_leaves_unborn : (w : World) (worker now a b t : ℕ) (why : MoveWhy) → IsWellMadeWorld w → b < length w.lines → IsStillUnborn t w.members →
    IsStillUnborn t (stepped_under_two a b w worker (event.Move a b why) now).0.members
move_leaves_unborn w worker now a b t why made there unborn =
    let e = event.Move a b why in
    let p = move_action why (move_sees w worker now a) (move_sees w worker now b) in
    let fit = move_fits w worker now a b why there (made_finds w.members made.members) in
    let spared = move_spares w worker now a b t why (made_finds w.members made.members) in
    parts_spare w worker e now b t p.to (known_after_all p.from (λ u place. StandsAt u place w.members)) ⊥ (side_of b (world_between a now p w)) None (takes_second w e a b refl)
    (second_ready w worker e now a b made refl p fit) fit.to spared.1
    (parts_spare w worker e now a t p.from (λ u place. StandsAt u place w.members) (current_of a w.members ≡ None) (side_of a w) None (takes_first w e a b refl)
    (side_ready w worker e now a made) fit.from spared.0 unborn)

-- an unborn thread stays so through every event but its own hatch
pub unborn_stays : (w : World) (worker : ℕ) (e : Event) (now t : ℕ) → IsWellMadeWorld w → IsPossible w worker e now → length w.lines ≤ 16 →
    is_among (hatched_by e) t ≡ false → IsStillUnborn t w.members → IsStillUnborn t (step w worker e now).0.members
unborn_stays w worker e now t made possible few other unborn =
    step_by_locks (λ done. IsStillUnborn t done.0.members) w worker e now (split (locks_of w e) refl) two
  where
    two : (a b : ℕ) → locking e ≡ queues a b → IsStillUnborn t (stepped_under_two a b w worker e now).0.members
    two a b is =
        let move : IsMove e a b = move_where e a b is in
        subst (λ (x : Event). IsStillUnborn t (stepped_under_two a b w worker x now).0.members) (sym move.event_is)
        (move_leaves_unborn w worker now a b t move.why made (second_there w e a b is possible.cpus) unborn)

    split : (ls : List ℕ) → locks_of w e ≡ ls → IsStillUnborn t (step_under_locks ls w worker e now).0.members
    split [] is = unborn
    split (l ∷ ls) is =
        let among = ap (λ (xs : List ℕ). is_among xs l) is ∙ first_among l ls in
        parts_spare w worker e now l t (action_of e (seen_under w worker now e l)).parts (λ u place. StandsAt u place w.members) (current_of l w.members ≡ None) (side_of l w) None among
        (record { settings = refl; made = made.members; index = index_of w l made.indexes; stands = λ u place is. is; none = λ is. is })
        (event_fits w worker now made e possible l among).follows (event_spares w worker e now l t possible other) unborn

-- ---- the start

-- the unborn threads stand behind the others
unborn_appended : (w : World) (us : List ℕ) → (fold with_unborn w us).members ≡ w.members ++ map (λ u. unborn_member (unborn_record u)) us
unborn_appended w [] = sym (append-nil w.members)
unborn_appended w (u ∷ us) =
    unborn_appended (with_unborn w u) us ∙ append_assoc w.members (unborn_member (unborn_record u) ∷ []) (map (λ v. unborn_member (unborn_record v)) us)

-- a number of an unborn thread that stands behind others without that number finds it
unborn_behind : (t : ℕ) (ms : List Member) (us : List ℕ) → is_among (numbers_of ms) t ≡ false → is_among us t ≡ true →
    IsStillUnborn t (ms ++ map (λ u. unborn_member (unborn_record u)) us)
unborn_behind t [] [] new among = absurd (false≢true among)
unborn_behind t [] (u ∷ us) new among = by_test (u == t) among (unborn_behind t [] us refl)
  where
    others : List Member
    others = map (λ v. unborn_member (unborn_record v)) us

    by_test : (b : Bool) → (b || is_among us t) ≡ true → (is_among us t ≡ true → IsStillUnborn t others) →
        is_unborn_thread (if b then Some (unborn_member (unborn_record u)) else thread_of t others) ≡ true
    by_test true here rest = refl
    by_test false here rest = rest here
unborn_behind t (m ∷ ms) us new among =
    let parts = or_parts (m.thread.id == t) (is_among (numbers_of ms) t) new in
    ap (λ (b : Bool). is_unborn_thread (if b then Some m else thread_of t (ms ++ map (λ u. unborn_member (unborn_record u)) us))) parts.0 ∙
    unborn_behind t ms us parts.1 among

-- each thread that a setup declares unborn is so at its start
pub start_unborn : (s : Setup) (t : ℕ) → is_among s.unborn t ≡ true → IsStillUnborn t (world_at_start s).members
start_unborn s t among =
    ap (λ (ms : List Member). is_unborn_thread (thread_of t ms)) (unborn_appended (fold laid (empty_world s) s.threads) s.unborn) ∙
    unborn_behind t (fold laid (empty_world s) s.threads).members s.unborn
    (ap (λ us. is_among us t) (declared_laid s).ids_are ∙
    false_from_ne_true (is_among (queued_numbers s.threads) t) (λ queued. distinct_apart (queued_numbers s.threads) s.unborn t (setup_specs s).distinct queued among))
    among

-- what a setup says of the threads that its scripts fork: each is unborn, and none is forked twice
pub record HasForks (s : Setup) : Type 0 where
  pub unborn : list_all (is_among s.unborn) (flat_map (λ script. flat_map forked_by script) s.scripts) ≡ true
  pub distinct : is_distinct (flat_map (λ script. flat_map forked_by script) s.scripts) ≡ true

-- every setup forks unborn threads, and each once
pub setup_forks : (s : Setup) → HasForks s
setup_forks s = record { unborn = s.rules.forks; distinct = s.rules.forked_once }

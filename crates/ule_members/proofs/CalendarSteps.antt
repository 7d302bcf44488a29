-- What each event makes of the calendars, and what it chooses from them: a line or two an event; and so for each step.
use Rattle.std.proofs.Common.{◌≡◌, ℕ, ◌<◌, ◌≤◌, ◌==◌, Bool, true, false, length, List, [], ◌∷◌, Option, Some, None, if◌then◌else◌, refl, sym, ◌∙◌, ap, subst, get_or-set_same}
use Rattle.std.specs.Option.{option_map}
use Rattle.std.specs.Prelude.{min, nat_lt}
use Rattle.std.proofs.lemmas.Bool.{eq-eqb, eqb-true, false≢true, or_left, or_right}
use Rattle.std.proofs.lemmas.Option.{none-some}
use Rattle.ule_score.specs.Changes.{RecordChange, after_change, ran, sleeps}
use Rattle.ule_score.specs.declared.place.Place.{Place}
use Rattle.ule_score.specs.declared.place.Place.TheVariants.{Running, Queued, Asleep, Unborn, Gone, Hand}
use Rattle.ule_score.specs.declared.record.Change.{Change}
use Rattle.ule_score.specs.declared.record.Change.TheVariants as change
use Rattle.ule_score.specs.declared.record.CpuLine.{CpuLine}
use Rattle.ule_score.specs.declared.record.ThreadRecord.{ThreadRecord}
use Rattle.ule_score.specs.declared.record.Why.{Why}
use Rattle.ule_types.specs.Commands.{is_among}
use Rattle.ule_types.specs.declared.event.Event.{Event}
use Rattle.ule_types.specs.declared.event.Event.TheVariants.{Tick, Switch, Drop, Bed, Wake, Look, Land, Move, Lend, Unlend, Renice, Hatch, Fork, Return, Exit, Bury, Inherit}
use Rattle.ule_types.specs.declared.event.Reply.{Reply}
use Rattle.ule_types.specs.declared.event.Reply.TheVariants.{Bedded, Buried, Changed, Dropped, Exited, Hatched, NotAllowed, NotAsleep, Nothing, ParentGone, Returned, Switched, Unmarked}
use Rattle.ule_model.specs.Action.{Action, action_done, answers, move, parts_done}
use Rattle.ule_model.specs.Actions.{action_of, change_action, change_action_at, fork_action, give_way_action, go_action, land_action, leave_action, note_action, requeue_action, switch_action, tick_action, unborn_action, wake_action, wake_action_at}
use Rattle.ule_model.specs.ActionStep.{bare_side, named_by, seen_on, seen_under}
use Rattle.ule_model.specs.Step.{step, step_under_locks}
use Rattle.ule_model.specs.CalendarIndexes.{distance_of, idx_after_turn}
use Rattle.ule_model.specs.CalendarPromise.{IsInBucket, choosing_side, choosing_from, chosen_by, goes_next, if_first, is_tick_of, numbers_on, requeues, takes_up}
use Rattle.ule_model.specs.Events.{has_thread, holder_of, is_own, locking, locks_of, queues, sought_by}
use Rattle.ule_model.specs.Landing.{current_record}
use Rattle.ule_model.specs.Places.{lock_of}
use Rattle.ule_model.specs.Actions.{gone_answer, unborn_answer}
use Rattle.ule_model.specs.Switch.{insertion_of, is_preemption, is_unasked, started_reply}
use Rattle.ule_model.specs.World.{Member, Side, World, current_of, fresh_line, side_of, standing_of, thread_of}
use Rattle.ule_members.proofs.ActionFits.{IsUnder, only_lock, running_at, sought_under}
use Rattle.ule_members.proofs.CalendarMoves.{has_found}
use Rattle.ule_members.proofs.CalendarParts.{IsCalm, IsNextIf, StepPasses, entry_by, nothing_passes, side_passes}
use Rattle.ule_members.proofs.CalendarPairs.{moves_pass}
use Rattle.ule_members.proofs.CalendarPhases.{FollowsPhase, IsOff, NeedsMove, fresh, parts_choose, parts_passage}
use Rattle.ule_members.proofs.CalendarPlaces.{filing_of}
use Rattle.ule_members.proofs.CalendarRules.{turning_by_one}
use Rattle.ule_members.proofs.PairDone.{IsMove, move_where}
use Rattle.ule_members.proofs.PartDone.{StandsAt}
use Rattle.ule_members.proofs.Reach.{held_found, is_number_itself, place_from_hand, unborn_found}
use Rattle.ule_members.proofs.Steps.{first_among, step_by_locks, stepped_under_two}
use Rattle.ule_members.proofs.Threads.{current_runs}

-- a thread in this worker's hand has it for a holder
own_holder : (worker : ℕ) (o : Option ℕ) → is_own worker o ≡ true → o ≡ Some worker
own_holder worker None own = absurd (false≢true own)
own_holder worker (Some h) own = ap (λ (x : ℕ). Some x) (eqb-true h worker own)

module _ (w : World) (worker now : ℕ) (calm : IsCalm w) where
  -- how far an action of an event comes in the calendar of CPU l; and that a thread that its reply says was chosen was
  pub record Comes (e : Event) (l : ℕ) (a : Action) : Type 0 where
    pub follows : (into : Option ℕ) →
        FollowsPhase (λ t. takes_up t (entry_by worker e now (a.reply into))) (λ t. goes_next t (entry_by worker e now (a.reply into))) l (λ t place. StandsAt t place w.members) fresh a.parts
    pub tells : (into : Option ℕ) (u : ℕ) → chosen_by (a.reply into) ≡ Some u → into ≡ Some u

  -- a reply that says that none was chosen
  tells_none : (r : Reply) (into : Option ℕ) (u : ℕ) → chosen_by r ≡ None → chosen_by r ≡ Some u → into ≡ Some u
  tells_none r into u none is = absurd (none-some u (sym none ∙ is))

  answer_comes : (e : Event) (l : ℕ) (r : Reply) → chosen_by r ≡ None → Comes e l (answers r)
  answer_comes e l r none = record { follows = λ into. tt; tells = λ into u. tells_none r into u none }

  -- ---- the current thread

  runs_there : (c : ℕ) (m : Member) → current_of c w.members ≡ Some m → StandsAt m.thread.id (Running c) w.members
  runs_there c m found = record {
    member = m;
    found = calm.finds m (has_found _ m w.members found);
    place_is = running_at c m.place (current_runs c w.members m found);
  }

  abbrev thread_if : Option Member → Option ThreadRecord
  thread_if o = option_map (λ (m : Member). m.thread) o

  tick_comes : (c : ℕ) (o : Option Member) → Comes (Tick c) c (tick_action (thread_if o) (seen_under w worker now (Tick c) c))
  tick_comes c None = record { follows = λ into. (tt, tt); tells = λ into u is. absurd (none-some u is) }
  tick_comes c (Some m) = record { follows = λ into. (tt, (tt, (tt, tt))); tells = λ into u is. absurd (none-some u is) }

  -- what the reply of a switch from no thread says is what was chosen
  started_tells : (into : Option ℕ) (u : ℕ) → chosen_by (started_reply into) ≡ Some u → into ≡ Some u
  started_tells None u is = is
  started_tells (Some t) u is = is

  -- a preempted thread goes next
  preempted_next : (e : Event) (p : Bool) (t : ℕ) (into : Option ℕ) → IsNextIf (insertion_of p) (goes_next t (entry_by worker e now (Switched (Some t) into p)) ≡ true)
  preempted_next e true t into = or_right (requeues t (entry_by worker e now (Switched (Some t) into true))) (t == t) (eq-eqb t t refl)
  preempted_next e false t into = tt

  give_way_comes : (c : ℕ) (why : Why) (p : Bool) (o : Option Member) → current_of c w.members ≡ o →
      Comes (Switch c why) c (give_way_action p (thread_if o) (seen_under w worker now (Switch c why) c))
  give_way_comes c why p None found = record { follows = λ into. (tt, (tt, tt)); tells = started_tells }
  give_way_comes c why p (Some m) found =
      record { follows = λ into. (tt, (tt, (tt, ((runs_there c m found, preempted_next (Switch c why) p m.thread.id into), (tt, tt))))); tells = λ into u is. is }

  switch_comes : (c : ℕ) (why : Why) → Comes (Switch c why) c (switch_action why (seen_under w worker now (Switch c why) c))
  switch_comes c why = if_asked (is_unasked why (side_of c w).line.resched)
    where
      p : Bool
      p = is_preemption why (side_of c w).line.slice_end

      if_asked : (d : Bool) → Comes (Switch c why) c (if d then answers Unmarked else give_way_action p (thread_if (current_of c w.members)) (seen_under w worker now (Switch c why) c))
      if_asked true = answer_comes (Switch c why) c Unmarked refl
      if_asked false = give_way_comes c why p (current_of c w.members) refl

  leave_comes : (e : Event) (c : ℕ) (change : RecordChange) (reply : ThreadRecord → Option ℕ → Reply) → ((r : ThreadRecord) (into : Option ℕ) → chosen_by (reply r into) ≡ into) →
      (o : Option Member) → current_of c w.members ≡ o → Comes e c (leave_action change reply (thread_if o) (seen_under w worker now e c))
  leave_comes e c change reply tells None found = answer_comes e c Nothing refl
  leave_comes e c change reply tells (Some m) found =
      record { follows = λ into. ((runs_there c m found, tt, tt), (tt, (tt, (tt, (tt, tt))))); tells = λ into u is. sym (tells m.thread into) ∙ is }

  fork_comes : (c t : ℕ) (o child : Option Member) → Comes (Fork c t) c (fork_action t (thread_if o) (option_map standing_of child) (seen_under w worker now (Fork c t) c))
  fork_comes c t None child = answer_comes (Fork c t) c Nothing refl
  fork_comes c t (Some m) None = answer_comes (Fork c t) c Nothing refl
  fork_comes c t (Some m) (Some child) = record { follows = λ into. (tt, (tt, tt)); tells = λ into u is. absurd (none-some u is) }

  -- ---- the thread that is named

  go_comes : (e : Event) (l t : ℕ) (from to : Place) (reply : Reply) → StandsAt t from w.members → NeedsMove l from → IsOff to → chosen_by reply ≡ None →
      Comes e l (go_action t to reply (option_map standing_of (thread_of t w.members)))
  go_comes e l t from to reply at off there none =
      subst (λ (o : Option Member). Comes e l (go_action t to reply (option_map standing_of o))) (sym at.found)
      (subst (λ (p : Place). Comes e l (record { parts = move t p to ∷ []; reply = λ into. reply })) (sym at.place_is)
      (record { follows = λ into. ((at, off, there), tt); tells = λ into u. tells_none reply into u none }))

  -- a thread that an event has in hand
  held_stands : (t : ℕ) → is_own worker (holder_of w.members t) ≡ true → StandsAt t (Hand worker) w.members
  held_stands t own =
      let h = held_found w.members t worker (own_holder worker (holder_of w.members t) own) in
      record { member = h.member; found = h.found; place_is = place_from_hand worker h.member.place h.hand }

  land_comes : (t c : ℕ) → StandsAt t (Hand worker) w.members → Comes (Land t c) c (land_action t (option_map standing_of (thread_of t w.members)) (seen_under w worker now (Land t c) c))
  land_comes t c held =
      subst (λ (o : Option Member). Comes (Land t c) c (land_action t (option_map standing_of o) (seen_under w worker now (Land t c) c))) (sym held.found)
      (record { follows = λ into. (tt, ((held, tt), (tt, tt))); tells = λ into u is. absurd (none-some u is) })

  -- ---- the thread that is sought

  wake_comes : (t l : ℕ) (m : Member) (place : Place) → StandsAt t place w.members → Comes (Wake t) l (wake_action_at place t m.thread (seen_under w worker now (Wake t) l))
  wake_comes t l m (Asleep channel) at = record { follows = λ into. ((at, tt, tt), (tt, tt)); tells = λ into u is. absurd (none-some u is) }
  wake_comes t l m place at = answer_comes (Wake t) l (NotAsleep place) refl

  module _ (e : Event) (t : ℕ) (given : Change) (sought : sought_by e ≡ Some t) where
    note_comes : (l : ℕ) (place : Place) (new : ThreadRecord) → Comes e l (note_action place given t new)
    note_comes l place new = record { follows = λ into. (tt, tt); tells = λ into u is. absurd (none-some u is) }

    -- a requeued thread is taken up, and goes next
    anew : (p : ℕ) (takes : Bool) → requeues t (entry_by worker e now (Changed p true takes)) ≡ true
    anew p takes = is_number_itself t (sought_by e) sought

    unborn_comes : (l : ℕ) (g : Change) (new : ThreadRecord) → Comes e l (unborn_action (unborn_answer g) given t new)
    unborn_comes l (change.Lend p) new = answer_comes e l (NotAllowed Unborn) refl
    unborn_comes l change.Unlend new = answer_comes e l (NotAllowed Unborn) refl
    unborn_comes l (change.Renice n) new = answer_comes e l (NotAllowed Unborn) refl
    unborn_comes l (change.Inherit run) new = note_comes l Unborn new

    gone_comes : (l : ℕ) (g : Change) → Comes e l (answers (gone_answer g))
    gone_comes l (change.Lend p) = answer_comes e l (NotAllowed Gone) refl
    gone_comes l change.Unlend = answer_comes e l (NotAllowed Gone) refl
    gone_comes l (change.Renice n) = answer_comes e l (NotAllowed Gone) refl
    gone_comes l (change.Inherit run) = answer_comes e l ParentGone refl

    change_comes : (l : ℕ) (place : Place) (r new : ThreadRecord) → StandsAt t place w.members → lock_of place ≡ Some l → Comes e l (change_action_at place given t r new (seen_under w worker now e l))
    change_comes l (Queued d k b) r new at under = if_better (nat_lt new.priority r.priority)
      where
        same : (x y : ℕ) → Some x ≡ Some y → x ≡ y
        same x y is = cc

        if_better : (better : Bool) → Comes e l (if better then requeue_action (Queued d k b) given t new (seen_under w worker now e l) else note_action (Queued d k b) given t new)
        if_better true = record {
          follows = λ into.
              let entry = entry_by worker e now ((requeue_action (Queued d k b) given t new (seen_under w worker now e l)).reply into) in
              let is = is_number_itself t (sought_by e) sought in
              let next = or_left (requeues t entry) _ is in
              (tt, ((at, (same d l under, next, next, or_right _ (requeues t entry) is)), (tt, tt)));
          tells = λ into u is. absurd (none-some u is);
        }
        if_better false = note_comes l (Queued d k b) new
    change_comes l (Running d) r new at under = note_comes l (Running d) new
    change_comes l (Asleep channel) r new at under = note_comes l (Asleep channel) new
    change_comes l Unborn r new at under = unborn_comes l given new
    change_comes l Gone r new at under = gone_comes l given
    change_comes l (Hand h) r new at under = answer_comes e l Nothing refl

    changes_come : (l : ℕ) → IsUnder w t l → Comes e l (change_action given t (option_map standing_of (thread_of t w.members)) (seen_under w worker now e l))
    changes_come l s =
        subst (λ (o : Option Member). Comes e l (change_action given t (option_map standing_of o) (seen_under w worker now e l))) (sym s.found)
        (change_comes l s.member.place s.member.thread (after_change w.settings given s.member.thread) (record { member = s.member; found = s.found; place_is = refl }) s.under)

  -- ---- each event

  -- under the lock that it takes
  under_own : (e : Event) (c l : ℕ) → is_among (c ∷ []) l ≡ true → Comes e c (action_of e (seen_under w worker now e c)) → Comes e l (action_of e (seen_under w worker now e l))
  under_own e c l among = subst (λ (x : ℕ). Comes e x (action_of e (seen_under w worker now e x))) (only_lock c l among)

  -- how far the action of each event comes whose thread stands where it must
  event_comes : (e : Event) → has_thread w worker e ≡ true → (l : ℕ) → is_among (locks_of w e) l ≡ true → Comes e l (action_of e (seen_under w worker now e l))
  event_comes (Tick c) has l among = under_own (Tick c) c l among (tick_comes c (current_of c w.members))
  event_comes (Switch c why) has l among = under_own (Switch c why) c l among (switch_comes c why)
  event_comes (Drop c channel) has l among =
      under_own (Drop c channel) c l among (leave_comes (Drop c channel) c sleeps (λ r into. Dropped r.id into) (λ r into. refl) (current_of c w.members) refl)
  event_comes (Bed t channel) has l among =
      go_comes (Bed t channel) l t (Hand worker) (Asleep channel) Bedded (held_stands t has) tt tt refl
  event_comes (Wake t) has l among =
      let s = sought_under w t l among in
      subst (λ (o : Option Member). Comes (Wake t) l (wake_action t (option_map standing_of o) (seen_under w worker now (Wake t) l))) (sym s.found)
      (wake_comes t l s.member s.member.place (record { member = s.member; found = s.found; place_is = refl }))
  event_comes (Look c) has l among = answer_comes (Look c) l ((action_of (Look c) (seen_under w worker now (Look c) l)).reply None) refl
  event_comes (Land t c) has l among = under_own (Land t c) c l among (land_comes t c (held_stands t has))
  event_comes (Move a b why) has l among = answer_comes (Move a b why) l Nothing refl
  event_comes (Lend t p) has l among = changes_come (Lend t p) t (change.Lend p) refl l (sought_under w t l among)
  event_comes (Unlend t) has l among = changes_come (Unlend t) t change.Unlend refl l (sought_under w t l among)
  event_comes (Renice t n) has l among = changes_come (Renice t n) t (change.Renice n) refl l (sought_under w t l among)
  event_comes (Hatch t) has l among =
      let h = unborn_found w.members t has in
      go_comes (Hatch t) l t Unborn (Hand worker) Hatched (record { member = h.member; found = h.found; place_is = h.place }) tt tt refl
  event_comes (Fork c t) has l among = under_own (Fork c t) c l among (fork_comes c t (current_of c w.members) (thread_of t w.members))
  event_comes (Return t) has l among = go_comes (Return t) l t (Hand worker) Unborn Returned (held_stands t has) tt tt refl
  event_comes (Exit c) has l among =
      under_own (Exit c) c l among (leave_comes (Exit c) c ran (λ r into. Exited r.id into r.parent r.hist.run) (λ r into. refl) (current_of c w.members) refl)
  event_comes (Bury t) has l among = go_comes (Bury t) l t (Hand worker) Gone Buried (held_stands t has) tt tt refl
  event_comes (Inherit t run) has l among = changes_come (Inherit t run) t (change.Inherit run) refl l (sought_under w t l among)

-- ---- each step

-- what the step of an event makes of the calendars
pub step_passes : (w : World) (worker : ℕ) (e : Event) (now : ℕ) → IsCalm w → has_thread w worker e ≡ true → StepPasses w worker e now (step w worker e now)
step_passes w worker e now calm has = step_by_locks (StepPasses w worker e now) w worker e now (split (locks_of w e) refl) two
  where
    two : (a b : ℕ) → locking e ≡ queues a b → StepPasses w worker e now (stepped_under_two a b w worker e now)
    two a b is =
        let move : IsMove e a b = move_where e a b is in
        subst (λ (x : Event). StepPasses w worker x now (stepped_under_two a b w worker x now)) (sym move.event_is) (moves_pass w worker now a b calm move.why)

    split : (ls : List ℕ) → locks_of w e ≡ ls → StepPasses w worker e now (step_under_locks ls w worker e now)
    split [] is = nothing_passes w worker e now calm ((action_of e (seen_on 0 worker now (named_by w e) (bare_side w))).reply None)
    split (l ∷ ls) is =
        let a = action_of e (seen_under w worker now e l) in
        let done = action_done l now a (side_of l w) in
        let comes = event_comes w worker now calm e has l (ap (λ (xs : List ℕ). is_among xs l) is ∙ first_among l ls) in
        let passage =
        parts_passage (λ t. takes_up t (entry_by worker e now done.1)) (λ t. goes_next t (entry_by worker e now done.1)) l now (side_of l w) (calm.close l) calm.finds a.parts
        (λ t place. StandsAt t place w.members) (λ t place is. is) (comes.follows (parts_done l now a.parts (side_of l w, None)).1) in
        side_passes w worker e now calm l done (record { moves = passage.1; passes = passage.0 })

-- an event under two locks chooses from no side
two_choose_none : (c : ℕ) (w : World) (worker : ℕ) (e : Event) (now a b : ℕ) → locking e ≡ queues a b → choosing_side c w worker e now ≡ None
two_choose_none c w worker e now a b is =
    let move : IsMove e a b = move_where e a b is in
    subst (λ (x : Event). choosing_side c w worker x now ≡ None) (sym move.event_is) (at_first (c == min a b))
  where
    at_first : (d : Bool) → (if d then choosing_from c now [] (side_of c w, None) else None) ≡ None
    at_first true = refl
    at_first false = refl

-- a thread that a step chose from CPU c's calendar is no farther than the bucket of one that stands there
abbrev pub StepPicks : (c b : ℕ) → World → ℕ → Event → ℕ → Reply → Type 0
StepPicks c b w worker e now r =
    (s : Side) (u a : ℕ) → choosing_side c w worker e now ≡ Some s → chosen_by r ≡ Some u → IsInBucket c a u s.members → distance_of s.line.ridx a ≤ distance_of s.line.ridx b

-- no step chooses from farther away than the bucket of a thread that stands in the calendar
pub step_picks : (c t b : ℕ) (w : World) → IsCalm w → filing_of c w.members t ≡ Some b → (worker : ℕ) (e : Event) (now : ℕ) → has_thread w worker e ≡ true →
    StepPicks c b w worker e now (step w worker e now).1
step_picks c t b w calm stands worker e now has s u a =
    step_by_locks
    (λ done. if_first c (locks_of w e) (choosing_from c now (action_of e (seen_under w worker now e c)).parts (side_of c w, None)) ≡ Some s →
    chosen_by done.1 ≡ Some u → IsInBucket c a u s.members → distance_of s.line.ridx a ≤ distance_of s.line.ridx b) w worker e now
    (split (locks_of w e) refl) (λ x y is from. absurd (none-some s (sym (two_choose_none c w worker e now x y is) ∙ from)))
  where
    here : (l : ℕ) → is_among (locks_of w e) l ≡ true → c ≡ l → choosing_from c now (action_of e (seen_under w worker now e c)).parts (side_of c w, None) ≡ Some s →
        chosen_by (action_done l now (action_of e (seen_under w worker now e l)) (side_of l w)).1 ≡ Some u → IsInBucket c a u s.members → distance_of s.line.ridx a ≤ distance_of s.line.ridx b
    here l among same =
        subst (λ (x : ℕ). is_among (locks_of w e) x ≡ true → choosing_from c now (action_of e (seen_under w worker now e c)).parts (side_of c w, None) ≡ Some s →
        chosen_by (action_done x now (action_of e (seen_under w worker now e x)) (side_of x w)).1 ≡ Some u → IsInBucket c a u s.members → distance_of s.line.ridx a ≤ distance_of s.line.ridx b) same
        (λ among from chosen.
        let act = action_of e (seen_under w worker now e c) in
        let into = (parts_done c now act.parts (side_of c w, None)).1 in
        let comes = event_comes w worker now calm e has c among in
        parts_choose (λ v. takes_up v (entry_by worker e now (act.reply into))) (λ v. goes_next v (entry_by worker e now (act.reply into))) c now (side_of c w) (calm.close c) calm.finds t b stands
        act.parts (comes.follows into) s u a from (comes.tells into u chosen)) among

    at_first : (d : Bool) (l : ℕ) → (c == l) ≡ d → is_among (locks_of w e) l ≡ true →
        (if d then choosing_from c now (action_of e (seen_under w worker now e c)).parts (side_of c w, None) else None) ≡ Some s →
        chosen_by (action_done l now (action_of e (seen_under w worker now e l)) (side_of l w)).1 ≡ Some u → IsInBucket c a u s.members → distance_of s.line.ridx a ≤ distance_of s.line.ridx b
    at_first true l is among from = here l among (eqb-true c l is) from
    at_first false l is among none = absurd (none-some s none)

    split : (ls : List ℕ) → locks_of w e ≡ ls → if_first c ls (choosing_from c now (action_of e (seen_under w worker now e c)).parts (side_of c w, None)) ≡ Some s →
        chosen_by (step_under_locks ls w worker e now).1 ≡ Some u → IsInBucket c a u s.members → distance_of s.line.ridx a ≤ distance_of s.line.ridx b
    split [] is none = absurd (none-some s none)
    split (l ∷ ls) is from = at_first (c == l) l refl (ap (λ (xs : List ℕ). is_among xs l) is ∙ first_among l ls) from

-- ---- ticks

-- an event that is a tick of CPU c
tick_is : (c : ℕ) (e : Event) → is_tick_of c e ≡ true → e ≡ Tick c
tick_is c (Tick d) is = ap (λ (x : ℕ). Tick x) (sym (eqb-true c d is))
tick_is c _ is = absurd (false≢true is)

-- a tick of a CPU that finds the indexes equal brings the insertion index on
pub turning_goes_on : (w : World) (worker now c : ℕ) → IsCalm w → (numbers_on c w).idx ≡ (numbers_on c w).ridx → (e : Event) → is_tick_of c e ≡ true →
    c < length w.lines → distance_of (numbers_on c w).idx (numbers_on c (step w worker e now).0).idx ≡ 1
turning_goes_on w worker now c calm same e is below =
    subst (λ (x : Event). distance_of (numbers_on c w).idx (numbers_on c (step w worker x now).0).idx ≡ 1) (sym (tick_is c e is))
    (turning_by_one (numbers_on c w).idx (numbers_on c w).ridx (numbers_on c (step w worker (Tick c) now).0).idx (calm.close c).insertion same
    (ap (λ (line : CpuLine). line.idx) (get_or-set_same w.lines c (action_done c now (tick_action (current_record c w.members) (seen_under w worker now (Tick c) c)) (side_of c w)).0.line fresh_line below) ∙
    turned (current_record c w.members)))
  where
    turned : (o : Option ThreadRecord) → (action_done c now (tick_action o (seen_under w worker now (Tick c) c)) (side_of c w)).0.line.idx ≡ idx_after_turn (numbers_on c w).idx (numbers_on c w).ridx
    turned None = refl
    turned (Some r) = refl

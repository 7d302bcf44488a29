-- What a call of a CPU makes of its value stands for what its action makes of every side that the value stands for.
use Rattle.std.proofs.Common.{◌≡◌, ℕ, ◌<◌, Bool, true, false, not, ◌==◌, nat_lt, [], Option, Some, None, if◌then◌else◌, option_and_then, ⊎_elim, refl, sym, ◌∙◌, ap, subst}
use Rattle.std.specs.Option.{option_map, option_to_list}
use Rattle.std.proofs.lemmas.Bool.{eqb-true, false≢true, or_cases}
use Rattle.ule_score.specs.Changes.{IsSoundChange, RecordChange, after_change, changed, record_after}
use Rattle.ule_score.specs.declared.place.Place.{Place}
use Rattle.ule_score.specs.declared.place.Place.TheVariants.{Running, Queued, Asleep, Unborn, Gone, Hand}
use Rattle.ule_score.specs.declared.record.Change.{Change}
use Rattle.ule_score.specs.declared.record.CpuLine.{CpuLine}
use Rattle.ule_score.specs.declared.record.Settings.{Settings}
use Rattle.ule_score.specs.declared.record.ThreadRecord.{ThreadRecord}
use Rattle.ule_score.specs.declared.record.Why.{Why}
use Rattle.ule_types.specs.Commands.{is_among}
use Rattle.ule_types.specs.declared.event.Event.{Event}
use Rattle.ule_types.specs.declared.event.Event.TheVariants.{Drop, Switch, Tick, Unlend}
use Rattle.ule_types.specs.declared.event.Reply.{Reply}
use Rattle.ule_types.specs.declared.event.Reply.TheVariants.{Dropped, Nothing, Unmarked}
use Rattle.ule_model.specs.Action.{Action, action_done, answers, parts_done}
use Rattle.ule_model.specs.Actions.{Seen, change_action, change_action_at, give_way_action, leave_action, note_action, requeue_action, switch_action, tick_action}
use Rattle.ule_model.specs.ActionStep.{Stepped, on_queue, seen_in, seen_on}
use Rattle.ule_model.specs.ActionValue.{action_on_cpu, parts_on_cpu}
use Rattle.ule_model.specs.CpuActions.{departed, priority_changed, switched, ticked}
use Rattle.ule_model.specs.CpuChange.{value_changed}
use Rattle.ule_model.specs.CpuValue.{CpuValue, StandsFor, Taken, value_switched, value_taken, value_ticked}
use Rattle.ule_model.specs.Events.{locks_of}
use Rattle.ule_model.specs.Frames.{IsSoundIn}
use Rattle.ule_model.specs.LockValue.{LockValue, queue}
use Rattle.ule_model.specs.Switch.{is_preemption, is_unasked}
use Rattle.ule_model.specs.WellMade.{IsWellMade, IsWellMadeWorld}
use Rattle.ule_model.specs.World.{Member, Side, World, current_of, standing_of, thread_of}
use Rattle.ule_model.specs.LockConditions.{IsOnCpu, IsPlacedOn}
use Rattle.ule_model.specs.Places.{is_on, lock_of}
use Rattle.ule_threads.specs.declared.standing.Standing.{Standing}
use Rattle.ule_members.proofs.ActionFits.{AreFit, change_fits, give_way_fits, leave_fits, tick_fits}
use Rattle.ule_members.proofs.PartDone.{IsReady, StandsAt, parts_follow}
use Rattle.ule_members.proofs.Reach.{takes_itself}
use Rattle.ule_laws.proofs.EventStands.{seen_alike}
use Rattle.ule_laws.proofs.PartStands.{ArePartsAlike, FollowsHere, parts_alike}
use Rattle.ule_laws.proofs.SameValues.{change_same, leave_same, stepped_left, switch_same, tick_same}
use Rattle.ule_laws.proofs.SoughtLaws.{current_numbered, placed_on_cpu}
use Rattle.ule_members.proofs.Within.{Within, within_thread}

-- what an event gives, on the value and on the side
pub record ActsAlike (v : CpuValue) (made : CpuValue × Reply) (meant : Side × Reply) : Type 0 where
  pub stands : StandsFor made.0 meant.0
  pub answer : made.1 ≡ meant.1
  pub well_made : IsWellMade meant.0.members
  pub cpu : made.0.cpu ≡ v.cpu

-- the CPU under a lock, where it is one
abbrev cpu_of : CpuValue → LockValue → CpuValue
cpu_of past (queue v) = v
cpu_of past x = past

-- what is answered by what left the CPU, if a thread left
abbrev pub reply_left : (ThreadRecord → Option ℕ → Reply) → Option Taken → Reply
reply_left reply None = Nothing
reply_left reply (Some out) = reply out.thread out.into

-- a thread that left, if one did, left this CPU, and it is answered so
left_value : (past : CpuValue) (reply : ThreadRecord → Option ℕ → Reply) (x : CpuValue × Option Taken) → cpu_of past (stepped_left reply None x).value ≡ x.0
left_value past reply (made, None) = refl
left_value past reply (made, Some out) = refl

left_reply : (reply : ThreadRecord → Option ℕ → Reply) (x : CpuValue × Option Taken) → (stepped_left reply None x).reply ≡ reply_left reply x.1
left_reply reply (made, None) = refl
left_reply reply (made, Some out) = refl

module _ (worker now : ℕ) (v : CpuValue) (s : Side) (stands : StandsFor v s) (made : IsWellMade s.members) where
  -- a world with the threads of the side
  abbrev base : World
  base = record { settings = s.settings; members = s.members; lines = []; balance_word = s.balance_word }

  abbrev base_made : IsWellMadeWorld base
  base_made = record { members = made; indexes = tt }

  -- what an action that this sees makes of the value, and of the side
  abbrev made_by : (Seen → Action) → Seen → CpuValue × Reply
  made_by f at = let n = action_on_cpu now (f at) (record { hand = None; value = v }) in (n.0.value, n.1)

  abbrev seen_here : Option Member → Seen
  seen_here named = seen_on v.cpu worker now named s

  abbrev here : Seen
  here = seen_here None

  -- an action that is fit gives the same of both
  acted : (e : Event) (named : Option Member) (f : Seen → Action) → is_among (locks_of base e) v.cpu ≡ true → AreFit base worker now base_made e v.cpu (f (seen_here named)).parts → FollowsHere v.cpu worker ⊥ ⊥ (f (seen_here named)).parts →
      ActsAlike v (made_by f (seen_in worker now (option_map standing_of named) v)) (action_done v.cpu now (f (seen_here named)) s)
  acted e named f among fit goes =
      subst (λ (at : Seen). ActsAlike v (made_by f at) (action_done v.cpu now (f (seen_here named)) s)) (sym (seen_alike worker now named v s stands made))
      (record { stands = both.held.stands; answer = ap (f (seen_here named)).reply both.answer; well_made = after; cpu = both.cpu })
    where
      ready : IsReady base worker e now v.cpu (λ t place. StandsAt t place s.members) (current_of v.cpu s.members ≡ None) s
      ready = record { settings = refl; made = made; index = subst (λ (line : CpuLine). line.ridx < 64) stands.line stands.index; stands = λ t place is. is; none = λ is. is }

      both : ArePartsAlike worker ⊥ ⊥ (record { hand = None; value = v }) (parts_on_cpu now (f (seen_here named)).parts (record { hand = None; value = v }, None)) (parts_done v.cpu now (f (seen_here named)).parts (s, None))
      both =
          parts_alike base worker e now ⊥ (f (seen_here named)).parts v.cpu (λ t place. StandsAt t place s.members) (current_of v.cpu s.members ≡ None) ⊥ (record { hand = None; value = v }) s None among refl ready fit goes
          (record { stands = stands; hand = λ has. absurd has }) (λ is. absurd is)

      after : IsWellMade (parts_done v.cpu now (f (seen_here named)).parts (s, None)).0.members
      after = (parts_follow base worker e now v.cpu (f (seen_here named)).parts (λ t place. StandsAt t place s.members) (current_of v.cpu s.members ≡ None) s None among ready fit).done.made

  -- the record of the current thread, if there is one
  abbrev thread_if : Option Member → Option ThreadRecord
  thread_if o = option_map (λ (m : Member). m.thread) o

  -- a tick
  tick_acts : ActsAlike v (value_ticked now v) (action_done v.cpu now (tick_action here.current here) s)
  tick_acts =
      subst (λ (x : CpuValue × Reply). ActsAlike v x (action_done v.cpu now (tick_action here.current here) s)) (ap (λ (x : Stepped). (cpu_of v x.value, x.reply)) (tick_same worker now None v))
      (acted (Tick v.cpu) None (λ at. tick_action at.current at) (takes_itself v.cpu) (fits (current_of v.cpu s.members) refl) (goes (current_of v.cpu s.members)))
    where
      fits : (o : Option Member) → current_of v.cpu s.members ≡ o → AreFit base worker now base_made (Tick v.cpu) v.cpu (tick_action (thread_if o) here).parts
      fits None found = (tick_fits base worker now base_made v.cpu None found).follows
      fits (Some m) found = (tick_fits base worker now base_made v.cpu (Some m) found).follows

      goes : (o : Option Member) → FollowsHere v.cpu worker ⊥ ⊥ (tick_action (thread_if o) here).parts
      goes None = (tt, tt)
      goes (Some m) = (tt, (refl, (tt, tt)))

  -- a switch
  switch_acts : (why : Why) → ActsAlike v (value_switched why now v) (action_done v.cpu now (switch_action why here) s)
  switch_acts why =
      subst (λ (x : CpuValue × Reply). ActsAlike v x (action_done v.cpu now (switch_action why here) s))
      (ap (λ (x : Stepped). (cpu_of v x.value, x.reply)) (switch_same worker now None v (current_numbered v s stands made) why))
      (acted (Switch v.cpu why) None (λ at. switch_action why at) (takes_itself v.cpu) (fits (is_unasked why s.line.resched) (current_of v.cpu s.members) refl) (goes (is_unasked why s.line.resched) (current_of v.cpu s.members)))
    where
      p : Bool
      p = is_preemption why s.line.slice_end

      fits : (d : Bool) (o : Option Member) → current_of v.cpu s.members ≡ o → AreFit base worker now base_made (Switch v.cpu why) v.cpu (if d then answers Unmarked else give_way_action p (thread_if o) here).parts
      fits true o found = tt
      fits false None found = (give_way_fits base worker now base_made v.cpu why p None found).follows
      fits false (Some m) found = (give_way_fits base worker now base_made v.cpu why p (Some m) found).follows

      goes : (d : Bool) (o : Option Member) → FollowsHere v.cpu worker ⊥ ⊥ (if d then answers Unmarked else give_way_action p (thread_if o) here).parts
      goes true o = tt
      goes false None = (tt, (tt, tt))
      goes false (Some m) = (tt, (refl, (tt, (refl, (tt, tt)))))

  -- the current thread leaves
  leave_acts : (change : RecordChange) (reply : ThreadRecord → Option ℕ → Reply) → IsSoundIn base now change →
      ActsAlike v ((value_taken change now v).0, reply_left reply (value_taken change now v).1) (departed change reply v.cpu worker now s)
  leave_acts change reply sound =
      subst (λ (x : CpuValue × Reply). ActsAlike v x (departed change reply v.cpu worker now s))
      (ap (λ (x : Stepped). (cpu_of v x.value, x.reply)) (leave_same worker now None v (current_numbered v s stands made) change told reply same) ∙
      ap (λ (x : CpuValue). (x, (stepped_left reply None (value_taken change now v)).reply)) (left_value v reply (value_taken change now v)) ∙
      ap (λ (r : Reply). ((value_taken change now v).0, r)) (left_reply reply (value_taken change now v)))
      (acted (Drop v.cpu 0) None (λ at. leave_action change told at.current at) (takes_itself v.cpu) (fits (current_of v.cpu s.members) refl) (goes (current_of v.cpu s.members)))
    where
      told : ThreadRecord → Option ℕ → Reply
      told r into = reply (record_after s.settings now change r) into

      same : (r : ThreadRecord) (into : Option ℕ) → told r into ≡ reply (record_after v.settings now change r) into
      same r into = ap (λ (x : Settings). reply (record_after x now change r) into) (sym stands.settings)

      fits : (o : Option Member) → current_of v.cpu s.members ≡ o → AreFit base worker now base_made (Drop v.cpu 0) v.cpu (leave_action change told (thread_if o) here).parts
      fits None found = tt
      fits (Some m) found = (leave_fits base worker now base_made (Drop v.cpu 0) v.cpu change (λ r into. Dropped r.id into) (takes_itself v.cpu) sound refl (λ r into. refl) (Some m) found).follows

      goes : (o : Option Member) → FollowsHere v.cpu worker ⊥ ⊥ (leave_action change told (thread_if o) here).parts
      goes None = tt
      goes (Some m) = ((λ has. absurd has, refl, refl), (refl, (tt, (tt, (tt, tt)))))

-- a thread on a CPU stands at a place on it
on_cpu_from : (c : ℕ) (p : Place) → is_on c p ≡ true → IsOnCpu c p
on_cpu_from c (Running d) on = ⊎_elim (λ (same : (c == d) ≡ true). sym (eqb-true c d same)) (λ (not : false ≡ true). absurd (false≢true not)) (or_cases (c == d) false on)
on_cpu_from c (Queued d k b) on = sym (eqb-true c d on)
on_cpu_from c (Asleep channel) on = absurd (false≢true on)
on_cpu_from c Unborn on = absurd (false≢true on)
on_cpu_from c Gone on = absurd (false≢true on)
on_cpu_from c (Hand w) on = absurd (false≢true on)

-- a place on a CPU lies under its lock
lock_on_cpu : (c : ℕ) (p : Place) → IsOnCpu c p → lock_of p ≡ Some c
lock_on_cpu c (Running d) on = ap (λ (x : ℕ). Some x) on
lock_on_cpu c (Queued d k b) on = ap (λ (x : ℕ). Some x) on
lock_on_cpu c (Asleep channel) on = absurd on
lock_on_cpu c Unborn on = absurd on
lock_on_cpu c Gone on = absurd on
lock_on_cpu c (Hand w) on = absurd on

-- a change of a priority by an action needs nothing but a place on the CPU
change_goes : (c worker : ℕ) (given : Change) (t : ℕ) (p : Place) (r new : ThreadRecord) (at : Seen) → IsOnCpu c p → FollowsHere c worker ⊥ ⊥ (change_action_at p given t r new at).parts
change_goes c worker given t (Running d) r new at on = (on, tt)
change_goes c worker given t (Queued d k b) r new at on = if_better (nat_lt new.priority r.priority)
  where
    if_better : (better : Bool) → FollowsHere c worker ⊥ ⊥ (if better then requeue_action (Queued d k b) given t new at else note_action (Queued d k b) given t new).parts
    if_better true = (on, (on, (tt, tt)))
    if_better false = (on, tt)
change_goes c worker given t (Asleep channel) r new at on = absurd on
change_goes c worker given t Unborn r new at on = absurd on
change_goes c worker given t Gone r new at on = absurd on
change_goes c worker given t (Hand w) r new at on = absurd on

-- a change of the priority of a thread on the CPU
pub priority_changed_stands : (worker : ℕ) (given : Change) (m : Member) (v : CpuValue) (s : Side) → IsSoundChange 0 (changed given) → StandsFor v s → IsWellMade s.members →
    thread_of m.thread.id s.members ≡ Some m → is_on v.cpu m.place ≡ true →
    ActsAlike v (value_changed m.thread.id given (not (worker == v.cpu)) v) (priority_changed m.thread.id given v.cpu worker s)
priority_changed_stands worker given m v s sound stands made found on =
    subst (λ (x : CpuValue × Reply). ActsAlike v x (priority_changed t given v.cpu worker s))
    (ap (λ (x : Stepped). (cpu_of v x.value, x.reply))
    (ap (λ (o : Option Standing). on_queue (action_on_cpu 0 (change_action given t o (seen_in worker 0 o v)) (record { hand = None; value = v }))) (ap (option_map standing_of) found ∙ sym placed.found) ∙
    change_same worker 0 None v given t m.thread m.place placed))
    (acted worker 0 v s stands made (Unlend t) (thread_of t s.members) (λ at. change_action given t at.named at) among fits goes)
  where
    t : ℕ
    t = m.thread.id

    there : IsOnCpu v.cpu m.place
    there = on_cpu_from v.cpu m.place on

    within : Within t m s.members
    within = within_thread t s.members m made found

    placed : IsPlacedOn v t m.thread m.place
    placed = placed_on_cpu v s stands made m within there

    lock : lock_of m.place ≡ Some v.cpu
    lock = lock_on_cpu v.cpu m.place there

    among : is_among (locks_of (base worker 0 v s stands made) (Unlend t)) v.cpu ≡ true
    among =
        ap (λ (o : Option Member). is_among (option_to_list (option_and_then (λ (x : Member). lock_of x.place) o)) v.cpu) found ∙
        ap (λ (o : Option ℕ). is_among (option_to_list o) v.cpu) lock ∙ takes_itself v.cpu

    sees : Seen
    sees = seen_on v.cpu worker 0 (thread_of t s.members) s

    new : ThreadRecord
    new = after_change s.settings given m.thread

    fits : AreFit (base worker 0 v s stands made) worker 0 (base_made worker 0 v s stands made) (Unlend t) v.cpu (change_action given t (option_map standing_of (thread_of t s.members)) sees).parts
    fits =
        subst (λ (o : Option Member). AreFit (base worker 0 v s stands made) worker 0 (base_made worker 0 v s stands made) (Unlend t) v.cpu (change_action given t (option_map standing_of o) sees).parts) (sym found)
        (change_fits (base worker 0 v s stands made) worker 0 (base_made worker 0 v s stands made) (Unlend t) t given sound (λ r. refl) v.cpu m.place m.thread new sees among
        (record { member = m; found = found; place_is = refl }) lock).follows

    goes : FollowsHere v.cpu worker ⊥ ⊥ (change_action given t (option_map standing_of (thread_of t s.members)) sees).parts
    goes =
        subst (λ (o : Option Member). FollowsHere v.cpu worker ⊥ ⊥ (change_action given t (option_map standing_of o) sees).parts) (sym found)
        (change_goes v.cpu worker given t m.place m.thread new sees there)

-- a tick on the value is that on the side
pub ticked_stands : (now : ℕ) (v : CpuValue) (s : Side) → StandsFor v s → IsWellMade s.members → ActsAlike v (value_ticked now v) (ticked v.cpu now s)
ticked_stands now v s stands made = tick_acts v.cpu now v s stands made

-- so is a switch
pub switched_stands : (why : Why) (now : ℕ) (v : CpuValue) (s : Side) → StandsFor v s → IsWellMade s.members → ActsAlike v (value_switched why now v) (switched v.cpu why now s)
switched_stands why now v s stands made = switch_acts v.cpu now v s stands made why

-- and that the current thread leaves
pub left_stands : (change : RecordChange) (reply : ThreadRecord → Option ℕ → Reply) (worker now : ℕ) (v : CpuValue) (s : Side) → ((w : World) → IsSoundIn w now change) → StandsFor v s → IsWellMade s.members →
    ActsAlike v ((value_taken change now v).0, reply_left reply (value_taken change now v).1) (departed change reply v.cpu worker now s)
left_stands change reply worker now v s sound stands made = leave_acts worker now v s stands made change reply (sound (base worker now v s stands made))

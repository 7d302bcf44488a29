-- What the action of a tick, of a switch, of leaving and of a change makes of a CPU's value and of the hand is what the CPU's
-- own call makes of its value.
use Rattle.std.proofs.Common.{◌≡◌, ℕ, ◌==◌, Bool, true, false, not, slice_set, Option, Some, None, if◌then◌else◌, option_and_then, refl, sym, ◌∙◌, ap}
use Rattle.std.specs.Option.{option_map}
use Rattle.std.specs.Prelude.{nat_lt}
use Rattle.std.proofs.lemmas.List.{get_or-set_other, get_or-set_same}
use Rattle.ule_prio.specs.Preemption.{takes_over}
use Rattle.ule_prio.specs.declared.kind.Kind.{Kind}
use Rattle.ule_prio.specs.declared.kind.Kind.TheVariants.{Real, Batch, Idle}
use Rattle.ule_score.proofs.ChangeLaws.{change_number}
use Rattle.ule_score.specs.Changes.{RecordChange, after_change, changed, record_after}
use Rattle.ule_score.specs.declared.place.Place.{Place}
use Rattle.ule_score.specs.declared.place.Place.TheVariants.{Running, Queued, Asleep, Unborn, Gone, Hand}
use Rattle.ule_score.specs.declared.record.Change.{Change}
use Rattle.ule_score.specs.declared.record.ThreadRecord.{ThreadRecord}
use Rattle.ule_score.specs.declared.record.Why.{Why}
use Rattle.ule_threads.specs.declared.standing.Standing.{Standing}
use Rattle.ule_types.specs.declared.event.Reply.{Reply}
use Rattle.ule_types.specs.declared.event.Reply.TheVariants.{Changed, Nothing, Unmarked}
use Rattle.ule_model.specs.Action.{Action, answers}
use Rattle.ule_model.specs.Actions.{Seen, change_action, change_action_at, give_way_action, leave_action, note_action, requeue_action, switch_action, tick_action}
use Rattle.ule_model.specs.ActionStep.{on_queue, seen_in}
use Rattle.ule_model.specs.ActionValue.{action_on_cpu}
use Rattle.ule_model.specs.CpuChange.{value_changed, value_changed_from, value_followed, value_recorded, value_requeued}
use Rattle.ule_model.specs.CpuValue.{CpuValue, Taken, chosen_next, current_in, inserted, inserted_thread, removed_from, takes_over_in, thread_in, value_clocked, value_switched, value_switched_from, value_taken, value_taken_from, value_taken_with, value_ticked, value_ticked_with, without_current, without_marks}
use Rattle.ule_model.specs.Landing.{current_priority, marked_if}
use Rattle.ule_model.specs.LockConditions.{IsOnCpu, IsPlacedOn, queue_kind}
use Rattle.ule_model.specs.LockValue.{found_on, queue}
use Rattle.ule_model.specs.ActionStep.{Stepped, kept}
use Rattle.ule_model.specs.declared.insertion.Insertion.TheVariants.{Borrowing}
use Rattle.ule_model.specs.Switch.{is_preemption, is_unasked}
use Rattle.ule_model.specs.Tick.{is_due}

-- an event that leaves the hand
abbrev pub queue_stepped : Option ThreadRecord → CpuValue × Reply → Stepped
queue_stepped hand made = record { hand = hand; value = queue made.0; reply = made.1 }

-- the thread that left, if one did, goes to the hand, and it is answered so
abbrev pub stepped_left : (ThreadRecord → Option ℕ → Reply) → Option ThreadRecord → CpuValue × Option Taken → Stepped
stepped_left reply hand (made, None) = kept hand (queue made) Nothing
stepped_left reply hand (made, Some out) = record { hand = Some out.thread; value = queue made; reply = reply out.thread out.into }

-- ---- on a CPU

module _ (worker now : ℕ) (hand : Option ThreadRecord) (v : CpuValue) where
  -- what an action makes of the value and the hand
  abbrev acts : Action → Stepped
  acts a = on_queue (action_on_cpu now a (record { hand = hand; value = v }))

  -- what is seen where this thread is named
  abbrev seen : Option Standing → Seen
  seen named = seen_in worker now named v

  -- a tick
  pub tick_same : acts (tick_action (current_in v) (seen None)) ≡ queue_stepped hand (value_ticked now v)
  tick_same = split (current_in v)
    where
      split : (o : Option ThreadRecord) → acts (tick_action o (seen None)) ≡ queue_stepped hand (value_ticked_with o (is_due v.cpu v.line.balance) now (value_clocked v))
      split None = refl
      split (Some r) = refl

  -- where the record of the current thread has its number
  module _ (runs : v.current ≡ option_map (λ r. r.id) (current_in v)) where
    -- the value has the record of the current thread under its number
    current_record_is : (r : ThreadRecord) → current_in v ≡ Some r → thread_in v r.id ≡ Some r
    current_record_is r is = sym (ap (option_and_then (thread_in v)) (runs ∙ ap (option_map (λ (x : ThreadRecord). x.id)) is)) ∙ is

    -- a switch
    pub switch_same : (why : Why) → acts (switch_action why (seen None)) ≡ queue_stepped hand (value_switched why now v)
    switch_same why = if_asked (is_unasked why v.line.resched)
      where
        p : Bool
        p = is_preemption why v.line.slice_end

        from : (o : Option ThreadRecord) → acts (give_way_action p o (seen None)) ≡ queue_stepped hand (value_switched_from (option_map (λ r. r.id) o) p now (without_marks v))
        from None = refl
        from (Some r) = refl

        if_asked : (d : Bool) →
            acts (if d then answers Unmarked else give_way_action p (current_in v) (seen None)) ≡ queue_stepped hand (if d then (v, Unmarked) else value_switched_from v.current p now (without_marks v))
        if_asked true = refl
        if_asked false = from (current_in v) ∙ ap (λ (o : Option ℕ). queue_stepped hand (value_switched_from o p now (without_marks v))) (sym runs)

    -- the current thread leaves through a change, which its reply knows
    pub leave_same : (change : RecordChange) (reply told : ThreadRecord → Option ℕ → Reply) → ((r : ThreadRecord) (into : Option ℕ) → reply r into ≡ told (record_after v.settings now change r) into) →
        acts (leave_action change reply (current_in v) (seen None)) ≡ stepped_left told hand (value_taken change now v)
    leave_same change reply told same =
        split (current_in v) refl ∙ ap (λ (o : Option ℕ). stepped_left told hand (value_taken_from o change now v)) (sym runs)
      where
        split : (o : Option ThreadRecord) → current_in v ≡ o → acts (leave_action change reply o (seen None)) ≡ stepped_left told hand (value_taken_from (option_map (λ r. r.id) o) change now v)
        split None is = refl
        split (Some r) is =
            let next = chosen_next now (without_current r.id v) in
            ap (λ (o : Option ThreadRecord). record { hand = option_map (record_after v.settings now change) o; value = queue next.0; reply = reply r next.1 }) (current_record_is r is) ∙
            ap (λ (x : Reply). record { hand = Some (record_after v.settings now change r); value = queue next.0; reply = x }) (same r next.1) ∙
            ap (λ (o : Option ThreadRecord). stepped_left told hand (value_taken_with o change now r.id v)) (sym (current_record_is r is))

  -- a change of a thread on the CPU
  module _ (given : Change) (t : ℕ) (r : ThreadRecord) where
    abbrev new : ThreadRecord
    new = after_change v.settings given r

    -- whether the change is asked for by a worker that isn't the CPU's
    abbrev remote : Bool
    remote = not (worker == v.cpu)

    -- the value with the record of this number
    abbrev noted : ℕ → CpuValue
    noted u = record v { threads = slice_set v.threads u (Some new) }

    new_number : r.id ≡ t → t ≡ new.id
    new_number number = sym (change_number v.settings 0 (changed given) r ∙ number)

    -- a record that changes is put in its slot
    noted_is : (o : Option ThreadRecord) → o ≡ Some r → record v { threads = slice_set v.threads t (option_map (record_after v.settings now (changed given)) o) } ≡ noted t
    noted_is o is = ap (λ (x : Option ThreadRecord). record v { threads = slice_set v.threads t (option_map (record_after v.settings now (changed given)) x) }) is

    -- the thread keeps its place
    stays_same : (p : Place) → IsPlacedOn v t r p → queue_stepped hand (record v { threads = slice_set v.threads t (option_map (record_after v.settings now (changed given)) (thread_in v t)) }, Changed new.priority false false) ≡
        queue_stepped hand (value_recorded new v, Changed new.priority false false)
    stays_same p is = ap (λ (x : CpuValue). queue_stepped hand (x, Changed new.priority false false)) (noted_is (thread_in v t) is.record_is ∙ ap noted (new_number is.number))

    -- it is queued anew
    requeue_same : (c b : ℕ) (k : Kind) → IsPlacedOn v t r (Queued c k b) → acts (requeue_action (Queued c k b) given t new (seen (found_on v t))) ≡ queue_stepped hand (value_requeued remote k new (value_recorded new v))
    requeue_same c b k is =
        ap (λ (x : CpuValue). let left = removed_from k t x in finished takes (inserted_thread Borrowing t (thread_in left t) left)) (noted_is (thread_in v t) is.record_is) ∙
        ap (λ (o : Option ThreadRecord). finished takes (inserted_thread Borrowing t o (removed_from k t (noted t)))) (own_thread k ∙ get_or-set_same v.threads t (Some new) None is.small) ∙
        ap (λ (d : Bool). finished d (inserted Borrowing new.priority t (removed_from k t (noted t)))) takes_same ∙
        ap (λ (u : ℕ). queue_stepped hand (let d = takes_over_in new.priority remote (noted u) in let next = inserted Borrowing new.priority u (removed_from k u (noted u)) in (record next { line = marked_if d next.line }, Changed new.priority true d))) (new_number is.number)
      where
        takes : Bool
        takes = takes_over_in new.priority remote v

        finished : Bool → CpuValue → Stepped
        finished d next = queue_stepped hand (record next { line = marked_if d next.line }, Changed new.priority true d)

        own_thread : (k : Kind) → thread_in (removed_from k t (noted t)) t ≡ thread_in (noted t) t
        own_thread Real = refl
        own_thread Batch = refl
        own_thread Idle = refl

        other : (o : Option ℕ) → v.current ≡ o → option_and_then (thread_in v) o ≡ option_and_then (thread_in (noted t)) o
        other None runs = refl
        other (Some u) runs = sym (get_or-set_other v.threads t u (Some new) None (λ same. is.apart k refl (runs ∙ ap (λ (x : ℕ). Some x) same)))

        takes_same : takes ≡ takes_over_in new.priority remote (noted t)
        takes_same = ap (λ (o : Option ThreadRecord). takes_over new.priority (current_priority o) remote v.settings.preempt) (other v.current refl)

    -- by its place
    place_same : (p : Place) → IsPlacedOn v t r p → IsOnCpu v.cpu p →
        acts (change_action_at p given t r new (seen (found_on v t))) ≡ queue_stepped hand (value_followed (queue_kind p) (nat_lt new.priority r.priority) remote new (value_recorded new v))
    place_same (Running c) is on = stays_same (Running c) is
    place_same (Queued c k b) is on = if_better (nat_lt new.priority r.priority)
      where
        if_better : (better : Bool) → acts (if better then requeue_action (Queued c k b) given t new (seen (found_on v t)) else note_action (Queued c k b) given t new) ≡
            queue_stepped hand (value_followed (Some k) better remote new (value_recorded new v))
        if_better true = requeue_same c b k is
        if_better false = stays_same (Queued c k b) is
    place_same (Asleep channel) is on = absurd on
    place_same Unborn is on = absurd on
    place_same Gone is on = absurd on
    place_same (Hand w) is on = absurd on

    pub change_same : (p : Place) → IsPlacedOn v t r p → acts (change_action given t (found_on v t) (seen (found_on v t))) ≡ queue_stepped hand (value_changed t given remote v)
    change_same p is =
        ap (λ (o : Option Standing). acts (change_action given t o (seen (found_on v t)))) is.found ∙ place_same p is is.on ∙
        ap (λ (o : Option Kind). queue_stepped hand (value_followed o (nat_lt new.priority r.priority) remote new (value_recorded new v))) (sym is.kind) ∙
        ap (λ (o : Option ThreadRecord). queue_stepped hand (value_changed_from o t given remote v)) (sym is.record_is)

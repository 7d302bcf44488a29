-- A refusal leaves the scheduler as it was.
use Rattle.std.proofs.Common.{◌≡◌, ℕ, Bool, true, false, if◌then◌else◌, List, [], slice_get, slice_set, Option, Some, None, option_and_then, refl, sym, ◌∙◌, ap}
use Rattle.std.specs.Prelude.{nat_lt}
use Rattle.std.specs.Option.{option_map}
use Rattle.std.proofs.lemmas.Bool.{true≢false}
use Rattle.std.proofs.lemmas.List.{set-get_or}
use Rattle.std.proofs.lemmas.Option.{get_or_from_slice_get}
use Rattle.ule_score.specs.Changes.{after_change}
use Rattle.ule_score.specs.declared.place.Place.{Place}
use Rattle.ule_score.specs.declared.place.Place.TheVariants.{Running, Queued, Asleep, Unborn, Gone, Hand}
use Rattle.ule_score.specs.declared.record.Change.{Change}
use Rattle.ule_score.specs.declared.record.Change.TheVariants as change
use Rattle.ule_score.specs.declared.record.Settings.{Settings}
use Rattle.ule_score.specs.declared.record.ThreadRecord.{ThreadRecord}
use Rattle.ule_score.specs.declared.record.Why.{Why}
use Rattle.ule_threads.specs.declared.standing.Standing.{Standing}
use Rattle.ule_types.specs.declared.event.Event.{Event}
use Rattle.ule_types.specs.declared.event.Event.TheVariants.{Tick, Switch, Drop, Bed, Wake, Look, Land, Move, Lend, Unlend, Renice, Hatch, Fork, Return, Exit, Bury, Inherit}
use Rattle.ule_types.specs.declared.event.Reply.{Reply}
use Rattle.ule_types.specs.declared.event.Reply.TheVariants.{Bedded, Hatched, Returned, Buried, Unmarked}
use Rattle.ule_model.specs.Action.{Action, PairAction, Part, answers}
use Rattle.ule_model.specs.Actions.{Seen, action_of, change_action, change_action_at, drop_action, exit_action, fork_action, give_way_action, given_action, go_action, is_refused, land_action, note_action, pair_action_of, refused_action, requeue_action, tick_action, unborn_action, unborn_answer, wake_action, wake_action_at}
use Rattle.ule_model.specs.ActionStep.{PairStepped, Stepped, named_held, seen_in, seen_off}
use Rattle.ule_model.specs.ActionValue.{parts_in_slots, parts_on_cpu}
use Rattle.ule_model.specs.CpuValue.{CpuValue}
use Rattle.ule_model.specs.Events.{Locking, chain, handling, limbo, locking, place_of, queue, queues}
use Rattle.ule_model.specs.LockValue.{LockValue}
use Rattle.ule_model.specs.LockValue as value
use Rattle.ule_model.specs.Step.{lock_step, pair_step}
use Rattle.ule_model.specs.Switch.{is_preemption, is_unasked}
use Rattle.ule_model.specs.WorldValue.{WorldValue, held_by, lock_for, put_back, put_back_pair, value_pair_step, value_step, value_step_at, value_step_with}
use Rattle.ule_seq.specs.Promises.{is_refusal}

-- ---- a refusal comes of an action without parts

-- an action of an event that is refused has no parts
abbrev Refuses : Event → Option ℕ → Action → Type 0
Refuses e into a = is_refusal e (a.reply into) ≡ true → a.parts ≡ []

module _ (e : Event) (into : Option ℕ) (at : Seen) where
  tick_refuses : (o : Option ThreadRecord) → Refuses e into (tick_action o at)
  tick_refuses None is = absurd (true≢false (sym is))
  tick_refuses (Some r) is = absurd (true≢false (sym is))

  drop_refuses : (o : Option ThreadRecord) → Refuses e into (drop_action (record at { current = o }))
  drop_refuses None is = refl
  drop_refuses (Some r) is = absurd (true≢false (sym is))

  exit_refuses : (o : Option ThreadRecord) → Refuses e into (exit_action (record at { current = o }))
  exit_refuses None is = refl
  exit_refuses (Some r) is = absurd (true≢false (sym is))

  go_refuses : (t : ℕ) (to : Place) (reply : Reply) → is_refusal e reply ≡ false → (o : Option Standing) → Refuses e into (go_action t to reply o)
  go_refuses t to reply goes None is = refl
  go_refuses t to reply goes (Some s) is = absurd (true≢false (sym is ∙ goes))

  wake_refuses : (t : ℕ) (r : ThreadRecord) (p : Place) → Refuses e into (wake_action_at p t r at)
  wake_refuses t r (Asleep channel) is = absurd (true≢false (sym is))
  wake_refuses t r (Running c) is = refl
  wake_refuses t r (Queued c k b) is = refl
  wake_refuses t r Unborn is = refl
  wake_refuses t r Gone is = refl
  wake_refuses t r (Hand w) is = refl

  woken_refuses : (t : ℕ) (o : Option Standing) → Refuses e into (wake_action t o at)
  woken_refuses t None is = refl
  woken_refuses t (Some s) is = wake_refuses t s.thread s.place is

  land_refuses : (t : ℕ) (o : Option Standing) → Refuses e into (land_action t o at)
  land_refuses t None is = refl
  land_refuses t (Some s) is = absurd (true≢false (sym is))

  fork_refuses : (t : ℕ) (o : Option ThreadRecord) (child : Option Standing) → Refuses e into (fork_action t o child at)
  fork_refuses t None child is = refl
  fork_refuses t (Some r) None is = refl
  fork_refuses t (Some r) (Some child) is = absurd (true≢false (sym is))

  unborn_refuses : (given : Change) (t : ℕ) (new : ThreadRecord) (o : Option Reply) → Refuses e into (unborn_action o given t new)
  unborn_refuses given t new None is = absurd (true≢false (sym is))
  unborn_refuses given t new (Some refusal) is = refl

  queued_refuses : (p : Place) (given : Change) (t : ℕ) (new : ThreadRecord) (better : Bool) →
      Refuses e into (if better then requeue_action p given t new at else note_action p given t new)
  queued_refuses p given t new true is = absurd (true≢false (sym is))
  queued_refuses p given t new false is = absurd (true≢false (sym is))

  change_refuses : (given : Change) (t : ℕ) (r new : ThreadRecord) (p : Place) → Refuses e into (change_action_at p given t r new at)
  change_refuses given t r new (Running c) is = absurd (true≢false (sym is))
  change_refuses given t r new (Queued c k b) is = queued_refuses (Queued c k b) given t new (nat_lt new.priority r.priority) is
  change_refuses given t r new (Asleep channel) is = absurd (true≢false (sym is))
  change_refuses given t r new Unborn is = unborn_refuses given t new (unborn_answer given) is
  change_refuses given t r new Gone is = refl
  change_refuses given t r new (Hand w) is = refl

  changed_refuses : (given : Change) (t : ℕ) (o : Option Standing) → Refuses e into (change_action given t o at)
  changed_refuses given t None is = refl
  changed_refuses given t (Some s) is = change_refuses given t s.thread (after_change at.settings given s.thread) s.place is

-- a switch that isn't unasked is none
module _ (c : ℕ) (why : Why) (at : Seen) where
  given_way : (p : Bool) (o : Option ThreadRecord) (into : Option ℕ) → Refuses (Switch c why) into (give_way_action p o at)
  given_way p None None is = absurd (true≢false (sym is))
  given_way p None (Some u) is = absurd (true≢false (sym is))
  given_way p (Some r) into is = absurd (true≢false (sym is))

  switch_refuses : (into : Option ℕ) (d : Bool) → Refuses (Switch c why) into (if d then answers Unmarked else give_way_action (is_preemption why at.line.slice_end) at.current at)
  switch_refuses into true is = refl
  switch_refuses into false is = given_way (is_preemption why at.line.slice_end) at.current into is

-- each event
refuses : (e : Event) (at : Seen) (into : Option ℕ) → Refuses e into (action_of e at)
refuses (Tick c) at into is = tick_refuses (Tick c) into at at.current is
refuses (Switch c why) at into is = switch_refuses c why at into (is_unasked why at.line.resched) is
refuses (Drop c channel) at into is = drop_refuses (Drop c channel) into at at.current is
refuses (Bed t channel) at into is = go_refuses (Bed t channel) into at t (Asleep channel) Bedded refl at.named is
refuses (Wake t) at into is = woken_refuses (Wake t) into at t at.named is
refuses (Look c) at into is = refl
refuses (Land t c) at into is = land_refuses (Land t c) into at t at.named is
refuses (Move a b why) at into is = refl
refuses (Lend t p) at into is = changed_refuses (Lend t p) into at (change.Lend p) t at.named is
refuses (Unlend t) at into is = changed_refuses (Unlend t) into at change.Unlend t at.named is
refuses (Renice t n) at into is = changed_refuses (Renice t n) into at (change.Renice n) t at.named is
refuses (Hatch t) at into is = go_refuses (Hatch t) into at t (Hand at.worker) Hatched refl at.named is
refuses (Fork c t) at into is = fork_refuses (Fork c t) into at t at.current at.named is
refuses (Return t) at into is = go_refuses (Return t) into at t Unborn Returned refl at.named is
refuses (Exit c) at into is = exit_refuses (Exit c) into at at.current is
refuses (Bury t) at into is = go_refuses (Bury t) into at t Gone Buried refl at.named is
refuses (Inherit t run) at into is = changed_refuses (Inherit t run) into at (change.Inherit run) t at.named is

-- an action under two locks has none under either
abbrev BothRefuse : Event → PairAction → Type 0
BothRefuse e a = is_refusal e a.reply ≡ true → (a.from ≡ []) × (a.to ≡ [])

moved_refuses : (e : Event) (from to : Seen) (o : Option Standing) → BothRefuse e (given_action o from to)
moved_refuses e from to None is = (refl, refl)
moved_refuses e from to (Some s) is = absurd (true≢false (sym is))

move_refuses : (e : Event) (from to : Seen) (d : Bool) → BothRefuse e (if d then refused_action from to else given_action from.given from to)
move_refuses e from to true is = (refl, refl)
move_refuses e from to false is = moved_refuses e from to from.given is

both_refuse : (e : Event) (from to : Seen) → BothRefuse e (pair_action_of e from to)
both_refuse (Move a b why) from to is = move_refuses (Move a b why) from to (is_refused why from to) is
both_refuse (Tick c) from to is = (refl, refl)
both_refuse (Switch c why) from to is = (refl, refl)
both_refuse (Drop c channel) from to is = (refl, refl)
both_refuse (Bed t channel) from to is = (refl, refl)
both_refuse (Wake t) from to is = (refl, refl)
both_refuse (Look c) from to is = (refl, refl)
both_refuse (Land t c) from to is = (refl, refl)
both_refuse (Lend t p) from to is = (refl, refl)
both_refuse (Unlend t) from to is = (refl, refl)
both_refuse (Renice t n) from to is = (refl, refl)
both_refuse (Hatch t) from to is = (refl, refl)
both_refuse (Fork c t) from to is = (refl, refl)
both_refuse (Return t) from to is = (refl, refl)
both_refuse (Exit c) from to is = (refl, refl)
both_refuse (Bury t) from to is = (refl, refl)
both_refuse (Inherit t run) from to is = (refl, refl)

-- ---- the values under the locks

-- the hand and the value are as they were
record IsAsItWas (hand : Option ThreadRecord) (g : LockValue) (made : Stepped) : Type 0 where
  hand_is : made.hand ≡ hand
  value_is : made.value ≡ g

module _ (settings : Settings) (worker : ℕ) (e : Event) (now : ℕ) (hand : Option ThreadRecord) where
  lock_refused : (g : LockValue) → is_refusal e (lock_step settings worker e now hand g).reply ≡ true → IsAsItWas hand g (lock_step settings worker e now hand g)
  lock_refused (value.queue v) is =
      let at = seen_in worker now (named_held (locking e) (handling e) worker (value.queue v) hand) v in
      let none = refuses e at (parts_on_cpu now (action_of e at).parts (record { hand = hand; value = v }, None)).1 is in record {
        hand_is = ap (λ (ps : List Part). (parts_on_cpu now ps (record { hand = hand; value = v }, None)).0.hand) none;
        value_is = ap (λ (ps : List Part). value.queue (parts_on_cpu now ps (record { hand = hand; value = v }, None)).0.value) none;
      }
  lock_refused (value.chain v) is =
      let none = refuses e (seen_off worker now settings (named_held (locking e) (handling e) worker (value.chain v) hand)) None is in record {
        hand_is = ap (λ (ps : List Part). (parts_in_slots settings now ps (record { hand = hand; slots = v.slots })).hand) none;
        value_is = ap (λ (ps : List Part). value.chain (record v { slots = (parts_in_slots settings now ps (record { hand = hand; slots = v.slots })).slots })) none;
      }
  lock_refused (value.limbo v) is =
      let none = refuses e (seen_off worker now settings (named_held (locking e) (handling e) worker (value.limbo v) hand)) None is in record {
        hand_is = ap (λ (ps : List Part). (parts_in_slots settings now ps (record { hand = hand; slots = v.slots })).hand) none;
        value_is = ap (λ (ps : List Part). value.limbo (record v { slots = (parts_in_slots settings now ps (record { hand = hand; slots = v.slots })).slots })) none;
      }
  lock_refused value.nothing is = record { hand_is = refl; value_is = refl }

-- the hand and both values are as they were
record AreAsTheyWere (hand : Option ThreadRecord) (g h : LockValue) (made : PairStepped) : Type 0 where
  hand_is : made.hand ≡ hand
  from_is : made.from ≡ g
  to_is : made.to ≡ h

module _ (worker : ℕ) (e : Event) (now : ℕ) (hand : Option ThreadRecord) where
  -- what parts under one lock and under the other come to
  abbrev pair_of : CpuValue → CpuValue → Reply → List Part → List Part → PairStepped
  pair_of v u reply from to =
      let first = (parts_on_cpu now from (record { hand = hand; value = v }, None)).0 in
      let second = (parts_on_cpu now to (record { hand = first.hand; value = u }, None)).0 in
      record { hand = second.hand; from = value.queue first.value; to = value.queue second.value; reply = reply }

  pair_refused : (g h : LockValue) → is_refusal e (pair_step worker e now hand g h).reply ≡ true → AreAsTheyWere hand g h (pair_step worker e now hand g h)
  pair_refused (value.queue v) (value.queue u) is =
      let a = pair_action_of e (seen_in worker now None v) (seen_in worker now None u) in
      let none = both_refuse e (seen_in worker now None v) (seen_in worker now None u) is in
      let same = ap (λ (ps : List Part). pair_of v u a.reply ps a.to) none.0 ∙ ap (λ (ps : List Part). pair_of v u a.reply [] ps) none.1 in record {
        hand_is = ap (λ (s : PairStepped). s.hand) same;
        from_is = ap (λ (s : PairStepped). s.from) same;
        to_is = ap (λ (s : PairStepped). s.to) same;
      }
  pair_refused (value.queue v) (value.chain u) is = record { hand_is = refl; from_is = refl; to_is = refl }
  pair_refused (value.queue v) (value.limbo u) is = record { hand_is = refl; from_is = refl; to_is = refl }
  pair_refused (value.queue v) value.nothing is = record { hand_is = refl; from_is = refl; to_is = refl }
  pair_refused (value.chain v) h is = record { hand_is = refl; from_is = refl; to_is = refl }
  pair_refused (value.limbo v) h is = record { hand_is = refl; from_is = refl; to_is = refl }
  pair_refused value.nothing h is = record { hand_is = refl; from_is = refl; to_is = refl }

-- ---- the scheduler

-- a value that is written where it stands leaves the list
same_written : (xs : List LockValue) (i : ℕ) (x : LockValue) → slice_get xs i ≡ Some x → slice_set xs i x ≡ xs
same_written xs i x found = ap (λ (y : LockValue). slice_set xs i y) (sym (get_or_from_slice_get xs i x x found)) ∙ set-get_or xs i x

module _ (v : WorldValue) (worker : ℕ) (e : Event) (now : ℕ) where
  -- the scheduler with these values, and this in the worker's hand
  abbrev with_both : List LockValue → Option ThreadRecord → WorldValue
  with_both values hand = record v { values = values; hands = slice_set v.hands worker hand }

  same_hand : with_both v.values (held_by v worker) ≡ v
  same_hand = ap (λ (hands : List (Option ThreadRecord)). record v { hands = hands }) (set-get_or v.hands worker None)

  one_refused : (o : Option ℕ) → is_refusal e (value_step_at o worker e now v).1 ≡ true → (value_step_at o worker e now v).0 ≡ v
  one_refused None is = refl
  one_refused (Some l) is = found (slice_get v.values l) refl is
    where
      found : (o : Option LockValue) → slice_get v.values l ≡ o →
          is_refusal e (put_back l worker (option_map (lock_step v.settings worker e now (held_by v worker)) o) v).1 ≡ true →
          (put_back l worker (option_map (lock_step v.settings worker e now (held_by v worker)) o) v).0 ≡ v
      found None at is = refl
      found (Some g) at is =
          let same = lock_refused v.settings worker e now (held_by v worker) g is in
          let made = lock_step v.settings worker e now (held_by v worker) g in
          ap (λ (x : LockValue). with_both (slice_set v.values l x) made.hand) same.value_is ∙
          ap (λ (o : Option ThreadRecord). with_both (slice_set v.values l g) o) same.hand_is ∙
          ap (λ (values : List LockValue). with_both values (held_by v worker)) (same_written v.values l g at) ∙ same_hand

  two_refused : (a b : ℕ) → is_refusal e (value_pair_step a b worker e now v).1 ≡ true → (value_pair_step a b worker e now v).0 ≡ v
  two_refused a b is = found (slice_get v.values a) (slice_get v.values b) refl refl is
    where
      found : (o p : Option LockValue) → slice_get v.values a ≡ o → slice_get v.values b ≡ p →
          is_refusal e (put_back_pair a b worker (option_and_then (λ from. option_map (pair_step worker e now (held_by v worker) from) p) o) v).1 ≡ true →
          (put_back_pair a b worker (option_and_then (λ from. option_map (pair_step worker e now (held_by v worker) from) p) o) v).0 ≡ v
      found None p at_a at_b is = refl
      found (Some g) None at_a at_b is = refl
      found (Some g) (Some h) at_a at_b is =
          let same = pair_refused worker e now (held_by v worker) g h is in
          let made = pair_step worker e now (held_by v worker) g h in
          ap (λ (x : LockValue). with_both (slice_set (slice_set v.values a x) b made.to) made.hand) same.from_is ∙
          ap (λ (x : LockValue). with_both (slice_set (slice_set v.values a g) b x) made.hand) same.to_is ∙
          ap (λ (o : Option ThreadRecord). with_both (slice_set (slice_set v.values a g) b h) o) same.hand_is ∙
          ap (λ (values : List LockValue). with_both (slice_set values b h) (held_by v worker)) (same_written v.values a g at_a) ∙
          ap (λ (values : List LockValue). with_both values (held_by v worker)) (same_written v.values b h at_b) ∙ same_hand

  by_locking : (k : Locking) → is_refusal e (value_step_with k worker e now v).1 ≡ true → (value_step_with k worker e now v).0 ≡ v
  by_locking (queues a b) is = two_refused a b is
  by_locking (queue c) is = one_refused (lock_for v.values (queue c)) is
  by_locking (chain channel) is = one_refused (lock_for v.values (chain channel)) is
  by_locking limbo is = one_refused (lock_for v.values limbo) is
  by_locking (place_of t) is = one_refused (lock_for v.values (place_of t)) is

-- a refusal leaves the scheduler as it was
pub refusal_leaves : (v new : WorldValue) (worker : ℕ) (e : Event) (now : ℕ) (reply : Reply) → new ≡ (value_step v worker e now).0 → reply ≡ (value_step v worker e now).1 →
    is_refusal e reply ≡ true → new ≡ v
refusal_leaves v new worker e now reply new_is reply_is is = new_is ∙ by_locking v worker e now (locking e) (sym (ap (is_refusal e) reply_is) ∙ is)

-- The step of an event that a worker can perform keeps a world in the ranges of a trace, and its entry fits one.
use Rattle.std.proofs.Common.{◌≡◌, ℕ, ◌<◌, ◌&&◌, ◌==◌, not, Bool, true, List, [], ◌∷◌, length, Option, Some, None, IsSome, refl, sym, ◌∙◌, ap, subst, arith}
use Rattle.std.specs.Prelude.{IsTrue, nat_lt, slice_index_or}
use Rattle.std.specs.List.{AllByRecursion}
use Rattle.std.specs.Option.{option_map}
use Rattle.std.proofs.lemmas.Bool.{and_parts, cond_both, false≢true, ltb-true}
use Rattle.std.proofs.lemmas.Option.{same_Some}
use Rattle.ule_score.specs.Changes.{RecordChange, after_change, changed, ran, sleeps}
use Rattle.ule_score.specs.declared.place.Place.{Place}
use Rattle.ule_score.specs.declared.place.Place.TheVariants.{Running, Queued, Asleep, Unborn, Gone, Hand}
use Rattle.ule_score.specs.declared.record.Change.{Change}
use Rattle.ule_score.specs.declared.record.Change.TheVariants as change
use Rattle.ule_score.specs.declared.record.ThreadRecord.{ThreadRecord}
use Rattle.ule_score.specs.declared.record.Why.{Why}
use Rattle.ule_threads.specs.declared.standing.Standing.{Standing}
use Rattle.ule_types.specs.Commands.{is_among}
use Rattle.ule_types.specs.Needs.{locking, names_cpus, queues}
use Rattle.ule_types.specs.declared.event.Event.{Event}
use Rattle.ule_types.specs.declared.event.Event.TheVariants.{Tick, Switch, Drop, Bed, Wake, Look, Land, Move, Lend, Unlend, Renice, Hatch, Fork, Return, Exit, Bury, Inherit}
use Rattle.ule_types.specs.declared.event.Reply.{Reply}
use Rattle.ule_types.specs.declared.event.Reply.TheVariants.{Bedded, Buried, Dropped, Exited, Hatched, Returned, Unmarked}
use Rattle.ule_types.specs.declared.setup.Setup.{Setup}
use Rattle.ule_model.specs.Action.{Action, answers, move, parts_done}
use Rattle.ule_model.specs.Actions.{Seen, action_of, change_action, change_action_at, fork_action, give_way_action, go_action, land_action, leave_action, note_action, pair_action_of, requeue_action, switch_action, tick_action, unborn_action, unborn_answer, wake_action, wake_action_at}
use Rattle.ule_model.specs.ActionStep.{seen_under}
use Rattle.ule_model.specs.Conditions.{HasSoundNumbers, IsPossible}
use Rattle.ule_model.specs.Events.{holder_of, lock_of_thread, locks_of}
use Rattle.ule_model.specs.Places.{lock_of}
use Rattle.ule_model.specs.Step.{step, step_under_locks}
use Rattle.ule_model.specs.Switch.{is_preemption, is_unasked}
use Rattle.ule_model.specs.World.{Member, World, fresh_line, side_of, standing_of, thread_of, with_side}
use Rattle.ule_members.proofs.ActionFits.{only_lock, sought_under}
use Rattle.ule_members.proofs.Given.{move_sees}
use Rattle.ule_members.proofs.Membership.{all_has, has_thread_of}
use Rattle.ule_members.proofs.PairDone.{IsMove, move_where}
use Rattle.ule_members.proofs.Reach.{held_found, unborn_found}
use Rattle.ule_members.proofs.Steps.{first_among, step_by_locks, stepped_under_two}
use Rattle.ule_parts.specs.Scheduler.{IsWorldOf}
use Rattle.ule_trace.specs.Ranges.{EventFits, ReplyFits}
use Rattle.ule_ranges.proofs.Channels.{NamesChannel}
use Rattle.ule_ranges.proofs.SideRanges.{IsPartInRange, LendsInRange, IsPlaceInRange, IsThreadInRange, parts_ranges}
use Rattle.ule_ranges.proofs.WorldRanges.{IsWorldInRange, each_record, fresh_fits, line_fits, put_back_ranges, side_ranges}
use Rattle.ule_ranges.proofs.ReplyRanges.{event_replies, move_ranges}

module _ (s : Setup) (w : World) (is : IsWorldOf s w) (ranges : IsWorldInRange w) (worker now : ℕ) (low : worker < 16) where
  -- ---- what an event brings to a side

  -- that the parts of an action bring what is in range to lock l
  abbrev BringsInRange : ℕ → Action → Type 0
  BringsInRange l a = AllByRecursion (IsPartInRange l) a.parts

  -- the number of a CPU that an event names is small
  cpu_small : (c : ℕ) → IsTrue (nat_lt c (length w.lines)) → c < 16
  cpu_small c names = omega (arith, ltb-true c (length w.lines) names, ranges.cpus)

  -- so is the lock that it takes
  lock_small : (c l : ℕ) → IsTrue (nat_lt c (length w.lines)) → is_among (c ∷ []) l ≡ true → l < 16
  lock_small c l names among = subst (λ (x : ℕ). x < 16) (only_lock c l among) (cpu_small c names)

  tick_brings : (l : ℕ) (o : Option ThreadRecord) (at : Seen) → BringsInRange l (tick_action o at)
  tick_brings l None at = (tt, tt)
  tick_brings l (Some r) at = (tt, (tt, (tt, tt)))

  give_way_brings : (l : ℕ) (preempted : Bool) (o : Option ThreadRecord) (at : Seen) → l < 16 → BringsInRange l (give_way_action preempted o at)
  give_way_brings l preempted None at small = (tt, (small, tt))
  give_way_brings l preempted (Some r) at small = (tt, (tt, (tt, (small, (small, tt)))))

  switch_brings : (l : ℕ) (why : Why) (at : Seen) → l < 16 → BringsInRange l (switch_action why at)
  switch_brings l why at small =
      cond_both (is_unasked why at.line.resched) (answers Unmarked) (give_way_action (is_preemption why at.line.slice_end) at.current at) (BringsInRange l) (λ unasked. tt)
      (λ asked. give_way_brings l (is_preemption why at.line.slice_end) at.current at small)

  leave_brings : (l : ℕ) (change : RecordChange) (reply : ThreadRecord → Option ℕ → Reply) (o : Option ThreadRecord) (at : Seen) → LendsInRange change → l < 16 → at.worker < 16 →
      BringsInRange l (leave_action change reply o at)
  leave_brings l change reply None at lends small hand = tt
  leave_brings l change reply (Some r) at lends small hand = (hand, (lends, (tt, (tt, (small, tt)))))

  go_brings : (l t : ℕ) (to : Place) (r : Reply) (o : Option Standing) → IsPartInRange l (move t to to) → BringsInRange l (go_action t to r o)
  go_brings l t to r None goes = tt
  go_brings l t to r (Some x) goes = (goes, tt)

  wake_brings : (l t : ℕ) (r : ThreadRecord) (place : Place) (at : Seen) → at.worker < 16 → BringsInRange l (wake_action_at place t r at)
  wake_brings l t r (Asleep channel) at hand = (hand, (tt, tt))
  wake_brings l t r (Running c) at hand = tt
  wake_brings l t r (Queued c k b) at hand = tt
  wake_brings l t r Unborn at hand = tt
  wake_brings l t r Gone at hand = tt
  wake_brings l t r (Hand h) at hand = tt

  woken_brings : (l t : ℕ) (o : Option Standing) (at : Seen) → at.worker < 16 → BringsInRange l (wake_action t o at)
  woken_brings l t None at hand = tt
  woken_brings l t (Some x) at hand = wake_brings l t x.thread x.place at hand

  land_brings : (l t : ℕ) (o : Option Standing) (at : Seen) → l < 16 → BringsInRange l (land_action t o at)
  land_brings l t None at small = tt
  land_brings l t (Some x) at small = (tt, (small, (tt, tt)))

  fork_brings : (l t : ℕ) (o : Option ThreadRecord) (child : Option Standing) (at : Seen) → BringsInRange l (fork_action t o child at)
  fork_brings l t None child at = tt
  fork_brings l t (Some r) None at = tt
  fork_brings l t (Some r) (Some x) at = (tt, (tt, tt))

  unborn_brings : (l : ℕ) (answer : Option Reply) (given : Change) (t : ℕ) (new : ThreadRecord) → LendsInRange (changed given) → BringsInRange l (unborn_action answer given t new)
  unborn_brings l None given t new lends = (lends, tt)
  unborn_brings l (Some refusal) given t new lends = tt

  changed_brings : (l : ℕ) (place : Place) (given : Change) (t : ℕ) (r new : ThreadRecord) (at : Seen) → LendsInRange (changed given) → IsPlaceInRange place → lock_of place ≡ Some l →
      BringsInRange l (change_action_at place given t r new at)
  changed_brings l (Running c) given t r new at lends small under = (lends, tt)
  changed_brings l (Queued c k b) given t r new at lends small under =
      cond_both (nat_lt new.priority r.priority) (requeue_action (Queued c k b) given t new at) (note_action (Queued c k b) given t new) (BringsInRange l)
      (λ better. (lends, (subst (λ (x : ℕ). x < 16) (same_Some c l under) small, (tt, tt)))) (λ other. (lends, tt))
  changed_brings l (Asleep channel) given t r new at lends small under = (lends, tt)
  changed_brings l Unborn given t r new at lends small under = unborn_brings l (unborn_answer given) given t new lends
  changed_brings l Gone given t r new at lends small under = tt
  changed_brings l (Hand h) given t r new at lends small under = tt

  change_brings : (l : ℕ) (given : Change) (t : ℕ) (at : Seen) → LendsInRange (changed given) → is_among (lock_of_thread w.members t) l ≡ true →
      BringsInRange l (change_action given t (option_map standing_of (thread_of t w.members)) at)
  change_brings l given t at lends among =
      let z = sought_under w t l among in
      subst (λ (o : Option Member). BringsInRange l (change_action given t (option_map standing_of o) at)) (sym z.found)
      (changed_brings l z.member.place given t z.member.thread (after_change at.settings given z.member.thread) at lends
      (all_has IsThreadInRange z.member w.members ranges.members (has_thread_of t z.member w.members z.found).0).place z.under)

  -- each event that names CPUs that are there, and a channel in range
  event_brings : (e : Event) → HasSoundNumbers e → NamesChannel e → IsTrue (names_cpus (length w.lines) e) → (l : ℕ) → is_among (locks_of w e) l ≡ true →
      BringsInRange l (action_of e (seen_under w worker now e l))
  event_brings (Tick c) sound channel cpus l among = tick_brings l (seen_under w worker now (Tick c) l).current (seen_under w worker now (Tick c) l)
  event_brings (Switch c why) sound channel cpus l among = switch_brings l why (seen_under w worker now (Switch c why) l) (lock_small c l cpus among)
  event_brings (Drop c ch) sound channel cpus l among =
      leave_brings l sleeps (λ r into. Dropped r.id into) (seen_under w worker now (Drop c ch) l).current (seen_under w worker now (Drop c ch) l) tt (lock_small c l cpus among) low
  event_brings (Bed t ch) sound channel cpus l among = go_brings l t (Asleep ch) Bedded (seen_under w worker now (Bed t ch) l).named channel
  event_brings (Wake t) sound channel cpus l among = woken_brings l t (seen_under w worker now (Wake t) l).named (seen_under w worker now (Wake t) l) low
  event_brings (Look c) sound channel cpus l among = tt
  event_brings (Land t c) sound channel cpus l among = land_brings l t (seen_under w worker now (Land t c) l).named (seen_under w worker now (Land t c) l) (lock_small c l cpus among)
  event_brings (Move a b why) sound channel cpus l among = tt
  event_brings (Lend t p) sound channel cpus l among = change_brings l (change.Lend p) t (seen_under w worker now (Lend t p) l) sound among
  event_brings (Unlend t) sound channel cpus l among = change_brings l change.Unlend t (seen_under w worker now (Unlend t) l) tt among
  event_brings (Renice t n) sound channel cpus l among = change_brings l (change.Renice n) t (seen_under w worker now (Renice t n) l) tt among
  event_brings (Hatch t) sound channel cpus l among = go_brings l t (Hand worker) Hatched (seen_under w worker now (Hatch t) l).named low
  event_brings (Fork c t) sound channel cpus l among = fork_brings l t (seen_under w worker now (Fork c t) l).current (seen_under w worker now (Fork c t) l).named (seen_under w worker now (Fork c t) l)
  event_brings (Return t) sound channel cpus l among = go_brings l t Unborn Returned (seen_under w worker now (Return t) l).named tt
  event_brings (Exit c) sound channel cpus l among =
      leave_brings l ran (λ r into. Exited r.id into r.parent r.hist.run) (seen_under w worker now (Exit c) l).current (seen_under w worker now (Exit c) l) tt (lock_small c l cpus among) low
  event_brings (Bury t) sound channel cpus l among = go_brings l t Gone Buried (seen_under w worker now (Bury t) l).named tt
  event_brings (Inherit t run) sound channel cpus l among = change_brings l (change.Inherit run) t (seen_under w worker now (Inherit t run) l) tt among

  -- ---- the step

  -- a world in range, and a reply that fits
  pub record IsStepInRange (done : World × Reply) : Type 0 where
    pub world : IsWorldInRange done.0
    pub reply : ReplyFits done.1

  pub step_ranges : (e : Event) → IsPossible w worker e now → NamesChannel e → IsStepInRange (step w worker e now)
  step_ranges e possible channel = step_by_locks IsStepInRange w worker e now (one (locks_of w e) refl) two
    where
      one : (ls : List ℕ) → locks_of w e ≡ ls → IsStepInRange (step_under_locks ls w worker e now)
      one [] none = record { world = ranges; reply = event_replies s w is ranges worker now e 0 fresh_line possible.numbers fresh_fits None tt }
      one (l ∷ ls) locks =
          let among = ap (λ (xs : List ℕ). is_among xs l) locks ∙ first_among l ls in
          let ps = (action_of e (seen_under w worker now e l)).parts in
          let done = parts_done l now ps (side_of l w, None) in
          let kept = parts_ranges l now ps (side_of l w) None (event_brings e possible.numbers channel possible.cpus l among) (side_ranges w l ranges) tt in record {
            world = put_back_ranges w l done.0 ranges kept.0;
            reply = event_replies s w is ranges worker now e l (slice_index_or w.lines l fresh_line) possible.numbers (line_fits w l ranges) done.1 kept.1;
          }

      under_two : (a b : ℕ) (m : IsMove e a b) → IsTrue (names_cpus (length w.lines) (Move a b m.why)) → IsStepInRange (stepped_under_two a b w worker (Move a b m.why) now)
      under_two a b m cpus =
          let there = cpu_small b (and_parts (nat_lt b (length w.lines)) (not (a == b)) (and_parts (nat_lt a (length w.lines)) (nat_lt b (length w.lines) && not (a == b)) cpus).1).0 in
          let action = pair_action_of (Move a b m.why) (move_sees w worker now a) (move_sees w worker now b) in
          let p = move_ranges s w is ranges worker now m.why a b there low in
          let first = parts_done a now action.from (side_of a w, None) in
          let made = parts_ranges a now action.from (side_of a w) None p.from (side_ranges w a ranges) tt in
          let between : World = with_side a first.0 w in
          let held : IsWorldInRange between = put_back_ranges w a first.0 ranges made.0 in
          let second = parts_done b now action.to (side_of b between, None) in
          let done = parts_ranges b now action.to (side_of b between) None p.to (side_ranges between b held) tt in
          record { world = put_back_ranges between b second.0 held done.0; reply = p.reply }

      two : (a b : ℕ) → locking e ≡ queues a b → IsStepInRange (stepped_under_two a b w worker e now)
      two a b is_pair =
          let m : IsMove e a b = move_where e a b is_pair in
          subst (λ (x : Event). IsStepInRange (stepped_under_two a b w worker x now)) (sym m.event_is)
          (under_two a b m (subst (λ (x : Event). IsTrue (names_cpus (length w.lines) x)) m.event_is possible.cpus))

  -- ---- the event

  -- a thread that is found has a number in range
  found_small : (t : ℕ) (m : Member) → thread_of t w.members ≡ Some m → t < 256
  found_small t m found = let z = has_thread_of t m w.members found in subst (λ (x : ℕ). x < 256) z.1 (each_record s w is m z.0).numbers.id

  there_small : (t : ℕ) → IsSome (thread_of t w.members) → t < 256
  there_small t there = split (thread_of t w.members) refl there
    where
      split : (o : Option Member) → thread_of t w.members ≡ o → IsSome o → t < 256
      split None found none = absurd (false≢true none)
      split (Some m) found some = found_small t m found

  held_small : (t : ℕ) → holder_of w.members t ≡ Some worker → t < 256
  held_small t held = let z = held_found w.members t worker held in found_small t z.member z.found

  -- an event that a worker can perform, with a channel in range, fits
  pub event_in_range : (e : Event) → IsPossible w worker e now → NamesChannel e → EventFits e
  event_in_range (Tick c) possible channel = cpu_small c possible.cpus
  event_in_range (Switch c why) possible channel = cpu_small c possible.cpus
  event_in_range (Drop c ch) possible channel = (cpu_small c possible.cpus, channel)
  event_in_range (Bed t ch) possible channel = (held_small t possible.hand, channel)
  event_in_range (Wake t) possible channel = there_small t possible.declared
  event_in_range (Look c) possible channel = cpu_small c possible.cpus
  event_in_range (Land t c) possible channel = (held_small t possible.hand, cpu_small c possible.cpus)
  event_in_range (Move a b why) possible channel =
      let z = and_parts (nat_lt a (length w.lines)) (nat_lt b (length w.lines) && not (a == b)) possible.cpus in
      (cpu_small a z.0, cpu_small b (and_parts (nat_lt b (length w.lines)) (not (a == b)) z.1).0)
  event_in_range (Lend t p) possible channel = (there_small t possible.declared, possible.numbers)
  event_in_range (Unlend t) possible channel = there_small t possible.declared
  event_in_range (Renice t n) possible channel = (there_small t possible.declared, possible.numbers)
  event_in_range (Hatch t) possible channel = let z = unborn_found w.members t possible.hand.1 in found_small t z.member z.found
  event_in_range (Fork c t) possible channel = (cpu_small c possible.cpus, held_small t possible.hand)
  event_in_range (Return t) possible channel = held_small t possible.hand
  event_in_range (Exit c) possible channel = cpu_small c possible.cpus
  event_in_range (Bury t) possible channel = held_small t possible.hand
  event_in_range (Inherit t run) possible channel = (there_small t possible.declared, omega (arith, possible.numbers))

-- What each event replies fits a trace: a line or two an event.
use Rattle.std.proofs.Common.{◌≡◌, ℕ, ◌<◌, ◌-◌, ◌*◌, ◌^◌, ◌==◌, ◌&&◌, Bool, false, count_by, Option, Some, None, IfSome, refl, sym, ◌∙◌, subst, arith}
use Rattle.std.specs.Prelude.{is_none, nat_lt, option_and_then}
use Rattle.std.specs.List.{AllByRecursion}
use Rattle.std.specs.Option.{option_map}
use Rattle.std.proofs.lemmas.Bool.{cond_both}
use Rattle.std.proofs.lemmas.List.Sums.{count_by-le-length}
use Rattle.ule_history.specs.CpuUseUpdate.{updated_use}
use Rattle.ule_history.specs.HistoryUpdate.{rested_history}
use Rattle.ule_prio.specs.Kind.{kind_at}
use Rattle.ule_prio.specs.declared.class.Class.{Class}
use Rattle.ule_prio.specs.declared.kind.Kind.TheVariants as kind
use Rattle.ule_prio.specs.declared.kind.Kind.TheVariants.{Real, Batch}
use Rattle.ule_prio.specs.declared.class.Class.TheVariants.{Ithd, Rt, Fifo, Ts, Idle}
use Rattle.ule_score.proofs.ChangeLaws.{change_numbers, child_numbers}
use Rattle.ule_score.specs.Bounds.{with_history, with_use}
use Rattle.ule_score.specs.Changes.{IsSoundChange, after_change, after_sleep, changed, ran, rebased_in, rested, sleeps, woken}
use Rattle.ule_score.specs.declared.place.Place.{Place}
use Rattle.ule_score.specs.declared.place.Place.TheVariants.{Running, Queued, Asleep, Unborn, Gone, Hand}
use Rattle.ule_score.specs.declared.record.Change.{Change}
use Rattle.ule_score.specs.declared.record.Change.TheVariants as change
use Rattle.ule_score.specs.declared.record.CpuLine.{CpuLine}
use Rattle.ule_score.specs.declared.record.Settings.{Settings}
use Rattle.ule_score.specs.declared.record.ThreadRecord.{ThreadRecord}
use Rattle.ule_score.specs.declared.record.Why.{Why}
use Rattle.ule_threads.specs.declared.standing.Standing.{Standing}
use Rattle.ule_types.specs.declared.event.Event.{Event}
use Rattle.ule_types.specs.declared.event.Event.TheVariants.{Tick, Switch, Drop, Bed, Wake, Look, Land, Move, Lend, Unlend, Renice, Hatch, Fork, Return, Exit, Bury, Inherit}
use Rattle.ule_types.specs.declared.event.MoveWhy.{MoveWhy}
use Rattle.ule_types.specs.declared.event.Reply.{Reply}
use Rattle.ule_types.specs.declared.event.Reply.TheVariants.{Bedded, Buried, Dropped, Exited, Hatched, NotAsleep, Returned, Unmarked}
use Rattle.ule_types.specs.declared.setup.Setup.{Setup}
use Rattle.ule_model.specs.Action.{Action, PairAction, answers}
use Rattle.ule_model.specs.Actions.{Seen, action_of, change_action, change_action_at, fork_action, give_way_action, given_action, go_action, gone_answer, is_refused, land_action, leave_action, move_action, note_action, refused_action, requeue_action, switch_action, tick_action, unborn_action, unborn_answer, wake_action, wake_action_at, woken_reply}
use Rattle.ule_model.specs.ActionStep.{named_by, seen_on}
use Rattle.ule_model.specs.Choice.{choice_of}
use Rattle.ule_model.specs.Conditions.{HasSoundNumbers}
use Rattle.ule_model.specs.declared.insertion.Insertion.TheVariants.{Ordinary}
use Rattle.ule_model.specs.Landing.{current_priority, current_record}
use Rattle.ule_model.specs.Places.{is_on, runs_on, waits_on}
use Rattle.ule_model.specs.Steal.{buckets_of, given_by, is_movable_on, queues_pick}
use Rattle.ule_model.specs.Switch.{is_preemption, is_unasked, started_reply}
use Rattle.ule_model.specs.CpuNumbers.{low_priority_of}
use Rattle.ule_model.specs.World.{Member, World, current_of, side_of, standing_of, thread_of}
use Rattle.ule_members.proofs.Given.{move_sees}
use Rattle.ule_members.proofs.Membership.{Has, all_has, has_between, has_thread_of}
use Rattle.ule_members.proofs.Moves.{bucket_small, choice_stands}
use Rattle.ule_members.proofs.Within.{found_at}
use Rattle.ule_courses.proofs.Bindings.{woken_bound}
use Rattle.ule_courses.proofs.LastCpus.{woken_last}
use Rattle.ule_parts.specs.Scheduler.{IsWorldOf}
use Rattle.ule_trace.specs.Ranges.{CpuFits, IsCpuIfAny, IsThreadIfAny, ReplyFits}
use Rattle.ule_ranges.proofs.SideRanges.{IsPartInRange, IsThreadInRange}
use Rattle.ule_ranges.proofs.WorldRanges.{IsWorldInRange, each_made, each_record, line_fits, place_fits}

-- ---- waking

-- a base priority computed anew leaves the time at which a thread last ran
rebased_in_last_run : (k : Class) (settings : Settings) (r : ThreadRecord) → (rebased_in k settings r).last_run ≡ r.last_run
rebased_in_last_run Ts settings r = refl
rebased_in_last_run Ithd settings r = refl
rebased_in_last_run Rt settings r = refl
rebased_in_last_run Fifo settings r = refl
rebased_in_last_run Idle settings r = refl

-- so does the time slept
rested_last_run : (now : ℕ) (r : ThreadRecord) → (rested now r).last_run ≡ r.last_run
rested_last_run now r =
    cond_both (now == r.slept_at) r (with_use (with_history r (rested_history r.hist (1024 * (now - r.slept_at)))) (updated_use r.usage now false))
    (λ (z : ThreadRecord). z.last_run ≡ r.last_run) (λ same. refl) (λ other. refl)

-- and waking
woken_last_run : (settings : Settings) (now : ℕ) (r : ThreadRecord) → (after_sleep settings now r).last_run ≡ r.last_run
woken_last_run settings now r = rebased_in_last_run (rested now r).class settings (record (rested now r) { slice_count = 0; slept_at = 0 }) ∙ rested_last_run now r

-- ---- what an event sees

module _ (s : Setup) (w : World) (is : IsWorldOf s w) (ranges : IsWorldInRange w) where
  -- the number of a thread is in range
  id_small : (m : Member) → Has m w.members → m.thread.id < 256
  id_small m has = (each_record s w is m has).numbers.id

  -- what holds of none and of each thread's record holds of the current one
  of_current : (P : Option ThreadRecord → Type 0) (c : ℕ) → P None → ((m : Member) → Has m w.members → P (Some m.thread)) → P (current_record c w.members)
  of_current P c none some = split (current_of c w.members) refl
    where
      split : (o : Option Member) → current_of c w.members ≡ o → P (option_map (λ (m : Member). m.thread) o)
      split None found = none
      split (Some m) found =
          let at = found_at (λ (n : Member). runs_on c n.place) w.members m found in
          some m (subst (Has m) (sym at.whole) (has_between at.before m at.after))

  -- what holds of none and of each thread holds of the one with a number
  pub of_numbered : (P : Option Standing → Type 0) (t : ℕ) → P None → ((m : Member) → Has m w.members → thread_of t w.members ≡ Some m → P (Some (standing_of m))) →
      P (option_map standing_of (thread_of t w.members))
  of_numbered P t none some = split (thread_of t w.members) refl
    where
      split : (o : Option Member) → thread_of t w.members ≡ o → P (option_map standing_of o)
      split None found = none
      split (Some m) found = some m (has_thread_of t m w.members found).0 found

  -- no count of threads is greater than a trace can tell
  count_fits : (p : Member → Bool) → count_by p w.members < 2 ^ 64
  count_fits p = omega (arith, count_by-le-length p w.members, ranges.few)

  -- a priority that a new thread is compared with is in range
  current_small : (o : Option ThreadRecord) → IfSome o (λ r. r.priority < 256) → current_priority o < 256
  current_small None small = omega arith
  current_small (Some r) small = small

  -- so is the low priority of a CPU
  low_small : (c ridx : ℕ) → low_priority_of c ridx w.members < 256
  low_small c ridx =
      let current : current_priority (current_record c w.members) < 256 =
      of_current (λ o. current_priority o < 256) c (omega arith) (λ m has. (each_record s w is m has).numbers.priority) in
      let next : current_priority (option_map (λ (m : Member). m.thread) (choice_of c ridx w.members)) < 256 = of_choice (choice_of c ridx w.members) refl in
      omega (arith, current, next)
    where
      of_choice : (o : Option Member) → choice_of c ridx w.members ≡ o → current_priority (option_map (λ (m : Member). m.thread) o) < 256
      of_choice None found = omega arith
      of_choice (Some m) found = (each_record s w is m (choice_stands c ridx m w.members found).0).numbers.priority

  module _ (worker now : ℕ) where
    -- what an event sees under lock l with these numbers of a CPU
    abbrev pub sees_with : Event → ℕ → CpuLine → Seen
    sees_with e l line = seen_on l worker now (named_by w e) (record { settings = w.settings; members = w.members; line = line; balance_word = w.balance_word })

    -- what an action replies fits, where the number of the chosen thread is in range
    abbrev pub RepliesFit : Action → Type 0
    RepliesFit a = (into : Option ℕ) → IsThreadIfAny into → ReplyFits (a.reply into)

    -- ---- each kind of event

    started_fits : (into : Option ℕ) → IsThreadIfAny into → ReplyFits (started_reply into)
    started_fits None small = tt
    started_fits (Some t) small = (tt, small)

    switch_replies : (c : ℕ) (why : Why) (at : Seen) → at.current ≡ current_record c w.members → RepliesFit (switch_action why at)
    switch_replies c why at seen =
        cond_both (is_unasked why at.line.resched) (answers Unmarked) (give_way_action (is_preemption why at.line.slice_end) at.current at) RepliesFit (λ unasked into chosen. tt)
        (λ asked. subst (λ o. RepliesFit (give_way_action (is_preemption why at.line.slice_end) o at)) (sym seen)
        (of_current (λ o. RepliesFit (give_way_action (is_preemption why at.line.slice_end) o at)) c started_fits (λ m has into chosen. (id_small m has, chosen))))

    place_replies : (m : Member) → Has m w.members → (place : Place) → m.place ≡ place → ReplyFits (NotAsleep place)
    place_replies m has place at =
        subst (λ p. ReplyFits (NotAsleep p)) at
        (place_fits m.place (all_has IsThreadInRange m w.members ranges.members has).place (each_made s w is m has).place)

    woken_replies : (m : Member) → Has m w.members → (settings : Settings) (time : ℕ) → ReplyFits (woken_reply (after_sleep settings time m.thread))
    woken_replies m has settings time = let r = each_record s w is m has in (
      (change_numbers settings time woken m.thread tt r.numbers).priority,
      subst IsCpuIfAny (sym (woken_bound settings time m.thread)) r.bound,
      subst (λ c. c < 16) (sym (woken_last settings time m.thread)) r.last,
      omega (arith, woken_last_run settings time m.thread, r.bounds.last_run),
    )

    wake_replies : (t : ℕ) (m : Member) → Has m w.members → (place : Place) → m.place ≡ place → (at : Seen) → RepliesFit (wake_action_at place t m.thread at)
    wake_replies t m has (Asleep channel) stands at = λ into chosen. woken_replies m has at.settings at.now
    wake_replies t m has (Running c) stands at = λ into chosen. place_replies m has (Running c) stands
    wake_replies t m has (Queued c k b) stands at = λ into chosen. place_replies m has (Queued c k b) stands
    wake_replies t m has Unborn stands at = λ into chosen. tt
    wake_replies t m has Gone stands at = λ into chosen. tt
    wake_replies t m has (Hand h) stands at = λ into chosen. place_replies m has (Hand h) stands

    gone_replies : (given : Change) → ReplyFits (gone_answer given)
    gone_replies (change.Lend p) = tt
    gone_replies change.Unlend = tt
    gone_replies (change.Renice n) = tt
    gone_replies (change.Inherit run) = tt

    unborn_replies : (given : Change) (t : ℕ) (new : ThreadRecord) → new.priority < 256 → RepliesFit (unborn_action (unborn_answer given) given t new)
    unborn_replies (change.Lend p) t new small = λ into chosen. tt
    unborn_replies change.Unlend t new small = λ into chosen. tt
    unborn_replies (change.Renice n) t new small = λ into chosen. tt
    unborn_replies (change.Inherit run) t new small = λ into chosen. small

    changed_replies : (place : Place) (given : Change) (t : ℕ) (r new : ThreadRecord) (at : Seen) → new.priority < 256 → RepliesFit (change_action_at place given t r new at)
    changed_replies (Running c) given t r new at small = λ into chosen. small
    changed_replies (Queued c k b) given t r new at small =
        cond_both (nat_lt new.priority r.priority) (requeue_action (Queued c k b) given t new at) (note_action (Queued c k b) given t new) RepliesFit (λ better into chosen. small)
        (λ other into chosen. small)
    changed_replies (Asleep channel) given t r new at small = λ into chosen. small
    changed_replies Unborn given t r new at small = unborn_replies given t new small
    changed_replies Gone given t r new at small = λ into chosen. gone_replies given
    changed_replies (Hand h) given t r new at small = λ into chosen. tt

    change_replies : (given : Change) (t : ℕ) (at : Seen) → IsSoundChange now (changed given) → RepliesFit (change_action given t (option_map standing_of (thread_of t w.members)) at)
    change_replies given t at sound =
        of_numbered (λ o. RepliesFit (change_action given t o at)) t (λ into chosen. tt)
        (λ m has found. changed_replies m.place given t m.thread (after_change at.settings given m.thread) at (change_numbers at.settings now (changed given) m.thread sound (each_record s w is m has).numbers).priority)

    go_replies : (t : ℕ) (to : Place) (r : Reply) (o : Option Standing) → ReplyFits r → RepliesFit (go_action t to r o)
    go_replies t to r None fits = λ into chosen. tt
    go_replies t to r (Some x) fits = λ into chosen. fits

    fork_replies : (c t : ℕ) (at : Seen) → RepliesFit (fork_action t (current_record c w.members) (option_map standing_of (thread_of t w.members)) at)
    fork_replies c t at =
        of_current (λ o. RepliesFit (fork_action t o (option_map standing_of (thread_of t w.members)) at)) c (λ into chosen. tt)
        (λ m has. of_numbered (λ o. RepliesFit (fork_action t (Some m.thread) o at)) t (λ into chosen. tt)
        (λ n there found into chosen. (id_small m has, (child_numbers at.settings at.now m.thread at.cpu at.load n.thread (each_record s w is m has).numbers (each_record s w is n there).numbers).priority)))

    -- ---- each event

    -- what an event under one lock replies fits
    pub event_replies : (e : Event) (l : ℕ) (line : CpuLine) → HasSoundNumbers e → CpuFits line → RepliesFit (action_of e (sees_with e l line))
    event_replies (Tick c) l line sound fits =
        of_current (λ o. RepliesFit (tick_action o (sees_with (Tick c) l line))) l (λ into chosen. tt) (λ m has into chosen. id_small m has)
    event_replies (Switch c why) l line sound fits = switch_replies l why (sees_with (Switch c why) l line) refl
    event_replies (Drop c channel) l line sound fits =
        of_current (λ o. RepliesFit (leave_action sleeps (λ r into. Dropped r.id into) o (sees_with (Drop c channel) l line))) l (λ into chosen. tt)
        (λ m has into chosen. (id_small m has, chosen))
    event_replies (Bed t channel) l line sound fits = go_replies t (Asleep channel) Bedded (option_map standing_of (thread_of t w.members)) tt
    event_replies (Wake t) l line sound fits =
        of_numbered (λ o. RepliesFit (wake_action t o (sees_with (Wake t) l line))) t (λ into chosen. tt) (λ m has found. wake_replies t m has m.place refl (sees_with (Wake t) l line))
    event_replies (Look c) l line sound fits =
        λ into chosen. (count_fits (λ m. is_on l m.place), count_fits (λ m. waits_on l m.place && is_none m.thread.bound), low_small l line.ridx)
    event_replies (Land t c) l line sound fits =
        of_numbered (λ o. RepliesFit (land_action t o (sees_with (Land t c) l line))) t (λ into chosen. tt)
        (λ m has found into chosen. bucket_small (kind_at m.thread.priority) Ordinary line m.thread.priority (each_record s w is m has).numbers.priority fits.ridx)
    event_replies (Move a b why) l line sound fits = λ into chosen. tt
    event_replies (Lend t p) l line sound fits = change_replies (change.Lend p) t (sees_with (Lend t p) l line) sound
    event_replies (Unlend t) l line sound fits = change_replies change.Unlend t (sees_with (Unlend t) l line) tt
    event_replies (Renice t n) l line sound fits = change_replies (change.Renice n) t (sees_with (Renice t n) l line) sound
    event_replies (Hatch t) l line sound fits = go_replies t (Hand worker) Hatched (option_map standing_of (thread_of t w.members)) tt
    event_replies (Fork c t) l line sound fits = fork_replies l t (sees_with (Fork c t) l line)
    event_replies (Return t) l line sound fits = go_replies t Unborn Returned (option_map standing_of (thread_of t w.members)) tt
    event_replies (Exit c) l line sound fits =
        of_current (λ o. RepliesFit (leave_action ran (λ r into. Exited r.id into r.parent r.hist.run) o (sees_with (Exit c) l line))) l (λ into chosen. tt)
        (λ m has into chosen. let r = each_record s w is m has in (id_small m has, chosen, r.parent, omega (arith, r.bounds.history)))
    event_replies (Bury t) l line sound fits = go_replies t Gone Buried (option_map standing_of (thread_of t w.members)) tt
    event_replies (Inherit t run) l line sound fits = change_replies (change.Inherit run) t (sees_with (Inherit t run) l line) tt

    -- ---- a move

    -- what a move sees under the lock of CPU c
    abbrev seen_by_move : ℕ → Seen
    seen_by_move c = move_sees w worker now c

    -- what a move brings to its CPUs, and what it replies, in range
    pub record IsMoveInRange (a b : ℕ) (p : PairAction) : Type 0 where
      pub from : AllByRecursion (IsPartInRange a) p.from
      pub to : AllByRecursion (IsPartInRange b) p.to
      pub reply : ReplyFits p.reply

    -- what holds of none and of each thread holds of the one that CPU c gives to another
    of_given : (P : Option Standing → Type 0) (c : ℕ) → P None → ((m : Member) → Has m w.members → P (Some (standing_of m))) → P (option_map standing_of (given_by c (side_of c w)))
    of_given P c none some =
        split (queues_pick (is_movable_on c w.members) (side_of c w).line.ridx (buckets_of c Real w.members) (buckets_of c Batch w.members) (buckets_of c kind.Idle w.members))
      where
        split : (o : Option ℕ) → P (option_map standing_of (option_and_then (λ t. thread_of t w.members) o))
        split None = none
        split (Some t) = of_numbered P t none (λ m has found. some m has)

    -- a move is in range, where its second CPU and its worker are
    pub move_ranges : (why : MoveWhy) (a b : ℕ) → b < 16 → worker < 16 → IsMoveInRange a b (move_action why (seen_by_move a) (seen_by_move b))
    move_ranges why a b there low =
        cond_both (is_refused why (seen_by_move a) (seen_by_move b)) (refused_action (seen_by_move a) (seen_by_move b)) (given_action (seen_by_move a).given (seen_by_move a) (seen_by_move b))
        (IsMoveInRange a b) (λ is_so. refused) (λ allowed. of_given (λ o. IsMoveInRange a b (given_action o (seen_by_move a) (seen_by_move b))) a refused given)
      where
        refused : IsMoveInRange a b (refused_action (seen_by_move a) (seen_by_move b))
        refused = record {
          from = tt;
          to = tt;
          reply = (count_fits (λ m. is_on a m.place), count_fits (λ m. waits_on a m.place && is_none m.thread.bound), count_fits (λ m. is_on b m.place));
        }

        given : (m : Member) → Has m w.members → IsMoveInRange a b (given_action (Some (standing_of m)) (seen_by_move a) (seen_by_move b))
        given m has = record {
          from = (low, tt);
          to = (tt, (there, (tt, tt)));
          reply = (
            id_small m has,
            bucket_small (kind_at m.thread.priority) Ordinary (side_of b w).line m.thread.priority (each_record s w is m has).numbers.priority (line_fits w b ranges).ridx,
          );
        }

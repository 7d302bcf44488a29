-- That the action of each event follows from what it sees, and that its reply tells its word: a line or two an event.
use Rattle.std.proofs.Common.{◌≡◌, ℕ, ◌<◌, ◌==◌, ◌%◌, ⊎_elim, Bool, true, false, List, [], ◌∷◌, ◌+◌, length, Option, Some, None, if◌then◌else◌, refl, sym, ◌∙◌, ap, subst}
use Rattle.std.specs.List.{AllByRecursion}
use Rattle.std.specs.Option.{option_map, option_to_list}
use Rattle.std.specs.Prelude.{nat_lt, option_and_then}
use Rattle.std.proofs.lemmas.Bool.{both_ways, eqb-true, ltb-true, or_cases}
use Rattle.std.proofs.lemmas.Option.{same_Some}
use Rattle.ule_score.specs.Changes.{IsSoundChange, RecordChange, after_change, changed, ran, sleeps}
use Rattle.ule_score.specs.declared.place.Place.{Place}
use Rattle.ule_score.specs.declared.place.Place.TheVariants.{Running, Queued, Asleep, Unborn, Gone, Hand}
use Rattle.ule_score.specs.declared.record.Change.{Change}
use Rattle.ule_score.specs.declared.record.Change.TheVariants as change
use Rattle.ule_score.specs.declared.record.ThreadRecord.{ThreadRecord}
use Rattle.ule_score.specs.declared.record.Why.{Why}
use Rattle.ule_types.specs.Commands.{is_among}
use Rattle.ule_types.specs.declared.event.Event.{Event}
use Rattle.ule_types.specs.declared.event.Event.TheVariants.{Tick, Switch, Drop, Bed, Wake, Look, Land, Move, Lend, Unlend, Renice, Hatch, Fork, Return, Exit, Bury, Inherit}
use Rattle.ule_types.specs.declared.event.Reply.{Reply}
use Rattle.ule_types.specs.declared.event.Reply.TheVariants.{Bedded, Buried, Dropped, Exited, Hatched, NotAsleep, Nothing, Returned, Unmarked}
use Rattle.ule_model.specs.Action.{Action, Part, answers, move}
use Rattle.ule_model.specs.Actions.{Seen, action_of, change_action, change_action_at, fork_action, give_way_action, go_action, land_action, leave_action, note_action, requeue_action, switch_action, tick_action, unborn_action, wake_action, wake_action_at}
use Rattle.ule_model.specs.ActionStep.{seen_under}
use Rattle.ule_model.specs.Conditions.{IsByIfReached, IsPossible}
use Rattle.ule_model.specs.Events.{lock_of_thread, locks_of}
use Rattle.ule_model.specs.Frames.{IsSoundIn}
use Rattle.ule_model.specs.Places.{is_on, lock_of, runs_on}
use Rattle.ule_model.specs.Actions.{gone_answer, unborn_answer}
use Rattle.ule_model.specs.Switch.{is_preemption, is_unasked}
use Rattle.ule_model.specs.WellMade.{IsPlace, IsWellMadeWorld}
use Rattle.ule_model.specs.Words.{WordChange, block, change_of}
use Rattle.ule_model.specs.World.{Member, World, current_of, side_of, standing_of, thread_of}
use Rattle.ule_members.proofs.Membership.{all_has, has_within}
use Rattle.ule_members.proofs.PartDone.{Agree, Follows, IsActedOn, IsWay, StandsAt, word_between, word_of_parts}
use Rattle.ule_members.proofs.Reach.{IsHeld, held_found, lock_where_runs, place_from_hand, reached_by_hand, reached_by_lock, takes_itself, unborn_found}
use Rattle.ule_members.proofs.Threads.{current_runs, thread_of_within, within_current}

-- a place where a thread runs on a CPU is that of its current thread
pub running_at : (c : ℕ) (place : Place) → runs_on c place ≡ true → place ≡ Running c
running_at c (Running d) runs = ap (λ (x : ℕ). Running x) (sym (eqb-true c d runs))
running_at c (Queued d k b) runs = absurd (both_ways false refl runs)
running_at c (Asleep channel) runs = absurd (both_ways false refl runs)
running_at c Unborn runs = absurd (both_ways false refl runs)
running_at c Gone runs = absurd (both_ways false refl runs)
running_at c (Hand w) runs = absurd (both_ways false refl runs)

-- a lock among one is that one
pub only_lock : (c l : ℕ) → is_among (c ∷ []) l ≡ true → c ≡ l
only_lock c l among =
    ⊎_elim (λ (same : (c == l) ≡ true). eqb-true c l same) (λ (other : false ≡ true). absurd (both_ways false refl other)) (or_cases (c == l) false among)

-- a change of a word agrees with none after it
agree_none : (o : Option WordChange) → Agree o None
agree_none None = tt
agree_none (Some x) = tt

-- a thread that stands under lock l
pub record IsUnder (w : World) (t l : ℕ) : Type 0 where
  pub member : Member
  pub found : thread_of t w.members ≡ Some member
  pub under : lock_of member.place ≡ Some l

-- a thread that is sought under a lock stands there
pub sought_under : (w : World) (t l : ℕ) → is_among (lock_of_thread w.members t) l ≡ true → IsUnder w t l
sought_under w t l among = split (thread_of t w.members) refl among
  where
    at_lock : (m : Member) (o : Option ℕ) → thread_of t w.members ≡ Some m → lock_of m.place ≡ o → is_among (option_to_list o) l ≡ true → IsUnder w t l
    at_lock m None found under is = absurd (both_ways false refl is)
    at_lock m (Some k) found under is = record { member = m; found = found; under = under ∙ ap (λ (x : ℕ). Some x) (only_lock k l is) }

    split : (o : Option Member) → thread_of t w.members ≡ o → is_among (option_to_list (option_and_then (λ (m : Member). lock_of m.place) o)) l ≡ true → IsUnder w t l
    split None found is = absurd (both_ways false refl is)
    split (Some m) found is = at_lock m (lock_of m.place) found refl is

module _ (w : World) (worker now : ℕ) (made : IsWellMadeWorld w) where
  -- that parts follow from what is so in the world, under lock l
  abbrev pub AreFit : Event → ℕ → List Part → Type 0
  AreFit e l ps = Follows w worker e now l (λ t place. StandsAt t place w.members) (current_of l w.members ≡ None) ps

  -- that an action of an event does so, and that the reply tells its word
  pub record IsFit (e : Event) (l : ℕ) (a : Action) : Type 0 where
    pub follows : AreFit e l a.parts
    pub word : (into : Option ℕ) → change_of e (a.reply into) ≡ word_of_parts l a.parts

  -- an answer alone
  answer_fits : (e : Event) (l : ℕ) (r : Reply) → change_of e r ≡ None → IsFit e l (answers r)
  answer_fits e l r none = record { follows = tt; word = λ into. none }

  -- ---- the current thread

  -- it runs on its CPU
  runs_there : (c : ℕ) (m : Member) → current_of c w.members ≡ Some m → StandsAt m.thread.id (Running c) w.members
  runs_there c m found = record {
    member = m;
    found = thread_of_within m.thread.id m w.members (within_current c w.members m made.members found);
    place_is = running_at c m.place (current_runs c w.members m found);
  }

  -- a place under the lock that an event takes, and the worker's hand, are within its reach
  here : (e : Event) (c : ℕ) (place : Place) → is_among (locks_of w e) c ≡ true → lock_of place ≡ Some c → IsActedOn w worker e place
  here e c place among under = reached_by_lock w worker e c place among under

  in_hand : (e : Event) → IsActedOn w worker e (Hand worker)
  in_hand e = reached_by_hand w worker e (Hand worker) refl

  -- a record with this thread, if there is one
  abbrev thread_if : Option Member → Option ThreadRecord
  thread_if o = option_map (λ (m : Member). m.thread) o

  pub tick_fits : (c : ℕ) (o : Option Member) → current_of c w.members ≡ o → IsFit (Tick c) c (tick_action (thread_if o) (seen_under w worker now (Tick c) c))
  tick_fits c None found = record { follows = (tt, tt, tt); word = λ into. refl }
  tick_fits c (Some m) found =
      record { follows = (tt, tt, ((runs_there c m found, here (Tick c) c (Running c) (takes_itself c) refl, tt), tt, (tt, tt, tt))); word = λ into. refl }

  pub give_way_fits : (c : ℕ) (why : Why) (p : Bool) (o : Option Member) → current_of c w.members ≡ o →
      IsFit (Switch c why) c (give_way_action p (thread_if o) (seen_under w worker now (Switch c why) c))
  give_way_fits c why p None found = record { follows = (tt, tt, (found, tt, tt)); word = λ into. refl }
  give_way_fits c why p (Some m) found =
      let cur = runs_there c m found in let at = here (Switch c why) c (Running c) (takes_itself c) refl in
      record { follows = (tt, tt, ((cur, at, tt), tt, (tt, tt, ((cur, at, refl), tt, (refl, tt, tt))))); word = λ into. refl }

  switch_fits : (c : ℕ) (why : Why) → IsFit (Switch c why) c (switch_action why (seen_under w worker now (Switch c why) c))
  switch_fits c why = if_asked (is_unasked why (side_of c w).line.resched)
    where
      p : Bool
      p = is_preemption why (side_of c w).line.slice_end

      if_asked : (d : Bool) → IsFit (Switch c why) c (if d then answers Unmarked else give_way_action p (thread_if (current_of c w.members)) (seen_under w worker now (Switch c why) c))
      if_asked true = answer_fits (Switch c why) c Unmarked refl
      if_asked false = give_way_fits c why p (current_of c w.members) refl

  -- an event by which the current thread leaves, if there is one, with this change of its record and this reply
  pub leave_fits : (e : Event) (c : ℕ) (change : RecordChange) (reply : ThreadRecord → Option ℕ → Reply) → is_among (locks_of w e) c ≡ true → IsSoundIn w now change →
      change_of e Nothing ≡ None → ((r : ThreadRecord) (into : Option ℕ) → change_of e (reply r into) ≡ Some (block r.id)) →
      (o : Option Member) → current_of c w.members ≡ o → IsFit e c (leave_action change reply (thread_if o) (seen_under w worker now e c))
  leave_fits e c change reply among sound none word None found = answer_fits e c Nothing none
  leave_fits e c change reply among sound none word (Some m) found = record {
    follows = (
      (runs_there c m found, here e c (Running c) among refl, in_hand e, tt, tt, λ d. refl),
      tt,
      (((refl, refl), in_hand e, sound), tt, (tt, tt, (tt, tt, (refl, tt, tt)))),
    );
    word = word m.thread;
  }

  -- a fork makes the current thread the parent of the thread in hand
  fork_fits : (c t : ℕ) → c < length w.lines → AllByRecursion (IsByIfReached w worker (Fork c t) now) w.members → (o child : Option Member) → current_of c w.members ≡ o →
      ((n : Member) → child ≡ Some n → StandsAt t (Hand worker) w.members) → IsFit (Fork c t) c (fork_action t (thread_if o) (option_map standing_of child) (seen_under w worker now (Fork c t) c))
  fork_fits c t there past None child found held = answer_fits (Fork c t) c Nothing refl
  fork_fits c t there past (Some m) None found held = answer_fits (Fork c t) c Nothing refl
  fork_fits c t there past (Some m) (Some child) found held =
      let v = within_current c w.members m made.members found in record {
        follows = (
          (
            held child refl,
            in_hand (Fork c t),
            (
              record {
                found = ap (option_map (λ x. x.thread)) (thread_of_within m.thread.id m w.members v);
                numbers = v.made.numbers;
                by_now = all_has (IsByIfReached w worker (Fork c t) now) m w.members past (has_within m.thread.id m w.members v)
                    (here (Fork c t) c m.place (takes_itself c) (lock_where_runs c m.place (current_runs c w.members m found)));
              },
              there,
            ),
          ),
          tt,
          ((runs_there c m found, here (Fork c t) c (Running c) (takes_itself c) refl, tt), tt, tt),
        );
        word = λ into. refl;
      }

  -- ---- the thread in hand, and the unborn

  -- a thread that is held stands in the hand
  held_stands : (t : ℕ) (h : IsHeld w.members t worker) → StandsAt t (Hand worker) w.members
  held_stands t h = record { member = h.member; found = h.found; place_is = place_from_hand worker h.member.place h.hand }

  -- the thread that is named is this one
  named_is : (t : ℕ) (m : Member) (P : Option Member → Type 0) → thread_of t w.members ≡ Some m → P (Some m) → P (thread_of t w.members)
  named_is t m P found = subst P (sym found)

  -- a thread goes from a place within reach to another on no CPU
  go_fits : (e : Event) (l t : ℕ) (from to : Place) (reply : Reply) → StandsAt t from w.members → IsActedOn w worker e from → IsActedOn w worker e to →
      IsWay (lock_of from) (lock_of to) → IsPlace to → ((d : ℕ) → is_on d to ≡ false) → change_of e reply ≡ word_between t (lock_of from) (lock_of to) →
      IsFit e l (go_action t to reply (option_map standing_of (thread_of t w.members)))
  go_fits e l t from to reply at acted goes way place off word =
      named_is t at.member (λ o. IsFit e l (go_action t to reply (option_map standing_of o))) at.found
      (subst (λ (p : Place). IsFit e l (record { parts = move t p to ∷ []; reply = λ into. reply })) (sym at.place_is)
      (record { follows = ((at, acted, goes, way, place, off), agree_none (word_between t (lock_of from) (lock_of to)), tt); word = λ into. word }))

  land_fits : (t c : ℕ) → c < length w.lines → StandsAt t (Hand worker) w.members → IsFit (Land t c) c (land_action t (option_map standing_of (thread_of t w.members)) (seen_under w worker now (Land t c) c))
  land_fits t c there held =
      named_is t held.member (λ o. IsFit (Land t c) c (land_action t (option_map standing_of o) (seen_under w worker now (Land t c) c))) held.found
      (record { follows = ((held, in_hand (Land t c), there), tt, ((held, in_hand (Land t c), tt), tt, (tt, tt, tt))); word = λ into. refl })

  -- ---- the thread that is sought

  wake_fits : (t l : ℕ) (m : Member) (place : Place) → is_among (locks_of w (Wake t)) l ≡ true → StandsAt t place w.members → lock_of place ≡ Some l →
      IsFit (Wake t) l (wake_action_at place t m.thread (seen_under w worker now (Wake t) l))
  wake_fits t l m (Asleep channel) among at under = record {
    follows = (
      (at, here (Wake t) l (Asleep channel) among under, in_hand (Wake t), tt, tt, λ d. refl),
      tt,
      (((refl, refl), in_hand (Wake t), tt), tt, tt),
    );
    word = λ into. refl;
  }
  wake_fits t l m place among at under = answer_fits (Wake t) l (NotAsleep place) refl

  -- a change of a priority, by an event that changes no word
  module _ (e : Event) (t : ℕ) (given : Change) (sound : IsSoundChange now (changed given)) (none : (r : Reply) → change_of e r ≡ None) where
    note_fits : (l : ℕ) (place : Place) (new : ThreadRecord) → is_among (locks_of w e) l ≡ true → StandsAt t place w.members → lock_of place ≡ Some l → IsFit e l (note_action place given t new)
    note_fits l place new among at under = record { follows = ((at, here e l place among under, sound), tt, tt); word = λ into. none ((note_action place given t new).reply into) }

    unborn_fits : (l : ℕ) (answer : Option Reply) (new : ThreadRecord) → is_among (locks_of w e) l ≡ true → StandsAt t Unborn w.members → lock_of Unborn ≡ Some l →
        IsFit e l (unborn_action answer given t new)
    unborn_fits l None new among at under = note_fits l Unborn new among at under
    unborn_fits l (Some refusal) new among at under = answer_fits e l refusal (none refusal)

    pub change_fits : (l : ℕ) (place : Place) (r new : ThreadRecord) (sees : Seen) → is_among (locks_of w e) l ≡ true → StandsAt t place w.members → lock_of place ≡ Some l →
        IsFit e l (change_action_at place given t r new sees)
    change_fits l (Queued d k b) r new sees among at under = if_better (nat_lt new.priority r.priority)
      where
        if_better : (better : Bool) → IsFit e l (if better then requeue_action (Queued d k b) given t new sees else note_action (Queued d k b) given t new)
        if_better true =
            let acted = here e l (Queued d k b) among under in record {
              follows = ((at, acted, sound), tt, ((at, acted, same_Some d l under), tt, (tt, tt, tt)));
              word = λ into. none ((requeue_action (Queued d k b) given t new sees).reply into);
            }
        if_better false = note_fits l (Queued d k b) new among at under
    change_fits l (Running d) r new sees among at under = note_fits l (Running d) new among at under
    change_fits l (Asleep channel) r new sees among at under = note_fits l (Asleep channel) new among at under
    change_fits l Unborn r new sees among at under = unborn_fits l (unborn_answer given) new among at under
    change_fits l Gone r new sees among at under = answer_fits e l (gone_answer given) (none (gone_answer given))
    change_fits l (Hand h) r new sees among at under = answer_fits e l Nothing (none Nothing)

    -- where it stands
    changes_fit : (l : ℕ) → is_among (locks_of w e) l ≡ true → is_among (lock_of_thread w.members t) l ≡ true → IsFit e l (change_action given t (option_map standing_of (thread_of t w.members)) (seen_under w worker now e l))
    changes_fit l among under =
        let s = sought_under w t l under in
        named_is t s.member (λ o. IsFit e l (change_action given t (option_map standing_of o) (seen_under w worker now e l))) s.found
        (change_fits l s.member.place s.member.thread (after_change w.settings given s.member.thread) (seen_under w worker now e l) among (record { member = s.member; found = s.found; place_is = refl }) s.under)

  -- ---- each event

  -- under the lock that it takes
  under_own : (e : Event) (c l : ℕ) → is_among (c ∷ []) l ≡ true → IsFit e c (action_of e (seen_under w worker now e c)) → IsFit e l (action_of e (seen_under w worker now e l))
  under_own e c l among = subst (λ (x : ℕ). IsFit e x (action_of e (seen_under w worker now e x))) (only_lock c l among)

  -- the action of an event that a worker can perform is fit, under each lock that it takes
  pub event_fits : (e : Event) → IsPossible w worker e now → (l : ℕ) → is_among (locks_of w e) l ≡ true → IsFit e l (action_of e (seen_under w worker now e l))
  event_fits (Tick c) possible l among = under_own (Tick c) c l among (tick_fits c (current_of c w.members) refl)
  event_fits (Switch c why) possible l among = under_own (Switch c why) c l among (switch_fits c why)
  event_fits (Drop c channel) possible l among =
      under_own (Drop c channel) c l among (leave_fits (Drop c channel) c sleeps (λ r into. Dropped r.id into) (takes_itself c) tt refl (λ r into. refl) (current_of c w.members) refl)
  event_fits (Bed t channel) possible l among =
      under_own (Bed t channel) (16 + channel % 8) l among
      (go_fits (Bed t channel) (16 + channel % 8) t (Hand worker) (Asleep channel) Bedded (held_stands t (held_found w.members t worker possible.hand)) (in_hand (Bed t channel))
      (here (Bed t channel) (16 + channel % 8) (Asleep channel) (takes_itself (16 + channel % 8)) refl) tt tt (λ d. refl) refl)
  event_fits (Wake t) possible l among =
      let s = sought_under w t l among in
      named_is t s.member (λ o. IsFit (Wake t) l (wake_action t (option_map standing_of o) (seen_under w worker now (Wake t) l))) s.found
      (wake_fits t l s.member s.member.place among (record { member = s.member; found = s.found; place_is = refl }) s.under)
  event_fits (Look c) possible l among = answer_fits (Look c) l ((action_of (Look c) (seen_under w worker now (Look c) l)).reply None) refl
  event_fits (Land t c) possible l among = under_own (Land t c) c l among (land_fits t c (ltb-true c (length w.lines) possible.cpus) (held_stands t (held_found w.members t worker possible.hand)))
  event_fits (Move a b why) possible l among = answer_fits (Move a b why) l Nothing refl
  event_fits (Lend t p) possible l among = changes_fit (Lend t p) t (change.Lend p) possible.numbers (λ r. refl) l among among
  event_fits (Unlend t) possible l among = changes_fit (Unlend t) t change.Unlend tt (λ r. refl) l among among
  event_fits (Renice t n) possible l among = changes_fit (Renice t n) t (change.Renice n) possible.numbers (λ r. refl) l among among
  event_fits (Hatch t) possible l among =
      let h = unborn_found w.members t possible.hand.1 in
      under_own (Hatch t) 24 l among
      (go_fits (Hatch t) 24 t Unborn (Hand worker) Hatched (record { member = h.member; found = h.found; place_is = h.place }) (here (Hatch t) 24 Unborn (takes_itself 24) refl) (in_hand (Hatch t))
      tt tt (λ d. refl) refl)
  event_fits (Fork c t) possible l among =
      under_own (Fork c t) c l among (fork_fits c t (ltb-true c (length w.lines) possible.cpus) possible.in_time (current_of c w.members) (thread_of t w.members) refl (λ n is. held_stands t (held_found w.members t worker possible.hand)))
  event_fits (Return t) possible l among =
      under_own (Return t) 24 l among
      (go_fits (Return t) 24 t (Hand worker) Unborn Returned (held_stands t (held_found w.members t worker possible.hand)) (in_hand (Return t)) (here (Return t) 24 Unborn (takes_itself 24) refl)
      tt tt (λ d. refl) refl)
  event_fits (Exit c) possible l among =
      under_own (Exit c) c l among (leave_fits (Exit c) c ran (λ r into. Exited r.id into r.parent r.hist.run) (takes_itself c) tt refl (λ r into. refl) (current_of c w.members) refl)
  event_fits (Bury t) possible l among =
      under_own (Bury t) 24 l among
      (go_fits (Bury t) 24 t (Hand worker) Gone Buried (held_stands t (held_found w.members t worker possible.hand)) (in_hand (Bury t)) (here (Bury t) 24 Gone (takes_itself 24) refl)
      tt tt (λ d. refl) refl)
  event_fits (Inherit t run) possible l among = changes_fit (Inherit t run) t (change.Inherit run) tt (λ r. refl) l among among

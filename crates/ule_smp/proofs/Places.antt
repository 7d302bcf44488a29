-- Where each thread stands at the end of a play, and the lock that its word names.
use Rattle.std.proofs.Common.{◌≡◌, ◌≢◌, ℕ, ◌<◌, ◌≤◌, Bool, true, false, List, [], ◌∷◌, length, slice_get, Option, Some, None, is_some, refl, sym, ap, ◌∙◌, subst, inl, inr, ◌⊎◌, ⊎_elim, true≢false, arith}
use Rattle.std.specs.Option.{option_map}
use Rattle.std.proofs.lemmas.Bool.{cases_lt, cond-true, eq-eqb}
use Rattle.std.proofs.lemmas.List.{get_or_past}
use Rattle.std.proofs.lemmas.Option.{get_or_from_slice_get, none-some, same_Some}
use mathlib.Core.Logic.{dite}
use native.Mathlib.Decide.{ℕ_discrete}
use Rattle.ule_score.specs.declared.record.ThreadRecord.{ThreadRecord}
use Rattle.ule_types.specs.Commands.{is_among}
use Rattle.ule_types.specs.declared.event.Event.{Event}
use Rattle.ule_types.specs.declared.event.Reply.{Reply}
use Rattle.ule_types.specs.declared.outcome.ThreadLine.{ThreadLine}
use Rattle.ule_types.specs.declared.setup.Setup.{Setup}
use Rattle.ule_model.specs.Finals.{final_line}
use Rattle.ule_model.specs.Frames.{thread_in_hand, thread_under}
use Rattle.ule_model.specs.LockValue.{LockValue, has_under, line_under}
use Rattle.ule_model.specs.Places.{hand_of, is_hand_of, is_number, is_under, lock_of}
use Rattle.ule_model.specs.World.{Member, World, thread_of}
use Rattle.ule_model.specs.WorldValue.{StandsUnder, WorldValue, held_by, if_thread}
use Rattle.ule_members.proofs.PlaceFinds.{thread_at_none, thread_at_within}
use Rattle.ule_members.proofs.Within.{within_thread}
use Rattle.ule_laws.proofs.SeekLaws.{has_stands, lock_found, one_lock}
use Rattle.ule_laws.proofs.TellLaws.{IsSomewhere, line_under_is, stands_at}
use Rattle.ule_laws.proofs.TellLaws as somewhere
use Rattle.ule_laws.proofs.WorldLaws.{HasValue, at_some, value_at}
use Rattle.ule_micro.specs.declared.word.Word.TheVariants.{Lock}
use Rattle.ule_micro.specs.Agreement.{AgreesUnder, IsPointing, IsSettled, ThreadAgrees, WordAgrees}
use Rattle.ule_micro.specs.Agreement as agreement
use Rattle.ule_micro.specs.Laws.{IsEmpty}
use Rattle.ule_micro.specs.Means.{carried_by, stands_under}
use Rattle.ule_micro.specs.Shared.{Agrees, Shared, as_it_stands, unstamped}
use Rattle.ule_micro.proofs.Lists.{something}
use Rattle.ule_parts.specs.Histories.{scheduler_with}
use Rattle.ule_parts.specs.Scheduler.{sched_means}
use Rattle.ule_parts.specs.Workers.{declared_ids_of}
use Rattle.ule_parts.proofs.Lawful.{start_shown}
use Rattle.ule_parts.proofs.Numbers.{numbered_found}
use Rattle.ule_parts.proofs.Worlds.{IsReached, reached_by}
use Rattle.ule_words.specs.Ends.{lock_named}

-- tells: of a thread these values tell this line, or nothing; one of them tells it where there is one; and its word, which names this lock, is that of its line
pub record Tells (values : List LockValue) (t : ℕ) (word : Option ℕ) (o : Option ThreadLine) : Type 0 where
  pub each : (l : ℕ) (v : LockValue) → slice_get values l ≡ Some v → (line_under v t ≡ o) ⊎ (line_under v t ≡ None)
  pub one : (o ≡ None) ⊎ ((l : ℕ) × (v : LockValue) × (slice_get values l ≡ Some v) × (line_under v t ≡ o))
  pub number : (line : ThreadLine) → o ≡ Some line → line.id ≡ t
  pub word_is : (line : ThreadLine) → o ≡ Some line → line.word ≡ word

module _ (s : Setup) (st : Shared (Option ThreadRecord) LockValue Event Reply) (agrees : Agrees (sched_means s) st) (calm : (w : ℕ) → st.pending w ≡ None)
    (empty : (w : ℕ) (hand : Option ThreadRecord) → slice_get st.hands w ≡ Some hand → IsEmpty (sched_means s) hand) where
  -- the history leads to a world, which the values and hands show
  pub reached : IsReached s (unstamped st.history) (as_it_stands st)
  reached = reached_by s (start_shown s) (unstamped st.history) (as_it_stands st) agrees.history

  -- scheduler left: the values and the hands as a scheduler
  abbrev pub scheduler_left : WorldValue
  scheduler_left = scheduler_with s (as_it_stands st)

  -- line left: the line of a thread
  abbrev pub line_left : ℕ → Option ThreadLine
  line_left t = option_map (final_line reached.world.members) (thread_of t reached.world.members)

  -- a thread that the world has was declared
  was_declared : (t : ℕ) (m : Member) → thread_of t reached.world.members ≡ Some m → is_among (declared_ids_of s) t ≡ true
  was_declared t m found = ap (λ ids. is_among ids t) (sym reached.is_world.numbers) ∙ (sym (numbered_found t reached.world.members) ∙ ap (λ (o : Option Member). is_some o) found)

  -- what a value tells is what the world has under its lock
  told_under : (t l : ℕ) (v : LockValue) → slice_get st.values l ≡ Some v → line_under v t ≡ option_map (final_line reached.world.members) (thread_under l t reached.world.members)
  told_under t l v at = line_under_is reached.world l t v reached.shows.made reached.shows.cpus (at_some (StandsUnder reached.world l) (slice_get st.values l) v (reached.shows.under l) at)

  -- no thread is in a hand
  in_no_hand : (t h : ℕ) (m : Member) → is_among (declared_ids_of s) t ≡ true → thread_in_hand h t reached.world.members ≡ Some m → ⊥
  in_no_hand t h m declared found = ⊎_elim within past (cases_lt h (length st.hands))
    where
      has : if_thread t (held_by scheduler_left h) ≡ Some m.thread
      has = reached.shows.hands h t ∙ ap (option_map (λ (n : Member). n.thread)) found

      within : h < length st.hands → ⊥
      within low = let hand = something st.hands h low in
          true≢false (sym (ap (λ (o : Option ThreadRecord). is_some o) (sym (ap (if_thread t) (get_or_from_slice_get st.hands h hand.0 None hand.1)) ∙ has)) ∙ empty h hand.0 hand.1 t declared)

      past : length st.hands ≤ h → ⊥
      past high = none-some m.thread (sym (ap (if_thread t) (get_or_past st.hands h None high)) ∙ has)

  -- the word of a thread that stands under a lock names it
  names_lock : (t l : ℕ) → is_among (declared_ids_of s) t ≡ true → stands_under (sched_means s) st.values l t ≡ true → st.words t ≡ Lock l
  names_lock t l declared stands = ⊎_elim (λ (z : (st.words t ≡ Lock l) × IsSettled st.holds st.pending t (st.words t)). z.0)
      (λ (z : (w : ℕ) × IsPointing st.holds st.pending t (st.words t) w l). absurd (none-some _ (sym (calm z.0) ∙ z.1.0)))
      (subst (WordAgrees st.holds st.pending t (st.words t)) (k.only_under l stands) k.word_agrees)
    where
      k : ThreadAgrees st.holds st.pending (λ i. stands_under (sched_means s) st.values i t) (λ w. carried_by (sched_means s) st.hands w t) t (st.words t)
      k = agrees.threads t declared

  -- a thread under a lock
  module _ (t l : ℕ) (m : Member) (found : thread_of t reached.world.members ≡ Some m) (lock : lock_of m.place ≡ Some l) where
    here : thread_under l t reached.world.members ≡ Some m
    here = thread_at_within (is_under l) t m reached.world.members (within_thread t reached.world.members m reached.shows.made found)
        ∙ cond-true (is_under l m.place) (Some m) None (ap (is_number l) lock ∙ eq-eqb l l refl)

    value : HasValue scheduler_left reached.world l
    value = value_at scheduler_left reached.world l reached.shows (lock_found scheduler_left reached.world t l m reached.shows found lock).0

    stands : stands_under (sched_means s) st.values l t ≡ true
    stands = (λ i. elim (value.found i) as (λ _. Bool) [ None ↦ false | Some v ↦ has_under v t ])
        ∙ (has_stands reached.world l t value.value reached.shows.made reached.shows.cpus value.stands ∙ ap (λ (o : Option Member). is_some o) here)

    its_line : line_left t ≡ Some (final_line reached.world.members m)
    its_line = ap (option_map (final_line reached.world.members)) found

    told_here : (v : LockValue) → slice_get st.values l ≡ Some v → line_under v t ≡ line_left t
    told_here v at = told_under t l v at ∙ (ap (option_map (final_line reached.world.members)) here ∙ sym its_line)

    told_else : (k : ℕ) (v : LockValue) → k ≢ l → slice_get st.values k ≡ Some v → line_under v t ≡ None
    told_else k v far at = told_under t k v at ∙ ap (option_map (final_line reached.world.members)) (one_lock reached.world l k t m reached.shows.made found lock far)

    tells_under : Tells st.values t (lock_named (st.words t)) (line_left t)
    tells_under = record {
      each = λ k v at. dite (ℕ_discrete k l) (λ same. inl (told_here v (ap (slice_get st.values) (sym same) ∙ at))) (λ far. inr (told_else k v far at));
      one = inr (l, value.value, value.found, told_here value.value value.found);
      number = λ line is. ap (λ (x : ThreadLine). x.id) (same_Some line (final_line reached.world.members m) (sym is ∙ its_line)) ∙ (within_thread t reached.world.members m reached.shows.made found).number;
      word_is = λ line is. ap (λ (x : ThreadLine). x.word) (same_Some line (final_line reached.world.members m) (sym is ∙ its_line))
          ∙ (lock ∙ sym (ap lock_named (names_lock t l (was_declared t m found) stands)));
    }

  -- what is told of each thread at the end
  pub tells : (t : ℕ) → Tells st.values t (lock_named (st.words t)) (line_left t)
  tells t = at (stands_at reached.world t)
    where
      none : thread_of t reached.world.members ≡ None → line_left t ≡ None
      none found = ap (option_map (final_line reached.world.members)) found

      at : IsSomewhere reached.world t → Tells st.values t (lock_named (st.words t)) (line_left t)
      at (somewhere.nowhere found) = record {
        each = λ l v got. inr (told_under t l v got ∙ ap (option_map (final_line reached.world.members)) (thread_at_none (is_under l) t reached.world.members found));
        one = inl (none found);
        number = λ line is. absurd (none-some line (sym (none found) ∙ is));
        word_is = λ line is. absurd (none-some line (sym (none found) ∙ is));
      }
      at (somewhere.under m l found lock not_held) = tells_under t l m found lock
      at (somewhere.in_hand m h found place) = absurd (in_no_hand t h m (was_declared t m found) (thread_at_within (is_hand_of h) t m reached.world.members (within_thread t reached.world.members m reached.shows.made found)
          ∙ cond-true (is_hand_of h m.place) (Some m) None (ap (is_hand_of h) place ∙ eq-eqb h h refl)))

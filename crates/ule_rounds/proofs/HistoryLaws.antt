-- The history of rounds is legal and whole, and rounds go on until all scripts are done, since they are a legal play of values.
use Rattle.std.proofs.Common.{◌≡◌, ℕ, zero, suc, ◌+◌, ◌<◌, ◌≤◌, length, slice_get, take, Option, Some, None, inl, inr, option_and_then, refl, sym, ap, ◌∙◌, subst, ⊎_elim, arith}
use Rattle.std.proofs.lemmas.Bool.{cases_lt}
use Rattle.std.proofs.lemmas.Option.{same_Some}
use Rattle.ule_types.specs.declared.event.Event.{Event}
use Rattle.ule_types.specs.declared.event.Reply.{Reply}
use Rattle.ule_types.specs.declared.setup.Setup.{Setup}
use Rattle.ule_model.specs.CalendarPromise.{HasCalendarPromise}
use Rattle.ule_model.specs.Events.{holder_of}
use Rattle.ule_model.specs.History.{GoesOn, HasEmptyHands, IsHistoryOf, KeepsRecords, RoundsGoOn}
use Rattle.ule_model.specs.Legal.{IsLegal, IsWhole, amount_in_all}
use Rattle.ule_model.specs.Places.{hand_of}
use Rattle.ule_model.specs.Rounds.{Play, greatest_rounds, opening, play_of, round, rounds}
use Rattle.ule_model.specs.Start.{world_at_start}
use Rattle.ule_model.specs.Throughout.{HoldsThroughout}
use Rattle.ule_model.specs.WellMade.{IsWellMadeWorld}
use Rattle.ule_model.specs.World.{Member, thread_of}
use Rattle.ule_members.proofs.Membership.{Has, all_from_has, thread_of_has}
use Rattle.ule_members.proofs.Setups.{setup_end}
use Rattle.ule_micro.specs.Courses.{WorkerCourse}
use Rattle.ule_micro.proofs.Courses.{rests_empty}
use Rattle.ule_micro.proofs.Lists.{there, something}
use Rattle.ule_parts.specs.Plays.{AreAtTheirEnds, IsPlayedLegally, list_of}
use Rattle.ule_parts.specs.Scheduler.{sched_means}
use Rattle.ule_parts.specs.Workers.{Worker}
use Rattle.ule_parts.proofs.Lawful.{is_lawful}
use Rattle.ule_parts.proofs.Legality.{all_advanced_at_end, plays_are_legal}
use Rattle.ule_rounds.specs.RoundPlay.{RoundsArePlays}
use Rattle.ule_rounds.proofs.Finishing.{HasGoneOn, held_not_empty, round_goes, rounds_finish, rounds_played}
use Rattle.ule_rounds.proofs.Keeping.{in_hand, items_few}
use Rattle.ule_rounds.proofs.RoundPlays.{IsAtItsEnd, IsPlayed, IsSettled, as_many, comes_to_end, orders, played_opening, reached, settles, there_is, world_is}
use Rattle.ule_rounds.proofs.RoundsLaws.{IsFinished}

-- ---- the end

-- where no worker has a further item, those of so many workers come to their ends in the play of values
all_end : (s : Setup) (n : ℕ) (p : Play) → ((w : ℕ) → IsFinished p w) → (k : ℕ) → k ≤ length p.courses → IsPlayed s n p
    → (r : IsPlayed s n p) × ((w : ℕ) (c : WorkerCourse Worker Event Reply) → w < k → slice_get r.courses w ≡ Some c → IsAtItsEnd s w c)
all_end s n p ended zero within r = (r, λ w c low at. absurd (omega (arith, low)))
all_end s n p ended (suc k) within first =
    let z = all_end s n p ended k (omega (arith, within)) first in
    let c = there_is s n p z.0 k (omega (arith, within)) in
    let q : IsSettled s n p z.0.courses k = settles s n p z.0 k c.0 c.1 in
    let course = something p.courses k (omega (arith, within)) in (
      q.played,
      λ w d low at. ⊎_elim
          (λ (lower : w < k). z.1 w d lower (sym (q.others w (λ same. absurd (omega (arith, same, lower)))) ∙ at))
          (λ (this : k ≤ w).
          let same : w ≡ k = omega (arith, low, this) in
          subst (λ u. IsAtItsEnd s u d) (sym same) (subst (IsAtItsEnd s k) (same_Some q.now_at d (sym q.found ∙ (ap (slice_get q.played.courses) (sym same) ∙ at)))
          (comes_to_end s n p z.0.courses k q course.0 course.1 (ended k course.0 course.1))))
          (cases_lt w k),
    )

-- a play of rounds at whose end all workers are at theirs
record HasEnded (s : Setup) : Type 0 where
  items : ℕ
  played : IsPlayed s items (play_of s)
  ends : AreAtTheirEnds s.scripts played.courses

-- as many rounds as there may be items are such a play
has_ended : (s : Setup) → HasEnded s
has_ended s =
    let r = rounds_played s greatest_rounds in
    let z = all_end s r.0 (play_of s) (rounds_finish s greatest_rounds 0 (opening s) (played_opening s) (omega arith)) (length (play_of s).courses) (omega arith) r.1 in record {
      items = r.0;
      played = z.0;
      ends = λ w c at. z.1 w c (subst (λ k. w < k) (as_many s r.0 (play_of s) z.0) (there z.0.courses w c at)) at;
    }

-- the rounds of every setup are a legal play of its scheduler's values
pub rounds_are_plays : RoundsArePlays
rounds_are_plays s = let z = has_ended s in record {
  history = z.played.history;
  values = z.played.values;
  courses = z.played.courses;
  legal = z.played.legal;
  entries = z.played.entries;
  ended = z.ends;
}

-- ---- the history

-- where all workers are at their ends, no thread is in a hand
hands_empty : (s : Setup) (z : HasEnded s) → HasEmptyHands (play_of s).world
hands_empty s z = all_from_has (λ m. hand_of m.place ≡ None) (play_of s).world.members (λ m has. in_none m has (hand_of m.place) refl)
  where
    apart : IsWellMadeWorld (play_of s).world
    apart = subst IsWellMadeWorld (world_is s z.items (play_of s) z.played) (reached s z.items (play_of s) z.played).is_world.made

    in_none : (m : Member) → Has m (play_of s).world.members → (o : Option ℕ) → hand_of m.place ≡ o → hand_of m.place ≡ None
    in_none m has None is = is
    in_none m has (Some h) is =
        let found : thread_of m.thread.id (play_of s).world.members ≡ Some m = thread_of_has m (play_of s).world.members apart.members.apart has in
        let held : holder_of (play_of s).world.members m.thread.id ≡ Some h = ap (option_and_then (λ (x : Member). hand_of x.place)) found ∙ is in
        let c = in_hand s z.items (play_of s) z.played m.thread.id h held in
        absurd (held_not_empty s z.items (play_of s) z.played m.thread.id h c.0 held c.1
        (rests_empty (sched_means s) (list_of s.scripts) (is_lawful s) (orders s) z.played.legal h c.0 c.1 (z.ends h c.0 c.1).0))

-- the rounds of a setup are a legal play of values, and so a legal and whole history of it
pub history_of_rounds : (s : Setup) → IsHistoryOf s (play_of s)
history_of_rounds s =
    let z = has_ended s in
    let r : IsPlayed s z.items (play_of s) = z.played in
    let legal : IsPlayedLegally s s.scripts r.history r.values r.courses = plays_are_legal s s.scripts r.history r.values r.courses (orders s) r.legal in
    record {
      legal = subst (IsLegal s s.scripts) r.entries legal.legal;
      whole = subst (IsWhole s s.scripts) r.entries (legal.whole z.ends);
      world = r.world;
      time = sym r.time ∙ (ap (λ k. 20000 + k) (all_advanced_at_end s s.scripts (orders s) r.legal z.ends
          ∙ ap (λ k. amount_in_all (take k s.scripts)) (as_many s z.items (play_of s) r ∙ r.workers)) ∙ setup_end s);
      count = omega (arith, r.few, items_few s z.items (play_of s) r);
      bounds = subst (HoldsThroughout KeepsRecords (world_at_start s)) r.entries legal.worlds.bounds;
      made = subst (HoldsThroughout IsWellMadeWorld (world_at_start s)) r.entries legal.worlds.made;
      hands = hands_empty s z;
      promise = subst (HasCalendarPromise (world_at_start s)) r.entries legal.worlds.promise;
    }

-- ---- that rounds go on

-- a play that performed an item more went on
goes_on_by : (s : Setup) (n : ℕ) (p q : Play) (gone : HasGoneOn s n p q) → n + 1 ≤ gone.items → GoesOn p q
goes_on_by s n p q gone further =
    ⊎_elim (λ (more : length p.entries < length q.entries). inl more)
    (λ (same : length q.entries ≤ length p.entries). inr (omega (arith, same, further, gone.goes)))
    (cases_lt (length p.entries) (length q.entries))

-- each round performs an item where a worker has a further one
pub rounds_go_on : RoundsGoOn
rounds_go_on s k worker course got unended =
    let r = rounds_played s k in
    let went = round_goes s r.0 (rounds k (opening s)) r.1 in
    ⊎_elim
    (λ (further : r.0 + 1 ≤ went.0.items). goes_on_by s r.0 (rounds k (opening s)) (round (rounds k (opening s))) went.0 further)
    (λ (ended : (worker : ℕ) → IsFinished (rounds k (opening s)) worker). absurd (unended (ended worker course got)))
    went.1

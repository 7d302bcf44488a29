-- An event that is asked for has rising locks, and seeks a declared thread with an empty hand; and the hand.
use Rattle.std.proofs.Common.{◌≡◌, ◌≢◌, ℕ, ◌%◌, ◌<◌, ◌≤◌, true, refl, ap, subst, arith, mod-lt, IfSome, IsTrue, Some, None, Option, is_some}
use Rattle.std.proofs.lemmas.Bool.{ltb-true}
use Rattle.ule_score.specs.declared.record.ThreadRecord.{ThreadRecord}
use Rattle.ule_types.specs.Commands.{is_among}
use Rattle.ule_types.specs.declared.event.Reply.{Reply}
use Rattle.ule_types.specs.declared.setup.Setup.{Setup}
use Rattle.ule_model.specs.Events.{Locking, queue, queues, chain, limbo, place_of, locking, are_cpus, sought_in}
use Rattle.ule_program.specs.Program.{heard, next_of}
use Rattle.ule_program.specs.declared.own.Own.{Own}
use Rattle.ule_program.specs.declared.stage.Stage.{Stage}
use Rattle.ule_program.specs.declared.stage.Stage.TheVariants.{Advances, Ended, Gives}
use Rattle.ule_program.proofs.Following.{after_goes_on, begun_adds}
use Rattle.ule_model.specs.WorldValue.{if_thread}
use Rattle.ule_micro.specs.Means.{lock_of}
use Rattle.ule_micro.specs.Laws.{AreRising, AsksSoundly, KeepsHands}
use Rattle.ule_parts.specs.Acts.{needs_of}
use Rattle.ule_parts.specs.Workers.{HandFits, Worker, declared_ids_of}
use Rattle.ule_parts.specs.Scheduler.{sched_means}
use Rattle.ule_parts.proofs.Locks.{are_apart, seeker_empty}

module _ (s : Setup) (few : s.cpus ≤ 16) where
  -- the locks rise, those of two CPUs too
  rises : (k : Locking) → IsTrue (are_cpus s.cpus k) → AreRising (needs_of k)
  rises (queue c) names = let z = ltb-true c s.cpus names in omega arith
  rises (queues a b) names =
      let there = are_apart s.cpus a b names in let first = there.0 in let second = there.1 in let far : a ≢ b = there.2 in (omega arith, omega arith)
  rises (chain channel) names = let z : channel % 8 < 8 = mod-lt channel (omega arith) in omega arith
  rises limbo names = omega arith
  rises (place_of t) names = tt

  seeks_in : (k : Locking) (t : ℕ) → needs_of k ≡ lock_of t → k ≡ place_of t
  seeks_in (queue c) t is = absurd (cc)
  seeks_in (queues a b) t is = absurd (cc)
  seeks_in (chain channel) t is = absurd (cc)
  seeks_in limbo t is = absurd (cc)
  seeks_in (place_of u) t is = let same : u ≡ t = cc in ap place_of same

  pub asks_soundly : AsksSoundly (sched_means s)
  asks_soundly = record {
    rising = λ w mine h e asked. rises (locking e) asked.names.0;
    seeks = λ w mine h e t asked needs. let k = seeks_in (locking e) t needs in (
      subst (λ i. IfSome (sought_in i) (λ u. is_among (declared_ids_of s) u ≡ true)) k asked.names.1,
      λ u dec. ap (λ (o : Option ThreadRecord). is_some (if_thread u o)) (subst (HandFits s w mine h) (seeker_empty e t k) asked.fits),
    );
  }

  pub keeps_hands : KeepsHands (sched_means s)
  keeps_hands = record {
    put = λ o h. refl;
    put_own = λ o. refl;
    put_twice = λ o h k. refl;
    put_number = λ o h. refl;
    begin = λ o c. refl;
    begin_number = λ o c. (begun_adds c o.program).0;
    next = λ o told. refl;
    next_number = λ o told. by_told o told;
  }
    where
      by_stage : (own : Own) (st : Stage) (r : Reply) (now : ℕ) → (heard st r now own).worker ≡ own.worker
      by_stage own Ended r now = refl
      by_stage own (Advances k) r now = refl
      by_stage own (Gives e next) r now = (after_goes_on next r now own).0

      by_told : (o : Worker) (told : Option (Reply × ℕ)) → (next_of told o.program).1.worker ≡ o.program.worker
      by_told o None = refl
      by_told o (Some told) = by_stage o.program o.program.stage told.0 told.1

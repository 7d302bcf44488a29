-- The threads that workers are still to fork: each is unborn, no two workers fork one, and none forks one twice.
use Rattle.std.proofs.Common.{◌≡◌, ℕ, ◌++◌, true, false, List, [], flat_map, slice_get, slice_index_or, slice_set, Some, refl, sym, ◌∙◌, ap}
use Rattle.std.proofs.lemmas.Bool.{false_from_ne_true}
use Rattle.ule_types.proofs.Repeats.{among_back, among_front, among_of_one, among_passes, distinct_apart, distinct_back, distinct_of_one, distinct_of_two}
use Rattle.ule_types.specs.Commands.{forked_by, is_among}
use Rattle.ule_types.specs.Rules.{is_distinct}
use Rattle.ule_types.specs.declared.command.Command.{Command}
use Rattle.ule_types.specs.declared.setup.Setup.{Setup}
use Rattle.ule_program.specs.Courses.{Course}
use Rattle.ule_model.specs.Rounds.{opening_courses}
use Rattle.ule_model.specs.Start.{world_at_start}
use Rattle.ule_model.specs.World.{Member}
use Rattle.ule_members.proofs.Unborn.{HasForks, IsStillUnborn, setup_forks, start_unborn}
use Rattle.ule_courses.proofs.Courses.{forks_ahead}
use Rattle.ule_rounds.proofs.Plays.{opening_is}
use Rattle.ule_check.proofs.Openings.{each_after_set}

-- the threads that workers at these courses are still to fork are unborn among these threads; no course has one twice,
-- and no two courses have one
pub record HasForksAhead (ms : List Member) (courses : List Course) : Type 0 where
  pub once : (worker : ℕ) (course : Course) → slice_get courses worker ≡ Some course → is_distinct (forks_ahead course) ≡ true
  pub one_worker : (i j : ℕ) (a b : Course) (t : ℕ) → slice_get courses i ≡ Some a → slice_get courses j ≡ Some b →
      is_among (forks_ahead a) t ≡ true → is_among (forks_ahead b) t ≡ true → i ≡ j
  pub unborn : (worker : ℕ) (course : Course) (t : ℕ) → slice_get courses worker ≡ Some course → is_among (forks_ahead course) t ≡ true → IsStillUnborn t ms

-- ---- a turn

module _ (courses : List Course) (worker : ℕ) (course reached : Course) (forked : List ℕ) (got : slice_get courses worker ≡ Some course)
    (ahead : forked ++ forks_ahead reached ≡ forks_ahead course) where
  -- a thread that a worker forks afterwards is one that it was to fork before
  forked_before : (t : ℕ) → is_among (forks_ahead reached) t ≡ true → is_among (forks_ahead course) t ≡ true
  forked_before t among = ap (λ us. is_among us t) (sym ahead) ∙ among_back forked (forks_ahead reached) t among

  -- a thread that was forked in between is one that the worker was to fork
  forked_between : (t : ℕ) → is_among forked t ≡ true → is_among (forks_ahead course) t ≡ true
  forked_between t among = ap (λ us. is_among us t) (sym ahead) ∙ among_front forked (forks_ahead reached) t among

  -- each course afterwards, with what stood at its place before and was to fork the same threads and more
  abbrev WasBefore : ℕ → Course → Type 0
  WasBefore i a = (b : Course) × ((slice_get courses i ≡ Some b) × ((t : ℕ) → is_among (forks_ahead a) t ≡ true → is_among (forks_ahead b) t ≡ true))

  -- each course afterwards stood there before
  was_before : (i : ℕ) (a : Course) → slice_get (slice_set courses worker reached) i ≡ Some a → WasBefore i a
  was_before = each_after_set WasBefore courses worker course reached got (course, (got, forked_before)) (λ i a other found. (a, (found, λ t among. among)))

  -- where one worker goes on and forks some of its threads, what is to fork stays so, where other threads stay unborn
  pub forks_set : (old new : List Member) → ((t : ℕ) → is_among forked t ≡ false → IsStillUnborn t old → IsStillUnborn t new) →
      HasForksAhead old courses → HasForksAhead new (slice_set courses worker reached)
  forks_set old new stays kept = record {
    once = each_after_set (λ i a. is_distinct (forks_ahead a) ≡ true) courses worker course reached got (distinct_back forked (forks_ahead reached) apart)
        (λ i a other found. kept.once i a found);
    one_worker = λ i j a b t at_i at_j first second.
        let x = was_before i a at_i in
        let y = was_before j b at_j in
        kept.one_worker i j x.0 y.0 t x.1.0 y.1.0 (x.1.1 t first) (y.1.1 t second);
    unborn = λ i a t at_i among. still i a at_i t among;
  }
    where
      apart : is_distinct (forked ++ forks_ahead reached) ≡ true
      apart = ap is_distinct ahead ∙ kept.once worker course got

      still : (i : ℕ) (a : Course) → slice_get (slice_set courses worker reached) i ≡ Some a → (t : ℕ) → is_among (forks_ahead a) t ≡ true → IsStillUnborn t new
      still = each_after_set (λ i a. (t : ℕ) → is_among (forks_ahead a) t ≡ true → IsStillUnborn t new) courses worker course reached got
          (λ t among. stays t (false_from_ne_true (is_among forked t) (λ between. distinct_apart forked (forks_ahead reached) t apart between among))
          (kept.unborn worker course t got (forked_before t among)))
          (λ i a other found t among. stays t (false_from_ne_true (is_among forked t) (λ between. other (kept.one_worker i worker a course t found got among (forked_between t between))))
          (kept.unborn i a t found among))

-- ---- the opening

-- the threads that a script forks
abbrev forked_in_script : List Command → List ℕ
forked_in_script script = flat_map forked_by script

-- before the first round what is to fork is so
pub forks_opening : (s : Setup) → HasForksAhead (world_at_start s).members (opening_courses s)
forks_opening s = record {
  once = λ worker course got. ap is_distinct (sym (ahead worker course got)) ∙ distinct_of_one forked_in_script [] refl s.scripts worker forks.distinct;
  one_worker = λ i j a b t at_i at_j first second.
      distinct_of_two forked_in_script [] refl s.scripts i j t forks.distinct (ap (λ us. is_among us t) (ahead i a at_i) ∙ first) (ap (λ us. is_among us t) (ahead j b at_j) ∙ second);
  unborn = λ worker course t got among.
      start_unborn s t
      (among_passes (is_among s.unborn) (flat_map forked_in_script s.scripts) t forks.unborn
      (among_of_one forked_in_script [] refl s.scripts worker t (ap (λ us. is_among us t) (ahead worker course got) ∙ among)));
}
  where
    forks : HasForks s
    forks = setup_forks s

    ahead : (worker : ℕ) (course : Course) → slice_get (opening_courses s) worker ≡ Some course → forked_in_script (slice_index_or s.scripts worker []) ≡ forks_ahead course
    ahead worker course got = ap forks_ahead (opening_is s worker course got)

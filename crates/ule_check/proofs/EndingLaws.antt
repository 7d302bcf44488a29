-- The faults behind the last entry, one after another.
use Rattle.std.proofs.Common.{◌≡◌, ℕ, ◌+◌, [], ◌∷◌, length, Option, Some, None, refl, sym, ◌∙◌, ap, arith}
use Rattle.std.proofs.lemmas.List.{drop_all}
use Rattle.ule_types.specs.Outcome.{OutcomeValue}
use Rattle.ule_types.specs.declared.setup.Setup.{Setup}
use Rattle.ule_model.specs.Finals.{thread_lines}
use Rattle.ule_model.specs.Legal.{amount_in_all}
use Rattle.ule_model.specs.Start.{starting_time}
use Rattle.ule_check.specs.Ending.{cpu_fault, end_fault, ending_faults, missing_from, thread_fault}
use Rattle.ule_check.specs.Judge.{Judge, first_fault}
use Rattle.ule_check.specs.Judged.{illegal_or, judged, judged_from}
use Rattle.ule_check.specs.JudgeValue.{HasJudgedFirst}
use Rattle.ule_check.specs.declared.judge.Judge as code
use Rattle.ule_check.specs.declared.verdicts.Fault.{Fault}
use Rattle.ule_check.specs.declared.verdicts.Verdict.TheVariants.{Legal}

-- of one fault it is the first
last_first : (d : Option Fault) → first_fault (d ∷ []) ≡ d
last_first None = refl
last_first (Some why) = refl

module _ (total : ℕ) (o : OutcomeValue) (j : Judge) (why : Fault) where
  pub end_missing : missing_from j.amount 0 j.courses ≡ Some why → Some why ≡ first_fault (ending_faults total o j)
  end_missing p = sym (λ i. first_fault (p i ∷ thread_fault (thread_lines j.world.members) o.threads ∷ cpu_fault 0 j.world.lines o.cpus ∷ end_fault (starting_time + total) o.now ∷ []))

  -- a line of a thread
  pub end_thread : missing_from j.amount 0 j.courses ≡ None → thread_fault (thread_lines j.world.members) o.threads ≡ Some why → Some why ≡ first_fault (ending_faults total o j)
  end_thread p q = sym (λ i. first_fault (p i ∷ q i ∷ cpu_fault 0 j.world.lines o.cpus ∷ end_fault (starting_time + total) o.now ∷ []))

  -- a line of a CPU
  pub end_cpu : missing_from j.amount 0 j.courses ≡ None → thread_fault (thread_lines j.world.members) o.threads ≡ None → cpu_fault 0 j.world.lines o.cpus ≡ Some why →
      Some why ≡ first_fault (ending_faults total o j)
  end_cpu p q r = sym (λ i. first_fault (p i ∷ q i ∷ r i ∷ end_fault (starting_time + total) o.now ∷ []))

-- the time at the end, or nothing
pub end_last : (total : ℕ) (o : OutcomeValue) (j : Judge) (d : Option Fault) → missing_from j.amount 0 j.courses ≡ None → thread_fault (thread_lines j.world.members) o.threads ≡ None →
    cpu_fault 0 j.world.lines o.cpus ≡ None →
    end_fault (starting_time + total) o.now ≡ d → d ≡ first_fault (ending_faults total o j)
end_last total o j d p q r t = sym ((λ i. first_fault (p i ∷ q i ∷ r i ∷ t i ∷ [])) ∙ last_first d)

-- the fault behind the last entry, or none, is the verdict
pub judged_ending : (s : Setup) (o : OutcomeValue) (v : code.Judge) (n : ℕ) (f : Option Fault) (first : HasJudgedFirst s o (length o.entries) v) → n ≡ length o.entries →
    f ≡ first_fault (ending_faults (amount_in_all s.scripts) o first.judge) → illegal_or (n + 1) f Legal ≡ judged s o
unfolding judged_from
judged_ending s o v n f first count is =
    (λ i. illegal_or (count i + 1) (is i) Legal) ∙
    ap (judged_from (amount_in_all s.scripts) o (length o.entries + 1) first.judge) (sym (drop_all (length o.entries) o.entries (omega arith))) ∙ first.rest

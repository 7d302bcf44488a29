-- The judgment of a trace: legal, or the first fault that stands, at the number of its entry.
use Rattle.std.specs.Prelude.{ℕ, ◌+◌, List, [], ◌∷◌, Option, Some, None}
use Rattle.ule_types.specs.Outcome.{OutcomeValue}
use Rattle.ule_types.specs.declared.event.Entry.{Entry}
use Rattle.ule_types.specs.declared.setup.Setup.{Setup}
use Rattle.ule_model.specs.Legal.{amount_in_all}
use Rattle.ule_check.specs.Ending.{ending_faults}
use Rattle.ule_check.specs.Judge.{Due, Judge, behind, due_at, faults_of, first_fault, judge_at_start}
use Rattle.ule_check.specs.declared.verdicts.Fault.{Fault}
use Rattle.ule_check.specs.declared.verdicts.Fault.TheVariants as fault
use Rattle.ule_check.specs.declared.verdicts.Verdict.{Verdict}
use Rattle.ule_check.specs.declared.verdicts.Verdict.TheVariants.{Legal, Illegal}

-- the verdict where this fault stands at entry k, or else another verdict
abbrev pub illegal_or : ℕ → Option Fault → Verdict → Verdict
illegal_or k None other = other
illegal_or k (Some why) other = Illegal k why

-- the verdict on entry k by its worker's next event, or on the entries behind it by the judge who went on
abbrev pub judged_entry : ℕ → ℕ → Judge → Entry → Option Due → (Judge → Verdict) → Verdict
judged_entry total k j e None others = Illegal k fault.Worker
judged_entry total k j e (Some due) others = illegal_or k (first_fault (faults_of total j due e)) (others (behind j due e))

-- the verdict on the entries from number k on, and on the end
unfoldable pub judged_from : ℕ → OutcomeValue → ℕ → Judge → List Entry → Verdict
judged_from total o k j [] = illegal_or k (first_fault (ending_faults total o j)) Legal
judged_from total o k j (e ∷ es) = judged_entry total k j e (due_at j e.worker) (λ after. judged_from total o (k + 1) after es)

-- the judgment of a trace of a setup
abbrev pub judged : Setup → OutcomeValue → Verdict
judged s o = judged_from (amount_in_all s.scripts) o 1 (judge_at_start s) o.entries

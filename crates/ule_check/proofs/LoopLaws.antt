-- The loop over the entries goes on as the definition's recursion.
use Rattle.std.proofs.Common.{◌≡◌, ℕ, ◌+◌, ◌≤◌, drop, slice_get, Option, Some, None, refl, sym, ◌∙◌, ap, arith}
use Rattle.ule_types.specs.Outcome.{OutcomeValue}
use Rattle.ule_types.specs.declared.event.Entry.{Entry}
use Rattle.ule_types.specs.declared.setup.Setup.{Setup}
use Rattle.ule_model.specs.Legal.{amount_in_all}
use Rattle.ule_members.proofs.Lists.{drop_at}
use Rattle.ule_check.specs.Judge.{Due, Judge, behind, due_at, judge_at_start}
use Rattle.ule_check.specs.Judged.{illegal_or, judged, judged_entry, judged_from}
use Rattle.ule_check.specs.JudgeValue.{HasJudged, HasJudgedFirst, IsJudge, entry_fault}
use Rattle.ule_check.specs.declared.judge.Judge as code
use Rattle.ule_check.specs.declared.verdicts.Fault.{Fault}
use Rattle.ule_check.specs.declared.verdicts.Verdict.{Verdict}
use Rattle.ule_check.specs.declared.verdicts.Verdict.TheVariants.{Illegal}
use Rattle.ule_check.proofs.Reached.{reached_left}

-- an entry with a fault is the verdict
faulty : (total k : ℕ) (j : Judge) (e : Entry) (due : Option Due) (others : Judge → Verdict) (why : Fault) → entry_fault total j e due ≡ Some why → judged_entry total k j e due others ≡ Illegal k why
faulty total k j e None others why is = ap (λ (o : Option Fault). illegal_or k o (Illegal k why)) is
faulty total k j e (Some due) others why is = ap (λ f. illegal_or k f (others (behind j due e))) is

-- no entry is judged yet
pub judged_none : (s : Setup) (o : OutcomeValue) (v : code.Judge) → IsJudge s 0 v (judge_at_start s) → HasJudgedFirst s o 0 v
judged_none s o v judge = record { judge = judge_at_start s; is = judge; rest = refl }

-- at most 65,536 are ever judged
pub judged_few : (s : Setup) (o : OutcomeValue) (i : ℕ) (v : code.Judge) → HasJudgedFirst s o i v → i ≤ 65536
judged_few s o i v first = omega (arith, reached_left s i first.judge first.is.reached)

module _ (s : Setup) (o : OutcomeValue) (i : ℕ) (v new : code.Judge) (first : HasJudgedFirst s o i v) (e : Entry) (got : slice_get o.entries i ≡ Some e) where
  -- the verdict on the entries behind the next
  abbrev others : Judge → Verdict
  others after = judged_from (amount_in_all s.scripts) o (i + 1 + 1) after (drop (i + 1) o.entries)

  -- the verdict on the next entry is the judgment
  next_is : judged_entry (amount_in_all s.scripts) (i + 1) first.judge e (due_at first.judge e.worker) others ≡ judged s o
  unfolding judged_from
  next_is = ap (judged_from (amount_in_all s.scripts) o (i + 1) first.judge) (sym (drop_at o.entries i e got)) ∙ first.rest

  -- an entry with a fault
  pub entry_illegal : (why : Fault) → HasJudged s i first.judge e new (Some why) → Illegal (i + 1) why ≡ judged s o
  entry_illegal why made = sym (faulty (amount_in_all s.scripts) (i + 1) first.judge e (due_at first.judge e.worker) others why made.some) ∙ next_is

  -- an entry without one
  pub entry_more : HasJudged s i first.judge e new None → HasJudgedFirst s o (i + 1) new
  entry_more made =
      let done = made.none refl in
      record {
        judge = behind first.judge done.due e;
        is = done.judge;
        rest = sym (ap (λ due. judged_entry (amount_in_all s.scripts) (i + 1) first.judge e due others) done.due_is ∙
            ap (λ f. illegal_or (i + 1) f (others (behind first.judge done.due e))) done.none) ∙ next_is;
      }

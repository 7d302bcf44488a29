-- What the judgment means: it is legal exactly for a whole legal history and its end.
use Rattle.std.specs.Prelude.{◌≡◌}
use Rattle.ule_types.specs.Outcome.{OutcomeValue}
use Rattle.ule_types.specs.declared.setup.Setup.{Setup}
use Rattle.ule_model.specs.Ends.{outcome_of}
use Rattle.ule_model.specs.Legal.{IsLegal, IsWhole}
use Rattle.ule_seq.specs.Outcomes.{IsOutcomeOf}
use Rattle.ule_check.specs.Judged.{judged}
use Rattle.ule_check.specs.declared.verdicts.Verdict.TheVariants.{Legal}

-- a trace tells a whole legal history of a setup's scripts, and its end
pub record TellsWhole (s : Setup) (o : OutcomeValue) : Type 0 where
  pub legal : IsLegal s s.scripts o.entries
  pub whole : IsWhole s s.scripts o.entries
  pub lines : record o { room = 0 } ≡ outcome_of s s.scripts o.entries

-- what is judged legal tells a whole legal history
abbrev pub LegalIsWhole : Type 0
LegalIsWhole = (s : Setup) (o : OutcomeValue) → judged s o ≡ Legal → TellsWhole s o

-- what tells a whole legal history is judged legal
abbrev pub WholeIsLegal : Type 0
WholeIsLegal = (s : Setup) (o : OutcomeValue) → TellsWhole s o → judged s o ≡ Legal

-- the outcome of the rounds of a setup is judged legal
abbrev pub RunsAreLegal : Type 0
RunsAreLegal = (s : Setup) (o : OutcomeValue) → IsOutcomeOf s o → judged s o ≡ Legal

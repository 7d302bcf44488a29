-- What is common to the tasks that read a scenario alone, and write one text.
use Rattle.std.specs.Prelude.{◌≡◌, ℕ, List}
use Rattle.ule_scenario.specs.Scenario.{read_bytes}
use Rattle.ule_task.specs.Input.{Intake, Told}
use Rattle.ule_types.specs.declared.setup.Setup.{Setup}

-- the most bytes that a scenario may have
abbrev pub scenario_limit : ℕ
scenario_limit = 1048576

-- the input is a scenario
abbrev pub scenario_intake : Intake
scenario_intake = record { limit = scenario_limit; told = λ input. read_bytes input }

-- a text of the setup is due, and it is told by 0
abbrev pub text_alone : (Setup → List ℕ → Type 0) → List ℕ → Setup → Told → Type 0
text_alone IsTextOf input s due = (due.status ≡ 0) × IsTextOf s due.text

-- the one text of the setup is due, and it is told by 0
abbrev pub one_text : (Setup → List ℕ) → List ℕ → Setup → Told → Type 0
one_text text_of = text_alone (λ s text. text ≡ text_of s)

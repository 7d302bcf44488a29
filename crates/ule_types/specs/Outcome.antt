-- An outcome as contracts see it: the entries of a history and its final lines.
use Rattle.std.specs.Prelude.{ℕ, ◌+◌, ◌<◌, ◌≤◌, nat_lt, List, [], ◌∷◌, ◌++◌, take, drop, filter}
use Rattle.ule_score.specs.declared.record.CpuLine.{CpuLine}
use Rattle.ule_types.specs.declared.event.Entry.{Entry}
use Rattle.ule_types.specs.declared.outcome.ThreadLine.{ThreadLine}

-- what a trace tells, and how many entries can still be noted
pub record OutcomeValue : Type 0 where
  pub entries : List Entry
  pub threads : List ThreadLine
  pub cpus : List CpuLine
  pub now : ℕ
  pub room : ℕ

-- the lines with this one in its place by rising id, instead of one with its id
abbrev pub placed : ThreadLine → List ThreadLine → List ThreadLine
placed l lines = filter (λ m. nat_lt m.id l.id) lines ++ l ∷ filter (λ m. nat_lt l.id m.id) lines

-- the lines with this one as line c, which is among them or the next
abbrev pub with_cpu : ℕ → CpuLine → List CpuLine → List CpuLine
with_cpu c l lines = take c lines ++ l ∷ drop (c + 1) lines

-- whether the ids rise from this number on, below 256
abbrev pub RisesFrom : ℕ → List ThreadLine → Type 0
RisesFrom low [] = Unit {0}
RisesFrom low (l ∷ lines) = (low ≤ l.id) × (l.id < 256) × RisesFrom (l.id + 1) lines

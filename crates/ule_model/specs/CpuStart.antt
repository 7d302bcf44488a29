-- A CPU before any thread is laid on it.
use Rattle.std.specs.Prelude.{◌≡◌, ◌==◌, ℕ, [], None, length, replicate, if◌then◌else◌}
use Rattle.ule_score.specs.declared.record.CpuLine.{CpuLine}
use Rattle.ule_score.specs.declared.record.Settings.{Settings}
use Rattle.ule_model.specs.CpuValue.{CpuValue, thread_in}
use Rattle.ule_model.specs.Start.{balance_count, stepped_word}
use Rattle.ule_model.specs.World.{fresh_line}

-- CPU 0 starts with a balance count from a draw of its balance word; the others have no count
abbrev pub word_at_start : ℕ → ℕ → ℕ
word_at_start cpu word = if cpu == 0 then stepped_word word else word

abbrev pub line_at_start : ℕ → ℕ → CpuLine
line_at_start cpu word = record fresh_line { balance = if cpu == 0 then balance_count (stepped_word word) else 0 }

-- a CPU without threads, whose balance word starts as this
pub record StartsAs (v : CpuValue) (c : ℕ) (s : Settings) (word : ℕ) : Type 0 where
  pub cpu : v.cpu ≡ c
  pub settings : v.settings ≡ s
  pub slots : length v.threads ≡ 256
  pub threads : (t : ℕ) → thread_in v t ≡ None
  pub current : v.current ≡ None
  pub load : v.load ≡ 0
  pub real : v.real ≡ replicate 64 []
  pub batch : v.batch ≡ replicate 64 []
  pub idle : v.idle ≡ replicate 64 []
  pub line : v.line ≡ line_at_start c word
  pub balance_word : v.balance_word ≡ word_at_start c word

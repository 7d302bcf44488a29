-- The jitter word and what it draws.
use Rattle.std.specs.Prelude.{ℕ, zero, suc, ◌+◌, ◌*◌, ◌/◌, ◌%◌, ◌^◌}

-- the word after a step
abbrev pub stepped_word : ℕ → ℕ
stepped_word x = (x * 69069 + 5) % 2 ^ 32

-- what a search draws from a word after its step, 0..63
abbrev pub draw_of_word : ℕ → ℕ
draw_of_word x = x / 2 ^ 26

-- the word after so many steps
unfoldable pub word_after_steps : ℕ → ℕ → ℕ
word_after_steps zero x = x
word_after_steps (suc n) x = stepped_word (word_after_steps n x)

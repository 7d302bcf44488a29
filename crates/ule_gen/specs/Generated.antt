-- The commands that the generator draws.
use Rattle.std.specs.Prelude.{ℕ, zero, suc, ◌+◌, ◌/◌, ◌%◌, nat_lt, if◌then◌else◌, List, [], ◌∷◌, ◌++◌}
use Rattle.ule_search.specs.Jitter.{stepped_word}
use Rattle.ule_types.specs.declared.command.Command.{Command}
use Rattle.ule_types.specs.declared.command.Command.TheVariants as command
use Rattle.ule_gen.specs.declared.draw.Drawn.{Drawn}

-- the number below another that a word draws
abbrev pub drawn_below : ℕ → ℕ → ℕ
drawn_below n word = (word / 65536) % n

-- a command, with the word after its last draw
abbrev pub drawn : Command → ℕ → Drawn
drawn c word = record { command = c; word = word }

-- a command that names a thread of 24, by one more draw, whose word this is
abbrev pub naming : (ℕ → Command) → ℕ → Drawn
naming c word = drawn (c (drawn_below 24 word)) word

-- the lending of priority 100 to a thread
abbrev pub lends : ℕ → Command
lends t = command.Lend t 100

-- a row of the table of commands: the draws below this number, as far as no row before has them, give this
abbrev pub Row : Type 0
Row = ℕ × Drawn

-- what the first row that has a draw gives, or else the last command
abbrev pub first_above : ℕ → List Row → Drawn → Drawn
first_above d [] last = last
first_above d (row ∷ rows) last = if nat_lt d row.0 then row.1 else first_above d rows last

-- the table of commands, by the word of the draw and the word after one more
abbrev pub rows : ℕ → ℕ → List Row
rows word next =
    (5, drawn command.Tick word) ∷
    (7, drawn (command.Time 8) word) ∷
    (9, drawn command.Yield word) ∷
    (10, drawn command.Resched word) ∷
    (11, drawn (command.Sleep (drawn_below 4 next)) next) ∷
    (13, naming command.Wake next) ∷
    (14, drawn command.Idle word) ∷
    (15, naming lends next) ∷ []

-- a command by a draw below 16, with the word of the draw
abbrev pub command_by : ℕ → ℕ → Drawn
command_by d word = first_above d (rows word (stepped_word word)) (naming command.Unlend (stepped_word word))

-- the next command behind a word
unfoldable pub generated : ℕ → Drawn
generated word = command_by (drawn_below 16 (stepped_word word)) (stepped_word word)

-- the word behind so many commands
unfoldable pub word_behind : ℕ → ℕ → ℕ
word_behind zero word = word
word_behind (suc n) word = (generated (word_behind n word)).word

-- so many commands behind a word
unfoldable pub commands : ℕ → ℕ → List Command
commands zero word = []
commands (suc n) word = commands n word ++ (generated (word_behind n word)).command ∷ []

-- a worker's script: so many commands, the fork of its unborn thread, and a balance
abbrev pub script : ℕ → ℕ → ℕ → List Command
script worker n word = commands n word ++ command.Fork (24 + worker) ∷ command.Balance ∷ []

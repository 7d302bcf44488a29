-- The plain text of a setup: one spelling of it, line by line.
use Rattle.std.specs.Prelude.{ℕ, ◌+◌, ◌/◌, List, [], ◌∷◌, ◌++◌, length, map, take, codes}
use Rattle.ule_score.specs.declared.record.Settings.{Settings}
use Rattle.ule_topo.specs.Mask.{below}
use Rattle.ule_trace.specs.Line.{lines_text}
use Rattle.ule_types.specs.declared.command.Command.{Command}
use Rattle.ule_types.specs.declared.setup.Setup.{Setup}
use Rattle.ule_plain.specs.Commands.{command_words}
use Rattle.ule_plain.specs.Lines.{header_words, setting_words, jitter_words, cpus_words, group_words, thread_words, unborn_words, script_words, weave_words, turns_words, turns_of_line, end_words}

-- the settings, in their order
abbrev pub setting_lines : Settings → List (List (List ℕ))
setting_lines s =
    setting_words (codes "interact") s.interact ∷ setting_words (codes "slice") s.slice ∷
    setting_words (codes "preempt") s.preempt ∷ setting_words (codes "steal") s.steal ∷ []

-- up to the number of CPUs
abbrev pub opening_lines : Settings → ℕ → ℕ → List (List (List ℕ))
opening_lines settings jitter cpus = header_words ∷ setting_lines settings ++ (jitter_words jitter ∷ cpus_words cpus ∷ [])

-- a worker's script
abbrev pub script_lines : ℕ → List Command → List (List (List ℕ))
script_lines worker commands = script_words worker ∷ map command_words commands

-- the scripts of the workers from this one on
abbrev pub scripts_lines : ℕ → List (List Command) → List (List (List ℕ))
scripts_lines worker [] = []
scripts_lines worker (commands ∷ scripts) = script_lines worker commands ++ scripts_lines (worker + 1) scripts

-- how many lines so many turns take
abbrev pub lines_of_turns : ℕ → ℕ
lines_of_turns n = (n + 63) / 64

-- the turns, 64 a line
abbrev pub turn_lines : List ℕ → List (List (List ℕ))
turn_lines turns = map (λ k. turns_words (turns_of_line turns k)) (below (lines_of_turns (length turns)))

-- the section of turns, if there are turns
abbrev pub weave_lines : List ℕ → List (List (List ℕ))
weave_lines [] = []
weave_lines (w ∷ turns) = weave_words ∷ turn_lines (w ∷ turns)

-- all lines: each CPU's worker has a script, if an empty one
abbrev pub plain_lines : Setup → List (List (List ℕ))
plain_lines s =
    opening_lines s.settings s.jitter s.cpus ++
    (map group_words s.groups ++
    (map thread_words s.threads ++
    (map unborn_words s.unborn ++
    (scripts_lines 0 (take s.cpus s.scripts) ++
    (weave_lines s.turns ++ end_words ∷ [])))))

-- the plain text
unfoldable pub plain_text : Setup → List ℕ
plain_text s = lines_text (plain_lines s)

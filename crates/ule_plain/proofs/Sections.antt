-- What is left of a setup's plain text behind each of its sections.
use Rattle.std.proofs.Common.{◌≡◌, ℕ, List, [], ◌∷◌, ◌++◌, map, take, sym, ap, ◌∙◌}
use Rattle.ule_io.specs.Sink.{SinkState}
use Rattle.ule_trace.proofs.Progress.{Holds, spelled}
use Rattle.ule_trace.specs.Line.{lines_text}
use Rattle.ule_topo.specs.declared.group.GroupLine.{GroupLine}
use Rattle.ule_types.specs.declared.setup.Setup.{Setup}
use Rattle.ule_types.specs.declared.setup.ThreadSpec.{ThreadSpec}
use Rattle.ule_plain.proofs.Leading.{lines_cut}
use Rattle.ule_plain.proofs.Sending.{unsent}
use Rattle.ule_plain.specs.Lines.{group_words, thread_words, unborn_words, end_words}
use Rattle.ule_plain.specs.Text.{opening_lines, scripts_lines, weave_lines, plain_text}

-- behind the turns
abbrev pub lines_behind_turns : List (List (List ℕ))
lines_behind_turns = end_words ∷ []

-- behind the scripts
abbrev pub lines_behind_scripts : Setup → List (List (List ℕ))
lines_behind_scripts s = weave_lines s.turns ++ lines_behind_turns

-- behind the unborn threads
abbrev pub lines_behind_unborn : Setup → List (List (List ℕ))
lines_behind_unborn s = scripts_lines 0 (take s.cpus s.scripts) ++ lines_behind_scripts s

-- behind the threads
abbrev pub lines_behind_threads : Setup → List (List (List ℕ))
lines_behind_threads s = map unborn_words s.unborn ++ lines_behind_unborn s

-- behind the groups
abbrev pub lines_behind_groups : Setup → List (List (List ℕ))
lines_behind_groups s = map thread_words s.threads ++ lines_behind_threads s

-- behind the number of CPUs
abbrev pub lines_behind_opening : Setup → List (List (List ℕ))
lines_behind_opening s = map group_words s.groups ++ lines_behind_groups s

-- each section and what is behind it
pub opening_cut : (s : Setup) → plain_text s ≡ lines_text (opening_lines s.settings s.jitter s.cpus) ++ lines_text (lines_behind_opening s)
unfolding plain_text
opening_cut s = lines_cut (opening_lines s.settings s.jitter s.cpus) (lines_behind_opening s)

pub groups_cut : (s : Setup) (xs : List GroupLine) → xs ≡ s.groups → lines_text (lines_behind_opening s) ≡ lines_text (map group_words xs) ++ lines_text (lines_behind_groups s)
groups_cut s xs is = lines_cut (map group_words s.groups) (lines_behind_groups s) ∙ ap (λ ys. lines_text (map group_words ys) ++ lines_text (lines_behind_groups s)) (sym is)

pub threads_cut : (s : Setup) (xs : List ThreadSpec) → xs ≡ s.threads → lines_text (lines_behind_groups s) ≡ lines_text (map thread_words xs) ++ lines_text (lines_behind_threads s)
threads_cut s xs is = lines_cut (map thread_words s.threads) (lines_behind_threads s) ∙ ap (λ ys. lines_text (map thread_words ys) ++ lines_text (lines_behind_threads s)) (sym is)

pub unborn_cut : (s : Setup) (xs : List ℕ) → xs ≡ s.unborn → lines_text (lines_behind_threads s) ≡ lines_text (map unborn_words xs) ++ lines_text (lines_behind_unborn s)
unborn_cut s xs is = lines_cut (map unborn_words s.unborn) (lines_behind_unborn s) ∙ ap (λ ys. lines_text (map unborn_words ys) ++ lines_text (lines_behind_unborn s)) (sym is)

pub scripts_cut : (s : Setup) → lines_text (lines_behind_unborn s) ≡ lines_text (scripts_lines 0 (take s.cpus s.scripts)) ++ lines_text (lines_behind_scripts s)
scripts_cut s = lines_cut (scripts_lines 0 (take s.cpus s.scripts)) (lines_behind_scripts s)

pub turns_cut : (s : Setup) (xs : List ℕ) → xs ≡ s.turns → lines_text (lines_behind_scripts s) ≡ lines_text (weave_lines xs) ++ lines_text lines_behind_turns
turns_cut s xs is = lines_cut (weave_lines s.turns) lines_behind_turns ∙ ap (λ ys. lines_text (weave_lines ys) ++ lines_text lines_behind_turns) (sym is)

-- the first section was spelled behind nothing
pub opening_spelled : (state : SinkState) (s : Setup) (none held : List ℕ) → none ≡ [] → held ≡ none ++ lines_text (opening_lines s.settings s.jitter s.cpus) →
    Holds state state held (lines_text (lines_behind_opening s)) (plain_text s)
opening_spelled state s none held empty is =
    let first = lines_text (opening_lines s.settings s.jitter s.cpus) in
    let whole : held ≡ first = is ∙ ap (λ xs. xs ++ first) empty in
    rw whole (spelled first (lines_text (lines_behind_opening s)) (unsent state [] (plain_text s)) (opening_cut s))

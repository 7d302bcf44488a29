-- The text of a trace: a history's entries, numbered from 1, and its final lines.
use Rattle.std.specs.Prelude.{ℕ, ◌+◌, List, [], ◌∷◌, ◌++◌, length, map, codes}
use Rattle.std.specs.Fmt.{decimal}
use Rattle.ule_score.specs.declared.record.CpuLine.{CpuLine}
use Rattle.ule_trace.specs.Line.{lines_text, worker_word}
use Rattle.ule_trace.specs.EventText.{event_words}
use Rattle.ule_trace.specs.ReplyText.{reply_words}
use Rattle.ule_trace.specs.FinalText.{final_words, cpu_words}
use Rattle.ule_types.specs.declared.event.Entry.{Entry}
use Rattle.ule_types.specs.Outcome.{OutcomeValue}

-- an entry's line, with its number
abbrev pub entry_words : ℕ → Entry → List (List ℕ)
entry_words k e =
    decimal k ∷ worker_word e.worker ∷ decimal e.now ∷ event_words e.event ++ codes "->" ∷ reply_words e.reply

-- the lines of entries that are numbered from this number on
abbrev pub entry_lines : ℕ → List Entry → List (List (List ℕ))
entry_lines k [] = []
entry_lines k (e ∷ entries) = entry_words k e ∷ entry_lines (k + 1) entries

-- the lines of CPUs that are numbered from this number on
abbrev pub cpu_lines : ℕ → List CpuLine → List (List (List ℕ))
cpu_lines c [] = []
cpu_lines c (l ∷ lines) = cpu_words c l ∷ cpu_lines (c + 1) lines

-- the last two lines: the time at the end and the number of entries
abbrev pub closing_lines : ℕ → ℕ → List (List (List ℕ))
closing_lines now count = (codes "now" ∷ decimal now ∷ []) ∷ (codes "done" ∷ decimal count ∷ []) ∷ []

-- all lines of a trace
abbrev pub trace_lines : OutcomeValue → List (List (List ℕ))
trace_lines o =
    (codes "ule-trace" ∷ codes "1" ∷ []) ∷ entry_lines 1 o.entries ++
    (map final_words o.threads ++ (cpu_lines 0 o.cpus ++ closing_lines o.now (length o.entries)))

-- a trace
abbrev pub trace_text : OutcomeValue → List ℕ
trace_text o = lines_text (trace_lines o)

-- The line that tells a verdict on a trace, and the one that tells where a text is no trace.
use Rattle.std.specs.Fmt.{decimal}
use Rattle.std.specs.Prelude.{ℕ, List, [], ◌∷◌, ◌++◌, codes}
use Rattle.ule_check.specs.declared.verdicts.Fault.{Fault}
use Rattle.ule_check.specs.declared.verdicts.Fault.TheVariants as fault
use Rattle.ule_check.specs.declared.verdicts.FinalName.{FinalName}
use Rattle.ule_check.specs.declared.verdicts.FinalName.TheVariants as name
use Rattle.ule_check.specs.declared.verdicts.Verdict.{Verdict}
use Rattle.ule_check.specs.declared.verdicts.Verdict.TheVariants.{Legal, Illegal}
use Rattle.ule_trace.specs.EventText.{event_words}
use Rattle.ule_trace.specs.Line.{line_text}
use Rattle.ule_trace.specs.ReplyText.{reply_text, reply_words}
use Rattle.ule_types.specs.declared.event.Reply.{Reply}

-- the words that name a final line
abbrev pub final_words : FinalName → List (List ℕ)
final_words (name.Thread t) = codes "t" ∷ decimal t ∷ []
final_words (name.Cpu c) = codes "c" ∷ decimal c ∷ []
final_words name.Now = codes "now" ∷ []

-- the words that tell a fault: of a reply the one that was expected, a bar, and the one that was found
abbrev pub fault_words : Fault → List (List ℕ)
fault_words fault.Worker = codes "worker" ∷ []
fault_words (fault.Event e) = codes "event" ∷ event_words e
fault_words (fault.Hand w) = codes "hand" ∷ decimal w ∷ []
fault_words fault.Now = codes "now" ∷ []
fault_words (fault.Reply expected found) = codes "reply" ∷ reply_words expected ++ codes "|" ∷ reply_words found
fault_words (fault.Missing w) = codes "missing" ∷ decimal w ∷ []
fault_words (fault.Final name) = codes "final" ∷ final_words name

-- the first words of the line of a fault of entry k, up to the one that names it
abbrev pub fault_front : ℕ → List ℕ → List (List ℕ)
fault_front k name = codes "illegal" ∷ decimal k ∷ name ∷ []

-- the line of a fault of entry k
abbrev pub fault_text : ℕ → Fault → List ℕ
fault_text k why = line_text (codes "illegal" ∷ decimal k ∷ fault_words why)

-- the end of such a line behind the reply that was expected: a bar and the one that was found
abbrev pub found_text : Reply → List ℕ
found_text found = codes " | " ++ (reply_text found ++ 10 ∷ [])

-- the line of a verdict on a trace with so many entries
abbrev pub verdict_text : ℕ → Verdict → List ℕ
verdict_text count Legal = line_text (codes "legal" ∷ decimal count ∷ [])
verdict_text count (Illegal k why) = fault_text k why

-- the line of a text that is no trace: the first of its lines at which it begins none
abbrev pub bad_text : ℕ → List ℕ
bad_text line = line_text (codes "bad" ∷ decimal line ∷ [])

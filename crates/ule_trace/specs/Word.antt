-- The words that the writer puts into a line.
use Rattle.std.specs.Prelude.{ℕ, Bool, true, List, length, nat_le, codes}
use Rattle.std.specs.Fmt.{decimal, signed_decimal}
use Rattle.ule_trace.specs.Line.{flag_word}
use Rattle.ule_trace.specs.declared.word.Word.{Word}
use Rattle.ule_trace.specs.declared.word.Word.TheVariants.{Text, Number, Signed, Flag, Absent}

-- a word's bytes
abbrev pub word_text : Word → List ℕ
word_text (Text t) = t.now
word_text (Number n) = decimal n
word_text (Signed z) = signed_decimal z
word_text (Flag b) = flag_word b
word_text Absent = codes "-"

-- whether a word is at most 24 bytes long
abbrev pub is_short : Word → Bool
is_short (Text t) = nat_le (length t.now) 24
is_short (Number n) = true
is_short (Signed z) = true
is_short (Flag b) = true
is_short Absent = true

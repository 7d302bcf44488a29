-- What is kept of a word of which more bytes may come.
use Rattle.ule_text.specs.Words.{Word}
use Rattle.ule_text.specs.Numerals.{is_negative, unsigned, digits_of}
use Rattle.ule_text.specs.WordFront.{front_of}
use Rattle.ule_text.specs.declared.word.WordSoFar.{WordSoFar}

-- what is kept of a word: its first bytes, whether it begins with a minus, and the number behind that
unfoldable pub so_far : Word → WordSoFar
so_far word = record { front = front_of word; minus = is_negative word; digits = digits_of (unsigned word) }

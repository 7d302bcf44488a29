-- What is kept of the first words of a line as its fields have it.
use Rattle.ule_scenario.specs.WordsValue.{WordsValue}
use Rattle.ule_scenario.specs.declared.words.FirstWords.TheInside.{Inside}

-- what the fields show of the words
abbrev pub words_shown : Inside → WordsValue
words_shown a = record { words = a.words.items; count = a.count }

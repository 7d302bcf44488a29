-- What is kept of a line.
use Rattle.std.specs.Prelude.{ℕ, min, nat_lt, List, length, map, take, drop}
use Rattle.std.specs.List.{list_any}
use Rattle.ule_text.specs.Words.{Cut, cut, is_unprinted}
use Rattle.ule_text.specs.SoFar.{so_far}
use Rattle.ule_scenario.specs.Tokens.{token_of}
use Rattle.ule_scenario.specs.TailKept.{turns_kept, cpus_kept}
use Rattle.ule_scenario.specs.WordsValue.{WordsValue}
use Rattle.ule_scenario.specs.declared.token.Token.{Token}
use Rattle.ule_scenario.specs.declared.words.Words.{Words}
use Rattle.ule_scenario.specs.declared.line.Pieces.{Pieces}
use Rattle.ule_scenario.specs.declared.line.LineSoFar.{LineSoFar}

-- the first six words, and how many there are, 7 for more than 6
abbrev pub first_words : List Token → WordsValue
first_words line = record { words = take 6 line; count = min 7 (length line) }

-- what is kept of the words of a line
abbrev pub seen : List Token → Words
seen line = record { first = first_words line; turns = turns_kept (drop 1 line); cpus = cpus_kept (drop 3 line) }

-- what is kept of a line up to a byte
abbrev pub pieces_kept : Cut → Pieces
pieces_kept c = record { words = seen (map token_of c.words); word = so_far c.word }

-- what is kept of a line of which more bytes may come
abbrev pub line_kept : List ℕ → LineSoFar
line_kept bytes = record { any = nat_lt 0 (length bytes); bad = list_any is_unprinted bytes; pieces = pieces_kept (cut bytes) }

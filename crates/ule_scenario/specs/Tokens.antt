-- What counts of a word, and of a line.
use Rattle.std.specs.Prelude.{ℕ, ◌==◌, false, Bool, None, List, map, slice_index}
use Rattle.ule_text.specs.Words.{Word, words_of}
use Rattle.ule_text.specs.Numerals.{number_of, is_negative, unsigned}
use Rattle.ule_scenario.specs.Names.{name_of}
use Rattle.ule_scenario.specs.declared.token.Token.{Token}
use Rattle.ule_scenario.specs.declared.name.Name.TheVariants.{Other}

-- whether a word begins a comment: with a hash (35)
abbrev pub is_comment : Word → Bool
is_comment word = slice_index word 0 == 35

-- the name that a word is, whether it begins a comment or has a minus, and the number without the minus
unfoldable pub token_of : Word → Token
token_of word = record { name = name_of word; comment = is_comment word; minus = is_negative word; number = number_of (unsigned word) }

-- no word
abbrev pub no_token : Token
no_token = record { name = Other; comment = false; minus = false; number = None }

-- the words of a line
abbrev pub tokens_of : List ℕ → List Token
tokens_of bytes = map token_of (words_of bytes)

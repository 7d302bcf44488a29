-- A script as it is written, command by command.
use Rattle.std.proofs.Common.{◌≡◌, ℕ, zero, suc, ◌+◌, ◌<◌, List, [], ◌∷◌, ◌++◌, length, map, set, get_or, refl, sym, ap, ◌∙◌, add-one, arith}
use Rattle.std.specs.Prelude.{slice_set, slice_index_or}
use Rattle.std.specs.List.{range_with_len}
use Rattle.std.proofs.lemmas.List.{append_assoc, get_or-set_same, length-append, length-set, set-get_or, set-set}
use Rattle.ule_types.specs.declared.command.Command.{Command}
use Rattle.ule_types.specs.declared.command.Command.TheVariants as command
use Rattle.ule_gen.specs.Generated.{commands, generated, word_behind}

-- a command more in a script that was written
pub pushed : (scripts : List (List Command)) (w : ℕ) (cs : List Command) (c : Command) → w < length scripts →
    slice_set (slice_set scripts w cs) w (slice_index_or (slice_set scripts w cs) w [] ++ c ∷ []) ≡ slice_set scripts w (cs ++ c ∷ [])
pushed scripts w cs c within =
    rw (get_or-set_same scripts w cs [] within) (set-set scripts w cs (cs ++ c ∷ []))

-- two commands more, one after the other
pub ended : (scripts : List (List Command)) (w : ℕ) (a b : Command) → w < length scripts →
    slice_set (slice_set scripts w (slice_index_or scripts w [] ++ a ∷ [])) w (slice_index_or (slice_set scripts w (slice_index_or scripts w [] ++ a ∷ [])) w [] ++ b ∷ [])
    ≡ slice_set scripts w (slice_index_or scripts w [] ++ a ∷ b ∷ [])
ended scripts w a b within =
    pushed scripts w (get_or scripts w [] ++ a ∷ []) b within ∙ ap (slice_set scripts w) (append_assoc (get_or scripts w []) (a ∷ []) (b ∷ []))

-- a script that is empty is written with no command
pub unwritten : (scripts : List (List Command)) (w : ℕ) → slice_index_or scripts w [] ≡ [] → slice_set scripts w [] ≡ scripts
unwritten scripts w empty = rw (← empty) (set-get_or scripts w [])

-- how many commands there are
pub length-commands : (n word : ℕ) → length (commands n word) ≡ n
unfolding commands
length-commands zero word = refl
length-commands (suc n) word = rw (length-append (commands n word) ((generated (word_behind n word)).command ∷ [])) (omega (arith, length-commands n word))

-- one command more, and the word behind it
pub one_more : (n word : ℕ) → commands (n + 1) word ≡ commands n word ++ (generated (word_behind n word)).command ∷ []
unfolding commands
one_more n word = rw (add-one n) refl

pub word_more : (n word : ℕ) → word_behind (n + 1) word ≡ (generated (word_behind n word)).word
unfolding word_behind
word_more n word = rw (add-one n) refl

-- what is known while a script is written: its room, and that there is one
pub drawn_so_far : (scripts old : List (List Command)) (w n word : ℕ) → w < length old → scripts ≡ slice_set old w (commands n word) → length (slice_index_or scripts w []) ≡ n
drawn_so_far scripts old w n word within is = rw (is, get_or-set_same old w (commands n word) [] within) (length-commands n word)

pub count_kept : (scripts old : List (List Command)) (w : ℕ) (cs : List Command) → scripts ≡ slice_set old w cs → length scripts ≡ length old
count_kept scripts old w cs is = rw is (length-set old w cs)

-- one command more was written
pub written_more : (scripts old new : List (List Command)) (w n word : ℕ) (c : Command) → w < length old → scripts ≡ slice_set old w (commands n word) →
    c ≡ (generated (word_behind n word)).command → new ≡ slice_set scripts w (slice_index_or scripts w [] ++ c ∷ []) → new ≡ slice_set old w (commands (n + 1) word)
written_more scripts old new w n word c within is drawn more =
    rw (more, is, drawn, one_more n word) (pushed old w (commands n word) (generated (word_behind n word)).command within)

-- the whole script was written
pub written_whole : (scripts old new : List (List Command)) (w n word : ℕ) (ending : List Command) → w < length old → scripts ≡ slice_set old w (commands n word) →
    new ≡ slice_set scripts w (slice_index_or scripts w [] ++ ending) → new ≡ slice_set old w (commands n word ++ ending)
written_whole scripts old new w n word ending within is more =
    rw (more, is, get_or-set_same old w (commands n word) [] within) (set-set old w (commands n word) (commands n word ++ ending))

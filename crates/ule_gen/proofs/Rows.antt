-- Worked draws, by computing: the first words of 1 and the commands that they draw.
use Rattle.std.proofs.Common.{◌≡◌, [], ◌∷◌, refl}
use Rattle.ule_search.specs.Jitter.{stepped_word}
use Rattle.ule_types.specs.declared.command.Command.TheVariants.{Tick, Idle, Unlend, Fork, Balance}
use Rattle.ule_gen.specs.Generated.{generated, word_behind, commands, script}

-- the first words: 69074, 475904815, 884950952, 997714317, 2674863854, 2153294491
first_words :
    (stepped_word 1 ≡ 69074) ×
    (stepped_word 69074 ≡ 475904815) ×
    (stepped_word 475904815 ≡ 884950952) ×
    (stepped_word 884950952 ≡ 997714317) ×
    (stepped_word 997714317 ≡ 2674863854) ×
    (stepped_word 2674863854 ≡ 2153294491)
first_words = (refl, refl, refl, refl, refl, refl)

-- the generated commands of 1, one for each worker; two of them draw a thread
one_each :
    (script 0 1 1 ≡ Tick ∷ Fork 24 ∷ Balance ∷ []) ×
    (script 1 1 69074 ≡ Idle ∷ Fork 25 ∷ Balance ∷ []) ×
    (script 2 1 475904815 ≡ Unlend 7 ∷ Fork 26 ∷ Balance ∷ []) ×
    (script 3 1 997714317 ≡ Unlend 0 ∷ Fork 27 ∷ Balance ∷ [])
unfolding generated word_behind commands
one_each = (refl, refl, refl, refl)

-- and the words behind them
words_behind :
    (word_behind 1 1 ≡ 69074) ×
    (word_behind 1 69074 ≡ 475904815) ×
    (word_behind 1 475904815 ≡ 997714317)
unfolding generated word_behind
words_behind = (refl, refl, refl)

-- The words of a command's line.
use Rattle.std.specs.Prelude.{ℕ, List, [], ◌∷◌, codes}
use Rattle.std.specs.Fmt.{decimal, signed_decimal}
use Rattle.ule_types.specs.declared.command.Command.{Command}
use Rattle.ule_types.specs.declared.command.Command.TheVariants.{Tick, Time, Yield, Resched, Sleep, Wake, Lend, Unlend, Renice, Fork, Exit, Idle, Balance, Look}

-- a command's words
abbrev pub command_words : Command → List (List ℕ)
command_words Tick = codes "tick" ∷ []
command_words (Time k) = codes "time" ∷ decimal k ∷ []
command_words Yield = codes "yield" ∷ []
command_words Resched = codes "resched" ∷ []
command_words (Sleep channel) = codes "sleep" ∷ decimal channel ∷ []
command_words (Wake t) = codes "wake" ∷ decimal t ∷ []
command_words (Lend t p) = codes "lend" ∷ decimal t ∷ decimal p ∷ []
command_words (Unlend t) = codes "unlend" ∷ decimal t ∷ []
command_words (Renice t n) = codes "renice" ∷ decimal t ∷ signed_decimal n ∷ []
command_words (Fork t) = codes "fork" ∷ decimal t ∷ []
command_words Exit = codes "exit" ∷ []
command_words Idle = codes "idle" ∷ []
command_words Balance = codes "balance" ∷ []
command_words (Look c) = codes "look" ∷ decimal c ∷ []

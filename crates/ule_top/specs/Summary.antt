-- What the task `gen` writes: the setup of a number is played in rounds, and told in one line of counts.
use Rattle.std.specs.Fmt.{decimal}
use Rattle.std.specs.Prelude.{ℕ, Bool, true, false, List, [], ◌∷◌, length, filter, codes, IfOk, Result}
use Rattle.ule_gen.specs.Made.{IsMade}
use Rattle.ule_io.specs.declared.Memory.{Memory}
use Rattle.ule_model.specs.Ends.{outcome_of}
use Rattle.ule_model.specs.Rounds.{play_of}
use Rattle.ule_seq.specs.Outcomes.{IsOutcomeOf}
use Rattle.ule_top.specs.declared.summary.Counted.{Counted}
use Rattle.ule_top.specs.declared.summary.Counted.TheVariants as counted
use Rattle.ule_trace.specs.Line.{line_text}
use Rattle.ule_types.specs.Outcome.{OutcomeValue}
use Rattle.ule_types.specs.declared.event.Entry.{Entry}
use Rattle.ule_types.specs.declared.event.Reply.{Reply}
use Rattle.ule_types.specs.declared.event.Reply.TheVariants.{Switched, Woken, Moved}
use Rattle.ule_types.specs.declared.setup.Setup.{Setup}

-- whether a reply tells a switch, a woken thread, or a moved one
abbrev pub is_switched : Reply → Bool
is_switched (Switched out into preempted) = true
is_switched r = false

abbrev pub is_woken : Reply → Bool
is_woken (Woken p bound last last_run) = true
is_woken r = false

abbrev pub is_moved : Reply → Bool
is_moved (Moved t kind bucket preempts) = true
is_moved r = false

-- whether a reply is one of those that are counted
abbrev pub is_one_of : Counted → Reply → Bool
is_one_of counted.Switches r = is_switched r
is_one_of counted.Wakes r = is_woken r
is_one_of counted.Moves r = is_moved r

-- the number of entries whose reply is such
abbrev pub count_of : (Reply → Bool) → List Entry → ℕ
count_of is_such es = length (filter (λ e. is_such e.reply) es)

-- the line of the outcome of the setup of a number
abbrev pub line_of : ℕ → OutcomeValue → List ℕ
line_of n o = line_text (
    codes "gen" ∷ decimal n ∷ codes "entries" ∷ decimal (length o.entries) ∷ codes "now" ∷ decimal o.now ∷
    codes "switched" ∷ decimal (count_of is_switched o.entries) ∷ codes "woken" ∷ decimal (count_of is_woken o.entries) ∷
    codes "moved" ∷ decimal (count_of is_moved o.entries) ∷ [])

-- the line of the setup of a number
abbrev pub summary_text : ℕ → Setup → List ℕ
summary_text n s = line_of n (outcome_of s s.scripts (play_of s).entries)

-- an outcome is that of the setup that a number makes, played in rounds; want of memory is free
abbrev pub IsMadeAndPlayed : ℕ → Result OutcomeValue Memory → Type 0
IsMadeAndPlayed n result = IfOk result (λ o. (s : Setup) × IsMade n s × IsOutcomeOf s o)

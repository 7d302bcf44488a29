-- Worked programs, by computing: what a worker's list gives, told these replies.
use Rattle.std.proofs.Common.{◌≡◌, ◌+◌, ℕ, zero, suc, true, false, List, [], ◌∷◌, Option, Some, None, refl}
use Rattle.ule_prio.specs.declared.kind.Kind.TheVariants.{Batch}
use Rattle.ule_score.specs.declared.record.Why.TheVariants.{Yield as ByYield}
use Rattle.ule_types.specs.declared.command.Command.{Command}
use Rattle.ule_types.specs.declared.command.Command.TheVariants as command
use Rattle.ule_types.specs.declared.event.Event.TheVariants.{Bed, Drop, Land, Look, Move, Switch, Tick, Wake}
use Rattle.ule_types.specs.declared.event.Item.{Item}
use Rattle.ule_types.specs.declared.event.Item.TheVariants.{Advance, Event}
use Rattle.ule_types.specs.declared.event.MoveWhy.TheVariants.{Balance, Steal}
use Rattle.ule_types.specs.declared.event.Reply.{Reply}
use Rattle.ule_types.specs.declared.event.Reply.TheVariants.{Bedded, Dropped, Landed, Moved, NoneMovable, Seen, Switched, Ticked, Woken}
use Rattle.ule_topo.specs.Build.{lone_root}
use Rattle.ule_topo.specs.Mask.{below, has_cpu, without_cpu}
use Rattle.ule_search.specs.Jitter.{word_after_steps}
use Rattle.ule_search.specs.Search.{best_cpu, comes_first, key_of, may_be_highest, may_be_lowest, path_through, rank_by, sum_below}
use Rattle.ule_program.specs.Courses.{Course, course_of, next_in, next_step}
use Rattle.ule_program.specs.Program.{Own, Ended, steals}

-- the items from a step of a program on, told these replies to its events, so many at most
unfoldable given : ℕ → List (Reply × ℕ) → Option (Item × Course) → List Item
given zero replies found = []
given (suc n) replies None = []
given (suc n) replies (Some (Advance k, after)) = Advance k ∷ given n replies (next_step after)
given (suc n) [] (Some (Event e, after)) = Event e ∷ []
given (suc n) (r ∷ replies) (Some (Event e, after)) = Event e ∷ given n replies (next_step (record after { last = Some r }))

-- a worker of two CPUs with this jitter word, before its first command
abbrev of_two : ℕ → ℕ → Own
of_two worker jitter = record { worker = worker; topology = record { cpus = 2; groups = lone_root 2 ∷ [] }; steal = 2; stage = Ended; looks = []; jitter = jitter }

-- what a worker of two CPUs with the jitter words of number 1 gives for a list
abbrev gives_for : ℕ → List Command → List (Reply × ℕ) → List Item
gives_for worker script replies = given 20 replies (next_step (course_of (of_two worker (1 + worker)) script))

-- ---- a wake whose thread lands after looks at both CPUs

-- the sleeper's worker puts it to bed
sleeper_items : gives_for 0 (command.Yield ∷ command.Sleep 3 ∷ []) ((Switched None (Some 0) false, 20000) ∷ (Dropped 0 None, 20001) ∷ (Bedded, 20001) ∷ []) ≡
    Event (Switch 0 ByYield) ∷ Event (Drop 0 3) ∷ Event (Bed 0 3) ∷ []
unfolding given next_in
sleeper_items = refl

-- the other one wakes it: it just ran on CPU 0, which is idle, and lands there
waker_items : gives_for 1 (command.Time 1 ∷ command.Wake 0 ∷ [])
    ((Woken 172 None 0 20001, 20001) ∷ (Seen 0 0 255, 20001) ∷ (Seen 0 0 255, 20001) ∷ (Landed Batch 17 true, 20001) ∷ []) ≡
    Advance 1 ∷ Event (Wake 0) ∷ Event (Look 0) ∷ Event (Look 1) ∷ Event (Land 0 0) ∷ []
unfolding given next_in
waker_items = refl

-- a thread that is bound lands without looks
bound_items : gives_for 1 (command.Wake 0 ∷ []) ((Woken 172 (Some 0) 0 20001, 20001) ∷ (Landed Batch 17 true, 20001) ∷ []) ≡ Event (Wake 0) ∷ Event (Land 0 0) ∷ []
unfolding given next_in
bound_items = refl

-- ---- idle

-- the one other CPU has two threads by the look, but gives none by the time of the move: the command ends
idle_items : gives_for 1 (command.Idle ∷ []) ((Seen 2 2 172, 20001) ∷ (Seen 0 0 255, 20001) ∷ (NoneMovable 1 0 0, 20001) ∷ []) ≡
    Event (Look 0) ∷ Event (Look 1) ∷ Event (Move 0 1 Steal) ∷ []
unfolding given next_in steals below has_cpu without_cpu word_after_steps best_cpu comes_first key_of may_be_highest path_through rank_by sum_below
idle_items = refl

-- a thread that is stolen is followed by a switch
stolen_items : gives_for 1 (command.Idle ∷ []) ((Seen 2 2 172, 20001) ∷ (Seen 0 0 255, 20001) ∷ (Moved 0 Batch 17 true, 20001) ∷ (Switched None (Some 0) false, 20001) ∷ []) ≡
    Event (Look 0) ∷ Event (Look 1) ∷ Event (Move 0 1 Steal) ∷ Event (Switch 1 ByYield) ∷ []
unfolding given next_in steals below has_cpu without_cpu word_after_steps best_cpu comes_first key_of may_be_highest path_through rank_by sum_below
stolen_items = refl

-- ---- a balance

-- both workers plan a move from CPU 1 to CPU 0
balance_items : gives_for 0 (command.Balance ∷ []) ((Seen 0 0 255, 20000) ∷ (Seen 3 3 172, 20000) ∷ (Moved 1 Batch 17 true, 20000) ∷ []) ≡
    Event (Look 0) ∷ Event (Look 1) ∷ Event (Move 1 0 Balance) ∷ []
unfolding given next_in below has_cpu without_cpu word_after_steps best_cpu comes_first key_of may_be_highest may_be_lowest path_through rank_by sum_below
balance_items = refl

other_balance_items : gives_for 1 (command.Balance ∷ []) ((Seen 0 0 255, 20000) ∷ (Seen 3 3 172, 20000) ∷ (Moved 2 Batch 17 true, 20000) ∷ []) ≡
    Event (Look 0) ∷ Event (Look 1) ∷ Event (Move 1 0 Balance) ∷ []
unfolding given next_in below has_cpu without_cpu word_after_steps best_cpu comes_first key_of may_be_highest may_be_lowest path_through rank_by sum_below
other_balance_items = refl

-- a tick that finds a balance due is followed by one
due_items : gives_for 0 (command.Tick ∷ []) ((Ticked None true false, 20000) ∷ (Seen 0 0 255, 20000) ∷ (Seen 3 3 172, 20000) ∷ (Moved 1 Batch 17 true, 20000) ∷ []) ≡
    Event (Tick 0) ∷ Event (Look 0) ∷ Event (Look 1) ∷ Event (Move 1 0 Balance) ∷ []
unfolding given next_in below has_cpu without_cpu word_after_steps best_cpu comes_first key_of may_be_highest may_be_lowest path_through rank_by sum_below
due_items = refl

-- one that finds none due isn't
undue_items : gives_for 0 (command.Tick ∷ []) ((Ticked None false false, 20000) ∷ []) ≡ Event (Tick 0) ∷ []
unfolding given next_in
undue_items = refl

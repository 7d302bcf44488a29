-- The state of the step model at the start of a setup's scheduler.
use Rattle.std.specs.Prelude.{ℕ, suc, List, [], ◌∷◌, map, replicate, None}
use Rattle.std.specs.List.{range_with_len}
use Rattle.ule_micro.specs.declared.locks.TheConstants.{LOCKS, THREADS}
use Rattle.ule_micro.specs.declared.seat.Seat.{Seat}
use Rattle.ule_micro.specs.declared.word.Word.TheVariants.{Lock}
use Rattle.ule_micro.specs.Means.{Means}
use Rattle.ule_micro.specs.States.{State}
use Rattle.ule_micro.specs.Turns.{next_command, seated}

module _ {H O G E R C : Type 0} (m : Means H O G E R C) (orders : ℕ → List C) where
  -- seats from: these workers at the start, the first of which has this number, each with the first item of its program
  abbrev pub seats_from : ℕ → List O → List (Seat O E R)
  seats_from w [] = []
  seats_from w (o ∷ os) = seated m (next_command m o 0 (orders w)) 0 0 ∷ seats_from (suc w) os

  -- started: the state at the start, where all locks are free and each word names the lock of its thread's place
  abbrev pub started : State O G E R
  started = record {
    locks = replicate LOCKS None;
    words = map (λ t. Lock (m.word t)) (range_with_len 0 THREADS);
    ticket = 0;
    now = 20000;
    values = m.values;
    seats = seats_from 0 m.owns;
    history = [];
  }

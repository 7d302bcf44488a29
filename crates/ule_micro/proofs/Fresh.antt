-- A worker that was given its next item has done nothing of it.
use Rattle.std.proofs.Common.{◌≡◌, ℕ, false, refl, ap}
use Rattle.std.specs.Prelude.{Option, Some, None}
use Rattle.ule_micro.specs.declared.entry.HeldLocks.{HeldLocks}
use Rattle.ule_micro.specs.declared.seat.Phase.{Phase}
use Rattle.ule_micro.specs.declared.seat.Phase.TheVariants as phase
use Rattle.ule_micro.specs.declared.seat.Progress.{Progress}
use Rattle.ule_micro.specs.declared.seat.Progress.TheVariants as progress
use Rattle.ule_micro.specs.declared.todo.Todo.{Todo}
use Rattle.ule_micro.specs.declared.todo.Todo.TheVariants as todo
use Rattle.ule_micro.specs.Standings.{standing_with}
use Rattle.ule_micro.specs.States.{read_in, took, standing_of_phase}
use Rattle.ule_micro.specs.Turns.{phase_with}

module _ {E R : Type 0} where
  -- a worker that was given an item took no lock for it
  pub took_nothing : (x : Option (Todo E)) (f : Phase E R) (l : ℕ) → f ≡ phase_with x → took f l ≡ false
  took_nothing None f l e = ap (λ g. took g l) e
  took_nothing (Some (todo.Event a)) f l e = ap (λ g. took g l) e
  took_nothing (Some (todo.Advance k)) f l e = ap (λ g. took g l) e

  -- a worker that was given an item read no time for it
  pub read_nothing : (x : Option (Todo E)) (f : Phase E R) → f ≡ phase_with x → read_in f ≡ None
  read_nothing None f e = ap read_in e
  read_nothing (Some (todo.Event a)) f e = ap read_in e
  read_nothing (Some (todo.Advance k)) f e = ap read_in e

  -- where a worker stands that was given an item is the item
  pub standing_given : (x : Option (Todo E)) (f : Phase E R) → f ≡ phase_with x → standing_of_phase f ≡ standing_with x
  standing_given None f e = ap standing_of_phase e
  standing_given (Some (todo.Event a)) f e = ap standing_of_phase e
  standing_given (Some (todo.Advance k)) f e = ap standing_of_phase e

  -- a finished worker was given no item
  pub given_none : (x : Option (Todo E)) (f : Phase E R) → f ≡ phase_with x → f ≡ phase.Finished → x ≡ None
  given_none None f e is = refl
  given_none (Some (todo.Event a)) f e is = absurd (cc)
  given_none (Some (todo.Advance k)) f e is = absurd (cc)

  -- an event that was given is not begun
  pub given_open : (x : Option (Todo E)) (f : Phase E R) (e : E) (way : Progress) → f ≡ phase_with x → f ≡ phase.Event e way → way ≡ progress.Open
  given_open None f e way is at = absurd (cc)
  given_open (Some (todo.Event a)) f e way is at = cc
  given_open (Some (todo.Advance k)) f e way is at = absurd (cc)

  -- a worker that was given an item is not leaving one
  pub given_not_leaving : (x : Option (Todo E)) (f : Phase E R) (reply : R) (now : ℕ) (held : HeldLocks) → f ≡ phase_with x → f ≡ phase.Leaving reply now held → ⊥
  given_not_leaving None f reply now held e is = cc
  given_not_leaving (Some (todo.Event a)) f reply now held e is = cc
  given_not_leaving (Some (todo.Advance k)) f reply now held e is = cc

-- A step of a scheduler, by what it made of the value of its lock, or of two, and of the worker's hand.
use Rattle.std.proofs.Common.{◌≡◌, ℕ, false, slice_get, Option, Some, None, option_and_then, sym, ◌∙◌, ap, subst}
use Rattle.std.specs.Option.{option_map}
use Rattle.std.proofs.lemmas.Bool.{true≢false}
use Rattle.ule_types.specs.declared.event.Event.{Event}
use Rattle.ule_types.specs.declared.event.Reply.{Reply}
use Rattle.ule_types.specs.declared.event.Reply.TheVariants.{Nothing}
use Rattle.ule_model.specs.Events.{Locking, chain, limbo, locking, place_of, queue, queues}
use Rattle.ule_model.specs.LockValue.{LockValue}
use Rattle.ule_model.specs.Step.{PairStepped, Stepped, lock_step, pair_step, step}
use Rattle.ule_model.specs.WorldValue.{CanStep, IsShown, Steps, WorldValue, held_by, lock_for, put_back, put_back_pair, value_step, value_step_at, value_step_with}
use Rattle.ule_members.proofs.PairDone.{are_two}
use Rattle.ule_laws.proofs.StepFrom.{ShowsWithReply, one_lock_found}
use Rattle.ule_laws.proofs.StepLaws.{step_shows}

-- what an event makes of a lock's value
abbrev pub made_of : WorldValue → ℕ → Event → ℕ → LockValue → Stepped
made_of v worker e now value = lock_step v.settings worker e now (held_by v worker) value

-- a scheduler found a lock for an event, and this is what the event made of that lock's value
pub record IsMadeAt (v : WorldValue) (worker : ℕ) (e : Event) (now l : ℕ) (made : Stepped) : Type 0 where
  pub lock : lock_for v.values (locking e) ≡ Some l
  pub value : LockValue
  pub found : slice_get v.values l ≡ Some value
  pub made_is : made ≡ made_of v worker e now value

-- the step puts back what the event made of its lock's value
pub made_is_step : (v : WorldValue) (worker : ℕ) (e : Event) (now l : ℕ) (made : Stepped) → IsMadeAt v worker e now l made → put_back l worker (Some made) v ≡ value_step v worker e now
made_is_step v worker e now l made at =
    ap (λ (m : Stepped). put_back l worker (Some m) v) at.made_is ∙
    ap (λ (o : Option LockValue). put_back l worker (option_map (made_of v worker e now) o) v) (sym at.found) ∙
    sym (one_lock_found v worker e now l (locking e) at.lock)

-- where no lock is found, and the event takes no two, nothing is done
pub none_is_step : (v : WorldValue) (worker : ℕ) (e : Event) (now : ℕ) → are_two (locking e) ≡ false → lock_for v.values (locking e) ≡ None → (v, Nothing) ≡ value_step v worker e now
none_is_step v worker e now alone none = split (locking e) alone none
  where
    split : (k : Locking) → are_two k ≡ false → lock_for v.values k ≡ None → (v, Nothing) ≡ value_step_with k worker e now v
    split (queues a b) alone none = absurd (true≢false alone)
    split (queue c) alone none = ap (λ (o : Option ℕ). value_step_at o worker e now v) (sym none)
    split (chain channel) alone none = ap (λ (o : Option ℕ). value_step_at o worker e now v) (sym none)
    split limbo alone none = ap (λ (o : Option ℕ). value_step_at o worker e now v) (sym none)
    split (place_of t) alone none = ap (λ (o : Option ℕ). value_step_at o worker e now v) (sym none)

-- a scheduler has the values of two locks, and this is what an event that takes both made of them
pub record IsMadeAtBoth (v : WorldValue) (worker : ℕ) (e : Event) (now a b : ℕ) (made : PairStepped) : Type 0 where
  pub locks : locking e ≡ queues a b
  pub from : LockValue
  pub to : LockValue
  pub found_from : slice_get v.values a ≡ Some from
  pub found_to : slice_get v.values b ≡ Some to
  pub made_is : made ≡ pair_step worker e now (held_by v worker) from to

-- the step puts back what the event made of both
pub pair_made_is_step : (v : WorldValue) (worker : ℕ) (e : Event) (now a b : ℕ) (made : PairStepped) → IsMadeAtBoth v worker e now a b made →
    put_back_pair a b worker (Some made) v ≡ value_step v worker e now
pair_made_is_step v worker e now a b made at =
    ap (λ (m : PairStepped). put_back_pair a b worker (Some m) v) at.made_is ∙
    ap (λ (o : Option LockValue). put_back_pair a b worker (option_map (pair_step worker e now (held_by v worker) at.from) o) v) (sym at.found_to) ∙
    ap (λ (o : Option LockValue). put_back_pair a b worker (option_and_then (λ from. option_map (pair_step worker e now (held_by v worker) from) (slice_get v.values b)) o) v) (sym at.found_from) ∙
    ap (λ (k : Locking). value_step_with k worker e now v) (sym at.locks)

-- what the step of a scheduler comes to is a step of each world that it shows
pub value_step_steps : (v : WorldValue) (worker : ℕ) (e : Event) (now : ℕ) (done : WorldValue × Reply) → done ≡ value_step v worker e now → Steps v worker e now done.0 done.1
value_step_steps v worker e now done is w shows possible =
    subst (λ (x : WorldValue × Reply). ShowsWithReply (step w worker e now).0 (step w worker e now).1 x) (sym is) (step_shows v w worker e now (record { shows = shows; possible = possible }))

-- a scheduler shows a world after a step that it could perform
pub value_step_shown : (v : WorldValue) (worker : ℕ) (e : Event) (now : ℕ) (done : WorldValue × Reply) → done ≡ value_step v worker e now → CanStep v worker e now → IsShown done.0
value_step_shown v worker e now done is can = ((step can.0 worker e now).0, (value_step_steps v worker e now done is can.0 can.1 can.2).0)

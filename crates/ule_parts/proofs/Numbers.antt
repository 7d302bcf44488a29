-- A thread that is found by its number has one of the numbers of the threads, and one that is not found has none of them.
use Rattle.std.proofs.Common.{◌≡◌, ℕ, Bool, true, false, ◌||◌, List, [], ◌∷◌, Option, Some, None, is_some, if◌then◌else◌, refl, sym, ◌∙◌, ap, true≢false, option_and_then}
use Rattle.std.proofs.lemmas.Option.{none-some}
use Rattle.ule_types.specs.Commands.{is_among}
use Rattle.ule_model.specs.Events.{holder_of}
use Rattle.ule_model.specs.Places.{hand_of}
use Rattle.ule_model.specs.Shows.{numbers_of}
use Rattle.ule_model.specs.World.{Member, is_numbered, thread_of}

-- a thread is found by its number just where this is one of the numbers
pub numbered_found : (t : ℕ) (ms : List Member) → is_some (thread_of t ms) ≡ is_among (numbers_of ms) t
numbered_found t [] = refl
numbered_found t (m ∷ ms) = by_test (is_numbered t m) (numbered_found t ms)
  where
    by_test : (b : Bool) → is_some (thread_of t ms) ≡ is_among (numbers_of ms) t → is_some (if b then Some m else thread_of t ms) ≡ (b || is_among (numbers_of ms) t)
    by_test true rest = refl
    by_test false rest = rest

-- a number of theirs finds a thread
pub found_numbered : (t : ℕ) (ids : List ℕ) (ms : List Member) → numbers_of ms ≡ ids → is_among ids t ≡ true → is_some (thread_of t ms) ≡ true
found_numbered t ids ms are among = numbered_found t ms ∙ (ap (λ us. is_among us t) are ∙ among)

-- a thread that a worker has in hand has one of the numbers
pub numbered_held : (t w : ℕ) (ms : List Member) → holder_of ms t ≡ Some w → is_among (numbers_of ms) t ≡ true
numbered_held t w ms held = sym (numbered_found t ms) ∙ by (thread_of t ms) held
  where
    by : (o : Option Member) → option_and_then (λ (m : Member). hand_of m.place) o ≡ Some w → is_some o ≡ true
    by None none = absurd (none-some w none)
    by (Some m) held = refl

-- a number that none of them has finds no thread
pub none_numbered : (t : ℕ) (ms : List Member) → is_among (numbers_of ms) t ≡ false → thread_of t ms ≡ None
none_numbered t ms not_among = by (thread_of t ms) (numbered_found t ms ∙ not_among)
  where
    by : (o : Option Member) → is_some o ≡ false → o ≡ None
    by None none = refl
    by (Some m) none = absurd (true≢false none)

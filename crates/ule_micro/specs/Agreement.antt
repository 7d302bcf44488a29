-- Lock agreement of words, values, hands and pending changes: what a lock word and its holder agree on, and what a thread's word and its place agree on.
use Rattle.std.specs.Prelude.{◌≡◌, ℕ, ◌⊎◌, Bool, true, Option, Some}
use Rattle.ule_micro.specs.declared.word.Word.{Word}
use Rattle.ule_micro.specs.declared.word.Word.TheVariants.{Lock, Blocked}
use Rattle.ule_micro.specs.declared.word.WordChange.{WordChange}
use Rattle.ule_micro.specs.declared.word.WordChange.TheVariants.{Block, Point}
use Rattle.ule_micro.specs.Means.{thread_of_change}

-- place: where a thread is, which is under a lock, or in a worker's hand
pub data Place : Type 0 where
  under : ℕ → Place
  in_hand : ℕ → Place

-- names one holder: a lock word is free, or it names the one worker that holds the lock
pub record NamesOneHolder (word : Option ℕ) (holds : ℕ → Bool) : Type 0 where
  pub named : (w : ℕ) → holds w ≡ true → word ≡ Some w
  pub held : (w : ℕ) → word ≡ Some w → holds w ≡ true

module _ (holds : ℕ → ℕ → Bool) (pending : ℕ → Option WordChange) (t : ℕ) (word : Word) where
  -- is settled: no worker has a change of the thread's word pending
  abbrev pub IsSettled : Type 0
  IsSettled = (w : ℕ) (c : WordChange) → pending w ≡ Some c → thread_of_change c ≡ t → ⊥

  -- names held: the word names a lock that the worker holds
  abbrev pub NamesHeld : ℕ → Type 0
  NamesHeld w = (l : ℕ) × (word ≡ Lock l) × (holds w l ≡ true)

  -- agrees in hand: the word of a thread in the worker's hand is blocked, or the worker has its blocking pending, and the word names a lock that it holds
  abbrev pub AgreesInHand : ℕ → Type 0
  AgreesInHand w = ((word ≡ Blocked) × IsSettled) ⊎ ((pending w ≡ Some (Block t)) × NamesHeld w)

  -- is pointing: the worker is to point the word to this lock, which it holds, and the word is blocked or names a lock that it holds
  abbrev pub IsPointing : ℕ → ℕ → Type 0
  IsPointing w l = (pending w ≡ Some (Point t l)) × (holds w l ≡ true) × ((word ≡ Blocked) ⊎ NamesHeld w)

  -- agrees under: the word of a thread under the lock names this lock, or one worker is to point it there
  abbrev pub AgreesUnder : ℕ → Type 0
  AgreesUnder l = ((word ≡ Lock l) × IsSettled) ⊎ ((w : ℕ) × IsPointing w l)

  -- word agrees: the thread's word agrees with its place
  abbrev pub WordAgrees : Place → Type 0
  WordAgrees (under l) = AgreesUnder l
  WordAgrees (in_hand w) = AgreesInHand w

-- change agrees: a change that the worker has pending agrees with the place of its thread
abbrev pub ChangeAgrees : (ℕ → ℕ → Bool) → ℕ → Place → WordChange → Type 0
ChangeAgrees holds w place (Block t) = place ≡ in_hand w
ChangeAgrees holds w place (Point t l) = (place ≡ under l) × (holds w l ≡ true)

-- is there: the thread is at this place
abbrev pub IsThere : (ℕ → Bool) → (ℕ → Bool) → Place → Type 0
IsThere stands carries (under l) = stands l ≡ true
IsThere stands carries (in_hand w) = carries w ≡ true

-- thread agrees: a thread has one place, which agrees with its word and with each change of its word that is pending
pub record ThreadAgrees (holds : ℕ → ℕ → Bool) (pending : ℕ → Option WordChange) (stands carries : ℕ → Bool) (t : ℕ) (word : Word) : Type 0 where
  pub place : Place
  pub there : IsThere stands carries place
  pub only_under : (l : ℕ) → stands l ≡ true → place ≡ under l
  pub only_hand : (w : ℕ) → carries w ≡ true → place ≡ in_hand w
  pub word_agrees : WordAgrees holds pending t word place
  pub change_agrees : (w : ℕ) (c : WordChange) → pending w ≡ Some c → thread_of_change c ≡ t → ChangeAgrees holds w place c

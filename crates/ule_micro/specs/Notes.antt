-- What a program keeps of the end of a play: what it keeps of an entry, of a lock's value, of a thread's word and of now is a function of what it kept before.
use Rattle.std.specs.Prelude.{◌≡◌, ℕ, ◌+◌, ◌<◌, Option}

-- notes: how a program keeps the end of a play, where X is what it keeps, G the value under a lock, E an event and R a reply
pub record Notes (X G E R : Type 0) : Type 1 where
  -- what is kept behind an entry of a worker at a time, behind the value of a lock, behind a thread's word, which is none where it is blocked, and behind now
  pub entry : X → ℕ → ℕ → E → R → X
  pub value : X → ℕ → G → X
  pub word : X → ℕ → Option ℕ → X
  pub now : X → ℕ → X
  -- for how many more entries there is room
  pub room : X → ℕ
  -- whether the value of a lock may be told
  pub ready : X → ℕ → Type 0

module _ {X G E R : Type 0} (n : Notes X G E R) where
  -- keeps room: an entry takes one place of the room, and nothing else takes any
  pub record KeepsRoom : Type 0 where
    pub entry : (x : X) (w now : ℕ) (e : E) (r : R) → 0 < n.room x → n.room (n.entry x w now e r) + 1 ≡ n.room x
    pub value : (x : X) (l : ℕ) (v : G) → n.room (n.value x l v) ≡ n.room x
    pub word : (x : X) (t : ℕ) (w : Option ℕ) → n.room (n.word x t w) ≡ n.room x
    pub now : (x : X) (now : ℕ) → n.room (n.now x now) ≡ n.room x

  -- readies in order: the value of lock 0 may be told at any time, and that of a lock behind the value of the lock before it; what may be told may be told later
  pub record ReadiesInOrder : Type 0 where
    pub first : (x : X) → n.ready x 0
    pub next : (x : X) (l : ℕ) (v : G) → n.ready x l → n.ready (n.value x l v) (l + 1)
    pub by_entry : (x : X) (w now : ℕ) (e : E) (r : R) (k : ℕ) → n.ready x k → n.ready (n.entry x w now e r) k
    pub by_value : (x : X) (l : ℕ) (v : G) (k : ℕ) → n.ready x k → n.ready (n.value x l v) k
    pub by_word : (x : X) (t : ℕ) (w : Option ℕ) (k : ℕ) → n.ready x k → n.ready (n.word x t w) k
    pub by_now : (x : X) (now k : ℕ) → n.ready x k → n.ready (n.now x now) k

  -- are sound: the laws of what is kept
  pub record AreSound : Type 0 where
    pub room : KeepsRoom
    pub order : ReadiesInOrder

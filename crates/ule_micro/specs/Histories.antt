-- A history of events, newest entry first, each with the locks that it was performed under: how an entry follows from the values under its locks, and when its time is in order.
use Rattle.std.specs.Prelude.{◌≡◌, ℕ, ◌≤◌, ◌⊎◌, ◌||◌, ◌==◌, Bool, true, List, [], ◌∷◌, Option, Some, None, slice_get, slice_set, if◌then◌else◌}
use Rattle.ule_micro.specs.declared.entry.Entry.{Entry}
use Rattle.ule_micro.specs.declared.entry.HeldLocks.{HeldLocks}
use Rattle.ule_micro.specs.declared.entry.HeldLocks.TheVariants.{One, Two}
use Rattle.ule_micro.specs.Standings.{Acted}
use Rattle.ule_micro.specs.Means.{Means, Needs, one, both, lock_of, stands_under}

-- values and hands: the value under each lock, and the hand of each worker
pub record ValuesAndHands (H G : Type 0) : Type 0 where
  pub values : List G
  pub hands : List H

-- is lock among: whether a lock is one of these
abbrev pub is_lock_among : HeldLocks → ℕ → Bool
is_lock_among (One a) l = a == l
is_lock_among (Two a b) l = (a == l) || (b == l)

module _ {G : Type 0} where
  -- alone: a value as a list, where there is one
  abbrev pub alone : Option G → Option (List G)
  alone None = None
  alone (Some v) = Some (v ∷ [])

  -- with second: two values as a list, where there is a second
  abbrev pub with_second : G → Option G → Option (List G)
  with_second v None = None
  with_second v (Some u) = Some (v ∷ u ∷ [])

  -- with first: the value of the first lock, and that of the second behind it
  abbrev pub with_first : Option G → Option G → Option (List G)
  with_first None u = None
  with_first (Some v) u = with_second v u

  -- values under: the values under these locks, among those under all locks
  abbrev pub values_under : HeldLocks → List G → Option (List G)
  values_under (One a) values = alone (slice_get values a)
  values_under (Two a b) values = with_first (slice_get values a) (slice_get values b)

  -- laid under: the values under all locks, with these under the locks that are held
  abbrev pub laid_under : HeldLocks → List G → List G → List G
  laid_under (One a) values [] = values
  laid_under (One a) values (v ∷ vs) = slice_set values a v
  laid_under (Two a b) values [] = values
  laid_under (Two a b) values (v ∷ []) = values
  laid_under (Two a b) values (v ∷ u ∷ us) = slice_set (slice_set values a v) b u

  -- effect on: an act on the values under these locks, as what it leaves of the values under all locks
  abbrev pub effect_on : {H R : Type 0} → HeldLocks → List G → Acted H G R → Acted H G R
  effect_on held values acted = record { hand = acted.hand; values = laid_under held values acted.values; reply = acted.reply }

module _ {H O G E R C : Type 0} (m : Means H O G E R C) where
  -- effect of: what an event of a worker does at a time, with the worker's hand, to the values under its locks, of which there is no such effect where a value is missing
  abbrev pub effect_of : ℕ → E → ℕ → H → HeldLocks → List G → Option (List G) → Option (Acted H G R)
  effect_of w e now h held values None = None
  effect_of w e now h held values (Some guarded) = Some (effect_on held values (m.act w e now h guarded))

  -- effect under: the effect of an event under these locks, on the values under all locks
  abbrev pub effect_under : ℕ → E → ℕ → H → HeldLocks → List G → Option (Acted H G R)
  effect_under w e now h held values = effect_of w e now h held values (values_under held values)

  -- are locks for: these are the locks that the need names, of which a sought thread stands under the one lock
  abbrev pub AreLocksFor : List G → HeldLocks → Needs → Type 0
  AreLocksFor values held (one a) = held ≡ One a
  AreLocksFor values held (both a b) = held ≡ Two a b
  AreLocksFor values held (lock_of t) = (l : ℕ) × (held ≡ One l) × (stands_under m values l t ≡ true)

  -- follows: an entry is what its event does to these values with this hand
  pub record Follows (values : List G) (hand : H) (x : Entry E R) (after : Acted H G R) : Type 0 where
    pub locks : AreLocksFor values x.locks (m.needs x.event)
    pub guarded : List G
    pub under : values_under x.locks values ≡ Some guarded
    pub may : m.may x.worker x.event x.now hand guarded
    pub effect : effect_under x.worker x.event x.now hand x.locks values ≡ Some after
    pub reply : after.reply ≡ x.reply

module _ {E R : Type 0} where
  -- entry made: the entry that an event of the worker makes
  abbrev pub entry_made : ℕ → E → HeldLocks → ℕ → R → Entry E R
  entry_made w e held now reply = record { worker = w; locks = held; now = now; event = e; reply = reply }

  -- shares: an entry is of this worker, or under one of these locks
  abbrev pub Shares : ℕ → HeldLocks → Entry E R → Type 0
  Shares w held x = (x.worker ≡ w) ⊎ ((l : ℕ) × (is_lock_among held l ≡ true) × (is_lock_among x.locks l ≡ true))

  -- is no earlier than shared: a time of this worker under these locks is not before the start, nor before an entry that shares the worker or a lock
  pub record IsNoEarlierThanShared (history : List (Entry E R)) (w : ℕ) (held : HeldLocks) (now : ℕ) : Type 0 where
    pub begun : 20000 ≤ now
    pub after : (j : ℕ) (x : Entry E R) → slice_get history j ≡ Some x → Shares w held x → x.now ≤ now

  -- latest of: the last entry that a worker made
  abbrev pub latest_of : ℕ → List (Entry E R) → Option (Entry E R)
  latest_of w [] = None
  latest_of w (x ∷ h) = (if x.worker == w then Some x else latest_of w h)

  -- own entries: the entries of one worker
  abbrev pub own_entries : ℕ → List (Entry E R) → List (Entry E R)
  own_entries w [] = []
  own_entries w (x ∷ h) = (if x.worker == w then x ∷ own_entries w h else own_entries w h)

module _ {H O G E R C : Type 0} (m : Means H O G E R C) where
  -- leads: each entry of the history was asked for and follows from the values and hands before it, in order of time, and those at the end are these
  abbrev pub Leads : ValuesAndHands H G → List (Entry E R) → ValuesAndHands H G → Type 0
  Leads start [] y = y ≡ start
  Leads start (x ∷ h) y = (z : ValuesAndHands H G) × (hand : H) × (after : Acted H G R) × Leads start h z × (slice_get z.hands x.worker ≡ Some hand)
      × m.asks x.worker (own_entries x.worker h) hand x.event × Follows m z.values hand x after × IsNoEarlierThanShared h x.worker x.locks x.now
      × (y ≡ record { values = after.values; hands = slice_set z.hands x.worker after.hand })

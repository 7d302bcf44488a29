-- Where the workers stand in their programs, and the legal plays: every course of entries, advances and commands that the programs and the rules of time allow.
use Rattle.std.specs.Prelude.{◌≡◌, ℕ, ◌+◌, ◌≤◌, List, [], ◌∷◌, map, Option, Some, None, slice_get, slice_set}
use Rattle.ule_micro.specs.declared.entry.Entry.{Entry}
use Rattle.ule_micro.specs.declared.todo.Todo.TheVariants.{Event, Advance}
use Rattle.ule_micro.specs.Means.{Means}
use Rattle.ule_micro.specs.Standings.{Standing, asks, has, rests, standing_with, Acted}
use Rattle.ule_micro.specs.Histories.{Follows, IsNoEarlierThanShared}

-- worker course: where a worker stands in its program, with the commands begun, the items performed and the hz ticks advanced so far
pub record WorkerCourse (O E R : Type 0) : Type 0 where
  pub own : O
  pub begun : ℕ
  pub items : ℕ
  pub advanced : ℕ
  pub standing : Standing E R

module _ {O E R : Type 0} where
  -- unbegun: a worker at the start
  abbrev pub unbegun : O → WorkerCourse O E R
  unbegun own = record { own = own; begun = 0; items = 0; advanced = 0; standing = rests }

  -- all advanced: the hz ticks that all workers advanced
  abbrev pub all_advanced : List (WorkerCourse O E R) → ℕ
  all_advanced [] = 0
  all_advanced (c ∷ cs) = c.advanced + all_advanced cs

module _ {H O G E R C : Type 0} (m : Means H O G E R C) where
  -- answered: the worker was told its next item
  abbrev pub answered : WorkerCourse O E R → Option (R × ℕ) → WorkerCourse O E R
  answered c told = record { own = (m.next c.own told).1; begun = c.begun; items = c.items; advanced = c.advanced; standing = standing_with (m.next c.own told).0 }

  -- ordered: the worker began this command
  abbrev pub ordered : WorkerCourse O E R → C → WorkerCourse O E R
  ordered c order = record { own = m.begin c.own order; begun = c.begun + 1; items = c.items; advanced = c.advanced; standing = asks None }

  -- advanced by: the worker raised the time
  abbrev pub advanced_by : WorkerCourse O E R → ℕ → WorkerCourse O E R
  advanced_by c k = record { own = c.own; begun = c.begun; items = c.items + 1; advanced = c.advanced + k; standing = asks None }

  -- done by: the worker performed an event, which left this hand and had this reply at this time
  abbrev pub done_by : WorkerCourse O E R → H → R → ℕ → WorkerCourse O E R
  done_by c hand reply now = record { own = m.with_hand c.own hand; begun = c.begun; items = c.items + 1; advanced = c.advanced; standing = asks (Some (reply, now)) }

  -- keeps time rules: the time of an entry of this worker keeps the three rules of time
  pub record KeepsTimeRules (history : List (Entry E R)) (cs : List (WorkerCourse O E R)) (c : WorkerCourse O E R) (x : Entry E R) : Type 0 where
    pub no_earlier : IsNoEarlierThanShared history x.worker x.locks x.now
    pub own : 20000 + c.advanced ≤ x.now
    pub past : x.now ≤ 20000 + all_advanced cs

  -- legal play: a legal play so far of workers with these commands, with its history, the values under the locks, and where each worker stands
  pub data LegalPlay (orders : ℕ → List C) : List (Entry E R) → List G → List (WorkerCourse O E R) → Type 0 where
    opens : LegalPlay orders [] m.values (map unbegun m.owns)
    answers : {h : List (Entry E R)} {vs : List G} {cs : List (WorkerCourse O E R)} (w : ℕ) (c : WorkerCourse O E R) (told : Option (R × ℕ))
        → LegalPlay orders h vs cs → slice_get cs w ≡ Some c → c.standing ≡ asks told → LegalPlay orders h vs (slice_set cs w (answered c told))
    begins : {h : List (Entry E R)} {vs : List G} {cs : List (WorkerCourse O E R)} (w : ℕ) (c : WorkerCourse O E R) (order : C)
        → LegalPlay orders h vs cs → slice_get cs w ≡ Some c → c.standing ≡ rests → slice_get (orders w) c.begun ≡ Some order → LegalPlay orders h vs (slice_set cs w (ordered c order))
    advances : {h : List (Entry E R)} {vs : List G} {cs : List (WorkerCourse O E R)} (w : ℕ) (c : WorkerCourse O E R) (k : ℕ)
        → LegalPlay orders h vs cs → slice_get cs w ≡ Some c → c.standing ≡ has (Advance k) → LegalPlay orders h vs (slice_set cs w (advanced_by c k))
    performs : {h : List (Entry E R)} {vs : List G} {cs : List (WorkerCourse O E R)} (c : WorkerCourse O E R) (x : Entry E R) (after : Acted H G R)
        → LegalPlay orders h vs cs → slice_get cs x.worker ≡ Some c → c.standing ≡ has (Event x.event) → Follows m vs (m.hand c.own) x after → KeepsTimeRules h cs c x
        → LegalPlay orders (x ∷ h) after.values (slice_set cs x.worker (done_by c after.hand x.reply x.now))

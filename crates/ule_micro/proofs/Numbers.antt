-- The numbers of a legal play are small: its entries and advances are at most the budgets.
use Rattle.std.proofs.Common.{◌≡◌, ℕ, zero, suc, ◌+◌, ◌*◌, ◌^◌, ◌<◌, ◌≤◌, List, [], ◌∷◌, map, length, set, sym, refl, ap, ◌∙◌, subst, arith, length-set}
use Rattle.std.specs.Prelude.{Some, slice_get}
use Rattle.std.proofs.lemmas.Option.{none-some, same_Some}
use mathlib.Core.Logic.{dite}
use native.Mathlib.Decide.{ℕ_discrete}
use Rattle.ule_micro.specs.declared.entry.Entry.{Entry}
use Rattle.ule_micro.specs.Means.{Means, budgets}
use Rattle.ule_micro.specs.Courses.{WorkerCourse, all_advanced, unbegun, answered, ordered, advanced_by, done_by, LegalPlay, opens, answers, begins, advances, performs}
use Rattle.ule_micro.specs.Laws.{AreOrders, IsLawful}
use Rattle.ule_micro.proofs.Lists.{length_map, there}
use Rattle.ule_micro.proofs.Courses.{advances_little, in_budget}

-- budgets from the front
budgets_first : (b : ℕ → ℕ) (n : ℕ) → budgets b (suc n) ≡ b 0 + budgets (λ i. b (suc i)) n
budgets_first b zero = omega arith
budgets_first b (suc n) = let z = budgets_first b n in omega arith

-- one worker's budget among all
pub budget_in : (b : ℕ → ℕ) (n w : ℕ) → w < n → b w ≤ budgets b n
budget_in b zero w h = absurd (omega arith)
budget_in b (suc n) w h = dite (ℕ_discrete w n) (λ z. subst (λ i. b i ≤ budgets b (suc n)) (sym z) (omega arith)) (λ far. let k = budget_in b n w (omega arith) in omega arith)

-- the budgets of the first workers among all
pub budgets_front : (b : ℕ → ℕ) (n w : ℕ) → w ≤ n → budgets b w ≤ budgets b n
budgets_front b zero w h = let z : w ≡ 0 = omega arith in subst (λ i. budgets b i ≤ 0) (sym z) (omega arith)
budgets_front b (suc n) w h = dite (ℕ_discrete w (suc n)) (λ z. subst (λ i. budgets b i ≤ budgets b (suc n)) (sym z) (omega arith)) (λ far. let k = budgets_front b n w (omega arith) in omega arith)

-- one more budget
pub budgets_next : (b : ℕ → ℕ) (w : ℕ) → budgets b (w + 1) ≡ budgets b w + b w
budgets_next b w = let one : w + 1 ≡ suc w = omega arith in ap (budgets b) one

module _ {O E R : Type 0} where
  -- all items: the items that all workers performed
  abbrev pub all_items : List (WorkerCourse O E R) → ℕ
  all_items [] = 0
  all_items (c ∷ cs) = c.items + all_items cs

  -- a worker's advances among those of all
  pub advanced_set : (cs : List (WorkerCourse O E R)) (w : ℕ) (c d : WorkerCourse O E R) → slice_get cs w ≡ Some c
      → all_advanced (set cs w d) + c.advanced ≡ all_advanced cs + d.advanced
  advanced_set [] w c d e = absurd (none-some c e)
  advanced_set (x ∷ xs) zero c d e = let z : x.advanced ≡ c.advanced = ap (λ y. y.advanced) (same_Some x c e) in omega arith
  advanced_set (x ∷ xs) (suc w) c d e = let z = advanced_set xs w c d e in omega arith

  -- a worker's advances are among those of all
  pub advanced_at : (cs : List (WorkerCourse O E R)) (w : ℕ) (c : WorkerCourse O E R) → slice_get cs w ≡ Some c → c.advanced ≤ all_advanced cs
  advanced_at [] w c e = absurd (none-some c e)
  advanced_at (x ∷ xs) zero c e = let z : x.advanced ≡ c.advanced = ap (λ y. y.advanced) (same_Some x c e) in omega arith
  advanced_at (x ∷ xs) (suc w) c e = let z = advanced_at xs w c e in omega arith

  items_set : (cs : List (WorkerCourse O E R)) (w : ℕ) (c d : WorkerCourse O E R) → slice_get cs w ≡ Some c → all_items (set cs w d) + c.items ≡ all_items cs + d.items
  items_set [] w c d e = absurd (none-some c e)
  items_set (x ∷ xs) zero c d e = let z : x.items ≡ c.items = ap (λ y. y.items) (same_Some x c e) in omega arith
  items_set (x ∷ xs) (suc w) c d e = let z = items_set xs w c d e in omega arith

  none_yet : (os : List O) (cs : List (WorkerCourse O E R)) → cs ≡ map unbegun os → (all_items cs ≡ 0) × (all_advanced cs ≡ 0)
  none_yet [] cs e = (ap all_items e, ap all_advanced e)
  none_yet (o ∷ os) cs e = let z = none_yet os (map unbegun os) refl in (let a = ap all_items e in let b = z.0 in omega arith, let a = ap all_advanced e in let b = z.1 in omega arith)

  within_budgets : (b : ℕ → ℕ) (cs : List (WorkerCourse O E R)) → ((w : ℕ) (c : WorkerCourse O E R) → slice_get cs w ≡ Some c → c.items ≤ b w) → all_items cs ≤ budgets b (length cs)
  within_budgets b [] small = omega arith
  within_budgets b (c ∷ cs) small = let first = small 0 c refl in let rest = within_budgets (λ i. b (suc i)) cs (λ w d e. small (suc w) d e) in let z = budgets_first b (length cs) in omega arith

module _ {H O G E R C : Type 0} (m : Means H O G E R C) (orders : ℕ → List C) (laws : IsLawful m) (lists : AreOrders m orders) where
  -- is counted: entries and hz ticks advanced are bounded by the items performed, and no worker comes or goes
  pub record IsCounted (h : List (Entry E R)) (cs : List (WorkerCourse O E R)) : Type 0 where
    pub entries : length h ≤ all_items cs
    pub ticks : all_advanced cs ≤ 1000000 * all_items cs
    pub workers : length cs ≡ length m.owns

  counted_same : (h : List (Entry E R)) (cs : List (WorkerCourse O E R)) (w : ℕ) (c d : WorkerCourse O E R) → slice_get cs w ≡ Some c → d.items ≡ c.items → d.advanced ≡ c.advanced
      → IsCounted h cs → IsCounted h (set cs w d)
  counted_same h cs w c d at items advanced r = record {
    entries = let z = items_set cs w c d at in let k = r.entries in omega arith;
    ticks = let z = items_set cs w c d at in let a = advanced_set cs w c d at in let e : all_items (set cs w d) ≡ all_items cs = omega arith in
        let f : all_advanced (set cs w d) ≡ all_advanced cs = omega arith in subst (λ x. x ≤ 1000000 * all_items (set cs w d)) (sym f) (subst (λ x. all_advanced cs ≤ 1000000 * x) (sym e) r.ticks);
    workers = length-set cs w d ∙ r.workers;
  }

  -- each play is counted
  pub play_counted : {h : List (Entry E R)} {vs : List G} {cs : List (WorkerCourse O E R)} → LegalPlay m orders h vs cs → IsCounted h cs
  play_counted opens = let z = none_yet {O = O} {E = E} {R = R} m.owns (map unbegun m.owns) refl in record { entries = omega arith; ticks = omega arith; workers = length_map unbegun m.owns }
  play_counted (answers {h} {vs} {cs} w c told play at is) = counted_same h cs w c (answered m c told) at refl refl (play_counted play)
  play_counted (begins {h} {vs} {cs} w c order play at is next) = counted_same h cs w c (ordered m c order) at refl refl (play_counted play)
  play_counted (advances {h} {vs} {cs} w c k play at is) = let r = play_counted play in let i = items_set cs w c (advanced_by m c k) at in let a = advanced_set cs w c (advanced_by m c k) at in
      let small = (advances_little m orders laws lists play w c at k is).1 in record {
        entries = let e = r.entries in omega arith;
        ticks = let t = r.ticks in let e : all_items (set cs w (advanced_by m c k)) ≡ all_items cs + 1 = omega arith in omega arith;
        workers = length-set cs w (advanced_by m c k) ∙ r.workers;
      }
  play_counted (performs {h} {vs} {cs} c x after play at is follows in_time) = let r = play_counted play in let d = done_by m c after.hand x.reply x.now in let i = items_set cs x.worker c d at in let a = advanced_set cs x.worker c d at in record {
    entries = let e = r.entries in omega arith;
    ticks = let t = r.ticks in let e : all_items (set cs x.worker d) ≡ all_items cs + 1 = omega arith in omega arith;
    workers = length-set cs x.worker d ∙ r.workers;
  }

  -- is small: the entries are within the budgets, and the time is small
  pub play_small : (h : List (Entry E R)) (vs : List G) (cs : List (WorkerCourse O E R)) → LegalPlay m orders h vs cs
      → (length h ≤ budgets m.budget (length m.owns)) × (length h ≤ 65536) × (20000 + all_advanced cs < 2 ^ 36)
  play_small h vs cs play = let r = play_counted play in
      let within = within_budgets m.budget cs (λ w c e. in_budget m orders laws lists play w c e) in
      let all : all_items cs ≤ budgets m.budget (length m.owns) = subst (λ n. all_items cs ≤ budgets m.budget n) r.workers within in
      let few = laws.small.small in let e = r.entries in let t = r.ticks in (omega arith, omega arith, omega arith)

  -- a worker performed at most 65,536 items
  pub items_small : (h : List (Entry E R)) (vs : List G) (cs : List (WorkerCourse O E R)) (w : ℕ) (c : WorkerCourse O E R) → LegalPlay m orders h vs cs
      → slice_get cs w ≡ Some c → c.items ≤ 65536
  items_small h vs cs w c play at = let a = in_budget m orders laws lists play w c at in let r = play_counted play in let n = there cs w c at in let l = r.workers in
      let b = budget_in m.budget (length m.owns) w (omega arith) in let k = laws.small.small in omega arith

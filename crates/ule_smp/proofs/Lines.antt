-- Lines of threads, told one after another: each stands by its number, and the last that is told of a thread stands.
use Rattle.std.proofs.Common.{◌≡◌, ◌≢◌, ℕ, zero, suc, ◌+◌, ◌<◌, ◌≤◌, Bool, true, false, ◌==◌, nat_lt, List, [], ◌∷◌, ◌++◌, filter, Option, Some, None, IfSome, if◌then◌else◌, refl, sym, ap, ◌∙◌, subst, ⊎_elim, arith}
use Rattle.std.specs.Prelude.{find}
use Rattle.std.specs.List.{AllByRecursion, cons_option, filter_map, range_with_len}
use Rattle.std.proofs.lemmas.Bool.{cases_eq, cond-false, cond-true, eq-eqb, eqb-true, ne_eqb}
use Rattle.std.proofs.lemmas.Option.{none-some, same_Some}
use Rattle.ule_types.specs.Outcome.{placed}
use Rattle.ule_types.specs.declared.outcome.ThreadLine.{ThreadLine}
use Rattle.ule_members.proofs.Within.{all_along}

-- lines from: the lines that are told of n threads, the first of which has the number a
abbrev pub lines_from : (ℕ → Option ThreadLine) → ℕ → ℕ → List ThreadLine
lines_from f a n = filter_map f (range_with_len a n)

-- are numbered: the line that is told of a thread has its number
abbrev pub AreNumbered : (ℕ → Option ThreadLine) → Type 0
AreNumbered f = (t : ℕ) (line : ThreadLine) → f t ≡ Some line → line.id ≡ t

-- with told: this line is told of its thread, whatever was told of it before
abbrev pub with_told : ThreadLine → (ℕ → Option ThreadLine) → ℕ → Option ThreadLine
with_told l f t = if t == l.id then Some l else f t

-- what is told of the thread of this line, and of another
pub told_here : (l : ThreadLine) (f : ℕ → Option ThreadLine) (t : ℕ) → t ≡ l.id → with_told l f t ≡ Some l
told_here l f t is = cond-true (t == l.id) (Some l) (f t) (eq-eqb t l.id is)

pub told_else : (l : ThreadLine) (f : ℕ → Option ThreadLine) (t : ℕ) → t ≢ l.id → with_told l f t ≡ f t
told_else l f t far = cond-false (t == l.id) (Some l) (f t) (ne_eqb t l.id far)

-- they are numbered still
pub told_numbered : (l : ThreadLine) (f : ℕ → Option ThreadLine) → AreNumbered f → AreNumbered (with_told l f)
told_numbered l f numbered t line is = ⊎_elim (λ (e : t ≡ l.id). ap (λ (x : ThreadLine). x.id) (same_Some line l (sym is ∙ told_here l f t e)) ∙ sym e)
    (λ (far : t ≢ l.id). numbered t line (sym (told_else l f t far) ∙ is)) (cases_eq t l.id)

-- a line that is told already changes nothing
pub told_again : (l : ThreadLine) (f : ℕ → Option ThreadLine) → f l.id ≡ Some l → (t : ℕ) → with_told l f t ≡ f t
told_again l f is t = ⊎_elim (λ (e : t ≡ l.id). told_here l f t e ∙ sym (ap f e ∙ is)) (λ (far : t ≢ l.id). told_else l f t far) (cases_eq t l.id)

-- what is told alike gives the same lines
pub same_lines : (f g : ℕ → Option ThreadLine) (a n : ℕ) → ((t : ℕ) → a ≤ t → t < a + n → f t ≡ g t) → lines_from f a n ≡ lines_from g a n
same_lines f g a zero same = refl
same_lines f g a (suc n) same = (λ i. cons_option (same a (omega arith) (omega arith) i) (same_lines f g (a + 1) n (λ t low high. same t (omega arith) (omega (arith, high))) i))

-- what holds of each line that is told holds of all
pub all_lines : (P : ThreadLine → Type 0) (f : ℕ → Option ThreadLine) (a n : ℕ) → ((t : ℕ) (line : ThreadLine) → a ≤ t → t < a + n → f t ≡ Some line → P line) → AllByRecursion P (lines_from f a n)
all_lines P f a zero each = tt
all_lines P f a (suc n) each = by (f a) refl (all_lines P f (a + 1) n (λ t line low high is. each t line (omega (arith, low)) (omega (arith, high)) is))
  where
    by : (o : Option ThreadLine) → f a ≡ o → AllByRecursion P (lines_from f (a + 1) n) → AllByRecursion P (cons_option o (lines_from f (a + 1) n))
    by None is rest = rest
    by (Some line) is rest = (each a line (omega arith) (omega arith) is, rest)

-- where nothing is told there is no line
pub no_lines : (a n : ℕ) → lines_from (λ t. None) a n ≡ []
no_lines a zero = refl
no_lines a (suc n) = no_lines (a + 1) n

-- a line before lines of greater numbers comes first
none_below : (b : ℕ) (lines : List ThreadLine) → AllByRecursion (λ m. b < m.id) lines → filter (λ m. nat_lt m.id b) lines ≡ []
none_below b [] above = refl
none_below b (m ∷ ms) above = let is : nat_lt m.id b ≡ false = grind arith in
    ap (λ (x : Bool). if x then m ∷ filter (λ k. nat_lt k.id b) ms else filter (λ k. nat_lt k.id b) ms) is ∙ none_below b ms above.1

all_above : (b : ℕ) (lines : List ThreadLine) → AllByRecursion (λ m. b < m.id) lines → filter (λ m. nat_lt b m.id) lines ≡ lines
all_above b [] above = refl
all_above b (m ∷ ms) above = let is : nat_lt b m.id ≡ true = grind arith in
    ap (λ (x : Bool). if x then m ∷ filter (λ k. nat_lt b k.id) ms else filter (λ k. nat_lt b k.id) ms) is ∙ ap (λ ks. m ∷ ks) (all_above b ms above.1)

placed_first : (l : ThreadLine) (lines : List ThreadLine) → AllByRecursion (λ m. l.id < m.id) lines → placed l lines ≡ l ∷ lines
placed_first l lines above = (λ i. none_below l.id lines above i ++ l ∷ all_above l.id lines above i)

-- a line of the same number before them gives way
placed_over : (l m : ThreadLine) (lines : List ThreadLine) → m.id ≡ l.id → placed l (m ∷ lines) ≡ placed l lines
placed_over l m lines is = let below : nat_lt m.id l.id ≡ false = grind arith in let above : nat_lt l.id m.id ≡ false = grind arith in
    (λ i. (if below i then m ∷ filter (λ k. nat_lt k.id l.id) lines else filter (λ k. nat_lt k.id l.id) lines)
    ++ l ∷ (if above i then m ∷ filter (λ k. nat_lt l.id k.id) lines else filter (λ k. nat_lt l.id k.id) lines))

-- a line of a smaller number stays before it
placed_behind : (l m : ThreadLine) (lines : List ThreadLine) → m.id < l.id → placed l (m ∷ lines) ≡ m ∷ placed l lines
placed_behind l m lines low = let below : nat_lt m.id l.id ≡ true = grind arith in let above : nat_lt l.id m.id ≡ false = grind arith in
    (λ i. (if below i then m ∷ filter (λ k. nat_lt k.id l.id) lines else filter (λ k. nat_lt k.id l.id) lines)
    ++ l ∷ (if above i then m ∷ filter (λ k. nat_lt l.id k.id) lines else filter (λ k. nat_lt l.id k.id) lines))

-- a line that is placed among the lines that are told is told
pub placed_told : (f : ℕ → Option ThreadLine) → AreNumbered f → (l : ThreadLine) (a n : ℕ) → a ≤ l.id → l.id < a + n → placed l (lines_from f a n) ≡ lines_from (with_told l f) a n
placed_told f numbered l a zero low high = absurd (omega (arith, low, high))
placed_told f numbered l a (suc n) low high = ⊎_elim here (λ far. before far (placed_told f numbered l (a + 1) n)) (cases_eq a l.id)
  where
    rest : List ThreadLine
    rest = lines_from f (a + 1) n

    here : a ≡ l.id → placed l (lines_from f a (suc n)) ≡ lines_from (with_told l f) a (suc n)
    here is = by (f a) refl
        ∙ (λ i. cons_option (sym (told_here l f a is) i) (same_lines f (with_told l f) (a + 1) n (λ t more few. sym (told_else l f t (λ e. omega (arith, more, e, is)))) i))
      where
        above : AllByRecursion (λ m. l.id < m.id) (lines_from f (a + 1) n)
        above = all_lines (λ m. l.id < m.id) f (a + 1) n (λ t line more few told. let z = numbered t line told in omega (arith, more, is, z))

        by : (o : Option ThreadLine) → f a ≡ o → placed l (cons_option o (lines_from f (a + 1) n)) ≡ l ∷ lines_from f (a + 1) n
        by None told = placed_first l (lines_from f (a + 1) n) above
        by (Some m) told = placed_over l m (lines_from f (a + 1) n) (numbered a m told ∙ is) ∙ placed_first l (lines_from f (a + 1) n) above

    before : a ≢ l.id → (a + 1 ≤ l.id → l.id < a + 1 + n → placed l (lines_from f (a + 1) n) ≡ lines_from (with_told l f) (a + 1) n) → placed l (lines_from f a (suc n)) ≡ lines_from (with_told l f) a (suc n)
    before far more = by (f a) refl ∙ ap (λ o. cons_option o (lines_from (with_told l f) (a + 1) n)) (sym (told_else l f a far))
      where
        more_is : placed l (lines_from f (a + 1) n) ≡ lines_from (with_told l f) (a + 1) n
        more_is = more (omega (arith, low, far)) (omega (arith, high))

        by : (o : Option ThreadLine) → f a ≡ o → placed l (cons_option o (lines_from f (a + 1) n)) ≡ cons_option o (lines_from (with_told l f) (a + 1) n)
        by None told = more_is
        by (Some m) told = placed_behind l m (lines_from f (a + 1) n) (let z = numbered a m told in omega (arith, low, far, z)) ∙ ap (λ ks. m ∷ ks) more_is

-- what holds of each line holds of the one that is found, which has the number that is sought
pub found_line : (P : ThreadLine → Type 0) (t : ℕ) (lines : List ThreadLine) (line : ThreadLine) → AllByRecursion P lines → find (λ m. m.id == t) lines ≡ Some line → P line × (line.id ≡ t)
found_line P t [] line all found = absurd (none-some line found)
found_line P t (m ∷ ms) line all found = by (m.id == t) refl found (found_line P t ms line all.1)
  where
    by : (b : Bool) → (m.id == t) ≡ b → (if b then Some m else find (λ k. k.id == t) ms) ≡ Some line → (find (λ k. k.id == t) ms ≡ Some line → P line × (line.id ≡ t)) → P line × (line.id ≡ t)
    by true is got rest = subst (λ x. P x × (x.id ≡ t)) (same_Some m line got) (all.0, eqb-true m.id t is)
    by false is got rest = rest got

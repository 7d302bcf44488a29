-- What the lines of groups and of threads give.
use Rattle.std.proofs.Common.{◌≡◌, ℕ, ◌+◌, ◌<◌, ◌≤◌, ℤ, Bool, true, false, [], ◌∷◌, ◌++◌, map, max, refl, ap, ◌∙◌, arith, None}
use Rattle.std.specs.Prelude.{codes, nat_lt, nat_le, ◌==◌}
use Rattle.std.specs.List.{list_all}
use Rattle.std.specs.Fmt.{decimal, signed_decimal}
use Rattle.std.proofs.lemmas.Bool.{and_from, and_parts, le-leb, leb-true, ltb-true, ne_eqb}
use Rattle.std.proofs.lemmas.Bool.Decides.{nat_tests}
use Rattle.std.proofs.lemmas.List.Folds.{list_all-append}
use Rattle.ule_prio.specs.Class.{is_within, is_base_of}
use Rattle.ule_prio.specs.declared.class.Class.TheVariants as class
use Rattle.ule_types.specs.Rules.{is_form, is_spec}
use Rattle.ule_types.specs.declared.setup.Form.{Form}
use Rattle.ule_types.specs.declared.setup.Form.TheVariants as form
use Rattle.ule_types.specs.declared.setup.ThreadSpec.{ThreadSpec}
use Rattle.ule_scenario.specs.Effects.{form_in}
use Rattle.ule_scenario.specs.Forms.{Line, num, class_fault, is_class}
use Rattle.ule_scenario.specs.Reading.{Reading, is_known_thread, spent_items}
use Rattle.ule_scenario.specs.Reasons.{place_reason, word_reason, meaning_reason, is_no_base}
use Rattle.ule_scenario.specs.Tokens.{token_of}
use Rattle.ule_scenario.specs.declared.name.Name.{Name}
use Rattle.ule_scenario.specs.declared.name.Name.TheVariants.{Thread, Unborn, Ts, Ithd, Rt, Fifo, Idle, Bound}
use Rattle.ule_scenario.specs.declared.token.Token.{Token}
use Rattle.ule_trace.specs.Line.{line_text}
use Rattle.ule_plain.proofs.CommandLines.{keyword, not_above, not_past}
use Rattle.ule_plain.proofs.Leading.{Leads, Takes, leads_line}
use Rattle.ule_plain.proofs.NumbersBack.{IsNumber, IsNice, token_back, nice_back, small_is_word, nice_is_word}
use Rattle.ule_text.proofs.Printed.{is_word}
use Rattle.ule_plain.specs.Lines.{form_words, cpu_words, thread_words, unborn_words}

-- a line may stand behind the number of CPUs, up to a place, and nothing is charged beyond the budget so far
pub record IsOpen (high : ℕ) (r : Reading) : Type 0 where
  pub from : 4 ≤ r.place
  pub to : r.place ≤ high
  pub turns : r.turns ≡ []
  pub budget : spent_items r ≤ 65536

-- the tests of such a place
pub not_first : (p : ℕ) → 4 ≤ p → (p == 0) ≡ false
not_first p from = ne_eqb p 0 (λ e. omega (arith, from, e))

pub not_before : (p k : ℕ) → k ≤ p → nat_lt p k ≡ false
not_before p k h = grind (arith, nat_tests)

-- ---- an unborn thread

unborn_taken : (r : Reading) (w : Token) (t : ℕ) → IsNumber w t → t < 256 → is_known_thread r t ≡ false → IsOpen 6 r → Takes r (keyword Unborn ∷ w ∷ []) (record r { place = max r.place 6; unborn = r.unborn ++ t ∷ [] })
unfolding place_reason word_reason meaning_reason
unborn_taken r w t is small new o =
    let from = o.from in
    let budget = o.budget in
    record {
      means = refl;
      unopposed = rw (o.turns, is.minus, is.number, not_first r.place from, not_above r.place 6 o.to, not_before r.place 3 (omega arith), not_before r.place 4 from, le-leb 0 t (omega arith), le-leb t 255 (omega arith), new, not_above (spent_items r + 0) 65536 (omega arith)) refl;
      gives = rw (is.minus, is.number) refl;
    }

-- a written line of an unborn thread
pub unborn_leads : (r : Reading) (t : ℕ) → t < 256 → is_known_thread r t ≡ false → IsOpen 6 r → Leads r (line_text (unborn_words t)) (record r { place = max r.place 6; unborn = r.unborn ++ t ∷ [] })
unfolding token_of
unborn_leads r t small new o = leads_line (unborn_words t) (rw (small_is_word t (omega arith)) refl) (unborn_taken r (token_of (decimal t)) t (token_back t (omega arith)) small new o)

-- ---- a thread

-- the words behind a thread's number: a class, a nice value or a priority, and a CPU; whether `bound` follows
abbrev thread_line : Token → Name → Token → Token → Bool → Line
thread_line w n v c true = keyword Thread ∷ w ∷ keyword n ∷ v ∷ c ∷ keyword Bound ∷ []
thread_line w n v c false = keyword Thread ∷ w ∷ keyword n ∷ v ∷ c ∷ []

-- a class and the word behind it give this form, in its range
record IsFormOf (n : Name) (v : Token) (f : Form) : Type 0 where
  class : is_class n ≡ true
  fault : class_fault n v ≡ None
  base : is_no_base n (num (v ∷ []) 0) ≡ false
  gives : (w c : Token) (bound : Bool) → form_in (thread_line w n v c bound) n ≡ f

-- the facts of a thread's line
record IsSpecOf (r : Reading) (w : Token) (n : Name) (v c : Token) (id cpu : ℕ) (f : Form) : Type 0 where
  number : IsNumber w id
  small : id < 256
  new : is_known_thread r id ≡ false
  class : IsFormOf n v f
  queue : IsNumber c cpu
  below : cpu ≤ 15
  there : cpu < r.cpus

bound_taken : (r : Reading) (w : Token) (n : Name) (v c : Token) (id cpu : ℕ) (f : Form) → IsSpecOf r w n v c id cpu f → IsOpen 6 r →
    Takes r (thread_line w n v c true) (record r { place = max r.place 6; threads = r.threads ++ record { id = id; form = f; cpu = cpu; bound = true } ∷ [] })
unfolding place_reason word_reason meaning_reason
bound_taken r w n v c id cpu f t o =
    let from = o.from in
    let budget = o.budget in
    let small = t.small in
    record {
      means = refl;
      unopposed = rw (
        o.turns,
        t.number.minus,
        t.number.number,
        t.queue.minus,
        t.queue.number,
        t.class.class,
        t.class.fault,
        t.class.base,
        not_first r.place from,
        not_above r.place 6 o.to,
        not_before r.place 3 (omega arith),
        not_before r.place 4 from,
        le-leb 0 id (omega arith),
        le-leb id 255 (omega arith),
        le-leb 0 cpu (omega arith),
        le-leb cpu 15 t.below,
        not_past r.cpus cpu t.there,
        t.new,
        not_above (spent_items r + 0) 65536 (omega arith),
      ) refl;
      gives = rw (t.class.gives w c true, t.number.minus, t.number.number, t.queue.minus, t.queue.number) refl;
    }

free_taken : (r : Reading) (w : Token) (n : Name) (v c : Token) (id cpu : ℕ) (f : Form) → IsSpecOf r w n v c id cpu f → IsOpen 6 r →
    Takes r (thread_line w n v c false) (record r { place = max r.place 6; threads = r.threads ++ record { id = id; form = f; cpu = cpu; bound = false } ∷ [] })
unfolding place_reason word_reason meaning_reason
free_taken r w n v c id cpu f t o =
    let from = o.from in
    let budget = o.budget in
    let small = t.small in
    record {
      means = refl;
      unopposed = rw (
        o.turns,
        t.number.minus,
        t.number.number,
        t.queue.minus,
        t.queue.number,
        t.class.class,
        t.class.fault,
        t.class.base,
        not_first r.place from,
        not_above r.place 6 o.to,
        not_before r.place 3 (omega arith),
        not_before r.place 4 from,
        le-leb 0 id (omega arith),
        le-leb id 255 (omega arith),
        le-leb 0 cpu (omega arith),
        le-leb cpu 15 t.below,
        not_past r.cpus cpu t.there,
        t.new,
        not_above (spent_items r + 0) 65536 (omega arith),
      ) refl;
      gives = rw (t.class.gives w c false, t.number.minus, t.number.number, t.queue.minus, t.queue.number) refl;
    }

-- what each class gives
ts_form : (v : Token) (z : ℤ) → IsNice v z → IsFormOf Ts v (form.Ts z)
ts_form v z is = record { class = refl; fault = is.fault; base = refl; gives = by_bound }
  where
    by_bound : (w c : Token) (bound : Bool) → form_in (thread_line w Ts v c bound) Ts ≡ form.Ts z
    by_bound w c true = ap (λ (x : ℤ). form.Ts x) is.value
    by_bound w c false = ap (λ (x : ℤ). form.Ts x) is.value

ithd_form : (v : Token) (p : ℕ) → IsNumber v p → p ≤ 255 → is_base_of class.Ithd p ≡ true → IsFormOf Ithd v (form.Ithd p)
ithd_form v p is small base = record { class = refl; fault = rw (is.minus, is.number, le-leb 0 p (omega arith), le-leb p 255 small) refl; base = rw (is.minus, is.number, base) refl; gives = by_bound }
  where
    by_bound : (w c : Token) (bound : Bool) → form_in (thread_line w Ithd v c bound) Ithd ≡ form.Ithd p
    by_bound w c true = rw (is.minus, is.number) refl
    by_bound w c false = rw (is.minus, is.number) refl

rt_form : (v : Token) (p : ℕ) → IsNumber v p → p ≤ 255 → is_base_of class.Rt p ≡ true → IsFormOf Rt v (form.Rt p)
rt_form v p is small base = record { class = refl; fault = rw (is.minus, is.number, le-leb 0 p (omega arith), le-leb p 255 small) refl; base = rw (is.minus, is.number, base) refl; gives = by_bound }
  where
    by_bound : (w c : Token) (bound : Bool) → form_in (thread_line w Rt v c bound) Rt ≡ form.Rt p
    by_bound w c true = rw (is.minus, is.number) refl
    by_bound w c false = rw (is.minus, is.number) refl

fifo_form : (v : Token) (p : ℕ) → IsNumber v p → p ≤ 255 → is_base_of class.Fifo p ≡ true → IsFormOf Fifo v (form.Fifo p)
fifo_form v p is small base = record { class = refl; fault = rw (is.minus, is.number, le-leb 0 p (omega arith), le-leb p 255 small) refl; base = rw (is.minus, is.number, base) refl; gives = by_bound }
  where
    by_bound : (w c : Token) (bound : Bool) → form_in (thread_line w Fifo v c bound) Fifo ≡ form.Fifo p
    by_bound w c true = rw (is.minus, is.number) refl
    by_bound w c false = rw (is.minus, is.number) refl

idle_form : (v : Token) (p : ℕ) → IsNumber v p → p ≤ 255 → is_base_of class.Idle p ≡ true → IsFormOf Idle v (form.Idle p)
idle_form v p is small base = record { class = refl; fault = rw (is.minus, is.number, le-leb 0 p (omega arith), le-leb p 255 small) refl; base = rw (is.minus, is.number, base) refl; gives = by_bound }
  where
    by_bound : (w c : Token) (bound : Bool) → form_in (thread_line w Idle v c bound) Idle ≡ form.Idle p
    by_bound w c true = rw (is.minus, is.number) refl
    by_bound w c false = rw (is.minus, is.number) refl

-- the facts of a written line
spec_of : (r : Reading) (n : Name) (v : Token) (f : Form) (id cpu : ℕ) → r.cpus ≤ 16 → cpu < r.cpus → id < 256 → is_known_thread r id ≡ false → IsFormOf n v f → IsSpecOf r (token_of (decimal id)) n v (token_of (decimal cpu)) id cpu f
spec_of r n v f id cpu cpus there small new is = record {
  number = token_back id (omega arith);
  small = small;
  new = new;
  class = is;
  queue = token_back cpu (omega arith);
  below = omega arith;
  there = there;
}

-- a number that ends a range
pub range_end : (low high p : ℕ) → is_within low high p ≡ true → p ≤ high
range_end low high p within = leb-true p high (and_parts (nat_le low p) (nat_le p high) within).1

-- a priority in the range of the class of idle threads
pub idle_small : (p : ℕ) → is_form (form.Idle p) ≡ true → (is_base_of class.Idle p ≡ true) × (p ≤ 255)
idle_small p good =
    let both = and_parts (is_base_of class.Idle p) (nat_lt p 256) good in
    let below = ltb-true p 256 both.1 in
    (both.0, omega (arith, below))

-- the words of a written line of a thread that is bound
bound_words_taken : (r : Reading) (id cpu : ℕ) (f : Form) → r.cpus ≤ 16 → is_form f ≡ true → cpu < r.cpus → id < 256 → is_known_thread r id ≡ false → IsOpen 6 r →
    Takes r (map token_of (codes "thread" ∷ decimal id ∷ form_words f ++ cpu_words cpu true)) (record r { place = max r.place 6; threads = r.threads ++ record { id = id; form = f; cpu = cpu; bound = true } ∷ [] })
unfolding token_of
bound_words_taken r id cpu (form.Ts z) cpus good there small new o =
    let v = token_of (signed_decimal z) in
    bound_taken r (token_of (decimal id)) Ts v (token_of (decimal cpu)) id cpu (form.Ts z) (spec_of r Ts v (form.Ts z) id cpu cpus there small new (ts_form v z (nice_back z good))) o
bound_words_taken r id cpu (form.Ithd p) cpus good there small new o =
    let v = token_of (decimal p) in
    let low = range_end 0 47 p good in
    bound_taken r (token_of (decimal id)) Ithd v (token_of (decimal cpu)) id cpu (form.Ithd p) (spec_of r Ithd v (form.Ithd p) id cpu cpus there small new (ithd_form v p (token_back p (omega arith)) (omega arith) good)) o
bound_words_taken r id cpu (form.Rt p) cpus good there small new o =
    let v = token_of (decimal p) in
    let low = range_end 48 79 p good in
    bound_taken r (token_of (decimal id)) Rt v (token_of (decimal cpu)) id cpu (form.Rt p) (spec_of r Rt v (form.Rt p) id cpu cpus there small new (rt_form v p (token_back p (omega arith)) (omega arith) good)) o
bound_words_taken r id cpu (form.Fifo p) cpus good there small new o =
    let v = token_of (decimal p) in
    let low = range_end 48 79 p good in
    bound_taken r (token_of (decimal id)) Fifo v (token_of (decimal cpu)) id cpu (form.Fifo p) (spec_of r Fifo v (form.Fifo p) id cpu cpus there small new (fifo_form v p (token_back p (omega arith)) (omega arith) good)) o
bound_words_taken r id cpu (form.Idle p) cpus good there small new o =
    let v = token_of (decimal p) in
    let low = idle_small p good in
    bound_taken r (token_of (decimal id)) Idle v (token_of (decimal cpu)) id cpu (form.Idle p) (spec_of r Idle v (form.Idle p) id cpu cpus there small new (idle_form v p (token_back p (omega arith)) low.1 low.0)) o

-- the words of a written line of a thread that is free
free_words_taken : (r : Reading) (id cpu : ℕ) (f : Form) → r.cpus ≤ 16 → is_form f ≡ true → cpu < r.cpus → id < 256 → is_known_thread r id ≡ false → IsOpen 6 r →
    Takes r (map token_of (codes "thread" ∷ decimal id ∷ form_words f ++ cpu_words cpu false)) (record r { place = max r.place 6; threads = r.threads ++ record { id = id; form = f; cpu = cpu; bound = false } ∷ [] })
unfolding token_of
free_words_taken r id cpu (form.Ts z) cpus good there small new o =
    let v = token_of (signed_decimal z) in
    free_taken r (token_of (decimal id)) Ts v (token_of (decimal cpu)) id cpu (form.Ts z) (spec_of r Ts v (form.Ts z) id cpu cpus there small new (ts_form v z (nice_back z good))) o
free_words_taken r id cpu (form.Ithd p) cpus good there small new o =
    let v = token_of (decimal p) in
    let low = range_end 0 47 p good in
    free_taken r (token_of (decimal id)) Ithd v (token_of (decimal cpu)) id cpu (form.Ithd p) (spec_of r Ithd v (form.Ithd p) id cpu cpus there small new (ithd_form v p (token_back p (omega arith)) (omega arith) good)) o
free_words_taken r id cpu (form.Rt p) cpus good there small new o =
    let v = token_of (decimal p) in
    let low = range_end 48 79 p good in
    free_taken r (token_of (decimal id)) Rt v (token_of (decimal cpu)) id cpu (form.Rt p) (spec_of r Rt v (form.Rt p) id cpu cpus there small new (rt_form v p (token_back p (omega arith)) (omega arith) good)) o
free_words_taken r id cpu (form.Fifo p) cpus good there small new o =
    let v = token_of (decimal p) in
    let low = range_end 48 79 p good in
    free_taken r (token_of (decimal id)) Fifo v (token_of (decimal cpu)) id cpu (form.Fifo p) (spec_of r Fifo v (form.Fifo p) id cpu cpus there small new (fifo_form v p (token_back p (omega arith)) (omega arith) good)) o
free_words_taken r id cpu (form.Idle p) cpus good there small new o =
    let v = token_of (decimal p) in
    let low = idle_small p good in
    free_taken r (token_of (decimal id)) Idle v (token_of (decimal cpu)) id cpu (form.Idle p) (spec_of r Idle v (form.Idle p) id cpu cpus there small new (idle_form v p (token_back p (omega arith)) low.1 low.0)) o

-- the words of a form are words of a written line
form_is_words : (f : Form) → is_form f ≡ true → list_all is_word (form_words f) ≡ true
form_is_words (form.Ts z) good = rw (nice_is_word z good) refl
form_is_words (form.Ithd p) good = let low = range_end 0 47 p good in rw (small_is_word p (omega arith)) refl
form_is_words (form.Rt p) good = let low = range_end 48 79 p good in rw (small_is_word p (omega arith)) refl
form_is_words (form.Fifo p) good = let low = range_end 48 79 p good in rw (small_is_word p (omega arith)) refl
form_is_words (form.Idle p) good = let low = (idle_small p good).1 in rw (small_is_word p (omega arith)) refl

cpu_is_words : (c : ℕ) (bound : Bool) → c < 16 → list_all is_word (cpu_words c bound) ≡ true
cpu_is_words c true small = rw (small_is_word c (omega arith)) refl
cpu_is_words c false small = rw (small_is_word c (omega arith)) refl

-- so are all of a thread
thread_is_words : (t : ThreadSpec) → is_form t.form ≡ true → t.cpu < 16 → t.id < 256 → list_all is_word (thread_words t) ≡ true
thread_is_words t good there small =
    and_from true (list_all is_word (decimal t.id ∷ form_words t.form ++ cpu_words t.cpu t.bound)) refl
    (and_from (is_word (decimal t.id)) (list_all is_word (form_words t.form ++ cpu_words t.cpu t.bound)) (small_is_word t.id (omega arith))
    (list_all-append is_word (form_words t.form) (cpu_words t.cpu t.bound)
    ∙ and_from (list_all is_word (form_words t.form)) (list_all is_word (cpu_words t.cpu t.bound)) (form_is_words t.form good) (cpu_is_words t.cpu t.bound there)))

-- a written line of a thread
pub thread_leads : (r : Reading) (t : ThreadSpec) → r.cpus ≤ 16 → is_spec r.cpus t ≡ true → t.id < 256 → is_known_thread r t.id ≡ false → IsOpen 6 r →
    Leads r (line_text (thread_words t)) (record r { place = max r.place 6; threads = r.threads ++ t ∷ [] })
thread_leads r t cpus good small new o =
    let both = and_parts (is_form t.form) (nat_lt t.cpu r.cpus) good in
    let there = ltb-true t.cpu r.cpus both.1 in
    leads_line (thread_words t) (thread_is_words t both.0 (omega arith) small) (by_bound t.bound both.0 there)
  where
    by_bound : (b : Bool) → is_form t.form ≡ true → t.cpu < r.cpus →
        Takes r (map token_of (codes "thread" ∷ decimal t.id ∷ form_words t.form ++ cpu_words t.cpu b)) (record r { place = max r.place 6; threads = r.threads ++ record { id = t.id; form = t.form; cpu = t.cpu; bound = b } ∷ [] })
    by_bound true form there = bound_words_taken r t.id t.cpu t.form cpus form there small new o
    by_bound false form there = free_words_taken r t.id t.cpu t.form cpus form there small new o

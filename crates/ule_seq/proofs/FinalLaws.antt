-- Lines that are set in rising number, and the lines of the CPUs that the locks guard.
use Rattle.std.proofs.Common.{◌≡◌, ℕ, suc, ◌+◌, ◌<◌, ◌≤◌, Bool, true, false, nat_lt, List, [], ◌∷◌, ◌++◌, drop, filter, length, take, slice_get, slice_index_or, Option, Some, None, IfSome, if◌then◌else◌, option_to_list, refl, sym, ◌∙◌, ap, subst, append-nil, length-append, take-append-drop, take_all, get_or, arith}
use Rattle.std.specs.List.{AllByRecursion, cons_option, filter_map, range_with_len}
use Rattle.std.proofs.lemmas.List.{drop_all, drop_more, take_more}
use Rattle.std.proofs.lemmas.List.Elements.{filter_map-append}
use Rattle.ule_score.specs.declared.record.CpuLine.{CpuLine}
use Rattle.ule_types.specs.Outcome.{OutcomeValue, placed, with_cpu}
use Rattle.ule_types.specs.declared.outcome.ThreadLine.{ThreadLine}
use Rattle.ule_model.specs.CpuValue.{first_found}
use Rattle.ule_model.specs.LockValue.{LockValue, chain, limbo, line_under, nothing, queue}
use Rattle.ule_model.specs.World.{World, fresh_line}
use Rattle.ule_model.specs.WorldValue.{IsShown, Shows, StandsUnder, WorldValue, line_among, value_lines}
use Rattle.ule_laws.proofs.TellLaws.{lines_shown}
use Rattle.ule_members.proofs.Within.{all-append, all_along}
use Rattle.ule_rounds.proofs.RoundsLaws.{range_push}
use Rattle.ule_seq.specs.Outcomes.{HasFinals, queue_line, queue_lines}

-- ---- the lines of threads

-- lines are of threads below a number
abbrev pub AreBelow : ℕ → List ThreadLine → Type 0
AreBelow n lines = AllByRecursion (λ m. m.id < n) lines

-- every one of the lines below a number is among those that are below it
pub filter_below : (n : ℕ) (lines : List ThreadLine) → AreBelow n lines → filter (λ m. nat_lt m.id n) lines ≡ lines
filter_below n [] all = refl
filter_below n (m ∷ ms) all =
    let is : nat_lt m.id n ≡ true = grind arith in
    ap (λ (b : Bool). if b then m ∷ filter (λ k. nat_lt k.id n) ms else filter (λ k. nat_lt k.id n) ms) is ∙
    ap (λ (ks : List ThreadLine). m ∷ ks) (filter_below n ms all.1)

-- none of the lines below a number is above it
pub filter_above : (n : ℕ) (lines : List ThreadLine) → AreBelow n lines → filter (λ m. nat_lt n m.id) lines ≡ []
filter_above n [] all = refl
filter_above n (m ∷ ms) all =
    let is : nat_lt n m.id ≡ false = grind arith in
    ap (λ (b : Bool). if b then m ∷ filter (λ k. nat_lt n k.id) ms else filter (λ k. nat_lt n k.id) ms) is ∙
    filter_above n ms all.1

-- a line above all others is set behind them
pub placed_last : (l : ThreadLine) (lines : List ThreadLine) → AreBelow l.id lines → placed l lines ≡ lines ++ l ∷ []
placed_last l lines all =
    ap (λ (ks : List ThreadLine). ks ++ l ∷ filter (λ m. nat_lt l.id m.id) lines) (filter_below l.id lines all) ∙
    ap (λ (ks : List ThreadLine). lines ++ l ∷ ks) (filter_above l.id lines all)

-- what is told of one thread comes alone
told_alone : {X Y : Type 0} (f : X → Option Y) (x : X) → filter_map f (x ∷ []) ≡ option_to_list (f x)
told_alone {X} {Y} f x = split (f x)
  where
    split : (o : Option Y) → cons_option o [] ≡ option_to_list o
    split None = refl
    split (Some y) = refl

-- what is told of one number more comes behind what is told of those before it
pub told_of_more : {Y : Type 0} (f : ℕ → Option Y) (n : ℕ) →
    filter_map f (range_with_len 0 (n + 1)) ≡ filter_map f (range_with_len 0 n) ++ option_to_list (f n)
told_of_more {Y} f n =
    ap (filter_map f) (range_push n) ∙ filter_map-append f (range_with_len 0 n) (n ∷ []) ∙
    ap (λ (ys : List Y). filter_map f (range_with_len 0 n) ++ ys) (told_alone f n)

-- the lines of threads below a number and the line of that one are below the next
pub lines_below_next : (f : ℕ → Option ThreadLine) (n : ℕ) → IfSome (f n) (λ l. l.id ≡ n) →
    AreBelow n (filter_map f (range_with_len 0 n)) → AreBelow (n + 1) (filter_map f (range_with_len 0 (n + 1)))
lines_below_next f n number all =
    subst (AreBelow (n + 1)) (sym (told_of_more f n))
    (all-append (λ m. m.id < n + 1) (filter_map f (range_with_len 0 n)) (option_to_list (f n))
    (all_along (λ m. m.id < n) (λ m. m.id < n + 1) (filter_map f (range_with_len 0 n)) (λ m low. omega arith) all) (last (f n) number))
  where
    last : (o : Option ThreadLine) → IfSome o (λ l. l.id ≡ n) → AllByRecursion (λ m. m.id < n + 1) (option_to_list o)
    last None is = tt
    last (Some l) is = (omega (arith, is), tt)

-- an outcome in which the line of one thread more is set has the lines of one thread more
pub line_set : (f : ℕ → Option ThreadLine) (n : ℕ) (l : ThreadLine) (first old new : OutcomeValue) →
    old ≡ record first { threads = filter_map f (range_with_len 0 n) } → new ≡ record old { threads = placed l old.threads } →
    Some l ≡ f n → l.id ≡ n → AreBelow n (filter_map f (range_with_len 0 n)) →
    new ≡ record first { threads = filter_map f (range_with_len 0 (n + 1)) }
line_set f n l first old new before after some number all =
    after ∙ ap (λ (o : OutcomeValue). record o { threads = placed l o.threads }) before ∙
    ap (λ (ts : List ThreadLine). record first { threads = ts })
    (placed_last l (filter_map f (range_with_len 0 n)) (subst (λ (k : ℕ). AreBelow k (filter_map f (range_with_len 0 n))) (sym number) all) ∙
    sym (told_of_more f n ∙ ap (λ (o : Option ThreadLine). filter_map f (range_with_len 0 n) ++ option_to_list o) (sym some)))

-- an outcome has the lines of one thread more as it is, where nothing is told of that thread
pub set_no_line : (f : ℕ → Option ThreadLine) (n : ℕ) (first old : OutcomeValue) →
    old ≡ record first { threads = filter_map f (range_with_len 0 n) } → f n ≡ None →
    old ≡ record first { threads = filter_map f (range_with_len 0 (n + 1)) }
set_no_line f n first old before none =
    before ∙ ap (λ (ts : List ThreadLine). record first { threads = ts })
    (sym (told_of_more f n ∙ ap (λ (o : Option ThreadLine). filter_map f (range_with_len 0 n) ++ option_to_list o) none ∙
    append-nil (filter_map f (range_with_len 0 n))))

-- ---- the lines of CPUs

-- the values from lock n on have the lines of the CPUs from n on
queue_lines_from : (w : World) (n : ℕ) (values : List LockValue) → length w.lines ≤ 16 → length w.lines ≤ n + length values →
    ((k : ℕ) → IfSome (slice_get values k) (StandsUnder w (n + k))) → queue_lines values ≡ drop n w.lines
queue_lines_from w n [] few all each = sym (drop_all n w.lines (omega (arith, all)))
queue_lines_from w n (x ∷ xs) few all each =
    first x (subst (λ (i : ℕ). StandsUnder w i x) (let e : n + 0 ≡ n = omega arith in e) (each 0))
    (queue_lines_from w (suc n) xs few (omega (arith, all))
    (λ k. subst (λ (i : ℕ). IfSome (slice_get xs k) (StandsUnder w i)) (let e : n + suc k ≡ suc n + k = omega arith in e) (each (suc k))))
  where
    past : length w.lines ≤ n → queue_lines xs ≡ drop (suc n) w.lines → queue_lines xs ≡ drop n w.lines
    past none rest = rest ∙ drop_all (suc n) w.lines (omega (arith, none)) ∙ sym (drop_all n w.lines none)

    first : (x : LockValue) → StandsUnder w n x → queue_lines xs ≡ drop (suc n) w.lines → queue_lines (x ∷ xs) ≡ drop n w.lines
    first (queue v) stands rest =
        ap (λ (l : CpuLine). l ∷ queue_lines xs) stands.stands.line ∙
        ap (λ (ls : List CpuLine). slice_index_or w.lines n fresh_line ∷ ls) (rest ∙ ap (λ (i : ℕ). drop i w.lines) (let e : suc n ≡ n + 1 = omega arith in e)) ∙
        sym (drop_more w.lines n fresh_line stands.there)
    first (chain v) stands rest = past (omega (arith, few, stands.number)) rest
    first (limbo v) stands rest = past (omega (arith, few, stands.number)) rest
    first nothing stands rest = past stands.past rest

-- the lines of the CPUs that a scheduler's locks guard are the world's
pub cpu_lines_shown : (v : WorldValue) (w : World) → Shows v w → queue_lines v.values ≡ w.lines
cpu_lines_shown v w shows =
    queue_lines_from w 0 v.values shows.cpus (omega (arith, shows.cpus, shows.locks))
    (λ k. subst (λ (i : ℕ). IfSome (slice_get v.values k) (StandsUnder w i)) (let e : k ≡ 0 + k = omega arith in e) (shows.under k))

-- the value of the next lock is the first of those from it on
pub value_next : (values items : List LockValue) (i : ℕ) (x : LockValue) → values ≡ items → i < length items → x ≡ get_or items i x → drop i values ≡ x ∷ drop (i + 1) values
value_next values items i x shown below at = ap (drop i) shown ∙ drop_more items i x below ∙ (λ j. sym at j ∷ drop (i + 1) (sym shown j))

-- the line of a thread from the next lock on is that under it, or else that behind it
pub line_next : (values items : List LockValue) (i : ℕ) (x : LockValue) (t : ℕ) (o : Option ThreadLine) →
    values ≡ items → i < length items → x ≡ get_or items i x → line_under x t ≡ o →
    line_among (drop i values) t ≡ first_found o (line_among (drop (i + 1) values) t)
line_next values items i x t o shown below at told =
    ap (λ (vs : List LockValue). line_among vs t) (value_next values items i x shown below at) ∙
    ap (λ (p : Option ThreadLine). first_found p (line_among (drop (i + 1) values) t)) told

-- the value of the next lock is the last of those up to it
pub value_last : (values items : List LockValue) (i : ℕ) (x : LockValue) → values ≡ items → i < length items → x ≡ get_or items i x → take (i + 1) values ≡ take i values ++ x ∷ []
value_last values items i x shown below at = ap (take (i + 1)) shown ∙ take_more items i x below ∙ (λ j. take i (sym shown j) ++ sym at j ∷ [])

-- fewer than 16 CPUs are told of before one that is still to be told
pub queue_lines_room : (v : WorldValue) (i : ℕ) (x : LockValue) (rest : List LockValue) (l : CpuLine) →
    IsShown v → drop i v.values ≡ x ∷ rest → queue_line x ≡ Some l → length (queue_lines (take i v.values)) < 16
queue_lines_room v i x rest l (w, shows) from is = omega (arith, counts, shows.cpus)
  where
    splits : queue_lines (take i v.values) ++ l ∷ queue_lines rest ≡ w.lines
    splits =
        ap (λ (o : Option CpuLine). queue_lines (take i v.values) ++ cons_option o (queue_lines rest)) (sym is) ∙
        sym (filter_map-append queue_line (take i v.values) (x ∷ rest)) ∙
        ap (λ (vs : List LockValue). queue_lines (take i v.values ++ vs)) (sym from) ∙
        ap queue_lines (take-append-drop i v.values) ∙ cpu_lines_shown v w shows

    counts : length (queue_lines (take i v.values)) + suc (length (queue_lines rest)) ≡ length w.lines
    counts = sym (length-append (queue_lines (take i v.values)) (l ∷ queue_lines rest)) ∙ ap length splits

-- a line set as that of the next CPU comes behind all others
pub with_next_cpu : (c : ℕ) (l : CpuLine) (lines : List CpuLine) → c ≡ length lines → with_cpu c l lines ≡ lines ++ l ∷ []
with_next_cpu c l lines is =
    ap (λ (ls : List CpuLine). ls ++ l ∷ drop (c + 1) lines) (take_all c lines (omega (arith, is))) ∙
    ap (λ (ls : List CpuLine). lines ++ l ∷ ls) (drop_all (c + 1) lines (omega (arith, is)))

-- the lines of the values up to the next lock's end in that lock's line, if it guards a CPU
pub queue_lines_more : (values : List LockValue) (i : ℕ) (x : LockValue) → take (i + 1) values ≡ take i values ++ x ∷ [] →
    queue_lines (take (i + 1) values) ≡ queue_lines (take i values) ++ option_to_list (queue_line x)
queue_lines_more values i x is =
    ap queue_lines is ∙ filter_map-append queue_line (take i values) (x ∷ []) ∙
    ap (λ (ls : List CpuLine). queue_lines (take i values) ++ ls) (told_alone queue_line x)

-- an outcome in which the next CPU's line is set has the lines of the values up to that CPU's
pub set_queue_line : (values : List LockValue) (i : ℕ) (x : LockValue) (c : ℕ) (l : CpuLine) (first old new : OutcomeValue) →
    old ≡ record first { cpus = queue_lines (take i values) } → new ≡ record old { cpus = with_cpu c l old.cpus } → c ≡ length old.cpus →
    queue_line x ≡ Some l → take (i + 1) values ≡ take i values ++ x ∷ [] →
    new ≡ record first { cpus = queue_lines (take (i + 1) values) }
set_queue_line values i x c l first old new before after next some more =
    after ∙ ap (λ (ls : List CpuLine). record old { cpus = ls }) (with_next_cpu c l old.cpus next) ∙
    ap (λ (o : OutcomeValue). record o { cpus = o.cpus ++ l ∷ [] }) before ∙
    ap (λ (ls : List CpuLine). record first { cpus = ls })
    (sym (queue_lines_more values i x more ∙ ap (λ (o : Option CpuLine). queue_lines (take i values) ++ option_to_list o) some))

-- an outcome has the lines of one value more as it is, where that value is no CPU
pub set_no_queue_line : (values : List LockValue) (i : ℕ) (x : LockValue) (first old : OutcomeValue) →
    old ≡ record first { cpus = queue_lines (take i values) } → queue_line x ≡ None → take (i + 1) values ≡ take i values ++ x ∷ [] →
    old ≡ record first { cpus = queue_lines (take (i + 1) values) }
set_no_queue_line values i x first old before none more =
    before ∙ ap (λ (ls : List CpuLine). record first { cpus = ls })
    (sym (queue_lines_more values i x more ∙ ap (λ (o : Option CpuLine). queue_lines (take i values) ++ option_to_list o) none ∙
    append-nil (queue_lines (take i values))))

-- ---- all final lines

-- the final lines of a scheduler are those of each world that it shows
pub final_lines : (v : WorldValue) (old new : OutcomeValue) (now : ℕ) →
    new ≡ record old { threads = value_lines v; cpus = queue_lines v.values; now = now } → HasFinals v old new now
final_lines v old new now is = record {
  entries = ap (λ (o : OutcomeValue). o.entries) is;
  lines = λ w shows. record {
    threads = ap (λ (o : OutcomeValue). o.threads) is ∙ lines_shown v w shows;
    cpus = ap (λ (o : OutcomeValue). o.cpus) is ∙ cpu_lines_shown v w shows;
    end = ap (λ (o : OutcomeValue). o.now) is;
  };
}

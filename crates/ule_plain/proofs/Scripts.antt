-- Scripts that are read up to a command: what they are charged, and what they fork.
use Rattle.std.proofs.Common.{◌≡◌, ℕ, zero, suc, ◌+◌, ◌≤◌, ◌==◌, Bool, true, false, List, [], ◌∷◌, ◌++◌, length, map, take, drop, replicate, refl, sym, ap, ◌∙◌, append_assoc, arith}
use Rattle.std.specs.Prelude.{sum}
use Rattle.std.specs.List.{list_all, list_any, flat_map}
use Rattle.std.proofs.lemmas.Bool.{and_parts, eq-eqb, eqb-true, false_from_ne_true, or_left}
use Rattle.std.proofs.lemmas.Grind.{flat_map-append}
use Rattle.std.proofs.lemmas.List.{append-nil}
use Rattle.std.proofs.lemmas.List.Folds.{list_all-append}
use Rattle.std.proofs.lemmas.List.Sums.{sum-map, sum_by-append, sum_by-cons}
use Rattle.ule_types.proofs.Repeats.{distinct_apart}
use Rattle.ule_types.specs.Commands.{is_among, greatest_of, forked_by}
use Rattle.ule_types.specs.Rules.{budget_from, forked_in_all, is_distinct}
use Rattle.ule_types.specs.declared.command.Command.{Command}
use Rattle.ule_types.specs.declared.command.Command.TheVariants as command

-- whether each script is empty
abbrev pub are_idle : List (List Command) → Bool
are_idle scripts = list_all (λ (script : List Command). length script == 0) scripts

-- ---- what is charged

-- what the script of a worker is charged
abbrev pub charge_of : ℕ → ℕ → List Command → ℕ
charge_of worker cpus script = sum (map (λ c. greatest_of c worker cpus) script)

-- by its first command
pub charge-cons : (worker cpus : ℕ) (c : Command) (script : List Command) → charge_of worker cpus (c ∷ script) ≡ greatest_of c worker cpus + charge_of worker cpus script
charge-cons worker cpus c script =
    let f : Command → ℕ = λ x. greatest_of x worker cpus in
    omega (arith, sum-map f (c ∷ script), sum_by-cons f c script, sum-map f script)

-- in two parts
charge-append : (worker cpus : ℕ) (xs ys : List Command) → charge_of worker cpus (xs ++ ys) ≡ charge_of worker cpus xs + charge_of worker cpus ys
charge-append worker cpus xs ys =
    let f : Command → ℕ = λ x. greatest_of x worker cpus in
    omega (arith, sum-map f (xs ++ ys), sum_by-append f xs ys, sum-map f xs, sum-map f ys)

-- what scripts are charged, those of the workers from `next` on apart
pub budget-append : (worker next cpus : ℕ) (xs ys : List (List Command)) → worker + length xs ≡ next → budget_from worker cpus (xs ++ ys) ≡ budget_from worker cpus xs + budget_from next cpus ys
budget-append worker next cpus [] ys is = let same : worker ≡ next = omega (arith, is) in omega (arith, ap (λ w. budget_from w cpus ys) same)
budget-append worker next cpus (s ∷ xs) ys is = omega (arith, budget-append (worker + 1) next cpus xs ys (omega (arith, is)))

-- an empty script is empty
no_command : (script : List Command) → (length script == 0) ≡ true → script ≡ []
no_command [] none = refl
no_command (c ∷ script) none = absurd (omega (arith, eqb-true (length (c ∷ script)) 0 none))

-- empty scripts are charged nothing
idle_budget : (worker cpus : ℕ) (xs : List (List Command)) → are_idle xs ≡ true → budget_from worker cpus xs ≡ 0
idle_budget worker cpus [] idle = refl
idle_budget worker cpus (s ∷ xs) idle =
    let parts = and_parts (length s == 0) (are_idle xs) idle in
    rw (no_command s parts.0) (omega (arith, idle_budget (worker + 1) cpus xs parts.1))

-- scripts that are read so far are charged no more than all
pub scripts_room : (cpus : ℕ) (done rest idle : List (List Command)) → are_idle idle ≡ true → budget_from 0 cpus (done ++ rest) ≤ 65536 → budget_from 0 cpus (done ++ idle) ≤ 65536
scripts_room cpus done rest idle none all =
    let w = length done in
    omega (arith, budget-append 0 w cpus done idle (omega arith), budget-append 0 w cpus done rest (omega arith), idle_budget w cpus idle none, all)

-- a command that is read has room, since all have
pub command_room : (cpus : ℕ) (done : List (List Command)) (front : List Command) (c : Command) (rest : List Command) (later idle : List (List Command)) → are_idle idle ≡ true →
    budget_from 0 cpus (done ++ (front ++ c ∷ rest) ∷ later) ≤ 65536 → budget_from 0 cpus (done ++ front ∷ idle) + greatest_of c (length done) cpus ≤ 65536
command_room cpus done front c rest later idle none all =
    let w = length done in
    omega (
      arith,
      budget-append 0 w cpus done (front ∷ idle) (omega arith),
      budget-append 0 w cpus done ((front ++ c ∷ rest) ∷ later) (omega arith),
      charge-append w cpus front (c ∷ rest),
      charge-cons w cpus c rest,
      idle_budget (w + 1) cpus idle none,
      all,
    )

-- ---- what is forked

-- empty scripts fork nothing
idle_forks : (xs : List (List Command)) → are_idle xs ≡ true → forked_in_all xs ≡ []
idle_forks [] idle = refl
idle_forks (s ∷ xs) idle =
    let parts = and_parts (length s == 0) (are_idle xs) idle in
    rw (no_command s parts.0, idle_forks xs parts.1) refl

-- the threads that one script forks
abbrev forked_in : List Command → List ℕ
forked_in script = flat_map forked_by script

-- what scripts fork that are read so far
forks_so_far : (done : List (List Command)) (front : List Command) (idle : List (List Command)) → are_idle idle ≡ true → forked_in_all (done ++ front ∷ idle) ≡ forked_in_all done ++ forked_in front
forks_so_far done front idle none =
    flat_map-append forked_in done (front ∷ idle) ∙ ap (λ us. forked_in_all done ++ (forked_in front ++ us)) (idle_forks idle none)
    ∙ ap (λ us. forked_in_all done ++ us) (append-nil (forked_in front))

-- what all fork, cut at a command
five_forks : (a b c d e : List ℕ) → a ++ ((b ++ (c ++ d)) ++ e) ≡ (a ++ b) ++ (c ++ (d ++ e))
five_forks a b c d e = simp append_assoc

forks_cut : (done : List (List Command)) (front : List Command) (c : Command) (rest : List Command) (later : List (List Command)) →
    forked_in_all (done ++ (front ++ c ∷ rest) ∷ later) ≡ (forked_in_all done ++ forked_in front) ++ (forked_by c ++ (forked_in rest ++ forked_in_all later))
forks_cut done front c rest later =
    flat_map-append forked_in done ((front ++ c ∷ rest) ∷ later)
    ∙ ap (λ us. forked_in_all done ++ (us ++ forked_in_all later)) (flat_map-append forked_by front (c ∷ rest))
    ∙ five_forks (forked_in_all done) (forked_in front) (forked_by c) (forked_in rest) (forked_in_all later)

-- a number of distinct ones is none of those before it
pub none_before : (xs : List ℕ) (t : ℕ) (ys : List ℕ) → is_distinct (xs ++ t ∷ ys) ≡ true → is_among xs t ≡ false
none_before xs t ys all = false_from_ne_true (is_among xs t) (λ some. distinct_apart xs (t ∷ ys) t all some (or_left (t == t) (is_among ys t) (eq-eqb t t refl)))

-- what a command forks is none of the threads before it
new_fork : (xs : List ℕ) (c : Command) (ys : List ℕ) → is_distinct (xs ++ (forked_by c ++ ys)) ≡ true → list_any (is_among xs) (forked_by c) ≡ false
new_fork xs (command.Fork t) ys all = rw (none_before xs t ys all) refl
new_fork xs _ ys all = refl

-- so it is not one that is forked so far
pub command_new : (done : List (List Command)) (front : List Command) (c : Command) (rest : List Command) (later idle : List (List Command)) → are_idle idle ≡ true →
    is_distinct (forked_in_all (done ++ (front ++ c ∷ rest) ∷ later)) ≡ true → list_any (is_among (forked_in_all (done ++ front ∷ idle))) (forked_by c) ≡ false
command_new done front c rest later idle none all =
    ap (λ us. list_any (is_among us) (forked_by c)) (forks_so_far done front idle none)
    ∙ new_fork (forked_in_all done ++ forked_in front) c (forked_in rest ++ forked_in_all later) (ap is_distinct (sym (forks_cut done front c rest later)) ∙ all)

-- a test of all that are forked, of those of one command
pub forks_pass : (p : ℕ → Bool) (done : List (List Command)) (front : List Command) (c : Command) (rest : List Command) (later : List (List Command)) →
    list_all p (forked_in_all (done ++ (front ++ c ∷ rest) ∷ later)) ≡ true → list_all p (forked_by c) ≡ true
forks_pass p done front c rest later all =
    let before = forked_in_all done ++ forked_in front in
    let behind = forked_in rest ++ forked_in_all later in
    let cut = sym (list_all-append p before (forked_by c ++ behind)) ∙ (ap (list_all p) (sym (forks_cut done front c rest later)) ∙ all) in
    let second = and_parts (list_all p before) (list_all p (forked_by c ++ behind)) cut in
    (and_parts (list_all p (forked_by c)) (list_all p behind) (sym (list_all-append p (forked_by c) behind) ∙ second.1)).0

-- a test of all commands, of one
pub command_passes : (p : Command → Bool) (done : List (List Command)) (front : List Command) (c : Command) (rest : List Command) (later : List (List Command)) →
    list_all (λ script. list_all p script) (done ++ (front ++ c ∷ rest) ∷ later) ≡ true → p c ≡ true
command_passes p done front c rest later all =
    let each : List Command → Bool = λ script. list_all p script in
    let script = front ++ c ∷ rest in
    let behind = and_parts (list_all each done) (list_all each (script ∷ later)) (sym (list_all-append each done (script ∷ later)) ∙ all) in
    let own = and_parts (list_all p script) (list_all each later) behind.1 in
    let second = and_parts (list_all p front) (list_all p (c ∷ rest)) (sym (list_all-append p front (c ∷ rest)) ∙ own.0) in
    (and_parts (p c) (list_all p rest) second.1).0

-- ---- scripts of which nothing is read

-- as many empty scripts
abbrev pub unread : List (List Command) → List (List Command)
unread scripts = map (λ (script : List Command). []) scripts

-- they are empty, with others that are
pub unread_idle : (scripts others : List (List Command)) → are_idle others ≡ true → are_idle (unread scripts ++ others) ≡ true
unread_idle [] others idle = idle
unread_idle (s ∷ scripts) others idle = unread_idle scripts others idle

-- so many empty scripts are those of the first workers, of which nothing is read, and the others, which are empty
pub none_read : (n : ℕ) (scripts : List (List Command)) → are_idle (drop n scripts) ≡ true → replicate (length scripts) [] ≡ unread (take n scripts) ++ drop n scripts
none_read zero [] idle = refl
none_read zero (s ∷ scripts) idle =
    let parts = and_parts (length s == 0) (are_idle scripts) idle in
    rw (no_command s parts.0) (ap (λ (xs : List (List Command)). [] ∷ xs) (none_read zero scripts parts.1))
none_read (suc n) [] idle = refl
none_read (suc n) (s ∷ scripts) idle = ap (λ (xs : List (List Command)). [] ∷ xs) (none_read n scripts idle)

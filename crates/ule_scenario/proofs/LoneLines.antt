-- A line that is the name of a command and nothing else, told by its words.
use Rattle.std.proofs.Common.{◌≡◌, ℕ, ◌+◌, ◌≤◌, ◌==◌, max, Bool, true, false, ◌||◌, not, List, [], ◌∷◌, length, codes, refl, sym, ap, subst, arith, Option, Some, None, Result, Ok, Err}
use Rattle.std.specs.Prelude.{nat_lt, if◌then◌else◌, bytes_eq}
use Rattle.std.proofs.lemmas.Bool.{eqb-true, le-ltb}
use Rattle.std.proofs.lemmas.Slice.Eq.{bytes_eq-Decides}
use Rattle.ule_types.specs.declared.command.Command.{Command}
use Rattle.ule_types.specs.declared.command.Command.TheVariants as command
use Rattle.ule_scenario.specs.Tokens.{token_of}
use Rattle.ule_scenario.specs.Reading.{Reading, spent_items, last_worker}
use Rattle.ule_scenario.specs.Forms.{Line}
use Rattle.ule_scenario.specs.Effects.{with_line, with_command}
use Rattle.ule_scenario.specs.Reasons.{no_detail, when, first_reason, over_budget, charge, reason_or, reason_of, place_reason, word_reason, meaning_reason}
use Rattle.ule_scenario.specs.Scenario.{next_line, judged}
use Rattle.ule_scenario.specs.LoneCommand.{lone_command, lone_reason}
use Rattle.ule_scenario.specs.declared.reason.Reason.{Reason}
use Rattle.ule_scenario.specs.declared.reason.Refusal.{Refusal}
use Rattle.ule_scenario.specs.declared.name.Name.{Name}
use Rattle.ule_scenario.specs.declared.name.Name.TheVariants.{Tick, Yield, Resched, Exit, Idle, Balance}

-- ---- what is told of it

-- a line of one word that has a name
abbrev pub alone : Name → Line
alone n = record { name = n; comment = false; minus = false; number = None } ∷ []

-- one row tells what it tells
one_row : (x : Option Reason) → first_reason (x ∷ []) ≡ x
one_row None = refl
one_row (Some x) = refl

-- the rows against it, by the place of the lines before it, by the number of turns, and by the items with its own
rows : (p k total : ℕ) → k ≤ 4096 →
    (if p == 0 then Some (no_detail 1) else reason_or (first_reason (when (not (p == 7)) 6 ∷ when (nat_lt p 3) 14 ∷ when (nat_lt p 4 || false) 7 ∷ [])) (first_reason (when (nat_lt 4096 (k + 0)) 19 ∷ over_budget total ∷ [])))
    ≡ (if p == 0 then Some (no_detail 1) else (if p == 7 then over_budget total else Some (no_detail 6)))
rows p k total few = by_place (p == 0) (p == 7) refl refl
  where
    by_place : (a b : Bool) → (p == 0) ≡ a → (p == 7) ≡ b →
        (if p == 0 then Some (no_detail 1) else reason_or (first_reason (when (not (p == 7)) 6 ∷ when (nat_lt p 3) 14 ∷ when (nat_lt p 4 || false) 7 ∷ [])) (first_reason (when (nat_lt 4096 (k + 0)) 19 ∷ over_budget total ∷ [])))
        ≡ (if p == 0 then Some (no_detail 1) else (if p == 7 then over_budget total else Some (no_detail 6)))
    by_place true b e f = rw e refl
    by_place false false e f = rw (e, f) refl
    by_place false true e f =
        let at = eqb-true p 7 f in
        rw (e, f, le-ltb p 3 (omega (arith, at)), le-ltb p 4 (omega (arith, at)), le-ltb 4096 (k + 0) (omega (arith, few))) (one_row (over_budget total))

-- the first reason against each
yield_reason : (r : Reading) → length r.turns ≤ 4096 → reason_of r (alone Yield) ≡ lone_reason r command.Yield
unfolding place_reason word_reason meaning_reason
yield_reason r few = rows r.place (length r.turns) (spent_items r + charge r (Some command.Yield)) few

tick_reason : (r : Reading) → length r.turns ≤ 4096 → reason_of r (alone Tick) ≡ lone_reason r command.Tick
unfolding place_reason word_reason meaning_reason
tick_reason r few = rows r.place (length r.turns) (spent_items r + charge r (Some command.Tick)) few

resched_reason : (r : Reading) → length r.turns ≤ 4096 → reason_of r (alone Resched) ≡ lone_reason r command.Resched
unfolding place_reason word_reason meaning_reason
resched_reason r few = rows r.place (length r.turns) (spent_items r + charge r (Some command.Resched)) few

exit_reason : (r : Reading) → length r.turns ≤ 4096 → reason_of r (alone Exit) ≡ lone_reason r command.Exit
unfolding place_reason word_reason meaning_reason
exit_reason r few = rows r.place (length r.turns) (spent_items r + charge r (Some command.Exit)) few

idle_reason : (r : Reading) → length r.turns ≤ 4096 → reason_of r (alone Idle) ≡ lone_reason r command.Idle
unfolding place_reason word_reason meaning_reason
idle_reason r few = rows r.place (length r.turns) (spent_items r + charge r (Some command.Idle)) few

balance_reason : (r : Reading) → length r.turns ≤ 4096 → reason_of r (alone Balance) ≡ lone_reason r command.Balance
unfolding place_reason word_reason meaning_reason
balance_reason r few = rows r.place (length r.turns) (spent_items r + charge r (Some command.Balance)) few

-- ---- what it comes to

-- the setup so far with a command
abbrev pub with_lone : Reading → Command → Reading
with_lone r c = record r { place = max r.place 7; scripts = with_command r.scripts (last_worker r) (Some c) }

-- line n by the first reason against it
abbrev pub lone_judged : ℕ → Reading → Command → Option Reason → Result Reading Refusal
lone_judged n r c None = Ok (with_lone r c)
lone_judged n r c (Some x) = Err (record { line = n; reason = x.reason; detail = x.detail })

-- what a line comes to whose bytes give a command
abbrev pub ComesTo : List ℕ → Command → Type 0
ComesTo bytes c = (n : ℕ) (r : Reading) → length r.turns ≤ 4096 → next_line n (Ok r) bytes ≡ lone_judged n r c (lone_reason r c)

-- the same by its word
by_word : (n : ℕ) (r : Reading) (first : Name) (c : Command) (x y : Option Reason) → x ≡ y → with_line r (alone first) first ≡ with_lone r c → judged n r (alone first) x ≡ lone_judged n r c y
by_word n r first c None y same with = rw (sym same) (ap (λ (s : Reading). Ok s) with)
by_word n r first c (Some x) y same with = rw (sym same) refl

yields : ComesTo (codes "yield") command.Yield
unfolding token_of
yields n r few = by_word n r Yield command.Yield (reason_of r (alone Yield)) (lone_reason r command.Yield) (yield_reason r few) refl

ticks : ComesTo (codes "tick") command.Tick
unfolding token_of
ticks n r few = by_word n r Tick command.Tick (reason_of r (alone Tick)) (lone_reason r command.Tick) (tick_reason r few) refl

reschedules : ComesTo (codes "resched") command.Resched
unfolding token_of
reschedules n r few = by_word n r Resched command.Resched (reason_of r (alone Resched)) (lone_reason r command.Resched) (resched_reason r few) refl

exits : ComesTo (codes "exit") command.Exit
unfolding token_of
exits n r few = by_word n r Exit command.Exit (reason_of r (alone Exit)) (lone_reason r command.Exit) (exit_reason r few) refl

idles : ComesTo (codes "idle") command.Idle
unfolding token_of
idles n r few = by_word n r Idle command.Idle (reason_of r (alone Idle)) (lone_reason r command.Idle) (idle_reason r few) refl

balances : ComesTo (codes "balance") command.Balance
unfolding token_of
balances n r few = by_word n r Balance command.Balance (reason_of r (alone Balance)) (lone_reason r command.Balance) (balance_reason r few) refl

-- a row of the table: what holds of its line and of the others
either : (line : List ℕ) (x : Command) (others : Option Command) (bytes : List ℕ) (c : Command) → ComesTo line x → (others ≡ Some c → ComesTo bytes c) → (if bytes_eq bytes line then Some x else others) ≡ Some c → ComesTo bytes c
either line x others bytes c here there is = by_same (bytes_eq bytes line) refl is
  where
    found : {x c : Command} → Some x ≡ Some c → x ≡ c
    found e = cc

    by_same : (b : Bool) → bytes_eq bytes line ≡ b → (if b then Some x else others) ≡ Some c → ComesTo bytes c
    by_same false e is = there is
    by_same true e is = subst (λ (l : List ℕ). ComesTo l c) (sym ((bytes_eq-Decides bytes line).0 e)) (subst (λ (y : Command). ComesTo line y) (found is) here)

-- what a line comes to that gives a command
pub lone_line : (bytes : List ℕ) (c : Command) → lone_command bytes ≡ Some c → ComesTo bytes c
unfolding lone_command
lone_line bytes c is =
    either (codes "yield") command.Yield _ bytes c yields (
    either (codes "tick") command.Tick _ bytes c ticks (
    either (codes "resched") command.Resched _ bytes c reschedules (
    either (codes "exit") command.Exit _ bytes c exits (
    either (codes "idle") command.Idle _ bytes c idles (
    either (codes "balance") command.Balance None bytes c balances (λ none. absurd (nothing none))))))) is
  where
    nothing : None ≡ Some c → ⊥
    nothing e = cc

-- The least worker that has a further event, found one by one.
use Rattle.std.proofs.Common.{◌≡◌, ℕ, suc, ◌+◌, true, false, List, [], ◌∷◌, drop, is_some, length, slice_get, Option, Some, None, if◌then◌else◌, option_and_then, refl, sym, ◌∙◌, ap, subst, arith}
use Rattle.std.specs.Option.{option_map}
use Rattle.std.proofs.lemmas.Bool.{cond-false, cond-true}
use Rattle.ule_types.specs.declared.event.Event.{Event}
use Rattle.ule_types.specs.declared.setup.Setup.{Setup}
use Rattle.ule_program.specs.Courses.{Course}
use Rattle.ule_members.proofs.Lists.{drop_at}
use Rattle.ule_check.specs.Ending.{missing_from}
use Rattle.ule_check.specs.Judge.{Due, Judge, due_of}
use Rattle.ule_check.specs.JudgeValue.{IsJudge, missing_in}
use Rattle.ule_check.specs.Seats.{due_by, due_in}
use Rattle.ule_check.specs.declared.judge.Judge as code
use Rattle.ule_check.specs.declared.seat.Seat.{Seat}
use Rattle.ule_check.specs.declared.verdicts.Fault.TheVariants as fault
use Rattle.ule_check.proofs.JudgeLaws.{kept}

-- a seat that has a further event
pub missing_here : (n : ℕ) (xs : List Seat) (x : Seat) → slice_get xs n ≡ Some x → is_some x.event ≡ true → missing_in n (drop n xs) ≡ Some (fault.Missing n)
missing_here n xs x got some = ap (missing_in n) (drop_at xs n x got) ∙ cond-true (is_some x.event) (Some (fault.Missing n)) (missing_in (n + 1) (drop (n + 1) xs)) some

-- one that has none
pub missing_more : (n : ℕ) (xs : List Seat) (x : Seat) → slice_get xs n ≡ Some x → is_some x.event ≡ false → missing_in n (drop n xs) ≡ missing_in (n + 1) (drop (n + 1) xs)
missing_more n xs x got none = ap (missing_in n) (drop_at xs n x got) ∙ cond-false (is_some x.event) (Some (fault.Missing n)) (missing_in (n + 1) (drop (n + 1) xs)) none

-- seats and courses that agree one by one miss the same worker
missing_alike : (amount : ℕ → ℕ) (n : ℕ) (xs : List Seat) (cs : List Course) → length xs ≡ length cs →
    ((i : ℕ) (x : Seat) (c : Course) → slice_get xs i ≡ Some x → slice_get cs i ≡ Some c → is_some x.event ≡ is_some (due_of (amount (n + i)) c)) → missing_in n xs ≡ missing_from amount n cs
missing_alike amount n [] [] same alike = refl
missing_alike amount n [] (c ∷ cs) same alike = absurd (omega arith)
missing_alike amount n (x ∷ xs) [] same alike = absurd (omega arith)
missing_alike amount n (x ∷ xs) (c ∷ cs) same alike =
    let zero_more : n + 0 ≡ n = omega arith in
    let here : is_some x.event ≡ is_some (due_of (amount n) c) = subst (λ m. is_some x.event ≡ is_some (due_of (amount m) c)) zero_more (alike 0 x c refl refl) in
    let rest : missing_in (n + 1) xs ≡ missing_from amount (n + 1) cs = missing_alike amount (n + 1) xs cs (omega arith)
    (λ i y d at_y at_d. let one_more : n + suc i ≡ n + 1 + i = omega arith in subst (λ m. is_some y.event ≡ is_some (due_of (amount m) d)) one_more (alike (suc i) y d at_y at_d)) in
    (λ i. if here i then Some (fault.Missing n) else rest i)

-- the code's seats miss the worker that the definition's judge does
pub missing_is : (s : Setup) (n : ℕ) (v : code.Judge) (j : Judge) → IsJudge s n v j → missing_in 0 v.seats.items ≡ missing_from j.amount 0 j.courses
missing_is s n v j judge = missing_alike j.amount 0 v.seats.items j.courses (judge.seats.count ∙ sym (kept s n v j judge).count) alike
  where
    some_map : (worker : ℕ) (x : Seat) (o : Option Event) → is_some (option_map (due_by s worker x) o) ≡ is_some o
    some_map worker x None = refl
    some_map worker x (Some e) = refl

    alike : (i : ℕ) (x : Seat) (c : Course) → slice_get v.seats.items i ≡ Some x → slice_get j.courses i ≡ Some c → is_some x.event ≡ is_some (due_of (j.amount (0 + i)) c)
    alike i x c at_x at_c =
        let e : i ≡ 0 + i = omega arith in
        let due : due_of (j.amount i) c ≡ due_in s i x = ap (λ (o : Option Course). option_and_then (due_of (j.amount i)) o) (sym at_c) ∙ (judge.seats.each i x at_x).due in
        subst (λ m. is_some x.event ≡ is_some (due_of (j.amount m) c)) e (sym (ap (λ (o : Option Due). is_some o) due ∙ some_map i x x.event))

-- A number's digits, the last one behind the others.
use Rattle.std.proofs.Common.{◌≡◌, ℕ, ◌+◌, ◌/◌, ◌%◌, ◌^◌, ◌<◌, ◌≤◌, List, [], ◌∷◌, ◌++◌, sym, ap, ◌∙◌, append_assoc, arith}
use Rattle.std.specs.Fmt.{decimal}
use Rattle.std.proofs.lemmas.Fmt.{decimal_digit, decimal_step}

-- a number below 10 is its last digit
pub one_digit : (held : List ℕ) (n : ℕ) → n < 10 → held ++ (48 + n % 10) ∷ [] ≡ held ++ decimal n
one_digit held n small =
    let same : n % 10 ≡ n = omega arith in
    ap (λ d. held ++ (48 + d) ∷ []) same ∙ sym (ap (λ ds. held ++ ds) (decimal_digit n small))

-- a larger number is the digits before the last one, and that one
pub more_digits : (held : List ℕ) (n : ℕ) → 10 ≤ n → n < 2 ^ 32 → (held ++ decimal (n / 10)) ++ (48 + n % 10) ∷ [] ≡ held ++ decimal n
more_digits held n more small =
    append_assoc held (decimal (n / 10)) ((48 + n % 10) ∷ []) ∙ sym (ap (λ ds. held ++ ds) (decimal_step n more (omega arith)))

-- What holds of a word that no reason is against.
use Rattle.std.proofs.Common.{◌≡◌, ℕ, ◌≤◌, List, [], ◌∷◌, refl, ◌∙◌, arith, Option, Some, None}
use Rattle.std.specs.Prelude.{unwrap_or}
use Rattle.std.proofs.lemmas.Grind.{common_steps}
use Rattle.ule_scenario.specs.declared.token.Token.{Token}
use Rattle.ule_scenario.specs.Forms.{number, number_fault, nice_fault, first_fault}

-- a number within its range
pub number_within : (low high : ℕ) (t : Token) → number_fault low high t ≡ None → unwrap_or (number t) 0 ≤ high
number_within low high t e = grind (arith, common_steps)

-- a number is not below its range
pub number_from : (low high : ℕ) (t : Token) → number_fault low high t ≡ None → low ≤ unwrap_or (number t) 0
number_from low high t e = grind (arith, common_steps)

-- a nice value within its range
pub nice_within : (t : Token) → nice_fault t ≡ None → unwrap_or t.number 0 ≤ 20
nice_within t e = grind (arith, common_steps)

-- each of two words that nothing is against
pub first_passes : (a b : Option ℕ) → first_fault (a ∷ b ∷ []) ≡ None → a ≡ None
first_passes None b e = refl
first_passes (Some n) b e = e

pub second_passes : (a b : Option ℕ) → first_fault (a ∷ b ∷ []) ≡ None → b ≡ None
second_passes None None e = refl
second_passes None (Some m) e = e
second_passes (Some n) b e = absurd (some_none n e)
  where
    some_none : (n : ℕ) → Some n ≡ None → ⊥
    some_none n e = cc

-- the first of some words that nothing is against
pub head_passes : (a : Option ℕ) (rest : List (Option ℕ)) → first_fault (a ∷ rest) ≡ None → a ≡ None
head_passes None rest e = refl
head_passes (Some n) rest e = e

-- the others
pub rest_passes : (a : Option ℕ) (rest : List (Option ℕ)) → first_fault (a ∷ rest) ≡ None → first_fault rest ≡ None
rest_passes None rest e = e
rest_passes (Some n) rest e = cc

-- each of three or more words
pub first_of_more : (a b : Option ℕ) (rest : List (Option ℕ)) → first_fault (a ∷ b ∷ rest) ≡ None → a ≡ None
first_of_more a b rest e = head_passes a (b ∷ rest) e

-- the second of them
pub second_of_more : (a b : Option ℕ) (rest : List (Option ℕ)) → first_fault (a ∷ b ∷ rest) ≡ None → b ≡ None
second_of_more a b rest e = head_passes b rest (rest_passes a (b ∷ rest) e)

-- those behind the second
pub rest_of_more : (a b : Option ℕ) (rest : List (Option ℕ)) → first_fault (a ∷ b ∷ rest) ≡ None → first_fault rest ≡ None
rest_of_more a b rest e = rest_passes b rest (rest_passes a (b ∷ rest) e)

-- the third of three
pub third_of_three : (a b d : Option ℕ) → first_fault (a ∷ b ∷ d ∷ []) ≡ None → d ≡ None
third_of_three a b d e = head_passes d [] (rest_of_more a b (d ∷ []) e)

-- a reason is the first of itself alone
first_alone : (f : Option ℕ) → first_fault (f ∷ []) ≡ f
first_alone None = refl
first_alone (Some n) = refl

-- the first reason of a group's line is that of its number, its parent, or its CPUs
pub group_faults : (a b : Option ℕ) (rest : List (Option ℕ)) → first_fault (a ∷ first_fault (b ∷ first_fault rest ∷ []) ∷ []) ≡ first_fault (a ∷ b ∷ rest)
group_faults None None rest = first_alone (first_fault (first_fault rest ∷ [])) ∙ first_alone (first_fault rest)
group_faults None (Some m) rest = refl
group_faults (Some n) b rest = refl

-- the first of three reasons
pub three_faults : (a b d : Option ℕ) → first_fault (a ∷ first_fault (b ∷ d ∷ []) ∷ []) ≡ first_fault (a ∷ b ∷ d ∷ [])
three_faults None b d = first_alone (first_fault (b ∷ d ∷ []))
three_faults (Some n) b d = refl

-- The parts of a text that a byte separates, taken one after another, and forms of several parts.
use Rattle.std.specs.Prelude.{ℕ, ◌≡◌, ◌==◌, if◌then◌else◌, Option, Some, None, option_and_then, List, [], ◌∷◌, length}
use Rattle.std.specs.List.{slice_split}
use Rattle.std.specs.Option.{option_map}
use Rattle.ule_text.specs.Words.{Word}

-- the parts of a text, as its lines at newlines (10), and the words of a line at spaces (32)
abbrev pub parts_at : ℕ → List ℕ → List Word
parts_at separator text = slice_split (λ b. b == separator) text

-- what parts spell, with the parts behind
abbrev pub Spelled : Type 0 → Type 0
Spelled A = Option (A × List Word)

-- the first part, by what it spells alone
abbrev pub taken : {A : Type 0} → (Word → Option A) → List Word → Spelled A
taken spells [] = None
taken spells (w ∷ ws) = option_map (λ x. (x, ws)) (spells w)

-- what follows behind what was spelled
abbrev pub next : {A B : Type 0} → Spelled A → (A → List Word → Spelled B) → Spelled B
next told more = option_and_then (λ p. more p.0 p.1) told

-- a form of no part, of one part, of two, three, four and five
abbrev pub form0 : {E : Type 0} → E → List Word → Spelled E
form0 e ws = Some (e, ws)

abbrev pub form1 : {A E : Type 0} → (A → E) → (Word → Option A) → List Word → Spelled E
form1 make a ws = next (taken a ws) (λ x. form0 (make x))

abbrev pub form2 : {A B E : Type 0} → (A → B → E) → (Word → Option A) → (Word → Option B) → List Word → Spelled E
form2 make a b ws = next (taken a ws) (λ x. form1 (make x) b)

abbrev pub form3 : {A B C E : Type 0} → (A → B → C → E) → (Word → Option A) → (Word → Option B) → (Word → Option C) → List Word → Spelled E
form3 make a b c ws = next (taken a ws) (λ x. form2 (make x) b c)

abbrev pub form4 : {A B C D E : Type 0} → (A → B → C → D → E) → (Word → Option A) → (Word → Option B) → (Word → Option C) → (Word → Option D) → List Word → Spelled E
form4 make a b c d ws = next (taken a ws) (λ x. form3 (make x) b c d)

abbrev pub form5 : {A B C D F E : Type 0} → (A → B → C → D → F → E) → (Word → Option A) → (Word → Option B) → (Word → Option C) → (Word → Option D) → (Word → Option F) → List Word → Spelled E
form5 make a b c d f ws = next (taken a ws) (λ x. form4 (make x) b c d f)

-- what is spelled, if no part is left behind it
abbrev pub whole : {A : Type 0} → Spelled A → Option A
whole told = option_and_then (λ p. if length p.1 == 0 then Some p.0 else None) told

-- what was taken of parts, and the parts that are left, are what is spelled
abbrev pub Takes : {A : Type 0} → Spelled A → Option A → List Word → Type 0
Takes told None new = told ≡ None
Takes told (Some x) new = told ≡ Some (x, new)

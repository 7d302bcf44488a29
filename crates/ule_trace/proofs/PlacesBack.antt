-- What the written word of a place is read as.
use Rattle.std.proofs.Common.{◌≡◌, ℕ, ◌<◌, true, List, [], ◌∷◌, ◌++◌, Some, refl, ap, ◌∙◌, append_assoc, arith}
use Rattle.std.specs.Prelude.{codes}
use Rattle.std.specs.List.{list_all}
use Rattle.std.specs.Fmt.{decimal}
use Rattle.std.proofs.lemmas.Bool.{and_from}
use Rattle.std.proofs.lemmas.List.Folds.{list_all-append}
use Rattle.ule_prio.specs.declared.kind.Kind.{Kind}
use Rattle.ule_prio.specs.declared.kind.Kind.TheVariants.{Real, Batch, Idle}
use Rattle.ule_score.specs.declared.place.Place.{Place}
use Rattle.ule_score.specs.declared.place.Place.TheVariants.{Running, Queued, Asleep, Unborn, Gone, Hand}
use Rattle.ule_text.specs.Words.{Word}
use Rattle.ule_text.proofs.Numbers.{decimal_inner, decimal_lacks}
use Rattle.ule_text.proofs.Printed.{is_inner, is_word, lacks, word_from}
use Rattle.ule_trace.proofs.FieldsBack.{bucket_back, channel_back, cpu_back, kind_back, up_to_back}
use Rattle.ule_trace.proofs.WordsBack.{front_part, lone_part}
use Rattle.ule_trace.specs.Parts.{parts_at}
use Rattle.ule_trace.specs.PlaceForm.{final_place, place}
use Rattle.ule_trace.specs.PlaceText.{final_place_word, kind_word, place_word}
use Rattle.ule_trace.specs.Ranges.{PlaceFits, PositionFits}
use Rattle.ule_trace.specs.declared.place_form.Standing.{Standing}

-- a kind's keyword has no dot
kind_lacks : (k : Kind) → lacks 46 (kind_word k) ≡ true
kind_lacks Real = refl
kind_lacks Batch = refl
kind_lacks Idle = refl

-- ---- parts between dots

-- the parts of a queued thread's place
dotted : (c b : ℕ) (k : Kind) → c < 16 → b < 64 → parts_at 46 (decimal c ++ 46 ∷ (kind_word k ++ 46 ∷ decimal b)) ≡ decimal c ∷ kind_word k ∷ decimal b ∷ []
dotted c b k cs bs =
    front_part 46 (decimal c) (kind_word k ++ 46 ∷ decimal b) (decimal_lacks 46 c refl (omega arith))
    ∙ ap (λ (ps : List Word). decimal c ∷ ps)
    (front_part 46 (kind_word k) (decimal b) (kind_lacks k) ∙ ap (λ (ps : List Word). kind_word k ∷ ps) (lone_part 46 (decimal b) (decimal_lacks 46 b refl (omega arith))))

-- behind them a position
queued_text : (c k b : List ℕ) → codes "q" ++ c ++ codes "." ++ k ++ codes "." ++ b ≡ 113 ∷ (c ++ 46 ∷ (k ++ 46 ∷ b))
queued_text c k b = simp append_assoc

queued_text_at : (c k b p : List ℕ) → codes "q" ++ c ++ codes "." ++ k ++ codes "." ++ b ++ codes "." ++ p ≡ 113 ∷ (c ++ 46 ∷ (k ++ 46 ∷ (b ++ 46 ∷ p)))
queued_text_at c k b p = simp append_assoc

dotted_at : (c b p : ℕ) (k : Kind) → c < 16 → b < 64 → p < 256 →
    parts_at 46 (decimal c ++ 46 ∷ (kind_word k ++ 46 ∷ (decimal b ++ 46 ∷ decimal p))) ≡ decimal c ∷ kind_word k ∷ decimal b ∷ decimal p ∷ []
dotted_at c b p k cs bs ps =
    front_part 46 (decimal c) (kind_word k ++ 46 ∷ (decimal b ++ 46 ∷ decimal p)) (decimal_lacks 46 c refl (omega arith))
    ∙ ap (λ (xs : List Word). decimal c ∷ xs)
    (front_part 46 (kind_word k) (decimal b ++ 46 ∷ decimal p) (kind_lacks k)
    ∙ ap (λ (xs : List Word). kind_word k ∷ xs)
    (front_part 46 (decimal b) (decimal p) (decimal_lacks 46 b refl (omega arith)) ∙ ap (λ (xs : List Word). decimal b ∷ xs) (lone_part 46 (decimal p) (decimal_lacks 46 p refl (omega arith)))))

-- ---- a place

pub place_back : (p : Place) → PlaceFits p → place (place_word p) ≡ Some p
place_back (Running c) fits = rw (cpu_back c fits) refl
place_back (Queued c k b) fits =
    ap place (queued_text (decimal c) (kind_word k) (decimal b)) ∙ rw (dotted c b k fits.0 fits.1, cpu_back c fits.0, kind_back k, bucket_back b fits.1) refl
place_back (Asleep channel) fits = rw (channel_back channel fits) refl
place_back Unborn fits = refl
place_back Gone fits = refl
place_back (Hand w) fits = rw (cpu_back w fits) refl

-- a place at the end, with its position
abbrev pub standing : Place → ℕ → Standing
standing p position = record { place = p; position = position }

pub final_place_back : (p : Place) (position : ℕ) → PlaceFits p → PositionFits p position → final_place (final_place_word p position) ≡ Some (standing p position)
final_place_back (Running c) position fits at = rw (cpu_back c fits, at) refl
final_place_back (Queued c k b) position fits at =
    ap final_place (queued_text_at (decimal c) (kind_word k) (decimal b) (decimal position)) ∙ rw (dotted_at c b position k fits.0 fits.1 at, cpu_back c fits.0, kind_back k, bucket_back b fits.1, up_to_back 255 position (omega arith) (omega arith)) refl
final_place_back (Asleep channel) position fits at = rw (channel_back channel fits, at) refl
final_place_back Unborn position fits at = rw at refl
final_place_back Gone position fits at = rw at refl
final_place_back (Hand w) position fits at = rw (cpu_back w fits, at) refl

-- ---- they are words of a written line

-- the bytes of a kind's keyword
kind_inner : (k : Kind) → list_all is_inner (kind_word k) ≡ true
kind_inner Real = refl
kind_inner Batch = refl
kind_inner Idle = refl

-- bytes on both sides of a dot
dot_inner : (xs ys : List ℕ) → list_all is_inner xs ≡ true → list_all is_inner ys ≡ true → list_all is_inner (xs ++ 46 ∷ ys) ≡ true
dot_inner xs ys first second = list_all-append is_inner xs (46 ∷ ys) ∙ and_from (list_all is_inner xs) (list_all is_inner (46 ∷ ys)) first second

-- the bytes of a queued thread's place, behind its q
queued_inner : (c b : ℕ) (k : Kind) → c < 16 → b < 64 → list_all is_inner (decimal c ++ 46 ∷ (kind_word k ++ 46 ∷ decimal b)) ≡ true
queued_inner c b k cs bs =
    dot_inner (decimal c) (kind_word k ++ 46 ∷ decimal b) (decimal_inner c (omega arith)) (dot_inner (kind_word k) (decimal b) (kind_inner k) (decimal_inner b (omega arith)))

pub place_is_word : (p : Place) → PlaceFits p → is_word (place_word p) ≡ true
place_is_word (Running c) fits = word_from 114 (decimal c) refl (decimal_inner c (omega arith))
place_is_word (Queued c k b) fits =
    ap is_word (queued_text (decimal c) (kind_word k) (decimal b)) ∙ word_from 113 (decimal c ++ 46 ∷ (kind_word k ++ 46 ∷ decimal b)) refl (queued_inner c b k fits.0 fits.1)
place_is_word (Asleep channel) fits = word_from 115 (decimal channel) refl (decimal_inner channel (omega arith))
place_is_word Unborn fits = refl
place_is_word Gone fits = refl
place_is_word (Hand w) fits = word_from 104 (decimal w) refl (decimal_inner w (omega arith))

pub final_place_is_word : (p : Place) (position : ℕ) → PlaceFits p → PositionFits p position → is_word (final_place_word p position) ≡ true
final_place_is_word (Queued c k b) position fits at =
    ap is_word (queued_text_at (decimal c) (kind_word k) (decimal b) (decimal position)) ∙
    word_from 113 (decimal c ++ 46 ∷ (kind_word k ++ 46 ∷ (decimal b ++ 46 ∷ decimal position))) refl
    (dot_inner (decimal c) (kind_word k ++ 46 ∷ (decimal b ++ 46 ∷ decimal position)) (decimal_inner c (omega arith))
    (dot_inner (kind_word k) (decimal b ++ 46 ∷ decimal position) (kind_inner k) (dot_inner (decimal b) (decimal position) (decimal_inner b (omega arith)) (decimal_inner position (omega arith)))))
final_place_is_word (Running c) position fits at = place_is_word (Running c) fits
final_place_is_word (Asleep channel) position fits at = place_is_word (Asleep channel) fits
final_place_is_word Unborn position fits at = refl
final_place_is_word Gone position fits at = refl
final_place_is_word (Hand w) position fits at = place_is_word (Hand w) fits

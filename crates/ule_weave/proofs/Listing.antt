-- How a line of words grows, of which there may be none.
use Rattle.std.proofs.Common.{◌≡◌, ℕ, ◌<◌, ◌≤◌, length, take, get_or, ◌+◌, Bool, true, false, List, [], ◌∷◌, ◌++◌, Option, Some, None, option_to_list, codes, refl, sym, ◌∙◌, ap, subst, append_assoc, append-nil, take_all}
use Rattle.std.specs.Prelude.{◌||◌, is_some}
use Rattle.std.specs.List.{cons_option, filter_map, range_with_len}
use Rattle.std.proofs.lemmas.List.Elements.{filter_map-append}
use Rattle.std.specs.Option.{option_map}
use Rattle.std.proofs.lemmas.List.{take_more}
use Rattle.ule_micro.specs.declared.word.Word.{Word}
use Rattle.ule_rounds.proofs.RoundsLaws.{range_push}
use Rattle.ule_score.specs.declared.place.Place.{Place}
use Rattle.ule_trace.specs.Line.{line_text, spaced}
use Rattle.ule_weave.specs.TurnText.{held_word, held_words, locks_words, or_dash, thread_told, thread_word, threads_words}

-- whether there is any word
abbrev pub has_words : List (List ℕ) → Bool
has_words [] = false
has_words (w ∷ words) = true

-- what is told of one thing comes alone
told_alone : {X Y : Type 0} (f : X → Option Y) (x : X) → filter_map f (x ∷ []) ≡ option_to_list (f x)
told_alone {X} {Y} f x = split (f x)
  where
    split : (o : Option Y) → cons_option o [] ≡ option_to_list o
    split None = refl
    split (Some y) = refl

-- what is told of one thing more comes behind what is told of those before it
pub told_of_one : {X Y : Type 0} (f : X → Option Y) (xs : List X) (x : X) → filter_map f (xs ++ x ∷ []) ≡ filter_map f xs ++ option_to_list (f x)
told_of_one {X} {Y} f xs x = filter_map-append f xs (x ∷ []) ∙ ap (λ (ys : List Y). filter_map f xs ++ ys) (told_alone f x)

-- what is told of one number more comes behind what is told of those before it
pub told_of_more : {Y : Type 0} (f : ℕ → Option Y) (n : ℕ) → filter_map f (range_with_len 0 (n + 1)) ≡ filter_map f (range_with_len 0 n) ++ option_to_list (f n)
told_of_more {Y} f n = ap (filter_map f) (range_push n) ∙ told_of_one f (range_with_len 0 n) n

-- words behind words
pub spaced-append : (xs ys : List (List ℕ)) → spaced (xs ++ ys) ≡ spaced xs ++ spaced ys
spaced-append [] ys = refl
spaced-append (x ∷ xs) ys = ap (λ zs. 32 ∷ (x ++ zs)) (spaced-append xs ys) ∙ ap (λ zs. 32 ∷ zs) (sym (append_assoc x (spaced xs) (spaced ys)))

-- there is a word where there was one, or where one came
pub has_more : (xs : List (List ℕ)) (o : Option (List ℕ)) → has_words (xs ++ option_to_list o) ≡ (has_words xs || is_some o)
has_more [] None = refl
has_more [] (Some w) = refl
has_more (x ∷ xs) o = refl

-- words stand behind what was held and a line's name, and whether there is any is told
pub record Listed (held name now : List ℕ) (words : List (List ℕ)) (any : Bool) : Type 0 where
  pub told : any ≡ has_words words
  pub text : now ≡ held ++ (name ++ spaced words)

-- no word yet
pub listed_none : (held name now : List ℕ) → now ≡ held ++ name → Listed held name now [] false
listed_none held name now e = record { told = refl; text = e ∙ ap (λ xs. held ++ xs) (sym (append-nil name)) }

-- one thing more was told, or had no word
pub listed_more : (held name now next : List ℕ) (xs ys : List (List ℕ)) (o : Option (List ℕ)) (any then : Bool) → Listed held name now xs any
    → ys ≡ xs ++ option_to_list o → then ≡ (any || is_some o) → next ≡ now ++ spaced (option_to_list o) → Listed held name next ys then
listed_more held name now next xs ys o any then h more told e = record {
  told = told ∙ (ap (λ (b : Bool). b || is_some o) h.told ∙ (sym (has_more xs o) ∙ ap has_words (sym more)));
  text = e ∙ rw (h.text, more, spaced-append) (simp append_assoc);
}

-- the end of a line that has words, and of one that has none
pub listed_end : (held name now next : List ℕ) (xs : List (List ℕ)) (any : Bool) → Listed held name now xs any
    → (any ≡ true → next ≡ now ++ 10 ∷ []) → (any ≡ false → next ≡ now ++ spaced (or_dash []) ++ 10 ∷ [])
    → next ≡ held ++ line_text (name ∷ or_dash xs)
listed_end held name now next [] any h some none = none h.told ∙ rw h.text (simp (append_assoc, append-nil))
listed_end held name now next (x ∷ xs) any h some none = some h.told ∙ rw h.text (simp append_assoc)

-- one lock more
pub lock_more : (holder : ℕ → Option ℕ) (l : ℕ) (held now next : List ℕ) (any then : Bool)
    → Listed held (codes "locks") now (filter_map (λ k. held_word k (holder k)) (range_with_len 0 l)) any
    → then ≡ (any || is_some (holder l)) → next ≡ now ++ spaced (option_to_list (held_word l (holder l)))
    → Listed held (codes "locks") next (filter_map (λ k. held_word k (holder k)) (range_with_len 0 (l + 1))) then
lock_more holder l held now next any then h told e =
    listed_more held (codes "locks") now next _ _ (held_word l (holder l)) any then h (told_of_more (λ k. held_word k (holder k)) l) (told ∙ ap (λ (b : Bool). any || b) (same (holder l))) e
  where
    same : (o : Option ℕ) → is_some o ≡ is_some (held_word l o)
    same None = refl
    same (Some w) = refl

-- the end of the line of locks
pub locks_end : (holder : ℕ → Option ℕ) (n : ℕ) (held now next : List ℕ) (any : Bool) → n ≡ 25
    → Listed held (codes "locks") now (filter_map (λ k. held_word k (holder k)) (range_with_len 0 n)) any
    → (any ≡ true → next ≡ now ++ 10 ∷ []) → (any ≡ false → next ≡ now ++ spaced (or_dash []) ++ 10 ∷ [])
    → next ≡ held ++ line_text (locks_words holder)
unfolding held_words
locks_end holder n held now next any all h some none =
    listed_end held (codes "locks") now next _ any (subst (λ m. Listed held (codes "locks") now (filter_map (λ k. held_word k (holder k)) (range_with_len 0 m)) any) all h) some none

-- one thread more, which has a place
pub thread_more : (words : ℕ → Word) (places : ℕ → Option Place) (ids : List ℕ) (i t : ℕ) (place : Place) (held now next : List ℕ) (any : Bool)
    → Listed held (codes "threads") now (filter_map (thread_told words places) (take i ids)) any
    → i < length ids → t ≡ get_or ids i t → places t ≡ Some place → next ≡ now ++ spaced (thread_word t (words t) place ∷ [])
    → Listed held (codes "threads") next (filter_map (thread_told words places) (take (i + 1) ids)) true
thread_more words places ids i t place held now next any h within is stands e =
    listed_more held (codes "threads") now next _ _ (Some (thread_word t (words t) place)) any true h more (sym (or-true any)) e
  where
    or-true : (b : Bool) → (b || true) ≡ true
    or-true true = refl
    or-true false = refl

    more : filter_map (thread_told words places) (take (i + 1) ids) ≡ filter_map (thread_told words places) (take i ids) ++ (thread_word t (words t) place ∷ [])
    more =
        ap (filter_map (thread_told words places)) (take_more ids i t within ∙ ap (λ u. take i ids ++ u ∷ []) (sym is)) ∙
        told_of_one (thread_told words places) (take i ids) t ∙
        ap (λ o. filter_map (thread_told words places) (take i ids) ++ option_to_list (option_map (thread_word t (words t)) o)) stands

-- the end of the line of threads
pub threads_end : (words : ℕ → Word) (places : ℕ → Option Place) (ids : List ℕ) (i : ℕ) (held now next : List ℕ) (any : Bool) → length ids ≤ i
    → Listed held (codes "threads") now (filter_map (thread_told words places) (take i ids)) any
    → (any ≡ true → next ≡ now ++ 10 ∷ []) → (any ≡ false → next ≡ now ++ spaced (or_dash []) ++ 10 ∷ [])
    → next ≡ held ++ line_text (threads_words words places ids)
threads_end words places ids i held now next any past h some none =
    listed_end held (codes "threads") now next _ any (subst (λ xs. Listed held (codes "threads") now (filter_map (thread_told words places) xs) any) (take_all i ids past) h) some none

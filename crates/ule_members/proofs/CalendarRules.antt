-- What the rules of the two indexes keep, of any indexes and any threads in the buckets of a calendar.
use Rattle.std.proofs.Common.{◌≡◌, ◌≢◌, ℕ, ◌+◌, ◌%◌, ◌<◌, ◌≤◌, ◌==◌, Bool, true, false, not, cond, ◌&&◌, Some, ◌⊎◌, inl, inr, ⊎_elim, refl, sym, ◌∙◌, ap, subst, arith}
use Rattle.std.proofs.lemmas.Bool.{eqb-false, eqb-true}
use Rattle.ule_model.specs.CalendarIndexes.{distance_of, idx_after_turn, ridx_after_removal, ridx_after_turn}
use Rattle.ule_model.proofs.IndexLaws.{goes_by_one, goes_nearer, goes_within, turned_from}
use Rattle.ule_members.proofs.CalendarPlaces.{Filing}

-- ---- what an event makes of a calendar

-- whether a bucket is empty, of the threads that are filed so
pub record TellsEmpty (empty : Bool) (b : ℕ) (g : Filing) : Type 0 where
  pub some : empty ≡ false → (t : ℕ) × (g t ≡ Some b)
  pub none : (t : ℕ) → g t ≡ Some b → empty ≡ false

-- each thread that is filed in the first is filed so in the second
abbrev pub IsWithin : Filing → Filing → Type 0
IsWithin f g = (t b : ℕ) → f t ≡ Some b → g t ≡ Some b

-- the indexes i and r become j and q by one of the rules, which looks at the threads filed by g; f were filed before
pub data IndexRule (i r j q : ℕ) (f g : Filing) : Type 0 where
  stays : j ≡ i → q ≡ r → IsWithin f g → IndexRule i r j q f g
  removes : (empty : Bool) → TellsEmpty empty r g → j ≡ i → q ≡ ridx_after_removal i r empty → IndexRule i r j q f g
  turns : (empty : Bool) → TellsEmpty empty r g → IsWithin f g → j ≡ idx_after_turn i r → q ≡ ridx_after_turn i r empty → IndexRule i r j q f g

-- an event makes j and q of the indexes i and r, and h of the threads filed by f; it takes some up, and some go next
pub record Passage (taken next : ℕ → Bool) (i r j q : ℕ) (f h : Filing) : Type 0 where
  pub between : Filing
  pub rule : IndexRule i r j q f between
  pub kept : IsWithin between h
  pub stood : (t b : ℕ) → f t ≡ Some b → h t ≡ Some b → taken t ≡ false → between t ≡ Some b
  pub came : (t b : ℕ) → h t ≡ Some b → (f t ≡ Some b) ⊎ ((b < 64) × (i ≢ r → b ≡ r → next t ≡ true))

-- what every calendar keeps: its indexes and buckets are there, and the insertion index is one ahead at most, where the
-- bucket at the removal index has a thread
pub record IsClose (i r : ℕ) (f : Filing) : Type 0 where
  pub insertion : i < 64
  pub removal : r < 64
  pub lead : distance_of r i ≤ 1
  pub some : distance_of r i ≡ 1 → (t : ℕ) × (f t ≡ Some r)
  pub filed : (t b : ℕ) → f t ≡ Some b → b < 64

-- ---- how far the indexes go

module _ (i r j q : ℕ) (f g : Filing) (close : IsClose i r f) where
  -- the insertion index goes on by one at most
  pub insertion_by_one : IndexRule i r j q f g → distance_of i j ≤ 1
  insertion_by_one (stays same still within) = let below = close.insertion in omega arith
  insertion_by_one (removes empty tells same to) = let below = close.insertion in omega arith
  insertion_by_one (turns empty tells within to also) = subst (λ n. distance_of i n ≤ 1) (sym to) (goes_by_one i (i == r) close.insertion)

  -- the removal index goes on by one at most
  pub removal_by_one : IndexRule i r j q f g → distance_of r q ≤ 1
  removal_by_one (stays same still within) = let below = close.removal in omega arith
  removal_by_one (removes empty tells same to) = subst (λ n. distance_of r n ≤ 1) (sym to) (goes_by_one r (not (i == r) && empty) close.removal)
  removal_by_one (turns empty tells within to also) =
      subst (λ n. distance_of r n ≤ 1) (sym (also ∙ turned_from i r (i == r) empty refl)) (goes_by_one r ((i == r) && empty) close.removal)

  -- both stay those of buckets
  pub indexes_within : IndexRule i r j q f g → (j < 64) × (q < 64)
  indexes_within (stays same still within) = (subst (λ n. n < 64) (sym same) close.insertion, subst (λ n. n < 64) (sym still) close.removal)
  indexes_within (removes empty tells same to) =
      (subst (λ n. n < 64) (sym same) close.insertion, subst (λ n. n < 64) (sym to) (goes_within r (not (i == r) && empty) close.removal))
  indexes_within (turns empty tells within to also) = (
    subst (λ n. n < 64) (sym to) (goes_within i (i == r) close.insertion),
    subst (λ n. n < 64) (sym (also ∙ turned_from i r (i == r) empty refl)) (goes_within r ((i == r) && empty) close.removal),
  )

  -- a bucket that has a thread is not left at a removal
  not_left : (empty : Bool) (b : ℕ) → (b ≡ r → empty ≡ false) → b ≡ r → (not (i == r) && empty) ≡ false
  not_left empty b kept here = split (i == r) (kept here)
    where
      split : (same : Bool) → empty ≡ false → (not same && empty) ≡ false
      split true none = refl
      split false none = none

  -- a bucket that has a thread is not left at a turn
  not_left_at_turn : (empty : Bool) (b : ℕ) → (b ≡ r → empty ≡ false) → b ≡ r → ((i == r) && empty) ≡ false
  not_left_at_turn empty b kept here = split (i == r) (kept here)
    where
      split : (same : Bool) → empty ≡ false → (same && empty) ≡ false
      split true none = none
      split false none = refl

  -- a bucket that a thread stays in comes nearer by as many buckets as the removal index goes on
  pub comes_nearer : (t b : ℕ) → b < 64 → IndexRule i r j q f g → g t ≡ Some b → distance_of q b + distance_of r q ≡ distance_of r b
  comes_nearer t b within (stays same still holds) there = let below = close.removal in omega arith
  comes_nearer t b within (removes empty tells same to) there =
      subst (λ n. distance_of n b + distance_of r n ≡ distance_of r b) (sym to)
      (goes_nearer r b (not (i == r) && empty) close.removal within
      (not_left empty b (λ here. tells.none t (there ∙ ap (λ (n : ℕ). Some n) here))))
  comes_nearer t b within (turns empty tells holds to also) there =
      subst (λ n. distance_of n b + distance_of r n ≡ distance_of r b) (sym (also ∙ turned_from i r (i == r) empty refl))
      (goes_nearer r b ((i == r) && empty) close.removal within
      (not_left_at_turn empty b (λ here. tells.none t (there ∙ ap (λ (n : ℕ). Some n) here))))

  -- ---- the indexes stay close

  -- the insertion index is where the removal index is, or one ahead of a bucket that has a thread
  pub data IsNear : Type 0 where
    equal : j ≡ q → IsNear
    ahead : distance_of q j ≡ 1 → (t : ℕ) → g t ≡ Some q → IsNear

  -- where the indexes stay they are near as before
  near_as_before : j ≡ i → q ≡ r → IsWithin f g → IsNear
  near_as_before same still within =
      ⊎_elim
      (λ (none : distance_of r i ≡ 0). let a = close.insertion in let b = close.removal in equal (omega arith))
      (λ (one : distance_of r i ≡ 1). let there = close.some one in
      ahead (omega arith) there.0 (within there.0 r there.1 ∙ ap (λ (n : ℕ). Some n) (sym still)))
      none_or_one
    where
      none_or_one : (distance_of r i ≡ 0) ⊎ (distance_of r i ≡ 1)
      none_or_one = split (distance_of r i == 0) refl
        where
          split : (e : Bool) → (distance_of r i == 0) ≡ e → (distance_of r i ≡ 0) ⊎ (distance_of r i ≡ 1)
          split true is = inl (eqb-true (distance_of r i) 0 is)
          split false is = let some = eqb-false (distance_of r i) 0 is in let most = close.lead in inr (omega arith)

  -- after a removal
  near_after_removal : (empty same : Bool) → (i == r) ≡ same → TellsEmpty empty r g → j ≡ i → q ≡ cond (not same && empty) ((r + 1) % 64) r → IsNear
  near_after_removal empty true is tells stay to = equal (stay ∙ eqb-true i r is ∙ sym to)
  near_after_removal true false is tells stay to =
      let apart = eqb-false i r is in let most = close.lead in let a = close.insertion in let b = close.removal in equal (omega arith)
  near_after_removal false false is tells stay to =
      let apart = eqb-false i r is in let most = close.lead in let a = close.insertion in let b = close.removal in
      let there = tells.some refl in
      ahead (omega arith) there.0 (there.1 ∙ ap (λ (n : ℕ). Some n) (sym to))

  -- after a turn
  near_after_turn : (empty same : Bool) → (i == r) ≡ same → TellsEmpty empty r g → IsWithin f g → j ≡ cond same ((i + 1) % 64) i →
      q ≡ cond (same && empty) ((i + 1) % 64) r → IsNear
  near_after_turn true true is tells within to also = equal (to ∙ sym also)
  near_after_turn false true is tells within to also =
      let equals = eqb-true i r is in let a = close.insertion in let there = tells.some refl in
      ahead (omega arith) there.0 (there.1 ∙ ap (λ (n : ℕ). Some n) (sym also))
  near_after_turn empty false is tells within to also = near_as_before to also within

  -- after each rule
  pub near_after : IndexRule i r j q f g → IsNear
  near_after (stays same still within) = near_as_before same still within
  near_after (removes empty tells same to) = near_after_removal empty (i == r) refl tells same to
  near_after (turns empty tells within to also) = near_after_turn empty (i == r) refl tells within to also

-- a calendar stays close at every passage
pub close_after : (taken next : ℕ → Bool) (i r j q : ℕ) (f h : Filing) → IsClose i r f → Passage taken next i r j q f h → IsClose j q h
close_after taken next i r j q f h close passage = record {
  insertion = both.0;
  removal = both.1;
  lead = lead near;
  some = some near;
  filed = λ t b is. ⊎_elim (λ (old : f t ≡ Some b). close.filed t b old) (λ (new : (b < 64) × (i ≢ r → b ≡ r → next t ≡ true)). new.0) (passage.came t b is);
}
  where
    both : (j < 64) × (q < 64)
    both = indexes_within i r j q f passage.between close passage.rule

    near : IsNear i r j q f passage.between close
    near = near_after i r j q f passage.between close passage.rule

    lead : IsNear i r j q f passage.between close → distance_of q j ≤ 1
    lead (equal same) = let below = both.1 in omega arith
    lead (ahead one t there) = omega arith

    some : IsNear i r j q f passage.between close → distance_of q j ≡ 1 → (t : ℕ) × (h t ≡ Some q)
    some (equal same) one = let below = both.1 in absurd (omega arith)
    some (ahead also t there) one = (t, passage.kept t q there)

-- a thread that stays in a bucket comes nearer by as many buckets as the removal index goes on
pub stays_nearer : (taken next : ℕ → Bool) (i r j q t b : ℕ) (f h : Filing) → IsClose i r f → Passage taken next i r j q f h → f t ≡ Some b → h t ≡ Some b → taken t ≡ false →
    distance_of q b + distance_of r q ≡ distance_of r b
stays_nearer taken next i r j q t b f h close passage before after left =
    comes_nearer i r j q f passage.between close t b (close.filed t b before) passage.rule (passage.stood t b before after left)

-- the lead of the insertion index grows by what that goes on, and falls by what the removal index goes on
pub lead_after : (i r j q : ℕ) → i < 64 → r < 64 → j < 64 → q < 64 → distance_of r i ≤ 1 → distance_of q j ≤ 1 → distance_of i j ≤ 1 → distance_of r q ≤ 1 →
    distance_of q j + distance_of r q ≡ distance_of r i + distance_of i j
lead_after i r j q a b c d one two three four = omega arith

-- a turn that finds the indexes equal brings the insertion index on by one
pub turning_by_one : (i r j : ℕ) → i < 64 → i ≡ r → j ≡ idx_after_turn i r → distance_of i j ≡ 1
turning_by_one i r j below same to = split (i == r) refl to
  where
    split : (e : Bool) → (i == r) ≡ e → j ≡ cond e ((i + 1) % 64) i → distance_of i j ≡ 1
    split true is to = omega arith
    split false is to = absurd (eqb-false i r is same)

-- ---- where no CPU is

-- indexes that are both 0 and stay so keep each rule but a turn, which is none then
pub rule_nowhere : (j q : ℕ) (f g : Filing) → IndexRule 0 0 j q f g → IndexRule 0 0 0 0 f g
rule_nowhere j q f g (stays same still within) = stays refl refl within
rule_nowhere j q f g (removes empty tells same to) = removes empty tells refl refl
rule_nowhere j q f g (turns empty tells within to also) = stays refl refl within

-- a rule from threads among which these are is a rule from these
pub rule_from : (i r j q : ℕ) (e f g : Filing) → IsWithin e f → IndexRule i r j q f g → IndexRule i r j q e g
rule_from i r j q e f g among (stays same still within) = stays same still (λ t b is. within t b (among t b is))
rule_from i r j q e f g among (removes empty tells same to) = removes empty tells same to
rule_from i r j q e f g among (turns empty tells within to also) = turns empty tells (λ t b is. within t b (among t b is)) to also

-- ---- threads that are filed alike

module _ (taken next : ℕ → Bool) (i r j q : ℕ) where
  -- a passage from some threads is one from threads that are filed alike
  pub passage_from : (e f h : Filing) → ((t : ℕ) → f t ≡ e t) → Passage taken next i r j q f h → Passage taken next i r j q e h
  passage_from e f h alike p = record {
    between = p.between;
    rule = rule_from i r j q e f p.between (λ t b is. alike t ∙ is) p.rule;
    kept = p.kept;
    stood = λ t b before after left. p.stood t b (alike t ∙ before) after left;
    came = λ t b is. ⊎_elim (λ (old : f t ≡ Some b). inl (sym (alike t) ∙ old)) (λ (new : (b < 64) × (i ≢ r → b ≡ r → next t ≡ true)). inr new) (p.came t b is);
  }

  -- and one to some threads is one to threads that are filed alike
  pub passage_to : (f g h : Filing) → ((t : ℕ) → h t ≡ g t) → Passage taken next i r j q f g → Passage taken next i r j q f h
  passage_to f g h alike p = record {
    between = p.between;
    rule = p.rule;
    kept = λ t b is. alike t ∙ p.kept t b is;
    stood = λ t b before after left. p.stood t b before (sym (alike t) ∙ after) left;
    came = λ t b is. p.came t b (sym (alike t) ∙ is);
  }

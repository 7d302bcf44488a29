-- A thread's word and its place agree after each kind of step, over plain words, places, holders and pending changes.
use Rattle.std.proofs.Common.{◌≡◌, ◌≢◌, ◌⊎◌, ℕ, suc, Bool, true, false, sym, refl, ap, ◌∙◌, subst, inl, inr, ⊎_elim, arith, true≢false}
use Rattle.std.specs.Prelude.{Option, Some, None}
use Rattle.std.proofs.lemmas.Option.{none-some, same_Some}
use mathlib.Core.Logic.{dite}
use native.Mathlib.Decide.{ℕ_discrete}
use Rattle.ule_micro.specs.declared.word.Word.{Word}
use Rattle.ule_micro.specs.declared.word.Word.TheVariants.{Lock, Blocked}
use Rattle.ule_micro.specs.declared.word.WordChange.{WordChange}
use Rattle.ule_micro.specs.declared.word.WordChange.TheVariants.{Block, Point}
use Rattle.ule_micro.specs.Means.{thread_of_change}
use Rattle.ule_micro.specs.Agreement.{Place, under, in_hand, IsSettled, NamesHeld, AgreesInHand, AgreesUnder, WordAgrees, ChangeAgrees, IsThere, ThreadAgrees}

-- place number: the lock or the worker of a place
place_number : Place → ℕ
place_number (under l) = l
place_number (in_hand w) = w

is_hand : Place → Bool
is_hand (under l) = false
is_hand (in_hand w) = true

-- two places under a lock that are equal are under one lock
pub under_injective : (k l : ℕ) → under k ≡ under l → k ≡ l
unfolding place_number
under_injective k l e = ap place_number e

-- two places in a hand that are equal are in one hand
pub hand_injective : (k l : ℕ) → in_hand k ≡ in_hand l → k ≡ l
unfolding place_number
hand_injective k l e = ap place_number e

-- no place is under a lock and in a hand
pub under_no_hand : (l w : ℕ) → under l ≡ in_hand w → ⊥
unfolding is_hand
under_no_hand l w e = true≢false (sym (ap is_hand e))

word_number : Word → ℕ
word_number (Lock l) = suc l
word_number Blocked = 0

-- two words that are equal name one lock
pub lock_injective : (k l : ℕ) → Lock k ≡ Lock l → k ≡ l
unfolding word_number
lock_injective k l e = let h : suc k ≡ suc l = ap word_number e in omega arith

-- a word that names a lock is not blocked
pub lock_not_blocked : (l : ℕ) → Lock l ≡ Blocked → ⊥
unfolding word_number
lock_not_blocked l e = let h : suc l ≡ 0 = ap word_number e in omega arith

-- what a step may change of a thread whose place stays, and whose pending changes stay
module _ (holds holds' : ℕ → ℕ → Bool) (pending pending' : ℕ → Option WordChange) (stands stands' carries carries' : ℕ → Bool) (t : ℕ) (word word' : Word)
    (same : word' ≡ word) (st : (l : ℕ) → stands' l ≡ stands l) (ca : (w : ℕ) → carries' w ≡ carries w)
    (back : (w : ℕ) (c : WordChange) → pending' w ≡ Some c → thread_of_change c ≡ t → pending w ≡ Some c)
    (on : (w : ℕ) (c : WordChange) → pending w ≡ Some c → thread_of_change c ≡ t → pending' w ≡ Some c)
    (still : (w l : ℕ) (c : WordChange) → pending w ≡ Some c → thread_of_change c ≡ t → holds w l ≡ true → holds' w l ≡ true) where
  there_kept : (p : Place) → IsThere stands carries p → IsThere stands' carries' p
  there_kept (under l) h = st l ∙ h
  there_kept (in_hand w) h = ca w ∙ h

  settled_kept : IsSettled holds pending t word → IsSettled holds' pending' t word'
  settled_kept calm w c e a = calm w c (back w c e a) a

  names_kept : (w : ℕ) (c : WordChange) → pending w ≡ Some c → thread_of_change c ≡ t → NamesHeld holds pending t word w → NamesHeld holds' pending' t word' w
  names_kept w c e a (l, is, has) = (l, same ∙ is, still w l c e a has)

  word_kept : (p : Place) → WordAgrees holds pending t word p → WordAgrees holds' pending' t word' p
  word_kept (under l) (inl (is, calm)) = inl (same ∙ is, settled_kept calm)
  word_kept (under l) (inr (w, (is, has, inl b))) = inr (w, (on w (Point t l) is refl, still w l (Point t l) is refl has, inl (same ∙ b)))
  word_kept (under l) (inr (w, (is, has, inr n))) = inr (w, (on w (Point t l) is refl, still w l (Point t l) is refl has, inr (names_kept w (Point t l) is refl n)))
  word_kept (in_hand w) (inl (is, calm)) = inl (same ∙ is, settled_kept calm)
  word_kept (in_hand w) (inr (is, n)) = inr (on w (Block t) is refl, names_kept w (Block t) is refl n)

  change_kept : (p : Place) (w : ℕ) (c : WordChange) → pending w ≡ Some c → thread_of_change c ≡ t → ChangeAgrees holds w p c → ChangeAgrees holds' w p c
  change_kept p w (Block u) e a h = h
  change_kept p w (Point u l) e a h = (h.0, still w l (Point u l) e a h.1)

  -- a thread whose place, word and pending changes stay agrees as before
  pub thread_kept : ThreadAgrees holds pending stands carries t word → ThreadAgrees holds' pending' stands' carries' t word'
  thread_kept r = record {
    place = r.place;
    there = there_kept r.place r.there;
    only_under = λ l e. r.only_under l (sym (st l) ∙ e);
    only_hand = λ w e. r.only_hand w (sym (ca w) ∙ e);
    word_agrees = word_kept r.place r.word_agrees;
    change_agrees = λ w c e a. let b = back w c e a in change_kept r.place w c b a (r.change_agrees w c b a);
  }

-- what a worker with no change pending knows of a thread under a lock that it alone holds, or in its hand
module _ (holds : ℕ → ℕ → Bool) (pending : ℕ → Option WordChange) (stands carries : ℕ → Bool) (t : ℕ) (word : Word) (n : ℕ) (quiet : pending n ≡ None) where
  under_word : (l : ℕ) → ((v : ℕ) → holds v l ≡ true → v ≡ n) → AgreesUnder holds pending t word l → (word ≡ Lock l) × IsSettled holds pending t word
  under_word l alone (inl h) = h
  under_word l alone (inr (w, (is, has, _))) = absurd (none-some (Point t l) (sym quiet ∙ (ap pending (sym (alone w has)) ∙ is)))

  hand_word : AgreesInHand holds pending t word n → (word ≡ Blocked) × IsSettled holds pending t word
  hand_word (inl h) = h
  hand_word (inr (is, _)) = absurd (none-some (Block t) (sym quiet ∙ is))

  -- a thread under a lock that the worker alone holds has that lock's word
  pub under_calm : (r : ThreadAgrees holds pending stands carries t word) (l : ℕ) → ((v : ℕ) → holds v l ≡ true → v ≡ n) → stands l ≡ true
      → (r.place ≡ under l) × (word ≡ Lock l) × IsSettled holds pending t word
  under_calm r l alone st = let is = r.only_under l st in let z = under_word l alone (subst (WordAgrees holds pending t word) is r.word_agrees) in (is, z.0, z.1)

  -- a thread in the worker's hand has a blocked word
  pub hand_calm : (r : ThreadAgrees holds pending stands carries t word) → carries n ≡ true → (r.place ≡ in_hand n) × (word ≡ Blocked) × IsSettled holds pending t word
  hand_calm r ca = let is = r.only_hand n ca in let z = hand_word (subst (WordAgrees holds pending t word) is r.word_agrees) in (is, z.0, z.1)

-- where a worker alone holds the lock that a thread's word names, and has no change pending, the thread stands under the lock
module _ (holds : ℕ → ℕ → Bool) (pending : ℕ → Option WordChange) (stands carries : ℕ → Bool) (t : ℕ) (word : Word) (n l : ℕ) (quiet : pending n ≡ None) (alone : (v : ℕ) → holds v l ≡ true → v ≡ n) (named : word ≡ Lock l) where
  held_else_where : (v : ℕ) (c : WordChange) → pending v ≡ Some c → NamesHeld holds pending t word v → ⊥
  held_else_where v c is (a, at, took) = let same : a ≡ l = lock_injective a l (sym at ∙ named) in
      none-some c (sym quiet ∙ (ap pending (sym (alone v (subst (λ i. holds v i ≡ true) same took))) ∙ is))

  place_told : (p : Place) → WordAgrees holds pending t word p → p ≡ under l
  place_told (under j) (inl (is, calm)) = ap under (lock_injective j l (sym is ∙ named))
  place_told (under j) (inr (v, (is, took, inl b))) = absurd (lock_not_blocked l (sym named ∙ b))
  place_told (under j) (inr (v, (is, took, inr held))) = absurd (held_else_where v (Point t j) is held)
  place_told (in_hand v) (inl (is, calm)) = absurd (lock_not_blocked l (sym named ∙ is))
  place_told (in_hand v) (inr (is, held)) = absurd (held_else_where v (Block t) is held)

  -- the thread stands under the lock that its word names
  pub word_tells : ThreadAgrees holds pending stands carries t word → stands l ≡ true
  word_tells r = subst (IsThere stands carries) (place_told r.place r.word_agrees) r.there

-- an event of the worker n changes the place of the thread: its pending change is the one of that event
module _ (holds holds' : ℕ → ℕ → Bool) (pending pending' : ℕ → Option WordChange) (stands stands' carries carries' : ℕ → Bool) (t : ℕ) (word word' : Word) (n : ℕ)
    (r : ThreadAgrees holds pending stands carries t word) (same : word' ≡ word) (calm : IsSettled holds pending t word)
    (others : (w : ℕ) → w ≢ n → pending' w ≡ pending w) (carried : (w : ℕ) → w ≢ n → carries' w ≡ carries w) where
  -- only the worker's own change is pending
  own_change : (c : WordChange) (w : ℕ) (d : WordChange) → pending' n ≡ Some c → pending' w ≡ Some d → thread_of_change d ≡ t → (w ≡ n) × (d ≡ c)
  own_change c w d is e a = dite (ℕ_discrete w n) (λ z. (z, same_Some d c (sym e ∙ (ap pending' z ∙ is)))) (λ far. absurd (calm w d (sym (others w far) ∙ e) a))

  -- a thread that left a lock for the worker's hand
  pub thread_left : (a : ℕ) → r.place ≡ under a → word ≡ Lock a → holds' n a ≡ true → pending' n ≡ Some (Block t) → carries' n ≡ true → ((l : ℕ) → stands' l ≡ true → ⊥)
      → ThreadAgrees holds' pending' stands' carries' t word'
  thread_left a was named has is has_t gone = record {
    place = in_hand n;
    there = has_t;
    only_under = λ l st. absurd (gone l st);
    only_hand = λ w ca. dite (ℕ_discrete w n) (λ z. ap in_hand (sym z)) (λ far. absurd (under_no_hand a w (sym was ∙ r.only_hand w (sym (carried w far) ∙ ca))));
    word_agrees = inr (is, (a, same ∙ named, has));
    change_agrees = λ w d e about. let z = own_change (Block t) w d is e about in
        subst (ChangeAgrees holds' w (in_hand n)) (sym z.1) (ap in_hand (sym z.0));
  }

  -- a thread that came to a lock of the event
  pub thread_came : (k : ℕ) → holds' n k ≡ true → pending' n ≡ Some (Point t k) → stands' k ≡ true → ((l : ℕ) → stands' l ≡ true → l ≡ k)
      → ((w : ℕ) → carries' w ≡ true → ⊥)
      → ((word ≡ Blocked) ⊎ ((a : ℕ) × (word ≡ Lock a) × (holds' n a ≡ true))) → ThreadAgrees holds' pending' stands' carries' t word'
  thread_came k has is st only no_hand named = record {
    place = under k;
    there = st;
    only_under = λ l e. ap under (sym (only l e));
    only_hand = λ w e. absurd (no_hand w e);
    word_agrees = inr (n, (is, has, ⊎_elim (λ b. inl (same ∙ b)) (λ (z : (a : ℕ) × (word ≡ Lock a) × (holds' n a ≡ true)). inr (z.0, same ∙ z.1, z.2)) named));
    change_agrees = λ w d e about. let z = own_change (Point t k) w d is e about in
        subst (ChangeAgrees holds' w (under k)) (sym z.1) (refl, subst (λ v. holds' v k ≡ true) (sym z.0) has);
  }

-- the worker n stores its pending change of the thread
module _ (holds : ℕ → ℕ → Bool) (pending pending' : ℕ → Option WordChange) (stands carries : ℕ → Bool) (t : ℕ) (word : Word) (n : ℕ)
    (r : ThreadAgrees holds pending stands carries t word) (gone : pending' n ≡ None) (others : (w : ℕ) → w ≢ n → pending' w ≡ pending w) where
  still_pending : (w : ℕ) (c : WordChange) → pending' w ≡ Some c → (w ≢ n) × (pending w ≡ Some c)
  still_pending w c e = dite (ℕ_discrete w n) (λ z. absurd (none-some c (sym gone ∙ (ap pending' (sym z) ∙ e)))) (λ far. (far, sym (others w far) ∙ e))

  -- no other worker has a change of the thread pending
  module _ (alone : (l v w : ℕ) → holds v l ≡ true → holds w l ≡ true → v ≡ w) where
    two_changes : (p : Place) (c d : WordChange) (w : ℕ) → ChangeAgrees holds n p c → ChangeAgrees holds w p d → w ≡ n
    two_changes p (Block t) (Block u) w x y = hand_injective w n (sym y ∙ x)
    two_changes p (Block t) (Point u l) w x y = absurd (under_no_hand l n (sym y.0 ∙ x))
    two_changes p (Point t l) (Block u) w x y = absurd (under_no_hand l w (sym x.0 ∙ y))
    two_changes p (Point t l) (Point u k) w x y = let same : k ≡ l = under_injective k l (sym y.0 ∙ x.0) in alone l w n (subst (λ z. holds w z ≡ true) same y.1) x.1

    settled_now : (c : WordChange) → pending n ≡ Some c → thread_of_change c ≡ t → (word' : Word) → IsSettled holds pending' t word'
    settled_now c is about word' w d e a = let z = still_pending w d e in z.0 (two_changes r.place c d w (r.change_agrees n c is about) (r.change_agrees w d z.1 a))

    change_still : (w : ℕ) (c : WordChange) → pending' w ≡ Some c → thread_of_change c ≡ t → ChangeAgrees holds w r.place c
    change_still w c e a = r.change_agrees w c (still_pending w c e).1 a

    -- the word is blocked now
    pub thread_blocked : pending n ≡ Some (Block t) → ThreadAgrees holds pending' stands carries t Blocked
    thread_blocked is = let at = r.change_agrees n (Block t) is refl in record {
      place = r.place;
      there = r.there;
      only_under = r.only_under;
      only_hand = r.only_hand;
      word_agrees = subst (WordAgrees holds pending' t Blocked) (sym at) (inl (refl, settled_now (Block t) is refl Blocked));
      change_agrees = change_still;
    }

    -- the word names the lock now
    pub thread_pointed : (l : ℕ) → pending n ≡ Some (Point t l) → ThreadAgrees holds pending' stands carries t (Lock l)
    thread_pointed l is = let at = r.change_agrees n (Point t l) is refl in record {
      place = r.place;
      there = r.there;
      only_under = r.only_under;
      only_hand = r.only_hand;
      word_agrees = subst (WordAgrees holds pending' t (Lock l)) (sym at.0) (inl (refl, settled_now (Point t l) is refl (Lock l)));
      change_agrees = change_still;
    }

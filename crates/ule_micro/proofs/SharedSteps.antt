-- Each kind of step but the commit keeps what the workers share in agreement.
use Rattle.std.proofs.Common.{◌≡◌, ◌≢◌, ℕ, zero, suc, ◌+◌, ◌≤◌, Bool, true, false, List, [], ◌∷◌, set, refl, sym, ap, ◌∙◌, subst, arith, true≢false, eq-eqb, ne_eqb}
use Rattle.std.specs.Prelude.{Some, None, slice_get, if◌then◌else◌}
use Rattle.std.proofs.lemmas.Option.{none-some, same_Some}
use mathlib.Core.Logic.{dite}
use native.Mathlib.Decide.{ℕ_discrete}
use Rattle.ule_micro.specs.declared.entry.Entry.{Entry}
use Rattle.ule_micro.specs.declared.entry.HeldLocks.{HeldLocks}
use Rattle.ule_micro.specs.declared.word.Word.{Word}
use Rattle.ule_micro.specs.declared.word.Word.TheVariants.{Lock, Blocked}
use Rattle.ule_micro.specs.declared.word.WordChange.{WordChange}
use Rattle.ule_micro.specs.declared.word.WordChange.TheVariants.{Block, Point}
use Rattle.ule_micro.specs.Means.{Means, carried_by, stands_under, thread_of_change}
use Rattle.ule_micro.specs.Histories.{IsNoEarlierThanShared, is_lock_among}
use Rattle.ule_micro.specs.Agreement.{NamesOneHolder, ThreadAgrees}
use Rattle.ule_micro.specs.Shared.{Agrees, IsTimely, Shared, Stamped, TimeRead, unstamped, updated, now_advanced, now_read, lock_released, word_stored, lock_taken, together, with_hold}
use Rattle.ule_micro.specs.SharedLaws.{AdvancingAgrees, BlockingAgrees, PointingAgrees, ReadingAgrees, ReleasingAgrees, TakingAgrees}
use Rattle.ule_micro.proofs.Lists.{get_else, map_get}
use Rattle.ule_micro.proofs.Threads.{thread_kept, thread_blocked, thread_pointed}
use Rattle.ule_micro.proofs.Words.{names_kept, names_taken, names_freed, one_holder}

module _ {X : Type 0} (f : ℕ → X) (w : ℕ) (x : X) where
  -- the number that was put has what was put
  pub put_here : updated f w x w ≡ x
  put_here = ap (λ b. if b then x else f w) (eq-eqb w w refl)

  -- every other number has what it had
  pub put_else : (v : ℕ) → v ≢ w → updated f w x v ≡ f v
  put_else v far = ap (λ b. if b then x else f v) (ne_eqb v w far)

-- who holds what after one worker took a lock, or gave it back
module _ (holds : ℕ → ℕ → Bool) (w l : ℕ) (b : Bool) where
  -- the worker holds the lock, or does not
  pub hold_here : with_hold holds w l b w l ≡ b
  hold_here = ap (λ f. f l) (put_here holds w (updated (holds w) l b)) ∙ put_here (holds w) l b

  -- it holds every other lock as before
  pub hold_more : (i : ℕ) → i ≢ l → with_hold holds w l b w i ≡ holds w i
  hold_more i far = ap (λ f. f i) (put_here holds w (updated (holds w) l b)) ∙ put_else (holds w) l b i far

  -- another worker holds what it held
  pub hold_other : (v i : ℕ) → v ≢ w → with_hold holds w l b v i ≡ holds v i
  hold_other v i far = ap (λ f. f i) (put_else holds w (updated (holds w) l b) v far)

  -- every other lock is held as before
  pub hold_else : (v i : ℕ) → i ≢ l → with_hold holds w l b v i ≡ holds v i
  hold_else v i far = dite (ℕ_discrete v w) (λ z. subst (λ u. with_hold holds w l b u i ≡ holds u i) (sym z) (hold_more i far)) (λ n. hold_other v i n)

-- what was held is held after one more lock was taken
hold_still : (holds : ℕ → ℕ → Bool) (w l v i : ℕ) → holds v i ≡ true → with_hold holds w l true v i ≡ true
hold_still holds w l v i h = dite (ℕ_discrete i l)
    (λ z. dite (ℕ_discrete v w) (λ y. (λ n. with_hold holds w l true (y n) (z n)) ∙ hold_here holds w l true) (λ far. hold_other holds w l true v i far ∙ h))
    (λ far. hold_else holds w l true v i far ∙ h)

-- what one worker advanced is among what all did
sum_at : (xs : List ℕ) (w a : ℕ) → slice_get xs w ≡ Some a → a ≤ together xs
sum_at [] w a at = absurd (none-some a at)
sum_at (x ∷ xs) zero a at = let z : x ≡ a = same_Some x a at in omega arith
sum_at (x ∷ xs) (suc w) a at = let z = sum_at xs w a at in omega arith

sum_more : (xs : List ℕ) (w a k : ℕ) → slice_get xs w ≡ Some a → together (set xs w (a + k)) ≡ together xs + k
sum_more [] w a k at = absurd (none-some a at)
sum_more (x ∷ xs) zero a k at = let z : x ≡ a = same_Some x a at in omega arith
sum_more (x ∷ xs) (suc w) a k at = let z = sum_more xs w a k at in omega arith

-- a time that was read is timely where the locks are still held, now is no earlier, and the worker advanced no more
pub timely_kept : {H G E R : Type 0} (s s' : Shared H G E R) (w : ℕ) (r : TimeRead) → ((l : ℕ) → is_lock_among r.locks l ≡ true → s.holds w l ≡ true → s'.holds w l ≡ true) → s.now ≤ s'.now
    → ((a : ℕ) → slice_get s'.advanced w ≡ Some a → slice_get s.advanced w ≡ Some a) → s'.history ≡ s.history → IsTimely s w r → IsTimely s' w r
timely_kept {E} {R} s s' w r locks later own same t = record {
  holds = λ l a. locks l a (t.holds l a);
  past = let a = t.past in omega arith;
  own = λ a at. t.own a (own a at);
  no_earlier = subst (λ h. IsNoEarlierThanShared (unstamped h) w r.locks r.now) (sym same) t.no_earlier;
}

module _ {H O G E R C : Type 0} (m : Means H O G E R C) (s : Shared H G E R) (w : ℕ) (k : Agrees m s) where
  abbrev stands : ℕ → ℕ → Bool
  stands t l = stands_under m s.values l t

  abbrev carries : ℕ → ℕ → Bool
  carries t v = carried_by m s.hands v t

  -- the times that the other workers read are timely where this one forgets its own
  pub others_timely : (s' : Shared H G E R) → ((v : ℕ) (r : TimeRead) → v ≢ w → IsTimely s v r → IsTimely s' v r) → (v : ℕ) (r : TimeRead) → updated s.read w None v ≡ Some r → IsTimely s' v r
  others_timely s' each v r is = dite (ℕ_discrete v w) (λ z. absurd (none-some r (sym (put_here s.read w None) ∙ (ap (updated s.read w None) (sym z) ∙ is))))
      (λ far. each v r far (k.times v r (sym (put_else s.read w None v far) ∙ is)))

  module _ (l : ℕ) (free : s.locks l ≡ None) where
    take_agrees : Agrees m (lock_taken s w l)
    take_agrees = record {
      values = k.values;
      locks = λ i. dite (ℕ_discrete i l)
          (λ z. subst (λ j. NamesOneHolder ((lock_taken s w l).locks j) (λ v. (lock_taken s w l).holds v j)) (sym z)
          (names_taken (s.locks l) ((lock_taken s w l).locks l) (λ v. s.holds v l) (λ v. (lock_taken s w l).holds v l) (k.locks l) w (λ v far. hold_other s.holds w l true v l far) free (put_here s.locks l (Some w)) (hold_here s.holds w l true)))
          (λ far. names_kept (s.locks i) ((lock_taken s w l).locks i) (λ v. s.holds v i) (λ v. (lock_taken s w l).holds v i) (k.locks i) (put_else s.locks l (Some w) i far) (λ v. hold_else s.holds w l true v i far));
      threads = λ t dec. thread_kept s.holds (lock_taken s w l).holds s.pending s.pending (stands t) (stands t) (carries t) (carries t) t (s.words t) (s.words t) refl (λ i. refl) (λ v. refl) (λ v c is a. is) (λ v c is a. is)
          (λ v i c is a h. hold_still s.holds w l v i h) (k.threads t dec);
      undeclared = k.undeclared;
      changes = λ v c is. let r = k.changes v c is in (r.0, (r.1.0, r.1.1, λ i a. hold_still s.holds w l v i (r.1.2 i a)));
      times = others_timely (lock_taken s w l) (λ v r far. timely_kept s (lock_taken s w l) v r (λ i a h. hold_still s.holds w l v i h) (omega arith) (λ a at. at) refl);
      past = k.past;
      now = k.now;
      ticket = k.ticket;
      history = k.history;
    }

  module _ (l : ℕ) (has : s.holds w l ≡ true) (calm : s.pending w ≡ None) where
    busy : (v : ℕ) (c : WordChange) → s.pending v ≡ Some c → v ≢ w
    busy v c is z = none-some c (sym calm ∙ (ap s.pending (sym z) ∙ is))

    release_agrees : Agrees m (lock_released s w l)
    release_agrees = record {
      values = k.values;
      locks = λ i. dite (ℕ_discrete i l)
          (λ z. subst (λ j. NamesOneHolder ((lock_released s w l).locks j) (λ v. (lock_released s w l).holds v j)) (sym z)
          (names_freed (s.locks l) ((lock_released s w l).locks l) (λ v. s.holds v l) (λ v. (lock_released s w l).holds v l) (k.locks l) w (λ v far. hold_other s.holds w l false v l far) has (put_here s.locks l None) (hold_here s.holds w l false)))
          (λ far. names_kept (s.locks i) ((lock_released s w l).locks i) (λ v. s.holds v i) (λ v. (lock_released s w l).holds v i) (k.locks i) (put_else s.locks l None i far) (λ v. hold_else s.holds w l false v i far));
      threads = λ t dec. thread_kept s.holds (lock_released s w l).holds s.pending s.pending (stands t) (stands t) (carries t) (carries t) t (s.words t) (s.words t) refl (λ i. refl) (λ v. refl) (λ v c is a. is) (λ v c is a. is)
          (λ v i c is a h. hold_other s.holds w l false v i (busy v c is) ∙ h) (k.threads t dec);
      undeclared = k.undeclared;
      changes = λ v c is. let r = k.changes v c is in (r.0, (r.1.0, r.1.1, λ i a. hold_other s.holds w l false v i (busy v c is) ∙ r.1.2 i a));
      times = others_timely (lock_released s w l) (λ v r far. timely_kept s (lock_released s w l) v r (λ i a h. hold_other s.holds w l false v i far ∙ h) (omega arith) (λ a at. at) refl);
      past = k.past;
      now = k.now;
      ticket = k.ticket;
      history = k.history;
    }

  -- a pending change of a thread is stored in its word
  module _ (t : ℕ) (c : WordChange) (word : Word) (is : s.pending w ≡ Some c) (about : thread_of_change c ≡ t)
      (fits : m.declared t ≡ true → ThreadAgrees s.holds (updated s.pending w None) (stands t) (carries t) t word) where
    still : (v : ℕ) (d : WordChange) → updated s.pending w None v ≡ Some d → s.pending v ≡ Some d
    still v d has = dite (ℕ_discrete v w) (λ z. absurd (none-some d (sym (put_here s.pending w None) ∙ (ap (updated s.pending w None) (sym z) ∙ has)))) (λ far. sym (put_else s.pending w None v far) ∙ has)

    this : m.declared t ≡ true
    this = ap m.declared (sym about) ∙ (k.changes w c is).0

    store_agrees : Agrees m (word_stored s w t word)
    store_agrees = record {
      values = k.values;
      locks = k.locks;
      threads = λ u dec. dite (ℕ_discrete u t)
          (λ z. subst (λ i. ThreadAgrees s.holds (updated s.pending w None) (stands i) (carries i) i ((word_stored s w t word).words i)) (sym z)
          (subst (ThreadAgrees s.holds (updated s.pending w None) (stands t) (carries t) t) (sym (put_here s.words t word)) (fits this)))
          (λ far. thread_kept s.holds s.holds s.pending (updated s.pending w None) (stands u) (stands u) (carries u) (carries u) u (s.words u) ((word_stored s w t word).words u) (put_else s.words t word u far) (λ i. refl) (λ v. refl)
          (λ v d has a. still v d has)
          (λ v d has a. dite (ℕ_discrete v w) (λ z. absurd (far (sym a ∙ (ap thread_of_change (same_Some d c (sym has ∙ (ap s.pending z ∙ is))) ∙ about)))) (λ o. put_else s.pending w None v o ∙ has))
          (λ v i d has a h. h) (k.threads u dec));
      undeclared = λ u none. dite (ℕ_discrete u t) (λ z. absurd (true≢false (sym this ∙ (ap m.declared (sym z) ∙ none)))) (λ far. put_else s.words t word u far ∙ k.undeclared u none);
      changes = λ v d has. k.changes v d (still v d has);
      times = λ v r at. timely_kept s (word_stored s w t word) v r (λ i a h. h) (omega arith) (λ a e. e) refl (k.times v r at);
      past = k.past;
      now = k.now;
      ticket = k.ticket;
      history = k.history;
    }

  alone : (l v u : ℕ) → s.holds v l ≡ true → s.holds u l ≡ true → v ≡ u
  alone l v u a b = one_holder (s.locks l) (λ i. s.holds i l) (k.locks l) v u a b

  block_agrees : (t : ℕ) → s.pending w ≡ Some (Block t) → Agrees m (word_stored s w t Blocked)
  block_agrees t is = store_agrees t (Block t) Blocked is refl
      (λ dec. thread_blocked s.holds s.pending (updated s.pending w None) (stands t) (carries t) t (s.words t) w (k.threads t dec) (put_here s.pending w None) (put_else s.pending w None) alone is)

  point_agrees : (t l : ℕ) → s.pending w ≡ Some (Point t l) → Agrees m (word_stored s w t (Lock l))
  point_agrees t l is = store_agrees t (Point t l) (Lock l) is refl
      (λ dec. thread_pointed s.holds s.pending (updated s.pending w None) (stands t) (carries t) t (s.words t) w (k.threads t dec) (put_here s.pending w None) (put_else s.pending w None) alone l is)

  module _ (held : HeldLocks) (has : (l : ℕ) → is_lock_among held l ≡ true → s.holds w l ≡ true) where
    abbrev r : TimeRead
    r = record { locks = held; now = s.now }

    timely_now : IsTimely (now_read s w held) w r
    timely_now = record {
      holds = has;
      past = omega arith;
      own = λ a at. let b = k.now in let d = sum_at s.advanced w a at in omega arith;
      no_earlier = record { begun = (let b = k.now in omega arith); after = λ i x at sh. let y = map_get (λ (x : Stamped E R). x.entry) s.history i x at in subst (λ (e : Entry E R). e.now ≤ s.now) y.2 (k.past i y.0 y.1).1 };
    }

    read_agrees : Agrees m (now_read s w held)
    read_agrees = record {
      values = k.values;
      locks = k.locks;
      threads = k.threads;
      undeclared = k.undeclared;
      changes = k.changes;
      times = λ v q is. dite (ℕ_discrete v w)
          (λ z. subst (λ i. IsTimely (now_read s w held) i q) (sym z) (subst (IsTimely (now_read s w held) w) (same_Some r q (sym (put_here s.read w (Some r)) ∙ (ap (now_read s w held).read (sym z) ∙ is))) timely_now))
          (λ far. timely_kept s (now_read s w held) v q (λ i a h. h) (omega arith) (λ a e. e) refl (k.times v q (sym (put_else s.read w (Some r) v far) ∙ is)));
      past = k.past;
      now = k.now;
      ticket = k.ticket;
      history = k.history;
    }

  advance_agrees : (a n : ℕ) → slice_get s.advanced w ≡ Some a → Agrees m (now_advanced s w a n)
  advance_agrees a n at = record {
    values = k.values;
    locks = k.locks;
    threads = k.threads;
    undeclared = k.undeclared;
    changes = k.changes;
    times = others_timely (now_advanced s w a n) (λ v r far. timely_kept s (now_advanced s w a n) v r (λ i b h. h) (omega arith) (λ b e. sym (get_else s.advanced w v (a + n) far) ∙ e) refl);
    past = λ i x e. let z = k.past i x e in (z.0, let b = z.1 in omega arith);
    now = let b = k.now in let d = sum_more s.advanced w a n at in omega arith;
    ticket = k.ticket;
    history = k.history;
  }

module _ {H O G E R C : Type 0} (m : Means H O G E R C) where
  -- taking a free lock keeps agreement
  pub taking_agrees : TakingAgrees m
  taking_agrees s w l k free = take_agrees m s w k l free

  -- giving a lock back keeps agreement
  pub releasing_agrees : ReleasingAgrees m
  releasing_agrees s w l k has calm = release_agrees m s w k l has calm

  -- blocking a word keeps agreement
  pub blocking_agrees : BlockingAgrees m
  blocking_agrees s w t k is = block_agrees m s w k t is

  -- pointing a word keeps agreement
  pub pointing_agrees : PointingAgrees m
  pointing_agrees s w t l k is = point_agrees m s w k t l is

  -- reading now keeps agreement
  pub reading_agrees : ReadingAgrees m
  reading_agrees s w held k has = read_agrees m s w k held has

  -- advancing now keeps agreement
  pub advancing_agrees : AdvancingAgrees m
  advancing_agrees s w amount n k at = advance_agrees m s w k amount n at

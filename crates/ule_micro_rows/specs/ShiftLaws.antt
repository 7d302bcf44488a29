-- The laws of the shifting thread.
use Rattle.std.proofs.Common.{◌≡◌, ℕ, zero, suc, ◌+◌, ◌^◌, ◌<◌, ◌≤◌, Bool, true, false, List, [], ◌∷◌, length, replicate, refl, sym, ap, ◌∙◌, subst, inr, arith, true≢false, eq-eqb, ne_eqb}
use Rattle.std.specs.Prelude.{Option, Some, None, slice_get, ◌==◌, ◌||◌, if◌then◌else◌}
use Rattle.std.proofs.lemmas.Bool.{or_left}
use Rattle.std.proofs.lemmas.List.{length-replicate}
use Rattle.std.proofs.lemmas.Option.{none-some, same_Some, slice_get_past}
use mathlib.Core.Logic.{dite}
use native.Mathlib.Decide.{ℕ_discrete}
use Rattle.ule_micro.specs.declared.entry.HeldLocks.{HeldLocks}
use Rattle.ule_micro.specs.declared.entry.HeldLocks.TheVariants.{Two}
use Rattle.ule_micro.specs.declared.locks.TheConstants.{LIMBO, LOCKS}
use Rattle.ule_micro.specs.declared.word.WordChange.{WordChange}
use Rattle.ule_micro.specs.declared.word.WordChange.TheVariants as change
use Rattle.ule_micro.specs.Standings.{asks, rests, standing_with}
use Rattle.ule_micro.specs.Means.{lock_of, stands_under, thread_of_change}
use Rattle.ule_micro.specs.Histories.{is_lock_among}
use Rattle.ule_micro.specs.Laws.{AreOrders, AreRising, AreValid, AsksSoundly, IsLawful, KeepsHands, KeepsStanding, Moves, MovesLittle, ReadiesEvents, StartsSettled, StartsSmall, lock_count, total_charge}
use Rattle.ule_micro.proofs.Among.{among_first, among_second}
use Rattle.ule_micro_rows.specs.declared.shift.Move.{Move}
use Rattle.ule_micro_rows.specs.declared.shift.Move.TheVariants.{Shift, Look}
use Rattle.ule_micro_rows.specs.declared.shift.Place.{Place}
use Rattle.ule_micro_rows.specs.declared.shift.Place.TheVariants.{Same}
use Rattle.ule_micro_rows.specs.declared.shift.Point.{Point}
use Rattle.ule_micro_rows.specs.declared.shift.Point.TheVariants.{Over, Ready}
use Rattle.ule_micro_rows.specs.declared.shift.Mover.{Mover}
use Rattle.ule_micro_rows.specs.Shift.{IsPointBehind, again, is_here, shift_most, shift_act, shift_item, shift_means, shift_needs, shift_orders, shifted, word_change}

-- the one thread
is_zero : (t : ℕ) → shift_means.declared t ≡ true → t ≡ 0
is_zero t e = dite (ℕ_discrete t 0) (λ z. z) (λ n. absurd (true≢false (sym e ∙ ne_eqb t 0 n)))

pub same_hand : (own : Mover) → shift_means.hand own ≡ own.hand
same_hand own = refl

pub same_number : (own : Mover) → shift_means.number own ≡ own.number
same_number own = refl

-- a move that is given again and again is given 512 times
again_length : (e : Move) → length (again e) ≡ 512
unfolding again
again_length e = length-replicate 512 e

-- a move that is given again and again is the same each time
pub again_at : (e : Move) (i : ℕ) → i < 512 → slice_get (again e) i ≡ Some e
unfolding again
again_at e i low = same 512 i low where
  same : (n j : ℕ) → j < n → slice_get (replicate n e) j ≡ Some e
  same zero j less = absurd (omega arith)
  same (suc n) zero less = refl
  same (suc n) (suc j) less = same n j (omega arith)

-- a list of a move again and again ends behind the 512th
pub again_past : (e : Move) (i : ℕ) → 512 ≤ i → slice_get (again e) i ≡ None
again_past e i past = slice_get_past (again e) i (let l = again_length e in omega arith)

numbered : (w : ℕ) (o : Mover) → slice_get shift_means.owns w ≡ Some o → shift_means.number o ≡ w
numbered zero o e = sym (ap (λ (x : Mover). x.number) (same_Some _ o e))
numbered (suc zero) o e = sym (ap (λ (x : Mover). x.number) (same_Some _ o e))
numbered (suc (suc w)) o e = absurd (none-some o e)

starts_small : StartsSmall shift_means
starts_small = record { locks = refl; workers = omega arith; small = omega arith; numbered = numbered }

only_first : (t l : ℕ) → stands_under shift_means shift_means.values l t ≡ true → l ≡ 0
only_first t zero e = refl
only_first t (suc l) e = absurd (true≢false (sym e ∙ in_rest 24 l)) where
  in_rest : (n l : ℕ) → (elim (slice_get (replicate n false) l) as (λ _. Bool) [ None ↦ false | Some v ↦ is_here v t ]) ≡ false
  in_rest zero l = refl
  in_rest (suc n) zero = refl
  in_rest (suc n) (suc l) = in_rest n l

no_hand : (t w : ℕ) (o : Mover) → slice_get shift_means.owns w ≡ Some o → is_here o.hand t ≡ false
no_hand t zero o e = ap (λ (x : Mover). is_here x.hand t) (sym (same_Some _ o e))
no_hand t (suc zero) o e = ap (λ (x : Mover). is_here x.hand t) (sym (same_Some _ o e))
no_hand t (suc (suc w)) o e = absurd (none-some o e)

low_word : (b : Bool) → (if b then 0 else LIMBO) < LOCKS
low_word true = omega arith
low_word false = omega arith

starts_settled : StartsSettled shift_means
starts_settled = record {
  few = λ t e. let z = is_zero t e in omega arith;
  low = λ t. low_word (t == 0);
  limbo = λ t e. ap (λ b. if b then 0 else LIMBO) e;
  stands = λ t e. ap (λ b. stands_under shift_means shift_means.values (if b then 0 else LIMBO) t) e ∙ e;
  once = λ t l e st. only_first t l st ∙ ap (λ b. if b then 0 else LIMBO) (sym e);
  empty = λ t w o e at. no_hand t w o at;
}

no_lock : (t : ℕ) (h : Bool) → h ≡ false → is_here h t ≡ false
no_lock t h e = ap (λ b. is_here b t) e

-- where no word is to change nothing changed
stays : (held : HeldLocks) (h : Bool) (guarded : List Bool) → Moves shift_means held h guarded None h guarded
stays held h guarded = record {
  count = refl;
  of_declared = λ c e. absurd (none-some c e);
  others = λ t d far. (refl, refl);
  blocks = λ t e. absurd (none-some (change.Block t) e);
  points = λ t k e. absurd (none-some (change.Point t k) e);
}

-- the thread, which stood under one of two locks, comes to one of them
goes : (a b k : ℕ) (h v u v' u' : Bool) → h ≡ false → ((t : ℕ) → t ≡ 0 → (is_here v t || is_here u t) ≡ true)
    → ((l : ℕ) → l ≡ k → is_lock_among (Two a b) l ≡ true) → ((t : ℕ) → t ≡ 0 → is_here v' t ∷ is_here u' t ∷ [] ≡ (a == k) ∷ (b == k) ∷ [])
    → Moves shift_means (Two a b) h (v ∷ u ∷ []) (Some (change.Point 0 k)) h (v' ∷ u' ∷ [])
goes a b k h v u v' u' empty stood among at_k = record {
  count = refl;
  of_declared = λ c e. ap (λ d. thread_of_change d == 0) (sym (same_Some (change.Point 0 k) c e));
  others = λ t d far. absurd (far (change.Point 0 k) refl (sym (is_zero t d)));
  blocks = λ t e. absurd (let y : change.Point 0 k ≡ change.Block t = same_Some (change.Point 0 k) (change.Block t) e in cc);
  points = λ t j e. let z = same_thread t j e in let i = same_lock t j e in
      (inr (stood t z), among j i, at_k t z ∙ (λ n. (a == sym i n) ∷ (b == sym i n) ∷ []), no_lock t h empty);
}
  where
    same_thread : (t j : ℕ) → ◌≡◌ {A = Option WordChange} (Some (change.Point 0 k)) (Some (change.Point t j)) → t ≡ 0
    same_thread t j e = sym (ap thread_of_change (same_Some (change.Point 0 k) (change.Point t j) e))

    same_lock : (t j : ℕ) → ◌≡◌ {A = Option WordChange} (Some (change.Point 0 k)) (Some (change.Point t j)) → j ≡ k
    same_lock t j e = let y : change.Point 0 k ≡ change.Point t j = same_Some (change.Point 0 k) (change.Point t j) e in cc

at_zero : (t : ℕ) → t ≡ 0 → (t == 0) ≡ true
at_zero t e = eq-eqb t 0 e

-- a shift moves the thread from one queue to the other
shifts : (a b : ℕ) (h v u : Bool) → a < b → h ≡ false
    → Moves shift_means (Two a b) h (v ∷ u ∷ []) (word_change (Shift a b) (shifted h v u).3) (shifted h v u).0 ((shifted h v u).1 ∷ (shifted h v u).2 ∷ [])
shifts a b h true u low empty = goes a b b h true u false true empty (λ t z. or_left (t == 0) (is_here u t) (at_zero t z)) (λ l e. ap (is_lock_among (Two a b)) e ∙ among_second a b)
    (λ t z i. sym (ne_eqb a b (λ e. omega arith)) i ∷ (at_zero t z ∙ sym (eq-eqb b b refl)) i ∷ [])
shifts a b h false true low empty = goes a b a h false true true false empty (λ t z. at_zero t z) (λ l e. ap (is_lock_among (Two a b)) e ∙ among_first a b)
    (λ t z i. (at_zero t z ∙ sym (eq-eqb a a refl)) i ∷ sym (ne_eqb b a (λ e. omega arith)) i ∷ [])
shifts a b h false false low empty = stays (Two a b) h (false ∷ false ∷ [])

no_change : (e : Move) → word_change e Same ≡ None
no_change (Shift a b) = refl
no_change Look = refl

moves_little : MovesLittle shift_means
moves_little w e now h held [] may rise many its = subst (λ c. Moves shift_means held h [] c h []) (sym (no_change e)) (stays held h [])
moves_little w e now h held (v ∷ []) may rise many its = subst (λ c. Moves shift_means held h (v ∷ []) c h (v ∷ [])) (sym (no_change e)) (stays held h (v ∷ []))
moves_little w Look now h held (v ∷ u ∷ us) may rise many its = absurd (let z = ap lock_count its.1 in omega arith)
moves_little w (Shift a b) now h held (v ∷ u ∷ []) may rise many its =
    subst (λ k. Moves shift_means k h (v ∷ u ∷ []) (word_change (Shift a b) (shifted h v u).3) (shifted h v u).0 ((shifted h v u).1 ∷ (shifted h v u).2 ∷ [])) (sym its) (shifts a b h v u may.2.0 may.0)
moves_little w (Shift a b) now h held (v ∷ u ∷ x ∷ us) may rise many its = absurd (let z = ap lock_count its in omega arith)

keeps_hands : KeepsHands shift_means
keeps_hands = record { put = λ o h. refl; put_own = λ o. refl; put_twice = λ o h k. refl; put_number = λ o h. refl; begin = λ o c. refl; begin_number = λ o c. refl; next = λ o told. refl; next_number = λ o told. refl }

asks_soundly : AsksSoundly shift_means
asks_soundly = record { rising = λ w mine h e asked. asked.1; seeks = λ w mine h e t asked is. (seeks_first e t is, λ u d. no_lock u h asked.0) }
  where
    seeks_first : (e : Move) (t : ℕ) → shift_needs e ≡ lock_of t → (t == 0) ≡ true
    seeks_first (Shift a b) t is = absurd (cc)
    seeks_first Look t is = at_zero t (let z : lock_of 0 ≡ lock_of t = is in cc)

-- each event leaves the hand
hand_stays : (h : Bool) (guarded : List Bool) → (shift_act h guarded).hand ≡ h
hand_stays h [] = refl
hand_stays h (v ∷ []) = refl
hand_stays h (true ∷ u ∷ us) = refl
hand_stays h (false ∷ true ∷ us) = refl
hand_stays h (false ∷ false ∷ us) = refl

opens : (w : ℕ) (o : Mover) → slice_get shift_means.owns w ≡ Some o → ((o.hand ≡ false) × Unit {0}) × (shift_most o.point rests ≡ 0)
opens zero o e = ((ap (λ (x : Mover). x.hand) (sym (same_Some _ o e)), tt), refl)
opens (suc zero) o e = ((ap (λ (x : Mover). x.hand) (sym (same_Some _ o e)), tt), refl)
opens (suc (suc w)) o e = absurd (none-some o e)

behind_next : (point : Point) (told : Option (Place × ℕ)) → IsPointBehind point (asks told) → IsPointBehind Over (standing_with (shift_item point))
behind_next Over told behind = tt
behind_next (Ready e) told behind = (refl, behind)

most_next : (point : Point) (told : Option (Place × ℕ)) → shift_most Over (standing_with (shift_item point)) ≤ shift_most point (asks told)
most_next Over told = omega arith
most_next (Ready e) told = omega arith

behind_event : (point : Point) (told : Option (Place × ℕ)) → point ≡ Over → IsPointBehind point (asks told)
behind_event point told over = subst (λ p. IsPointBehind p (asks told)) (sym over) tt

keeps_standing : KeepsStanding shift_means
keeps_standing = record {
  opens = opens;
  begins = λ j o c stands valid. (tt, (stands.0, valid), omega arith);
  goes_on = λ j o told stands. (tt, (stands.0, behind_next o.point told stands.1), most_next o.point told);
  advances = λ j o k stands. absurd stands.1;
  asks_for = λ j o e stands. (stands.0, stands.1.1);
  performs = λ j o x guarded stands who may its many reply by. let told = Some (x.reply, x.now) in
      ((hand_stays o.hand guarded ∙ stands.0, behind_event o.point told stands.1.0), let z : shift_most o.point (asks told) ≡ 0 = ap (λ p. shift_most p (asks told)) stands.1.0 in omega arith);
  ends = λ j o stands t d. no_lock t o.hand stands.0;
}

readies : ReadiesEvents shift_means
readies h y w e now hand held guarded leads at asked locks under early small = (asked.0, small, asked.1)

-- the laws of the shifting thread
pub shift_lawful : IsLawful shift_means
shift_lawful = record { small = starts_small; settled = starts_settled; moves = moves_little; hands = keeps_hands; sound = asks_soundly; standing = keeps_standing; ready = readies }

total_one : (cs : List Move) → total_charge (λ c. 1) cs ≡ length cs
total_one [] = refl
total_one (c ∷ cs) = let a = total_one cs in omega arith

again_valid : (w : ℕ) (given : List Move) (e : Move) → AreRising (shift_needs e) → AreValid shift_means w given (again e)
unfolding again
again_valid w given e rise = by 512 given where
  by : (n : ℕ) (before : List Move) → AreValid shift_means w before (replicate n e)
  by zero before = tt
  by (suc n) before = (rise, by n (e ∷ before))

pub shift_orders_fit : AreOrders shift_means shift_orders
shift_orders_fit = record { few = λ w. few (w == 0); charged = λ w. charged (w == 0); valid = λ w low. valid w (w == 0) }
  where
    few : (b : Bool) → length (if b then again (Shift 0 1) else Look ∷ Shift 0 1 ∷ again Look) + 1 < 2 ^ 32
    few true = let l = again_length (Shift 0 1) in omega arith
    few false = let l = again_length Look in omega arith

    charged : (b : Bool) → total_charge (λ c. 1) (if b then again (Shift 0 1) else Look ∷ Shift 0 1 ∷ again Look) ≤ (if b then 512 else 514)
    charged true = let l = again_length (Shift 0 1) in let t = total_one (again (Shift 0 1)) in omega arith
    charged false = let l = again_length Look in let t = total_one (again Look) in omega arith

    valid : (w : ℕ) (b : Bool) → AreValid shift_means w [] (if b then again (Shift 0 1) else Look ∷ Shift 0 1 ∷ again Look)
    valid w true = again_valid w [] (Shift 0 1) (omega arith, omega arith)
    valid w false = (tt, ((omega arith, omega arith), again_valid w (Shift 0 1 ∷ Look ∷ []) Look tt))

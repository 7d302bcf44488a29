-- The laws of the napping thread.
use Rattle.std.proofs.Common.{◌≡◌, ℕ, zero, suc, ◌+◌, ◌^◌, ◌<◌, ◌≤◌, Bool, true, false, List, [], ◌∷◌, length, replicate, refl, sym, ap, ◌∙◌, subst, inl, arith, true≢false, eq-eqb, ne_eqb}
use Rattle.std.specs.Prelude.{Option, Some, None, slice_get, ◌==◌, if◌then◌else◌}
use Rattle.std.proofs.lemmas.Option.{none-some, same_Some}
use mathlib.Core.Logic.{dite}
use native.Mathlib.Decide.{ℕ_discrete}
use Rattle.ule_micro.specs.declared.entry.HeldLocks.{HeldLocks}
use Rattle.ule_micro.specs.declared.entry.HeldLocks.TheVariants.{One}
use Rattle.ule_micro.specs.declared.locks.TheConstants.{LIMBO, LOCKS}
use Rattle.ule_micro.specs.declared.todo.Todo.TheVariants.{Event}
use Rattle.ule_micro.specs.declared.word.WordChange.{WordChange}
use Rattle.ule_micro.specs.declared.word.WordChange.TheVariants.{Block, Point}
use Rattle.ule_micro.specs.Standings.{asks, has, rests, standing_with}
use Rattle.ule_micro.specs.Means.{lock_of, stands_under, thread_of_change}
use Rattle.ule_micro.specs.Laws.{AreItsLocks, AreOrders, AreRising, AreValid, AsksSoundly, IsEmpty, IsLawful, KeepsHands, KeepsStanding, Moves, MovesLittle, ReadiesEvents, StartsSettled, StartsSmall, lock_count, total_charge}
use Rattle.ule_micro_rows.specs.declared.nap.Act.{Act}
use Rattle.ule_micro_rows.specs.declared.nap.Act.TheVariants.{Doze, Bed, Rouse, Land}
use Rattle.ule_micro_rows.specs.declared.nap.Answer.{Answer}
use Rattle.ule_micro_rows.specs.declared.nap.Answer.TheVariants.{Left, Stayed, Came}
use Rattle.ule_micro_rows.specs.declared.nap.Napper.{Napper}
use Rattle.ule_micro_rows.specs.declared.nap.Spot.{Spot}
use Rattle.ule_micro_rows.specs.declared.nap.Spot.TheVariants.{Empty, Awake, Asleep}
use Rattle.ule_micro_rows.specs.declared.nap.Stage.{Stage}
use Rattle.ule_micro_rows.specs.declared.nap.Stage.TheVariants.{Rested, Begun, Dozed, Roused}
use Rattle.ule_micro_rows.specs.declared.nap.Wish.{Wish}
use Rattle.ule_micro_rows.specs.declared.nap.Wish.TheVariants.{Sleep, Wake, Wait}
use Rattle.ule_micro_rows.specs.Nap.{IsStageBehind, acted, carried_in, change, full, greatest_items, is_declared, nap_most, nap_act, nap_item, nap_means, nap_needs, nap_orders, nap_stage_after, needs_hand, stands_in, told_left}

-- the one thread
pub is_zero : (t : ℕ) → is_declared t ≡ true → t ≡ 0
is_zero t e = dite (ℕ_discrete t 0) (λ z. z) (λ n. absurd (true≢false (sym e ∙ ne_eqb t 0 n)))

pub same_hand : (own : Napper) → nap_means.hand own ≡ own.hand
same_hand own = refl

pub same_number : (own : Napper) → nap_means.number own ≡ own.number
same_number own = refl

numbered : (w : ℕ) (o : Napper) → slice_get nap_means.owns w ≡ Some o → nap_means.number o ≡ w
numbered zero o e = sym (ap (λ (x : Napper). x.number) (same_Some _ o e)) ∙ refl
numbered (suc zero) o e = sym (ap (λ (x : Napper). x.number) (same_Some _ o e)) ∙ refl
numbered (suc (suc w)) o e = absurd (none-some o e)

starts_small : StartsSmall nap_means
starts_small = record {
  locks = refl;
  workers = omega arith;
  small = omega arith;
  numbered = numbered;
}

only_first : (t l : ℕ) → stands_under nap_means nap_means.values l t ≡ true → l ≡ 0
only_first t zero e = refl
only_first t (suc l) e = absurd (true≢false (sym e ∙ empty l)) where
  in_rest : (n l : ℕ) → (elim (slice_get (replicate n Empty) l) as (λ _. Bool) [ None ↦ false | Some v ↦ stands_in v t ]) ≡ false
  in_rest zero l = refl
  in_rest (suc n) zero = refl
  in_rest (suc n) (suc l) = in_rest n l

  empty : (l : ℕ) → stands_under nap_means nap_means.values (suc l) t ≡ false
  empty l = in_rest 24 l

no_hand : (t w : ℕ) (o : Napper) → slice_get nap_means.owns w ≡ Some o → carried_in o.hand t ≡ false
no_hand t zero o e = ap (λ (x : Napper). carried_in x.hand t) (sym (same_Some _ o e))
no_hand t (suc zero) o e = ap (λ (x : Napper). carried_in x.hand t) (sym (same_Some _ o e))
no_hand t (suc (suc w)) o e = absurd (none-some o e)

low_word : (b : Bool) → (if b then 0 else LIMBO) < LOCKS
low_word true = omega arith
low_word false = omega arith

starts_settled : StartsSettled nap_means
starts_settled = record {
  few = λ t e. let z = is_zero t e in omega arith;
  low = λ t. low_word (is_declared t);
  limbo = λ t e. ap (λ b. if b then 0 else LIMBO) e;
  stands = λ t e. ap (λ b. stands_under nap_means nap_means.values (if b then 0 else LIMBO) t) e ∙ e;
  once = λ t l e st. only_first t l st ∙ ap (λ b. if b then 0 else LIMBO) (sym e);
  empty = λ t w o e at. no_hand t w o at;
}

rising : (e : Act) → AreRising (nap_needs e)
rising Doze = omega arith
rising Bed = omega arith
rising Rouse = tt
rising Land = omega arith

-- an event that changes nothing
stays : (held : HeldLocks) (h : Bool) (guarded : List Spot) → Moves nap_means held h guarded None h guarded
stays held h guarded = record {
  count = refl;
  of_declared = λ c e. absurd (none-some c e);
  others = λ t d far. (refl, refl);
  blocks = λ t e. absurd (none-some (Block t) e);
  points = λ t k e. absurd (none-some (Point t k) e);
}

at_zero : (t : ℕ) → t ≡ 0 → (t == 0) ≡ true
at_zero t e = eq-eqb t 0 e

-- the thread leaves a lock
leaves : (h : Bool) (a : ℕ) (v : Spot) → ((t : ℕ) → t ≡ 0 → stands_in v t ≡ true) → Moves nap_means (One a) h (v ∷ []) (Some (Block 0)) true (Empty ∷ [])
leaves h a v stood = record {
  count = refl;
  of_declared = λ c e. ap (λ d. is_declared (thread_of_change d)) (sym (same_Some (Block 0) c e));
  others = λ t d far. absurd (far (Block 0) refl (sym (is_zero t d)));
  blocks = λ t e. let z = same t e in (stood t z, refl, at_zero t z);
  points = λ t k e. absurd (let y : Block 0 ≡ Point t k = same_Some (Block 0) (Point t k) e in cc);
}
  where
    same : (t : ℕ) → ◌≡◌ {A = Option WordChange} (Some (Block 0)) (Some (Block t)) → t ≡ 0
    same t e = sym (ap thread_of_change (same_Some (Block 0) (Block t) e))

-- the thread comes to a lock
comes : (h : Bool) (a k : ℕ) (v v' : Spot) → h ≡ true → a ≡ k → ((t : ℕ) → t ≡ 0 → stands_in v' t ≡ true) → Moves nap_means (One a) h (v ∷ []) (Some (Point 0 k)) false (v' ∷ [])
comes h a k v v' full lock stand = record {
  count = refl;
  of_declared = λ c e. ap (λ d. is_declared (thread_of_change d)) (sym (same_Some (Point 0 k) c e));
  others = λ t d far. absurd (far (Point 0 k) refl (sym (is_zero t d)));
  blocks = λ t e. absurd (let y : Point 0 k ≡ Block t = same_Some (Point 0 k) (Block t) e in cc);
  points = λ t j e. let z = same_thread t j e in let i = lock ∙ same_lock t j e in (inl (ap (λ x. carried_in x t) full ∙ at_zero t z), eq-eqb a j i, ap (λ b. b ∷ []) (stand t z ∙ sym (eq-eqb a j i)), refl);
}
  where
    same_thread : (t j : ℕ) → ◌≡◌ {A = Option WordChange} (Some (Point 0 k)) (Some (Point t j)) → t ≡ 0
    same_thread t j e = sym (ap thread_of_change (same_Some (Point 0 k) (Point t j) e))

    same_lock : (t j : ℕ) → ◌≡◌ {A = Option WordChange} (Some (Point 0 k)) (Some (Point t j)) → k ≡ j
    same_lock t j e = let y : Point 0 k ≡ Point t j = same_Some (Point 0 k) (Point t j) e in cc

lock_is : (a b : ℕ) → One a ≡ One b → a ≡ b
lock_is a b e = cc

-- each event is under one lock
held_one : (e : Act) (held : HeldLocks) (guarded : List Spot) → AreItsLocks nap_means held guarded (nap_needs e) → (a : ℕ) × (held ≡ One a)
held_one Doze held guarded its = (0, its)
held_one Bed held guarded its = (16, its)
held_one Rouse held guarded its = (its.0, its.1)
held_one Land held guarded its = (0, its)

moves : (e : Act) (h : Bool) (a : ℕ) (v : Spot) → h ≡ needs_hand e → AreItsLocks nap_means (One a) (v ∷ []) (nap_needs e)
    → Moves nap_means (One a) h (v ∷ []) (change e (acted e h v).2) (acted e h v).0 ((acted e h v).1 ∷ [])
moves Doze h a Empty hand its = stays (One a) h (Empty ∷ [])
moves Doze h a Awake hand its = leaves h a Awake at_zero
moves Doze h a Asleep hand its = stays (One a) h (Asleep ∷ [])
moves Bed h a v hand its = comes h a 16 v Asleep hand (lock_is a 16 its) at_zero
moves Rouse h a Empty hand its = stays (One a) h (Empty ∷ [])
moves Rouse h a Awake hand its = stays (One a) h (Awake ∷ [])
moves Rouse h a Asleep hand its = leaves h a Asleep at_zero
moves Land h a v hand its = comes h a 0 v Awake hand (lock_is a 0 its) at_zero

moves_little : MovesLittle nap_means
moves_little w e now h held guarded may rise many its = by guarded held (held_one e held guarded its) many its where
  by : (vs : List Spot) (k : HeldLocks) → (a : ℕ) × (k ≡ One a) → length vs ≡ lock_count k → AreItsLocks nap_means k vs (nap_needs e)
      → Moves nap_means k h vs (change e (nap_act e h vs).reply) (nap_act e h vs).hand (nap_act e h vs).values
  by [] k z len lock = absurd (let y = ap lock_count z.1 in omega arith)
  by (v ∷ []) k z len lock = subst (λ i. Moves nap_means i h (v ∷ []) (change e (acted e h v).2) (acted e h v).0 ((acted e h v).1 ∷ [])) (sym z.1)
      (moves e h z.0 v may.0 (subst (λ i. AreItsLocks nap_means i (v ∷ []) (nap_needs e)) z.1 lock))
  by (v ∷ u ∷ us) k z len lock = absurd (let y = ap lock_count z.1 in omega arith)

keeps_hands : KeepsHands nap_means
keeps_hands = record { put = λ o h. refl; put_own = λ o. refl; put_twice = λ o h k. refl; put_number = λ o h. refl; begin = λ o c. refl; begin_number = λ o c. refl; next = λ o told. refl; next_number = λ o told. refl }

empty_hand : (h : Bool) → h ≡ false → IsEmpty nap_means h
empty_hand h e t d = ap (λ x. carried_in x t) e

asks_soundly : AsksSoundly nap_means
asks_soundly = record { rising = λ w mine h e asked. rising e; seeks = λ w mine h e t asked is. seeks h e t asked is }
  where
    seeks : (h : Bool) (e : Act) (t : ℕ) → h ≡ needs_hand e → nap_needs e ≡ lock_of t → (is_declared t ≡ true) × IsEmpty nap_means h
    seeks h Doze t asked is = absurd (cc)
    seeks h Bed t asked is = absurd (cc)
    seeks h Rouse t asked is = (at_zero t (let z : lock_of 0 ≡ lock_of t = is in cc), empty_hand h asked)
    seeks h Land t asked is = absurd (cc)

-- the next item
full_next : (stage : Stage) (told : Option (Answer × ℕ)) → full (nap_stage_after stage) (standing_with (nap_item stage told)) ≡ full stage (asks told)
full_next Rested told = refl
full_next (Begun Sleep) told = refl
full_next (Begun Wake) told = refl
full_next (Begun Wait) told = refl
full_next Dozed told = by (told_left told) where
  by : (b : Bool) → full Rested (standing_with (if b then Some (Event Bed) else None)) ≡ b
  by true = refl
  by false = refl
full_next Roused told = by (told_left told) where
  by : (b : Bool) → full Rested (standing_with (if b then Some (Event Land) else None)) ≡ b
  by true = refl
  by false = refl

behind_next : (stage : Stage) (told : Option (Answer × ℕ)) → IsStageBehind (nap_stage_after stage) (standing_with (nap_item stage told))
behind_next Rested told = tt
behind_next (Begun Sleep) told = refl
behind_next (Begun Wake) told = refl
behind_next (Begun Wait) told = (refl, refl)
behind_next Dozed told = by (told_left told) where
  by : (b : Bool) → IsStageBehind Rested (standing_with (if b then Some (Event Bed) else None))
  by true = refl
  by false = tt
behind_next Roused told = by (told_left told) where
  by : (b : Bool) → IsStageBehind Rested (standing_with (if b then Some (Event Land) else None))
  by true = refl
  by false = tt

most_next : (stage : Stage) (told : Option (Answer × ℕ)) → nap_most (nap_stage_after stage) (standing_with (nap_item stage told)) ≤ nap_most stage (asks told)
most_next Rested told = omega arith
most_next (Begun Sleep) told = omega arith
most_next (Begun Wake) told = omega arith
most_next (Begun Wait) told = omega arith
most_next Dozed told = by (told_left told) where
  by : (b : Bool) → nap_most Rested (standing_with (if b then Some (Event Bed) else None)) ≤ 1
  by true = omega arith
  by false = omega arith
most_next Roused told = by (told_left told) where
  by : (b : Bool) → nap_most Rested (standing_with (if b then Some (Event Land) else None)) ≤ 1
  by true = omega arith
  by false = omega arith

-- what an event leaves in the hand, and how many items less there are
full_done : (e : Act) (stage : Stage) (h : Bool) (v : Spot) (now : ℕ) → IsStageBehind stage (has (Event e)) → h ≡ needs_hand e
    → (acted e h v).0 ≡ full stage (asks (Some ((acted e h v).2, now)))
full_done Doze stage h Empty now behind is = is ∙ ap (λ s. full s (asks (Some (Stayed, now)))) (sym behind)
full_done Doze stage h Awake now behind is = ap (λ s. full s (asks (Some (Left, now)))) (sym behind)
full_done Doze stage h Asleep now behind is = is ∙ ap (λ s. full s (asks (Some (Stayed, now)))) (sym behind)
full_done Bed stage h v now behind is = ap (λ s. full s (asks (Some (Came, now)))) (sym behind)
full_done Rouse stage h Empty now behind is = is ∙ ap (λ s. full s (asks (Some (Stayed, now)))) (sym behind)
full_done Rouse stage h Awake now behind is = is ∙ ap (λ s. full s (asks (Some (Stayed, now)))) (sym behind)
full_done Rouse stage h Asleep now behind is = ap (λ s. full s (asks (Some (Left, now)))) (sym behind)
full_done Land stage h v now behind is = ap (λ s. full s (asks (Some (Came, now)))) (sym behind)

most_done : (e : Act) (stage : Stage) (told : Option (Answer × ℕ)) → IsStageBehind stage (has (Event e)) → nap_most stage (asks told) + 1 ≤ nap_most stage (has (Event e))
most_done Doze stage told behind = let d : nap_most stage (asks told) ≡ 1 = ap (λ s. nap_most s (asks told)) behind in omega arith
most_done Bed stage told behind = let d : nap_most stage (asks told) ≡ 0 = ap (λ s. nap_most s (asks told)) behind in omega arith
most_done Rouse stage told behind = let d : nap_most stage (asks told) ≡ 1 = ap (λ s. nap_most s (asks told)) behind in omega arith
most_done Land stage told behind = let d : nap_most stage (asks told) ≡ 0 = ap (λ s. nap_most s (asks told)) behind in omega arith

opens : (w : ℕ) (o : Napper) → slice_get nap_means.owns w ≡ Some o → ((o.hand ≡ full o.stage rests) × Unit {0}) × (nap_most o.stage rests ≡ 0)
opens zero o e = ((ap (λ (x : Napper). x.hand) (sym (same_Some _ o e)), tt), refl)
opens (suc zero) o e = ((ap (λ (x : Napper). x.hand) (sym (same_Some _ o e)), tt), refl)
opens (suc (suc w)) o e = absurd (none-some o e)

-- what an own part keeps behind an event
performed : (stage : Stage) (h : Bool) (e : Act) (reply : Answer) (now : ℕ) (guarded : List Spot) → h ≡ needs_hand e → IsStageBehind stage (has (Event e)) → length guarded ≡ 1
    → reply ≡ (nap_act e h guarded).reply → (nap_act e h guarded).hand ≡ full stage (asks (Some (reply, now)))
performed stage h e reply now [] hand behind one_value is = absurd (omega arith)
performed stage h e reply now (v ∷ []) hand behind one_value is = full_done e stage h v now behind hand ∙ ap (λ a. full stage (asks (Some (a, now)))) (sym is)
performed stage h e reply now (v ∷ u ∷ us) hand behind one_value is = absurd (omega arith)

keeps_standing : KeepsStanding nap_means
keeps_standing = record {
  opens = opens;
  begins = λ j o c stands valid. (tt, (stands.0, tt), omega arith);
  goes_on = λ j o told stands. (tt, (stands.0 ∙ sym (full_next o.stage told), behind_next o.stage told), most_next o.stage told);
  advances = λ j o k stands. let five = stands.1.1 in let stage = stands.1.0 in
      (omega arith, omega arith, (stands.0 ∙ ap (λ s. full s (asks None)) (sym stage), tt), let d : nap_most o.stage (asks None) ≡ 0 = ap (λ s. nap_most s (asks None)) stage in omega arith);
  asks_for = λ j o e stands. stands.0;
  performs = λ j o x guarded stands who may its many reply by. ((performed o.stage o.hand x.event x.reply x.now guarded stands.0 stands.1 (many ∙ ap lock_count (held_one x.event x.locks guarded its).1) reply, tt), most_done x.event o.stage (Some (x.reply, x.now)) stands.1);
  ends = λ j o stands. empty_hand o.hand stands.0;
}

readies : ReadiesEvents nap_means
readies h y w e now hand held guarded leads at asked locks under early small = (asked, small)

-- the laws of the napping thread
pub nap_lawful : IsLawful nap_means
nap_lawful = record { small = starts_small; settled = starts_settled; moves = moves_little; hands = keeps_hands; sound = asks_soundly; standing = keeps_standing; ready = readies }

all_valid : (w : ℕ) (given cs : List Wish) → AreValid nap_means w given cs
all_valid w given [] = tt
all_valid w given (c ∷ cs) = (tt, all_valid w (c ∷ given) cs)

pub nap_orders_fit : AreOrders nap_means nap_orders
nap_orders_fit = record { few = λ w. few (w == 0); charged = λ w. charged (w == 0); valid = λ w low. all_valid w [] (nap_orders w) }
  where
    few : (b : Bool) → length (if b then Sleep ∷ Wait ∷ [] else Wake ∷ []) + 1 < 2 ^ 32
    few true = omega arith
    few false = omega arith

    charged : (b : Bool) → total_charge greatest_items (if b then Sleep ∷ Wait ∷ [] else Wake ∷ []) ≤ (if b then 3 else 2)
    charged true = omega arith
    charged false = omega arith

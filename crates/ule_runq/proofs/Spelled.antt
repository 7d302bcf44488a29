-- The lists that the tables spell, and how they are read.
use Rattle.std.proofs.Common.{reverse, ◌≡◌, ◌≢◌, ◌==◌, ℕ, zero, suc, ◌+◌, ◌-◌, ◌%◌, ◌^◌, ◌<◌, ◌≤◌, Bool, true, false, Some, None, List, [], ◌∷◌, ◌++◌, length, get_or, slice_get, slice_index, slice_set, replicate, refl, sym, ◌∙◌, ap, subst, ⊎_elim, arith, w64, drop, add-one, drop-cons, take_all, ext_get_or}
use Rattle.std.proofs.lemmas.Bool.{cases_lt, cases_eq, eq-eqb, ne_eqb}
use Rattle.std.proofs.lemmas.List.{get_or-reverse, length-reverse, get_or_default, get_or_past, drop_all, get_or-replicate, length-replicate}
use Rattle.std.proofs.lemmas.List.FromFn.{length-map-range_with_len, get_or-map-range_with_len}
use Rattle.std.proofs.lemmas.Nat.Bits.{bit_at-zero, bit_at-trailing_zeros}
use Rattle.std.specs.Option.{unwrap_or}
use Rattle.std.specs.Int.{bit_at, rotate_right, trailing_zeros}
use Rattle.std.specs.List.{insert}
use Rattle.std.specs.Prelude.{All, find}
use Rattle.std.proofs.lemmas.List.Elements.{All-from_get_or}
use Rattle.ule_runq.proofs.Chains.{small_at, round_in}
use Rattle.ule_runq.proofs.Counts.{count}
use Rattle.ule_runq.proofs.LinkLaws.{row_of, bit_of_empty, bit_of_some, SpellsLists-in, SpellsLists-out}
use Rattle.ule_runq.proofs.Rotated.{bit_at_rotated, rotated_lt}
use Rattle.ule_runq.proofs.RunqLaws.{place_in_Some, place_in-at, place_of_present, bucket_in_Some, bucket_in_place, bucket_in-none, first_from-step, first_from-none, IsRunq_empty, IsRunq-with_tail, IsRunq-with_head, list_at-empty, times_empty, length-list_at-le, count-list_at-le}
use Rattle.ule_runq.specs.Links.{ReadsAs, link_next, link_prev, round_at, IsChain, bit_of, SpellsLists, LinksIn, LinksOut, walk, lists_of}
use Rattle.ule_runq.specs.Runq.{list_at, with_tail, with_head, without, times, first_from, place_in, is_empty_at, IsRunq}
use Rattle.ule_runq.specs.declared.links.Links.{Links}

-- a walk through a table whose entries lead through a list reads the list off
walk_is : (table xs : List ℕ) → ((k : ℕ) → k < length xs → get_or xs k 256 < 256) →
    ((k : ℕ) → k < length xs → slice_index table (get_or xs k 256) ≡ get_or xs (suc k) 256) →
    (n k : ℕ) → length xs ≤ n + k → walk table n (get_or xs k 256) ≡ drop k xs
unfolding walk
walk_is table xs small leads zero k most = sym (drop_all k xs (omega arith))
walk_is table xs small leads (suc n) k most =
    ⊎_elim
    (λ (inside : k < length xs).
    let low = small k inside in
    rw (ne_eqb (get_or xs k 256) 256 (λ same. omega arith), leads k inside)
    (ap (λ ys. get_or xs k 256 ∷ ys) (walk_is table xs small leads n (suc k) (omega arith)) ∙ sym (drop-cons xs k 256 inside)))
    (λ (past : length xs ≤ k).
    rw (eq-eqb (get_or xs k 256) 256 (get_or_past xs k 256 past)) (sym (drop_all k xs past)))
    (cases_lt k (length xs))

module _ (l : Links) (q : List (List ℕ)) (spells : SpellsLists l q) where
  -- the head of a bucket
  pub head_at : (b : ℕ) → b < 64 → slice_index l.head b ≡ get_or (list_at q b) 0 256
  head_at b within = (spells.chained b within 0 (omega arith)).0

  -- the tail of a bucket
  pub tail_at : (b : ℕ) → b < 64 → slice_index l.tail b ≡ round_at (list_at q b) (length (list_at q b))
  tail_at b within =
      ap (link_prev l b) (sym (get_or_past (list_at q b) (length (list_at q b)) 256 (omega arith)))
      ∙ (spells.chained b within (length (list_at q b)) (omega arith)).1

  -- the thread behind one
  pub next_at : (b k : ℕ) → b < 64 → k < length (list_at q b) → slice_index l.next (get_or (list_at q b) k 256) ≡ get_or (list_at q b) (suc k) 256
  next_at b k within inside =
      let low = small_at (list_at q b) k (row_of q b spells.sound) inside in
      rw (ne_eqb (get_or (list_at q b) k 256) 256 (λ same. omega arith)) at (spells.chained b within (suc k) (omega arith)).0

  -- from the head by next the list is read off
  pub forward_is : (b : ℕ) → b < 64 → walk l.next 256 (slice_index l.head b) ≡ list_at q b
  forward_is b within =
      ap (walk l.next 256) (head_at b within)
      ∙ walk_is l.next (list_at q b) (λ k inside. small_at (list_at q b) k (row_of q b spells.sound) inside) (λ k inside. next_at b k within inside) 256 0
      (let most = length-list_at-le q b spells.sound in omega arith)

  -- the tables spell one choice of lists
  pub lists_of_spelled : lists_of l ≡ q
  unfolding lists_of
  lists_of_spelled =
      let n = spells.sound.buckets in
      let m = length-map-range_with_len {X = List ℕ} (λ b. walk l.next 256 (slice_index l.head b)) 0 64 in
      ext_get_or [] (lists_of l) q (omega arith) (λ b below.
      get_or-map-range_with_len (λ b. walk l.next 256 (slice_index l.head b)) 0 64 b b [] (omega arith) (omega arith)
      ∙ forward_is b (omega arith))

-- empty tables spell empty lists
pub SpellsLists-empty : (l : Links) → l.status ≡ 0 → l.head ≡ replicate 64 256 → l.tail ≡ replicate 64 256 → l.next ≡ replicate 256 256 →
    l.prev ≡ replicate 256 256 →
    l.bucket ≡ replicate 256 256 → SpellsLists l (replicate 64 [])
SpellsLists-empty l status head tail next prev bucket = record {
  sound = IsRunq_empty;
  sized = record {
    head = ap length head ∙ length-replicate {A = ℕ} 64 256;
    tail = ap length tail ∙ length-replicate {A = ℕ} 64 256;
    next = ap length next ∙ length-replicate {A = ℕ} 256 256;
    prev = ap length prev ∙ length-replicate {A = ℕ} 256 256;
    bucket = ap length bucket ∙ length-replicate {A = ℕ} 256 256;
  };
  chained = λ b within. subst (IsChain (link_next l b) (link_prev l b)) (sym (list_at-empty 64 b)) (chain b within);
  status = λ b within. ap (λ s. bit_at s b) status ∙ bit_at-zero b ∙ sym (ap bit_of (list_at-empty 64 b));
  filed = λ b t within stands. absurd (let part = count-list_at-le (replicate 64 []) b t in let none = times_empty 64 t in omega arith);
  free = λ t small none. ap (λ x. slice_index x t) bucket ∙ get_or-replicate 256 t 256 0 small;
}
  where
    chain : (b : ℕ) → b < 64 → IsChain (link_next l b) (link_prev l b) []
    chain b within zero most =
        (ap (λ x. slice_index x b) head ∙ get_or-replicate 64 b 256 0 within, ap (λ x. slice_index x b) tail ∙ get_or-replicate 64 b 256 0 within)
    chain b within (suc k) most = absurd (omega arith)

-- ---- the status word, turned

-- the list of a bit that is 0 has no thread
bit_none : (xs : List ℕ) → bit_of xs ≡ 0 → xs ≡ []
bit_none [] is = refl
bit_none (x ∷ xs) is = absurd (let one = bit_of_some (x ∷ xs) (omega arith) in omega arith)

-- the list of a bit that is 1 has threads
bit_some : (xs : List ℕ) → bit_of xs ≡ 1 → 0 < length xs
bit_some [] is = absurd (let none = bit_of_empty [] refl in omega arith)
bit_some (x ∷ xs) is = omega arith

-- the lowest bit of the turned word is that of the nearest list that isn't empty
pub record IsNearestStep (q : List (List ℕ)) (b z : ℕ) : Type 0 where
  pub within : z ≤ 64
  pub before : (j : ℕ) → j < z → list_at q ((b + j) % 64) ≡ []
  pub behind : z < 64 → 0 < length (list_at q ((b + z) % 64))

-- it is the nearest step
pub nearest_step : (l : Links) (q : List (List ℕ)) (b : ℕ) → SpellsLists l q → l.status < 2 ^ 64 → b < 64 →
    IsNearestStep q b (trailing_zeros w64 (rotate_right w64 l.status b))
unfolding lib.Count.count_trailing_zeros
nearest_step l q b spells fits from =
    ⊎_elim
    (λ (none : rotate_right w64 l.status b ≡ 0).
    let all : trailing_zeros w64 0 ≡ 64 = refl in
    rw none rw all (record {
      within = omega arith;
      before = λ j below. bit_none (list_at q ((b + j) % 64))
          (sym (spells.status ((b + j) % 64) (omega arith)) ∙ sym (bit_at_rotated l.status b j fits from below) ∙ ap (λ x. bit_at x j) none ∙ bit_at-zero j);
      behind = λ low. absurd (omega arith);
    }))
    (λ (some : rotate_right w64 l.status b ≡ 0 → ⊥).
    let lowest = bit_at-trailing_zeros w64 (rotate_right w64 l.status b) (omega arith) (rotated_lt l.status b fits) in
    record {
      within = let z = lowest.0 in omega arith;
      before = λ j below. bit_none (list_at q ((b + j) % 64))
          (sym (spells.status ((b + j) % 64) (omega arith)) ∙ sym (bit_at_rotated l.status b j fits from (let z = lowest.0 in omega arith)) ∙ lowest.2 j below);
      behind = λ low. bit_some (list_at q ((b + trailing_zeros w64 (rotate_right w64 l.status b)) % 64))
          (sym (spells.status _ (omega arith)) ∙ sym (bit_at_rotated l.status b _ fits from lowest.0) ∙ lowest.1);
    })
    (cases_eq (rotate_right w64 l.status b) 0)

-- ---- the calls that change the queue

-- a queue that holds the tables m holds what spells them
pub spelled_at : (l m : Links) (q : List (List ℕ)) → SpellsLists m (lists_of m) → lists_of m ≡ q → l ≡ m → SpellsLists l q
spelled_at l m q spells view same = rw same (subst (SpellsLists m) view spells)

-- tables that spell some lists spell those that are read off them
pub spelled_whole : (l : Links) (q : List (List ℕ)) → SpellsLists l q → SpellsLists l (lists_of l)
spelled_whole l q spells = subst (SpellsLists l) (sym (lists_of_spelled l q spells)) spells

-- a thread that stands nowhere is at no place of a round
absent_place : (q : List (List ℕ)) (b t : ℕ) → IsRunq q → t < 256 → times q t ≡ 0 → (j : ℕ) → round_at (list_at q b) j ≢ t
absent_place q b t sound small absent =
    round_in (λ u. u ≢ t) (list_at q b) (λ same. omega arith)
    (λ u some same.
    let part = count-list_at-le q b t in
    let none : count u (list_at q b) ≡ count t (list_at q b) = ap (λ x. count x (list_at q b)) same in omega arith)

-- each place of a round is a thread number or 256
pub round_small : (q : List (List ℕ)) (b : ℕ) → IsRunq q → (j : ℕ) → round_at (list_at q b) j ≤ 256
round_small q b sound = round_in (λ u. u ≤ 256) (list_at q b) (omega arith) (λ u some. let low = (row_of q b sound).small u some in omega arith)

module _ (l : Links) (q : List (List ℕ)) (b t p i : ℕ) (spells : SpellsLists l q) (within : b < 64) (small : i < 256) (absent : times q t ≡ 0) (it : i ≡ t) where
  -- the tail and the head of a bucket aren't a thread that stands nowhere
  pub tail_free : p ≡ slice_index l.tail b → (p ≤ 256) × (p ≢ i)
  tail_free is = (
    rw (is, tail_at l q spells b within) (round_small q b spells.sound (length (list_at q b))),
    λ same. absent_place q b t spells.sound (omega arith) absent (length (list_at q b)) (sym (tail_at l q spells b within) ∙ sym is ∙ same ∙ it),
  )

  -- and so is the head
  pub head_free : p ≡ slice_index l.head b → (p ≤ 256) × (p ≢ i)
  head_free is = (
    rw (is, head_at l q spells b within) (round_small q b spells.sound 1),
    λ same. absent_place q b t spells.sound (omega arith) absent 1 (sym (head_at l q spells b within) ∙ sym is ∙ same ∙ it),
  )

  -- a thread that is linked in behind the tail, or before the head, stands there
  pub tail_linked : (new : Links) → p ≡ slice_index l.tail b → LinksIn l new b p i 256 → SpellsLists new (with_tail q b t)
  tail_linked new is put =
      let xs : List ℕ = list_at q b in
      let end : round_at xs (suc (length xs)) ≡ 256 = get_or_past xs (length xs) 256 (omega arith) in
      let whole : insert xs (length xs) t ≡ xs ++ t ∷ [] = rw (take_all (length xs) xs (omega arith), drop_all (length xs) xs (omega arith)) refl in
      let here : LinksIn l new b (round_at xs (length xs)) t (round_at xs (suc (length xs))) = rw end rw (← tail_at l q spells b within, ← is, ← it) put in
      subst (λ ys. SpellsLists new (slice_set q b ys)) whole
      (SpellsLists-in l new q b t (length xs) spells within (omega arith) absent (omega arith) (rw whole (IsRunq-with_tail q b t spells.sound within (omega arith) absent)) here)

  -- and so before the head
  pub head_linked : (new : Links) → p ≡ slice_index l.head b → LinksIn l new b 256 i p → SpellsLists new (with_head q b t)
  head_linked new is put =
      let here : LinksIn l new b 256 t (round_at (list_at q b) 1) = rw (← head_at l q spells b within, ← is, ← it) put in
      SpellsLists-in l new q b t 0 spells within (omega arith) absent (omega arith) (IsRunq-with_head q b t spells.sound within (omega arith) absent) here

-- ---- the place of a thread

-- a thread with a bucket stands there
pub record IsPlaced (l : Links) (q : List (List ℕ)) (t b k : ℕ) : Type 0 where
  pub place : place_in q t ≡ Some (b, k)
  pub bucket : b < 64
  pub inside : k < length (list_at q b)
  pub small : k < 256
  pub here : get_or (list_at q b) k 256 ≡ t
  pub prev : link_prev l b t ≡ round_at (list_at q b) k
  pub next : link_next l b t ≡ round_at (list_at q b) (suc (suc k))

module _ (l : Links) (q : List (List ℕ)) (t : ℕ) (spells : SpellsLists l q) where
  -- a thread that stands somewhere stands in its noted bucket
  pub thread_placed : 0 < times q t → (k : ℕ) × IsPlaced l q t (slice_index l.bucket t) k
  thread_placed some = step (place_of_present q t some)
    where
      step : (b : ℕ) × ((k : ℕ) × (place_in q t ≡ Some (b, k))) → (k : ℕ) × IsPlaced l q t (slice_index l.bucket t) k
      step found =
          let b : ℕ = found.0 in
          let k : ℕ = found.1.0 in
          let all = spells.sound.buckets in
          let at = place_in_Some q t b k found.1.1 in
          let within : b < 64 = (let a = at.0 in omega arith) in
          let stands = bucket_in_Some q t b (bucket_in_place q t b k found.1.1) in
          let is : slice_index l.bucket t ≡ b = spells.filed b t within stands.1 in
          let inside : k < length (list_at q b) = at.1 in
          let here : get_or (list_at q b) k 256 ≡ t = get_or_default (list_at q b) k 256 0 inside ∙ at.2 in
          let most = length-list_at-le q b spells.sound in (
            k,
            subst (λ x. IsPlaced l q t x k) (sym is) (record {
              place = found.1.1;
              bucket = within;
              inside = inside;
              small = omega arith;
              here = here;
              prev = ap (link_prev l b) (sym here) ∙ (spells.chained b within k (omega arith)).1;
              next = ap (link_next l b) (sym here) ∙ (spells.chained b within (suc k) (omega arith)).0;
            }),
          )

  -- the bucket 256 is that of a thread that stands nowhere
  pub absent_from_bucket : slice_index l.bucket t ≡ 256 → times q t ≡ 0
  absent_from_bucket none =
      ⊎_elim
      (λ (zero : times q t ≡ 0). zero)
      (λ (some : times q t ≡ 0 → ⊥). absurd (let p = thread_placed (omega arith) in let low = p.1.bucket in omega arith))
      (cases_eq (times q t) 0)

  -- and another is the bucket where it stands
  pub placed_from_bucket : t < 256 → slice_index l.bucket t ≢ 256 → (k : ℕ) × IsPlaced l q t (slice_index l.bucket t) k
  placed_from_bucket small some =
      ⊎_elim
      (λ (zero : times q t ≡ 0). absurd (some (spells.free t small zero)))
      (λ (some : times q t ≡ 0 → ⊥). thread_placed (omega arith))
      (cases_eq (times q t) 0)

  -- the same of one that stands once
  pub placed_once : times q t ≡ 1 → (k : ℕ) × IsPlaced l q t (slice_index l.bucket t) k
  placed_once one = thread_placed (omega arith)

-- ---- the tables from outside

module _ (l : Links) (q : List (List ℕ)) (spells : SpellsLists l q) (b : ℕ) (within : b < 64) where
  -- the places of the list backwards
  back : (k : ℕ) → k < length (list_at q b) → get_or (reverse (list_at q b)) k 256 ≡ get_or (list_at q b) (length (list_at q b) - 1 - k) 256
  back k inside = get_or-reverse (list_at q b) k 256 inside

  -- each is a thread number
  back_small : (k : ℕ) → k < length (reverse (list_at q b)) → get_or (reverse (list_at q b)) k 256 < 256
  back_small k inside =
      let same = length-reverse (list_at q b) in
      rw (back k (omega arith)) (small_at (list_at q b) (length (list_at q b) - 1 - k) (row_of q b spells.sound) (omega arith))

  -- the thread before one
  pub prev_at : (j : ℕ) → j < length (list_at q b) → slice_index l.prev (get_or (list_at q b) j 256) ≡ round_at (list_at q b) j
  prev_at j inside =
      let low = small_at (list_at q b) j (row_of q b spells.sound) inside in
      rw (ne_eqb (get_or (list_at q b) j 256) 256 (λ same. omega arith)) at (spells.chained b within j (omega arith)).1

  -- the next place of the list backwards is the place before
  round_back : (k j : ℕ) → k < length (list_at q b) → j ≡ length (list_at q b) - 1 - k → round_at (list_at q b) j ≡ get_or (reverse (list_at q b)) (suc k) 256
  round_back k zero inside is = sym (get_or_past (reverse (list_at q b)) (suc k) 256 (let same = length-reverse (list_at q b) in omega arith))
  round_back k (suc j) inside is = ap (λ m. get_or (list_at q b) m 256) (omega arith) ∙ sym (back (suc k) (omega arith))

  -- each place of the list backwards leads to the next one by prev
  back_leads : (k : ℕ) → k < length (reverse (list_at q b)) → slice_index l.prev (get_or (reverse (list_at q b)) k 256) ≡ get_or (reverse (list_at q b)) (suc k) 256
  back_leads k inside =
      let same = length-reverse (list_at q b) in
      ap (slice_index l.prev) (back k (omega arith))
      ∙ prev_at (length (list_at q b) - 1 - k) (omega arith) ∙ round_back k (length (list_at q b) - 1 - k) (omega arith) refl

  -- the first of them is the tail
  back_first : (n : ℕ) → length (list_at q b) ≡ n → round_at (list_at q b) n ≡ get_or (reverse (list_at q b)) 0 256
  back_first zero is = sym (get_or_past (reverse (list_at q b)) 0 256 (let same = length-reverse (list_at q b) in omega arith))
  back_first (suc n) is = ap (λ m. get_or (list_at q b) m 256) (omega arith) ∙ sym (back 0 (omega arith))

  -- from the tail by prev the list is read off backwards
  backward_is : walk l.prev 256 (slice_index l.tail b) ≡ reverse (list_at q b)
  backward_is =
      ap (walk l.prev 256) (tail_at l q spells b within ∙ back_first (length (list_at q b)) refl)
      ∙ walk_is l.prev (reverse (list_at q b)) back_small back_leads 256 0 (let most = length-list_at-le q b spells.sound in let same = length-reverse (list_at q b) in omega arith)

-- tables that spell some lists read as them
pub ReadsAs_spelled : (l : Links) (q : List (List ℕ)) → SpellsLists l q → ReadsAs l q
ReadsAs_spelled l q spells = record {
  forward = forward_is l q spells;
  backward = backward_is l q spells;
  status = spells.status;
  bucket = λ t small. ⊎_elim
      (λ (zero : times q t ≡ 0). spells.free t small zero ∙ sym (ap (λ o. unwrap_or o 256) (bucket_in-none q t zero)))
      (λ (some : times q t ≡ 0 → ⊥).
      let p = thread_placed l q t spells (omega arith) in
      sym (ap (λ o. unwrap_or o 256) (bucket_in_place q t (slice_index l.bucket t) p.0 p.1.place)))
      (cases_eq (times q t) 0);
}

-- ---- reading

-- the thread that the walk from the head of a bucket meets
pub small_entry : (q : List (List ℕ)) (b i : ℕ) → IsRunq q → i < length (list_at q b) → get_or (list_at q b) i 256 < 256
small_entry q b i sound inside = small_at (list_at q b) i (row_of q b sound) inside

-- a thread that is met at place i has that place
pub place_met : (q : List (List ℕ)) (t b i : ℕ) → IsRunq q → b < 64 → i < length (list_at q b) → get_or (list_at q b) i 256 ≡ t → place_in q t ≡ Some (b, i)
place_met q t b i sound within inside met =
    let n = sound.buckets in
    place_in-at q t b i (sound.once t) (omega arith) inside (get_or_default (list_at q b) i 0 256 inside ∙ met)

-- the first thread of a list with threads
head_some : (xs : List ℕ) (h : ℕ) → 0 < length xs → h ≡ get_or xs 0 256 → slice_get xs 0 ≡ Some h
head_some [] h some is = absurd (omega arith)
head_some (x ∷ xs) h some is = ap Some (sym is)

-- the first thread, read at the nearest list that isn't empty
pub first_read : (l : Links) (q : List (List ℕ)) (b z i : ℕ) → SpellsLists l q → b < 64 → z < 64 → ((j : ℕ) → j < z → list_at q ((b + j) % 64) ≡ []) →
    0 < length (list_at q ((b + z) % 64)) → i ≡ (b + z) % 64 →
    first_from q b ≡ Some ((b + z) % 64, slice_index l.head i)
first_read l q b z i spells from step before some same =
    first_from-step q b z (slice_index l.head i) spells.sound.buckets from step before
    (head_some (list_at q ((b + z) % 64)) (slice_index l.head i) some (ap (slice_index l.head) same ∙ head_at l q spells ((b + z) % 64) (omega arith)))

-- the head of a list that isn't empty is a thread
pub head_small : (l : Links) (q : List (List ℕ)) (b i : ℕ) → SpellsLists l q → b < 64 → i ≡ b → 0 < length (list_at q b) → slice_index l.head i < 256
head_small l q b i spells within same some = rw (same, head_at l q spells b within) (small_entry q b 0 spells.sound some)

-- every list is empty where no step meets one that isn't
pub all_lists_empty : (q : List (List ℕ)) (b : ℕ) → IsRunq q → b < 64 → ((j : ℕ) → j < 64 → list_at q ((b + j) % 64) ≡ []) → All (λ xs. xs ≡ []) q
all_lists_empty q b sound from before =
    let n = sound.buckets in
    All-from_get_or (λ xs. xs ≡ []) q [] (λ a below.
    let back : (b + (a + 64 - b) % 64) % 64 ≡ a = omega arith in
    ap (list_at q) (sym back) ∙ before ((a + 64 - b) % 64) (omega arith))

-- of an empty queue no thread is the first
pub first_from_empty : (q : List (List ℕ)) (b : ℕ) → IsRunq q → b < 64 → All (λ xs. xs ≡ []) q → first_from q b ≡ None
first_from_empty q b sound from empty =
    let n = sound.buckets in
    first_from-none q b sound.buckets from (λ a below. empty a [] (omega arith))

-- the head tells whether a bucket is empty
pub empty_read : (l : Links) (q : List (List ℕ)) (b i : ℕ) → SpellsLists l q → b < 64 → i ≡ b → (slice_index l.head i == 256) ≡ is_empty_at q b
empty_read l q b i spells within same =
    rw (same, head_at l q spells b within)
    (⊎_elim
    (λ (none : length (list_at q b) ≡ 0). eq-eqb (get_or (list_at q b) 0 256) 256 (get_or_past (list_at q b) 0 256 (omega arith)) ∙ sym (eq-eqb (length (list_at q b)) 0 none))
    (λ (some : length (list_at q b) ≡ 0 → ⊥).
    let low = small_entry q b 0 spells.sound (omega arith) in
    ne_eqb (get_or (list_at q b) 0 256) 256 (λ is. omega arith) ∙ sym (ne_eqb (length (list_at q b)) 0 some))
    (cases_eq (length (list_at q b)) 0))

-- one more thread of a search, which the test refuses
pub find_more : (test : ℕ → Bool) (xs : List ℕ) (i : ℕ) → i < length xs → test (get_or xs i 256) ≡ false → find test xs ≡ find test (drop i xs) →
    find test xs ≡ find test (drop (suc i) xs)
find_more test xs i inside refused so = so ∙ ap (find test) (drop-cons xs i 256 inside) ∙ rw refused refl

-- the thread that the test accepts
pub find_at_place : (test : ℕ → Bool) (xs : List ℕ) (i : ℕ) → i < length xs → test (get_or xs i 256) ≡ true → find test xs ≡ find test (drop i xs) →
    find test xs ≡ Some (get_or xs i 256)
find_at_place test xs i inside accepted so = so ∙ ap (find test) (drop-cons xs i 256 inside) ∙ rw accepted refl

-- no thread is left
pub find_end : (test : ℕ → Bool) (xs : List ℕ) (i : ℕ) → length xs ≤ i → find test xs ≡ find test (drop i xs) → find test xs ≡ None
find_end test xs i past so = so ∙ ap (find test) (drop_all i xs past)

-- a place whose entry is 256 is the end
pub end_at : (q : List (List ℕ)) (b i : ℕ) → IsRunq q → get_or (list_at q b) i 256 ≡ 256 → length (list_at q b) ≤ i
end_at q b i sound none =
    ⊎_elim
    (λ (inside : i < length (list_at q b)). absurd (let low = small_entry q b i sound inside in omega arith))
    (λ (past : length (list_at q b) ≤ i). past)
    (cases_lt i (length (list_at q b)))

-- a place whose entry isn't 256 has a thread
pub place_within : (q : List (List ℕ)) (b i : ℕ) → get_or (list_at q b) i 256 ≢ 256 → i < length (list_at q b)
place_within q b i some =
    ⊎_elim
    (λ (inside : i < length (list_at q b)). inside)
    (λ (past : length (list_at q b) ≤ i). absurd (some (get_or_past (list_at q b) i 256 past)))
    (cases_lt i (length (list_at q b)))

-- what stands at the place of a thread
pub place_spot : (q : List (List ℕ)) (t b k : ℕ) → place_in q t ≡ Some (b, k) → (k < length (list_at q b)) × (get_or (list_at q b) k 256 ≡ t)
place_spot q t b k found =
    let at = place_in_Some q t b k found in
    (at.1, get_or_default (list_at q b) k 256 0 at.1 ∙ at.2)

-- where a thread stands, by the bucket that the code reads at i
pub placed_read : (l : Links) (q : List (List ℕ)) (t i u : ℕ) → SpellsLists l q → i ≡ u → u ≡ t → u < 256 → slice_index l.bucket i ≢ 256 →
    (k : ℕ) × IsPlaced l q t (slice_index l.bucket i) k
placed_read l q t i u spells iu ut small some =
    rw (iu, ut) (placed_from_bucket l q t spells (omega arith) (λ none. some (rw (iu, ut) none)))

-- where a thread stands that the queue has
pub placed_present : (l : Links) (q : List (List ℕ)) (t i u : ℕ) → SpellsLists l q → i ≡ u → u ≡ t → times q t ≡ 1 →
    (k : ℕ) × IsPlaced l q t (slice_index l.bucket i) k
placed_present l q t i u spells iu ut one = rw (iu, ut) (placed_once l q t spells one)

-- the places around a thread are threads or 256
pub around_small : (l : Links) (q : List (List ℕ)) (t b k u : ℕ) → IsRunq q → u ≡ t → IsPlaced l q t b k → (link_prev l b u ≤ 256) × (link_next l b u ≤ 256)
around_small l q t b k u sound ut place = rw ut (rw place.prev (round_small q b sound k), rw place.next (round_small q b sound (suc (suc k))))

-- tables from which a thread was linked out spell the lists without it
pub taken_out : (l new : Links) (q : List (List ℕ)) (t b k u : ℕ) → SpellsLists l q → u ≡ t → IsPlaced l q t b k → LinksOut l new b u → SpellsLists new (without t q)
taken_out l new q t b k u spells ut place out = SpellsLists-out l new q b t k spells place.bucket place.place (rw (← ut) out)

-- ---- the search for a thread's position

-- the walk has not passed the place of thread t, and has come to place n of bucket b
abbrev pub Walked : List (List ℕ) → ℕ → ℕ → ℕ → ℕ → Type 0
Walked q t b n at = (k : ℕ) → place_in q t ≡ Some (b, k) → (n ≤ k) × (at ≡ get_or (list_at q b) n 256)

-- where the walk meets the thread, that is its position
pub met : (l : Links) (q : List (List ℕ)) (t b n at i u : ℕ) → (k : ℕ) × IsPlaced l q t b k → IsRunq q → Walked q t b n at → at ≡ i → i ≡ u → u ≡ t →
    place_in q t ≡ Some (b, n)
met l q t b n at i u place sound walked is iu ut =
    let now = walked place.0 place.1.place in
    let inside = place.1.inside in
    let near = now.0 in
    place_met q t b n sound place.1.bucket (omega arith) (sym now.1 ∙ is ∙ iu ∙ ut)

-- what the walk has come to is a thread number
pub step_small : (l : Links) (q : List (List ℕ)) (t b n at i : ℕ) → (k : ℕ) × IsPlaced l q t b k → IsRunq q → Walked q t b n at → i ≡ at → i < 256
step_small l q t b n at i place sound walked is =
    let now = walked place.0 place.1.place in
    let inside = place.1.inside in
    let near = now.0 in
    let low = small_entry q b n sound (omega arith) in
    let same = now.1 in
    omega arith

-- the walk meets the thread within 256 steps
pub nowhere : (l : Links) (q : List (List ℕ)) (t b n at : ℕ) → (k : ℕ) × IsPlaced l q t b k → Walked q t b n at → 256 ≤ n → ⊥
nowhere l q t b n at place walked past =
    let now = walked place.0 place.1.place in
    let low = place.1.small in
    let near = now.0 in
    omega arith

-- one more step of the walk
pub walked_on : (l : Links) (q : List (List ℕ)) (t b n at i j u : ℕ) → (k : ℕ) × IsPlaced l q t b k → SpellsLists l q → Walked q t b n at → j ≡ at →
    (at ≡ i → ⊥) → i ≡ u → u ≡ t → Walked q t b (n + 1) (slice_index l.next j)
walked_on l q t b n at i j u place spells walked ja other iu ut k found =
    let now = walked k found in
    let near = now.0 in
    let spot = place_spot q t b k found in
    let last = spot.0 in
    let inside : n < length (list_at q b) = omega arith in
    ⊎_elim
    (λ (same : n ≡ k). absurd (other (now.1 ∙ ap (λ m. get_or (list_at q b) m 256) same ∙ spot.1 ∙ sym ut ∙ sym iu)))
    (λ (apart : n ≡ k → ⊥). (
      omega arith,
      ap (slice_index l.next) (ja ∙ now.1) ∙ next_at l q spells b n place.1.bucket inside ∙ ap (λ m. get_or (list_at q b) m 256) (sym (add-one n)),
    ))
    (cases_eq n k)

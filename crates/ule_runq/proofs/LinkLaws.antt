-- Links that are mended, and the lists that the tables then spell.
use Rattle.std.proofs.Common.{◌≡◌, ◌≢◌, ◌==◌, ℕ, suc, ◌+◌, ◌*◌, ◌%◌, ◌^◌, ◌<◌, ◌≤◌, not, if◌then◌else◌, Some, List, [], ◌∷◌, length, cond, filter, get_or, slice_index, slice_set, refl, sym, ◌∙◌, ap, subst, ⊎_elim, arith, w64, take, drop, length-set, get_or-set_same, get_or-set_other}
use Rattle.std.proofs.lemmas.Bool.{cases_eq, eq-eqb, ne_eqb}
use Rattle.std.proofs.lemmas.List.{get_or_default, get_or_past}
use Rattle.std.proofs.lemmas.List.Edits.{length-insert}
use Rattle.std.proofs.lemmas.Nat.Bits.{bit_at_set_same, bit_at_set_other, bit_at_clear_same, bit_at_clear_other}
use Rattle.std.specs.Int.{bit_at, bit_not}
use Rattle.std.specs.Prelude.{bit_and, bit_or}
use Rattle.std.specs.List.{insert, remove}
use Rattle.std.proofs.lemmas.List.Sums.{sum_by-take-drop}
use Rattle.ule_runq.proofs.Chains.{IsRow, small_at, round_in, chain_kept, chain_removed, chain_inserted}
use Rattle.ule_runq.proofs.Counts.{count, once, once_same, once_other, count-cons, count-append, count-filter_same, count-filter_other}
use Rattle.ule_runq.proofs.RunqLaws.{list_at-without, count-list_at-le, count_apart-le, place_in_Some, removed_at_place, IsRunq-without, times-without_other, times-slice_set}
use Rattle.ule_runq.specs.Links.{link_next, link_prev, round_at, IsChain, bit_of, IsSized, SpellsLists, JoinsLinks, LinksIn, LinksOut}
use Rattle.ule_runq.specs.Runq.{list_at, without, times, place_in, IsRunq}
use Rattle.ule_runq.specs.declared.links.Links.{Links}

-- ---- what the writes make of the tables

-- the tables with another status word, and another bucket for one thread
abbrev pub rewritten : Links → ℕ → ℕ → ℕ → Links
rewritten l s t b = record { status = s; head = l.head; tail = l.tail; next = l.next; prev = l.prev; bucket = slice_set l.bucket t b }

-- they have their lengths
sized_bucket : (l : Links) (t b s : ℕ) → IsSized l → IsSized (rewritten l s t b)
sized_bucket l t b s sized = record { head = sized.head; tail = sized.tail; next = sized.next; prev = sized.prev; bucket = length-set l.bucket t b ∙ sized.bucket }

-- two joins link a thread in
pub linked_in : (old mid end : Links) (b p t n i j m : ℕ) → b < 64 → p ≢ t → n ≢ t → m ≡ t → i ≡ t → j ≡ b → JoinsLinks old mid b p m → JoinsLinks mid end b m n →
    LinksIn old (rewritten end (bit_or end.status (1 * 2 ^ b % 2 ^ 64)) i j) b p t n
linked_in old mid end b p t n i j m within before behind mt it jb first' second' =
    let first : JoinsLinks old mid b p t = subst (λ x. JoinsLinks old mid b p x) mt first' in
    let second : JoinsLinks mid end b t n = subst (λ x. JoinsLinks mid end b x n) mt second' in
    rw (it, jb) record {
      into = second.nexts b p before ∙ first.next;
      out = second.next;
      nexts = λ c u notp nott. second.nexts c u nott ∙ first.nexts c u notp;
      heads = λ c apart. second.heads c apart ∙ first.heads c apart;
      back_out = second.prev;
      back_into = second.prevs b t (λ same. behind (sym same)) ∙ first.prev;
      prevs = λ c u notn nott. second.prevs c u notn ∙ first.prevs c u nott;
      tails = λ c apart. second.tails c apart ∙ first.tails c apart;
      bucket = ap (λ x. slice_set x t b) (second.bucket ∙ first.bucket);
      bit = bit_at_set_same w64 end.status b within;
      bits = λ c small apart. bit_at_set_other w64 end.status b within c apart ∙ ap (λ x. bit_at x c) (second.status ∙ first.status);
      sized = sized_bucket end t b _ second.sized;
    }

module _ (old end : Links) (b t p n i j : ℕ) (within : b < 64) (small : t < 256) (pis : p ≡ slice_index old.prev t) (nis : n ≡ slice_index old.next t)
    (it : i ≡ t) (jb : j ≡ b) (join : JoinsLinks old end b p n) where
  -- what the code reads are the neighbours
  p_of : p ≡ link_prev old b t
  p_of = rw (ne_eqb t 256 (λ same. omega arith)) pis

  -- the same of the thread behind
  n_of : n ≡ link_next old b t
  n_of = rw (ne_eqb t 256 (λ same. omega arith)) nis

  -- a join of the neighbours takes a thread out, with the status word that the code writes
  linked_out_with : (s : ℕ) → bit_at s b ≡ (if slice_index end.head b == 256 then 0 else bit_at end.status b) →
      ((c : ℕ) → c < 64 → c ≢ b → bit_at s c ≡ bit_at end.status c) →
      LinksOut old (rewritten end s i 256) b t
  linked_out_with s here others =
      rw it record {
        next = subst (λ x. link_next end b x ≡ link_next old b t) p_of (join.next ∙ n_of);
        nexts = λ c u apart. join.nexts c u (λ same. apart (same ∙ p_of));
        heads = join.heads;
        prev = subst (λ x. link_prev end b x ≡ link_prev old b t) n_of (join.prev ∙ p_of);
        prevs = λ c u apart. join.prevs c u (λ same. apart (same ∙ n_of));
        tails = join.tails;
        bucket = ap (λ x. slice_set x t 256) join.bucket;
        bit = here ∙ ap (λ x. if slice_index end.head b == 256 then 0 else bit_at x b) join.status;
        bits = λ c low apart. others c low apart ∙ ap (λ x. bit_at x c) join.status;
        sized = sized_bucket end t 256 s join.sized;
      }

  -- where the bucket is empty then
  pub linked_out_last : slice_index end.head j ≡ 256 → LinksOut old (rewritten end (bit_and end.status (bit_not w64 (1 * 2 ^ b % 2 ^ 64))) i 256) b t
  linked_out_last last =
      linked_out_with (bit_and end.status (bit_not w64 (1 * 2 ^ b % 2 ^ 64)))
      (rw (eq-eqb (slice_index end.head b) 256 (ap (slice_index end.head) (sym jb) ∙ last)) (bit_at_clear_same w64 end.status b within))
      (λ c low apart. bit_at_clear_other w64 end.status b within c low apart)

  -- and where it isn't
  pub linked_out_more : (slice_index end.head j ≡ 256 → ⊥) → LinksOut old (rewritten end end.status i 256) b t
  linked_out_more more =
      linked_out_with end.status (rw (ne_eqb (slice_index end.head b) 256 (λ same. more (ap (slice_index end.head) jb ∙ same))) refl) (λ c low apart. refl)

-- ---- the lists that the tables spell

-- the list of a bucket
pub row_of : (q : List (List ℕ)) (b : ℕ) → IsRunq q → IsRow (list_at q b)
row_of q b sound = record {
  once = λ u. let part = count-list_at-le q b u in let few = sound.once u in omega arith;
  small = λ u some. sound.numbers u (let part = count-list_at-le q b u in omega arith);
}

-- a thread of another bucket stands at no place of this one's round
other_round : (q : List (List ℕ)) (b c u : ℕ) → IsRunq q → b < 64 → c ≢ b → 0 < count u (list_at q c) → (j : ℕ) → u ≢ round_at (list_at q b) j
other_round q b c u sound within apart stands =
    let n = sound.buckets in
    let low : u < 256 = (row_of q c sound).small u stands in
    round_in (λ v. u ≢ v) (list_at q b) (λ same. omega arith)
    (λ v here same.
    let both = count_apart-le q b c u (omega arith) apart in
    let few = sound.once u in
    let also : 0 < count u (list_at q b) = subst (λ x. 0 < count x (list_at q b)) (sym same) here in
    omega arith)

-- the bit of a list without threads
pub bit_of_empty : (xs : List ℕ) → length xs ≡ 0 → bit_of xs ≡ 0
bit_of_empty xs none = rw (eq-eqb (length xs) 0 none) refl

-- the bit of a list with threads
pub bit_of_some : (xs : List ℕ) → 0 < length xs → bit_of xs ≡ 1
bit_of_some xs some = rw (ne_eqb (length xs) 0 (λ none. omega arith)) refl

-- a fact about bucket c, by whether it is bucket b
by_bucket : (P : ℕ → Type 0) (b c : ℕ) → P b → (c ≢ b → P c) → P c
by_bucket P b c here there = ⊎_elim (λ (same : c ≡ b). subst P (sym same) here) there (cases_eq c b)

-- ---- a thread is taken out

module _ (l new : Links) (q : List (List ℕ)) (b t k : ℕ) (spells : SpellsLists l q) (within : b < 64) (found : place_in q t ≡ Some (b, k)) (out : LinksOut l new b t) where
  -- where the thread stands
  place : (b < length q) × (k < length (list_at q b)) × (get_or (list_at q b) k 0 ≡ t)
  place = place_in_Some q t b k found

  -- it is the next place of the round
  here : round_at (list_at q b) (suc k) ≡ t
  here = get_or_default (list_at q b) k 256 0 place.1 ∙ place.2

  -- its bucket's list without it
  left : list_at (without t q) b ≡ remove (list_at q b) k
  left =
      ap (λ x. list_at x b) (sym (removed_at_place q t b k (spells.sound.once t) found))
      ∙ get_or-set_same q b (remove (list_at q b) k) [] place.0

  -- every other bucket's list stays
  left_other : (c : ℕ) → c ≢ b → list_at (without t q) c ≡ list_at q c
  left_other c apart =
      ap (λ x. list_at x c) (sym (removed_at_place q t b k (spells.sound.once t) found))
      ∙ get_or-set_other q b c (remove (list_at q b) k) [] apart

  -- the place before it
  p_is : link_prev l b t ≡ round_at (list_at q b) k
  p_is = ap (link_prev l b) (sym here) ∙ (spells.chained b within k (let inside = place.1 in omega arith)).1

  -- the place behind it
  n_is : link_next l b t ≡ round_at (list_at q b) (suc (suc k))
  n_is = ap (link_next l b) (sym here) ∙ (spells.chained b within (suc k) (let inside = place.1 in omega arith)).0

  -- its bucket is a chain without it
  chain_here : IsChain (link_next new b) (link_prev new b) (list_at (without t q) b)
  chain_here =
      rw left
      (chain_removed (list_at q b) k place.1 (link_next l b) (link_prev l b) (link_next new b) (link_prev new b) (row_of q b spells.sound) (spells.chained b within)
      (ap (link_next new b) (sym p_is) ∙ out.next ∙ n_is)
      (λ u apart. out.nexts b u (λ same. apart (same ∙ p_is)))
      (ap (link_prev new b) (sym n_is) ∙ out.prev ∙ p_is)
      (λ u apart. out.prevs b u (λ same. apart (same ∙ n_is))))

  -- every other bucket stays a chain
  chain_there : (c : ℕ) → c < 64 → c ≢ b → IsChain (link_next new c) (link_prev new c) (list_at (without t q) c)
  chain_there c low apart =
      rw (left_other c apart)
      (chain_kept (link_next l c) (link_prev l c) (link_next new c) (link_prev new c) (list_at q c) (spells.chained c low)
      (out.heads c apart, out.tails c apart)
      (λ u stands. (
        out.nexts c u (λ same. other_round q b c u spells.sound within apart stands k (same ∙ p_is)),
        out.prevs c u (λ same. other_round q b c u spells.sound within apart stands (suc (suc k)) (same ∙ n_is)),
      )))

  -- the head of its bucket then
  head_at : link_next new b 256 ≡ get_or (remove (list_at q b) k) 0 256
  head_at = (chain_here 0 (omega arith)).0 ∙ ap (λ xs. get_or xs 0 256) left

  -- the bit of its bucket then
  status_here : bit_at new.status b ≡ bit_of (list_at (without t q) b)
  status_here =
      let inside = place.1 in
      let whole : bit_at l.status b ≡ 1 = spells.status b within ∙ bit_of_some (list_at q b) (omega arith) in
      ⊎_elim
      (λ (none : length (remove (list_at q b) k) ≡ 0).
      let past : link_next new b 256 ≡ 256 = head_at ∙ get_or_past (remove (list_at q b) k) 0 256 (omega arith) in
      out.bit ∙ rw (eq-eqb (link_next new b 256) 256 past) (sym (ap bit_of left ∙ bit_of_empty (remove (list_at q b) k) none)))
      (λ (some : length (remove (list_at q b) k) ≡ 0 → ⊥).
      let low : get_or (list_at (without t q) b) 0 256 < 256 = small_at (list_at (without t q) b) 0 (row_of (without t q) b (IsRunq-without t q spells.sound)) (rw left (omega arith)) in
      let first : link_next new b 256 < 256 = (let e = (chain_here 0 (omega arith)).0 in omega arith) in
      out.bit ∙ rw (ne_eqb (link_next new b 256) 256 (λ same. omega arith)) (whole ∙ sym (ap bit_of left ∙ bit_of_some (remove (list_at q b) k) (omega arith))))
      (cases_eq (length (remove (list_at q b) k)) 0)

  -- tables from which a thread was taken out spell the lists without it
  pub SpellsLists-out : SpellsLists new (without t q)
  SpellsLists-out = record {
    sound = IsRunq-without t q spells.sound;
    sized = out.sized;
    chained = λ c low. by_bucket (λ x. IsChain (link_next new x) (link_prev new x) (list_at (without t q) x)) b c chain_here (chain_there c low);
    status = λ c low. by_bucket (λ x. bit_at new.status x ≡ bit_of (list_at (without t q) x)) b c status_here
        (λ apart. out.bits c low apart ∙ spells.status c low ∙ ap bit_of (sym (left_other c apart)));
    filed = λ c u low stands.
        let list : list_at (without t q) c ≡ filter (λ x. not (x == t)) (list_at q c) = list_at-without t q c in
        let some : 0 < count u (filter (λ x. not (x == t)) (list_at q c)) = subst (λ xs. 0 < count u xs) list stands in
        ⊎_elim
        (λ (same : u ≡ t). absurd (
        let none = count-filter_same t (list_at q c) in
        let also : 0 < count t (filter (λ x. not (x == t)) (list_at q c)) = subst (λ x. 0 < count x (filter (λ y. not (y == t)) (list_at q c))) same some in
        omega arith))
        (λ (apart : u ≡ t → ⊥).
        ap (λ x. slice_index x u) out.bucket ∙ get_or-set_other l.bucket t u 256 0 apart
        ∙ spells.filed c u low (let kept = count-filter_other u t (list_at q c) apart in omega arith))
        (cases_eq u t);
    free = λ u low absent. ⊎_elim
        (λ (same : u ≡ t).
        ap (λ x. slice_index x u) out.bucket ∙ ap (λ x. get_or (slice_set l.bucket t 256) x 0) same
        ∙ get_or-set_same l.bucket t 256 0 (let n = spells.sized.bucket in omega arith))
        (λ (apart : u ≡ t → ⊥).
        ap (λ x. slice_index x u) out.bucket ∙ get_or-set_other l.bucket t u 256 0 apart
        ∙ spells.free u low (sym (times-without_other t q u apart) ∙ absent))
        (cases_eq u t);
  }

-- ---- a thread is linked in

-- the lists with a thread at place k of bucket b
abbrev pub with_thread : List (List ℕ) → ℕ → ℕ → ℕ → List (List ℕ)
with_thread q b k t = slice_set q b (insert (list_at q b) k t)

-- how often a number stands in a list into which one was put
count_inserted : (xs : List ℕ) (k t u : ℕ) → count u (insert xs k t) ≡ count u xs + once t u
count_inserted xs k t u =
    let parts : count u (insert xs k t) ≡ count u (take k xs) + count u (t ∷ drop k xs) = count-append u (take k xs) (t ∷ drop k xs) in
    let front : count u (t ∷ drop k xs) ≡ once t u + count u (drop k xs) = count-cons u t (drop k xs) in
    let whole : count u (take k xs) + count u (drop k xs) ≡ count u xs = sum_by-take-drop (λ x. cond (x == u) 1 0) xs k in
    omega arith

module _ (l new : Links) (q : List (List ℕ)) (b t k : ℕ) (spells : SpellsLists l q) (within : b < 64) (small : t < 256) (absent : times q t ≡ 0)
    (most : k ≤ length (list_at q b)) (sound : IsRunq (with_thread q b k t)) (put : LinksIn l new b (round_at (list_at q b) k) t (round_at (list_at q b) (suc k))) where
  -- the bucket is one of the queue
  bs : b < length q
  bs = let n = spells.sound.buckets in omega arith

  -- its bucket's list with the thread
  more : list_at (with_thread q b k t) b ≡ insert (list_at q b) k t
  more = get_or-set_same q b (insert (list_at q b) k t) [] bs

  -- every other bucket's list stays
  more_other : (c : ℕ) → c ≢ b → list_at (with_thread q b k t) c ≡ list_at q c
  more_other c apart = get_or-set_other q b c (insert (list_at q b) k t) [] apart

  -- the thread stood in no bucket
  lacks : (c : ℕ) → count t (list_at q c) ≡ 0
  lacks c = let part = count-list_at-le q c t in omega arith

  -- how often each number stands then
  times_of_more : (u : ℕ) → times (with_thread q b k t) u ≡ times q u + once t u
  times_of_more u =
      let change = times-slice_set q b (insert (list_at q b) k t) u bs in
      let added = count_inserted (list_at q b) k t u in
      omega arith

  -- its bucket is a chain with it
  in_here : IsChain (link_next new b) (link_prev new b) (list_at (with_thread q b k t) b)
  in_here =
      rw more
      (chain_inserted (list_at q b) k t most (link_next l b) (link_prev l b) (link_next new b) (link_prev new b) (row_of q b spells.sound) (lacks b) small (spells.chained b within)
      put.into put.out (put.nexts b) put.back_out put.back_into (put.prevs b))

  -- every other bucket stays a chain
  in_there : (c : ℕ) → c < 64 → c ≢ b → IsChain (link_next new c) (link_prev new c) (list_at (with_thread q b k t) c)
  in_there c low apart =
      rw (more_other c apart)
      (chain_kept (link_next l c) (link_prev l c) (link_next new c) (link_prev new c) (list_at q c) (spells.chained c low)
      (put.heads c apart, put.tails c apart)
      (λ u stands.
      let other : u ≢ t = λ same. (let none : count u (list_at q c) ≡ 0 = ap (λ x. count x (list_at q c)) same ∙ lacks c in omega arith) in (
        put.nexts c u (other_round q b c u spells.sound within apart stands k) other,
        put.prevs c u (other_round q b c u spells.sound within apart stands (suc k)) other,
      )))

  -- tables into which a thread was linked spell the lists with it
  pub SpellsLists-in : SpellsLists new (with_thread q b k t)
  SpellsLists-in = record {
    sound = sound;
    sized = put.sized;
    chained = λ c low. by_bucket (λ x. IsChain (link_next new x) (link_prev new x) (list_at (with_thread q b k t) x)) b c in_here (in_there c low);
    status = λ c low. by_bucket (λ x. bit_at new.status x ≡ bit_of (list_at (with_thread q b k t) x)) b c
        (put.bit ∙ sym (ap bit_of more ∙ bit_of_some (insert (list_at q b) k t) length_inserted))
        (λ apart. put.bits c low apart ∙ spells.status c low ∙ ap bit_of (sym (more_other c apart)));
    filed = λ c u low stands. ⊎_elim
        (λ (same : u ≡ t). ⊎_elim
        (λ (at : c ≡ b).
        ap (λ x. slice_index x u) put.bucket ∙ ap (λ x. get_or (slice_set l.bucket t b) x 0) same
        ∙ get_or-set_same l.bucket t b 0 (let n = spells.sized.bucket in omega arith) ∙ sym at)
        (λ (apart : c ≡ b → ⊥).
        absurd (let none = lacks c in
        let some : 0 < count u (list_at q c) = subst (λ xs. 0 < count u xs) (more_other c apart) stands in
        let also : 0 < count t (list_at q c) = subst (λ x. 0 < count x (list_at q c)) same some in
        omega arith))
        (cases_eq c b))
        (λ (other : u ≡ t → ⊥).
        ap (λ x. slice_index x u) put.bucket ∙ get_or-set_other l.bucket t u b 0 other
        ∙ spells.filed c u low
        (⊎_elim
        (λ (at : c ≡ b).
        let some : 0 < count u (insert (list_at q b) k t) = subst (λ xs. 0 < count u xs) (ap (list_at (with_thread q b k t)) at ∙ more) stands in
        let added = count_inserted (list_at q b) k t u in
        let zero : once t u ≡ 0 = once_other t u (λ same. other (sym same)) in
        let kept : 0 < count u (list_at q b) = omega arith in
        subst (λ x. 0 < count u (list_at q x)) (sym at) kept)
        (λ (apart : c ≡ b → ⊥). subst (λ xs. 0 < count u xs) (more_other c apart) stands)
        (cases_eq c b)))
        (cases_eq u t);
    free = λ u low none.
        let law = times_of_more u in
        ⊎_elim
        (λ (same : u ≡ t). absurd (let one : once t u ≡ 1 = ap (once t) same ∙ once_same t in omega arith))
        (λ (other : u ≡ t → ⊥). ap (λ x. slice_index x u) put.bucket ∙ get_or-set_other l.bucket t u b 0 other ∙ spells.free u low (omega arith))
        (cases_eq u t);
  }
    where
      length_inserted : 0 < length (insert (list_at q b) k t)
      length_inserted = let n = length-insert (list_at q b) k t most in omega arith

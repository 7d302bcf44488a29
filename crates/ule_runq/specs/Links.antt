-- The tables of a run queue, and the lists that they spell. `NONE` stands for no thread and for no bucket; in the round of a bucket it stands before the
-- head and behind the tail.
use Rattle.std.specs.Prelude.{◌≡◌, ◌≢◌, ◌==◌, ℕ, zero, suc, ◌<◌, ◌≤◌, List, [], ◌∷◌, length, map, reverse, if◌then◌else◌, slice_index, slice_index_or, slice_set, count_by}
use Rattle.std.specs.Int.{bit_at}
use Rattle.std.specs.List.{range_with_len}
use Rattle.std.specs.Option.{unwrap_or}
use Rattle.ule_runq.specs.Runq.{list_at, times, bucket_in, IsRunq}
use Rattle.ule_runq.specs.declared.links.Links.{Links}
use Rattle.ule_runq.specs.declared.links.TheConstants.{NONE, THREADS}
use Rattle.ule_runq.specs.declared.runq.TheConstants.{RQ_NQS}

-- the thread behind thread u in bucket b, and the head of bucket b behind `NONE`
abbrev pub link_next : Links → ℕ → ℕ → ℕ
link_next l b u = if u == NONE then slice_index l.head b else slice_index l.next u

-- the thread before thread u in bucket b, and the tail of bucket b before `NONE`
abbrev pub link_prev : Links → ℕ → ℕ → ℕ
link_prev l b u = if u == NONE then slice_index l.tail b else slice_index l.prev u

-- place k of the round from `NONE` through the threads of a list to `NONE` again
abbrev pub round_at : List ℕ → ℕ → ℕ
round_at xs k = slice_index_or (NONE ∷ xs) k NONE

-- each place of the round leads to the next one, and back
abbrev pub IsChain : (ℕ → ℕ) → (ℕ → ℕ) → List ℕ → Type 0
IsChain next prev xs = (k : ℕ) → k ≤ length xs → (next (round_at xs k) ≡ round_at xs (suc k)) × (prev (round_at xs (suc k)) ≡ round_at xs k)

-- the bit of a list in the status word: whether it has a thread
abbrev pub bit_of : List ℕ → ℕ
bit_of xs = if length xs == 0 then 0 else 1

-- the tables have an entry for each bucket, or for each thread number
pub record IsSized (l : Links) : Type 0 where
  pub head : length l.head ≡ RQ_NQS
  pub tail : length l.tail ≡ RQ_NQS
  pub next : length l.next ≡ THREADS
  pub prev : length l.prev ≡ THREADS
  pub bucket : length l.bucket ≡ THREADS

-- the tables spell the lists, forward and backward, with a bit for each list that has a thread and the bucket of each thread
pub record SpellsLists (l : Links) (q : List (List ℕ)) : Type 0 where
  pub sound : IsRunq q
  pub sized : IsSized l
  pub chained : (b : ℕ) → b < RQ_NQS → IsChain (link_next l b) (link_prev l b) (list_at q b)
  pub status : (b : ℕ) → b < RQ_NQS → bit_at l.status b ≡ bit_of (list_at q b)
  pub filed : (b t : ℕ) → b < RQ_NQS → 0 < count_by (λ u. u == t) (list_at q b) → slice_index l.bucket t ≡ b
  pub free : (t : ℕ) → t < THREADS → times q t ≡ 0 → slice_index l.bucket t ≡ NONE

-- at most n threads, read off a table from thread u on
unfoldable pub walk : List ℕ → ℕ → ℕ → List ℕ
walk table zero u = []
walk table (suc n) u = if u == NONE then [] else u ∷ walk table n (slice_index table u)

-- the lists, read off the tables
unfoldable pub lists_of : Links → List (List ℕ)
lists_of l = map (λ b. walk l.next THREADS (slice_index l.head b)) (range_with_len 0 RQ_NQS)

-- the tables read as the lists: each list by next from its head and, backwards, by prev from its tail, the bit of each list, and the bucket of each thread
pub record ReadsAs (l : Links) (q : List (List ℕ)) : Type 0 where
  pub forward : (b : ℕ) → b < RQ_NQS → walk l.next THREADS (slice_index l.head b) ≡ list_at q b
  pub backward : (b : ℕ) → b < RQ_NQS → walk l.prev THREADS (slice_index l.tail b) ≡ reverse (list_at q b)
  pub status : (b : ℕ) → b < RQ_NQS → bit_at l.status b ≡ bit_of (list_at q b)
  pub bucket : (t : ℕ) → t < THREADS → slice_index l.bucket t ≡ unwrap_or (bucket_in q t) NONE

-- place p of bucket b now leads to place n, and back, and all else is as it was
pub record JoinsLinks (old new : Links) (b p n : ℕ) : Type 0 where
  pub next : link_next new b p ≡ n
  pub nexts : (c u : ℕ) → u ≢ p → link_next new c u ≡ link_next old c u
  pub heads : (c : ℕ) → c ≢ b → link_next new c NONE ≡ link_next old c NONE
  pub prev : link_prev new b n ≡ p
  pub prevs : (c u : ℕ) → u ≢ n → link_prev new c u ≡ link_prev old c u
  pub tails : (c : ℕ) → c ≢ b → link_prev new c NONE ≡ link_prev old c NONE
  pub bucket : new.bucket ≡ old.bucket
  pub status : new.status ≡ old.status
  pub sized : IsSized new

-- t now stands between places p and n of bucket b, and all else is as it was
pub record LinksIn (old new : Links) (b p t n : ℕ) : Type 0 where
  pub into : link_next new b p ≡ t
  pub out : link_next new b t ≡ n
  pub nexts : (c u : ℕ) → u ≢ p → u ≢ t → link_next new c u ≡ link_next old c u
  pub heads : (c : ℕ) → c ≢ b → link_next new c NONE ≡ link_next old c NONE
  pub back_out : link_prev new b n ≡ t
  pub back_into : link_prev new b t ≡ p
  pub prevs : (c u : ℕ) → u ≢ n → u ≢ t → link_prev new c u ≡ link_prev old c u
  pub tails : (c : ℕ) → c ≢ b → link_prev new c NONE ≡ link_prev old c NONE
  pub bucket : new.bucket ≡ slice_set old.bucket t b
  pub bit : bit_at new.status b ≡ 1
  pub bits : (c : ℕ) → c < RQ_NQS → c ≢ b → bit_at new.status c ≡ bit_at old.status c
  pub sized : IsSized new

-- the neighbours of t in bucket b now lead to each other, and all else is as it was
pub record LinksOut (old new : Links) (b t : ℕ) : Type 0 where
  pub next : link_next new b (link_prev old b t) ≡ link_next old b t
  pub nexts : (c u : ℕ) → u ≢ link_prev old b t → link_next new c u ≡ link_next old c u
  pub heads : (c : ℕ) → c ≢ b → link_next new c NONE ≡ link_next old c NONE
  pub prev : link_prev new b (link_next old b t) ≡ link_prev old b t
  pub prevs : (c u : ℕ) → u ≢ link_next old b t → link_prev new c u ≡ link_prev old c u
  pub tails : (c : ℕ) → c ≢ b → link_prev new c NONE ≡ link_prev old c NONE
  pub bucket : new.bucket ≡ slice_set old.bucket t NONE
  pub bit : bit_at new.status b ≡ (if link_next new b NONE == NONE then 0 else bit_at old.status b)
  pub bits : (c : ℕ) → c < RQ_NQS → c ≢ b → bit_at new.status c ≡ bit_at old.status c
  pub sized : IsSized new

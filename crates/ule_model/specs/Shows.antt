-- How lists of thread numbers, one a bucket, show a queue of the world.
use Rattle.std.specs.Prelude.{◌≡◌, ℕ, ◌<◌, int_lt, List, [], ◌∷◌, map, slice_index_or, length, if◌then◌else◌}
use Rattle.ule_prio.specs.declared.kind.Kind.{Kind}
use Rattle.ule_model.specs.Insertion.{members_in}
use Rattle.ule_model.specs.World.{Member}

-- threads in order with one more
unfoldable pub with_ordered : Member → List Member → List Member
with_ordered m [] = m ∷ []
with_ordered m (n ∷ ns) = if int_lt m.order n.order then m ∷ n ∷ ns else n ∷ with_ordered m ns

-- threads by rising order
unfoldable pub by_order : List Member → List Member
by_order [] = []
by_order (m ∷ ms) = with_ordered m (by_order ms)

-- the numbers of threads
abbrev pub numbers_of : List Member → List ℕ
numbers_of ms = map (λ m. m.thread.id) ms

-- the numbers in bucket b of CPU c's queue of kind k, from its head
abbrev pub bucket_ids : ℕ → Kind → ℕ → List Member → List ℕ
bucket_ids c k b ms = numbers_of (by_order (members_in c k b ms))

-- these 64 lists are the buckets of CPU c's queue of kind k
pub record ShowsQueue (lists : List (List ℕ)) (c : ℕ) (k : Kind) (ms : List Member) : Type 0 where
  pub buckets : length lists ≡ 64
  pub each : (b : ℕ) → b < 64 → slice_index_or lists b [] ≡ bucket_ids c k b ms

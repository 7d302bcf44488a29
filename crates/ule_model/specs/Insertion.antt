-- How a thread is queued: its kind, its bucket, and its order there, after tdq_runq_add and runq_add.
use Rattle.std.specs.Prelude.{ℕ, ◌/◌, ℤ, pos, ◌+ℤ◌, ◌-ℤ◌, List, [], ◌∷◌, map, filter, fold, Option, Some, None}
use Rattle.std.specs.Int.{int_max, int_min}
use Rattle.ule_prio.specs.Kind.{kind_at}
use Rattle.ule_prio.specs.declared.kind.Kind.{Kind}
use Rattle.ule_prio.specs.declared.kind.Kind.TheVariants.{Real, Batch, Idle}
use Rattle.ule_score.specs.declared.place.Place.{Place}
use Rattle.ule_score.specs.declared.place.Place.TheVariants.{Queued}
use Rattle.ule_score.specs.declared.record.CpuLine.{CpuLine}
use Rattle.ule_model.specs.CalendarIndexes.{calendar_bucket}
pub use Rattle.ule_model.specs.declared.insertion.Insertion.{Insertion}
pub use Rattle.ule_model.specs.declared.insertion.Insertion.TheVariants.{Ordinary, Borrowing, Preempted}
use Rattle.ule_model.specs.Places.{waits_in}
use Rattle.ule_model.specs.World.{Member, Side, moved_to, others, thread_of}

-- the bucket in the calendar: by priority and index where it is ordinary, the next to be taken otherwise
abbrev pub batch_bucket : Insertion → CpuLine → ℕ → ℕ
batch_bucket Ordinary line p = calendar_bucket line.idx line.ridx p
batch_bucket Borrowing line p = line.ridx
batch_bucket Preempted line p = line.ridx

-- the bucket of an insertion in a queue of this kind
abbrev pub bucket_of : Kind → Insertion → CpuLine → ℕ → ℕ
bucket_of Real how line p = p / 4
bucket_of Batch how line p = batch_bucket how line p
bucket_of Idle how line p = p / 4

-- the threads in one bucket
abbrev pub members_in : ℕ → Kind → ℕ → List Member → List Member
members_in c k b members = filter (λ m. waits_in c k b m.place) members

-- the order of a thread that joins these at the tail: one more than the greatest
abbrev pub tail_order : List ℤ → ℤ
tail_order [] = pos 0
tail_order (o ∷ os) = fold int_max o os +ℤ pos 1

-- the order of a thread that joins these at the head: one less than the least
abbrev pub head_order : List ℤ → ℤ
head_order [] = pos 0
head_order (o ∷ os) = fold int_min o os -ℤ pos 1

-- a preempted thread goes to the head, every other to the tail
abbrev pub order_of : Insertion → List ℤ → ℤ
order_of Ordinary os = tail_order os
order_of Borrowing os = tail_order os
order_of Preempted os = head_order os

-- the place of a thread of priority p that is queued on CPU c
abbrev pub place_of_insertion : Insertion → ℕ → CpuLine → ℕ → Place
place_of_insertion how c line p = Queued c (kind_at p) (bucket_of (kind_at p) how line p)

-- its order there
abbrev pub order_of_insertion : Insertion → ℕ → CpuLine → ℕ → List Member → ℤ
order_of_insertion how c line p members =
    order_of how (map (λ m. m.order) (members_in c (kind_at p) (bucket_of (kind_at p) how line p) members))

-- the side with this thread queued on CPU c; its order is by the other threads there
abbrev pub with_queued : Insertion → ℕ → Option Member → Side → Side
with_queued how c None s = s
with_queued how c (Some m) s = record s {
  members =
      moved_to m.thread.id (place_of_insertion how c s.line m.thread.priority)
      (order_of_insertion how c s.line m.thread.priority (others m.thread.id s.members)) s.members;
}

-- insertion: the side with thread t queued on CPU c
abbrev pub queued : Insertion → ℕ → ℕ → Side → Side
queued how c t s = with_queued how c (thread_of t s.members) s

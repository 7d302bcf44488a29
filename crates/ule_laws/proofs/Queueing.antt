-- How a thread that a CPU's value stands beside is put in a queue: insertion, on the value and on the side.
use Rattle.std.proofs.Common.{◌≡◌, ℕ, ◌<◌, ℤ, true, List, ◌++◌, Option, refl, sym, subst, arith}
use Rattle.std.proofs.lemmas.Bool.{eq-eqb}
use Rattle.ule_prio.specs.Kind.{kind_at}
use Rattle.ule_prio.specs.declared.kind.Kind.{Kind}
use Rattle.ule_prio.specs.declared.kind.Kind.TheVariants.{Real, Batch, Idle}
use Rattle.ule_score.specs.declared.place.Place.TheVariants.{Queued}
use Rattle.ule_score.specs.declared.record.CpuLine.{CpuLine}
use Rattle.ule_model.specs.CpuValue.{CpuValue, StandsFor, inserted, inserted_in, queue_of, removed_from, with_inserted, with_queue}
use Rattle.ule_model.specs.Insertion.{bucket_of, order_of, order_of_insertion, place_of_insertion, queued, with_queued}
use Rattle.ule_model.specs.declared.insertion.Insertion.{Insertion}
use Rattle.ule_model.specs.declared.insertion.Insertion.TheVariants.{Ordinary, Borrowing, Preempted}
use Rattle.ule_model.specs.Places.{is_on}
use Rattle.ule_model.specs.Shows.{ShowsQueue}
use Rattle.ule_model.specs.Switch.{lifted}
use Rattle.ule_model.specs.WellMade.{IsWellMade}
use Rattle.ule_model.specs.World.{Member, Side, moved_to, others}
use Rattle.ule_laws.proofs.Beside.{StandsBeside, lifted_stands, other_out, put_current, put_load, put_threads}
use Rattle.ule_laws.proofs.Buckets.{shows-changed, shows_with_head, shows_with_tail}
use Rattle.ule_laws.proofs.QueueKinds.{by_kind, each_queue, with_queue_whole}
use Rattle.ule_laws.proofs.WellMade.{well_made_joined}
use Rattle.ule_members.proofs.Threads.{thread_of_within}
use Rattle.ule_members.proofs.Within.{Within}
use Rattle.ule_members.proofs.Apart.{orders_in}
use Rattle.ule_members.proofs.Moves.{bucket_small, others_within}

-- ---- the third put

-- the queue of a kind once a thread joined it
joined_queue : (how : Insertion) (q : List (List ℕ)) (c : ℕ) (k : Kind) (b : ℕ) (m : Member) (ms : List Member) (w : Within m.thread.id m ms) →
    b < 64 → ShowsQueue q c k (w.before ++ w.after) →
    ShowsQueue (with_inserted how q b m.thread.id) c k
    (moved_to m.thread.id (Queued c k b) (order_of how (orders_in c k b (w.before ++ w.after))) ms)
joined_queue Ordinary q c k b m ms w small shows = shows_with_tail q c k b m.thread.id m ms w small shows
joined_queue Borrowing q c k b m ms w small shows = shows_with_tail q c k b m.thread.id m ms w small shows
joined_queue Preempted q c k b m ms w small shows = shows_with_head q c k b m.thread.id m ms w small shows

-- the thread waits in a bucket that there is
pub queued_put : (k : Kind) (how : Insertion) (b : ℕ) (m : Member) (v : CpuValue) (s : Side) (w : Within m.thread.id m s.members) → b < 64 →
    StandsBeside m v s (w.before ++ w.after) →
    StandsFor (inserted_in k how b m.thread.id v)
    (record s { members = moved_to m.thread.id (Queued v.cpu k b) (order_of how (orders_in v.cpu k b (w.before ++ w.after))) s.members })
queued_put k how b m v s w small beside =
    subst (λ (u : CpuValue). StandsFor u (record s { members = moved })) (sym (with_queue_whole k q v)) (record {
      settings = beside.settings;
      line = beside.line;
      balance_word = beside.balance_word;
      current = put_current m v s w beside (Queued v.cpu k b) order refl;
      load = (let load = beside.load in let put = put_load m v s w (Queued v.cpu k b) order true here in omega arith);
      slots = beside.slots;
      threads = put_threads m v s w beside (Queued v.cpu k b) order here;
      queues = by_kind (λ j. ShowsQueue (queue_of j whole) v.cpu j moved) (shown Real) (shown Batch) (shown Idle);
      index = beside.index;
    })
  where
    order : ℤ
    order = order_of how (orders_in v.cpu k b (w.before ++ w.after))

    moved : List Member
    moved = moved_to m.thread.id (Queued v.cpu k b) order s.members

    q : List (List ℕ)
    q = with_inserted how (queue_of k v) b m.thread.id

    whole : CpuValue
    whole = record v { real = queue_of Real (with_queue k q v); batch = queue_of Batch (with_queue k q v); idle = queue_of Idle (with_queue k q v) }

    here : is_on v.cpu (Queued v.cpu k b) ≡ true
    here = eq-eqb v.cpu v.cpu refl

    shown : (j : Kind) → ShowsQueue (queue_of j (with_queue k q v)) v.cpu j moved
    shown =
        each_queue (λ j lists. ShowsQueue lists v.cpu j moved) k q v
        (joined_queue how (queue_of k v) v.cpu k b m s.members w small (beside.queues k))
        (λ j apart. shows-changed (queue_of j v) v.cpu j m.thread.id m s.members w (λ n. record n { place = Queued v.cpu k b; order = order })
        (other_out v.cpu j k b (Queued v.cpu k b) refl apart) (beside.queues j))

-- ---- insertion

-- what an insertion gives: the value stands for the side, which is well made, and only a queue changed
pub record IsJoined (v new : CpuValue) (s : Side) : Type 0 where
  pub stands : StandsFor new s
  pub well_made : IsWellMade s.members
  pub cpu : new.cpu ≡ v.cpu
  pub current : new.current ≡ v.current
  pub line : new.line ≡ v.line

-- an insertion leaves the CPU's number
pub inserted_cpu : (k : Kind) (how : Insertion) (b t : ℕ) (v : CpuValue) → (inserted_in k how b t v).cpu ≡ v.cpu
inserted_cpu Real how b t v = refl
inserted_cpu Batch how b t v = refl
inserted_cpu Idle how b t v = refl

-- an insertion leaves the CPU's current thread
inserted_current : (k : Kind) (how : Insertion) (b t : ℕ) (v : CpuValue) → (inserted_in k how b t v).current ≡ v.current
inserted_current Real how b t v = refl
inserted_current Batch how b t v = refl
inserted_current Idle how b t v = refl

-- an insertion leaves the CPU's numbers
inserted_line : (k : Kind) (how : Insertion) (b t : ℕ) (v : CpuValue) → (inserted_in k how b t v).line ≡ v.line
inserted_line Real how b t v = refl
inserted_line Batch how b t v = refl
inserted_line Idle how b t v = refl

-- a thread that the value stands beside is inserted, on the value and on the side
pub inserted_stands : (how : Insertion) (m : Member) (v : CpuValue) (s : Side) (w : Within m.thread.id m s.members) →
    StandsBeside m v s (w.before ++ w.after) → IsJoined v (inserted how m.thread.priority m.thread.id v) (queued how v.cpu m.thread.id s)
inserted_stands how m v s w beside =
    subst (λ (o : Option Member). IsJoined v new (with_queued how v.cpu o s)) (sym (thread_of_within m.thread.id m s.members w))
    (subst (λ (line : CpuLine). IsJoined v new (side line (others m.thread.id s.members))) beside.line
    (subst (λ (ms : List Member). IsJoined v new (side v.line ms)) (sym (others_within m.thread.id m s.members w)) joined))
  where
    p : ℕ
    p = m.thread.priority

    new : CpuValue
    new = inserted how p m.thread.id v

    side : CpuLine → List Member → Side
    side line ms =
        record s { members = moved_to m.thread.id (place_of_insertion how v.cpu line p) (order_of_insertion how v.cpu line p ms) s.members }

    small : bucket_of (kind_at p) how v.line p < 64
    small = bucket_small (kind_at p) how v.line p w.made.numbers.priority beside.index

    joined : IsJoined v new (side v.line (w.before ++ w.after))
    joined = record {
      stands = queued_put (kind_at p) how (bucket_of (kind_at p) how v.line p) m v s w small beside;
      well_made = well_made_joined how v.cpu (kind_at p) (bucket_of (kind_at p) how v.line p) m.thread.id m s.members w small;
      cpu = inserted_cpu (kind_at p) how (bucket_of (kind_at p) how v.line p) m.thread.id v;
      current = inserted_current (kind_at p) how (bucket_of (kind_at p) how v.line p) m.thread.id v;
      line = inserted_line (kind_at p) how (bucket_of (kind_at p) how v.line p) m.thread.id v;
    }

-- a queued thread is queued anew: it is taken out by the index rule, and then inserted
pub requeued_stands : (how : Insertion) (k : Kind) (b : ℕ) (m : Member) (v : CpuValue) (s : Side) (w : Within m.thread.id m s.members) →
    StandsFor v s → m.place ≡ Queued v.cpu k b →
    StandsFor (inserted how m.thread.priority m.thread.id (removed_from k m.thread.id v)) (queued how v.cpu m.thread.id (lifted v.cpu m s)) ×
    IsWellMade (queued how v.cpu m.thread.id (lifted v.cpu m s)).members
requeued_stands how k b m v s w stands place =
    let joined =
    subst (λ (c : ℕ). IsJoined out (inserted how m.thread.priority m.thread.id out) (queued how c m.thread.id (lifted v.cpu m s))) (removed_cpu k m.thread.id v)
    (inserted_stands how m out (lifted v.cpu m s) w (lifted_stands k b m v s w stands place)) in
    (joined.stands, joined.well_made)
  where
    out : CpuValue
    out = removed_from k m.thread.id v

    removed_cpu : (j : Kind) (t : ℕ) (u : CpuValue) → (removed_from j t u).cpu ≡ u.cpu
    removed_cpu Real t u = refl
    removed_cpu Batch t u = refl
    removed_cpu Idle t u = refl

-- A CPU's queues by their kinds: what one of them becomes, the others stay.
use Rattle.std.proofs.Common.{◌≡◌, ◌≢◌, ℕ, List, ◌⊎◌, inl, inr, ⊎_elim, refl}
use Rattle.ule_prio.specs.declared.kind.Kind.{Kind}
use Rattle.ule_prio.specs.declared.kind.Kind.TheVariants.{Real, Batch, Idle}
use Rattle.ule_runq.specs.Runq.{without}
use Rattle.ule_model.specs.CpuValue.{CpuValue, queue_of, removed_from, with_queue}
use Rattle.ule_model.specs.Places.{rank_of}

-- what holds of each of the three kinds holds of every kind
pub by_kind : (P : Kind → Type 0) → P Real → P Batch → P Idle → (k : Kind) → P k
by_kind P real batch idle Real = real
by_kind P real batch idle Batch = batch
by_kind P real batch idle Idle = idle

-- two kinds are one, or their ranks differ
pub cases_kind : (j k : Kind) → (j ≡ k) ⊎ (rank_of j ≢ rank_of k)
cases_kind Real Real = inl refl
cases_kind Real Batch = inr (λ e. cc)
cases_kind Real Idle = inr (λ e. cc)
cases_kind Batch Real = inr (λ e. cc)
cases_kind Batch Batch = inl refl
cases_kind Batch Idle = inr (λ e. cc)
cases_kind Idle Real = inr (λ e. cc)
cases_kind Idle Batch = inr (λ e. cc)
cases_kind Idle Idle = inl refl

-- the queue that was put for that of a kind is that of the kind
pub queue_same : (k : Kind) (q : List (List ℕ)) (v : CpuValue) → queue_of k (with_queue k q v) ≡ q
queue_same Real q v = refl
queue_same Batch q v = refl
queue_same Idle q v = refl

-- the queues of the other kinds stay where one is put for that of a kind
pub queue_other : (j k : Kind) (q : List (List ℕ)) (v : CpuValue) → rank_of j ≢ rank_of k → queue_of j (with_queue k q v) ≡ queue_of j v
queue_other Real Real q v apart = absurd (apart refl)
queue_other Real Batch q v apart = refl
queue_other Real Idle q v apart = refl
queue_other Batch Real q v apart = refl
queue_other Batch Batch q v apart = absurd (apart refl)
queue_other Batch Idle q v apart = refl
queue_other Idle Real q v apart = refl
queue_other Idle Batch q v apart = refl
queue_other Idle Idle q v apart = absurd (apart refl)

-- the CPU with another queue of a kind, told field by field
pub with_queue_whole : (k : Kind) (q : List (List ℕ)) (v : CpuValue) →
    with_queue k q v ≡ record v {
      real = queue_of Real (with_queue k q v);
      batch = queue_of Batch (with_queue k q v);
      idle = queue_of Idle (with_queue k q v);
    }
with_queue_whole Real q v = refl
with_queue_whole Batch q v = refl
with_queue_whole Idle q v = refl

-- the CPU without a thread in its queue of a kind, told field by field
pub removed_whole : (k : Kind) (t : ℕ) (v : CpuValue) →
    removed_from k t v ≡ record v {
      real = queue_of Real (with_queue k (without t (queue_of k v)) v);
      batch = queue_of Batch (with_queue k (without t (queue_of k v)) v);
      idle = queue_of Idle (with_queue k (without t (queue_of k v)) v);
      line = (removed_from k t v).line;
    }
removed_whole Real t v = refl
removed_whole Batch t v = refl
removed_whole Idle t v = refl

-- what holds of each queue of a CPU holds of each where one is put for that of a kind, if it holds of that
pub each_queue : (P : Kind → List (List ℕ) → Type 0) (k : Kind) (q : List (List ℕ)) (v : CpuValue) → P k q →
    ((j : Kind) → rank_of j ≢ rank_of k → P j (queue_of j v)) → (j : Kind) → P j (queue_of j (with_queue k q v))
each_queue P k q v here others j = ⊎_elim same other (cases_kind j k)
  where
    same : j ≡ k → P j (queue_of j (with_queue k q v))
    same is = rw is (rw (queue_same k q v) here)

    other : rank_of j ≢ rank_of k → P j (queue_of j (with_queue k q v))
    other apart = rw (queue_other j k q v apart) (others j apart)

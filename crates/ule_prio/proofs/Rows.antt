-- Worked values of the rules of priorities, by computing.
use Rattle.std.proofs.Common.{◌≡◌, true, false, refl}
use Rattle.ule_prio.specs.declared.class.Class.TheVariants.{Ithd, Rt, Fifo, Ts, Idle}
use Rattle.ule_prio.specs.declared.kind.Kind.TheVariants as kind
use Rattle.ule_prio.specs.Class.{is_base_of}
use Rattle.ule_prio.specs.Kind.{kind_at}
use Rattle.ule_prio.specs.Preemption.{takes_over}

-- ---- base priorities of the classes

interrupt_class : (is_base_of Ithd 47 ≡ true) × (is_base_of Ithd 48 ≡ false)
interrupt_class = (refl, refl)

realtime_classes : (is_base_of Rt 47 ≡ false) × (is_base_of Rt 79 ≡ true) × (is_base_of Fifo 48 ≡ true) × (is_base_of Fifo 80 ≡ false)
realtime_classes = (refl, refl, refl, refl)

-- the priority of a timeshare thread is computed
other_classes : (is_base_of Ts 120 ≡ false) × (is_base_of Idle 223 ≡ false) × (is_base_of Idle 224 ≡ true)
other_classes = (refl, refl, refl)

-- ---- the borders of the queue kinds

real_to_batch : (kind_at 151 ≡ kind.Real) × (kind_at 152 ≡ kind.Batch)
real_to_batch = (refl, refl)

batch_to_idle : (kind_at 223 ≡ kind.Batch) × (kind_at 224 ≡ kind.Idle)
batch_to_idle = (refl, refl)

-- ---- the preemption test

-- an interrupt thread against a batch thread, which a threshold of 0 forbids
interrupt_thread_preempts : (takes_over 20 172 false 80 ≡ true) × (takes_over 20 172 false 0 ≡ false)
interrupt_thread_preempts = (refl, refl)

-- an interactive thread against a batch thread, from its own CPU and from another, and against its like from another
interactive_thread_preempts : (takes_over 120 172 false 80 ≡ false) × (takes_over 120 172 true 80 ≡ true) × (takes_over 120 151 true 80 ≡ false)
interactive_thread_preempts = (refl, refl, refl)

-- any thread against a CPU that runs nothing, and no thread against its equal
borders_of_preemption : (takes_over 223 255 false 0 ≡ true) × (takes_over 40 40 true 80 ≡ false)
borders_of_preemption = (refl, refl)

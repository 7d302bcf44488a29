-- A CPU before any thread is laid on it stands for its side of a world without threads.
use Rattle.std.proofs.Common.{◌≡◌, ℕ, ◌<◌, List, [], length, replicate, slice_index_or, sym, ◌∙◌, ap, subst, arith}
use Rattle.std.specs.Option.{option_map}
use Rattle.std.proofs.lemmas.List.{length-replicate, get_or-replicate}
use Rattle.ule_prio.specs.declared.kind.Kind.{Kind}
use Rattle.ule_prio.specs.declared.kind.Kind.TheVariants.{Real, Batch, Idle}
use Rattle.ule_score.specs.declared.record.CpuLine.{CpuLine}
use Rattle.ule_model.specs.CpuStart.{StartsAs, line_at_start, word_at_start}
use Rattle.ule_model.specs.CpuValue.{CpuValue, StandsFor, queue_of, thread_on}
use Rattle.ule_model.specs.Shows.{ShowsQueue, by_order}
use Rattle.ule_model.specs.Tick.{load_of}
use Rattle.ule_model.specs.World.{Member, Side, current_of}
use Rattle.ule_laws.proofs.QueueKinds.{by_kind}

-- 64 empty lists are the queue of a CPU of a world without threads
pub empty_queue : (lists : List (List ℕ)) (c : ℕ) (k : Kind) → lists ≡ replicate 64 [] → ShowsQueue lists c k []
unfolding by_order
empty_queue lists c k is = record {
  buckets = ap (λ (q : List (List ℕ)). length q) is ∙ length-replicate {A = List ℕ} 64 [];
  each = λ b small. ap (λ (q : List (List ℕ)). slice_index_or q b []) is ∙ get_or-replicate {A = List ℕ} 64 b [] [] small;
}

-- a CPU as it starts stands for a side without threads, whose numbers are those of the start
pub start_stands : (v : CpuValue) (s : Side) (c word : ℕ) → StartsAs v c s.settings word → s.members ≡ [] → s.line ≡ line_at_start c word →
    (v.cpu ≡ 0 → s.balance_word ≡ word_at_start c word) → StandsFor v s
start_stands v s c word starts none line balance = record {
  settings = starts.settings;
  line = starts.line ∙ sym line;
  balance_word = λ is. starts.balance_word ∙ sym (balance is);
  current = starts.current ∙ ap (λ (ms : List Member). option_map (λ m. m.thread.id) (current_of v.cpu ms)) (sym none);
  load = starts.load ∙ ap (load_of v.cpu) (sym none);
  slots = starts.slots;
  threads = λ t. starts.threads t ∙ ap (λ (ms : List Member). option_map (λ m. m.thread) (thread_on v.cpu t ms)) (sym none);
  queues =
      by_kind (λ k. ShowsQueue (queue_of k v) v.cpu k s.members)
      (shown v.real Real starts.real) (shown v.batch Batch starts.batch) (shown v.idle Idle starts.idle);
  index = subst (λ (l : CpuLine). l.ridx < 64) (sym starts.line) (omega arith);
}
  where
    shown : (lists : List (List ℕ)) (k : Kind) → lists ≡ replicate 64 [] → ShowsQueue lists v.cpu k s.members
    shown lists k is = subst (λ (ms : List Member). ShowsQueue lists v.cpu k ms) (sym none) (empty_queue lists v.cpu k is)

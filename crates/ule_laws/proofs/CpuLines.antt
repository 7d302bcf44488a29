-- The CPU's own numbers on its value, and on the side of a world that the value stands for.
use Rattle.std.proofs.Common.{◌≡◌, ℕ, ◌+◌, ◌-◌, ◌%◌, ◌<◌, ◌==◌, Bool, true, false, ◌&&◌, length, if◌then◌else◌, ⊎_elim, sym, ◌∙◌, ap, arith}
use Rattle.std.specs.Prelude.{nat_le}
use Rattle.std.proofs.lemmas.Bool.{cases_eq, ne_eqb}
use Rattle.ule_prio.specs.declared.kind.Kind.TheVariants.{Real, Batch, Idle}
use Rattle.ule_runq.specs.Runq.{is_empty_at}
use Rattle.ule_score.specs.declared.record.CpuLine.{CpuLine}
use Rattle.ule_model.specs.CpuValue.{CpuValue, StandsFor, queue_of, value_clocked, without_marks}
use Rattle.ule_model.specs.Insertion.{members_in}
use Rattle.ule_model.specs.Shows.{ShowsQueue}
use Rattle.ule_model.specs.Start.{balance_count, stepped_word}
use Rattle.ule_model.specs.Switch.{counted, one_more, unmarked}
use Rattle.ule_model.specs.Tick.{balance_after_tick, clocked, line_after_tick, load_of, word_after_tick}
use Rattle.ule_model.specs.World.{Side}
use Rattle.ule_laws.proofs.Buckets.{empty_shown}
use Rattle.ule_laws.proofs.QueueKinds.{by_kind}

-- the numbers changed alike, with a removal index of a bucket
pub with_line_stands : (change : CpuLine → CpuLine) (v : CpuValue) (s : Side) → (change v.line).ridx < 64 → StandsFor v s →
    StandsFor (record v { line = change v.line }) (record s { line = change s.line })
with_line_stands change v s small stands = record {
  settings = stands.settings;
  line = ap change stands.line;
  balance_word = stands.balance_word;
  current = stands.current;
  load = stands.load;
  slots = stands.slots;
  threads = stands.threads;
  queues =
      by_kind (λ k. ShowsQueue (queue_of k (record v { line = change v.line })) v.cpu k s.members)
      (stands.queues Real) (stands.queues Batch) (stands.queues Idle);
  index = small;
}

-- the marks taken away
pub marks_stand : (v : CpuValue) (s : Side) → StandsFor v s → StandsFor (without_marks v) (unmarked s)
marks_stand v s stands = with_line_stands (λ line. record line { resched = false; slice_end = false }) v s stands.index stands

-- the CPU with one switch more
abbrev pub value_counted : CpuValue → CpuValue
value_counted v = record v { line = record v.line { switches = one_more v.line.switches } }

-- one switch more
pub count_stands : (v : CpuValue) (s : Side) → StandsFor v s → StandsFor (value_counted v) (counted s)
count_stands v s stands = with_line_stands (λ line. record line { switches = one_more line.switches }) v s stands.index stands

-- ---- a tick

-- the balance word counts on CPU 0 alone
balance_by_word : (c balance x y : ℕ) → (c ≡ 0 → x ≡ y) → balance_after_tick c balance x ≡ balance_after_tick c balance y
balance_by_word c balance x y same = ⊎_elim here elsewhere (cases_eq c 0)
  where
    here : c ≡ 0 → balance_after_tick c balance x ≡ balance_after_tick c balance y
    here is = ap (balance_after_tick c balance) (same is)

    elsewhere : (c ≡ 0 → ⊥) → balance_after_tick c balance x ≡ balance_after_tick c balance y
    elsewhere apart =
        let other : (c == 0) ≡ false = ne_eqb c 0 apart in
        ap (λ d. if d && nat_le balance 1 then balance_count (stepped_word x) else if d then balance - 1 else balance) other
        ∙ sym (ap (λ d. if d && nat_le balance 1 then balance_count (stepped_word y) else if d then balance - 1 else balance) other)

-- the CPU's own numbers after a tick
clocked_line : (v : CpuValue) (s : Side) → StandsFor v s → (value_clocked v).line ≡ (clocked v.cpu s).line
clocked_line v s stands =
    ap (λ (balance : ℕ). record (line_after_tick v.cpu v.load (is_empty_at v.batch v.line.ridx) v.balance_word v.line) { balance = balance })
    (balance_by_word v.cpu v.line.balance v.balance_word s.balance_word stands.balance_word)
    ∙ ap (λ (d : Bool). line_after_tick v.cpu v.load d s.balance_word v.line)
    (sym (empty_shown v.batch v.cpu Batch s.members v.line.ridx stands.index (stands.queues Batch)))
    ∙ ap (λ (load : ℕ). line_after_tick v.cpu load (length (members_in v.cpu Batch v.line.ridx s.members) == 0) s.balance_word v.line) stands.load
    ∙ ap (λ (line : CpuLine). line_after_tick v.cpu (load_of v.cpu s.members) (length (members_in v.cpu Batch line.ridx s.members) == 0) s.balance_word line) stands.line

-- a tick leaves the removal index that of a bucket
clocked_index : (v : CpuValue) → v.line.ridx < 64 → (value_clocked v).line.ridx < 64
clocked_index v small = turned ((v.line.idx == v.line.ridx) && is_empty_at v.batch v.line.ridx)
  where
    turned : (d : Bool) → (if d then (v.line.idx + 1) % 64 else v.line.ridx) < 64
    turned true = omega arith
    turned false = small

-- the CPU's own numbers after a tick, on the value and on the side
pub clocked_stands : (v : CpuValue) (s : Side) → StandsFor v s → StandsFor (value_clocked v) (clocked v.cpu s)
clocked_stands v s stands = record {
  settings = stands.settings;
  line = clocked_line v s stands;
  balance_word = λ is.
      ap (word_after_tick v.cpu v.line.balance) (stands.balance_word is) ∙ ap (λ (line : CpuLine). word_after_tick v.cpu line.balance s.balance_word) stands.line;
  current = stands.current;
  load = stands.load;
  slots = stands.slots;
  threads = stands.threads;
  queues =
      by_kind (λ k. ShowsQueue (queue_of k (value_clocked v)) v.cpu k s.members)
      (stands.queues Real) (stands.queues Batch) (stands.queues Idle);
  index = clocked_index v stands.index;
}

-- The text of two whole traces, by computing: the numbers in it compute where `digits` unfolds.
use Rattle.std.proofs.Common.{◌≡◌, ℕ, List, [], ◌∷◌, ◌++◌, Some, None, true, false, pos, negsuc, codes, refl}
use Rattle.std.specs.Fmt.{digits}
use Rattle.ule_prio.specs.declared.class.Class.TheVariants.{Ts, Idle}
use Rattle.ule_prio.specs.declared.kind.Kind.TheVariants.{Batch}
use Rattle.ule_score.specs.declared.place.Place.TheVariants.{Running, Queued}
use Rattle.ule_score.specs.declared.record.CpuLine.{CpuLine}
use Rattle.ule_score.specs.declared.record.Why.TheVariants.{Yield}
use Rattle.ule_trace.specs.Trace.{trace_text}
use Rattle.ule_types.specs.Outcome.{OutcomeValue}
use Rattle.ule_types.specs.declared.event.Event.TheVariants.{Switch}
use Rattle.ule_types.specs.declared.event.Reply.TheVariants.{Switched}

-- a line of a text
line : List ℕ → List ℕ
line bytes = bytes ++ 10 ∷ []

-- the numbers of a CPU at the start
first_cpu : CpuLine
first_cpu = record { idx = 0; ridx = 0; resched = false; slice_end = false; switches = 0; old_switches = 0; balance = 64 }

-- one thread that yields and goes on running
yielded : OutcomeValue
yielded = record {
  entries = record { worker = 0; event = Switch 0 Yield; now = 20000; reply = Switched None (Some 0) false } ∷ [];
  threads =
      record {
        id = 0;
        place = Running 0;
        pos = 0;
        class = Ts;
        nice = pos 0;
        base = 172;
        lent = None;
        priority = 172;
        run = 0;
        slept = 0;
        ticks = 0;
        ltick = 20000;
        ftick = 20000;
        slice_count = 0;
        slept_at = 0;
        last = 0;
        last_run = 20000;
        bound = None;
        parent = None;
        word = Some 0;
      } ∷ [];
  cpus = first_cpu ∷ [];
  now = 20000;
  room = 0;
}

-- the trace of one yield
yield_traced : trace_text yielded ≡
    line (codes "ule-trace 1") ++
    line (codes "1 w0 20000 switch 0 yield -> switched - 0 0") ++
    line (codes "t 0 r0 ts 0 172 - 172 0 0 0 20000 20000 0 0 0 20000 - - 0") ++
    line (codes "c 0 0 0 0 0 0 0 64") ++
    line (codes "now 20000") ++
    line (codes "done 1")
unfolding digits line first_cpu yielded
yield_traced = refl

-- a queued thread no two of whose numbers are the same, with a blocked word, two CPUs, and the greatest time
queued : OutcomeValue
queued = record {
  entries = [];
  threads =
      record {
        id = 255;
        place = Queued 15 Batch 63;
        pos = 3;
        class = Idle;
        nice = negsuc 19;
        base = 230;
        lent = Some 100;
        priority = 99;
        run = 18446744073709551615;
        slept = 11;
        ticks = 12;
        ltick = 13;
        ftick = 14;
        slice_count = 16;
        slept_at = 17;
        last = 9;
        last_run = 18;
        bound = Some 8;
        parent = Some 254;
        word = None;
      } ∷ [];
  cpus =
      first_cpu ∷
      record { idx = 1; ridx = 2; resched = true; slice_end = false; switches = 3; old_switches = 4; balance = 0 } ∷ [];
  now = 18446744073709551615;
  room = 0;
}

-- the trace of no event, with each final line in full
queued_traced : trace_text queued ≡
    line (codes "ule-trace 1") ++
    line (codes "t 255 q15.batch.63.3 idle -20 230 100 99 18446744073709551615 11 12 13 14 16 17 9 18 8 254 b") ++
    line (codes "c 0 0 0 0 0 0 0 64") ++
    line (codes "c 1 1 2 1 0 3 4 0") ++
    line (codes "now 18446744073709551615") ++
    line (codes "done 0")
unfolding digits line first_cpu queued
queued_traced = refl

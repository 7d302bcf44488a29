-- What each lock guards at the start of a setup, as a value, and the hands at the start.
use Rattle.std.specs.Prelude.{ℕ, ◌+◌, ◌-◌, ◌%◌, ◌^◌, ◌==◌, nat_lt, List, [], filter, fold, map, replicate, None, if◌then◌else◌}
use Rattle.std.specs.List.{range_with_len}
use Rattle.ule_score.specs.declared.place.Place.TheVariants.{Unborn}
use Rattle.ule_sleep.specs.Chain.{ChainValue}
use Rattle.ule_sleep.specs.Limbo.{LimboValue, with_still}
use Rattle.ule_types.specs.declared.setup.Setup.{Setup}
use Rattle.ule_types.specs.declared.setup.ThreadSpec.{ThreadSpec}
use Rattle.ule_model.specs.CpuStart.{line_at_start, word_at_start}
use Rattle.ule_model.specs.CpuValue.{CpuValue, value_laid}
use Rattle.ule_model.specs.LockValue.{LockValue, chain, limbo, nothing, queue}
use Rattle.ule_model.specs.Start.{record_of, unborn_record, world_at_start}
use Rattle.ule_model.specs.WorldValue.{Shows, WorldValue}

-- balance word before: where CPU 0's balance word starts, before its first draw
abbrev pub balance_word_before : Setup → ℕ
balance_word_before s = (s.jitter + 16) % 2 ^ 32

-- bare CPU: a CPU on which no thread is
abbrev pub bare_cpu : Setup → ℕ → CpuValue
bare_cpu s c = record {
  cpu = c;
  settings = s.settings;
  threads = replicate 256 None;
  current = None;
  load = 0;
  real = replicate 64 [];
  batch = replicate 64 [];
  idle = replicate 64 [];
  line = line_at_start c (balance_word_before s);
  balance_word = word_at_start c (balance_word_before s);
}

-- declared on: those of these declared threads that are on a CPU, in their order
abbrev pub declared_on : ℕ → List ThreadSpec → List ThreadSpec
declared_on c specs = filter (λ spec. spec.cpu == c) specs

-- with all laid: a CPU with these threads laid on it, one after another
abbrev pub with_all_laid : Setup → List ThreadSpec → CpuValue → CpuValue
with_all_laid s specs v = fold (λ u spec. value_laid (record_of s.settings spec) u) v specs

-- opening queue: a CPU with its declared threads queued in their order
abbrev pub opening_queue : Setup → ℕ → CpuValue
opening_queue s c = with_all_laid s (declared_on c s.threads) (bare_cpu s c)

-- bare chain: a sleep chain without sleepers
abbrev pub bare_chain : ℕ → ChainValue
bare_chain number = record { number = number; slots = replicate 256 None }

-- bare limbo: limbo without threads
abbrev pub bare_limbo : LimboValue
bare_limbo = record { slots = replicate 256 None }

-- with all unborn: limbo with these unborn threads
abbrev pub with_all_unborn : List ℕ → LimboValue → LimboValue
with_all_unborn ts v = fold (λ u t. with_still (unborn_record t) Unborn u) v ts

-- opening limbo: limbo with the unborn threads of a setup
abbrev pub opening_limbo : Setup → LimboValue
opening_limbo s = with_all_unborn s.unborn bare_limbo

-- opening value: what a lock guards at the start of a setup
abbrev pub opening_value : Setup → ℕ → LockValue
opening_value s l =
    if nat_lt l s.cpus then queue (opening_queue s l)
    else if nat_lt l 16 then nothing
    else if nat_lt l 24 then chain (bare_chain (l - 16))
    else limbo (opening_limbo s)

-- opening scheduler: the scheduler at the start of a setup, the value under each lock and an empty hand for each worker
abbrev pub opening_scheduler : Setup → WorldValue
opening_scheduler s = record {
  settings = s.settings;
  values = map (opening_value s) (range_with_len 0 25);
  hands = replicate s.cpus None;
}

-- opening values show: the scheduler at the start of a setup shows the world at the start
abbrev pub OpeningValuesShow : Type 0
OpeningValuesShow = (s : Setup) → Shows (opening_scheduler s) (world_at_start s)

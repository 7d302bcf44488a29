-- Worked values of a table of records by thread number, by computing.
use Rattle.std.proofs.Common.{◌≡◌, ℕ, pos, List, length, replicate, slice_index_or, slice_set, Option, Some, None, refl}
use Rattle.std.specs.Option.{option_map}
use Rattle.ule_prio.specs.declared.class.Class.TheVariants.{Ts}
use Rattle.ule_score.specs.declared.record.ThreadRecord.{ThreadRecord}
use Rattle.ule_threads.proofs.Absent.{absent_throughout}

-- ---- the values

-- the record of a thread that slept since then
abbrev asleep : ℕ → ℕ → ThreadRecord
asleep id slept_at = record {
  id = id;
  parent = None;
  class = Ts;
  nice = pos 0;
  base = 172;
  lent = None;
  priority = 172;
  hist = record { run = 0; slept = 0 };
  usage = record { ticks = 0; ltick = 20000; ftick = 20000 };
  slice_count = 0;
  slept_at = slept_at;
  last = 0;
  last_run = 20000;
  bound = None;
}

-- since when the thread of this number sleeps
abbrev sleeps_since : List (Option ThreadRecord) → ℕ → Option ℕ
sleeps_since records t = option_map (λ r. r.slept_at) (slice_index_or records t None)

-- the table with no records
abbrev no_records : List (Option ThreadRecord)
no_records = replicate 256 None

-- the table after the records of threads 255 and 0 were put into an empty one
abbrev two_records : List (Option ThreadRecord)
two_records = slice_set (slice_set no_records 255 (Some (asleep 255 20001))) 0 (Some (asleep 0 20002))

-- the table after that of thread 255 was taken out again
abbrev one_record : List (Option ThreadRecord)
one_record = slice_set two_records 255 None

-- ---- the rows

-- a table with no records has none of the first number and none of the last
none_at_first : (sleeps_since no_records 0 ≡ None) × (sleeps_since no_records 255 ≡ None)
none_at_first = (refl, refl)

-- each record that was put stands at its own number, and at a number beside them stands none
each_at_its_number :
    (sleeps_since two_records 0 ≡ Some 20002) × (sleeps_since two_records 254 ≡ None) × (sleeps_since two_records 255 ≡ Some 20001)
each_at_its_number = (refl, refl, refl)

-- a record that is taken out is gone, and the other stays
one_stays : (sleeps_since one_record 0 ≡ Some 20002) × (sleeps_since one_record 255 ≡ None)
one_stays = (refl, refl)

-- ---- the table with no records

-- a list of 256 items with none at any number, which is what an empty table is, is the table with no records
empty_is_no_records : (records : List (Option ThreadRecord)) → length records ≡ 256 →
    ((t : ℕ) → slice_index_or records t None ≡ None) → records ≡ no_records
empty_is_no_records records = absent_throughout 256 records

-- The final lines of a trace.
use Rattle.std.specs.Prelude.{ℕ, List, [], ◌∷◌, Option, Some, None, codes}
use Rattle.std.specs.Fmt.{decimal, signed_decimal}
use Rattle.ule_prio.specs.declared.class.Class.{Class}
use Rattle.ule_prio.specs.declared.class.Class.TheVariants.{Ithd, Rt, Fifo, Ts, Idle}
use Rattle.ule_score.specs.declared.record.CpuLine.{CpuLine}
use Rattle.ule_trace.specs.Line.{optional_word, flag_word}
use Rattle.ule_trace.specs.PlaceText.{final_place_word}
use Rattle.ule_types.specs.declared.outcome.ThreadLine.{ThreadLine}

-- the keyword of a class
abbrev pub class_word : Class → List ℕ
class_word Ithd = codes "ithd"
class_word Rt = codes "rt"
class_word Fifo = codes "fifo"
class_word Ts = codes "ts"
class_word Idle = codes "idle"

-- the lock that a thread's word names, or b where the word is blocked
abbrev pub lock_word : Option ℕ → List ℕ
lock_word None = codes "b"
lock_word (Some l) = decimal l

-- a thread's line
abbrev pub final_words : ThreadLine → List (List ℕ)
final_words l =
    codes "t" ∷ decimal l.id ∷ final_place_word l.place l.pos ∷ class_word l.class ∷ signed_decimal l.nice ∷
    decimal l.base ∷ optional_word l.lent ∷ decimal l.priority ∷ decimal l.run ∷ decimal l.slept ∷
    decimal l.ticks ∷ decimal l.ltick ∷ decimal l.ftick ∷ decimal l.slice_count ∷ decimal l.slept_at ∷
    decimal l.last ∷ decimal l.last_run ∷ optional_word l.bound ∷ optional_word l.parent ∷ lock_word l.word ∷ []

-- a CPU's line
abbrev pub cpu_words : ℕ → CpuLine → List (List ℕ)
cpu_words c l =
    codes "c" ∷ decimal c ∷ decimal l.idx ∷ decimal l.ridx ∷ flag_word l.resched ∷ flag_word l.slice_end ∷
    decimal l.switches ∷ decimal l.old_switches ∷ decimal l.balance ∷ []

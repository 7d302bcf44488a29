-- What a word of a trace spells: a number in its range, a keyword, or what may be absent.
use Rattle.std.specs.Prelude.{ℕ, ℤ, zero, suc, pos, negsuc, Bool, true, false, ◌&&◌, ◌==◌, nat_le, Option, Some, None, if◌then◌else◌, [], ◌∷◌, codes, bytes_eq}
use Rattle.std.specs.Option.{option_map}
use Rattle.ule_prio.specs.declared.class.Class.{Class}
use Rattle.ule_prio.specs.declared.class.Class.TheVariants as class
use Rattle.ule_prio.specs.declared.kind.Kind.{Kind}
use Rattle.ule_prio.specs.declared.kind.Kind.TheVariants as kind
use Rattle.ule_score.specs.declared.record.Why.{Why}
use Rattle.ule_score.specs.declared.record.Why.TheVariants.{Yield, Resched}
use Rattle.ule_text.specs.Words.{Word}
use Rattle.ule_text.specs.Numerals.{is_numeral, value_of_digits}
use Rattle.ule_types.specs.declared.event.MoveWhy.{MoveWhy}
use Rattle.ule_types.specs.declared.event.MoveWhy.TheVariants.{Steal, Balance}

-- ---- numbers

-- a number of at most this
abbrev pub up_to : ℕ → Word → Option ℕ
up_to most word = if is_numeral word && nat_le (value_of_digits word) most then Some (value_of_digits word) else None

-- the number of a CPU or worker, a thread, a priority, a bucket, a channel, a lock, and any other number
abbrev pub cpu : Word → Option ℕ
cpu word = up_to 15 word

abbrev pub thread : Word → Option ℕ
thread word = up_to 255 word

abbrev pub priority : Word → Option ℕ
priority word = up_to 255 word

abbrev pub bucket : Word → Option ℕ
bucket word = up_to 63 word

abbrev pub channel : Word → Option ℕ
channel word = up_to 65535 word

abbrev pub lock : Word → Option ℕ
lock word = up_to 24 word

abbrev pub amount : Word → Option ℕ
amount word = up_to 18446744073709551615 word

-- a number below 0 by what follows its minus; -0 is no number
abbrev pub below_zero : Option ℕ → Option ℤ
below_zero None = None
below_zero (Some zero) = None
below_zero (Some (suc n)) = Some (negsuc n)

-- a nice value: a minus (45) may stand before it
abbrev pub nice : Word → Option ℤ
nice [] = None
nice (b ∷ word) = if b == 45 then below_zero (up_to 20 word) else option_map pos (up_to 20 (b ∷ word))

-- the number of a worker, behind a w (119)
abbrev pub worker : Word → Option ℕ
worker [] = None
worker (b ∷ word) = if b == 119 then cpu word else None

-- ---- keywords

-- a word that is this one
abbrev pub keyword : Word → Word → Option (Unit {0})
keyword expected word = if bytes_eq word expected then Some tt else None

-- what may be absent
abbrev pub maybe : {A : Type 0} → (Word → Option A) → Word → Option (Option A)
maybe spells word = if bytes_eq word (codes "-") then Some None else option_map Some (spells word)

-- the lock that a thread's word names, or none where it is blocked
abbrev pub lock_name : Word → Option (Option ℕ)
lock_name word = if bytes_eq word (codes "b") then Some None else option_map Some (lock word)

abbrev pub flag : Word → Option Bool
flag word = if bytes_eq word (codes "1") then Some true else (if bytes_eq word (codes "0") then Some false else None)

abbrev pub kind_named : Word → Option Kind
kind_named word =
    if bytes_eq word (codes "real") then Some kind.Real else (
    if bytes_eq word (codes "batch") then Some kind.Batch else (
    if bytes_eq word (codes "idle") then Some kind.Idle else (
    None)))

abbrev pub class_named : Word → Option Class
class_named word =
    if bytes_eq word (codes "ithd") then Some class.Ithd else (
    if bytes_eq word (codes "rt") then Some class.Rt else (
    if bytes_eq word (codes "fifo") then Some class.Fifo else (
    if bytes_eq word (codes "ts") then Some class.Ts else (
    if bytes_eq word (codes "idle") then Some class.Idle else (
    None)))))

abbrev pub why_named : Word → Option Why
why_named word = if bytes_eq word (codes "yield") then Some Yield else (if bytes_eq word (codes "resched") then Some Resched else None)

abbrev pub move_why_named : Word → Option MoveWhy
move_why_named word = if bytes_eq word (codes "steal") then Some Steal else (if bytes_eq word (codes "balance") then Some Balance else None)

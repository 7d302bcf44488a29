-- What a written word of a trace is read as: a number in its range, a keyword, or what may be absent.
use Rattle.std.proofs.Common.{◌≡◌, ℕ, ◌<◌, ◌≤◌, ◌^◌, ℤ, pos, negsuc, suc, Bool, true, false, [], ◌∷◌, get_or, Option, Some, None, IfSome, refl, ap, ◌∙◌, arith}
use Rattle.std.specs.Prelude.{bytes_eq, codes}
use Rattle.std.specs.Option.{option_map}
use Rattle.std.specs.Fmt.{decimal, signed_decimal}
use Rattle.std.proofs.lemmas.Bool.{le-leb, ne_eqb}
use Rattle.std.proofs.lemmas.Int.{ints}
use Rattle.ule_prio.specs.declared.class.Class.{Class}
use Rattle.ule_prio.specs.declared.class.Class.TheVariants as class
use Rattle.ule_prio.specs.declared.kind.Kind.{Kind}
use Rattle.ule_prio.specs.declared.kind.Kind.TheVariants as kind
use Rattle.ule_score.specs.TimesharePriority.{IsNice}
use Rattle.ule_score.specs.declared.record.Why.{Why}
use Rattle.ule_score.specs.declared.record.Why.TheVariants.{Yield, Resched}
use Rattle.ule_text.specs.Words.{Word}
use Rattle.ule_text.proofs.Numbers.{decimal_inner, decimal_is_numeral, decimal_is_word, first_of_decimal, value_of_decimal}
use Rattle.ule_text.proofs.Printed.{first_differs, is_word, word_from}
use Rattle.ule_trace.specs.Fields.{amount, channel, class_named, cpu, flag, kind_named, lock_name, maybe, move_why_named, nice, thread, bucket, up_to, why_named, worker}
use Rattle.ule_trace.specs.EventText.{move_why_word, why_word}
use Rattle.ule_trace.specs.FinalText.{class_word, lock_word}
use Rattle.ule_trace.specs.Line.{flag_word, optional_word, worker_word}
use Rattle.ule_trace.specs.PlaceText.{kind_word}
use Rattle.ule_trace.specs.Ranges.{IsCpuIfAny, IsLockIfAny, IsThreadIfAny}
use Rattle.ule_types.specs.declared.event.MoveWhy.{MoveWhy}
use Rattle.ule_types.specs.declared.event.MoveWhy.TheVariants.{Steal, Balance}

-- ---- numbers

-- a number of at most this
pub up_to_back : (most n : ℕ) → n ≤ most → n < 2 ^ 64 → up_to most (decimal n) ≡ Some n
up_to_back most n within small = rw (decimal_is_numeral n small, value_of_decimal n small, le-leb n most within) refl

pub cpu_back : (c : ℕ) → c < 16 → cpu (decimal c) ≡ Some c
cpu_back c small = up_to_back 15 c (omega arith) (omega arith)

-- the number of a thread, and a priority
pub byte_back : (t : ℕ) → t < 256 → thread (decimal t) ≡ Some t
byte_back t small = up_to_back 255 t (omega arith) (omega arith)

pub bucket_back : (b : ℕ) → b < 64 → bucket (decimal b) ≡ Some b
bucket_back b small = up_to_back 63 b (omega arith) (omega arith)

pub channel_back : (c : ℕ) → c < 65536 → channel (decimal c) ≡ Some c
channel_back c small = up_to_back 65535 c (omega arith) (omega arith)

pub amount_back : (n : ℕ) → n < 2 ^ 64 → amount (decimal n) ≡ Some n
amount_back n small = up_to_back 18446744073709551615 n (omega arith) small

pub worker_back : (w : ℕ) → w < 16 → worker (worker_word w) ≡ Some w
worker_back w small = cpu_back w small

-- the first byte of a number is another one
pub no_keyword : (n d : ℕ) (v : Word) → n < 2 ^ 64 → 57 < d → bytes_eq (decimal n) (d ∷ v) ≡ false
no_keyword n d v small high = first_differs d (decimal n) v (λ e. omega (arith, first_of_decimal n small, e, high))

-- and no minus
minus_differs : (n : ℕ) → n < 2 ^ 64 → bytes_eq (decimal n) (codes "-") ≡ false
minus_differs n small = first_differs 45 (decimal n) [] (λ e. omega (arith, first_of_decimal n small, e))

-- a nice value without a minus
nice_plain : (w : Word) → 48 ≤ get_or w 0 0 → nice w ≡ option_map pos (up_to 20 w)
nice_plain [] digit = absurd (omega (arith, digit))
nice_plain (b ∷ w) digit = rw (ne_eqb b 45 (λ e. omega (arith, digit, e))) refl

pub nice_back : (z : ℤ) → IsNice z → nice (signed_decimal z) ≡ Some z
nice_back (pos n) small =
    let most : n ≤ 20 = omega (arith, ints, small.1) in
    nice_plain (decimal n) (first_of_decimal n (omega arith)).0 ∙ ap (option_map pos) (up_to_back 20 n most (omega arith))
nice_back (negsuc n) small =
    let most : n ≤ 19 = omega (arith, ints, small.0) in
    rw (up_to_back 20 (suc n) (omega arith) (omega arith)) refl

-- it is a word of a written line
pub nice_is_word : (z : ℤ) → IsNice z → is_word (signed_decimal z) ≡ true
nice_is_word (pos n) small =
    let most : n ≤ 20 = omega (arith, ints, small.1) in
    decimal_is_word n (omega arith)
nice_is_word (negsuc n) small =
    let most : n ≤ 19 = omega (arith, ints, small.0) in
    word_from 45 (decimal (suc n)) refl (decimal_inner (suc n) (omega arith))

-- ---- what may be absent

-- a number that may be absent, where it is read if it is there
maybe_back : (spells : Word → Option ℕ) (o : Option ℕ) → IfSome o (λ n. (n < 2 ^ 64) × (spells (decimal n) ≡ Some n)) → maybe spells (optional_word o) ≡ Some o
maybe_back spells None back = refl
maybe_back spells (Some n) back = rw (minus_differs n back.0, back.1) refl

pub cpu_if_any_back : (o : Option ℕ) → IsCpuIfAny o → maybe cpu (optional_word o) ≡ Some o
cpu_if_any_back None small = refl
cpu_if_any_back (Some c) small = maybe_back cpu (Some c) (omega arith, cpu_back c small)

pub byte_if_any_back : (o : Option ℕ) → IsThreadIfAny o → maybe thread (optional_word o) ≡ Some o
byte_if_any_back None small = refl
byte_if_any_back (Some t) small = maybe_back thread (Some t) (omega arith, byte_back t small)

pub lock_back : (o : Option ℕ) → IsLockIfAny o → lock_name (lock_word o) ≡ Some o
lock_back None small = refl
lock_back (Some l) small = rw (no_keyword l 98 [] (omega arith) (omega arith), up_to_back 24 l (omega arith) (omega arith)) refl

-- they are words of a written line
pub if_any_is_word : (o : Option ℕ) → IfSome o (λ n. n < 256) → is_word (optional_word o) ≡ true
if_any_is_word None small = refl
if_any_is_word (Some n) small = decimal_is_word n (omega arith)

pub cpu_if_any_is_word : (o : Option ℕ) → IsCpuIfAny o → is_word (optional_word o) ≡ true
cpu_if_any_is_word None small = refl
cpu_if_any_is_word (Some n) small = decimal_is_word n (omega arith)

pub lock_is_word : (o : Option ℕ) → IsLockIfAny o → is_word (lock_word o) ≡ true
lock_is_word None small = refl
lock_is_word (Some l) small = decimal_is_word l (omega arith)

pub worker_is_word : (w : ℕ) → w < 16 → is_word (worker_word w) ≡ true
worker_is_word w small = word_from 119 (decimal w) refl (decimal_inner w (omega arith))

-- ---- keywords

pub flag_back : (b : Bool) → flag (flag_word b) ≡ Some b
flag_back true = refl
flag_back false = refl

pub kind_back : (k : Kind) → kind_named (kind_word k) ≡ Some k
kind_back kind.Real = refl
kind_back kind.Batch = refl
kind_back kind.Idle = refl

pub class_back : (c : Class) → class_named (class_word c) ≡ Some c
class_back class.Ithd = refl
class_back class.Rt = refl
class_back class.Fifo = refl
class_back class.Ts = refl
class_back class.Idle = refl

pub why_back : (y : Why) → why_named (why_word y) ≡ Some y
why_back Yield = refl
why_back Resched = refl

pub move_why_back : (y : MoveWhy) → move_why_named (move_why_word y) ≡ Some y
move_why_back Steal = refl
move_why_back Balance = refl

-- they are words of a written line
pub flag_is_word : (b : Bool) → is_word (flag_word b) ≡ true
flag_is_word true = refl
flag_is_word false = refl

pub kind_is_word : (k : Kind) → is_word (kind_word k) ≡ true
kind_is_word kind.Real = refl
kind_is_word kind.Batch = refl
kind_is_word kind.Idle = refl

pub class_is_word : (c : Class) → is_word (class_word c) ≡ true
class_is_word class.Ithd = refl
class_is_word class.Rt = refl
class_is_word class.Fifo = refl
class_is_word class.Ts = refl
class_is_word class.Idle = refl

pub why_is_word : (y : Why) → is_word (why_word y) ≡ true
why_is_word Yield = refl
why_is_word Resched = refl

pub move_why_is_word : (y : MoveWhy) → is_word (move_why_word y) ≡ true
move_why_is_word Steal = refl
move_why_is_word Balance = refl

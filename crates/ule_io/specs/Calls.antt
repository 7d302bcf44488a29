-- The calls of a stream in memory, some of which are to fail.
use Rattle.std.specs.Prelude.{ℕ, List, Bool, nat_eq}
use Rattle.std.specs.List.{list_any}
use Rattle.ule_io.specs.Counter.{one_more}

-- how many calls were made, the numbers of those that fail, counted from 1, and how many faults there were
pub record CallRecord : Type 0 where
  pub made : ℕ
  pub fails : List ℕ
  pub faults : ℕ

-- before the first call
abbrev pub no_calls : List ℕ → CallRecord
no_calls fails = record { made = 0; fails = fails; faults = 0 }

-- whether the next call has a listed number
abbrev pub is_listed : CallRecord → Bool
is_listed c = list_any (λ n. nat_eq n (one_more c.made)) c.fails

-- after a call that did what it was to do
abbrev pub after_call : CallRecord → CallRecord
after_call c = record { made = one_more c.made; fails = c.fails; faults = c.faults }

-- after a call that failed
abbrev pub after_fault : CallRecord → CallRecord
after_fault c = record { made = one_more c.made; fails = c.fails; faults = one_more c.faults }

-- Reads of a source one after another: its end, one byte too many, and want of memory behind a read.
use Rattle.std.proofs.Common.{◌≡◌, ℕ, ◌+◌, ◌<◌, ◌≤◌, List, [], ◌++◌, length, take, Option, Some, None, Ok, Err, refl, sym, ap, ◌∙◌, append_assoc, arith}
use Rattle.std.specs.Prelude.{is_some}
use Rattle.std.proofs.lemmas.List.{append-nil, length-append, length-take-le}
use Rattle.ule_io.specs.Counter.{one_more}
use Rattle.ule_io.specs.Source.{SourceState, Gives, IsAtEnd, ReadAll, Reads, with_front}
use Rattle.ule_io.specs.declared.reading.ReadAllFault.TheVariants.{TooLong, Memory}

-- some bytes and then others
pub gives_both : (old mid new : Option (List ℕ)) (a b : List ℕ) → Gives old mid a → Gives mid new b → Gives old new (a ++ b)
gives_both old mid None a b e f = e ∙ ap (with_front a) f
gives_both old mid (Some rest) a b e f = e ∙ ap (with_front a) f ∙ ap (λ (xs : List ℕ). Some xs) (sym (append_assoc a b rest))

-- no bytes
gives_none : (x : Option (List ℕ)) → with_front [] x ≡ x
gives_none None = refl
gives_none (Some rest) = refl

-- what tells goes on telling
still_told : (x : Option (List ℕ)) (taken : List ℕ) → is_some x ≡ is_some (with_front taken x)
still_told None taken = refl
still_told (Some rest) taken = refl

-- at the end, what was taken is all that was told
all_taken : (x : Option (List ℕ)) (taken all : List ℕ) → Some all ≡ with_front taken x → IsAtEnd x → taken ≡ all
all_taken None taken all e end = cc
all_taken (Some rest) taken all e end =
    let same : all ≡ taken ++ rest = cc in
    sym (same ∙ ap (λ (xs : List ℕ). taken ++ xs) (end rest refl) ∙ append-nil taken)

-- what was taken is no longer than what was told
no_longer : (x : Option (List ℕ)) (taken all : List ℕ) → Some all ≡ with_front taken x → length taken ≤ length all
no_longer None taken all e = cc
no_longer (Some rest) taken all e = let same : all ≡ taken ++ rest = cc in rw (same, length-append taken rest) (omega arith)

-- how many bytes are taken with those of a read
pub taken_more : (old new : SourceState) (taken buf : List ℕ) (n : ℕ) → Reads old new buf n → length (taken ++ take n buf) ≡ length taken + n
taken_more old new taken buf n r = let fits = r.within in omega (arith, length-append taken (take n buf), length-take-le n buf fits)

-- a read at the end
pub read_to_end : (old mid new : SourceState) (limit left : ℕ) (taken buf : List ℕ) → Gives old.left mid.left taken → mid.faults ≡ old.faults → mid.ends ≡ old.ends → length taken + left ≡ limit →
    Reads mid new buf 0 → 0 < length buf → ReadAll old new limit (Ok taken)
read_to_end old mid new limit left taken buf given faults ends count r some =
    let whole : Gives old.left new.left taken = given ∙ ap (with_front taken) (r.given ∙ gives_none new.left) in
    record {
      whole = record { given = whole; end = r.end refl some; one_end = r.met_end refl some ∙ ap one_more ends; within = omega arith; all = λ all told. all_taken new.left taken all (sym told ∙ whole) (r.end refl some) };
      too_long = λ e. cc;
      more = λ all e. cc;
      memory = λ e. cc;
      failed = λ e. cc;
      fault_within = λ e. cc;
      else_kept = λ _. r.faults ∙ faults;
      no_end = λ fault e. cc;
      told = still_told new.left taken ∙ ap is_some (sym whole);
    }

-- a read of one byte too many
pub read_too_much : (old mid new : SourceState) (limit left n : ℕ) (taken buf : List ℕ) → Gives old.left mid.left taken → mid.faults ≡ old.faults → mid.ends ≡ old.ends → length taken + left ≡ limit →
    Reads mid new buf n → n ≡ left + 1 → ReadAll old new limit (Err TooLong)
read_too_much old mid new limit left n taken buf given faults ends count r over =
    let all_of = taken ++ take n buf in
    let whole : Gives old.left new.left all_of = gives_both old.left mid.left new.left taken (take n buf) given r.given in
    let long : length all_of ≡ limit + 1 = omega (arith, taken_more mid new taken buf n r, over) in
    record {
      whole = tt;
      too_long = λ e. (all_of, whole, long);
      more = λ all e told. omega (arith, no_longer new.left all_of all (sym told ∙ whole), long);
      memory = λ e. cc;
      failed = λ e. cc;
      fault_within = λ e. cc;
      else_kept = λ _. r.faults ∙ faults;
      no_end = λ fault e. r.else_open (omega (arith, over)) ∙ ends;
      told = still_told new.left all_of ∙ ap is_some (sym whole);
    }

-- want of memory behind a read
pub read_without_memory : (old mid new : SourceState) (limit left n : ℕ) (taken buf : List ℕ) → Gives old.left mid.left taken → mid.faults ≡ old.faults → mid.ends ≡ old.ends → length taken + left ≡ limit →
    Reads mid new buf n → n ≤ left + 1 → 0 < n → ReadAll old new limit (Err Memory)
read_without_memory old mid new limit left n taken buf given faults ends count r fits some =
    let all_of = taken ++ take n buf in
    let whole : Gives old.left new.left all_of = gives_both old.left mid.left new.left taken (take n buf) given r.given in
    let long : length all_of ≤ limit + 1 = omega (arith, taken_more mid new taken buf n r, fits) in
    record {
      whole = tt;
      too_long = λ e. cc;
      more = λ all e. cc;
      memory = λ e. (all_of, whole, long);
      failed = λ e. cc;
      fault_within = λ e. cc;
      else_kept = λ _. r.faults ∙ faults;
      no_end = λ fault e. r.else_open some ∙ ends;
      told = still_told new.left all_of ∙ ap is_some (sym whole);
    }

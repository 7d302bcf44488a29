-- A worked run of the tables: thread 1 at the tail of bucket 63, thread 2 at the tail of bucket 0, thread 3 at its head; then threads 3 and 2 are taken out.
use Rattle.std.proofs.Common.{◌≡◌, ◌≢◌, ℕ, ◌+◌, ◌^◌, ◌<◌, Some, List, [], replicate, slice_index, filter, not, ◌==◌, refl, sym, ◌∙◌, ap, ⊎_elim, arith}
use Rattle.std.proofs.lemmas.Bool.{cases_eq}
use Rattle.std.proofs.lemmas.Nat.Bits.{bit_at-pow_other, bit_at_cat_low, same_from_bits_below}
use Rattle.std.specs.Int.{bit_at}
use Rattle.ule_runq.proofs.RunqLaws.{list_at-empty, list_at-with_tail_other, list_at-with_head_other, list_at-without}
use Rattle.ule_runq.proofs.Spelled.{head_at, next_at, prev_at, tail_at}
use Rattle.ule_runq.specs.Links.{SpellsLists, bit_of}
use Rattle.ule_runq.specs.Runq.{list_at, with_tail, with_head, without, first_from, line_from, times}
use Rattle.ule_runq.specs.declared.links.Links.{Links}
use Rattle.ule_runq.specs.declared.runq.TheConstants.{RQ_NQS}

-- the three threads, filed
abbrev filed : List (List ℕ)
filed = with_head (with_tail (with_tail (replicate RQ_NQS []) 63 1) 0 2) 0 3

-- thread 1 alone, after the other two were taken out
abbrev left : List (List ℕ)
left = without 2 (without 3 filed)

-- the buckets between have no thread
filed_between : (b : ℕ) → b ≢ 0 → b ≢ 63 → list_at filed b ≡ []
filed_between b low high =
    list_at-with_head_other (with_tail (with_tail (replicate RQ_NQS []) 63 1) 0 2) 0 3 b low
    ∙ list_at-with_tail_other (with_tail (replicate RQ_NQS []) 63 1) 0 2 b low
    ∙ list_at-with_tail_other (replicate RQ_NQS []) 63 1 b high
    ∙ list_at-empty RQ_NQS b

-- the bits of the three threads
filed_bits : (b : ℕ) → b < 64 → bit_of (list_at filed b) ≡ bit_at (2 ^ 63 + 1) b
filed_bits b within =
    ⊎_elim
    (λ (low : b ≡ 0). rw low refl)
    (λ (some : b ≡ 0 → ⊥). ⊎_elim
    (λ (high : b ≡ 63). rw high refl)
    (λ (other : b ≡ 63 → ⊥).
    ap bit_of (filed_between b some other)
    ∙ sym (bit_at_cat_low 1 63 1 b (omega arith) ∙ bit_at-pow_other 0 b some))
    (cases_eq b 63))
    (cases_eq b 0)

-- the tables after the three were filed
module _ (l : Links) (fits : l.status < 2 ^ 64) (spells : SpellsLists l filed) where
  -- the status word
  status_filed : l.status ≡ 2 ^ 63 + 1
  status_filed = same_from_bits_below 64 l.status (2 ^ 63 + 1) fits (omega arith) (λ b below. spells.status b below ∙ filed_bits b below)

  -- heads and tails
  table_ends_filed : (slice_index l.head 0 ≡ 3) × (slice_index l.tail 0 ≡ 2) × (slice_index l.head 63 ≡ 1) × (slice_index l.tail 63 ≡ 1)
  table_ends_filed = (
    head_at l filed spells 0 (omega arith),
    tail_at l filed spells 0 (omega arith),
    head_at l filed spells 63 (omega arith),
    tail_at l filed spells 63 (omega arith),
  )

  -- next and prev
  links_filed : (slice_index l.next 3 ≡ 2) × (slice_index l.next 2 ≡ 256) × (slice_index l.prev 2 ≡ 3)
  links_filed = (
    next_at l filed spells 0 0 (omega arith) (omega arith),
    next_at l filed spells 0 1 (omega arith) (omega arith),
    prev_at l filed spells 0 (omega arith) 1 (omega arith),
  )

-- the choice goes round
choice_filed : (first_from filed 1 ≡ Some (63, 1)) × (first_from filed 0 ≡ Some (0, 3))
unfolding line_from
choice_filed = (refl, refl)

-- the bit of the thread that is left
left_bits : (b : ℕ) → b < 64 → bit_of (list_at left b) ≡ bit_at (2 ^ 63) b
left_bits b within =
    ⊎_elim
    (λ (low : b ≡ 0). rw low refl)
    (λ (some : b ≡ 0 → ⊥). ⊎_elim
    (λ (high : b ≡ 63). rw high refl)
    (λ (other : b ≡ 63 → ⊥).
    let third = list_at-without 3 filed b ∙ ap (λ xs. filter (λ u. not (u == 3)) xs) (filed_between b some other) in
    ap bit_of (list_at-without 2 (without 3 filed) b ∙ ap (λ xs. filter (λ u. not (u == 2)) xs) third)
    ∙ sym (bit_at-pow_other 63 b other))
    (cases_eq b 63))
    (cases_eq b 0)

-- the tables after two of them were taken out
module _ (l : Links) (fits : l.status < 2 ^ 64) (spells : SpellsLists l left) where
  -- the status word
  status_left : l.status ≡ 2 ^ 63
  status_left = same_from_bits_below 64 l.status (2 ^ 63) fits (omega arith) (λ b below. spells.status b below ∙ left_bits b below)

  -- the head of bucket 0, and the bucket of thread 3
  ends_left : (slice_index l.head 0 ≡ 256) × (slice_index l.bucket 3 ≡ 256)
  unfolding times
  ends_left = (head_at l left spells 0 (omega arith), spells.free 3 (omega arith) refl)

-- thread 1 is chosen from bucket 0 on
choice_left : first_from left 0 ≡ Some (63, 1)
unfolding line_from
choice_left = refl

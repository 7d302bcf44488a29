-- The counts of entries, one entry after another.
use Rattle.std.proofs.Common.{◌≡◌, ◌+◌, ◌-◌, ◌<◌, ℕ, Bool, cond, List, length, take, Some, ◌∙◌, ap, arith}
use Rattle.std.specs.Prelude.{slice_get}
use Rattle.std.proofs.lemmas.List.Filters.{length-filter_more}
use Rattle.std.proofs.lemmas.Option.{get_or_from_slice_get}
use Rattle.ule_top.specs.Summary.{count_of}
use Rattle.ule_types.specs.declared.event.Entry.{Entry}
use Rattle.ule_types.specs.declared.event.Reply.{Reply}

-- the count with one more entry
pub count_more : (is_such : Reply → Bool) (es : List Entry) (k : ℕ) (e : Entry) → k < length es → slice_get es (k + 1 - 1) ≡ Some e →
    count_of is_such (take (k + 1) es) ≡ count_of is_such (take k es) + cond (is_such e.reply) 1 0
count_more is_such es k e within is =
    length-filter_more (λ x. is_such x.reply) es k e within
    ∙ ap (λ (x : Entry). count_of is_such (take k es) + cond (is_such x.reply) 1 0) (get_or_from_slice_get es k e e (let same : k + 1 - 1 ≡ k = omega arith in rw same at is))

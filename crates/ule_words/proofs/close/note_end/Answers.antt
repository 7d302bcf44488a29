use Rattle.std.proofs.Common.{◌≤◌, sym, subst, ◌∙◌, arith}
use Rattle.std.specs.Slots.{slots_items}
use Rattle.ule_words.specs.Ends.{AreThreadsWords, values_noted, words_noted}
use Rattle.ule_words.specs.Merge.{in_order}
use Rattle.ule_words.proofs.Merges.{in_order_length}
use Rattle.ule_words.proofs.Noting.{history_noted}
use Rattle.ule_words.proofs.Places.{at_get, get_or_is}
use Rattle.ule_words.proofs.close.note_end.Goals as goal

pub note_entries-requires-clause-dealt : goal.note_entries-requires-clause-dealt
note_entries-requires-clause-dealt g c = let s = c.requires.lies.0 in let k = c.requires.lies.1 in
    (in_order s.history, k.dealt, in_order_length s.history ∙ (sym k.ticket ∙ (sym k.words.ticket ∙ get_or_is (slots_items c.args.closed.now.words) 281 c.word-count.result 0 (at_get (slots_items c.args.closed.now.words) 281 c.word-count.result c.word-count.ensures))))

pub note_entries-requires-clause-room : goal.note_entries-requires-clause-room
note_entries-requires-clause-room g c = let s = c.requires.lies.0 in let k = c.requires.lies.1 in
    let e = sym k.words.ticket ∙ get_or_is (slots_items c.args.closed.now.words) 281 c.word-count.result 0 (at_get (slots_items c.args.closed.now.words) 281 c.word-count.result c.word-count.ensures) in
    let few = k.few in let room = c.requires.room in subst (λ z. z ≤ (g.P.Parts.notes c.args.parts.now).room c.args.out.now) e (omega arith)

pub note_words-requires-clause-words : goal.note_words-requires-clause-words
note_words-requires-clause-words g c = let s = c.requires.lies.0 in let k = c.requires.lies.1 in
    (s.words, subst (λ z. AreThreadsWords (slots_items z) s.words) (sym c.note_values.ensures.words) (record { each = k.words.threads; low = k.low }))

pub returns-clause-noted : goal.returns-clause-noted
returns-clause-noted g c = λ s k. let n = g.P.Parts.notes c.args.parts.now in let out = c.args.out.now in let found = slots_items c.args.closed.now.words in
    let count = in_order_length s.history ∙ (sym k.ticket ∙ (sym k.words.ticket ∙ get_or_is found 281 c.word-count.result 0 (at_get (slots_items c.args.closed.now.words) 281 c.word-count.result c.word-count.ensures))) in
    let now = sym (get_or_is found 282 c.word-now.result 0 (at_get (slots_items c.args.closed.now.words) 282 c.word-now.result c.word-now.ensures)) ∙ k.words.now in
    let entries = c.note_entries.ensures.noted (in_order s.history) k.dealt count ∙ history_noted n s.history out in
    let values = c.note_values.ensures.noted s.values k.slots in
    let words = c.note_words.ensures s.words (subst (λ z. AreThreadsWords (slots_items z) s.words) (sym c.note_values.ensures.words) (record { each = k.words.threads; low = k.low })) in
    c.note_now.ensures ∙ ((λ i. n.now (words i) (now i)) ∙ (λ i. n.now (words_noted n 256 s.words (values i)) s.now) ∙ (λ i. n.now (words_noted n 256 s.words (values_noted n 0 s.values (entries i))) s.now))

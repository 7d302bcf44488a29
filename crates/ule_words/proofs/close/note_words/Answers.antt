use Rattle.std.proofs.Common.{◌≡◌, ◌≤◌, ◌+◌, sym, subst, ◌∙◌, arith}
use Rattle.std.specs.Slots.{slots_items}
use Rattle.ule_words.specs.Rule.{thread_word}
use Rattle.ule_words.proofs.Noting.{named_lock, no_words, one_more_word}
use Rattle.ule_words.proofs.Places.{at_get, get_or_is}
use Rattle.ule_words.proofs.Shown.{low_number}
use Rattle.ule_words.proofs.close.note_words.Goals as goal

pub loop-t-init : goal.loop-t-init
loop-t-init g c = (omega arith, λ words are. sym (no_words (g.P.Parts.notes c.args.parts.now) words c.args.out.now))

pub lock_in-requires : goal.lock_in-requires
lock_in-requires g c = let words = c.requires.words.0 in let are = c.requires.words.1 in let t = c.loop-t.t in let found = c.word-found.result in
    let e : found ≡ thread_word (words t) = sym (get_or_is (slots_items c.args.closed.now.words) (25 + t) found 0 (at_get (slots_items c.args.closed.now.words) (25 + t) found c.word-found.ensures)) ∙ are.each t c.loop-t-test.true in
    let low = low_number (words t) (are.low t) in subst (λ z. z ≤ 25) (sym e) low

pub loop-t-preserved : goal.loop-t-preserved
loop-t-preserved g c = let n = g.P.Parts.notes c.args.parts.now in let t = c.loop-t.t in let found = c.word-found.result in (
  (let a = c.loop-t-test.true in omega arith),
  λ words are. let e : found ≡ thread_word (words t) = sym (get_or_is (slots_items c.args.closed.now.words) (25 + t) found 0 (at_get (slots_items c.args.closed.now.words) (25 + t) found c.word-found.ensures)) ∙ are.each t c.loop-t-test.true in
      let word = named_lock (words t) found c.lock_in.result e c.lock_in.ensures.blocked c.lock_in.ensures.named in
      c.note_word.ensures ∙ ((λ i. n.word (c.loop-t.invariant.1 words are i) t (word i)) ∙ sym (one_more_word n t words c.args.out.now)),
)

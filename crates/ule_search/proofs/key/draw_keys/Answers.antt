use Rattle.std.proofs.Common.{◌≡◌, ℕ, ℤ, ◌+◌, ◌*◌, arith, rules, ◌∙◌, ap, refl, map, replicate, pos, ◌-ℤ◌, subst, take, w64, SFits, length-set}
use Rattle.std.proofs.lemmas.Int.{to_z-of_z}
use Rattle.ule_topo.specs.Mask.{below}
use Rattle.ule_search.specs.Jitter.{draw_of_word, stepped_word}
use Rattle.ule_search.specs.Search.{key_of}
use Rattle.ule_search.proofs.KeyLaws.{fit_more, key_made, noted_more, noted_none, word_more, word_none}
use Rattle.ule_search.proofs.key.draw_keys.Goals as goal

pub loop-c-init : goal.loop-c-init
loop-c-init c = record { keys = noted_none _ (replicate 16 (pos 0)); word = word_none c.args.j.now.word; long = refl; fit = λ i none. absurd (omega arith) }

pub loop-c-preserved : goal.loop-c-preserved
loop-c-preserved c =
    let fits : SFits w64 c.key.result = search rules in
    let made = key_made c.args.looks.now c.args.prefer c.args.j.now.word c.loop-c.c c.loop-c.j.word c.at-seen.result c.key.result c.at-seen.ensures c.loop-c.invariant.word
    (c.key.ensures.number
    ∙ ap (λ n. pos (c.at-seen.result.load * 256) -ℤ pos (n + c.preference.result)) c.draw.ensures.number
    ∙ ap (λ n. pos (c.at-seen.result.load * 256) -ℤ pos (draw_of_word (stepped_word c.loop-c.j.word) + n)) c.preference.ensures.less) in
    rw (to_z-of_z w64 c.key.result fits, c.from.ensures, c.draw.ensures.word) (record {
      keys = noted_more _ c.loop-c.keys c.loop-c.c c.key.result (omega arith) made c.loop-c.invariant.keys;
      word = word_more c.loop-c.c c.args.j.now.word c.loop-c.j.word c.loop-c.invariant.word;
      long = length-set c.loop-c.keys c.loop-c.c c.key.result ∙ c.loop-c.invariant.long;
      fit = fit_more c.loop-c.c c.loop-c.keys c.key.result (omega arith) (c.key.ensures.low, c.key.ensures.high) c.loop-c.invariant.fit;
    })

pub returns-clause-keys : goal.returns-clause-keys
returns-clause-keys c =
    let key : ℕ → ℤ = key_of c.args.looks.now c.args.prefer c.args.j.now.word in
    subst (λ (n : ℕ). take n c.loop-c.keys ≡ map key (below n)) (omega arith) c.loop-c.invariant.keys

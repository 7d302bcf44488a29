use Rattle.std.proofs.Common.{◌≡◌, ℕ, ◌<◌, length, map, take}
use Rattle.ule_topo.specs.Mask.{below}
use Rattle.ule_search.specs.Jitter.{word_after_steps}
use Rattle.ule_search.specs.Search.{key_at, key_of}
use Rattle.ule_search.proofs.KeyLaws.{IsKey}
use Rattle.ule_search.proofs.key.draw_keys.Given as goal

-- the keys so far
abbrev pub invariant-loop-c : goal.invariant-loop-c
invariant-loop-c l = record {
  keys : take l.c l.keys ≡ map (key_of l.looks l.prefer l.initial.j.word) (below l.c);
  word : l.j.word ≡ word_after_steps l.c l.initial.j.word;
  long : length l.keys ≡ 16;
  fit : (i : ℕ) → i < l.c → IsKey (key_at l.keys i);
}

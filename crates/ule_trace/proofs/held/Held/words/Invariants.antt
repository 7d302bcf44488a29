use Rattle.std.proofs.Common.{◌≡◌, ◌+◌, ◌*◌, ◌≤◌, ◌∷◌, ◌++◌, length, take}
use Rattle.std.specs.List.{flat_map}
use Rattle.ule_trace.specs.Word.{word_text}
use Rattle.ule_trace.proofs.held.Held.words.Given as goal

-- the words so far stand behind what was held
abbrev pub invariant-loop-w : goal.invariant-loop-w
invariant-loop-w l = record {
  text : l.self ≡ l.initial.self ++ flat_map (λ w. 32 ∷ word_text w) (take l.w-index l.words);
  growth : length l.self ≤ length l.initial.self + 25 * l.w-index;
}

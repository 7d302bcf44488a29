use Rattle.std.proofs.Common.{◌≡◌}
use Rattle.std.specs.Prelude.{slice_set}
use Rattle.ule_gen.specs.Generated.{commands, word_behind}
use Rattle.ule_gen.proofs.setup.write_script.Given as goal

abbrev pub invariant-loop-k : goal.invariant-loop-k
invariant-loop-k l = (l.scripts ≡ slice_set l.fn.scripts l.worker (commands l._k l.first)) × (l.word ≡ word_behind l._k l.first)

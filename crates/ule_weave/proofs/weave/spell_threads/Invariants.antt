use Rattle.std.proofs.Common.{◌+◌, ◌*◌, ◌≤◌, length, codes, take}
use Rattle.std.specs.List.{filter_map}
use Rattle.ule_micro.specs.States.{word_of}
use Rattle.ule_weave.proofs.Listing.{Listed}
use Rattle.ule_weave.specs.TurnText.{thread_told}
use Rattle.ule_weave.specs.WeaveText.{places_in}
use Rattle.ule_weave.proofs.weave.spell_threads.Given as goal

abbrev pub invariant-loop-t : goal.invariant-loop-t
invariant-loop-t l = record {
  listed : Listed l.fn.held (codes "threads") l.held (filter_map (thread_told (word_of l.m.state) (places_in l.m.parts l.m.state)) (take l.t-index l.threads)) l.any;
  room : length l.held ≤ length l.fn.held + 7 + 22 * l.t-index;
}

use Rattle.std.proofs.Common.{◌+◌, ◌*◌, ◌≤◌, length, codes}
use Rattle.std.specs.List.{filter_map, range_with_len}
use Rattle.ule_micro.specs.States.{lock_holder}
use Rattle.ule_weave.specs.TurnText.{held_word}
use Rattle.ule_weave.proofs.Listing.{Listed}
use Rattle.ule_weave.proofs.stand.spell_locks.Given as goal

abbrev pub invariant-loop-l : goal.invariant-loop-l
invariant-loop-l g l = record {
  listed : Listed l.fn.held (codes "locks") l.held (filter_map (λ k. held_word k (lock_holder l.m.state k)) (range_with_len 0 l.l)) l.any;
  room : length l.held ≤ length l.fn.held + 5 + 8 * l.l;
}

use Rattle.std.proofs.Common.{refl}
use Rattle.std.proofs.Math.Dec.{ltb}
use Rattle.std.proofs.lemmas.Bool.{ltb-true}
use Rattle.std.proofs.lemmas.List.Sums.{AllPass-from_list_all}
use Rattle.ule_micro_turns.specs.declared.rows.TheConstants.{NAP_WORKERS, SHIFT_WORKERS}
use Rattle.ule_micro_turns.proofs.rows.print_rows.Goals as goal

pub print_play-requires : goal.print_play-requires
print_play-requires g c = λ k d few. ltb-true _ 2 (AllPass-from_list_all (λ w. ltb w 2) NAP_WORKERS refl k d few)

pub print_play-requires-2 : goal.print_play-requires-2
print_play-requires-2 g c = λ k d few. ltb-true _ 2 (AllPass-from_list_all (λ w. ltb w 2) SHIFT_WORKERS refl k d few)

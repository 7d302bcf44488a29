use Rattle.ule_micro_rows.specs.Nap.{nap_means}
use Rattle.ule_words_rows.proofs.Lists.{first_of_two, second_of_two}
use Rattle.ule_words_rows.proofs.nap.start.Goals as goal

pub returns-clause-first : goal.returns-clause-first
returns-clause-first c = first_of_two nap_means c.in_ok-locks.locks.table.shared.table_id c.in_ok-locks.passes.list.items _ _ c.in-Some-pop.first c.in-Some.second c.in_ok-locks.ensures.passes c.in-Some.ensures.items c.in-Some-pop.ensures.items

pub returns-clause-second : goal.returns-clause-second
returns-clause-second c = second_of_two nap_means c.in_ok-locks.locks.table.shared.table_id c.in_ok-locks.passes.list.items _ _ c.in-Some-pop.first c.in-Some.second c.in_ok-locks.ensures.passes c.in-Some.ensures.items c.in-Some-pop.ensures.items

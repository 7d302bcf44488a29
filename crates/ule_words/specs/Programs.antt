-- Where the worker of a pass stands in its program.
use Rattle.std.specs.Prelude.{List}
use Rattle.ule_micro.specs.Means.{Means}
use Rattle.ule_micro.specs.Standings.{Standing}
use Rattle.ule_words.specs.Passes.{PassState}
use Rattle.ule_words.specs.Workers.{entries_in}

module _ {H O G E R C : Type 0} (m : Means H O G E R C) where
  -- stands at: what the own part of a pass keeps where its worker stands, when these are the commands that it was given, the newest first, and its entries are its own
  abbrev pub StandsAt : List C → PassState O H G E R → Standing E R → Type 0
  StandsAt given p standing = m.stands (record { given = given; mine = entries_in p.worker.mine }) p.own standing

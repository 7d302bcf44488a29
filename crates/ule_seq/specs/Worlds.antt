-- The fields of a world as one value, and what they keep.
use Rattle.std.specs.Prelude.{◌≤◌, vec_len, IsTrue}
use Rattle.ule_model.specs.WorldValue.{IsShown, WorldValue}
use Rattle.ule_score.specs.Settings.{are_settings}
use Rattle.ule_seq.specs.declared.world.World.TheInside.{Inside}

-- the value that clauses see
abbrev pub world_value : Inside → WorldValue
world_value w = record { settings = w.settings; values = w.values.items; hands = w.hands.items }

-- what the fields keep: they are the value of some world
pub record KeepsWorld (w : Inside) : Type 0 where
  pub settings : IsTrue (are_settings w.settings)
  pub workers : vec_len w.hands ≤ 16
  pub shown : IsShown (world_value w)

-- What a look at a CPU is answered.
use Rattle.std.specs.Prelude.{◌≡◌, ℕ}
use Rattle.ule_types.specs.declared.event.Reply.{Reply}
use Rattle.ule_types.specs.declared.event.Reply.TheVariants.{Seen}
use Rattle.ule_program.specs.Hearing.{IsSmallLook}

-- has seen: the reply is one to a look, with a load and a movable count that are small
pub record HasSeen (r : Reply) : Type 0 where
  pub load : ℕ
  pub movable : ℕ
  pub low : ℕ
  pub is : r ≡ Seen load movable low
  pub small : IsSmallLook r

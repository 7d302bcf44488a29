-- The front of a word as its fields have it.
use Rattle.ule_text.specs.WordFront.{WordFront}
use Rattle.ule_text.specs.declared.front.Front.TheInside.{Inside}

-- the front that the fields show
abbrev pub front_kept : Inside → WordFront
front_kept a = record { first = a.first.items; longer = a.longer }

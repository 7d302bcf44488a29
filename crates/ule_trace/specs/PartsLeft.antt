-- The parts that are left, as the fields have them.
use Rattle.std.specs.Prelude.{List, [], if◌then◌else◌}
use Rattle.ule_text.specs.Words.{Word}
use Rattle.ule_trace.specs.Parts.{parts_at}
use Rattle.ule_trace.specs.declared.parts.Parts.TheInside.{Inside}

-- the parts that the fields show
abbrev pub parts_left : Inside → List Word
parts_left p = if p.more then parts_at p.separator p.rest.now else []

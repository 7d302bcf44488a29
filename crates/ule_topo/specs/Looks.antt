-- What the looks of a command saw.
use Rattle.std.specs.Prelude.{ℕ, List, take, slice_index_or}
use Rattle.ule_topo.specs.declared.look.Looks.TheInside.{Inside}
use Rattle.ule_topo.specs.declared.look.Summary.{Summary}

-- what the looks saw, in the order of the looks
abbrev pub looks_kept : Inside → List Summary
looks_kept l = take l.n l.seen

-- a CPU without threads, as a look sees it
abbrev pub empty_summary : Summary
empty_summary = record { load = 0; movable = 0; lowpri = 255 }

-- what the look at a CPU saw
abbrev pub look_at : List Summary → ℕ → Summary
look_at looks c = slice_index_or looks c empty_summary

-- The numbers of the faults of group lines.
use Rattle.std.specs.Prelude.{ℕ}
use Rattle.ule_topo.specs.declared.fault.TopoFault.{TopoFault}
use Rattle.ule_topo.specs.declared.fault.TopoFault.TheVariants.{NoRoot, BadParent, OutsideParent, Overlap, TooDeep, BadId}

-- the number of a fault
abbrev pub code_of_fault : TopoFault → ℕ
code_of_fault NoRoot = 1
code_of_fault BadParent = 2
code_of_fault OutsideParent = 3
code_of_fault Overlap = 4
code_of_fault TooDeep = 5
code_of_fault BadId = 6

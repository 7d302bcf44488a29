-- Worked values of topologies and of their faults, by computing.
use Rattle.std.proofs.Common.{◌≡◌, ℕ, Option, Some, None, Ok, Err, List, [], ◌∷◌, refl}
use Rattle.ule_topo.specs.Build.{built, built_behind, group_of_line}
use Rattle.ule_topo.specs.Faults.{code_of_fault}
use Rattle.ule_topo.specs.Mask.{below, has_cpu, is_inside, meets, without_cpu}
use Rattle.ule_topo.specs.Tree.{deepest, outward}
use Rattle.ule_topo.specs.declared.group.Group.{Group}
use Rattle.ule_topo.specs.declared.group.GroupLine.{GroupLine}
use Rattle.ule_topo.specs.declared.fault.TopoFault.TheVariants.{NoRoot, BadParent, OutsideParent, Overlap, TooDeep, BadId}

-- a line with its number, its parent's number and its mask
abbrev line : ℕ → Option ℕ → ℕ → GroupLine
line id parent cpus = record { id = id; parent = parent; cpus = cpus }

-- a group with its number, its parent's place, its mask and its depth
abbrev group : ℕ → Option ℕ → ℕ → ℕ → Group
group id parent cpus depth = record { id = id; parent = parent; cpus = cpus; depth = depth }

-- CPUs 0 and 1, and 2 and 3, in a root; and CPU 2 alone in the second pair
abbrev pairs : List Group
pairs = group 7 None 15 1 ∷ group 3 (Some 0) 3 2 ∷ group 5 (Some 0) 12 2 ∷ group 9 (Some 2) 4 3 ∷ []

-- lines make groups in their order, whose numbers need not be their places
builds : built 4 (line 7 None 15 ∷ line 3 (Some 7) 3 ∷ line 5 (Some 7) 12 ∷ line 9 (Some 5) 4 ∷ []) ≡ Ok (record { cpus = 4; groups = pairs })
unfolding built_behind group_of_line is_inside meets
builds = refl

-- without lines there is one root of all CPUs
no_lines : built 4 [] ≡ Ok (record { cpus = 4; groups = group 0 None 15 1 ∷ [] })
no_lines = refl

-- the innermost group of each CPU, and the way outward from there
ways :
    (deepest (record { cpus = 4; groups = pairs }) 1 ≡ 1) × (outward (record { cpus = 4; groups = pairs }) 1 1 ≡ 1 ∷ 0 ∷ []) ×
    (deepest (record { cpus = 4; groups = pairs }) 2 ≡ 3) × (outward (record { cpus = 4; groups = pairs }) 2 3 ≡ 3 ∷ 2 ∷ 0 ∷ []) ×
    (deepest (record { cpus = 4; groups = pairs }) 3 ≡ 2) × (outward (record { cpus = 4; groups = pairs }) 3 2 ≡ 2 ∷ 0 ∷ [])
unfolding below has_cpu
ways = (refl, refl, refl, refl, refl, refl)

-- CPU 1 is taken out of CPUs 0 to 3; taking out one that isn't in changes nothing
masks : (without_cpu 1 15 ≡ 13) × (without_cpu 1 13 ≡ 13)
unfolding without_cpu
masks = (refl, refl)

-- two groups of the same CPU in one group: fault 4 of the line at place 2
overlap : (built 2 (line 0 None 3 ∷ line 1 (Some 0) 1 ∷ line 2 (Some 0) 1 ∷ []) ≡ Err (record { line = 2; fault = Overlap })) × (code_of_fault Overlap ≡ 4)
unfolding built_behind group_of_line is_inside meets
overlap = (refl, refl)

-- a first line that is no root: it has a parent, or it lacks a CPU
no_root :
    (built 2 (line 0 (Some 0) 3 ∷ []) ≡ Err (record { line = 0; fault = NoRoot })) ×
    (built 2 (line 0 None 1 ∷ []) ≡ Err (record { line = 0; fault = NoRoot })) × (code_of_fault NoRoot ≡ 1)
unfolding built_behind group_of_line
no_root = (refl, refl, refl)

-- a number above 14 or that was used, which comes before every other fault of the line
bad_id :
    (built 2 (line 15 None 1 ∷ []) ≡ Err (record { line = 0; fault = BadId })) ×
    (built 2 (line 0 None 3 ∷ line 0 None 1 ∷ []) ≡ Err (record { line = 1; fault = BadId })) × (code_of_fault BadId ≡ 6)
unfolding built_behind group_of_line
bad_id = (refl, refl, refl)

-- later lines without a parent, and with one that no earlier line has
bad_parent :
    (built 2 (line 0 None 3 ∷ line 1 None 1 ∷ []) ≡ Err (record { line = 1; fault = BadParent })) ×
    (built 2 (line 0 None 3 ∷ line 1 (Some 1) 1 ∷ []) ≡ Err (record { line = 1; fault = BadParent })) × (code_of_fault BadParent ≡ 2)
unfolding built_behind group_of_line
bad_parent = (refl, refl, refl)

-- a CPU outside the parent, which comes before an overlap
outside :
    (built 2 (line 0 None 3 ∷ line 1 (Some 0) 1 ∷ line 2 (Some 1) 3 ∷ []) ≡ Err (record { line = 2; fault = OutsideParent })) × (code_of_fault OutsideParent ≡ 3)
unfolding built_behind group_of_line is_inside meets
outside = (refl, refl)

-- a parent of depth 4, the root being of depth 1
too_deep :
    (built 2 (line 0 None 3 ∷ line 1 (Some 0) 3 ∷ line 2 (Some 1) 3 ∷ line 3 (Some 2) 1 ∷ line 4 (Some 3) 1 ∷ []) ≡ Err (record { line = 4; fault = TooDeep })) ×
    (code_of_fault TooDeep ≡ 5)
unfolding built_behind group_of_line is_inside meets
too_deep = (refl, refl)

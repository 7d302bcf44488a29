-- How group lines make a topology, and the first fault that they have.
use Rattle.std.specs.Prelude.{ℕ, ◌+◌, Bool, false, not, nat_lt, nat_le, ◌==◌, ◌&&◌, ◌||◌, Option, Some, None, is_some, is_none, Result, Ok, Err, List, [], ◌∷◌, ◌++◌, length, position, slice_get, if◌then◌else◌}
use Rattle.std.specs.List.{list_any}
use Rattle.ule_topo.specs.Mask.{all_cpus, is_inside, meets}
use Rattle.ule_topo.specs.Tree.{Tree}
use Rattle.ule_topo.specs.declared.group.Group.{Group}
use Rattle.ule_topo.specs.declared.group.GroupLine.{GroupLine}
use Rattle.ule_topo.specs.declared.fault.BuildFault.{BuildFault}
use Rattle.ule_topo.specs.declared.fault.TopoFault.{TopoFault}
use Rattle.ule_topo.specs.declared.fault.TopoFault.TheVariants.{NoRoot, BadParent, OutsideParent, Overlap, TooDeep, BadId}

-- the place of the group with a number
abbrev pub place_of_id : ℕ → List Group → Option ℕ
place_of_id id groups = position (λ k. k.id == id) groups

-- whether a parent is the group at a place
abbrev pub is_parent : ℕ → Option ℕ → Bool
is_parent p None = false
is_parent p (Some q) = q == p

-- whether one of some CPUs is in a group that lies in the one at a place
abbrev pub overlaps : ℕ → ℕ → List Group → Bool
overlaps p cpus groups = list_any (λ k. is_parent p k.parent && meets k.cpus cpus) groups

-- the group of the first line: the root of all CPUs
abbrev pub root_of_line : ℕ → GroupLine → Result Group TopoFault
root_of_line cpus l =
    if is_none l.parent && (l.cpus == all_cpus cpus) then Ok (record { id = l.id; parent = None; cpus = l.cpus; depth = 1 }) else Err NoRoot

-- the group of a line in its parent, which stands at this place
abbrev pub group_in : Group → ℕ → List Group → GroupLine → Result Group TopoFault
group_in parent p groups l =
    if not (is_inside l.cpus parent.cpus) then Err OutsideParent
    else if overlaps p l.cpus groups then Err Overlap
    else if nat_le 4 parent.depth then Err TooDeep
    else Ok (record { id = l.id; parent = Some p; cpus = l.cpus; depth = parent.depth + 1 })

-- the group of a line in the parent at this place, if one stands there
abbrev pub group_in_found : ℕ → Option Group → List Group → GroupLine → Result Group TopoFault
group_in_found p None groups l = Err BadParent
group_in_found p (Some parent) groups l = group_in parent p groups l

-- the group of a line in the parent whose place was found, if it was
abbrev pub group_at_place : Option ℕ → List Group → GroupLine → Result Group TopoFault
group_at_place None groups l = Err BadParent
group_at_place (Some p) groups l = group_in_found p (slice_get groups p) groups l

-- the group of a later line, whose parent has this number
abbrev pub child_of_line : Option ℕ → List Group → GroupLine → Result Group TopoFault
child_of_line None groups l = Err BadParent
child_of_line (Some id) groups l = group_at_place (place_of_id id groups) groups l

-- the group of a line behind the groups of the lines before it, or the line's first fault
unfoldable pub group_of_line : ℕ → List Group → GroupLine → Result Group TopoFault
group_of_line cpus groups l =
    if nat_lt 14 l.id || is_some (place_of_id l.id groups) then Err BadId
    else if length groups == 0 then root_of_line cpus l
    else child_of_line l.parent groups l

-- the topology of some lines behind the groups of those before them, or the first fault
unfoldable pub built_behind : ℕ → List Group → List GroupLine → Result Tree BuildFault
built_behind cpus groups [] = Ok (record { cpus = cpus; groups = groups })
built_behind cpus groups (l ∷ ls) =
    elim (group_of_line cpus groups l) as (λ _. Result Tree BuildFault) [
      | Ok k ↦ built_behind cpus (groups ++ k ∷ []) ls
      | Err f ↦ Err (record { line = length groups; fault = f })
    ]

-- the root where no line is given
abbrev pub lone_root : ℕ → Group
lone_root cpus = record { id = 0; parent = None; cpus = all_cpus cpus; depth = 1 }

-- the topology of group lines, or the first fault
abbrev pub built : ℕ → List GroupLine → Result Tree BuildFault
built cpus [] = Ok (record { cpus = cpus; groups = lone_root cpus ∷ [] })
built cpus (l ∷ ls) = built_behind cpus [] (l ∷ ls)

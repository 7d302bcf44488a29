-- How the table of a topology is kept: the groups in front, and blanks behind them.
use Rattle.std.specs.Prelude.{◌≡◌, ◌-◌, ◌≤◌, ◌++◌, length, take, drop, replicate}
use Rattle.ule_topo.specs.Tree.{Tree, IsTree, no_group}
use Rattle.ule_topo.specs.declared.topology.Topology.TheInside.{Inside}

-- the topology of a table
abbrev pub tree_kept : Inside → Tree
tree_kept t = record { cpus = t.cpus; groups = take t.len t.table }

-- the table of a topology
abbrev pub table_of : Tree → Inside
table_of t = record { cpus = t.cpus; len = length t.groups; table = t.groups ++ replicate (15 - length t.groups) no_group }

-- what every table keeps: 1 to 16 CPUs, and 1 to 15 groups that are a tree
pub record IsTable (t : Inside) : Type 0 where
  pub one : 1 ≤ t.cpus
  pub sixteen : t.cpus ≤ 16
  pub some : 1 ≤ t.len
  pub fits : t.len ≤ 15
  pub full : length t.table ≡ 15
  pub rest : drop t.len t.table ≡ replicate (15 - t.len) no_group
  pub tree : IsTree t.cpus (take t.len t.table)

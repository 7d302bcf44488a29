-- A table is given back by its topology.
use Rattle.std.proofs.Common.{◌≡◌, ℕ, ◌-◌, List, ◌++◌, length, take, replicate, sym, ◌∙◌, ap, arith, length-take}
use Rattle.std.proofs.lemmas.List.{take-append-drop}
use Rattle.ule_topo.specs.Tree.{no_group}
use Rattle.ule_topo.specs.Table.{tree_kept, IsTable, table_of}
use Rattle.ule_topo.specs.declared.group.Group.{Group}
use Rattle.ule_topo.specs.declared.topology.Topology.TheInside.{Inside}

-- the table of the topology of a table is that table
pub table_kept : (t : Inside) → IsTable t → table_of (tree_kept t) ≡ t
table_kept t is =
    let fits = is.fits in
    let full = is.full in
    let front = take t.len t.table in
    let long : length front ≡ t.len = omega (arith, length-take t.len t.table) in
    let whole : front ++ replicate (15 - length front) no_group ≡ t.table =
    ap (λ n. front ++ replicate (15 - n) no_group) long ∙ ap (λ rest. front ++ rest) (sym is.rest) ∙ take-append-drop t.len t.table in
    let of : ℕ → List Group → Inside = λ n xs. record { cpus = t.cpus; len = n; table = xs } in
    ap (λ n. of n (front ++ replicate (15 - length front) no_group)) long ∙ ap (of t.len) whole

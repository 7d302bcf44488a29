use Rattle.std.proofs.Common.{◌≡◌, ap, List}
use Rattle.std.proofs.lemmas.List.{get_or_default}
use Rattle.ule_topo.specs.Tree.{group_at, no_group}
use Rattle.ule_topo.specs.declared.group.Group.{Group}
use Rattle.ule_topo.proofs.InsideLaws.{parent_is_wider}
use Rattle.ule_topo.proofs.topology.Topology.parent.Goals as goal

pub returns-clause-wider : goal.returns-clause-wider
returns-clause-wider c =
    let groups : List Group = c.args.self.now.groups in
    let here : group_at groups c.args.g ≡ _ = get_or_default groups c.args.g no_group c.index-groups-from.result c.requires in
    rw (c.groups.ensures.groups, c.from.ensures, c.g.view_is) (parent_is_wider c.args.self.now.cpus groups c.groups.ensures.tree c.args.g c.requires _ (ap (λ (k : Group). k.parent) here))

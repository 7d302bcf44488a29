use Rattle.std.proofs.Common.{rules, pos, get_or, w64, SFits}
use Rattle.std.proofs.lemmas.Int.{to_z-of_z}
use Rattle.ule_search.proofs.PathLaws.{rank_is}
use Rattle.ule_search.proofs.rank.ranked_by.Goals as goal

pub returns : goal.returns
returns c =
    let first : SFits w64 (get_or c.path-p.result 0 (pos 0)) = search rules in
    let second : SFits w64 (get_or c.path-p.result 1 (pos 0)) = search rules in
    let third : SFits w64 (get_or c.path-p.result 2 (pos 0)) = search rules in
    let own : SFits w64 (get_or c.args.keys.now c.from.result (pos 0)) = search rules in
    rw (
      to_z-of_z w64 (get_or c.path-p.result 0 (pos 0)) first,
      to_z-of_z w64 (get_or c.path-p.result 1 (pos 0)) second,
      to_z-of_z w64 (get_or c.path-p.result 2 (pos 0)) third,
      to_z-of_z w64 (get_or c.args.keys.now c.from.result (pos 0)) own,
      to_z-of_z w64 c.args.number c.ranges.number,
      c.from.ensures,
    )
    (rank_is c.args.groups.now c.args.keys.now c.args.number c.args.c c.path-p.result c.path-p.ensures)

-- Commands give no more items than they are charged.
use Rattle.std.proofs.Common.{◌≡◌, ℕ, ◌≤◌, true, List, [], length, Some, refl, arith}
use Rattle.std.specs.List.{list_all}
use Rattle.ule_types.specs.Commands.{is_among, is_command}
use Rattle.ule_types.specs.declared.command.Command.{Command}
use Rattle.ule_types.specs.declared.event.Item.{Item}
use Rattle.ule_types.specs.declared.event.Item.TheVariants as item
use Rattle.ule_topo.specs.Tree.{Tree}
use Rattle.ule_program.specs.Courses.{Course, course_of}
use Rattle.ule_program.specs.Hearing.{IsSeat}
use Rattle.ule_program.specs.Program.{stops}
use Rattle.ule_program.specs.declared.own.Own.{Own}
use Rattle.ule_rounds.specs.Charges.{CommandsKeepToTheirCharges, GivesItems, acts, advances, stays}
use Rattle.ule_courses.proofs.Courses.{GoesOnAs, HasOrder, course_advanced, course_told, held_at, left_of, next_is, order_later}

-- a worker that has ended what it began opens a list of valid commands with an orderly course
pub opens_orderly : (ids : List ℕ) (own : Own) (now : ℕ) (list : List Command) → list_all (is_command ids own.topology.cpus) list ≡ true →
    HasOrder ids own.worker own.topology now (course_of (stops own) list)
opens_orderly ids own now list valid = record {
  valid = valid;
  leads = record {
    same_worker = refl;
    same_topology = refl;
    few = omega arith;
    time = refl;
    hatches = refl;
    hand = refl;
    sound = tt;
    named = tt;
    by_now = tt;
  };
  few = omega arith;
  forks = refl;
}

-- an orderly course gives no more items than it has left
gives_few : (ids : List ℕ) (worker : ℕ) (t : Tree) (now : ℕ) (course : Course) (items : List Item) → IsSeat worker t →
    GivesItems (is_among ids) t.cpus now course items → HasOrder ids worker t now course → length items ≤ left_of t.cpus course
gives_few ids worker t _ _ _ seat (stays now course) orderly = omega arith
gives_few ids worker t _ _ _ seat (advances now k course after items next rest) orderly =
    let went : GoesOnAs ids worker t now [] (held_at course) course after =
    course_advanced ids worker t seat now k course after (next_is ids worker t seat now course (item.Advance k) after orderly next) in
    omega (arith, went.left, gives_few ids worker t now after items seat rest went.orderly)
gives_few ids worker t _ _ _ seat (acts now later course after e r items next past says rest) orderly =
    let went =
    course_told ids worker t seat later course e after r
    (next_is ids worker t seat later course (item.Event e) after (order_later ids worker t now later course past orderly) next) says in
    omega (arith, went.left, gives_few ids worker t later (record after { last = Some (r, later) }) items seat rest went.orderly)

-- valid commands give no more items than they are charged
pub charges_kept : CommandsKeepToTheirCharges
charges_kept ids own now list items seat valid gives =
    omega (arith, gives_few ids own.worker own.topology now (course_of (stops own) list) items seat gives (opens_orderly ids own now list valid))

-- The place is the thread's in the world that the state shows.
use Rattle.std.proofs.Common.{sym, ap, ◌∙◌}
use Rattle.std.specs.Option.{option_map}
use Rattle.ule_score.specs.declared.place.Place.TheVariants.{Hand}
use Rattle.ule_model.specs.CpuValue.{first_found}
use Rattle.ule_model.specs.WorldValue.{holder_in}
use Rattle.ule_seq.specs.StepStates.{scheduler_in, world_in}
use Rattle.ule_seq.proofs.PlaceLaws.{place_shown}
use Rattle.ule_seq.proofs.StepLaws.{somewhere}
use Rattle.ule_seq.proofs.places.place.Goals as goal

pub returns-in-Some-clause-world : goal.returns-in-Some-clause-world
returns-in-Some-clause-world c =
    let v = scheduler_in c.args.m.now in
    sym (place_shown v (world_in c.args.m.now) c.args.t c.is_legal_so_far.ensures.played.worlds.shows) ∙
    ap (λ o. first_found o (option_map Hand (holder_in v c.args.t))) (sym c.place_under_locks.ensures ∙ c.in-Some.is)

pub returns-clause-world : goal.returns-clause-world
returns-clause-world c =
    let v = scheduler_in c.args.m.now in
    sym (place_shown v (world_in c.args.m.now) c.args.t c.is_legal_so_far.ensures.played.worlds.shows) ∙
    (ap (λ o. first_found o (option_map Hand (holder_in v c.args.t))) (sym c.place_under_locks.ensures ∙ c.in_default.is) ∙
    ap (option_map Hand) (sym c.holder_of.ensures ∙ c.in-Some-holder_of.is))

pub unreachable-requires : goal.unreachable-requires
unreachable-requires c =
    let v = scheduler_in c.args.m.now in
    somewhere c.args.m.now c.args.t c.keeps_agreement.ensures.agrees c.is_legal_so_far.ensures.played.worlds.shows c.requires.declared
    (ap (λ o. first_found o (option_map Hand (holder_in v c.args.t))) (sym c.place_under_locks.ensures ∙ c.in_default.is) ∙
    ap (option_map Hand) (sym c.holder_of.ensures ∙ c.in-None.is))

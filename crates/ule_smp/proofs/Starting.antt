-- The passes of the start are fresh.
use Rattle.std.proofs.Common.{◌≡◌, ℕ, List, slice_get, Some, refl, sym, ◌∙◌, subst}
use Rattle.atomic_table.specs.Seated.{TableId}
use Rattle.ule_types.specs.declared.setup.Setup.{Setup}
use Rattle.ule_micro.specs.Laws.{IsLawful}
use Rattle.ule_micro.specs.Standings.{blank, rests}
use Rattle.ule_parts.specs.Scheduler.{sched_means}
use Rattle.ule_parts.specs.Workers.{Stands, Worker, owns_from}
use Rattle.ule_parts.proofs.Lawful.{is_lawful}
use Rattle.ule_parts.proofs.Orders.{many_owns}
use Rattle.ule_words.specs.Starts.{AreFirstPasses}
use Rattle.ule_words.specs.Workers.{first_worker}
use Rattle.ule_smp.specs.Runs as runs
use Rattle.ule_smp.specs.Smp.{AreFresh, IsFresh, SchedPass}

module _ (s : Setup) (table : TableId) where
  laws : IsLawful (sched_means s)
  laws = is_lawful s

  -- a pass of which nothing is known but its own part at the start is fresh
  fresh_first : (w : ℕ) (own : Worker) → slice_get (owns_from s 0 s.cpus) w ≡ Some own → IsFresh s table w (record { table = table; own = own; worker = first_worker (sched_means s) w own })
  fresh_first w own at = record {
    table_is = refl;
    number = refl;
    rest = record {
      come = record { first = own; opens = at; items = 0; runs = runs.stays; stands = opens; number = laws.small.numbered w own at; hand = refl };
      held = refl;
      calm = refl;
      empty = laws.standing.ends blank own opens;
    };
    left = refl;
  }
    where
      opens : Stands s blank own rests
      opens = (laws.standing.opens w own at).0

  -- the passes of the start are fresh
  pub fresh : (n : ℕ) (passes : List SchedPass) → n ≡ s.cpus → AreFirstPasses (sched_means s) n table passes → AreFresh s table passes
  fresh n passes many first = record {
    count = first.count ∙ many;
    each = λ w p at. let is = first.each w p at in
        subst (λ t. IsFresh s table w (record { table = t; own = p.own; worker = p.worker })) (sym is.0)
        (subst (λ k. IsFresh s table w (record { table = table; own = p.own; worker = k })) (sym is.2) (fresh_first w p.own is.1));
  }

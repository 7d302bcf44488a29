-- The workers of a race: what each runs, and what all of them come to.
use Rattle.std.proofs.Common.{◌≡◌, ℕ, zero, suc, ◌+◌, ◌<◌, ◌≤◌, Bool, true, List, [], ◌∷◌, length, drop, ◌==◌, ◌&&◌, Some, refl, sym, ap, ◌∙◌, subst, arith}
use Rattle.std.specs.List.{list_all}
use Rattle.std.specs.Prelude.{slice_get, slice_index_or}
use Rattle.std.proofs.lemmas.Bool.{and_parts, eqb-true}
use Rattle.std.proofs.lemmas.Option.{get_or_from_slice_get, slice_get-get_or, slice_get_within}
use Rattle.atomic_table.specs.Seated.{TableId}
use Rattle.ule_members.proofs.Setups.{setup_scripts}
use Rattle.ule_micro.specs.Means.{budgets}
use Rattle.ule_parts.proofs.Orders.{many_owns, small}
use Rattle.ule_parts.specs.Plays.{list_of}
use Rattle.ule_parts.specs.Scheduler.{budget_of, orders_of}
use Rattle.ule_parts.specs.Workers.{owns_from}
use Rattle.ule_smp.specs.Ends.{HasRoom}
use Rattle.ule_smp.specs.Smp.{AreDone, AreFresh, IsDone, IsFresh, SchedPass}
use Rattle.ule_types.specs.Outcome.{OutcomeValue}
use Rattle.ule_types.specs.declared.command.Command.{Command}
use Rattle.ule_types.specs.declared.setup.Setup.{Setup}

-- ---- the room for entries

-- 65,536 entries are room enough for every setup
pub has_room : (s : Setup) (o : OutcomeValue) → o ≡ record { entries = []; threads = []; cpus = []; now = 0; room = 65536 } → HasRoom s o
has_room s o is = record {
  entries = ap (λ (x : OutcomeValue). x.entries) is;
  threads = ap (λ (x : OutcomeValue). x.threads) is;
  cpus = ap (λ (x : OutcomeValue). x.cpus) is;
  room = subst (λ n. budgets (budget_of s) s.cpus ≤ n) (sym (ap (λ (x : OutcomeValue). x.room) is)) (subst (λ n. budgets (budget_of s) n ≤ 65536) (many_owns s 0 s.cpus) (small s));
}

-- ---- the passes

-- no script behind the last worker's has a command
none_in : (scripts : List (List Command)) (n w : ℕ) → list_all (λ script. length script == 0) (drop n scripts) ≡ true → n ≤ w → slice_index_or scripts w [] ≡ []
none_in [] n w none far = refl
none_in (script ∷ scripts) zero zero none far = empty script (eqb-true (length script) 0 (and_parts (length script == 0) (list_all (λ x. length x == 0) scripts) none).0)
  where
    empty : (l : List Command) → length l ≡ 0 → l ≡ []
    empty [] e = refl
    empty (x ∷ xs) e = absurd (omega arith)
none_in (script ∷ scripts) zero (suc w) none far = none_in scripts zero w (and_parts (length script == 0) (list_all (λ x. length x == 0) scripts) none).1 (omega arith)
none_in (script ∷ scripts) (suc n) zero none far = absurd (omega arith)
none_in (script ∷ scripts) (suc n) (suc w) none far = none_in scripts n w none (omega arith)

pub no_script : (s : Setup) (w : ℕ) → s.cpus ≤ w → list_of s.scripts w ≡ []
no_script s w far = none_in s.scripts s.cpus w (setup_scripts s).rest far

module _ (s : Setup) (table : TableId) where
  -- the pass of a place is fresh
  pub fresh_at : (passes : List SchedPass) (w : ℕ) (p : SchedPass) → AreFresh s table passes → w < length passes → p ≡ slice_index_or passes w p → (w < s.cpus) × IsFresh s table w p
  fresh_at passes w p fresh low at = (subst (λ n. w < n) fresh.count low, fresh.each w p (slice_get-get_or passes w p low ∙ ap (λ q. Some q) (sym at)))

  -- where each pass has run its worker's script, all have run the scripts
  pub are_done : (old new : List SchedPass) → AreFresh s table old → length new ≡ length old
      → ((w : ℕ) (p : SchedPass) → w < length old → IsDone s table (orders_of s w) w (slice_index_or new w p)) → AreDone s table s.scripts new
  are_done old new fresh many done = record {
    count = many ∙ fresh.count;
    each = λ w p at. subst (λ q. IsDone s table (orders_of s w) w q) (get_or_from_slice_get new w p p at) (done w p (let low = slice_get_within new w p at in omega arith));
    others = no_script s;
  }

-- A worker's script, after so many of its commands.
use Rattle.std.proofs.Common.{◌≡◌, ℕ, zero, suc, ◌+◌, ◌<◌, ◌≤◌, List, [], ◌∷◌, ◌++◌, length, drop, take, reverse, Some, refl, sym, ap, ◌∙◌, subst, arith}
use Rattle.std.specs.Prelude.{slice_get}
use Rattle.atomic_table.specs.Seated.{TableId}
use Rattle.std.proofs.lemmas.List.{reverse-append}
use Rattle.std.proofs.lemmas.Option.{none-some, same_Some}
use Rattle.ule_micro.proofs.Lists.{drop_get}
use Rattle.ule_micro.specs.Laws.{AreOrders, AreValid, total_charge}
use Rattle.ule_parts.proofs.Orders.{are_orders, are_scripts, many_owns}
use Rattle.ule_parts.specs.Scheduler.{budget_of, orders_of, sched_means}
use Rattle.ule_parts.specs.Workers.{IsValid, owns_from}
use Rattle.ule_smp.specs.Runs.{HasRun}
use Rattle.ule_smp.specs.Smp.{CanRun, IsDone, IsFresh, RestsAfter, SchedPass}
use Rattle.ule_types.specs.Commands.{greatest_of}
use Rattle.ule_types.specs.declared.command.Command.{Command}
use Rattle.ule_types.specs.declared.event.Reply.{Reply}
use Rattle.ule_types.specs.declared.setup.Setup.{Setup}

module _ {A : Type 0} where
  take_suc : (l : List A) (k : ℕ) (a : A) → slice_get l k ≡ Some a → take (suc k) l ≡ take k l ++ a ∷ []
  take_suc [] k a e = absurd (none-some a e)
  take_suc (x ∷ xs) zero a e = ap (λ y. y ∷ []) (same_Some x a e)
  take_suc (x ∷ xs) (suc k) a e = ap (λ l. x ∷ l) (take_suc xs k a e)

  -- the first of a list, the last first, with one more
  reverse_more : (l : List A) (k : ℕ) (a : A) → slice_get l k ≡ Some a → reverse (take (k + 1) l) ≡ a ∷ reverse (take k l)
  reverse_more l k a e =
      let one : k + 1 ≡ suc k = omega arith in
      ap (λ j. reverse (take j l)) one ∙ (ap reverse (take_suc l k a e) ∙ reverse-append (take k l) (a ∷ []))

  -- all of a list
  pub take_whole : (l : List A) (k : ℕ) → length l ≤ k → take k l ≡ l
  take_whole [] zero e = refl
  take_whole [] (suc k) e = refl
  take_whole (x ∷ xs) zero e = absurd (omega arith)
  take_whole (x ∷ xs) (suc k) e = ap (λ l. x ∷ l) (take_whole xs k (omega arith))

module _ (s : Setup) (table : TableId) (w : ℕ) where
  -- the pass has run so many commands of the worker's script, and can run the others
  pub record IsRunning (k : ℕ) (p : SchedPass) : Type 0 where
    pub table_is : p.table ≡ table
    pub number : p.worker.number ≡ w
    pub rest : RestsAfter s (reverse (take k (orders_of s w))) p
    pub valid : AreValid (sched_means s) w (reverse (take k (orders_of s w))) (drop k (orders_of s w))
    pub left : total_charge (λ c. greatest_of c w s.cpus) (drop k (orders_of s w)) ≤ p.worker.allowance

  orders : AreOrders (sched_means s) (orders_of s)
  orders = are_orders s (orders_of s) (are_scripts s)

  -- before the first command
  pub running_first : (p : SchedPass) → w < s.cpus → IsFresh s table w p → IsRunning 0 p
  running_first p below fresh = record {
    table_is = fresh.table_is;
    number = fresh.number;
    rest = fresh.rest;
    valid = orders.valid w (subst (λ n. w < n) (sym (many_owns s 0 s.cpus)) below);
    left = let budget = fresh.left in omega arith;
  }

  module _ (k : ℕ) (p : SchedPass) (c : Command) (r : IsRunning k p) (at : slice_get (orders_of s w) k ≡ Some c) where
    rest_is : drop k (orders_of s w) ≡ c ∷ drop (k + 1) (orders_of s w)
    rest_is = drop_get (orders_of s w) k c at

    valid_next : AreValid (sched_means s) w (reverse (take k (orders_of s w))) (c ∷ drop (k + 1) (orders_of s w))
    valid_next = subst (AreValid (sched_means s) w (reverse (take k (orders_of s w)))) rest_is r.valid

    charged : total_charge (λ d. greatest_of d w s.cpus) (drop k (orders_of s w)) ≡ greatest_of c w s.cpus + total_charge (λ d. greatest_of d w s.cpus) (drop (k + 1) (orders_of s w))
    charged = ap (total_charge (λ d. greatest_of d w s.cpus)) rest_is

    -- the next command can be run
    pub next_runs : CanRun s (reverse (take k (orders_of s w))) c p
    next_runs = (r.rest, subst (λ n. IsValid s n (reverse (take k (orders_of s w))) c) (sym r.number) valid_next.0)

    pub next_fits : greatest_of c p.worker.number s.cpus ≤ p.worker.allowance
    next_fits = subst (λ n. greatest_of c n s.cpus ≤ p.worker.allowance) (sym r.number) (let a = charged in let b = r.left in omega arith)

    -- behind the next command
    pub running_next : (answer : _) (q : SchedPass) → HasRun (sched_means s) c p answer q
        → ((given : List Command) → CanRun s given c p → RestsAfter s (c ∷ given) q) → IsRunning (k + 1) q
    running_next answer q run rest = record {
      table_is = run.table ∙ r.table_is;
      number = run.number ∙ r.number;
      rest = subst (λ given. RestsAfter s given q) (sym (reverse_more (orders_of s w) k c at)) (rest (reverse (take k (orders_of s w))) next_runs);
      valid = subst (λ given. AreValid (sched_means s) w given (drop (k + 1) (orders_of s w))) (sym (reverse_more (orders_of s w) k c at)) valid_next.1;
      left =
          let of : p.own.program.worker ≡ w = r.rest.come.number ∙ r.number in
          let few : run.items ≤ greatest_of c w s.cpus = subst (λ n. run.items ≤ greatest_of c n s.cpus) of run.few in
          let a = charged in let b = r.left in let fell = run.left in omega arith;
    }

  -- behind the last command
  pub running_last : (k : ℕ) (p : SchedPass) → length (orders_of s w) ≤ k → IsRunning k p → IsDone s table (orders_of s w) w p
  running_last k p far r = record {
    table_is = r.table_is;
    number = r.number;
    rest = subst (λ l. RestsAfter s (reverse l) p) (take_whole (orders_of s w) k far) r.rest;
  }

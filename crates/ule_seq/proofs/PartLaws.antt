-- What the code of the scheduler's parts gives is what the parts mean.
use Rattle.std.proofs.Common.{◌≡◌, ◌≢◌, ℕ, zero, suc, ◌+◌, ◌<◌, ◌≤◌, Bool, true, false, List, [], ◌∷◌, length, take, map, get_or, slice_get, Option, Some, None, refl, sym, ap, ◌∙◌, subst, arith, ⊎_elim}
use Rattle.std.specs.List.{range_with_len}
use Rattle.std.proofs.lemmas.Bool.{cases_lt, ltb-true, ltb-false}
use Rattle.std.proofs.lemmas.List.FromFn.{get_or-map-range_with_len, length-map-range_with_len}
use Rattle.std.proofs.lemmas.Option.{slice_get-get_or, same_Some, none-some}
use Rattle.ule_score.specs.declared.record.Settings.{Settings}
use Rattle.ule_score.specs.declared.record.ThreadRecord.{ThreadRecord}
use Rattle.ule_types.specs.declared.command.Command.{Command}
use Rattle.ule_types.specs.declared.event.Event.{Event}
use Rattle.ule_types.specs.declared.event.Event.TheVariants.{Move}
use Rattle.ule_types.specs.declared.event.MoveWhy.{MoveWhy}
use Rattle.ule_types.specs.declared.setup.Setup.{Setup}
use Rattle.ule_program.specs.Program.{own_of_setup}
use Rattle.ule_model.specs.Events.{Locking, chain, limbo, locking, place_of, queue, queues, sought_in}
use Rattle.ule_model.specs.LockConditions.{CanStepPair}
use Rattle.ule_model.specs.LockValue.{LockValue}
use Rattle.ule_model.specs.OpeningValues.{opening_scheduler, opening_value}
use Rattle.ule_laws.proofs.StepConditions.{can_step_both}
use Rattle.ule_laws.proofs.StepLaws.{HasLock, IsPair, event_lock}
use Rattle.ule_micro.specs.Laws.{total_charge}
use Rattle.ule_members.proofs.Setups.{setup_scripts}
use Rattle.ule_micro.specs.Means.{budgets, thread_sought_by}
use Rattle.ule_parts.specs.Acts.{AreAt, act_on, act_under_two, names_lower_first, needs_of}
use Rattle.ule_parts.specs.Scheduler.{MayAct, budget_of}
use Rattle.ule_parts.specs.Workers.{owns_from}
use Rattle.ule_parts.proofs.Calls.{may_can_falling, may_can_rising}
use Rattle.ule_parts.proofs.Orders.{many_owns, small}
use Rattle.ule_seq.specs.Locks.{two_locks}
use Rattle.ule_seq.proofs.PairWritten.{move_from}

-- the own part of a worker that there is, at the start
owns_at : (s : Setup) (w n i : ℕ) → i < n → slice_get (owns_from s w n) i ≡ Some (record { program = own_of_setup s (w + i); hand = None })
owns_at s w zero i low = absurd (omega arith)
owns_at s w (suc n) zero low = ap (λ u. Some (record { program = own_of_setup s u; hand = None })) (let z : w ≡ w + 0 = omega arith in z)
owns_at s w (suc n) (suc i) low =
    owns_at s (suc w) n i (omega arith) ∙ ap (λ u. Some (record { program = own_of_setup s u; hand = None })) (let z : suc w + i ≡ w + suc i = omega arith in z)

pub own_there : (s : Setup) (i : ℕ) → i < s.cpus → slice_get (owns_from s 0 s.cpus) i ≡ Some (record { program = own_of_setup s i; hand = None })
own_there s i low = owns_at s 0 s.cpus i low ∙ ap (λ u. Some (record { program = own_of_setup s u; hand = None })) (let z : 0 + i ≡ i = omega arith in z)

-- each of a setup's workers has a number below 16
pub low_worker : (s : Setup) (w n : ℕ) → n ≡ length (owns_from s 0 s.cpus) → w < n → w < 16
low_worker s w n many low = omega (arith, low, many, many_owns s 0 s.cpus, (setup_scripts s).cpus)

-- and is one of a CPU
pub worker_there : (s : Setup) (w : ℕ) → w < length (owns_from s 0 s.cpus) → w < s.cpus
worker_there s w low = omega (arith, low, many_owns s 0 s.cpus)

-- a budget is within all
one_budget : (b : ℕ → ℕ) (n w : ℕ) → w < n → b w ≤ budgets b n
one_budget b zero w low = absurd (omega arith)
one_budget b (suc n) w low = ⊎_elim (λ (below : w < n). let z = one_budget b n w below in omega arith) (λ (past : n ≤ w). let is : w ≡ n = omega arith in let z = ap b is in omega arith) (cases_lt w n)

-- so each worker's is within that of all scripts
pub budget_small : (s : Setup) (w : ℕ) → w < length (owns_from s 0 s.cpus) → budget_of s w ≤ 65536
budget_small s w low = let one = one_budget (budget_of s) (length (owns_from s 0 s.cpus)) w low in let all = small s in omega arith

-- the value of a lock that there is, at the start
pub value_there : (s : Setup) (l : ℕ) → l < 25 → slice_get (opening_scheduler s).values l ≡ Some (opening_value s l)
value_there s l low =
    let many : length (map (opening_value s) (range_with_len 0 25)) ≡ 25 = length-map-range_with_len (opening_value s) 0 25 in
    slice_get-get_or (map (opening_value s) (range_with_len 0 25)) l (opening_value s 0) (omega (arith, many, low)) ∙
    ap (λ v. Some v) (get_or-map-range_with_len (opening_value s) 0 25 l l (opening_value s 0) low (let z : 0 + l ≡ l = omega arith in z))

-- the thread that an event seeks
pub sought_is : (k : Locking) → thread_sought_by (needs_of k) ≡ sought_in k
sought_is (queue c) = refl
sought_is (queues a b) = refl
sought_is (chain channel) = refl
sought_is limbo = refl
sought_is (place_of t) = refl

-- one command more is charged
pub charged_more : (f : Command → ℕ) (cs : List Command) (k : ℕ) (c : Command) → slice_get cs k ≡ Some c → total_charge f (take (suc k) cs) ≡ total_charge f (take k cs) + f c
charged_more f [] k c at = absurd (none-some c at)
charged_more f (d ∷ cs) zero c at = let z = ap f (same_Some d c at) in omega arith
charged_more f (d ∷ cs) (suc k) c at = let z = charged_more f cs k c at in omega arith

pub charged_next : (f : Command → ℕ) (cs : List Command) (k : ℕ) (c : Command) → k < length cs → c ≡ get_or cs k c → total_charge f (take (k + 1) cs) ≡ total_charge f (take k cs) + f c
charged_next f cs k c low at =
    ap (λ (j : ℕ). total_charge f (take j cs)) (let e : k + 1 ≡ suc k = omega arith in e) ∙ charged_more f cs k c (slice_get-get_or cs k c low ∙ ap (λ d. Some d) (sym at))

-- the first commands are charged no more than all
pub charged_first : (f : Command → ℕ) (cs : List Command) (k : ℕ) → total_charge f (take k cs) ≤ total_charge f cs
charged_first f cs zero = omega arith
charged_first f [] (suc k) = omega arith
charged_first f (c ∷ cs) (suc k) = let z = charged_first f cs k in omega arith

-- what an event does under two locks, where it is known which it names first
pub pair_acted : (b : Bool) (settings : Settings) (w : ℕ) (e : Event) (now : ℕ) (hand : Option ThreadRecord) (low high : LockValue) → b ≡ names_lower_first (locking e)
    → act_on settings w e now hand (low ∷ high ∷ []) ≡ act_under_two b w e now hand low high
pair_acted b settings w e now hand low high is = ap (λ x. act_under_two x w e now hand low high) (sym is)

module _ (s : Setup) (w : ℕ) (e : Event) (now : ℕ) (hand : Option ThreadRecord) (low high : LockValue) (may : MayAct s w e now hand (low ∷ high ∷ [])) where
  -- an event that may be performed under two locks is a move
  is_pair : IsPair e
  is_pair = ⊎_elim (λ (pair : IsPair e). pair) one (event_lock may.value may.world w e now (record { shows = may.shows; possible = may.possible }))
    where
      one : HasLock may.value may.world e → IsPair e
      one found = absurd ((subst (λ ls. AreAt may.value.values ls (low ∷ high ∷ [])) found.locks may.guarded_are).1)

  is_move : (why : MoveWhy) × (e ≡ Move is_pair.from is_pair.to why)
  is_move = move_from e is_pair.from is_pair.to (ap two_locks is_pair.locks)

  may_move : MayAct s w (Move is_pair.from is_pair.to is_move.0) now hand (low ∷ high ∷ [])
  may_move = subst (λ x. MayAct s w x now hand (low ∷ high ∷ [])) is_move.1 may

  apart : is_pair.from ≢ is_pair.to
  apart = (can_step_both may_move.value w is_pair.from is_pair.to is_move.0 now (may_move.world, may_move.shows, may_move.possible)).apart

  -- the code may perform it, on the lower lock's value first
  pub may_rising : true ≡ names_lower_first (locking e) → CanStepPair low high hand
  may_rising is = may_can_rising s w is_pair.from is_pair.to is_move.0 now hand low high (ltb-true is_pair.from is_pair.to (sym (is ∙ ap names_lower_first is_pair.locks))) may_move

  -- or on the higher lock's value first
  pub may_falling : false ≡ names_lower_first (locking e) → CanStepPair high low hand
  may_falling is =
      let past = ltb-false is_pair.from is_pair.to (sym (is ∙ ap names_lower_first is_pair.locks)) in
      let far : is_pair.from ≢ is_pair.to = apart in may_can_falling s w is_pair.from is_pair.to is_move.0 now hand low high (omega arith) may_move

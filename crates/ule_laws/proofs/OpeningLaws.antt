-- The opening values of a setup and empty hands show the world at the start; and what starts as it is told is an opening value.
use Rattle.std.proofs.Common.{◌≡◌, ◌≢◌, ℕ, zero, suc, ◌+◌, ◌-◌, ◌<◌, ◌≤◌, ◌==◌, nat_lt, Bool, true, false, List, [], ◌∷◌, ◌++◌, length, map, replicate, take, slice_get, slice_index_or, Option, Some, None, IfSome, if◌then◌else◌, ⊎_elim, refl, sym, ◌∙◌, ap, subst, arith}
use Rattle.std.specs.List.{range_with_len}
use Rattle.std.proofs.lemmas.Bool.{cases_eq, cond-false, cond-true, cond_both, eq-eqb, ltb-false, ltb-true, ne_eqb}
use Rattle.std.proofs.lemmas.List.{length-replicate, take_all}
use Rattle.std.proofs.lemmas.List.Elements.{filter_more}
use Rattle.std.proofs.lemmas.List.FromFn.{length-map-range_with_len}
use Rattle.std.proofs.lemmas.List.Sums.{fold-append, fold_more}
use Rattle.std.proofs.lemmas.Option.{get_or_from_slice_get, none-some, slice_get_within}
use Rattle.ule_score.specs.declared.place.Place.TheVariants.{Unborn}
use Rattle.ule_score.specs.declared.record.ThreadRecord.{ThreadRecord}
use Rattle.ule_sleep.specs.Chain.{ChainValue, IsEmptyChain}
use Rattle.ule_sleep.specs.Limbo.{IsEmptyLimbo, LimboValue, with_still}
use Rattle.ule_threads.specs.declared.standing.Standing.{Standing}
use Rattle.ule_types.specs.declared.setup.Setup.{Setup}
use Rattle.ule_types.specs.declared.setup.ThreadSpec.{ThreadSpec}
use Rattle.ule_model.specs.CpuStart.{StartsAs}
use Rattle.ule_model.specs.CpuValue.{CpuValue, value_laid}
use Rattle.ule_model.specs.LockValue.{LockValue, chain, limbo, nothing, queue}
use Rattle.ule_model.specs.OpeningValues.{balance_word_before, bare_chain, bare_cpu, bare_limbo, declared_on, opening_limbo, opening_queue, opening_scheduler, opening_value, with_all_laid, with_all_unborn}
use Rattle.ule_model.specs.Start.{record_of, unborn_record, world_at_start}
use Rattle.ule_model.specs.WorldValue.{IsLimboOf, IsQueueOf, Shows, StandsUnder}
use Rattle.ule_members.proofs.Starts.{laid_first, unborn_first}
use Rattle.ule_laws.proofs.StartLaws.{chain_at_start, limbo_at_start, limbo_before, limbo_next, nothing_at_start, queue_at_start, queue_before, queue_laid, start_shows}

-- ---- slots without threads

-- a list of which every element is none is that many times none
pub all_none : {X : Type 0} (xs : List (Option X)) → ((t : ℕ) → slice_index_or xs t None ≡ None) → xs ≡ replicate (length xs) None
all_none [] none = refl
all_none (x ∷ xs) none = λ i. none 0 i ∷ all_none xs (λ t. none (suc t)) i

-- each element of that many times none is none, and so is what is past them
pub none_replicated : {X : Type 0} (n t : ℕ) → slice_index_or (replicate {A = Option X} n None) t None ≡ None
none_replicated zero t = refl
none_replicated (suc n) zero = refl
none_replicated (suc n) (suc t) = none_replicated n t

-- ---- lists

-- within a list there is an element at each place
none_within : {X : Type 0} (xs : List X) (i : ℕ) → slice_get xs i ≡ None → i < length xs → ⊥
none_within [] i none low = omega (arith, low)
none_within (x ∷ xs) zero none low = none-some x (sym none)
none_within (x ∷ xs) (suc i) none low = none_within xs i none (omega (arith, low))

-- what holds of what is made of each number of a range holds at each place of the list that is made of them
each_of_range : {X : Type 0} (f : ℕ → X) (P : ℕ → X → Type 0) (a n : ℕ) → ((i : ℕ) → i < a + n → P i (f i)) → (l : ℕ) → IfSome (slice_get (map f (range_with_len a n)) l) (P (a + l))
each_of_range f P a zero each l = tt
each_of_range f P a (suc n) each zero = subst (λ i. P i (f a)) first (each a (omega arith))
  where
    first : a ≡ a + 0
    first = omega arith
each_of_range f P a (suc n) each (suc l) = subst (λ i. IfSome (slice_get (map f (range_with_len (a + 1) n)) l) (P i)) further (each_of_range f P (a + 1) n (λ i low. each i (omega (arith, low))) l)
  where
    further : a + 1 + l ≡ a + suc l
    further = omega arith

-- ---- a CPU

-- a bare CPU starts as it is told
bare_starts : (s : Setup) (c : ℕ) → StartsAs (bare_cpu s c) c s.settings (balance_word_before s)
bare_starts s c = record {
  cpu = refl;
  settings = refl;
  slots = length-replicate {A = Option ThreadRecord} 256 None;
  threads = λ t. none_replicated 256 t;
  current = refl;
  load = refl;
  real = refl;
  batch = refl;
  idle = refl;
  line = refl;
  balance_word = refl;
}

-- a CPU that starts as it is told is a bare CPU
pub starts_bare : (s : Setup) (c word : ℕ) (v : CpuValue) → word ≡ balance_word_before s → StartsAs v c s.settings word → v ≡ bare_cpu s c
starts_bare s c word v same starts = λ i. record {
  cpu = is.cpu i;
  settings = is.settings i;
  threads = slots i;
  current = is.current i;
  load = is.load i;
  real = is.real i;
  batch = is.batch i;
  idle = is.idle i;
  line = is.line i;
  balance_word = is.balance_word i;
}
  where
    is : StartsAs v c s.settings (balance_word_before s)
    is = subst (StartsAs v c s.settings) same starts

    slots : v.threads ≡ replicate 256 None
    slots = all_none v.threads is.threads ∙ ap (λ n. replicate n None) is.slots

module _ (s : Setup) (c : ℕ) where
  -- queue so far: the CPU with those of the first so many declared threads that are on it
  abbrev pub queue_so_far : ℕ → CpuValue
  queue_so_far k = with_all_laid s (declared_on c (take k s.threads)) (bare_cpu s c)

  -- with one laid: the CPU with a declared thread, where it is on the CPU
  abbrev pub with_one_laid : ThreadSpec → CpuValue → CpuValue
  with_one_laid spec v = if spec.cpu == c then value_laid (record_of s.settings spec) v else v

  -- one declared thread more is laid where it is on the CPU
  pub queue_further : (k : ℕ) (spec : ThreadSpec) → slice_get s.threads k ≡ Some spec → queue_so_far (k + 1) ≡ with_one_laid spec (queue_so_far k)
  queue_further k spec at =
      ap (λ specs. with_all_laid s specs (bare_cpu s c))
      (filter_more (λ x. x.cpu == c) s.threads k spec (slice_get_within s.threads k spec at)
      ∙ ap (λ (x : ThreadSpec). declared_on c (take k s.threads) ++ (if x.cpu == c then x ∷ [] else [])) (get_or_from_slice_get s.threads k spec spec at))
      ∙ (fold-append (λ u x. value_laid (record_of s.settings x) u) (bare_cpu s c) (declared_on c (take k s.threads)) (if spec.cpu == c then spec ∷ [] else []) ∙ by_test (spec.cpu == c))
    where
      by_test : (b : Bool) → with_all_laid s (if b then spec ∷ [] else []) (queue_so_far k) ≡ (if b then value_laid (record_of s.settings spec) (queue_so_far k) else queue_so_far k)
      by_test true = refl
      by_test false = refl

  -- the CPU so far stands under its lock while declared threads are laid
  pub queue_opens : c < s.cpus → (k : ℕ) → k ≤ length s.threads → IsQueueOf (laid_first s k) c (queue_so_far k)
  queue_opens within zero few = queue_before s c (bare_cpu s c) (balance_word_before s) within refl (bare_starts s c)
  queue_opens within (suc k) few = subst (λ i. IsQueueOf (laid_first s i) c (queue_so_far i)) next (further (slice_get s.threads k) refl (queue_opens within k (omega arith)))
    where
      next : k + 1 ≡ suc k
      next = omega arith

      further : (o : Option ThreadSpec) → slice_get s.threads k ≡ o → IsQueueOf (laid_first s k) c (queue_so_far k) → IsQueueOf (laid_first s (k + 1)) c (queue_so_far (k + 1))
      further None at was = absurd (none_within s.threads k at (omega (arith, few)))
      further (Some spec) at was = queue_laid s k c spec (queue_so_far k) (queue_so_far (k + 1)) at
          (λ same. queue_further k spec at ∙ cond-true (spec.cpu == c) (value_laid (record_of s.settings spec) (queue_so_far k)) (queue_so_far k) (eq-eqb spec.cpu c (sym same)))
          (λ far. queue_further k spec at ∙ cond-false (spec.cpu == c) (value_laid (record_of s.settings spec) (queue_so_far k)) (queue_so_far k) (ne_eqb spec.cpu c (λ same. far (sym same)))) was

  -- it stands there where there is a further declared thread
  pub queue_opened_at : c < s.cpus → (k : ℕ) (spec : ThreadSpec) → slice_get s.threads k ≡ Some spec → IsQueueOf (laid_first s k) c (queue_so_far k)
  queue_opened_at within k spec at = queue_opens within k (let low = slice_get_within s.threads k spec at in omega arith)

  -- what lays a declared thread on its own CPU, and leaves every other, lays one more
  pub queue_lays : (k : ℕ) (spec : ThreadSpec) → slice_get s.threads k ≡ Some spec → (v new : CpuValue) → v ≡ queue_so_far k → (c ≡ spec.cpu → new ≡ value_laid (record_of s.settings spec) v) → (c ≢ spec.cpu → new ≡ v)
      → new ≡ queue_so_far (k + 1)
  queue_lays k spec at v new is own elsewhere = ⊎_elim
      (λ (same : c ≡ spec.cpu). own same ∙ (ap (value_laid (record_of s.settings spec)) is ∙ sym (queue_further k spec at ∙ cond-true (spec.cpu == c) _ (queue_so_far k) (eq-eqb spec.cpu c (sym same)))))
      (λ (far : c ≡ spec.cpu → ⊥). elsewhere far ∙ (is ∙ sym (queue_further k spec at ∙ cond-false (spec.cpu == c) _ (queue_so_far k) (ne_eqb spec.cpu c (λ same. far (sym same))))))
      (cases_eq c spec.cpu)

  -- with all declared threads it is the opening queue
  pub all_queued : (k : ℕ) → length s.threads ≤ k → queue_so_far k ≡ opening_queue s c
  all_queued k all = ap (λ specs. with_all_laid s (declared_on c specs) (bare_cpu s c)) (take_all k s.threads all)

  -- the opening queue stands under its lock at the start
  queue_opened : c < s.cpus → IsQueueOf (world_at_start s) c (opening_queue s c)
  queue_opened within = subst (IsQueueOf (world_at_start s) c) (all_queued (length s.threads) (omega arith))
      (queue_at_start s c (queue_so_far (length s.threads)) (length s.threads) within (omega arith) (queue_opens within (length s.threads) (omega arith)))

-- ---- a chain, and limbo

-- a bare chain is empty
bare_is_empty : (number : ℕ) → IsEmptyChain (bare_chain number) number
bare_is_empty number = record { number_is = refl; none = λ t. none_replicated 256 t }

-- an empty chain is a bare chain
pub empty_bare : (number : ℕ) (v : ChainValue) → length v.slots ≡ 256 → IsEmptyChain v number → v ≡ bare_chain number
empty_bare number v slots empty = λ i. record { number = empty.number_is i; slots = all_slots i }
  where
    all_slots : v.slots ≡ replicate 256 None
    all_slots = all_none v.slots empty.none ∙ ap (λ n. replicate n None) slots

-- empty limbo is bare limbo
pub limbo_bare : (v : LimboValue) → length v.slots ≡ 256 → IsEmptyLimbo v → v ≡ bare_limbo
limbo_bare v slots empty = λ i. record { slots = all_slots i }
  where
    all_slots : v.slots ≡ replicate 256 None
    all_slots = all_none v.slots empty ∙ ap (λ n. replicate n None) slots

module _ (s : Setup) where
  -- limbo so far: limbo with the first so many unborn threads
  abbrev pub limbo_so_far : ℕ → LimboValue
  limbo_so_far k = with_all_unborn (take k s.unborn) bare_limbo

  -- one unborn thread more is put into limbo
  pub limbo_further : (k t : ℕ) → slice_get s.unborn k ≡ Some t → limbo_so_far (k + 1) ≡ with_still (unborn_record t) Unborn (limbo_so_far k)
  limbo_further k t at = fold_more (λ u x. with_still (unborn_record x) Unborn u) bare_limbo s.unborn k t (slice_get_within s.unborn k t at)
      ∙ ap (λ x. with_still (unborn_record x) Unborn (limbo_so_far k)) (get_or_from_slice_get s.unborn k t t at)

  -- limbo so far stands under its lock while unborn threads come
  pub limbo_opens : (k : ℕ) → k ≤ length s.unborn → IsLimboOf (unborn_first s k) 24 (limbo_so_far k)
  limbo_opens zero few = limbo_before s bare_limbo (length-replicate {A = Option Standing} 256 None) (λ t. none_replicated 256 t)
  limbo_opens (suc k) few = subst (λ i. IsLimboOf (unborn_first s i) 24 (limbo_so_far i)) next (further (slice_get s.unborn k) refl (limbo_opens k (omega arith)))
    where
      next : k + 1 ≡ suc k
      next = omega arith

      further : (o : Option ℕ) → slice_get s.unborn k ≡ o → IsLimboOf (unborn_first s k) 24 (limbo_so_far k) → IsLimboOf (unborn_first s (k + 1)) 24 (limbo_so_far (k + 1))
      further None at was = absurd (none_within s.unborn k at (omega (arith, few)))
      further (Some t) at was = subst (IsLimboOf (unborn_first s (k + 1)) 24) (sym (limbo_further k t at)) (limbo_next s k t (limbo_so_far k) at was)

  -- it stands there where there is a further unborn thread
  pub limbo_opened_at : (k t : ℕ) → slice_get s.unborn k ≡ Some t → IsLimboOf (unborn_first s k) 24 (limbo_so_far k)
  limbo_opened_at k t at = limbo_opens k (let low = slice_get_within s.unborn k t at in omega arith)

  -- with all unborn threads it is the opening limbo
  pub all_unborn : (k : ℕ) → length s.unborn ≤ k → limbo_so_far k ≡ opening_limbo s
  all_unborn k all = ap (λ ts. with_all_unborn ts bare_limbo) (take_all k s.unborn all)

  limbo_opened : IsLimboOf (world_at_start s) 24 (opening_limbo s)
  limbo_opened = subst (IsLimboOf (world_at_start s) 24) (all_unborn (length s.unborn) (omega arith))
      (limbo_at_start s (limbo_so_far (length s.unborn)) (length s.unborn) (omega arith) (limbo_opens (length s.unborn) (omega arith)))

  chain_opened : (l : ℕ) → 16 ≤ l → l < 24 → StandsUnder (world_at_start s) l (chain (bare_chain (l - 16)))
  chain_opened l past low = subst (λ i. StandsUnder (world_at_start s) i (chain (bare_chain (l - 16)))) whole
      (chain_at_start s (l - 16) (bare_chain (l - 16)) (omega (arith, past, low)) (length-replicate {A = Option Standing} 256 None) (bare_is_empty (l - 16)))
    where
      whole : 16 + (l - 16) ≡ l
      whole = omega (arith, past)

  -- each opening value stands under its lock at the start
  pub opening_stands : (l : ℕ) → l < 25 → StandsUnder (world_at_start s) l (opening_value s l)
  opening_stands l low =
      cond_both (nat_lt l s.cpus) (queue (opening_queue s l)) _ (StandsUnder (world_at_start s) l) (λ within. queue_opened s l (ltb-true l s.cpus within))
      (λ past. cond_both (nat_lt l 16) nothing _ (StandsUnder (world_at_start s) l) (λ queue_lock. nothing_at_start s l (ltb-false l s.cpus past) (ltb-true l 16 queue_lock))
      (λ others. cond_both (nat_lt l 24) (chain (bare_chain (l - 16))) (limbo (opening_limbo s)) (StandsUnder (world_at_start s) l)
      (λ chain_lock. chain_opened l (ltb-false l 16 others) (ltb-true l 24 chain_lock)) (λ last. limbo_last (ltb-false l 24 last))))
    where
      limbo_last : 24 ≤ l → StandsUnder (world_at_start s) l (limbo (opening_limbo s))
      limbo_last last = subst (λ i. StandsUnder (world_at_start s) i (limbo (opening_limbo s))) is limbo_opened
        where
          is : 24 ≡ l
          is = omega (arith, last, low)

  -- the opening scheduler shows the world at the start
  pub opening_shows : Shows (opening_scheduler s) (world_at_start s)
  opening_shows =
      start_shows s (opening_scheduler s) refl (length-map-range_with_len (opening_value s) 0 25)
      (λ l. subst (λ i. IfSome (slice_get (opening_scheduler s).values l) (StandsUnder (world_at_start s) i)) (from_zero l)
      (each_of_range (opening_value s) (StandsUnder (world_at_start s)) 0 25 (λ i low. opening_stands i low) l))
      (length-replicate {A = Option ThreadRecord} s.cpus None) (λ h. none_replicated s.cpus h)
    where
      from_zero : (l : ℕ) → 0 + l ≡ l
      from_zero l = omega arith

-- ---- what an opening value is, by its lock

module _ (s : Setup) (l : ℕ) where
  -- under the queue lock of a CPU that there is
  pub opens_queue : l < s.cpus → queue (opening_queue s l) ≡ opening_value s l
  opens_queue low = cond_both (nat_lt l s.cpus) (queue (opening_queue s l)) _ (λ v. queue (opening_queue s l) ≡ v) (λ within. refl) (λ past. absurd (let z = ltb-false l s.cpus past in omega arith))

  module _ (past : s.cpus ≤ l) where
    past_queues : (v : LockValue) → v ≡ (if nat_lt l 16 then nothing else if nat_lt l 24 then chain (bare_chain (l - 16)) else limbo (opening_limbo s)) → v ≡ opening_value s l
    past_queues v is = cond_both (nat_lt l s.cpus) (queue (opening_queue s l)) _ (λ u. v ≡ u) (λ within. absurd (let z = ltb-true l s.cpus within in omega arith)) (λ fails. is)

    -- under that of a CPU that there isn't
    pub opens_nothing : l < 16 → nothing ≡ opening_value s l
    opens_nothing low = past_queues nothing (cond_both (nat_lt l 16) nothing _ (λ u. nothing ≡ u) (λ within. refl) (λ fails. absurd (let z = ltb-false l 16 fails in omega arith)))

    -- under that of a sleep chain
    pub opens_chain : 16 ≤ l → l < 24 → chain (bare_chain (l - 16)) ≡ opening_value s l
    opens_chain from low = past_queues (chain (bare_chain (l - 16))) (cond_both (nat_lt l 16) nothing _ (λ u. chain (bare_chain (l - 16)) ≡ u) (λ within. absurd (let z = ltb-true l 16 within in omega arith))
        (λ fails. cond_both (nat_lt l 24) (chain (bare_chain (l - 16))) _ (λ u. chain (bare_chain (l - 16)) ≡ u) (λ within. refl) (λ none. absurd (let z = ltb-false l 24 none in omega arith))))

    -- under that of limbo
    pub opens_limbo : 24 ≤ l → limbo (opening_limbo s) ≡ opening_value s l
    opens_limbo from = past_queues (limbo (opening_limbo s)) (cond_both (nat_lt l 16) nothing _ (λ u. limbo (opening_limbo s) ≡ u) (λ within. absurd (let z = ltb-true l 16 within in omega arith))
        (λ fails. cond_both (nat_lt l 24) (chain (bare_chain (l - 16))) _ (λ u. limbo (opening_limbo s) ≡ u) (λ within. absurd (let z = ltb-true l 24 within in omega arith)) (λ none. refl)))

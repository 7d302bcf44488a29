-- The start, lock by lock: what stands under a lock while threads are laid one after another.
use Rattle.std.proofs.Common.{◌≡◌, ◌≢◌, ℕ, zero, suc, ◌+◌, ◌%◌, ◌^◌, ◌<◌, ◌≤◌, Bool, true, false, ◌&&◌, ◌||◌, List, [], ◌∷◌, ◌++◌, fold, length, replicate, slice_get, slice_index_or, slice_set, take, Option, Some, None, IfSome, ◌⊎◌, ⊎_elim, inl, if◌then◌else◌, refl, sym, ◌∙◌, ap, subst, arith}
use Rattle.std.specs.List.{AllByRecursion}
use Rattle.std.specs.Option.{option_map}
use Rattle.std.proofs.lemmas.Bool.{and_right, and_left, cases_eq, eq-eqb, ne_eqb}
use Rattle.std.proofs.lemmas.List.{get_or-replicate, get_or-set_other, get_or-set_same, length-replicate, length-set, take_all}
use Rattle.std.proofs.lemmas.List.Sums.{fold_more}
use Rattle.std.proofs.lemmas.Option.{get_or_from_slice_get, none-some, same_Some, slice_get_within}
use Rattle.ule_score.specs.Changes.{HasNumbers}
use Rattle.ule_score.specs.declared.place.Place.{Place}
use Rattle.ule_score.specs.declared.place.Place.TheVariants.{Running, Queued, Asleep, Unborn, Gone, Hand}
use Rattle.ule_score.specs.declared.record.Settings.{Settings}
use Rattle.ule_score.specs.declared.record.ThreadRecord.{ThreadRecord}
use Rattle.ule_sleep.specs.Chain.{ChainValue, IsEmptyChain, standing_in}
use Rattle.ule_sleep.specs.Limbo.{IsEmptyLimbo, LimboValue, with_still}
use Rattle.ule_threads.specs.declared.standing.Standing.{Standing}
use Rattle.ule_types.specs.Rules.{declared_ids}
use Rattle.ule_types.specs.declared.setup.Setup.{Setup}
use Rattle.ule_types.specs.declared.setup.ThreadSpec.{ThreadSpec}
use Rattle.ule_model.specs.CpuStart.{StartsAs, line_at_start}
use Rattle.ule_model.specs.CpuValue.{CpuValue, StandsFor, thread_in, value_laid}
use Rattle.ule_model.specs.Frames.{thread_under}
use Rattle.ule_model.specs.LockValue.{LockValue, chain, limbo, nothing, queue}
use Rattle.ule_model.specs.Places.{hand_of, is_hand_of, is_number, is_on, is_under}
use Rattle.ule_model.specs.Start.{balance_count, empty_world, first_balance_word, start_line, laid, laid_on, record_of, unborn_member, unborn_record, with_unborn, world_at_start}
use Rattle.ule_model.specs.WellMade.{IsWellMade}
use Rattle.ule_model.specs.World.{Member, Side, World, fresh_line, is_numbered, side_of, thread_of}
use Rattle.ule_model.specs.WorldValue.{HasNoneUnder, IsAsleepOn, IsChainOf, IsHandOf, IsLimboOf, IsNothingOf, IsQueueOf, Shows, StandsUnder, WorldValue, held_by, standing_of}
use Rattle.ule_members.proofs.PlaceFinds.{thread_at_none}
use Rattle.ule_members.proofs.Setups.{setup_scripts}
use Rattle.ule_members.proofs.Starts.{IsGood, IsLaid, IsPlaceAtStart, IsQueuedBelow, declared_laid, fresh_record, good_numbers, laid_first, laid_first_is, laid_is, laid_on_is, newly_laid, next_is_new, next_unborn_is_new, queued_numbers, start_free, start_laid, unborn_first, with_member}
use Rattle.ule_members.proofs.Threads.{find-appended, find-appended_new, find_nowhere}
use Rattle.ule_members.proofs.Within.{all_along}
use Rattle.ule_laws.proofs.CpuLaws.{appended_stands, laid_stands}
use Rattle.ule_laws.proofs.CpuStarts.{start_stands}
use Rattle.ule_laws.proofs.Queueing.{IsJoined}

-- ---- one thread more

-- a look-up under another lock finds what it found
pub under-appended : (l t : ℕ) (m : Member) (ms : List Member) → is_under l m.place ≡ false → thread_under l t (ms ++ m ∷ []) ≡ thread_under l t ms
under-appended l t m ms off = find-appended (λ n. is_numbered t n && is_under l n.place) ms m (and_right (is_numbered t m) (is_under l m.place) off)

-- a place that doesn't lie under a CPU's lock is not on the CPU
pub off_from_under : (c : ℕ) (place : Place) → is_under c place ≡ false → is_on c place ≡ false
off_from_under c (Running d) off = ap (λ b. b || false) off
off_from_under c (Queued d k b) off = off
off_from_under c (Asleep channel) off = refl
off_from_under c Unborn off = refl
off_from_under c Gone off = refl
off_from_under c (Hand w) off = refl

-- what stands under a lock stands there with one thread more under another
pub appended_under : (m : Member) (w : World) (l : ℕ) (value : LockValue) → is_under l m.place ≡ false → StandsUnder w l value → StandsUnder (with_member m w) l value
appended_under m w l (queue v) off is = record {
  cpu = is.cpu;
  there = is.there;
  stands = appended_stands m v (side_of l w) is.stands (off_from_under v.cpu m.place (ap (λ c. is_under c m.place) is.cpu ∙ off));
}
appended_under m w l (chain v) off is = record {
  number = is.number;
  small = is.small;
  slots = is.slots;
  under = λ t. is.under t ∙ ap (option_map standing_of) (sym (under-appended l t m w.members off));
  asleep = is.asleep;
}
appended_under m w l (limbo v) off is = record {
  number = is.number;
  slots = is.slots;
  under = λ t. is.under t ∙ ap (option_map standing_of) (sym (under-appended l t m w.members off));
  still = is.still;
}
appended_under m w l nothing off is = record {
  past = is.past;
  queue = is.queue;
  none = λ t. under-appended l t m w.members off ∙ is.none t;
}

-- ---- a declared thread

-- what stands under another lock than its CPU's stands there with a declared thread laid
pub laid_elsewhere : (w : World) (spec : ThreadSpec) (l : ℕ) (value : LockValue) → thread_of spec.id w.members ≡ None → l ≢ spec.cpu →
    StandsUnder w l value → StandsUnder (laid w spec) l value
laid_elsewhere w spec l value new other is =
    subst (λ (x : World). StandsUnder x l value) (sym (laid_is w spec new)) (appended_under (newly_laid w spec) w l value (ne_eqb l spec.cpu other) is)

-- under the lock of its CPU stands the CPU with the thread laid
pub laid_here : (w : World) (spec : ThreadSpec) (v : CpuValue) → thread_of spec.id w.members ≡ None → IsWellMade w.members → HasNumbers (record_of w.settings spec) →
    IsQueueOf w spec.cpu v → IsQueueOf (laid w spec) spec.cpu (value_laid (record_of w.settings spec) v)
laid_here w spec v new made numbers is =
    subst (λ (x : World). IsQueueOf x c (value_laid r v)) (sym (laid_is w spec new)) (record {
      cpu = joined.cpu ∙ is.cpu;
      there = is.there;
      stands = subst (λ (s : Side). StandsFor (value_laid r v) s) (laid_on_is c r (side_of c w) new) joined.stands;
    })
  where
    c : ℕ
    c = spec.cpu

    r : ThreadRecord
    r = record_of w.settings spec

    with_record : CpuValue
    with_record = record v { threads = slice_set v.threads r.id (Some r); load = v.load + 1 }

    joined : IsJoined with_record (value_laid r v) (laid_on c r (side_of c w))
    joined = subst (λ (d : ℕ). IsJoined with_record (value_laid r v) (laid_on d r (side_of c w))) is.cpu (laid_stands r v (side_of c w) is.stands made numbers new)

-- ---- an unborn thread

-- what stands under another lock than limbo's stands there with one unborn thread more
pub unborn_elsewhere : (w : World) (t l : ℕ) (value : LockValue) → l ≢ 24 → StandsUnder w l value → StandsUnder (with_unborn w t) l value
unborn_elsewhere w t l value other is = appended_under (unborn_member (unborn_record t)) w l value (ne_eqb l 24 other) is

-- under limbo's lock stands limbo with the unborn thread put there
pub unborn_here : (w : World) (t : ℕ) (v : LimboValue) → thread_of t w.members ≡ None → t < 256 → IsLimboOf w 24 v →
    IsLimboOf (with_unborn w t) 24 (with_still (unborn_record t) Unborn v)
unborn_here w t v new small is = record {
  number = refl;
  slots = length-set v.slots t (Some there) ∙ is.slots;
  under = λ u. ⊎_elim (λ (same : u ≡ t). own u same) (λ (other : u ≡ t → ⊥). rest u other) (cases_eq u t);
  still = λ u. ⊎_elim (λ (same : u ≡ t). own_still u same) (λ (other : u ≡ t → ⊥). rest_still u other) (cases_eq u t);
}
  where
    m : Member
    m = unborn_member (unborn_record t)

    there : Standing
    there = standing_of m

    slots : List (Option Standing)
    slots = slice_set v.slots t (Some there)

    members : List Member
    members = w.members ++ m ∷ []

    found : (u : ℕ) → u ≡ t → standing_in slots u ≡ Some there
    found u same = ap (standing_in slots) same ∙ get_or-set_same v.slots t (Some there) None (subst (λ (i : ℕ). t < i) (sym is.slots) small)

    kept : (u : ℕ) → (u ≡ t → ⊥) → standing_in slots u ≡ standing_in v.slots u
    kept u other = get_or-set_other v.slots t u (Some there) None other

    found_there : thread_under 24 t members ≡ Some m
    found_there =
        find-appended_new (λ n. is_numbered t n && is_under 24 n.place) w.members m (thread_at_none (is_under 24) t w.members new)
        (ap (λ b. b && true) (eq-eqb t t refl))

    own : (u : ℕ) → u ≡ t → standing_in slots u ≡ option_map standing_of (thread_under 24 u members)
    own u same = found u same ∙ sym (ap (λ i. option_map standing_of (thread_under 24 i members)) same ∙ ap (option_map standing_of) found_there)

    rest : (u : ℕ) → (u ≡ t → ⊥) → standing_in slots u ≡ option_map standing_of (thread_under 24 u members)
    rest u other =
        kept u other ∙ is.under u ∙
        ap (option_map standing_of) (sym (find-appended (λ n. is_numbered u n && is_under 24 n.place) w.members m (and_left (is_numbered u m) (is_under 24 m.place) (ne_eqb t u (λ e. other (sym e))))))

    own_still : (u : ℕ) → u ≡ t → IfSome (standing_in slots u) (λ s. (s.place ≡ Unborn) ⊎ (s.place ≡ Gone))
    own_still u same = subst (λ (o : Option Standing). IfSome o (λ s. (s.place ≡ Unborn) ⊎ (s.place ≡ Gone))) (sym (found u same)) (inl refl)

    rest_still : (u : ℕ) → (u ≡ t → ⊥) → IfSome (standing_in slots u) (λ s. (s.place ≡ Unborn) ⊎ (s.place ≡ Gone))
    rest_still u other = subst (λ (o : Option Standing). IfSome o (λ s. (s.place ≡ Unborn) ⊎ (s.place ≡ Gone))) (sym (kept u other)) (is.still u)

-- ---- nothing under a lock

-- a queued thread lies under none of the locks from the number of CPUs on
pub queued_off : (cpus l : ℕ) (place : Place) → cpus ≤ l → IsQueuedBelow cpus place → is_under l place ≡ false
queued_off cpus l (Running c) past is = absurd is
queued_off cpus l (Queued c k b) past is = ne_eqb l c (λ (same : l ≡ c). omega (arith, same, is, past))
queued_off cpus l (Asleep channel) past is = absurd is
queued_off cpus l Unborn past is = absurd is
queued_off cpus l Gone past is = absurd is
queued_off cpus l (Hand w) past is = absurd is

-- a thread of the start lies under none of the locks from the number of CPUs on but limbo's
pub start_off : (cpus l : ℕ) (place : Place) → cpus ≤ l → l ≢ 24 → IsPlaceAtStart cpus place → is_under l place ≡ false
start_off cpus l (Running c) past other is = absurd is
start_off cpus l (Queued c k b) past other is = ne_eqb l c (λ (same : l ≡ c). omega (arith, same, is, past))
start_off cpus l (Asleep channel) past other is = absurd is
start_off cpus l Unborn past other is = ne_eqb l 24 other
start_off cpus l Gone past other is = absurd is
start_off cpus l (Hand w) past other is = absurd is

-- threads of which none lies under a lock have none there
pub none_under : (l : ℕ) (ms : List Member) → AllByRecursion (λ m. is_under l m.place ≡ false) ms → (t : ℕ) → thread_under l t ms ≡ None
none_under l ms off t =
    find_nowhere (λ m. is_numbered t m && is_under l m.place) ms
    (all_along (λ m. is_under l m.place ≡ false) (λ m. (is_numbered t m && is_under l m.place) ≡ false) ms (λ m fails. and_right (is_numbered t m) (is_under l m.place) fails) off)

-- at the start no thread is under a lock from the number of CPUs on but limbo's
pub start_none_under : (s : Setup) (l : ℕ) → s.cpus ≤ l → l ≢ 24 → HasNoneUnder (world_at_start s) l
start_none_under s l past other =
    none_under l (world_at_start s).members
    (all_along (λ m. IsPlaceAtStart s.cpus m.place) (λ m. is_under l m.place ≡ false) (world_at_start s).members (λ m is. start_off s.cpus l m.place past other is) (start_laid s).places)

-- at the start no thread is in a hand
pub start_no_hand : (s : Setup) (h : ℕ) → IsHandOf (world_at_start s) h None
start_no_hand s h t =
    sym (ap (option_map (λ m. m.thread)) (find_nowhere (λ m. is_numbered t m && is_hand_of h m.place) (world_at_start s).members
    (all_along (λ m. hand_of m.place ≡ None) (λ m. (is_numbered t m && is_hand_of h m.place) ≡ false) (world_at_start s).members
    (λ m free. and_right (is_numbered t m) (is_hand_of h m.place) (ap (is_number h) free)) (start_free s))))

-- ---- a queue lock, thread by thread

-- where the balance word of a setup starts
abbrev pub starting_word : Setup → ℕ
starting_word s = (s.jitter + 16) % 2 ^ 32

-- the numbers of CPU c before any thread is laid
pub empty_line : (s : Setup) (c : ℕ) → c < s.cpus → slice_index_or (empty_world s).lines c fresh_line ≡ line_at_start c (starting_word s)
empty_line s c within =
    ⊎_elim
    (λ (same : c ≡ 0).
    ap (λ (i : ℕ). slice_index_or (empty_world s).lines i fresh_line) same ∙
    get_or-set_same (replicate s.cpus fresh_line) 0 (start_line s.jitter) fresh_line (let long = length-replicate s.cpus fresh_line in omega arith) ∙
    ap (λ (d : Bool). record fresh_line { balance = if d then balance_count (first_balance_word s.jitter) else 0 }) (sym (eq-eqb c 0 same)))
    (λ (other : c ≡ 0 → ⊥).
    get_or-set_other (replicate s.cpus fresh_line) 0 c (start_line s.jitter) fresh_line other ∙
    get_or-replicate s.cpus c fresh_line fresh_line within ∙
    ap (λ (d : Bool). record fresh_line { balance = if d then balance_count (first_balance_word s.jitter) else 0 }) (sym (ne_eqb c 0 other)))
    (cases_eq c 0)

-- a CPU as it starts stands under its lock before any thread is laid
pub queue_before : (s : Setup) (c : ℕ) (v : CpuValue) (word : ℕ) → c < s.cpus → word ≡ starting_word s → StartsAs v c s.settings word → IsQueueOf (laid_first s 0) c v
queue_before s c v word within is begins = record {
  cpu = starts.cpu;
  there = let long = length-set (replicate s.cpus fresh_line) 0 (start_line s.jitter) in let as_long = length-replicate s.cpus fresh_line in omega arith;
  stands =
      start_stands v (side_of c (empty_world s)) c (starting_word s) starts refl (empty_line s c within)
      (λ zero. sym (ap (λ (d : Bool). if d then first_balance_word s.jitter else starting_word s) (eq-eqb c 0 (sym starts.cpu ∙ zero))));
}
  where
    starts : StartsAs v c s.settings (starting_word s)
    starts = subst (StartsAs v c s.settings) is begins

-- what holds of each element holds of one that is found
all_got : {X : Type 0} (P : X → Type 0) (xs : List X) (k : ℕ) (x : X) → AllByRecursion P xs → slice_get xs k ≡ Some x → P x
all_got P [] k x all at = absurd (none-some x at)
all_got P (y ∷ ys) zero x all at = subst P (same_Some y x at) all.0
all_got P (y ∷ ys) (suc k) x all at = all_got P ys k x all.1 at

-- with the next declared thread laid the world is that with one more of them
laid_next : (s : Setup) (k : ℕ) (spec : ThreadSpec) → slice_get s.threads k ≡ Some spec → laid_first s (k + 1) ≡ laid (laid_first s k) spec
laid_next s k spec at =
    fold_more laid (empty_world s) s.threads k spec (slice_get_within s.threads k spec at) ∙
    ap (laid (laid_first s k)) (get_or_from_slice_get s.threads k spec spec at)

-- the next declared thread is not on a CPU yet
pub queue_absent : (s : Setup) (k c : ℕ) (spec : ThreadSpec) (v : CpuValue) → slice_get s.threads k ≡ Some spec → IsQueueOf (laid_first s k) c v →
    thread_in v spec.id ≡ None
queue_absent s k c spec v at is =
    is.stands.threads spec.id ∙ ap (option_map (λ m. m.thread)) (thread_at_none (is_on v.cpu) spec.id (laid_first s k).members (next_is_new s k spec at))

-- under the lock of its CPU stands the CPU with the next declared thread laid
pub queue_next : (s : Setup) (k : ℕ) (spec : ThreadSpec) (v : CpuValue) → slice_get s.threads k ≡ Some spec → IsQueueOf (laid_first s k) spec.cpu v →
    IsQueueOf (laid_first s (k + 1)) spec.cpu (value_laid (record_of s.settings spec) v)
queue_next s k spec v at is =
    subst (λ (w : World). IsQueueOf w spec.cpu (value_laid (record_of s.settings spec) v)) (sym (laid_next s k spec at))
    (subst (λ (settings : Settings). IsQueueOf (laid (laid_first s k) spec) spec.cpu (value_laid (record_of settings spec) v)) so_far.settings_are
    (laid_here (laid_first s k) spec v (next_is_new s k spec at) so_far.made.members
    (fresh_record s.cpus (laid_first s k).settings spec (all_got (IsGood s.cpus) s.threads k spec (good_numbers s).queued at)).1 is))
  where
    so_far : IsLaid (IsQueuedBelow s.cpus) s.cpus s.settings (queued_numbers (take k s.threads)) (laid_first s k)
    so_far = laid_first_is s k

-- under the lock of another CPU stands what stood there before the next declared thread is laid
pub queue_kept : (s : Setup) (k c : ℕ) (spec : ThreadSpec) (v : CpuValue) → slice_get s.threads k ≡ Some spec → c ≢ spec.cpu → IsQueueOf (laid_first s k) c v →
    IsQueueOf (laid_first s (k + 1)) c v
queue_kept s k c spec v at other is =
    subst (λ (w : World). IsQueueOf w c v) (sym (laid_next s k spec at)) (laid_elsewhere (laid_first s k) spec c (queue v) (next_is_new s k spec at) other is)

-- whether it is the next declared thread's CPU or another, its value stands with the thread laid
pub queue_laid : (s : Setup) (k c : ℕ) (spec : ThreadSpec) (v new : CpuValue) → slice_get s.threads k ≡ Some spec →
    (c ≡ spec.cpu → new ≡ value_laid (record_of s.settings spec) v) → (c ≢ spec.cpu → new ≡ v) → IsQueueOf (laid_first s k) c v → IsQueueOf (laid_first s (k + 1)) c new
queue_laid s k c spec v new at own elsewhere is =
    ⊎_elim
    (λ (same : c ≡ spec.cpu).
    subst (λ (u : CpuValue). IsQueueOf (laid_first s (k + 1)) c u) (sym (own same))
    (subst (λ (d : ℕ). IsQueueOf (laid_first s (k + 1)) d (value_laid (record_of s.settings spec) v)) (sym same)
    (queue_next s k spec v at (subst (λ (d : ℕ). IsQueueOf (laid_first s k) d v) same is))))
    (λ (other : c ≡ spec.cpu → ⊥). subst (λ (u : CpuValue). IsQueueOf (laid_first s (k + 1)) c u) (sym (elsewhere other)) (queue_kept s k c spec v at other is))
    (cases_eq c spec.cpu)

-- what stands under another lock than limbo's stands there with these unborn threads
all_unborn_elsewhere : (w : World) (us : List ℕ) (l : ℕ) (value : LockValue) → l ≢ 24 → StandsUnder w l value → StandsUnder (fold with_unborn w us) l value
all_unborn_elsewhere w [] l value other is = is
all_unborn_elsewhere w (u ∷ us) l value other is = all_unborn_elsewhere (with_unborn w u) us l value other (unborn_elsewhere w u l value other is)

-- a CPU with all its declared threads laid stands under its lock at the start
pub queue_at_start : (s : Setup) (c : ℕ) (v : CpuValue) (k : ℕ) → c < s.cpus → length s.threads ≤ k → IsQueueOf (laid_first s k) c v → IsQueueOf (world_at_start s) c v
queue_at_start s c v k within all is =
    all_unborn_elsewhere (fold laid (empty_world s) s.threads) s.unborn c (queue v) (λ (same : c ≡ 24). omega (arith, same, within, (setup_scripts s).cpus))
    (subst (λ (specs : List ThreadSpec). IsQueueOf (fold laid (empty_world s) specs) c v) (take_all k s.threads all) is)

-- ---- the other locks

-- a chain without sleepers stands under its lock at the start
pub chain_at_start : (s : Setup) (number : ℕ) (v : ChainValue) → number < 8 → length v.slots ≡ 256 → IsEmptyChain v number → IsChainOf (world_at_start s) (16 + number) v
chain_at_start s number v small slots empty = record {
  number = ap (λ (k : ℕ). 16 + k) empty.number_is;
  small = subst (λ (k : ℕ). k < 8) (sym empty.number_is) small;
  slots = slots;
  under = λ t. empty.none t ∙ ap (option_map standing_of) (sym (none t));
  asleep = λ t. subst (λ (o : Option Standing). IfSome o (IsAsleepOn v.number)) (sym (empty.none t)) tt;
}
  where
    none : HasNoneUnder (world_at_start s) (16 + number)
    none =
        start_none_under s (16 + number) (let cpus = (setup_scripts s).cpus in omega arith)
        (λ (same : 16 + number ≡ 24). omega (arith, same, small))

-- the lock of a CPU that there isn't has nothing at the start
pub nothing_at_start : (s : Setup) (l : ℕ) → s.cpus ≤ l → l < 16 → IsNothingOf (world_at_start s) l
nothing_at_start s l past small = record {
  past = subst (λ (i : ℕ). i ≤ l) (sym (start_laid s).count) past;
  queue = small;
  none = start_none_under s l past (λ (same : l ≡ 24). omega (arith, same, small));
}

-- ---- limbo, thread by thread

-- limbo without threads stands under its lock before any unborn thread is there
pub limbo_before : (s : Setup) (v : LimboValue) → length v.slots ≡ 256 → IsEmptyLimbo v → IsLimboOf (unborn_first s 0) 24 v
limbo_before s v slots empty = record {
  number = refl;
  slots = slots;
  under = λ t. empty t ∙ ap (option_map standing_of) (sym (none_under 24 world.members off t));
  still = λ t. subst (λ (o : Option Standing). IfSome o (λ s. (s.place ≡ Unborn) ⊎ (s.place ≡ Gone))) (sym (empty t)) tt;
}
  where
    world : World
    world = fold laid (empty_world s) s.threads

    off : AllByRecursion (λ m. is_under 24 m.place ≡ false) world.members
    off =
        all_along (λ m. IsQueuedBelow s.cpus m.place) (λ m. is_under 24 m.place ≡ false) world.members
        (λ m is. queued_off s.cpus 24 m.place (let cpus = (setup_scripts s).cpus in omega arith) is) (declared_laid s).places

-- the next unborn thread is not in limbo yet
pub limbo_absent : (s : Setup) (k t : ℕ) (v : LimboValue) → slice_get s.unborn k ≡ Some t → IsLimboOf (unborn_first s k) 24 v → standing_in v.slots t ≡ None
limbo_absent s k t v at is =
    is.under t ∙ ap (option_map standing_of) (thread_at_none (is_under 24) t (unborn_first s k).members (next_unborn_is_new s k t at))

-- under limbo's lock stands limbo with the next unborn thread put there
pub limbo_next : (s : Setup) (k t : ℕ) (v : LimboValue) → slice_get s.unborn k ≡ Some t → IsLimboOf (unborn_first s k) 24 v →
    IsLimboOf (unborn_first s (k + 1)) 24 (with_still (unborn_record t) Unborn v)
limbo_next s k t v at is =
    subst (λ (w : World). IsLimboOf w 24 (with_still (unborn_record t) Unborn v)) (sym more)
    (unborn_here (unborn_first s k) t v (next_unborn_is_new s k t at) (all_got (λ u. u < 256) s.unborn k t (good_numbers s).unborn at) is)
  where
    more : unborn_first s (k + 1) ≡ with_unborn (unborn_first s k) t
    more =
        fold_more with_unborn (fold laid (empty_world s) s.threads) s.unborn k t (slice_get_within s.unborn k t at) ∙
        ap (with_unborn (unborn_first s k)) (get_or_from_slice_get s.unborn k t t at)

-- limbo with all unborn threads put there stands under its lock at the start
pub limbo_at_start : (s : Setup) (v : LimboValue) (k : ℕ) → length s.unborn ≤ k → IsLimboOf (unborn_first s k) 24 v → IsLimboOf (world_at_start s) 24 v
limbo_at_start s v k all is = subst (λ (us : List ℕ). IsLimboOf (fold with_unborn (fold laid (empty_world s) s.threads) us) 24 v) (take_all k s.unborn all) is

-- ---- the whole scheduler

-- the scheduler with what stands under each lock at the start, and with empty hands, shows the world at the start
pub start_shows : (s : Setup) (v : WorldValue) → v.settings ≡ s.settings → length v.values ≡ 25 →
    ((l : ℕ) → IfSome (slice_get v.values l) (StandsUnder (world_at_start s) l)) → length v.hands ≡ s.cpus → ((h : ℕ) → held_by v h ≡ None) → Shows v (world_at_start s)
start_shows s v settings locks under workers empty = record {
  settings = settings ∙ sym start.settings_are;
  made = start.made.members;
  indexes = start.made.indexes;
  locks = locks;
  cpus = subst (λ (i : ℕ). i ≤ 16) (sym start.count) (setup_scripts s).cpus;
  workers = workers ∙ sym start.count;
  under = under;
  past = λ l past. start_none_under s l (let cpus = (setup_scripts s).cpus in omega arith) (λ (same : l ≡ 24). omega (arith, same, past));
  hands = λ h. subst (IsHandOf (world_at_start s) h) (sym (empty h)) (start_no_hand s h);
}
  where
    start : IsLaid (IsPlaceAtStart s.cpus) s.cpus s.settings (declared_ids s.threads s.unborn) (world_at_start s)
    start = start_laid s

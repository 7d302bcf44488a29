-- The word of a thread at the start names the lock of the CPU on which it is declared, or limbo's.
use Rattle.std.proofs.Common.{◌≡◌, ℕ, Bool, true, false, ◌==◌, List, [], ◌∷◌, ◌++◌, fold, refl, sym, ap, ◌∙◌, Option, Some, None, option_and_then, if◌then◌else◌}
use Rattle.std.specs.Prelude.{find}
use Rattle.std.specs.List.{AllByRecursion}
use Rattle.std.specs.Option.{option_map, option_or}
use Rattle.std.proofs.lemmas.List.{append_assoc}
use Rattle.std.proofs.lemmas.List.Folds.{find-append}
use Rattle.ule_score.specs.declared.record.Settings.{Settings}
use Rattle.ule_types.specs.Rules.{is_distinct}
use Rattle.ule_types.specs.declared.setup.Setup.{Setup}
use Rattle.ule_types.specs.declared.setup.ThreadSpec.{ThreadSpec}
use Rattle.ule_model.specs.Places.{lock_of}
use Rattle.ule_model.specs.Start.{empty_world, laid, unborn_member, unborn_record, with_unborn, world_at_start}
use Rattle.ule_model.specs.World.{Member, World, is_numbered, thread_of}
use Rattle.ule_members.proofs.Starts.{IsGood, IsLaid, IsQueuedBelow, HasGoodNumbers, distinct_new, good_numbers, laid_is, laid_new, laid_once, newly_laid, queued_numbers, laid_first_is}
use Rattle.ule_parts.specs.Scheduler.{lock_or_limbo, opening_word}
use Rattle.ule_seq.specs.Parts.{declared_word}

-- the lock of a thread of a world, if the thread is there and has one
abbrev standing_lock : ℕ → List Member → Option (Option ℕ)
standing_lock t ms = option_map (λ (m : Member). lock_of m.place) (thread_of t ms)

-- the lock of the CPU of a declared thread, if the thread is one of these
abbrev declared_lock : ℕ → List ThreadSpec → Option (Option ℕ)
declared_lock t specs = option_map (λ (spec : ThreadSpec). Some spec.cpu) (find (λ (spec : ThreadSpec). spec.id == t) specs)

-- a lock, or limbo's where there is none
abbrev or_limbo : Option (Option ℕ) → ℕ
or_limbo None = lock_or_limbo None
or_limbo (Some o) = lock_or_limbo o

map_or : {X Y : Type 0} (f : X → Y) (a b : Option X) → option_map f (option_or a b) ≡ option_or (option_map f a) (option_map f b)
map_or f None b = refl
map_or f (Some x) b = refl

map_if : {X Y : Type 0} (f : X → Y) (b : Bool) (x : X) → option_map f (if b then Some x else None) ≡ (if b then Some (f x) else None)
map_if f true x = refl
map_if f false x = refl

or_none : {X : Type 0} (a : Option X) → option_or a None ≡ a
or_none None = refl
or_none (Some x) = refl

or_or : {X : Type 0} (a b c : Option X) → option_or (option_or a b) c ≡ option_or a (option_or b c)
or_or None b c = refl
or_or (Some x) b c = refl

map_first : {X Y : Type 0} (f : X → Y) (b : Bool) (x : X) (rest : Option X) → option_or (if b then Some (f x) else None) (option_map f rest) ≡ option_map f (if b then Some x else rest)
map_first f true x rest = refl
map_first f false x rest = refl

-- with one thread more, the locks are those before it and that of the new place
one_more : (t : ℕ) (ms : List Member) (m : Member) → standing_lock t (ms ++ m ∷ []) ≡ option_or (standing_lock t ms) (if m.thread.id == t then Some (lock_of m.place) else None)
one_more t ms m =
    ap (option_map (λ (n : Member). lock_of n.place)) (find-append (is_numbered t) ms (m ∷ [])) ∙
    (map_or (λ (n : Member). lock_of n.place) (thread_of t ms) (thread_of t (m ∷ [])) ∙
    ap (option_or (standing_lock t ms)) (map_if (λ (n : Member). lock_of n.place) (m.thread.id == t) m))

-- with these threads laid, the locks are those before them and those of their CPUs
all_laid : (cpus : ℕ) (settings : Settings) (t : ℕ) (ids : List ℕ) (w : World) (specs : List ThreadSpec) → AllByRecursion (IsGood cpus) specs → is_distinct (ids ++ queued_numbers specs) ≡ true
    → IsLaid (IsQueuedBelow cpus) cpus settings ids w → standing_lock t (fold laid w specs).members ≡ option_or (standing_lock t w.members) (declared_lock t specs)
all_laid cpus settings t ids w [] good distinct so_far = sym (or_none (standing_lock t w.members))
all_laid cpus settings t ids w (spec ∷ specs) good distinct so_far =
    let grouped = append_assoc ids (spec.id ∷ []) (queued_numbers specs) in
    let new = distinct_new ids spec.id (queued_numbers specs) distinct in
    all_laid cpus settings t (ids ++ spec.id ∷ []) (laid w spec) specs good.1 (ap is_distinct grouped ∙ distinct) (laid_once cpus settings ids w spec good.0 new so_far) ∙
    (ap (λ (x : World). option_or (standing_lock t x.members) (declared_lock t specs)) (laid_is w spec (laid_new (IsQueuedBelow cpus) cpus settings ids w spec.id new so_far)) ∙
    (ap (λ o. option_or o (declared_lock t specs)) (one_more t w.members (newly_laid w spec)) ∙
    (or_or (standing_lock t w.members) (if spec.id == t then Some (Some spec.cpu) else None) (declared_lock t specs) ∙
    ap (option_or (standing_lock t w.members)) (map_first (λ (x : ThreadSpec). Some x.cpu) (spec.id == t) spec (find (λ (x : ThreadSpec). x.id == t) specs)))))

-- an unborn thread more changes no lock, or comes to limbo's
one_unborn : (o : Option (Option ℕ)) (b : Bool) → or_limbo (option_or o (if b then Some (Some 24) else None)) ≡ or_limbo o
one_unborn None true = refl
one_unborn None false = refl
one_unborn (Some o) b = refl

all_unborn : (t : ℕ) (w : World) (us : List ℕ) → or_limbo (standing_lock t (fold with_unborn w us).members) ≡ or_limbo (standing_lock t w.members)
all_unborn t w [] = refl
all_unborn t w (u ∷ us) =
    all_unborn t (with_unborn w u) us ∙ (ap or_limbo (one_more t w.members (unborn_member (unborn_record u))) ∙ one_unborn (standing_lock t w.members) (u == t))

flat : (f : Member → Option ℕ) (o : Option Member) → lock_or_limbo (option_and_then f o) ≡ or_limbo (option_map f o)
flat f None = refl
flat f (Some m) = refl

flat_declared : (o : Option ThreadSpec) → or_limbo (option_map (λ (spec : ThreadSpec). Some spec.cpu) o) ≡ lock_or_limbo (option_map (λ (spec : ThreadSpec). spec.cpu) o)
flat_declared None = refl
flat_declared (Some spec) = refl

-- the word of a thread at the start is the lock of the CPU on which it is declared, or limbo's
pub opening_word_is : (s : Setup) (t : ℕ) → opening_word s t ≡ declared_word s.threads t
opening_word_is s t =
    let good : HasGoodNumbers s = good_numbers s in
    flat (λ (m : Member). lock_of m.place) (thread_of t (world_at_start s).members) ∙
    (all_unborn t (fold laid (empty_world s) s.threads) s.unborn ∙
    (ap or_limbo (all_laid s.cpus s.settings t [] (empty_world s) s.threads good.queued good.distinct (laid_first_is s 0)) ∙
    flat_declared (find (λ (spec : ThreadSpec). spec.id == t) s.threads)))

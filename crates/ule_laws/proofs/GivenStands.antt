-- The thread that a CPU's value gives to another CPU is the one that the side gives which the value stands for.
use Rattle.std.proofs.Common.{◌≡◌, ℕ, ◌<◌, Bool, true, false, ◌&&◌, ◌||◌, List, [], ◌∷◌, Option, Some, None, if◌then◌else◌, option_and_then, refl, sym, ◌∙◌, ap, subst, arith}
use Rattle.std.proofs.Math.Bool.{or-false}
use Rattle.std.proofs.Math.Path.{fun_ext}
use Rattle.std.specs.Prelude.{is_none}
use Rattle.std.specs.List.{AllByRecursion, list_any}
use Rattle.std.specs.Option.{option_map}
use Rattle.std.proofs.lemmas.Bool.{eq-eqb, eqb-true}
use Rattle.std.proofs.lemmas.List.{ext_get_or}
use Rattle.std.proofs.lemmas.List.FromFn.{get_or-map-range_with_len, length-map-range_with_len}
use Rattle.ule_prio.specs.declared.kind.Kind.{Kind}
use Rattle.ule_prio.specs.declared.kind.Kind.TheVariants.{Real, Batch, Idle}
use Rattle.ule_model.specs.CpuNumbers.{is_movable, is_unbound}
use Rattle.ule_model.specs.CpuValue.{CpuValue, StandsFor, thread_on}
use Rattle.ule_model.specs.LockValue.{found_on}
use Rattle.ule_model.specs.Places.{is_on, waits_on}
use Rattle.ule_model.specs.Shows.{ShowsQueue, bucket_ids}
use Rattle.ule_model.specs.Steal.{buckets_of, given_by, given_in, is_movable_on, queues_pick, stolen_in}
use Rattle.ule_model.specs.WellMade.{AllApart, IsWellMade}
use Rattle.ule_model.specs.World.{Member, Side, is_numbered, standing_of, thread_of}
use Rattle.ule_members.proofs.Given.{given_queued}
use Rattle.ule_members.proofs.CalendarPlaces.{made_finds}
use Rattle.ule_members.proofs.PlaceFinds.{thread_at_none}
use Rattle.ule_members.proofs.Threads.{find_nowhere, thread_on_within}
use Rattle.ule_members.proofs.Within.{Lacks, lacks_from_apart, within_thread}
use Rattle.ule_laws.proofs.CpuNumbers.{lacks_where, queued_table, thread_where}
use Rattle.ule_laws.proofs.SeekLaws.{cpu_finds}

-- ---- the lists

-- the lists that show a queue are its buckets
pub lists_stand : (lists : List (List ℕ)) (c : ℕ) (k : Kind) (ms : List Member) → ShowsQueue lists c k ms → lists ≡ buckets_of c k ms
lists_stand lists c k ms shows =
    ext_get_or [] lists (buckets_of c k ms) (shows.buckets ∙ sym (length-map-range_with_len (λ b. bucket_ids c k b ms) 0 64))
    (λ b within. let below : b < 64 = subst (λ (n : ℕ). b < n) shows.buckets within in
    shows.each b below ∙ sym (get_or-map-range_with_len (λ b. bucket_ids c k b ms) 0 64 b b [] below (omega arith)))

-- ---- which threads are movable

-- where none passes none is there
any_nowhere : {X : Type 0} (p : X → Bool) (xs : List X) → AllByRecursion (λ x. p x ≡ false) xs → list_any p xs ≡ false
any_nowhere p [] none = refl
any_nowhere p (x ∷ xs) none = ap (λ d. d || list_any p xs) none.0 ∙ any_nowhere p xs none.1

-- the thread of a number that passes a test is not bound where there is one so
pub unbound_where : (p : Member → Bool) (t : ℕ) (ms : List Member) → AllApart ms →
    is_unbound (option_map (λ m. m.thread) (thread_where p t ms)) ≡ list_any (λ m. is_numbered t m && (p m && is_none m.thread.bound)) ms
unbound_where p t [] apart = refl
unbound_where p t (m ∷ ms) apart = step (is_numbered t m) refl (unbound_where p t ms apart.1)
  where
    passes : Member → Bool
    passes n = p n && is_none n.thread.bound

    own : (d : Bool) → is_unbound (option_map (λ n. n.thread) (if d then Some m else None)) ≡ ((d && is_none m.thread.bound) || false)
    own true = sym (or-false (is_none m.thread.bound))
    own false = refl

    step : (d : Bool) → is_numbered t m ≡ d → is_unbound (option_map (λ n. n.thread) (thread_where p t ms)) ≡ list_any (λ n. is_numbered t n && passes n) ms →
        is_unbound (option_map (λ n. n.thread) (if d && p m then Some m else thread_where p t ms)) ≡ ((d && passes m) || list_any (λ n. is_numbered t n && passes n) ms)
    step false is rest = rest
    step true is rest =
        let lacks : Lacks t ms = subst (λ (u : ℕ). Lacks u ms) (eqb-true m.thread.id t is) (lacks_from_apart m ms apart.0) in
        ap (λ o. is_unbound (option_map (λ (n : Member). n.thread) (if p m then Some m else o))) (find_nowhere (λ n. is_numbered t n && p n) ms (lacks_where p t ms lacks)) ∙
        own (p m) ∙ ap (λ d. passes m || d) (sym (any_nowhere (λ n. is_numbered t n && passes n) ms (lacks_where passes t ms lacks)))

-- a thread is movable by the value as by the side
pub movable_thread_stands : (v : CpuValue) (s : Side) → StandsFor v s → IsWellMade s.members → (t : ℕ) → is_movable v t ≡ is_movable_on v.cpu s.members t
movable_thread_stands v s stands made t =
    ap is_unbound (queued_table v s stands made t) ∙ unbound_where (λ m. waits_on v.cpu m.place) t s.members made.apart

-- ---- the thread

-- the thread that is given
pub given_stands : (v : CpuValue) (s : Side) → StandsFor v s → IsWellMade s.members → given_in v ≡ option_map standing_of (given_by v.cpu s)
given_stands v s stands made = ap (option_and_then (found_on v)) picks ∙ split (pick s.line.ridx (of_side Real) (of_side Batch) (of_side Idle)) refl
  where
    of_side : Kind → List (List ℕ)
    of_side k = buckets_of v.cpu k s.members

    pick : ℕ → List (List ℕ) → List (List ℕ) → List (List ℕ) → Option ℕ
    pick ridx real batch idle = queues_pick (is_movable_on v.cpu s.members) ridx real batch idle

    picks : stolen_in v ≡ pick s.line.ridx (of_side Real) (of_side Batch) (of_side Idle)
    picks =
        ap (λ (movable : ℕ → Bool). queues_pick movable v.line.ridx v.real v.batch v.idle) (fun_ext (movable_thread_stands v s stands made)) ∙
        ap (λ line. pick line.ridx v.real v.batch v.idle) stands.line ∙
        ap (λ q. pick s.line.ridx q v.batch v.idle) (lists_stand v.real v.cpu Real s.members (stands.queues Real)) ∙
        ap (λ q. pick s.line.ridx (of_side Real) q v.idle) (lists_stand v.batch v.cpu Batch s.members (stands.queues Batch)) ∙
        ap (λ q. pick s.line.ridx (of_side Real) (of_side Batch) q) (lists_stand v.idle v.cpu Idle s.members (stands.queues Idle))

    -- the thread of a number that is picked is on the CPU
    there : (t : ℕ) (o : Option Member) → pick s.line.ridx (of_side Real) (of_side Batch) (of_side Idle) ≡ Some t → thread_of t s.members ≡ o → thread_on v.cpu t s.members ≡ o
    there t None picked none = thread_at_none (is_on v.cpu) t s.members none
    there t (Some m) picked found =
        let queued = given_queued v.cpu s m (made_finds s.members made) (ap (option_and_then (λ u. thread_of u s.members)) picked ∙ found) in
        thread_on_within v.cpu t m s.members (within_thread t s.members m made found) ∙
        ap (λ d. if d then Some m else None) (ap (is_on v.cpu) queued.place_is ∙ eq-eqb v.cpu v.cpu refl)

    split : (o : Option ℕ) → pick s.line.ridx (of_side Real) (of_side Batch) (of_side Idle) ≡ o →
        option_and_then (found_on v) o ≡ option_map standing_of (option_and_then (λ t. thread_of t s.members) o)
    split None none = refl
    split (Some t) picked = cpu_finds v s t stands made ∙ ap (option_map standing_of) (there t (thread_of t s.members) picked refl)

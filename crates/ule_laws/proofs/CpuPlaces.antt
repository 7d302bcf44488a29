-- Where a CPU's value has a thread, with its position and its line, is where the side of a world has it.
use Rattle.std.proofs.Common.{◌≡◌, ◌≢◌, ℕ, Bool, true, false, ◌&&◌, List, Option, Some, None, ⊎_elim, if◌then◌else◌, refl, sym, ◌∙◌, ap}
use Rattle.std.specs.Prelude.{option_and_then}
use Rattle.std.specs.Option.{option_map}
use Rattle.std.proofs.lemmas.Bool.{and_from, both_ways, eq-eqb, ne_eqb, or_cases, or_left, or_right}
use Rattle.std.proofs.lemmas.Option.{same_Some, none-some}
use Rattle.ule_prio.specs.declared.kind.Kind.{Kind}
use Rattle.ule_prio.specs.declared.kind.Kind.TheVariants.{Real, Batch, Idle}
use Rattle.ule_runq.specs.Runq.{place_in}
use Rattle.ule_score.specs.declared.place.Place.{Place}
use Rattle.ule_score.specs.declared.place.Place.TheVariants.{Running, Queued, Asleep, Unborn, Gone, Hand}
use Rattle.ule_score.specs.declared.record.ThreadRecord.{ThreadRecord}
use Rattle.ule_model.specs.CpuChange.{kind_if, kind_queued}
use Rattle.ule_model.specs.CpuValue.{CpuValue, StandsFor, current_place, first_found, queue_of, queued_place, thread_in, thread_on, value_line, value_place}
use Rattle.ule_model.specs.Finals.{line_of, position_of, final_line}
use Rattle.ule_model.specs.Places.{is_on, rank_of, runs_on, waits_on}
use Rattle.ule_model.specs.Shows.{ShowsQueue}
use Rattle.ule_model.specs.WellMade.{IsWellMade}
use Rattle.ule_model.specs.World.{Member, Side, current_of, is_numbered}
use Rattle.ule_laws.proofs.PlaceLaws.{place_from_runs_on, place_from_waits_on, waits_on_place}
use Rattle.ule_laws.proofs.Positions.{place_in_lacks, place_in_shown}
use Rattle.ule_members.proofs.Membership.{Has, all_has, has_within, same_from_number}
use Rattle.ule_members.proofs.Threads.{current_runs, find_only, no_other_runs, none_passes, thread_on_stands, within_current, within_thread_on}
use Rattle.ule_members.proofs.Within.{Within}

-- ---- the parts of a place

-- what a CPU's parts say of a thread's place: as current thread, and in each queue
abbrev place_by_parts : ℕ → Option (Place × ℕ) → Option (ℕ × ℕ) → Option (ℕ × ℕ) → Option (ℕ × ℕ) → Option (Place × ℕ)
place_by_parts c now real batch idle =
    first_found now (first_found (queued_place c Real real) (first_found (queued_place c Batch batch) (queued_place c Idle idle)))

-- equal parts say one place
parts_alike : (c : ℕ) (a x : Option (Place × ℕ)) (r y b z i u : Option (ℕ × ℕ)) → a ≡ x → r ≡ y → b ≡ z → i ≡ u →
    place_by_parts c a r b i ≡ place_by_parts c x y z u
parts_alike c a x r y b z i u one two three four =
    ap (λ (o : Option (Place × ℕ)). place_by_parts c o r b i) one ∙ ap (λ (o : Option (ℕ × ℕ)). place_by_parts c x o b i) two ∙
    ap (λ (o : Option (ℕ × ℕ)). place_by_parts c x y o i) three ∙ ap (λ (o : Option (ℕ × ℕ)). place_by_parts c x y z o) four

-- a thread that isn't the current one has no place as such
not_current : (c : ℕ) (o : Option ℕ) (t : ℕ) → ((u : ℕ) → o ≡ Some u → u ≡ t → ⊥) → current_place c o t ≡ None
not_current c None t differs = refl
not_current c (Some u) t differs = ap (λ (d : Bool). if d then Some (Running c, 0) else None) (ne_eqb u t (differs u refl))

-- a thread of this number runs on CPU c
pub record HasRunner (c u : ℕ) (ms : List Member) : Type 0 where
  pub runner : Member
  pub has : Has runner ms
  pub number : runner.thread.id ≡ u
  pub runs : runs_on c runner.place ≡ true

-- the number of a CPU's current thread is that of a thread that runs there
pub runner_of_current : (v : CpuValue) (s : Side) → StandsFor v s → IsWellMade s.members → (u : ℕ) → v.current ≡ Some u → HasRunner v.cpu u s.members
runner_of_current v s stands made u is = split (current_of v.cpu s.members) refl (sym stands.current ∙ is)
  where
    split : (o : Option Member) → current_of v.cpu s.members ≡ o → option_map (λ m. m.thread.id) o ≡ Some u → HasRunner v.cpu u s.members
    split None found same = absurd (none-some u same)
    split (Some m) found same = record {
      runner = m;
      has = has_within m.thread.id m s.members (within_current v.cpu s.members m made found);
      number = same_Some m.thread.id u same;
      runs = current_runs v.cpu s.members m found;
    }

-- ---- a thread that isn't on the CPU

-- a thread whose number finds none on a CPU doesn't stand there
none_stands_on : (c t : ℕ) (ms : List Member) → thread_on c t ms ≡ None → (n : Member) → Has n ms → n.thread.id ≡ t → is_on c n.place ≡ true → ⊥
none_stands_on c t ms none n has number on =
    both_ways (is_numbered t n && is_on c n.place)
    (all_has (λ x. (is_numbered t x && is_on c x.place) ≡ false) n ms (none_passes (λ x. is_numbered t x && is_on c x.place) ms none) has)
    (and_from (is_numbered t n) (is_on c n.place) (eq-eqb n.thread.id t number) on)

-- a queue of a CPU lacks a thread that isn't there
queue_lacks : (lists : List (List ℕ)) (c : ℕ) (k : Kind) (t : ℕ) (ms : List Member) → ShowsQueue lists c k ms → thread_on c t ms ≡ None →
    place_in lists t ≡ None
queue_lacks lists c k t ms shows none =
    place_in_lacks lists c k t ms shows
    (λ n has number b place. none_stands_on c t ms none n has number (or_right (runs_on c n.place) (waits_on c n.place) (waits_on_place c k b n.place place)))

-- a thread that isn't on the CPU has no place there
place_nowhere : (v : CpuValue) (s : Side) (t : ℕ) → StandsFor v s → IsWellMade s.members → thread_on v.cpu t s.members ≡ None → value_place v t ≡ None
place_nowhere v s t stands made none =
    parts_alike v.cpu (current_place v.cpu v.current t) None (place_in v.real t) None (place_in v.batch t) None (place_in v.idle t) None
    (not_current v.cpu v.current t (λ u is same.
    let r = runner_of_current v s stands made u is in
    none_stands_on v.cpu t s.members none r.runner r.has (r.number ∙ same) (or_left (runs_on v.cpu r.runner.place) (waits_on v.cpu r.runner.place) r.runs)))
    (queue_lacks v.real v.cpu Real t s.members (stands.queues Real) none)
    (queue_lacks v.batch v.cpu Batch t s.members (stands.queues Batch) none)
    (queue_lacks v.idle v.cpu Idle t s.members (stands.queues Idle) none)

-- ---- a thread on the CPU

-- a thread that runs has the place of the current one
place_running : (v : CpuValue) (s : Side) (m : Member) → StandsFor v s → Within m.thread.id m s.members → runs_on v.cpu m.place ≡ true →
    value_place v m.thread.id ≡ Some (m.place, position_of m.place m.order s.members)
place_running v s m stands w runs =
    ap (λ (o : Option ℕ). first_found (current_place v.cpu o m.thread.id) queues) (stands.current ∙ ap (option_map (λ (n : Member). n.thread.id)) current) ∙
    ap (λ (d : Bool). first_found (if d then Some (Running v.cpu, 0) else None) queues) (eq-eqb m.thread.id m.thread.id refl) ∙
    ap (λ (p : Place). Some (p, position_of p m.order s.members)) (sym (place_from_runs_on v.cpu m.place runs))
  where
    queues : Option (Place × ℕ)
    queues =
        first_found (queued_place v.cpu Real (place_in v.real m.thread.id))
        (first_found (queued_place v.cpu Batch (place_in v.batch m.thread.id)) (queued_place v.cpu Idle (place_in v.idle m.thread.id)))

    current : current_of v.cpu s.members ≡ Some m
    current =
        ap (current_of v.cpu) w.whole ∙
        find_only (λ n. runs_on v.cpu n.place) w.before m w.after (no_other_runs v.cpu m w.before w.apart_before runs) (no_other_runs v.cpu m w.after w.apart_after runs) ∙
        ap (λ (d : Bool). if d then Some m else None) runs

-- a queued thread isn't the current one
queued_not_current : (v : CpuValue) (s : Side) (m : Member) (k : Kind) (b : ℕ) → StandsFor v s → IsWellMade s.members → Has m s.members →
    m.place ≡ Queued v.cpu k b → current_place v.cpu v.current m.thread.id ≡ None
queued_not_current v s m k b stands made has place =
    not_current v.cpu v.current m.thread.id (λ u is same.
    let r = runner_of_current v s stands made u is in
    both_ways (runs_on v.cpu m.place) (ap (runs_on v.cpu) place)
    (ap (λ (x : Member). runs_on v.cpu x.place) (same_from_number m r.runner s.members made has r.has (sym (r.number ∙ same))) ∙ r.runs))

-- a queued thread is in no queue of another kind
queued_not_other : (lists : List (List ℕ)) (c : ℕ) (j k : Kind) (b : ℕ) (m : Member) (ms : List Member) → ShowsQueue lists c j ms → IsWellMade ms →
    Has m ms → m.place ≡ Queued c k b → rank_of j ≢ rank_of k → place_in lists m.thread.id ≡ None
queued_not_other lists c j k b m ms shows made has place apart =
    place_in_lacks lists c j m.thread.id ms shows
    (λ n there number e other. apart (ap rank_at (sym other ∙ ap (λ (x : Member). x.place) (same_from_number n m ms made there has number) ∙ place)))
  where
    rank_at : Place → ℕ
    rank_at (Queued d i f) = rank_of i
    rank_at (Running d) = 0
    rank_at (Asleep channel) = 0
    rank_at Unborn = 0
    rank_at Gone = 0
    rank_at (Hand h) = 0

-- a queued thread has its place in its queue alone
place_queued : (v : CpuValue) (s : Side) (m : Member) (k : Kind) (b : ℕ) → StandsFor v s → IsWellMade s.members → Has m s.members →
    m.place ≡ Queued v.cpu k b → value_place v m.thread.id ≡ Some (Queued v.cpu k b, position_of m.place m.order s.members)
place_queued v s m Real b stands made has place =
    parts_alike v.cpu (current_place v.cpu v.current m.thread.id) None
    (place_in v.real m.thread.id) (Some (b, position_of m.place m.order s.members)) (place_in v.batch m.thread.id) (place_in v.batch m.thread.id)
    (place_in v.idle m.thread.id) (place_in v.idle m.thread.id)
    (queued_not_current v s m Real b stands made has place) (place_in_shown v.real v.cpu Real b m s.members (stands.queues Real) made has place) refl refl
place_queued v s m Batch b stands made has place =
    parts_alike v.cpu (current_place v.cpu v.current m.thread.id) None
    (place_in v.real m.thread.id) None (place_in v.batch m.thread.id) (Some (b, position_of m.place m.order s.members))
    (place_in v.idle m.thread.id) (place_in v.idle m.thread.id)
    (queued_not_current v s m Batch b stands made has place)
    (queued_not_other v.real v.cpu Real Batch b m s.members (stands.queues Real) made has place (λ e. cc))
    (place_in_shown v.batch v.cpu Batch b m s.members (stands.queues Batch) made has place) refl
place_queued v s m Idle b stands made has place =
    parts_alike v.cpu (current_place v.cpu v.current m.thread.id) None
    (place_in v.real m.thread.id) None (place_in v.batch m.thread.id) None (place_in v.idle m.thread.id) (Some (b, position_of m.place m.order s.members))
    (queued_not_current v s m Idle b stands made has place)
    (queued_not_other v.real v.cpu Real Idle b m s.members (stands.queues Real) made has place (λ e. cc))
    (queued_not_other v.batch v.cpu Batch Idle b m s.members (stands.queues Batch) made has place (λ e. cc))
    (place_in_shown v.idle v.cpu Idle b m s.members (stands.queues Idle) made has place)

-- a thread on the CPU has its place there
place_somewhere : (v : CpuValue) (s : Side) (m : Member) → StandsFor v s → IsWellMade s.members → Within m.thread.id m s.members →
    is_on v.cpu m.place ≡ true → value_place v m.thread.id ≡ Some (m.place, position_of m.place m.order s.members)
place_somewhere v s m stands made w on =
    ⊎_elim
    (λ (runs : runs_on v.cpu m.place ≡ true). place_running v s m stands w runs)
    (λ (waits : waits_on v.cpu m.place ≡ true).
    let at = place_from_waits_on v.cpu m.place waits in
    place_queued v s m at.0 at.1.0 stands made (has_within m.thread.id m s.members w) at.1.1 ∙
    ap (λ (p : Place). Some (p, position_of m.place m.order s.members)) (sym at.1.1))
    (or_cases (runs_on v.cpu m.place) (waits_on v.cpu m.place) on)

-- ---- the queue that has a thread

-- what a CPU's queues say of the kind of the one that has a thread
abbrev kind_by_parts : Option (ℕ × ℕ) → Option (ℕ × ℕ) → Option (ℕ × ℕ) → Option Kind
kind_by_parts real batch idle = first_found (kind_if Real real) (first_found (kind_if Batch batch) (kind_if Idle idle))

-- equal parts say one kind
kinds_alike : (r y b z i u : Option (ℕ × ℕ)) → r ≡ y → b ≡ z → i ≡ u → kind_by_parts r b i ≡ kind_by_parts y z u
kinds_alike r y b z i u one two three =
    ap (λ (o : Option (ℕ × ℕ)). kind_by_parts o b i) one ∙ ap (λ (o : Option (ℕ × ℕ)). kind_by_parts y o i) two ∙
    ap (λ (o : Option (ℕ × ℕ)). kind_by_parts y z o) three

-- the queue that has a queued thread is that of its kind
pub kind_waiting : (v : CpuValue) (s : Side) (m : Member) (k : Kind) (b : ℕ) → StandsFor v s → IsWellMade s.members → Has m s.members →
    m.place ≡ Queued v.cpu k b → kind_queued v m.thread.id ≡ Some k
kind_waiting v s m Real b stands made has place =
    kinds_alike (place_in v.real m.thread.id) (Some (b, position_of m.place m.order s.members)) (place_in v.batch m.thread.id) (place_in v.batch m.thread.id)
    (place_in v.idle m.thread.id) (place_in v.idle m.thread.id)
    (place_in_shown v.real v.cpu Real b m s.members (stands.queues Real) made has place) refl refl
kind_waiting v s m Batch b stands made has place =
    kinds_alike (place_in v.real m.thread.id) None (place_in v.batch m.thread.id) (Some (b, position_of m.place m.order s.members))
    (place_in v.idle m.thread.id) (place_in v.idle m.thread.id)
    (queued_not_other v.real v.cpu Real Batch b m s.members (stands.queues Real) made has place (λ e. cc))
    (place_in_shown v.batch v.cpu Batch b m s.members (stands.queues Batch) made has place) refl
kind_waiting v s m Idle b stands made has place =
    kinds_alike (place_in v.real m.thread.id) None (place_in v.batch m.thread.id) None
    (place_in v.idle m.thread.id) (Some (b, position_of m.place m.order s.members))
    (queued_not_other v.real v.cpu Real Idle b m s.members (stands.queues Real) made has place (λ e. cc))
    (queued_not_other v.batch v.cpu Batch Idle b m s.members (stands.queues Batch) made has place (λ e. cc))
    (place_in_shown v.idle v.cpu Idle b m s.members (stands.queues Idle) made has place)

-- no queue has a thread that runs
pub kind_running : (v : CpuValue) (s : Side) (m : Member) → StandsFor v s → IsWellMade s.members → Has m s.members → runs_on v.cpu m.place ≡ true →
    kind_queued v m.thread.id ≡ None
kind_running v s m stands made has runs =
    kinds_alike (place_in v.real m.thread.id) None (place_in v.batch m.thread.id) None (place_in v.idle m.thread.id) None
    (lacks Real) (lacks Batch) (lacks Idle)
  where
    lacks : (k : Kind) → place_in (queue_of k v) m.thread.id ≡ None
    lacks k =
        place_in_lacks (queue_of k v) v.cpu k m.thread.id s.members (stands.queues k)
        (λ n there number b place.
        both_ways (runs_on v.cpu m.place)
        (ap (λ (x : Member). runs_on v.cpu x.place) (sym (same_from_number n m s.members made there has number)) ∙ ap (runs_on v.cpu) place) runs)

-- ---- what the value tells of a thread

-- a thread found on the CPU has the number by which it was found
found_number : (c t : ℕ) (m : Member) (ms : List Member) → IsWellMade ms → thread_on c t ms ≡ Some m → m.thread.id ≡ t
found_number c t m ms made found = (within_thread_on c t m ms made found).number

-- the place and the position that the value has of a thread are those of the side
pub positions_stand : (v : CpuValue) (s : Side) → StandsFor v s → IsWellMade s.members → (t : ℕ) →
    value_place v t ≡ option_map (λ m. (m.place, position_of m.place m.order s.members)) (thread_on v.cpu t s.members)
positions_stand v s stands made t = split (thread_on v.cpu t s.members) refl
  where
    split : (o : Option Member) → thread_on v.cpu t s.members ≡ o → value_place v t ≡ option_map (λ m. (m.place, position_of m.place m.order s.members)) o
    split None none = place_nowhere v s t stands made none
    split (Some m) found =
        let number : m.thread.id ≡ t = found_number v.cpu t m s.members made found in
        let found_so : thread_on v.cpu m.thread.id s.members ≡ Some m = ap (λ (u : ℕ). thread_on v.cpu u s.members) number ∙ found in
        ap (λ (u : ℕ). value_place v u) (sym number) ∙
        place_somewhere v s m stands made (within_thread_on v.cpu m.thread.id m s.members made found_so) (thread_on_stands v.cpu t m s.members found)

-- the place that the value has of a thread is that of the side
pub place_stands : (v : CpuValue) (s : Side) → StandsFor v s → IsWellMade s.members → (t : ℕ) →
    option_map (λ at. at.0) (value_place v t) ≡ option_map (λ m. m.place) (thread_on v.cpu t s.members)
place_stands v s stands made t =
    ap (option_map (λ (at : Place × ℕ). at.0)) (positions_stand v s stands made t) ∙ split (thread_on v.cpu t s.members)
  where
    split : (o : Option Member) →
        option_map (λ (at : Place × ℕ). at.0) (option_map (λ m. (m.place, position_of m.place m.order s.members)) o) ≡ option_map (λ m. m.place) o
    split None = refl
    split (Some m) = refl

-- the line that the value tells of a thread is that of the side
pub line_stands : (v : CpuValue) (s : Side) → StandsFor v s → IsWellMade s.members → (t : ℕ) →
    value_line v t ≡ option_map (final_line s.members) (thread_on v.cpu t s.members)
line_stands v s stands made t =
    ap (λ (at : Option (Place × ℕ)). option_and_then (λ (r : ThreadRecord). option_map (λ (p : Place × ℕ). line_of r p.0 p.1) at) (thread_in v t)) (positions_stand v s stands made t) ∙
    ap (λ (o : Option ThreadRecord). option_and_then (λ (r : ThreadRecord). option_map (λ (p : Place × ℕ). line_of r p.0 p.1) (placed_at (thread_on v.cpu t s.members))) o) (stands.threads t) ∙
    split (thread_on v.cpu t s.members)
  where
    placed_at : Option Member → Option (Place × ℕ)
    placed_at o = option_map (λ m. (m.place, position_of m.place m.order s.members)) o

    split : (o : Option Member) →
        option_and_then (λ (r : ThreadRecord). option_map (λ (p : Place × ℕ). line_of r p.0 p.1) (placed_at o)) (option_map (λ m. m.thread) o) ≡ option_map (final_line s.members) o
    split None = refl
    split (Some m) = refl

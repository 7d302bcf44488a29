-- Where threads stand in the calendar of a CPU, found by their numbers; and what moves and changes of records make of it.
use Rattle.std.proofs.Common.{◌≡◌, ◌≢◌, ℕ, ◌==◌, ℤ, Bool, true, false, List, [], ◌∷◌, length, map, Option, Some, None, if◌then◌else◌, inl, inr, ⊎_elim, refl, sym, ◌∙◌, ap, subst}
use Rattle.std.specs.Option.{option_map}
use Rattle.std.specs.Prelude.{option_and_then}
use Rattle.std.proofs.lemmas.Bool.{and_parts, and_from, both_ways, cases_eq, cond-true, cond-false, cond_both, eq-eqb, eqb-true, ne_eqb}
use Rattle.std.proofs.lemmas.Option.{none-some, same_Some}
use Rattle.ule_prio.specs.declared.kind.Kind.{Kind}
use Rattle.ule_prio.specs.declared.kind.Kind.TheVariants.{Real, Batch, Idle}
use Rattle.ule_score.specs.declared.place.Place.{Place}
use Rattle.ule_score.specs.declared.place.Place.TheVariants.{Running, Queued, Asleep, Unborn, Gone, Hand}
use Rattle.ule_score.specs.declared.record.ThreadRecord.{ThreadRecord}
use Rattle.ule_model.specs.CalendarPromise.{IsInBucket}
use Rattle.ule_model.specs.Insertion.{members_in}
use Rattle.ule_model.specs.Places.{waits_in}
use Rattle.ule_model.specs.WellMade.{IsWellMade}
use Rattle.ule_model.specs.World.{Member, is_numbered, moved_to, thread_of, with_record}
use Rattle.ule_members.proofs.Membership.{Has, has-filter, has_filtered, thread_of_has}
use Rattle.ule_members.proofs.Threads.{find_mapped, thread_of-changed_apart, thread_of-changed_same}

-- ---- places

-- the bucket of a queue of this kind, where that is the calendar
abbrev pub filed_in : Kind → ℕ → Option ℕ
filed_in Real b = None
filed_in Batch b = Some b
filed_in Idle b = None

-- the bucket of CPU c's calendar that a place is, if it is one
abbrev pub filed_at : ℕ → Place → Option ℕ
filed_at c (Queued d k b) = if c == d then filed_in k b else None
filed_at c (Running d) = None
filed_at c (Asleep channel) = None
filed_at c Unborn = None
filed_at c Gone = None
filed_at c (Hand w) = None

-- the bucket of a calendar that each thread stands in, if it stands there
abbrev pub Filing : Type 0
Filing = ℕ → Option ℕ

-- the bucket of CPU c's calendar that each of these threads stands in
abbrev pub filing_of : ℕ → List Member → Filing
filing_of c ms t = option_and_then (λ m. filed_at c m.place) (thread_of t ms)

-- a bucket of CPU c's calendar is filed as one
pub filed_itself : (c b : ℕ) → filed_at c (Queued c Batch b) ≡ Some b
filed_itself c b = cond-true (c == c) (Some b) None (eq-eqb c c refl)

-- a place on another CPU is in no bucket of this one's calendar
pub filed_elsewhere : (c d : ℕ) (k : Kind) (b : ℕ) → c ≢ d → filed_at c (Queued d k b) ≡ None
filed_elsewhere c d k b apart = cond-false (c == d) (filed_in k b) None (ne_eqb c d apart)

-- a bucket of another queue is in no calendar
pub unfiled_kind : (c b : ℕ) (k : Kind) → filed_in k b ≡ None → filed_at c (Queued c k b) ≡ None
unfiled_kind c b k none = cond-true (c == c) (filed_in k b) None (eq-eqb c c refl) ∙ none

-- a place that is filed is that bucket
pub filed_place : (c b : ℕ) (place : Place) → filed_at c place ≡ Some b → place ≡ Queued c Batch b
filed_place c b (Running d) is = absurd (none-some b is)
filed_place c b (Asleep channel) is = absurd (none-some b is)
filed_place c b Unborn is = absurd (none-some b is)
filed_place c b Gone is = absurd (none-some b is)
filed_place c b (Hand w) is = absurd (none-some b is)
filed_place c b (Queued d k a) is = here (c == d) refl is
  where
    kind : (j : Kind) → c ≡ d → filed_in j a ≡ Some b → Queued d j a ≡ Queued c Batch b
    kind Real same filed = absurd (none-some b filed)
    kind Idle same filed = absurd (none-some b filed)
    kind Batch same filed = ap (λ (x : ℕ). Queued x Batch a) (sym same) ∙ ap (λ (x : ℕ). Queued c Batch x) (same_Some a b filed)

    here : (e : Bool) → (c == d) ≡ e → (if e then filed_in k a else None) ≡ Some b → Queued d k a ≡ Queued c Batch b
    here true same filed = kind k (eqb-true c d same) filed
    here false same filed = absurd (none-some b filed)

-- a place that is filed waits in that bucket
pub waits_where_filed : (c b : ℕ) (place : Place) → filed_at c place ≡ Some b → waits_in c Batch b place ≡ true
waits_where_filed c b place is =
    ap (waits_in c Batch b) (filed_place c b place is) ∙
    and_from (c == c) (b == b) (eq-eqb c c refl) (eq-eqb b b refl)

-- a place that waits in a bucket of the calendar is filed there
pub filed_where_waits : (c b : ℕ) (place : Place) → waits_in c Batch b place ≡ true → filed_at c place ≡ Some b
filed_where_waits c b (Running d) is = absurd (both_ways false refl is)
filed_where_waits c b (Asleep channel) is = absurd (both_ways false refl is)
filed_where_waits c b Unborn is = absurd (both_ways false refl is)
filed_where_waits c b Gone is = absurd (both_ways false refl is)
filed_where_waits c b (Hand w) is = absurd (both_ways false refl is)
filed_where_waits c b (Queued d Batch a) is =
    let parts = and_parts (c == d) (b == a) is in
    cond-true (c == d) (Some a) None parts.0 ∙ ap (λ (x : ℕ). Some x) (sym (eqb-true b a parts.1))
filed_where_waits c b (Queued d Real a) is = absurd (both_ways false refl (and_parts (c == d) false is).1)
filed_where_waits c b (Queued d Idle a) is = absurd (both_ways false refl (and_parts (c == d) false is).1)

-- ---- one thread

-- what a thread's number finds, if it finds a place of the calendar
pub record IsFiled (c b t : ℕ) (ms : List Member) : Type 0 where
  pub member : Member
  pub found : thread_of t ms ≡ Some member
  pub place : member.place ≡ Queued c Batch b

-- a thread that is filed stands in the bucket
pub filed_found : (c b t : ℕ) (ms : List Member) → filing_of c ms t ≡ Some b → IsFiled c b t ms
filed_found c b t ms is = split (thread_of t ms) refl is
  where
    split : (o : Option Member) → thread_of t ms ≡ o → option_and_then (λ m. filed_at c m.place) o ≡ Some b → IsFiled c b t ms
    split None found filed = absurd (none-some b filed)
    split (Some m) found filed = record { member = m; found = found; place = filed_place c b m.place filed }

-- a thread that stands in a bucket is filed there
pub filed_from : (c b t : ℕ) (ms : List Member) → IsInBucket c b t ms → filing_of c ms t ≡ Some b
filed_from c b t ms is = split (thread_of t ms) is
  where
    split : (o : Option Member) → option_map (λ m. m.place) o ≡ Some (Queued c Batch b) → option_and_then (λ m. filed_at c m.place) o ≡ Some b
    split None is = absurd (none-some (Queued c Batch b) is)
    split (Some m) is = ap (filed_at c) (same_Some m.place (Queued c Batch b) is) ∙ filed_itself c b

-- a thread that is filed is in that bucket
pub in_bucket_from : (c b t : ℕ) (ms : List Member) → filing_of c ms t ≡ Some b → IsInBucket c b t ms
in_bucket_from c b t ms is =
    let filed = filed_found c b t ms is in
    ap (option_map (λ m. m.place)) filed.found ∙ ap (λ (p : Place). Some p) filed.place

-- a thread that is found at a place is filed as that
pub filing_found : (c t : ℕ) (m : Member) (ms : List Member) → thread_of t ms ≡ Some m → filing_of c ms t ≡ filed_at c m.place
filing_found c t m ms found = ap (option_and_then (λ (x : Member). filed_at c x.place)) found

-- ---- distinct numbers

-- each thread of a list is the one that its number finds
abbrev pub FindsEach : List Member → Type 0
FindsEach ms = (m : Member) → Has m ms → thread_of m.thread.id ms ≡ Some m

-- well-made threads are found so
pub made_finds : (ms : List Member) → IsWellMade ms → FindsEach ms
made_finds ms made m has = thread_of_has m ms made.apart has

-- an element of a list with each changed is one that was changed
has_mapped : {X : Type 0} (f : X → X) (y : X) (xs : List X) → Has y (map f xs) → (x : X) × (Has x xs × (f x ≡ y))
has_mapped f y [] has = absurd has
has_mapped f y (x ∷ xs) has =
    ⊎_elim
    (λ (here : f x ≡ y). (x, (inl refl, here)))
    (λ (there : Has y (map f xs)). let rest = has_mapped f y xs there in (rest.0, (inr rest.1.0, rest.1.1)))
    has

-- changes that leave the numbers leave each thread found
pub finds_mapped : (f : Member → Member) (ms : List Member) → ((m : Member) → (f m).thread.id ≡ m.thread.id) → FindsEach ms → FindsEach (map f ms)
finds_mapped f ms kept finds n has =
    let old = has_mapped f n ms has in
    let m : Member = old.0 in
    ap (λ (u : ℕ). thread_of u (map f ms)) (ap (λ (x : Member). x.thread.id) (sym old.1.1) ∙ kept m) ∙
    find_mapped (is_numbered m.thread.id) f (λ x. ap (λ (u : ℕ). u == m.thread.id) (kept x)) ms ∙
    ap (option_map f) (finds m old.1.0) ∙ ap (λ (x : Member). Some x) old.1.1

-- ---- changes and moves

-- a change of each that leaves a reading of it leaves the reading of one
reading_mapped : (h : Member → Option ℕ) (g : Member → Member) → ((m : Member) → h (g m) ≡ h m) → (o : Option Member) → option_and_then h (option_map g o) ≡ option_and_then h o
reading_mapped h g same None = refl
reading_mapped h g same (Some m) = same m

-- a change of a record leaves where threads stand
pub filing_recorded : (c u t : ℕ) (f : ThreadRecord → ThreadRecord) (ms : List Member) → ((r : ThreadRecord) → (f r).id ≡ r.id) → filing_of c (with_record u f ms) t ≡ filing_of c ms t
filing_recorded c u t f ms kept =
    ap (option_and_then (λ (m : Member). filed_at c m.place))
    (find_mapped (is_numbered t) g (λ m. ap (λ (x : ℕ). x == t) (number m)) ms) ∙
    reading_mapped (λ m. filed_at c m.place) g place (thread_of t ms)
  where
    g : Member → Member
    g m = if is_numbered u m then record m { thread = f m.thread } else m

    number : (m : Member) → (g m).thread.id ≡ m.thread.id
    number m = cond_both (is_numbered u m) (record m { thread = f m.thread }) m (λ n. n.thread.id ≡ m.thread.id) (λ e. kept m.thread) (λ e. refl)

    place : (m : Member) → filed_at c (g m).place ≡ filed_at c m.place
    place m = cond_both (is_numbered u m) (record m { thread = f m.thread }) m (λ n. filed_at c n.place ≡ filed_at c m.place) (λ e. refl) (λ e. refl)

-- a thread put at a place
abbrev put_at : Place → ℤ → Member → Member
put_at place order m = record m { place = place; order = order }

-- a move of one thread leaves where every other stands
pub filing_moved_other : (c u t : ℕ) (place : Place) (order : ℤ) (ms : List Member) → t ≢ u → filing_of c (moved_to u place order ms) t ≡ filing_of c ms t
filing_moved_other c u t place order ms apart =
    ap (option_and_then (λ (m : Member). filed_at c m.place)) (thread_of-changed_apart t u (put_at place order) ms (λ n. refl) apart)

-- a thread that is moved stands where it is moved to
pub filing_moved : (c u : ℕ) (m : Member) (place : Place) (order : ℤ) (ms : List Member) → thread_of u ms ≡ Some m → filing_of c (moved_to u place order ms) u ≡ filed_at c place
filing_moved c u m place order ms found =
    ap (option_and_then (λ (n : Member). filed_at c n.place))
    (thread_of-changed_same u (put_at place order) ms (λ n. refl) ∙ ap (option_map (put_at place order)) found)

-- a move from outside a calendar to outside it leaves where threads stand in it
pub filing_moved_aside : (c u t : ℕ) (place : Place) (order : ℤ) (ms : List Member) → filing_of c ms u ≡ None → filed_at c place ≡ None →
    filing_of c (moved_to u place order ms) t ≡ filing_of c ms t
filing_moved_aside c u t place order ms old new =
    ⊎_elim
    (λ (same : t ≡ u). ap (filing_of c (moved_to u place order ms)) same ∙ own (thread_of u ms) refl ∙ sym old ∙ ap (filing_of c ms) (sym same))
    (λ (apart : t ≡ u → ⊥). filing_moved_other c u t place order ms apart)
    (cases_eq t u)
  where
    own : (o : Option Member) → thread_of u ms ≡ o → filing_of c (moved_to u place order ms) u ≡ None
    own (Some m) found = filing_moved c u m place order ms found ∙ new
    own None found =
        ap (option_and_then (λ (n : Member). filed_at c n.place))
        (thread_of-changed_same u (put_at place order) ms (λ n. refl) ∙ ap (option_map (put_at place order)) found)

-- ---- buckets that are empty

-- a thread of some of these, which is filed in a bucket that has one of them
pub some_filed : (c b : ℕ) (ns ms : List Member) → FindsEach ms → ((m : Member) → Has m ns → Has m ms) → (length (members_in c Batch b ns) == 0) ≡ false →
    (m : Member) × (Has m ns × (filing_of c ms m.thread.id ≡ Some b))
some_filed c b ns ms finds among is = split (members_in c Batch b ns) refl is
  where
    split : (xs : List Member) → members_in c Batch b ns ≡ xs → (length xs == 0) ≡ false → (m : Member) × (Has m ns × (filing_of c ms m.thread.id ≡ Some b))
    split [] are none = absurd (both_ways true none refl)
    split (x ∷ xs) are some =
        let stands = has_filtered (λ m. waits_in c Batch b m.place) x ns (subst (Has x) (sym are) (inl refl)) in
        (x, (stands.0, filing_found c x.thread.id x ms (finds x (among x stands.0)) ∙ filed_where_waits c b x.place stands.1))

-- a bucket of some of these that a thread of them is filed in is not empty
pub none_where_filed : (c b : ℕ) (m : Member) (ns : List Member) → Has m ns → m.place ≡ Queued c Batch b → (length (members_in c Batch b ns) == 0) ≡ false
none_where_filed c b m ns has place =
    split (members_in c Batch b ns) (has-filter (λ x. waits_in c Batch b x.place) m ns has (waits_where_filed c b m.place (ap (filed_at c) place ∙ filed_itself c b)))
  where
    split : (xs : List Member) → Has m xs → (length xs == 0) ≡ false
    split [] has = absurd has
    split (x ∷ xs) has = ne_eqb (length (x ∷ xs)) 0 (λ e. cc)

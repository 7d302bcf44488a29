-- Which changes of one thread keep a world well made.
use Rattle.std.proofs.Common.{◌≡◌, ◌≢◌, ℕ, ◌<◌, ℤ, Bool, true, false, List, [], ◌∷◌, ◌++◌, map, None, if◌then◌else◌, refl, sym, ◌∙◌, ap, subst}
use Rattle.std.specs.List.{AllByRecursion}
use Rattle.std.proofs.lemmas.Bool.{eqb-false}
use Rattle.std.proofs.lemmas.List.{append-nil}
use Rattle.ule_prio.specs.declared.kind.Kind.{Kind}
use Rattle.ule_score.proofs.ChangeLaws.{change_number, change_numbers}
use Rattle.ule_score.specs.Changes.{HasNumbers, IsSoundChange, RecordChange, record_after}
use Rattle.ule_score.specs.declared.place.Place.{Place}
use Rattle.ule_score.specs.declared.place.Place.TheVariants.{Running, Queued}
use Rattle.ule_score.specs.declared.record.Settings.{Settings}
use Rattle.ule_score.specs.declared.record.ThreadRecord.{ThreadRecord}
use Rattle.ule_model.specs.Insertion.{members_in, order_of}
use Rattle.ule_model.specs.declared.insertion.Insertion.{Insertion}
use Rattle.ule_model.specs.Places.{runs_on, waits_in, is_on}
use Rattle.ule_model.specs.WellMade.{IsPlace, IsMade, AreApart, AllApart, IsWellMade}
use Rattle.ule_model.specs.World.{Member, is_numbered, thread_of, current_of, moved_to, with_change, with_record}
use Rattle.ule_members.proofs.Threads.{none_passes}
use Rattle.ule_members.proofs.Within.{Within, all_along, all_back, all_both, all_front, well_made_between, well_made_within}
use Rattle.ule_members.proofs.Apart.{all_from_filter, all_from_map, apart_off, apart_queued, apart_running, order_of_apart, orders_in}

-- ---- a change of records alone

-- threads changed alike, each with its number, place and order kept, are apart as they were
apart_alike : (g : Member → Member) → ((n : Member) → (g n).thread.id ≡ n.thread.id) → ((n : Member) → (g n).place ≡ n.place) →
    ((n : Member) → (g n).order ≡ n.order) → (m n : Member) → AreApart m n → AreApart (g m) (g n)
apart_alike g id place order m n h = record {
  numbers = λ e. h.numbers (sym (id m) ∙ e ∙ id n);
  orders = λ c k b here there e. h.orders c k b (ap (waits_in c k b) (sym (place m)) ∙ here) (ap (waits_in c k b) (sym (place n)) ∙ there) (sym (order m) ∙ e ∙ order n);
  running = λ c here there. h.running c (ap (runs_on c) (sym (place m)) ∙ here) (ap (runs_on c) (sym (place n)) ∙ there);
}

-- what holds of each holds, carried over, of each image
all-map : {X : Type 0} (g : X → X) (P Q : X → Type 0) → ((x : X) → P x → Q (g x)) → (xs : List X) → AllByRecursion P xs → AllByRecursion Q (map g xs)
all-map g P Q step [] all = tt
all-map g P Q step (x ∷ xs) all = (step x all.0, all-map g P Q step xs all.1)

-- threads that are apart are so after a change that keeps each two apart
all_apart-map : (g : Member → Member) → ((m n : Member) → AreApart m n → AreApart (g m) (g n)) → (ms : List Member) → AllApart ms → AllApart (map g ms)
all_apart-map g step [] all = tt
all_apart-map g step (m ∷ ms) all = (all-map g (AreApart m) (AreApart (g m)) (λ n h. step m n h) ms all.0, all_apart-map g step ms all.1)

-- a change of records that keeps numbers, and those in range, keeps a world well made
pub well_made-with_record : (t : ℕ) (change : ThreadRecord → ThreadRecord) (ms : List Member) → ((r : ThreadRecord) → (change r).id ≡ r.id) →
    ((r : ThreadRecord) → HasNumbers r → HasNumbers (change r)) → IsWellMade ms → IsWellMade (with_record t change ms)
well_made-with_record t change ms kept within made = record {
  each = all-map one IsMade IsMade (λ n h. made_still n h (is_numbered t n)) ms made.each;
  apart = all_apart-map one (λ m n h. apart_alike one (λ n. id_kept n (is_numbered t n)) (λ n. place_kept n (is_numbered t n)) (λ n. order_kept n (is_numbered t n)) m n h) ms made.apart;
}
  where
    one : Member → Member
    one n = if is_numbered t n then record n { thread = change n.thread } else n

    made_still : (n : Member) → IsMade n → (d : Bool) → IsMade (if d then record n { thread = change n.thread } else n)
    made_still n h true = record { numbers = within n.thread h.numbers; place = h.place }
    made_still n h false = h

    id_kept : (n : Member) (d : Bool) → (if d then record n { thread = change n.thread } else n).thread.id ≡ n.thread.id
    id_kept n true = kept n.thread
    id_kept n false = refl

    place_kept : (n : Member) (d : Bool) → (if d then record n { thread = change n.thread } else n).place ≡ n.place
    place_kept n true = refl
    place_kept n false = refl

    order_kept : (n : Member) (d : Bool) → (if d then record n { thread = change n.thread } else n).order ≡ n.order
    order_kept n true = refl
    order_kept n false = refl

-- a sound change of a record keeps a world well made
pub well_made-with_change : (settings : Settings) (now t : ℕ) (change : RecordChange) (ms : List Member) → IsSoundChange now change →
    IsWellMade ms → IsWellMade (with_change settings now t change ms)
well_made-with_change settings now t change ms sound made =
    well_made-with_record t (record_after settings now change) ms (change_number settings now change)
    (λ r has. change_numbers settings now change r sound has) made

-- ---- a thread moved

-- a thread moved is apart from the others where that follows of each from the number alone and one fact more
pub well_made_moved : (t : ℕ) (m : Member) (ms : List Member) (w : Within t m ms) (place : Place) (order : ℤ) (P : Member → Type 0) → IsPlace place →
    AllByRecursion P (w.before ++ w.after) →
    ((n : Member) → m.thread.id ≢ n.thread.id → P n → AreApart (record m { place = place; order = order }) n) → IsWellMade (moved_to t place order ms)
well_made_moved t m ms w place order P is all step =
    well_made_within t m ms w (λ n. record n { place = place; order = order })
    (record { numbers = w.made.numbers; place = is })
    (all_both (AreApart m) P (AreApart (record m { place = place; order = order })) w.before (λ n h p. step n h.numbers p) w.apart_before (all_front P w.before w.after all))
    (all_both (AreApart m) P (AreApart (record m { place = place; order = order })) w.after (λ n h p. step n h.numbers p) w.apart_after (all_back P w.before w.after all))

-- a thread put to run on a CPU where no other runs
pub well_made_running : (t : ℕ) (m : Member) (ms : List Member) (w : Within t m ms) (c : ℕ) (order : ℤ) → current_of c (w.before ++ w.after) ≡ None →
    IsWellMade (moved_to t (Running c) order ms)
well_made_running t m ms w c order none =
    well_made_moved t m ms w (Running c) order (λ n. runs_on c n.place ≡ false) tt (none_passes (λ n. runs_on c n.place) (w.before ++ w.after) none)
    (λ n numbers idle. apart_running c (record m { place = Running c; order = order }) n numbers refl idle)

-- a thread moved to a place on no CPU
pub well_made_off : (t : ℕ) (m : Member) (ms : List Member) (w : Within t m ms) (place : Place) (order : ℤ) → IsPlace place →
    ((c : ℕ) → is_on c place ≡ false) → IsWellMade (moved_to t place order ms)
well_made_off t m ms w place order is off =
    well_made_moved t m ms w place order (λ n. Unit {0}) is (all_of (w.before ++ w.after))
    (λ n numbers p. apart_off (record m { place = place; order = order }) n numbers off)
  where
    all_of : (ns : List Member) → AllByRecursion (λ n. Unit {0}) ns
    all_of [] = tt
    all_of (n ∷ ns) = (tt, all_of ns)

-- a thread queued in a bucket with an order that no other has there
pub well_made_queued : (t : ℕ) (m : Member) (ms : List Member) (w : Within t m ms) (c : ℕ) (k : Kind) (b : ℕ) (order : ℤ) → b < 64 →
    AllByRecursion (λ o. order ≢ o) (orders_in c k b (w.before ++ w.after)) → IsWellMade (moved_to t (Queued c k b) order ms)
well_made_queued t m ms w c k b order small orders =
    well_made_moved t m ms w (Queued c k b) order (λ n. waits_in c k b n.place ≡ true → order ≢ n.order) small
    (all_from_filter (λ n. waits_in c k b n.place) (λ n. order ≢ n.order) (w.before ++ w.after)
    (all_from_map (λ n. n.order) (λ o. order ≢ o) (members_in c k b (w.before ++ w.after)) orders))
    (λ n numbers apart. apart_queued c k b (record m { place = Queued c k b; order = order }) n numbers refl apart)

-- a thread that is inserted in a bucket keeps a world well made
pub well_made_joined : (how : Insertion) (c : ℕ) (k : Kind) (b t : ℕ) (m : Member) (ms : List Member) (w : Within t m ms) → b < 64 →
    IsWellMade (moved_to t (Queued c k b) (order_of how (orders_in c k b (w.before ++ w.after))) ms)
well_made_joined how c k b t m ms w small =
    let os = orders_in c k b (w.before ++ w.after) in
    well_made_queued t m ms w c k b (order_of how os) small (order_of_apart how os)

-- ---- a thread appended

-- a thread on no CPU, of a number that no other has, joins a well-made world
pub well_made_appended : (ms : List Member) (n : Member) → IsWellMade ms → IsMade n → ((c : ℕ) → is_on c n.place ≡ false) → thread_of n.thread.id ms ≡ None → IsWellMade (ms ++ n ∷ [])
well_made_appended ms n made is off new =
    well_made_between ms n [] (subst IsWellMade (sym (append-nil ms)) made) is
    (all_along (λ x. is_numbered n.thread.id x ≡ false) (AreApart n) ms (λ x other. apart_off n x (λ e. eqb-false x.thread.id n.thread.id other (sym e)) off) (none_passes (is_numbered n.thread.id) ms new)) tt

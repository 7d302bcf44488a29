-- What the lists of a queue show after one thread of the world is changed, queued or taken out.
use Rattle.std.proofs.Common.{◌≡◌, ◌≢◌, ℕ, ◌<◌, ◌==◌, ℤ, Bool, true, false, not, List, [], ◌∷◌, ◌++◌, map, filter, length, slice_index_or, if◌then◌else◌, refl, sym, ◌∙◌, ap, subst, arith, int_lt, ⊎_elim, slice_set, length-set, get_or-set_same, get_or-set_other}
use Rattle.std.specs.List.{AllByRecursion}
use Rattle.std.proofs.lemmas.Bool.{eq-eqb, ne_eqb, cases_eq}
use Rattle.std.proofs.lemmas.List.{append-nil, length-map, map_push}
use Rattle.std.proofs.lemmas.List.Elements.{filter-append}
use Rattle.ule_prio.specs.declared.kind.Kind.{Kind}
use Rattle.ule_runq.specs.Runq.{list_at, is_empty_at, with_tail, with_head, without}
use Rattle.ule_runq.proofs.RunqLaws.{length-without, list_at-without}
use Rattle.ule_score.specs.declared.place.Place.{Place}
use Rattle.ule_score.specs.declared.place.Place.TheVariants.{Queued}
use Rattle.ule_score.specs.declared.record.ThreadRecord.{ThreadRecord}
use Rattle.ule_model.specs.Insertion.{members_in, tail_order, head_order}
use Rattle.ule_model.specs.Places.{rank_of, waits_in}
use Rattle.ule_model.specs.Shows.{ShowsQueue, by_order, numbers_of, bucket_ids}
use Rattle.ule_model.specs.WellMade.{AreApart}
use Rattle.ule_model.specs.World.{Member, is_numbered, moved_to, with_record}
use Rattle.ule_laws.proofs.Orders.{length-by_order, map-by_order, ids_lacking, ids_without, all-by_order, by_order_last, by_order_first}
use Rattle.ule_members.proofs.Within.{Lacks, Within, changed, changed_within, all-append, all_front, all_back}
use Rattle.ule_members.proofs.Apart.{all_from_map, head_order_below, orders_in, tail_order_above}

-- ---- the threads of a bucket

-- a filter keeps an element that passes where it stands
pub filter_keeps : {X : Type 0} (p : X → Bool) (before : List X) (x : X) (after : List X) → p x ≡ true → filter p (before ++ x ∷ after) ≡ filter p before ++ x ∷ filter p after
filter_keeps p [] x after passes = rw passes refl
filter_keeps p (b ∷ bs) x after passes = step (p b) (filter_keeps p bs x after passes)
  where
    step : (d : Bool) → filter p (bs ++ x ∷ after) ≡ filter p bs ++ x ∷ filter p after →
        (if d then b ∷ filter p (bs ++ x ∷ after) else filter p (bs ++ x ∷ after)) ≡ (if d then b ∷ filter p bs else filter p bs) ++ x ∷ filter p after
    step true rest = ap (λ r. b ∷ r) rest
    step false rest = rest

-- a filter leaves out an element that fails where it stands
pub filter_skips : {X : Type 0} (p : X → Bool) (before : List X) (x : X) (after : List X) → p x ≡ false → filter p (before ++ x ∷ after) ≡ filter p (before ++ after)
filter_skips p [] x after fails = rw fails refl
filter_skips p (b ∷ bs) x after fails = ap (λ r. if p b then b ∷ r else r) (filter_skips p bs x after fails)

-- what holds of each holds of each that a filter keeps
pub all-filter : {X : Type 0} (p : X → Bool) (P : X → Type 0) (xs : List X) → AllByRecursion P xs → AllByRecursion P (filter p xs)
all-filter p P [] all = tt
all-filter p P (x ∷ xs) all = step (p x) (all-filter p P xs all.1)
  where
    step : (b : Bool) → AllByRecursion P (filter p xs) → AllByRecursion P (if b then x ∷ filter p xs else filter p xs)
    step true rest = (all.0, rest)
    step false rest = rest

-- a filter of what is changed alike keeps what it kept
pub filter-map_kept : {X : Type 0} (p : X → Bool) (g : X → X) → ((x : X) → p (g x) ≡ p x) → (xs : List X) → filter p (map g xs) ≡ map g (filter p xs)
filter-map_kept p g kept [] = refl
filter-map_kept p g kept (x ∷ xs) = rw (kept x) (step (p x) (filter-map_kept p g kept xs))
  where
    step : (b : Bool) → filter p (map g xs) ≡ map g (filter p xs) → (if b then g x ∷ filter p (map g xs) else filter p (map g xs)) ≡ map g (if b then x ∷ filter p xs else filter p xs)
    step true rest = ap (λ r. g x ∷ r) rest
    step false rest = rest

-- ---- the numbers of a bucket

-- a thread that isn't in a bucket adds nothing to it
pub bucket_ids_out : (c : ℕ) (k : Kind) (b : ℕ) (before : List Member) (m : Member) (after : List Member) → waits_in c k b m.place ≡ false →
    bucket_ids c k b (before ++ m ∷ after) ≡ bucket_ids c k b (before ++ after)
bucket_ids_out c k b before m after out = ap (λ ns. numbers_of (by_order ns)) (filter_skips (λ n. waits_in c k b n.place) before m after out)

-- what holds of each order in a bucket of two lists holds of the threads of each
orders_front : (P : ℤ → Type 0) (c : ℕ) (k : Kind) (b : ℕ) (before after : List Member) → AllByRecursion P (orders_in c k b (before ++ after)) →
    AllByRecursion (λ n. P n.order) (members_in c k b before) × AllByRecursion (λ n. P n.order) (members_in c k b after)
orders_front P c k b before after all =
    let both : AllByRecursion (λ n. P n.order) (members_in c k b before ++ members_in c k b after) =
    subst (AllByRecursion (λ n. P n.order)) (filter-append (λ n. waits_in c k b n.place) before after) (all_from_map (λ n. n.order) P (members_in c k b (before ++ after)) all) in
    (all_front (λ n. P n.order) (members_in c k b before) (members_in c k b after) both, all_back (λ n. P n.order) (members_in c k b before) (members_in c k b after) both)

-- a thread with the order of the tail is last
pub bucket_ids_last : (c : ℕ) (k : Kind) (b : ℕ) (before : List Member) (m : Member) (after : List Member) → waits_in c k b m.place ≡ true → m.order ≡ tail_order (orders_in c k b (before ++ after)) →
    bucket_ids c k b (before ++ m ∷ after) ≡ bucket_ids c k b (before ++ after) ++ m.thread.id ∷ []
bucket_ids_last c k b before m after here order =
    let above : AllByRecursion (λ o. int_lt o m.order ≡ true) (orders_in c k b (before ++ after)) =
    subst (λ r. AllByRecursion (λ o. int_lt o r ≡ true) (orders_in c k b (before ++ after))) (sym order) (tail_order_above (orders_in c k b (before ++ after))) in
    let parts = orders_front (λ o. int_lt o m.order ≡ true) c k b before after above in
    ap (λ ns. numbers_of (by_order ns)) (filter_keeps (λ n. waits_in c k b n.place) before m after here) ∙
    ap numbers_of (by_order_last (members_in c k b before) m (members_in c k b after) parts.0 parts.1) ∙
    map_push (λ n. n.thread.id) (by_order (members_in c k b before ++ members_in c k b after)) m ∙
    ap (λ ns. numbers_of (by_order ns) ++ m.thread.id ∷ []) (sym (filter-append (λ n. waits_in c k b n.place) before after))

-- a thread with the order of the head is first
pub bucket_ids_first : (c : ℕ) (k : Kind) (b : ℕ) (before : List Member) (m : Member) (after : List Member) → waits_in c k b m.place ≡ true → m.order ≡ head_order (orders_in c k b (before ++ after)) →
    bucket_ids c k b (before ++ m ∷ after) ≡ m.thread.id ∷ bucket_ids c k b (before ++ after)
bucket_ids_first c k b before m after here order =
    let below : AllByRecursion (λ o. int_lt m.order o ≡ true) (orders_in c k b (before ++ after)) =
    subst (λ r. AllByRecursion (λ o. int_lt r o ≡ true) (orders_in c k b (before ++ after))) (sym order) (head_order_below (orders_in c k b (before ++ after))) in
    let parts = orders_front (λ o. int_lt m.order o ≡ true) c k b before after below in
    ap (λ ns. numbers_of (by_order ns)) (filter_keeps (λ n. waits_in c k b n.place) before m after here) ∙
    ap numbers_of (by_order_first (members_in c k b before) m (members_in c k b after) parts.0 parts.1) ∙
    ap (λ ns. m.thread.id ∷ numbers_of (by_order ns)) (sym (filter-append (λ n. waits_in c k b n.place) before after))

-- threads of one bucket that are apart have two orders
orders_apart : (c : ℕ) (k : Kind) (b : ℕ) (m : Member) (ns : List Member) → waits_in c k b m.place ≡ true → AllByRecursion (AreApart m) ns →
    AllByRecursion (λ n. n.order ≢ m.order) (members_in c k b ns)
orders_apart c k b m [] here all = tt
orders_apart c k b m (n ∷ ns) here all = step (waits_in c k b n.place) refl (orders_apart c k b m ns here all.1)
  where
    step : (d : Bool) → waits_in c k b n.place ≡ d → AllByRecursion (λ x. x.order ≢ m.order) (members_in c k b ns) →
        AllByRecursion (λ x. x.order ≢ m.order) (if d then n ∷ members_in c k b ns else members_in c k b ns)
    step true is rest = (λ e. all.0.orders c k b here is (sym e), rest)
    step false is rest = rest

-- without the number of one thread they are those of the others
pub bucket_ids_without : (c : ℕ) (k : Kind) (b : ℕ) (t : ℕ) (m : Member) (ms : List Member) (w : Within t m ms) →
    filter (λ u. not (u == t)) (bucket_ids c k b ms) ≡ bucket_ids c k b (w.before ++ w.after)
bucket_ids_without c k b t m ms w =
    ap (λ ns. filter (λ u. not (u == t)) (bucket_ids c k b ns)) w.whole ∙ split (waits_in c k b m.place) refl
  where
    lacks : (ns : List Member) → Lacks t ns → Lacks t (members_in c k b ns)
    lacks ns all = all-filter (λ n. waits_in c k b n.place) (λ n. is_numbered t n ≡ false) ns all

    split : (d : Bool) → waits_in c k b m.place ≡ d → filter (λ u. not (u == t)) (bucket_ids c k b (w.before ++ m ∷ w.after)) ≡ bucket_ids c k b (w.before ++ w.after)
    split true here =
        ap (λ ns. filter (λ u. not (u == t)) (numbers_of (by_order ns))) (filter_keeps (λ n. waits_in c k b n.place) w.before m w.after here) ∙
        ids_without t (members_in c k b w.before) m (members_in c k b w.after) (orders_apart c k b m w.before here w.apart_before) w.number (lacks w.before w.lacks_before) (lacks w.after w.lacks_after) ∙
        ap (λ ns. numbers_of (by_order ns)) (sym (filter-append (λ n. waits_in c k b n.place) w.before w.after))
    split false out =
        ap (filter (λ u. not (u == t))) (bucket_ids_out c k b w.before m w.after out) ∙
        ids_lacking t (by_order (members_in c k b (w.before ++ w.after)))
        (all-by_order (λ n. is_numbered t n ≡ false) (members_in c k b (w.before ++ w.after)) (lacks (w.before ++ w.after) (all-append (λ n. is_numbered t n ≡ false) w.before w.after w.lacks_before w.lacks_after)))

-- a thread as with_record leaves it
abbrev recorded : ℕ → (ThreadRecord → ThreadRecord) → Member → Member
recorded t change n = if is_numbered t n then record n { thread = change n.thread } else n

-- a thread whose record changes keeps its number where the change does
recorded_id : (t : ℕ) (change : ThreadRecord → ThreadRecord) (n : Member) → ((r : ThreadRecord) → (change r).id ≡ r.id) → (recorded t change n).thread.id ≡ n.thread.id
recorded_id t change n kept = step (is_numbered t n)
  where
    step : (d : Bool) → (if d then record n { thread = change n.thread } else n).thread.id ≡ n.thread.id
    step true = kept n.thread
    step false = refl

-- a change of records alone leaves them
pub bucket_ids-with_record : (c : ℕ) (k : Kind) (b : ℕ) (t : ℕ) (change : ThreadRecord → ThreadRecord) (ms : List Member) →
    ((r : ThreadRecord) → (change r).id ≡ r.id) → bucket_ids c k b (with_record t change ms) ≡ bucket_ids c k b ms
bucket_ids-with_record c k b t change ms kept =
    ap (λ ns. numbers_of (by_order ns)) (filter-map_kept (λ n. waits_in c k b n.place) (recorded t change) (λ n. place_kept n (is_numbered t n)) ms) ∙
    ap numbers_of (map-by_order (recorded t change) (λ n. order_kept n (is_numbered t n)) (members_in c k b ms)) ∙
    ids_kept (by_order (members_in c k b ms))
  where
    place_kept : (n : Member) (d : Bool) → waits_in c k b (if d then record n { thread = change n.thread } else n).place ≡ waits_in c k b n.place
    place_kept n true = refl
    place_kept n false = refl

    order_kept : (n : Member) (d : Bool) → (if d then record n { thread = change n.thread } else n).order ≡ n.order
    order_kept n true = refl
    order_kept n false = refl

    ids_kept : (ns : List Member) → numbers_of (map (recorded t change) ns) ≡ numbers_of ns
    ids_kept [] = refl
    ids_kept (n ∷ ns) = ap (λ u. u ∷ numbers_of (map (recorded t change) ns)) (recorded_id t change n kept) ∙ ap (λ r. n.thread.id ∷ r) (ids_kept ns)

-- ---- what the lists show

-- whether a place is in no bucket of this queue
abbrev pub IsOut : ℕ → Kind → Place → Type 0
IsOut c k place = (b : ℕ) → waits_in c k b place ≡ false

-- lists that show threads show others that have those numbers in each bucket
shows_same : (lists : List (List ℕ)) (c : ℕ) (k : Kind) (ms ns : List Member) → ((b : ℕ) → bucket_ids c k b ns ≡ bucket_ids c k b ms) →
    ShowsQueue lists c k ms → ShowsQueue lists c k ns
shows_same lists c k ms ns same shows = record { buckets = shows.buckets; each = λ b small. shows.each b small ∙ sym (same b) }

-- a change of records alone leaves what the lists show
pub shows-with_record : (lists : List (List ℕ)) (c : ℕ) (k : Kind) (ms : List Member) (t : ℕ) (change : ThreadRecord → ThreadRecord) →
    ((r : ThreadRecord) → (change r).id ≡ r.id) → ShowsQueue lists c k ms → ShowsQueue lists c k (with_record t change ms)
shows-with_record lists c k ms t change kept shows =
    shows_same lists c k ms (with_record t change ms) (λ b. bucket_ids-with_record c k b t change ms kept) shows

-- a thread appended elsewhere leaves what the lists show
pub shows-appended : (lists : List (List ℕ)) (c : ℕ) (k : Kind) (ms : List Member) (n : Member) → IsOut c k n.place →
    ShowsQueue lists c k ms → ShowsQueue lists c k (ms ++ n ∷ [])
shows-appended lists c k ms n out shows =
    shows_same lists c k ms (ms ++ n ∷ []) (λ b. bucket_ids_out c k b ms n [] (out b) ∙ ap (bucket_ids c k b) (append-nil ms)) shows

-- the numbers of a bucket of a list in which one thread is changed to stand out of it
bucket_ids_changed_out : (c : ℕ) (k : Kind) (b : ℕ) (t : ℕ) (m : Member) (ms : List Member) (w : Within t m ms) (f : Member → Member) →
    waits_in c k b (f m).place ≡ false → bucket_ids c k b (changed t f ms) ≡ bucket_ids c k b (w.before ++ w.after)
bucket_ids_changed_out c k b t m ms w f out =
    ap (bucket_ids c k b) (changed_within t m ms w f) ∙ bucket_ids_out c k b w.before (f m) w.after out

-- ---- a thread that leaves a queue, and one that joins it

-- lists that show threads show the others of one that is out of the queue
pub shows-others : (lists : List (List ℕ)) (c : ℕ) (k : Kind) (t : ℕ) (m : Member) (ms : List Member) (w : Within t m ms) → IsOut c k m.place →
    ShowsQueue lists c k ms → ShowsQueue lists c k (w.before ++ w.after)
shows-others lists c k t m ms w out shows =
    shows_same lists c k ms (w.before ++ w.after) (λ b. sym (ap (bucket_ids c k b) w.whole ∙ bucket_ids_out c k b w.before m w.after (out b))) shows

-- lists that show threads show the others of each once its number is taken out
pub shows-without : (lists : List (List ℕ)) (c : ℕ) (k : Kind) (t : ℕ) (m : Member) (ms : List Member) (w : Within t m ms) →
    ShowsQueue lists c k ms → ShowsQueue (without t lists) c k (w.before ++ w.after)
shows-without lists c k t m ms w shows = record {
  buckets = length-without t lists ∙ shows.buckets;
  each = λ b small. list_at-without t lists b ∙ ap (filter (λ u. not (u == t))) (shows.each b small) ∙ bucket_ids_without c k b t m ms w;
}

-- lists that show the others of a thread show it changed to stand out of the queue
pub shows-changed : (lists : List (List ℕ)) (c : ℕ) (k : Kind) (t : ℕ) (m : Member) (ms : List Member) (w : Within t m ms) (f : Member → Member) →
    IsOut c k (f m).place → ShowsQueue lists c k (w.before ++ w.after) → ShowsQueue lists c k (changed t f ms)
shows-changed lists c k t m ms w f out shows =
    shows_same lists c k (w.before ++ w.after) (changed t f ms) (λ b. bucket_ids_changed_out c k b t m ms w f (out b)) shows

-- the place of a queued thread is in its bucket
pub waits_in_itself : (c : ℕ) (k : Kind) (b : ℕ) → waits_in c k b (Queued c k b) ≡ true
waits_in_itself c k b = rw (eq-eqb c c refl, eq-eqb (rank_of k) (rank_of k) refl, eq-eqb b b refl) refl

-- the place of a queued thread is in no other bucket of its queue
pub waits_in_other : (c : ℕ) (k : Kind) (b e : ℕ) → e ≢ b → waits_in c k e (Queued c k b) ≡ false
waits_in_other c k b e apart = rw (eq-eqb c c refl, eq-eqb (rank_of k) (rank_of k) refl, ne_eqb e b apart) refl

-- a thread that joins a bucket of the queue changes the list of that bucket alone
shows_joined : (lists : List (List ℕ)) (c : ℕ) (k : Kind) (b t : ℕ) (m : Member) (ms : List Member) (w : Within t m ms) (o : ℤ) (xs : List ℕ) →
    b < 64 → ShowsQueue lists c k (w.before ++ w.after) →
    xs ≡ bucket_ids c k b (w.before ++ record m { place = Queued c k b; order = o } ∷ w.after) →
    ShowsQueue (slice_set lists b xs) c k (moved_to t (Queued c k b) o ms)
shows_joined lists c k b t m ms w o xs small shows joined = record {
  buckets = length-set lists b xs ∙ shows.buckets;
  each = λ e below. ⊎_elim (here e) (there e below) (cases_eq e b);
}
  where
    here : (e : ℕ) → e ≡ b → slice_index_or (slice_set lists b xs) e [] ≡ bucket_ids c k e (moved_to t (Queued c k b) o ms)
    here e same =
        ap (λ i. slice_index_or (slice_set lists b xs) i []) same ∙ get_or-set_same lists b xs [] (let n = shows.buckets in omega arith) ∙ joined ∙
        ap (bucket_ids c k b) (sym (changed_within t m ms w (λ n. record n { place = Queued c k b; order = o }))) ∙
        ap (λ i. bucket_ids c k i (moved_to t (Queued c k b) o ms)) (sym same)

    there : (e : ℕ) → e < 64 → (e ≡ b → ⊥) → slice_index_or (slice_set lists b xs) e [] ≡ bucket_ids c k e (moved_to t (Queued c k b) o ms)
    there e below apart =
        get_or-set_other lists b e xs [] apart ∙ shows.each e below ∙
        sym (bucket_ids_changed_out c k e t m ms w (λ n. record n { place = Queued c k b; order = o }) (waits_in_other c k b e apart))

-- a thread that joins the queue at the tail of a bucket is put there
pub shows_with_tail : (lists : List (List ℕ)) (c : ℕ) (k : Kind) (b t : ℕ) (m : Member) (ms : List Member) (w : Within t m ms) →
    b < 64 → ShowsQueue lists c k (w.before ++ w.after) →
    ShowsQueue (with_tail lists b t) c k (moved_to t (Queued c k b) (tail_order (orders_in c k b (w.before ++ w.after))) ms)
shows_with_tail lists c k b t m ms w small shows =
    let order : ℤ = tail_order (orders_in c k b (w.before ++ w.after)) in
    shows_joined lists c k b t m ms w order (list_at lists b ++ t ∷ []) small shows
    (ap (λ r. r ++ t ∷ []) (shows.each b small) ∙
    ap (λ u. bucket_ids c k b (w.before ++ w.after) ++ u ∷ []) (sym w.number) ∙
    sym (bucket_ids_last c k b w.before (record m { place = Queued c k b; order = order }) w.after (waits_in_itself c k b) refl))

-- a thread that joins the queue at the head of a bucket is put there
pub shows_with_head : (lists : List (List ℕ)) (c : ℕ) (k : Kind) (b t : ℕ) (m : Member) (ms : List Member) (w : Within t m ms) →
    b < 64 → ShowsQueue lists c k (w.before ++ w.after) →
    ShowsQueue (with_head lists b t) c k (moved_to t (Queued c k b) (head_order (orders_in c k b (w.before ++ w.after))) ms)
shows_with_head lists c k b t m ms w small shows =
    let order : ℤ = head_order (orders_in c k b (w.before ++ w.after)) in
    shows_joined lists c k b t m ms w order (t ∷ list_at lists b) small shows
    (ap (λ r. t ∷ r) (shows.each b small) ∙
    ap (λ u. u ∷ bucket_ids c k b (w.before ++ w.after)) (sym w.number) ∙
    sym (bucket_ids_first c k b w.before (record m { place = Queued c k b; order = order }) w.after (waits_in_itself c k b) refl))

-- ---- empty buckets

-- a bucket has as many threads as its list
pub length-bucket_ids : (c : ℕ) (k : Kind) (b : ℕ) (ms : List Member) → length (bucket_ids c k b ms) ≡ length (members_in c k b ms)
length-bucket_ids c k b ms = length-map (by_order (members_in c k b ms)) (λ m. m.thread.id) ∙ length-by_order (members_in c k b ms)

-- a bucket without threads is an empty list
pub empty_shown : (lists : List (List ℕ)) (c : ℕ) (k : Kind) (ms : List Member) (b : ℕ) → b < 64 → ShowsQueue lists c k ms →
    (length (members_in c k b ms) == 0) ≡ is_empty_at lists b
empty_shown lists c k ms b small shows =
    ap (λ n. n == 0) (sym (ap (λ xs. length xs) (shows.each b small) ∙ length-bucket_ids c k b ms))

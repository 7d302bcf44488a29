-- The choice of a world's CPU and the first thread of the three queues that show it are one.
use Rattle.std.proofs.Common.{◌≡◌, ℕ, ◌<◌, Bool, true, false, ◌&&◌, ◌||◌, List, [], ◌∷◌, filter, Option, Some, None, slice_get, ◌⊎◌, inl, inr, ⊎_elim, refl, sym, ◌∙◌, ap, subst, subst₂, arith}
use Rattle.std.specs.Prelude.{int_lt, nat_lt, ◌==◌}
use Rattle.std.specs.List.{AllByRecursion}
use Rattle.std.specs.Option.{IfSome}
use Rattle.std.proofs.lemmas.Bool.{cases_Bool, cases_order, or_cases, or_from, or_left, or_right, and_parts, and_from, and_left, and_right, eqb-true, eq-eqb, ne_eqb, lt-ltb, le-ltb, ltb-true, cond_both, cond-true, cond-false}
use Rattle.ule_prio.specs.declared.kind.Kind.{Kind}
use Rattle.ule_prio.specs.declared.kind.Kind.TheVariants.{Real, Batch, Idle}
use Rattle.ule_runq.specs.Runq.{list_at, distance, first_from, IsFirstFrom}
use Rattle.ule_runq.proofs.RunqLaws.{first_from_Some, first_from_None}
use Rattle.ule_score.specs.declared.place.Place.{Place}
use Rattle.ule_score.specs.declared.place.Place.TheVariants.{Queued}
use Rattle.ule_score.specs.declared.record.CpuLine.{CpuLine}
use Rattle.ule_model.specs.Choice.{Turn, turn_at, turn_of, comes_before, sooner, least, choice_of, depth_of}
use Rattle.ule_model.specs.CpuValue.{CpuValue, StandsFor, first_in, first_choice, in_kind}
use Rattle.ule_model.specs.Insertion.{members_in}
use Rattle.ule_model.specs.Places.{rank_of, waits_in, waits_on}
use Rattle.ule_model.specs.Shows.{ShowsQueue, by_order, numbers_of}
use Rattle.ule_model.specs.WellMade.{IsMade, IsPlace, IsWellMade}
use Rattle.ule_model.specs.World.{Member, Side, thread_of}
use Rattle.ule_members.proofs.Membership.{Has, all_has, all_from_has, has-filter, has_filtered, has_none, same_from_order, thread_of_has}
use Rattle.ule_laws.proofs.Orders.{lt_not_back}
use Rattle.ule_laws.proofs.Rising.{IsLeastOf, head_by_order, int_same, by_order_has}
use Rattle.ule_laws.proofs.PlaceLaws.{kind_from_rank, place_from_waits_in, waits_in_place, place_from_waits_on, waits_on_place}

-- ---- the least turn

-- a test on a number, and where the numbers are equal on more, goes one way if that does
lexical_flips : (a b : ℕ) (p q : Bool) → (p ≡ true → q ≡ false) → (nat_lt a b || ((a == b) && p)) ≡ true → (nat_lt b a || ((b == a) && q)) ≡ false
lexical_flips a b p q flip first =
    ⊎_elim
    (λ (less : nat_lt a b ≡ true). let below = ltb-true a b less in
    or_from (nat_lt b a) ((b == a) && q) (le-ltb b a (omega arith)) (and_left (b == a) q (ne_eqb b a (λ same. omega arith))))
    (λ (equal : ((a == b) && p) ≡ true). let parts = and_parts (a == b) p equal in let same : a ≡ b = eqb-true a b parts.0 in
    or_from (nat_lt b a) ((b == a) && q) (le-ltb b a (omega arith)) (and_right (b == a) q (flip parts.1)))
    (or_cases (nat_lt a b) ((a == b) && p) first)

-- of two turns one at most comes before the other
comes_before_flips : (s t : Turn) → comes_before s t ≡ true → comes_before t s ≡ false
comes_before_flips s t =
    lexical_flips s.rank t.rank _ _ (lexical_flips s.depth t.depth _ _ (lt_not_back s.order t.order))

-- n is m, or m's turn comes before n's
abbrev IsOrFollows : ℕ → Member → Member → Type 0
IsOrFollows ridx m n = (n ≡ m) ⊎ (comes_before (turn_of ridx m) (turn_of ridx n) ≡ true)

-- what each thread keeps, the least keeps
pub least_keeps : (P : Member → Type 0) (ridx : ℕ) (ms : List Member) → AllByRecursion P ms → IfSome (least ridx ms) P
least_keeps P ridx [] all = tt
least_keeps P ridx (m ∷ ms) all = step P ridx m (least ridx ms) all.0 (least_keeps P ridx ms all.1)
  where
    step : (P : Member → Type 0) (ridx : ℕ) (m : Member) (o : Option Member) → P m → IfSome o P → P (sooner ridx m o)
    step P ridx m None here rest = here
    step P ridx m (Some n) here rest = cond_both (comes_before (turn_of ridx n) (turn_of ridx m)) n m P (λ e. rest) (λ e. here)

-- a thread that comes first stays before one that follows it
stays_sooner : (ridx : ℕ) (m : Member) (o : Option Member) → IfSome o (IsOrFollows ridx m) → sooner ridx m o ≡ m
stays_sooner ridx m None rest = refl
stays_sooner ridx m (Some n) rest =
    ⊎_elim
    (λ (same : n ≡ m). cond_both (comes_before (turn_of ridx n) (turn_of ridx m)) n m (λ z. z ≡ m) (λ e. same) (λ e. refl))
    (λ (after : comes_before (turn_of ridx m) (turn_of ridx n) ≡ true). cond-false _ n m (comes_before_flips (turn_of ridx m) (turn_of ridx n) after))
    rest

-- a thread that comes first takes the place of one that follows it
becomes_sooner : (ridx : ℕ) (m n : Member) → IsOrFollows ridx m n → sooner ridx n (Some m) ≡ m
becomes_sooner ridx m n follows =
    ⊎_elim
    (λ (same : n ≡ m). cond_both (comes_before (turn_of ridx m) (turn_of ridx n)) m n (λ z. z ≡ m) (λ e. refl) (λ e. same))
    (λ (after : comes_before (turn_of ridx m) (turn_of ridx n) ≡ true). cond-true _ m n after)
    follows

-- a thread that all others follow is the least
least_is : (ridx : ℕ) (m : Member) (ms : List Member) → Has m ms → AllByRecursion (IsOrFollows ridx m) ms → least ridx ms ≡ Some m
least_is ridx m [] has all = absurd has
least_is ridx m (n ∷ ns) has all =
    ⊎_elim
    (λ (same : n ≡ m). ap (λ (z : Member). Some z) (ap (λ z. sooner ridx z (least ridx ns)) same ∙ stays_sooner ridx m (least ridx ns) (least_keeps (IsOrFollows ridx m) ridx ns all.1)))
    (λ (rest : Has m ns). ap (λ (z : Member). Some z) (ap (sooner ridx n) (least_is ridx m ns rest all.1) ∙ becomes_sooner ridx m n all.0))
    has

-- ---- the thread whose turn is the least

-- m heads bucket b of CPU c's queue of kind k, and all that would come before it is empty
pub record IsNext (ridx c : ℕ) (k : Kind) (b : ℕ) (m : Member) (ms : List Member) : Type 0 where
  pub bucket : b < 64
  pub head : IsLeastOf m (members_in c k b ms)
  pub nearer : (e : ℕ) → e < 64 → depth_of ridx k e < depth_of ridx k b → members_in c k e ms ≡ []
  pub earlier : (j : Kind) → rank_of j < rank_of k → (e : ℕ) → e < 64 → members_in c j e ms ≡ []

-- two buckets of one depth are one
bucket_from_depth : (ridx : ℕ) (k : Kind) (b e : ℕ) → ridx < 64 → b < 64 → e < 64 → depth_of ridx k b ≡ depth_of ridx k e → b ≡ e
bucket_from_depth ridx Real b e small one other same = same
bucket_from_depth ridx Batch b e small one other same = omega arith
bucket_from_depth ridx Idle b e small one other same = same

-- the turns of two threads, by their places
turns_at : (ridx : ℕ) (m n : Member) (p q : Place) → m.place ≡ p → n.place ≡ q →
    comes_before (turn_at ridx p m.order) (turn_at ridx q n.order) ≡ true → comes_before (turn_of ridx m) (turn_of ridx n) ≡ true
turns_at ridx m n p q one other before =
    subst₂ (λ x y. comes_before (turn_at ridx x m.order) (turn_at ridx y n.order) ≡ true) (sym one) (sym other) before

-- a test on numbers of which the first is less, and on more
lexical_less : (a b : ℕ) (p : Bool) → a < b → (nat_lt a b || ((a == b) && p)) ≡ true
lexical_less a b p less = or_left (nat_lt a b) ((a == b) && p) (lt-ltb a b less)

-- a test on numbers that are equal, and on more that holds
lexical_same : (a b : ℕ) (p : Bool) → a ≡ b → p ≡ true → (nat_lt a b || ((a == b) && p)) ≡ true
lexical_same a b p same more = or_right (nat_lt a b) ((a == b) && p) (and_from (a == b) p (eq-eqb a b same) more)

-- a thread of the next one's queue is the next one or follows it
follows_in_queue : (ridx c : ℕ) (k : Kind) (b e : ℕ) (m n : Member) (ms : List Member) → ridx < 64 → IsWellMade ms → IsNext ridx c k b m ms →
    Has n ms → n.place ≡ Queued c k e → e < 64 → IsOrFollows ridx m n
follows_in_queue ridx c k b e m n ms small made next has place within =
    let mine = has_filtered (λ z. waits_in c k b z.place) m ms next.head.here in
    let stands : m.place ≡ Queued c k b = place_from_waits_in c k b m.place mine.1 in
    ⊎_elim
    (λ (level : depth_of ridx k b ≡ depth_of ridx k e).
    let here : b ≡ e = bucket_from_depth ridx k b e small next.bucket within level in
    let waits : waits_in c k b n.place ≡ true = waits_in_place c k b n.place (place ∙ ap (λ x. Queued c k x) (sym here)) in
    let behind : int_lt n.order m.order ≡ false = next.head.least n (has-filter (λ z. waits_in c k b z.place) n ms has waits) in
    ⊎_elim
    (λ (before : int_lt m.order n.order ≡ true). inr (turns_at ridx m n (Queued c k b) (Queued c k e) stands place
    (lexical_same (rank_of k) (rank_of k) _ refl (lexical_same (depth_of ridx k b) (depth_of ridx k e) _ level before))))
    (λ (not_before : int_lt m.order n.order ≡ false). inl (same_from_order c k b n m ms made has mine.0 waits mine.1 (int_same n.order m.order behind not_before)))
    (cases_Bool (int_lt m.order n.order)))
    (λ (apart : (depth_of ridx k b < depth_of ridx k e) ⊎ (depth_of ridx k e < depth_of ridx k b)). ⊎_elim
    (λ (farther : depth_of ridx k b < depth_of ridx k e). inr (turns_at ridx m n (Queued c k b) (Queued c k e) stands place
    (lexical_same (rank_of k) (rank_of k) _ refl (lexical_less (depth_of ridx k b) (depth_of ridx k e) _ farther))))
    (λ (nearer : depth_of ridx k e < depth_of ridx k b). absurd (has_none n (members_in c k e ms) (next.nearer e within nearer)
    (has-filter (λ z. waits_in c k e z.place) n ms has (waits_in_place c k e n.place place))))
    apart)
    (cases_order (depth_of ridx k b) (depth_of ridx k e))

-- a thread of any of the CPU's queues is the next one or follows it
follows_next : (ridx c : ℕ) (k j : Kind) (b e : ℕ) (m n : Member) (ms : List Member) → ridx < 64 → IsWellMade ms → IsNext ridx c k b m ms → Has n ms →
    n.place ≡ Queued c j e → e < 64 → IsOrFollows ridx m n
follows_next ridx c k j b e m n ms small made next has place within =
    let mine = has_filtered (λ z. waits_in c k b z.place) m ms next.head.here in
    let stands : m.place ≡ Queued c k b = place_from_waits_in c k b m.place mine.1 in
    ⊎_elim
    (λ (same : rank_of k ≡ rank_of j).
    follows_in_queue ridx c k b e m n ms small made next has (place ∙ ap (λ x. Queued c x e) (sym (kind_from_rank k j same))) within)
    (λ (apart : (rank_of k < rank_of j) ⊎ (rank_of j < rank_of k)). ⊎_elim
    (λ (later : rank_of k < rank_of j). inr (turns_at ridx m n (Queued c k b) (Queued c j e) stands place (lexical_less (rank_of k) (rank_of j) _ later)))
    (λ (earlier : rank_of j < rank_of k). absurd (has_none n (members_in c j e ms) (next.earlier j earlier e within)
    (has-filter (λ z. waits_in c j e z.place) n ms has (waits_in_place c j e n.place place))))
    apart)
    (cases_order (rank_of k) (rank_of j))

-- the bucket of a thread of a world is one of the 64
pub bucket_within : (c : ℕ) (k : Kind) (b : ℕ) (m : Member) (ms : List Member) → IsWellMade ms → Has m ms → m.place ≡ Queued c k b → b < 64
bucket_within c k b m ms made has place = subst IsPlace place (all_has IsMade m ms made.each has).place

-- the next thread is the choice
choice_is_next : (ridx c : ℕ) (k : Kind) (b : ℕ) (m : Member) (ms : List Member) → ridx < 64 → IsWellMade ms → IsNext ridx c k b m ms → choice_of c ridx ms ≡ Some m
choice_is_next ridx c k b m ms small made next =
    let mine = has_filtered (λ z. waits_in c k b z.place) m ms next.head.here in
    let waits : waits_on c m.place ≡ true = waits_on_place c k b m.place (place_from_waits_in c k b m.place mine.1) in
    least_is ridx m (filter (λ z. waits_on c z.place) ms) (has-filter (λ z. waits_on c z.place) m ms mine.0 waits)
    (all_from_has (IsOrFollows ridx m) (filter (λ z. waits_on c z.place) ms) (λ n has.
    let theirs = has_filtered (λ z. waits_on c z.place) n ms has in
    let at = place_from_waits_on c n.place theirs.1 in
    follows_next ridx c k at.0 b at.1.0 m n ms small made next theirs.0 at.1.1 (bucket_within c at.0 at.1.0 n ms made theirs.0 at.1.1)))

-- a filter that nothing passes leaves nothing
none_from_has : (ms : List Member) → ((m : Member) → Has m ms → ⊥) → ms ≡ []
none_from_has [] none = refl
none_from_has (m ∷ ms) none = absurd (none m (inl refl))

-- there is no choice where every bucket is empty
choice_none : (ridx c : ℕ) (ms : List Member) → IsWellMade ms → ((k : Kind) (b : ℕ) → b < 64 → members_in c k b ms ≡ []) → choice_of c ridx ms ≡ None
choice_none ridx c ms made empty =
    ap (least ridx) (none_from_has (filter (λ z. waits_on c z.place) ms) (λ n has.
    let theirs = has_filtered (λ z. waits_on c z.place) n ms has in
    let at = place_from_waits_on c n.place theirs.1 in
    has_none n (members_in c at.0 at.1.0 ms) (empty at.0 at.1.0 (bucket_within c at.0 at.1.0 n ms made theirs.0 at.1.1))
    (has-filter (λ z. waits_in c at.0 at.1.0 z.place) n ms theirs.0 (waits_in_place c at.0 at.1.0 n.place at.1.1))))

-- ---- the queues that show a CPU

-- an empty bucket shows that no thread waits there
empty_from_shown : (lists : List (List ℕ)) (c : ℕ) (k : Kind) (ms : List Member) → ShowsQueue lists c k ms → (b : ℕ) → b < 64 → list_at lists b ≡ [] → members_in c k b ms ≡ []
empty_from_shown lists c k ms shows b within empty =
    none_from_has (members_in c k b ms) (λ m has. no_ids m (by_order (members_in c k b ms)) (sym (shows.each b within) ∙ empty) (by_order_has m (members_in c k b ms) has))
  where
    no_ids : (m : Member) (ns : List Member) → numbers_of ns ≡ [] → Has m ns → ⊥
    no_ids m [] none has = has
    no_ids m (n ∷ ns) none has = cc

-- where a queue's first thread is none, none waits in the queue
none_from_first : (lists : List (List ℕ)) (c : ℕ) (k : Kind) (from : ℕ) (ms : List Member) → ShowsQueue lists c k ms → from < 64 →
    first_from lists from ≡ None → (b : ℕ) → b < 64 → members_in c k b ms ≡ []
none_from_first lists c k from ms shows start none b within =
    empty_from_shown lists c k ms shows b within (first_from_None lists from shows.buckets start none b within)

-- the bucket from which each queue is looked at
abbrev pub start_of : ℕ → Kind → ℕ
start_of ridx Real = 0
start_of ridx Batch = ridx
start_of ridx Idle = 0

-- what is less deep is nearer to that bucket
nearer_from_depth : (ridx : ℕ) (k : Kind) (b e : ℕ) → ridx < 64 → b < 64 → e < 64 → depth_of ridx k e < depth_of ridx k b → distance (start_of ridx k) e < distance (start_of ridx k) b
nearer_from_depth ridx Real b e small one other less = omega arith
nearer_from_depth ridx Batch b e small one other less = less
nearer_from_depth ridx Idle b e small one other less = omega arith

-- a thread that is number t of the next bucket
pub record IsFirstThread (ridx c : ℕ) (k : Kind) (b t : ℕ) (m : Member) (ms : List Member) : Type 0 where
  pub number : m.thread.id ≡ t
  pub next : IsNext ridx c k b m ms

-- a queue's first thread is the next one, where the queues before it are empty
next_from_first : (lists : List (List ℕ)) (ridx c : ℕ) (k : Kind) (b t : ℕ) (ms : List Member) → ShowsQueue lists c k ms → ridx < 64 →
    first_from lists (start_of ridx k) ≡ Some (b, t) → ((j : Kind) → rank_of j < rank_of k → (e : ℕ) → e < 64 → members_in c j e ms ≡ []) →
    (m : Member) × IsFirstThread ridx c k b t m ms
next_from_first lists ridx c k b t ms shows small found earlier =
    let start : start_of ridx k < 64 = start_within ridx k small in
    let first : IsFirstFrom lists (start_of ridx k) b t = first_from_Some lists (start_of ridx k) b t shows.buckets start found in
    let head = head_by_order t (members_in c k b ms) (ap (λ ids. slice_get ids 0) (sym (shows.each b first.bucket)) ∙ first.head) in (
      head.0,
      record {
        number = head.1;
        next = record {
          bucket = first.bucket;
          head = head.2;
          nearer = λ e within less. empty_from_shown lists c k ms shows e within (first.nearer e within (nearer_from_depth ridx k b e small first.bucket within less));
          earlier = earlier;
        };
      },
    )
  where
    start_within : (ridx : ℕ) (k : Kind) → ridx < 64 → start_of ridx k < 64
    start_within ridx Real small = omega arith
    start_within ridx Batch small = small
    start_within ridx Idle small = omega arith

-- ---- the choice law

-- the thread that is chosen is number t, and waits in CPU c's queue of kind k
pub record IsChosen (c : ℕ) (k : Kind) (t : ℕ) (m : Member) (ms : List Member) : Type 0 where
  pub number : m.thread.id ≡ t
  pub found : thread_of t ms ≡ Some m
  pub has : Has m ms
  pub bucket : ℕ
  pub within : bucket < 64
  pub place : m.place ≡ Queued c k bucket

-- the first thread of three queues and the choice are both none, or one thread
abbrev pub Agrees : ℕ → List Member → Option (Kind × ℕ) → Option Member → Type 0
Agrees c ms None None = Unit {0}
Agrees c ms None (Some m) = ⊥
Agrees c ms (Some first) None = ⊥
Agrees c ms (Some first) (Some m) = IsChosen c first.0 first.1 m ms

-- the next thread is chosen
chosen_from_first : (ridx c : ℕ) (k : Kind) (b t : ℕ) (m : Member) (ms : List Member) → ridx < 64 → IsWellMade ms → IsFirstThread ridx c k b t m ms → Agrees c ms (Some (k, t)) (choice_of c ridx ms)
chosen_from_first ridx c k b t m ms small made first =
    let mine = has_filtered (λ z. waits_in c k b z.place) m ms first.next.head.here in
    subst (Agrees c ms (Some (k, t))) (sym (choice_is_next ridx c k b m ms small made first.next)) (record {
      number = first.number;
      found = ap (λ u. thread_of u ms) (sym first.number) ∙ thread_of_has m ms made.apart mine.0;
      has = mine.0;
      bucket = b;
      within = first.next.bucket;
      place = place_from_waits_in c k b m.place mine.1;
    })

-- three queues that show a CPU have the first thread that is its choice
choice_agrees : (real batch idle : List (List ℕ)) (ridx c : ℕ) (ms : List Member) → ShowsQueue real c Real ms → ShowsQueue batch c Batch ms → ShowsQueue idle c Idle ms → IsWellMade ms → ridx < 64 →
    Agrees c ms (first_choice (in_kind Real (first_from real 0)) (first_choice (in_kind Batch (first_from batch ridx)) (in_kind Idle (first_from idle 0)))) (choice_of c ridx ms)
choice_agrees real batch idle ridx c ms shows_real shows_batch shows_idle made small =
    look (first_from real 0) (first_from batch ridx) (first_from idle 0) refl refl refl
  where
    before_batch : first_from real 0 ≡ None → (j : Kind) → rank_of j < rank_of Batch → (e : ℕ) → e < 64 → members_in c j e ms ≡ []
    before_batch is_r Real less = none_from_first real c Real 0 ms shows_real (omega arith) is_r
    before_batch is_r Batch less = absurd (omega arith)
    before_batch is_r Idle less = absurd (omega arith)

    before_idle : first_from real 0 ≡ None → first_from batch ridx ≡ None → (j : Kind) → rank_of j < rank_of Idle → (e : ℕ) → e < 64 → members_in c j e ms ≡ []
    before_idle is_r is_b Real less = none_from_first real c Real 0 ms shows_real (omega arith) is_r
    before_idle is_r is_b Batch less = none_from_first batch c Batch ridx ms shows_batch small is_b
    before_idle is_r is_b Idle less = absurd (omega arith)

    all_empty : first_from real 0 ≡ None → first_from batch ridx ≡ None → first_from idle 0 ≡ None → (j : Kind) (e : ℕ) → e < 64 → members_in c j e ms ≡ []
    all_empty is_r is_b is_i Real = none_from_first real c Real 0 ms shows_real (omega arith) is_r
    all_empty is_r is_b is_i Batch = none_from_first batch c Batch ridx ms shows_batch small is_b
    all_empty is_r is_b is_i Idle = none_from_first idle c Idle 0 ms shows_idle (omega arith) is_i

    look : (r b i : Option (ℕ × ℕ)) → first_from real 0 ≡ r → first_from batch ridx ≡ b → first_from idle 0 ≡ i →
        Agrees c ms (first_choice (in_kind Real r) (first_choice (in_kind Batch b) (in_kind Idle i))) (choice_of c ridx ms)
    look (Some r) b i is_r is_b is_i =
        let first = next_from_first real ridx c Real r.0 r.1 ms shows_real small is_r (λ j less. absurd (omega arith)) in
        chosen_from_first ridx c Real r.0 r.1 first.0 ms small made first.1
    look None (Some b) i is_r is_b is_i =
        let first = next_from_first batch ridx c Batch b.0 b.1 ms shows_batch small is_b (before_batch is_r) in
        chosen_from_first ridx c Batch b.0 b.1 first.0 ms small made first.1
    look None None (Some i) is_r is_b is_i =
        let first = next_from_first idle ridx c Idle i.0 i.1 ms shows_idle small is_i (before_idle is_r is_b) in
        chosen_from_first ridx c Idle i.0 i.1 first.0 ms small made first.1
    look None None None is_r is_b is_i = subst (Agrees c ms None) (sym (choice_none ridx c ms made (all_empty is_r is_b is_i))) tt

-- the first thread of a CPU's value and the choice of its side of a world agree
pub choices_agree : (v : CpuValue) (s : Side) → StandsFor v s → IsWellMade s.members →
    Agrees v.cpu s.members (first_in v) (choice_of v.cpu s.line.ridx s.members)
choices_agree v s stands made =
    subst (λ (line : CpuLine). Agrees v.cpu s.members (first_in v) (choice_of v.cpu line.ridx s.members)) stands.line
    (choice_agrees v.real v.batch v.idle v.line.ridx v.cpu s.members (stands.queues Real) (stands.queues Batch) (stands.queues Idle) made stands.index)

-- What keeps a list of threads well made: one of them that gets another record, place or order and is
-- apart from the others then.
use Rattle.std.proofs.Common.{◌≡◌, ◌≢◌, ℕ, ◌<◌, ℤ, true, false, List, ◌∷◌, ◌++◌, filter, Option, Some, None, refl, sym, ◌∙◌, ap, subst}
use Rattle.std.specs.List.{AllByRecursion}
use Rattle.ule_prio.specs.Kind.{kind_at}
use Rattle.ule_prio.specs.declared.kind.Kind.{Kind}
use Rattle.ule_score.specs.declared.place.Place.TheVariants.{Running, Queued}
use Rattle.ule_model.specs.Insertion.{bucket_of, order_of, order_of_insertion, place_of_insertion, queued, with_queued}
use Rattle.ule_model.specs.declared.insertion.Insertion.{Insertion}
use Rattle.ule_model.specs.Places.{is_on, runs_on, waits_in}
use Rattle.ule_model.specs.WellMade.{AreApart, IsMade, IsWellMade}
use Rattle.ule_model.specs.World.{Member, Side, current_of, is_numbered, moved_to, thread_of}
use Rattle.ule_members.proofs.Apart.{all_from_filter, all_from_map, apart_kept, apart_off, apart_queued, apart_running, order_of_apart, orders_in}
use Rattle.ule_members.proofs.Moves.{bucket_small, moved_between, others_within, queued_member}
use Rattle.ule_members.proofs.Threads.{none_passes}
use Rattle.ule_members.proofs.Within.{Within, all_along, all_back, all_both, all_front, well_made_between, within_found}

-- ---- one thread and the others

-- a thread is apart from those before it and from those after it
pub record IsApartFrom (n : Member) (before after : List Member) : Type 0 where
  pub front : AllByRecursion (AreApart n) before
  pub back : AllByRecursion (AreApart n) after

-- a thread that keeps its number, place and order is apart from the others
pub apart_from_kept : (m n : Member) (ms : List Member) (v : Within m.thread.id m ms) → n.thread.id ≡ m.thread.id → n.place ≡ m.place → n.order ≡ m.order →
    IsApartFrom n v.before v.after
apart_from_kept m n ms v number place order = record {
  front = all_along (AreApart m) (AreApart n) v.before (λ k. apart_kept m n k number place order) v.apart_before;
  back = all_along (AreApart m) (AreApart n) v.after (λ k. apart_kept m n k number place order) v.apart_after;
}

-- a thread on no CPU is apart from the others
pub apart_from_off : (m n : Member) (ms : List Member) (v : Within m.thread.id m ms) → n.thread.id ≡ m.thread.id → ((c : ℕ) → is_on c n.place ≡ false) →
    IsApartFrom n v.before v.after
apart_from_off m n ms v number off = record {
  front = all_along (AreApart m) (AreApart n) v.before (λ k h. apart_off n k (λ same. h.numbers (sym number ∙ same)) off) v.apart_before;
  back = all_along (AreApart m) (AreApart n) v.after (λ k h. apart_off n k (λ same. h.numbers (sym number ∙ same)) off) v.apart_after;
}

-- a thread is apart from the others where that follows of each from the number alone and one fact more
apart_from_each : (P : Member → Type 0) (m n : Member) (ms : List Member) (v : Within m.thread.id m ms) → n.thread.id ≡ m.thread.id →
    ((k : Member) → n.thread.id ≢ k.thread.id → P k → AreApart n k) → AllByRecursion P v.before → AllByRecursion P v.after → IsApartFrom n v.before v.after
apart_from_each P m n ms v number step front back = record {
  front = all_both (AreApart m) P (AreApart n) v.before (λ k h. step k (λ same. h.numbers (sym number ∙ same))) v.apart_before front;
  back = all_both (AreApart m) P (AreApart n) v.after (λ k h. step k (λ same. h.numbers (sym number ∙ same))) v.apart_after back;
}

-- a thread that runs on a CPU that had no current thread is apart from the others
pub apart_from_running : (c : ℕ) (m n : Member) (ms : List Member) (v : Within m.thread.id m ms) → n.thread.id ≡ m.thread.id → n.place ≡ Running c →
    current_of c ms ≡ None → IsApartFrom n v.before v.after
apart_from_running c m n ms v number place none =
    apart_from_each (λ k. runs_on c k.place ≡ false) m n ms v number (λ k apart idle. apart_running c n k apart place idle)
    (all_front (λ k. runs_on c k.place ≡ false) v.before (m ∷ v.after) idle) (all_back (λ k. runs_on c k.place ≡ false) v.before (m ∷ v.after) idle).1
  where
    idle : AllByRecursion (λ k. runs_on c k.place ≡ false) (v.before ++ m ∷ v.after)
    idle = subst (AllByRecursion (λ k. runs_on c k.place ≡ false)) v.whole (none_passes (λ k. runs_on c k.place) ms none)

-- a thread that is queued with the order of its insertion is apart from the others
pub apart_from_queued : (how : Insertion) (c : ℕ) (k : Kind) (b : ℕ) (m n : Member) (ms : List Member) (v : Within m.thread.id m ms) →
    n.thread.id ≡ m.thread.id → n.place ≡ Queued c k b → n.order ≡ order_of how (orders_in c k b (v.before ++ v.after)) → IsApartFrom n v.before v.after
apart_from_queued how c k b m n ms v number place order =
    apart_from_each P m n ms v number (λ x apart other. apart_queued c k b n x apart place (λ here same. other here (sym order ∙ same)))
    (all_front P v.before v.after each) (all_back P v.before v.after each)
  where
    os : List ℤ
    os = orders_in c k b (v.before ++ v.after)

    P : Member → Type 0
    P x = waits_in c k b x.place ≡ true → order_of how os ≢ x.order

    each : AllByRecursion P (v.before ++ v.after)
    each =
        all_from_filter (λ x. waits_in c k b x.place) (λ x. order_of how os ≢ x.order) (v.before ++ v.after)
        (all_from_map (λ x. x.order) (λ o. order_of how os ≢ o) (filter (λ x. waits_in c k b x.place) (v.before ++ v.after)) (order_of_apart how os))

-- a list stays well made where one thread is put for another of its number, and is made and apart from the others
pub well_made_put : (m n : Member) (ms ns : List Member) (v : Within m.thread.id m ms) → ns ≡ v.before ++ n ∷ v.after → IsMade n →
    IsApartFrom n v.before v.after → IsWellMade ns
well_made_put m n ms ns v is made apart = subst IsWellMade (sym is) (well_made_between v.before n v.after v.others made apart.front apart.back)

-- ---- an insertion

-- an insertion keeps the threads well made
pub queued_made : (how : Insertion) (c t : ℕ) (s : Side) → IsWellMade s.members → s.line.ridx < 64 → IsWellMade (queued how c t s).members
queued_made how c t s made index = split (thread_of t s.members) refl
  where
    one : (m : Member) (v : Within m.thread.id m s.members) → IsWellMade (with_queued how c (Some m) s).members
    one m v =
        let p : ℕ = m.thread.priority in
        let n : Member = queued_member how c s.line (v.before ++ v.after) m in
        well_made_put m n s.members (with_queued how c (Some m) s).members v
        (ap (λ (ns : List Member). moved_to m.thread.id (place_of_insertion how c s.line p) (order_of_insertion how c s.line p ns) s.members) (others_within m.thread.id m s.members v) ∙
        moved_between m s.members v (place_of_insertion how c s.line p) (order_of_insertion how c s.line p (v.before ++ v.after)))
        (record { numbers = v.made.numbers; place = bucket_small (kind_at p) how s.line p v.made.numbers.priority index })
        (apart_from_queued how c (kind_at p) (bucket_of (kind_at p) how s.line p) m n s.members v refl refl refl)

    split : (o : Option Member) → thread_of t s.members ≡ o → IsWellMade (with_queued how c o s).members
    split None found = made
    split (Some m) found = one m (within_found (is_numbered t) s.members m made found)

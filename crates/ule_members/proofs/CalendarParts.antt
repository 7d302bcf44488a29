-- The parts of events on calendars: a thread joins, a thread leaves by the index rule, the next is chosen, and none from farther
-- away; what such a part makes of the calendar of one CPU, and of those of a world.
use Rattle.std.proofs.Common.{◌≡◌, ◌≢◌, ℕ, ◌<◌, ◌==◌, pos, Bool, true, false, not, length, Option, Some, None, if◌then◌else◌, ◌⊎◌, inl, inr, ⊎_elim, refl, sym, ◌∙◌, ap, subst, ◌≤◌, List, [], ◌∷◌, filter, arith, zero, suc, get_or-set_same, get_or-set_other}
use Rattle.std.specs.Prelude.{option_and_then, ◌&&◌, ◌||◌, int_lt, nat_lt, slice_index_or, slice_set}
use Rattle.std.proofs.lemmas.Bool.{cases_eq, cond-false, cond-true, eq-eqb, eqb-false, ne_eqb, not-true, and_parts, both_ways, cases_lt, eqb-true, lt-ltb, or_cases, or_parts, ltb-true}
use Rattle.std.proofs.lemmas.Option.{none-some, same_Some}
use Rattle.ule_prio.specs.Kind.{kind_at}
use Rattle.ule_prio.specs.declared.kind.Kind.{Kind}
use Rattle.ule_prio.specs.declared.kind.Kind.TheVariants.{Real, Batch, Idle}
use Rattle.ule_score.specs.Changes.{record_after, runs}
use Rattle.ule_score.specs.declared.place.Place.{Place}
use Rattle.ule_score.specs.declared.place.Place.TheVariants.{Running, Queued}
use Rattle.ule_score.specs.declared.record.CpuLine.{CpuLine}
use Rattle.ule_score.proofs.ChangeLaws.{change_number}
use Rattle.ule_types.specs.declared.event.Entry.{Entry}
use Rattle.ule_types.specs.declared.event.Event.{Event}
use Rattle.ule_types.specs.declared.event.Reply.{Reply}
use Rattle.ule_model.specs.CalendarIndexes.{calendar_bucket, distance_of}
use Rattle.ule_model.specs.Choice.{choice_of, Turn, comes_before, least, sooner, turn_at, turn_of}
use Rattle.ule_model.specs.declared.insertion.Insertion.{Insertion}
use Rattle.ule_model.specs.declared.insertion.Insertion.TheVariants.{Borrowing, Ordinary, Preempted}
use Rattle.ule_model.specs.Insertion.{bucket_of, members_in, place_of_insertion, queued, with_queued}
use Rattle.ule_model.specs.Switch.{after_leaving, after_queue_removal, choosing_next, lifted, put_running, running_chosen}
use Rattle.ule_model.specs.World.{Member, Side, is_numbered, moved_to, others, thread_of, World, side_of, fresh_line, with_side}
use Rattle.ule_model.proofs.IndexLaws.{ordinary_is_ahead}
use Rattle.ule_model.specs.CalendarPromise.{IsInBucket, chosen_by, goes_next, numbers_on, takes_up}
use Rattle.ule_model.specs.Places.{waits_on}
use Rattle.ule_members.proofs.CalendarMoves.{AllCpus, AreMoved, IsQueuedOn, Others, moved, moved_aside, moved_finds, queued_where_waits, unmoved}
use Rattle.ule_members.proofs.CalendarPlaces.{Filing, FindsEach, IsFiled, filed_at, filed_found, filed_in, filed_itself, filing_found, filing_moved, filing_moved_other, filing_of, filing_recorded, none_where_filed, some_filed, unfiled_kind}
use Rattle.ule_members.proofs.CalendarRules.{IndexRule, IsClose, IsWithin, Passage, TellsEmpty, removes, rule_from, stays, turns, rule_nowhere}
use Rattle.ule_members.proofs.Membership.{Has, has-filter, has_filtered, has_thread_of}
use Rattle.ule_members.proofs.Moves.{calendar_bucket_small, choice_stands}

-- ---- a thread that joins

-- the bucket that an insertion of each kind joins, by these indexes
abbrev pub HasJoined : Insertion → (i r b : ℕ) → Type 0
HasJoined Ordinary i r b = (p : ℕ) × (b ≡ calendar_bucket i r p)
HasJoined Borrowing i r b = b ≡ r
HasJoined Preempted i r b = b ≡ r

-- a side with the indexes i and r where thread u may have joined the threads that were filed by f
pub record Joins (how : Insertion) (c u i r : ℕ) (f : Filing) (n : Side) : Type 0 where
  pub insertion : n.line.idx ≡ i
  pub removal : n.line.ridx ≡ r
  pub kept : IsWithin f (filing_of c n.members)
  pub came : (t b : ℕ) → filing_of c n.members t ≡ Some b → (f t ≡ Some b) ⊎ ((t ≡ u) × HasJoined how i r b)

-- the bucket of an insertion in the calendar is the one that it joins
pub joined_bucket : (how : Insertion) (c b p : ℕ) (line : CpuLine) → filed_at c (place_of_insertion how c line p) ≡ Some b → HasJoined how line.idx line.ridx b
joined_bucket how c b p line is = split how (of_kind (kind_at p) is)
  where
    of_kind : (k : Kind) → filed_at c (Queued c k (bucket_of k how line p)) ≡ Some b → b ≡ bucket_of Batch how line p
    of_kind Batch is = same_Some b (bucket_of Batch how line p) (sym is ∙ filed_itself c (bucket_of Batch how line p))
    of_kind Real is = absurd (none-some b (sym (unfiled_kind c (bucket_of Real how line p) Real refl) ∙ is))
    of_kind Idle is = absurd (none-some b (sym (unfiled_kind c (bucket_of Idle how line p) Idle refl) ∙ is))

    split : (h : Insertion) → b ≡ bucket_of Batch h line p → HasJoined h line.idx line.ridx b
    split Ordinary same = (p, same)
    split Borrowing same = same
    split Preempted same = same

-- an insertion of a thread, where f files all others as this side does, and not the thread
pub queued_joins : (how : Insertion) (c u : ℕ) (s : Side) (f : Filing) → ((t : ℕ) → t ≢ u → filing_of c s.members t ≡ f t) → f u ≡ None →
    Joins how c u s.line.idx s.line.ridx f (queued how c u s)
queued_joins how c u s f alike none = split (thread_of u s.members) refl
  where
    apart : (t b : ℕ) → f t ≡ Some b → t ≢ u
    apart t b is same = none-some b (sym none ∙ ap f (sym same) ∙ is)

    split : (o : Option Member) → thread_of u s.members ≡ o → Joins how c u s.line.idx s.line.ridx f (with_queued how c o s)
    split None found = record {
      insertion = refl;
      removal = refl;
      kept = λ t b is. alike t (apart t b is) ∙ is;
      came = λ t b is. ⊎_elim
          (λ (same : t ≡ u). absurd (none-some b (sym (nowhere same) ∙ is)))
          (λ (other : t ≡ u → ⊥). inl (sym (alike t other) ∙ is))
          (cases_eq t u);
    }
      where
        nowhere : {t : ℕ} → t ≡ u → filing_of c s.members t ≡ None
        nowhere same = ap (filing_of c s.members) same ∙ ap (option_and_then (λ (m : Member). filed_at c m.place)) found
    split (Some m) found = subst (λ (v : ℕ). Joins how c v s.line.idx s.line.ridx f (with_queued how c (Some m) s)) (has_thread_of u m s.members found).1 (one (has_thread_of u m s.members found).1)
      where
        one : m.thread.id ≡ u → Joins how c m.thread.id s.line.idx s.line.ridx f (with_queued how c (Some m) s)
        one number = record {
          insertion = refl;
          removal = refl;
          kept = λ t b is. filing_moved_other c m.thread.id t _ _ s.members (λ same. apart t b is (same ∙ number)) ∙ alike t (apart t b is) ∙ is;
          came = λ t b is. ⊎_elim
              (λ (same : t ≡ m.thread.id). inr (
                same,
                joined_bucket how c b m.thread.priority s.line
                    (sym (filing_moved c m.thread.id m _ _ s.members (ap (λ (x : ℕ). thread_of x s.members) number ∙ found)) ∙
                    ap (filing_of c (with_queued how c (Some m) s).members) (sym same) ∙ is),
              ))
              (λ (other : t ≡ m.thread.id → ⊥). inl (sym (alike t (λ same. other (same ∙ sym number))) ∙ sym (filing_moved_other c m.thread.id t _ _ s.members other) ∙ is))
              (cases_eq t m.thread.id);
        }

-- none joins, where the indexes stay and the threads are filed alike
pub nobody_joins : (how : Insertion) (c u i r : ℕ) (f : Filing) (n : Side) → n.line.idx ≡ i → n.line.ridx ≡ r → ((t : ℕ) → filing_of c n.members t ≡ f t) → Joins how c u i r f n
nobody_joins how c u i r f n same still alike = record {
  insertion = same;
  removal = still;
  kept = λ t b is. alike t ∙ is;
  came = λ t b is. inl (sym (alike t) ∙ is);
}

-- ---- a thread that leaves

-- the threads that are filed so, but one
abbrev pub without_one : ℕ → Filing → Filing
without_one u f t = if t == u then None else f t

-- every other is filed as it was
pub without_other : (u t : ℕ) (f : Filing) → t ≢ u → without_one u f t ≡ f t
without_other u t f apart = cond-false (t == u) None (f t) (ne_eqb t u apart)

-- the one is not filed
pub without_itself : (u : ℕ) (f : Filing) → without_one u f u ≡ None
without_itself u f = cond-true (u == u) None (f u) (eq-eqb u u refl)

-- one that is filed still is another
pub without_apart : (u t b : ℕ) (f : Filing) → without_one u f t ≡ Some b → t ≢ u
without_apart u t b f is same = none-some b (sym (ap (without_one u f) same ∙ without_itself u f) ∙ is)

-- those that are filed still were filed
pub without_within : (u : ℕ) (f : Filing) → IsWithin (without_one u f) f
without_within u f t b is = sym (without_other u t f (without_apart u t b f is)) ∙ is

module _ (c : ℕ) (m : Member) (s : Side) (finds : FindsEach s.members) (found : thread_of m.thread.id s.members ≡ Some m) where
  -- whether the bucket at the removal index is empty of the others
  others_tell : TellsEmpty (length (members_in c Batch s.line.ridx (others m.thread.id s.members)) == 0) s.line.ridx (without_one m.thread.id (filing_of c s.members))
  others_tell = record {
    some = λ is.
        let one = some_filed c s.line.ridx (others m.thread.id s.members) s.members finds (λ x has. (has_filtered (λ y. not (is_numbered m.thread.id y)) x s.members has).0) is in
        let x : Member = one.0 in
        let other : is_numbered m.thread.id x ≡ false = not-true (is_numbered m.thread.id x) (has_filtered (λ y. not (is_numbered m.thread.id y)) x s.members one.1.0).1 in
        (x.thread.id, without_other m.thread.id x.thread.id (filing_of c s.members) (eqb-false x.thread.id m.thread.id other) ∙ one.1.1);
    none = λ t is.
        let filed : IsFiled c s.line.ridx t s.members = filed_found c s.line.ridx t s.members (without_within m.thread.id (filing_of c s.members) t s.line.ridx is) in
        let x : Member = filed.member in
        let stands = has_thread_of t x s.members filed.found in
        none_where_filed c s.line.ridx x (others m.thread.id s.members)
        (has-filter (λ y. not (is_numbered m.thread.id y)) x s.members stands.0
        (ap not (ne_eqb x.thread.id m.thread.id (λ same. without_apart m.thread.id t s.line.ridx (filing_of c s.members) is (sym stands.1 ∙ same)))))
        filed.place;
  }

  -- the indexes went on by the rule of a removal of the thread
  abbrev RuleAt : CpuLine → Type 0
  RuleAt line = IndexRule s.line.idx s.line.ridx line.idx line.ridx (filing_of c s.members) (without_one m.thread.id (filing_of c s.members))

  -- a thread that leaves a queue of the CPU leaves it by the index rule
  pub lifted_rule : (k : Kind) (b : ℕ) → m.place ≡ Queued c k b →
      IndexRule s.line.idx s.line.ridx (lifted c m s).line.idx (lifted c m s).line.ridx (filing_of c s.members) (without_one m.thread.id (filing_of c s.members))
  lifted_rule k b place =
      subst (λ (p : Place). RuleAt (after_leaving p c s.line (others m.thread.id s.members))) (sym place) (of_kind k place)
    where
      unfiled : (j : Kind) → filed_in j b ≡ None → m.place ≡ Queued c j b → IsWithin (filing_of c s.members) (without_one m.thread.id (filing_of c s.members))
      unfiled j none is t a there =
          without_other m.thread.id t (filing_of c s.members)
          (λ same. none-some a
          (sym (ap (filing_of c s.members) same ∙ filing_found c m.thread.id m s.members found ∙ ap (filed_at c) is ∙ unfiled_kind c b j none) ∙ there)) ∙
          there

      of_kind : (j : Kind) → m.place ≡ Queued c j b → RuleAt (after_queue_removal j c s.line (others m.thread.id s.members))
      of_kind Batch is = removes (length (members_in c Batch s.line.ridx (others m.thread.id s.members)) == 0) others_tell refl refl
      of_kind Real is = stays refl refl (unfiled Real refl is)
      of_kind Idle is = stays refl refl (unfiled Idle refl is)

-- ---- turns

-- a turn is of no later rank than another, and of no greater depth where the ranks are equal
pub record IsNoLater (s t : Turn) : Type 0 where
  pub rank : s.rank ≤ t.rank
  pub depth : s.rank ≡ t.rank → s.depth ≤ t.depth

-- a turn is no later than itself
no_later_itself : (s : Turn) → IsNoLater s s
no_later_itself s = record { rank = omega arith; depth = λ same. omega arith }

-- of three turns
no_later_further : (s t u : Turn) → IsNoLater s t → IsNoLater t u → IsNoLater s u
no_later_further s t u first second =
    let a = first.rank in let b = second.rank in record {
      rank = omega arith;
      depth = λ same.
          let one : s.rank ≡ t.rank = omega arith in
          let two : t.rank ≡ u.rank = omega arith in
          let x = first.depth one in let y = second.depth two in omega arith;
    }

-- a turn that comes before another is no later
no_later_before : (s t : Turn) → comes_before s t ≡ true → IsNoLater s t
no_later_before s t before =
    ⊎_elim
    (λ (less : nat_lt s.rank t.rank ≡ true). let below = ltb-true s.rank t.rank less in record { rank = omega arith; depth = λ same. absurd (omega arith) })
    (λ (level : ((s.rank == t.rank) && (nat_lt s.depth t.depth || ((s.depth == t.depth) && int_lt s.order t.order))) ≡ true).
    let parts = and_parts (s.rank == t.rank) (nat_lt s.depth t.depth || ((s.depth == t.depth) && int_lt s.order t.order)) level in
    let same = eqb-true s.rank t.rank parts.0 in
    record { rank = omega arith; depth = λ e. deeper (or_cases (nat_lt s.depth t.depth) ((s.depth == t.depth) && int_lt s.order t.order) parts.1) })
    (or_cases (nat_lt s.rank t.rank) _ before)
  where
    deeper : (nat_lt s.depth t.depth ≡ true) ⊎ (((s.depth == t.depth) && int_lt s.order t.order) ≡ true) → s.depth ≤ t.depth
    deeper (inl less) = let below = ltb-true s.depth t.depth less in omega arith
    deeper (inr level) = let same = eqb-true s.depth t.depth (and_parts (s.depth == t.depth) (int_lt s.order t.order) level).0 in omega arith

-- a turn that another doesn't come before is no later
no_later_after : (s t : Turn) → comes_before s t ≡ false → IsNoLater t s
no_later_after s t not_before =
    let parts = or_parts (nat_lt s.rank t.rank) _ not_before in
    record {
      rank = at_most s.rank t.rank parts.0;
      depth = λ same.
          at_most s.depth t.depth
          (or_parts (nat_lt s.depth t.depth) ((s.depth == t.depth) && int_lt s.order t.order)
          (sym (ap (λ b. b && (nat_lt s.depth t.depth || ((s.depth == t.depth) && int_lt s.order t.order))) (eq-eqb s.rank t.rank (sym same))) ∙ parts.1)).0;
    }
  where
    at_most : (a b : ℕ) → nat_lt a b ≡ false → b ≤ a
    at_most a b none = ⊎_elim (λ (less : a < b). absurd (both_ways (nat_lt a b) none (lt-ltb a b less))) (λ (over : b ≤ a). over) (cases_lt a b)

-- the thread whose turn comes first is no later than any other
least_no_later : (ridx : ℕ) (m n : Member) (ms : List Member) → least ridx ms ≡ Some m → Has n ms → IsNoLater (turn_of ridx m) (turn_of ridx n)
least_no_later ridx m n [] found has = absurd has
least_no_later ridx m n (x ∷ xs) found has =
    at_least (λ y some there. least_no_later ridx y n xs some there) (least ridx xs) refl (same_Some (sooner ridx x (least ridx xs)) m found) has
  where
    at_least : ((y : Member) → least ridx xs ≡ Some y → Has n xs → IsNoLater (turn_of ridx y) (turn_of ridx n)) → (o : Option Member) → least ridx xs ≡ o →
        sooner ridx x o ≡ m → Has n (x ∷ xs) → IsNoLater (turn_of ridx m) (turn_of ridx n)
    at_least later None none is (inl here) = subst (λ (z : Member). IsNoLater (turn_of ridx m) (turn_of ridx z)) (sym is ∙ here) (no_later_itself (turn_of ridx m))
    at_least later None none is (inr there) = absurd (nowhere xs none there)
      where
        nowhere : (ys : List Member) → least ridx ys ≡ None → Has n ys → ⊥
        nowhere [] none has = has
        nowhere (y ∷ ys) none has = none-some (sooner ridx y (least ridx ys)) (sym none)
    at_least later (Some y) some is has = split (comes_before (turn_of ridx y) (turn_of ridx x)) refl is has
      where
        rest : Has n xs → IsNoLater (turn_of ridx y) (turn_of ridx n)
        rest there = later y some there

        split : (b : Bool) → comes_before (turn_of ridx y) (turn_of ridx x) ≡ b → (if b then y else x) ≡ m → Has n (x ∷ xs) → IsNoLater (turn_of ridx m) (turn_of ridx n)
        split true before same has =
            subst (λ (z : Member). IsNoLater (turn_of ridx z) (turn_of ridx n)) same
            (⊎_elim (λ (here : x ≡ n). subst (λ (z : Member). IsNoLater (turn_of ridx y) (turn_of ridx z)) here (no_later_before (turn_of ridx y) (turn_of ridx x) before)) rest has)
        split false behind same has =
            subst (λ (z : Member). IsNoLater (turn_of ridx z) (turn_of ridx n)) same
            (⊎_elim (λ (here : x ≡ n). subst (λ (z : Member). IsNoLater (turn_of ridx x) (turn_of ridx z)) here (no_later_itself (turn_of ridx x)))
            (λ (there : Has n xs). no_later_further (turn_of ridx x) (turn_of ridx y) (turn_of ridx n) (no_later_after (turn_of ridx y) (turn_of ridx x) behind) (rest there)) has)

-- ---- the choice

-- whether a bucket is empty is told alike of threads that are filed alike
tells_alike : (empty : Bool) (b : ℕ) (g h : Filing) → ((t : ℕ) → h t ≡ g t) → TellsEmpty empty b g → TellsEmpty empty b h
tells_alike empty b g h alike tells = record {
  some = λ is. let one = tells.some is in (one.0, alike one.0 ∙ one.1);
  none = λ t is. tells.none t (sym (alike t) ∙ is);
}

-- a rule that looked at some threads looked so at threads that are filed alike
pub rule_alike : (i r j q : ℕ) (f g h : Filing) → ((t : ℕ) → h t ≡ g t) → IndexRule i r j q f g → IndexRule i r j q f h
rule_alike i r j q f g h alike (stays same still within) = stays same still (λ t b is. alike t ∙ within t b is)
rule_alike i r j q f g h alike (removes empty tells same to) = removes empty (tells_alike empty r g h alike tells) same to
rule_alike i r j q f g h alike (turns empty tells within to also) = turns empty (tells_alike empty r g h alike tells) (λ t b is. alike t ∙ within t b is) to also

-- a side where the next thread was chosen, by the index rule
pub record Chose (c : ℕ) (s n : Side) : Type 0 where
  pub rule : IndexRule s.line.idx s.line.ridx n.line.idx n.line.ridx (filing_of c s.members) (filing_of c n.members)
  pub among : IsWithin (filing_of c n.members) (filing_of c s.members)

-- the choice of the next thread
pub choosing_chose : (c now : ℕ) (s : Side) → FindsEach s.members → Chose c s (choosing_next c now s).0
choosing_chose c now s finds = split (choice_of c s.line.ridx s.members) refl
  where
    split : (o : Option Member) → choice_of c s.line.ridx s.members ≡ o → Chose c s (running_chosen c now o s).0
    split None found = record { rule = stays refl refl (λ t b is. is); among = λ t b is. is }
    split (Some m) found = record {
      rule = rule_alike _ _ _ _ (filing_of c s.members) (without_one m.thread.id (filing_of c s.members)) (filing_of c (put_running c now m (lifted c m s)).members) alike
          (lifted_rule c m s finds is at.kind at.bucket at.place_is);
      among = λ t b there. without_within m.thread.id (filing_of c s.members) t b (sym (alike t) ∙ there);
    }
      where
        stands : Has m s.members
        stands = (choice_stands c s.line.ridx m s.members found).0

        at : IsQueuedOn c m.place
        at = queued_where_waits c m.place (choice_stands c s.line.ridx m s.members found).1

        is : thread_of m.thread.id s.members ≡ Some m
        is = finds m stands

        alike : (t : ℕ) → filing_of c (put_running c now m (lifted c m s)).members t ≡ without_one m.thread.id (filing_of c s.members) t
        alike t =
            filing_recorded c m.thread.id t (record_after s.settings now runs) (moved_to m.thread.id (Running c) (pos 0) s.members) (change_number s.settings now runs) ∙
            ⊎_elim
            (λ (same : t ≡ m.thread.id).
            ap (filing_of c (moved_to m.thread.id (Running c) (pos 0) s.members)) same ∙ filing_moved c m.thread.id m (Running c) (pos 0) s.members is ∙
            sym (ap (without_one m.thread.id (filing_of c s.members)) same ∙ without_itself m.thread.id (filing_of c s.members)))
            (λ (other : t ≡ m.thread.id → ⊥).
            filing_moved_other c m.thread.id t (Running c) (pos 0) s.members other ∙ sym (without_other m.thread.id t (filing_of c s.members) other))
            (cases_eq t m.thread.id)

-- what was chosen is the choice of the CPU
chosen_is : (c now u : ℕ) (s : Side) → (choosing_next c now s).1 ≡ Some u → (m : Member) × ((choice_of c s.line.ridx s.members ≡ Some m) × (m.thread.id ≡ u))
chosen_is c now u s is = split (choice_of c s.line.ridx s.members) refl is
  where
    split : (o : Option Member) → choice_of c s.line.ridx s.members ≡ o → (running_chosen c now o s).1 ≡ Some u →
        (m : Member) × ((choice_of c s.line.ridx s.members ≡ Some m) × (m.thread.id ≡ u))
    split None found is = absurd (none-some u is)
    split (Some m) found is = (m, (found, same_Some m.thread.id u is))

-- a thread chosen from a calendar is no farther than any thread in it
pub chosen_no_farther : (c now u t a b : ℕ) (s : Side) → FindsEach s.members → (choosing_next c now s).1 ≡ Some u → filing_of c s.members u ≡ Some a →
    filing_of c s.members t ≡ Some b → distance_of s.line.ridx a ≤ distance_of s.line.ridx b
chosen_no_farther c now u t a b s finds is from stands =
    subst (λ (x : ℕ). x ≤ distance_of s.line.ridx b) (ap (λ (x : Turn). x.depth) mine)
    (subst (λ (x : ℕ). (turn_of s.line.ridx m).depth ≤ x) (ap (λ (x : Turn). x.depth) other)
    (order.depth (ap (λ (x : Turn). x.rank) mine ∙ sym (ap (λ (x : Turn). x.rank) other))))
  where
    chosen : (m : Member) × ((choice_of c s.line.ridx s.members ≡ Some m) × (m.thread.id ≡ u))
    chosen = chosen_is c now u s is

    m : Member
    m = chosen.0

    n : Member
    n = (filed_found c b t s.members stands).member

    old : IsFiled c a u s.members
    old = filed_found c a u s.members from

    same : old.member ≡ m
    same =
        same_Some old.member m
        (sym old.found ∙ ap (λ (x : ℕ). thread_of x s.members) (sym chosen.1.1) ∙ finds m (choice_stands c s.line.ridx m s.members chosen.1.0).0)

    mine : turn_of s.line.ridx m ≡ turn_at s.line.ridx (Queued c Batch a) m.order
    mine = ap (λ p. turn_at s.line.ridx p m.order) (ap (λ (x : Member). x.place) (sym same) ∙ old.place)

    other : turn_of s.line.ridx n ≡ turn_at s.line.ridx (Queued c Batch b) n.order
    other = ap (λ p. turn_at s.line.ridx p n.order) (filed_found c b t s.members stands).place

    order : IsNoLater (turn_of s.line.ridx m) (turn_of s.line.ridx n)
    order =
        least_no_later s.line.ridx m n (filter (λ x. waits_on c x.place) s.members) chosen.1.0
        (has-filter (λ x. waits_on c x.place) n s.members (has_thread_of t n s.members (filed_found c b t s.members stands).found).0
        (ap (waits_on c) (filed_found c b t s.members stands).place ∙ eq-eqb c c refl))

-- ---- passages

-- a thread that goes to the bucket at the removal index is one that goes next
abbrev pub IsNextIf : Insertion → Type 0 → Type 0
IsNextIf Ordinary P = Unit {0}
IsNextIf Borrowing P = P
IsNextIf Preempted P = P

-- who joined goes to a bucket that is there, and where the indexes differ to that at the removal index only if it goes next
pub joined_came : (next : ℕ → Bool) (how : Insertion) (u i r t b : ℕ) → r < 64 → IsNextIf how (next u ≡ true) → t ≡ u → HasJoined how i r b →
    (b < 64) × (i ≢ r → b ≡ r → next t ≡ true)
joined_came next Ordinary u i r t b below goes same is =
    (subst (λ n. n < 64) (sym is.1) (calendar_bucket_small i r is.0), λ apart here. absurd (ordinary_is_ahead i r is.0 below apart (sym is.1 ∙ here)))
joined_came next Borrowing u i r t b below goes same is = (subst (λ n. n < 64) (sym is) below, λ apart here. ap next same ∙ goes)
joined_came next Preempted u i r t b below goes same is = (subst (λ n. n < 64) (sym is) below, λ apart here. ap next same ∙ goes)

-- what an event makes of a side of CPU c
abbrev pub SidePassage : (taken next : ℕ → Bool) → ℕ → Side → Side → Type 0
SidePassage taken next c s n = Passage taken next s.line.idx s.line.ridx n.line.idx n.line.ridx (filing_of c s.members) (filing_of c n.members)

module _ (taken next : ℕ → Bool) (c : ℕ) (s : Side) (close : IsClose s.line.idx s.line.ridx (filing_of c s.members)) where
  -- nothing joins, leaves or turns
  pub unaltered : (n : Side) → n.line.idx ≡ s.line.idx → n.line.ridx ≡ s.line.ridx → ((t : ℕ) → filing_of c n.members t ≡ filing_of c s.members t) →
      SidePassage taken next c s n
  unaltered n same still alike = record {
    between = filing_of c s.members;
    rule = stays same still (λ t b is. is);
    kept = λ t b is. alike t ∙ is;
    stood = λ t b before after left. before;
    came = λ t b is. inl (sym (alike t) ∙ is);
  }

  -- a thread joins
  pub joined_passes : (how : Insertion) (u : ℕ) (n : Side) → IsNextIf how (next u ≡ true) → Joins how c u s.line.idx s.line.ridx (filing_of c s.members) n →
      SidePassage taken next c s n
  joined_passes how u n goes joins = record {
    between = filing_of c s.members;
    rule = stays joins.insertion joins.removal (λ t b is. is);
    kept = joins.kept;
    stood = λ t b before after left. before;
    came = λ t b is. ⊎_elim (λ (old : filing_of c s.members t ≡ Some b). inl old)
        (λ (new : (t ≡ u) × HasJoined how s.line.idx s.line.ridx b). inr (joined_came next how u s.line.idx s.line.ridx t b close.removal goes new.0 new.1))
        (joins.came t b is);
  }

  -- a thread joins, and then the next is chosen
  pub joined_chose : (how : Insertion) (u : ℕ) (g n : Side) → IsNextIf how (next u ≡ true) → Joins how c u s.line.idx s.line.ridx (filing_of c s.members) g →
      Chose c g n → SidePassage taken next c s n
  joined_chose how u g n goes joins chose = record {
    between = filing_of c n.members;
    rule = rule_from s.line.idx s.line.ridx n.line.idx n.line.ridx (filing_of c s.members) (filing_of c g.members) (filing_of c n.members) joins.kept
        (subst (λ (i : ℕ). IndexRule i s.line.ridx n.line.idx n.line.ridx (filing_of c g.members) (filing_of c n.members)) joins.insertion
        (subst (λ (r : ℕ). IndexRule g.line.idx r n.line.idx n.line.ridx (filing_of c g.members) (filing_of c n.members)) joins.removal chose.rule));
    kept = λ t b is. is;
    stood = λ t b before after left. after;
    came = λ t b is. ⊎_elim (λ (old : filing_of c s.members t ≡ Some b). inl old)
        (λ (new : (t ≡ u) × HasJoined how s.line.idx s.line.ridx b). inr (joined_came next how u s.line.idx s.line.ridx t b close.removal goes new.0 new.1))
        (joins.came t b (chose.among t b is));
  }

-- ---- sides and worlds

-- an entry, by its parts
abbrev pub entry_by : ℕ → Event → ℕ → Reply → Entry
entry_by worker e now r = record { worker = worker; event = e; now = now; reply = r }

-- what an event of CPU c made of a side, where it answered so: it moves nothing in the calendars of others, and passes in its own
pub record SidePasses (worker now : ℕ) (e : Event) (c : ℕ) (s : Side) (done : Side × Reply) : Type 0 where
  pub moves : AreMoved (Others c) s.members done.0.members
  pub passes : SidePassage (λ t. takes_up t (entry_by worker e now done.1)) (λ t. goes_next t (entry_by worker e now done.1)) c s done.0

-- what was chosen from the calendar of this side for this reply is no farther than bucket b
abbrev pub PicksFrom : (c b : ℕ) → Side → Reply → Type 0
PicksFrom c b g r = (u a : ℕ) → chosen_by r ≡ Some u → IsInBucket c a u g.members → distance_of g.line.ridx a ≤ distance_of g.line.ridx b

-- what the side of CPU c says of the choice, where an event of CPU d answers by d
pub picks_here : (c d b : ℕ) (g : Side) (r : ℕ → Reply) → PicksFrom c b g (r c) →
    (s : Side) (u a : ℕ) → (if c == d then Some g else None) ≡ Some s → chosen_by (r d) ≡ Some u → IsInBucket c a u s.members →
    distance_of s.line.ridx a ≤ distance_of s.line.ridx b
picks_here c d b g r picks s u a = split (c == d) refl
  where
    split : (e : Bool) → (c == d) ≡ e → (if e then Some g else None) ≡ Some s → chosen_by (r d) ≡ Some u → IsInBucket c a u s.members →
        distance_of s.line.ridx a ≤ distance_of s.line.ridx b
    split true is same =
        subst (λ (x : Side). chosen_by (r d) ≡ Some u → IsInBucket c a u x.members → distance_of x.line.ridx a ≤ distance_of x.line.ridx b) (same_Some g s same)
        (λ chosen old. picks u a (ap (λ (x : ℕ). chosen_by (r x)) (eqb-true c d is) ∙ chosen) old)
    split false is none = absurd (none-some s none)

-- what each world of a history keeps for the calendars: each thread is found by its number, and each calendar is close
pub record IsCalm (w : World) : Type 0 where
  pub finds : FindsEach w.members
  pub close : (c : ℕ) → IsClose (numbers_on c w).idx (numbers_on c w).ridx (filing_of c w.members)

-- what a step makes of the calendar of CPU c
abbrev pub CpuPassage : (taken next : ℕ → Bool) → ℕ → World → World → Type 0
CpuPassage taken next c w n =
    Passage taken next (numbers_on c w).idx (numbers_on c w).ridx (numbers_on c n).idx (numbers_on c n).ridx (filing_of c w.members) (filing_of c n.members)

-- what a step makes of the calendars, where it answered so
pub record StepPasses (w : World) (worker : ℕ) (e : Event) (now : ℕ) (done : World × Reply) : Type 0 where
  pub finds : FindsEach done.0.members
  pub passes : (c : ℕ) → CpuPassage (λ t. takes_up t (entry_by worker e now done.1)) (λ t. goes_next t (entry_by worker e now done.1)) c w done.0

-- a place past the end of a list stays past it
past_set : {X : Type 0} (xs : List X) (i : ℕ) (x past : X) → length xs ≤ i → slice_index_or (slice_set xs i x) i past ≡ past
past_set [] i x past over = refl
past_set (y ∷ ys) zero x past over = absurd (omega arith)
past_set (y ∷ ys) (suc i) x past over = past_set ys i x past (omega arith)

-- what is past the end of a list is what stands for it
past_end : {X : Type 0} (xs : List X) (i : ℕ) (past : X) → length xs ≤ i → slice_index_or xs i past ≡ past
past_end [] i past over = refl
past_end (y ∷ ys) zero past over = absurd (omega arith)
past_end (y ∷ ys) (suc i) past over = past_end ys i past (omega arith)

module _ (w : World) (worker : ℕ) (e : Event) (now : ℕ) (calm : IsCalm w) where
  -- an event of CPU d passes on each CPU
  pub side_passes : (d : ℕ) (done : Side × Reply) → SidePasses worker now e d (side_of d w) done → StepPasses w worker e now (with_side d done.0 w, done.1)
  side_passes d done here = record { finds = moved_finds (Others d) w.members done.0.members calm.finds here.moves; passes = each }
    where
      taken : ℕ → Bool
      taken t = takes_up t (entry_by worker e now done.1)

      next : ℕ → Bool
      next t = goes_next t (entry_by worker e now done.1)

      n : World
      n = with_side d done.0 w

      -- the passage from these numbers to those
      between : CpuLine → CpuLine → Type 0
      between old new = Passage taken next old.idx old.ridx new.idx new.ridx (filing_of d w.members) (filing_of d done.0.members)

      nowhere : numbers_on d w ≡ fresh_line → between fresh_line done.0.line → between fresh_line fresh_line
      nowhere fresh p = record {
        between = p.between;
        rule = rule_nowhere done.0.line.idx done.0.line.ridx (filing_of d w.members) p.between p.rule;
        kept = p.kept;
        stood = p.stood;
        came = p.came;
      }

      own : CpuPassage taken next d w n
      own =
          ⊎_elim
          (λ (below : d < length w.lines). subst (between (numbers_on d w)) (sym (get_or-set_same w.lines d done.0.line fresh_line below)) here.passes)
          (λ (over : length w.lines ≤ d).
          let fresh : numbers_on d w ≡ fresh_line = past_end w.lines d fresh_line over in
          subst (between (numbers_on d w)) (sym (past_set w.lines d done.0.line fresh_line over))
          (subst (λ (l : CpuLine). between l fresh_line) (sym fresh) (nowhere fresh (subst (λ (l : CpuLine). between l done.0.line) fresh here.passes))))
          (cases_lt d (length w.lines))

      each : (c : ℕ) → CpuPassage taken next c w n
      each c =
          ⊎_elim
          (λ (same : c ≡ d). subst (λ (x : ℕ). CpuPassage taken next x w n) (sym same) own)
          (λ (apart : c ≡ d → ⊥).
          let line : numbers_on c n ≡ numbers_on c w = get_or-set_other w.lines d c done.0.line fresh_line apart in
          unaltered taken next c (side_of c w) (calm.close c) (side_of c n) (ap (λ (l : CpuLine). l.idx) line) (ap (λ (l : CpuLine). l.ridx) line)
          (λ t. moved_aside (Others d) w.members done.0.members c t apart here.moves))
          (cases_eq c d)

  -- an event that moves no thread in a calendar passes on each CPU
  pub aside_passes : (ns : List Member) (r : Reply) → AreMoved AllCpus w.members ns → StepPasses w worker e now (record w { members = ns }, r)
  aside_passes ns r moves = record {
    finds = moved_finds AllCpus w.members ns calm.finds moves;
    passes = λ c. unaltered (λ t. takes_up t (entry_by worker e now r)) (λ t. goes_next t (entry_by worker e now r)) c (side_of c w) (calm.close c) (side_of c (record w { members = ns }))
        refl refl (λ t. moved_aside AllCpus w.members ns c t tt moves);
  }

  -- an event that moves none passes on each CPU
  pub nothing_passes : (r : Reply) → StepPasses w worker e now (w, r)
  nothing_passes r = aside_passes w.members r unmoved

  -- a thread that stands in no calendar is put at a place in none
  pub put_passes : (t : ℕ) (place : Place) (r : Reply) → ((c : ℕ) → filing_of c w.members t ≡ None) → ((c : ℕ) → filed_at c place ≡ None) →
      StepPasses w worker e now (record w { members = moved_to t place (pos 0) w.members }, r)
  put_passes t place r old new =
      aside_passes (moved_to t place (pos 0) w.members) r (moved w.members t place (pos 0) (λ c is. old c) (λ c is. new c) unmoved)

-- The world at the start of every setup is calm: no index has gone on, and each thread is found by its number.
use Rattle.std.proofs.Common.{◌≡◌, ◌≢◌, ℕ, ◌<◌, true, false, List, [], ◌∷◌, ◌++◌, fold, length, map, replicate, Some, None, ◌⊎◌, inl, inr, ⊎_elim, refl, sym, ◌∙◌, ap, subst, arith}
use Rattle.std.specs.Prelude.{option_and_then}
use Rattle.std.specs.List.{AllByRecursion}
use Rattle.std.proofs.lemmas.Bool.{cases_eq, eq-eqb, ne_eqb}
use Rattle.std.proofs.lemmas.List.{length-replicate, length-set, map-append, map-id}
use Rattle.std.proofs.lemmas.Option.{none-some}
use Rattle.ule_score.specs.declared.record.CpuLine.{CpuLine}
use Rattle.ule_types.proofs.Repeats.{distinct_front}
use Rattle.ule_types.specs.Commands.{is_among}
use Rattle.ule_types.specs.Rules.{declared_ids, is_distinct}
use Rattle.ule_types.specs.declared.setup.Setup.{Setup}
use Rattle.ule_types.specs.declared.setup.ThreadSpec.{ThreadSpec}
use Rattle.ule_model.specs.CalendarPromise.{numbers_on}
use Rattle.ule_model.specs.declared.insertion.Insertion.TheVariants.{Ordinary}
use Rattle.ule_model.specs.Insertion.{place_of_insertion}
use Rattle.ule_model.specs.Shows.{numbers_of}
use Rattle.ule_model.specs.Start.{empty_world, laid, record_of, start_line, unborn_member, unborn_record, with_unborn, world_at_start}
use Rattle.ule_model.specs.World.{Member, World, fresh_line, is_numbered, side_of, thread_of}
use Rattle.ule_members.proofs.CalendarParts.{HasJoined, IsCalm, joined_bucket}
use Rattle.ule_members.proofs.CalendarPlaces.{FindsEach, filed_at, filed_elsewhere, filing_of}
use Rattle.ule_members.proofs.Membership.{Has}
use Rattle.ule_members.proofs.Moves.{calendar_bucket_small}
use Rattle.ule_members.proofs.Rest.{all_at, all_set}
use Rattle.ule_members.proofs.Setups.{setup_specs}
use Rattle.ule_members.proofs.Starts.{all_copies, laid_is, new_number, newly_laid, put_all, with_member}
use Rattle.ule_members.proofs.Threads.{find-appended, find-appended_new}

-- ---- one thread more

-- an element of two lists together is one of the first or of the second
has_either : {X : Type 0} (x : X) (xs ys : List X) → Has x (xs ++ ys) → Has x xs ⊎ Has x ys
has_either x [] ys has = inr has
has_either x (z ∷ zs) ys has =
    ⊎_elim (λ (here : z ≡ x). inl (inl here)) (λ (there : Has x (zs ++ ys)). ⊎_elim (λ (front : Has x zs). inl (inr front)) (λ (back : Has x ys). inr back) (has_either x zs ys there)) has

-- numbers of a CPU at which neither index has gone on
abbrev pub IsUnturned : CpuLine → Type 0
IsUnturned line = (line.idx ≡ 0) × (line.ridx ≡ 0)

-- what a world keeps while threads of these numbers are laid
pub record IsFresh (cpus : ℕ) (ids : List ℕ) (w : World) : Type 0 where
  pub numbers : numbers_of w.members ≡ ids
  pub finds : FindsEach w.members
  pub lines : AllByRecursion IsUnturned w.lines
  pub filed : (c t b : ℕ) → filing_of c w.members t ≡ Some b → b < 64
  pub count : length w.lines ≡ cpus

module _ (m : Member) (ms : List Member) (new : thread_of m.thread.id ms ≡ None) where
  -- the new thread is found
  new_found : thread_of m.thread.id (ms ++ m ∷ []) ≡ Some m
  new_found = find-appended_new (is_numbered m.thread.id) ms m new (eq-eqb m.thread.id m.thread.id refl)

  -- every other number finds what it found
  old_found : (t : ℕ) → t ≢ m.thread.id → thread_of t (ms ++ m ∷ []) ≡ thread_of t ms
  old_found t apart = find-appended (is_numbered t) ms m (ne_eqb m.thread.id t (λ same. apart (sym same)))

  -- each is found by its number
  finds_more : FindsEach ms → FindsEach (ms ++ m ∷ [])
  finds_more finds n has =
      ⊎_elim
      (λ (old : Has n ms).
      let found : thread_of n.thread.id ms ≡ Some n = finds n old in
      old_found n.thread.id (λ same. none-some n (sym (ap (λ (u : ℕ). thread_of u ms) same ∙ new) ∙ found)) ∙ found)
      (λ (last : Has n (m ∷ [])). ⊎_elim
      (λ (same : m ≡ n). ap (λ (x : Member). thread_of x.thread.id (ms ++ m ∷ [])) (sym same) ∙ new_found ∙ ap (λ (x : Member). Some x) same)
      (λ (none : ⊥). absurd none) last)
      (has_either n ms (m ∷ []) has)

  -- each is filed in a bucket that is there
  filed_more : (c : ℕ) → ((b : ℕ) → filed_at c m.place ≡ Some b → b < 64) → ((t b : ℕ) → filing_of c ms t ≡ Some b → b < 64) →
      (t b : ℕ) → filing_of c (ms ++ m ∷ []) t ≡ Some b → b < 64
  filed_more c own old t b is =
      ⊎_elim
      (λ (same : t ≡ m.thread.id). own b (sym (ap (option_and_then (λ (x : Member). filed_at c x.place)) (ap (λ (u : ℕ). thread_of u (ms ++ m ∷ [])) same ∙ new_found)) ∙ is))
      (λ (other : t ≡ m.thread.id → ⊥). old t b (sym (ap (option_and_then (λ (x : Member). filed_at c x.place)) (old_found t other)) ∙ is))
      (cases_eq t m.thread.id)

-- a world with one thread more, of a new number, keeps it
fresh_more : (cpus : ℕ) (ids : List ℕ) (w : World) (m : Member) → is_among ids m.thread.id ≡ false → ((c b : ℕ) → filed_at c m.place ≡ Some b → b < 64) →
    IsFresh cpus ids w → IsFresh cpus (ids ++ m.thread.id ∷ []) (with_member m w)
fresh_more cpus ids w m new own fresh =
    let none : thread_of m.thread.id w.members ≡ None = new_number m.thread.id w.members (ap (λ (is : List ℕ). is_among is m.thread.id) fresh.numbers ∙ new) in
    record {
      numbers = map-append (λ (x : Member). x.thread.id) w.members (m ∷ []) ∙ ap (λ (is : List ℕ). is ++ m.thread.id ∷ []) fresh.numbers;
      finds = finds_more m w.members none fresh.finds;
      lines = fresh.lines;
      filed = λ c. filed_more m w.members none c (own c) (fresh.filed c);
      count = fresh.count;
    }

-- the bucket that a thread is laid in is there
laid_below : (c d b p : ℕ) (line : CpuLine) → filed_at c (place_of_insertion Ordinary d line p) ≡ Some b → b < 64
laid_below c d b p line is =
    ⊎_elim
    (λ (same : c ≡ d).
    let joined : HasJoined Ordinary line.idx line.ridx b = joined_bucket Ordinary d b p line (ap (λ (x : ℕ). filed_at x (place_of_insertion Ordinary d line p)) (sym same) ∙ is) in
    subst (λ (n : ℕ). n < 64) (sym joined.1) (calendar_bucket_small line.idx line.ridx joined.0))
    (λ (apart : c ≡ d → ⊥). absurd (none-some b (sym (filed_elsewhere c d _ _ apart) ∙ is)))
    (cases_eq c d)

-- a thread that is laid
fresh_laid : (cpus : ℕ) (ids : List ℕ) (w : World) (spec : ThreadSpec) → Unit {0} → is_among ids spec.id ≡ false → IsFresh cpus ids w →
    IsFresh cpus (ids ++ spec.id ∷ []) (laid w spec)
fresh_laid cpus ids w spec good new fresh =
    let none : thread_of spec.id w.members ≡ None = new_number spec.id w.members (ap (λ (is : List ℕ). is_among is spec.id) fresh.numbers ∙ new) in
    subst (IsFresh cpus (ids ++ spec.id ∷ [])) (sym (laid_is w spec none))
    (fresh_more cpus ids w (newly_laid w spec) new
    (λ c b is. laid_below c spec.cpu b (record_of w.settings spec).priority (side_of spec.cpu w).line is) fresh)

-- an unborn thread
fresh_unborn : (cpus : ℕ) (ids : List ℕ) (w : World) (t : ℕ) → Unit {0} → is_among ids t ≡ false → IsFresh cpus ids w → IsFresh cpus (ids ++ t ∷ []) (with_unborn w t)
fresh_unborn cpus ids w t good new fresh =
    fresh_more cpus ids w (unborn_member (unborn_record t)) new (λ c b is. absurd (none-some b is)) fresh

-- ---- the start

-- the world before any thread is laid
fresh_empty : (s : Setup) → IsFresh s.cpus [] (empty_world s)
fresh_empty s = record {
  numbers = refl;
  finds = λ m has. absurd has;
  lines = all_set IsUnturned (replicate s.cpus fresh_line) 0 (start_line s.jitter) (all_copies IsUnturned s.cpus fresh_line (refl, refl)) (refl, refl);
  filed = λ c t b is. absurd (none-some b is);
  count = length-set (replicate s.cpus fresh_line) 0 (start_line s.jitter) ∙ length-replicate s.cpus fresh_line;
}

-- nothing need be known of each of a list
all_units : {X : Type 0} (xs : List X) → AllByRecursion (λ x. Unit {0}) xs
all_units [] = tt
all_units (x ∷ xs) = (tt, all_units xs)

-- the world at the start
pub start_fresh : (s : Setup) → IsFresh s.cpus (declared_ids s.threads s.unborn) (world_at_start s)
start_fresh s =
    subst (λ (us : List ℕ). IsFresh s.cpus (ids ++ us) (world_at_start s)) (map-id s.unborn)
    (put_all (λ (t : ℕ). t) with_unborn (IsFresh s.cpus) (λ t. Unit {0}) (fresh_unborn s.cpus) ids (fold laid (empty_world s) s.threads) s.unborn (all_units s.unborn)
    (ap (λ (us : List ℕ). is_distinct (ids ++ us)) (map-id s.unborn) ∙ distinct)
    (put_all (λ (spec : ThreadSpec). spec.id) laid (IsFresh s.cpus) (λ spec. Unit {0}) (fresh_laid s.cpus) [] (empty_world s) s.threads (all_units s.threads)
    (distinct_front ids s.unborn distinct) (fresh_empty s)))
  where
    ids : List ℕ
    ids = map (λ (spec : ThreadSpec). spec.id) s.threads

    distinct : is_distinct (declared_ids s.threads s.unborn) ≡ true
    distinct = (setup_specs s).distinct

-- is calm
pub start_calm : (s : Setup) → IsCalm (world_at_start s)
start_calm s =
    let fresh : IsFresh s.cpus (declared_ids s.threads s.unborn) (world_at_start s) = start_fresh s in
    record {
      finds = fresh.finds;
      close = λ c.
          let line : IsUnturned (numbers_on c (world_at_start s)) = all_at IsUnturned (world_at_start s).lines c fresh_line fresh.lines (refl, refl) in
          let i = line.0 in let r = line.1 in
          record { insertion = omega arith; removal = omega arith; lead = omega arith; some = λ one. absurd (omega arith); filed = λ t b is. fresh.filed c t b is };
    }

-- What each thread has at the start: no parent, and a last CPU that is there; and that threads have the numbers of their list.
use Rattle.std.proofs.Common.{◌≡◌, ℕ, ℤ, ◌<◌, ◌==◌, nat_lt, arith, Bool, true, false, List, [], ◌∷◌, ◌++◌, fold, Option, Some, None, IfSome, if◌then◌else◌, ap, subst, ⊎_elim}
use Rattle.std.specs.List.{AllByRecursion}
use Rattle.std.proofs.lemmas.Bool.{and_parts, eq-eqb, ltb-true, or_left, or_right}
use Rattle.ule_score.specs.declared.place.Place.{Place}
use Rattle.ule_score.specs.declared.record.Settings.{Settings}
use Rattle.ule_score.specs.declared.record.ThreadRecord.{ThreadRecord}
use Rattle.ule_types.specs.Commands.{is_among}
use Rattle.ule_types.specs.Rules.{is_form, is_spec}
use Rattle.ule_types.specs.declared.setup.Setup.{Setup}
use Rattle.ule_types.specs.declared.setup.ThreadSpec.{ThreadSpec}
use Rattle.ule_model.specs.declared.insertion.Insertion.TheVariants.{Ordinary}
use Rattle.ule_model.specs.Insertion.{order_of_insertion, place_of_insertion, queued, with_queued}
use Rattle.ule_model.specs.Shows.{numbers_of}
use Rattle.ule_model.specs.Start.{empty_world, laid, record_of, unborn_member, unborn_record, with_unborn, world_at_start}
use Rattle.ule_model.specs.World.{Member, Side, World, is_numbered, moved_to, others, side_of, thread_of}
use Rattle.ule_members.proofs.Membership.{Has, all_from_has}
use Rattle.ule_members.proofs.Setups.{all_from_list_all, setup_scripts, setup_specs}
use Rattle.ule_members.proofs.Within.{all-append, all_along}

-- a parent, if there is one, among the declared threads
abbrev pub HasDeclaredParent : List ℕ → Member → Type 0
HasDeclaredParent ids m = IfSome m.thread.parent (λ p. is_among ids p ≡ true)

-- ---- the numbers of threads

-- each thread of a list has one of the list's numbers
numbered_has : (m : Member) (ms : List Member) → Has m ms → is_among (numbers_of ms) m.thread.id ≡ true
numbered_has m [] has = absurd has
numbered_has m (x ∷ xs) has =
    ⊎_elim (λ (same : x ≡ m). or_left (x.thread.id == m.thread.id) (is_among (numbers_of xs) m.thread.id) (eq-eqb x.thread.id m.thread.id (ap (λ (z : Member). z.thread.id) same)))
    (λ (rest : Has m xs). or_right (x.thread.id == m.thread.id) (is_among (numbers_of xs) m.thread.id) (numbered_has m xs rest)) has

-- threads of these numbers have each one of them
pub numbered_among : (ids : List ℕ) (ms : List Member) → numbers_of ms ≡ ids → AllByRecursion (λ m. is_among ids m.thread.id ≡ true) ms
numbered_among ids ms is =
    subst (λ us. AllByRecursion (λ m. is_among us m.thread.id ≡ true) ms) is (all_from_has (λ m. is_among (numbers_of ms) m.thread.id ≡ true) ms (λ m has. numbered_has m ms has))

-- ---- the start

module _ (P : ThreadRecord → Type 0) where
  -- threads of which each record has the property
  abbrev HaveEach : List Member → Type 0
  HaveEach ms = AllByRecursion (λ m. P m.thread) ms

  -- threads of which one is moved have it where they had it
  moved_each : (t : ℕ) (place : Place) (order : ℤ) (ms : List Member) → HaveEach ms → HaveEach (moved_to t place order ms)
  moved_each t place order [] each = tt
  moved_each t place order (m ∷ ms) each = (by_test (is_numbered t m), moved_each t place order ms each.1)
    where
      by_test : (b : Bool) → P (if b then record m { place = place; order = order } else m).thread
      by_test true = each.0
      by_test false = each.0

  -- threads of which one is queued have it where they had it
  queued_each : (c t : ℕ) (s : Side) → HaveEach s.members → HaveEach (queued Ordinary c t s).members
  queued_each c t s each = split (thread_of t s.members)
    where
      split : (o : Option Member) → HaveEach (with_queued Ordinary c o s).members
      split None = each
      split (Some m) =
          moved_each m.thread.id (place_of_insertion Ordinary c s.line m.thread.priority) (order_of_insertion Ordinary c s.line m.thread.priority (others m.thread.id s.members)) s.members each

  -- with a new thread that has it, threads have it where they had it
  more_each : (r : ThreadRecord) (ms : List Member) → P r → HaveEach ms → HaveEach (ms ++ unborn_member r ∷ [])
  more_each r ms new each = all-append (λ m. P m.thread) ms (unborn_member r ∷ []) each (new, tt)

  -- while declared threads are laid each has it
  laid_each : (w : World) (specs : List ThreadSpec) → AllByRecursion (λ spec. (settings : Settings) → P (record_of settings spec)) specs → HaveEach w.members →
      HaveEach (fold laid w specs).members
  laid_each w [] new each = each
  laid_each w (spec ∷ specs) new each =
      laid_each (laid w spec) specs new.1
      (queued_each spec.cpu spec.id (record (side_of spec.cpu w) { members = w.members ++ unborn_member (record_of w.settings spec) ∷ [] })
      (more_each (record_of w.settings spec) w.members (new.0 w.settings) each))

  -- while unborn threads come behind each has it
  unborn_each : (w : World) (us : List ℕ) → ((u : ℕ) → P (unborn_record u)) → HaveEach w.members → HaveEach (fold with_unborn w us).members
  unborn_each w [] new each = each
  unborn_each w (u ∷ us) new each = unborn_each (with_unborn w u) us new (more_each (unborn_record u) w.members (new u) each)

  -- at the start of a setup each thread has it, where each declared one and each unborn one has it
  start_each : (s : Setup) → AllByRecursion (λ spec. (settings : Settings) → P (record_of settings spec)) s.threads → ((u : ℕ) → P (unborn_record u)) →
      HaveEach (world_at_start s).members
  start_each s declared unborn = unborn_each (fold laid (empty_world s) s.threads) s.unborn unborn (laid_each (empty_world s) s.threads declared tt)

-- at the start of a setup each parent is declared, since there is none
pub start_parents : (s : Setup) (ids : List ℕ) → AllByRecursion (HasDeclaredParent ids) (world_at_start s).members
start_parents s ids =
    start_each (λ r. IfSome r.parent (λ p. is_among ids p ≡ true)) s
    (all_from_has (λ spec. (settings : Settings) → IfSome (record_of settings spec).parent (λ p. is_among ids p ≡ true)) s.threads (λ spec has settings. tt)) (λ u. tt)

-- at the start of a setup each last CPU is there
pub start_lasts : (s : Setup) → AllByRecursion (λ m. m.thread.last < s.cpus) (world_at_start s).members
start_lasts s =
    start_each (λ r. r.last < s.cpus) s
    (all_along (λ (spec : ThreadSpec). is_spec s.cpus spec ≡ true) (λ spec. (settings : Settings) → (record_of settings spec).last < s.cpus) s.threads
    (λ spec valid settings. ltb-true spec.cpu s.cpus (and_parts (is_form spec.form) (nat_lt spec.cpu s.cpus) valid).1)
    (all_from_list_all (is_spec s.cpus) s.threads (setup_specs s).specs))
    (λ u. omega (arith, (setup_scripts s).some))

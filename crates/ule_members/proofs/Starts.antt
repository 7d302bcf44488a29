-- The world at the start of a setup: the numbers, records and places of its threads, while they are laid and after.
use Rattle.std.proofs.Common.{◌≡◌, ℕ, ◌<◌, ◌≤◌, ◌==◌, ◌||◌, Bool, true, false, not, pos, nat_lt, List, [], ◌∷◌, ◌++◌, zero, suc, ◌+◌, drop, fold, length, map, replicate, slice_get, take, Some, None, IfSome, refl, sym, ◌∙◌, ap, subst, arith}
use Rattle.std.specs.List.{AllByRecursion, list_all}
use Rattle.std.proofs.lemmas.Bool.{and_parts, both_ways, cond-false, cond_both, eq-eqb, false≢true, ltb-true, not-true, or_parts, ne_eqb}
use Rattle.std.proofs.lemmas.List.{append-nil, append_assoc, length-replicate, length-set, map-append, map-id, set-get_or, take-append-drop}
use Rattle.std.proofs.lemmas.List.Folds.{list_all-append}
use Rattle.ule_prio.specs.Class.{is_base_of}
use Rattle.ule_prio.specs.declared.class.Class.{Class}
use Rattle.ule_prio.specs.declared.class.Class.TheVariants as class
use Rattle.ule_score.proofs.TimesharePriorityLemmas.{timeshare_priority-bounds}
use Rattle.ule_score.specs.Bounds.{KeepsBounds}
use Rattle.ule_score.specs.Changes.{HasNumbers, IsBy}
use Rattle.ule_score.specs.TimesharePriority.{IsNice}
use Rattle.ule_score.specs.declared.place.Place.{Place}
use Rattle.ule_score.specs.declared.place.Place.TheVariants.{Running, Queued, Asleep, Unborn, Gone, Hand}
use Rattle.ule_score.specs.declared.record.CpuLine.{CpuLine}
use Rattle.ule_score.specs.declared.record.Settings.{Settings}
use Rattle.ule_score.specs.declared.record.ThreadRecord.{ThreadRecord}
use Rattle.ule_prio.specs.declared.class.Class.TheVariants as class
pub use Rattle.ule_types.proofs.Numbers.{nice_is, within_byte}
use Rattle.ule_types.specs.Commands.{is_among}
use Rattle.ule_types.proofs.Repeats.{distinct_front}
use Rattle.ule_types.specs.Rules.{declared_ids, is_distinct, is_form, is_spec}
use Rattle.ule_types.specs.declared.setup.Form.{Form}
use Rattle.ule_types.specs.declared.setup.Form.TheVariants.{Ts, Ithd, Rt, Fifo, Idle}
use Rattle.ule_types.specs.declared.setup.Setup.{Setup}
use Rattle.ule_types.specs.declared.setup.ThreadSpec.{ThreadSpec}
use Rattle.ule_model.specs.declared.insertion.Insertion.TheVariants.{Ordinary}
use Rattle.ule_model.specs.Insertion.{order_of_insertion, place_of_insertion, with_queued}
use Rattle.ule_model.specs.Places.{hand_of}
use Rattle.ule_model.specs.Shows.{numbers_of}
use Rattle.ule_model.specs.Start.{base_of, class_of, empty_world, start_line, fresh_history, fresh_use, laid, laid_on, nice_of, record_of, starting_time, unborn_member, unborn_record, with_unborn, world_at_start}
use Rattle.ule_model.specs.WellMade.{AreApart, IsWellMade, IsWellMadeWorld}
use Rattle.ule_model.specs.World.{Member, Side, World, fresh_line, is_numbered, others, side_of, thread_of, with_side}
use Rattle.ule_members.proofs.Lists.{drop_at}
use Rattle.ule_members.proofs.MadeWell.{queued_made}
use Rattle.ule_members.proofs.Rest.{all_at, all_set}
use Rattle.ule_members.proofs.Setups.{all_from_list_all, all_take, setup_specs}
use Rattle.ule_members.proofs.Threads.{find-appended_new, none_passes}
use Rattle.ule_members.proofs.Within.{all-append, all_along, changed_between, well_made_between}

-- ---- a declared thread's record

-- what holds of the class, the nice value and the base priority that a thread is declared with
pub record HasFormBounds (settings : Settings) (f : Form) : Type 0 where
  pub nice : IsNice (nice_of f)
  pub byte : base_of settings f < 256
  pub low : class_of f ≡ class.Ts → 120 ≤ base_of settings f
  pub high : class_of f ≡ class.Ts → base_of settings f ≤ 223

-- whether a class is the timeshare class
abbrev is_timeshare_class : Class → Bool
is_timeshare_class class.Ithd = false
is_timeshare_class class.Rt = false
is_timeshare_class class.Fifo = false
is_timeshare_class class.Ts = true
is_timeshare_class class.Idle = false

-- a class that isn't the timeshare class claims nothing of base priorities
class_apart : (k : Class) (P : Type 0) → is_timeshare_class k ≡ false → k ≡ class.Ts → P
class_apart k P other is = absurd (false≢true (sym other ∙ ap is_timeshare_class is))

-- a declared base priority of another class than timeshare is below 256
declared_bounds : (settings : Settings) (f : Form) (p : ℕ) → nice_of f ≡ pos 0 → base_of settings f ≡ p → is_timeshare_class (class_of f) ≡ false → p < 256 → HasFormBounds settings f
declared_bounds settings f p nice base other small = record {
  nice = subst IsNice (sym nice) (nice_is (pos 0) refl);
  byte = omega (arith, base, small);
  low = class_apart (class_of f) (120 ≤ base_of settings f) other;
  high = class_apart (class_of f) (base_of settings f ≤ 223) other;
}

-- the nice value and the base priority that a thread is declared with are in the ranges of its class
pub form_bounds : (settings : Settings) (f : Form) → is_form f ≡ true → HasFormBounds settings f
form_bounds settings (Ts n) valid =
    let nice : IsNice n = nice_is n valid in
    let bounds = timeshare_priority-bounds fresh_history fresh_use n settings.interact nice in
    record { nice = nice; byte = omega (arith, bounds.1); low = λ is. bounds.0; high = λ is. bounds.1 }
form_bounds settings (Ithd p) valid = declared_bounds settings (Ithd p) p refl refl refl (within_byte 0 47 p (omega arith) valid)
form_bounds settings (Rt p) valid = declared_bounds settings (Rt p) p refl refl refl (within_byte 48 79 p (omega arith) valid)
form_bounds settings (Fifo p) valid = declared_bounds settings (Fifo p) p refl refl refl (within_byte 48 79 p (omega arith) valid)
form_bounds settings (Idle p) valid = declared_bounds settings (Idle p) p refl refl refl (ltb-true p 256 (and_parts (is_base_of class.Idle p) (nat_lt p 256) valid).1)

-- what holds of the threads that a setup can declare
abbrev pub IsGood : ℕ → ThreadSpec → Type 0
IsGood cpus spec = (is_spec cpus spec ≡ true) × (spec.id < 256)

-- what a record keeps at the start
pub record IsFreshRecord (cpus : ℕ) (r : ThreadRecord) : Type 0 where
  pub bounds : KeepsBounds r
  pub by_now : IsBy starting_time r
  pub bound : IfSome r.bound (λ c. c < cpus)

-- the record of a declared thread is as it must be at the start
pub fresh_record : (cpus : ℕ) (settings : Settings) (spec : ThreadSpec) → IsGood cpus spec →
    IsFreshRecord cpus (record_of settings spec) × HasNumbers (record_of settings spec)
fresh_record cpus settings spec good =
    let valid = and_parts (is_form spec.form) (nat_lt spec.cpu cpus) good.0 in
    let bounds = form_bounds settings spec.form valid.0 in (
      record {
        bounds = record {
          history = omega arith;
          usage = record { ordered = omega arith; within = omega arith };
          ltick = omega arith;
          slept_at = omega arith;
          last_run = omega arith;
          slice_count = omega arith;
          priority = refl;
          low = bounds.low;
          high = bounds.high;
        };
        by_now = record { ltick = omega arith; slept_at = omega arith; last_run = omega arith };
        bound = cond_both spec.bound (Some spec.cpu) None (λ o. IfSome o (λ c. c < cpus)) (λ is. ltb-true spec.cpu cpus valid.1) (λ is. tt);
      },
      record { id = good.1; base = bounds.byte; priority = bounds.byte; nice = bounds.nice },
    )

-- the record of an unborn thread is as it must be at the start
pub unborn_fresh : (cpus t : ℕ) → t < 256 → IsFreshRecord cpus (unborn_record t) × HasNumbers (unborn_record t)
unborn_fresh cpus t small = (
  record {
    bounds = record {
      history = omega arith;
      usage = record { ordered = omega arith; within = omega arith };
      ltick = omega arith;
      slept_at = omega arith;
      last_run = omega arith;
      slice_count = omega arith;
      priority = refl;
      low = λ is. omega arith;
      high = λ is. omega arith;
    };
    by_now = record { ltick = omega arith; slept_at = omega arith; last_run = omega arith };
    bound = tt;
  },
  record { id = small; base = omega arith; priority = omega arith; nice = nice_is (pos 0) refl },
)

-- ---- a thread appended

-- a thread whose number is none of these is apart from all
pub apart_from_new : (r : ThreadRecord) (ms : List Member) → is_among (numbers_of ms) r.id ≡ false → AllByRecursion (AreApart (unborn_member r)) ms
apart_from_new r [] new = tt
apart_from_new r (m ∷ ms) new =
    let parts = or_parts (m.thread.id == r.id) (is_among (numbers_of ms) r.id) new in (
      record {
        numbers = λ same. both_ways (m.thread.id == r.id) parts.0 (eq-eqb m.thread.id r.id (sym same));
        orders = λ c k b here there same. false≢true here;
        running = λ c here there. false≢true here;
      },
      apart_from_new r ms parts.1,
    )

-- threads stay well made with one more that is unborn and has a new number
pub made_with_new : (r : ThreadRecord) (ms : List Member) → HasNumbers r → is_among (numbers_of ms) r.id ≡ false → IsWellMade ms → IsWellMade (ms ++ unborn_member r ∷ [])
made_with_new r ms numbers new made =
    well_made_between ms (unborn_member r) [] (subst IsWellMade (sym (append-nil ms)) made) (record { numbers = numbers; place = tt }) (apart_from_new r ms new) tt

-- ---- lists

-- what holds of an element holds of each of its copies
pub all_copies : {X : Type 0} (P : X → Type 0) (n : ℕ) (x : X) → P x → AllByRecursion P (replicate n x)
all_copies P zero x holds = tt
all_copies P (suc n) x holds = (holds, all_copies P n x holds)

-- a number that stands behind others of which none stands twice is none of them
pub distinct_new : (ids : List ℕ) (t : ℕ) (rest : List ℕ) → is_distinct (ids ++ t ∷ rest) ≡ true → is_among ids t ≡ false
distinct_new [] t rest distinct = refl
distinct_new (i ∷ is) t rest distinct =
    let both = and_parts (not (is_among (is ++ t ∷ rest) i)) (is_distinct (is ++ t ∷ rest)) distinct in
    let other : i ≡ t → ⊥ = λ same. both_ways (is_among (is ++ t ∷ rest) i) (not-true (is_among (is ++ t ∷ rest) i) both.0)
    (subst (λ u. is_among (is ++ t ∷ rest) u ≡ true) (sym same) (among_itself is t rest)) in
    ap (λ b. b || is_among is t) (ne_eqb i t other) ∙ distinct_new is t rest both.1
  where
    among_itself : (xs : List ℕ) (u : ℕ) (ys : List ℕ) → is_among (xs ++ u ∷ ys) u ≡ true
    among_itself [] u ys = ap (λ b. b || is_among ys u) (eq-eqb u u refl)
    among_itself (x ∷ xs) u ys = by_first (x == u) (among_itself xs u ys)
      where
        by_first : (b : Bool) → is_among (xs ++ u ∷ ys) u ≡ true → (b || is_among (xs ++ u ∷ ys) u) ≡ true
        by_first true further = refl
        by_first false further = further

-- a number that none of some threads has finds none of them
pub new_number : (t : ℕ) (ms : List Member) → is_among (numbers_of ms) t ≡ false → thread_of t ms ≡ None
new_number t [] new = refl
new_number t (m ∷ ms) new =
    let parts = or_parts (m.thread.id == t) (is_among (numbers_of ms) t) new in
    cond-false (m.thread.id == t) (Some m) (thread_of t ms) parts.0 ∙ new_number t ms parts.1

-- an element of a list parts it
pub parted_at : {X : Type 0} (xs : List X) (k : ℕ) (x : X) → slice_get xs k ≡ Some x → xs ≡ take k xs ++ x ∷ drop (k + 1) xs
parted_at xs k x at = sym (take-append-drop k xs) ∙ ap (λ ys. take k xs ++ ys) (drop_at xs k x at)

-- ---- a thread laid

-- the world with one thread more
abbrev pub with_member : Member → World → World
with_member m w = record w { members = w.members ++ m ∷ [] }

-- the thread that is laid, queued on CPU c
abbrev pub laid_member : ℕ → ThreadRecord → Side → Member
laid_member c r s = record (unborn_member r) {
  place = place_of_insertion Ordinary c s.line r.priority;
  order = order_of_insertion Ordinary c s.line r.priority (others r.id (s.members ++ unborn_member r ∷ []));
}

-- a declared thread that is laid in a world
abbrev pub newly_laid : World → ThreadSpec → Member
newly_laid w spec = laid_member spec.cpu (record_of w.settings spec) (side_of spec.cpu w)

-- the side with a thread of a new number laid has it behind the others
pub laid_on_is : (c : ℕ) (r : ThreadRecord) (s : Side) → thread_of r.id s.members ≡ None → laid_on c r s ≡ record s { members = s.members ++ laid_member c r s ∷ [] }
laid_on_is c r s new =
    ap (λ o. with_queued Ordinary c o (record s { members = s.members ++ unborn_member r ∷ [] })) (find-appended_new (is_numbered r.id) s.members (unborn_member r) new (eq-eqb r.id r.id refl)) ∙
    ap (λ (ms : List Member). record s { members = ms })
    (changed_between r.id (λ n. record n { place = (laid_member c r s).place; order = (laid_member c r s).order }) s.members (unborn_member r) [] (none_passes (is_numbered r.id) s.members new) refl tt)

-- laying a thread of a new number puts it behind the others, and changes nothing else
pub laid_is : (w : World) (spec : ThreadSpec) → thread_of spec.id w.members ≡ None → laid w spec ≡ with_member (newly_laid w spec) w
laid_is w spec new =
    ap (λ (s : Side). with_side spec.cpu s w) (laid_on_is spec.cpu (record_of w.settings spec) (side_of spec.cpu w) new) ∙
    ap (λ (lines : List CpuLine). record (with_member (newly_laid w spec) w) { lines = lines }) (set-get_or w.lines spec.cpu fresh_line)

-- ---- the worlds before the start

-- a place in a queue of one of so many CPUs
abbrev pub IsQueuedBelow : ℕ → Place → Type 0
IsQueuedBelow cpus (Running c) = ⊥
IsQueuedBelow cpus (Queued c k b) = c < cpus
IsQueuedBelow cpus (Asleep channel) = ⊥
IsQueuedBelow cpus Unborn = ⊥
IsQueuedBelow cpus Gone = ⊥
IsQueuedBelow cpus (Hand w) = ⊥

-- a place of a thread at the start: in a queue of one of so many CPUs, or unborn
abbrev pub IsPlaceAtStart : ℕ → Place → Type 0
IsPlaceAtStart cpus (Running c) = ⊥
IsPlaceAtStart cpus (Queued c k b) = c < cpus
IsPlaceAtStart cpus (Asleep channel) = ⊥
IsPlaceAtStart cpus Unborn = Unit {0}
IsPlaceAtStart cpus Gone = ⊥
IsPlaceAtStart cpus (Hand w) = ⊥

-- a queued thread may stand so at the start
pub queued_at_start : (cpus : ℕ) (place : Place) → IsQueuedBelow cpus place → IsPlaceAtStart cpus place
queued_at_start cpus (Running c) is = absurd is
queued_at_start cpus (Queued c k b) is = is
queued_at_start cpus (Asleep channel) is = absurd is
queued_at_start cpus Unborn is = absurd is
queued_at_start cpus Gone is = absurd is
queued_at_start cpus (Hand w) is = absurd is

-- what the world keeps while threads of these numbers are laid at such places
pub record IsLaid (P : Place → Type 0) (cpus : ℕ) (settings : Settings) (ids : List ℕ) (w : World) : Type 0 where
  pub settings_are : w.settings ≡ settings
  pub count : length w.lines ≡ cpus
  pub ids_are : numbers_of w.members ≡ ids
  pub records : AllByRecursion (λ m. IsFreshRecord cpus m.thread) w.members
  pub made : IsWellMadeWorld w
  pub places : AllByRecursion (λ m. P m.place) w.members

-- a number that none of the threads laid so far has finds none in their world
pub laid_new : (P : Place → Type 0) (cpus : ℕ) (settings : Settings) (ids : List ℕ) (w : World) (t : ℕ) → is_among ids t ≡ false →
    IsLaid P cpus settings ids w → thread_of t w.members ≡ None
laid_new P cpus settings ids w t new so_far = new_number t w.members (ap (λ us. is_among us t) so_far.ids_are ∙ new)

-- one thread more keeps what the world keeps while threads are laid
with_one : (P : Place → Type 0) (cpus : ℕ) (settings : Settings) (ids : List ℕ) (w : World) (m : Member) → IsFreshRecord cpus m.thread → P m.place →
    IsWellMade (w.members ++ m ∷ []) → IsLaid P cpus settings ids w → IsLaid P cpus settings (ids ++ m.thread.id ∷ []) (with_member m w)
with_one P cpus settings ids w m fresh place made so_far = record {
  settings_are = so_far.settings_are;
  count = so_far.count;
  ids_are = map-append (λ (n : Member). n.thread.id) w.members (m ∷ []) ∙ ap (λ (us : List ℕ). us ++ m.thread.id ∷ []) so_far.ids_are;
  records = all-append (λ n. IsFreshRecord cpus n.thread) w.members (m ∷ []) so_far.records (fresh, tt);
  made = record { members = made; indexes = so_far.made.indexes };
  places = all-append (λ n. P n.place) w.members (m ∷ []) so_far.places (place, tt);
}

-- laying one thread more keeps what the world keeps while threads are laid
pub laid_once : (cpus : ℕ) (settings : Settings) (ids : List ℕ) (w : World) (spec : ThreadSpec) → IsGood cpus spec → is_among ids spec.id ≡ false →
    IsLaid (IsQueuedBelow cpus) cpus settings ids w → IsLaid (IsQueuedBelow cpus) cpus settings (ids ++ spec.id ∷ []) (laid w spec)
laid_once cpus settings ids w spec good new so_far =
    subst (IsLaid (IsQueuedBelow cpus) cpus settings (ids ++ spec.id ∷ [])) (sym (laid_is w spec absent))
    (with_one (IsQueuedBelow cpus) cpus settings ids w (newly_laid w spec) fresh.0 (ltb-true spec.cpu cpus (and_parts (is_form spec.form) (nat_lt spec.cpu cpus) good.0).1) made so_far)
  where
    absent : thread_of spec.id w.members ≡ None
    absent = laid_new (IsQueuedBelow cpus) cpus settings ids w spec.id new so_far

    r : ThreadRecord
    r = record_of w.settings spec

    fresh : IsFreshRecord cpus r × HasNumbers r
    fresh = fresh_record cpus w.settings spec good

    made : IsWellMade (w.members ++ newly_laid w spec ∷ [])
    made =
        subst (λ (s : Side). IsWellMade s.members) (laid_on_is spec.cpu r (side_of spec.cpu w) absent)
        (queued_made Ordinary spec.cpu spec.id (record (side_of spec.cpu w) { members = w.members ++ unborn_member r ∷ [] })
        (made_with_new r w.members fresh.1 (ap (λ us. is_among us spec.id) so_far.ids_are ∙ new) so_far.made.members)
        (all_at (λ line. line.ridx < 64) w.lines spec.cpu fresh_line so_far.made.indexes (omega arith)))

-- one unborn thread more keeps what the world keeps while threads are laid
pub unborn_once : (cpus : ℕ) (settings : Settings) (ids : List ℕ) (w : World) (t : ℕ) → t < 256 → is_among ids t ≡ false →
    IsLaid (IsPlaceAtStart cpus) cpus settings ids w → IsLaid (IsPlaceAtStart cpus) cpus settings (ids ++ t ∷ []) (with_unborn w t)
unborn_once cpus settings ids w t small new so_far =
    let fresh = unborn_fresh cpus t small in
    with_one (IsPlaceAtStart cpus) cpus settings ids w (unborn_member (unborn_record t)) fresh.0 tt
    (made_with_new (unborn_record t) w.members fresh.1 (ap (λ us. is_among us t) so_far.ids_are ∙ new) so_far.made.members) so_far

-- what holds of the numbers so far and the world after each thread that is put, holds after all of them
pub put_all : {X : Type 0} (number : X → ℕ) (put : World → X → World) (K : List ℕ → World → Type 0) (Good : X → Type 0) →
    ((ids : List ℕ) (w : World) (x : X) → Good x → is_among ids (number x) ≡ false → K ids w → K (ids ++ number x ∷ []) (put w x)) →
    (ids : List ℕ) (w : World) (xs : List X) → AllByRecursion Good xs → is_distinct (ids ++ map number xs) ≡ true → K ids w → K (ids ++ map number xs) (fold put w xs)
put_all number put K Good once ids w [] good distinct so_far = subst (λ us. K us w) (sym (append-nil ids)) so_far
put_all number put K Good once ids w (x ∷ xs) good distinct so_far =
    let grouped = append_assoc ids (number x ∷ []) (map number xs) in
    subst (λ us. K us (fold put (put w x) xs)) grouped
    (put_all number put K Good once (ids ++ number x ∷ []) (put w x) xs good.1 (ap is_distinct grouped ∙ distinct)
    (once ids w x good.0 (distinct_new ids (number x) (map number xs) distinct) so_far))

-- ---- the start

-- each thread of a setup can be declared
pub form_good : (cpus : ℕ) (specs : List ThreadSpec) → list_all (is_spec cpus) specs ≡ true →
    list_all (λ t. nat_lt t 256) (map (λ spec. spec.id) specs) ≡ true → AllByRecursion (IsGood cpus) specs
form_good cpus [] valid numbers = tt
form_good cpus (spec ∷ specs) valid numbers =
    let first = and_parts (is_spec cpus spec) (list_all (is_spec cpus) specs) valid in
    let second = and_parts (nat_lt spec.id 256) (list_all (λ t. nat_lt t 256) (map (λ (x : ThreadSpec). x.id) specs)) numbers in
    ((first.0, ltb-true spec.id 256 second.0), form_good cpus specs first.1 second.1)

-- the numbers of the threads that are queued at the start
abbrev pub queued_numbers : List ThreadSpec → List ℕ
queued_numbers specs = map (λ spec. spec.id) specs

-- the world in which the first k declared threads are laid
abbrev pub laid_first : Setup → ℕ → World
laid_first s k = fold laid (empty_world s) (take k s.threads)

-- the world with all declared threads laid and the first k unborn ones
abbrev pub unborn_first : Setup → ℕ → World
unborn_first s k = fold with_unborn (fold laid (empty_world s) s.threads) (take k s.unborn)

-- the rules of a setup's numbers, of the threads that are queued and of the unborn ones
pub record HasGoodNumbers (s : Setup) : Type 0 where
  pub queued : AllByRecursion (IsGood s.cpus) s.threads
  pub unborn : AllByRecursion (λ t. t < 256) s.unborn
  pub distinct : is_distinct (queued_numbers s.threads) ≡ true

-- every setup has good numbers
pub good_numbers : (s : Setup) → HasGoodNumbers s
good_numbers s = record {
  queued = form_good s.cpus s.threads (setup_specs s).specs numbers.0;
  unborn = all_along (λ t. nat_lt t 256 ≡ true) (λ t. t < 256) s.unborn (λ t is. ltb-true t 256 is) (all_from_list_all (λ t. nat_lt t 256) s.unborn numbers.1);
  distinct = distinct_front (queued_numbers s.threads) s.unborn (setup_specs s).distinct;
}
  where
    numbers : (list_all (λ t. nat_lt t 256) (queued_numbers s.threads) ≡ true) × (list_all (λ t. nat_lt t 256) s.unborn ≡ true)
    numbers = and_parts _ _ (sym (list_all-append (λ t. nat_lt t 256) (queued_numbers s.threads) s.unborn) ∙ (setup_specs s).numbers)

-- the world before any thread is laid keeps what is kept while threads are laid
empty_laid : (s : Setup) → IsLaid (IsQueuedBelow s.cpus) s.cpus s.settings [] (empty_world s)
empty_laid s = record {
  settings_are = refl;
  count = length-set (replicate s.cpus fresh_line) 0 (start_line s.jitter) ∙ length-replicate s.cpus fresh_line;
  ids_are = refl;
  records = tt;
  made = record {
    members = record { each = tt; apart = tt };
    indexes = all_set (λ line. line.ridx < 64) (replicate s.cpus fresh_line) 0 (start_line s.jitter) (all_copies (λ line. line.ridx < 64) s.cpus fresh_line (omega arith)) (omega arith);
  };
  places = tt;
}

-- the world in which these declared threads are laid keeps what is kept while threads are laid
some_laid : (s : Setup) (specs : List ThreadSpec) → AllByRecursion (IsGood s.cpus) specs → is_distinct (queued_numbers specs) ≡ true →
    IsLaid (IsQueuedBelow s.cpus) s.cpus s.settings (queued_numbers specs) (fold laid (empty_world s) specs)
some_laid s specs good distinct =
    put_all (λ (spec : ThreadSpec). spec.id) laid (IsLaid (IsQueuedBelow s.cpus) s.cpus s.settings) (IsGood s.cpus) (laid_once s.cpus s.settings) [] (empty_world s) specs good distinct (empty_laid s)

-- the world in which the first k declared threads are laid keeps what is kept while threads are laid
pub laid_first_is : (s : Setup) (k : ℕ) → IsLaid (IsQueuedBelow s.cpus) s.cpus s.settings (queued_numbers (take k s.threads)) (laid_first s k)
laid_first_is s k =
    let good = good_numbers s in
    some_laid s (take k s.threads) (all_take (IsGood s.cpus) k s.threads good.queued)
    (distinct_front (queued_numbers (take k s.threads)) (queued_numbers (drop k s.threads))
    (ap is_distinct (sym (map-append (λ (spec : ThreadSpec). spec.id) (take k s.threads) (drop k s.threads)) ∙ ap queued_numbers (take-append-drop k s.threads)) ∙ good.distinct))

-- the world with all declared threads laid keeps what is kept while threads are laid
pub declared_laid : (s : Setup) → IsLaid (IsQueuedBelow s.cpus) s.cpus s.settings (queued_numbers s.threads) (fold laid (empty_world s) s.threads)
declared_laid s = let good = good_numbers s in some_laid s s.threads good.queued good.distinct

-- the world with all declared threads laid and these unborn ones keeps what is kept while threads are laid
some_unborn : (s : Setup) (us : List ℕ) → AllByRecursion (λ t. t < 256) us → is_distinct (queued_numbers s.threads ++ us) ≡ true →
    IsLaid (IsPlaceAtStart s.cpus) s.cpus s.settings (queued_numbers s.threads ++ us) (fold with_unborn (fold laid (empty_world s) s.threads) us)
some_unborn s us small distinct =
    subst (λ ts. IsLaid (IsPlaceAtStart s.cpus) s.cpus s.settings (queued_numbers s.threads ++ ts) (fold with_unborn world us)) (map-id us)
    (put_all (λ (t : ℕ). t) with_unborn (IsLaid (IsPlaceAtStart s.cpus) s.cpus s.settings) (λ t. t < 256) (unborn_once s.cpus s.settings) (queued_numbers s.threads) world us small
    (ap (λ ts. is_distinct (queued_numbers s.threads ++ ts)) (map-id us) ∙ distinct) also)
  where
    world : World
    world = fold laid (empty_world s) s.threads

    all : IsLaid (IsQueuedBelow s.cpus) s.cpus s.settings (queued_numbers s.threads) world
    all = declared_laid s

    also : IsLaid (IsPlaceAtStart s.cpus) s.cpus s.settings (queued_numbers s.threads) world
    also = record {
      settings_are = all.settings_are;
      count = all.count;
      ids_are = all.ids_are;
      records = all.records;
      made = all.made;
      places = all_along (λ (m : Member). IsQueuedBelow s.cpus m.place) (λ m. IsPlaceAtStart s.cpus m.place) world.members (λ m is. queued_at_start s.cpus m.place is) all.places;
    }

-- the world with all declared threads laid and the first k unborn ones keeps what is kept while threads are laid
pub unborn_first_is : (s : Setup) (k : ℕ) → IsLaid (IsPlaceAtStart s.cpus) s.cpus s.settings (queued_numbers s.threads ++ take k s.unborn) (unborn_first s k)
unborn_first_is s k =
    some_unborn s (take k s.unborn) (all_take (λ t. t < 256) k s.unborn (good_numbers s).unborn)
    (distinct_front (queued_numbers s.threads ++ take k s.unborn) (drop k s.unborn)
    (ap is_distinct (append_assoc (queued_numbers s.threads) (take k s.unborn) (drop k s.unborn) ∙ ap (λ us. queued_numbers s.threads ++ us) (take-append-drop k s.unborn)) ∙ (setup_specs s).distinct))

-- the world at the start of a setup keeps what is kept while threads are laid
pub start_laid : (s : Setup) → IsLaid (IsPlaceAtStart s.cpus) s.cpus s.settings (declared_ids s.threads s.unborn) (world_at_start s)
start_laid s = some_unborn s s.unborn (good_numbers s).unborn (setup_specs s).distinct

-- ---- the next thread

-- the number of the next declared thread is new in the world in which those before it are laid
pub next_is_new : (s : Setup) (k : ℕ) (spec : ThreadSpec) → slice_get s.threads k ≡ Some spec → thread_of spec.id (laid_first s k).members ≡ None
next_is_new s k spec at =
    laid_new (IsQueuedBelow s.cpus) s.cpus s.settings (queued_numbers (take k s.threads)) (laid_first s k) spec.id
    (distinct_new (queued_numbers (take k s.threads)) spec.id (queued_numbers (drop (k + 1) s.threads))
    (ap is_distinct (sym (ap queued_numbers (parted_at s.threads k spec at) ∙ map-append (λ (x : ThreadSpec). x.id) (take k s.threads) (spec ∷ drop (k + 1) s.threads))) ∙ (good_numbers s).distinct))
    (laid_first_is s k)

-- the number of the next unborn thread is new in the world with those before it
pub next_unborn_is_new : (s : Setup) (k t : ℕ) → slice_get s.unborn k ≡ Some t → thread_of t (unborn_first s k).members ≡ None
next_unborn_is_new s k t at =
    laid_new (IsPlaceAtStart s.cpus) s.cpus s.settings (queued_numbers s.threads ++ take k s.unborn) (unborn_first s k) t
    (distinct_new (queued_numbers s.threads ++ take k s.unborn) t (drop (k + 1) s.unborn)
    (ap is_distinct (append_assoc (queued_numbers s.threads) (take k s.unborn) (t ∷ drop (k + 1) s.unborn) ∙ ap (λ us. queued_numbers s.threads ++ us) (sym (parted_at s.unborn k t at))) ∙ (setup_specs s).distinct))
    (unborn_first_is s k)

-- ---- hands

-- threads of which none is in a hand
abbrev pub AreFree : List Member → Type 0
AreFree ms = AllByRecursion (λ m. hand_of m.place ≡ None) ms

-- no place of a thread at the start is a hand
pub no_hand : (cpus : ℕ) (place : Place) → IsPlaceAtStart cpus place → hand_of place ≡ None
no_hand cpus (Running c) is = absurd is
no_hand cpus (Queued c k b) is = refl
no_hand cpus (Asleep channel) is = absurd is
no_hand cpus Unborn is = refl
no_hand cpus Gone is = absurd is
no_hand cpus (Hand w) is = absurd is

-- at the start of a setup no thread is in a hand
pub start_free : (s : Setup) → AreFree (world_at_start s).members
start_free s =
    all_along (λ (m : Member). IsPlaceAtStart s.cpus m.place) (λ m. hand_of m.place ≡ None) (world_at_start s).members (λ m is. no_hand s.cpus m.place is) (start_laid s).places

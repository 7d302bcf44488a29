-- The calendar promise of any entries that a calm world can make: of each world, of each entry, and of each stretch of a
-- thread that stays in its bucket.
use Rattle.std.proofs.Common.{◌≡◌, ◌≢◌, ℕ, ◌+◌, ◌<◌, ◌≤◌, ◌==◌, Bool, true, false, List, [], ◌∷◌, ◌++◌, length, Some, if◌then◌else◌, ⊎_elim, refl, sym, ◌∙◌, ap, subst, arith}
use Rattle.std.specs.List.{AllByRecursion}
use Rattle.std.proofs.lemmas.Bool.{and_parts, eqb-true}
use Rattle.ule_prio.specs.declared.kind.Kind.TheVariants.{Batch}
use Rattle.ule_types.specs.declared.event.Entry.{Entry}
use Rattle.ule_types.specs.declared.event.Reply.{Reply}
use Rattle.ule_model.specs.CalendarIndexes.{distance_of}
use Rattle.ule_model.specs.CalendarPromise.{AllHaveCloseIndexes, ChoosesNoFarther, GoesByOne, HasCalendarPromise, IsInBucket, IsStretch, JoinsNext, KeepsCalendars, KeepsStretch, goes_next, insertion_advances, is_tick_of, is_turning, lead_of, numbers_on, removal_advances, takes_up, turning_ticks}
use Rattle.ule_model.specs.Insertion.{members_in}
use Rattle.ule_model.specs.Legal.{IsEntryOf, IsReplayed, after_entry, replayed}
use Rattle.ule_model.specs.Throughout.{HoldsOfEach, HoldsThroughout}
use Rattle.ule_model.specs.World.{World}
use Rattle.ule_members.proofs.CalendarSteps.{StepPicks, step_passes, step_picks, turning_goes_on}
use Rattle.ule_members.proofs.CalendarParts.{CpuPassage, IsCalm, entry_by}
use Rattle.ule_members.proofs.CalendarPlaces.{FindsEach, filed_found, filed_from, filed_itself, filed_at, filing_of, in_bucket_from, waits_where_filed}
use Rattle.ule_members.proofs.CalendarRules.{IsClose, Passage, close_after, insertion_by_one, lead_after, removal_by_one, stays_nearer}
use Rattle.ule_members.proofs.Membership.{has-filter, has_none, has_thread_of}
use Rattle.ule_members.proofs.Steps.{step_leaves_rest}
use Rattle.ule_members.proofs.Within.{all_back, all_front}
use Rattle.ule_model.specs.Places.{waits_in}

-- ---- what an entry makes

-- what an entry that the world can make makes of the calendars
pub record EntryPasses (w : World) (e : Entry) : Type 0 where
  pub finds : FindsEach (after_entry w e).members
  pub passes : (c : ℕ) → CpuPassage (λ t. takes_up t e) (λ t. goes_next t e) c w (after_entry w e)

-- each entry that the world can make passes
pub entry_passes : (w : World) (e : Entry) → IsCalm w → IsEntryOf w e → EntryPasses w e
entry_passes w e calm is =
    let made = step_passes w e.worker e.event e.now calm is.thread in record {
      finds = made.finds;
      passes = λ c. subst (λ (r : Reply). CpuPassage (λ t. takes_up t (entry_by e.worker e.event e.now r)) (λ t. goes_next t (entry_by e.worker e.event e.now r)) c w (after_entry w e))
          (sym is.reply) (made.passes c);
    }

-- an entry leaves the world calm
pub entry_calm : (w : World) (e : Entry) → IsCalm w → IsEntryOf w e → IsCalm (after_entry w e)
entry_calm w e calm is =
    let made = entry_passes w e calm is in record {
      finds = made.finds;
      close = λ c. close_after (λ t. takes_up t e) (λ t. goes_next t e) (numbers_on c w).idx (numbers_on c w).ridx (numbers_on c (after_entry w e)).idx (numbers_on c (after_entry w e)).ridx
          (filing_of c w.members) (filing_of c (after_entry w e).members) (calm.close c) (made.passes c);
    }

-- an entry chooses none from farther away than the bucket of a thread that stands in the calendar
pub entry_picks : (c t b : ℕ) (w : World) → IsCalm w → filing_of c w.members t ≡ Some b → (e : Entry) → IsEntryOf w e → ChoosesNoFarther c b w e
entry_picks c t b w calm stands e is =
    subst (λ (r : Reply). StepPicks c b w e.worker e.event e.now r) (sym is.reply) (step_picks c t b w calm stands e.worker e.event e.now is.thread)

-- ---- each world

-- a calm world has close indexes on each CPU
pub calm_close : (w : World) → IsCalm w → AllHaveCloseIndexes w
calm_close w calm c = record { lead = close.lead; some = λ one. some (close.some one) }
  where
    close : IsClose (numbers_on c w).idx (numbers_on c w).ridx (filing_of c w.members)
    close = calm.close c

    some : (t : ℕ) × (filing_of c w.members t ≡ Some (numbers_on c w).ridx) → members_in c Batch (numbers_on c w).ridx w.members ≢ []
    some one empty =
        let filed = filed_found c (numbers_on c w).ridx one.0 w.members one.1 in
        has_none filed.member (members_in c Batch (numbers_on c w).ridx w.members) empty
        (has-filter (λ x. waits_in c Batch (numbers_on c w).ridx x.place) filed.member w.members (has_thread_of one.0 filed.member w.members filed.found).0
        (waits_where_filed c (numbers_on c w).ridx filed.member.place (ap (filed_at c) filed.place ∙ filed_itself c (numbers_on c w).ridx)))

-- each world of a history that begins calm
pub worlds_close : (w : World) (es : List Entry) → IsCalm w → IsReplayed w es → HoldsThroughout AllHaveCloseIndexes w es
unfolding HoldsThroughout IsReplayed
worlds_close w [] calm made = calm_close w calm
worlds_close w (e ∷ es) calm made = (calm_close w calm, worlds_close (after_entry w e) es (entry_calm w e calm made.0) made.1)

-- a history that begins calm is calm at its end
pub replayed_calm : (w : World) (es : List Entry) → IsCalm w → IsReplayed w es → IsCalm (replayed w es)
unfolding IsReplayed replayed
replayed_calm w [] calm made = calm
replayed_calm w (e ∷ es) calm made = replayed_calm (after_entry w e) es (entry_calm w e calm made.0) made.1

-- ---- each entry

module _ (w : World) (e : Entry) (calm : IsCalm w) (is : IsEntryOf w e) (c : ℕ) where
  -- what the entry makes of the calendar of CPU c
  passage : Passage (λ t. takes_up t e) (λ t. goes_next t e) (numbers_on c w).idx (numbers_on c w).ridx (numbers_on c (after_entry w e)).idx (numbers_on c (after_entry w e)).ridx
      (filing_of c w.members) (filing_of c (after_entry w e).members)
  passage = (entry_passes w e calm is).passes c

  -- an entry brings the indexes on by one at most
  pub entry_by_one : GoesByOne c w e
  unfolding passage
  entry_by_one = record {
    insertion = insertion_by_one (numbers_on c w).idx (numbers_on c w).ridx (numbers_on c (after_entry w e)).idx (numbers_on c (after_entry w e)).ridx
        (filing_of c w.members) passage.between (calm.close c) passage.rule;
    removal = removal_by_one (numbers_on c w).idx (numbers_on c w).ridx (numbers_on c (after_entry w e)).idx (numbers_on c (after_entry w e)).ridx
        (filing_of c w.members) passage.between (calm.close c) passage.rule;
  }

  -- while the indexes differ, none joins the bucket at the removal index but one that goes next
  pub entry_joins : JoinsNext c w e
  entry_joins apart t before after =
      ⊎_elim
      (λ (old : filing_of c w.members t ≡ Some (numbers_on c w).ridx). absurd (before (in_bucket_from c (numbers_on c w).ridx t w.members old)))
      (λ (new : ((numbers_on c w).ridx < 64) × ((numbers_on c w).idx ≢ (numbers_on c w).ridx → (numbers_on c w).ridx ≡ (numbers_on c w).ridx → goes_next t e ≡ true)). new.1 apart refl)
      (passage.came t (numbers_on c w).ridx (filed_from c (numbers_on c w).ridx t (after_entry w e).members after))

  -- the bucket of a thread that stays comes nearer by as many buckets as the removal index goes on
  pub entry_nearer : (t b : ℕ) → IsInBucket c b t w.members → IsInBucket c b t (after_entry w e).members → takes_up t e ≡ false →
      distance_of (numbers_on c (after_entry w e)).ridx b + distance_of (numbers_on c w).ridx (numbers_on c (after_entry w e)).ridx ≡ distance_of (numbers_on c w).ridx b
  entry_nearer t b before after left =
      stays_nearer (λ u. takes_up u e) (λ u. goes_next u e) (numbers_on c w).idx (numbers_on c w).ridx (numbers_on c (after_entry w e)).idx (numbers_on c (after_entry w e)).ridx t b
      (filing_of c w.members) (filing_of c (after_entry w e).members) (calm.close c) passage (filed_from c b t w.members before) (filed_from c b t (after_entry w e).members after) left

  -- the lead of the insertion index is what it was, and what each index went on
  pub entry_lead : lead_of (numbers_on c (after_entry w e)) + distance_of (numbers_on c w).ridx (numbers_on c (after_entry w e)).ridx ≡
      lead_of (numbers_on c w) + distance_of (numbers_on c w).idx (numbers_on c (after_entry w e)).idx
  entry_lead =
      let old = calm.close c in
      let new = (entry_calm w e calm is).close c in
      lead_after (numbers_on c w).idx (numbers_on c w).ridx (numbers_on c (after_entry w e)).idx (numbers_on c (after_entry w e)).ridx old.insertion old.removal new.insertion new.removal
      old.lead new.lead entry_by_one.insertion entry_by_one.removal

-- each entry of a history that begins calm
pub entries_keep : (w : World) (es : List Entry) → IsCalm w → IsReplayed w es → HoldsOfEach KeepsCalendars w es
unfolding HoldsOfEach IsReplayed
entries_keep w [] calm made = tt
entries_keep w (e ∷ es) calm made = (
  record { by_one = λ c. entry_by_one w e calm made.0 c; joins = λ c. entry_joins w e calm made.0 c },
  entries_keep (after_entry w e) es (entry_calm w e calm made.0) made.1,
)

-- ---- ticks

-- an entry that is a tick is of a CPU that is there
abbrev pub IsTickOfSome : ℕ → Entry → Type 0
IsTickOfSome count e = (c : ℕ) → is_tick_of c e.event ≡ true → c < count

-- an entry leaves how many CPUs there are
pub entry_count : (w : World) (e : Entry) → length (after_entry w e).lines ≡ length w.lines
entry_count w e = (step_leaves_rest w e.worker e.event e.now).count

-- a turning tick is an advance of the insertion index
turn_advances : (c : ℕ) (w : World) (e : Entry) → IsCalm w → IsTickOfSome (length w.lines) e →
    (if is_turning c w e then 1 else 0) ≤ distance_of (numbers_on c w).idx (numbers_on c (after_entry w e)).idx
turn_advances c w e calm there = split (is_turning c w e) refl
  where
    split : (b : Bool) → is_turning c w e ≡ b → (if b then 1 else 0) ≤ distance_of (numbers_on c w).idx (numbers_on c (after_entry w e)).idx
    split false is = omega arith
    split true is =
        let parts = and_parts (is_tick_of c e.event) ((numbers_on c w).idx == (numbers_on c w).ridx) is in
        let one = turning_goes_on w e.worker e.now c calm (eqb-true (numbers_on c w).idx (numbers_on c w).ridx parts.1) e.event parts.0 (there c parts.0) in
        omega arith

-- ---- stretches

-- a stretch begins with the thread in its bucket
stretch_begins : (c b t : ℕ) (w : World) (es : List Entry) → IsStretch c b t w es → IsInBucket c b t w.members
unfolding IsStretch
stretch_begins c b t w [] stretch = stretch
stretch_begins c b t w (e ∷ es) stretch = stretch.0

-- what the entries of a stretch sum up to
record SumsUp (c b : ℕ) (w : World) (es : List Entry) : Type 0 where
  nearer : distance_of (numbers_on c (replayed w es)).ridx b + removal_advances c w es ≡ distance_of (numbers_on c w).ridx b
  lead : lead_of (numbers_on c (replayed w es)) + removal_advances c w es ≡ lead_of (numbers_on c w) + insertion_advances c w es
  turns : turning_ticks c w es ≤ insertion_advances c w es
  choices : HoldsOfEach (ChoosesNoFarther c b) w es

-- they sum up so
sums_up : (c b t count : ℕ) (w : World) (es : List Entry) → IsCalm w → IsReplayed w es → length w.lines ≡ count → AllByRecursion (IsTickOfSome count) es →
    IsStretch c b t w es → SumsUp c b w es
unfolding IsStretch IsReplayed HoldsOfEach replayed removal_advances insertion_advances turning_ticks
sums_up c b t count w [] calm made is there stretch = record { nearer = omega arith; lead = omega arith; turns = omega arith; choices = tt }
sums_up c b t count w (e ∷ es) calm made is there stretch =
    let rest : SumsUp c b (after_entry w e) es =
    sums_up c b t count (after_entry w e) es (entry_calm w e calm made.0) made.1 (entry_count w e ∙ is) there.1 stretch.2 in
    let near = entry_nearer w e calm made.0 c t b stretch.0 (stretch_begins c b t (after_entry w e) es stretch.2) stretch.1 in
    let lead = entry_lead w e calm made.0 c in
    let turn = turn_advances c w e calm (subst (λ (n : ℕ). IsTickOfSome n e) (sym is) there.0) in
    let a = rest.nearer in let b = rest.lead in let d = rest.turns in
    record {
      nearer = omega arith;
      lead = omega arith;
      turns = omega arith;
      choices = (entry_picks c t _ w calm (filed_from c _ t w.members stretch.0) e made.0, rest.choices);
    }

-- each stretch keeps its part of the promise
pub stretch_keeps : (c b t count : ℕ) (w : World) (es : List Entry) → IsCalm w → IsReplayed w es → length w.lines ≡ count → AllByRecursion (IsTickOfSome count) es →
    IsStretch c b t w es → KeepsStretch c b w es
stretch_keeps c b t count w es calm made is there stretch =
    let sums : SumsUp c b w es = sums_up c b t count w es calm made is there stretch in
    let near = sums.nearer in let lead = sums.lead in let turns = sums.turns in
    let end = ((replayed_calm w es calm made).close c).lead in
    record {
      nearer = sums.nearer;
      insertions = omega arith;
      turns = omega arith;
      within_round = omega arith;
      choices = sums.choices;
    }

-- ---- a part of a history

-- what begins a history that the world can make
replayed_front : (w : World) (es fs : List Entry) → IsReplayed w (es ++ fs) → IsReplayed w es
unfolding IsReplayed
replayed_front w [] fs made = tt
replayed_front w (e ∷ es) fs made = (made.0, replayed_front (after_entry w e) es fs made.1)

-- what ends it
replayed_back : (w : World) (es fs : List Entry) → IsReplayed w (es ++ fs) → IsReplayed (replayed w es) fs
unfolding IsReplayed replayed
replayed_back w [] fs made = made
replayed_back w (e ∷ es) fs made = replayed_back (after_entry w e) es fs made.1

-- entries leave how many CPUs there are
replayed_count : (w : World) (es : List Entry) → length (replayed w es).lines ≡ length w.lines
unfolding replayed
replayed_count w [] = refl
replayed_count w (e ∷ es) = replayed_count (after_entry w e) es ∙ entry_count w e

-- entries that a calm world can make keep the calendar promise, where each tick is of a CPU that is there
pub promise_kept : (w : World) (es : List Entry) → IsCalm w → IsReplayed w es → AllByRecursion (IsTickOfSome (length w.lines)) es → HasCalendarPromise w es
promise_kept w es calm made there = record {
  worlds = worlds_close w es calm made;
  entries = entries_keep w es calm made;
  stretches = λ before within after is c b t stretch.
      let all : IsReplayed w (before ++ within ++ after) = subst (IsReplayed w) (sym is) made in
      let ticks : AllByRecursion (IsTickOfSome (length w.lines)) (before ++ within ++ after) = subst (AllByRecursion (IsTickOfSome (length w.lines))) (sym is) there in
      let first : IsReplayed w (before ++ within) = replayed_front w (before ++ within) after all in
      stretch_keeps c b t (length w.lines) (replayed w before) within (replayed_calm w before calm (replayed_front w before within first))
      (replayed_back w before within first) (replayed_count w before)
      (all_back (IsTickOfSome (length w.lines)) before within (all_front (IsTickOfSome (length w.lines)) (before ++ within) after ticks)) stretch;
}

-- What a step keeps of the records and of the calendars of each world that the scheduler shows.
use Rattle.std.proofs.Common.{◌≡◌, ◌≢◌, ℕ, ◌<◌, ◌==◌, false, ◌&&◌, List, [], ◌∷◌, length, Some, IsTrue, refl, subst, arith}
use Rattle.std.specs.Prelude.{nat_le}
use Rattle.std.proofs.lemmas.Bool.{and_parts, leb-true, ne_eqb}
use Rattle.ule_prio.specs.declared.kind.Kind.TheVariants.{Batch}
use Rattle.ule_score.specs.Changes.{HasSlice}
use Rattle.ule_score.specs.Settings.{are_settings}
use Rattle.ule_prio.specs.Class.{is_within}
use Rattle.ule_score.specs.declared.record.CpuLine.{CpuLine}
use Rattle.ule_score.specs.declared.record.Settings.{Settings}
use Rattle.ule_types.specs.declared.event.Entry.{Entry}
use Rattle.ule_model.specs.CalendarPromise.{numbers_on}
use Rattle.ule_model.specs.Conditions.{IsPossible}
use Rattle.ule_model.specs.Events.{handling}
use Rattle.ule_model.specs.History.{KeepsRecords}
use Rattle.ule_model.specs.Insertion.{members_in}
use Rattle.ule_model.specs.Legal.{IsEntryOf, after_entry}
use Rattle.ule_model.specs.Step.{step}
use Rattle.ule_model.specs.WellMade.{IsMade, IsPlace, IsWellMadeWorld}
use Rattle.ule_model.specs.World.{Member, World, fresh_line}
use Rattle.ule_model.specs.WorldValue.{Shows, Steps, WorldValue}
use Rattle.ule_members.proofs.CalendarParts.{IsCalm}
use Rattle.ule_members.proofs.CalendarPlaces.{filed_found, filed_from, filing_of, made_finds, some_filed}
use Rattle.ule_members.proofs.CalendarStretches.{calm_close, entry_by_one, entry_calm, entry_joins, entry_nearer, entry_picks}
use Rattle.ule_members.proofs.Membership.{all_has, has_thread_of}
use Rattle.ule_members.proofs.Numbered.{step_bounds}
use Rattle.ule_members.proofs.Rest.{all_at}
use Rattle.ule_courses.proofs.Hands.{handled_thread}
use Rattle.ule_seq.specs.Promises.{HasCalendars, KeepsCalendarPromise, KeepsPromises}

-- ---- the records

-- settings in range have a slice in range
settings_slice : (s : Settings) → IsTrue (are_settings s) → HasSlice s
settings_slice s ranges =
    let interact = is_within 1 100 s.interact in
    let length_of = is_within 6 1000 s.slice in
    let three = and_parts (interact && length_of && is_within 0 255 s.preempt) (is_within 1 64 s.steal) ranges in
    let two = and_parts (interact && length_of) (is_within 0 255 s.preempt) three.0 in
    let slice = and_parts interact length_of two.0 in
    let both = and_parts (nat_le 6 s.slice) (nat_le s.slice 1000) slice.1 in
    record { low = leb-true 6 s.slice both.0; high = leb-true s.slice 1000 both.1 }

-- each record stays in its bounds
records_kept : (v : WorldValue) (e : Entry) (w : World) → IsTrue (are_settings v.settings) → Shows v w → IsPossible w e.worker e.event e.now →
    KeepsRecords w → KeepsRecords (after_entry w e)
records_kept v e w ranges shows possible all =
    step_bounds w e.worker e.event e.now (record { members = shows.made; indexes = shows.indexes }) possible
    (settings_slice w.settings (subst (λ (s : Settings). IsTrue (are_settings s)) shows.settings ranges)) all

-- ---- the calendars

-- a bucket that isn't empty has a thread
some_in : (xs : List Member) → xs ≢ [] → (length xs == 0) ≡ false
some_in [] some = absurd (some refl)
some_in (x ∷ xs) some = ne_eqb (length (x ∷ xs)) 0 (λ e. cc)

-- a well-made world whose calendars are in order is calm
calm_from : (w : World) → IsWellMadeWorld w → HasCalendars w → IsCalm w
calm_from w made has = record {
  finds = made_finds w.members made.members;
  close = λ c. record {
    insertion = has.buckets c;
    removal = all_at (λ (line : CpuLine). line.ridx < 64) w.lines c fresh_line made.indexes (omega arith);
    lead = (has.close c).lead;
    some = λ one. some c ((has.close c).some one);
    filed = λ t b is. in_place c b t is;
  };
}
  where
    some : (c : ℕ) → members_in c Batch (numbers_on c w).ridx w.members ≢ [] → (t : ℕ) × (filing_of c w.members t ≡ Some (numbers_on c w).ridx)
    some c stands =
        let found =
        some_filed c (numbers_on c w).ridx w.members w.members (made_finds w.members made.members) (λ m has_m. has_m)
        (some_in (members_in c Batch (numbers_on c w).ridx w.members) stands) in
        (found.0.thread.id, found.1.1)

    in_place : (c b t : ℕ) → filing_of c w.members t ≡ Some b → b < 64
    in_place c b t is =
        let filed = filed_found c b t w.members is in
        let own : IsMade filed.member = all_has IsMade filed.member w.members made.members.each (has_thread_of t filed.member w.members filed.found).0 in
        subst IsPlace filed.place own.place

-- a calm world has its calendars in order
in_order_from : (w : World) → IsCalm w → HasCalendars w
in_order_from w calm = record { buckets = λ c. (calm.close c).insertion; close = calm_close w calm }

-- an entry keeps the calendar promise
calendars_kept : (v : WorldValue) (e : Entry) (w : World) → Shows v w → IsPossible w e.worker e.event e.now → e.reply ≡ (step w e.worker e.event e.now).1 →
    HasCalendars w → KeepsCalendarPromise w e
calendars_kept v e w shows possible reply has = record {
  in_order = in_order_from (after_entry w e) (entry_calm w e calm is);
  indexes = record { by_one = λ c. entry_by_one w e calm is c; joins = λ c. entry_joins w e calm is c };
  nearer = λ c t b before after left. entry_nearer w e calm is c t b before after left;
  nearest = λ c b t stands. entry_picks c t b w calm (filed_from c b t w.members stands) e is;
}
  where
    calm : IsCalm w
    calm = calm_from w (record { members = shows.made; indexes = shows.indexes }) has

    is : IsEntryOf w e
    is = record { ready = possible.ready; thread = handled_thread w e.worker (handling e.event) possible.hand; reply = reply }

-- ---- both

-- what a step keeps
pub promises_kept : (old new : WorldValue) (e : Entry) → IsTrue (are_settings old.settings) → Steps old e.worker e.event e.now new e.reply → KeepsPromises old e
promises_kept old new e ranges steps = record {
  records = λ w shows possible all. records_kept old e w ranges shows possible all;
  calendars = λ w shows possible has. calendars_kept old e w shows possible (steps w shows possible).1 has;
}

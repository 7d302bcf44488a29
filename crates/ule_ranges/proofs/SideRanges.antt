-- What the parts of an action keep of a side in the ranges of a trace: one lemma a part, and one induction.
use Rattle.std.proofs.Common.{◌≡◌, ℕ, ◌<◌, ◌≤◌, ◌^◌, ◌+◌, ◌-◌, ◌*◌, ◌%◌, ◌==◌, pos, ℤ, true, false, List, [], ◌∷◌, length, map, Option, Some, None, if◌then◌else◌, refl, sym, subst, arith}
use Rattle.std.specs.Prelude.{IfSome}
use Rattle.std.specs.List.{AllByRecursion}
use Rattle.std.proofs.lemmas.Bool.{cond_both}
use Rattle.std.proofs.lemmas.List.{length-map}
use Rattle.std.proofs.lemmas.List.Sums.{count_by-le-length}
use Rattle.ule_prio.specs.declared.kind.Kind.TheVariants.{Real, Batch, Idle}
use Rattle.ule_history.specs.CpuUseUpdate.{updated_use}
use Rattle.ule_history.specs.HistoryUpdate.{charged_history, rested_history}
use Rattle.ule_prio.specs.declared.class.Class.{Class}
use Rattle.ule_prio.specs.declared.class.Class.TheVariants as class
use Rattle.ule_prio.specs.declared.class.Class.TheVariants.{Ithd, Rt, Fifo, Ts}
use Rattle.ule_score.specs.Bounds.{with_history, with_use}
use Rattle.ule_score.specs.Changes.{RecordChange, changed, charged_in, child_of, forked, forks, placed, ran, rebased, rebased_in, record_after, rested, runs, sleeps, tick_length, ticked, used, woken}
use Rattle.ule_score.specs.declared.record.Change.TheVariants.{Lend, Unlend, Renice, Inherit}
use Rattle.ule_score.specs.declared.record.ThreadRecord.{ThreadRecord}
use Rattle.ule_score.specs.declared.place.Place.{Place}
use Rattle.ule_score.specs.declared.place.Place.TheVariants.{Running, Queued, Asleep, Unborn, Gone, Hand}
use Rattle.ule_score.specs.declared.record.CpuLine.{CpuLine}
use Rattle.ule_score.specs.declared.record.Settings.{Settings}
use Rattle.ule_score.proofs.ChangeLaws.{change_number}
use Rattle.ule_model.specs.Action.{Part, choose, clear_marks, clock, count_switch, end_slice_if, insert, leaving, mark_if, move, note, part_done, parts_done}
use Rattle.ule_model.specs.CalendarIndexes.{idx_after_turn}
use Rattle.ule_model.specs.Choice.{choice_of}
use Rattle.ule_model.specs.Insertion.{order_of_insertion, place_of_insertion, queued, with_queued}
use Rattle.ule_model.specs.Places.{is_on}
use Rattle.ule_model.specs.declared.insertion.Insertion.{Insertion}
use Rattle.ule_model.specs.Switch.{after_leaving, choosing_next, running_chosen}
use Rattle.ule_model.specs.Start.{balance_count, stepped_word}
use Rattle.ule_model.specs.Tick.{balance_after_tick, is_due}
use Rattle.ule_model.specs.World.{Member, Side, is_numbered, moved_to, others, thread_of, with_change}
use Rattle.ule_members.proofs.Membership.{all_has}
use Rattle.ule_members.proofs.Moves.{choice_stands}
use Rattle.ule_members.proofs.PartRest.{part_kept}
use Rattle.ule_members.proofs.Rest.{after_leaving_within}
use Rattle.ule_trace.specs.Ranges.{CpuFits, IsThreadIfAny}

-- ---- lent priorities

-- the priority that is lent to a thread, if one is, and that which a change lends
abbrev pub IsLentInRange : ThreadRecord → Type 0
IsLentInRange r = IfSome r.lent (λ p. p < 256)

abbrev pub LendsInRange : RecordChange → Type 0
LendsInRange (changed (Lend p)) = p < 256
LendsInRange change = Unit {0}

-- a base priority computed anew leaves the lent one
rebased_in_lent : (k : Class) (settings : Settings) (r : ThreadRecord) → (rebased_in k settings r).lent ≡ r.lent
rebased_in_lent Ts settings r = refl
rebased_in_lent Ithd settings r = refl
rebased_in_lent Rt settings r = refl
rebased_in_lent Fifo settings r = refl
rebased_in_lent class.Idle settings r = refl

-- so it stays in range
rebased_lent : (settings : Settings) (r : ThreadRecord) → IsLentInRange r → IsLentInRange (rebased settings r)
rebased_lent settings r small = subst (λ o. IfSome o (λ p. p < 256)) (sym (rebased_in_lent r.class settings r)) small

-- the time slept leaves it
rested_lent : (now : ℕ) (r : ThreadRecord) → IsLentInRange r → IsLentInRange (rested now r)
rested_lent now r small =
    cond_both (now == r.slept_at) r (with_use (with_history r (rested_history r.hist (1024 * (now - r.slept_at)))) (updated_use r.usage now false)) IsLentInRange (λ same. small)
    (λ other. small)

-- a tick leaves it
charged_in_lent : (k : Class) (settings : Settings) (load : ℕ) (r : ThreadRecord) → IsLentInRange r → IsLentInRange (charged_in k settings load r).0
charged_in_lent Ts settings load r small = rebased_lent settings (with_history r (charged_history r.hist tick_length)) small
charged_in_lent Ithd settings load r small = small
charged_in_lent Rt settings load r small = small
charged_in_lent Fifo settings load r small = small
charged_in_lent class.Idle settings load r small = small

-- a change that lends a priority in range leaves the lent one in range
change_lends : (settings : Settings) (now : ℕ) (change : RecordChange) (r : ThreadRecord) → LendsInRange change → IsLentInRange r → IsLentInRange (record_after settings now change r)
change_lends settings now ran r lends small = small
change_lends settings now runs r lends small = small
change_lends settings now sleeps r lends small = small
change_lends settings now woken r lends small = rebased_lent settings (record (rested now r) { slice_count = 0; slept_at = 0 }) (rested_lent now r small)
change_lends settings now (ticked load) r lends small = charged_in_lent r.class settings load (used true now r) small
change_lends settings now (placed c) r lends small = small
change_lends settings now (changed (Lend p)) r lends small = lends
change_lends settings now (changed Unlend) r lends small = tt
change_lends settings now (changed (Renice n)) r lends small = rebased_lent settings (record r { nice = n }) small
change_lends settings now (changed (Inherit run)) r lends small = rebased_lent settings (with_history r (charged_history r.hist run)) small
change_lends settings now forks r lends small = rebased_lent settings (with_history (used true now r) (charged_history r.hist tick_length)) small
change_lends settings now (forked parent c load) r lends small = subst (λ o. IfSome o (λ p. p < 256)) (sym (free parent)) tt
  where
    free : (parent : ThreadRecord) → (child_of settings now parent c load r).lent ≡ None
    free parent = rebased_in_lent parent.class settings _

-- ---- threads

-- the CPU, the worker or the channel of a place
abbrev pub IsPlaceInRange : Place → Type 0
IsPlaceInRange (Running c) = c < 16
IsPlaceInRange (Queued c k b) = c < 16
IsPlaceInRange (Asleep channel) = channel < 65536
IsPlaceInRange Unborn = Unit {0}
IsPlaceInRange Gone = Unit {0}
IsPlaceInRange (Hand w) = w < 16

-- a thread whose number, place and lent priority are in range
pub record IsThreadInRange (m : Member) : Type 0 where
  pub number : m.thread.id < 256
  pub place : IsPlaceInRange m.place
  pub lent : IsLentInRange m.thread

-- a side in range
pub record IsSideInRange (s : Side) : Type 0 where
  pub line : CpuFits s.line
  pub members : AllByRecursion IsThreadInRange s.members
  pub few : length s.members ≤ 256

-- where a part on lock l brings a thread is in range
abbrev pub IsPartInRange : ℕ → Part → Type 0
IsPartInRange l (move t from to) = IsPlaceInRange to
IsPartInRange l (insert t from how) = l < 16
IsPartInRange l (note t place change) = LendsInRange change
IsPartInRange l choose = l < 16
IsPartInRange l p = Unit {0}

-- what a change of some threads keeps of each
all_map : (f : Member → Member) (ms : List Member) → ((m : Member) → IsThreadInRange m → IsThreadInRange (f m)) → AllByRecursion IsThreadInRange ms → AllByRecursion IsThreadInRange (map f ms)
all_map f [] keeps all = tt
all_map f (m ∷ ms) keeps all = (keeps m all.0, all_map f ms keeps all.1)

-- a changed record
noted_ranges : (settings : Settings) (now t : ℕ) (change : RecordChange) (ms : List Member) → LendsInRange change → AllByRecursion IsThreadInRange ms → AllByRecursion IsThreadInRange (with_change settings now t change ms)
noted_ranges settings now t change ms lends all =
    all_map (λ m. if is_numbered t m then record m { thread = record_after settings now change m.thread } else m) ms
    (λ m is. cond_both (is_numbered t m) (record m { thread = record_after settings now change m.thread }) m IsThreadInRange
    (λ here. record { number = subst (λ i. i < 256) (sym (change_number settings now change m.thread)) is.number; place = is.place; lent = change_lends settings now change m.thread lends is.lent }) (λ other. is)) all

-- another place
pub moved_ranges : (t : ℕ) (to : Place) (order : ℤ) (ms : List Member) → IsPlaceInRange to → AllByRecursion IsThreadInRange ms → AllByRecursion IsThreadInRange (moved_to t to order ms)
moved_ranges t to order ms there all =
    all_map (λ m. if is_numbered t m then record m { place = to; order = order } else m) ms
    (λ m is. cond_both (is_numbered t m) (record m { place = to; order = order }) m IsThreadInRange (λ here. record { number = is.number; place = there; lent = is.lent }) (λ other. is)) all

-- ---- the numbers of a CPU

-- after a thread left a place
left_fits : (place : Place) (c : ℕ) (line : CpuLine) (rest : List Member) → CpuFits line → (after_leaving place c line rest).ridx < 64 → CpuFits (after_leaving place c line rest)
left_fits (Queued d Real b) c line rest fits index = fits
left_fits (Queued d Batch b) c line rest fits index = record { idx = fits.idx; ridx = index; switches = fits.switches; old_switches = fits.old_switches; balance = fits.balance }
left_fits (Queued d Idle b) c line rest fits index = fits
left_fits (Running d) c line rest fits index = fits
left_fits (Asleep channel) c line rest fits index = fits
left_fits Unborn c line rest fits index = fits
left_fits Gone c line rest fits index = fits
left_fits (Hand w) c line rest fits index = fits

-- the insertion index after a turn
idx_small : (idx ridx : ℕ) → idx < 64 → idx_after_turn idx ridx < 64
idx_small idx ridx small = cond_both (idx == ridx) ((idx + 1) % 64) idx (λ i. i < 64) (λ same. omega arith) (λ other. small)

-- the balance count after a tick
balance_small : (c balance word : ℕ) → balance < 2 ^ 64 → balance_after_tick c balance word < 2 ^ 64
balance_small c balance word small =
    cond_both (is_due c balance) (balance_count (stepped_word word)) (if c == 0 then balance - 1 else balance) (λ n. n < 2 ^ 64) (λ due. omega arith)
    (λ later. cond_both (c == 0) (balance - 1) balance (λ n. n < 2 ^ 64) (λ first. omega arith) (λ other. small))

-- ---- one lemma a part

-- as many threads after a change of a record
noted_few : (settings : Settings) (now t : ℕ) (change : RecordChange) (ms : List Member) → length ms ≤ 256 → length (with_change settings now t change ms) ≤ 256
noted_few settings now t change ms few =
    omega (arith, few, length-map ms (λ (m : Member). if is_numbered t m then record m { thread = record_after settings now change m.thread } else m))

-- as many threads after a move
moved_few : (t : ℕ) (to : Place) (order : ℤ) (ms : List Member) → length ms ≤ 256 → length (moved_to t to order ms) ≤ 256
moved_few t to order ms few = omega (arith, few, length-map ms (λ (m : Member). if is_numbered t m then record m { place = to; order = order } else m))

-- a thread leaves a place
leaving_ranges : (from : Place) (c t : ℕ) (s : Side) → IsSideInRange s → IsSideInRange (leaving from c t s)
leaving_ranges from c t s ranges = record {
  line = left_fits from c s.line (others t s.members) ranges.line (after_leaving_within from c s.line (others t s.members) ranges.line.ridx);
  members = ranges.members;
  few = ranges.few;
}

-- a thread is queued
queued_ranges : (how : Insertion) (c t : ℕ) (s : Side) → c < 16 → IsSideInRange s → IsSideInRange (queued how c t s)
queued_ranges how c t s there ranges = split (thread_of t s.members)
  where
    split : (o : Option Member) → IsSideInRange (with_queued how c o s)
    split None = ranges
    split (Some m) =
        let to : Place = place_of_insertion how c s.line m.thread.priority in
        let order : ℤ = order_of_insertion how c s.line m.thread.priority (others m.thread.id s.members) in record {
          line = ranges.line;
          members = moved_ranges m.thread.id to order s.members there ranges.members;
          few = moved_few m.thread.id to order s.members ranges.few;
        }

-- a side in range, and the number of the thread that was chosen
abbrev pub IsChosenInRange : Side × Option ℕ → Type 0
IsChosenInRange at = IsSideInRange at.0 × IsThreadIfAny at.1

-- the next thread is chosen
chosen_ranges : (c now : ℕ) (s : Side) → c < 16 → IsSideInRange s → IsChosenInRange (choosing_next c now s)
chosen_ranges c now s there ranges = split (choice_of c s.line.ridx s.members) refl
  where
    split : (o : Option Member) → choice_of c s.line.ridx s.members ≡ o → IsChosenInRange (running_chosen c now o s)
    split None found = (ranges, tt)
    split (Some m) found =
        let there_now : List Member = moved_to m.thread.id (Running c) (pos 0) s.members in (
          record {
            line = left_fits m.place c s.line (others m.thread.id s.members) ranges.line (after_leaving_within m.place c s.line (others m.thread.id s.members) ranges.line.ridx);
            members = noted_ranges s.settings now m.thread.id runs there_now tt (moved_ranges m.thread.id (Running c) (pos 0) s.members there ranges.members);
            few = noted_few s.settings now m.thread.id runs there_now (moved_few m.thread.id (Running c) (pos 0) s.members ranges.few);
          },
          (all_has IsThreadInRange m s.members ranges.members (choice_stands c s.line.ridx m s.members found).0).number,
        )

-- a part keeps a side in range, and chooses a thread of it
part_ranges : (c now : ℕ) (p : Part) (s : Side) (into : Option ℕ) → IsPartInRange c p → IsSideInRange s → IsThreadIfAny into → IsChosenInRange (part_done c now p (s, into))
part_ranges c now (note t place change) s into is ranges chosen =
    (record { line = ranges.line; members = noted_ranges s.settings now t change s.members is ranges.members; few = noted_few s.settings now t change s.members ranges.few }, chosen)
part_ranges c now (move t from to) s into is ranges chosen =
    let left : IsSideInRange (leaving from c t s) = leaving_ranges from c t s ranges in
    (record { line = left.line; members = moved_ranges t to (pos 0) s.members is ranges.members; few = moved_few t to (pos 0) s.members ranges.few }, chosen)
part_ranges c now (insert t from how) s into is ranges chosen = (queued_ranges how c t (leaving from c t s) is (leaving_ranges from c t s ranges), chosen)
part_ranges c now choose s into is ranges chosen = chosen_ranges c now s is ranges
part_ranges c now clear_marks s into is ranges chosen = (
  record {
    line = record { idx = ranges.line.idx; ridx = ranges.line.ridx; switches = ranges.line.switches; old_switches = ranges.line.old_switches; balance = ranges.line.balance };
    members = ranges.members;
    few = ranges.few;
  },
  chosen,
)
part_ranges c now count_switch s into is ranges chosen = (
  record {
    line = record { idx = ranges.line.idx; ridx = ranges.line.ridx; switches = omega arith; old_switches = ranges.line.old_switches; balance = ranges.line.balance };
    members = ranges.members;
    few = ranges.few;
  },
  chosen,
)
part_ranges c now (mark_if takes) s into is ranges chosen = (
  record {
    line = record { idx = ranges.line.idx; ridx = ranges.line.ridx; switches = ranges.line.switches; old_switches = ranges.line.old_switches; balance = ranges.line.balance };
    members = ranges.members;
    few = ranges.few;
  },
  chosen,
)
part_ranges c now (end_slice_if ended) s into is ranges chosen = (
  record {
    line = record { idx = ranges.line.idx; ridx = ranges.line.ridx; switches = ranges.line.switches; old_switches = ranges.line.old_switches; balance = ranges.line.balance };
    members = ranges.members;
    few = ranges.few;
  },
  chosen,
)
part_ranges c now clock s into is ranges chosen = (
  record {
    line = record {
      idx = idx_small s.line.idx s.line.ridx ranges.line.idx;
      ridx = (part_kept c now clock s into).index ranges.line.ridx;
      switches = omega (arith, count_by-le-length (λ (m : Member). is_on c m.place) s.members, ranges.few);
      old_switches = ranges.line.switches;
      balance = balance_small c s.line.balance s.balance_word ranges.line.balance;
    };
    members = ranges.members;
    few = ranges.few;
  },
  chosen,
)

-- so all parts do
pub parts_ranges : (c now : ℕ) (ps : List Part) (s : Side) (into : Option ℕ) → AllByRecursion (IsPartInRange c) ps → IsSideInRange s → IsThreadIfAny into →
    IsChosenInRange (parts_done c now ps (s, into))
parts_ranges c now [] s into all ranges chosen = (ranges, chosen)
parts_ranges c now (p ∷ ps) s into all ranges chosen =
    let next = part_done c now p (s, into) in
    let kept = part_ranges c now p s into all.0 ranges chosen in parts_ranges c now ps next.0 next.1 all.1 kept.0 kept.1

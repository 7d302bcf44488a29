-- What an event leaves of its side, and that a side put back leaves the rest: the parts of which each event's own
-- law is made.
use Rattle.std.proofs.Common.{◌≡◌, ◌≢◌, ℕ, zero, suc, ◌+◌, ◌%◌, ◌<◌, ◌==◌, ◌&&◌, Bool, false, not, List, [], ◌∷◌, length, Option, Some, None, refl, sym, ◌∙◌, ap, arith, get_or-set_other}
use Rattle.std.specs.Prelude.{slice_index_or, slice_set}
use Rattle.std.specs.List.{AllByRecursion}
use Rattle.std.proofs.lemmas.Bool.{cond_both, eqb-false, or_parts}
use Rattle.std.proofs.lemmas.List.{length-set}
use Rattle.ule_prio.specs.declared.kind.Kind.{Kind}
use Rattle.ule_prio.specs.declared.kind.Kind.TheVariants.{Real, Batch, Idle}
use Rattle.ule_score.specs.declared.place.Place.{Place}
use Rattle.ule_score.specs.declared.place.Place.TheVariants.{Running, Queued, Asleep, Unborn, Gone, Hand}
use Rattle.ule_score.specs.declared.record.CpuLine.{CpuLine}
use Rattle.ule_types.specs.Commands.{is_among}
use Rattle.ule_types.specs.declared.event.Event.{Event}
use Rattle.ule_model.specs.CalendarIndexes.{ridx_after_removal, ridx_after_turn}
use Rattle.ule_model.specs.Choice.{choice_of}
use Rattle.ule_model.specs.declared.insertion.Insertion.{Insertion}
use Rattle.ule_model.specs.Events.{locks_of}
use Rattle.ule_model.specs.Frames.{LeavesRest}
use Rattle.ule_model.specs.Insertion.{members_in, queued, with_queued}
use Rattle.ule_model.specs.Switch.{after_leaving, after_queue_removal, choosing_next, running_chosen}
use Rattle.ule_model.specs.WellMade.{HaveIndexes}
use Rattle.ule_model.specs.World.{Member, Side, World, fresh_line, others, thread_of, with_side}
use Rattle.ule_score.specs.declared.record.Settings.{Settings}

-- ---- the parts of a side

-- a side with these settings and this balance word, whose removal index is that of a bucket where this one is
pub record HasKept (settings : Settings) (word ridx : ℕ) (n : Side) : Type 0 where
  pub settings_are : n.settings ≡ settings
  pub balance_word : n.balance_word ≡ word
  pub index : ridx < 64 → n.line.ridx < 64

-- a side whose settings and balance word stay, and whose removal index stays that of a bucket
abbrev pub IsSideKept : Side → Side → Type 0
IsSideKept s n = HasKept s.settings s.balance_word s.line.ridx n

-- a side that is kept twice is kept
pub side_kept_further : (s n o : Side) → IsSideKept s n → IsSideKept n o → IsSideKept s o
side_kept_further s n o first second = record {
  settings_are = second.settings_are ∙ first.settings_are;
  balance_word = second.balance_word ∙ first.balance_word;
  index = λ at. second.index (first.index at);
}

-- the removal index after a removal is that of a bucket
pub removal_within : (idx ridx : ℕ) (is_empty : Bool) → ridx < 64 → ridx_after_removal idx ridx is_empty < 64
removal_within idx ridx is_empty at =
    cond_both (not (idx == ridx) && is_empty) ((ridx + 1) % 64) ridx (λ i. i < 64) (λ e. omega arith) (λ e. at)

-- the removal index after a turn is that of a bucket
pub turn_within : (idx ridx : ℕ) (is_empty : Bool) → ridx < 64 → ridx_after_turn idx ridx is_empty < 64
turn_within idx ridx is_empty at =
    cond_both ((idx == ridx) && is_empty) ((idx + 1) % 64) ridx (λ i. i < 64) (λ e. omega arith) (λ e. at)

-- the removal index after a thread left a queue is that of a bucket
pub after_removal_within : (k : Kind) (c : ℕ) (line : CpuLine) (rest : List Member) → line.ridx < 64 → (after_queue_removal k c line rest).ridx < 64
after_removal_within Real c line rest at = at
after_removal_within Batch c line rest at = removal_within line.idx line.ridx (length (members_in c Batch line.ridx rest) == 0) at
after_removal_within Idle c line rest at = at

-- the removal index after a thread left its place is that of a bucket
pub after_leaving_within : (place : Place) (c : ℕ) (line : CpuLine) (rest : List Member) → line.ridx < 64 → (after_leaving place c line rest).ridx < 64
after_leaving_within (Queued d k b) c line rest at = after_removal_within k c line rest at
after_leaving_within (Running d) c line rest at = at
after_leaving_within (Asleep channel) c line rest at = at
after_leaving_within Unborn c line rest at = at
after_leaving_within Gone c line rest at = at
after_leaving_within (Hand w) c line rest at = at

-- an insertion keeps a side
pub queued_kept : (how : Insertion) (c t : ℕ) (s : Side) → IsSideKept s (queued how c t s)
queued_kept how c t s = split (thread_of t s.members)
  where
    split : (o : Option Member) → IsSideKept s (with_queued how c o s)
    split None = record { settings_are = refl; balance_word = refl; index = λ at. at }
    split (Some m) = record { settings_are = refl; balance_word = refl; index = λ at. at }

-- the choice of the next thread keeps a side
pub choosing_kept : (c now : ℕ) (s : Side) → IsSideKept s (choosing_next c now s).0
choosing_kept c now s = split (choice_of c s.line.ridx s.members)
  where
    split : (o : Option Member) → IsSideKept s (running_chosen c now o s).0
    split None = record { settings_are = refl; balance_word = refl; index = λ at. at }
    split (Some m) = record { settings_are = refl; balance_word = refl; index = after_leaving_within m.place c s.line (others m.thread.id s.members) }

-- ---- the whole step

-- a lock that an event doesn't take is another than the first that it takes
other_cpu : (c d : ℕ) (ls : List ℕ) → is_among (c ∷ ls) d ≡ false → c ≢ d
other_cpu c d ls none = eqb-false c d (or_parts (c == d) (is_among ls d) none).0

-- a side put back leaves the numbers of the other CPUs
pub side_leaves : (w : World) (e : Event) (c : ℕ) (s : Side) {ls : List ℕ} → locks_of w e ≡ c ∷ ls → (c ≢ 0 → s.balance_word ≡ w.balance_word) → LeavesRest w e (with_side c s w)
side_leaves w e c s {ls} locks word = record {
  settings = refl;
  count = length-set w.lines c s.line;
  lines = λ d none. get_or-set_other w.lines c d s.line fresh_line (λ same. other d none (sym same));
  balance_word = λ none. word (other 0 none);
}
  where
    other : (d : ℕ) → is_among (locks_of w e) d ≡ false → c ≢ d
    other d none = other_cpu c d ls (ap (λ (xs : List ℕ). is_among xs d) (sym locks) ∙ none)

-- an event that changes threads alone leaves the rest
pub rest_left : (w : World) (e : Event) (ms : List Member) → LeavesRest w e (record w { members = ms })
rest_left w e ms = record { settings = refl; count = refl; lines = λ c none. refl; balance_word = λ none. refl }

-- ---- the removal indexes

-- what each element keeps, each keeps once another that keeps it is put for one
pub all_set : {X : Type 0} (P : X → Type 0) (xs : List X) (i : ℕ) (x : X) → AllByRecursion P xs → P x → AllByRecursion P (slice_set xs i x)
all_set P [] i x all one = tt
all_set P (y ∷ ys) zero x all one = (one, all.1)
all_set P (y ∷ ys) (suc i) x all one = (all.0, all_set P ys i x all.1 one)

-- what each element and the one past the end keep, each place keeps
pub all_at : {X : Type 0} (P : X → Type 0) (xs : List X) (i : ℕ) (past : X) → AllByRecursion P xs → P past → P (slice_index_or xs i past)
all_at P [] i past all none = none
all_at P (x ∷ xs) zero past all none = all.0
all_at P (x ∷ xs) (suc i) past all none = all_at P xs i past all.1 none

-- the removal index of CPU c is that of a bucket
pub index_of : (w : World) (c : ℕ) → HaveIndexes w.lines → (slice_index_or w.lines c fresh_line).ridx < 64
index_of w c indexes = all_at (λ line. line.ridx < 64) w.lines c fresh_line indexes (omega arith)

-- a side put back whose removal index stays that of a bucket leaves them so
pub side_indexes : (w : World) (c : ℕ) (s : Side) → HaveIndexes w.lines → ((slice_index_or w.lines c fresh_line).ridx < 64 → s.line.ridx < 64) → HaveIndexes (slice_set w.lines c s.line)
side_indexes w c s indexes kept = all_set (λ line. line.ridx < 64) w.lines c s.line indexes (kept (index_of w c indexes))

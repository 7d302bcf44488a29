-- Places in no calendar; lists of changes of records and moves, and the calendars that they leave; the parts of events that are such lists.
use Rattle.std.proofs.Common.{◌≡◌, ◌≢◌, ℕ, ℤ, pos, Bool, true, false, List, Option, Some, None, if◌then◌else◌, refl, sym, ◌∙◌, ap, subst}
use Rattle.std.specs.List.{find}
use Rattle.std.specs.Prelude.{option_and_then}
use Rattle.std.proofs.lemmas.Bool.{both_ways, cond_both, eqb-true}
use Rattle.ule_prio.specs.declared.kind.Kind.{Kind}
use Rattle.ule_score.specs.Changes.{RecordChange, record_after, runs}
use Rattle.ule_score.specs.declared.place.Place.{Place}
use Rattle.ule_score.specs.declared.place.Place.TheVariants.{Running, Queued, Asleep, Unborn, Gone, Hand}
use Rattle.ule_score.specs.declared.record.Settings.{Settings}
use Rattle.ule_score.specs.declared.record.ThreadRecord.{ThreadRecord}
use Rattle.ule_score.proofs.ChangeLaws.{change_number}
use Rattle.ule_model.specs.Choice.{choice_of}
use Rattle.ule_model.specs.declared.insertion.Insertion.{Insertion}
use Rattle.ule_model.specs.Insertion.{place_of_insertion, queued, with_queued}
use Rattle.ule_model.specs.Events.{has, has_handled, is_own, unborn}
use Rattle.ule_model.specs.Places.{hand_of, runs_on, waits_on}
use Rattle.ule_model.specs.Switch.{choosing_next, running_chosen}
use Rattle.ule_model.specs.World.{Member, Side, World, current_of, is_numbered, moved_to, thread_of, with_change, with_record}
use Rattle.ule_members.proofs.CalendarPlaces.{FindsEach, filed_at, filed_elsewhere, filing_found, filing_moved_aside, filing_of, filing_recorded, finds_mapped}
use Rattle.ule_members.proofs.Membership.{Has, has_between, has_thread_of}
use Rattle.ule_members.proofs.Moves.{choice_stands}
use Rattle.ule_members.proofs.Reach.{IsUnbornIn, place_from_hand, unborn_found}
use Rattle.ule_members.proofs.Threads.{current_runs}
use Rattle.ule_members.proofs.Within.{FoundAt, found_at}

-- ---- places in no calendar

-- the place of a current thread is in no calendar
pub running_unfiled : (c d : ℕ) (place : Place) → runs_on d place ≡ true → filed_at c place ≡ None
running_unfiled c d (Running e) on = refl
running_unfiled c d (Asleep channel) on = refl
running_unfiled c d Unborn on = refl
running_unfiled c d Gone on = refl
running_unfiled c d (Hand w) on = refl
running_unfiled c d (Queued e k b) on = absurd (both_ways false refl on)

-- a queued thread stands in a bucket of one of its CPU's queues
pub record IsQueuedOn (c : ℕ) (place : Place) : Type 0 where
  pub kind : Kind
  pub bucket : ℕ
  pub place_is : place ≡ Queued c kind bucket

-- a place that is queued on a CPU is such a one
pub queued_where_waits : (c : ℕ) (place : Place) → waits_on c place ≡ true → IsQueuedOn c place
queued_where_waits c (Queued d k b) waits = record { kind = k; bucket = b; place_is = ap (λ (x : ℕ). Queued x k b) (sym (eqb-true c d waits)) }
queued_where_waits c (Running e) waits = absurd (both_ways false refl waits)
queued_where_waits c (Asleep channel) waits = absurd (both_ways false refl waits)
queued_where_waits c Unborn waits = absurd (both_ways false refl waits)
queued_where_waits c Gone waits = absurd (both_ways false refl waits)
queued_where_waits c (Hand w) waits = absurd (both_ways false refl waits)

-- what a look-up finds stands in the list
pub has_found : {X : Type 0} (p : X → Bool) (x : X) (xs : List X) → find p xs ≡ Some x → Has x xs
has_found p x xs found = let at : FoundAt p x xs = found_at p xs x found in subst (Has x) (sym at.whole) (has_between at.before x at.after)

-- the current thread of a CPU is filed in no calendar
pub current_unfiled : (c d : ℕ) (m : Member) (ms : List Member) → FindsEach ms → current_of d ms ≡ Some m → filing_of c ms m.thread.id ≡ None
current_unfiled c d m ms finds found =
    filing_found c m.thread.id m ms (finds m (has_found (λ x. runs_on d x.place) m ms found)) ∙ running_unfiled c d m.place (current_runs d ms m found)

module _ (w : World) (worker : ℕ) where
  -- a thread in a hand stands in no calendar
  pub held_unfiled : (t c : ℕ) → has_handled w.members worker (has t) ≡ true → filing_of c w.members t ≡ None
  held_unfiled t c is = split (thread_of t w.members) is
    where
      at : (o : Option ℕ) (m : Member) → hand_of m.place ≡ o → is_own worker o ≡ true → filed_at c m.place ≡ None
      at None m hand own = absurd (both_ways false refl own)
      at (Some h) m hand own = ap (filed_at c) (place_from_hand h m.place hand)

      split : (o : Option Member) → is_own worker (option_and_then (λ m. hand_of m.place) o) ≡ true → option_and_then (λ m. filed_at c m.place) o ≡ None
      split None own = refl
      split (Some m) own = at (hand_of m.place) m refl own

  -- an unborn thread stands in no calendar
  pub unborn_unfiled : (t c : ℕ) → has_handled w.members worker (unborn t) ≡ true → filing_of c w.members t ≡ None
  unborn_unfiled t c is =
      let u : IsUnbornIn w.members t = unborn_found w.members t is in
      filing_found c t u.member w.members u.found ∙ ap (filed_at c) u.place

-- ---- changes and moves

-- threads after some changes of records and moves, each from outside these CPUs' calendars to outside them
pub data AreMoved (aside : ℕ → Type 0) (ms : List Member) : List Member → Type 0 where
  unmoved : AreMoved aside ms ms
  recorded : (ns : List Member) (u : ℕ) (f : ThreadRecord → ThreadRecord) → ((r : ThreadRecord) → (f r).id ≡ r.id) → AreMoved aside ms ns →
      AreMoved aside ms (with_record u f ns)
  moved : (ns : List Member) (u : ℕ) (place : Place) (order : ℤ) → ((c : ℕ) → aside c → filing_of c ns u ≡ None) →
      ((c : ℕ) → aside c → filed_at c place ≡ None) → AreMoved aside ms ns → AreMoved aside ms (moved_to u place order ns)

-- each thread is still found by its number after changes of records and moves
pub moved_finds : (aside : ℕ → Type 0) (ms ns : List Member) → FindsEach ms → AreMoved aside ms ns → FindsEach ns
moved_finds aside ms _ finds unmoved = finds
moved_finds aside ms _ finds (recorded ns u f kept rest) =
    finds_mapped (λ m. if is_numbered u m then record m { thread = f m.thread } else m) ns
    (λ m. cond_both (is_numbered u m) (record m { thread = f m.thread }) m (λ n. n.thread.id ≡ m.thread.id) (λ e. kept m.thread) (λ e. refl))
    (moved_finds aside ms ns finds rest)
moved_finds aside ms _ finds (moved ns u place order old new rest) =
    finds_mapped (λ m. if is_numbered u m then record m { place = place; order = order } else m) ns
    (λ m. cond_both (is_numbered u m) (record m { place = place; order = order }) m (λ n. n.thread.id ≡ m.thread.id) (λ e. refl) (λ e. refl))
    (moved_finds aside ms ns finds rest)

-- the calendars that the moves are aside of have the threads that they had
pub moved_aside : (aside : ℕ → Type 0) (ms ns : List Member) (c t : ℕ) → aside c → AreMoved aside ms ns → filing_of c ns t ≡ filing_of c ms t
moved_aside aside ms _ c t is unmoved = refl
moved_aside aside ms _ c t is (recorded ns u f kept rest) = filing_recorded c u t f ns kept ∙ moved_aside aside ms ns c t is rest
moved_aside aside ms _ c t is (moved ns u place order old new rest) =
    filing_moved_aside c u t place order ns (old c is) (new c is) ∙ moved_aside aside ms ns c t is rest

-- the CPUs other than one
abbrev pub Others : ℕ → ℕ → Type 0
Others d c = c ≢ d

-- every CPU
abbrev pub AllCpus : ℕ → Type 0
AllCpus c = Unit {0}

-- moves that are aside of some calendars are aside of fewer
pub moved_fewer : (more fewer : ℕ → Type 0) (ms ns : List Member) → ((c : ℕ) → fewer c → more c) → AreMoved more ms ns → AreMoved fewer ms ns
moved_fewer more fewer ms _ among unmoved = unmoved
moved_fewer more fewer ms _ among (recorded ns u f kept rest) = recorded ns u f kept (moved_fewer more fewer ms ns among rest)
moved_fewer more fewer ms _ among (moved ns u place order old new rest) =
    moved ns u place order (λ c is. old c (among c is)) (λ c is. new c (among c is)) (moved_fewer more fewer ms ns among rest)

-- ---- the parts of events

module _ (aside : ℕ → Type 0) (ms : List Member) where
  -- a change of a record
  pub noted_moved : (settings : Settings) (now u : ℕ) (change : RecordChange) (ns : List Member) → AreMoved aside ms ns → AreMoved aside ms (with_change settings now u change ns)
  noted_moved settings now u change ns rest = recorded ns u (record_after settings now change) (change_number settings now change) rest

  -- an insertion
  pub queued_moved : (how : Insertion) (d u : ℕ) (s : Side) → ((c : ℕ) → aside c → c ≢ d) → ((c : ℕ) → aside c → filing_of c s.members u ≡ None) →
      AreMoved aside ms s.members → AreMoved aside ms (queued how d u s).members
  queued_moved how d u s other old rest = split (thread_of u s.members) refl
    where
      split : (o : Option Member) → thread_of u s.members ≡ o → AreMoved aside ms (with_queued how d o s).members
      split None found = rest
      split (Some m) found =
          moved s.members m.thread.id (place_of_insertion how d s.line m.thread.priority) _
          (λ c is. ap (filing_of c s.members) (has_thread_of u m s.members found).1 ∙ old c is) (λ c is. filed_elsewhere c d _ _ (other c is)) rest

  -- the choice of the next thread
  pub choosing_moved : (d now : ℕ) (s : Side) → ((c : ℕ) → aside c → c ≢ d) → FindsEach s.members → AreMoved aside ms s.members →
      AreMoved aside ms (choosing_next d now s).0.members
  choosing_moved d now s other finds rest = split (choice_of d s.line.ridx s.members) refl
    where
      split : (o : Option Member) → choice_of d s.line.ridx s.members ≡ o → AreMoved aside ms (running_chosen d now o s).0.members
      split None found = rest
      split (Some m) found =
          let stands = choice_stands d s.line.ridx m s.members found in
          let at : IsQueuedOn d m.place = queued_where_waits d m.place stands.1 in
          noted_moved s.settings now m.thread.id runs (moved_to m.thread.id (Running d) (pos 0) s.members)
          (moved s.members m.thread.id (Running d) (pos 0)
          (λ c is. filing_found c m.thread.id m s.members (finds m stands.0) ∙ ap (filed_at c) at.place_is ∙ filed_elsewhere c d at.kind at.bucket (other c is))
          (λ c is. refl) rest)

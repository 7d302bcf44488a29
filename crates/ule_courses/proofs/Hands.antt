-- The threads in hands: each worker has in hand the thread that its program says.
use Rattle.std.proofs.Common.{◌≡◌, ◌≢◌, ℕ, ◌==◌, ◌&&◌, Bool, true, false, List, [], ◌∷◌, slice_get, slice_set, is_some, Option, Some, None, if◌then◌else◌, option_and_then, refl, sym, ◌∙◌, ap, subst, ⊎_elim, eq-eqb}
use Rattle.std.specs.Option.{option_map}
use Rattle.std.proofs.lemmas.Bool.{and_parts, cases_eq, eqb-true, false≢true, true≢false}
use Rattle.std.proofs.lemmas.Option.{none-some, slice_get_within}
use Rattle.ule_types.specs.Commands.{is_among}
use Rattle.ule_types.specs.Needs.{FitsHand, handling, hatched_for}
use Rattle.ule_types.specs.Words.{WordChange, block, blocks, change_of, moved_by, point, taken_by}
use Rattle.ule_types.specs.declared.event.Event.{Event}
use Rattle.ule_types.specs.declared.event.Event.TheVariants.{Bed, Bury, Drop, Exit, Hatch, Land, Move, Return, Wake}
use Rattle.ule_program.specs.Courses.{Course}
use Rattle.ule_program.specs.Laws.{hand_by_word}
use Rattle.ule_model.specs.Conditions.{HasEmptyHand, IsHandled, IsPossible}
use Rattle.ule_model.specs.Events.{Handling, any, empty, handling, has, has_handled, holder_of, is_own, is_unborn_thread, unborn}
use Rattle.ule_model.specs.Frames.{thread_in_hand}
use Rattle.ule_model.specs.Places.{hand_of, is_hand_of, is_number}
use Rattle.ule_model.specs.Step.{step}
use Rattle.ule_model.specs.WellMade.{IsWellMade, IsWellMadeWorld}
use Rattle.ule_model.specs.World.{Member, World, is_numbered, thread_of}
use Rattle.ule_members.proofs.Lists.{slice_get-set_other, slice_get-set_same}
use Rattle.ule_members.proofs.Reach.{number_from_test, takes_itself}
use Rattle.ule_members.proofs.Steps.{in_hand_after, step_own_hand}
use Rattle.ule_members.proofs.Threads.{thread_of_within}
use Rattle.ule_members.proofs.Untouched.{step_in_hand}
use Rattle.ule_members.proofs.Within.{found_at, within_found}
use Rattle.ule_courses.proofs.Courses.{held_at}

-- ---- look-ups in a hand

-- a thread whose place is a worker's hand is found there
pub held_in_hand : (h t : ℕ) (ms : List Member) → holder_of ms t ≡ Some h → is_some (thread_in_hand h t ms) ≡ true
held_in_hand h t [] held = absurd (none-some h held)
held_in_hand h t (m ∷ ms) held = step (is_numbered t m) refl held (held_in_hand h t ms)
  where
    step : (b : Bool) → is_numbered t m ≡ b → option_and_then (λ (x : Member). hand_of x.place) (if b then Some m else thread_of t ms) ≡ Some h →
        (holder_of ms t ≡ Some h → is_some (thread_in_hand h t ms) ≡ true) →
        is_some (if b && is_hand_of h m.place then Some m else thread_in_hand h t ms) ≡ true
    step true is here rest =
        let own : is_hand_of h m.place ≡ true = ap (is_number h) here ∙ eq-eqb h h refl in
        ap (λ c. is_some (if c then Some m else thread_in_hand h t ms)) own
    step false is further rest = rest further

-- a thread that is found in a worker's hand is there, where no two threads have one number
pub found_held : (h t : ℕ) (ms : List Member) → IsWellMade ms → is_some (thread_in_hand h t ms) ≡ true → holder_of ms t ≡ Some h
found_held h t ms made found = at_found (thread_in_hand h t ms) refl found
  where
    at_found : (o : Option Member) → thread_in_hand h t ms ≡ o → is_some o ≡ true → holder_of ms t ≡ Some h
    at_found None is some = absurd (false≢true some)
    at_found (Some m) is some =
        let test = λ (n : Member). is_numbered t n && is_hand_of h n.place in
        let both = and_parts (is_numbered t m) (is_hand_of h m.place) (found_at test ms m is).passes in
        let by_number : thread_of m.thread.id ms ≡ Some m = thread_of_within m.thread.id m ms (within_found test ms m made is) in
        ap (holder_of ms) (sym (eqb-true m.thread.id t both.0)) ∙ ap (option_and_then (λ (x : Member). hand_of x.place)) by_number ∙
        number_from_test h (hand_of m.place) both.1

-- ---- all hands

-- the thread that a worker has in hand
abbrev pub hand_at : List Course → ℕ → Option ℕ
hand_at courses worker = option_and_then held_at (slice_get courses worker)

-- each worker has in hand the thread that its course says, and no other
abbrev pub DoAgree : List Member → List Course → Type 0
DoAgree ms courses = (h t : ℕ) → is_some (thread_in_hand h t ms) ≡ is_number t (hand_at courses h)

-- hands and courses agree after one worker's hand and course change together
pub agree_set : (courses : List Course) (worker : ℕ) (course reached : Course) (old new : List Member) → slice_get courses worker ≡ Some course →
    DoAgree old courses → ((h t : ℕ) → h ≢ worker → is_some (thread_in_hand h t new) ≡ is_some (thread_in_hand h t old)) →
    ((t : ℕ) → is_some (thread_in_hand worker t new) ≡ is_number t (held_at reached)) → DoAgree new (slice_set courses worker reached)
agree_set courses worker course reached old new got agree others own h t =
    ⊎_elim
    (λ (same : h ≡ worker). subst (λ v. is_some (thread_in_hand v t new) ≡ is_number t (hand_at (slice_set courses worker reached) v)) (sym same)
    (own t ∙ ap (λ o. is_number t (option_and_then held_at o)) (sym (slice_get-set_same courses worker reached (slice_get_within courses worker course got)))))
    (λ (other : h ≡ worker → ⊥). others h t other ∙ agree h t ∙ ap (λ o. is_number t (option_and_then held_at o)) (sym (slice_get-set_other courses worker h reached other)))
    (cases_eq h worker)

-- ---- the hand after a step

-- a change of a word fits an event that needs the hand so, with this in it
abbrev FitsChange : Handling → Option WordChange → Option ℕ → Type 0
FitsChange needs None hand = Unit {0}
FitsChange any (Some change) hand = ⊥
FitsChange needs (Some (block t)) hand = hand ≡ None
FitsChange empty (Some (point t l)) hand = hand ≡ None
FitsChange needs (Some (point t l)) hand = hand ≡ Some t

-- a thread is taken into an empty hand
blocks_fit : (taken hand : Option ℕ) → hand ≡ None → FitsChange empty (blocks taken) hand
blocks_fit None hand none = tt
blocks_fit (Some t) hand none = none

-- so is one that is unborn
unborn_fits : (u : ℕ) (taken hand : Option ℕ) → hand ≡ None → FitsChange (unborn u) (blocks taken) hand
unborn_fits u None hand none = tt
unborn_fits u (Some t) hand none = none

-- a thread goes from one place to another past an empty hand
moved_fits : (b : ℕ) (moved hand : Option ℕ) → hand ≡ None → FitsChange empty (option_map (λ t. point t b) moved) hand
moved_fits b None hand none = tt
moved_fits b (Some t) hand none = none

module _ (w : World) (worker : ℕ) (e : Event) (now : ℕ) (hand : Option ℕ) (made : IsWellMadeWorld w) (can : IsPossible w worker e now) where
  -- each event's change of a word fits the hand that it needs
  change_fits : (x : Event) → FitsHand hand (handling x) → FitsChange (handling x) (change_of x (step w worker x now).1) hand
  change_fits (Drop c channel) fits = blocks_fit (taken_by 0 (step w worker (Drop c channel) now).1) hand fits
  change_fits (Wake t) fits = blocks_fit (taken_by t (step w worker (Wake t) now).1) hand fits
  change_fits (Move a b why) fits = moved_fits b (moved_by (step w worker (Move a b why) now).1) hand fits
  change_fits (Hatch t) fits = unborn_fits t (taken_by t (step w worker (Hatch t) now).1) hand fits
  change_fits (Exit c) fits = blocks_fit (taken_by 0 (step w worker (Exit c) now).1) hand fits
  change_fits (Bed t channel) fits = fits
  change_fits (Land t c) fits = fits
  change_fits (Return t) fits = fits
  change_fits (Bury t) fits = fits
  change_fits _ fits = tt

  -- what look-up in the hand finds, by the change of a word
  hand_changes : (needs : Handling) (change : Option WordChange) → FitsChange needs change hand → (u : ℕ) (old : Bool) → old ≡ is_number u hand →
      in_hand_after change u old ≡ is_number u (hand_by_word needs change hand)
  hand_changes any None fits u old was = was
  hand_changes any (Some change) fits u old was = absurd fits
  hand_changes _ None fits u old was = was
  hand_changes _ (Some (block t)) fits u old was = by_test (u == t)
    where
      by_test : (b : Bool) → (if b then true else old) ≡ b
      by_test true = refl
      by_test false = was ∙ ap (is_number u) fits
  hand_changes empty (Some (point t l)) fits u old was = by_test (u == t) (was ∙ ap (is_number u) fits)
    where
      by_test : (b : Bool) → old ≡ false → (if b then false else old) ≡ false
      by_test true none = refl
      by_test false none = none
  hand_changes _ (Some (point t l)) fits u old was = by_test (u == t) (was ∙ ap (is_number u) fits)
    where
      by_test : (b : Bool) → old ≡ b → (if b then false else old) ≡ false
      by_test true at = refl
      by_test false at = at

  -- the hand after the step of an event, by look-up, is the one that the change of a word leaves
  pub hand_follows : FitsHand hand (handling e) → ((u : ℕ) → is_some (thread_in_hand worker u w.members) ≡ is_number u hand) →
      (u : ℕ) → is_some (thread_in_hand worker u (step w worker e now).0.members) ≡ is_number u (hand_by_word (handling e) (change_of e (step w worker e now).1) hand)
  hand_follows fits was u =
      step_own_hand w worker e now made can u ∙
      hand_changes (handling e) (change_of e (step w worker e now).1) (change_fits e fits) u (is_some (thread_in_hand worker u w.members)) (was u)

-- hands and courses agree after the step of a worker's event
pub agree_step : (w : World) (worker : ℕ) (e : Event) (now : ℕ) (courses : List Course) (course reached : Course) → IsWellMadeWorld w →
    IsPossible w worker e now → slice_get courses worker ≡ Some course → DoAgree w.members courses → FitsHand (held_at course) (handling e) →
    held_at reached ≡ hand_by_word (handling e) (change_of e (step w worker e now).1) (held_at course) →
    DoAgree (step w worker e now).0.members (slice_set courses worker reached)
agree_step w worker e now courses course reached made can got agree fits after =
    agree_set courses worker course reached w.members (step w worker e now).0.members got agree
    (λ h t other. ap (λ o. is_some o) (step_in_hand w worker e now made can h t other))
    (λ t. hand_follows w worker e now (held_at course) made can fits
    (λ u. agree worker u ∙ ap (λ o. is_number u (option_and_then held_at o)) got) t ∙ ap (is_number t) (sym after))

-- ---- what an event needs

-- a worker whose course says that its hand is empty has an empty hand
pub empty_handled : (w : World) (worker : ℕ) (courses : List Course) → DoAgree w.members courses → hand_at courses worker ≡ None → HasEmptyHand w worker
empty_handled w worker courses agree none t held =
    true≢false (sym (held_in_hand worker t w.members held) ∙ agree worker t ∙ ap (is_number t) none)

-- the unborn thread that an event fills a hand with is there, if it does
abbrev pub FindsUnborn : List Member → Handling → Type 0
FindsUnborn ms any = Unit {0}
FindsUnborn ms empty = Unit {0}
FindsUnborn ms (unborn t) = is_unborn_thread (thread_of t ms) ≡ true
FindsUnborn ms (has t) = Unit {0}

-- where the threads that an event hatches are unborn, it finds them
pub finds_unborn : (ms : List Member) (needs : Handling) → ((t : ℕ) → is_among (hatched_for needs) t ≡ true → is_unborn_thread (thread_of t ms) ≡ true) → FindsUnborn ms needs
finds_unborn ms any each = tt
finds_unborn ms empty each = tt
finds_unborn ms (unborn t) each = each t (takes_itself t)
finds_unborn ms (has t) each = tt

-- a worker whose hand is as its event needs it
pub hand_handled : (w : World) (worker : ℕ) (courses : List Course) (hand : Option ℕ) (needs : Handling) → IsWellMade w.members → DoAgree w.members courses →
    hand_at courses worker ≡ hand → FitsHand hand needs → FindsUnborn w.members needs → IsHandled w worker needs
hand_handled w worker courses hand any made agree is fits finds = tt
hand_handled w worker courses hand empty made agree is fits finds = empty_handled w worker courses agree (is ∙ fits)
hand_handled w worker courses hand (unborn t) made agree is fits finds = (empty_handled w worker courses agree (is ∙ fits), finds)
hand_handled w worker courses hand (has t) made agree is fits finds =
    found_held worker t w.members made (agree worker t ∙ ap (is_number t) (is ∙ fits) ∙ eq-eqb t t refl)

-- an event with the hand that it needs has its thread
pub handled_thread : (w : World) (worker : ℕ) (needs : Handling) → IsHandled w worker needs → has_handled w.members worker needs ≡ true
handled_thread w worker any handled = refl
handled_thread w worker empty handled = refl
handled_thread w worker (unborn t) handled = handled.1
handled_thread w worker (has t) handled = subst (λ o. is_own worker o ≡ true) (sym handled) (eq-eqb worker worker refl)

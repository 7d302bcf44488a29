-- What stands under a lock, and in a hand, after one thread comes there or leaves.
use Rattle.std.proofs.Common.{◌≡◌, ℕ, ◌<◌, ◌==◌, Bool, true, false, ◌&&◌, List, length, slice_index_or, slice_set, Option, Some, None, ⊎_elim, if◌then◌else◌, refl, sym, ◌∙◌, ap}
use Rattle.std.specs.Option.{option_map}
use Rattle.std.proofs.lemmas.Bool.{and_right, cases_eq, eq-eqb, ne_eqb, eqb-true, cond-true, cond-false}
use Rattle.std.proofs.lemmas.List.{get_or-set_same, get_or-set_other}
use Rattle.ule_score.specs.declared.record.ThreadRecord.{ThreadRecord}
use Rattle.ule_sleep.specs.Chain.{standing_in, with_standing, without_standing}
use Rattle.ule_threads.specs.declared.standing.Standing.{Standing}
use Rattle.ule_model.specs.Frames.{thread_in_hand, thread_under}
use Rattle.ule_model.specs.Places.{is_hand_of, is_under}
use Rattle.ule_model.specs.WorldValue.{if_thread, standing_of}
use Rattle.ule_model.specs.World.{Member, is_numbered}
use Rattle.ule_members.proofs.PlaceFinds.{thread_at-changed, thread_at-changed_other, thread_at_within}
use Rattle.ule_members.proofs.Threads.{find_kept}
use Rattle.ule_members.proofs.Within.{Within, changed, changed_within}

-- ---- under a lock of threads with places

-- these threads with places are those under a lock
abbrev pub AreThese : ℕ → List Member → List (Option Standing) → Type 0
AreThese l ms slots = (t : ℕ) → standing_in slots t ≡ option_map standing_of (thread_under l t ms)

-- a thread that comes under the lock is put among them
pub put_under : (l t : ℕ) (m : Member) (ms : List Member) (slots : List (Option Standing)) (f : Member → Member) → Within t m ms → t < length slots →
    (f m).thread.id ≡ m.thread.id → is_under l (f m).place ≡ true → AreThese l ms slots →
    AreThese l (changed t f ms) (with_standing (f m).thread (f m).place slots)
put_under l t m ms slots f w within number under these u =
    ⊎_elim own (λ (other : u ≡ t → ⊥). rest other) (cases_eq u t)
  where
    at : (f m).thread.id ≡ t
    at = number ∙ w.number

    own : u ≡ t → standing_in (with_standing (f m).thread (f m).place slots) u ≡ option_map standing_of (thread_under l u (changed t f ms))
    own same =
        ap (λ i. slice_index_or (slice_set slots i (Some (standing_of (f m)))) u None) at ∙ ap (standing_in (slice_set slots t (Some (standing_of (f m))))) same ∙
        get_or-set_same slots t (Some (standing_of (f m))) None within ∙
        sym (ap (λ i. option_map standing_of (thread_under l i (changed t f ms))) same ∙ ap (option_map standing_of) (thread_at-changed (is_under l) t m ms w f number ∙ cond-true (is_under l (f m).place) (Some (f m)) None under))

    rest : (u ≡ t → ⊥) → standing_in (with_standing (f m).thread (f m).place slots) u ≡ option_map standing_of (thread_under l u (changed t f ms))
    rest other =
        ap (λ i. slice_index_or (slice_set slots i (Some (standing_of (f m)))) u None) at ∙ get_or-set_other slots t u (Some (standing_of (f m))) None other ∙
        these u ∙ sym (ap (option_map standing_of) (thread_at-changed_other (is_under l) u t m ms w f number other))

-- a thread that leaves the lock is taken from them
pub take_from_under : (l t : ℕ) (m : Member) (ms : List Member) (slots : List (Option Standing)) (f : Member → Member) → Within t m ms → t < length slots →
    (f m).thread.id ≡ m.thread.id → is_under l (f m).place ≡ false → AreThese l ms slots →
    AreThese l (changed t f ms) (without_standing t slots)
take_from_under l t m ms slots f w within number off these u =
    ⊎_elim own (λ (other : u ≡ t → ⊥). rest other) (cases_eq u t)
  where
    own : u ≡ t → standing_in (without_standing t slots) u ≡ option_map standing_of (thread_under l u (changed t f ms))
    own same =
        ap (standing_in (slice_set slots t None)) same ∙ get_or-set_same slots t None None within ∙
        sym (ap (λ i. option_map standing_of (thread_under l i (changed t f ms))) same ∙ ap (option_map standing_of) (thread_at-changed (is_under l) t m ms w f number ∙ cond-false (is_under l (f m).place) (Some (f m)) None off))

    rest : (u ≡ t → ⊥) → standing_in (without_standing t slots) u ≡ option_map standing_of (thread_under l u (changed t f ms))
    rest other =
        get_or-set_other slots t u None None other ∙
        these u ∙ sym (ap (option_map standing_of) (thread_at-changed_other (is_under l) u t m ms w f number other))

-- a thread that is elsewhere before and after leaves the threads under the lock
pub these_kept : (l : ℕ) (m : Member) (ms : List Member) (f : Member → Member) → Within m.thread.id m ms → (f m).thread.id ≡ m.thread.id → is_under l m.place ≡ false →
    is_under l (f m).place ≡ false → (slots : List (Option Standing)) → AreThese l ms slots → AreThese l (changed m.thread.id f ms) slots
these_kept l m ms f v number was is slots these u =
    these u ∙ ap (option_map standing_of)
    (ap (thread_under l u) v.whole ∙
    sym (find_kept (λ x. is_numbered u x && is_under l x.place) v.before m (f m) v.after (and_right (is_numbered u m) (is_under l m.place) was) (and_right (is_numbered u (f m)) (is_under l (f m).place) is)) ∙
    ap (thread_under l u) (sym (changed_within m.thread.id m ms v f)))

-- ---- in a hand

-- what a hand has is what the threads have in it
abbrev pub IsThis : ℕ → List Member → Option ThreadRecord → Type 0
IsThis h ms held = (t : ℕ) → if_thread t held ≡ option_map (λ m. m.thread) (thread_in_hand h t ms)

-- a thread that comes to a hand, or stays in it, is in it where the hand has no other
pub put_only : (h t : ℕ) (m : Member) (ms : List Member) (f : Member → Member) → Within t m ms → (f m).thread.id ≡ m.thread.id → is_hand_of h (f m).place ≡ true →
    ((u : ℕ) → (u ≡ t → ⊥) → None ≡ option_map (λ m. m.thread) (thread_in_hand h u ms)) → IsThis h (changed t f ms) (Some (f m).thread)
put_only h t m ms f w number here no_other u =
    ⊎_elim own (λ (other : u ≡ t → ⊥). rest other) (cases_eq u t)
  where
    at : (f m).thread.id ≡ t
    at = number ∙ w.number

    own : u ≡ t → if_thread u (Some (f m).thread) ≡ option_map (λ m. m.thread) (thread_in_hand h u (changed t f ms))
    own same =
        cond-true ((f m).thread.id == u) (Some (f m).thread) None (eq-eqb (f m).thread.id u (at ∙ sym same)) ∙
        sym (ap (λ i. option_map (λ (n : Member). n.thread) (thread_in_hand h i (changed t f ms))) same ∙ ap (option_map (λ (n : Member). n.thread)) (thread_at-changed (is_hand_of h) t m ms w f number ∙ cond-true (is_hand_of h (f m).place) (Some (f m)) None here))

    rest : (u ≡ t → ⊥) → if_thread u (Some (f m).thread) ≡ option_map (λ m. m.thread) (thread_in_hand h u (changed t f ms))
    rest other =
        cond-false ((f m).thread.id == u) (Some (f m).thread) None (ne_eqb (f m).thread.id u (λ e. other (sym e ∙ at))) ∙
        no_other u other ∙ sym (ap (option_map (λ (n : Member). n.thread)) (thread_at-changed_other (is_hand_of h) u t m ms w f number other))

-- a thread that comes to an empty hand is in it
pub put_in : (h t : ℕ) (m : Member) (ms : List Member) (f : Member → Member) → Within t m ms → (f m).thread.id ≡ m.thread.id →
    is_hand_of h (f m).place ≡ true → IsThis h ms None → IsThis h (changed t f ms) (Some (f m).thread)
put_in h t m ms f w number here empty = put_only h t m ms f w number here (λ u other. empty u)

-- a thread that leaves a hand leaves it empty
pub take_out_of : (h t : ℕ) (m : Member) (ms : List Member) (f : Member → Member) → Within t m ms → (f m).thread.id ≡ m.thread.id →
    is_hand_of h m.place ≡ true → is_hand_of h (f m).place ≡ false → (r : ThreadRecord) → IsThis h ms (Some r) → IsThis h (changed t f ms) None
take_out_of h t m ms f w number here off r held u =
    ⊎_elim own (λ (other : u ≡ t → ⊥). rest other) (cases_eq u t)
  where
    was : if_thread t (Some r) ≡ Some m.thread
    was = held t ∙ ap (option_map (λ (n : Member). n.thread)) (thread_at_within (is_hand_of h) t m ms w ∙ cond-true (is_hand_of h m.place) (Some m) None here)

    own : u ≡ t → None ≡ option_map (λ m. m.thread) (thread_in_hand h u (changed t f ms))
    own same =
        sym (ap (λ i. option_map (λ (n : Member). n.thread) (thread_in_hand h i (changed t f ms))) same ∙ ap (option_map (λ (n : Member). n.thread)) (thread_at-changed (is_hand_of h) t m ms w f number ∙ cond-false (is_hand_of h (f m).place) (Some (f m)) None off))

    number_of : (b : Bool) → (r.id == t) ≡ b → (if b then Some r else None) ≡ Some m.thread → r.id ≡ t
    number_of true is some = eqb-true r.id t is
    number_of false is some = absurd (none_is_some m.thread some)
      where
        none_is_some : (x : ThreadRecord) → None ≡ Some x → ⊥
        none_is_some x e = cc

    rest : (u ≡ t → ⊥) → None ≡ option_map (λ m. m.thread) (thread_in_hand h u (changed t f ms))
    rest other =
        sym (cond-false (r.id == u) (Some r) None (ne_eqb r.id u (λ e. other (sym e ∙ number_of (r.id == t) refl was)))) ∙
        held u ∙ sym (ap (option_map (λ (n : Member). n.thread)) (thread_at-changed_other (is_hand_of h) u t m ms w f number other))

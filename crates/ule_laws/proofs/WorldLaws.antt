-- A scheduler whose event changed what its lock guards and what the worker has in hand shows the world after
-- the event, where those two stand for it: all else is left.
use Rattle.std.proofs.Common.{◌≡◌, ◌≢◌, ℕ, ◌<◌, ◌≤◌, Bool, false, ◌||◌, List, [], ◌∷◌, length, get_or, slice_get, slice_set, Option, Some, None, IfSome, ⊎_elim, refl, sym, ◌∙◌, ap, subst, arith}
use Rattle.std.specs.Option.{option_map}
use Rattle.std.proofs.lemmas.Bool.{cases_eq, ne_eqb}
use Rattle.std.proofs.lemmas.List.{get_or-set_same, get_or-set_other, length-set}
use Rattle.std.proofs.lemmas.Option.{none-some, slice_get-get_or}
use Rattle.ule_score.specs.declared.record.ThreadRecord.{ThreadRecord}
use Rattle.ule_types.specs.Commands.{is_among}
use Rattle.ule_types.specs.declared.event.Event.{Event}
use Rattle.ule_types.specs.declared.event.Reply.{Reply}
use Rattle.ule_model.specs.CpuValue.{CpuValue, StandsFor}
use Rattle.ule_model.specs.Events.{locks_of}
use Rattle.ule_model.specs.Frames.{LeavesRest, thread_in_hand, thread_under}
use Rattle.ule_model.specs.LockValue.{LockValue, chain, limbo, nothing, queue}
use Rattle.ule_model.specs.Step.{Stepped}
use Rattle.ule_model.specs.WellMade.{HaveIndexes, IsWellMade}
use Rattle.ule_model.specs.World.{World, side_of}
use Rattle.ule_model.specs.WorldValue.{IsHandOf, Shows, StandsUnder, WorldValue, held_by, put_back, standing_of}
use Rattle.ule_members.proofs.Lists.{slice_get-set_other, slice_get-set_same}

-- ---- options

-- what holds of each value that there may be
pub if_some : {X : Type 0} (P : X → Type 0) (o : Option X) → ((x : X) → o ≡ Some x → P x) → IfSome o P
if_some P None each = tt
if_some P (Some x) each = each x refl

-- it holds of the value that there is
pub at_some : {X : Type 0} (P : X → Type 0) (o : Option X) (x : X) → IfSome o P → o ≡ Some x → P x
at_some P None x each is = absurd (none-some x is)
at_some {X = X} P (Some y) x each is = subst P (same y is) each
  where
    same : (y : X) → Some y ≡ Some x → y ≡ x
    same y e = cc

-- ---- what a step leaves

-- a world after a step of an event by a worker: what lies under other locks and in other hands is left
pub record IsFrame (w : World) (worker : ℕ) (e : Event) (n : World) : Type 0 where
  pub rest : LeavesRest w e n
  pub made : IsWellMade n.members
  pub indexes : HaveIndexes n.lines
  pub under : (l t : ℕ) → is_among (locks_of w e) l ≡ false → thread_under l t n.members ≡ thread_under l t w.members
  pub in_hand : (h t : ℕ) → h ≢ worker → thread_in_hand h t n.members ≡ thread_in_hand h t w.members
  pub elsewhere : (v : CpuValue) → is_among (locks_of w e) v.cpu ≡ false → StandsFor v (side_of v.cpu w) → StandsFor v (side_of v.cpu n)

-- what stands under another lock stands there afterwards
pub under_left : (w : World) (worker : ℕ) (e : Event) (n : World) (l : ℕ) (value : LockValue) → IsFrame w worker e n → is_among (locks_of w e) l ≡ false →
    StandsUnder w l value → StandsUnder n l value
under_left w worker e n l (queue v) frame other stands = record {
  cpu = stands.cpu;
  there = subst (λ (i : ℕ). l < i) (sym frame.rest.count) stands.there;
  stands = subst (λ (c : ℕ). StandsFor v (side_of c n)) stands.cpu
      (frame.elsewhere v (ap (is_among (locks_of w e)) stands.cpu ∙ other) (subst (λ (c : ℕ). StandsFor v (side_of c w)) (sym stands.cpu) stands.stands));
}
under_left w worker e n l (chain v) frame other stands = record {
  number = stands.number;
  small = stands.small;
  slots = stands.slots;
  under = λ t. stands.under t ∙ ap (option_map standing_of) (sym (frame.under l t other));
  asleep = stands.asleep;
}
under_left w worker e n l (limbo v) frame other stands = record {
  number = stands.number;
  slots = stands.slots;
  under = λ t. stands.under t ∙ ap (option_map standing_of) (sym (frame.under l t other));
  still = stands.still;
}
under_left w worker e n l nothing frame other stands = record {
  past = subst (λ (i : ℕ). i ≤ l) (sym frame.rest.count) stands.past;
  queue = stands.queue;
  none = λ t. frame.under l t other ∙ stands.none t;
}

-- what another hand has it has afterwards
pub hand_left : (w : World) (worker : ℕ) (e : Event) (n : World) (h : ℕ) (held : Option ThreadRecord) → IsFrame w worker e n → h ≢ worker →
    IsHandOf w h held → IsHandOf n h held
hand_left w worker e n h held frame other has t = has t ∙ ap (option_map (λ m. m.thread)) (sym (frame.in_hand h t other))

-- ---- the step

-- what an event made of its lock's value and of the worker's hand is what the world has there
pub record IsMadeFor (n : World) (worker l : ℕ) (reply : Reply) (made : Stepped) : Type 0 where
  pub value : StandsUnder n l made.value
  pub hand : IsHandOf n worker made.hand
  pub answer : made.reply ≡ reply

-- a lock that is another than the event's one is not among its locks
pub other_lock : (locks : List ℕ) (l k : ℕ) → locks ≡ l ∷ [] → k ≢ l → is_among locks k ≡ false
other_lock locks l k one other = ap (λ (ls : List ℕ). is_among ls k) one ∙ ap (λ (b : Bool). b || false) (ne_eqb l k (λ e. other (sym e)))

-- the scheduler with both put back shows the world after the event
pub put_back_shows : (v : WorldValue) (w : World) (worker l : ℕ) (e : Event) (n : World) (reply : Reply) (made : Stepped) → Shows v w → IsFrame w worker e n →
    locks_of w e ≡ l ∷ [] → l < 25 → worker < length w.lines → IsMadeFor n worker l reply made →
    Shows (put_back l worker (Some made) v).0 n × ((put_back l worker (Some made) v).1 ≡ reply)
put_back_shows v w worker l e n reply made shows frame one within there is = (
  record {
    settings = shows.settings ∙ sym frame.rest.settings;
    made = frame.made;
    indexes = frame.indexes;
    locks = length-set v.values l made.value ∙ shows.locks;
    cpus = subst (λ (i : ℕ). i ≤ 16) (sym frame.rest.count) shows.cpus;
    workers = length-set v.hands worker made.hand ∙ shows.workers ∙ sym frame.rest.count;
    under = under;
    past = λ k far t. frame.under k t (other_lock (locks_of w e) l k one (λ (same : k ≡ l). omega arith)) ∙ shows.past k far t;
    hands = hands;
  },
  is.answer,
)
  where
    under : (k : ℕ) → IfSome (slice_get (slice_set v.values l made.value) k) (StandsUnder n k)
    under k =
        ⊎_elim
        (λ (same : k ≡ l).
        subst (λ (o : Option LockValue). IfSome o (StandsUnder n k)) (sym (ap (slice_get (slice_set v.values l made.value)) same ∙ slice_get-set_same v.values l made.value (subst (λ (i : ℕ). l < i) (sym shows.locks) within)))
        (subst (λ (i : ℕ). StandsUnder n i made.value) (sym same) is.value))
        (λ (other : k ≡ l → ⊥).
        subst (λ (o : Option LockValue). IfSome o (StandsUnder n k)) (sym (slice_get-set_other v.values l k made.value other))
        (if_some (StandsUnder n k) (slice_get v.values k)
        (λ value found. under_left w worker e n k value frame (other_lock (locks_of w e) l k one other) (at_some (StandsUnder w k) (slice_get v.values k) value (shows.under k) found))))
        (cases_eq k l)

    workers_are : length v.hands ≡ length w.lines
    workers_are = shows.workers

    hands : (h : ℕ) → IsHandOf n h (held_by (put_back l worker (Some made) v).0 h)
    hands h =
        ⊎_elim
        (λ (same : h ≡ worker).
        subst (IsHandOf n h) (sym (ap (held_by (put_back l worker (Some made) v).0) same ∙ get_or-set_same v.hands worker made.hand None (subst (λ (i : ℕ). worker < i) (sym workers_are) there)))
        (subst (λ (i : ℕ). IsHandOf n i made.hand) (sym same) is.hand))
        (λ (other : h ≡ worker → ⊥).
        subst (IsHandOf n h) (sym (get_or-set_other v.hands worker h made.hand None other))
        (hand_left w worker e n h (held_by v h) frame other (shows.hands h)))
        (cases_eq h worker)

-- ---- what a scheduler has

-- the value under a lock
pub record HasValue (v : WorldValue) (w : World) (l : ℕ) : Type 0 where
  pub value : LockValue
  pub found : slice_get v.values l ≡ Some value
  pub stands : StandsUnder w l value

-- each lock has one
pub value_at : (v : WorldValue) (w : World) (l : ℕ) → Shows v w → l < 25 → HasValue v w l
value_at v w l shows within =
    record { value = get_or v.values l nothing; found = there; stands = at_some (StandsUnder w l) (slice_get v.values l) (get_or v.values l nothing) (shows.under l) there }
  where
    there : slice_get v.values l ≡ Some (get_or v.values l nothing)
    there = slice_get-get_or v.values l nothing (subst (λ (i : ℕ). l < i) (sym shows.locks) within)

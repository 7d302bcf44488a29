-- What a world's fields are once one lock's value and one hand are written.
use Rattle.std.proofs.Common.{◌≡◌, ℕ, List, slice_get, slice_index_or, slice_set, Option, Some, None, sym, ◌∙◌, ap, subst}
use Rattle.std.specs.Vec.{with_item}
use Rattle.std.proofs.lemmas.Option.{get_or_from_slice_get, slice_get-get_or}
use Rattle.ule_score.specs.declared.record.Settings.{Settings}
use Rattle.ule_score.specs.declared.record.ThreadRecord.{ThreadRecord}
use Rattle.ule_types.specs.declared.event.Event.{Event}
use Rattle.ule_types.specs.declared.event.Reply.{Reply}
use Rattle.ule_model.specs.Events.{locking}
use Rattle.ule_model.specs.LockConditions.{CanStepAt}
use Rattle.ule_model.specs.LockValue.{LockValue}
use Rattle.ule_model.specs.Step.{Stepped, lock_step}
use Rattle.ule_model.specs.WorldValue.{CanStep, WorldValue, held_by, lock_for, value_step}
use Rattle.ule_laws.proofs.StepConditions.{CanStepUnder, can_step_under}
use Rattle.ule_laws.proofs.WorldSteps.{IsMadeAt, made_is_step}
use Rattle.ule_seq.specs.Worlds.{world_value}
use Rattle.ule_seq.specs.declared.world.World.TheInside.{Inside}

-- the fields with lock l's value and worker i's hand written anew
abbrev pub written : Inside → ℕ → LockValue → ℕ → Option ThreadRecord → Inside
written s l g i hand = record { settings = s.settings; values = with_item s.values l g; hands = with_item s.hands i hand }

-- a step reads lock l's value g and what worker i has in hand from a world's fields
pub record ReadsFields (s : Inside) (v : WorldValue) (worker : ℕ) (e : Event) (now l : ℕ) (g : LockValue) (i : ℕ) (held : Option ThreadRecord) : Type 0 where
  pub view : world_value s ≡ v
  pub can : CanStep v worker e now
  pub lock : lock_for v.values (locking e) ≡ Some l
  pub value : g ≡ slice_index_or s.values.items l g
  pub from : i ≡ worker
  pub hand : held ≡ slice_index_or s.hands.items i held

-- the scheduler that a world's fields are finds what the step reads
pub reads_under : (s : Inside) (v : WorldValue) (worker : ℕ) (e : Event) (now l : ℕ) (g : LockValue) (i : ℕ) (held : Option ThreadRecord) → ReadsFields s v worker e now l g i held →
    CanStepUnder (world_value s) worker e now l
reads_under s v worker e now l g i held r =
    can_step_under (world_value s) worker e now l (subst (λ (x : WorldValue). CanStep x worker e now) (sym r.view) r.can) (ap (λ (x : WorldValue). lock_for x.values (locking e)) r.view ∙ r.lock)

-- what the step reads is what the fields have there
read_value : (s : Inside) (v : WorldValue) (worker : ℕ) (e : Event) (now l : ℕ) (g : LockValue) (i : ℕ) (held : Option ThreadRecord) → ReadsFields s v worker e now l g i held →
    slice_get (world_value s).values l ≡ Some g
read_value s v worker e now l g i held r =
    slice_get-get_or s.values.items l g (reads_under s v worker e now l g i held r).within ∙ ap Some (sym r.value)

read_hand : (s : Inside) (v : WorldValue) (worker : ℕ) (e : Event) (now l : ℕ) (g : LockValue) (i : ℕ) (held : Option ThreadRecord) → ReadsFields s v worker e now l g i held →
    held_by (world_value s) worker ≡ held
read_hand s v worker e now l g i held r =
    let there : held ≡ slice_index_or s.hands.items worker held = r.hand ∙ ap (λ (n : ℕ). slice_index_or s.hands.items n held) r.from in
    get_or_from_slice_get s.hands.items worker held None (slice_get-get_or s.hands.items worker held (reads_under s v worker e now l g i held r).worker_is ∙ ap Some (sym there))

-- one place has one value
one_value : (x y : LockValue) → Some x ≡ Some y → x ≡ y
one_value x y e = cc

-- a step may be made of what it reads
pub reads_can : (s : Inside) (v : WorldValue) (worker : ℕ) (e : Event) (now l : ℕ) (g : LockValue) (i : ℕ) (held : Option ThreadRecord) → ReadsFields s v worker e now l g i held →
    CanStepAt g held e now
reads_can s v worker e now l g i held r =
    let under : CanStepUnder (world_value s) worker e now l = reads_under s v worker e now l g i held r in
    let same : under.value ≡ g = one_value under.value g (sym under.found ∙ read_value s v worker e now l g i held r) in
    subst (λ (x : LockValue). CanStepAt x held e now) same (subst (λ (h : Option ThreadRecord). CanStepAt under.value h e now) (read_hand s v worker e now l g i held r) under.can)

-- what was written back is what the event made of what was read
pub record IsWritten (s : Inside) (worker : ℕ) (e : Event) (now : ℕ) (g : LockValue) (held : Option ThreadRecord) (after : LockValue) (hand : Option ThreadRecord) (reply : Reply) : Type 0 where
  pub hand_is : hand ≡ (lock_step s.settings worker e now held g).hand
  pub value_is : after ≡ (lock_step s.settings worker e now held g).value
  pub reply_is : reply ≡ (lock_step s.settings worker e now held g).reply

-- the scheduler of these parts, and a reply
abbrev pub scheduler : Settings → List LockValue → List (Option ThreadRecord) → Reply → WorldValue × Reply
scheduler settings values hands reply = (record { settings = settings; values = values; hands = hands }, reply)

-- the fields that were written are the step of the scheduler
pub written_is_step : (s : Inside) (v : WorldValue) (worker : ℕ) (e : Event) (now l : ℕ) (g : LockValue) (i : ℕ)
    (held : Option ThreadRecord) (after : LockValue) (hand : Option ThreadRecord) (reply : Reply) →
    ReadsFields s v worker e now l g i held → IsWritten s worker e now g held after hand reply → (world_value (written s l after i hand), reply) ≡ value_step v worker e now
written_is_step s v worker e now l g i held after hand reply r w =
    ap (λ (x : LockValue). scheduler s.settings (slice_set (world_value s).values l x) (slice_set s.hands.items i hand) reply) w.value_is ∙
    ap (λ (n : ℕ). scheduler s.settings (slice_set (world_value s).values l made.value) (slice_set s.hands.items n hand) reply) r.from ∙
    ap (λ (h : Option ThreadRecord). scheduler s.settings (slice_set (world_value s).values l made.value) (slice_set s.hands.items worker h) reply) w.hand_is ∙
    ap (λ (x : Reply). scheduler s.settings (slice_set (world_value s).values l made.value) (slice_set s.hands.items worker made.hand) x) w.reply_is ∙
    made_is_step (world_value s) worker e now l made at ∙
    ap (λ (x : WorldValue). value_step x worker e now) r.view
  where
    made : Stepped
    made = lock_step s.settings worker e now held g

    at : IsMadeAt (world_value s) worker e now l made
    at = record {
      lock = ap (λ (x : WorldValue). lock_for x.values (locking e)) r.view ∙ r.lock;
      value = g;
      found = read_value s v worker e now l g i held r;
      made_is = ap (λ (h : Option ThreadRecord). lock_step s.settings worker e now h g) (sym (read_hand s v worker e now l g i held r));
    }

-- What a world's fields are once the values of two locks and one hand are written.
use Rattle.std.proofs.Common.{◌≡◌, ◌≢◌, ℕ, false, List, slice_get, slice_index_or, slice_set, Option, Some, None, get_or-set_other, refl, sym, ◌∙◌, ap, subst}
use Rattle.std.specs.Vec.{with_item}
use Rattle.std.proofs.lemmas.List.{set-set, set_comm}
use Rattle.std.proofs.lemmas.Option.{get_or_from_slice_get, none-some, same_Some, slice_get-get_or}
use Rattle.ule_score.specs.declared.record.ThreadRecord.{ThreadRecord}
use Rattle.ule_types.specs.declared.event.Event.{Event}
use Rattle.ule_types.specs.declared.event.Event.TheVariants.{Tick, Switch, Drop, Bed, Wake, Look, Land, Move, Lend, Unlend, Renice, Hatch, Fork, Return, Exit, Bury, Inherit}
use Rattle.ule_types.specs.declared.event.MoveWhy.{MoveWhy}
use Rattle.ule_types.specs.declared.event.Reply.{Reply}
use Rattle.ule_model.specs.Events.{Locking, chain, limbo, locking, place_of, queue, queues}
use Rattle.ule_model.specs.LockConditions.{CanStepPair}
use Rattle.ule_model.specs.LockValue.{LockValue}
use Rattle.ule_model.specs.LockValue as lock_value
use Rattle.ule_model.specs.Step.{PairStepped, pair_step}
use Rattle.ule_model.specs.WorldValue.{CanStep, WorldValue, held_by, value_step}
use Rattle.ule_members.proofs.PairDone.{are_two}
use Rattle.ule_laws.proofs.StepConditions.{CanStepBoth, can_step_both}
use Rattle.ule_laws.proofs.WorldSteps.{pair_made_is_step}
use Rattle.ule_seq.specs.Locks.{two_locks}
use Rattle.ule_seq.specs.Worlds.{world_value}
use Rattle.ule_seq.specs.declared.world.World.TheInside.{Inside}

-- an event that takes no two locks takes no two
pub one_alone : (k : Locking) → two_locks k ≡ None → are_two k ≡ false
one_alone (queues a b) none = absurd (none-some (a, b) (sym none))
one_alone (queue c) none = refl
one_alone (chain channel) none = refl
one_alone limbo none = refl
one_alone (place_of t) none = refl

-- a value and a reply that are those of a step are the step
pub done_is : (new : WorldValue) (reply : Reply) (made : WorldValue × Reply) → new ≡ made.0 → reply ≡ made.1 → (new, reply) ≡ made
done_is new reply made value_is reply_is = ap (λ (x : WorldValue). (x, reply)) value_is ∙ ap (λ (x : Reply). (made.0, x)) reply_is

-- an event that takes the locks of two CPUs is a move
pub move_from : (e : Event) (a b : ℕ) → two_locks (locking e) ≡ Some (a, b) → (why : MoveWhy) × (e ≡ Move a b why)
move_from (Move c d why) a b two = (why, ap (λ (p : ℕ × ℕ). Move p.0 p.1 why) (same_Some (c, d) (a, b) two))
move_from (Tick c) a b two = absurd (none-some (a, b) two)
move_from (Switch c why) a b two = absurd (none-some (a, b) two)
move_from (Drop c channel) a b two = absurd (none-some (a, b) two)
move_from (Bed t channel) a b two = absurd (none-some (a, b) two)
move_from (Wake t) a b two = absurd (none-some (a, b) two)
move_from (Look c) a b two = absurd (none-some (a, b) two)
move_from (Land t c) a b two = absurd (none-some (a, b) two)
move_from (Lend t p) a b two = absurd (none-some (a, b) two)
move_from (Unlend t) a b two = absurd (none-some (a, b) two)
move_from (Renice t n) a b two = absurd (none-some (a, b) two)
move_from (Hatch t) a b two = absurd (none-some (a, b) two)
move_from (Fork c t) a b two = absurd (none-some (a, b) two)
move_from (Return t) a b two = absurd (none-some (a, b) two)
move_from (Exit c) a b two = absurd (none-some (a, b) two)
move_from (Bury t) a b two = absurd (none-some (a, b) two)
move_from (Inherit t run) a b two = absurd (none-some (a, b) two)

-- one value taken out, another written, and the first put back are both written
both_written : (xs : List LockValue) (a b : ℕ) (x y z : LockValue) → a ≢ b → slice_set (slice_set (slice_set xs a x) b y) a z ≡ slice_set (slice_set xs a z) b y
both_written xs a b x y z apart =
    ap (λ (l : List LockValue). slice_set l a z) (set_comm xs a b x y apart) ∙ set-set (slice_set xs b y) a x z ∙ set_comm xs b a y z (λ same. apart (sym same))

-- the fields with the value of one lock taken out, that of another written, the first put back, and a hand written
abbrev pub written_both : Inside → (i j l : ℕ) → (between from to : LockValue) → ℕ → Option ThreadRecord → Inside
written_both s i j l between from to k hand = record {
  settings = s.settings;
  values = with_item (with_item (with_item s.values i between) j to) l from;
  hands = with_item s.hands k hand;
}

-- a step reads the values g and h of locks a and b from a world's fields, where x stands for the first, and what worker k has in hand
pub record ReadsBoth (s : Inside) (v : WorldValue) (worker : ℕ) (e : Event) (now a b i j k : ℕ) (g x h : LockValue) (held : Option ThreadRecord) : Type 0 where
  pub view : world_value s ≡ v
  pub can : CanStep v worker e now
  pub two : two_locks (locking e) ≡ Some (a, b)
  pub at_from : i ≡ a
  pub at_to : j ≡ b
  pub at_hand : k ≡ worker
  pub from : g ≡ slice_index_or s.values.items i g
  pub to : h ≡ slice_index_or (slice_set s.values.items i x) j h
  pub hand : held ≡ slice_index_or s.hands.items k held

module _ (s : Inside) (v : WorldValue) (worker : ℕ) (e : Event) (now a b i j k : ℕ) (g x h : LockValue) (held : Option ThreadRecord)
    (r : ReadsBoth s v worker e now a b i j k g x h held) where
  -- the event is a move
  move_is : (why : MoveWhy) × (e ≡ Move a b why)
  move_is = move_from e a b r.two

  -- the scheduler that the fields are finds what the step reads
  both : CanStepBoth (world_value s) worker a b
  both =
      can_step_both (world_value s) worker a b move_is.0 now
      (subst (λ (f : Event). CanStep (world_value s) worker f now) move_is.1 (subst (λ (y : WorldValue). CanStep y worker e now) (sym r.view) r.can))

  -- what the step reads is what the fields have there
  from_is : slice_get (world_value s).values a ≡ Some g
  from_is =
      slice_get-get_or s.values.items a g both.within_from ∙
      ap Some (sym (r.from ∙ ap (λ (n : ℕ). slice_index_or s.values.items n g) r.at_from))

  to_is : slice_get (world_value s).values b ≡ Some h
  to_is =
      slice_get-get_or s.values.items b h both.within_to ∙
      ap Some (sym (r.to ∙ ap (λ (n : ℕ). slice_index_or (slice_set s.values.items n x) j h) r.at_from ∙
      ap (λ (n : ℕ). slice_index_or (slice_set s.values.items a x) n h) r.at_to ∙ get_or-set_other s.values.items a b x h (λ same. both.apart (sym same))))

  hand_is : held_by (world_value s) worker ≡ held
  hand_is =
      get_or_from_slice_get s.hands.items worker held None
      (slice_get-get_or s.hands.items worker held both.worker_is ∙ ap Some (sym (r.hand ∙ ap (λ (n : ℕ). slice_index_or s.hands.items n held) r.at_hand)))

  -- the step may be made of it
  pub reads_can_both : CanStepPair g h held
  reads_can_both =
      subst (λ (y : LockValue). CanStepPair y h held) (same_Some (lock_value.queue both.from) g (sym both.found_from ∙ from_is))
      (subst (λ (y : LockValue). CanStepPair (lock_value.queue both.from) y held) (same_Some (lock_value.queue both.to) h (sym both.found_to ∙ to_is))
      (subst (λ (o : Option ThreadRecord). CanStepPair (lock_value.queue both.from) (lock_value.queue both.to) o) hand_is both.can))

  -- what was written back, where it is what the event made of what was read, is the step of the scheduler
  pub both_is_step : (l : ℕ) (hand : Option ThreadRecord) (from to : LockValue) (reply : Reply) → l ≡ a → hand ≡ (pair_step worker e now held g h).hand →
      from ≡ (pair_step worker e now held g h).from → to ≡ (pair_step worker e now held g h).to → reply ≡ (pair_step worker e now held g h).reply →
      (world_value (written_both s i j l x from to k hand), reply) ≡ value_step v worker e now
  both_is_step l hand from to reply at_back made_hand made_from made_to made_reply =
      ap (λ (n : ℕ). done (slice_set (slice_set (slice_set items n x) j to) l from) k hand reply) r.at_from ∙
      ap (λ (n : ℕ). done (slice_set (slice_set (slice_set items a x) n to) l from) k hand reply) r.at_to ∙
      ap (λ (n : ℕ). done (slice_set (slice_set (slice_set items a x) b to) n from) k hand reply) at_back ∙
      ap (λ (values : List LockValue). done values k hand reply) (both_written items a b x to from both.apart) ∙
      ap (λ (n : ℕ). done (slice_set (slice_set items a from) b to) n hand reply) r.at_hand ∙
      ap (λ (y : LockValue). done (slice_set (slice_set items a y) b to) worker hand reply) made_from ∙
      ap (λ (y : LockValue). done (slice_set (slice_set items a made.from) b y) worker hand reply) made_to ∙
      ap (λ (o : Option ThreadRecord). done (slice_set (slice_set items a made.from) b made.to) worker o reply) made_hand ∙
      ap (λ (y : Reply). done (slice_set (slice_set items a made.from) b made.to) worker made.hand y) made_reply ∙
      pair_made_is_step (world_value s) worker e now a b made (record {
        locks = ap locking move_is.1;
        from = g;
        to = h;
        found_from = from_is;
        found_to = to_is;
        made_is = ap (λ (o : Option ThreadRecord). pair_step worker e now o g h) (sym hand_is);
      }) ∙
      ap (λ (y : WorldValue). value_step y worker e now) r.view
    where
      items : List LockValue
      items = (world_value s).values

      made : PairStepped
      made = pair_step worker e now held g h

      done : List LockValue → ℕ → Option ThreadRecord → Reply → WorldValue × Reply
      done values n o y = (record { settings = s.settings; values = values; hands = slice_set s.hands.items n o }, y)

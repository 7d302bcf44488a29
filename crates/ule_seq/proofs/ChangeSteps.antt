-- The step of an event under a lock is what the calls of its arm make of the value there and of the hand.
use Rattle.std.proofs.Common.{◌≡◌, ℕ, ◌==◌, not, ⊎_elim, Option, Some, None, IfSome, refl, sym, ◌∙◌, ap, subst}
use Rattle.ule_score.specs.Changes.{after_change}
use Rattle.ule_score.specs.declared.record.Change.{Change}
use Rattle.ule_score.specs.declared.place.Place.{Place}
use Rattle.ule_score.specs.declared.place.Place.TheVariants.{Running, Queued, Asleep, Unborn, Gone, Hand}
use Rattle.ule_score.specs.declared.record.Settings.{Settings}
use Rattle.ule_score.specs.declared.record.ThreadRecord.{ThreadRecord}
use Rattle.ule_sleep.specs.Chain.{ChainValue, standing_in}
use Rattle.ule_sleep.specs.Limbo.{LimboValue}
use Rattle.ule_threads.specs.declared.standing.Standing.{Standing}
use Rattle.ule_types.specs.declared.event.Event.{Event}
use Rattle.ule_types.specs.declared.event.Reply.{Reply}
use Rattle.ule_model.specs.Actions.{Seen, change_action, change_action_at, unborn_action}
use Rattle.ule_model.specs.Action.{Action}
use Rattle.ule_model.specs.ActionStep.{on_chain, on_limbo, on_queue, seen_in, seen_off}
use Rattle.ule_model.specs.ActionValue.{action_in_slots, action_on_cpu}
use Rattle.ule_model.specs.CpuChange.{value_changed}
use Rattle.ule_model.specs.CpuValue.{CpuValue}
use Rattle.ule_model.specs.Events.{sought_by}
use Rattle.ule_model.specs.LockConditions.{CanStepChain, CanStepLimbo, CanStepQueue, HasPlaced, HasSleeper, HasStill}
use Rattle.ule_model.specs.LockValue.{LockValue, found_on}
use Rattle.ule_model.specs.LockValue as value
use Rattle.ule_model.specs.Actions.{unborn_answer}
use Rattle.ule_model.specs.Step.{Stepped, chain_step, limbo_step, queue_step}
use Rattle.ule_seq.specs.Calls.{chain_changed, limbo_changed, limbo_changed_at, limbo_changed_unborn}
use Rattle.ule_laws.proofs.SameValues.{change_same, queue_stepped}
use Rattle.ule_laws.proofs.SlotStands.{IsStill}

-- ---- what a step comes to, where it is that of a change

-- a change of a thread in limbo leaves the hand as it is
hand_in_limbo : (settings : Settings) (change : Change) (t : ℕ) (hand : Option ThreadRecord) (o : Option Standing) (v : LimboValue) → hand ≡ (limbo_changed settings change t hand o v).hand
hand_in_limbo settings change t hand None v = refl
hand_in_limbo settings change t hand (Some s) v = at s.place
  where
    unborn : (refused : Option Reply) → hand ≡ (limbo_changed_unborn refused settings change t hand s.thread v).hand
    unborn None = refl
    unborn (Some refusal) = refl

    at : (p : Place) → hand ≡ (limbo_changed_at p settings change t hand s.thread v).hand
    at Unborn = unborn (unborn_answer change)
    at Gone = refl
    at (Running c) = refl
    at (Queued c k b) = refl
    at (Asleep channel) = refl
    at (Hand w) = refl

-- a change of a sleeper leaves the hand as it is
hand_asleep : (settings : Settings) (change : Change) (t : ℕ) (hand : Option ThreadRecord) (o : Option Standing) (v : ChainValue) → hand ≡ (chain_changed settings change t hand o v).hand
hand_asleep settings change t hand None v = refl
hand_asleep settings change t hand (Some s) v = refl

-- in limbo
pub changed_in_limbo : (settings : Settings) (e : Event) (given : Change) (t : ℕ) (held : Option ThreadRecord) (v new : LimboValue) (reply : Reply) →
    ((worker now : ℕ) → limbo_step settings worker e now held v ≡ limbo_changed settings given t held (standing_in v.slots t) v) →
    ((h : Option ThreadRecord) → value.limbo new ≡ (limbo_changed settings given t h (standing_in v.slots t) v).value) →
    ((h : Option ThreadRecord) → reply ≡ (limbo_changed settings given t h (standing_in v.slots t) v).reply) →
    record {
      hand : (worker now : ℕ) → held ≡ (limbo_step settings worker e now held v).hand;
      value : (worker now : ℕ) → value.limbo new ≡ (limbo_step settings worker e now held v).value;
      reply : (worker now : ℕ) → reply ≡ (limbo_step settings worker e now held v).reply;
    }
changed_in_limbo settings e given t held v new reply is made told = record {
  hand = λ worker now. hand_in_limbo settings given t held (standing_in v.slots t) v ∙ sym (ap (λ (s : Stepped). s.hand) (is worker now));
  value = λ worker now. made held ∙ sym (ap (λ (s : Stepped). s.value) (is worker now));
  reply = λ worker now. told held ∙ sym (ap (λ (s : Stepped). s.reply) (is worker now));
}

-- on a chain
pub changed_asleep : (settings : Settings) (e : Event) (now : ℕ) (given : Change) (t : ℕ) (held : Option ThreadRecord) (v new : ChainValue) (reply : Reply) →
    ((worker : ℕ) → chain_step settings worker e now held v ≡ chain_changed settings given t held (standing_in v.slots t) v) →
    ((h : Option ThreadRecord) → value.chain new ≡ (chain_changed settings given t h (standing_in v.slots t) v).value) →
    ((h : Option ThreadRecord) → reply ≡ (chain_changed settings given t h (standing_in v.slots t) v).reply) →
    record {
      hand : (worker : ℕ) → held ≡ (chain_step settings worker e now held v).hand;
      value : (worker : ℕ) → value.chain new ≡ (chain_step settings worker e now held v).value;
      reply : (worker : ℕ) → reply ≡ (chain_step settings worker e now held v).reply;
    }
changed_asleep settings e now given t held v new reply is made told = record {
  hand = λ worker. hand_asleep settings given t held (standing_in v.slots t) v ∙ sym (ap (λ (s : Stepped). s.hand) (is worker));
  value = λ worker. made held ∙ sym (ap (λ (s : Stepped). s.value) (is worker));
  reply = λ worker. told held ∙ sym (ap (λ (s : Stepped). s.reply) (is worker));
}

-- on a CPU
pub changed_on_cpu : (worker : ℕ) (e : Event) (now : ℕ) (held : Option ThreadRecord) (v new : CpuValue) (reply : Reply) (made : CpuValue × Reply) →
    queue_step worker e now held v ≡ queue_stepped held made → new ≡ made.0 → reply ≡ made.1 →
    record {
      hand : held ≡ (queue_step worker e now held v).hand;
      value : value.queue new ≡ (queue_step worker e now held v).value;
      reply : reply ≡ (queue_step worker e now held v).reply;
    }
changed_on_cpu worker e now held v new reply made is left told = record {
  hand = sym (ap (λ (s : Stepped). s.hand) is);
  value = ap value.queue left ∙ sym (ap (λ (s : Stepped). s.value) is);
  reply = told ∙ sym (ap (λ (s : Stepped). s.reply) is);
}

-- ---- what a change is by the page

-- on a sleep chain

module _ (worker now : ℕ) (settings : Settings) (hand : Option ThreadRecord) (c : ChainValue) where
  -- what an action makes of the chain and the hand
  abbrev chain_acts : Action → Stepped
  chain_acts a = on_chain c (action_in_slots settings now a (record { hand = hand; slots = c.slots }))

  -- of this sleeper
  module _ (t channel : ℕ) (x : Standing) (found : standing_in c.slots t ≡ Some x) (asleep : x.place ≡ Asleep channel) (named : Option Standing) where
    chain_change_same : (given : Change) → chain_acts (change_action given t (standing_in c.slots t) (seen_off worker now settings named)) ≡ chain_changed settings given t hand (standing_in c.slots t) c
    chain_change_same given =
        ap (λ (o : Option Standing). chain_acts (change_action given t o (seen_off worker now settings named))) found ∙
        ap (λ (p : Place). chain_acts (change_action_at p given t x.thread (after_change settings given x.thread) (seen_off worker now settings named))) asleep ∙
        ap (λ (o : Option Standing). chain_changed settings given t hand o c) (sym found)

-- in limbo
module _ (worker now : ℕ) (settings : Settings) (hand : Option ThreadRecord) (c : LimboValue) where
  -- what an action makes of limbo and the hand
  abbrev limbo_acts : Action → Stepped
  limbo_acts a = on_limbo c (action_in_slots settings now a (record { hand = hand; slots = c.slots }))

  -- of this thread
  module _ (t : ℕ) (x : Standing) (found : standing_in c.slots t ≡ Some x) (still : IsStill x) (named : Option Standing) where
    -- by its place
    abbrev seen_here : Seen
    seen_here = seen_off worker now settings named

    by_place : (act : Place → Action) (meant : Place → Stepped) → limbo_acts (act Unborn) ≡ meant Unborn → limbo_acts (act Gone) ≡ meant Gone → limbo_acts (act x.place) ≡ meant x.place
    by_place act meant unborn gone =
        ⊎_elim (λ (is : x.place ≡ Unborn). ap (λ (p : Place). limbo_acts (act p)) is ∙ unborn ∙ ap meant (sym is)) (λ (is : x.place ≡ Gone). ap (λ (p : Place). limbo_acts (act p)) is ∙ gone ∙ ap meant (sym is)) still

    limbo_change_same : (given : Change) → limbo_acts (change_action given t (standing_in c.slots t) seen_here) ≡ limbo_changed settings given t hand (standing_in c.slots t) c
    limbo_change_same given =
        ap (λ (o : Option Standing). limbo_acts (change_action given t o seen_here)) found ∙
        by_place (λ p. change_action_at p given t x.thread (after_change settings given x.thread) seen_here) (λ p. limbo_changed_at p settings given t hand x.thread c) (unborn (unborn_answer given)) refl ∙
        ap (λ (o : Option Standing). limbo_changed settings given t hand o c) (sym found)
      where
        unborn : (o : Option Reply) → limbo_acts (unborn_action o given t (after_change settings given x.thread)) ≡ limbo_changed_unborn o settings given t hand x.thread c
        unborn None = refl
        unborn (Some refusal) = refl

-- ---- on a CPU

module _ (worker now : ℕ) (hand : Option ThreadRecord) (v : CpuValue) (e : Event) (can : CanStepQueue v hand e now) where
  -- the step of an event that is this one
  abbrev StepIs : Stepped → Type 0
  StepIs made = queue_step worker e now hand v ≡ made

  -- its step is what the step of the other is
  as_this : (f : Event) (made : Stepped) → e ≡ f → queue_step worker f now hand v ≡ made → StepIs made
  as_this f made is same = ap (λ (x : Event). queue_step worker x now hand v) is ∙ same

  -- the thread that it seeks is on the CPU
  sought_here : (f : Event) → e ≡ f → IfSome (sought_by f) (HasPlaced v)
  sought_here f is = subst (λ (x : Event). IfSome (sought_by x) (HasPlaced v)) is can.sought

  -- an event that changes the priority of a thread on the CPU
  pub change_call : (t : ℕ) (given : Change) (f : Event) → e ≡ f →
      queue_step worker f now hand v ≡ on_queue (action_on_cpu now (change_action given t (found_on v t) (seen_in worker now (found_on v t) v)) (record { hand = hand; value = v })) →
      (IfSome (sought_by f) (HasPlaced v) → HasPlaced v t) → StepIs (queue_stepped hand (value_changed t given (not (worker == v.cpu)) v))
  change_call t given f is acts here =
      let h = here (sought_here f is) in
      as_this f (queue_stepped hand (value_changed t given (not (worker == v.cpu)) v)) is (acts ∙ change_same worker now hand v given t h.0 h.1 h.2)

-- ---- on a sleep chain

module _ (worker now : ℕ) (settings : Settings) (hand : Option ThreadRecord) (v : ChainValue) (e : Event) (can : CanStepChain v hand e now) where
  -- the step of an event that is this one
  abbrev ChainStepIs : Stepped → Type 0
  ChainStepIs made = chain_step settings worker e now hand v ≡ made

  -- its step is what the step of the other is
  as_this_chain : (f : Event) (made : Stepped) → e ≡ f → chain_step settings worker f now hand v ≡ made → ChainStepIs made
  as_this_chain f made is same = ap (λ (x : Event). chain_step settings worker x now hand v) is ∙ same

  -- the thread that it seeks sleeps on the chain
  sleeper_here : (f : Event) → e ≡ f → IfSome (sought_by f) (HasSleeper v)
  sleeper_here f is = subst (λ (x : Event). IfSome (sought_by x) (HasSleeper v)) is can.sought

  -- an event that changes the priority of a sleeper
  pub chain_change_call : (t : ℕ) (given : Change) (f : Event) → e ≡ f →
      chain_step settings worker f now hand v ≡ on_chain v (action_in_slots settings now (change_action given t (standing_in v.slots t) (seen_off worker now settings (standing_in v.slots t))) (record { hand = hand; slots = v.slots })) →
      (IfSome (sought_by f) (HasSleeper v) → HasSleeper v t) → ChainStepIs (chain_changed settings given t hand (standing_in v.slots t) v)
  chain_change_call t given f is acts here =
      let h = here (sleeper_here f is) in
      as_this_chain f (chain_changed settings given t hand (standing_in v.slots t) v) is (acts ∙ chain_change_same worker now settings hand v t h.1 h.0 h.2 h.3 (standing_in v.slots t) given)

-- ---- in limbo

module _ (worker now : ℕ) (settings : Settings) (hand : Option ThreadRecord) (v : LimboValue) (e : Event) (can : CanStepLimbo v hand e) where
  -- the step of an event that is this one
  abbrev LimboStepIs : Stepped → Type 0
  LimboStepIs made = limbo_step settings worker e now hand v ≡ made

  -- its step is what the step of the other is
  as_this_limbo : (f : Event) (made : Stepped) → e ≡ f → limbo_step settings worker f now hand v ≡ made → LimboStepIs made
  as_this_limbo f made is same = ap (λ (x : Event). limbo_step settings worker x now hand v) is ∙ same

  -- the thread that it seeks is in limbo
  still_here : (f : Event) → e ≡ f → IfSome (sought_by f) (HasStill v)
  still_here f is = subst (λ (x : Event). IfSome (sought_by x) (HasStill v)) is can.sought

  -- an event that changes the priority of a thread there
  pub limbo_change_call : (t : ℕ) (given : Change) (f : Event) → e ≡ f →
      limbo_step settings worker f now hand v ≡ on_limbo v (action_in_slots settings now (change_action given t (standing_in v.slots t) (seen_off worker now settings (standing_in v.slots t))) (record { hand = hand; slots = v.slots })) →
      (IfSome (sought_by f) (HasStill v) → HasStill v t) → LimboStepIs (limbo_changed settings given t hand (standing_in v.slots t) v)
  limbo_change_call t given f is acts here =
      let h = here (still_here f is) in
      as_this_limbo f (limbo_changed settings given t hand (standing_in v.slots t) v) is (acts ∙ limbo_change_same worker now settings hand v t h.0 h.1 h.2 (standing_in v.slots t) given)

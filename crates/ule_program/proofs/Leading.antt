-- Where a worker goes from where it has come to: by a command, and by the reply to its event; and what its event names, needs and hatches.
use Rattle.std.proofs.Common.{◌≡◌, ℕ, ◌+◌, ◌≤◌, Bool, true, List, [], Option, Some, None, refl, sym, ◌∙◌, subst, arith}
use Rattle.std.proofs.lemmas.Option.{none-some}
use Rattle.ule_types.specs.Commands.{amount_of, forked_by, greatest_of, is_among, is_command}
use Rattle.ule_types.specs.Needs.{FitsHand, handling, hatched_by}
use Rattle.ule_types.specs.Words.{change_of}
use Rattle.ule_types.specs.declared.command.Command.{Command}
use Rattle.ule_types.specs.declared.event.Event.{Event}
use Rattle.ule_types.specs.declared.event.Item.TheVariants as item
use Rattle.ule_types.specs.declared.event.Reply.{Reply}
use Rattle.ule_topo.specs.Tree.{Tree}
use Rattle.ule_program.specs.Hearing.{Allows, CanHear, IsReplyTo, IsSeat}
use Rattle.ule_program.specs.Laws.{IsStageBy, LeadsTo, NamesWhatIs, hand_after, hand_by_word, hatching, time_at}
use Rattle.ule_program.specs.Program.{Own, Next, Sees, Purpose, ToLand, Stage, Ended, Advances, Gives, after, begun, heard, in_hand, item_at, most, most_after}
use Rattle.ule_program.proofs.ProgramLaws.{allows_any, item_fits, to_after, to_begun}

-- an advance of time is no event
pub advance_no_event : (k : ℕ) (e : Event) → Some (item.Advance k) ≡ Some (item.Event e) → ⊥
advance_no_event k e is = cc

-- the event of an item is one
pub one_event : (e f : Event) → Some (item.Event e) ≡ Some (item.Event f) → e ≡ f
one_event e f is = cc

-- a stage without an item is the end of its command
pub ended_stage : (st : Stage) → item_at st ≡ None → st ≡ Ended
ended_stage Ended none = refl
ended_stage (Advances k) none = cc
ended_stage (Gives e next) none = cc

-- what a stage keeps by one time it keeps by any later one
pub stage_later : (st : Stage) (now later : ℕ) → now ≤ later → IsStageBy now st → IsStageBy later st
stage_later Ended now later past by = tt
stage_later (Advances k) now later past by = tt
stage_later (Gives e next) now later past by = next_later next by
  where
    purpose_later : (purpose : Purpose) → IsStageBy now (Gives e (Sees purpose)) → IsStageBy later (Gives e (Sees purpose))
    purpose_later (ToLand t card) by = omega (arith, by, past)
    purpose_later _ by = tt

    next_later : (next : Next) → IsStageBy now (Gives e next) → IsStageBy later (Gives e next)
    next_later (Sees purpose) by = purpose_later purpose by
    next_later _ by = tt

module _ (declared : ℕ → Bool) (worker : ℕ) (t : Tree) where
  -- has come: where a worker has come to by a time, with the numbers that it has there
  abbrev pub HasCome : ℕ → Own → Type 0
  HasCome now own = LeadsTo declared worker t now (most own) (time_at own.stage) (hatching own.stage) (in_hand own.stage) own

  -- wherever a worker has come to, it has the numbers that it has there
  pub at_itself : (now n k : ℕ) (us : List ℕ) (held : Option ℕ) (own : Own) → LeadsTo declared worker t now n k us held own → HasCome now own
  at_itself now n k us held own led = record {
    same_worker = led.same_worker;
    same_topology = led.same_topology;
    few = omega arith;
    time = refl;
    hatches = refl;
    hand = refl;
    sound = led.sound;
    named = led.named;
    by_now = led.by_now;
  }

  -- where it has come to by one time it has come to by any later one
  pub come_later : (now later : ℕ) (own : Own) → now ≤ later → HasCome now own → HasCome later own
  come_later now later own past come = record {
    same_worker = come.same_worker;
    same_topology = come.same_topology;
    few = come.few;
    time = come.time;
    hatches = come.hatches;
    hand = come.hand;
    sound = come.sound;
    named = come.named;
    by_now = stage_later own.stage now later past come.by_now;
  }

  -- the worker's seat, by its own part
  seat_of : IsSeat worker t → (own : Own) → own.worker ≡ worker → own.topology ≡ t → IsSeat own.worker own.topology
  seat_of seat own same_worker same_topology = subst (λ s. IsSeat own.worker s) (sym same_topology) (subst (λ w. IsSeat w t) (sym same_worker) seat)

  -- a reply that a worker's event can have is one from which it goes on
  pub allowed_at : (now n k : ℕ) (us : List ℕ) (held : Option ℕ) (own : Own) (e : Event) (next : Next) (r : Reply) → LeadsTo declared worker t now n k us held (record own { stage = Gives e next }) →
      IsReplyTo declared t.cpus now e r → Allows declared own.worker own.topology.cpus next r now
  allowed_at now n k us held own e next r led says =
      subst (λ w. Allows declared w own.topology.cpus next r now) (sym led.same_worker)
      (subst (λ (s : Tree). Allows declared worker s.cpus next r now) (sym led.same_topology) (led.named.allows r now says led.by_now))

  -- an event at a stage: it names what there is, has the hand that it needs, and hatches what the stage hatches
  pub record IsEventAt (st : Stage) (e : Event) : Type 0 where
    pub names : NamesWhatIs declared t.cpus e
    pub fits : FitsHand (in_hand st) (handling e)
    pub hatches : hatching st ≡ hatched_by e

  pub event_at : (now : ℕ) (own : Own) (st : Stage) (e : Event) → item_at st ≡ Some (item.Event e) → HasCome now (record own { stage = st }) → IsEventAt st e
  event_at now own Ended e is come = absurd (none-some (item.Event e) is)
  event_at now own (Advances k) e is come = absurd (advance_no_event k e is)
  event_at now own (Gives f next) e is come =
      subst (IsEventAt (Gives f next)) (one_event f e is) (record { names = come.named.names; fits = item_fits next (handling f); hatches = refl })

  -- where the reply to a worker's event leads: to fewer items, with this in hand; and the reply can be heard
  pub record IsTold (now : ℕ) (e : Event) (r : Reply) (st : Stage) (own new : Own) : Type 0 where
    pub come : HasCome now new
    pub fewer : most new + 1 ≤ most own
    pub hatches : hatching new.stage ≡ []
    pub hand : in_hand new.stage ≡ hand_by_word (handling e) (change_of e r) (in_hand st)
    pub hears : CanHear (Some (r, now)) own

  pub reply_at : IsSeat worker t → (now : ℕ) (own : Own) (st : Stage) (e : Event) (r : Reply) → item_at st ≡ Some (item.Event e) → HasCome now (record own { stage = st }) →
      IsReplyTo declared t.cpus now e r → IsTold now e r st (record own { stage = st }) (heard st r now (record own { stage = st }))
  reply_at seat now own Ended e r is come says = absurd (none-some (item.Event e) is)
  reply_at seat now own (Advances k) e r is come says = absurd (advance_no_event k e is)
  reply_at seat now own (Gives f next) e r is come says =
      subst (λ x. IsReplyTo declared t.cpus now x r → IsTold now x r (Gives f next) (record own { stage = Gives f next }) (after next r now (record own { stage = Gives f next })))
      (one_event f e is) told says
    where
      at : Own
      at = record own { stage = Gives f next }

      told : IsReplyTo declared t.cpus now f r → IsTold now f r (Gives f next) at (after next r now at)
      told said =
          let allowed : Allows declared own.worker own.topology.cpus next r now =
          allowed_at now (most at) 0 (hatched_by f) (in_hand (Gives f next)) own f next r come said in
          let led : LeadsTo declared worker t now (most_after next at) 0 [] (hand_after next r) (after next r now at) =
          subst (λ w. LeadsTo declared w t now (most_after next at) 0 [] (hand_after next r) (after next r now at)) come.same_worker
          (subst (λ s. LeadsTo declared own.worker s now (most_after next at) 0 [] (hand_after next r) (after next r now at)) come.same_topology
          (to_after declared at next r now (seat_of seat own come.same_worker come.same_topology) come.sound come.named.charges allowed)) in
          record {
            come = at_itself now (most_after next at) 0 [] (hand_after next r) (after next r now at) led;
            fewer = omega (arith, led.few);
            hatches = led.hatches;
            hand = led.hand ∙ sym (come.named.hand r now said);
            hears = allows_any declared own.worker own.topology.cpus next r now allowed;
          }

-- where a worker's valid command begins
pub command_leads : (ids : List ℕ) (worker : ℕ) (t : Tree) (now : ℕ) (c : Command) (own : Own) → IsSeat worker t → is_command ids t.cpus c ≡ true → own.worker ≡ worker → own.topology ≡ t →
    LeadsTo (is_among ids) worker t now (greatest_of c worker t.cpus) (amount_of c) (forked_by c) None (begun c own)
command_leads ids worker t now c own seat valid same_worker same_topology =
    subst (λ s. LeadsTo (is_among ids) worker s now (greatest_of c worker s.cpus) (amount_of c) (forked_by c) None (begun c own)) same_topology
    (subst (λ w. LeadsTo (is_among ids) w own.topology now (greatest_of c w own.topology.cpus) (amount_of c) (forked_by c) None (begun c own)) same_worker
    (to_begun ids own now c (seat_of (is_among ids) worker t seat own same_worker same_topology) (subst (λ (s : Tree). is_command ids s.cpus c ≡ true) (sym same_topology) valid)))

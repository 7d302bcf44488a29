-- The step of the scheduler is made of what was read under the event's lock and in the worker's hand.
use Rattle.std.proofs.Common.{◌≡◌, sym, ap}
use Rattle.ule_model.specs.WorldValue.{WorldValue, value_step}
use Rattle.ule_types.specs.declared.event.Reply.{Reply}
use Rattle.ule_model.specs.Events.{locking}
use Rattle.ule_laws.proofs.WorldSteps.{none_is_step, value_step_shown}
use Rattle.ule_seq.specs.Worlds.{world_value}
use Rattle.ule_seq.proofs.PairWritten.{one_alone}
use Rattle.ule_seq.proofs.WorldLaws.{reads_can, written, written_is_step}
use Rattle.ule_seq.proofs.world.World.step_under_one.Goals as goal

pub returns-in_default-clause-value : goal.returns-in_default-clause-value
returns-in_default-clause-value c =
    ap (λ (x : WorldValue × Reply). x.0) (none_is_step c.args.self.now c.args.worker c.args.e.now c.args.now (one_alone (locking c.args.e.now) c.requires.one) (sym c.in_default.ensures.lock))

pub returns-in_default-clause-reply : goal.returns-in_default-clause-reply
returns-in_default-clause-reply c =
    ap (λ (x : WorldValue × Reply). x.1) (none_is_step c.args.self.now c.args.worker c.args.e.now c.args.now (one_alone (locking c.args.e.now) c.requires.one) (sym c.in_default.ensures.lock))

pub step_at-requires-clause-step : goal.step_at-requires-clause-step
step_at-requires-clause-step c =
    reads_can c.self.inside c.args.self.now c.args.worker c.args.e.now c.args.now c.in-Some.lock c.index_mut-guarded.result.now c.from.result c.index_mut-hand.result.now (record {
      view = c.self.view_is;
      can = c.requires.can;
      lock = sym c.in-Some.ensures.lock;
      value = c.index_mut-guarded.ensures.value;
      from = c.from.ensures;
      hand = c.index_mut-hand.ensures.value;
    })

-- what the fields are now is the step
is_step : (c : goal.After-self-2-1) →
    (world_value (written c.self.inside c.in-Some.lock c.step_at.new.guarded c.from.result c.step_at.new.hand), c.step_at.result) ≡ value_step c.args.self.now c.args.worker c.args.e.now c.args.now
is_step c =
    written_is_step c.self.inside c.args.self.now c.args.worker c.args.e.now c.args.now c.in-Some.lock c.index_mut-guarded.result.now c.from.result c.index_mut-hand.result.now c.step_at.new.guarded c.step_at.new.hand c.step_at.result (record {
      view = c.self.view_is;
      can = c.requires.can;
      lock = sym c.in-Some.ensures.lock;
      value = c.index_mut-guarded.ensures.value;
      from = c.from.ensures;
      hand = c.index_mut-hand.ensures.value;
    }) (record { hand_is = c.step_at.ensures.hand; value_is = c.step_at.ensures.value; reply_is = c.step_at.ensures.reply })

pub invariant_of-self : goal.invariant_of-self
invariant_of-self c = record {
  settings = c.self.invariant.settings;
  workers = c.self.invariant.workers;
  shown = value_step_shown c.args.self.now c.args.worker c.args.e.now c.args.now
      (world_value (written c.self.inside c.in-Some.lock c.step_at.new.guarded c.from.result c.step_at.new.hand), c.step_at.result) (is_step c) c.requires.can;
}

pub returns-clause-value : goal.returns-clause-value
returns-clause-value c = ap (λ (x : WorldValue × Reply). x.0) (is_step c)

pub returns-clause-reply : goal.returns-clause-reply
returns-clause-reply c = ap (λ (x : WorldValue × Reply). x.1) (is_step c)

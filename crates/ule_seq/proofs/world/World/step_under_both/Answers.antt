-- The step of the scheduler is made of what was read under two locks and in the worker's hand.
use Rattle.std.proofs.Common.{ap}
use Rattle.ule_model.specs.WorldValue.{WorldValue}
use Rattle.ule_types.specs.declared.event.Reply.{Reply}
use Rattle.ule_laws.proofs.WorldSteps.{value_step_shown}
use Rattle.ule_seq.proofs.PairWritten.{both_is_step, reads_can_both}
use Rattle.ule_seq.proofs.world.World.step_under_both.Goals as goal

pub step_pair_at-reply-requires : goal.step_pair_at-reply-requires
step_pair_at-reply-requires c =
    reads_can_both c.self.inside c.args.self.now c.args.worker c.args.e.now c.args._now c.args.a c.args.b c.from.result c.from-2.result c.from-3.result
    c.replace-from.result c.replace-from.new.dest c.index_mut-to.result.now c.index_mut-hand.result.now (record {
      view = c.self.view_is;
      can = c.requires.can;
      two = c.requires.two;
      at_from = c.from.ensures;
      at_to = c.from-2.ensures;
      at_hand = c.from-3.ensures;
      from = rw c.replace-from.ensures.value c.index_mut.ensures.value;
      to = c.index_mut-to.ensures.value;
      hand = c.index_mut-hand.ensures.value;
    })

pub invariant_of-self : goal.invariant_of-self
invariant_of-self c =
    let is =
    both_is_step c.self.inside c.args.self.now c.args.worker c.args.e.now c.args._now c.args.a c.args.b c.from.result c.from-2.result c.from-3.result
    c.replace-from.result c.replace-from.new.dest c.index_mut-to.result.now c.index_mut-hand.result.now (record {
      view = c.self.view_is;
      can = c.requires.can;
      two = c.requires.two;
      at_from = c.from.ensures;
      at_to = c.from-2.ensures;
      at_hand = c.from-3.ensures;
      from = rw c.replace-from.ensures.value c.index_mut.ensures.value;
      to = c.index_mut-to.ensures.value;
      hand = c.index_mut-hand.ensures.value;
    }) c.from-4.result c.step_pair_at-reply.new.hand c.step_pair_at-reply.new.from c.step_pair_at-reply.new.to c.step_pair_at-reply.result c.from-4.ensures
    (c.step_pair_at-reply.ensures.hand c.args._now) (c.step_pair_at-reply.ensures.from c.args._now) (c.step_pair_at-reply.ensures.to c.args._now)
    (c.step_pair_at-reply.ensures.reply c.args._now) in record {
      settings = c.self.invariant.settings;
      workers = c.self.invariant.workers;
      shown = value_step_shown c.args.self.now c.args.worker c.args.e.now c.args._now _ is c.requires.can;
    }

pub returns : goal.returns
returns c =
    let is =
    both_is_step c.self.inside c.args.self.now c.args.worker c.args.e.now c.args._now c.args.a c.args.b c.from.result c.from-2.result c.from-3.result
    c.replace-from.result c.replace-from.new.dest c.index_mut-to.result.now c.index_mut-hand.result.now (record {
      view = c.self.view_is;
      can = c.requires.can;
      two = c.requires.two;
      at_from = c.from.ensures;
      at_to = c.from-2.ensures;
      at_hand = c.from-3.ensures;
      from = rw c.replace-from.ensures.value c.index_mut.ensures.value;
      to = c.index_mut-to.ensures.value;
      hand = c.index_mut-hand.ensures.value;
    }) c.from-4.result c.step_pair_at-reply.new.hand c.step_pair_at-reply.new.from c.step_pair_at-reply.new.to c.step_pair_at-reply.result c.from-4.ensures
    (c.step_pair_at-reply.ensures.hand c.args._now) (c.step_pair_at-reply.ensures.from c.args._now) (c.step_pair_at-reply.ensures.to c.args._now)
    (c.step_pair_at-reply.ensures.reply c.args._now) in record {
      value = ap (λ (x : WorldValue × Reply). x.0) is;
      reply = ap (λ (x : WorldValue × Reply). x.1) is;
    }

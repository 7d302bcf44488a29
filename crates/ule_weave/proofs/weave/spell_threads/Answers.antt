use Rattle.std.proofs.Common.{◌≡◌, true, sym, subst, ap, ◌∙◌, ◌++◌, [], ◌∷◌, codes, length, length-append, arith}
use Rattle.ule_micro.specs.States.{word_of}
use Rattle.ule_parts.specs.Workers.{declared_ids_of}
use Rattle.ule_trace.specs.Line.{spaced}
use Rattle.ule_types.specs.Commands.{is_among}
use Rattle.ule_weave.specs.TurnText.{thread_word}
use Rattle.ule_weave.specs.WeaveText.{places_in}
use Rattle.ule_weave.proofs.Listing.{listed_none, thread_more, threads_end}
use Rattle.ule_weave.proofs.weave.spell_threads.Goals as goal

pub loop-t-init : goal.loop-t-init
loop-t-init c = record { listed = listed_none c.args.held.now (codes "threads") c.text.new.self c.text.ensures; room = omega (arith, simp length-append at (ap length c.text.ensures)) }

pub place-requires : goal.place-requires
place-requires c = record { declared = subst (λ t. is_among (declared_ids_of c.args.m.now.parts) t ≡ true) (sym c.t-item.is) (c.requires.declared c.loop-t.t-index c.t-item.result c.loop-t-test.true) }

pub loop-t-preserved : goal.loop-t-preserved
loop-t-preserved c = record {
  listed = thread_more (word_of c.args.m.now.state) (places_in c.args.m.now.parts c.args.m.now.state) c.args.threads.now c.loop-t.t-index c.t-item.result c.place.result
      c.args.held.now c.loop-t.held c.spell_thread.new.held c.loop-t.any c.loop-t.invariant.listed c.loop-t-test.true c.t-item.is c.place.ensures.stands
      (c.spell_thread.ensures.text ∙ ap (λ w. c.loop-t.held ++ spaced (thread_word c.t-item.result w c.place.result ∷ [])) c.word.ensures);
  room = omega arith;
}

pub returns : goal.returns
returns c = record {
  text = threads_end (word_of c.args.m.now.state) (places_in c.args.m.now.parts c.args.m.now.state) c.args.threads.now c.loop-t.t-index c.args.held.now c.loop-t.held c.spell_end.new.held
      c.loop-t.any (omega arith) c.loop-t.invariant.listed c.spell_end.ensures.some c.spell_end.ensures.none;
}

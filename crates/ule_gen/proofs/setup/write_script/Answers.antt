use Rattle.std.proofs.Common.{◌≡◌, ◌<◌, ◌≤◌, ◌+◌, ◌∷◌, [], length, arith, refl, rules, sym, ap, ◌∙◌}
use Rattle.ule_types.specs.declared.command.Command.TheVariants as command
use Rattle.ule_gen.proofs.Written.{count_kept, drawn_so_far, unwritten, word_more, written_more, written_whole}
use Rattle.ule_gen.specs.Generated.{commands, generated, word_behind}
use Rattle.ule_gen.specs.declared.draw.Drawn.{Drawn}
use Rattle.ule_gen.proofs.setup.write_script.Goals as goal

pub loop-k-init : goal.loop-k-init
unfolding commands word_behind
loop-k-init c = (sym (unwritten c.args.scripts.now c.args.worker c.requires.empty), refl)

pub push-requires-clause-room : goal.push-requires-clause-room
push-requires-clause-room c =
    let within : c.args.worker < length c.args.scripts.now = omega (arith, c.requires.count, c.requires.worker) in
    omega (arith, drawn_so_far c.loop-k.scripts c.args.scripts.now c.args.worker c.loop-k._k c.args.first within c.loop-k.invariant.0)

pub end_script-requires-clause-count : goal.end_script-requires-clause-count
end_script-requires-clause-count c = count_kept c.loop-k.scripts c.args.scripts.now c.args.worker (commands c.loop-k._k c.args.first) c.loop-k.invariant.0 ∙ c.requires.count

pub end_script-requires-clause-few : goal.end_script-requires-clause-few
end_script-requires-clause-few c =
    let within : c.args.worker < length c.args.scripts.now = omega (arith, c.requires.count, c.requires.worker) in
    omega (arith, drawn_so_far c.loop-k.scripts c.args.scripts.now c.args.worker c.loop-k._k c.args.first within c.loop-k.invariant.0, c.requires.few)

pub loop-k-preserved : goal.loop-k-preserved
loop-k-preserved c =
    let within : c.args.worker < length c.args.scripts.now = omega (arith, c.requires.count, c.requires.worker) in
    let drawn = c.generated-drawn.ensures ∙ ap generated c.loop-k.invariant.1 in (
      written_more c.loop-k.scripts c.args.scripts.now c.push.new.self c.args.worker c.loop-k._k c.args.first c.generated-drawn.result.command within c.loop-k.invariant.0
          (ap (λ (x : Drawn). x.command) drawn) c.in_ok-push.ensures.ok,
      ap (λ (x : Drawn). x.word) drawn ∙ sym (word_more c.loop-k._k c.args.first),
    )

use Rattle.std.proofs.Common.{sym, ap}
use Rattle.std.specs.Prelude.{Some}
use Rattle.ule_micro.specs.declared.word.Word.TheVariants.{Lock}
use Rattle.ule_micro.proofs.Starting.{one_more_said, pushed}
use Rattle.ule_micro.proofs.opening.first_words.Goals as goal

pub loop-t-preserved : goal.loop-t-preserved
loop-t-preserved g c = one_more_said (λ t. Some (Lock ((g.P.Parts.means c.args.parts.now).word t))) c.loop-t.t c.loop-t.words.items c.push.new.self.items (Lock c.word_at_start-l.result) c.loop-t.invariant (ap (λ l. Some (Lock l)) (sym c.word_at_start-l.ensures))
    (pushed c.push.result c.is_err.result _ _ _ c.is_err.ensures.value c.if-is_err.false c.push.ensures.items)

use Rattle.std.proofs.Common.{◌*◌, drop, length, sym, ◌∙◌, ap, arith}
use Rattle.std.proofs.lemmas.List.{take_all}
use Rattle.ule_plain.proofs.section.turns_of_line.Goals as goal

pub returns-then-behind-lt-TURNS : goal.returns-then-behind-lt-TURNS
returns-then-behind-lt-TURNS c =
    let back = c.split_at.ensures.back in
    back ∙ sym (take_all 64 (drop (64 * c.args.k) c.args.turns.now) (omega (arith, c.if-behind-lt-TURNS.true, ap length back)))

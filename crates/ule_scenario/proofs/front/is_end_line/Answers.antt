use Rattle.std.proofs.Common.{◌≡◌, [], ap, ◌∙◌}
use Rattle.ule_text.specs.Words.{cut}
use Rattle.ule_scenario.specs.Tokens.{tokens_of}
use Rattle.ule_scenario.specs.WordsKept.{seen, line_kept}
use Rattle.ule_scenario.specs.Front.{is_end_word}
use Rattle.ule_scenario.specs.declared.line.LineSoFar.{LineSoFar}
use Rattle.ule_scenario.specs.declared.line.Pieces.{Pieces}
use Rattle.ule_scenario.specs.declared.token.Token.{Token}
use Rattle.ule_scenario.proofs.front.is_end_line.Goals as goal

pub returns : goal.returns
returns c =
    let line = c.args.line.now in
    let kept : c.push_all.new.self ≡ line_kept line = c.push_all.ensures [] c.clear.ensures in
    let ended = c.end_word.ensures (cut line) (ap (λ (l : LineSoFar). l.pieces) kept) in
    let words : c.end_word.new.self.words ≡ seen (tokens_of line) = ap (λ (p : Pieces). p.words) ended in
    c.is_end_word.ensures ∙ ap (λ (t : Token). is_end_word t.name) (c.word.ensures (tokens_of line) words)

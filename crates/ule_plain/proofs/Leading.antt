-- Written lines that lead from one setup so far to the next.
use Rattle.std.proofs.Common.{◌≡◌, ℕ, ◌+◌, true, false, List, [], ◌∷◌, ◌++◌, length, fold, map, refl, ap, ◌∙◌, arith, Some, None, Option}
use Rattle.std.proofs.lemmas.Bool.{ne_eqb}
use Rattle.std.specs.Prelude.{Result, Ok}
use Rattle.std.specs.List.{list_all}
use Rattle.std.proofs.lemmas.Grind.{fold-append, flat_map-append}
use Rattle.ule_text.specs.Words.{Word}
use Rattle.ule_scenario.proofs.WholeLines.{line_whole}
use Rattle.ule_scenario.specs.Effects.{with_line}
use Rattle.ule_scenario.specs.Forms.{Line, name}
use Rattle.ule_scenario.specs.Reading.{Reading}
use Rattle.ule_scenario.specs.Reasons.{reason_of}
use Rattle.ule_scenario.specs.Scenario.{TextRead, LinesRead, after_byte, after_line, after_words, judged, means_nothing}
use Rattle.ule_scenario.specs.Tokens.{token_of}
use Rattle.ule_scenario.specs.declared.token.Token.{Token}
use Rattle.ule_scenario.specs.declared.reason.Reason.{Reason}
use Rattle.ule_scenario.specs.declared.reason.Refusal.{Refusal}
use Rattle.ule_trace.specs.Line.{joined, line_text, lines_text}
use Rattle.ule_text.proofs.Printed.{is_word}
use Rattle.ule_plain.proofs.WordsBack.{words_back, line_unprinted, line_unbroken}

-- a text between two lines: n lines gave this setup so far
abbrev pub between : ℕ → Reading → TextRead
between n r = record { told = record { lines = n; reading = Ok r }; line = [] }

-- some lines lead from a setup so far to another one, and nothing refuses them
pub record Leads (r : Reading) (text : List ℕ) (s : Reading) : Type 0 where
  pub lines : ℕ → ℕ
  pub leads : (n : ℕ) → fold after_byte (between n r) text ≡ between (lines n) s

-- no line
pub leads_nowhere : (r : Reading) → Leads r [] r
leads_nowhere r = record { lines = λ n. n; leads = λ n. refl }

-- some lines, and then others
pub leads_on : {r s t : Reading} {one more : List ℕ} → Leads r one s → Leads s more t → Leads r (one ++ more) t
leads_on {r} {s} {t} {one} {more} a b = record {
  lines = λ n. b.lines (a.lines n);
  leads = λ n. fold-append after_byte (between n r) one more ∙ ap (λ (u : TextRead). fold after_byte u more) (a.leads n) ∙ b.leads (a.lines n);
}

-- a line's words give the next setup so far
pub record Takes (r : Reading) (line : Line) (s : Reading) : Type 0 where
  pub means : means_nothing line ≡ false
  pub unopposed : reason_of r line ≡ None
  pub gives : with_line r line (name line 0) ≡ s

-- a line with a word that begins no comment
pub means_something : (t : Token) (ts : Line) → t.comment ≡ false → means_nothing (t ∷ ts) ≡ false
means_something t ts none = rw (ne_eqb (length (t ∷ ts)) 0 (λ e. omega (arith, e))) none

-- a line without a reason against it
judged_so : (n : ℕ) (r s : Reading) (line : Line) (x : Option Reason) → x ≡ None → with_line r line (name line 0) ≡ s → judged n r line x ≡ Ok s
judged_so n r s line None none gives = ap (λ (u : Reading). Ok u) gives
judged_so n r s line (Some x) none gives = cc

-- what the words of a line come to
words_taken : (n : ℕ) (r s : Reading) (line : Line) → Takes r line s → after_words n r line ≡ Ok s
words_taken n r s line t = rw t.means (judged_so n r s line (reason_of r line) t.unopposed t.gives)

-- a written line
pub leads_line : {r s : Reading} (ws : List Word) → list_all is_word ws ≡ true → Takes r (map token_of ws) s → Leads r (line_text ws) s
leads_line {r} {s} ws all t = record {
  lines = λ n. n + 1;
  leads = λ n. line_whole (between n r) (joined ws) (line_unbroken ws all) ∙ ap (λ (x : Result Reading Refusal). record { told = record { lines = n + 1; reading = x }; line = [] }) (taken n);
}
  where
    taken : (n : ℕ) → (LinesRead.reading (after_line (record { lines = n; reading = Ok r }) (joined ws))) ≡ Ok s
    taken n = rw (line_unprinted ws all, words_back ws all) (words_taken (n + 1) r s (map token_of ws) t)

-- lines in two parts
pub lines_cut : (one more : List (List Word)) → lines_text (one ++ more) ≡ lines_text one ++ lines_text more
lines_cut one more = flat_map-append line_text one more

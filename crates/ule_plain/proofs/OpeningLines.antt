-- What the lines up to the number of CPUs give.
use Rattle.std.proofs.Common.{◌≡◌, ℕ, ◌^◌, ◌<◌, ◌≤◌, true, List, [], ◌∷◌, map, refl, sym, subst, arith}
use Rattle.std.specs.Prelude.{codes, nat_lt, nat_le, ◌&&◌}
use Rattle.std.specs.Fmt.{decimal}
use Rattle.std.proofs.lemmas.Bool.{and_parts, le-leb, leb-true, ltb-true}
use Rattle.ule_prio.specs.Class.{is_within}
use Rattle.ule_score.specs.Settings.{are_settings}
use Rattle.ule_score.specs.declared.record.Settings.{Settings}
use Rattle.ule_types.specs.Defaults.{default_settings}
use Rattle.ule_scenario.specs.Reading.{Reading, no_line}
use Rattle.ule_scenario.specs.Reasons.{place_reason, word_reason, meaning_reason}
use Rattle.ule_scenario.specs.Tokens.{token_of}
use Rattle.ule_scenario.specs.declared.name.Name.TheVariants.{Set, Jitter, Cpus, Interact, Slice, Preempt, Steal}
use Rattle.ule_scenario.specs.declared.token.Token.{Token}
use Rattle.ule_trace.specs.Line.{line_text, lines_text}
use Rattle.ule_plain.proofs.CommandLines.{keyword}
use Rattle.ule_plain.proofs.Leading.{Leads, Takes, leads_line, leads_on, leads_nowhere, lines_cut}
use Rattle.ule_plain.proofs.NumbersBack.{IsNumber, token_back, small_is_word}
use Rattle.ule_plain.specs.Lines.{header_words, setting_words, jitter_words, cpus_words}
use Rattle.ule_plain.specs.Text.{setting_lines, opening_lines}

-- the setup so far behind some settings: the place, and the least setting that may come next
abbrev behind_settings : ℕ → ℕ → Settings → Reading
behind_settings place from s = record no_line { place = place; settings_from = from; settings = s }

-- the setup so far behind the number of CPUs
abbrev pub opened : Settings → ℕ → ℕ → Reading
opened s jitter cpus = record no_line { place = 4; settings_from = 4; settings = s; jitter = jitter; cpus = cpus }

-- ---- a line

header_taken : Takes no_line (map token_of header_words) (behind_settings 1 0 default_settings)
unfolding token_of place_reason word_reason meaning_reason
header_taken = record { means = refl; unopposed = refl; gives = refl }

interact_taken : (s : Settings) (w : Token) (n : ℕ) → IsNumber w n → 1 ≤ n → n ≤ 100 → Takes (behind_settings 1 0 s) (keyword Set ∷ keyword Interact ∷ w ∷ []) (behind_settings 2 1 (record s { interact = n }))
unfolding place_reason word_reason meaning_reason
interact_taken s w n is low high = record { means = refl; unopposed = rw (is.minus, is.number, le-leb 1 n low, le-leb n 100 high) refl; gives = rw (is.minus, is.number) refl }

slice_taken : (s : Settings) (w : Token) (n : ℕ) → IsNumber w n → 6 ≤ n → n ≤ 1000 → Takes (behind_settings 2 1 s) (keyword Set ∷ keyword Slice ∷ w ∷ []) (behind_settings 2 2 (record s { slice = n }))
unfolding place_reason word_reason meaning_reason
slice_taken s w n is low high = record { means = refl; unopposed = rw (is.minus, is.number, le-leb 6 n low, le-leb n 1000 high) refl; gives = rw (is.minus, is.number) refl }

preempt_taken : (s : Settings) (w : Token) (n : ℕ) → IsNumber w n → n ≤ 255 → Takes (behind_settings 2 2 s) (keyword Set ∷ keyword Preempt ∷ w ∷ []) (behind_settings 2 3 (record s { preempt = n }))
unfolding place_reason word_reason meaning_reason
preempt_taken s w n is high = record { means = refl; unopposed = rw (is.minus, is.number, le-leb 0 n (omega arith), le-leb n 255 high) refl; gives = rw (is.minus, is.number) refl }

steal_taken : (s : Settings) (w : Token) (n : ℕ) → IsNumber w n → 1 ≤ n → n ≤ 64 → Takes (behind_settings 2 3 s) (keyword Set ∷ keyword Steal ∷ w ∷ []) (behind_settings 2 4 (record s { steal = n }))
unfolding place_reason word_reason meaning_reason
steal_taken s w n is low high = record { means = refl; unopposed = rw (is.minus, is.number, le-leb 1 n low, le-leb n 64 high) refl; gives = rw (is.minus, is.number) refl }

jitter_taken : (s : Settings) (w : Token) (n : ℕ) → IsNumber w n → n ≤ 4294967295 → Takes (behind_settings 2 4 s) (keyword Jitter ∷ w ∷ []) (record (behind_settings 3 4 s) { jitter = n })
unfolding place_reason word_reason meaning_reason
jitter_taken s w n is high = record { means = refl; unopposed = rw (is.minus, is.number, le-leb 0 n (omega arith), le-leb n 4294967295 high) refl; gives = rw (is.minus, is.number) refl }

cpus_taken : (s : Settings) (jitter : ℕ) (w : Token) (n : ℕ) → IsNumber w n → 1 ≤ n → n ≤ 16 → Takes (record (behind_settings 3 4 s) { jitter = jitter }) (keyword Cpus ∷ w ∷ []) (opened s jitter n)
unfolding place_reason word_reason meaning_reason
cpus_taken s jitter w n is low high = record { means = refl; unopposed = rw (is.minus, is.number, le-leb 1 n low, le-leb n 16 high) refl; gives = rw (is.minus, is.number) refl }

-- ---- a written line

header_leads : Leads no_line (line_text header_words) (behind_settings 1 0 default_settings)
header_leads = leads_line header_words refl header_taken

interact_leads : (s : Settings) (n : ℕ) → 1 ≤ n → n ≤ 100 → Leads (behind_settings 1 0 s) (line_text (setting_words (codes "interact") n)) (behind_settings 2 1 (record s { interact = n }))
unfolding token_of
interact_leads s n low high = leads_line (setting_words (codes "interact") n) (rw (small_is_word n (omega arith)) refl) (interact_taken s (token_of (decimal n)) n (token_back n (omega arith)) low high)

slice_leads : (s : Settings) (n : ℕ) → 6 ≤ n → n ≤ 1000 → Leads (behind_settings 2 1 s) (line_text (setting_words (codes "slice") n)) (behind_settings 2 2 (record s { slice = n }))
unfolding token_of
slice_leads s n low high = leads_line (setting_words (codes "slice") n) (rw (small_is_word n (omega arith)) refl) (slice_taken s (token_of (decimal n)) n (token_back n (omega arith)) low high)

preempt_leads : (s : Settings) (n : ℕ) → n ≤ 255 → Leads (behind_settings 2 2 s) (line_text (setting_words (codes "preempt") n)) (behind_settings 2 3 (record s { preempt = n }))
unfolding token_of
preempt_leads s n high = leads_line (setting_words (codes "preempt") n) (rw (small_is_word n (omega arith)) refl) (preempt_taken s (token_of (decimal n)) n (token_back n (omega arith)) high)

steal_leads : (s : Settings) (n : ℕ) → 1 ≤ n → n ≤ 64 → Leads (behind_settings 2 3 s) (line_text (setting_words (codes "steal") n)) (behind_settings 2 4 (record s { steal = n }))
unfolding token_of
steal_leads s n low high = leads_line (setting_words (codes "steal") n) (rw (small_is_word n (omega arith)) refl) (steal_taken s (token_of (decimal n)) n (token_back n (omega arith)) low high)

jitter_leads : (s : Settings) (n : ℕ) → n < 2 ^ 32 → Leads (behind_settings 2 4 s) (line_text (jitter_words n)) (record (behind_settings 3 4 s) { jitter = n })
unfolding token_of
jitter_leads s n small = leads_line (jitter_words n) (rw (small_is_word n small) refl) (jitter_taken s (token_of (decimal n)) n (token_back n small) (omega arith))

cpus_leads : (s : Settings) (jitter n : ℕ) → 1 ≤ n → n ≤ 16 → Leads (record (behind_settings 3 4 s) { jitter = jitter }) (line_text (cpus_words n)) (opened s jitter n)
unfolding token_of
cpus_leads s jitter n low high = leads_line (cpus_words n) (rw (small_is_word n (omega arith)) refl) (cpus_taken s jitter (token_of (decimal n)) n (token_back n (omega arith)) low high)

-- ---- all of them

-- the settings
settings_lead : (s : Settings) → are_settings s ≡ true → Leads (behind_settings 1 0 default_settings) (lines_text (setting_lines s)) (behind_settings 2 4 s)
settings_lead s all =
    let a = is_within 1 100 s.interact in
    let b = is_within 6 1000 s.slice in
    let c = is_within 0 255 s.preempt in
    let last = and_parts (a && b && c) (is_within 1 64 s.steal) all in
    let third = and_parts (a && b) c last.0 in
    let both = and_parts a b third.0 in
    let i = and_parts (nat_le 1 s.interact) (nat_le s.interact 100) both.0 in
    let l = and_parts (nat_le 6 s.slice) (nat_le s.slice 1000) both.1 in
    let p = and_parts (nat_le 0 s.preempt) (nat_le s.preempt 255) third.1 in
    let t = and_parts (nat_le 1 s.steal) (nat_le s.steal 64) last.1 in
    let d = default_settings in
    leads_on (interact_leads d s.interact (leb-true 1 s.interact i.0) (leb-true s.interact 100 i.1))
    (leads_on (slice_leads (record d { interact = s.interact }) s.slice (leb-true 6 s.slice l.0) (leb-true s.slice 1000 l.1))
    (leads_on (preempt_leads (record d { interact = s.interact; slice = s.slice }) s.preempt (leb-true s.preempt 255 p.1))
    (leads_on (steal_leads (record d { interact = s.interact; slice = s.slice; preempt = s.preempt }) s.steal (leb-true 1 s.steal t.0) (leb-true s.steal 64 t.1))
    (leads_nowhere (behind_settings 2 4 s)))))

-- the lines up to the number of CPUs
pub opening_leads : (s : Settings) (jitter cpus : ℕ) → are_settings s ≡ true → nat_lt jitter (2 ^ 32) ≡ true → is_within 1 16 cpus ≡ true → Leads no_line (lines_text (opening_lines s jitter cpus)) (opened s jitter cpus)
opening_leads s jitter cpus all small some =
    let range = and_parts (nat_le 1 cpus) (nat_le cpus 16) some in
    leads_on header_leads (subst (λ (text : List ℕ). Leads (behind_settings 1 0 default_settings) text (opened s jitter cpus)) (sym (lines_cut (setting_lines s) (jitter_words jitter ∷ cpus_words cpus ∷ [])))
    (leads_on (settings_lead s all)
    (leads_on (jitter_leads s jitter (ltb-true jitter (2 ^ 32) small))
    (leads_on (cpus_leads s jitter cpus (leb-true 1 cpus range.0) (leb-true cpus 16 range.1)) (leads_nowhere (opened s jitter cpus))))))

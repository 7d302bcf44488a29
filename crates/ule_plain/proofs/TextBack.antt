-- A plain text is read as the setup that it was written of.
use Rattle.std.proofs.Common.{◌≡◌, ℕ, ◌≤◌, List, [], ◌++◌, length, fold, refl, sym, ap, ◌∙◌, subst, if◌then◌else◌}
use Rattle.std.specs.Prelude.{Ok}
use Rattle.ule_types.specs.declared.setup.Setup.{Setup}
use Rattle.ule_scenario.specs.Reading.{Reading, no_line}
use Rattle.ule_scenario.specs.Scenario.{TextRead, after_byte, no_text, at_end, answer, read_bytes, refused}
use Rattle.ule_trace.specs.Line.{lines_text}
use Rattle.ule_plain.proofs.CommandLines.{not_above}
use Rattle.ule_plain.proofs.DeclaringSections.{declared_at, all_groups_reach, all_threads_reach, all_unborn_reach}
use Rattle.ule_plain.proofs.Leading.{Leads, leads_on}
use Rattle.ule_plain.proofs.OpeningLines.{opening_leads}
use Rattle.ule_plain.proofs.ScriptSections.{played_at, all_scripts_reach}
use Rattle.ule_plain.proofs.Sections.{lines_behind_unborn, opening_cut, groups_cut, threads_cut, unborn_cut, scripts_cut, turns_cut}
use Rattle.ule_plain.proofs.TextLength.{text_fits}
use Rattle.ule_plain.proofs.TurnSections.{woven_at, weave_reach, end_reach}
use Rattle.ule_plain.specs.ReadBack.{PlainTextsAreReadBack}
use Rattle.ule_plain.specs.Text.{plain_text}

-- lines in two parts, of which each leads on
parts_lead : {r t : Reading} {one more text : List ℕ} (s : Reading) → text ≡ one ++ more → Leads r one s → Leads s more t → Leads r text t
parts_lead {r} {t} {one} {more} {text} s is a b = subst (λ (bytes : List ℕ). Leads r bytes t) (sym is) (leads_on a b)

-- the lines behind the declared threads
play_leads : (s : Setup) (place : ℕ) → 4 ≤ place → place ≤ 6 → Leads (declared_at s place s.groups s.threads s.unborn) (lines_text (lines_behind_unborn s)) (woven_at s 9 s.turns)
play_leads s place from to =
    let scripts = all_scripts_reach s place from to in
    let weave = weave_reach s scripts.place scripts.from scripts.to in
    parts_lead (played_at s scripts.place s.cpus s.scripts) (scripts_cut s) scripts.leads
    (parts_lead (woven_at s weave.place s.turns) (turns_cut s s.turns refl) weave.leads (end_reach s weave.place weave.from weave.to))

-- all lines
text_leads : (s : Setup) → Leads no_line (plain_text s) (woven_at s 9 s.turns)
text_leads s =
    let groups = all_groups_reach s in
    let threads = all_threads_reach s groups.place groups.from groups.to in
    let unborn = all_unborn_reach s threads.place threads.from threads.to in
    parts_lead (declared_at s 4 [] [] []) (opening_cut s) (opening_leads s.settings s.jitter s.cpus s.rules.settings s.rules.jitter s.rules.cpus)
    (parts_lead (declared_at s groups.place s.groups [] []) (groups_cut s s.groups refl) groups.leads
    (parts_lead (declared_at s threads.place s.groups s.threads []) (threads_cut s s.threads refl) threads.leads
    (parts_lead (declared_at s unborn.place s.groups s.threads s.unborn) (unborn_cut s s.unborn refl) unborn.leads (play_leads s unborn.place unborn.from unborn.to))))

-- what is read of a text that isn't too long
read_whole : (bytes : List ℕ) (r : Reading) → length bytes ≤ 1048576 → answer (at_end (fold after_byte no_text bytes)) ≡ Ok r → read_bytes bytes ≡ Ok r
read_whole bytes r fits is = ap (λ b. if b then refused 0 5 else answer (at_end (fold after_byte no_text bytes))) (not_above (length bytes) 1048576 fits) ∙ is

-- a plain text spells its setup
pub text_back : PlainTextsAreReadBack
text_back s = record {
  reading = woven_at s 9 s.turns;
  read = read_whole (plain_text s) (woven_at s 9 s.turns) (text_fits s) (ap (λ (t : TextRead). answer (at_end t)) ((text_leads s).leads 0));
  gives = record { settings = refl; jitter = refl; cpus = refl; groups = refl; threads = refl; unborn = refl; scripts = refl; turns = refl };
}

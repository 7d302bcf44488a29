-- What the section of scripts gives.
use Rattle.std.proofs.Common.{◌≡◌, ℕ, ◌+◌, ◌-◌, ◌<◌, ◌≤◌, max, true, List, [], ◌∷◌, ◌++◌, length, map, take, drop, set, replicate, refl, sym, ap, ◌∙◌, subst, append_assoc, arith}
use Rattle.std.specs.Prelude.{Some}
use Rattle.std.specs.List.{list_all}
use Rattle.std.proofs.lemmas.Bool.{leb-true}
use Rattle.std.proofs.lemmas.List.{append-nil, length-append, length-take, take-append-drop, set_at, get_or_at}
use Rattle.ule_types.specs.Commands.{is_among, is_command, greatest_of}
use Rattle.ule_types.specs.Rules.{is_distinct, declared_ids, budget_from, forked_in_all}
use Rattle.ule_types.specs.declared.command.Command.{Command}
use Rattle.ule_types.specs.declared.setup.Setup.{Setup}
use Rattle.ule_scenario.specs.Effects.{with_command}
use Rattle.ule_scenario.specs.Reading.{Reading}
use Rattle.ule_trace.specs.Line.{line_text, lines_text}
use Rattle.ule_plain.proofs.CommandLines.{IsValid, HasRoom, command_leads, commanded}
use Rattle.ule_plain.proofs.DeclaringLines.{IsOpen}
use Rattle.ule_plain.proofs.DeclaringSections.{reading_at, declared_at, Reaches, few_cpus, numbers_of}
use Rattle.ule_plain.proofs.Leading.{Leads, leads_nowhere, leads_on, lines_cut}
use Rattle.ule_plain.proofs.PlayLines.{script_leads}
use Rattle.ule_plain.proofs.Scripts.{are_idle, unread, unread_idle, none_read, command_room, command_new, forks_pass, command_passes, scripts_room}
use Rattle.ule_plain.specs.Commands.{command_words}
use Rattle.ule_plain.specs.Lines.{script_words}
use Rattle.ule_plain.specs.Text.{script_lines, scripts_lines}

-- the setup so far in the scripts: the least worker that may come next, and the scripts
abbrev pub played_at : Setup → ℕ → ℕ → List (List Command) → Reading
played_at s place from scripts = reading_at s place s.groups s.threads s.unborn from scripts []

-- ---- a command

-- with a command of the worker whose script stands last
more_commands : (s : Setup) (w : ℕ) (done : List (List Command)) (front : List Command) (c : Command) (idle : List (List Command)) → length done ≡ w →
    commanded (played_at s 7 (w + 1) (done ++ front ∷ idle)) c ≡ played_at s 7 (w + 1) (done ++ (front ++ c ∷ []) ∷ idle)
more_commands s w done front c idle at =
    let last : w + 1 - 1 ≡ w = omega arith in
    let scripts = done ++ front ∷ idle in
    ap (λ (css : List (List Command)). played_at s 7 (w + 1) css)
    (ap (λ (k : ℕ). with_command scripts k (Some c)) last
    ∙ ap (λ (script : List Command). set scripts w (script ++ c ∷ [])) (get_or_at done front idle [] w at)
    ∙ set_at done front idle (front ++ c ∷ []) w at)

module _ (s : Setup) (w : ℕ) (done : List (List Command)) (front : List Command) (c : Command) (rest : List Command) (later idle : List (List Command))
    (at : length done ≡ w) (none : are_idle idle ≡ true) (is : s.scripts ≡ done ++ (front ++ c ∷ rest) ∷ later) where
  -- a command that comes next is valid
  valid_at : IsValid (played_at s 7 (w + 1) (done ++ front ∷ idle)) c
  valid_at = record {
    cpus = few_cpus s;
    numbers = (numbers_of s).0;
    names = command_passes (is_command (declared_ids s.threads s.unborn) s.cpus) done front c rest later
        (ap (list_all (λ script. list_all (is_command (declared_ids s.threads s.unborn) s.cpus) script)) (sym is) ∙ s.rules.commands);
    unborn = forks_pass (is_among s.unborn) done front c rest later (ap (λ css. list_all (is_among s.unborn) (forked_in_all css)) (sym is) ∙ s.rules.forks);
    new = command_new done front c rest later idle none (ap (λ css. is_distinct (forked_in_all css)) (sym is) ∙ s.rules.forked_once);
  }

  -- and has room
  room_at : HasRoom (played_at s 7 (w + 1) (done ++ front ∷ idle)) c
  room_at =
      let last : w + 1 - 1 ≡ length done = omega (arith, at) in
      let all = leb-true (budget_from 0 s.cpus s.scripts) 65536 s.rules.budget in
      let whole : budget_from 0 s.cpus (done ++ (front ++ c ∷ rest) ∷ later) ≤ 65536 = subst (λ css. budget_from 0 s.cpus css ≤ 65536) is all in
      record {
        place = refl;
        turns = refl;
        budget = omega (arith, command_room s.cpus done front c rest later idle none whole, ap (λ k. greatest_of c k s.cpus) last);
      }

  -- its line leads on
  command_at : Leads (played_at s 7 (w + 1) (done ++ front ∷ idle)) (line_text (command_words c)) (played_at s 7 (w + 1) (done ++ (front ++ c ∷ []) ∷ idle))
  command_at =
      subst (λ r. Leads (played_at s 7 (w + 1) (done ++ front ∷ idle)) (line_text (command_words c)) r) (more_commands s w done front c idle at)
      (command_leads (played_at s 7 (w + 1) (done ++ front ∷ idle)) c valid_at room_at)

-- ---- the commands of a script

-- those behind some
commands_lead : (s : Setup) (w : ℕ) (done : List (List Command)) (front rest : List Command) (later idle : List (List Command)) → length done ≡ w → are_idle idle ≡ true → s.scripts ≡ done ++ (front ++ rest) ∷ later →
    Leads (played_at s 7 (w + 1) (done ++ front ∷ idle)) (lines_text (map command_words rest)) (played_at s 7 (w + 1) (done ++ (front ++ rest) ∷ idle))
commands_lead s w done front [] later idle at none is =
    let here : List Command → Reading = λ script. played_at s 7 (w + 1) (done ++ script ∷ idle) in
    subst (λ (script : List Command). Leads (here front) [] (here script)) (sym (append-nil front)) (leads_nowhere (here front))
commands_lead s w done front (c ∷ rest) later idle at none is =
    let here : List Command → Reading = λ script. played_at s 7 (w + 1) (done ++ script ∷ idle) in
    let cut : front ++ c ∷ rest ≡ (front ++ c ∷ []) ++ rest = sym (append_assoc front (c ∷ []) rest) in
    let next = commands_lead s w done (front ++ c ∷ []) rest later idle at none (is ∙ ap (λ (script : List Command). done ++ script ∷ later) cut) in
    leads_on (command_at s w done front c rest later idle at none is)
    (subst (λ (script : List Command). Leads (here (front ++ c ∷ [])) (lines_text (map command_words rest)) (here script)) (sym cut) next)

-- ---- the scripts

-- a script's line may stand here
script_open : (s : Setup) (place w : ℕ) (done rest idle : List (List Command)) → 4 ≤ place → place ≤ 7 → are_idle idle ≡ true → s.scripts ≡ done ++ rest → IsOpen 7 (played_at s place w (done ++ idle))
script_open s place w done rest idle from to none is = record {
  from = from;
  to = to;
  turns = refl;
  budget = scripts_room s.cpus done rest idle none (subst (λ css. budget_from 0 s.cpus css ≤ 65536) is (leb-true (budget_from 0 s.cpus s.scripts) 65536 s.rules.budget));
}

-- a worker's script
script_reach : (s : Setup) (place w : ℕ) (done : List (List Command)) (script : List Command) (later idle : List (List Command)) → 4 ≤ place → place ≤ 7 → w < s.cpus → length done ≡ w → are_idle idle ≡ true → s.scripts ≡ done ++ script ∷ later →
    Leads (played_at s place w (done ++ [] ∷ idle)) (lines_text (script_lines w script)) (played_at s 7 (w + 1) ((done ++ script ∷ []) ++ idle))
script_reach s place w done script later idle from to there at none is =
    let cpus = few_cpus s in
    let highest : max place 7 ≡ 7 = omega (arith, to) in
    let above = script_leads (played_at s place w (done ++ [] ∷ idle)) w (omega arith) there (omega arith) (script_open s place w done (script ∷ later) ([] ∷ idle) from to none is) in
    leads_on (subst (λ p. Leads (played_at s place w (done ++ [] ∷ idle)) (line_text (script_words w)) (played_at s p (w + 1) (done ++ [] ∷ idle))) highest above)
    (subst (λ css. Leads (played_at s 7 (w + 1) (done ++ [] ∷ idle)) (lines_text (map command_words script)) (played_at s 7 (w + 1) css)) (sym (append_assoc done (script ∷ []) idle))
    (commands_lead s w done [] script later idle at none is))

-- those of the workers behind some
scripts_reach : (s : Setup) (place w n : ℕ) (done rest others : List (List Command)) → 4 ≤ place → place ≤ 7 → length done ≡ w → w + length rest ≡ n → n ≤ s.cpus → are_idle others ≡ true → s.scripts ≡ done ++ (rest ++ others) →
    Reaches 7 (played_at s place w (done ++ (unread rest ++ others))) (lines_text (scripts_lines w rest)) (λ p. played_at s p n s.scripts)
scripts_reach s place w n done [] others from to at end fits none is =
    let here : ℕ → List (List Command) → Reading = λ k css. played_at s place k css in
    let all : w ≡ n = omega (arith, end) in
    record {
      place = place;
      from = from;
      to = to;
      leads = subst (λ css. Leads (here w (done ++ others)) [] (here n css)) (sym is)
          (subst (λ k. Leads (here w (done ++ others)) [] (here k (done ++ others))) all (leads_nowhere (here w (done ++ others))));
    }
scripts_reach s place w n done (script ∷ rest) others from to at end fits none is =
    let idle = unread rest ++ others in
    let pushed : length (done ++ script ∷ []) ≡ w + 1 = omega (arith, length-append done (script ∷ []), at) in
    let next = scripts_reach s 7 (w + 1) n (done ++ script ∷ []) rest others (omega arith) (omega arith) pushed (omega (arith, end)) fits none (is ∙ sym (append_assoc done (script ∷ []) (rest ++ others))) in
    let own = script_reach s place w done script (rest ++ others) idle from to (omega (arith, end, fits)) at (unread_idle rest others none) is in
    record {
      place = next.place;
      from = next.from;
      to = next.to;
      leads = subst (λ text. Leads (played_at s place w (done ++ [] ∷ idle)) text (played_at s next.place n s.scripts)) (sym (lines_cut (script_lines w script) (scripts_lines (w + 1) rest))) (leads_on own next.leads);
    }

-- all of them
pub all_scripts_reach : (s : Setup) (place : ℕ) → 4 ≤ place → place ≤ 6 →
    Reaches 7 (declared_at s place s.groups s.threads s.unborn) (lines_text (scripts_lines 0 (take s.cpus s.scripts))) (λ p. played_at s p s.cpus s.scripts)
all_scripts_reach s place from to =
    let cpus = few_cpus s in
    let count = s.rules.workers in
    let first = take s.cpus s.scripts in
    let behind = drop s.cpus s.scripts in
    let long : 0 + length first ≡ s.cpus = omega (arith, length-take s.cpus s.scripts, count, cpus) in
    let start : replicate 16 [] ≡ unread first ++ behind = ap (λ n. replicate n []) (sym count) ∙ none_read s.cpus s.scripts s.rules.idle in
    subst (λ css. Reaches 7 (played_at s place 0 css) (lines_text (scripts_lines 0 first)) (λ p. played_at s p s.cpus s.scripts)) (sym start)
    (scripts_reach s place 0 s.cpus [] first behind from (omega arith) refl long (omega arith) s.rules.idle (sym (take-append-drop s.cpus s.scripts)))

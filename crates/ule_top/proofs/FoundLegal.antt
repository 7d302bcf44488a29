-- `check` finds the trace that `run` writes of a scenario legal.
use Rattle.std.proofs.Common.{◌≡◌, ◌<◌, ◌≤◌, ℕ, true, List, [], ◌∷◌, ◌++◌, take, drop, length, fold, zero, suc, Some, Result, Ok, Err, refl, sym, ap, ◌∙◌, subst, arith}
use Rattle.std.proofs.Math.Bool.{Bool-set}
use Rattle.std.proofs.Math.Nat.{ℕ_set}
use Rattle.std.proofs.Math.Seq.{drop-append_seam, take-append_seam}
use Rattle.std.proofs.lemmas.Grind.{fold-append}
use Rattle.std.proofs.lemmas.List.Folds.{fold_stays}
use Rattle.ule_check.specs.Laws.{TellsWhole}
use Rattle.ule_check.specs.declared.verdicts.Verdict.TheVariants.{Legal}
use Rattle.ule_io.specs.Sink.{SinkState}
use Rattle.ule_io.specs.Source.{SourceState}
use Rattle.ule_model.specs.Ends.{outcome_of}
use Rattle.ule_model.specs.History.{IsHistoryOf}
use Rattle.ule_model.specs.Rounds.{play_of}
use Rattle.ule_ranges.proofs.PlaysFit.{plays_fit}
use Rattle.ule_rounds.proofs.HistoryLaws.{history_of_rounds}
use Rattle.ule_scenario.specs.Front.{FrontSoFar, after_front, front_length, no_front}
use Rattle.ule_scenario.specs.Reading.{Reading as ScenarioReading}
use Rattle.ule_scenario.specs.declared.reason.Refusal.{Refusal}
use Rattle.ule_scenario.specs.Scenario.{IsSetupOf, Spells as SpellsSetup, read_bytes as read_scenario}
use Rattle.ule_score.specs.declared.record.Settings.{Settings}
use Rattle.ule_task.specs.Writing.{HasWritten}
use Rattle.ule_topo.specs.declared.group.GroupLine.{GroupLine}
use Rattle.ule_trace.proofs.TraceBack.{written_is_read_back}
use Rattle.ule_trace.specs.Reading.{Reading, Spells, read_bytes as read_trace}
use Rattle.ule_types.specs.Commands.{is_among}
use Rattle.ule_types.specs.Outcome.{OutcomeValue}
use Rattle.ule_types.specs.Rules.{KeepsRules}
use Rattle.ule_types.specs.declared.command.Command.{Command}
use Rattle.ule_types.specs.declared.setup.Setup.{Setup}
use Rattle.ule_types.specs.declared.setup.ThreadSpec.{ThreadSpec}
use Rattle.ule_top.proofs.CheckLaws.{check_is_known, one_reading, told_within}
use Rattle.ule_top.specs.Check.{Checks, HasChecked, HasDenied, check_told, input_limit, scenario_in, trace_in}
use Rattle.ule_top.specs.Laws.{EndsAtEndLine, FindsLegal, RunsAreFoundLegal}
use Rattle.ule_top.specs.Run.{rounds_text}
use Rattle.ule_top.specs.VerdictLine.{verdict_text}

-- ---- a text spells one setup

-- the rules of a setup are kept in one way
rules_prop : (given : Settings) (seed count : ℕ) (lines : List GroupLine) (specs : List ThreadSpec) (waiting : List ℕ) (lists : List (List Command)) (plays : List ℕ) →
    IsProp (KeepsRules given seed count lines specs waiting lists plays)
rules_prop given seed count lines specs waiting lists plays = hlevel (Bool-set, ℕ_set)

-- the fields of a setup but for its rules, and a setup by them
abbrev Fields : Type 0
Fields = Settings × ℕ × ℕ × List GroupLine × List ThreadSpec × List ℕ × List (List Command) × List ℕ

abbrev fields_of : Setup → Fields
fields_of s = (s.settings, s.jitter, s.cpus, s.groups, s.threads, s.unborn, s.scripts, s.turns)

abbrev KeepRules : Fields → Type 0
KeepRules f = KeepsRules f.0 f.1 f.2 f.3 f.4 f.5 f.6 f.7

abbrev setup_by : (f : Fields) → KeepRules f → Setup
setup_by f rules = record { settings = f.0; jitter = f.1; cpus = f.2; groups = f.3; threads = f.4; unborn = f.5; scripts = f.6; turns = f.7; rules = rules }

-- two setups that a reading gives are one
one_setup : (r : ScenarioReading) (s t : Setup) → IsSetupOf r s → IsSetupOf r t → t ≡ s
one_setup r s t is also =
    let given : Fields = (r.settings, r.jitter, r.cpus, r.groups, r.threads, r.unborn, r.scripts, r.turns) in
    let first : fields_of s ≡ given = rw (is.settings, is.jitter, is.cpus, is.groups, is.threads, is.unborn, is.scripts, is.turns) refl in
    let second : fields_of t ≡ given = rw (also.settings, also.jitter, also.cpus, also.groups, also.threads, also.unborn, also.scripts, also.turns) refl in
    subst (λ (f : Fields). (rules : KeepRules f) → setup_by f rules ≡ s) (first ∙ sym second)
    (λ rules. ap (setup_by (fields_of s)) (rules_prop s.settings s.jitter s.cpus s.groups s.threads s.unborn s.scripts s.turns rules s.rules)) t.rules

-- two setups that a text spells are one
one_spelled : (text : List ℕ) (s t : Setup) → SpellsSetup text s → SpellsSetup text t → t ≡ s
one_spelled text s t first second = one_setup first.reading s t first.gives (subst (λ (r : ScenarioReading). IsSetupOf r t) (same (read_scenario text) second.reading first.reading second.read first.read) second.gives)
  where
    same : (told : Result ScenarioReading Refusal) (x y : ScenarioReading) → told ≡ Ok x → told ≡ Ok y → x ≡ y
    same told x y p q = cc

-- ---- an input

module _ (front behind : List ℕ) (ends : EndsAtEndLine front) where
  -- a scenario that ends at its line `end` ends there whatever stands behind it
  front_stays : front_length (front ++ behind) ≡ length front
  front_stays =
      let at : FrontSoFar = fold after_front no_front front in
      ap (λ (u : FrontSoFar). u.count) (fold-append after_front no_front front behind ∙ fold_stays after_front at (λ b. rw ends.ended refl) behind) ∙ ends.whole

  -- so the two are parted there
  scenario_is : scenario_in (front ++ behind) ≡ front
  scenario_is = ap (λ (n : ℕ). take n (front ++ behind)) front_stays ∙ take-append_seam front behind

  trace_is : trace_in (front ++ behind) ≡ behind
  trace_is = ap (λ (n : ℕ). drop n (front ++ behind)) front_stays ∙ drop-append_seam front behind

-- ---- the rounds of a setup

-- what the rounds of a setup come to
abbrev rounds_outcome : Setup → OutcomeValue
rounds_outcome s = outcome_of s s.scripts (play_of s).entries

-- their text spells it
rounds_spelled : (s : Setup) → Spells (rounds_text s) (rounds_outcome s)
rounds_spelled s = written_is_read_back (rounds_outcome s) (plays_fit s)

-- it tells a whole legal history
rounds_tell : (s : Setup) → TellsWhole s (rounds_outcome s)
rounds_tell s = let history : IsHistoryOf s (play_of s) = history_of_rounds s in record { legal = history.legal; whole = history.whole; lines = refl }

-- ---- each status

-- a status below 7 that is none of three is one of four
four_left : (status : ℕ) → status < 7 → (status ≡ 1 → ⊥) → (status ≡ 3 → ⊥) → (status ≡ 6 → ⊥) → is_among (0 ∷ 2 ∷ 4 ∷ 5 ∷ []) status ≡ true
four_left zero small one three six = refl
four_left (suc zero) small one three six = absurd (one refl)
four_left (suc (suc zero)) small one three six = refl
four_left (suc (suc (suc zero))) small one three six = absurd (three refl)
four_left (suc (suc (suc (suc zero)))) small one three six = refl
four_left (suc (suc (suc (suc (suc zero))))) small one three six = refl
four_left (suc (suc (suc (suc (suc (suc zero)))))) small one three six = absurd (six refl)
four_left (suc (suc (suc (suc (suc (suc (suc n))))))) small one three six = absurd (omega (arith, small))

module _ (front : List ℕ) (s : Setup) (s0 s1 : SourceState) (k0 k1 : SinkState) (status : ℕ) (spells : SpellsSetup front s) (ends : EndsAtEndLine front)
    (left : s0.left ≡ Some (front ++ rounds_text s)) (within : length (front ++ rounds_text s) ≤ input_limit) (checks : Checks s0 s1 k0 k1 status) where
  abbrev whole_input : List ℕ
  whole_input = front ++ rounds_text s

  -- the scenario is not refused
  not_refused : status ≡ 3 → ⊥
  not_refused is =
      let refused = checks.reads.refused is in
      let told : check_told whole_input ≡ Ok spells.reading = told_within whole_input within ∙ ap (λ (text : List ℕ). read_scenario text) (scenario_is front (rounds_text s) ends) ∙ spells.read in
      let cause : check_told whole_input ≡ Err refused.refusal = refused.cause whole_input left in
      let both : Ok spells.reading ≡ Err refused.refusal = sym told ∙ cause in cc

  -- the trace is not denied
  not_denied : status ≡ 6 → ⊥
  not_denied is =
      let denied : HasDenied s0 s1 k0 k1 = checks.denied is in
      let same : denied.input ≡ whole_input = denied.read.all whole_input left in
      let scenario : SpellsSetup front denied.setup =
      subst (λ (text : List ℕ). SpellsSetup text denied.setup) (ap (λ (text : List ℕ). scenario_in text) same ∙ scenario_is front (rounds_text s) ends) denied.scenario in
      let setup : denied.setup ≡ s = one_spelled front s denied.setup spells scenario in
      denied.no_whole (rounds_outcome s)
      (subst (λ (text : List ℕ). Spells text (rounds_outcome s)) (sym (ap (λ (text : List ℕ). trace_in text) same ∙ trace_is front (rounds_text s) ends)) (rounds_spelled s))
      (subst (λ (t : Setup). TellsWhole t (rounds_outcome s)) (sym setup) (rounds_tell s))

  -- what was written says how many entries the rounds have
  wrote_legal : status ≡ 0 → HasWritten k0 k1 (verdict_text (length (play_of s).entries) Legal)
  wrote_legal is =
      let checked : HasChecked s0 s1 k0 k1 = checks.done is in
      let same : checked.input ≡ whole_input = checked.read.all whole_input left in
      let trace : Spells (rounds_text s) checked.outcome =
      subst (λ (text : List ℕ). Spells text checked.outcome) (ap (λ (text : List ℕ). trace_in text) same ∙ trace_is front (rounds_text s) ends) checked.trace in
      let rounds : Spells (rounds_text s) (rounds_outcome s) = rounds_spelled s in
      let reading : trace.reading ≡ rounds.reading = one_reading (read_trace (rounds_text s)) trace.reading rounds.reading trace.read rounds.read in
      subst (λ (n : ℕ). HasWritten k0 k1 (verdict_text n Legal))
      (ap length (trace.gives.entries ∙ ap (λ (r : Reading). r.entries) reading ∙ sym rounds.gives.entries)) checked.wrote

  found_legal : FindsLegal s s0 s1 k0 k1 status
  found_legal = record {
    known = four_left status checks.known (check_is_known s0 s1 k0 k1 status checks) not_refused not_denied;
    legal = wrote_legal;
    read_fault = λ is. (checks.reads.read_fault is).0;
    write_fault = λ is. (checks.reads.write_fault is).cause;
  }

-- what `run` writes of a scenario is found legal behind it
pub runs_are_found_legal : RunsAreFoundLegal
runs_are_found_legal front s s0 s1 k0 k1 status spells ends left within checks = found_legal front s s0 s1 k0 k1 status spells ends left within checks

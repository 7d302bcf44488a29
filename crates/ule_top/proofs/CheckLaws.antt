-- What `check` comes to, from what reading, judging and writing come to.
use Rattle.std.proofs.Common.{◌≡◌, ◌<◌, ◌≤◌, ℕ, ◌+◌, ◌==◌, Bool, true, false, cond, List, [], ◌∷◌, length, drop}
use Rattle.std.proofs.Common.{fold, Option, Some, None, Result, Ok, Err, inl, inr, refl, sym, ap, ◌∙◌, subst, arith}
use Rattle.std.specs.Prelude.{nat_lt, ◌⊎◌}
use Rattle.std.proofs.lemmas.Bool.{le-ltb, lt-ltb, ltb-false, ltb-true}
use Rattle.ule_check.proofs.Sound.{legal_is_whole}
use Rattle.ule_check.proofs.WholeLaws.{whole_is_legal}
use Rattle.ule_check.specs.Judge.{Due, Judge, behind, due_at, faults_of, first_fault, judge_at_start}
use Rattle.ule_check.specs.Judged.{illegal_or, judged, judged_entry, judged_from}
use Rattle.ule_check.specs.declared.verdicts.Fault.{Fault}
use Rattle.ule_check.specs.declared.verdicts.Verdict.{Verdict}
use Rattle.ule_check.specs.declared.verdicts.Verdict.TheVariants.{Legal, Illegal}
use Rattle.ule_io.specs.Sink.{SinkState}
use Rattle.ule_io.specs.Source.{SourceState}
use Rattle.ule_model.specs.Legal.{amount_in_all}
use Rattle.ule_scenario.specs.Front.{FrontSoFar, IsFrontReadAs, after_front, front_byte, front_length, no_front}
use Rattle.ule_scenario.specs.Reading.{Reading as ScenarioReading}
use Rattle.ule_scenario.specs.Scenario.{IsFaultFor, Spells as SpellsSetup, read_bytes as read_scenario}
use Rattle.ule_scenario.specs.declared.reason.Refusal.{Refusal}
use Rattle.ule_task.proofs.InputLaws.{answers_setup, answers_unread, had_as_told}
use Rattle.ule_top.specs.Check.{Checks, HasChecked, HasDenied, InputGave, IsInput, TellsFault, bad, check_due, check_intake, check_told}
use Rattle.ule_top.specs.Check.{gave, illegal, input_limit, outcome_in, scenario_in, status_of, told, trace_in, trace_told, verdict_told}
use Rattle.ule_task.specs.Input.{Gave, GivesSetup, HasAnswered, IsToldAs, IsUnread, Reads, RefusesLonger, Tells, Told, the_one, unmade, written}
use Rattle.ule_top.specs.VerdictLine.{bad_text, verdict_text}
use Rattle.ule_task.specs.Writing.{HasWritten, Wrote}
use Rattle.ule_task.specs.declared.input.Unread.{Unread}
use Rattle.ule_trace.specs.Reading.{IsOutcomeOf, IsReadAs, Reading, Spells, read_bytes as read_trace}
use Rattle.ule_trace.specs.declared.fault.TraceFault.{TraceFault}
use Rattle.ule_trace.specs.declared.fault.TraceFault.TheVariants.{Bad, Memory}
use Rattle.ule_types.specs.Outcome.{OutcomeValue}
use Rattle.ule_types.specs.declared.fault.ScenarioFault.{ScenarioFault}
use Rattle.ule_types.specs.declared.event.Entry.{Entry}
use Rattle.ule_types.specs.declared.setup.Setup.{Setup}

-- ---- the scenario in an input

-- a front is counted byte by byte
one_byte : (s : FrontSoFar) (b : ℕ) → (after_front s b).count ≤ s.count + 1
one_byte s b = by_end s.ended
  where
    by_newline : (newline : Bool) (x y : FrontSoFar) → x.count ≡ s.count + 1 → y.count ≡ s.count + 1 → (cond newline x y).count ≤ s.count + 1
    by_newline true x y p q = omega (arith, p)
    by_newline false x y p q = omega (arith, q)

    by_end : (ended : Bool) → (cond ended s (front_byte s b)).count ≤ s.count + 1
    by_end true = omega arith
    by_end false = by_newline (b == 10) _ _ refl refl

front_within_from : (s : FrontSoFar) (bytes : List ℕ) → (fold after_front s bytes).count ≤ s.count + length bytes
front_within_from s [] = omega arith
front_within_from s (b ∷ bytes) = omega (arith, one_byte s b, front_within_from (after_front s b) bytes)

-- the scenario in an input is no longer than the input
pub front_within : (input : List ℕ) → front_length input ≤ length input
front_within input = omega (arith, front_within_from no_front input)

-- an input that is not too long tells what its scenario does
pub told_within : (input : List ℕ) → length input ≤ input_limit → check_told input ≡ read_scenario (scenario_in input)
told_within input within = rw (le-ltb 16777216 (length input) within) refl

-- the scenario in an input that gives a setup spells it
scenario_given : (input : List ℕ) (s : Setup) → length input ≤ input_limit → GivesSetup check_intake input s → SpellsSetup (scenario_in input) s
scenario_given input s within gives = record { reading = gives.0; read = sym (told_within input within) ∙ gives.1; gives = gives.2 }

-- an input above the limit is refused as too long
refuses_longer : RefusesLonger check_intake
refuses_longer input longer = rw (lt-ltb 16777216 (length input) longer) refl

-- ---- the judgment

-- an entry is judged the same where those behind it are
same_entry : (total k : ℕ) (j : Judge) (e : Entry) (f g : Judge → Verdict) → ((after : Judge) → f after ≡ g after) → (due : Option Due) →
    judged_entry total k j e due f ≡ judged_entry total k j e due g
same_entry total k j e f g same None = refl
same_entry total k j e f g same (Some due) = ap (λ (v : Verdict). illegal_or k (first_fault (faults_of total j due e)) v) (same (behind j due e))

-- the room that is left for entries has no part in a verdict
judged_bare_from : (total : ℕ) (o : OutcomeValue) (k : ℕ) (j : Judge) (es : List Entry) → judged_from total o k j es ≡ judged_from total (record o { room = 0 }) k j es
unfolding judged_from
judged_bare_from total o k j [] = refl
judged_bare_from total o k j (e ∷ es) =
    same_entry total k j e (λ after. judged_from total o (k + 1) after es) (λ after. judged_from total (record o { room = 0 }) (k + 1) after es)
    (λ after. judged_bare_from total o (k + 1) after es) (due_at j e.worker)

-- an outcome that was read is judged as what its lines give
judged_as_read : (s : Setup) (r : Reading) (o : OutcomeValue) → IsOutcomeOf r o → judged s o ≡ judged s (outcome_in r)
judged_as_read s r o is =
    let same : record o { room = 0 } ≡ outcome_in r = rw (is.entries, is.threads, is.cpus, is.now) refl in
    judged_bare_from (amount_in_all s.scripts) o 1 (judge_at_start s) o.entries ∙ ap (λ (x : OutcomeValue). judged s x) same

-- what is due for the verdict on an outcome that was read is what is due for the text
pub told_as_read : (s : Setup) (text : List ℕ) (r : Reading) (o : OutcomeValue) → read_trace text ≡ Ok r → IsOutcomeOf r o →
    verdict_told (length o.entries) (judged s o) ≡ trace_told s (read_trace text)
told_as_read s text r o read is =
    ap (λ (n : ℕ). verdict_told n (judged s o)) (ap length is.entries) ∙ ap (λ (v : Verdict). verdict_told (length r.entries) v) (judged_as_read s r o is)
    ∙ ap (λ (t : Result Reading ℕ). trace_told s t) (sym read)

-- ---- each status

-- a verdict is told by 0 or 6
status_known : (v : Verdict) → (status_of v < 2) ⊎ (5 < status_of v)
status_known Legal = inl (omega arith)
status_known (Illegal k why) = inr (omega arith)

told_known : (s : Setup) (t : Result Reading ℕ) → ((trace_told s t).status < 2) ⊎ (5 < (trace_told s t).status)
told_known s (Ok r) = status_known (judged s (outcome_in r))
told_known s (Err line) = inr (omega arith)

status_small : (v : Verdict) → status_of v < 7
status_small Legal = omega arith
status_small (Illegal k why) = omega arith

told_small : (s : Setup) (t : Result Reading ℕ) → (trace_told s t).status < 7
told_small s (Ok r) = status_small (judged s (outcome_in r))
told_small s (Err line) = omega arith

one_no_verdict : (v : Verdict) → 1 ≡ status_of v → ⊥
one_no_verdict Legal is = omega arith
one_no_verdict (Illegal k why) is = omega arith

one_unknown : (s : Setup) (t : Result Reading ℕ) → 1 ≡ (trace_told s t).status → ⊥
one_unknown s (Ok r) is = one_no_verdict (judged s (outcome_in r)) is
one_unknown s (Err line) is = omega arith

-- where 0 tells the verdict, it is legal, and where 6 does, it is not
legal_if : (v : Verdict) → 0 ≡ status_of v → v ≡ Legal
legal_if Legal is = refl
legal_if (Illegal k why) is = absurd (omega arith)

illegal_if : (v : Verdict) → 6 ≡ status_of v → (k : ℕ) × (why : Fault) × (v ≡ Illegal k why)
illegal_if Legal is = absurd (omega arith)
illegal_if (Illegal k why) is = (k, why, refl)

-- what the lines give is what is read
read_as_given : (text : List ℕ) (r : Reading) → read_trace text ≡ Ok r → Spells text (outcome_in r)
read_as_given text r read = record { reading = r; read = read; gives = record { entries = refl; threads = refl; cpus = refl; now = refl } }

-- a text is read as one reading
pub one_reading : (t : Result Reading ℕ) (x y : Reading) → t ≡ Ok x → t ≡ Ok y → x ≡ y
one_reading t x y p q = cc

-- a text spells one outcome, but for the room
spelled_same : (s : Setup) (text : List ℕ) (r : Reading) (o : OutcomeValue) → read_trace text ≡ Ok r → Spells text o → judged s o ≡ judged s (outcome_in r)
spelled_same s text r o read spells =
    judged_as_read s spells.reading o spells.gives ∙ ap (λ (x : Reading). judged s (outcome_in x)) (one_reading (read_trace text) spells.reading r spells.read read)

-- ---- the answer

-- what is due for a trace was told and written
told_so : (s0 s1 : SourceState) (k0 k1 : SinkState) (status : ℕ) (has : HasAnswered check_intake (the_one check_due) s0 s1 k0 k1 status) → status ≡ (check_due has.input has.setup).status
told_so s0 s1 k0 k1 status has = has.told ∙ ap (λ (t : Told). t.status) has.due

wrote_so : (s0 s1 : SourceState) (k0 k1 : SinkState) (status : ℕ) (has : HasAnswered check_intake (the_one check_due) s0 s1 k0 k1 status) → HasWritten k0 k1 (check_due has.input has.setup).text
wrote_so s0 s1 k0 k1 status has = subst (λ (t : Told). HasWritten k0 k1 t.text) has.due has.wrote

-- where 0 tells what is due for a trace, the trace is of a whole legal history
checked_if : (s0 s1 : SourceState) (k0 k1 : SinkState) (has : HasAnswered check_intake (the_one check_due) s0 s1 k0 k1 0) (t : Result Reading ℕ) → read_trace (trace_in has.input) ≡ t →
    0 ≡ (trace_told has.setup t).status →
    HasWritten k0 k1 (trace_told has.setup t).text → HasChecked s0 s1 k0 k1
checked_if s0 s1 k0 k1 has (Err line) read zero wrote = absurd (omega arith)
checked_if s0 s1 k0 k1 has (Ok r) read zero wrote =
    let legal : judged has.setup (outcome_in r) ≡ Legal = legal_if (judged has.setup (outcome_in r)) zero in record {
      input = has.input;
      setup = has.setup;
      outcome = outcome_in r;
      read = has.read;
      scenario = scenario_given has.input has.setup (let within = has.read.within in within) has.given;
      trace = read_as_given (trace_in has.input) r read;
      whole = legal_is_whole has.setup (outcome_in r) legal;
      wrote = subst (λ (v : Verdict). HasWritten k0 k1 (verdict_text (length r.entries) v)) legal wrote;
    }

-- where 6 tells what is due for a text, it is not the trace of a whole legal history
denied_if : (s0 s1 : SourceState) (k0 k1 : SinkState) (has : HasAnswered check_intake (the_one check_due) s0 s1 k0 k1 6) (t : Result Reading ℕ) → read_trace (trace_in has.input) ≡ t →
    6 ≡ (trace_told has.setup t).status →
    HasWritten k0 k1 (trace_told has.setup t).text → HasDenied s0 s1 k0 k1
denied_if s0 s1 k0 k1 has (Err line) read six wrote = record {
  input = has.input;
  setup = has.setup;
  text = bad_text line;
  read = has.read;
  scenario = scenario_given has.input has.setup (let within = has.read.within in within) has.given;
  no_whole = λ o spells tells. let both = sym read ∙ spells.read in cc;
  denial = bad line read refl;
  wrote = wrote;
}
denied_if s0 s1 k0 k1 has (Ok r) read six wrote =
    let denied = illegal_if (judged has.setup (outcome_in r)) six in record {
      input = has.input;
      setup = has.setup;
      text = verdict_text (length r.entries) (Illegal denied.0 denied.1);
      read = has.read;
      scenario = scenario_given has.input has.setup (let within = has.read.within in within) has.given;
      no_whole = λ o spells tells. let both = sym (whole_is_legal has.setup o tells) ∙ (spelled_same has.setup (trace_in has.input) r o read spells ∙ denied.2) in cc;
      denial = illegal (outcome_in r) denied.0 denied.1 (read_as_given (trace_in has.input) r read) denied.2 refl;
      wrote = subst (λ (v : Verdict). HasWritten k0 k1 (verdict_text (length r.entries) v)) denied.2 wrote;
    }

-- where what is due was done, the headline holds, or the trace was denied
has_checked : (s0 s1 : SourceState) (k0 k1 : SinkState) (status : ℕ) → status ≡ 0 → HasAnswered check_intake (the_one check_due) s0 s1 k0 k1 status → HasChecked s0 s1 k0 k1
has_checked s0 s1 k0 k1 status is has =
    let at : HasAnswered check_intake (the_one check_due) s0 s1 k0 k1 0 = subst (HasAnswered check_intake (the_one check_due) s0 s1 k0 k1) is has in
    checked_if s0 s1 k0 k1 at (read_trace (trace_in at.input)) refl (told_so s0 s1 k0 k1 0 at) (wrote_so s0 s1 k0 k1 0 at)

has_denied : (s0 s1 : SourceState) (k0 k1 : SinkState) (status : ℕ) → status ≡ 6 → HasAnswered check_intake (the_one check_due) s0 s1 k0 k1 status → HasDenied s0 s1 k0 k1
has_denied s0 s1 k0 k1 status is has =
    let at : HasAnswered check_intake (the_one check_due) s0 s1 k0 k1 6 = subst (HasAnswered check_intake (the_one check_due) s0 s1 k0 k1) is has in
    denied_if s0 s1 k0 k1 at (read_trace (trace_in at.input)) refl (told_so s0 s1 k0 k1 6 at) (wrote_so s0 s1 k0 k1 6 at)

-- a status above 5 is that of the text that is due
below_seven : (s0 s1 : SourceState) (k0 k1 : SinkState) (status : ℕ) → (5 < status → HasAnswered check_intake (the_one check_due) s0 s1 k0 k1 status) → status < 7
below_seven s0 s1 k0 k1 status above = cases (nat_lt 5 status) refl
  where
    cases : (b : Bool) → nat_lt 5 status ≡ b → status < 7
    cases false small = omega (arith, ltb-false 5 status small)
    cases true great =
        let has = above (ltb-true 5 status great) in
        omega (arith, told_so s0 s1 k0 k1 status has, told_small has.setup (read_trace (trace_in has.input)))

-- what reads so and judges is `check`
checks_if_reads : (s0 s1 : SourceState) (k0 k1 : SinkState) (status : ℕ) → Reads check_intake (the_one check_due) s0 s1 k0 k1 status → Checks s0 s1 k0 k1 status
checks_if_reads s0 s1 k0 k1 status reads = record {
  known = below_seven s0 s1 k0 k1 status (λ above. reads.answered (inr above));
  done = λ is. has_checked s0 s1 k0 k1 status is (reads.answered (inl (omega arith)));
  denied = λ is. has_denied s0 s1 k0 k1 status is (reads.answered (inr (omega arith)));
  reads = reads;
}

-- what an input comes to is `check`
pub checks_input : (s0 s1 : SourceState) (k0 k1 : SinkState) (status : ℕ) (input : List ℕ) → IsInput s0 s1 (Ok input) → InputGave input k0 k1 status → Checks s0 s1 k0 k1 status
checks_input s0 s1 k0 k1 status input has (gave s gives came) =
    checks_if_reads s0 s1 k0 k1 status (answers_setup check_intake (the_one check_due) s0 s1 k0 k1 status input s (check_due input s) (told_known s (read_trace (trace_in input))) has gives refl came)
checks_input s0 s1 k0 k1 status input has (told why is tells) =
    checks_if_reads s0 s1 k0 k1 status (answers_unread check_intake (the_one check_due) s0 s1 k0 k1 status why refuses_longer (had_as_told check_intake s0 s1 input (Err why) has is) tells)

-- what reading no input and telling why come to is `check`
pub checks_unread : (s0 s1 : SourceState) (k0 k1 : SinkState) (status : ℕ) (why : Unread) → IsUnread check_intake s0 s1 why → Tells why k0 k1 status → Checks s0 s1 k0 k1 status
checks_unread s0 s1 k0 k1 status why is tells = checks_if_reads s0 s1 k0 k1 status (answers_unread check_intake (the_one check_due) s0 s1 k0 k1 status why refuses_longer is tells)

-- 1 is no status of `check`
pub check_is_known : (s0 s1 : SourceState) (k0 k1 : SinkState) (status : ℕ) → Checks s0 s1 k0 k1 status → status ≡ 1 → ⊥
check_is_known s0 s1 k0 k1 status checks is =
    let has = checks.reads.answered (inl (omega arith)) in
    one_unknown has.setup (read_trace (trace_in has.input)) (sym is ∙ told_so s0 s1 k0 k1 status has)

-- ---- the parts

-- what the setup at the front of an input and the trace behind it come to
pub input_gave : (input text : List ℕ) (s : Setup) (count : ℕ) (k0 k1 : SinkState) (status : ℕ) → length input ≤ input_limit →
    IsFrontReadAs (Ok (s, count)) input → text ≡ drop count input →
    Gave (trace_told s (read_trace text)) k0 k1 status → InputGave input k0 k1 status
input_gave input text s count k0 k1 status within front behind came =
    gave s (front.0, told_within input within ∙ front.1, front.2)
    (subst (λ (t : List ℕ). Gave (trace_told s (read_trace t)) k0 k1 status) (behind ∙ ap (λ (n : ℕ). drop n input) front.3) came)

-- what a refusal of the scenario at the front of an input comes to
pub input_told : (input : List ℕ) (fault : ScenarioFault) (why : Unread) (k0 k1 : SinkState) (status : ℕ) → length input ≤ input_limit → IsFrontReadAs (Err fault) input →
    ((t : Result ScenarioReading Refusal) → IsFaultFor fault t → IsToldAs (Err why) t) → Tells why k0 k1 status → InputGave input k0 k1 status
input_told input fault why k0 k1 status within front by tells =
    told why (subst (λ (t : Result ScenarioReading Refusal). IsToldAs (Err why) t) (sym (told_within input within)) (by (read_scenario (scenario_in input)) front)) tells

-- what the verdict on a trace that was read comes to
pub trace_gave : (s : Setup) (text : List ℕ) (o : OutcomeValue) (k0 k1 : SinkState) (status : ℕ) → IsReadAs (Ok o) (read_trace text) →
    Gave (verdict_told (length o.entries) (judged s o)) k0 k1 status →
    Gave (trace_told s (read_trace text)) k0 k1 status
trace_gave s text o k0 k1 status read came = subst (λ (t : Told). Gave t k0 k1 status) (told_as_read s text read.0 o read.1 read.2) came

-- what a text that was read as no trace comes to
pub fault_gave : (s : Setup) (text : List ℕ) (fault : TraceFault) (k0 k1 : SinkState) (status : ℕ) → IsReadAs (Err fault) (read_trace text) → TellsFault fault k0 k1 status →
    Gave (trace_told s (read_trace text)) k0 k1 status
fault_gave s text (Bad line) k0 k1 status read w = subst (λ (t : Result Reading ℕ). Gave (trace_told s t) k0 k1 status) (sym read) (written w)
fault_gave s text Memory k0 k1 status read same = unmade same.0 same.1

-- what a verdict comes to
pub verdict_gave : (n m : ℕ) (v w : Verdict) (good : ℕ) (k0 k1 : SinkState) (status : ℕ) → n ≡ m → v ≡ w → good ≡ status_of v → Wrote k0 k1 (verdict_text n v) good status →
    Gave (verdict_told m w) k0 k1 status
verdict_gave n m v w good k0 k1 status count same is wrote =
    subst (λ (c : ℕ). Gave (verdict_told c w) k0 k1 status) count
    (subst (λ (x : Verdict). Gave (verdict_told n x) k0 k1 status) same (written (subst (λ (g : ℕ). Wrote k0 k1 (verdict_text n v) g status) is wrote)))

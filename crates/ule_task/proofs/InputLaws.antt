-- From what reading and writing come to, the answer of a task that reads.
use Rattle.std.proofs.Common.{◌≡◌, ◌≤◌, ◌<◌, ◌++◌, ℕ, ◌+◌, List, length, Option, Some, None, Result, Ok, Err, inl, inr, ⊎_elim, refl, sym, ◌∙◌, ap, arith}
use Rattle.std.specs.Prelude.{◌⊎◌}
use Rattle.std.proofs.lemmas.List.{length-append}
use Rattle.ule_io.specs.Counter.{Rose}
use Rattle.ule_io.specs.Sink.{SinkState}
use Rattle.ule_io.specs.Source.{SourceState, with_front}
use Rattle.ule_scenario.specs.declared.reason.Refusal.{Refusal}
use Rattle.ule_task.proofs.WritingLaws.{has_written, took_front}
use Rattle.ule_task.specs.Input.{EndedOnceAtMost, Gave, GivesSetup, HasAnswered, HasInput, Intake, IsDue, IsHad, IsRefused, IsToldAs, IsUnread, ReadRefused}
use Rattle.ule_task.specs.Input.{Reads, Refuses, RefusesLonger, Tells, TookAtMost, refusal_due, refusal_text, text_due, too_long, unmade, whole, written, Told}
use Rattle.ule_task.specs.Writing.{TookFront, Wrote}
use Rattle.ule_task.specs.declared.input.Unread.{Unread}
use Rattle.ule_task.specs.declared.input.Unread.TheVariants.{ReadFault, Refused, Memory}
use Rattle.ule_types.specs.declared.setup.Setup.{Setup}

-- a status of 2 to 5 is not that of a text that is due
not_due : (status : ℕ) → 2 ≤ status → status ≤ 5 → (status < 2) ⊎ (5 < status) → ⊥
not_due status least most (inl below) = omega arith
not_due status least most (inr above) = omega arith

-- what was taken is no longer than what was told before
longer_left : (rest : Option (List ℕ)) (left taken : List ℕ) → Some left ≡ with_front taken rest → length taken ≤ length left
longer_left None left taken is = cc
longer_left (Some rest) left taken is =
    let same : left ≡ taken ++ rest = cc in rw (same, length-append taken rest) (omega arith)

-- where the source told its bytes, they are refused as what was read is
cause_told : (i : Intake) (s0 s1 : SourceState) (x : Refusal) → RefusesLonger i → ReadRefused i s0 s1 x → (input : List ℕ) → s0.left ≡ Some input → Refuses i input x
cause_told i s0 s1 x longer (whole input reads refuses) left told = rw (sym (reads.all left told)) refuses
cause_told i s0 s1 x longer (too_long taken given count ends is) left told =
    let more = longer_left s1.left left taken (sym told ∙ given) in
    longer left (omega arith) ∙ ap (λ y. Err y) (sym is)

-- what was read and is refused met the end once, or not at all
ended_once : (i : Intake) (s0 s1 : SourceState) (x : Refusal) → ReadRefused i s0 s1 x → EndedOnceAtMost s0 s1
ended_once i s0 s1 x (whole input reads refuses) = inr reads.one_end
ended_once i s0 s1 x (too_long taken given count ends is) = inl ends

-- what the whole input tells is what reading comes to
pub had_as_told : (i : Intake) (s0 s1 : SourceState) (input : List ℕ) (result : Result Setup Unread) → HasInput i s0 s1 input → IsToldAs result (i.told input) → IsHad i s0 s1 result
had_as_told i s0 s1 input (Ok s) has told = (input, has, told)
had_as_told i s0 s1 input (Err ReadFault) has told = absurd told
had_as_told i s0 s1 input (Err (Refused x)) has told = (whole input has.read told, has.kept)
had_as_told i s0 s1 input (Err Memory) has told = ((input, has.read.given, (let h = has.read.within in omega arith)), inr has.read.one_end, has.kept)

module _ (i : Intake) (IsDueFor : List ℕ → Setup → Told → Type 0) where
  -- the answer where the text that is due was written
  answers_due : (s0 s1 : SourceState) (k0 k1 : SinkState) (status : ℕ) → (status < 2) ⊎ (5 < status) → HasAnswered i IsDueFor s0 s1 k0 k1 status → s1.faults ≡ s0.faults →
      (k1.faults ≡ k0.faults) × (k1.empty_takes ≡ k0.empty_takes) → EndedOnceAtMost s0 s1 → Reads i IsDueFor s0 s1 k0 k1 status
  answers_due s0 s1 k0 k1 status is has read wrote once = record {
    answered = λ e. has;
    read_fault = λ e. absurd (not_due status (omega arith) (omega arith) is);
    fault_within = λ e. absurd (not_due status (omega arith) (omega arith) is);
    refused = λ e. absurd (not_due status (omega arith) (omega arith) is);
    write_fault = λ e. absurd (not_due status (omega arith) (omega arith) is);
    no_memory = λ e. absurd (not_due status (omega arith) (omega arith) is);
    memory_within = λ e. absurd (not_due status (omega arith) (omega arith) is);
    ends = once;
    read_kept = λ e. read;
    write_kept = λ e. wrote;
  }

  -- the answer where a read failed
  answers_read_fault : (s0 s1 : SourceState) (k0 k1 : SinkState) (status : ℕ) → status ≡ 2 → k1 ≡ k0 → Rose s0.faults s1.faults → TookAtMost s0 s1 i.limit →
      EndedOnceAtMost s0 s1 → Reads i IsDueFor s0 s1 k0 k1 status
  answers_read_fault s0 s1 k0 k1 status is same rose took once = record {
    answered = λ e. absurd (not_due status (omega arith) (omega arith) e);
    read_fault = λ e. (rose, same);
    fault_within = λ e. took;
    refused = λ e. absurd (omega arith);
    write_fault = λ e. absurd (omega arith);
    no_memory = λ e. same;
    memory_within = λ e. absurd (omega arith);
    ends = once;
    read_kept = λ e. absurd (e is);
    write_kept = λ e. (ap (λ (k : SinkState). k.faults) same, ap (λ (k : SinkState). k.empty_takes) same);
  }

  -- the answer where the line of the refusal was written
  answers_refused : (s0 s1 : SourceState) (k0 k1 : SinkState) (status : ℕ) → status ≡ 3 → IsRefused i s0 s1 k0 k1 → s1.faults ≡ s0.faults →
      (k1.faults ≡ k0.faults) × (k1.empty_takes ≡ k0.empty_takes) → EndedOnceAtMost s0 s1 → Reads i IsDueFor s0 s1 k0 k1 status
  answers_refused s0 s1 k0 k1 status is has read wrote once = record {
    answered = λ e. absurd (not_due status (omega arith) (omega arith) e);
    read_fault = λ e. absurd (omega arith);
    fault_within = λ e. absurd (omega arith);
    refused = λ e. has;
    write_fault = λ e. absurd (omega arith);
    no_memory = λ e. absurd (omega arith);
    memory_within = λ e. absurd (omega arith);
    ends = once;
    read_kept = λ e. read;
    write_kept = λ e. wrote;
  }

  -- the answer where a fault of writing came
  answers_fault : (s0 s1 : SourceState) (k0 k1 : SinkState) (status : ℕ) → status ≡ 4 → TookFront (IsDue i IsDueFor s0 s1) k0 k1 → s1.faults ≡ s0.faults → EndedOnceAtMost s0 s1 →
      Reads i IsDueFor s0 s1 k0 k1 status
  answers_fault s0 s1 k0 k1 status is has read once = record {
    answered = λ e. absurd (not_due status (omega arith) (omega arith) e);
    read_fault = λ e. absurd (omega arith);
    fault_within = λ e. absurd (omega arith);
    refused = λ e. absurd (omega arith);
    write_fault = λ e. has;
    no_memory = λ e. absurd (omega arith);
    memory_within = λ e. absurd (omega arith);
    ends = once;
    read_kept = λ e. read;
    write_kept = λ e. absurd (e is);
  }

  -- the answer where memory ran out
  answers_no_memory : (s0 s1 : SourceState) (k0 k1 : SinkState) (status : ℕ) → status ≡ 5 → k1 ≡ k0 → s1.faults ≡ s0.faults →
      TookAtMost s0 s1 (i.limit + 1) → EndedOnceAtMost s0 s1 →
      Reads i IsDueFor s0 s1 k0 k1 status
  answers_no_memory s0 s1 k0 k1 status is same read took once = record {
    answered = λ e. absurd (not_due status (omega arith) (omega arith) e);
    read_fault = λ e. absurd (omega arith);
    fault_within = λ e. absurd (omega arith);
    refused = λ e. absurd (omega arith);
    write_fault = λ e. absurd (omega arith);
    no_memory = λ e. same;
    memory_within = λ e. took;
    ends = once;
    read_kept = λ e. read;
    write_kept = λ e. (ap (λ (k : SinkState). k.faults) same, ap (λ (k : SinkState). k.empty_takes) same);
  }

  -- a refusal is the answer where what was read is refused
  answers_refusal : (s0 s1 : SourceState) (k0 k1 : SinkState) (status : ℕ) (x : Refusal) → RefusesLonger i → ReadRefused i s0 s1 x → s1.faults ≡ s0.faults →
      Wrote k0 k1 (refusal_text x) 3 status → Reads i IsDueFor s0 s1 k0 k1 status
  answers_refusal s0 s1 k0 k1 status x longer read faults w =
      ⊎_elim
      (λ (is : status ≡ 3). answers_refused s0 s1 k0 k1 status is
      (record { refusal = x; cause = cause_told i s0 s1 x longer read; read = read; wrote = has_written k0 k1 (refusal_text x) 3 status w is })
      faults (w.kept (λ e. omega arith)) (ended_once i s0 s1 x read))
      (λ (is : status ≡ 4). answers_fault s0 s1 k0 k1 status is (took_front (IsDue i IsDueFor s0 s1) k0 k1 (refusal_text x) 3 status (refusal_due x read refl) w is) faults (ended_once i s0 s1 x read))
      w.known

  -- what tells why there is no setup is the answer
  pub answers_unread : (s0 s1 : SourceState) (k0 k1 : SinkState) (status : ℕ) (why : Unread) → RefusesLonger i → IsUnread i s0 s1 why → Tells why k0 k1 status →
      Reads i IsDueFor s0 s1 k0 k1 status
  answers_unread s0 s1 k0 k1 status ReadFault longer why told = answers_read_fault s0 s1 k0 k1 status told.0 told.1 why.0 why.1 why.2
  answers_unread s0 s1 k0 k1 status (Refused x) longer why told = answers_refusal s0 s1 k0 k1 status x longer why.0 why.1 told
  answers_unread s0 s1 k0 k1 status Memory longer why told = answers_no_memory s0 s1 k0 k1 status told.0 told.1 why.2 why.0 why.1

  -- what is due for a setup was written, or a front of it
  answers_written : (s0 s1 : SourceState) (k0 k1 : SinkState) (status : ℕ) (input : List ℕ) (s : Setup) (due : Told) → (due.status < 2) ⊎ (5 < due.status) →
      HasInput i s0 s1 input → GivesSetup i input s → IsDueFor input s due → Wrote k0 k1 due.text due.status status → Reads i IsDueFor s0 s1 k0 k1 status
  answers_written s0 s1 k0 k1 status input s due fits has gives is w =
      ⊎_elim
      (λ (at : status ≡ due.status). answers_due s0 s1 k0 k1 status (rw at fits)
      (record { input = input; setup = s; answer = due; read = has.read; given = gives; due = is; wrote = has_written k0 k1 due.text due.status status w at; told = at })
      has.kept (w.kept (λ e. not_due due.status (omega arith) (omega arith) fits)) (inr has.read.one_end))
      (λ (at : status ≡ 4). answers_fault s0 s1 k0 k1 status at
      (took_front (IsDue i IsDueFor s0 s1) k0 k1 due.text due.status status (text_due input s due has.read gives is refl) w at) has.kept (inr has.read.one_end))
      w.known

  -- the answer where there was no memory for what the input asks for
  pub answers_unmade : (s0 s1 : SourceState) (k0 k1 : SinkState) (status : ℕ) (input : List ℕ) → HasInput i s0 s1 input → status ≡ 5 → k1 ≡ k0 → Reads i IsDueFor s0 s1 k0 k1 status
  answers_unmade s0 s1 k0 k1 status input has is same =
      answers_no_memory s0 s1 k0 k1 status is same has.kept (input, has.read.given, (let h = has.read.within in omega arith)) (inr has.read.one_end)

  -- what a setup comes to is the answer
  pub answers_setup : (s0 s1 : SourceState) (k0 k1 : SinkState) (status : ℕ) (input : List ℕ) (s : Setup) (due : Told) → (due.status < 2) ⊎ (5 < due.status) →
      HasInput i s0 s1 input → GivesSetup i input s → IsDueFor input s due → Gave due k0 k1 status → Reads i IsDueFor s0 s1 k0 k1 status
  answers_setup s0 s1 k0 k1 status input s due fits has gives is (written w) = answers_written s0 s1 k0 k1 status input s due fits has gives is w
  answers_setup s0 s1 k0 k1 status input s due fits has gives is (unmade none same) = answers_unmade s0 s1 k0 k1 status input has none same

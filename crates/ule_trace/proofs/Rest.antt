-- What is left of a trace's text while its lines are spelled one after another.
use Rattle.std.proofs.Common.{◌≡◌, ℕ, ◌+◌, ◌<◌, ◌≤◌, List, ◌++◌, length, get_or, drop, map, Some, Ok, refl, ap, subst, arith}
use Rattle.std.specs.Prelude.{slice_get}
use Rattle.std.proofs.lemmas.List.{drop_more, drop_all}
use Rattle.std.proofs.lemmas.Option.{slice_get_within, get_or_from_slice_get}
use Rattle.ule_score.specs.declared.record.CpuLine.{CpuLine}
use Rattle.ule_io.specs.Sink.{SinkState}
use Rattle.ule_trace.proofs.Progress.{Holds, made_room, spelled}
use Rattle.ule_trace.specs.Held.{Moves}
use Rattle.ule_trace.specs.Line.{line_text, lines_text}
use Rattle.ule_trace.specs.FinalText.{final_words, cpu_words}
use Rattle.ule_trace.specs.Trace.{entry_words, entry_lines, cpu_lines, closing_lines, trace_text}
use Rattle.ule_types.specs.declared.event.Entry.{Entry}
use Rattle.ule_types.specs.declared.outcome.ThreadLine.{ThreadLine}
use Rattle.ule_types.specs.Outcome.{OutcomeValue}

-- what follows the first k CPU lines
abbrev pub after_cpus : OutcomeValue → ℕ → List ℕ
after_cpus o k = lines_text (cpu_lines k (drop k o.cpus) ++ closing_lines o.now (length o.entries))

-- what follows the first k thread lines
abbrev pub after_threads : OutcomeValue → ℕ → List ℕ
after_threads o k =
    lines_text (map final_words (drop k o.threads) ++ (cpu_lines 0 o.cpus ++ closing_lines o.now (length o.entries)))

-- what follows the first k entries
abbrev pub after_entries : OutcomeValue → ℕ → List ℕ
after_entries o k =
    lines_text (entry_lines (k + 1) (drop k o.entries) ++
    (map final_words o.threads ++ (cpu_lines 0 o.cpus ++ closing_lines o.now (length o.entries))))

-- the line of the next entry comes first of what is left
pub entry_next : (o : OutcomeValue) (k : ℕ) (e : Entry) → slice_get o.entries k ≡ Some e → after_entries o k ≡ line_text (entry_words (k + 1) e) ++ after_entries o (k + 1)
entry_next o k e got = rw (drop_more o.entries k e (slice_get_within o.entries k e got), get_or_from_slice_get o.entries k e e got) refl

-- behind the last entry come the thread lines
pub entries_end : (o : OutcomeValue) (k : ℕ) → length o.entries ≤ k → after_entries o k ≡ after_threads o 0
entries_end o k past = rw (drop_all k o.entries past) refl

-- the next thread line comes first of what is left
pub thread_next : (o : OutcomeValue) (k : ℕ) (l : ThreadLine) → k < length o.threads → l ≡ get_or o.threads k l → after_threads o k ≡ line_text (final_words l) ++ after_threads o (k + 1)
thread_next o k l within read = rw (drop_more o.threads k l within, ← read) refl

-- behind the last thread line come the CPU lines
pub threads_end : (o : OutcomeValue) (k : ℕ) → length o.threads ≤ k → after_threads o k ≡ after_cpus o 0
threads_end o k past = rw (drop_all k o.threads past) refl

-- the next CPU line comes first of what is left
pub cpu_next : (o : OutcomeValue) (lines : List CpuLine) (k : ℕ) (d : CpuLine) → lines ≡ o.cpus → k < length lines → after_cpus o k ≡ line_text (cpu_words k (get_or lines k d)) ++ after_cpus o (k + 1)
cpu_next o lines k d e within =
    let within : k < length o.cpus = omega (arith, ap length e) in
    rw (e, drop_more o.cpus k d within) refl

-- behind the last CPU line come the closing lines
pub cpus_end : (o : OutcomeValue) (k : ℕ) → length o.cpus ≤ k → after_cpus o k ≡ lines_text (closing_lines o.now (length o.entries))
cpus_end o k past = rw (drop_all k o.cpus past) refl

-- ---- what goes out line by line

-- there is room for the next entry's line, and it is spelled
pub entry_spelled : {old mid new : SinkState} {held left : List ℕ} (o : OutcomeValue) (k : ℕ) (e : Entry) → slice_get o.entries k ≡ Some e →
    Holds old mid held (after_entries o k) (trace_text o) → Moves mid new held left (Ok tt) →
    Holds old new (left ++ line_text (entry_words (k + 1) e)) (after_entries o (k + 1)) (trace_text o)
entry_spelled o k e got h m = spelled (line_text (entry_words (k + 1) e)) (after_entries o (k + 1)) (made_room h m) (entry_next o k e got)

-- there is room for the next thread line, and it is spelled
pub thread_spelled : {old mid new : SinkState} {held left : List ℕ} (o : OutcomeValue) (k : ℕ) (l : ThreadLine) → k < length o.threads → l ≡ get_or o.threads k l →
    Holds old mid held (after_threads o k) (trace_text o) → Moves mid new held left (Ok tt) →
    Holds old new (left ++ line_text (final_words l)) (after_threads o (k + 1)) (trace_text o)
thread_spelled o k l within read h m = spelled (line_text (final_words l)) (after_threads o (k + 1)) (made_room h m) (thread_next o k l within read)

-- all entries are spelled
pub entries_spelled : {old new : SinkState} {held : List ℕ} (o : OutcomeValue) (k : ℕ) → length o.entries ≤ k →
    Holds old new held (after_entries o k) (trace_text o) → Holds old new held (after_threads o 0) (trace_text o)
entries_spelled {old} {new} {held} o k past h = subst (λ (rest : List ℕ). Holds old new held rest (trace_text o)) (entries_end o k past) h

-- all thread lines are spelled
pub threads_spelled : {old new : SinkState} {held : List ℕ} (o : OutcomeValue) (k : ℕ) → length o.threads ≤ k →
    Holds old new held (after_threads o k) (trace_text o) → Holds old new held (after_cpus o 0) (trace_text o)
threads_spelled {old} {new} {held} o k past h = subst (λ (rest : List ℕ). Holds old new held rest (trace_text o)) (threads_end o k past) h

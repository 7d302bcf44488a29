-- What the bytes of a trace spell: entries and final lines, or the first line at which the lines so far begin no trace.
use Rattle.std.specs.Prelude.{ℕ, ◌≡◌, ◌+◌, ◌-◌, min, Bool, true, false, ◌&&◌, ◌==◌, nat_lt, nat_le, if◌then◌else◌, Option, Some, None, List, [], ◌∷◌, ◌++◌, length, codes, bytes_eq, Result, Ok, Err}
use Rattle.std.specs.List.{list_all}
use Rattle.ule_score.specs.declared.record.CpuLine.{CpuLine}
use Rattle.ule_text.specs.Words.{Word}
use Rattle.ule_trace.specs.Parts.{parts_at, taken, whole}
use Rattle.ule_trace.specs.Fields.{amount, keyword, up_to}
use Rattle.ule_trace.specs.LineForm.{entry_form, thread_form, cpu_form}
use Rattle.ule_trace.specs.declared.fault.TraceFault.{TraceFault}
use Rattle.ule_trace.specs.declared.fault.TraceFault.TheVariants.{Bad, Memory}
use Rattle.ule_trace.specs.declared.line_form.NumberedLine.{NumberedLine}
use Rattle.ule_types.specs.Outcome.{OutcomeValue}
use Rattle.ule_types.specs.declared.event.Entry.{Entry}
use Rattle.ule_types.specs.declared.outcome.ThreadLine.{ThreadLine}

-- ---- the lines so far

-- which line stands last: none, 0, or the header, 1, or an entry, 1 too, a thread's line, 2, a CPU's line, 3, the time at the end, 4, or the number of entries, 5; and what the lines give
pub record Reading : Type 0 where
  pub place : ℕ
  pub entries : List Entry
  pub threads : List ThreadLine
  pub cpus : List CpuLine
  pub now : ℕ

-- before the first line
abbrev pub no_lines : Reading
no_lines = record { place = 0; entries = []; threads = []; cpus = []; now = 0 }

-- how many lines there are: the header, an entry, thread or CPU each, the time at the end and the number of entries
abbrev pub lines_in : Reading → ℕ
lines_in r = min 1 r.place + length r.entries + length r.threads + length r.cpus + (r.place - 3)

-- ---- one more line, by its form

-- the header, `ule-trace 1`
abbrev pub with_header : Reading → Option (Unit {0}) → Option Reading
with_header r None = None
with_header r (Some u) = if r.place == 0 then Some (record r { place = 1 }) else None

-- an entry behind the header and other entries, of which there are at most 65,536
abbrev pub with_entry : Reading → Option Entry → Option Reading
with_entry r None = None
with_entry r (Some e) = if (r.place == 1) && nat_lt (length r.entries) 65536 then Some (record r { entries = r.entries ++ e ∷ [] }) else None

-- whether the header stands, and no line behind this place does
abbrev pub is_behind_header : ℕ → ℕ → Bool
is_behind_header place last = nat_le 1 place && nat_le place last

-- the line of a thread of a greater number than those before
abbrev pub with_thread : Reading → Option ThreadLine → Option Reading
with_thread r None = None
with_thread r (Some l) =
    if is_behind_header r.place 2 && list_all (λ m. nat_lt m.id l.id) r.threads then
    Some (record r { place = 2; threads = r.threads ++ l ∷ [] }) else None

-- the line of the next CPU
abbrev pub with_cpu_line : Reading → Option NumberedLine → Option Reading
with_cpu_line r None = None
with_cpu_line r (Some l) =
    if is_behind_header r.place 3 && (l.cpu == length r.cpus) then
    Some (record r { place = 3; cpus = r.cpus ++ l.line ∷ [] }) else None

-- the time at the end, behind a CPU's line
abbrev pub with_now : Reading → Option ℕ → Option Reading
with_now r None = None
with_now r (Some now) = if r.place == 3 then Some (record r { place = 4; now = now }) else None

-- the number of entries
abbrev pub with_count : Reading → Option ℕ → Option Reading
with_count r None = None
with_count r (Some n) = if (r.place == 4) && (n == length r.entries) then Some (record r { place = 5 }) else None

-- the words of a line that are the header behind `ule-trace`, a number, or the number of entries
abbrev pub version : List Word → Option (Unit {0})
version ws = whole (taken (keyword (codes "1")) ws)

abbrev pub time : List Word → Option ℕ
time ws = whole (taken amount ws)

abbrev pub count : List Word → Option ℕ
count ws = whole (taken (up_to 65536) ws)

-- a line by its first word: a line of another first word is an entry's
abbrev pub after_words : Reading → List Word → Option Reading
after_words r [] = None
after_words r (first ∷ ws) =
    if bytes_eq first (codes "ule-trace") then with_header r (version ws) else (
    if bytes_eq first (codes "t") then with_thread r (whole (thread_form ws)) else (
    if bytes_eq first (codes "c") then with_cpu_line r (whole (cpu_form ws)) else (
    if bytes_eq first (codes "now") then with_now r (time ws) else (
    if bytes_eq first (codes "done") then with_count r (count ws) else (
    with_entry r (whole (entry_form (length r.entries + 1) (first ∷ ws))))))))

-- a line by its bytes
unfoldable pub after_line : Reading → List ℕ → Option Reading
after_line r line = after_words r (parts_at 32 line)

-- a line was read, and the lines so far are what it gives; or it begins no trace
abbrev pub Goes : Option Reading → Bool → Reading → Type 0
Goes told true new = told ≡ Some new
Goes told false new = told ≡ None

-- ---- a text

-- the lines from here on, of which the last is what stands behind the last newline; or the number of the line behind those that could be read
abbrev pub or_line : ℕ → Option Reading → (Reading → Result Reading ℕ) → Result Reading ℕ
or_line n None more = Err n
or_line n (Some r) more = more r

unfoldable pub read_lines : Reading → List (List ℕ) → Result Reading ℕ
read_lines r [] = Err (lines_in r + 1)
read_lines r (rest ∷ []) = if (r.place == 5) && (length rest == 0) then Ok r else Err (lines_in r + 1)
read_lines r (line ∷ other ∷ more) = or_line (lines_in r + 1) (after_line r line) (λ s. read_lines s (other ∷ more))

-- what the bytes of a trace spell, or the first line at which they begin none
abbrev pub read_bytes : List ℕ → Result Reading ℕ
read_bytes bytes = read_lines no_lines (parts_at 10 bytes)

-- ---- an answer

-- an outcome has these entries and final lines
pub record IsOutcomeOf (r : Reading) (o : OutcomeValue) : Type 0 where
  pub entries : o.entries ≡ r.entries
  pub threads : o.threads ≡ r.threads
  pub cpus : o.cpus ≡ r.cpus
  pub now : o.now ≡ r.now

-- the bytes spell these entries and final lines
pub record Spells (bytes : List ℕ) (o : OutcomeValue) : Type 0 where
  pub reading : Reading
  pub read : read_bytes bytes ≡ Ok reading
  pub gives : IsOutcomeOf reading o

-- the answer of a reader is what is told of the bytes; want of memory is free
abbrev pub IsReadAs : Result OutcomeValue TraceFault → Result Reading ℕ → Type 0
IsReadAs (Ok o) told = (r : Reading) × (told ≡ Ok r) × IsOutcomeOf r o
IsReadAs (Err (Bad line)) told = told ≡ Err line
IsReadAs (Err Memory) told = Unit {0}

-- What the words of a line spell: an entry, a thread's line, a CPU's line.
use Rattle.std.specs.Prelude.{ℕ, ℤ, Bool, ◌==◌, Option, Some, None, if◌then◌else◌, List, codes}
use Rattle.ule_history.specs.declared.History.{History}
use Rattle.ule_history.specs.declared.CpuUse.{CpuUse}
use Rattle.ule_prio.specs.declared.class.Class.{Class}
use Rattle.ule_score.specs.declared.record.CpuLine.{CpuLine}
use Rattle.ule_text.specs.Words.{Word}
use Rattle.ule_trace.specs.Parts.{Spelled, taken, next, form0, form2, form3, form4}
use Rattle.ule_trace.specs.Fields.{cpu, thread, priority, bucket, amount, worker, nice, keyword, maybe, flag, class_named, lock_name, up_to}
use Rattle.ule_trace.specs.PlaceForm.{final_place}
use Rattle.ule_trace.specs.EventForm.{event_form}
use Rattle.ule_trace.specs.ReplyForm.{reply_form}
use Rattle.ule_trace.specs.declared.place_form.Standing.{Standing}
use Rattle.ule_trace.specs.declared.line_form.Head.{Head}
use Rattle.ule_trace.specs.declared.line_form.Priorities.{Priorities}
use Rattle.ule_trace.specs.declared.line_form.Past.{Past}
use Rattle.ule_trace.specs.declared.line_form.Ties.{Ties}
use Rattle.ule_trace.specs.declared.line_form.Marks.{Marks}
use Rattle.ule_trace.specs.declared.line_form.Counts.{Counts}
use Rattle.ule_trace.specs.declared.line_form.NumberedLine.{NumberedLine}
use Rattle.ule_types.specs.declared.event.Entry.{Entry}
use Rattle.ule_types.specs.declared.outcome.ThreadLine.{ThreadLine}

-- ---- an entry

-- this number of an entry and no other; there are at most 65,536
abbrev pub if_same : ℕ → Option ℕ → Option ℕ
if_same k None = None
if_same k (Some n) = if n == k then Some n else None

abbrev pub entry_number : ℕ → Word → Option ℕ
entry_number k word = if_same k (up_to 65536 word)

-- the entry of this number
abbrev pub entry_form : ℕ → List Word → Spelled Entry
entry_form k ws =
    next (taken (entry_number k) ws) (λ n behind_number.
    next (taken worker behind_number) (λ w behind_worker.
    next (taken amount behind_worker) (λ now behind_time.
    next (event_form behind_time) (λ e behind_event.
    next (taken (keyword (codes "->")) behind_event) (λ arrow behind_arrow.
    next (reply_form behind_arrow) (λ r.
    form0 (record { worker = w; event = e; now = now; reply = r })))))))

-- ---- a thread's line, behind its t

abbrev pub head : ℕ → Standing → Class → ℤ → Head
head id at class nice = record { id = id; place = at.place; position = at.position; class = class; nice = nice }

abbrev pub priorities : ℕ → Option ℕ → ℕ → Priorities
priorities base lent p = record { base = base; lent = lent; priority = p }

abbrev pub history : ℕ → ℕ → History
history run slept = record { run = run; slept = slept }

abbrev pub usage : ℕ → ℕ → ℕ → CpuUse
usage ticks ltick ftick = record { ticks = ticks; ltick = ltick; ftick = ftick }

abbrev pub past : ℕ → ℕ → ℕ → ℕ → Past
past count slept_at last last_run = record { slice_count = count; slept_at = slept_at; last = last; last_run = last_run }

abbrev pub ties : Option ℕ → Option ℕ → Option ℕ → Ties
ties bound parent word = record { bound = bound; parent = parent; word = word }

abbrev pub thread_line : Head → Priorities → History → CpuUse → Past → Ties → ThreadLine
thread_line a b h u c d = record {
  id = a.id;
  place = a.place;
  pos = a.position;
  class = a.class;
  nice = a.nice;
  base = b.base;
  lent = b.lent;
  priority = b.priority;
  run = h.run;
  slept = h.slept;
  ticks = u.ticks;
  ltick = u.ltick;
  ftick = u.ftick;
  slice_count = c.slice_count;
  slept_at = c.slept_at;
  last = c.last;
  last_run = c.last_run;
  bound = d.bound;
  parent = d.parent;
  word = d.word;
}

abbrev pub thread_form : List Word → Spelled ThreadLine
thread_form ws =
    next (form4 head thread final_place class_named nice ws) (λ a behind_head.
    next (form3 priorities priority (maybe priority) priority behind_head) (λ b behind_priorities.
    next (form2 history amount amount behind_priorities) (λ h behind_history.
    next (form3 usage amount amount amount behind_history) (λ u behind_use.
    next (form4 past amount amount cpu amount behind_use) (λ c behind_past.
    next (form3 ties (maybe cpu) (maybe thread) lock_name behind_past) (λ d.
    form0 (thread_line a b h u c d)))))))

-- ---- a CPU's line, behind its c

abbrev pub marks : ℕ → ℕ → Bool → Bool → Marks
marks idx ridx resched slice_end = record { idx = idx; ridx = ridx; resched = resched; slice_end = slice_end }

abbrev pub counts : ℕ → ℕ → ℕ → Counts
counts switches old balance = record { switches = switches; old_switches = old; balance = balance }

abbrev pub cpu_line : Marks → Counts → CpuLine
cpu_line m n = record {
  idx = m.idx;
  ridx = m.ridx;
  resched = m.resched;
  slice_end = m.slice_end;
  switches = n.switches;
  old_switches = n.old_switches;
  balance = n.balance;
}

abbrev pub cpu_form : List Word → Spelled NumberedLine
cpu_form ws =
    next (taken cpu ws) (λ c behind_number.
    next (form4 marks bucket bucket flag flag behind_number) (λ m behind_marks.
    next (form3 counts amount amount amount behind_marks) (λ n.
    form0 (record { cpu = c; line = cpu_line m n }))))

-- A written trace is read as the outcome that it was written of.
use Rattle.std.proofs.Common.{◌≡◌, ℕ, ◌+◌, ◌<◌, ◌≤◌, ◌^◌, Bool, true, List, [], ◌∷◌, ◌++◌, length, map, Some, Ok, refl, sym, subst, ap, ◌∙◌, append_assoc, arith}
use Rattle.std.specs.Prelude.{nat_lt, nat_le, codes}
use Rattle.std.specs.List.{list_all, AllByRecursion}
use Rattle.std.specs.Fmt.{decimal}
use Rattle.std.proofs.lemmas.Bool.{and_from, and_parts, eq-eqb, le-leb, leb-true, lt-ltb, ltb-true}
use Rattle.std.proofs.lemmas.Grind.{flat_map-append}
use Rattle.std.proofs.lemmas.List.{append-nil, length_push}
use Rattle.std.proofs.lemmas.List.Folds.{list_all-append}
use Rattle.ule_score.specs.declared.record.CpuLine.{CpuLine}
use Rattle.ule_text.specs.Words.{Word}
use Rattle.ule_text.proofs.Numbers.{decimal_is_word}
use Rattle.ule_text.proofs.Printed.{is_word}
use Rattle.ule_trace.proofs.FieldsBack.{amount_back, no_keyword, up_to_back}
use Rattle.ule_trace.proofs.Lines.{read_more}
use Rattle.ule_trace.proofs.LinesBack.{cpu_are_words, cpu_line_back, entry_are_words, entry_back, line_words, thread_are_words, thread_back, thread_words}
use Rattle.ule_trace.proofs.Parted.{has_part}
use Rattle.ule_trace.proofs.WordsBack.{front_part, line_unbroken, words_parted}
use Rattle.ule_trace.specs.EventText.{event_words}
use Rattle.ule_trace.specs.FinalText.{cpu_words, final_words}
use Rattle.ule_trace.specs.Laws.{WrittenIsReadBack}
use Rattle.ule_trace.specs.Line.{joined, line_text, lines_text, worker_word}
use Rattle.ule_trace.specs.Parts.{parts_at}
use Rattle.ule_trace.specs.Ranges.{CpuFits, EntryFits, OutcomeFits, ThreadFits}
use Rattle.ule_trace.specs.Reading.{Reading, after_line, after_words, is_behind_header, no_lines, read_bytes, read_lines}
use Rattle.ule_trace.specs.ReplyText.{reply_words}
use Rattle.ule_trace.specs.Trace.{closing_lines, cpu_lines, entry_lines, entry_words, trace_text}
use Rattle.ule_types.specs.Outcome.{OutcomeValue, RisesFrom}
use Rattle.ule_types.specs.declared.event.Entry.{Entry}
use Rattle.ule_types.specs.declared.outcome.ThreadLine.{ThreadLine}

-- ---- lines, one after another

-- some lines lead from what was read before to what is read with them, whatever stands behind
pub record Leads (r : Reading) (text : List ℕ) (s : Reading) : Type 0 where
  pub leads : (behind : List ℕ) → read_lines r (parts_at 10 (text ++ behind)) ≡ read_lines s (parts_at 10 behind)

-- no line
leads_nowhere : (r : Reading) → Leads r [] r
leads_nowhere r = record { leads = λ behind. refl }

-- some lines, and then others
leads_on : {r s t : Reading} {one more : List ℕ} → Leads r one s → Leads s more t → Leads r (one ++ more) t
leads_on {r} {s} {t} {one} {more} a b = record {
  leads = λ behind. ap (λ (text : List ℕ). read_lines r (parts_at 10 text)) (append_assoc one more behind) ∙ a.leads (more ++ behind) ∙ b.leads behind;
}

-- a line by its bytes is a line by its words
by_words : (r : Reading) (w : Word) (ws : List Word) → list_all is_word (w ∷ ws) ≡ true → after_line r (joined (w ∷ ws)) ≡ after_words r (w ∷ ws)
unfolding after_line
by_words r w ws all = ap (after_words r) (words_parted w ws all)

-- a written line
leads_line : {r s : Reading} (w : Word) (ws : List Word) → list_all is_word (w ∷ ws) ≡ true → after_words r (w ∷ ws) ≡ Some s → Leads r (line_text (w ∷ ws)) s
leads_line {r} {s} w ws all given = record {
  leads = λ behind.
      ap (λ (text : List ℕ). read_lines r (parts_at 10 text)) (append_assoc (joined (w ∷ ws)) (10 ∷ []) behind)
      ∙ ap (read_lines r) (front_part 10 (joined (w ∷ ws)) behind (line_unbroken (w ∷ ws) all))
      ∙ read_more r s (joined (w ∷ ws)) (parts_at 10 behind) (has_part 10 behind) (by_words r w ws all ∙ given);
}

-- ---- entries

-- the header and some entries were read
abbrev entered : List Entry → Reading
entered es = record { place = 1; entries = es; threads = []; cpus = []; now = 0 }

-- the line of the next entry
entry_taken : (es : List Entry) (e : Entry) → length es + 1 ≤ 65536 → EntryFits e → after_words (entered es) (entry_words (length es + 1) e) ≡ Some (entered (es ++ e ∷ []))
entry_taken es e few fits =
    let k = length es + 1 in
    rw (
      no_keyword k 117 (codes "le-trace") (omega arith) (omega arith),
      no_keyword k 116 [] (omega arith) (omega arith),
      no_keyword k 99 [] (omega arith) (omega arith),
      no_keyword k 110 (codes "ow") (omega arith) (omega arith),
      no_keyword k 100 (codes "one") (omega arith) (omega arith),
      entry_back k e few fits,
      lt-ltb (length es) 65536 (omega arith),
    ) refl

-- the lines of entries
entries_lead : (before es : List Entry) → length before + length es ≤ 65536 → AllByRecursion EntryFits es →
    Leads (entered before) (lines_text (entry_lines (length before + 1) es)) (entered (before ++ es))
entries_lead before [] few fit = subst (λ (es : List Entry). Leads (entered before) [] (entered es)) (sym (append-nil before)) (leads_nowhere (entered before))
entries_lead before (e ∷ es) few fit =
    let k = length before + 1 in
    let count : length (before ++ e ∷ []) ≡ k = length_push before e in
    leads_on
    (leads_line {r = entered before} {s = entered (before ++ e ∷ [])} (decimal k) (worker_word e.worker ∷ decimal e.now ∷ event_words e.event ++ codes "->" ∷ reply_words e.reply) (entry_are_words k e (omega arith) fit.0) (entry_taken before e (omega arith) fit.0))
    (subst (λ (n : ℕ). Leads (entered (before ++ e ∷ [])) (lines_text (entry_lines (n + 1) es)) (entered (before ++ e ∷ es))) count
    (subst (λ (all : List Entry). Leads (entered (before ++ e ∷ [])) (lines_text (entry_lines (length (before ++ e ∷ []) + 1) es)) (entered all)) (append_assoc before (e ∷ []) es)
    (entries_lead (before ++ e ∷ []) es (omega arith) fit.1)))

-- ---- threads

-- threads of lower numbers alone stand before
abbrev are_below : ℕ → List ThreadLine → Bool
are_below low ls = list_all (λ m. nat_lt m.id low) ls

-- they are below a higher number too
raised : (low high : ℕ) (ls : List ThreadLine) → low ≤ high → are_below low ls ≡ true → are_below high ls ≡ true
raised low high [] more below = refl
raised low high (m ∷ ls) more below =
    let both = and_parts (nat_lt m.id low) (are_below low ls) below in
    let less = ltb-true m.id low both.0 in
    and_from (nat_lt m.id high) (are_below high ls) (lt-ltb m.id high (omega arith)) (raised low high ls more both.1)

-- and so are they with this one
below_with : (low : ℕ) (ls : List ThreadLine) (l : ThreadLine) → low ≤ l.id → are_below low ls ≡ true → are_below (l.id + 1) (ls ++ l ∷ []) ≡ true
below_with low ls l more below =
    list_all-append (λ (m : ThreadLine). nat_lt m.id (l.id + 1)) ls (l ∷ [])
    ∙ and_from (are_below (l.id + 1) ls) (are_below (l.id + 1) (l ∷ [])) (raised low (l.id + 1) ls (omega arith) below) (rw (lt-ltb l.id (l.id + 1) (omega arith)) refl)

-- lines of threads were read
abbrev threaded : Reading → ℕ → List ThreadLine → Reading
threaded r place ls = record r { place = place; threads = ls }

-- the line of the next thread
thread_taken : (r : Reading) (l : ThreadLine) → is_behind_header r.place 2 ≡ true → are_below l.id r.threads ≡ true → l.id < 256 → ThreadFits l →
    after_words r (final_words l) ≡ Some (threaded r 2 (r.threads ++ l ∷ []))
thread_taken r l may below small fits = rw (thread_back l small fits, may, below) refl

-- the lines of threads lead to a place behind the header
record ThreadsLead (r : Reading) (ls : List ThreadLine) : Type 0 where
  place : ℕ
  within : is_behind_header place 2 ≡ true
  lead : Leads r (lines_text (map final_words ls)) (threaded r place (r.threads ++ ls))

threads_lead : (low : ℕ) (r : Reading) (ls : List ThreadLine) → is_behind_header r.place 2 ≡ true → are_below low r.threads ≡ true → RisesFrom low ls → AllByRecursion ThreadFits ls → ThreadsLead r ls
threads_lead low r [] may below rise fit = record {
  place = r.place;
  within = may;
  lead = subst (λ (ts : List ThreadLine). Leads r [] (threaded r r.place ts)) (sym (append-nil r.threads)) (leads_nowhere r);
}
threads_lead low r (l ∷ ls) may below rise fit =
    let s = threaded r 2 (r.threads ++ l ∷ []) in
    let rest = threads_lead (l.id + 1) s ls refl (below_with low r.threads l rise.0 below) rise.2 fit.1 in
    record {
      place = rest.place;
      within = rest.within;
      lead = leads_on
          (leads_line {r = r} {s = s} (codes "t") (thread_words l) (thread_are_words l rise.1 fit.0) (thread_taken r l may (raised low l.id r.threads rise.0 below) rise.1 fit.0))
          (subst (λ (ts : List ThreadLine). Leads s (lines_text (map final_words ls)) (threaded r rest.place ts)) (append_assoc r.threads (l ∷ []) ls) rest.lead);
    }

-- ---- CPUs

-- lines of CPUs were read
abbrev lined : Reading → List CpuLine → Reading
lined r ls = record r { place = 3; cpus = ls }

-- the line of the next CPU
cpu_taken : (r : Reading) (c : ℕ) (l : CpuLine) → is_behind_header r.place 3 ≡ true → length r.cpus ≡ c → c < 16 → CpuFits l →
    after_words r (cpu_words c l) ≡ Some (lined r (r.cpus ++ l ∷ []))
cpu_taken r c l may count small fits = rw (cpu_line_back c l small fits, may, count, eq-eqb c c refl) refl

-- the lines of CPUs behind others
cpus_lead : (r : Reading) (before ls : List CpuLine) → length before + length ls ≤ 16 → AllByRecursion CpuFits ls →
    Leads (lined r before) (lines_text (cpu_lines (length before) ls)) (lined r (before ++ ls))
cpus_lead r before [] few fit = subst (λ (ls : List CpuLine). Leads (lined r before) [] (lined r ls)) (sym (append-nil before)) (leads_nowhere (lined r before))
cpus_lead r before (l ∷ ls) few fit =
    let c = length before in
    let count : length (before ++ l ∷ []) ≡ c + 1 = length_push before l in
    leads_on
    (leads_line {r = lined r before} {s = lined r (before ++ l ∷ [])} (codes "c") (line_words c l) (cpu_are_words c l (omega arith) fit.0) (cpu_taken (lined r before) c l refl refl (omega arith) fit.0))
    (subst (λ (n : ℕ). Leads (lined r (before ++ l ∷ [])) (lines_text (cpu_lines n ls)) (lined r (before ++ l ∷ ls))) count
    (subst (λ (all : List CpuLine). Leads (lined r (before ++ l ∷ [])) (lines_text (cpu_lines (length (before ++ l ∷ [])) ls)) (lined r all)) (append_assoc before (l ∷ []) ls)
    (cpus_lead r (before ++ l ∷ []) ls (omega arith) fit.1)))

-- the lines of all CPUs, of which there is one
all_cpus_lead : (r : Reading) (ls : List CpuLine) → is_behind_header r.place 3 ≡ true → r.cpus ≡ [] → 1 ≤ length ls → length ls ≤ 16 → AllByRecursion CpuFits ls →
    Leads r (lines_text (cpu_lines 0 ls)) (lined r ls)
all_cpus_lead r [] may none some few fit = absurd (omega (arith, some))
all_cpus_lead r (l ∷ ls) may none some few fit =
    leads_on
    (leads_line {r = r} {s = lined r (l ∷ [])} (codes "c") (line_words 0 l) (cpu_are_words 0 l (omega arith) fit.0)
    (subst (λ (cs : List CpuLine). after_words r (cpu_words 0 l) ≡ Some (lined r (cs ++ l ∷ []))) none (cpu_taken r 0 l may (ap length none) (omega arith) fit.0)))
    (cpus_lead r (l ∷ []) ls (omega arith) fit.1)

-- ---- the last lines

-- the time at the end and the number of entries were read
abbrev closed : Reading → ℕ → Reading
closed r now = record r { place = 5; now = now }

closing_lead : (r : Reading) (now : ℕ) → r.place ≡ 3 → now < 2 ^ 64 → length r.entries ≤ 65536 → Leads r (lines_text (closing_lines now (length r.entries))) (closed r now)
closing_lead r now at small few =
    leads_on
    (leads_line {r = r} {s = record r { place = 4; now = now }} (codes "now") (decimal now ∷ []) (rw (decimal_is_word now small) refl) (rw (amount_back now small, at) refl))
    (leads_on
    (leads_line {r = record r { place = 4; now = now }} {s = closed r now} (codes "done") (decimal (length r.entries) ∷ []) (rw (decimal_is_word (length r.entries) (omega arith)) refl)
    (rw (up_to_back 65536 (length r.entries) few (omega arith), eq-eqb (length r.entries) (length r.entries) refl) refl))
    (leads_nowhere (closed r now)))

-- ---- a trace

-- lines in two parts
cut : (one more : List (List Word)) → lines_text (one ++ more) ≡ lines_text one ++ lines_text more
cut one more = flat_map-append line_text one more

-- a place behind the header and the threads is one behind the CPUs
behind_threads : (p : ℕ) → is_behind_header p 2 ≡ true → is_behind_header p 3 ≡ true
behind_threads p may =
    let both = and_parts (nat_le 1 p) (nat_le p 2) may in
    let most = leb-true p 2 both.1 in
    and_from (nat_le 1 p) (nat_le p 3) both.0 (le-leb p 3 (omega arith))

-- what all lines of an outcome give
abbrev told_of : OutcomeValue → Reading
told_of o = record { place = 5; entries = o.entries; threads = o.threads; cpus = o.cpus; now = o.now }

module _ (o : OutcomeValue) (fits : OutcomeFits o) where
  -- the lines of threads
  by_threads : ThreadsLead (entered o.entries) o.threads
  by_threads = threads_lead 0 (entered o.entries) o.threads refl refl fits.rising fits.threads

  -- what was read before the lines of the CPUs, and behind them
  behind_those : Reading
  behind_those = threaded (entered o.entries) by_threads.place o.threads

  -- the lines of the threads and those behind them
  ends_lead : Leads (entered o.entries) (lines_text (map final_words o.threads) ++ (lines_text (cpu_lines 0 o.cpus) ++ lines_text (closing_lines o.now (length o.entries)))) (told_of o)
  unfolding behind_those
  ends_lead =
      leads_on by_threads.lead
      (leads_on (all_cpus_lead behind_those o.cpus (behind_threads by_threads.place by_threads.within) refl fits.some_cpu fits.few_cpus fits.cpus)
      (closing_lead (lined behind_those o.cpus) o.now refl fits.now fits.count))

  -- the text of a trace in parts
  text_cut : trace_text o ≡ line_text (codes "ule-trace" ∷ codes "1" ∷ []) ++ (lines_text (entry_lines 1 o.entries) ++
      (lines_text (map final_words o.threads) ++ (lines_text (cpu_lines 0 o.cpus) ++ lines_text (closing_lines o.now (length o.entries)))))
  text_cut =
      ap (λ (text : List ℕ). line_text (codes "ule-trace" ∷ codes "1" ∷ []) ++ text)
      (cut (entry_lines 1 o.entries) (map final_words o.threads ++ (cpu_lines 0 o.cpus ++ closing_lines o.now (length o.entries)))
      ∙ ap (λ (text : List ℕ). lines_text (entry_lines 1 o.entries) ++ text)
      (cut (map final_words o.threads) (cpu_lines 0 o.cpus ++ closing_lines o.now (length o.entries))
      ∙ ap (λ (text : List ℕ). lines_text (map final_words o.threads) ++ text) (cut (cpu_lines 0 o.cpus) (closing_lines o.now (length o.entries)))))

  -- all lines
  trace_leads : Leads no_lines (trace_text o) (told_of o)
  trace_leads =
      subst (λ (text : List ℕ). Leads no_lines text (told_of o)) (sym text_cut)
      (leads_on (leads_line {r = no_lines} {s = entered []} (codes "ule-trace") (codes "1" ∷ []) refl refl)
      (leads_on (entries_lead [] o.entries (omega (arith, fits.count)) fits.entries) ends_lead))

  -- what is read of them
  trace_back : read_bytes (trace_text o) ≡ Ok (told_of o)
  unfolding read_lines
  trace_back = ap (λ (text : List ℕ). read_bytes text) (sym (append-nil (trace_text o))) ∙ trace_leads.leads []

-- a written trace is read back
pub written_is_read_back : WrittenIsReadBack
written_is_read_back o fits = record {
  reading = told_of o;
  read = trace_back o fits;
  gives = record { entries = refl; threads = refl; cpus = refl; now = refl };
}

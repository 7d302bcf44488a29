-- What the written words of a line are read as: an entry, a thread's line, a CPU's line.
use Rattle.std.proofs.Common.{◌≡◌, ℕ, ◌<◌, ◌≤◌, true, List, [], ◌∷◌, ◌++◌, Option, Some, refl, ◌∙◌, arith}
use Rattle.std.specs.Prelude.{codes}
use Rattle.std.specs.List.{list_all}
use Rattle.std.specs.Fmt.{decimal, signed_decimal}
use Rattle.std.proofs.lemmas.Bool.{and_from, eq-eqb}
use Rattle.std.proofs.lemmas.List.Folds.{list_all-append}
use Rattle.ule_score.specs.declared.record.CpuLine.{CpuLine}
use Rattle.ule_text.specs.Words.{Word}
use Rattle.ule_text.proofs.Numbers.{decimal_is_word}
use Rattle.ule_text.proofs.Printed.{is_word}
use Rattle.ule_trace.proofs.EventsBack.{event_are_words, event_back}
use Rattle.ule_trace.proofs.FieldsBack.{amount_back, bucket_back, byte_back, byte_if_any_back, class_back, class_is_word, cpu_back, cpu_if_any_back, cpu_if_any_is_word, flag_back, flag_is_word, if_any_is_word, lock_back, lock_is_word, nice_back, nice_is_word, up_to_back, worker_back, worker_is_word}
use Rattle.ule_trace.proofs.PlacesBack.{final_place_back, final_place_is_word, standing}
use Rattle.ule_trace.proofs.RepliesBack.{reply_are_words, reply_back}
use Rattle.ule_trace.specs.EventText.{event_words}
use Rattle.ule_trace.specs.Fields.{amount, bucket, class_named, cpu, flag, lock_name, maybe, nice, priority, thread}
use Rattle.ule_trace.specs.FinalText.{class_word, cpu_words, final_words, lock_word}
use Rattle.ule_trace.specs.Line.{flag_word, optional_word, worker_word}
use Rattle.ule_trace.specs.LineForm.{counts, cpu_form, entry_form, entry_number, head, history, marks, past, priorities, thread_form, ties, usage}
use Rattle.ule_trace.specs.Parts.{form2, form3, form4, whole}
use Rattle.ule_trace.specs.PlaceForm.{final_place}
use Rattle.ule_trace.specs.PlaceText.{final_place_word}
use Rattle.ule_trace.specs.Ranges.{CpuFits, EntryFits, ThreadFits}
use Rattle.ule_trace.specs.ReplyText.{reply_words}
use Rattle.ule_trace.specs.Trace.{entry_words}
use Rattle.ule_trace.specs.declared.line_form.NumberedLine.{NumberedLine}
use Rattle.ule_types.specs.declared.event.Entry.{Entry}
use Rattle.ule_types.specs.declared.outcome.ThreadLine.{ThreadLine}

-- ---- forms of words that are read so

two_back : {A B E : Type 0} (make : A → B → E) (a : Word → Option A) (b : Word → Option B) (v w : Word) (x : A) (y : B) (ws : List Word) →
    a v ≡ Some x → b w ≡ Some y → form2 make a b (v ∷ w ∷ ws) ≡ Some (make x y, ws)
two_back make a b v w x y ws first second = rw (first, second) refl

three_back : {A B C E : Type 0} (make : A → B → C → E) (a : Word → Option A) (b : Word → Option B) (c : Word → Option C) (u v w : Word) (x : A) (y : B) (z : C) (ws : List Word) →
    a u ≡ Some x → b v ≡ Some y → c w ≡ Some z → form3 make a b c (u ∷ v ∷ w ∷ ws) ≡ Some (make x y z, ws)
three_back make a b c u v w x y z ws first second third = rw (first, second, third) refl

four_back : {A B C D E : Type 0} (make : A → B → C → D → E) (a : Word → Option A) (b : Word → Option B) (c : Word → Option C) (d : Word → Option D)
    (t u v w : Word) (x : A) (y : B) (z : C) (r : D) (ws : List Word) →
    a t ≡ Some x → b u ≡ Some y → c v ≡ Some z → d w ≡ Some r → form4 make a b c d (t ∷ u ∷ v ∷ w ∷ ws) ≡ Some (make x y z r, ws)
four_back make a b c d t u v w x y z r ws first second third fourth = rw (first, second, third, fourth) refl

-- ---- an entry

-- the number of an entry
number_back : (k : ℕ) → k ≤ 65536 → entry_number k (decimal k) ≡ Some k
number_back k few = rw (up_to_back 65536 k few (omega arith), eq-eqb k k refl) refl

-- an entry's words, behind its number, worker and time
pub entry_back : (k : ℕ) (e : Entry) → k ≤ 65536 → EntryFits e → whole (entry_form k (entry_words k e)) ≡ Some e
entry_back k e few fits =
    rw (number_back k few, worker_back e.worker fits.worker, amount_back e.now fits.now, event_back e.event fits.event (codes "->" ∷ reply_words e.reply), reply_back e.reply fits.reply) refl

pub entry_are_words : (k : ℕ) (e : Entry) → k ≤ 65536 → EntryFits e → list_all is_word (entry_words k e) ≡ true
entry_are_words k e few fits =
    and_from (is_word (decimal k)) (list_all is_word (worker_word e.worker ∷ decimal e.now ∷ event_words e.event ++ codes "->" ∷ reply_words e.reply)) (decimal_is_word k (omega arith))
    (and_from (is_word (worker_word e.worker)) (list_all is_word (decimal e.now ∷ event_words e.event ++ codes "->" ∷ reply_words e.reply)) (worker_is_word e.worker fits.worker)
    (and_from (is_word (decimal e.now)) (list_all is_word (event_words e.event ++ codes "->" ∷ reply_words e.reply)) (decimal_is_word e.now fits.now)
    (list_all-append is_word (event_words e.event) (codes "->" ∷ reply_words e.reply)
    ∙ and_from (list_all is_word (event_words e.event)) (list_all is_word (codes "->" ∷ reply_words e.reply)) (event_are_words e.event fits.event) (reply_are_words e.reply fits.reply))))

-- ---- a thread's line

-- the words of its ties, of its past, of its use, of its history, of its priorities, and all of them behind t
abbrev ties_words : ThreadLine → List Word
ties_words l = optional_word l.bound ∷ optional_word l.parent ∷ lock_word l.word ∷ []

abbrev past_words : ThreadLine → List Word
past_words l = decimal l.slice_count ∷ decimal l.slept_at ∷ decimal l.last ∷ decimal l.last_run ∷ ties_words l

abbrev use_words : ThreadLine → List Word
use_words l = decimal l.ticks ∷ decimal l.ltick ∷ decimal l.ftick ∷ past_words l

abbrev history_words : ThreadLine → List Word
history_words l = decimal l.run ∷ decimal l.slept ∷ use_words l

abbrev priority_words : ThreadLine → List Word
priority_words l = decimal l.base ∷ optional_word l.lent ∷ decimal l.priority ∷ history_words l

abbrev pub thread_words : ThreadLine → List Word
thread_words l = decimal l.id ∷ final_place_word l.place l.pos ∷ class_word l.class ∷ signed_decimal l.nice ∷ priority_words l

pub thread_back : (l : ThreadLine) → l.id < 256 → ThreadFits l → whole (thread_form (thread_words l)) ≡ Some l
thread_back l small fits =
    rw (
      four_back head thread final_place class_named nice (decimal l.id) (final_place_word l.place l.pos) (class_word l.class) (signed_decimal l.nice)
          l.id (standing l.place l.pos) l.class l.nice (priority_words l) (byte_back l.id small) (final_place_back l.place l.pos fits.place fits.pos) (class_back l.class) (nice_back l.nice fits.nice),
      three_back priorities priority (maybe priority) priority (decimal l.base) (optional_word l.lent) (decimal l.priority)
          l.base l.lent l.priority (history_words l) (byte_back l.base fits.base) (byte_if_any_back l.lent fits.lent) (byte_back l.priority fits.priority),
      two_back history amount amount (decimal l.run) (decimal l.slept) l.run l.slept (use_words l) (amount_back l.run fits.run) (amount_back l.slept fits.slept),
      three_back usage amount amount amount (decimal l.ticks) (decimal l.ltick) (decimal l.ftick)
          l.ticks l.ltick l.ftick (past_words l) (amount_back l.ticks fits.ticks) (amount_back l.ltick fits.ltick) (amount_back l.ftick fits.ftick),
      four_back past amount amount cpu amount (decimal l.slice_count) (decimal l.slept_at) (decimal l.last) (decimal l.last_run)
          l.slice_count l.slept_at l.last l.last_run (ties_words l) (amount_back l.slice_count fits.slice_count) (amount_back l.slept_at fits.slept_at) (cpu_back l.last fits.last) (amount_back l.last_run fits.last_run),
      three_back ties (maybe cpu) (maybe thread) lock_name (optional_word l.bound) (optional_word l.parent) (lock_word l.word)
          l.bound l.parent l.word [] (cpu_if_any_back l.bound fits.bound) (byte_if_any_back l.parent fits.parent) (lock_back l.word fits.word),
    ) refl

pub thread_are_words : (l : ThreadLine) → l.id < 256 → ThreadFits l → list_all is_word (final_words l) ≡ true
thread_are_words l small fits =
    rw (
      decimal_is_word l.id (omega arith),
      final_place_is_word l.place l.pos fits.place fits.pos,
      class_is_word l.class,
      nice_is_word l.nice fits.nice,
      decimal_is_word l.base (omega (arith, fits.base)),
      if_any_is_word l.lent fits.lent,
      decimal_is_word l.priority (omega (arith, fits.priority)),
      decimal_is_word l.run fits.run,
      decimal_is_word l.slept fits.slept,
      decimal_is_word l.ticks fits.ticks,
      decimal_is_word l.ltick fits.ltick,
      decimal_is_word l.ftick fits.ftick,
      decimal_is_word l.slice_count fits.slice_count,
      decimal_is_word l.slept_at fits.slept_at,
      decimal_is_word l.last (omega (arith, fits.last)),
      decimal_is_word l.last_run fits.last_run,
      cpu_if_any_is_word l.bound fits.bound,
      if_any_is_word l.parent fits.parent,
      lock_is_word l.word fits.word,
    ) refl

-- ---- a CPU's line

-- its words behind c
abbrev pub line_words : ℕ → CpuLine → List Word
line_words c l =
    decimal c ∷ decimal l.idx ∷ decimal l.ridx ∷ flag_word l.resched ∷ flag_word l.slice_end ∷
    decimal l.switches ∷ decimal l.old_switches ∷ decimal l.balance ∷ []

abbrev pub numbered : ℕ → CpuLine → NumberedLine
numbered c l = record { cpu = c; line = l }

pub cpu_line_back : (c : ℕ) (l : CpuLine) → c < 16 → CpuFits l → whole (cpu_form (line_words c l)) ≡ Some (numbered c l)
cpu_line_back c l small fits =
    rw (
      cpu_back c small,
      four_back marks bucket bucket flag flag (decimal l.idx) (decimal l.ridx) (flag_word l.resched) (flag_word l.slice_end)
          l.idx l.ridx l.resched l.slice_end (decimal l.switches ∷ decimal l.old_switches ∷ decimal l.balance ∷ [])
          (bucket_back l.idx fits.idx) (bucket_back l.ridx fits.ridx) (flag_back l.resched) (flag_back l.slice_end),
      three_back counts amount amount amount (decimal l.switches) (decimal l.old_switches) (decimal l.balance)
          l.switches l.old_switches l.balance [] (amount_back l.switches fits.switches) (amount_back l.old_switches fits.old_switches) (amount_back l.balance fits.balance),
    ) refl

pub cpu_are_words : (c : ℕ) (l : CpuLine) → c < 16 → CpuFits l → list_all is_word (cpu_words c l) ≡ true
cpu_are_words c l small fits =
    rw (
      decimal_is_word c (omega arith),
      decimal_is_word l.idx (omega (arith, fits.idx)),
      decimal_is_word l.ridx (omega (arith, fits.ridx)),
      flag_is_word l.resched,
      flag_is_word l.slice_end,
      decimal_is_word l.switches fits.switches,
      decimal_is_word l.old_switches fits.old_switches,
      decimal_is_word l.balance fits.balance,
    ) refl

-- What the bytes of a scenario spell keeps the rules of a setup.
use Rattle.std.proofs.Common.{◌≡◌, ℕ, ◌+◌, ◌<◌, ◌==◌, max, Bool, true, false, ◌&&◌, not, List, [], ◌∷◌, ◌++◌, length, fold, refl, subst, arith, Option, Some, None}
use Rattle.std.specs.Prelude.{nat_lt, nat_le, if◌then◌else◌, Result, Ok, Err, unwrap_or}
use Rattle.std.specs.List.{list_any}
use Rattle.std.proofs.lemmas.Bool.{and_from, or_parts, leb-false, ltb-false, lt-ltb, eqb-true, false≢true}
use Rattle.ule_text.specs.Words.{is_unprinted}
use Rattle.ule_types.specs.Commands.{is_among}
use Rattle.ule_types.specs.declared.command.Command.TheVariants as command
use Rattle.ule_scenario.specs.Tokens.{tokens_of}
use Rattle.ule_scenario.specs.Reading.{Reading, is_known_thread, is_forked}
use Rattle.ule_scenario.specs.Forms.{Line, word, name, num, nice, number, number_fault, nice_fault, setting_fault, class_fault, setting_place, is_header, is_header_word}
use Rattle.ule_scenario.specs.Effects.{with_line, spec_in, turns_in}
use Rattle.ule_scenario.specs.Reasons.{when, reason_of, reason_behind}
use Rattle.ule_scenario.specs.Scenario.{LinesRead, TextRead, after_byte, after_line, after_words, judged, next_line, means_nothing, at_end, answer_of, answer, read_bytes, no_text, KeepsAll}
use Rattle.ule_scenario.specs.TextKept.{lines_shown, reading_unless}
use Rattle.ule_scenario.specs.declared.text.Lines.{Lines}
use Rattle.ule_scenario.specs.declared.reason.Reason.{Reason}
use Rattle.ule_scenario.specs.declared.reason.Refusal.{Refusal}
use Rattle.ule_scenario.specs.declared.name.Name.{Name}
use Rattle.ule_scenario.specs.declared.name.Name.TheVariants.{Header, Set, Jitter, Cpus, Group, Thread, Unborn, Script, Weave, Turns, End, Tick, Time, Yield, Resched, Sleep, Wake, Lend, Unlend, Renice, Fork, Exit, Idle, Balance, Look}
use Rattle.ule_scenario.proofs.Faults.{number_within, nice_within, head_passes, first_of_more, second_of_more}
use Rattle.ule_scenario.proofs.Passing.{Passes, passes}
use Rattle.ule_scenario.proofs.Sound.{IsSound, forks_none, forks_one, sound_none, sound_moved, sound_set, sound_jitter, sound_cpus, sound_group, sound_script, sound_turns, sound_thread, sound_unborn, sound_command, known, form_kept, in_range, nice_in_range, none_first, holds}

-- ---- a line

-- a CPU that a line names is there
cpu_there : (cpus n : ℕ) (ns : List ℕ) → list_any (λ c. nat_le cpus c) (n ∷ ns) ≡ false → n < cpus
cpu_there cpus n ns none = leb-false cpus n (none_first (λ c. nat_le cpus c) n ns none)

-- a command stands below a script
in_script : (r : Reading) → not (r.place == 7) ≡ false → r.place ≡ 7
in_script r placed = eqb-true r.place 7 (holds (r.place == 7) placed)

-- a thread that a command names is declared
named : (r : Reading) (t : ℕ) → not (is_known_thread r t) ≡ false → is_known_thread r t ≡ true
named r t declared = holds (is_known_thread r t) declared

-- a line that nothing refuses keeps a reading sound
sound_line : (r : Reading) (line : Line) (first : Name) → Passes r line first → IsSound r → IsSound (with_line r line first)
sound_line r line Header p s = sound_moved r 1 (λ e. omega arith) s
sound_line r line Set p s =
    sound_set r (name line 1) (setting_place (name line 1) + 1) (word line 2) (head_passes (setting_fault (name line 1) (word line 2)) [] p.numbers) s
sound_line r line Jitter p s =
    let small = number_within 0 4294967295 (word line 1) (head_passes (number_fault 0 4294967295 (word line 1)) [] p.numbers) in
    sound_jitter r (num line 1) (omega (arith, small)) s
sound_line r line Cpus p s =
    sound_cpus r (num line 1) (in_range 1 16 (word line 1) (head_passes (number_fault 1 16 (word line 1)) [] p.numbers)) (leb-false 4 r.place p.placed) s
sound_line r line Group p s =
    let parts = or_parts (nat_lt 5 r.place) (nat_le 15 (length r.groups)) p.placed in
    sound_group r line (ltb-false 5 r.place parts.0) (leb-false 15 (length r.groups) parts.1) (ltb-false (length line) 4 p.enough) p.topology s
sound_line r line Thread p s =
    let id = number_fault 0 255 (word line 1) in
    let form = class_fault (name line 2) (word line 3) in
    let cpu = number_fault 0 15 (word line 4) in
    let small = number_within 0 255 (word line 1) (first_of_more id form (cpu ∷ []) p.numbers) in
    let there = cpu_there r.cpus (num line 4) [] p.there in
    sound_thread r (spec_in line) (ltb-false 6 r.place p.placed)
    (and_from _ (nat_lt (num line 4) r.cpus) (form_kept line (name line 2) (second_of_more id form (cpu ∷ []) p.numbers) p.base) (lt-ltb (num line 4) r.cpus there))
    (omega (arith, small)) p.new s
sound_line r line Unborn p s =
    let small = number_within 0 255 (word line 1) (head_passes (number_fault 0 255 (word line 1)) [] p.numbers) in
    sound_unborn r (num line 1) (ltb-false 6 r.place p.placed) (omega (arith, small)) p.new s
sound_line r line Script p s = sound_script r (num line 1) (cpu_there r.cpus (num line 1) [] p.there) s
sound_line r line Weave p s = sound_moved r 8 (λ e. omega arith) s
sound_line r line Turns p s = sound_turns r (turns_in line Turns) p.workers p.few s
sound_line r line End p s = sound_moved r 9 (λ e. omega arith) s
sound_line r line Tick p s = sound_command r command.Tick (in_script r p.placed) refl (forks_none refl) p.budget s
sound_line r line Time p s =
    sound_command r (command.Time (num line 1)) (in_script r p.placed) (in_range 1 1000000 (word line 1) (head_passes (number_fault 1 1000000 (word line 1)) [] p.numbers)) (forks_none refl) p.budget s
sound_line r line Yield p s = sound_command r command.Yield (in_script r p.placed) refl (forks_none refl) p.budget s
sound_line r line Resched p s = sound_command r command.Resched (in_script r p.placed) refl (forks_none refl) p.budget s
sound_line r line Sleep p s =
    sound_command r (command.Sleep (num line 1)) (in_script r p.placed) (in_range 0 65535 (word line 1) (head_passes (number_fault 0 65535 (word line 1)) [] p.numbers)) (forks_none refl) p.budget s
sound_line r line Wake p s =
    sound_command r (command.Wake (num line 1)) (in_script r p.placed) (known r (num line 1) (named r (num line 1) p.declared)) (forks_none refl) p.budget s
sound_line r line Lend p s =
    let range = in_range 0 255 (word line 2) (second_of_more (number_fault 0 255 (word line 1)) (number_fault 0 255 (word line 2)) [] p.numbers) in
    sound_command r (command.Lend (num line 1) (num line 2)) (in_script r p.placed) (and_from _ _ (known r (num line 1) (named r (num line 1) p.declared)) range) (forks_none refl) p.budget s
sound_line r line Unlend p s =
    sound_command r (command.Unlend (num line 1)) (in_script r p.placed) (known r (num line 1) (named r (num line 1) p.declared)) (forks_none refl) p.budget s
sound_line r line Renice p s =
    let within = nice_within (word line 2) (second_of_more (number_fault 0 255 (word line 1)) (nice_fault (word line 2)) [] p.numbers) in
    sound_command r (command.Renice (num line 1) (nice line 2)) (in_script r p.placed)
    (and_from _ _ (known r (num line 1) (named r (num line 1) p.declared)) (nice_in_range (word line 2).minus (unwrap_or (word line 2).number 0) within)) (forks_none refl) p.budget s
sound_line r line Fork p s =
    let parts = or_parts (not (is_among r.unborn (num line 1))) (is_forked r (num line 1)) p.fork in
    sound_command r (command.Fork (num line 1)) (in_script r p.placed) (known r (num line 1) (named r (num line 1) p.declared))
    (forks_one (num line 1) refl (holds (is_among r.unborn (num line 1)) parts.0) parts.1) p.budget s
sound_line r line Exit p s = sound_command r command.Exit (in_script r p.placed) refl (forks_none refl) p.budget s
sound_line r line Idle p s = sound_command r command.Idle (in_script r p.placed) refl (forks_none refl) p.budget s
sound_line r line Balance p s = sound_command r command.Balance (in_script r p.placed) refl (forks_none refl) p.budget s
sound_line r line Look p s =
    sound_command r (command.Look (num line 1)) (in_script r p.placed) (lt-ltb (num line 1) r.cpus (cpu_there r.cpus (num line 1) [] p.there)) (forks_none refl) p.budget s
sound_line r line _ p s = sound_again r (in_script r p.placed) s
  where
    -- nothing but the place that it has
    sound_again : (r : Reading) → r.place ≡ 7 → IsSound r → IsSound (record r { place = max r.place 7 })
    sound_again r at s = record {
      rules = s.rules;
      ungrouped = λ early. absurd (omega arith);
      undeclared = λ early. absurd (omega arith);
      unscripted = λ early. absurd (omega arith);
      unturned = λ early. s.unturned (omega arith);
      worker = s.worker;
      begun = λ is. s.begun at;
    }

-- the header, which stands before all else
sound_header : (r : Reading) (line : Line) (first : Name) → is_header_word first ≡ true → IsSound r → IsSound (with_line r line first)
sound_header r line Header is s = sound_moved r 1 (λ e. omega arith) s
sound_header r line _ is s = absurd (false≢true is)

-- a line that has no reason against it
sound_unopposed : (r : Reading) (line : Line) → reason_of r line ≡ None → IsSound r → IsSound (with_line r line (name line 0))
sound_unopposed r line none s = by_place (r.place == 0) none
  where
    is_first : (a b c : Bool) → when (not (a && b && c)) 1 ≡ None → a ≡ true
    is_first true b c e = refl
    is_first false b c e = cc

    by_place : (b : Bool) → (if b then when (not (is_header line)) 1 else reason_behind r line (name line 0)) ≡ None → IsSound (with_line r line (name line 0))
    by_place true e = sound_header r line (name line 0) (is_first (is_header_word (name line 0)) (length line == 2) (unwrap_or (number (word line 1)) 0 == 1) e) s
    by_place false e = sound_line r line (name line 0) (passes r line (name line 0) e) s

-- ---- a text

-- a reading is sound, or there is a refusal
abbrev pub IsSoundUnless : Result Reading Refusal → Type 0
IsSoundUnless (Ok r) = IsSound r
IsSoundUnless (Err x) = Unit {0}

-- one more line
sound_next : (n : ℕ) (x : Result Reading Refusal) (bytes : List ℕ) → IsSoundUnless x → IsSoundUnless (next_line n x bytes)
sound_next n (Err x) bytes s = tt
sound_next n (Ok r) bytes s = by_bad (list_any is_unprinted bytes)
  where
    by_reason : (line : Line) (x : Option Reason) → reason_of r line ≡ x → IsSoundUnless (judged n r line x)
    by_reason line None e = sound_unopposed r line e s
    by_reason line (Some x) e = tt

    by_blank : (line : Line) (b : Bool) → IsSoundUnless (if b then Ok r else judged n r line (reason_of r line))
    by_blank line true = s
    by_blank line false = by_reason line (reason_of r line) refl

    by_bad : (b : Bool) → IsSoundUnless (if b then Err (record { line = n; reason = 17; detail = 0 }) else after_words n r (tokens_of bytes))
    by_bad true = tt
    by_bad false = by_blank (tokens_of bytes) (means_nothing (tokens_of bytes))

-- one more byte
sound_byte : (s : TextRead) (b : ℕ) → IsSoundUnless s.told.reading → IsSoundUnless (after_byte s b).told.reading
sound_byte s b sound = by_newline (b == 10)
  where
    by_newline : (t : Bool) → IsSoundUnless ((λ (u : TextRead). u.told.reading) (if t then record { told = after_line s.told s.line; line = [] } else record { told = s.told; line = s.line ++ b ∷ [] }))
    by_newline true = sound_next (s.told.lines + 1) s.told.reading s.line sound
    by_newline false = sound

-- all bytes
sound_bytes : (s : TextRead) (bytes : List ℕ) → IsSoundUnless s.told.reading → IsSoundUnless (fold after_byte s bytes).told.reading
sound_bytes s [] sound = sound
sound_bytes s (b ∷ bytes) sound = sound_bytes (after_byte s b) bytes (sound_byte s b sound)

-- the end of the text
sound_end : (s : TextRead) → IsSoundUnless s.told.reading → IsSoundUnless (at_end s).reading
sound_end s sound = by_rest (nat_lt 0 (length s.line))
  where
    by_rest : (t : Bool) → IsSoundUnless ((λ (u : LinesRead). u.reading) (if t then after_line s.told s.line else s.told))
    by_rest true = sound_next (s.told.lines + 1) s.told.reading s.line sound
    by_rest false = sound

-- the answer
sound_answer : (n : ℕ) (x : Result Reading Refusal) → IsSoundUnless x → IsSoundUnless (answer_of n x)
sound_answer n (Err x) s = tt
sound_answer n (Ok r) s = by_place (r.place == 0) (r.place == 9)
  where
    by_place : (a b : Bool) → IsSoundUnless (if a then Err (record { line = n + 1; reason = 1; detail = 0 }) else (if b then Ok r else Err (record { line = n + 1; reason = 18; detail = 0 })))
    by_place true b = tt
    by_place false true = s
    by_place false false = tt

-- what bytes spell keeps the rules of a setup
pub spelled_keeps_rules : (bytes : List ℕ) (r : Reading) → read_bytes bytes ≡ Ok r → KeepsAll r
spelled_keeps_rules bytes r is = (subst IsSoundUnless is (by_size (nat_lt 1048576 (length bytes)))).rules
  where
    by_size : (b : Bool) → IsSoundUnless (if b then Err (record { line = 0; reason = 5; detail = 0 }) else answer (at_end (fold after_byte no_text bytes)))
    by_size true = tt
    by_size false =
        let s = fold after_byte no_text bytes in
        sound_answer (at_end s).lines (at_end s).reading (sound_end s (sound_bytes no_text bytes sound_none))

-- the answer of lines that end in `end` and that nothing refuses
pub answered_ok : (t : Lines) → t.refusal ≡ None → t.draft.place ≡ 9 → answer (lines_shown t) ≡ Ok t.draft
answered_ok t none at = by_refusal t.refusal none
  where
    by_refusal : (x : Option Refusal) → x ≡ None → answer_of t.count (reading_unless x t.draft) ≡ Ok t.draft
    by_refusal None e = rw at refl
    by_refusal (Some x) e = cc

-- Worked texts, by computing with the definitions: what is accepted, and each reason with the line that it is told of.
use Rattle.std.proofs.Common.{◌≡◌, ℕ, List, [], ◌∷◌, ◌++◌, codes, replicate, true, refl, Some, None, pos}
use Rattle.std.specs.Prelude.{Result, Ok, Err}
use Rattle.std.specs.List.{flat_map}
use Rattle.ule_types.specs.declared.command.Command.{Command}
use Rattle.ule_types.specs.declared.command.Command.TheVariants.{Yield, Wake}
use Rattle.ule_types.specs.declared.setup.Form.TheVariants.{Ts}
use Rattle.ule_scenario.specs.Tokens.{token_of, tokens_of}
use Rattle.ule_scenario.specs.Reading.{Reading, no_line}
use Rattle.ule_scenario.specs.Reasons.{place_reason, word_reason, meaning_reason, reason_of}
use Rattle.ule_scenario.specs.Scenario.{read_bytes}
use Rattle.ule_scenario.specs.Front.{front_length}
use Rattle.ule_scenario.specs.declared.reason.Refusal.{Refusal}

-- line, reason and detail of a refusal; nothing where a setup is spelled
abbrev told_of : Result Reading Refusal → List ℕ
told_of (Ok r) = []
told_of (Err x) = x.line ∷ x.reason ∷ x.detail ∷ []

-- a text of lines, each with its newline
abbrev text_of : List (List ℕ) → List ℕ
text_of lines = flat_map (λ line. line ++ 10 ∷ []) lines

-- what a text of lines comes to
abbrev told_lines : List (List ℕ) → List ℕ
told_lines lines = told_of (read_bytes (text_of lines))

-- the first three lines of most scenarios, before others
abbrev behind_cpus : List ℕ → List (List ℕ) → List (List ℕ)
behind_cpus cpus lines = codes "ule-scenario 1" ∷ codes "jitter 1" ∷ cpus ∷ lines

-- ---- texts without a fault

-- a scenario with a line of nearly each form
all_forms_are_read : told_lines (codes "ule-scenario 1" ∷ codes "set interact 30" ∷ codes "set steal 2" ∷ codes "jitter 4294967295" ∷ codes "cpus 2" ∷ codes "thread 0 ts -20 0" ∷ codes "unborn 9" ∷ codes "thread 1 idle 255 1 bound" ∷ codes "script 1" ∷ codes "tick" ∷ codes "time 8" ∷ codes "fork 9" ∷ codes "renice 0 5" ∷ codes "lend 1 7" ∷
    codes "look 1" ∷ codes "weave" ∷ codes "turns 0 1 1" ∷ codes "turns 0" ∷ codes "end" ∷ []) ≡ []
unfolding token_of place_reason word_reason meaning_reason
all_forms_are_read = refl

-- comments, blank lines, spaces and a last line without its newline mean nothing
spaces_mean_nothing : told_of (read_bytes (text_of (codes "# two CPUs" ∷ [] ∷ codes "  ule-scenario   1 " ∷ codes " #" ∷ codes "jitter 1" ∷ codes "   " ∷ codes "cpus 2" ∷ []) ++ codes "end")) ≡ []
unfolding token_of place_reason word_reason meaning_reason
spaces_mean_nothing = refl

-- behind `end` a comment may follow
comment_may_follow : told_lines (behind_cpus (codes "cpus 1") (codes "end" ∷ codes "# done" ∷ [] ∷ [])) ≡ []
unfolding token_of place_reason word_reason meaning_reason
comment_may_follow = refl

-- ---- the reasons

-- no byte, and comments alone: no header, told of the line behind the last
empty_has_no_header : told_of (read_bytes []) ≡ 1 ∷ 1 ∷ 0 ∷ []
empty_has_no_header = refl

comments_have_no_header : told_lines (codes "# one" ∷ codes "# two" ∷ []) ≡ 3 ∷ 1 ∷ 0 ∷ []
unfolding token_of place_reason word_reason meaning_reason
comments_have_no_header = refl

-- another version is no header
version_is_no_header : told_lines (codes "ule-scenario 01" ∷ []) ≡ 1 ∷ 1 ∷ 0 ∷ []
unfolding token_of place_reason word_reason meaning_reason
version_is_no_header = refl

-- a first word that begins no line, a class that is none, and a word too many
unknown_first_word : told_lines (behind_cpus (codes "cpus 1") (codes "threads 0" ∷ [])) ≡ 4 ∷ 2 ∷ 0 ∷ []
unfolding token_of place_reason word_reason meaning_reason
unknown_first_word = refl

unknown_class : told_lines (behind_cpus (codes "cpus 1") (codes "thread 0 batch 0 0" ∷ [])) ≡ 4 ∷ 2 ∷ 0 ∷ []
unfolding token_of place_reason word_reason meaning_reason
unknown_class = refl

word_too_many : told_lines (behind_cpus (codes "cpus 16 x") []) ≡ 3 ∷ 2 ∷ 0 ∷ []
unfolding token_of place_reason word_reason meaning_reason
word_too_many = refl

-- a leading zero, and -0
zero_leads : told_lines (codes "ule-scenario 1" ∷ codes "jitter 01" ∷ []) ≡ 2 ∷ 3 ∷ 0 ∷ []
unfolding token_of place_reason word_reason meaning_reason
zero_leads = refl

minus_zero : told_lines (behind_cpus (codes "cpus 1") (codes "thread 0 ts -0 0" ∷ [])) ≡ 4 ∷ 3 ∷ 0 ∷ []
unfolding token_of place_reason word_reason meaning_reason
minus_zero = refl

-- a number out of its range, of any length; spelling and range go from left to right
thread_out_of_range : told_lines (behind_cpus (codes "cpus 1") (codes "thread 256 ts 0 0" ∷ [])) ≡ 4 ∷ 4 ∷ 0 ∷ []
unfolding token_of place_reason word_reason meaning_reason
thread_out_of_range = refl

long_number_is_out_of_range : told_lines (codes "ule-scenario 1" ∷ codes "jitter 99999999999999999999" ∷ []) ≡ 2 ∷ 4 ∷ 0 ∷ []
unfolding token_of place_reason word_reason meaning_reason
long_number_is_out_of_range = refl

range_before_spelling : told_lines (behind_cpus (codes "cpus 1") (codes "thread 256 ts x 0" ∷ [])) ≡ 4 ∷ 4 ∷ 0 ∷ []
unfolding token_of place_reason word_reason meaning_reason
range_before_spelling = refl

cpus_rise : told_lines (behind_cpus (codes "cpus 2") (codes "group 0 - 1 0 x" ∷ [])) ≡ 4 ∷ 4 ∷ 0 ∷ []
unfolding token_of place_reason word_reason meaning_reason
cpus_rise = refl

-- the order of sections: settings in another order, a second jitter, a line behind `end`
settings_in_order : told_lines (codes "ule-scenario 1" ∷ codes "set slice 12" ∷ codes "set interact 30" ∷ []) ≡ 3 ∷ 6 ∷ 0 ∷ []
unfolding token_of place_reason word_reason meaning_reason
settings_in_order = refl

second_jitter : told_lines (codes "ule-scenario 1" ∷ codes "jitter 1" ∷ codes "jitter 1" ∷ []) ≡ 3 ∷ 6 ∷ 0 ∷ []
unfolding token_of place_reason word_reason meaning_reason
second_jitter = refl

line_behind_end : told_lines (behind_cpus (codes "cpus 1") (codes "end" ∷ codes "end" ∷ [])) ≡ 5 ∷ 6 ∷ 0 ∷ []
unfolding token_of place_reason word_reason meaning_reason
line_behind_end = refl

-- the number of CPUs is wrong, or is not given; nor is the jitter
cpu_count : told_lines (behind_cpus (codes "cpus 17") []) ≡ 3 ∷ 7 ∷ 0 ∷ []
unfolding token_of place_reason word_reason meaning_reason
cpu_count = refl

no_cpu_count : told_lines (codes "ule-scenario 1" ∷ codes "jitter 1" ∷ codes "end" ∷ []) ≡ 3 ∷ 7 ∷ 0 ∷ []
unfolding token_of place_reason word_reason meaning_reason
no_cpu_count = refl

no_jitter : told_lines (codes "ule-scenario 1" ∷ codes "cpus 1" ∷ []) ≡ 2 ∷ 14 ∷ 0 ∷ []
unfolding token_of place_reason word_reason meaning_reason
no_jitter = refl

-- a thread that is declared twice, one that isn't, a priority of another class, a CPU that isn't there
declared_twice : told_lines (behind_cpus (codes "cpus 1") (codes "unborn 3" ∷ codes "thread 3 ts 0 0" ∷ [])) ≡ 5 ∷ 8 ∷ 0 ∷ []
unfolding token_of place_reason word_reason meaning_reason
declared_twice = refl

not_declared : told_lines (behind_cpus (codes "cpus 1") (codes "script 0" ∷ codes "wake 3" ∷ [])) ≡ 5 ∷ 9 ∷ 0 ∷ []
unfolding token_of place_reason word_reason meaning_reason
not_declared = refl

priority_of_another_class : told_lines (behind_cpus (codes "cpus 1") (codes "thread 3 rt 80 0" ∷ [])) ≡ 4 ∷ 12 ∷ 0 ∷ []
unfolding token_of place_reason word_reason meaning_reason
priority_of_another_class = refl

cpu_not_there : told_lines (behind_cpus (codes "cpus 1") (codes "script 1" ∷ [])) ≡ 4 ∷ 10 ∷ 0 ∷ []
unfolding token_of place_reason word_reason meaning_reason
cpu_not_there = refl

-- forks: of a thread that isn't unborn, and a second one
fork_of_a_queued_thread : told_lines (behind_cpus (codes "cpus 1") (codes "thread 3 ts 0 0" ∷ codes "script 0" ∷ codes "fork 3" ∷ [])) ≡ 6 ∷ 13 ∷ 0 ∷ []
unfolding token_of place_reason word_reason meaning_reason
fork_of_a_queued_thread = refl

second_fork : told_lines (behind_cpus (codes "cpus 1") (codes "unborn 3" ∷ codes "script 0" ∷ codes "fork 3" ∷ codes "fork 3" ∷ [])) ≡ 7 ∷ 13 ∷ 0 ∷ []
unfolding token_of place_reason word_reason meaning_reason
second_fork = refl

-- a turn of a worker that isn't there
turn_of_nobody : told_lines (behind_cpus (codes "cpus 2") (codes "weave" ∷ codes "turns 0 2" ∷ [])) ≡ 5 ∷ 16 ∷ 0 ∷ []
unfolding token_of place_reason word_reason meaning_reason
turn_of_nobody = refl

-- a carriage return, in a comment too
carriage_return : told_lines (codes "ule-scenario 1" ∷ (codes "# one" ++ 13 ∷ []) ∷ []) ≡ 2 ∷ 17 ∷ 0 ∷ []
unfolding token_of place_reason word_reason meaning_reason
carriage_return = refl

-- a line with too few words, and a text that ends before `end`
too_few_words : told_lines (behind_cpus (codes "cpus 1") (codes "thread 0 ts 0" ∷ [])) ≡ 4 ∷ 18 ∷ 0 ∷ []
unfolding token_of place_reason word_reason meaning_reason
too_few_words = refl

no_end : told_lines (behind_cpus (codes "cpus 1") []) ≡ 4 ∷ 18 ∷ 0 ∷ []
unfolding token_of place_reason word_reason meaning_reason
no_end = refl

-- ---- the last two limits, at a reading that is near them

-- a scenario of one thread on 16 CPUs with these commands of worker 0
abbrev with_script : List Command → Reading
with_script script = record no_line { place = 7; script_from = 1; cpus = 16; threads = record { id = 0; form = Ts (pos 0); cpu = 0; bound = true } ∷ []; scripts = script ∷ replicate 15 [] }

-- 16 + 3,640 times 18 are 65,536: such a command may stand last, and nothing behind it
budget_is_used_up : reason_of (with_script (replicate 16 Yield ++ replicate 3639 (Wake 0))) (tokens_of (codes "wake 0")) ≡ None
unfolding token_of place_reason word_reason meaning_reason
budget_is_used_up = refl

budget_is_passed : reason_of (with_script (replicate 16 Yield ++ replicate 3640 (Wake 0))) (tokens_of (codes "yield")) ≡ Some (record { reason = 15; detail = 65537 })
unfolding token_of place_reason word_reason meaning_reason
budget_is_passed = refl

-- with 4,094 turns there may be two more; a turn of nobody is told before their count
turns_are_used_up : reason_of (record no_line { place = 8; cpus = 2; turns = replicate 4094 0 }) (tokens_of (codes "turns 1 1")) ≡ None
unfolding token_of place_reason word_reason meaning_reason
turns_are_used_up = refl

turns_are_passed : reason_of (record no_line { place = 8; cpus = 2; turns = replicate 4094 0 }) (tokens_of (codes "turns 1 1 1")) ≡ Some (record { reason = 19; detail = 0 })
unfolding token_of place_reason word_reason meaning_reason
turns_are_passed = refl

worker_before_count : reason_of (record no_line { place = 8; cpus = 2; turns = replicate 4094 0 }) (tokens_of (codes "turns 1 2 1")) ≡ Some (record { reason = 16; detail = 0 })
unfolding token_of place_reason word_reason meaning_reason
worker_before_count = refl

-- ---- the front of a text

-- it ends with the newline of its first line `end`, and what is behind that is no matter
front_ends_at_end : front_length (text_of (codes "ule-scenario 1" ∷ codes "end" ∷ codes "end" ∷ []) ++ codes "ule-trace 1") ≡ 19
unfolding token_of
front_ends_at_end = refl

-- whatever else that line has, and wherever it stands
front_ends_at_any_end : front_length (text_of (codes "  end x" ∷ codes "end" ∷ [])) ≡ 8
unfolding token_of
front_ends_at_any_end = refl

-- other first words don't end it, nor does one whose newline is missing
front_is_all : front_length (text_of (codes "ended" ∷ codes "# end" ∷ (codes "end" ++ 13 ∷ []) ∷ []) ++ codes "end") ≡ 20
unfolding token_of
front_is_all = refl

-- What the line of a command gives.
use Rattle.std.proofs.Common.{◌≡◌, ℕ, ◌+◌, ◌<◌, ◌≤◌, ℤ, true, false, [], ◌∷◌, map, max, refl, sym, ◌∙◌, arith, Some, None}
use Rattle.std.specs.Prelude.{nat_lt, nat_le, ◌==◌}
use Rattle.std.specs.List.{list_all, list_any}
use Rattle.std.proofs.lemmas.Bool.{and_parts, le-leb, leb-true, ltb-true, or_parts}
use Rattle.std.proofs.lemmas.Bool.Decides.{nat_tests}
use Rattle.std.proofs.lemmas.List.Folds.{list_any-append}
use Rattle.std.specs.Fmt.{decimal, signed_decimal}
use Rattle.ule_prio.specs.Class.{is_within}
use Rattle.ule_types.proofs.Repeats.{among_passes}
use Rattle.ule_types.specs.Commands.{is_among, is_command, is_nice, greatest_of, forked_by}
use Rattle.ule_types.specs.Rules.{declared_ids}
use Rattle.ule_types.specs.declared.command.Command.{Command}
use Rattle.ule_types.specs.declared.command.Command.TheVariants as command
use Rattle.ule_scenario.specs.Effects.{with_command}
use Rattle.ule_scenario.specs.Reading.{Reading, is_known_thread, is_forked, spent_items, last_worker}
use Rattle.ule_scenario.specs.Reasons.{place_reason, word_reason, meaning_reason}
use Rattle.ule_scenario.specs.Tokens.{token_of}
use Rattle.ule_scenario.specs.declared.name.Name.{Name}
use Rattle.ule_scenario.specs.declared.name.Name.TheVariants.{Tick, Time, Yield, Resched, Sleep, Wake, Lend, Unlend, Renice, Fork, Exit, Idle, Balance, Look}
use Rattle.ule_scenario.specs.declared.token.Token.{Token}
use Rattle.ule_trace.specs.Line.{line_text}
use Rattle.ule_plain.proofs.Leading.{Leads, Takes, leads_line}
use Rattle.ule_plain.proofs.NumbersBack.{IsNumber, IsNice, token_back, nice_back, small_is_word, nice_is_word}
use Rattle.ule_text.proofs.Printed.{is_word}
use Rattle.ule_plain.specs.Commands.{command_words}

-- a word that is a name
abbrev pub keyword : Name → Token
keyword n = record { name = n; comment = false; minus = false; number = None }

-- the setup so far with a command of the worker whose script stands last
abbrev pub commanded : Reading → Command → Reading
commanded r c = record r { place = max r.place 7; scripts = with_command r.scripts (last_worker r) (Some c) }

-- a command may stand here by its place and its charge
pub record HasRoom (r : Reading) (c : Command) : Type 0 where
  pub place : r.place ≡ 7
  pub turns : r.turns ≡ []
  pub budget : spent_items r + greatest_of c (last_worker r) r.cpus ≤ 65536

-- a number that isn't above another one
pub not_above : (n most : ℕ) → n ≤ most → nat_lt most n ≡ false
not_above n most h = grind (arith, nat_tests)

-- a CPU that is there
pub not_past : (cpus c : ℕ) → c < cpus → nat_le cpus c ≡ false
not_past cpus c h = grind (arith, nat_tests)

-- ---- commands of one word

tick_taken : (r : Reading) → HasRoom r command.Tick → Takes r (keyword Tick ∷ []) (commanded r command.Tick)
unfolding place_reason word_reason meaning_reason
tick_taken r h = record {
  means = refl;
  unopposed = rw (h.place, h.turns, not_above (spent_items r + greatest_of command.Tick (last_worker r) r.cpus) 65536 h.budget) refl;
  gives = refl;
}

yield_taken : (r : Reading) → HasRoom r command.Yield → Takes r (keyword Yield ∷ []) (commanded r command.Yield)
unfolding place_reason word_reason meaning_reason
yield_taken r h = record {
  means = refl;
  unopposed = rw (h.place, h.turns, not_above (spent_items r + greatest_of command.Yield (last_worker r) r.cpus) 65536 h.budget) refl;
  gives = refl;
}

resched_taken : (r : Reading) → HasRoom r command.Resched → Takes r (keyword Resched ∷ []) (commanded r command.Resched)
unfolding place_reason word_reason meaning_reason
resched_taken r h = record {
  means = refl;
  unopposed = rw (h.place, h.turns, not_above (spent_items r + greatest_of command.Resched (last_worker r) r.cpus) 65536 h.budget) refl;
  gives = refl;
}

exit_taken : (r : Reading) → HasRoom r command.Exit → Takes r (keyword Exit ∷ []) (commanded r command.Exit)
unfolding place_reason word_reason meaning_reason
exit_taken r h = record {
  means = refl;
  unopposed = rw (h.place, h.turns, not_above (spent_items r + greatest_of command.Exit (last_worker r) r.cpus) 65536 h.budget) refl;
  gives = refl;
}

idle_taken : (r : Reading) → HasRoom r command.Idle → Takes r (keyword Idle ∷ []) (commanded r command.Idle)
unfolding place_reason word_reason meaning_reason
idle_taken r h = record {
  means = refl;
  unopposed = rw (h.place, h.turns, not_above (spent_items r + greatest_of command.Idle (last_worker r) r.cpus) 65536 h.budget) refl;
  gives = refl;
}

balance_taken : (r : Reading) → HasRoom r command.Balance → Takes r (keyword Balance ∷ []) (commanded r command.Balance)
unfolding place_reason word_reason meaning_reason
balance_taken r h = record {
  means = refl;
  unopposed = rw (h.place, h.turns, not_above (spent_items r + greatest_of command.Balance (last_worker r) r.cpus) 65536 h.budget) refl;
  gives = refl;
}

-- ---- commands with a thread

wake_taken : (r : Reading) (w : Token) (t : ℕ) → IsNumber w t → t < 256 → is_known_thread r t ≡ true → HasRoom r (command.Wake t) → Takes r (keyword Wake ∷ w ∷ []) (commanded r (command.Wake t))
unfolding place_reason word_reason meaning_reason
wake_taken r w t is small known h = record {
  means = refl;
  unopposed = rw (h.place, h.turns, is.minus, is.number, le-leb 0 t (omega arith), le-leb t 255 (omega arith), known, not_above (spent_items r + greatest_of (command.Wake t) (last_worker r) r.cpus) 65536 h.budget) refl;
  gives = rw (is.minus, is.number) refl;
}

unlend_taken : (r : Reading) (w : Token) (t : ℕ) → IsNumber w t → t < 256 → is_known_thread r t ≡ true → HasRoom r (command.Unlend t) → Takes r (keyword Unlend ∷ w ∷ []) (commanded r (command.Unlend t))
unfolding place_reason word_reason meaning_reason
unlend_taken r w t is small known h = record {
  means = refl;
  unopposed = rw (h.place, h.turns, is.minus, is.number, le-leb 0 t (omega arith), le-leb t 255 (omega arith), known, not_above (spent_items r + greatest_of (command.Unlend t) (last_worker r) r.cpus) 65536 h.budget) refl;
  gives = rw (is.minus, is.number) refl;
}

fork_taken : (r : Reading) (w : Token) (t : ℕ) → IsNumber w t → t < 256 → is_known_thread r t ≡ true → is_among r.unborn t ≡ true → is_forked r t ≡ false → HasRoom r (command.Fork t) → Takes r (keyword Fork ∷ w ∷ []) (commanded r (command.Fork t))
unfolding place_reason word_reason meaning_reason
fork_taken r w t is small known waits new h = record {
  means = refl;
  unopposed = rw (h.place, h.turns, is.minus, is.number, le-leb 0 t (omega arith), le-leb t 255 (omega arith), known, waits, new, not_above (spent_items r + greatest_of (command.Fork t) (last_worker r) r.cpus) 65536 h.budget) refl;
  gives = rw (is.minus, is.number) refl;
}

lend_taken : (r : Reading) (w v : Token) (t p : ℕ) → IsNumber w t → IsNumber v p → t < 256 → p < 256 → is_known_thread r t ≡ true → HasRoom r (command.Lend t p) → Takes r (keyword Lend ∷ w ∷ v ∷ []) (commanded r (command.Lend t p))
unfolding place_reason word_reason meaning_reason
lend_taken r w v t p is at small low known h = record {
  means = refl;
  unopposed = rw (h.place, h.turns, is.minus, is.number, at.minus, at.number, le-leb 0 t (omega arith), le-leb t 255 (omega arith), le-leb 0 p (omega arith), le-leb p 255 (omega arith), known, not_above (spent_items r + greatest_of (command.Lend t p) (last_worker r) r.cpus) 65536 h.budget) refl;
  gives = rw (is.minus, is.number, at.minus, at.number) refl;
}

renice_taken : (r : Reading) (w v : Token) (t : ℕ) (n : ℤ) → IsNumber w t → IsNice v n → t < 256 → is_known_thread r t ≡ true → HasRoom r (command.Renice t n) → Takes r (keyword Renice ∷ w ∷ v ∷ []) (commanded r (command.Renice t n))
unfolding place_reason word_reason meaning_reason
renice_taken r w v t n is nice small known h = record {
  means = refl;
  unopposed = rw (h.place, h.turns, is.minus, is.number, nice.fault, le-leb 0 t (omega arith), le-leb t 255 (omega arith), known, not_above (spent_items r + greatest_of (command.Renice t n) (last_worker r) r.cpus) 65536 h.budget) refl;
  gives = rw (is.minus, is.number, nice.value) refl;
}

-- ---- commands with another number

time_taken : (r : Reading) (w : Token) (k : ℕ) → IsNumber w k → 1 ≤ k → k ≤ 1000000 → HasRoom r (command.Time k) → Takes r (keyword Time ∷ w ∷ []) (commanded r (command.Time k))
unfolding place_reason word_reason meaning_reason
time_taken r w k is some few h = record {
  means = refl;
  unopposed = rw (h.place, h.turns, is.minus, is.number, le-leb 1 k some, le-leb k 1000000 few, not_above (spent_items r + greatest_of (command.Time k) (last_worker r) r.cpus) 65536 h.budget) refl;
  gives = rw (is.minus, is.number) refl;
}

sleep_taken : (r : Reading) (w : Token) (channel : ℕ) → IsNumber w channel → channel ≤ 65535 → HasRoom r (command.Sleep channel) → Takes r (keyword Sleep ∷ w ∷ []) (commanded r (command.Sleep channel))
unfolding place_reason word_reason meaning_reason
sleep_taken r w channel is small h = record {
  means = refl;
  unopposed = rw (h.place, h.turns, is.minus, is.number, le-leb 0 channel (omega arith), le-leb channel 65535 small, not_above (spent_items r + greatest_of (command.Sleep channel) (last_worker r) r.cpus) 65536 h.budget) refl;
  gives = rw (is.minus, is.number) refl;
}

look_taken : (r : Reading) (w : Token) (c : ℕ) → IsNumber w c → c ≤ 15 → c < r.cpus → HasRoom r (command.Look c) → Takes r (keyword Look ∷ w ∷ []) (commanded r (command.Look c))
unfolding place_reason word_reason meaning_reason
look_taken r w c is small there h = record {
  means = refl;
  unopposed = rw (h.place, h.turns, is.minus, is.number, le-leb 0 c (omega arith), le-leb c 15 small, not_past r.cpus c there, not_above (spent_items r + greatest_of (command.Look c) (last_worker r) r.cpus) 65536 h.budget) refl;
  gives = rw (is.minus, is.number) refl;
}

-- ---- any command

-- a command is valid after what was declared, and forks what is unborn and wasn't forked
pub record IsValid (r : Reading) (c : Command) : Type 0 where
  pub cpus : r.cpus ≤ 16
  pub numbers : list_all (λ t. nat_lt t 256) (declared_ids r.threads r.unborn) ≡ true
  pub names : is_command (declared_ids r.threads r.unborn) r.cpus c ≡ true
  pub unborn : list_all (is_among r.unborn) (forked_by c) ≡ true
  pub new : list_any (is_forked r) (forked_by c) ≡ false

-- a declared thread is known
known_of : (r : Reading) (t : ℕ) → is_among (declared_ids r.threads r.unborn) t ≡ true → is_known_thread r t ≡ true
known_of r t some = sym (list_any-append (λ u. u == t) (map (λ spec. spec.id) r.threads) r.unborn) ∙ some

-- its number is below 256
small_of : (r : Reading) (t : ℕ) → list_all (λ t. nat_lt t 256) (declared_ids r.threads r.unborn) ≡ true → is_among (declared_ids r.threads r.unborn) t ≡ true → t < 256
small_of r t numbers some = ltb-true t 256 (among_passes (λ t. nat_lt t 256) (declared_ids r.threads r.unborn) t numbers some)

-- a written command
pub command_taken : (r : Reading) (c : Command) → IsValid r c → HasRoom r c → Takes r (map token_of (command_words c)) (commanded r c)
unfolding token_of
command_taken r command.Tick v h = tick_taken r h
command_taken r (command.Time k) v h =
    let range = and_parts (nat_le 1 k) (nat_le k 1000000) v.names in
    let few = leb-true k 1000000 range.1 in
    time_taken r (token_of (decimal k)) k (token_back k (omega arith)) (leb-true 1 k range.0) few h
command_taken r command.Yield v h = yield_taken r h
command_taken r command.Resched v h = resched_taken r h
command_taken r (command.Sleep channel) v h =
    let few = leb-true channel 65535 (and_parts (nat_le 0 channel) (nat_le channel 65535) v.names).1 in
    sleep_taken r (token_of (decimal channel)) channel (token_back channel (omega arith)) few h
command_taken r (command.Wake t) v h =
    let small = small_of r t v.numbers v.names in
    wake_taken r (token_of (decimal t)) t (token_back t (omega arith)) small (known_of r t v.names) h
command_taken r (command.Lend t p) v h =
    let both = and_parts (is_among (declared_ids r.threads r.unborn) t) (is_within 0 255 p) v.names in
    let small = small_of r t v.numbers both.0 in
    let low = leb-true p 255 (and_parts (nat_le 0 p) (nat_le p 255) both.1).1 in
    lend_taken r (token_of (decimal t)) (token_of (decimal p)) t p (token_back t (omega arith)) (token_back p (omega arith)) small (omega arith) (known_of r t both.0) h
command_taken r (command.Unlend t) v h =
    let small = small_of r t v.numbers v.names in
    unlend_taken r (token_of (decimal t)) t (token_back t (omega arith)) small (known_of r t v.names) h
command_taken r (command.Renice t n) v h =
    let both = and_parts (is_among (declared_ids r.threads r.unborn) t) (is_nice n) v.names in
    let small = small_of r t v.numbers both.0 in
    renice_taken r (token_of (decimal t)) (token_of (signed_decimal n)) t n (token_back t (omega arith)) (nice_back n both.1) small (known_of r t both.0) h
command_taken r (command.Fork t) v h =
    let small = small_of r t v.numbers v.names in
    let waits = (and_parts (is_among r.unborn t) true v.unborn).0 in
    let new = (or_parts (is_forked r t) false v.new).0 in
    fork_taken r (token_of (decimal t)) t (token_back t (omega arith)) small (known_of r t v.names) waits new h
command_taken r command.Exit v h = exit_taken r h
command_taken r command.Idle v h = idle_taken r h
command_taken r command.Balance v h = balance_taken r h
command_taken r (command.Look c) v h =
    let there = ltb-true c r.cpus v.names in
    let cpus = v.cpus in
    look_taken r (token_of (decimal c)) c (token_back c (omega arith)) (omega arith) there h

-- its words are words of a written line
pub command_is_words : (r : Reading) (c : Command) → IsValid r c → list_all is_word (command_words c) ≡ true
command_is_words r command.Tick v = refl
command_is_words r (command.Time k) v =
    let few = leb-true k 1000000 (and_parts (nat_le 1 k) (nat_le k 1000000) v.names).1 in
    rw (small_is_word k (omega arith)) refl
command_is_words r command.Yield v = refl
command_is_words r command.Resched v = refl
command_is_words r (command.Sleep channel) v =
    let few = leb-true channel 65535 (and_parts (nat_le 0 channel) (nat_le channel 65535) v.names).1 in
    rw (small_is_word channel (omega arith)) refl
command_is_words r (command.Wake t) v = let small = small_of r t v.numbers v.names in rw (small_is_word t (omega arith)) refl
command_is_words r (command.Lend t p) v =
    let both = and_parts (is_among (declared_ids r.threads r.unborn) t) (is_within 0 255 p) v.names in
    let small = small_of r t v.numbers both.0 in
    let low = leb-true p 255 (and_parts (nat_le 0 p) (nat_le p 255) both.1).1 in
    rw (small_is_word t (omega arith), small_is_word p (omega arith)) refl
command_is_words r (command.Unlend t) v = let small = small_of r t v.numbers v.names in rw (small_is_word t (omega arith)) refl
command_is_words r (command.Renice t n) v =
    let both = and_parts (is_among (declared_ids r.threads r.unborn) t) (is_nice n) v.names in
    let small = small_of r t v.numbers both.0 in
    rw (small_is_word t (omega arith), nice_is_word n both.1) refl
command_is_words r (command.Fork t) v = let small = small_of r t v.numbers v.names in rw (small_is_word t (omega arith)) refl
command_is_words r command.Exit v = refl
command_is_words r command.Idle v = refl
command_is_words r command.Balance v = refl
command_is_words r (command.Look c) v =
    let there = ltb-true c r.cpus v.names in
    let cpus = v.cpus in
    rw (small_is_word c (omega arith)) refl

-- a command's line leads to the setup so far with the command
pub command_leads : (r : Reading) (c : Command) → IsValid r c → HasRoom r c → Leads r (line_text (command_words c)) (commanded r c)
command_leads r c v h = leads_line (command_words c) (command_is_words r c v) (command_taken r c v h)

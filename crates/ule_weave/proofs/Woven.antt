-- How the weave text goes out, turn by turn.
use Rattle.std.proofs.Common.{◌≡◌, ℕ, zero, suc, ◌+◌, ◌≤◌, ◌<◌, true, List, [], ◌∷◌, ◌++◌, codes, drop, get_or, length, Result, Ok, refl, sym, ap, ◌∙◌, subst, arith, append_assoc, append-nil}
use Rattle.std.specs.Prelude.{nat_lt}
use Rattle.std.specs.List.{list_all}
use Rattle.std.proofs.lemmas.Bool.{and_parts}
use Rattle.std.proofs.lemmas.List.{drop_all, drop_more}
use Rattle.ule_io.specs.Sink.{SinkState, WroteWhole}
use Rattle.ule_io.specs.declared.writing.WriteFault.{WriteFault}
use Rattle.ule_micro.specs.declared.turn.Turn.{Turn}
use Rattle.ule_micro.specs.Turns.{turn_of_worker}
use Rattle.ule_parts.specs.Scheduler.{orders_of, sched_means}
use Rattle.ule_trace.proofs.Progress.{Holds, finished, made_room, nothing_spelled, spelled}
use Rattle.ule_trace.specs.Held.{Moves}
use Rattle.ule_trace.specs.Line.{line_text, lines_text}
use Rattle.ule_types.specs.declared.setup.Setup.{Setup}
use Rattle.ule_weave.proofs.Turned.{lines_turned}
use Rattle.ule_weave.specs.WeaveText.{SchedState, done_words, lines_after, opened, turn_lines, weave_text}

-- three lines in turn
pub three_lines : (held a b c : List ℕ) (one two three : List (List ℕ)) → a ≡ held ++ line_text one → b ≡ a ++ line_text two → c ≡ b ++ line_text three → c ≡ held ++ lines_text (one ∷ two ∷ three ∷ [])
three_lines held a b c one two three e f g = joined a b c (line_text one) (line_text two) (line_text three) e f g
  where
    joined : (u v t x y z : List ℕ) → u ≡ held ++ x → v ≡ u ++ y → t ≡ v ++ z → t ≡ held ++ (x ++ (y ++ (z ++ [])))
    joined u v t x y z e1 e2 e3 = e3 ∙ rw (e2, e1, append-nil) (simp append_assoc)

-- the header was spelled
pub woven_begun : (k0 : SinkState) (s : Setup) (x : SchedState) (turns none held : List ℕ) → none ≡ [] → held ≡ none ++ line_text (codes "ule-weave" ∷ codes "1" ∷ []) → x ≡ opened s → turns ≡ s.turns
    → Holds k0 k0 held (lines_text (lines_after s 0 x turns)) (weave_text s)
woven_begun k0 s x turns none held bare e at all =
    let rest = lines_text (lines_after s 0 (opened s) s.turns) in
    let begun = spelled (line_text (codes "ule-weave" ∷ codes "1" ∷ [])) rest (nothing_spelled k0 (weave_text s)) refl in
    let same : lines_text (lines_after s 0 x turns) ≡ rest = ap (λ y. lines_text (lines_after s 0 y turns)) at ∙ ap (λ ws. lines_text (lines_after s 0 (opened s) ws)) all in
    subst (λ h. Holds k0 k0 h (lines_text (lines_after s 0 x turns)) (weave_text s)) (sym (e ∙ ap (λ h. h ++ line_text (codes "ule-weave" ∷ codes "1" ∷ [])) bare))
    (subst (λ r. Holds k0 k0 ([] ++ line_text (codes "ule-weave" ∷ codes "1" ∷ [])) r (weave_text s)) (sym same) begun)

-- one turn more was spelled
pub woven_on : (s p : Setup) (k : ℕ) (x next : SchedState) (turns : List ℕ) (did : Turn) (k0 k1 k2 : SinkState) (held left new text : List ℕ) → p ≡ s
    → Holds k0 k1 held (lines_text (lines_after s k x (drop k turns))) text → Moves k1 k2 held left (Ok tt) → k < length turns
    → (turn_of_worker (sched_means p) (orders_of p) x (get_or turns k 0)).0 ≡ did → (turn_of_worker (sched_means p) (orders_of p) x (get_or turns k 0)).1 ≡ next
    → new ≡ left ++ lines_text (turn_lines p (k + 1) (get_or turns k 0) did next)
    → Holds k0 k2 new (lines_text (lines_after s (k + 1) next (drop (k + 1) turns))) text
woven_on s p k x next turns did k0 k1 k2 held left new text same h moves more does leaves e =
    let w = get_or turns k 0 in
    let made = made_room h moves in
    let rest : lines_text (lines_after s k x (drop k turns)) ≡ lines_text (turn_lines s (k + 1) w did next) ++ lines_text (lines_after s (k + 1) next (drop (k + 1) turns)) =
    ap (λ ws. lines_text (lines_after s k x ws)) (drop_more turns k 0 more) ∙
    lines_turned s k x next w (drop (k + 1) turns) did
    (subst (λ q. (turn_of_worker (sched_means q) (orders_of q) x w).0 ≡ did) same does) (subst (λ q. (turn_of_worker (sched_means q) (orders_of q) x w).1 ≡ next) same leaves) in
    subst (λ m. Holds k0 k2 m (lines_text (lines_after s (k + 1) next (drop (k + 1) turns))) text) (sym (e ∙ ap (λ q. left ++ lines_text (turn_lines q (k + 1) w did next)) same))
    (spelled (lines_text (turn_lines s (k + 1) w did next)) (lines_text (lines_after s (k + 1) next (drop (k + 1) turns))) made rest)

-- the last line was spelled and all was written
pub woven_end : (s : Setup) (k : ℕ) (x : SchedState) (turns : List ℕ) (k0 k1 k2 k3 : SinkState) (held left new text : List ℕ) (result : Result Unit WriteFault)
    → Holds k0 k1 held (lines_text (lines_after s k x (drop k turns))) text → Moves k1 k2 held left (Ok tt) → length turns ≤ k
    → new ≡ left ++ line_text (done_words k x.ticket) → WroteWhole k2 k3 new result → WroteWhole k0 k3 text result
woven_end s k x turns k0 k1 k2 k3 held left new text result h moves past e wrote =
    let rest : lines_text (lines_after s k x (drop k turns)) ≡ line_text (done_words k x.ticket) ++ [] = ap (λ ws. lines_text (lines_after s k x ws)) (drop_all k turns past) in
    let last = spelled (line_text (done_words k x.ticket)) [] (made_room h moves) rest in
    finished last (subst (λ m. WroteWhole k2 k3 m result) e wrote)

-- each turn is of a worker that there is
pub turn_below : (n : ℕ) (turns : List ℕ) (k : ℕ) → list_all (λ w. nat_lt w n) turns ≡ true → k < length turns → get_or turns k 0 < n
turn_below n [] k all more = absurd (omega arith)
turn_below n (w ∷ ws) zero all more = let first : nat_lt w n ≡ true = (and_parts (nat_lt w n) (list_all (λ v. nat_lt v n) ws) all).0 in grind arith
turn_below n (w ∷ ws) (suc k) all more = turn_below n ws k (and_parts (nat_lt w n) (list_all (λ v. nat_lt v n) ws) all).1 (omega arith)

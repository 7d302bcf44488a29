-- The recursion on rounds, and what a turn and the turns of a round come to.
use Rattle.std.proofs.Common.{◌≡◌, ℕ, zero, suc, ◌+◌, ◌-◌, ◌≤◌, List, [], ◌∷◌, ◌++◌, length, fold, map-id, slice_get, Option, Some, None, option_and_then, refl, sym, ◌∙◌, ap, subst, arith}
use Rattle.std.specs.List.{range_with_len}
use Rattle.std.proofs.lemmas.Bool.{cond_both}
use Rattle.std.proofs.lemmas.List.{length-set}
use Rattle.std.proofs.lemmas.List.FromFn.{map-range_with_len_more}
use Rattle.std.proofs.lemmas.List.Sums.{fold_push}
use Rattle.std.proofs.lemmas.Option.{none-some, same_Some}
use Rattle.ule_types.specs.declared.event.Item.{Item}
use Rattle.ule_types.specs.declared.event.Item.TheVariants as item
use Rattle.ule_model.specs.Events.{is_ready}
use Rattle.ule_program.specs.Courses.{Course, next_step}
use Rattle.ule_model.specs.Rounds.{Play, after_item, after_step, performed, round, rounds, turn}
use Rattle.ule_model.specs.Step.{step}

-- ---- a turn

-- a worker that is at its end, or isn't there
abbrev pub IsFinished : Play → ℕ → Type 0
IsFinished p worker = (course : Course) → slice_get p.courses worker ≡ Some course → next_step course ≡ None

-- a turn changes nothing where the worker is at its end, and performs its next item where there is one
pub turn_cases : (P : Play → Type 0) (p : Play) (worker : ℕ) → (IsFinished p worker → P p) →
    ((course after : Course) (i : Item) → slice_get p.courses worker ≡ Some course → next_step course ≡ Some (i, after) → P (after_item worker i after p)) → P (turn p worker)
turn_cases P p worker ended goes = at_course (slice_get p.courses worker) refl
  where
    at_step : (course : Course) → slice_get p.courses worker ≡ Some course → (found : Option (Item × Course)) → next_step course ≡ found → P (after_step worker found p)
    at_step course got None next = ended (λ other same. subst (λ z. next_step z ≡ None) (same_Some course other (sym got ∙ same)) next)
    at_step course got (Some found) next = goes course found.1 found.0 got next

    at_course : (o : Option Course) → slice_get p.courses worker ≡ o → P (after_step worker (option_and_then next_step o) p)
    at_course None got = ended (λ other same. absurd (none-some other (sym got ∙ same)))
    at_course (Some course) got = at_step course got (next_step course) refl

-- a turn of a worker that is at its end changes nothing
pub turn_finished : (p : Play) (worker : ℕ) → IsFinished p worker → turn p worker ≡ p
turn_finished p worker ended =
    turn_cases (λ q. q ≡ p) p worker (λ finished. refl)
    (λ course after i got next. absurd (none-some (i, after) (sym (ended course got) ∙ next)))

-- a turn leaves as many courses as there were
pub turn_count : (p : Play) (worker : ℕ) → length (turn p worker).courses ≡ length p.courses
turn_count p worker =
    turn_cases (λ q. length q.courses ≡ length p.courses) p worker (λ finished. refl)
    (λ course after i got next. item_count i after)
  where
    item_count : (i : Item) (after : Course) → length (after_item worker i after p).courses ≡ length p.courses
    item_count (item.Advance k) after = length-set p.courses worker after
    item_count (item.Event e) after =
        cond_both (is_ready p.world worker e) (performed worker e after p) p (λ q. length q.courses ≡ length p.courses)
        (λ ready. length-set p.courses worker (record after { last = Some ((step p.world worker e p.now).1, p.now) })) (λ lost. refl)

-- ---- the turns of a round

-- the play after the turns of so many workers
abbrev pub turns : ℕ → Play → Play
turns n p = fold turn p (range_with_len 0 n)

-- the numbers of some workers and one more are those numbers and then its number
pub range_push : (n : ℕ) → range_with_len 0 (n + 1) ≡ range_with_len 0 n ++ n ∷ []
range_push n =
    sym (map-id (range_with_len 0 (n + 1))) ∙ map-range_with_len_more (λ i. i) 0 n n (omega arith) ∙
    ap (λ ws. ws ++ n ∷ []) (map-id (range_with_len 0 n))

-- the turns of some workers and one more are those turns and then its turn
pub turns_more : (n : ℕ) (p : Play) → turns (n + 1) p ≡ turn (turns n p) n
turns_more n p = ap (fold turn p) (range_push n) ∙ fold_push turn p (range_with_len 0 n) n

-- what each turn keeps, some turns keep
pub turns_keep : (I : Play → Type 0) → ((q : Play) (worker : ℕ) → I q → I (turn q worker)) → (workers : List ℕ) (p : Play) → I p → I (fold turn p workers)
turns_keep I step [] p holds = holds
turns_keep I step (w ∷ ws) p holds = turns_keep I step ws (turn p w) (step p w holds)

-- turns of workers that are at their ends change nothing
pub turns_finished : (p : Play) → ((worker : ℕ) → IsFinished p worker) → (workers : List ℕ) → fold turn p workers ≡ p
turns_finished p ended [] = refl
turns_finished p ended (w ∷ ws) = ap (λ q. fold turn q ws) (turn_finished p w (ended w)) ∙ turns_finished p ended ws

-- ---- rounds

-- a round of workers that are at their ends changes nothing
pub round_finished : (p : Play) → ((worker : ℕ) → IsFinished p worker) → round p ≡ p
round_finished p ended = turns_finished p ended (range_with_len 0 (length p.courses))

-- no rounds change nothing
pub rounds_none : (p : Play) → rounds 0 p ≡ p
unfolding rounds
rounds_none p = refl

-- some rounds are a round and then the others
pub rounds_suc : (n : ℕ) (p : Play) → rounds (suc n) p ≡ rounds n (round p)
unfolding rounds
rounds_suc n p = refl

-- so many rounds and so many more are the first and then the others
pub rounds_add : (n m : ℕ) (p : Play) → rounds (n + m) p ≡ rounds m (rounds n p)
rounds_add zero m p =
    let same : 0 + m ≡ m = omega arith in
    ap (λ k. rounds k p) same ∙ ap (rounds m) (sym (rounds_none p))
rounds_add (suc n) m p =
    let same : suc n + m ≡ suc (n + m) = omega arith in
    ap (λ k. rounds k p) same ∙ rounds_suc (n + m) p ∙ rounds_add n m (round p) ∙ ap (rounds m) (sym (rounds_suc n p))

-- one round more is a round behind the others
pub rounds_more : (n : ℕ) (p : Play) → rounds (n + 1) p ≡ round (rounds n p)
rounds_more n p = rounds_add n 1 p ∙ rounds_suc 0 (rounds n p) ∙ rounds_none (round (rounds n p))

-- once a round changes nothing, no number of rounds does
pub rounds_still : (p : Play) → round p ≡ p → (n : ℕ) → rounds n p ≡ p
rounds_still p still zero = rounds_none p
rounds_still p still (suc n) = rounds_suc n p ∙ ap (rounds n) still ∙ rounds_still p still n

-- rounds past one after which a round changes nothing
pub rounds_past_still : (n k : ℕ) (p : Play) → n ≤ k → round (rounds n p) ≡ rounds n p → rounds k p ≡ rounds n p
rounds_past_still n k p past still =
    let sum : k ≡ n + (k - n) = omega arith in
    ap (λ m. rounds m p) sum ∙ rounds_add n (k - n) p ∙ rounds_still (rounds n p) still (k - n)

-- what each turn keeps, rounds keep
pub rounds_keep : (I : Play → Type 0) → ((q : Play) (worker : ℕ) → I q → I (turn q worker)) → (n : ℕ) (p : Play) → I p → I (rounds n p)
unfolding rounds
rounds_keep I step zero p holds = holds
rounds_keep I step (suc n) p holds = rounds_keep I step n (round p) (turns_keep I step (range_with_len 0 (length p.courses)) p holds)

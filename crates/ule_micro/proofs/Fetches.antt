-- A legal play goes on to a worker's next item, and its numbers stay small.
use Rattle.std.proofs.Common.{◌≡◌, ℕ, zero, suc, ◌+◌, ◌<◌, ◌≤◌, List, [], ◌∷◌, length, set, drop, sym, refl, ap, ◌∙◌, subst, arith}
use Rattle.std.specs.Prelude.{Option, Some, None, slice_get}
use Rattle.std.proofs.lemmas.Option.{none-some}
use Rattle.ule_micro.specs.declared.entry.Entry.{Entry}
use Rattle.ule_micro.specs.declared.todo.Todo.{Todo}
use Rattle.ule_micro.specs.Means.{Means}
use Rattle.ule_micro.specs.Standings.{Standing, asks, rests, standing_with}
use Rattle.ule_micro.specs.Courses.{WorkerCourse, answered, LegalPlay, answers, begins}
use Rattle.ule_micro.specs.Laws.{AreOrders, IsLawful}
use Rattle.ule_micro.specs.Programs.{CanBegin, CanGoOn}
use Rattle.ule_micro.specs.Turns.{Fetched, next_command, fetch}
use Rattle.ule_micro.proofs.Lists.{get_here, set_set, there}
use Rattle.ule_micro.proofs.Courses.{may_begin_next, may_go_on}
use Rattle.ule_micro.proofs.Programs.{behind, fetched}

module _ {X : Type 0} where
  -- an empty rest is behind the end
  pub nothing_left : (l : List X) (k : ℕ) → [] ≡ drop k l → slice_get l k ≡ None
  nothing_left [] k e = refl
  nothing_left (x ∷ xs) zero e = absurd (cc)
  nothing_left (x ∷ xs) (suc k) e = nothing_left xs k e

  -- the rest begins with what stands at its place
  pub first_left : (l : List X) (k : ℕ) (x : X) (xs : List X) → x ∷ xs ≡ drop k l → (slice_get l k ≡ Some x) × (xs ≡ drop (suc k) l)
  first_left [] zero x xs e = absurd (cc)
  first_left [] (suc k) x xs e = absurd (cc)
  first_left (y ∷ ys) zero x xs e = (let h : y ≡ x = cc in ap Some h, cc)
  first_left (y ∷ ys) (suc k) x xs e = first_left ys k x xs e

module _ {H O G E R C : Type 0} (m : Means H O G E R C) (orders : ℕ → List C) (laws : IsLawful m) (lists : AreOrders m orders) (h : List (Entry E R)) (vs : List G) (cs : List (WorkerCourse O E R)) (w items advanced : ℕ) (own0 : O) (in_list : w < length cs) where
  -- course standing: the worker's course with this part, commands begun and standing
  abbrev pub course_standing : O → ℕ → Standing E R → WorkerCourse O E R
  course_standing own k standing = record { own = own; begun = k; items = items; advanced = advanced; standing = standing }

  -- is fetched well: after the fetch the play is legal, the commands begun are commands of the list, no command is left where there is no item, and the hand and the worker are as before
  pub record IsFetchedWell (f : Fetched O E) : Type 0 where
    pub play : LegalPlay m orders h vs (set cs w (course_standing f.own f.begun (standing_with f.item)))
    pub low : f.begun ≤ length (orders w)
    pub ended : f.item ≡ None → slice_get (orders w) f.begun ≡ None
    pub hand : m.hand f.own ≡ m.hand own0
    pub number : m.number f.own ≡ m.number own0

  here : (c : WorkerCourse O E R) → slice_get (set cs w c) w ≡ Some c
  here c = get_here cs w c in_list

  -- a worker that begins these commands comes to its next item by calls that it may make, and the play stays legal
  pub commands_well : (rest : List C) (own : O) (k : ℕ) → rest ≡ drop k (orders w) → k ≤ length (orders w) → LegalPlay m orders h vs (set cs w (course_standing own k rests))
      → m.hand own ≡ m.hand own0 → m.number own ≡ m.number own0
      → CanBegin m own rest × IsFetchedWell (next_command m own k rest)
  commands_well [] own k is low play hand number = (tt, record { play = play; low = low; ended = λ _. nothing_left (orders w) k is; hand = hand; number = number })
  commands_well (c ∷ rest) own k is low play hand number = by (m.next (m.begin own c) None).0 refl (λ p. commands_well rest (m.next (m.begin own c) None).1 (k + 1) is_rest low_next p told_hand told_number) where
    at_c : slice_get (orders w) k ≡ Some c
    at_c = (first_left (orders w) k c rest is).0

    is_rest : rest ≡ drop (k + 1) (orders w)
    is_rest = let one : suc k ≡ k + 1 = omega arith in (first_left (orders w) k c rest is).1 ∙ ap (λ j. drop j (orders w)) one

    low_next : k + 1 ≤ length (orders w)
    low_next = let z = there (orders w) k c at_c in omega arith

    told : O
    told = (m.next (m.begin own c) None).1

    begun_play : LegalPlay m orders h vs (set cs w (course_standing (m.begin own c) (k + 1) (asks None)))
    begun_play = subst (LegalPlay m orders h vs) (set_set cs w (course_standing own k rests) (course_standing (m.begin own c) (k + 1) (asks None))) (begins w (course_standing own k rests) c play (here (course_standing own k rests)) refl at_c)

    told_play : LegalPlay m orders h vs (set cs w (answered m (course_standing (m.begin own c) (k + 1) (asks None)) None))
    told_play = subst (LegalPlay m orders h vs) (set_set cs w (course_standing (m.begin own c) (k + 1) (asks None)) (answered m (course_standing (m.begin own c) (k + 1) (asks None)) None)) (answers w (course_standing (m.begin own c) (k + 1) (asks None)) None begun_play (here (course_standing (m.begin own c) (k + 1) (asks None))) refl)

    may : m.begins own c
    may = may_begin_next m orders laws lists play w (course_standing own k rests) (here (course_standing own k rests)) c refl at_c

    may_ask : m.goes_on (m.begin own c) None
    may_ask = may_go_on m orders laws lists begun_play w (course_standing (m.begin own c) (k + 1) (asks None)) (here (course_standing (m.begin own c) (k + 1) (asks None))) None refl

    told_hand : m.hand (m.next (m.begin own c) None).1 ≡ m.hand own0
    told_hand = laws.hands.next (m.begin own c) None ∙ (laws.hands.begin own c ∙ hand)

    told_number : m.number (m.next (m.begin own c) None).1 ≡ m.number own0
    told_number = laws.hands.next_number (m.begin own c) None ∙ (laws.hands.begin_number own c ∙ number)

    by : (o : Option (Todo E)) → (m.next (m.begin own c) None).0 ≡ o
        → (LegalPlay m orders h vs (set cs w (course_standing (m.next (m.begin own c) None).1 (k + 1) rests))
        → CanBegin m (m.next (m.begin own c) None).1 rest × IsFetchedWell (next_command m (m.next (m.begin own c) None).1 (k + 1) rest))
        → CanBegin m own (c ∷ rest) × IsFetchedWell (next_command m own k (c ∷ rest))
    by None e go = let deeper = go (subst (λ o. LegalPlay m orders h vs (set cs w (course_standing (m.next (m.begin own c) None).1 (k + 1) (standing_with o)))) e told_play) in (
      (may, may_ask, λ _. deeper.0),
      subst (λ o. IsFetchedWell (behind m k rest o (m.next (m.begin own c) None).1)) (sym e) deeper.1,
    )
    by (Some x) e go = (
      (may, may_ask, λ z. absurd (none-some x (sym z ∙ e))),
      subst (λ o. IsFetchedWell (behind m k rest o (m.next (m.begin own c) None).1)) (sym e) record {
        play = subst (λ o. LegalPlay m orders h vs (set cs w (course_standing (m.next (m.begin own c) None).1 (k + 1) (standing_with o)))) e told_play;
        low = low_next;
        ended = λ z. absurd (none-some x (sym z));
        hand = told_hand;
        number = told_number;
      },
    )

  -- the worker asks for its next item
  pub fetch_well : (own : O) (k : ℕ) (last : Option (R × ℕ)) → k ≤ length (orders w) → LegalPlay m orders h vs (set cs w (course_standing own k (asks last))) → m.hand own ≡ m.hand own0
      → m.number own ≡ m.number own0
      → CanGoOn m own last (drop k (orders w)) × IsFetchedWell (fetch m own k last (drop k (orders w)))
  fetch_well own k last low play hand number = by (m.next own last).0 refl where
    told_play : LegalPlay m orders h vs (set cs w (answered m (course_standing own k (asks last)) last))
    told_play = subst (LegalPlay m orders h vs) (set_set cs w (course_standing own k (asks last)) (answered m (course_standing own k (asks last)) last)) (answers w (course_standing own k (asks last)) last play (here (course_standing own k (asks last))) refl)

    may_ask : m.goes_on own last
    may_ask = may_go_on m orders laws lists play w (course_standing own k (asks last)) (here (course_standing own k (asks last))) last refl

    told_hand : m.hand (m.next own last).1 ≡ m.hand own0
    told_hand = laws.hands.next own last ∙ hand

    told_number : m.number (m.next own last).1 ≡ m.number own0
    told_number = laws.hands.next_number own last ∙ number

    by : (o : Option (Todo E)) → (m.next own last).0 ≡ o → CanGoOn m own last (drop k (orders w)) × IsFetchedWell (fetch m own k last (drop k (orders w)))
    by None e = let deeper = commands_well (drop k (orders w)) (m.next own last).1 k refl low (subst (λ o. LegalPlay m orders h vs (set cs w (course_standing (m.next own last).1 k (standing_with o)))) e told_play) told_hand told_number in (
      (may_ask, λ _. deeper.0),
      subst (λ o. IsFetchedWell (fetched m k (drop k (orders w)) o (m.next own last).1)) (sym e) deeper.1,
    )
    by (Some x) e = (
      (may_ask, λ z. absurd (none-some x (sym z ∙ e))),
      subst (λ o. IsFetchedWell (fetched m k (drop k (orders w)) o (m.next own last).1)) (sym e) record {
        play = subst (λ o. LegalPlay m orders h vs (set cs w (course_standing (m.next own last).1 k (standing_with o)))) e told_play;
        low = low;
        ended = λ z. absurd (none-some x (sym z));
        hand = told_hand;
        number = told_number;
      },
    )

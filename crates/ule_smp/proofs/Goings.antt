-- How far a command is that a pass runs, from its begin to its end.
use Rattle.std.proofs.Common.{◌≡◌, ℕ, ◌+◌, ◌<◌, ◌≤◌, List, [], ◌∷◌, ◌++◌, Option, Some, None, ap, refl, sym, subst, ◌∙◌, arith}
use Rattle.std.specs.List.{AllByRecursion}
use Rattle.ule_micro.specs.Laws.{IsEmpty, IsLawful}
use Rattle.ule_micro.specs.Means.{Means}
use Rattle.ule_micro.specs.Standings.{Standing, asks, has, rests, standing_with}
use Rattle.ule_micro.specs.declared.entry.HeldLocks.{HeldLocks}
use Rattle.ule_micro.specs.declared.todo.Todo.{Todo}
use Rattle.ule_micro.specs.declared.todo.Todo.TheVariants.{Advance, Event}
use Rattle.ule_words.specs.Passes.{PassState}
use Rattle.ule_words.specs.Programs.{StandsAt}
use Rattle.ule_words.specs.Workers.{advancing, taking}
use Rattle.ule_words.specs.declared.log.Numbered.{Numbered}
use Rattle.ule_smp.specs.Rests.{HasComeTo, IsAtRest}
use Rattle.ule_smp.specs.Runs.{CountsEvents, HasRun, Runs, begins, newest_reply, point_of, stays}
use Rattle.ule_smp.specs.Taken.{HasPerformed}
use Rattle.ule_smp.proofs.Courses.{begun_from, come_advanced, come_begun, come_performed, come_told, runs_advanced, runs_performed, runs_told, told_from}

module _ {H O G E R C : Type 0} (m : Means H O G E R C) (c : C) (p : PassState O H G E R) where
  -- can begin: the pass is at rest behind some commands, behind which the command is valid
  abbrev pub CanBegin : Type 0
  CanBegin = (given : List C) × IsAtRest m given p × m.valid p.worker.number given c

  -- goes: the pass came so far with the command, and this is the reply of its last event so far
  pub record Goes (answer : Option R) (q : PassState O H G E R) (standing : Standing E R) : Type 0 where
    pub items : ℕ
    pub runs : Runs m (point_of p rests) (c ∷ []) items (point_of q standing)
    pub more : List (ℕ × Numbered E R)
    pub adds : q.worker.mine ≡ more ++ p.worker.mine
    pub above : AllByRecursion (λ x. p.worker.seen < x.1.number) more
    pub seen : p.worker.seen ≤ q.worker.seen
    pub answers : answer ≡ newest_reply more
    pub left : q.worker.allowance + items ≡ p.worker.allowance
    pub few : items + m.left q.own standing ≤ m.charge (m.number p.own) c
    pub table : q.table ≡ p.table
    pub number : q.worker.number ≡ p.worker.number
    pub come : (given : List C) → IsAtRest m given p → m.valid p.worker.number given c → HasComeTo m (c ∷ given) q standing

module _ {H O G E R C : Type 0} (m : Means H O G E R C) where
  -- is told: what a pass is that was told its next item
  pub record IsTold (q : PassState O H G E R) (told : Option (R × ℕ)) (given_item : Option (Todo E)) (z : PassState O H G E R) : Type 0 where
    pub item : given_item ≡ (m.next q.own told).0
    pub own : z ≡ told_from m q told
    pub stands : (given : List C) → StandsAt m given q (asks told) → StandsAt m given z (standing_with given_item)
    pub left : m.left z.own (standing_with given_item) ≤ m.left q.own (asks told)

module _ {H O G E R C : Type 0} (m : Means H O G E R C) (law : IsLawful m) (c : C) (p : PassState O H G E R) where
  -- goes begun: the command was begun
  pub goes_begun : (q : PassState O H G E R) (held : List (ℕ × G)) (read : Option (HeldLocks × ℕ)) → q ≡ begun_from m p c held read → m.left q.own (asks None) ≤ m.charge (m.number p.own) c
      → ((given : List C) → IsAtRest m given p → m.valid p.worker.number given c → StandsAt m (c ∷ given) q (asks None)) → Goes m c p None q (asks None)
  goes_begun q held read is few stands = record {
    items = 0;
    runs = subst (λ z. Runs m (point_of p rests) (c ∷ []) 0 (point_of z (asks None))) (sym is) (begins c stays refl);
    more = [];
    adds = ap (λ z. z.worker.mine) is;
    above = tt;
    seen = let z = ap (λ z. z.worker.seen) is in omega arith;
    answers = refl;
    left = let z = ap (λ z. z.worker.allowance) is in omega arith;
    few = omega (arith, few);
    table = ap (λ z. z.table) is;
    number = ap (λ z. z.worker.number) is;
    come = λ given rest valid. come_begun m law.hands given c p q held read is rest.come (stands given rest valid);
  }

  -- goes begun under: the command was begun under a lock
  pub goes_begun_under : (l : ℕ) (v : G) (q z : PassState O H G E R) → q ≡ record p { worker = taking p.worker l v } → z ≡ record q { own = m.begin q.own c } → m.left z.own (asks None) ≤ m.charge (m.number q.own) c
      → ((given : List C) → StandsAt m given q rests → m.valid (m.number q.own) given c → StandsAt m (c ∷ given) z (asks None)) → Goes m c p None z (asks None)
  goes_begun_under l v q z taken begun few stands = subst
      (λ q. z ≡ record q { own = m.begin q.own c } → m.left z.own (asks None) ≤ m.charge (m.number q.own) c
      → ((given : List C) → StandsAt m given q rests → m.valid (m.number q.own) given c → StandsAt m (c ∷ given) z (asks None)) → Goes m c p None z (asks None))
      (sym taken)
      (λ begun few stands. goes_begun z ((l, v) ∷ p.worker.held) None begun few (λ given rest valid. stands given rest.come.stands (subst (λ w. m.valid w given c) (sym rest.come.number) valid)))
      begun few stands

  -- goes told: the pass was told its next item, which is this
  pub goes_told : (answer : Option R) (q z : PassState O H G E R) (told : Option (R × ℕ)) (item next : Option (Todo E)) → IsTold m q told item z → item ≡ next
      → Goes m c p answer q (asks told) → Goes m c p answer z (standing_with next)
  goes_told answer q z told item next t is g = subst (λ x. Goes m c p answer z (standing_with x)) is record {
    items = g.items;
    runs = runs_told m _ _ g.items q z told item t.own t.item g.runs;
    more = g.more;
    adds = ap (λ x. x.worker.mine) t.own ∙ g.adds;
    above = g.above;
    seen = let a = ap (λ x. x.worker.seen) t.own in let b = g.seen in omega arith;
    answers = g.answers;
    left = let a = ap (λ x. x.worker.allowance) t.own in let b = g.left in omega arith;
    few = let a = g.few in let b = t.left in omega arith;
    table = ap (λ x. x.table) t.own ∙ g.table;
    number = ap (λ x. x.worker.number) t.own ∙ g.number;
    come = λ given rest valid. let at = g.come given rest valid in come_told m law.hands (c ∷ given) q z told item t.own t.item at (t.stands (c ∷ given) at.stands);
  }

  -- goes advanced: the pass advanced now
  pub goes_advanced : (answer : Option R) (q z : PassState O H G E R) (n : ℕ) → CanBegin m c p → 0 < q.worker.allowance → z ≡ record q { worker = advancing q.worker n }
      → ((given : List C) → StandsAt m given q (has (Advance n)) → StandsAt m given z (asks None) × (m.left z.own (asks None) + 1 ≤ m.left q.own (has (Advance n))))
      → Goes m c p answer q (has (Advance n)) → Goes m c p answer z (asks None)
  goes_advanced answer q z n can some is stands g = record {
    items = g.items + 1;
    runs = runs_advanced m _ _ g.items q z n is g.runs;
    more = g.more;
    adds = ap (λ x. x.worker.mine) is ∙ g.adds;
    above = g.above;
    seen = let a = ap (λ x. x.worker.seen) is in let b = g.seen in omega arith;
    answers = g.answers;
    left = let a = ap (λ x. x.worker.allowance) is in let b = g.left in omega arith;
    few = let a = g.few in let b = (stands (c ∷ can.0) (g.come can.0 can.1 can.2).stands).1 in omega arith;
    table = ap (λ x. x.table) is ∙ g.table;
    number = ap (λ x. x.worker.number) is ∙ g.number;
    come = λ given rest valid. let at = g.come given rest valid in come_advanced m law.hands (c ∷ given) q z n is at (stands (c ∷ given) at.stands).0;
  }

  -- goes performed: the pass performed an event
  pub goes_performed : (answer : Option R) (q z : PassState O H G E R) (e : E) (told : R × ℕ) → CanBegin m c p → 0 < q.worker.allowance → HasPerformed m q e told z
      → Goes m c p answer q (has (Event e)) → Goes m c p (Some told.0) z (asks (Some told))
  goes_performed answer q z e told can some d g = record {
    items = g.items + 1;
    runs = runs_performed m _ _ g.items q z e told d g.runs;
    more = (q.worker.advanced, d.entry) ∷ g.more;
    adds = ap (λ x. x.mine) d.worker ∙ ap (λ x. (q.worker.advanced, d.entry) ∷ x) g.adds;
    above = ((let a = g.seen in let b = d.above in omega arith), g.above);
    seen = let a = ap (λ x. x.seen) d.worker in let b = g.seen in let d = d.above in omega arith;
    answers = ap (λ x. Some x) (sym d.is_reply);
    left = let a = ap (λ x. x.allowance) d.worker in let b = g.left in omega arith;
    few = let a = g.few in let b = (d.stands (c ∷ can.0) (g.come can.0 can.1 can.2).stands).1 in omega arith;
    table = d.table ∙ g.table;
    number = ap (λ x. x.number) d.worker ∙ g.number;
    come = λ given rest valid. come_performed m law.hands (c ∷ given) q z e told d (g.come given rest valid);
  }

  -- goes ended: a command without a further item has run
  pub goes_ended : (answer : Option R) (q : PassState O H G E R) → Goes m c p answer q rests → HasRun m c p answer q
  goes_ended answer q g = record {
    items = g.items;
    runs = g.runs;
    more = g.more;
    adds = g.adds;
    above = g.above;
    seen = g.seen;
    answers = g.answers;
    left = g.left;
    few = let a = g.few in omega arith;
    table = g.table;
    number = g.number;
  }

  -- rests ended: a pass behind its last item, with no lock and no change pending, is at rest
  pub rests_ended : (given : List C) (answer : Option R) (q : PassState O H G E R) → Goes m c p answer q rests → q.worker.held ≡ [] → q.worker.pending ≡ None → IsAtRest m given p → m.valid p.worker.number given c
      → IsAtRest m (c ∷ given) q
  rests_ended given answer q g held calm rest valid = let at = g.come given rest valid in record {
    come = at;
    held = held;
    calm = calm;
    empty = subst (IsEmpty m) (sym at.hand) (law.standing.ends _ q.own at.stands);
  }

  -- advance left: a pass that has an advance may perform one more item
  pub advance_left : (answer : Option R) (q : PassState O H G E R) (n : ℕ) → CanBegin m c p → m.charge p.worker.number c ≤ p.worker.allowance → Goes m c p answer q (has (Advance n)) → 0 < q.worker.allowance
  advance_left answer q n can enough g = let at = g.come can.0 can.1 can.2 in let a = (law.standing.advances _ q.own n at.stands).3 in
      let b = g.left in let few = g.few in let same = ap (λ x. m.charge x c) can.1.come.number in omega arith

  -- event left: a pass that has an event may perform one more item
  pub event_left : (answer : Option R) (q : PassState O H G E R) (e : E) → CountsEvents m → CanBegin m c p → m.charge p.worker.number c ≤ p.worker.allowance → Goes m c p answer q (has (Event e)) → 0 < q.worker.allowance
  event_left answer q e counts can enough g = let at = g.come can.0 can.1 can.2 in let a = counts _ q.own e at.stands in
      let b = g.left in let few = g.few in let same = ap (λ x. m.charge x c) can.1.come.number in omega arith

  -- goes through: a command of one event has run
  pub goes_through : (q z w y : PassState O H G E R) (e : E) (told : R × ℕ) (item last : Option (Todo E)) → CountsEvents m → CanBegin m c p → m.charge p.worker.number c ≤ p.worker.allowance
      → Goes m c p None q (asks None) → IsTold m q None item z → item ≡ Some (Event e) → HasPerformed m z e told w → IsTold m w (Some told) last y → last ≡ None → Goes m c p (Some told.0) y rests
  goes_through q z w y e told item last counts can enough g first is d second ended = let has = goes_told None q z None item (Some (Event e)) first is g in
      goes_told (Some told.0) w y (Some told) last None second ended (goes_performed None z w e told can (event_left None z e counts can enough has) d has)

-- Each move of a worker keeps that it came where it stands by its program.
use Rattle.std.proofs.Common.{◌≡◌, ℕ, ◌+◌, List, ◌∷◌, slice_get, Option, Some, None, ap, refl, sym, subst, ◌∙◌}
use Rattle.ule_micro.specs.Laws.{KeepsHands}
use Rattle.ule_micro.specs.Means.{Means}
use Rattle.ule_micro.specs.Standings.{asks, has, rests, standing_with}
use Rattle.ule_micro.specs.declared.entry.HeldLocks.{HeldLocks}
use Rattle.ule_micro.specs.declared.todo.Todo.{Todo}
use Rattle.ule_micro.specs.declared.todo.Todo.TheVariants.{Advance, Event}
use Rattle.ule_words.specs.Passes.{PassState}
use Rattle.ule_words.specs.Programs.{StandsAt}
use Rattle.ule_words.specs.Workers.{advancing}
use Rattle.ule_smp.specs.Rests.{HasComeTo}
use Rattle.ule_smp.specs.Runs.{Point, Runs, advances, answers, begins, performs, point_of}
use Rattle.ule_smp.specs.Taken.{HasPerformed}

module _ {H O G E R C : Type 0} (m : Means H O G E R C) where
  -- begun from: the pass with a command begun, whatever locks it took
  abbrev pub begun_from : PassState O H G E R → C → List (ℕ × G) → Option (HeldLocks × ℕ) → PassState O H G E R
  begun_from p c held read = record p { own = m.begin p.own c; worker = record p.worker { held = held; read = read } }

  -- told from: the pass that was told its next item
  abbrev pub told_from : PassState O H G E R → Option (R × ℕ) → PassState O H G E R
  told_from p told = record p { own = (m.next p.own told).1 }

  -- runs told: a run goes on by an answer, with the item that it is
  pub runs_told : (from : Point O E R) (given : List C) (items : ℕ) (p q : PassState O H G E R) (told : Option (R × ℕ)) (item : Option (Todo E)) → q ≡ told_from p told → item ≡ (m.next p.own told).0
      → Runs m from given items (point_of p (asks told)) → Runs m from given items (point_of q (standing_with item))
  runs_told from given items p q told item is next runs = subst (λ z. Runs m from given items (point_of z (standing_with item))) (sym is)
      (subst (λ z. Runs m from given items (point_of (told_from p told) (standing_with z))) (sym next) (answers told runs refl))

  -- runs advanced: a run goes on by an advance
  pub runs_advanced : (from : Point O E R) (given : List C) (items : ℕ) (p q : PassState O H G E R) (k : ℕ) → q ≡ record p { worker = advancing p.worker k }
      → Runs m from given items (point_of p (has (Advance k))) → Runs m from given (items + 1) (point_of q (asks None))
  runs_advanced from given items p q k is runs = subst (λ z. Runs m from given (items + 1) (point_of z (asks None))) (sym is) (advances k runs refl)

  -- runs performed: a run goes on by an event
  pub runs_performed : (from : Point O E R) (given : List C) (items : ℕ) (p q : PassState O H G E R) (e : E) (told : R × ℕ) → HasPerformed m p e told q
      → Runs m from given items (point_of p (has (Event e))) → Runs m from given (items + 1) (point_of q (asks (Some told)))
  runs_performed from given items p q e told d runs = subst (λ z. Runs m from given (items + 1) z)
      (λ i. record { own = sym d.own i; standing = asks (Some (d.is_reply i, d.time i)); mine = (sym d.worker i).mine; advanced = (sym d.worker i).advanced })
      (performs d.hand d.entry runs (λ i. has (Event (sym d.event i))))

module _ {H O G E R C : Type 0} (m : Means H O G E R C) (k : KeepsHands m) where
  -- come begun: a pass at rest comes to a command's begin
  pub come_begun : (given : List C) (c : C) (p q : PassState O H G E R) (held : List (ℕ × G)) (read : Option (HeldLocks × ℕ)) → q ≡ begun_from m p c held read
      → HasComeTo m given p rests → StandsAt m (c ∷ given) q (asks None) → HasComeTo m (c ∷ given) q (asks None)
  come_begun given c p q held read is come stands = subst (λ z. StandsAt m (c ∷ given) z (asks None) → HasComeTo m (c ∷ given) z (asks None)) (sym is) (λ s. record {
    first = come.first;
    opens = come.opens;
    items = come.items;
    runs = begins c come.runs refl;
    stands = s;
    number = k.begin_number p.own c ∙ come.number;
    hand = come.hand ∙ sym (k.begin p.own c);
  }) stands

  -- come told: a pass that asks comes to its next item
  pub come_told : (given : List C) (p q : PassState O H G E R) (told : Option (R × ℕ)) (item : Option (Todo E)) → q ≡ told_from m p told → item ≡ (m.next p.own told).0
      → HasComeTo m given p (asks told) → StandsAt m given q (standing_with item) → HasComeTo m given q (standing_with item)
  come_told given p q told item is next come stands = record {
    first = come.first;
    opens = ap (λ z. slice_get m.owns z.worker.number) is ∙ come.opens;
    items = come.items;
    runs = runs_told m _ given come.items p q told item is next come.runs;
    stands = stands;
    number = ap (λ z. m.number z.own) is ∙ (k.next_number p.own told ∙ (come.number ∙ ap (λ z. z.worker.number) (sym is)));
    hand = ap (λ z. z.worker.hand) is ∙ (come.hand ∙ (sym (k.next p.own told) ∙ ap (λ z. m.hand z.own) (sym is)));
  }

  -- come advanced: a pass that has an advance comes behind it
  pub come_advanced : (given : List C) (p q : PassState O H G E R) (n : ℕ) → q ≡ record p { worker = advancing p.worker n }
      → HasComeTo m given p (has (Advance n)) → StandsAt m given q (asks None) → HasComeTo m given q (asks None)
  come_advanced given p q n is come stands = subst (λ z. StandsAt m given z (asks None) → HasComeTo m given z (asks None)) (sym is) (λ s. record {
    first = come.first;
    opens = come.opens;
    items = come.items + 1;
    runs = advances n come.runs refl;
    stands = s;
    number = come.number;
    hand = come.hand;
  }) stands

  -- come performed: a pass that has an event comes behind it
  pub come_performed : (given : List C) (p q : PassState O H G E R) (e : E) (told : R × ℕ) → HasPerformed m p e told q
      → HasComeTo m given p (has (Event e)) → HasComeTo m given q (asks (Some told))
  come_performed given p q e told d come = record {
    first = come.first;
    opens = ap (λ z. slice_get m.owns z.number) d.worker ∙ come.opens;
    items = come.items + 1;
    runs = runs_performed m _ given come.items p q e told d come.runs;
    stands = (d.stands given come.stands).0;
    number = ap m.number d.own ∙ (k.put_number p.own d.hand ∙ (come.number ∙ ap (λ z. z.number) (sym d.worker)));
    hand = ap (λ z. z.hand) d.worker ∙ (sym (k.put p.own d.hand) ∙ ap m.hand (sym d.own));
  }

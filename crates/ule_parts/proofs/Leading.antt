-- A legal play is a history in order whose entries were asked for.
use Rattle.std.proofs.Common.{◌≡◌, ℕ, List, [], ◌∷◌, map, set, refl, sym, ap, ◌∙◌, subst}
use Rattle.std.specs.Prelude.{Some, slice_get}
use Rattle.ule_micro.specs.declared.entry.Entry.{Entry}
use Rattle.ule_micro.specs.Means.{Means}
use Rattle.ule_micro.specs.Courses.{WorkerCourse, unbegun, answered, ordered, advanced_by, done_by, LegalPlay, opens, answers, begins, advances, performs}
use Rattle.ule_micro.specs.Histories.{Leads}
use Rattle.ule_micro.specs.Laws.{AreOrders, IsLawful, values_and_hands_at_start}
use Rattle.ule_micro.proofs.Courses.{asked_for}
use Rattle.ule_micro.proofs.Lists.{get_map, map_set, set_same}

module _ {H O G E R C : Type 0} (m : Means H O G E R C) (orders : ℕ → List C) (laws : IsLawful m) (lists : AreOrders m orders) where
  -- hands of: the hands of the workers where they stand
  abbrev pub hands_of : List (WorkerCourse O E R) → List H
  hands_of cs = map (λ c. m.hand c.own) cs

  -- at the start
  unbegun_hands : (owns : List O) → hands_of (map unbegun owns) ≡ map m.hand owns
  unbegun_hands [] = refl
  unbegun_hands (o ∷ os) = ap (λ hs. m.hand o ∷ hs) (unbegun_hands os)

  -- a worker that goes on with its hand leaves all hands
  hands_kept : (cs : List (WorkerCourse O E R)) (w : ℕ) (c d : WorkerCourse O E R) → slice_get cs w ≡ Some c → m.hand d.own ≡ m.hand c.own → hands_of (set cs w d) ≡ hands_of cs
  hands_kept cs w c d at same = map_set (λ x. m.hand x.own) cs w d ∙ (ap (set (hands_of cs) w) same ∙ set_same (hands_of cs) w (m.hand c.own) (get_map (λ x. m.hand x.own) cs w c at))

  -- the same history leads to the same values and hands
  module _ (h : List (Entry E R)) (vs : List G) (cs : List (WorkerCourse O E R)) (w : ℕ) (c d : WorkerCourse O E R) (at : slice_get cs w ≡ Some c) (same : m.hand d.own ≡ m.hand c.own)
      (leads : Leads m (values_and_hands_at_start m) h (record { values = vs; hands = hands_of cs })) where
    kept : Leads m (values_and_hands_at_start m) h (record { values = vs; hands = hands_of (set cs w d) })
    kept = subst (λ hs. Leads m (values_and_hands_at_start m) h (record { values = vs; hands = hs })) (sym (hands_kept cs w c d at same)) leads

  -- each legal play leads to its values and hands
  pub play_leads : {h : List (Entry E R)} {vs : List G} {cs : List (WorkerCourse O E R)} → LegalPlay m orders h vs cs
      → Leads m (values_and_hands_at_start m) h (record { values = vs; hands = hands_of cs })
  play_leads opens = ap (λ hs. record { values = m.values; hands = hs }) (unbegun_hands m.owns)
  play_leads (answers {h} {vs} {cs} w c told play at is) = kept h vs cs w c (answered m c told) at (laws.hands.next c.own told) (play_leads play)
  play_leads (begins {h} {vs} {cs} w c order play at is next) = kept h vs cs w c (ordered m c order) at (laws.hands.begin c.own order) (play_leads play)
  play_leads (advances {h} {vs} {cs} w c k play at is) = kept h vs cs w c (advanced_by m c k) at refl (play_leads play)
  play_leads (performs {h} {vs} {cs} c x after play at is follows in_time) = (
    record { values = vs; hands = hands_of cs },
    m.hand c.own,
    after,
    play_leads play,
    get_map (λ (d : WorkerCourse O E R). m.hand d.own) cs x.worker c at,
    asked_for m orders laws lists play x.worker c at x.event is,
    follows,
    in_time.no_earlier,
    ap (λ hs. record { values = after.values; hands = hs })
        (map_set (λ (d : WorkerCourse O E R). m.hand d.own) cs x.worker (done_by m c after.hand x.reply x.now) ∙ ap (set (hands_of cs) x.worker) (laws.hands.put c.own after.hand)),
  )

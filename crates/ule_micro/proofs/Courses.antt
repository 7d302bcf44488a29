-- What every legal play keeps of each worker's course, by one induction for all schedulers.
use Rattle.std.proofs.Common.{◌≡◌, ◌≢◌, ℕ, suc, ◌+◌, ◌≤◌, Bool, true, false, ◌==◌, List, [], ◌∷◌, drop, set, refl, sym, ap, ◌∙◌, subst, inl, ⊎_elim, arith, ne_eqb, eq-eqb}
use Rattle.std.specs.List.{AllByRecursion}
use Rattle.std.proofs.lemmas.Bool.{eqb-true}
use Rattle.std.specs.Prelude.{Option, Some, None, slice_get, if◌then◌else◌}
use Rattle.ule_micro.specs.declared.entry.Entry.{Entry}
use Rattle.ule_micro.specs.declared.todo.Todo.TheVariants.{Event, Advance}
use Rattle.ule_micro.specs.Means.{Means}
use Rattle.ule_micro.specs.Standings.{Standing, asks, has, rests, Acted, Journal}
use Rattle.ule_micro.specs.Histories.{Follows, IsNoEarlierThanShared, own_entries}
use Rattle.ule_micro.specs.Courses.{WorkerCourse, unbegun, answered, ordered, advanced_by, done_by, LegalPlay, opens, answers, begins, advances, performs}
use Rattle.ule_micro.specs.Laws.{IsLawful, AreOrders, AreValid, IsEmpty, total_charge}
use Rattle.ule_micro.proofs.Lists.{get_set, map_get, drop_get, there}
use Rattle.ule_micro.proofs.Effects.{effect_so, guarded_many, its_locks}

module _ {E R : Type 0} where
  -- a worker's entries with one more of its own
  pub own_more : (w : ℕ) (x : Entry E R) (h : List (Entry E R)) → x.worker ≡ w → own_entries w (x ∷ h) ≡ x ∷ own_entries w h
  own_more w x h e = ap (λ b. if b then x ∷ own_entries w h else own_entries w h) (eq-eqb x.worker w e)

  -- a worker's entries with one more of another
  pub own_else : (w : ℕ) (x : Entry E R) (h : List (Entry E R)) → x.worker ≢ w → own_entries w (x ∷ h) ≡ own_entries w h
  own_else w x h far = ap (λ b. if b then x ∷ own_entries w h else own_entries w h) (ne_eqb x.worker w far)

  -- a worker's entries are by a time that is no earlier than each of them in the history
  pub own_by : (w now : ℕ) (h : List (Entry E R)) → ((j : ℕ) (x : Entry E R) → slice_get h j ≡ Some x → x.worker ≡ w → x.now ≤ now) → AllByRecursion (λ y. y.now ≤ now) (own_entries w h)
  own_by w now [] by = tt
  own_by w now (x ∷ h) by = at_worker (x.worker == w) refl (own_by w now h (λ j y at own. by (suc j) y at own))
    where
      at_worker : (b : Bool) → (x.worker == w) ≡ b → AllByRecursion (λ y. y.now ≤ now) (own_entries w h) → AllByRecursion (λ y. y.now ≤ now) (if b then x ∷ own_entries w h else own_entries w h)
      at_worker true own rest = (by 0 x refl (eqb-true x.worker w own), rest)
      at_worker false other rest = rest

module _ {H O G E R C : Type 0} (m : Means H O G E R C) (orders : ℕ → List C) where
  -- journal: the journal of a worker that began these commands, after this history
  abbrev pub journal : List C → ℕ → List (Entry E R) → Journal E R C
  journal given w h = record { given = given; mine = own_entries w h }

  -- is course: what holds of a worker's course after every legal play with this history
  pub record IsCourse (h : List (Entry E R)) (w : ℕ) (c : WorkerCourse O E R) : Type 0 where
    pub number : m.number c.own ≡ w
    pub given : List C
    pub stands : m.stands (journal given w h) c.own c.standing
    pub ahead : AreValid m w given (drop c.begun (orders w))
    pub count : c.items + m.left c.own c.standing + total_charge (m.charge w) (drop c.begun (orders w)) ≤ total_charge (m.charge w) (orders w)

  module _ (laws : IsLawful m) (lists : AreOrders m orders) where
    module _ (h : List (Entry E R)) (w : ℕ) (c : WorkerCourse O E R) (r : IsCourse h w c) where
      -- what the own part keeps where its worker stands
      stands_at : (s : Standing E R) → c.standing ≡ s → m.stands (journal r.given w h) c.own s
      stands_at s is = subst (m.stands (journal r.given w h) c.own) is r.stands

      left_at : (s : Standing E R) → c.standing ≡ s → m.left c.own c.standing ≡ m.left c.own s
      left_at s is = ap (m.left c.own) is

      answered_course : (told : Option (R × ℕ)) → c.standing ≡ asks told → IsCourse h w (answered m c told)
      answered_course told is = let z = laws.standing.goes_on (journal r.given w h) c.own told (stands_at (asks told) is) in record {
        number = laws.hands.next_number c.own told ∙ r.number;
        given = r.given;
        stands = z.1;
        ahead = r.ahead;
        count = let a = r.count in let b = left_at (asks told) is in let d = z.2 in omega arith;
      }

      -- the next command of its list is valid
      valid_next : (order : C) → slice_get (orders w) c.begun ≡ Some order → AreValid m w r.given (order ∷ drop (c.begun + 1) (orders w))
      valid_next order at = subst (AreValid m w r.given) (drop_get (orders w) c.begun order at) r.ahead

      valid_now : (order : C) → slice_get (orders w) c.begun ≡ Some order → m.valid (m.number c.own) r.given order
      valid_now order at = subst (λ i. m.valid i r.given order) (sym r.number) (valid_next order at).0

      ordered_course : (order : C) → c.standing ≡ rests → slice_get (orders w) c.begun ≡ Some order → IsCourse h w (ordered m c order)
      ordered_course order is at = let z = laws.standing.begins (journal r.given w h) c.own order (stands_at rests is) (valid_now order at) in record {
        number = laws.hands.begin_number c.own order ∙ r.number;
        given = order ∷ r.given;
        stands = z.1;
        ahead = (valid_next order at).1;
        count = let a = r.count in let d : m.left (m.begin c.own order) (asks None) ≤ m.charge w order = subst (λ i. m.left (m.begin c.own order) (asks None) ≤ m.charge i order) r.number z.2 in
            let e : total_charge (m.charge w) (drop c.begun (orders w)) ≡ m.charge w order + total_charge (m.charge w) (drop (c.begun + 1) (orders w)) = ap (total_charge (m.charge w)) (drop_get (orders w) c.begun order at) in omega arith;
      }

      advanced_course : (k : ℕ) → c.standing ≡ has (Advance k) → IsCourse h w (advanced_by m c k)
      advanced_course k is = let z = laws.standing.advances (journal r.given w h) c.own k (stands_at (has (Advance k)) is) in record {
        number = r.number;
        given = r.given;
        stands = z.2;
        ahead = r.ahead;
        count = let a = r.count in let b = left_at (has (Advance k)) is in let d = z.3 in omega arith;
      }

    done_course : (h : List (Entry E R)) (vs : List G) (c : WorkerCourse O E R) (x : Entry E R) (after : Acted H G R) → c.standing ≡ has (Event x.event)
        → Follows m vs (m.hand c.own) x after → IsNoEarlierThanShared h x.worker x.locks x.now → IsCourse h x.worker c → IsCourse (x ∷ h) x.worker (done_by m c after.hand x.reply x.now)
    done_course h vs c x after is follows rules r =
        let so = effect_so m x.worker x.event x.now (m.hand c.own) x.locks vs follows.guarded follows.under after follows.effect in
        let j = journal r.given x.worker h in
        let z = laws.standing.performs j c.own x follows.guarded (stands_at h x.worker c r (has (Event x.event)) is) (sym r.number) follows.may
        (its_locks m vs follows.guarded x.locks (m.needs x.event) follows.under follows.locks) (guarded_many x.locks vs follows.guarded follows.under) (sym follows.reply ∙ ap (λ (y : Acted H G R). y.reply) so)
        (own_by x.worker x.now h (λ i y at own. rules.after i y at (inl own))) in
        let hand : after.hand ≡ (m.act x.worker x.event x.now (m.hand c.own) follows.guarded).hand = ap (λ (y : Acted H G R). y.hand) so in
        let now = asks (Some (x.reply, x.now)) in record {
          number = laws.hands.put_number c.own after.hand ∙ r.number;
          given = r.given;
          stands = subst (λ i. m.stands (journal r.given x.worker (x ∷ h)) (m.with_hand c.own i) now) (sym hand)
              (subst (λ mine. m.stands (record { given = r.given; mine = mine }) (m.with_hand c.own (m.act x.worker x.event x.now (m.hand c.own) follows.guarded).hand) now) (sym (own_more x.worker x h refl)) z.0);
          ahead = r.ahead;
          count = let a = r.count in let b = left_at h x.worker c r (has (Event x.event)) is in
              let d : m.left (m.with_hand c.own after.hand) now + 1 ≤ m.left c.own (has (Event x.event)) = subst (λ i. m.left (m.with_hand c.own i) now + 1 ≤ m.left c.own (has (Event x.event))) (sym hand) z.1 in omega arith;
        }

    -- another worker's entry leaves a course
    else_course : (h : List (Entry E R)) (x : Entry E R) (w : ℕ) (c : WorkerCourse O E R) → x.worker ≢ w → IsCourse h w c → IsCourse (x ∷ h) w c
    else_course h x w c far r = record {
      number = r.number;
      given = r.given;
      stands = subst (λ mine. m.stands (record { given = r.given; mine = mine }) c.own c.standing) (sym (own_else w x h far)) r.stands;
      ahead = r.ahead;
      count = r.count;
    }

    first_course : (w : ℕ) (o : O) → slice_get m.owns w ≡ Some o → IsCourse [] w (unbegun o)
    first_course w o at = let z = laws.standing.opens w o at in record {
      number = laws.small.numbered w o at;
      given = [];
      stands = z.0;
      ahead = lists.valid w (there m.owns w o at);
      count = let a = z.1 in omega arith;
    }

    -- one worker's course changed
    set_course : (h : List (Entry E R)) (cs : List (WorkerCourse O E R)) (v : ℕ) (d : WorkerCourse O E R) → ((w : ℕ) (c : WorkerCourse O E R) → slice_get cs w ≡ Some c → w ≢ v → IsCourse h w c)
        → IsCourse h v d → (w : ℕ) (c : WorkerCourse O E R) → slice_get (set cs v d) w ≡ Some c → IsCourse h w c
    set_course h cs v d old new w c at = ⊎_elim (λ (z : (w ≡ v) × (d ≡ c)). subst (λ i. IsCourse h i c) (sym z.0) (subst (IsCourse h v) z.1 new))
        (λ (z : (w ≢ v) × (slice_get cs w ≡ Some c)). old w c z.1 z.0) (get_set cs v w d c at)

    -- each worker has such a course after every legal play
    pub all_are_courses : {h : List (Entry E R)} {vs : List G} {cs : List (WorkerCourse O E R)} → LegalPlay m orders h vs cs → (w : ℕ) (c : WorkerCourse O E R) → slice_get cs w ≡ Some c
        → IsCourse h w c
    all_are_courses opens w c at = let o = map_get unbegun m.owns w c at in subst (IsCourse [] w) o.2 (first_course w o.0 o.1)
    all_are_courses (answers {h} {vs} {cs} v d told play at is) w c here = set_course h cs v (answered m d told) (λ u b e far. all_are_courses play u b e) (answered_course h v d (all_are_courses play v d at) told is) w c here
    all_are_courses (begins {h} {vs} {cs} v d order play at is next) w c here = set_course h cs v (ordered m d order) (λ u b e far. all_are_courses play u b e) (ordered_course h v d (all_are_courses play v d at) order is next) w c here
    all_are_courses (advances {h} {vs} {cs} v d k play at is) w c here = set_course h cs v (advanced_by m d k) (λ u b e far. all_are_courses play u b e) (advanced_course h v d (all_are_courses play v d at) k is) w c here
    all_are_courses (performs {h} {vs} {cs} d x after play at is follows in_time) w c here =
        set_course (x ∷ h) cs x.worker (done_by m d after.hand x.reply x.now) (λ u b e far. else_course h x u b (λ same. far (sym same)) (all_are_courses play u b e))
        (done_course h vs d x after is follows in_time.no_earlier (all_are_courses play x.worker d at)) w c here

    -- what holds of a worker after a legal play
    module _ {h : List (Entry E R)} {vs : List G} {cs : List (WorkerCourse O E R)} (play : LegalPlay m orders h vs cs) (w : ℕ) (c : WorkerCourse O E R) (at : slice_get cs w ≡ Some c) where
      standing_now : (s : Standing E R) → c.standing ≡ s → m.stands (journal (all_are_courses play w c at).given w h) c.own s
      standing_now s is = stands_at h w c (all_are_courses play w c at) s is

      -- it performed at most its budget of items
      pub in_budget : c.items ≤ m.budget w
      in_budget = let r = (all_are_courses play w c at).count in let b = lists.charged w in omega arith

      -- its next command may begin
      pub may_begin_next : (order : C) → c.standing ≡ rests → slice_get (orders w) c.begun ≡ Some order → m.begins c.own order
      may_begin_next order is next = let r = all_are_courses play w c at in (laws.standing.begins (journal r.given w h) c.own order (standing_now rests is) (valid_now h w c r order next)).0

      -- its next item may be asked for
      pub may_go_on : (told : Option (R × ℕ)) → c.standing ≡ asks told → m.goes_on c.own told
      may_go_on told is = (laws.standing.goes_on (journal (all_are_courses play w c at).given w h) c.own told (standing_now (asks told) is)).0

      -- it advances by 1 to 1,000,000
      pub advances_little : (k : ℕ) → c.standing ≡ has (Advance k) → (1 ≤ k) × (k ≤ 1000000)
      advances_little k is = let z = laws.standing.advances (journal (all_are_courses play w c at).given w h) c.own k (standing_now (has (Advance k)) is) in (z.0, z.1)

      -- the event that it has is asked for
      pub asked_for : (e : E) → c.standing ≡ has (Event e) → m.asks w (own_entries w h) (m.hand c.own) e
      asked_for e is = let r = all_are_courses play w c at in subst (λ i. m.asks i (own_entries w h) (m.hand c.own) e) r.number (laws.standing.asks_for (journal r.given w h) c.own e (standing_now (has (Event e)) is))

      -- it has nothing in hand between two commands
      pub rests_empty : c.standing ≡ rests → IsEmpty m (m.hand c.own)
      rests_empty is = laws.standing.ends (journal (all_are_courses play w c at).given w h) c.own (standing_now rests is)

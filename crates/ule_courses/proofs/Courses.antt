-- Courses: where a program finds its next item, what it keeps on the way, and how its items run out.
use Rattle.std.proofs.Common.{◌≡◌, ℕ, ◌+◌, ◌≤◌, true, List, [], ◌∷◌, ◌++◌, flat_map, Option, Some, None, IfSome, refl, sym, ◌∙◌, ap, subst, arith}
use Rattle.std.specs.List.{list_all}
use Rattle.std.proofs.lemmas.Bool.{and_parts}
use Rattle.std.proofs.lemmas.List.Sums.{sum_by-cons}
use Rattle.std.proofs.lemmas.Option.{none-some, some_pair_parts}
use Rattle.ule_types.specs.Commands.{amount_of, forked_by, greatest_of, is_among, is_command}
use Rattle.ule_types.specs.Needs.{FitsHand, handling, hatched_by, sought_by}
use Rattle.ule_types.specs.Words.{change_of}
use Rattle.ule_types.specs.declared.command.Command.{Command}
use Rattle.ule_types.specs.declared.event.Entry.{Entry}
use Rattle.ule_types.specs.declared.event.Event.{Event}
use Rattle.ule_types.specs.declared.event.Item.{Item}
use Rattle.ule_types.specs.declared.event.Item.TheVariants as item
use Rattle.ule_types.specs.declared.event.Reply.{Reply}
use Rattle.ule_topo.specs.Tree.{Tree}
use Rattle.ule_program.specs.Courses.{Course, course_of, next_in, next_step, or_else, stepped}
use Rattle.ule_program.specs.Hearing.{AllowsAt, IsReplyTo, IsSeat}
use Rattle.ule_program.specs.Laws.{LeadsTo, NamesWhatIs, hand_by_word, hatching, time_at}
use Rattle.ule_program.specs.Program.{after, after_giving, begun, in_hand, item_at, most, next_of, once_given, told_last}
use Rattle.ule_program.specs.declared.own.Own.{Own}
use Rattle.ule_program.specs.declared.stage.Stage.{Stage}
use Rattle.ule_program.specs.declared.stage.Stage.TheVariants.{Advances, Ended, Gives}
use Rattle.ule_program.proofs.Following.{after_goes_on}
use Rattle.ule_program.proofs.Leading.{HasCome, IsTold, advance_no_event, allowed_at, at_itself, command_leads, ended_stage, reply_at, stage_later}
use Rattle.ule_program.proofs.ProgramLaws.{allows_any, item_fits, item_seeks}
use Rattle.ule_courses.specs.Charge.{greatest_in}
use Rattle.ule_model.specs.Legal.{Performs, Timed, acts, advances, amount_in, stays}

-- ---- where the next item is found

-- a worker's own part once it knows the reply to its last event
abbrev pub told_at : Course → Own
told_at course = told_last course.last course.own

-- the next item of the commands not begun, and before them of the stage that a worker is at
abbrev pub next_from : List Command → Own → Option (Item × Course)
next_from [] own = stepped [] (item_at own.stage) (once_given own)
next_from (c ∷ cs) own = or_else (stepped (c ∷ cs) (item_at own.stage) (once_given own)) (next_from cs (begun c (once_given own)))

-- the next item of a program is found from where its worker stands once it knows the last reply
pub next_in_is : (script : List Command) (own : Own) (last : Option (Reply × ℕ)) → next_in script own last ≡ next_from script (told_last last own)
unfolding next_in
next_in_is [] own last = refl
next_in_is (c ∷ cs) own last =
    ap (or_else (stepped (c ∷ cs) (next_of last own).0 (next_of last own).1)) (next_in_is cs (begun c (next_of last own).1) None)

-- what holds of the commands not begun and of a worker's own part still holds when it begins the next command
abbrev pub KeptAtBegin : (List Command → Own → Type 0) → Type 0
KeptAtBegin P =
    (c : Command) (cs : List Command) (own : Own) → item_at own.stage ≡ None → P (c ∷ cs) own → P cs (begun c (once_given own))

-- a program's next item, with the commands not begun and the worker's own part where it was found
pub record IsFound (P : List Command → Own → Type 0) (i : Item) (after : Course) : Type 0 where
  pub script : List Command
  pub own : Own
  pub holds : P script own
  pub item : item_at own.stage ≡ Some i
  pub gone : after ≡ course_of (once_given own) script

-- a next item is found where what holds of the worker is kept
pub found_from : (P : List Command → Own → Type 0) → KeptAtBegin P → (script : List Command) (own : Own) (i : Item) (after : Course) → P script own →
    next_from script own ≡ Some (i, after) → IsFound P i after
found_from P kept [] own i after holds next = at_item (item_at own.stage) refl next
  where
    at_item : (o : Option Item) → item_at own.stage ≡ o → stepped [] o (once_given own) ≡ Some (i, after) → IsFound P i after
    at_item None is none = absurd (none-some (i, after) none)
    at_item (Some j) is some =
        let parts = some_pair_parts j i (course_of (once_given own) []) after some in
        record { script = []; own = own; holds = holds; item = is ∙ ap (λ (k : Item). Some k) parts.0; gone = sym parts.1 }
found_from P kept (c ∷ cs) own i after holds next = at_item (item_at own.stage) refl next (found_from P kept cs (begun c (once_given own)) i after)
  where
    at_item : (o : Option Item) → item_at own.stage ≡ o → or_else (stepped (c ∷ cs) o (once_given own)) (next_from cs (begun c (once_given own))) ≡ Some (i, after) →
        (P cs (begun c (once_given own)) → next_from cs (begun c (once_given own)) ≡ Some (i, after) → IsFound P i after) → IsFound P i after
    at_item None is some further = further (kept c cs own is holds) some
    at_item (Some j) is some further =
        let parts = some_pair_parts j i (course_of (once_given own) (c ∷ cs)) after some in
        record { script = c ∷ cs; own = own; holds = holds; item = is ∙ ap (λ (k : Item). Some k) parts.0; gone = sym parts.1 }

-- the next item of a course is found from where its worker stands once it knows the last reply
pub next_found : (P : List Command → Own → Type 0) → KeptAtBegin P → (course : Course) (i : Item) (after : Course) → P course.script (told_at course) →
    next_step course ≡ Some (i, after) → IsFound P i after
next_found P kept course i after holds next =
    found_from P kept course.script (told_at course) i after holds (sym (next_in_is course.script course.own course.last) ∙ next)

-- a worker without a next item has no command left and stands at the end of the last
pub record HasRunOut (P : List Command → Own → Type 0) : Type 0 where
  pub own : Own
  pub holds : P [] own
  pub ended : own.stage ≡ Ended

-- where there is no next item, the commands have run out
pub ended_from : (P : List Command → Own → Type 0) → KeptAtBegin P → (script : List Command) (own : Own) → P script own → next_from script own ≡ None → HasRunOut P
ended_from P kept [] own holds next = at_item (item_at own.stage) refl next
  where
    at_item : (o : Option Item) → item_at own.stage ≡ o → stepped [] o (once_given own) ≡ None → HasRunOut P
    at_item None is none = record { own = own; holds = holds; ended = ended_stage own.stage is }
    at_item (Some j) is some = absurd (none-some (j, course_of (once_given own) []) (sym some))
ended_from P kept (c ∷ cs) own holds next = at_item (item_at own.stage) refl next (ended_from P kept cs (begun c (once_given own)))
  where
    at_item : (o : Option Item) → item_at own.stage ≡ o → or_else (stepped (c ∷ cs) o (once_given own)) (next_from cs (begun c (once_given own))) ≡ None →
        (P cs (begun c (once_given own)) → next_from cs (begun c (once_given own)) ≡ None → HasRunOut P) → HasRunOut P
    at_item None is none further = further (kept c cs own is holds) none
    at_item (Some j) is some further = absurd (none-some (j, course_of (once_given own) (c ∷ cs)) (sym some))

-- ---- what a course keeps

-- the greatest number of items that a worker still has
abbrev pub left_from : ℕ → List Command → Own → ℕ
left_from cpus script own = most own + greatest_in cpus own.worker script

-- the time that a worker still adds
abbrev pub time_from : List Command → Own → ℕ
time_from script own = time_at own.stage + amount_in script

-- the greatest number of items that a course still has
abbrev pub left_of : ℕ → Course → ℕ
left_of cpus course = left_from cpus course.script (told_at course)

-- the time that a course still adds
abbrev pub time_of : Course → ℕ
time_of course = time_from course.script (told_at course)

-- the thread that the worker of a course has in hand
abbrev pub held_at : Course → Option ℕ
held_at course = in_hand (told_at course).stage

-- the threads that a worker is still to fork: one that it is to hatch next, and those of the commands not begun
abbrev pub to_fork : List Command → Own → List ℕ
to_fork script own = hatching own.stage ++ flat_map forked_by script

-- the threads that the worker of a course is still to fork
abbrev pub forks_ahead : Course → List ℕ
forks_ahead course = to_fork course.script (told_at course)

-- a worker of a topology with valid commands before it that has come to where it stands by now, with so many items left, this hand, and these
-- threads to fork
pub record IsOrderly (ids : List ℕ) (worker : ℕ) (t : Tree) (now left : ℕ) (hand : Option ℕ) (ahead : List ℕ) (script : List Command) (own : Own) : Type 0 where
  pub valid : list_all (is_command ids t.cpus) script ≡ true
  pub leads : LeadsTo (is_among ids) worker t now (most own) (time_at own.stage) (hatching own.stage) hand own
  pub few : left_from t.cpus script own ≤ left
  pub forks : to_fork script own ≡ ahead

-- where a worker has come to by now, with this hand
come_with : (ids : List ℕ) (worker : ℕ) (t : Tree) (now n k : ℕ) (us : List ℕ) (hand : Option ℕ) (own : Own) → LeadsTo (is_among ids) worker t now n k us hand own →
    LeadsTo (is_among ids) worker t now (most own) (time_at own.stage) (hatching own.stage) hand own
come_with ids worker t now n k us hand own led =
    subst (λ h. LeadsTo (is_among ids) worker t now (most own) (time_at own.stage) (hatching own.stage) h own) led.hand (at_itself (is_among ids) worker t now n k us hand own led)

-- where a worker has come to by a reply, with no time to add, no thread to hatch, and this hand
told_leads : (ids : List ℕ) (worker : ℕ) (t : Tree) (now : ℕ) (hand : Option ℕ) (own : Own) → HasCome (is_among ids) worker t now own → time_at own.stage ≡ 0 → hatching own.stage ≡ [] →
    in_hand own.stage ≡ hand → LeadsTo (is_among ids) worker t now (most own) 0 [] hand own
told_leads ids worker t now hand own come time hatches held = record {
  same_worker = come.same_worker;
  same_topology = come.same_topology;
  few = come.few;
  time = time;
  hatches = hatches;
  hand = held;
  sound = come.sound;
  named = come.named;
  by_now = come.by_now;
}

-- a course of a worker that is orderly once it is told
abbrev pub HasOrder : List ℕ → ℕ → Tree → ℕ → Course → Type 0
HasOrder ids worker t now course =
    IsOrderly ids worker t now (left_of t.cpus course) (held_at course) (forks_ahead course) course.script (told_at course)

-- an orderly course is so at any later time
pub order_later : (ids : List ℕ) (worker : ℕ) (t : Tree) (now later : ℕ) (course : Course) → now ≤ later → HasOrder ids worker t now course → HasOrder ids worker t later course
order_later ids worker t now later course past orderly = record {
  valid = orderly.valid;
  leads = record {
    same_worker = orderly.leads.same_worker;
    same_topology = orderly.leads.same_topology;
    few = orderly.leads.few;
    time = orderly.leads.time;
    hatches = orderly.leads.hatches;
    hand = orderly.leads.hand;
    sound = orderly.leads.sound;
    named = orderly.leads.named;
    by_now = stage_later (told_at course).stage now later past orderly.leads.by_now;
  };
  few = orderly.few;
  forks = orderly.forks;
}

-- where the next item of an orderly course is found
abbrev pub IsNextItem : List ℕ → ℕ → Tree → ℕ → Course → Item → Course → Type 0
IsNextItem ids worker t now course i after = IsFound (IsOrderly ids worker t now (left_of t.cpus course) (held_at course) (forks_ahead course)) i after

module _ (ids : List ℕ) (worker : ℕ) (t : Tree) (seat : IsSeat worker t) (now : ℕ) where
  -- a command that is begun keeps a worker orderly
  pub orderly_begun : (left : ℕ) (hand : Option ℕ) (ahead : List ℕ) → KeptAtBegin (IsOrderly ids worker t now left hand ahead)
  orderly_begun left hand ahead c cs own none orderly =
      let ended = ended_stage own.stage none in
      let few : most own ≡ 0 = ap (λ st. most (record own { stage = st })) ended in
      let parts = and_parts (is_command ids t.cpus c) (list_all (is_command ids t.cpus) cs) orderly.valid in
      let led : LeadsTo (is_among ids) worker t now (greatest_of c worker t.cpus) (amount_of c) (forked_by c) None (begun c (once_given own)) =
      command_leads ids worker t now c (once_given own) seat parts.0 orderly.leads.same_worker orderly.leads.same_topology in
      let first : greatest_in t.cpus (begun c (once_given own)).worker cs ≡ greatest_in t.cpus worker cs = ap (λ w. greatest_in t.cpus w cs) led.same_worker in
      let all : greatest_in t.cpus own.worker (c ∷ cs) ≡ greatest_in t.cpus worker (c ∷ cs) = ap (λ w. greatest_in t.cpus w (c ∷ cs)) orderly.leads.same_worker in
      let same : None ≡ hand = sym (ap in_hand ended) ∙ orderly.leads.hand in
      record {
        valid = parts.1;
        leads = subst (λ h. LeadsTo (is_among ids) worker t now (most (begun c (once_given own))) (time_at (begun c (once_given own)).stage) (hatching (begun c (once_given own)).stage) h
            (begun c (once_given own))) same (come_with ids worker t now (greatest_of c worker t.cpus) (amount_of c) (forked_by c) None (begun c (once_given own)) led);
        few = omega (arith, orderly.few, led.few, few, first, all, sum_by-cons (λ d. greatest_of d worker t.cpus) c cs);
        forks = ap (λ us. us ++ flat_map forked_by cs) led.hatches ∙ sym (ap (λ st. hatching st ++ flat_map forked_by (c ∷ cs)) ended) ∙ orderly.forks;
      }

  -- the next item of an orderly course is found where the worker is orderly
  pub next_is : (course : Course) (i : Item) (after : Course) → HasOrder ids worker t now course → next_step course ≡ Some (i, after) → IsNextItem ids worker t now course i after
  next_is course i after orderly next =
      next_found (IsOrderly ids worker t now (left_of t.cpus course) (held_at course) (forks_ahead course))
      (orderly_begun (left_of t.cpus course) (held_at course) (forks_ahead course)) course i after orderly next

-- a course that goes on from another: it is orderly, with an item less, these threads to fork less, and this hand
pub record GoesOnAs (ids : List ℕ) (worker : ℕ) (t : Tree) (now : ℕ) (forked : List ℕ) (hand : Option ℕ) (course reached : Course) : Type 0 where
  pub orderly : HasOrder ids worker t now reached
  pub left : left_of t.cpus reached + 1 ≤ left_of t.cpus course
  pub forks : forked ++ forks_ahead reached ≡ forks_ahead course
  pub held : held_at reached ≡ hand

module _ (ids : List ℕ) (worker : ℕ) (t : Tree) (now : ℕ) where
  -- a worker that has come to where a course stands once it is told, with fewer items than were left, has gone on to it
  went_on : (course reached : Course) (forked : List ℕ) (held hand : Option ℕ) (own : Own) (n : ℕ) →
      IsOrderly ids worker t now (left_of t.cpus course) held (forks_ahead course) reached.script own →
      LeadsTo (is_among ids) worker t now n 0 [] hand (told_at reached) → 1 + n ≤ most own → forked ≡ hatching own.stage →
      GoesOnAs ids worker t now forked hand course reached
  went_on course reached forked held hand own n orderly led few forks =
      let before : greatest_in t.cpus own.worker reached.script ≡ greatest_in t.cpus worker reached.script = ap (λ w. greatest_in t.cpus w reached.script) orderly.leads.same_worker in
      let after : greatest_in t.cpus (told_at reached).worker reached.script ≡ greatest_in t.cpus worker reached.script =
      ap (λ w. greatest_in t.cpus w reached.script) led.same_worker in
      record {
        orderly = record {
          valid = orderly.valid;
          leads = subst (λ h. LeadsTo (is_among ids) worker t now (most (told_at reached)) (time_at (told_at reached).stage) (hatching (told_at reached).stage) h (told_at reached))
              (sym led.hand) (come_with ids worker t now n 0 [] hand (told_at reached) led);
          few = omega arith;
          forks = refl;
        };
        left = omega (arith, few, led.few, before, after, orderly.few);
        forks = ap (λ us. forked ++ (us ++ flat_map forked_by reached.script)) led.hatches ∙ ap (λ us. us ++ flat_map forked_by reached.script) forks ∙ orderly.forks;
        held = led.hand;
      }

module _ (ids : List ℕ) (worker : ℕ) (t : Tree) (seat : IsSeat worker t) (now : ℕ) where
  -- a worker that is told the reply to its next event goes on
  told_from : (course : Course) (script : List Command) (own : Own) (st : Stage) (e : Event) (r : Reply) →
      IsOrderly ids worker t now (left_of t.cpus course) (held_at course) (forks_ahead course) script (record own { stage = st }) →
      item_at st ≡ Some (item.Event e) → IsReplyTo (is_among ids) t.cpus now e r →
      GoesOnAs ids worker t now (hatched_by e) (hand_by_word (handling e) (change_of e r) (held_at course)) course
      (record { script = script; own = once_given (record own { stage = st }); last = Some (r, now) })
  told_from course script own Ended e r orderly is says = absurd (none-some (item.Event e) is)
  told_from course script own (Advances k) e r orderly is says = absurd (advance_no_event k e is)
  told_from course script own (Gives f next) e r orderly is says =
      let same : f ≡ e = cc in
      let back : e ≡ f = cc in
      let reached : Course = record { script = script; own = record own { stage = Gives f next }; last = Some (r, now) } in
      let told : IsTold (is_among ids) worker t now f r (Gives f next) (record own { stage = Gives f next }) (told_at reached) =
      reply_at (is_among ids) worker t seat now own (Gives f next) f r refl
      (at_itself (is_among ids) worker t now (most (record own { stage = Gives f next })) 0 (hatched_by f) (held_at course) (record own { stage = Gives f next }) orderly.leads)
      (subst (λ x. IsReplyTo (is_among ids) t.cpus now x r) back says) in
      subst (λ x. GoesOnAs ids worker t now (hatched_by x) (hand_by_word (handling x) (change_of x r) (held_at course)) course reached) same
      (went_on ids worker t now course reached (hatched_by f) (held_at course) (hand_by_word (handling f) (change_of f r) (held_at course)) (record own { stage = Gives f next })
      (most (told_at reached)) orderly
      (told_leads ids worker t now (hand_by_word (handling f) (change_of f r) (held_at course)) (told_at reached) told.come
      (after_goes_on next r now (record own { stage = Gives f next })).1 told.hatches
      (told.hand ∙ ap (hand_by_word (handling f) (change_of f r)) orderly.leads.hand))
      (omega (arith, told.fewer)) refl)

  -- a course that is told the reply to its next event goes on
  pub course_told : (course : Course) (e : Event) (after : Course) (r : Reply) → IsNextItem ids worker t now course (item.Event e) after →
      IsReplyTo (is_among ids) t.cpus now e r →
      GoesOnAs ids worker t now (hatched_by e) (hand_by_word (handling e) (change_of e r) (held_at course)) course (record after { last = Some (r, now) })
  course_told course e after r next says =
      subst (λ a. GoesOnAs ids worker t now (hatched_by e) (hand_by_word (handling e) (change_of e r) (held_at course)) course (record a { last = Some (r, now) })) (sym next.gone)
      (told_from course next.script next.own next.own.stage e r next.holds next.item says)

  -- a worker that has its next advance of time goes on
  advanced_from : (course : Course) (script : List Command) (own : Own) (st : Stage) (k : ℕ) →
      IsOrderly ids worker t now (left_of t.cpus course) (held_at course) (forks_ahead course) script (record own { stage = st }) →
      item_at st ≡ Some (item.Advance k) → GoesOnAs ids worker t now [] (held_at course) course (course_of (once_given (record own { stage = st })) script)
  advanced_from course script own Ended k orderly is = absurd (none-some (item.Advance k) is)
  advanced_from course script own (Gives e next) k orderly is = absurd (advance_no_event k e (sym is))
  advanced_from course script own (Advances j) k orderly is =
      went_on ids worker t now course (course_of (record own { stage = Ended }) script) [] (held_at course) (held_at course) (record own { stage = Advances j }) 0 orderly
      (record {
        same_worker = orderly.leads.same_worker;
        same_topology = orderly.leads.same_topology;
        few = omega arith;
        time = refl;
        hatches = refl;
        hand = orderly.leads.hand;
        sound = tt;
        named = tt;
        by_now = tt;
      })
      (omega arith) refl

  -- a course that has its next advance of time goes on, with the hand that it had
  pub course_advanced : (k : ℕ) (course after : Course) → IsNextItem ids worker t now course (item.Advance k) after →
      GoesOnAs ids worker t now [] (held_at course) course after
  course_advanced k course after next =
      subst (λ a. GoesOnAs ids worker t now [] (held_at course) course a) (sym next.gone) (advanced_from course next.script next.own next.own.stage k next.holds next.item)

-- ---- what comes next

-- an event of an orderly worker: it names what there is, has the hand that it needs, and hatches what comes first of what is to fork
pub record IsAtEvent (ids : List ℕ) (cpus : ℕ) (hand : Option ℕ) (ahead : List ℕ) (script : List Command) (e : Event) : Type 0 where
  pub names : NamesWhatIs (is_among ids) cpus e
  pub fits : FitsHand hand (handling e)
  pub seeks : IfSome hand (λ u. sought_by e ≡ None)
  pub forks : hatched_by e ++ flat_map forked_by script ≡ ahead

module _ (ids : List ℕ) (worker : ℕ) (t : Tree) (now left : ℕ) (hand : Option ℕ) (ahead : List ℕ) (script : List Command) where
  -- an orderly worker whose item is an event
  pub event_at : (own : Own) (st : Stage) (e : Event) → IsOrderly ids worker t now left hand ahead script (record own { stage = st }) →
      item_at st ≡ Some (item.Event e) → IsAtEvent ids t.cpus hand ahead script e
  event_at own Ended e orderly is = absurd (none-some (item.Event e) is)
  event_at own (Advances k) e orderly is = absurd (advance_no_event k e is)
  event_at own (Gives f next) e orderly is =
      let same : f ≡ e = cc in
      subst (IsAtEvent ids t.cpus hand ahead script) same (record {
        names = orderly.leads.named.names;
        fits = subst (λ h. FitsHand h (handling f)) orderly.leads.hand (item_fits next (handling f));
        seeks = subst (λ h. IfSome h (λ u. sought_by f ≡ None)) orderly.leads.hand (item_seeks f next);
        forks = orderly.forks;
      })

-- an orderly worker that gave its event can hear a reply that the event can have
pub hears_at : (ids : List ℕ) (worker : ℕ) (t : Tree) (now left : ℕ) (hand : Option ℕ) (ahead : List ℕ) (script : List Command) (own : Own) (st : Stage) (e : Event) (r : Reply) →
    IsOrderly ids worker t now left hand ahead script (record own { stage = st }) → item_at st ≡ Some (item.Event e) → IsReplyTo (is_among ids) t.cpus now e r →
    AllowsAt (once_given (record own { stage = st })) (after_giving st) r now
hears_at ids worker t now left hand ahead script own Ended e r orderly is says = absurd (none-some (item.Event e) is)
hears_at ids worker t now left hand ahead script own (Advances k) e r orderly is says = absurd (advance_no_event k e is)
hears_at ids worker t now left hand ahead script own (Gives f next) e r orderly is says =
    let back : e ≡ f = cc in
    allows_any (is_among ids) own.worker own.topology.cpus next r now
    (allowed_at (is_among ids) worker t now (most (record own { stage = Gives f next })) 0 (hatched_by f) hand own f next r orderly.leads
    (subst (λ x. IsReplyTo (is_among ids) t.cpus now x r) back says))

-- ---- a worker's entries, one step more

-- a worker that made its entries goes on to an advance of time
pub performs_advanced : {course end : Course} {amount total : ℕ} {es : List Timed} (k : ℕ) (after : Course) → Performs course amount es end total →
    next_step end ≡ Some (item.Advance k, after) → Performs course amount es after (total + k)
performs_advanced k after (stays course amount) next =
    advances course after after amount k (amount + k) [] next (stays after (amount + k))
performs_advanced k after (advances course second end amount j total es first rest) next =
    advances course second after amount j (total + k) es first (performs_advanced k after rest next)
performs_advanced k after (acts course second end amount total e es first rest) next =
    acts course second after amount (total + k) e es first (performs_advanced k after rest next)

-- a worker that made its entries goes on to one more
pub performs_acted : {course end : Course} {amount total : ℕ} {es : List Timed} (e : Entry) (after : Course) → Performs course amount es end total →
    next_step end ≡ Some (item.Event e.event, after) →
    Performs course amount (es ++ record { entry = e; amount = total } ∷ []) (record after { last = Some (e.reply, e.now) }) total
performs_acted e after (stays course amount) next =
    acts course after (record after { last = Some (e.reply, e.now) }) amount amount e [] next (stays (record after { last = Some (e.reply, e.now) }) amount)
performs_acted e after (advances course second end amount j total es first rest) next =
    advances course second (record after { last = Some (e.reply, e.now) }) amount j total (es ++ record { entry = e; amount = total } ∷ []) first (performs_acted e after rest next)
performs_acted e after (acts course second end amount total x es first rest) next =
    acts course second (record after { last = Some (e.reply, e.now) }) amount total x (es ++ record { entry = e; amount = total } ∷ []) first (performs_acted e after rest next)

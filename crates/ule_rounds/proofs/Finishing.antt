-- Each round performs an item where a worker has a further one, until all workers are at their ends.
use Rattle.std.proofs.Common.{◌≡◌, ℕ, zero, suc, ◌+◌, ◌<◌, ◌≤◌, ◌⊎◌, Bool, true, false, length, slice_get, is_some, Option, Some, None, inl, inr, if◌then◌else◌, option_and_then, refl, sym, ◌∙◌, ap, subst, ⊎_elim, arith}
use Rattle.std.proofs.lemmas.Bool.{cases_lt, true≢false}
use Rattle.std.proofs.lemmas.List.{length_push}
use Rattle.std.proofs.lemmas.Option.{same_Some}
use Rattle.ule_types.specs.Commands.{is_among}
use Rattle.ule_types.specs.declared.event.Event.{Event}
use Rattle.ule_types.specs.declared.event.Item.{Item}
use Rattle.ule_types.specs.declared.event.Item.TheVariants as item
use Rattle.ule_types.specs.declared.event.Reply.{Reply}
use Rattle.ule_types.specs.declared.setup.Setup.{Setup}
use Rattle.ule_model.specs.Events.{Locking, place_of, holder_of, is_no_others, is_ready, locking, sought_in}
use Rattle.ule_model.specs.WorldValue.{if_thread}
use Rattle.ule_model.specs.World.{World}
use Rattle.ule_program.specs.Courses.{Course, next_step}
use Rattle.ule_model.specs.Rounds.{Play, after_item, entry_of, greatest_rounds, opening, performed, round, rounds, turn}
use Rattle.ule_micro.specs.Courses.{WorkerCourse}
use Rattle.ule_micro.specs.Histories.{own_entries}
use Rattle.ule_micro.specs.Laws.{IsEmpty}
use Rattle.ule_micro.proofs.Courses.{asked_for, rests_empty}
use Rattle.ule_micro.proofs.Lists.{something, there}
use Rattle.ule_parts.specs.Acts.{needs_of}
use Rattle.ule_parts.specs.Plays.{list_of}
use Rattle.ule_parts.specs.Scheduler.{sched_means}
use Rattle.ule_parts.specs.Workers.{Worker, declared_ids_of}
use Rattle.ule_parts.proofs.Lawful.{is_lawful}
use Rattle.ule_parts.proofs.Numbers.{numbered_held}
use Rattle.ule_rounds.proofs.Keeping.{advance_within, in_hand, items_few, next_advanced, next_performed}
use Rattle.ule_rounds.proofs.RoundPlays.{IsPlayed, IsSettled, as_many, comes_to_end, has_item, orders, played_opening, reached, settles, world_is}
use Rattle.ule_rounds.proofs.RoundsLaws.{IsFinished, round_finished, rounds_keep, rounds_none, rounds_still, rounds_suc, turn_cases, turns, turns_more}

-- ---- a turn

-- a worker whose turn is lost: the thread that its event seeks is in another worker's hand
pub record IsLost (p : Play) (worker : ℕ) : Type 0 where
  pub course : Course
  pub after : Course
  pub event : Event
  pub got : slice_get p.courses worker ≡ Some course
  pub next : next_step course ≡ Some (item.Event event, after)
  pub ready : is_ready p.world worker event ≡ false

-- a worker that performs no item in its turn
abbrev pub IsIdle : Play → ℕ → Type 0
IsIdle p worker = IsFinished p worker ⊎ IsLost p worker

-- a play of so many items that came from one of so many, whose entries and time went on by one at least with each item more
pub record HasGoneOn (s : Setup) (n : ℕ) (p q : Play) : Type 0 where
  pub items : ℕ
  pub played : IsPlayed s items q
  pub more : n ≤ items
  pub entries : length p.entries ≤ length q.entries
  pub now : p.now ≤ q.now
  pub goes : items + length p.entries + p.now ≤ n + length q.entries + q.now

-- a play that went on by an item, or else is as this says
abbrev pub GoesOrIs : Setup → ℕ → Play → Play → Type 0 → Type 0
GoesOrIs s n p q still = (gone : HasGoneOn s n p q) × ((n + 1 ≤ gone.items) ⊎ still)

-- a play went on to itself
at_first : (s : Setup) (n : ℕ) (p : Play) → IsPlayed s n p → HasGoneOn s n p p
at_first s n p r = record { items = n; played = r; more = omega arith; entries = omega arith; now = omega arith; goes = omega arith }

-- a turn performs an item, or changes nothing, since its worker is at its end or its turn is lost
pub turn_goes : (s : Setup) (n : ℕ) (p : Play) (worker : ℕ) → IsPlayed s n p → GoesOrIs s n p (turn p worker) ((turn p worker ≡ p) × IsIdle p worker)
turn_goes s n p worker r =
    turn_cases (λ q. GoesOrIs s n p q ((q ≡ p) × IsIdle p worker)) p worker (λ finished. (at_first s n p r, inr (refl, inl finished))) goes
  where
    goes : (course after : Course) (i : Item) → slice_get p.courses worker ≡ Some course → next_step course ≡ Some (i, after) →
        GoesOrIs s n p (after_item worker i after p) ((after_item worker i after p ≡ p) × IsIdle p worker)
    goes course after (item.Advance k) got next = (
      record {
        items = n + 1;
        played = next_advanced s n p r worker course got k after next;
        more = omega arith;
        entries = omega arith;
        now = omega arith;
        goes = omega (arith, (advance_within s n p r worker course got k after next).0);
      },
      inl (omega arith),
    )
    goes course after (item.Event e) got next = if_ready (is_ready p.world worker e) refl
      where
        if_ready : (b : Bool) → is_ready p.world worker e ≡ b →
            GoesOrIs s n p (if b then performed worker e after p else p) (((if b then performed worker e after p else p) ≡ p) × IsIdle p worker)
        if_ready true is =
            let pushed = length_push p.entries (entry_of p worker e) in (
              record {
                items = n + 1;
                played = next_performed s n p r worker course got e after next is;
                more = omega arith;
                entries = omega (arith, pushed);
                now = omega arith;
                goes = omega (arith, pushed);
              },
              inl (omega arith),
            )
        if_ready false is = (at_first s n p r, inr (refl, inr (record { course = course; after = after; event = e; got = got; next = next; ready = is })))

-- ---- a round

-- none of so many workers performs an item, and so nothing changes
abbrev AreIdle : ℕ → Play → Play → Type 0
AreIdle k p q = (q ≡ p) × ((worker : ℕ) → worker < k → IsIdle p worker)

-- a turn behind those of so many workers
turn_behind : (s : Setup) (n k : ℕ) (p q : Play) → GoesOrIs s n p q (AreIdle k p q) → GoesOrIs s n p (turn q k) (AreIdle (suc k) p (turn q k))
turn_behind s n k p q first = (
  record {
    items = second.0.items;
    played = second.0.played;
    more = omega (arith, first.0.more, second.0.more);
    entries = omega (arith, first.0.entries, second.0.entries);
    now = omega (arith, first.0.now, second.0.now);
    goes = omega (arith, first.0.goes, second.0.goes);
  },
  ⊎_elim (λ (further : n + 1 ≤ first.0.items). inl (omega (arith, further, second.0.more)))
      (λ (same : AreIdle k p q).
      ⊎_elim (λ (further : first.0.items + 1 ≤ second.0.items). inl (omega (arith, further, first.0.more)))
      (λ (still : (turn q k ≡ q) × IsIdle q k).
      inr (
        still.0 ∙ same.0,
        λ worker below.
            ⊎_elim (λ (under : worker < k). same.1 worker under)
            (λ (at : k ≤ worker). let is : k ≡ worker = omega arith in subst (IsIdle p) is (subst (λ u. IsIdle u k) same.0 still.1))
            (cases_lt worker k),
      ))
      second.1) first.1,
)
  where
    second : GoesOrIs s first.0.items q (turn q k) ((turn q k ≡ q) × IsIdle q k)
    second = turn_goes s first.0.items q k first.0.played

-- the turns of so many workers perform an item, or change nothing, since none of those workers performs one
pub turns_go : (s : Setup) (n k : ℕ) (p : Play) → IsPlayed s n p → GoesOrIs s n p (turns k p) (AreIdle k p (turns k p))
turns_go s n zero p r = (at_first s n p r, inr (refl, λ worker below. absurd (omega arith)))
turns_go s n (suc k) p r =
    let last : turns (suc k) p ≡ turn (turns k p) k = (let more : suc k ≡ k + 1 = omega arith in ap (λ j. turns j p) more ∙ turns_more k p) in
    subst (λ q. GoesOrIs s n p q (AreIdle (suc k) p q)) (sym last) (turn_behind s n k p (turns k p) (turns_go s n k p r))

-- ---- no turn is lost for good

-- an event that isn't ready seeks a thread that is in a hand
seeks_held : (x : World) (worker : ℕ) (k : Locking) → is_no_others worker (option_and_then (holder_of x.members) (sought_in k)) ≡ false →
    (t : ℕ) × (k ≡ place_of t) × (h : ℕ) × (holder_of x.members t ≡ Some h)
seeks_held x worker (place_of t) lost = at_holder (holder_of x.members t) refl lost
  where
    at_holder : (o : Option ℕ) → holder_of x.members t ≡ o → is_no_others worker o ≡ false → (u : ℕ) × (place_of t ≡ place_of u) × (h : ℕ) × (holder_of x.members u ≡ Some h)
    at_holder None is lost = absurd (true≢false lost)
    at_holder (Some h) is lost = (t, refl, h, is)
seeks_held x worker _ lost = absurd (true≢false lost)

module _ (s : Setup) (n : ℕ) (p : Play) (r : IsPlayed s n p) where
  -- a thread in a hand isn't in an empty one
  pub held_not_empty : (t h : ℕ) (c : WorkerCourse Worker Event Reply) → holder_of p.world.members t ≡ Some h → slice_get r.courses h ≡ Some c → IsEmpty (sched_means s) c.own.hand → ⊥
  held_not_empty t h c held at empty =
      let has = in_hand s n p r t h held in
      let there : is_some (if_thread t c.own.hand) ≡ true = subst (λ (d : WorkerCourse Worker Event Reply). is_some (if_thread t d.own.hand) ≡ true) (same_Some has.0 c (sym has.1 ∙ at)) has.2 in
      let declared : is_among (declared_ids_of s) t ≡ true =
      ap (λ us. is_among us t) (sym (reached s n p r).is_world.numbers)
      ∙ numbered_held t h (reached s n p r).world.members (ap (λ (x : World). holder_of x.members t) (world_is s n p r) ∙ held) in
      true≢false (sym there ∙ empty t declared)

  -- the hand of a worker that performs no item is empty
  idle_empty : (h : ℕ) (q : IsSettled s n p r.courses h) → h < length p.courses → IsIdle p h → IsEmpty (sched_means s) q.now_at.own.hand
  idle_empty h q low (inl finished) =
      let at = something p.courses h low in
      rests_empty (sched_means s) (list_of s.scripts) (is_lawful s) (orders s) q.played.legal h q.now_at q.found (comes_to_end s n p r.courses h q at.0 at.1 (finished at.0 at.1)).0
  idle_empty h q low (inr lost) =
      let z = seeks_held p.world h (locking lost.event) lost.ready in
      let asked = asked_for (sched_means s) (list_of s.scripts) (is_lawful s) (orders s) q.played.legal h q.now_at q.found lost.event
      (has_item s n p r.courses h q lost.course lost.after (item.Event lost.event) lost.got lost.next).0 in
      ((is_lawful s).sound.seeks h (own_entries h q.played.history) q.now_at.own.hand lost.event z.0 asked (ap needs_of z.1)).1

-- where no worker performs an item, all are at their ends
pub idle_finished : (s : Setup) (n : ℕ) (p : Play) → IsPlayed s n p → ((worker : ℕ) → worker < length p.courses → IsIdle p worker) → (worker : ℕ) → IsFinished p worker
idle_finished s n p r idle worker course got =
    ⊎_elim (λ (finished : IsFinished p worker). finished course got) (λ (lost : IsLost p worker). absurd (is_lost lost)) (idle worker (there p.courses worker course got))
  where
    is_lost : IsLost p worker → ⊥
    is_lost lost =
        let sought = seeks_held p.world worker (locking lost.event) lost.ready in
        let holder = in_hand s n p r sought.0 sought.2 sought.3 in
        let q : IsSettled s n p r.courses sought.2 = settles s n p r sought.2 holder.0 holder.1 in
        let low : sought.2 < length p.courses = subst (λ k. sought.2 < k) (as_many s n p r) (there r.courses sought.2 holder.0 holder.1) in
        held_not_empty s n p q.played sought.0 sought.2 q.now_at sought.3 q.found (idle_empty s n p r sought.2 q low (idle sought.2 low))

-- a round performs an item, or all workers are at their ends
pub round_goes : (s : Setup) (n : ℕ) (p : Play) → IsPlayed s n p → GoesOrIs s n p (round p) ((worker : ℕ) → IsFinished p worker)
round_goes s n p r =
    let went = turns_go s n (length p.courses) p r in (
      went.0,
      ⊎_elim (λ (further : n + 1 ≤ went.0.items). inl further)
          (λ (still : AreIdle (length p.courses) p (turns (length p.courses) p)). inr (idle_finished s n p r still.1)) went.1,
    )

-- ---- rounds

-- as many rounds as there may be items bring all workers to their ends
pub rounds_finish : (s : Setup) (k n : ℕ) (p : Play) → IsPlayed s n p → greatest_rounds ≤ n + k → (worker : ℕ) → IsFinished (rounds k p) worker
rounds_finish s zero n p r enough =
    let went = round_goes s n p r in
    ⊎_elim (λ (further : n + 1 ≤ went.0.items). absurd (omega (arith, further, enough, items_few s went.0.items (round p) went.0.played)))
    (λ (ended : (worker : ℕ) → IsFinished p worker). subst (λ q. (worker : ℕ) → IsFinished q worker) (sym (rounds_none p)) ended) went.1
rounds_finish s (suc k) n p r enough =
    let went = round_goes s n p r in
    ⊎_elim
    (λ (further : n + 1 ≤ went.0.items).
    subst (λ q. (worker : ℕ) → IsFinished q worker) (sym (rounds_suc k p)) (rounds_finish s k went.0.items (round p) went.0.played (omega (arith, further, enough))))
    (λ (ended : (worker : ℕ) → IsFinished p worker).
    subst (λ q. (worker : ℕ) → IsFinished q worker) (sym (rounds_still p (round_finished p ended) (suc k))) ended)
    went.1

-- every play of rounds is a legal play of values
pub rounds_played : (s : Setup) (k : ℕ) → (n : ℕ) × IsPlayed s n (rounds k (opening s))
rounds_played s k =
    rounds_keep (λ p. (n : ℕ) × IsPlayed s n p) (λ p worker r. (let went = turn_goes s r.0 p worker r.1 in (went.0.items, went.0.played))) k (opening s) (0, played_opening s)

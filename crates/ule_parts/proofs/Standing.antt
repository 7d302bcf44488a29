-- What a worker's own part keeps where it stands: the law of programs.
use Rattle.std.proofs.Common.{◌≡◌, ◌⊎◌, ℕ, zero, suc, ◌+◌, ◌<◌, ◌≤◌, Bool, true, false, ◌==◌, ◌||◌, ◌++◌, nat_le, List, [], ◌∷◌, length, refl, sym, ap, ◌∙◌, subst, inl, inr, ⊎_elim, arith, true≢false, slice_get, slice_set, Option, Some, None, is_some}
use Rattle.std.specs.List.{AllByRecursion}
use Rattle.std.specs.Prelude.{if◌then◌else◌}
use Rattle.std.proofs.lemmas.Bool.{and_parts, false≢true, leb-true, eq-eqb, false_from_ne_true, or_cases}
use Rattle.std.proofs.lemmas.Option.{none-some, same_Some}
use Rattle.std.proofs.lemmas.List.{get_or-set_same}
use Rattle.ule_prio.specs.Class.{is_within}
use Rattle.ule_score.specs.declared.record.ThreadRecord.{ThreadRecord}
use Rattle.ule_types.specs.Commands.{forked_by, greatest_of, is_among}
use Rattle.ule_types.specs.Needs.{FitsHand, hatched_by, hatched_for}
use Rattle.ule_types.specs.Words.{change_of}
use Rattle.ule_types.specs.declared.command.Command.{Command}
use Rattle.ule_types.specs.declared.event.Event.{Event}
use Rattle.ule_types.specs.declared.event.Reply.{Reply}
use Rattle.ule_types.specs.declared.setup.Setup.{Setup}
use Rattle.ule_types.proofs.Repeats.{among_front, among_back}
use Rattle.ule_topo.specs.Tree.{Tree}
use Rattle.ule_program.specs.Groups.{topology_of}
use Rattle.ule_program.specs.Hearing.{CanHear, IsReplyTo, IsSeat}
use Rattle.ule_program.specs.Laws.{LeadsTo, hand_by_word}
use Rattle.ule_program.specs.Program.{after_giving, begun, heard, in_hand, item_at, most, next_of, once_given, own_of_setup, told_last}
use Rattle.ule_program.specs.declared.own.Own.{Own}
use Rattle.ule_program.specs.declared.stage.Stage.{Stage}
use Rattle.ule_program.specs.declared.stage.Stage.TheVariants.{Ended, Advances, Gives}
use Rattle.ule_program.proofs.GroupLaws.{topology_seat}
use Rattle.ule_program.proofs.Leading.{HasCome, IsEventAt, IsTold, at_itself, come_later, command_leads, event_at, reply_at}
use Rattle.ule_model.specs.Conditions.{IsHandled}
use Rattle.ule_model.specs.Events.{handling, locking, Handling, any, empty, unborn, has}
use Rattle.ule_model.specs.Frames.{thread_in_hand}
use Rattle.ule_model.specs.LockValue.{LockValue}
use Rattle.ule_model.specs.Places.{is_number}
use Rattle.ule_model.specs.Step.{step}
use Rattle.ule_model.specs.WellMade.{IsWellMadeWorld}
use Rattle.ule_model.specs.World.{World}
use Rattle.ule_model.specs.WorldValue.{WorldValue, held_by, if_thread}
use Rattle.ule_members.proofs.Reach.{takes_itself}
use Rattle.ule_members.proofs.Setups.{setup_scripts}
use Rattle.ule_courses.proofs.Hands.{FindsUnborn, hand_follows}
use Rattle.ule_courses.proofs.Replies.{step_replies}
use Rattle.ule_micro.specs.declared.entry.Entry.{Entry}
use Rattle.ule_micro.specs.declared.todo.Todo.TheVariants as todo
use Rattle.ule_micro.specs.Histories.{laid_under}
use Rattle.ule_micro.specs.Laws.{KeepsStanding}
use Rattle.ule_micro.specs.Standings.{Acted, Journal, Standing, asks, rests, blank, standing_with, with_given, with_made}
use Rattle.ule_micro.specs.Standings as standing
use Rattle.ule_parts.specs.Acts.{AreAt, act_on, todo_of}
use Rattle.ule_parts.specs.Workers.{AsksFor, HandFits, IsItem, IsValid, Stands, StandsAt, Worker, threads_forked, forks_of, threads_hatched, declared_ids_of, latest_in, left_at, own_at, owns_from}
use Rattle.ule_parts.specs.Scheduler.{MayAct, sched_means}
use Rattle.ule_parts.proofs.Locks.{FindsLocks, IsActed, acted_shows, hand_some, locks_of_possible}

-- an empty hand, where no thread is found in it
hand_none : (hand : Option ThreadRecord) → ((t : ℕ) → is_some (if_thread t hand) ≡ false) → hand ≡ None
hand_none None without = refl
hand_none (Some r) without = absurd (true≢false (sym (ap (λ b. is_some (if◌then◌else◌ b (Some r) None)) (eq-eqb r.id r.id refl)) ∙ without r.id))

-- a number among two lists is among the one or the other
pub among_cases : (xs ys : List ℕ) (t : ℕ) → is_among (xs ++ ys) t ≡ true → (is_among xs t ≡ true) ⊎ (is_among ys t ≡ true)
among_cases [] ys t among = inr among
among_cases (x ∷ xs) ys t among = ⊎_elim (λ (here : (x == t) ≡ true). inl (ap (λ b. b || is_among xs t) here))
    (λ (there : is_among (xs ++ ys) t ≡ true). ⊎_elim (λ (front : is_among xs t ≡ true). inl (or_true (x == t) (is_among xs t) front)) (λ (back : is_among ys t ≡ true). inr back)
    (among_cases xs ys t there))
    (or_cases (x == t) (is_among (xs ++ ys) t) among)
  where
    or_true : (b c : Bool) → c ≡ true → (b || c) ≡ true
    or_true true c is = refl
    or_true false c is = is

-- the own parts at the start
pub first_own : (s : Setup) (w n i : ℕ) (o : Worker) → slice_get (owns_from s w n) i ≡ Some o → (i < n) × (o ≡ record { program = own_of_setup s (w + i); hand = None })
first_own s w zero i o is = absurd (none-some o is)
first_own s w (suc n) zero o is = (omega arith, sym (same_Some _ o is) ∙ ap (λ u. record { program = own_of_setup s u; hand = None }) (let z : w ≡ w + 0 = omega arith in z))
first_own s w (suc n) (suc i) o is = let z = first_own s (suc w) n i o is in (
  let a = z.0 in omega arith,
  z.1 ∙ ap (λ u. record { program = own_of_setup s u; hand = None })
      (let a : suc w + i ≡ w + suc i = omega arith in a),
)

-- the latest of a worker's entries is no later than a time that they all are by, behind the start
latest_by : (now : ℕ) (mine : List (Entry Event Reply)) → 20000 ≤ now → AllByRecursion (λ y. y.now ≤ now) mine → latest_in mine ≤ now
latest_by now [] begun by = begun
latest_by now (x ∷ xs) begun by = by.0

module _ (s : Setup) where
  -- the worker's seat in the setup's topology
  seat : (w : ℕ) → w < s.cpus → IsSeat w (topology_of s.cpus s.groups)
  seat w below = topology_seat s.cpus w s.groups (setup_scripts s).cpus below

  -- what a worker of the setup has come to
  abbrev Come : ℕ → ℕ → Own → Type 0
  Come w now own = HasCome (is_among (declared_ids_of s)) w (topology_of s.cpus s.groups) now own

  -- an advance's amount
  amount : (k : ℕ) → is_within 1 1000000 k ≡ true → (1 ≤ k) × (k ≤ 1000000)
  amount k valid = let both = and_parts (nat_le 1 k) (nat_le k 1000000) valid in (leb-true 1 k both.0, leb-true k 1000000 both.1)

  -- the hand that an event needs, from the one that its stage says
  hand_fits : (w : ℕ) (mine : List (Entry Event Reply)) (hand : Option ThreadRecord) (held : Option ℕ) (k : Handling) → ((t : ℕ) → is_some (if_thread t hand) ≡ is_number t held) → FitsHand held k
      → ((t : ℕ) → k ≡ unborn t → (is_among (forks_of s w) t ≡ true) × (is_among (threads_hatched mine) t ≡ false)) → HandFits s w mine hand k
  hand_fits w mine hand held any agree fits still = tt
  hand_fits w mine hand held empty agree fits still = hand_none hand (λ t. agree t ∙ ap (is_number t) fits)
  hand_fits w mine hand held (unborn t) agree fits still = let z = still t refl in (hand_none hand (λ u. agree u ∙ ap (is_number u) fits), z.0, z.1)
  hand_fits w mine hand held (has t) agree fits still = agree t ∙ (ap (is_number t) fits ∙ eq-eqb t t refl)

  -- an unborn thread that an event needs it hatches
  needs_hatch : (e : Event) (t : ℕ) → handling e ≡ unborn t → is_among (hatched_by e) t ≡ true
  needs_hatch e t is = ap (λ k. is_among (hatched_for k) t) is ∙ takes_itself t

  -- a worker that stands at an event asks for it
  asks_for : (j : Journal Event Reply Command) (o : Worker) (e : Event) → Stands s j o (standing.has (todo.Event e)) → AsksFor s o.program.worker j.mine o.hand e
  asks_for j o e (at, is) =
      let here : IsEventAt (is_among (declared_ids_of s)) o.program.worker (topology_of s.cpus s.groups) o.program.stage e =
      event_at (is_among (declared_ids_of s)) o.program.worker (topology_of s.cpus s.groups) (latest_in j.mine) o.program o.program.stage e is at.come in record {
        below = at.below;
        names = here.names;
        fits = hand_fits o.program.worker j.mine o.hand (in_hand o.program.stage) (handling e) at.hand_is here.fits
            (λ t un. let z = at.forks t (ap (λ us. is_among us t) here.hatches ∙ needs_hatch e t un) in (z.0, z.2));
      }

  -- a command begins
  pub begins : (j : Journal Event Reply Command) (o : Worker) (c : Command) → Stands s j o rests → IsValid s o.program.worker j.given c
      → Stands s (with_given c j) (record { program = begun c o.program; hand = o.hand }) (asks None) × (most (begun c o.program) ≤ greatest_of c o.program.worker s.cpus)
  begins j o c (at, ended) valid =
      let led : LeadsTo (is_among (declared_ids_of s)) o.program.worker (topology_of s.cpus s.groups) (latest_in j.mine) (greatest_of c o.program.worker s.cpus) _ (forked_by c) None
      (begun c o.program) =
      command_leads (declared_ids_of s) o.program.worker (topology_of s.cpus s.groups) (latest_in j.mine) c o.program
      (seat o.program.worker at.below) valid.command at.come.same_worker at.come.same_topology in (
        (
          subst (λ w. StandsAt s (with_given c j) w o.hand (begun c o.program)) (sym led.same_worker) (record {
            below = at.below;
            hand_is = λ t. at.hand_is t ∙ (ap (λ st. is_number t (in_hand st)) ended ∙ ap (is_number t) (sym led.hand));
            come = at_itself (is_among (declared_ids_of s)) o.program.worker (topology_of s.cpus s.groups) (latest_in j.mine) _ _ _ _ (begun c o.program) led;
            forks = λ t among. let by_c : is_among (forked_by c) t ≡ true = ap (λ us. is_among us t) (sym led.hatches) ∙ among in let z = valid.forks t by_c in (
              z.0,
              among_front (forked_by c) (threads_forked j.given) t by_c,
              false_from_ne_true (is_among (threads_hatched j.mine) t) (λ h. true≢false (sym (at.given t h) ∙ z.1)),
            );
            given = λ t among. among_back (forked_by c) (threads_forked j.given) t (at.given t among);
          }),
          tt,
        ),
        led.few,
      )

  -- an item is asked for: the one at this stage
  given_item : (j : Journal Event Reply Command) (w : ℕ) (hand : Option ThreadRecord) (own : Own) (st : Stage) → StandsAt s j w hand (record own { stage = st })
      → StandsAt s j w hand (own_at (record own { stage = after_giving st }) (standing_with (todo_of (item_at st))))
      × IsItem (record own { stage = after_giving st }) (standing_with (todo_of (item_at st)))
      × (left_at (record own { stage = after_giving st }) (standing_with (todo_of (item_at st))) ≤ most (record own { stage = st }))
  given_item j w hand own Ended at = (at, refl, omega arith)
  given_item j w hand own (Gives e next) at = (at, refl, omega arith)
  given_item j w hand own (Advances k) at = (
    record {
      below = at.below;
      hand_is = at.hand_is;
      come = record { same_worker = at.come.same_worker; same_topology = at.come.same_topology; few = omega arith; time = refl; hatches = refl; hand = refl; sound = tt; named = tt; by_now = tt };
      forks = at.forks;
      given = at.given;
    },
    (refl, at.come.named),
    omega arith,
  )

  pub goes_on : (j : Journal Event Reply Command) (o : Worker) (told : Option (Reply × ℕ)) → Stands s j o (asks told)
      → CanHear told o.program × Stands s j (record { program = (next_of told o.program).1; hand = o.hand }) (standing_with (todo_of (next_of told o.program).0))
      × (left_at (next_of told o.program).1 (standing_with (todo_of (next_of told o.program).0)) ≤ left_at o.program (asks told))
  goes_on j o told (at, hears) =
      let own : Own = told_last told o.program in
      let z = given_item j o.program.worker o.hand own own.stage at in (
        hears,
        (subst (λ w. StandsAt s j w o.hand (own_at (once_given own) (standing_with (todo_of (item_at own.stage))))) (sym at.come.same_worker) z.0, z.1),
        z.2,
      )

  pub advances : (j : Journal Event Reply Command) (o : Worker) (k : ℕ) → Stands s j o (standing.has (todo.Advance k))
      → (1 ≤ k) × (k ≤ 1000000) × Stands s j o (asks None) × (left_at o.program (asks None) + 1 ≤ left_at o.program (standing.has (todo.Advance k)))
  advances j o k (at, is) =
      let z = amount k is.1 in let none : most o.program ≡ 0 = ap (λ st. most (record o.program { stage = st })) is.0 in (z.0, z.1, (at, tt), omega arith)

  -- an unborn thread that an event needs is found
  finds : (x : World) (w : ℕ) (k : Handling) → IsHandled x w k → FindsUnborn x.members k
  finds x w any is = tt
  finds x w empty is = tt
  finds x w (unborn t) is = is.1
  finds x w (has t) is = tt

  module _ (j : Journal Event Reply Command) (o : Worker) (x : Entry Event Reply) (guarded : List LockValue) (stands : Stands s j o (standing.has (todo.Event x.event)))
      (who : x.worker ≡ o.program.worker)
      (may : MayAct s x.worker x.event x.now o.hand guarded) (replied : x.reply ≡ (act_on s.settings x.worker x.event x.now o.hand guarded).reply)
      (before : AllByRecursion (λ y. y.now ≤ x.now) j.mine) where
    abbrev ids : ℕ → Bool
    ids = is_among (declared_ids_of s)

    abbrev tree : Tree
    tree = topology_of s.cpus s.groups

    abbrev st : Stage
    st = o.program.stage

    abbrev made : Acted (Option ThreadRecord) LockValue Reply
    made = act_on s.settings x.worker x.event x.now o.hand guarded

    abbrev after : World
    after = (step may.world x.worker x.event x.now).0

    abbrev reached : Own
    reached = heard o.program.stage x.reply x.now o.program

    made_well : IsWellMadeWorld may.world
    made_well = may.is_world.made

    -- the locks of the event, and what the act is
    locks : FindsLocks s may.value may.world (locking x.event)
    locks = locks_of_possible s may.value may.world x.worker x.event x.now may.shows may.possible

    acted : IsActed may.value may.world x.worker x.event x.now locks.held made
    acted = acted_shows s may.value may.world x.worker x.event x.now locks.held guarded o.hand may.shows may.possible locks.has.numbers
        (subst (λ ls. AreAt may.value.values ls guarded) locks.has.numbers may.guarded_are) may.hand_is (may.shows.settings ∙ may.is_world.settings)

    reply_is : x.reply ≡ (step may.world x.worker x.event x.now).1
    reply_is = replied ∙ acted.reply

    -- where the worker has come to by the event's time
    come : HasCome ids o.program.worker tree x.now o.program
    come = come_later ids o.program.worker tree (latest_in j.mine) x.now o.program (latest_by x.now j.mine may.possible.begun before) stands.0.come

    here : IsEventAt ids o.program.worker tree st x.event
    here = event_at ids o.program.worker tree x.now o.program st x.event stands.1 come

    says : IsReplyTo ids s.cpus x.now x.event x.reply
    says = subst (IsReplyTo ids s.cpus x.now x.event) (sym reply_is)
        (step_replies (declared_ids_of s) s.cpus may.world x.worker x.now
        (record { bound = may.is_world.bound; last = may.is_world.last; parents = may.is_world.parents; bounds = may.is_world.bounds; made = made_well.members }) x.event may.possible.declared
        (finds may.world x.worker (handling x.event) may.possible.hand) may.possible.in_time)

    told : IsTold ids o.program.worker tree x.now x.event x.reply st o.program reached
    told = reply_at ids o.program.worker tree (seat o.program.worker stands.0.below) x.now o.program st x.event x.reply stands.1 come says

    hand_was : (t : ℕ) → is_some (thread_in_hand x.worker t may.world.members) ≡ is_number t (in_hand st)
    hand_was t = sym (hand_some may.value may.world x.worker (held_by may.value x.worker) may.shows (may.shows.hands x.worker) t)
        ∙ (ap (λ (h : Option ThreadRecord). is_some (if_thread t h)) may.hand_is ∙ stands.0.hand_is t)

    hand_after : (t : ℕ) → is_some (if_thread t made.hand) ≡ is_number t (in_hand reached.stage)
    hand_after t =
        let v' : WorldValue = record { settings = may.value.settings; values = laid_under locks.held may.value.values made.values; hands = slice_set may.value.hands x.worker made.hand } in
        let low : x.worker < length may.value.hands = subst (λ n. x.worker < n) (sym may.shows.workers) may.possible.worker_is in
        ap (λ (k : Option ThreadRecord). is_some (if_thread t k)) (sym (get_or-set_same may.value.hands x.worker made.hand None low))
        ∙ (hand_some v' after x.worker (held_by v' x.worker) acted.shows (acted.shows.hands x.worker) t
        ∙ (hand_follows may.world x.worker x.event x.now (in_hand st) made_well may.possible here.fits hand_was t
        ∙ (ap (λ r. is_number t (hand_by_word (handling x.event) (change_of x.event r) (in_hand st))) (sym reply_is) ∙ ap (is_number t) (sym told.hand))))

    -- the threads hatched so far are forked
    given_after : (t : ℕ) → is_among (threads_hatched (x ∷ j.mine)) t ≡ true → is_among (threads_forked j.given) t ≡ true
    given_after t among = ⊎_elim
        (λ (now : is_among (hatched_by x.event) t ≡ true). (stands.0.forks t (ap (λ us. is_among us t) here.hatches ∙ now)).1)
        (λ (earlier : is_among (threads_hatched j.mine) t ≡ true). stands.0.given t earlier)
        (among_cases (hatched_by x.event) (threads_hatched j.mine) t among)

    -- an event that may be performed leaves what is kept after its reply
    pub performs : Stands s (with_made x j) (record { program = o.program; hand = made.hand }) (asks (Some (x.reply, x.now)))
        × (left_at o.program (asks (Some (x.reply, x.now))) + 1 ≤ left_at o.program (standing.has (todo.Event x.event)))
    performs = (
      (
        record {
          below = stands.0.below;
          hand_is = hand_after;
          come = told.come;
          forks = λ t among. absurd (false≢true (ap (λ us. is_among us t) (sym told.hatches) ∙ among));
          given = given_after;
        },
        told.hears,
      ),
      told.fewer,
    )

  -- at the start a worker stands between two commands
  opens : (w : ℕ) (o : Worker) → slice_get (owns_from s 0 s.cpus) w ≡ Some o → Stands s blank o rests × (left_at o.program rests ≡ 0)
  opens w o is = let z = first_own s 0 s.cpus w o is in
      let at : o ≡ record { program = own_of_setup s w; hand = None } = z.1 ∙ ap (λ u. record { program = own_of_setup s u; hand = None }) (let a : 0 + w ≡ w = omega arith in a) in (
        subst (λ p. Stands s blank p rests) (sym at) (
          record {
            below = z.0;
            hand_is = λ t. refl;
            come = record { same_worker = refl; same_topology = refl; few = omega arith; time = refl; hatches = refl; hand = refl; sound = tt; named = tt; by_now = tt };
            forks = λ t among. absurd (false≢true among);
            given = λ t among. absurd (false≢true among);
          },
          refl,
        ),
        refl,
      )

  -- the law of programs
  pub keeps_standing : KeepsStanding (sched_means s)
  keeps_standing = record {
    opens = opens;
    begins = λ j o c stands valid. let z = begins j o c stands valid in (tt, z.0, z.1);
    goes_on = goes_on;
    advances = advances;
    asks_for = asks_for;
    performs = λ j o x guarded stands who may many locks reply before. performs j o x guarded stands who may reply before;
    ends = λ j o stands t dec. stands.0.hand_is t ∙ ap (λ st. is_number t (in_hand st)) stands.1;
  }

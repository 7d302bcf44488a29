-- The laws of programs: where a command begins and where each reply leads, an item names what there is, has the hand that it
-- needs, and further items are few.
use Rattle.std.proofs.Common.{◌≡◌, ℕ, ◌+◌, ◌-◌, ◌*◌, ◌<◌, ◌≤◌, ◌==◌, ◌&&◌, Bool, true, false, not, nat_lt, List, [], ◌∷◌, length, Option, Some, None, IfSome, IsTrue, if◌then◌else◌, refl, sym, ◌∙◌, ap, subst, lt-ltb, arith, eq-eqb}
use Rattle.std.specs.List.{AllByRecursion}
use Rattle.std.specs.Option.{option_map}
use Rattle.std.proofs.lemmas.Bool.{and_parts, cond_both, eqb-false, false≢true, ltb-false, ltb-true, ne_eqb}
use Rattle.std.proofs.lemmas.List.{length_push}
use Rattle.ule_prio.specs.Class.{is_within}
use Rattle.ule_types.specs.Commands.{greatest_of, greatest_of_tick, is_among, is_nice}
use Rattle.ule_types.specs.Needs.{FitsHand, Handling, any, empty, handling, has, hatched_by, sought_by, unborn}
use Rattle.ule_types.specs.Words.{blocks, change_of, moved_by, point, taken_by}
use Rattle.ule_types.proofs.Numbers.{nice_is, within_byte}
use Rattle.ule_types.specs.declared.command.Command.TheVariants as command
use Rattle.ule_types.specs.declared.event.Event.{Event}
use Rattle.ule_types.specs.declared.event.Event.TheVariants.{Tick, Switch, Drop, Bed, Wake, Look, Land, Move, Lend, Unlend, Renice, Hatch, Fork, Return, Exit, Bury, Inherit}
use Rattle.ule_types.specs.declared.event.MoveWhy.TheVariants.{Steal, Balance}
use Rattle.ule_types.specs.declared.event.Reply.{Reply}
use Rattle.ule_types.specs.declared.event.Reply.TheVariants.{Ticked, Nothing, Dropped, NotAsleep, Woken, Hatched, Forked, Exited}
use Rattle.ule_score.specs.declared.record.Why.TheVariants.{Yield as ByYield, Resched as ByResched}
use Rattle.ule_topo.specs.Looks.{look_at}
use Rattle.ule_topo.specs.Mask.{all_cpus, has_cpu, without_cpu}
use Rattle.ule_topo.specs.Tree.{deepest, outward}
use Rattle.ule_topo.proofs.MaskLaws.{all_cpus_have}
use Rattle.ule_search.specs.Search.{highest}
use Rattle.ule_pick.specs.Choice.{pick}
use Rattle.ule_pick.specs.declared.choice.Card.{Card}
use Rattle.ule_balance.specs.Plan.{IsPairOf, opening_plan, plan_next, plan_told}
use Rattle.ule_balance.specs.declared.plan.Masks.{Masks}
use Rattle.ule_program.specs.Hearing.{Allows, ChargesSoundly, IsGroupOf, IsPlanOf, IsPurposeBy, IsSeat, IsSoundCard, IsSoundNext, IsSoundPurpose, is_of_drop, is_of_exit, is_of_hatch, is_of_wake}
use Rattle.ule_program.specs.Laws.{CommandsLead, LeadsTo, RepliesLead, IsSoundGiving, IsNextBy, NamesWhatIs, dropped_in, exited_in, hand_by_word, hatched_in, woken_in}
use Rattle.ule_program.specs.Program.{Own, Next, Ends, Balances, Beds, Lands, Forks, LandsChild, Buries, Charges, Sees, Steals, Moves, Purpose, ToLand, ToSteal, ToBalance, balancing, gives, hand_for, hand_in, has_moved, is_stolen, landing, lands_on, lands_unless, looked, looks_for, most_after, most_for, moves, moves_pair, saw, searched, steals, steals_from, stops, summary_in, uses_looks}
use Rattle.ule_program.specs.Sets.{cpus_in}
use Rattle.ule_program.proofs.FoundLaws.{IsCpuOf, IsSoundPlanned, cpus_most, cpus_without, highest_of, opening_sound, pick_there, plan_next_sound, plan_told_sound, without_own, without_rest}
use Rattle.ule_program.proofs.GroupLaws.{deepest_group, outward_groups}

-- ---- the hand at an item

-- an item has the hand that it needs
pub item_fits : (next : Next) (needs : Handling) → FitsHand (hand_for next needs) needs
item_fits next any = tt
item_fits next empty = refl
item_fits next (unborn t) = refl
item_fits next (has t) = refl

-- whoever it is
each : (o : Option ℕ) → IfSome o (λ t. ◌≡◌ {A = Option ℕ} None None)
each None = tt
each (Some t) = refl

-- an item that a thread in hand waits for seeks no other
pub item_seeks : (e : Event) (next : Next) → IfSome (hand_for next (handling e)) (λ t. sought_by e ≡ None)
item_seeks (Tick c) next = each (hand_in next)
item_seeks (Switch c why) next = each (hand_in next)
item_seeks (Look c) next = each (hand_in next)
item_seeks (Bed t channel) next = refl
item_seeks (Land t c) next = refl
item_seeks (Fork c t) next = refl
item_seeks (Return t) next = refl
item_seeks (Bury t) next = refl
item_seeks _ next = tt

-- ---- the hand after a reply

-- a hand that was empty is empty after a move
moved_hand : (b : ℕ) (moved : Option ℕ) → hand_by_word empty (option_map (λ t. point t b) moved) None ≡ None
moved_hand b None = refl
moved_hand b (Some t) = refl

-- what a taken thread leaves in the hand
blocks_left : (taken : Option ℕ) → hand_by_word empty (blocks taken) None ≡ taken
blocks_left None = refl
blocks_left (Some t) = refl

hatch_left : (t : ℕ) (taken : Option ℕ) → hand_by_word (unborn t) (blocks taken) None ≡ taken
hatch_left t None = refl
hatch_left t (Some u) = refl

-- what went to the hand, by a reply that the event has
drop_takes : (r : Reply) → is_of_drop r ≡ true → taken_by 0 r ≡ dropped_in r
drop_takes Nothing is = refl
drop_takes (Dropped out into) is = refl
drop_takes _ is = absurd (false≢true is)

wake_takes : (t : ℕ) (r : Reply) → is_of_wake r ≡ true → taken_by t r ≡ woken_in t r
wake_takes t (NotAsleep place) is = refl
wake_takes t (Woken p bound last last_run) is = refl
wake_takes t _ is = absurd (false≢true is)

hatch_takes : (t : ℕ) (r : Reply) → is_of_hatch r ≡ true → taken_by t r ≡ hatched_in t r
hatch_takes t Hatched is = refl
hatch_takes t _ is = absurd (false≢true is)

exit_takes : (r : Reply) → is_of_exit r ≡ true → taken_by 0 r ≡ exited_in r
exit_takes Nothing is = refl
exit_takes (Exited out into parent run) is = refl
exit_takes _ is = absurd (false≢true is)

-- ---- where a worker comes to

-- two different CPUs that there are
move_names : (n a b : ℕ) → IsPairOf n (a, b) → IsTrue (nat_lt a n && (nat_lt b n && not (a == b)))
move_names n a b pair =
    subst (λ x. IsTrue (x && (nat_lt b n && not (a == b)))) (sym (lt-ltb a n pair.0))
    (subst (λ x. IsTrue (x && not (a == b))) (sym (lt-ltb b n pair.1)) (ap not (ne_eqb a b pair.2)))

-- a balance is due only for worker 0, which then has room for it
due_most : (worker cpus : ℕ) → worker ≡ 0 → 1 < cpus → (if (worker == 0) && nat_lt 1 cpus then 2 * cpus else 0) ≡ 2 * cpus
due_most worker cpus first several =
    ap (λ (b : Bool). if b && nat_lt 1 cpus then 2 * cpus else 0) (eq-eqb worker 0 first) ∙ ap (λ (b : Bool). if b then 2 * cpus else 0) (lt-ltb 1 cpus several)

module _ (declared : ℕ → Bool) (now : ℕ) where
  -- the end
  to_end : (own : Own) (n : ℕ) → LeadsTo declared own.worker own.topology now n 0 [] None (stops own)
  to_end own n = record { same_worker = refl; same_topology = refl; few = omega arith; time = refl; hatches = refl; hand = refl; sound = tt; named = tt; by_now = tt }

  -- an event
  to_event : (own : Own) (e : Event) (next : Next) (n : ℕ) → IsSoundNext (gives e next own) next → IsSoundGiving declared own.worker own.topology.cpus e next →
      IsNextBy now next → 1 + most_after next (gives e next own) ≤ n →
      LeadsTo declared own.worker own.topology now n 0 (hatched_by e) (hand_for next (handling e)) (gives e next own)
  to_event own e next n sound named by few =
      record { same_worker = refl; same_topology = refl; few = few; time = refl; hatches = refl; hand = refl; sound = sound; named = named; by_now = by }

  -- the last event of a command
  to_last : (own : Own) (e : Event) (n : ℕ) → NamesWhatIs declared own.topology.cpus e →
      ((r : Reply) → hand_by_word (handling e) (change_of e r) (hand_for Ends (handling e)) ≡ None) → 1 ≤ n →
      LeadsTo declared own.worker own.topology now n 0 (hatched_by e) (hand_for Ends (handling e)) (gives e Ends own)
  to_last own e n names leaves some =
      to_event own e Ends n tt (record { names = names; charges = tt; hand = λ r time is. leaves r; allows = λ r time is by. tt }) tt (omega (arith, some))

  -- an event on the worker's own CPU
  own_names : (own : Own) → IsSeat own.worker own.topology → IsTrue (nat_lt own.worker own.topology.cpus)
  own_names own seat = lt-ltb own.worker own.topology.cpus seat.within

  -- a landing on a CPU
  to_lands : (own : Own) (u c n : ℕ) → c < own.topology.cpus → 1 ≤ n → LeadsTo declared own.worker own.topology now n 0 [] (Some u) (lands_on u c own)
  to_lands own u c n there some = to_last own (Land u c) n (lt-ltb c own.topology.cpus there, tt, tt) (λ r. refl) some

  -- a look, and what it is for
  to_look : (own : Own) (purpose : Purpose) (c n : ℕ) → c < own.topology.cpus → length own.looks < own.topology.cpus → IsSoundPurpose own.topology.cpus purpose →
      IsPurposeBy now purpose → own.topology.cpus - length own.looks + most_for purpose own.topology.cpus ≤ n →
      LeadsTo declared own.worker own.topology now n 0 [] (hand_in (Sees purpose)) (gives (Look c) (Sees purpose) own)
  to_look own purpose c n there more sound by few =
      to_event own (Look c) (Sees purpose) n (record { more = more; purpose_is = sound })
      (record { names = (lt-ltb c own.topology.cpus there, tt, tt); charges = tt; hand = λ r time is. refl; allows = λ r time is late. (is, late) }) by
      (omega (arith, few, more))

  -- the first look
  to_looks : (own : Own) → IsSeat own.worker own.topology → (purpose : Purpose) (n : ℕ) → IsSoundPurpose own.topology.cpus purpose → IsPurposeBy now purpose →
      own.topology.cpus + most_for purpose own.topology.cpus ≤ n →
      LeadsTo declared own.worker own.topology now n 0 [] (hand_in (Sees purpose)) (looks_for purpose own)
  to_looks own seat purpose n sound by few =
      let some : 0 < own.topology.cpus = omega (arith, seat.within) in to_look (record own { looks = [] }) purpose 0 n some some sound by (omega (arith, few))

  -- a landing, with looks where they are needed
  to_landing : (own : Own) → IsSeat own.worker own.topology → (u : ℕ) (card : Card) (n : ℕ) → IsSoundCard own.topology.cpus card → card.last_run ≤ now →
      own.topology.cpus + 1 ≤ n → LeadsTo declared own.worker own.topology now n 0 [] (Some u) (landing u card own)
  to_landing own seat u card n sound by few = at_bound card.bound sound.bound
    where
      at_bound : (o : Option ℕ) → IfSome o (λ c. c < own.topology.cpus) → LeadsTo declared own.worker own.topology now n 0 [] (Some u) (lands_unless u card o own)
      at_bound (Some c) there = to_lands own u c n there (omega (arith, few))
      at_bound None there =
          cond_both (own.topology.cpus == 1) (lands_on u 0 own) (looks_for (ToLand u card) own) (LeadsTo declared own.worker own.topology now n 0 [] (Some u))
          (λ one. to_lands own u 0 n (omega (arith, seat.within)) (omega (arith, few))) (λ more. to_looks own seat (ToLand u card) n sound by few)

  -- a steal from a CPU of a mask, if one is found
  to_steals : (mask : ℕ) (gs : List ℕ) (own : Own) → IsSeat own.worker own.topology → (n : ℕ) → length own.looks ≡ own.topology.cpus →
      AllByRecursion (IsGroupOf own.worker own.topology) gs → has_cpu mask own.worker ≡ false → 1 + cpus_in own.topology.cpus mask ≤ n →
      LeadsTo declared own.worker own.topology now n 0 [] None (steals mask gs own)
  unfolding steals
  to_steals mask [] own seat n all groups out few = to_end own n
  to_steals mask (g ∷ gs) own seat n all groups out few =
      at_cpu (highest own.topology g own.looks mask own.steal own.jitter) (highest_of own.topology g own.looks mask own.steal own.jitter)
      (to_steals mask gs (searched own) seat n all groups.1 out few)
    where
      at_cpu : (o : Option ℕ) → IfSome o (IsCpuOf (length own.looks) mask) → LeadsTo declared own.worker own.topology now n 0 [] None (steals mask gs (searched own)) →
          LeadsTo declared own.worker own.topology now n 0 [] None (steals_from mask g o (steals mask gs) (searched own))
      at_cpu None of further = further
      at_cpu (Some v) of further =
          let there : v < own.topology.cpus = omega (arith, of.0, all) in
          to_event (searched own) (Move v own.worker Steal) (Steals v g mask) n
          (record { all = all; found = there; member = of.1; other = out; group = groups.0 })
          (record {
            names = (move_names own.topology.cpus v own.worker (there, seat.within, λ same. false≢true (sym out ∙ ap (has_cpu mask) (sym same) ∙ of.1)), tt, tt);
            charges = tt;
            hand = λ r time is. moved_hand own.worker (moved_by r);
            allows = λ r time is by. tt;
          })
          tt few

  -- a move by a plan, if it has a pair
  to_moves : (own : Own) → IsSeat own.worker own.topology → (left : ℕ) (plan : Masks) (n : ℕ) → length own.looks ≡ own.topology.cpus →
      IsPlanOf own.topology.cpus plan → 1 + left ≤ n →
      LeadsTo declared own.worker own.topology now n 0 [] None (moves left plan own)
  to_moves own seat left plan n all sound few =
      at_pair (plan_next own.topology own.looks plan own.jitter).pair
      (subst (λ m. IsSoundPlanned m (plan_next own.topology own.looks plan own.jitter)) all
      (plan_next_sound own.topology own.looks (omega (arith, all, seat.few)) plan own.jitter (subst (λ m. IsPlanOf m plan) (sym all) sound)))
    where
      after_plan : Own
      after_plan = record own { jitter = (plan_next own.topology own.looks plan own.jitter).word }

      new_plan : Masks
      new_plan = (plan_next own.topology own.looks plan own.jitter).plan

      at_pair : (o : Option (ℕ × ℕ)) → IfSome o (IsPairOf own.topology.cpus) × IsPlanOf own.topology.cpus new_plan →
          LeadsTo declared own.worker own.topology now n 0 [] None (moves_pair left new_plan o after_plan)
      at_pair None is = to_end after_plan n
      at_pair (Some pair) is =
          to_event after_plan (Move pair.0 pair.1 Balance) (Moves new_plan pair.1 left) n (record { all = all; there = is.0.1; sound = is.1 })
          (record { names = (move_names own.topology.cpus pair.0 pair.1 is.0, tt, tt); charges = tt; hand = λ r time told. moved_hand pair.1 (moved_by r); allows = λ r time told by. tt })
          tt few

  -- a balance, if there are several CPUs
  to_balancing : (own : Own) → IsSeat own.worker own.topology → (n : ℕ) → (1 < own.topology.cpus → 2 * own.topology.cpus ≤ n) →
      LeadsTo declared own.worker own.topology now n 0 [] None (balancing own)
  to_balancing own seat n few =
      cond_both (own.topology.cpus == 1) (stops own) (looks_for ToBalance own) (LeadsTo declared own.worker own.topology now n 0 [] None)
      (λ one. to_end own n)
      (λ more. let several : 1 < own.topology.cpus = omega (arith, seat.within, eqb-false own.topology.cpus 1 more) in
      to_looks own seat ToBalance n tt tt (omega (arith, few several)))

  -- the use of the looks at all CPUs
  to_used : (own : Own) → IsSeat own.worker own.topology → (purpose : Purpose) (n : ℕ) → length own.looks ≡ own.topology.cpus → IsSoundPurpose own.topology.cpus purpose →
      most_for purpose own.topology.cpus ≤ n → LeadsTo declared own.worker own.topology now n 0 [] (hand_in (Sees purpose)) (uses_looks purpose now own)
  to_used own seat (ToLand u card) n all sound few =
      let picked = pick own.topology card own.looks own.worker now own.jitter in
      to_lands (record own { jitter = picked.word }) u picked.cpu n
      (subst (λ m. picked.cpu < m) all
      (pick_there own.topology card own.looks own.worker now (omega (arith, all, seat.within)) (subst (λ m. IsSoundCard m card) (sym all) sound) own.jitter)) few
  to_used own seat ToSteal n all sound few =
      let others = without_cpu own.worker (all_cpus own.topology.cpus) in
      let fewer : cpus_in own.topology.cpus others + 1 ≤ own.topology.cpus =
      omega (
        arith,
        cpus_without own.topology.cpus own.worker (all_cpus own.topology.cpus) seat.few seat.within (all_cpus_have own.topology.cpus own.worker seat.within),
        cpus_most own.topology.cpus (all_cpus own.topology.cpus),
      ) in
      cond_both ((look_at own.looks own.worker).load == 0) (steals others (outward own.topology own.worker (deepest own.topology own.worker)) own) (stops own)
      (LeadsTo declared own.worker own.topology now n 0 [] None)
      (λ is. to_steals others (outward own.topology own.worker (deepest own.topology own.worker)) own seat n all
      (outward_groups own.topology seat.tree own.worker (deepest own.topology own.worker) (deepest_group own.topology own.worker seat))
      (without_own own.worker (all_cpus own.topology.cpus) (omega (arith, seat.within, seat.few))) (omega (arith, fewer, few)))
      (λ is. to_end own n)
  to_used own seat ToBalance n all sound few =
      to_moves own seat (own.topology.cpus - 1) (opening_plan own.topology.cpus) n all (opening_sound own.topology.cpus own.topology.cpus) (omega (arith, few, seat.within))

  -- the next look, or the use of all
  to_looked : (own : Own) → IsSeat own.worker own.topology → (purpose : Purpose) (n : ℕ) → length own.looks ≤ own.topology.cpus → IsSoundPurpose own.topology.cpus purpose →
      IsPurposeBy now purpose → own.topology.cpus - length own.looks + most_for purpose own.topology.cpus ≤ n →
      LeadsTo declared own.worker own.topology now n 0 [] (hand_in (Sees purpose)) (looked purpose now own)
  to_looked own seat purpose n within sound by few =
      cond_both (nat_lt (length own.looks) own.topology.cpus) (gives (Look (length own.looks)) (Sees purpose) own) (uses_looks purpose now own)
      (LeadsTo declared own.worker own.topology now n 0 [] (hand_in (Sees purpose)))
      (λ is. let more : length own.looks < own.topology.cpus = ltb-true (length own.looks) own.topology.cpus is in
      to_look own purpose (length own.looks) n more more sound by few)
      (λ is. to_used own seat purpose n (omega (arith, within, ltb-false (length own.looks) own.topology.cpus is)) sound (omega (arith, few)))

-- ---- the commands

-- a tick and the balance that may follow it
tick_most : (worker cpus : ℕ) → 1 + (if (worker == 0) && nat_lt 1 cpus then 2 * cpus else 0) ≤ greatest_of_tick worker cpus
tick_most worker cpus = at_test ((worker == 0) && nat_lt 1 cpus)
  where
    at_test : (b : Bool) → 1 + (if b then 2 * cpus else 0) ≤ (if b then 1 + 2 * cpus else 1)
    at_test true = omega arith
    at_test false = omega arith

-- where a valid command begins
pub to_begun : CommandsLead
to_begun ids own now command.Tick seat valid =
    to_event (is_among ids) now own (Tick own.worker) Balances (greatest_of command.Tick own.worker own.topology.cpus) tt
    (record { names = (lt-ltb own.worker own.topology.cpus seat.within, tt, tt); charges = tt; hand = λ r time is. refl; allows = λ r time is by. is }) tt
    (tick_most own.worker own.topology.cpus)
to_begun ids own now (command.Time k) seat valid =
    record { same_worker = refl; same_topology = refl; few = omega arith; time = refl; hatches = refl; hand = refl; sound = tt; named = valid; by_now = tt }
to_begun ids own now command.Yield seat valid =
    to_last (is_among ids) now own (Switch own.worker ByYield) 1 (lt-ltb own.worker own.topology.cpus seat.within, tt, tt) (λ r. refl) (omega arith)
to_begun ids own now command.Resched seat valid =
    to_last (is_among ids) now own (Switch own.worker ByResched) 1 (lt-ltb own.worker own.topology.cpus seat.within, tt, tt) (λ r. refl) (omega arith)
to_begun ids own now (command.Sleep channel) seat valid =
    to_event (is_among ids) now own (Drop own.worker channel) (Beds channel) 2 tt
    (record {
      names = (lt-ltb own.worker own.topology.cpus seat.within, tt, tt);
      charges = tt;
      hand = λ r time is. blocks_left (taken_by 0 r) ∙ drop_takes r is;
      allows = λ r time is by. tt;
    })
    tt (omega arith)
to_begun ids own now (command.Wake u) seat valid =
    to_event (is_among ids) now own (Wake u) (Lands u) (own.topology.cpus + 2) tt
    (record { names = (refl, valid, tt); charges = tt; hand = λ r time is. blocks_left (taken_by u r) ∙ wake_takes u r is.0; allows = λ r time is by. is.1 }) tt (omega arith)
to_begun ids own now (command.Lend u p) seat valid =
    let both = and_parts (is_among ids u) (is_within 0 255 p) valid in
    to_last (is_among ids) now own (Lend u p) 1 (refl, both.0, within_byte 0 255 p (omega arith) both.1) (λ r. refl) (omega arith)
to_begun ids own now (command.Unlend u) seat valid = to_last (is_among ids) now own (Unlend u) 1 (refl, valid, tt) (λ r. refl) (omega arith)
to_begun ids own now (command.Renice u v) seat valid =
    let both = and_parts (is_among ids u) (is_nice v) valid in
    to_last (is_among ids) now own (Renice u v) 1 (refl, both.0, nice_is v both.1) (λ r. refl) (omega arith)
to_begun ids own now (command.Fork u) seat valid =
    to_event (is_among ids) now own (Hatch u) (Forks u) (own.topology.cpus + 3) tt
    (record { names = (refl, tt, tt); charges = tt; hand = λ r time is. hatch_left u (taken_by u r) ∙ hatch_takes u r is; allows = λ r time is by. tt }) tt (omega arith)
to_begun ids own now command.Exit seat valid =
    to_event (is_among ids) now own (Exit own.worker) Buries 3 tt
    (record {
      names = (lt-ltb own.worker own.topology.cpus seat.within, tt, tt);
      charges = tt;
      hand = λ r time is. blocks_left (taken_by 0 r) ∙ exit_takes r is.0;
      allows = λ r time is by. is.1;
    })
    tt (omega arith)
to_begun ids own now command.Idle seat valid = to_looks (is_among ids) now own seat ToSteal (2 * own.topology.cpus) tt tt (omega arith)
to_begun ids own now command.Balance seat valid = to_balancing (is_among ids) now own seat (2 * own.topology.cpus) (λ several. omega arith)
to_begun ids own now (command.Look c) seat valid = to_last (is_among ids) now own (Look c) 1 (valid, tt, tt) (λ r. refl) (omega arith)

-- ---- the replies

-- where a reply leads: to fewer items, with this in hand
pub to_after : RepliesLead
to_after declared own Ends r now seat sound named allowed = to_end declared now own 0
to_after declared own Balances (Ticked cur true end) now seat sound named allowed =
    to_balancing declared now own seat (most_after Balances own) (λ several. omega (arith, due_most own.worker own.topology.cpus allowed several))
to_after declared own Balances _ now seat sound named allowed = to_end declared now own (most_after Balances own)
to_after declared own (Beds channel) (Dropped out into) now seat sound named allowed =
    to_last declared now own (Bed out channel) 1 (refl, tt, tt) (λ r. refl) (omega arith)
to_after declared own (Beds channel) _ now seat sound named allowed = to_end declared now own 1
to_after declared own (Lands u) (Woken p bound last last_run) now seat sound named allowed =
    to_landing declared now own seat u (record { priority = p; bound = bound; last = last; last_run = last_run }) (own.topology.cpus + 1)
    (record { bound = allowed.0; last = allowed.1 }) allowed.2 (omega arith)
to_after declared own (Lands u) _ now seat sound named allowed = to_end declared now own (own.topology.cpus + 1)
to_after declared own (Forks u) Hatched now seat sound named allowed =
    to_event declared now own (Fork own.worker u) (LandsChild u) (own.topology.cpus + 2) tt
    (record { names = (lt-ltb own.worker own.topology.cpus seat.within, tt, tt); charges = tt; hand = λ r time is. refl; allows = λ r time is by. tt }) tt (omega arith)
to_after declared own (Forks u) _ now seat sound named allowed = to_end declared now own (own.topology.cpus + 2)
to_after declared own (LandsChild u) (Forked parent p) now seat sound named allowed =
    to_landing declared now own seat u (record { priority = p; bound = None; last = own.worker; last_run = now }) (own.topology.cpus + 1)
    (record { bound = tt; last = seat.within }) (omega arith) (omega arith)
to_after declared own (LandsChild u) _ now seat sound named allowed =
    to_last declared now own (Return u) (own.topology.cpus + 1) (refl, tt, tt) (λ r. refl) (omega arith)
to_after declared own Buries (Exited out into parent run) now seat sound named allowed =
    to_event declared now own (Bury out) (Charges parent run) 2 tt
    (record { names = (refl, tt, tt); charges = allowed; hand = λ r time is. refl; allows = λ r time is by. tt }) tt (omega arith)
to_after declared own Buries _ now seat sound named allowed = to_end declared now own 2
to_after declared own (Charges (Some parent) run) r now seat sound named allowed =
    to_last declared now own (Inherit parent run) 1 (refl, named.0, named.1) (λ r. refl) (omega arith)
to_after declared own (Charges None run) r now seat sound named allowed = to_end declared now own 1
to_after declared own (Sees purpose) r now seat sound named allowed =
    to_looked declared now (saw (summary_in r) own) seat purpose (most_after (Sees purpose) own)
    (omega (arith, length_push own.looks (summary_in r), sound.more)) sound.purpose_is allowed.1
    (omega (arith, length_push own.looks (summary_in r)))
to_after declared own (Steals v g mask) r now seat sound named allowed =
    cond_both (is_stolen r) (gives (Switch own.worker ByYield) Ends own) (steals (without_cpu v mask) (outward own.topology own.worker g) own)
    (LeadsTo declared own.worker own.topology now (most_after (Steals v g mask) own) 0 [] None)
    (λ is. to_last declared now own (Switch own.worker ByYield) (most_after (Steals v g mask) own) (lt-ltb own.worker own.topology.cpus seat.within, tt, tt) (λ r. refl) (omega (arith, fewer)))
    (λ is. to_steals declared now (without_cpu v mask) (outward own.topology own.worker g) own seat (most_after (Steals v g mask) own) sound.all
    (outward_groups own.topology seat.tree own.worker g sound.group) (without_rest v mask own.worker (omega (arith, sound.found, seat.few)) sound.other) (omega (arith, fewer)))
  where
    fewer : cpus_in own.topology.cpus (without_cpu v mask) + 1 ≡ cpus_in own.topology.cpus mask
    fewer = cpus_without own.topology.cpus v mask seat.few sound.found sound.member
to_after declared own (Moves plan low left) r now seat sound named allowed =
    let told : Masks = plan_told low (has_moved r) plan in
    cond_both (left == 0) (stops own) (moves (left - 1) told own) (LeadsTo declared own.worker own.topology now left 0 [] None) (λ none. to_end declared now own left)
    (λ some. to_moves declared now own seat (left - 1) told left sound.all
    (plan_told_sound own.topology.cpus low (has_moved r) plan (omega (arith, sound.there, seat.few)) sound.sound) (omega (arith, eqb-false left 0 some)))

-- ---- what a program may be told

-- what a program may be told where its threads are declared it may be told
pub allows_any : (declared : ℕ → Bool) (worker cpus : ℕ) (next : Next) (r : Reply) (now : ℕ) → Allows declared worker cpus next r now → Allows (λ t. true) worker cpus next r now
allows_any declared worker cpus Balances r now allowed = allowed
allows_any declared worker cpus (Lands t) r now allowed = allowed
allows_any declared worker cpus Buries r now allowed = charges_any r allowed
  where
    whoever : (parent : Option ℕ) → IfSome parent (λ p. true ≡ true)
    whoever None = tt
    whoever (Some p) = refl

    charges_any : (x : Reply) → ChargesSoundly declared x → ChargesSoundly (λ t. true) x
    charges_any (Exited out into parent run) sound = (whoever parent, sound.1)
    charges_any _ sound = tt
allows_any declared worker cpus (Sees purpose) r now allowed = allowed
allows_any declared worker cpus _ r now allowed = tt

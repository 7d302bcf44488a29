-- A move on the values of two CPUs and on the worker's hand is that move on the world that they stand for. It has two halves, each
-- under one lock, and the world between them has the thread in the worker's hand.
use Rattle.std.proofs.Common.{◌≡◌, ◌≢◌, ℕ, ◌<◌, List, [], ◌∷◌, length, slice_set, Option, Some, None, refl, sym, ◌∙◌, ap, subst, arith}
use Rattle.std.proofs.lemmas.List.{length-set, set-set}
use Rattle.ule_prio.specs.declared.kind.Kind.{Kind}
use Rattle.ule_score.specs.declared.place.Place.TheVariants.{Queued, Hand}
use Rattle.ule_score.specs.declared.record.ThreadRecord.{ThreadRecord}
use Rattle.ule_types.specs.declared.event.Event.TheVariants.{Look}
use Rattle.ule_types.specs.declared.event.MoveWhy.{MoveWhy}
use Rattle.ule_types.specs.declared.event.Reply.TheVariants.{Nothing}
use Rattle.ule_model.specs.Action.{PairAction, Part, parts_done}
use Rattle.ule_model.specs.Actions.{Seen, given_action, move_action, refused_action}
use Rattle.ule_model.specs.ActionStep.{Stepped, seen_in, seen_on}
use Rattle.ule_model.specs.ActionValue.{HandAndCpu, parts_on_cpu}
use Rattle.ule_model.specs.CpuValue.{CpuValue}
use Rattle.ule_model.specs.LockValue.{LockValue, queue}
use Rattle.ule_model.specs.Step.{pair_done, pair_on_cpus}
use Rattle.ule_model.specs.WellMade.{IsWellMadeWorld}
use Rattle.ule_model.specs.World.{Side, World, current_of, side_of, with_side}
use Rattle.ule_model.specs.WorldValue.{IsHandOf, IsQueueOf, Shows, WorldValue, held_by, put_back, put_back_pair}
use Rattle.ule_members.proofs.Given.{each_move, move_sees}
use Rattle.ule_members.proofs.CalendarPlaces.{made_finds}
use Rattle.ule_members.proofs.PartDone.{ArePartsDone, Follows, IsKnown, IsReady, Known, StandsAt, known_after_all, parts_follow}
use Rattle.ule_members.proofs.PartRest.{KeepsSide, parts_kept}
use Rattle.ule_members.proofs.Reach.{reached_by_hand, reached_by_lock, takes_itself}
use Rattle.ule_members.proofs.Rest.{index_of, side_indexes, side_leaves}
use Rattle.ule_laws.proofs.EventStands.{queue_stands, seen_alike}
use Rattle.ule_laws.proofs.FrameLaws.{touched_frame}
use Rattle.ule_laws.proofs.PartStands.{ArePartsAlike, FollowsHere, parts_alike}
use Rattle.ule_laws.proofs.StepFrom.{ShowsWithReply, shown_made}
use Rattle.ule_laws.proofs.WorldLaws.{IsFrame, other_lock, put_back_shows, under_left}

-- ---- one half

-- the world after these parts under the lock of CPU c
abbrev pub after_parts : ℕ → ℕ → List Part → World → World
after_parts c now ps w = with_side c (parts_done c now ps (side_of c w, None)).0 w

-- the hand and the value of a CPU after these parts
abbrev pub made_by_parts : ℕ → List Part → Option ThreadRecord → CpuValue → HandAndCpu
made_by_parts now ps held v = (parts_on_cpu now ps (record { hand = held; value = v }, None)).0

module _ (w : World) (worker now c : ℕ) (v : CpuValue) (held : Option ThreadRecord) (known : Known) (idle empty : Type 0) (ps : List Part) where
  -- what one half needs: its parts follow from what is known, within the reach of an event that takes this lock alone; the value
  -- and the hand have what they need
  pub record IsHalf : Type 0 where
    pub made : IsWellMadeWorld w
    pub value : IsQueueOf w c v
    pub hand : IsHandOf w worker held
    pub known_is : IsKnown known w.members
    pub idle_is : idle → current_of c w.members ≡ None
    pub empty_is : empty → held ≡ None
    pub follows : Follows w worker (Look c) now c known idle ps
    pub here : FollowsHere c worker (Unit {0}) empty ps

  -- what it comes to
  pub record IsHalfMade (n : World) (h : HandAndCpu) : Type 0 where
    pub frame : IsFrame w worker (Look c) n
    pub value : IsQueueOf n c h.value
    pub hand : IsHandOf n worker h.hand
    pub known_after : IsKnown (known_after_all ps known) n.members

  -- the value and the hand stand after it as before, and all else is left
  pub half_made : IsHalf → IsHalfMade (after_parts c now ps w) (made_by_parts now ps held v)
  half_made half = record {
    frame =
        touched_frame w worker (Look c) now (after_parts c now ps w) done.done.touched (side_leaves w (Look c) c side refl kept.balance_word)
        (record { members = done.ready.made; indexes = side_indexes w c side half.made.indexes kept.index });
    value = queue_stands w c v (made_by_parts now ps held v).value side half.value both.held.stands both.cpu done.ready.settings;
    hand = both.held.hand tt;
    known_after = done.ready.stands;
  }
    where
      side : Side
      side = (parts_done c now ps (side_of c w, None)).0

      kept : KeepsSide c (side_of c w) side
      kept = parts_kept c now ps (side_of c w) None

      ready : IsReady w worker (Look c) now c known idle (side_of c w)
      ready = record { settings = refl; made = half.made.members; index = index_of w c half.made.indexes; stands = half.known_is; none = half.idle_is }

      done : ArePartsDone w worker (Look c) now c ps known idle (side_of c w) side
      done = parts_follow w worker (Look c) now c ps known idle (side_of c w) None (takes_itself c) ready half.follows

      both : ArePartsAlike worker (Unit {0}) ⊥ (record { hand = held; value = v }) (parts_on_cpu now ps (record { hand = held; value = v }, None)) (parts_done c now ps (side_of c w, None))
      both =
          parts_alike w worker (Look c) now (Unit {0}) ps c known idle empty (record { hand = held; value = v }) (side_of c w) None (takes_itself c) half.value.cpu ready half.follows half.here
          (record { stands = half.value.stands; hand = λ has. half.hand }) half.empty_is

-- ---- two halves

module _ (v : WorldValue) (w : World) (worker now a b : ℕ) (u x : CpuValue) (shows : Shows v w) (worker_is : worker < length w.lines) (apart : a ≢ b)
    (is_a : IsQueueOf w a u) (is_b : IsQueueOf w b x) where
  -- what is known before
  abbrev Truth : Known
  Truth = λ t place. StandsAt t place w.members

  -- the world between the halves of an action
  abbrev between : PairAction → World
  between action = after_parts a now action.from w

  -- both halves of an action have what they need
  pub record AreHalvesFit (action : PairAction) : Type 0 where
    pub from : Follows w worker (Look a) now a Truth (current_of a w.members ≡ None) action.from
    pub from_here : FollowsHere a worker (Unit {0}) (held_by v worker ≡ None) action.from
    pub to : Follows (between action) worker (Look b) now b (known_after_all action.from Truth) ⊥ action.to
    pub to_here : FollowsHere b worker (Unit {0}) ⊥ action.to

  -- so they come to the values of both CPUs and the hand as the world has them then
  pub pair_shows : (action : PairAction) → AreHalvesFit action →
      ShowsWithReply (pair_done a b now action w).0 (pair_done a b now action w).1 (put_back_pair a b worker (Some (pair_on_cpus now action (held_by v worker) u x)) v)
  pair_shows action fit = (
    subst (λ (hands : List (Option ThreadRecord)). Shows (record { settings = v.settings; values = values; hands = hands }) after) (set-set v.hands worker one.hand two.hand) second,
    refl,
  )
    where
      one : HandAndCpu
      one = made_by_parts now action.from (held_by v worker) u

      two : HandAndCpu
      two = made_by_parts now action.to one.hand x

      middle : World
      middle = between action

      after : World
      after = after_parts b now action.to middle

      values : List LockValue
      values = slice_set (slice_set v.values a (queue one.value)) b (queue two.value)

      half : IsHalfMade w worker now a u (held_by v worker) Truth (current_of a w.members ≡ None) (held_by v worker ≡ None) action.from middle one
      half =
          half_made w worker now a u (held_by v worker) Truth (current_of a w.members ≡ None) (held_by v worker ≡ None) action.from
          (record {
            made = shown_made v w shows;
            value = is_a;
            hand = shows.hands worker;
            known_is = λ t place is. is;
            idle_is = λ is. is;
            empty_is = λ is. is;
            follows = fit.from;
            here = fit.from_here;
          })

      made_one : Stepped
      made_one = record { hand = one.hand; value = queue one.value; reply = Nothing }

      halfway : WorldValue
      halfway = (put_back a worker (Some made_one) v).0

      first : Shows halfway middle
      first =
          (put_back_shows v w worker a (Look a) middle Nothing made_one shows half.frame refl (let there = is_a.there in let few = shows.cpus in omega arith) worker_is
          (record { value = half.value; hand = half.hand; answer = refl })).0

      other : IsQueueOf middle b x
      other = under_left w worker (Look a) middle b (queue x) half.frame (other_lock (a ∷ []) a b refl (λ same. apart (sym same))) is_b

      rest : IsHalfMade middle worker now b x one.hand (known_after_all action.from Truth) ⊥ ⊥ action.to after two
      rest =
          half_made middle worker now b x one.hand (known_after_all action.from Truth) ⊥ ⊥ action.to
          (record {
            made = shown_made halfway middle first;
            value = other;
            hand = half.hand;
            known_is = half.known_after;
            idle_is = λ is. absurd is;
            empty_is = λ is. absurd is;
            follows = fit.to;
            here = fit.to_here;
          })

      made_two : Stepped
      made_two = record { hand = two.hand; value = queue two.value; reply = Nothing }

      second : Shows (put_back b worker (Some made_two) halfway).0 after
      second =
          (put_back_shows halfway middle worker b (Look b) after Nothing made_two first rest.frame refl (let there = is_b.there in let few = shows.cpus in omega arith)
          (subst (λ (i : ℕ). worker < i) (sym half.frame.rest.count) worker_is) (record { value = rest.value; hand = rest.hand; answer = refl })).0

  -- ---- a move

  -- a move that is refused does nothing
  refused_fits : AreHalvesFit (refused_action (move_sees w worker now a) (move_sees w worker now b))
  refused_fits = record { from = tt; from_here = tt; to = tt; to_here = tt }

  -- a thread that is queued on the first CPU goes to the empty hand, and is queued on the second
  queued_fits : (r : ThreadRecord) (k : Kind) (l : ℕ) → held_by v worker ≡ None → StandsAt r.id (Queued a k l) w.members →
      AreHalvesFit (given_action (Some (record { thread = r; place = Queued a k l })) (move_sees w worker now a) (move_sees w worker now b))
  queued_fits r k l none at =
      let action = given_action (Some (record { thread = r; place = Queued a k l })) (move_sees w worker now a) (move_sees w worker now b) in
      let left = reached_by_lock w worker (Look a) a (Queued a k l) (takes_itself a) refl in
      let put = reached_by_hand w worker (Look a) (Hand worker) refl in
      let taken = reached_by_hand (between action) worker (Look b) (Hand worker) refl in
      let there = subst (λ (i : ℕ). b < i) (sym (length-set w.lines a (parts_done a now action.from (side_of a w, None)).0.line)) is_b.there in record {
        from = ((at, left, put, tt, tt, λ d. refl), tt, tt);
        from_here = ((λ has. none, refl, refl), tt);
        to = (((refl, refl), taken, there), tt, (((refl, refl), taken, tt), tt, (tt, tt, tt)));
        to_here = (refl, ((tt, refl), (tt, tt)));
      }

  -- every move from an empty hand
  move_fits : (why : MoveWhy) → held_by v worker ≡ None → AreHalvesFit (move_action why (move_sees w worker now a) (move_sees w worker now b))
  move_fits why none =
      each_move w worker now a b AreHalvesFit why (made_finds w.members shows.made) refused_fits (λ r k l other at. queued_fits r k l none at)

  -- what it sees on the values is what it sees of the world
  from_alike : seen_in worker now None u ≡ move_sees w worker now a
  from_alike = seen_alike worker now None u (side_of a w) is_a.stands shows.made ∙ ap (λ (c : ℕ). seen_on c worker now None (side_of a w)) is_a.cpu

  to_alike : seen_in worker now None x ≡ move_sees w worker now b
  to_alike = seen_alike worker now None x (side_of b w) is_b.stands shows.made ∙ ap (λ (c : ℕ). seen_on c worker now None (side_of b w)) is_b.cpu

  -- a move on the values of both CPUs and the hand, by what it sees there, is the move of the world
  pub move_shows : (why : MoveWhy) → held_by v worker ≡ None →
      let done = pair_done a b now (move_action why (move_sees w worker now a) (move_sees w worker now b)) w in
      ShowsWithReply done.0 done.1 (put_back_pair a b worker (Some (pair_on_cpus now (move_action why (seen_in worker now None u) (seen_in worker now None x)) (held_by v worker) u x)) v)
  move_shows why none =
      subst (λ (s : Seen). IsMadeOf (move_action why s (seen_in worker now None x))) (sym from_alike)
      (subst (λ (s : Seen). IsMadeOf (move_action why (move_sees w worker now a) s)) (sym to_alike)
      (pair_shows (move_action why (move_sees w worker now a) (move_sees w worker now b)) (move_fits why none)))
    where
      IsMadeOf : PairAction → Type 0
      IsMadeOf action =
          let done = pair_done a b now (move_action why (move_sees w worker now a) (move_sees w worker now b)) w in
          ShowsWithReply done.0 done.1 (put_back_pair a b worker (Some (pair_on_cpus now action (held_by v worker) u x)) v)

-- An event under two locks does its parts under the first, and then those under the second: what that does to the threads and what it
-- leaves of the rest. And a move, the one event under two locks, is such an event.
use Rattle.std.proofs.Common.{◌≡◌, ◌≢◌, ℕ, ◌<◌, ◌≤◌, ◌==◌, ◌&&◌, Bool, true, false, not, List, [], ◌∷◌, length, Option, Some, None, ⊎_elim, refl, sym, ◌∙◌, ap, subst, arith, get_or-set_other}
use Rattle.std.specs.Prelude.{IsTrue, max, min, nat_lt}
use Rattle.std.proofs.lemmas.Bool.{and_parts, both_ways, cases_lt, eq-eqb, false≢true, ltb-true, or_left, or_right}
use Rattle.std.proofs.lemmas.List.{length-set, set-get_or}
use Rattle.ule_prio.specs.declared.kind.Kind.{Kind}
use Rattle.ule_score.specs.declared.place.Place.TheVariants.{Hand, Queued}
use Rattle.ule_score.specs.declared.record.CpuLine.{CpuLine}
use Rattle.ule_score.specs.declared.record.ThreadRecord.{ThreadRecord}
use Rattle.ule_types.specs.Commands.{is_among}
use Rattle.ule_types.specs.declared.event.Event.{Event}
use Rattle.ule_types.specs.declared.event.Event.TheVariants.{Move}
use Rattle.ule_types.specs.declared.event.MoveWhy.{MoveWhy}
use Rattle.ule_types.specs.declared.event.Reply.{Reply}
use Rattle.ule_model.specs.Action.{PairAction, pair_answers, parts_done}
use Rattle.ule_model.specs.Actions.{given_action, move_action}
use Rattle.ule_model.specs.Events.{Locking, are_cpus, lock_numbers, locking, locks_of, names_cpus, queues}
use Rattle.ule_model.specs.Frames.{LeavesRest}
use Rattle.ule_model.specs.Step.{pair_done}
use Rattle.ule_model.specs.WellMade.{HaveIndexes, IsWellMadeWorld}
use Rattle.ule_model.specs.Words.{WordChange, change_of}
use Rattle.ule_model.specs.World.{Side, World, current_of, fresh_line, side_of, with_side}
use Rattle.ule_members.proofs.CalendarPlaces.{FindsEach}
use Rattle.ule_members.proofs.Given.{each_move, move_sees}
use Rattle.ule_members.proofs.PartDone.{Agree, AreDone, ArePartsDone, Follows, IsReady, StandsAt, done_then, known_after_all, parts_follow, word_of_parts, word_then}
use Rattle.ule_members.proofs.PartRest.{parts_kept}
use Rattle.ule_members.proofs.Reach.{reached_by_hand, reached_by_lock}
use Rattle.ule_members.proofs.Rest.{index_of, side_indexes}

-- ---- the two locks

-- whether locks are those of two CPUs
abbrev pub are_two : Locking → Bool
are_two (queues a b) = true
are_two k = false

-- an event that is a move from CPU a to CPU b
pub record IsMove (e : Event) (a b : ℕ) : Type 0 where
  pub why : MoveWhy
  pub event_is : e ≡ Move a b why

-- an event under two locks is a move
pub move_where : (e : Event) (a b : ℕ) → locking e ≡ queues a b → IsMove e a b
move_where (Move x y why) a b is = record { why = why; event_is = ap (λ (z : ℕ). Move z y why) (first is) ∙ ap (λ (z : ℕ). Move a z why) (second is) }
  where
    first : queues x y ≡ queues a b → x ≡ a
    first same = cc

    second : queues x y ≡ queues a b → y ≡ b
    second same = cc
move_where _ a b is = absurd (false≢true (ap are_two is))

-- the first of two locks is among them in rising number
among_first : (a b : ℕ) → is_among (min a b ∷ max a b ∷ []) a ≡ true
among_first a b =
    ⊎_elim
    (λ (less : a < b). or_left (min a b == a) (is_among (max a b ∷ []) a) (eq-eqb (min a b) a (omega arith)))
    (λ (over : b ≤ a). or_right (min a b == a) (is_among (max a b ∷ []) a) (or_left (max a b == a) false (eq-eqb (max a b) a (omega arith))))
    (cases_lt a b)

-- the second of two locks is among them in rising number
among_second : (a b : ℕ) → is_among (min a b ∷ max a b ∷ []) b ≡ true
among_second a b =
    ⊎_elim
    (λ (less : a < b). or_right (min a b == b) (is_among (max a b ∷ []) b) (or_left (max a b == b) false (eq-eqb (max a b) b (omega arith))))
    (λ (over : b ≤ a). or_left (min a b == b) (is_among (max a b ∷ []) b) (eq-eqb (min a b) b (omega arith)))
    (cases_lt a b)

module _ (w : World) (e : Event) (a b : ℕ) (is : locking e ≡ queues a b) where
  -- the event takes the first lock
  pub takes_first : is_among (locks_of w e) a ≡ true
  takes_first = ap (λ (k : Locking). is_among (lock_numbers w.members k) a) is ∙ among_first a b

  -- the event takes the second lock
  pub takes_second : is_among (locks_of w e) b ≡ true
  takes_second = ap (λ (k : Locking). is_among (lock_numbers w.members k) b) is ∙ among_second a b

  -- the second is of a CPU that is there
  pub second_there : IsTrue (names_cpus (length w.lines) e) → b < length w.lines
  second_there names =
      let both = and_parts (nat_lt a (length w.lines)) (nat_lt b (length w.lines) && not (a == b)) (sym (ap (are_cpus (length w.lines)) is) ∙ names) in
      ltb-true b (length w.lines) (and_parts (nat_lt b (length w.lines)) (not (a == b)) both.1).0

  -- ---- the rest

  -- a lock that the event doesn't take is another than one that it takes
  other_lock : (c d : ℕ) → is_among (locks_of w e) c ≡ true → is_among (locks_of w e) d ≡ false → d ≢ c
  other_lock c d among none same = both_ways (is_among (locks_of w e) c) (ap (is_among (locks_of w e)) (sym same) ∙ none) among

  -- parts under both locks leave what they don't guard
  pub pair_leaves : (now : ℕ) (p : PairAction) → LeavesRest w e (pair_done a b now p w).0
  pair_leaves now p = record {
    settings = refl;
    count = length-set n.lines b done.line ∙ length-set w.lines a made.line;
    lines = λ d none. get_or-set_other n.lines b d done.line fresh_line (other_lock b d takes_second none) ∙
        get_or-set_other w.lines a d made.line fresh_line (other_lock a d takes_first none);
    balance_word = λ none. (parts_kept b now p.to (side_of b n) None).balance_word (λ zero. other_lock b 0 takes_second none (sym zero)) ∙
        (parts_kept a now p.from (side_of a w) None).balance_word (λ zero. other_lock a 0 takes_first none (sym zero));
  }
    where
      made : Side
      made = (parts_done a now p.from (side_of a w, None)).0

      n : World
      n = with_side a made w

      done : Side
      done = (parts_done b now p.to (side_of b n, None)).0

-- parts under both locks leave the removal indexes those of buckets
pub pair_indexes : (w : World) (now a b : ℕ) (p : PairAction) → HaveIndexes w.lines → HaveIndexes (pair_done a b now p w).0.lines
pair_indexes w now a b p indexes =
    let made = (parts_done a now p.from (side_of a w, None)).0 in
    let n = with_side a made w in
    side_indexes n b (parts_done b now p.to (side_of b n, None)).0 (side_indexes w a made indexes (parts_kept a now p.from (side_of a w) None).index)
    (parts_kept b now p.to (side_of b n) None).index

-- a side of a world put back leaves the world
side_put_back : (c : ℕ) (w : World) → with_side c (side_of c w) w ≡ w
side_put_back c w = ap (λ (lines : List CpuLine). record w { lines = lines }) (set-get_or w.lines c fresh_line)

-- an answer under two locks leaves the world
pub pair_answered : (a b now : ℕ) (r : Reply) (w : World) → pair_done a b now (pair_answers r) w ≡ (w, r)
pair_answered a b now r w =
    ap (λ (n : World). (n, r)) (side_put_back b (with_side a (side_of a w) w) ∙ side_put_back a w)

-- ---- the threads

-- a side of a world is ready for parts that follow from what is so there
pub side_ready : (w : World) (worker : ℕ) (e : Event) (now c : ℕ) → IsWellMadeWorld w →
    IsReady w worker e now c (λ t place. StandsAt t place w.members) (current_of c w.members ≡ None) (side_of c w)
side_ready w worker e now c made = record { settings = refl; made = made.members; index = index_of w c made.indexes; stands = λ t place is. is; none = λ is. is }

-- the world after parts under the first lock
abbrev pub world_between : ℕ → ℕ → PairAction → World → World
world_between a now p w = with_side a (parts_done a now p.from (side_of a w, None)).0 w

module _ (w : World) (worker : ℕ) (e : Event) (now a b : ℕ) where
  -- that the parts under the first lock follow from what is so in the world, and those under the second from what is known after
  -- them; that both are of one thread's word, and that the reply tells its change
  pub record IsPairFit (p : PairAction) : Type 0 where
    pub from : Follows w worker e now a (λ t place. StandsAt t place w.members) (current_of a w.members ≡ None) p.from
    pub to : Follows w worker e now b (known_after_all p.from (λ t place. StandsAt t place w.members)) ⊥ p.to
    pub agree : Agree (word_of_parts a p.from) (word_of_parts b p.to)
    pub word : change_of e p.reply ≡ word_then (word_of_parts a p.from) (word_of_parts b p.to)

  module _ (made : IsWellMadeWorld w) (is : locking e ≡ queues a b) (p : PairAction) (fit : IsPairFit p) where
    -- the parts under the first lock are done
    first_done : ArePartsDone w worker e now a p.from (λ t place. StandsAt t place w.members) (current_of a w.members ≡ None) (side_of a w)
        (parts_done a now p.from (side_of a w, None)).0
    first_done =
        parts_follow w worker e now a p.from (λ t place. StandsAt t place w.members) (current_of a w.members ≡ None) (side_of a w) None (takes_first w e a b is)
        (side_ready w worker e now a made) fit.from

    -- the side under the second lock is ready then
    pub second_ready : IsReady w worker e now b (known_after_all p.from (λ t place. StandsAt t place w.members)) ⊥ (side_of b (world_between a now p w))
    second_ready = record {
      settings = refl;
      made = first_done.ready.made;
      index = index_of (world_between a now p w) b
          (side_indexes w a (parts_done a now p.from (side_of a w, None)).0 made.indexes (parts_kept a now p.from (side_of a w) None).index);
      stands = first_done.ready.stands;
      none = λ never. absurd never;
    }

    -- the parts under both locks are done
    pub pair_fit_done : AreDone w worker e now (change_of e p.reply) w.members (pair_done a b now p w).0.members
    pair_fit_done =
        subst (λ (o : Option WordChange). AreDone w worker e now o w.members (pair_done a b now p w).0.members) (sym fit.word)
        (done_then w worker e now (word_of_parts a p.from) (word_of_parts b p.to) w.members (world_between a now p w).members (pair_done a b now p w).0.members fit.agree
        first_done.done
        (parts_follow w worker e now b p.to (known_after_all p.from (λ t place. StandsAt t place w.members)) ⊥ (side_of b (world_between a now p w)) None
        (takes_second w e a b is) second_ready fit.to).done)

-- ---- a move

module _ (w : World) (worker now a b : ℕ) (why : MoveWhy) (there : b < length w.lines) where
  -- a thread queued on the first CPU goes by the hand to the second, whose lock its word names then
  given_fits : (r : ThreadRecord) (k : Kind) (l : ℕ) → StandsAt r.id (Queued a k l) w.members →
      IsPairFit w worker (Move a b why) now a b (given_action (Some (record { thread = r; place = Queued a k l })) (move_sees w worker now a) (move_sees w worker now b))
  given_fits r k l at =
      let from = reached_by_lock w worker (Move a b why) a (Queued a k l) (takes_first w (Move a b why) a b refl) refl in
      let hand = reached_by_hand w worker (Move a b why) (Hand worker) refl in record {
        from = ((at, from, hand, tt, tt, λ d. refl), tt, tt);
        to = (((refl, refl), hand, there), tt, (((refl, refl), hand, tt), tt, (tt, tt, tt)));
        agree = refl;
        word = refl;
      }

  -- every move is fit
  pub move_fits : FindsEach w.members → IsPairFit w worker (Move a b why) now a b (move_action why (move_sees w worker now a) (move_sees w worker now b))
  move_fits finds =
      each_move w worker now a b (IsPairFit w worker (Move a b why) now a b) why finds (record { from = tt; to = tt; agree = tt; word = refl })
      (λ r k l apart at. given_fits r k l at)

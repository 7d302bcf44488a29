-- What an event under two locks makes of the calendars: each CPU sees at most one of two passages; and what a move makes of them.
use Rattle.std.proofs.Common.{◌≡◌, ◌≢◌, ℕ, Bool, Some, None, ⊎_elim, refl, sym, ◌∙◌, subst, get_or-set_other}
use Rattle.std.proofs.lemmas.Bool.{cases_eq}
use Rattle.ule_prio.specs.declared.kind.Kind.{Kind}
use Rattle.ule_score.specs.declared.place.Place.TheVariants.{Queued}
use Rattle.ule_score.specs.declared.record.CpuLine.{CpuLine}
use Rattle.ule_score.specs.declared.record.ThreadRecord.{ThreadRecord}
use Rattle.ule_types.specs.declared.event.Event.{Event}
use Rattle.ule_types.specs.declared.event.Event.TheVariants.{Move}
use Rattle.ule_types.specs.declared.event.MoveWhy.{MoveWhy}
use Rattle.ule_types.specs.declared.event.Reply.{Reply}
use Rattle.ule_model.specs.Action.{PairAction, parts_done}
use Rattle.ule_model.specs.Actions.{given_action, move_action, refused_action}
use Rattle.ule_model.specs.CalendarPromise.{goes_next, numbers_on, takes_up}
use Rattle.ule_model.specs.Step.{pair_done}
use Rattle.ule_model.specs.World.{Side, World, fresh_line, side_of, with_side}
use Rattle.ule_members.proofs.CalendarMoves.{Others, moved_aside}
use Rattle.ule_members.proofs.CalendarParts.{CpuPassage, IsCalm, SidePasses, StepPasses, entry_by, nothing_passes, side_passes}
use Rattle.ule_members.proofs.CalendarPhases.{FollowsPhase, fresh, parts_known, parts_passage}
use Rattle.ule_members.proofs.CalendarPlaces.{filing_of}
use Rattle.ule_members.proofs.CalendarRules.{Passage, close_after, passage_from, passage_to}
use Rattle.ule_members.proofs.Given.{each_move, move_sees}
use Rattle.ule_members.proofs.PairDone.{pair_answered}
use Rattle.ule_members.proofs.PartDone.{StandsAt, known_after_all}

module _ (w : World) (worker : ℕ) (e : Event) (now a b : ℕ) (calm : IsCalm w) (p : PairAction) where
  -- whether the event takes a thread up
  abbrev taken : ℕ → Bool
  taken t = takes_up t (entry_by worker e now p.reply)

  -- whether a thread goes next by the event
  abbrev next : ℕ → Bool
  next t = goes_next t (entry_by worker e now p.reply)

  -- how far the parts under each lock come in the calendar of its CPU
  pub record PairComes : Type 0 where
    pub from : FollowsPhase taken next a (λ t place. StandsAt t place w.members) fresh p.from
    pub to : FollowsPhase taken next b (known_after_all p.from (λ t place. StandsAt t place w.members)) fresh p.to

  -- parts under the locks of two CPUs pass on each CPU
  pub pair_passes : a ≢ b → PairComes → StepPasses w worker e now (pair_done a b now p w)
  pair_passes apart comes = record { finds = two.finds; passes = each }
    where
      made : Side
      made = (parts_done a now p.from (side_of a w, None)).0

      n : World
      n = with_side a made w

      done : Side
      done = (parts_done b now p.to (side_of b n, None)).0

      first : SidePasses worker now e a (side_of a w) (made, p.reply)
      first =
          let passage = parts_passage taken next a now (side_of a w) (calm.close a) calm.finds p.from (λ t place. StandsAt t place w.members) (λ t place is. is) comes.from in
          record { moves = passage.1; passes = passage.0 }

      one : StepPasses w worker e now (n, p.reply)
      one = side_passes w worker e now calm a (made, p.reply) first

      calm_between : IsCalm n
      calm_between = record {
        finds = one.finds;
        close = λ c. close_after taken next (numbers_on c w).idx (numbers_on c w).ridx (numbers_on c n).idx (numbers_on c n).ridx (filing_of c w.members) (filing_of c n.members)
            (calm.close c) (one.passes c);
      }

      second : SidePasses worker now e b (side_of b n) (done, p.reply)
      second =
          let passage =
          parts_passage taken next b now (side_of b n) (calm_between.close b) calm_between.finds p.to (known_after_all p.from (λ t place. StandsAt t place w.members))
          (parts_known taken next a now (side_of a w) (calm.close a) calm.finds p.from (λ t place. StandsAt t place w.members) fresh (side_of a w) None (λ t place is. is) comes.from)
          comes.to in
          record { moves = passage.1; passes = passage.0 }

      two : StepPasses n worker e now (with_side b done n, p.reply)
      two = side_passes n worker e now calm_between b (done, p.reply) second

      -- a CPU that the first parts leave sees the second passage
      sees_second : (c : ℕ) → c ≢ a → CpuPassage taken next c w (with_side b done n)
      sees_second c other =
          subst
          (λ (l : CpuLine). Passage taken next l.idx l.ridx (numbers_on c (with_side b done n)).idx (numbers_on c (with_side b done n)).ridx (filing_of c w.members) (filing_of c done.members))
          (get_or-set_other w.lines a c made.line fresh_line other)
          (passage_from taken next (numbers_on c n).idx (numbers_on c n).ridx (numbers_on c (with_side b done n)).idx (numbers_on c (with_side b done n)).ridx
          (filing_of c w.members) (filing_of c n.members) (filing_of c done.members) (λ t. moved_aside (Others a) w.members made.members c t other first.moves) (two.passes c))

      -- a CPU that the second parts leave sees the first passage
      sees_first : (c : ℕ) → c ≢ b → CpuPassage taken next c w (with_side b done n)
      sees_first c other =
          subst (λ (l : CpuLine). Passage taken next (numbers_on c w).idx (numbers_on c w).ridx l.idx l.ridx (filing_of c w.members) (filing_of c done.members))
          (sym (get_or-set_other n.lines b c done.line fresh_line other))
          (passage_to taken next (numbers_on c w).idx (numbers_on c w).ridx (numbers_on c n).idx (numbers_on c n).ridx
          (filing_of c w.members) (filing_of c n.members) (filing_of c done.members) (λ t. moved_aside (Others b) n.members done.members c t other second.moves) (one.passes c))

      each : (c : ℕ) → CpuPassage taken next c w (with_side b done n)
      each c =
          ⊎_elim (λ (same : c ≡ b). sees_second c (λ is. apart (sym is ∙ same))) (λ (other : c ≡ b → ⊥). sees_first c other) (cases_eq c b)

module _ (w : World) (worker now a b : ℕ) (calm : IsCalm w) (why : MoveWhy) where
  -- a refused move passes
  refused_passes : StepPasses w worker (Move a b why) now (pair_done a b now (refused_action (move_sees w worker now a) (move_sees w worker now b)) w)
  refused_passes =
      let r : Reply = (refused_action (move_sees w worker now a) (move_sees w worker now b)).reply in
      subst (StepPasses w worker (Move a b why) now) (sym (pair_answered a b now r w)) (nothing_passes w worker (Move a b why) now calm r)

  -- a thread that is queued on the first CPU leaves its calendar by the index rule, and joins that of another
  given_passes : (r : ThreadRecord) (k : Kind) (l : ℕ) → a ≢ b → StandsAt r.id (Queued a k l) w.members →
      StepPasses w worker (Move a b why) now
      (pair_done a b now (given_action (Some (record { thread = r; place = Queued a k l })) (move_sees w worker now a) (move_sees w worker now b)) w)
  given_passes r k l apart at =
      pair_passes w worker (Move a b why) now a b calm (given_action (Some (record { thread = r; place = Queued a k l })) (move_sees w worker now a) (move_sees w worker now b)) apart
      (record { from = ((at, refl, tt), tt); to = (tt, (((refl, refl), tt), (tt, tt))) })

  -- every move passes on each CPU
  pub moves_pass : StepPasses w worker (Move a b why) now (pair_done a b now (move_action why (move_sees w worker now a) (move_sees w worker now b)) w)
  moves_pass =
      each_move w worker now a b (λ p. StepPasses w worker (Move a b why) now (pair_done a b now p w)) why calm.finds refused_passes given_passes

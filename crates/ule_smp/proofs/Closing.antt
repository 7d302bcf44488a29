-- What is told at the end of a play is its outcome.
use Rattle.std.proofs.Common.{◌≡◌, ℕ, zero, suc, ◌+◌, ◌<◌, ◌≤◌, List, [], ◌∷◌, ◌++◌, length, slice_get, Option, Some, None, IfSome, refl, sym, ap, ◌∙◌, subst, inl, inr, ◌⊎◌, ⊎_elim, arith}
use Rattle.std.specs.Prelude.{min}
use Rattle.std.specs.List.{AllByRecursion}
use Rattle.std.proofs.lemmas.Option.{none-some, same_Some}
use Rattle.atomic_table.specs.Seated.{TableId}
use Rattle.ule_score.specs.declared.record.ThreadRecord.{ThreadRecord}
use Rattle.ule_types.specs.Outcome.{OutcomeValue, placed}
use Rattle.ule_types.specs.declared.command.Command.{Command}
use Rattle.ule_types.specs.declared.event.Entry as types
use Rattle.ule_types.specs.declared.event.Event.{Event}
use Rattle.ule_types.specs.declared.event.Reply.{Reply}
use Rattle.ule_types.specs.declared.outcome.ThreadLine.{ThreadLine}
use Rattle.ule_types.specs.declared.setup.Setup.{Setup}
use Rattle.ule_model.specs.CalendarPromise.{HasCalendarPromise}
use Rattle.ule_model.specs.Ends.{outcome_of}
use Rattle.ule_model.specs.Finals.{thread_lines}
use Rattle.ule_model.specs.Legal.{IsLegal, IsWhole}
use Rattle.ule_model.specs.LockValue.{LockValue, line_under}
use Rattle.ule_model.specs.Start.{world_at_start}
use Rattle.ule_model.specs.World.{World}
use Rattle.ule_model.specs.WorldValue.{StandsUnder}
use Rattle.ule_members.proofs.Setups.{setup_scripts}
use Rattle.ule_micro.specs.declared.locks.TheConstants.{THREADS}
use Rattle.ule_micro.specs.Laws.{IsEmpty}
use Rattle.ule_micro.specs.Shared.{Shared, as_it_stands, unstamped}
use Rattle.ule_micro.proofs.Lists.{there}
use Rattle.ule_parts.specs.Histories.{scheduler_with}
use Rattle.ule_parts.specs.Scheduler.{sched_means}
use Rattle.ule_parts.proofs.Lawful.{start_shown}
use Rattle.ule_parts.proofs.Worlds.{IsReached, reached_by}
use Rattle.ule_seq.specs.Notes.{sched_notes}
use Rattle.ule_seq.specs.Outcomes.{queue_lines}
use Rattle.ule_seq.proofs.FinalLaws.{cpu_lines_shown}
use Rattle.ule_words.specs.declared.log.Numbered.{Numbered}
use Rattle.ule_words.specs.Ends.{IsLeft, Told, end_noted, entries_noted, lock_named, values_noted, words_noted}
use Rattle.ule_smp.specs.Ends.{HasRoom, IsClosed}
use Rattle.ule_smp.specs.Smp.{AreDone, SchedPass, SmpValue}
use Rattle.ule_smp.proofs.Legality.{entries_left, its_entries, legal_left, now_so, pass_there, whole_left, worlds_left}
use Rattle.ule_smp.proofs.Lines.{AreNumbered, all_lines, lines_from, no_lines, placed_told, same_lines, told_again, with_told}
use Rattle.ule_smp.proofs.Made.{made_stands, stands_made}
use Rattle.ule_smp.proofs.Noting.{entries_leave_cpus, entries_leave_threads, entries_told, one_told, told_after, values_leave_entries, values_tell_cpus, values_tell_threads, words_told}
use Rattle.ule_smp.proofs.Places.{Tells, line_left, reached, tells}

-- nothing told: no line of a thread
abbrev nothing_told : Option ThreadLine
nothing_told = None

-- what holds of all entries holds of the one at a place
holds_at : (P : types.Entry → Type 0) (es : List types.Entry) (k : ℕ) (e : types.Entry) → AllByRecursion P es → slice_get es k ≡ Some e → P e
holds_at P [] k e all at = absurd (none-some e at)
holds_at P (x ∷ es) zero e all at = subst P (same_Some x e at) all.0
holds_at P (x ∷ es) (suc k) e all at = holds_at P es k e all.1 at

module _ (s : Setup) (table : TableId) (lists : List (List Command)) (passes : List SchedPass) (done : AreDone s table lists passes) (st : Shared (Option ThreadRecord) LockValue Event Reply)
    (left : IsLeft (sched_means s) passes st) where
  -- the history leads to a world
  world_left : IsReached s (unstamped st.history) (as_it_stands st)
  world_left = reached_by s (start_shown s) (unstamped st.history) (as_it_stands st) left.agrees.history

  -- a worker's hand is that of its pass, and empty
  hands_empty : (w : ℕ) (hand : Option ThreadRecord) → slice_get st.hands w ≡ Some hand → IsEmpty (sched_means s) hand
  hands_empty w hand at = of_pass (pass_there s table lists passes done st left w
      (let low = there st.hands w hand at in let many = world_left.shows.workers in let count = world_left.is_world.lines in omega (arith, low, many, count)))
    where
      of_pass : (p : SchedPass) × (slice_get passes w ≡ Some p) → IsEmpty (sched_means s) hand
      of_pass (p, is) = let d = done.each w p is in
          subst (IsEmpty (sched_means s)) (same_Some p.worker.hand hand (sym (left.knows w p is).hand ∙ (ap (slice_get st.hands) d.number ∙ at))) d.rest.empty

  -- the world at the end, by which each thread's line is told
  at_end : IsReached s (unstamped st.history) (as_it_stands st)
  at_end = reached s st left.agrees left.calm hands_empty

  -- line at: the line of a thread at the end
  abbrev line_at : ℕ → Option ThreadLine
  line_at = line_left s st left.agrees left.calm hands_empty

  tells_at : (t : ℕ) → Tells st.values t (lock_named (st.words t)) (line_at t)
  tells_at = tells s st left.agrees left.calm hands_empty

  numbered : AreNumbered line_at
  numbered t line is = (tells_at t).number line is

  -- the values tell these lines
  told_at : (t : ℕ) → told_after st.values (λ u. None) t ≡ line_at t
  told_at t = one_told t (line_at t) st.values (λ u. None) (tells_at t).each (from (tells_at t).one)
    where
      from : (line_at t ≡ None) ⊎ ((l : ℕ) × (v : LockValue) × (slice_get st.values l ≡ Some v) × (line_under v t ≡ line_at t))
          → (nothing_told ≡ line_at t) ⊎ ((nothing_told ≡ None) × ((l : ℕ) × (v : LockValue) × (slice_get st.values l ≡ Some v) × (line_under v t ≡ line_at t)))
      from (inl none) = inl (sym none)
      from (inr one) = inr (refl, one)

  -- a value tells each thread's line by its number
  numbered_under : (l : ℕ) (v : LockValue) → slice_get st.values l ≡ Some v → AreNumbered (line_under v)
  numbered_under l v at t line is = ⊎_elim (λ (same : line_under v t ≡ line_at t). numbered t line (sym same ∙ is))
      (λ (none : line_under v t ≡ None). absurd (none-some line (sym none ∙ is))) ((tells_at t).each l v at)

  -- a line that stands at the end stands at its place, with its thread's word
  line_stands : (t : ℕ) (line : ThreadLine) → 0 ≤ t → t < 0 + 256 → line_at t ≡ Some line
      → (placed line (lines_from line_at 0 256) ≡ lines_from line_at 0 256) × (line.word ≡ lock_named (st.words line.id))
  line_stands t line low high is = let same : line.id ≡ t = numbered t line is in (
    placed_told line_at numbered line 0 256 (omega arith) (omega (arith, high, same))
        ∙ same_lines (with_told line line_at) line_at 0 256 (λ u more few. told_again line line_at (ap line_at same ∙ is) u),
    (tells_at t).word_is line is ∙ ap (λ u. lock_named (st.words u)) (sym same),
  )

  all_stand : AllByRecursion (λ m. (placed m (lines_from line_at 0 256) ≡ lines_from line_at 0 256) × (m.word ≡ lock_named (st.words m.id))) (lines_from line_at 0 256)
  all_stand = all_lines (λ m. (placed m (lines_from line_at 0 256) ≡ lines_from line_at 0 256) × (m.word ≡ lock_named (st.words m.id))) line_at 0 256 line_stands

  -- ---- the outcome that was told

  module _ (x : OutcomeValue) (bare : HasRoom s x) where
    abbrev with_entries : OutcomeValue
    with_entries = entries_noted (sched_notes s) (unstamped st.history) x

    abbrev with_values : OutcomeValue
    with_values = values_noted (sched_notes s) 0 st.values with_entries

    told_entries : with_values.entries ≡ entries_left s table lists passes done st left
    told_entries = values_leave_entries s 0 st.values with_entries ∙ (entries_told s (unstamped st.history) x ∙ ap (λ es. es ++ entries_left s table lists passes done st left) bare.entries)

    told_threads : with_values.threads ≡ lines_from line_at 0 256
    told_threads = values_tell_threads s 0 st.values with_entries (λ t. None) (λ t line is. absurd (none-some line is)) numbered_under
        (entries_leave_threads s (unstamped st.history) x ∙ (bare.threads ∙ sym (no_lines 0 256)))
        ∙ same_lines (told_after st.values (λ t. None)) line_at 0 256 (λ t low high. told_at t)

    told_cpus : with_values.cpus ≡ at_end.world.lines
    told_cpus = values_tell_cpus s at_end.world at_end.is_world.lines (setup_scripts s).cpus 0 st.values with_entries (λ k. subst (λ i. IfSome (slice_get st.values k) (StandsUnder at_end.world i)) (let a : k ≡ 0 + k = omega arith in a) (at_end.shows.under k))
        (let none : 0 ≡ min 0 s.cpus = omega arith in ap length (entries_leave_cpus s (unstamped st.history) x ∙ bare.cpus) ∙ none)
        ∙ (ap (λ ls. ls ++ queue_lines st.values) (entries_leave_cpus s (unstamped st.history) x ∙ bare.cpus)
        ∙ cpu_lines_shown (scheduler_with s (as_it_stands st)) at_end.world at_end.shows)

    told_words : words_noted (sched_notes s) THREADS st.words with_values ≡ with_values
    told_words = words_told s st.words with_values
        (subst (λ ls. AllByRecursion (λ m. (placed m ls ≡ ls) × (m.word ≡ lock_named (st.words m.id))) ls) (sym told_threads) all_stand) THREADS

    -- what was told is the outcome of the history
    told_outcome : record (end_noted (sched_notes s) st x) { room = 0 } ≡ outcome_of s lists (entries_left s table lists passes done st left)
    unfolding at_end
    told_outcome = ap (λ (o : OutcomeValue). record { entries = o.entries; threads = o.threads; cpus = o.cpus; now = st.now; room = 0 }) told_words
        ∙ (λ i. record {
          entries = told_entries i;
          threads = (told_threads ∙ ap (λ (w : World). thread_lines w.members) (sym at_end.replays.world)) i;
          cpus = (told_cpus ∙ ap (λ (w : World). w.lines) (sym at_end.replays.world)) i;
          now = now_so s table lists passes done st left i;
          room = 0;
        })

    entries_are : (end_noted (sched_notes s) st x).entries ≡ entries_left s table lists passes done st left
    entries_are = ap (λ (o : OutcomeValue). o.entries) told_outcome

    closed_so : IsClosed s lists passes (end_noted (sched_notes s) st x)
    closed_so = record {
      outcome = record {
        legal = subst (IsLegal s lists) (sym entries_are) (legal_left s table lists passes done st left);
        whole = subst (IsWhole s lists) (sym entries_are) (whole_left s table lists passes done st left);
        promise = subst (HasCalendarPromise (world_at_start s)) (sym entries_are) (worlds_left s table lists passes done st left).promise;
        lines = told_outcome ∙ ap (outcome_of s lists) (sym entries_are);
      };
      own = λ w p at j y got. let made = made_stands w st.history j y (ap (λ l. slice_get l j) (sym (its_entries s table lists passes done st left w p at)) ∙ got) in
          (made.spot, made.number, ap (λ es. slice_get es made.spot) entries_are ∙ made.stands);
      makers = λ k e at. maker k e (ap (λ es. slice_get es k) (sym entries_are) ∙ at);
    }
      where
        maker : (k : ℕ) (e : types.Entry) → slice_get (entries_left s table lists passes done st left) k ≡ Some e
            → (p : SchedPass) × (slice_get passes e.worker ≡ Some p) × (j : ℕ) × (y : ℕ × Numbered Event Reply) × (slice_get p.worker.mine j ≡ Some y) × (y.1.number ≡ k + 1)
        maker k e at = let is = stands_made st.history k e at in let low = holds_at (λ (z : types.Entry). z.worker < s.cpus) (entries_left s table lists passes done st left) k e (worlds_left s table lists passes done st left).workers at in
            let p = pass_there s table lists passes done st left e.worker low in
            (p.0, p.1, is.index, is.made, ap (λ l. slice_get l is.index) (its_entries s table lists passes done st left e.worker p.0 p.1) ∙ is.stands, is.number)

  -- the end that was told is the outcome of the play
  closed : (x y : OutcomeValue) → HasRoom s x → y ≡ end_noted (sched_notes s) st x → IsClosed s lists passes y
  closed x y bare is = subst (IsClosed s lists passes) (sym is) (closed_so x bare)

-- the same of a scheduler that is seen as this setup
pub closed_as : (v z : SmpValue) → v ≡ z → (lists : List (List Command)) (passes : List SchedPass) → AreDone z.setup z.table lists passes → (x y : OutcomeValue) → HasRoom z.setup x
    → Told (sched_means v.setup) (sched_notes v.setup) passes x y → IsClosed z.setup lists passes y
closed_as v z same lists passes done x y bare told =
    let its = subst (λ (u : SmpValue). Told (sched_means u.setup) (sched_notes u.setup) passes x y) same told in
    closed z.setup z.table lists passes done its.state its.left x y bare its.out

-- What a step touches of each thread, for lists of threads one after another.
use Rattle.std.proofs.Common.{◌≡◌, ℕ, List, [], ◌∷◌, ◌++◌, refl, sym, ◌∙◌, subst}
use Rattle.ule_score.specs.Changes.{HasNumbers, RecordChange, changed, forked, forks, placed, ran, record_after, runs, sleeps, ticked, woken}
use Rattle.ule_score.specs.declared.record.Settings.{Settings}
use Rattle.ule_score.specs.declared.record.ThreadRecord.{ThreadRecord}
use Rattle.ule_types.specs.declared.event.Event.{Event}
use Rattle.ule_model.specs.Frames.{AreTouched, ComesTo, IsSoundIn, IsTouched, as_it_was, by_change, left, reached}
use Rattle.ule_model.specs.World.{Member, World}
use Rattle.ule_score.proofs.ChangeLaws.{change_numbers, change_number, child_numbers}

-- ---- one record through changes

-- a change that a step of a world may make keeps the numbers of a record in range
pub sound_numbers : (settings : Settings) (w : World) (now : ℕ) (change : RecordChange) (r : ThreadRecord) → IsSoundIn w now change →
    HasNumbers r → HasNumbers (record_after settings now change r)
sound_numbers settings w now ran r sound has = change_numbers settings now ran r tt has
sound_numbers settings w now runs r sound has = change_numbers settings now runs r tt has
sound_numbers settings w now sleeps r sound has = change_numbers settings now sleeps r tt has
sound_numbers settings w now woken r sound has = change_numbers settings now woken r tt has
sound_numbers settings w now (ticked load) r sound has = change_numbers settings now (ticked load) r tt has
sound_numbers settings w now (placed c) r sound has = change_numbers settings now (placed c) r tt has
sound_numbers settings w now (changed change) r sound has = change_numbers settings now (changed change) r sound has
sound_numbers settings w now forks r sound has = change_numbers settings now forks r tt has
sound_numbers settings w now (forked parent c load) r sound has = child_numbers settings now parent c load r sound.0.numbers has

-- one change that a step of a world may make is a way through such changes
pub comes_by_one : (w : World) (now : ℕ) (change : RecordChange) (r : ThreadRecord) → IsSoundIn w now change → ComesTo w now r (record_after w.settings now change r)
comes_by_one w now change r sound =
    by_change change r (record_after w.settings now change r) sound (as_it_was (record_after w.settings now change r))

-- changes after changes are changes
pub comes_further : {w : World} {now : ℕ} {l m n : ThreadRecord} → ComesTo w now l m → ComesTo w now m n → ComesTo w now l n
comes_further (as_it_was r) second = second
comes_further (by_change change r m sound rest) second = by_change change r _ sound (comes_further rest second)

-- a record that went through changes has the number that it had
pub comes_number : {w : World} {now : ℕ} {r n : ThreadRecord} → ComesTo w now r n → n.id ≡ r.id
comes_number (as_it_was r) = refl
comes_number {w = w} {now = now} (by_change change r n sound rest) = comes_number rest ∙ change_number w.settings now change r

-- a record that went through changes has its numbers in range where it had them
pub comes_numbers : {w : World} {now : ℕ} {r n : ThreadRecord} → ComesTo w now r n → HasNumbers r → HasNumbers n
comes_numbers (as_it_was r) numbers = numbers
comes_numbers {w = w} {now = now} (by_change change r n sound rest) numbers =
    comes_numbers rest (sound_numbers w.settings w now change r sound numbers)

-- ---- threads

module _ (w : World) (worker : ℕ) (e : Event) (now : ℕ) where
  -- a thread that a step touches, or leaves, has the number that it had
  pub touched_number : (m n : Member) → IsTouched w worker e now m n → n.thread.id ≡ m.thread.id
  touched_number m n (left same) = subst (λ (x : Member). x.thread.id ≡ m.thread.id) same refl
  touched_number m n (reached from to through) = comes_number through

  -- a thread touched twice is touched
  pub touched_further : (l m n : Member) → IsTouched w worker e now l m → IsTouched w worker e now m n → IsTouched w worker e now l n
  touched_further l m n (left same) second = subst (λ (x : Member). IsTouched w worker e now x n) (sym same) second
  touched_further l m n (reached from to through) (left same) = subst (λ (x : Member). IsTouched w worker e now l x) same (reached from to through)
  touched_further l m n (reached from to through) (reached next last further) = reached from last (comes_further through further)

  -- threads that are left are touched by nothing
  pub untouched : (ms : List Member) → AreTouched w worker e now ms ms
  untouched [] = tt
  untouched (m ∷ ms) = (left refl, untouched ms)

  -- one thread that is touched among threads that are left
  pub touched_between : (before : List Member) (m n : Member) (after : List Member) → IsTouched w worker e now m n →
      AreTouched w worker e now (before ++ m ∷ after) (before ++ n ∷ after)
  touched_between [] m n after one = (one, untouched after)
  touched_between (b ∷ bs) m n after one = (left refl, touched_between bs m n after one)

  -- threads touched twice are touched
  pub all_touched_further : (ls ms ns : List Member) → AreTouched w worker e now ls ms → AreTouched w worker e now ms ns → AreTouched w worker e now ls ns
  all_touched_further [] [] ns first second = second
  all_touched_further [] (m ∷ ms) ns first second = absurd first
  all_touched_further (l ∷ ls) [] ns first second = absurd first
  all_touched_further (l ∷ ls) (m ∷ ms) [] first second = absurd second
  all_touched_further (l ∷ ls) (m ∷ ms) (n ∷ ns) first second =
      (touched_further l m n first.0 second.0, all_touched_further ls ms ns first.1 second.1)

-- The lines of a turn, by computing.
use Rattle.std.proofs.Common.{◌≡◌, ℕ, [], ◌∷◌, ◌++◌, Option, Some, None, codes, refl}
use Rattle.std.specs.Prelude.{◌==◌, if◌then◌else◌}
use Rattle.std.specs.Fmt.{digits}
use Rattle.ule_micro.specs.declared.entry.Entry.{Entry}
use Rattle.ule_micro.specs.declared.entry.HeldLocks.TheVariants.{One}
use Rattle.ule_micro.specs.declared.turn.StepDone.TheVariants as done
use Rattle.ule_micro.specs.declared.turn.Turn.TheVariants as turn
use Rattle.ule_micro.specs.declared.word.Word.{Word}
use Rattle.ule_micro.specs.declared.word.Word.TheVariants.{Lock, Blocked}
use Rattle.ule_prio.specs.declared.kind.Kind.TheVariants.{Batch}
use Rattle.ule_score.specs.declared.place.Place.{Place}
use Rattle.ule_score.specs.declared.place.Place.TheVariants.{Queued, Hand}
use Rattle.ule_trace.specs.Line.{line_text}
use Rattle.ule_types.specs.declared.event.Event.{Event}
use Rattle.ule_types.specs.declared.event.Event.TheVariants.{Drop}
use Rattle.ule_types.specs.declared.event.Reply.{Reply}
use Rattle.ule_types.specs.declared.event.Reply.TheVariants.{Dropped}
use Rattle.ule_weave.specs.TurnText.{held_words, locks_words, outcome_words, threads_words, turn_words}
use Rattle.ule_weave.specs.WeaveText.{done_words}

-- the second entry is a drop
made : ℕ → Option (Entry Event Reply)
made k = if k == 2 then Some (record { worker = 0; locks = One 0; now = 20000; event = Drop 0 3; reply = Dropped 0 None }) else None

-- what turns did
committed : line_text (turn_words 8 0 (outcome_words made (turn.Moved (done.Commit 2)))) ≡ codes "turn 8 w0 moved commit 2 drop 0 3 -> dropped 0 -" ++ 10 ∷ []
unfolding digits made
committed = refl

lost : line_text (turn_words 18 1 (outcome_words made (turn.Lost 0 0))) ≡ codes "turn 18 w1 lost take 0 w0" ++ 10 ∷ []
unfolding digits
lost = refl

blocked : line_text (turn_words 9 1 (outcome_words made (turn.Blocked 0))) ≡ codes "turn 9 w1 blocked read 0 b" ++ 10 ∷ []
unfolding digits
blocked = refl

read_blocked : line_text (turn_words 19 1 (outcome_words made (turn.Moved (done.Read 0 Blocked)))) ≡ codes "turn 19 w1 moved read 0 b" ++ 10 ∷ []
unfolding digits
read_blocked = refl

pointed : line_text (turn_words 14 0 (outcome_words made (turn.Moved (done.Point 0 19)))) ≡ codes "turn 14 w0 moved point 0 19" ++ 10 ∷ []
unfolding digits
pointed = refl

finished : line_text (turn_words 3 1 (outcome_words made turn.Finished)) ≡ codes "turn 3 w1 finished" ++ 10 ∷ []
unfolding digits
finished = refl

-- what stands behind turns
one_held : line_text (locks_words (λ l. if l == 19 then Some 1 else None)) ≡ codes "locks 19=w1" ++ 10 ∷ []
unfolding digits held_words
one_held = refl

two_held : line_text (locks_words (λ l. if l == 0 then Some 0 else (if l == 24 then Some 15 else None))) ≡ codes "locks 0=w0 24=w15" ++ 10 ∷ []
unfolding digits held_words
two_held = refl

none_held : line_text (locks_words (λ l. None)) ≡ codes "locks -" ++ 10 ∷ []
unfolding held_words
none_held = refl

-- the word and the place of threads 0 and 1
word_of : ℕ → Word
word_of t = if t == 0 then Blocked else Lock 1

place_of : ℕ → Option Place
place_of t = Some (if t == 0 then Hand 0 else Queued 1 Batch 17)

two_stand : line_text (threads_words word_of place_of (0 ∷ 1 ∷ [])) ≡ codes "threads 0:b@h0 1:1@q1.batch.17" ++ 10 ∷ []
unfolding digits word_of place_of
two_stand = refl

none_stands : line_text (threads_words word_of place_of []) ≡ codes "threads -" ++ 10 ∷ []
none_stands = refl

last_line : line_text (done_words 31 6) ≡ codes "done 31 6" ++ 10 ∷ []
unfolding digits
last_line = refl

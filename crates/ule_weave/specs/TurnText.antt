-- The words of what a turn did, and of what stands behind it: the held locks, and each thread's word and place.
use Rattle.std.specs.Prelude.{◌≡◌, ℕ, ◌-◌, ◌<◌, ◌≤◌, List, [], ◌∷◌, ◌++◌, Option, Some, None, slice_get, codes}
use Rattle.std.specs.Fmt.{decimal}
use Rattle.std.specs.List.{filter_map, range_with_len}
use Rattle.std.specs.Option.{option_map}
use Rattle.ule_micro.specs.declared.entry.Entry.{Entry}
use Rattle.ule_micro.specs.declared.locks.TheConstants.{LOCKS}
use Rattle.ule_micro.specs.declared.turn.StepDone.{StepDone}
use Rattle.ule_micro.specs.declared.turn.StepDone.TheVariants as done
use Rattle.ule_micro.specs.declared.turn.Turn.{Turn}
use Rattle.ule_micro.specs.declared.turn.Turn.TheVariants as turn
use Rattle.ule_micro.specs.declared.word.Word.{Word}
use Rattle.ule_micro.specs.declared.word.Word.TheVariants.{Lock, Blocked}
use Rattle.ule_micro.specs.States.{State}
use Rattle.ule_score.specs.declared.place.Place.{Place}
use Rattle.ule_trace.specs.EventText.{event_words}
use Rattle.ule_trace.specs.FinalText.{lock_word}
use Rattle.ule_trace.specs.Line.{worker_word}
use Rattle.ule_trace.specs.PlaceText.{place_word}
use Rattle.ule_trace.specs.ReplyText.{reply_words}
use Rattle.ule_types.specs.declared.event.Event.{Event}
use Rattle.ule_types.specs.declared.event.Reply.{Reply}

-- ---- what a turn did

-- lock named: the lock that a thread's word names, or none where it is blocked
abbrev pub lock_named : Word → Option ℕ
lock_named (Lock l) = Some l
lock_named Blocked = None

module _ {O G : Type 0} where
  -- entry at: the entry of this number, from 1
  abbrev pub entry_at : State O G Event Reply → ℕ → Option (Entry Event Reply)
  entry_at x k = slice_get x.history (x.ticket - k)

  -- tells entry of: the entry that a step is said to have made is there
  abbrev pub TellsEntryOf : State O G Event Reply → StepDone → Type 0
  TellsEntryOf x step = (k : ℕ) → step ≡ done.Commit k → (0 < k) × (k ≤ x.ticket)

  -- tells entry: the entry that a turn is said to have made is there
  abbrev pub TellsEntry : State O G Event Reply → Turn → Type 0
  TellsEntry x did = (k : ℕ) → did ≡ turn.Moved (done.Commit k) → (0 < k) × (k ≤ x.ticket)

-- entry words: the event and the reply of an entry, of which there is one
abbrev pub entry_words : Option (Entry Event Reply) → List (List ℕ)
entry_words None = []
entry_words (Some x) = event_words x.event ++ codes "->" ∷ reply_words x.reply

-- step words: a step, where these are the entries by their numbers
abbrev pub step_words : (ℕ → Option (Entry Event Reply)) → StepDone → List (List ℕ)
step_words entry (done.Read t word) = codes "read" ∷ decimal t ∷ lock_word (lock_named word) ∷ []
step_words entry (done.Take l) = codes "take" ∷ decimal l ∷ []
step_words entry (done.Release l) = codes "release" ∷ decimal l ∷ []
step_words entry (done.Commit k) = codes "commit" ∷ decimal k ∷ entry_words (entry k)
step_words entry (done.Block t) = codes "block" ∷ decimal t ∷ []
step_words entry (done.Point t l) = codes "point" ∷ decimal t ∷ decimal l ∷ []
step_words entry (done.Now n) = codes "now" ∷ decimal n ∷ []
step_words entry (done.Advance k) = codes "advance" ∷ decimal k ∷ []

-- outcome words: what a turn did
abbrev pub outcome_words : (ℕ → Option (Entry Event Reply)) → Turn → List (List ℕ)
outcome_words entry (turn.Moved step) = codes "moved" ∷ step_words entry step
outcome_words entry (turn.Lost lock holder) = codes "lost" ∷ codes "take" ∷ decimal lock ∷ worker_word holder ∷ []
outcome_words entry (turn.Blocked thread) = codes "blocked" ∷ codes "read" ∷ decimal thread ∷ codes "b" ∷ []
outcome_words entry turn.Finished = codes "finished" ∷ []

-- turn words: the line of a turn, by its number, its worker and what it did
abbrev pub turn_words : ℕ → ℕ → List (List ℕ) → List (List ℕ)
turn_words i w outcome = codes "turn" ∷ decimal i ∷ worker_word w ∷ outcome

-- ---- what stands behind it

-- or dash: these words, or a dash where there is none
abbrev pub or_dash : List (List ℕ) → List (List ℕ)
or_dash [] = codes "-" ∷ []
or_dash (w ∷ words) = w ∷ words

-- held word: a lock with its holder, where one holds it
abbrev pub held_word : ℕ → Option ℕ → Option (List ℕ)
held_word l holder = option_map (λ w. decimal l ++ codes "=" ++ worker_word w) holder

-- held words: the held locks in rising number, where these are the locks' holders
unfoldable pub held_words : (ℕ → Option ℕ) → List (List ℕ)
held_words holder = filter_map (λ l. held_word l (holder l)) (range_with_len 0 LOCKS)

-- locks words: the line of the held locks
abbrev pub locks_words : (ℕ → Option ℕ) → List (List ℕ)
locks_words holder = codes "locks" ∷ or_dash (held_words holder)

-- thread word: a thread with its word and its place
abbrev pub thread_word : ℕ → Word → Place → List ℕ
thread_word t word place = decimal t ++ codes ":" ++ lock_word (lock_named word) ++ codes "@" ++ place_word place

-- thread told: a thread with its word and its place, where it has one
abbrev pub thread_told : (ℕ → Word) → (ℕ → Option Place) → ℕ → Option (List ℕ)
thread_told words places t = option_map (thread_word t (words t)) (places t)

-- threads words: the line of those of these threads that have a place, where these are the threads' words and places
abbrev pub threads_words : (ℕ → Word) → (ℕ → Option Place) → List ℕ → List (List ℕ)
threads_words words places ids = codes "threads" ∷ or_dash (filter_map (thread_told words places) ids)

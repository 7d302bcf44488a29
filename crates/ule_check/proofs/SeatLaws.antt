-- A seat goes on as the definition's next event does.
use Rattle.std.proofs.Common.{◌≡◌, ℕ, ◌+◌, ◌^◌, ◌<◌, ◌≤◌, true, false, List, [], ◌∷◌, drop, is_some, length, slice_get, Option, Some, None, refl, sym, ◌∙◌, ap, subst, arith}
use Rattle.std.specs.Option.{option_map}
use Rattle.std.proofs.lemmas.Bool.{false≢true, true≢false}
use Rattle.std.proofs.lemmas.List.{drop_all}
use Rattle.std.proofs.lemmas.List.Sums.{sum_by-cons}
use Rattle.ule_types.specs.Commands.{amount_of}
use Rattle.ule_types.specs.declared.command.Command.{Command}
use Rattle.ule_types.specs.declared.event.Event.{Event}
use Rattle.ule_types.specs.declared.event.Item.{Item}
use Rattle.ule_types.specs.declared.event.Item.TheVariants as item
use Rattle.ule_types.specs.declared.event.Reply.{Reply}
use Rattle.ule_types.specs.declared.setup.Setup.{Setup}
use Rattle.ule_program.specs.Laws.{time_at}
use Rattle.ule_program.specs.Program.{begun, heard, item_at, next_of, told_last}
use Rattle.ule_program.specs.declared.own.Own.{Own}
use Rattle.ule_program.specs.declared.stage.Stage.{Stage}
use Rattle.ule_program.specs.declared.stage.Stage.TheVariants.{Advances, Ended, Gives}
use Rattle.ule_program.proofs.Following.{after_goes_on, begun_adds}
use Rattle.ule_model.specs.Legal.{amount_in}
use Rattle.ule_members.proofs.Lists.{drop_at}
use Rattle.ule_seq.specs.Playing.{script_of}
use Rattle.ule_check.specs.Judge.{Due, due_of, event_or, next_event}
use Rattle.ule_check.specs.Seats.{comes_next, course_at, due_by, due_in, due_or, event_in, later_due, ticks_in, time_ahead, time_behind}
use Rattle.ule_check.specs.declared.seat.Seat.{Seat}

-- ---- the next event

-- what is due of an item that is an event, with the commands not begun, the worker's own part and the time added then
abbrev due_at_item : List Command → Own → ℕ → Option Item → Option Due
due_at_item script own amount o = option_map (λ e. record { event = e; course = record { script = script; own = own; last = None }; amount = amount + ticks_in o }) (event_in o)

-- what is due is the event of the next item, or else that of the commands not begun
next_event_is : (script : List Command) (own : Own) (last : Option (Reply × ℕ)) (amount : ℕ) →
    next_event script own last amount ≡
    due_or (due_at_item script (next_of last own).1 amount (next_of last own).0) (later_due script (next_of last own).1 (amount + ticks_in (next_of last own).0))
unfolding next_event
next_event_is [] own last amount = at_item (next_of last own).0
  where
    at_item : (o : Option Item) → event_or [] (next_of last own).1 amount o (λ passed. None) ≡ due_or (due_at_item [] (next_of last own).1 amount o) None
    at_item None = refl
    at_item (Some (item.Event e)) =
        let same : amount ≡ amount + 0 = omega arith in ap (λ (n : ℕ). Some (record { event = e; course = record { script = []; own = (next_of last own).1; last = None }; amount = n })) same
    at_item (Some (item.Advance k)) = refl
next_event_is (c ∷ cs) own last amount = at_item (next_of last own).0
  where
    at_item : (o : Option Item) →
        event_or (c ∷ cs) (next_of last own).1 amount o (λ passed. next_event cs (begun c (next_of last own).1) None passed) ≡
        due_or (due_at_item (c ∷ cs) (next_of last own).1 amount o) (next_event cs (begun c (next_of last own).1) None (amount + ticks_in o))
    at_item None = let same : amount ≡ amount + 0 = omega arith in ap (λ (n : ℕ). next_event cs (begun c (next_of last own).1) None n) same
    at_item (Some (item.Event e)) =
        let same : amount ≡ amount + 0 = omega arith in ap (λ (n : ℕ). Some (record { event = e; course = record { script = c ∷ cs; own = (next_of last own).1; last = None }; amount = n })) same
    at_item (Some (item.Advance k)) = refl

-- a seat once the next item of its command begun is given, where this stands for what it was told
abbrev pub item_given : Seat → Option (Reply × ℕ) → Seat
item_given x last = record x {
  program = (next_of last x.program).1;
  amount = x.amount + ticks_in (next_of last x.program).0;
  event = event_in (next_of last x.program).0;
}

-- the seat that the code makes of it
pub told : (x : Seat) (last : Option (Reply × ℕ)) (new : Seat) (found : Option Event) →
    new ≡ record x { program = (next_of last x.program).1; amount = x.amount + ticks_in (next_of last x.program).0 } → found ≡ event_in (next_of last x.program).0 →
    record new { event = found } ≡ item_given x last
told x last new found after is = (λ i. record (after i) { event = is i })

-- it comes to what was due
pub told_comes : (s : Setup) (worker : ℕ) (x : Seat) (last : Option (Reply × ℕ)) → due_of x.amount (course_at s worker x last) ≡ comes_next s worker (item_given x last)
told_comes s worker x last = next_event_is (drop x.next (script_of s worker)) x.program last x.amount

-- a seat with an event has come to it
pub event_waits : (s : Setup) (worker : ℕ) (x : Seat) → is_some x.event ≡ true → comes_next s worker x ≡ due_in s worker x
event_waits s worker x some = at_event x.event some
  where
    at_event : (o : Option Event) → is_some o ≡ true →
        due_or (option_map (due_by s worker x) o) (later_due (drop x.next (script_of s worker)) x.program x.amount) ≡ option_map (due_by s worker x) o
    at_event None none = absurd (false≢true none)
    at_event (Some e) some = refl

-- so has one that has no command left
pub none_waits : (s : Setup) (worker : ℕ) (x : Seat) → length (script_of s worker) ≤ x.next → comes_next s worker x ≡ due_in s worker x
none_waits s worker x past =
    ap (λ (script : List Command). due_or (due_in s worker x) (later_due script x.program x.amount)) (drop_all x.next (script_of s worker) past) ∙ or_nothing (due_in s worker x)
  where
    or_nothing : (o : Option Due) → due_or o None ≡ o
    or_nothing None = refl
    or_nothing (Some d) = refl

-- a seat with a command begun
abbrev pub command_begun : Seat → Command → Seat
command_begun x c = record x { next = x.next + 1; program = begun c x.program }

-- the seat that the code makes of it
pub further : (x : Seat) (c : Command) (mid : Own) (new : Seat) (found : Option Event) → mid ≡ begun c x.program →
    new ≡ record x { next = x.next + 1; program = (next_of None mid).1; amount = x.amount + ticks_in (next_of None mid).0 } → found ≡ event_in (next_of None mid).0 →
    record new { event = found } ≡ item_given (command_begun x c) None
further x c mid new found mid_is after is = told (record x { next = x.next + 1; program = mid }) None new found after is ∙
    ap (λ (p : Own). item_given (record x { next = x.next + 1; program = p }) None) mid_is

-- a seat without an event comes to what its next command, once begun, gives
pub begins_next : (s : Setup) (worker : ℕ) (x : Seat) (c : Command) → is_some x.event ≡ false → slice_get (script_of s worker) x.next ≡ Some c →
    comes_next s worker x ≡ comes_next s worker (item_given (command_begun x c) None)
begins_next s worker x c none got =
    ap (λ (o : Option Event). due_or (option_map (due_by s worker x) o) (later_due (drop x.next (script_of s worker)) x.program x.amount)) (none_is x.event none) ∙
    ap (λ (script : List Command). later_due script x.program x.amount) (drop_at (script_of s worker) x.next c got) ∙
    told_comes s worker (command_begun x c) None
  where
    none_is : (o : Option Event) → is_some o ≡ false → o ≡ None
    none_is None is = refl
    none_is (Some e) is = absurd (true≢false is)

-- ---- time

-- an item adds no more time than its stage has
ticks_within : (st : Stage) → ticks_in (item_at st) ≤ time_at st
ticks_within Ended = omega arith
ticks_within (Advances k) = omega arith
ticks_within (Gives e next) = omega arith

-- once the next item is given there is no more time than before
pub given_time : (s : Setup) (worker : ℕ) (x : Seat) (last : Option (Reply × ℕ)) → time_ahead s worker (item_given x last) ≤ time_behind s worker x last
given_time s worker x last = omega (arith, ticks_within (told_last last x.program).stage)

-- a command that is begun has its own time
pub begun_time : (s : Setup) (worker : ℕ) (x : Seat) (c : Command) → slice_get (script_of s worker) x.next ≡ Some c → time_behind s worker (command_begun x c) None ≤ time_ahead s worker x
begun_time s worker x c got =
    let all : amount_in (drop x.next (script_of s worker)) ≡ amount_in (c ∷ drop (x.next + 1) (script_of s worker)) = ap amount_in (drop_at (script_of s worker) x.next c got) in
    omega (arith, all, (begun_adds c x.program).1, sum_by-cons amount_of c (drop (x.next + 1) (script_of s worker)))

-- behind the reply to an event a command adds no time
pub told_adds : (own : Own) (reply : Reply) (now : ℕ) → time_at (told_last (Some (reply, now)) own).stage ≡ 0
told_adds own reply now = at_stage own.stage
  where
    at_stage : (st : Stage) → time_at (heard st reply now (record own { stage = st })).stage ≡ 0
    at_stage Ended = refl
    at_stage (Advances k) = refl
    at_stage (Gives e next) = (after_goes_on next reply now (record own { stage = Gives e next })).1

-- so a seat has no more time behind it than before
pub told_time : (s : Setup) (worker : ℕ) (x : Seat) (reply : Reply) (now : ℕ) → time_behind s worker x (Some (reply, now)) ≡ time_ahead s worker x
told_time s worker x reply now = omega (arith, told_adds x.program reply now)

-- the time that the next item adds fits, where all that is ahead does
pub begun_fits : (s : Setup) (worker : ℕ) (x : Seat) (c : Command) (mid : Own) → mid ≡ begun c x.program → slice_get (script_of s worker) x.next ≡ Some c → time_ahead s worker x < 2 ^ 64 →
    x.amount + ticks_in (item_at mid.stage) < 2 ^ 64
begun_fits s worker x c mid is got fits =
    subst (λ (p : Own). x.amount + ticks_in (item_at p.stage) < 2 ^ 64) (sym is)
    (omega (arith, given_time s worker (command_begun x c) None, begun_time s worker x c got, fits))

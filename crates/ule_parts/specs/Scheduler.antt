-- What the parts of a scheduler mean for the scheduler of a setup.
use Rattle.std.specs.Prelude.{◌≡◌, ℕ, ◌<◌, true, is_some, List, [], length, slice_index_or, Option, Some, None, IfSome, option_and_then}
use Rattle.std.specs.List.{AllByRecursion}
use Rattle.ule_score.specs.declared.record.ThreadRecord.{ThreadRecord}
use Rattle.ule_types.specs.Commands.{greatest_of, is_among}
use Rattle.ule_types.specs.declared.command.Command.{Command}
use Rattle.ule_types.specs.declared.event.Event.{Event}
use Rattle.ule_types.specs.declared.event.Reply.{Reply}
use Rattle.ule_types.specs.declared.setup.Setup.{Setup}
use Rattle.ule_model.specs.Conditions.{IsPossible}
use Rattle.ule_model.specs.Events.{locking, locks_of}
use Rattle.ule_model.specs.History.{KeepsRecords}
use Rattle.ule_model.specs.LockValue.{LockValue, has_under}
use Rattle.ule_program.specs.Hearing.{CanHear}
use Rattle.ule_program.specs.Program.{begun, next_of}
use Rattle.ule_model.specs.OpeningValues.{opening_scheduler}
use Rattle.ule_model.specs.Places.{lock_of}
use Rattle.ule_model.specs.Shows.{numbers_of}
use Rattle.ule_model.specs.Start.{world_at_start}
use Rattle.ule_model.specs.WellMade.{IsWellMadeWorld}
use Rattle.ule_model.specs.Words.{change_of}
use Rattle.ule_model.specs.World.{World, thread_of}
use Rattle.ule_model.specs.WorldValue.{Shows, WorldValue, held_by, if_thread}
use Rattle.ule_micro.specs.declared.locks.TheConstants.{LIMBO}
use Rattle.ule_micro.specs.Means.{Means}
use Rattle.ule_micro.specs.Laws.{total_charge}
use Rattle.ule_parts.specs.Acts.{AreAt, act_on, needs_of, todo_of, word_change_of}
use Rattle.ule_parts.specs.Workers.{AsksFor, IsValid, Stands, Worker, declared_ids_of, left_at, owns_from}

-- lock or limbo: the lock of a place, or limbo's where there is none
abbrev pub lock_or_limbo : Option ℕ → ℕ
lock_or_limbo None = LIMBO
lock_or_limbo (Some l) = l

module _ (s : Setup) where
  -- orders of: the commands of a worker's script
  abbrev pub orders_of : ℕ → List Command
  orders_of w = slice_index_or s.scripts w []

  -- budget of: the greatest number of items of a worker's script
  abbrev pub budget_of : ℕ → ℕ
  budget_of w = total_charge (λ c. greatest_of c w s.cpus) (orders_of w)

  -- opening word: the lock that a thread's word names at the start
  abbrev pub opening_word : ℕ → ℕ
  opening_word t = lock_or_limbo (option_and_then (λ m. lock_of m.place) (thread_of t (world_at_start s).members))

  -- is world of: a world of the setup, in which each record keeps its bounds, and names CPUs and a parent that there are
  pub record IsWorldOf (x : World) : Type 0 where
    pub settings : x.settings ≡ s.settings
    pub lines : length x.lines ≡ s.cpus
    pub numbers : numbers_of x.members ≡ declared_ids_of s
    pub made : IsWellMadeWorld x
    pub bounds : KeepsRecords x
    pub bound : AllByRecursion (λ m. IfSome m.thread.bound (λ c. c < s.cpus)) x.members
    pub last : AllByRecursion (λ m. m.thread.last < s.cpus) x.members
    pub parents : AllByRecursion (λ m. IfSome m.thread.parent (λ p. is_among (declared_ids_of s) p ≡ true)) x.members

  -- may act: some scheduler shows such a world, in which the event is possible, with this hand and these values under the event's locks
  pub record MayAct (w : ℕ) (e : Event) (now : ℕ) (hand : Option ThreadRecord) (guarded : List LockValue) : Type 0 where
    pub value : WorldValue
    pub world : World
    pub shows : Shows value world
    pub is_world : IsWorldOf world
    pub possible : IsPossible world w e now
    pub hand_is : held_by value w ≡ hand
    pub guarded_are : AreAt value.values (locks_of world e) guarded

  -- sched means: what the parts mean for the scheduler of a setup
  abbrev pub sched_means : Means (Option ThreadRecord) Worker LockValue Event Reply Command
  sched_means = record {
    declared = λ t. is_among (declared_ids_of s) t;
    stands_in = has_under;
    carried_in = λ hand t. is_some (if_thread t hand);
    values = (opening_scheduler s).values;
    owns = owns_from s 0 s.cpus;
    word = opening_word;
    budget = budget_of;
    number = λ o. o.program.worker;
    hand = λ o. o.hand;
    with_hand = λ o hand. record { program = o.program; hand = hand };
    needs = λ e. needs_of (locking e);
    asks = AsksFor s;
    may = MayAct;
    act = act_on s.settings;
    change = λ e r. word_change_of (change_of e r);
    valid = IsValid s;
    charge = λ w c. greatest_of c w s.cpus;
    stands = Stands s;
    left = λ o at. left_at o.program at;
    begins = λ o c. Unit {0};
    begin = λ o c. record { program = begun c o.program; hand = o.hand };
    goes_on = λ o told. CanHear told o.program;
    next = λ o told. (todo_of (next_of told o.program).0, record { program = (next_of told o.program).1; hand = o.hand });
  }

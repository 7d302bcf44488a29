-- What every program keeps: the CPUs and groups that it names are there.
use Rattle.std.proofs.Common.{ℕ, ◌==◌, true, Option, Some, None, [], sym, subst, arith}
use Rattle.std.proofs.lemmas.Bool.{cond_both}
use Rattle.ule_types.specs.declared.command.Command.{Command}
use Rattle.ule_types.specs.declared.command.Command.TheVariants as command
use Rattle.ule_types.specs.declared.event.Reply.{Reply}
use Rattle.ule_topo.specs.Tree.{Tree}
use Rattle.ule_program.specs.Hearing.{AllowsAt, CanFollow, CanHear, CanHearAt, IsSeat, IsSoundNext, IsSoundOwn, IsSoundPurpose, IsSoundStage}
use Rattle.ule_program.specs.Laws.{LeadsTo, hand_after}
use Rattle.ule_program.specs.Program.{Own, Next, Charges, Moves, Purpose, Sees, Steals, Stage, Ended, Advances, Gives, after, after_giving, begun, heard, looks_for, most_after, next_of, once_given, stops, told_last, ToSteal, ToBalance}
use Rattle.ule_program.proofs.ProgramLaws.{to_after}

-- a sound program can go on from what it may be told
pub can_hear : (own : Own) (r : Reply) (now : ℕ) → IsSoundOwn own → AllowsAt own own.stage r now → CanHearAt own own.stage r now
can_hear own r now sound allowed = at_stage own.stage sound.stage_is allowed
  where
    at_stage : (st : Stage) → IsSoundStage own st → AllowsAt own st r now → CanHearAt own st r now
    at_stage Ended kept may = tt
    at_stage (Advances k) kept may = tt
    at_stage (Gives e next) kept may = record { seat = sound.seat; sound = kept; allows = may }

-- looks at all CPUs
looks_sound : (purpose : Purpose) (own : Own) → IsSeat own.worker own.topology → IsSoundPurpose own.topology.cpus purpose → IsSoundOwn (looks_for purpose own)
looks_sound purpose own seat sound = record { seat = seat; stage_is = record { more = omega (arith, seat.within); purpose_is = sound } }

-- a command that is begun
pub begun_sound : (c : Command) (own : Own) → IsSeat own.worker own.topology → IsSoundOwn (begun c own)
begun_sound command.Idle own seat = looks_sound ToSteal own seat tt
begun_sound command.Balance own seat =
    cond_both (own.topology.cpus == 1) (stops own) (looks_for ToBalance own) IsSoundOwn (λ one. record { seat = seat; stage_is = tt }) (λ more. looks_sound ToBalance own seat tt)
begun_sound _ own seat = record { seat = seat; stage_is = tt }

-- where a worker comes to is sound
led_sound : (own new : Own) (now n : ℕ) (held : Option ℕ) → IsSeat own.worker own.topology → LeadsTo (λ t. true) own.worker own.topology now n 0 [] held new → IsSoundOwn new
led_sound own new now n held seat led = record {
  seat = subst (λ w. IsSeat w new.topology) (sym led.same_worker) (subst (λ (t : Tree). IsSeat own.worker t) (sym led.same_topology) seat);
  stage_is = led.sound;
}

-- what follows a reply
after_sound : (own : Own) (next : Next) (r : Reply) (now : ℕ) → CanFollow own next r now → IsSoundOwn (after next r now own)
after_sound own (Charges (Some parent) run) r now follow = record { seat = follow.seat; stage_is = tt }
after_sound own (Charges None run) r now follow = record { seat = follow.seat; stage_is = tt }
after_sound own next r now follow =
    led_sound own (after next r now own) now (most_after next own) (hand_after next r) follow.seat (to_after (λ t. true) own next r now follow.seat follow.sound tt follow.allows)

-- a worker once it is told
told_sound : (last : Option (Reply × ℕ)) (own : Own) → IsSoundOwn own → CanHear last own → IsSoundOwn (told_last last own)
told_sound None own sound may = sound
told_sound (Some told) own sound may = at_stage own.stage (can_hear own told.0 told.1 sound may)
  where
    at_stage : (st : Stage) → CanHearAt own st told.0 told.1 → IsSoundOwn (heard st told.0 told.1 own)
    at_stage Ended can = sound
    at_stage (Advances k) can = record { seat = sound.seat; stage_is = tt }
    at_stage (Gives e next) can = after_sound own next told.0 told.1 can

-- a worker once its item is given
given_sound : (own : Own) → IsSoundOwn own → IsSoundOwn (once_given own)
given_sound own sound = record { seat = sound.seat; stage_is = at_stage own.stage sound.stage_is }
  where
    at_stage : (st : Stage) → IsSoundStage own st → IsSoundStage (once_given own) (after_giving st)
    at_stage Ended kept = tt
    at_stage (Advances k) kept = tt
    at_stage (Gives e next) kept = kept_given next kept
      where
        kept_given : (x : Next) → IsSoundNext own x → IsSoundNext (once_given own) x
        kept_given (Sees purpose) is = is
        kept_given (Steals v g mask) is = is
        kept_given (Moves plan low left) is = is
        kept_given _ is = tt

-- a program that goes on stays sound
pub next_sound : (last : Option (Reply × ℕ)) (own : Own) → IsSoundOwn own → CanHear last own → IsSoundOwn (next_of last own).1
next_sound last own sound may = given_sound (told_last last own) (told_sound last own sound may)

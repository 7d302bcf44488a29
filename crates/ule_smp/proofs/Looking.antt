-- A look as a command: its one event, and what the reply to it says.
use Rattle.std.proofs.Common.{◌≡◌, ℕ, [], ◌∷◌, Option, refl, sym, ap, subst, ◌∙◌}
use Rattle.std.proofs.lemmas.Option.{same_Some}
use Rattle.ule_score.specs.declared.record.ThreadRecord.{ThreadRecord}
use Rattle.ule_types.specs.declared.command.Command.TheVariants.{Look}
use Rattle.ule_types.specs.declared.event.Event.{Event}
use Rattle.ule_types.specs.declared.event.Event.TheVariants as event
use Rattle.ule_types.specs.declared.event.Reply.{Reply}
use Rattle.ule_types.specs.declared.setup.Setup.{Setup}
use Rattle.ule_program.specs.Hearing.{IsSmallLook}
use Rattle.ule_model.specs.Events.{locking}
use Rattle.ule_model.specs.LockValue.{LockValue}
use Rattle.ule_model.specs.Step.{step}
use Rattle.ule_courses.proofs.Replies.{step_replies}
use Rattle.ule_micro.specs.declared.todo.Todo.{Todo}
use Rattle.ule_micro.specs.declared.todo.Todo.TheVariants as todo
use Rattle.ule_parts.specs.Acts.{AreAt, act_on, needs_of}
use Rattle.ule_parts.specs.Scheduler.{sched_means}
use Rattle.ule_parts.specs.Workers.{Worker, declared_ids_of}
use Rattle.ule_parts.proofs.Locks.{FindsLocks, IsActed, acted_shows, locks_of_possible}
use Rattle.ule_smp.specs.Looks.{HasSeen}
use Rattle.ule_smp.specs.Runs.{IsOneUnder}
use Rattle.ule_smp.specs.Taken.{ActsSo}

-- event in: the event that an item is, or this one
abbrev event_in : Event → Todo Event → Event
event_in other (todo.Event e) = e
event_in other (todo.Advance k) = other

module _ (s : Setup) (c : ℕ) where
  -- look is one: a look is one event, under the lock of its CPU
  pub look_is_one : (o : Worker) → IsOneUnder (sched_means s) c (Look c) o
  look_is_one o = record {
    event = event.Look c;
    item = refl;
    needs = λ e is. ap (λ x. needs_of (locking (event_in (event.Look c) x))) (sym (same_Some (todo.Event (event.Look c)) (todo.Event e) is));
    last = λ hand told. refl;
  }

  module _ (w now : ℕ) (hand : Option ThreadRecord) (v : LockValue) (r : Reply) (acts : ActsSo (sched_means s) w hand (v ∷ []) (event.Look c) (r, now)) where
    -- locks found: the world in which the look may be performed has its lock
    locks_found : FindsLocks s acts.may.value acts.may.world (locking (event.Look c))
    locks_found = locks_of_possible s acts.may.value acts.may.world w (event.Look c) now acts.may.shows acts.may.possible

    -- acted: the look on the value under the lock is the look at that world
    acted : IsActed acts.may.value acts.may.world w (event.Look c) now locks_found.held (act_on s.settings w (event.Look c) now hand (v ∷ []))
    acted = acted_shows s acts.may.value acts.may.world w (event.Look c) now locks_found.held (v ∷ []) hand acts.may.shows acts.may.possible locks_found.has.numbers
        (subst (λ ls. AreAt acts.may.value.values ls (v ∷ [])) locks_found.has.numbers acts.may.guarded_are) acts.may.hand_is (acts.may.shows.settings ∙ acts.may.is_world.settings)

    -- reply of step: the reply is that of the step of that world
    reply_of_step : r ≡ (step acts.may.world w (event.Look c) now).1
    reply_of_step = acts.is_reply ∙ acted.reply

    -- look seen: the reply to a look says a load, a movable count and a low priority
    pub look_seen : HasSeen r
    look_seen = record {
      load = _;
      movable = _;
      low = _;
      is = reply_of_step;
      small = subst IsSmallLook (sym reply_of_step)
          (step_replies (declared_ids_of s) s.cpus acts.may.world w now
          (record { bound = acts.may.is_world.bound; last = acts.may.is_world.last; parents = acts.may.is_world.parents; bounds = acts.may.is_world.bounds; made = acts.may.is_world.made.members })
          (event.Look c) acts.may.possible.declared tt acts.may.possible.in_time);
    }

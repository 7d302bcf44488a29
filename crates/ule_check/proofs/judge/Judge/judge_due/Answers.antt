-- Each test of the code is a fault of the definition; an entry on time is performed.
use Rattle.std.proofs.Common.{◌≡◌, true, false, sym, ◌∙◌, arith}
use Rattle.std.proofs.lemmas.Option.{slice_get_within}
use Rattle.ule_seq.specs.Locks.{lock_list}
use Rattle.ule_check.specs.Seats.{due_by}
use Rattle.ule_check.proofs.JudgeLaws.{is_timely, judged_event, judged_hand, judged_now, seat_fits, seat_there}
use Rattle.ule_check.proofs.judge.Judge.judge_due.Goals as goal

pub returns-in-Some : goal.returns-in-Some
returns-in-Some c n j judge =
    let at = seat_there c.args.self.now.seats.items c.args.e.worker c.args.due c.requires.due in
    judged_event c.args.s.now n c.args.self.now j judge c.args.e at.0 c.args.due at.1 at.2 _ c.in-Some.why (sym c.event_fault.ensures ∙ c.in-Some.is)

pub returns-in-Some-hand_fault : goal.returns-in-Some-hand_fault
returns-in-Some-hand_fault c n j judge =
    let at = seat_there c.args.self.now.seats.items c.args.e.worker c.args.due c.requires.due in
    judged_hand c.args.s.now n c.args.self.now j judge c.args.e at.0 c.args.due at.1 at.2 _ c.in-Some-hand_fault.why (sym c.event_fault.ensures ∙ c.in_default.is)
    (sym (c.hand_fault.ensures j.world judge.world) ∙ c.in-Some-hand_fault.is)

pub keeps_time-requires-clause-worker : goal.keeps_time-requires-clause-worker
keeps_time-requires-clause-worker c =
    let at = seat_there c.args.self.now.seats.items c.args.e.worker c.args.due c.requires.due in
    slice_get_within c.args.self.now.seats.items c.args.e.worker at.0 at.1

pub keeps_time-requires-clause-fits : goal.keeps_time-requires-clause-fits
keeps_time-requires-clause-fits c x got =
    omega (arith, seat_fits c.args.s.now c.requires.judge.0 c.args.self.now c.requires.judge.1 c.requires.judge.2 c.args.e.worker x got)

pub returns-then-not-keeps_time : goal.returns-then-not-keeps_time
returns-then-not-keeps_time c n j judge =
    let at = seat_there c.args.self.now.seats.items c.args.e.worker c.args.due c.requires.due in
    let broken : c.keeps_time.result ≡ false = grind arith in
    judged_now c.args.s.now n c.args.self.now j judge c.args.e at.0 c.args.due at.1 at.2 (sym c.event_fault.ensures ∙ c.in_default.is)
    (sym (c.hand_fault.ensures j.world judge.world) ∙ c.in_default-hand_fault.is) (lock_list c.locks-locks.result) (c.locks-locks.ensures.locks j.world judge.world) c.locks-locks.ensures.within
    c.keeps_time.result (c.keeps_time.ensures at.0 at.1) _ broken

pub perform-requires-clause-timely : goal.perform-requires-clause-timely
perform-requires-clause-timely c =
    let n = c.requires.judge.0 in
    let j = c.requires.judge.1 in
    let judge = c.requires.judge.2 in
    let at = seat_there c.args.self.now.seats.items c.args.e.worker c.args.due c.requires.due in
    let kept : c.keeps_time.result ≡ true = grind arith in (
      n,
      j,
      due_by c.args.s.now c.args.e.worker at.0 c.args.due,
      judge,
      is_timely c.args.s.now n c.args.self.now j judge c.args.e at.0 c.args.due at.1 at.2 (sym c.event_fault.ensures ∙ c.in_default.is)
          (sym (c.hand_fault.ensures j.world judge.world) ∙ c.in_default-hand_fault.is) (lock_list c.locks-locks.result) (c.locks-locks.ensures.locks j.world judge.world)
          c.locks-locks.ensures.within c.keeps_time.result (c.keeps_time.ensures at.0 at.1) kept,
      c.locks-locks.ensures.locks j.world judge.world,
    )

pub returns : goal.returns
returns c n j judge =
    let at = seat_there c.args.self.now.seats.items c.args.e.worker c.args.due c.requires.due in
    let kept : c.keeps_time.result ≡ true = grind arith in
    c.perform.ensures n j (due_by c.args.s.now c.args.e.worker at.0 c.args.due) judge
    (is_timely c.args.s.now n c.args.self.now j judge c.args.e at.0 c.args.due at.1 at.2 (sym c.event_fault.ensures ∙ c.in_default.is)
    (sym (c.hand_fault.ensures j.world judge.world) ∙ c.in_default-hand_fault.is) (lock_list c.locks-locks.result) (c.locks-locks.ensures.locks j.world judge.world)
    c.locks-locks.ensures.within c.keeps_time.result (c.keeps_time.ensures at.0 at.1) kept) (c.locks-locks.ensures.locks j.world judge.world)

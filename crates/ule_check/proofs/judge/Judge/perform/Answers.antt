-- The step is possible; another reply is the fault of the entry, and behind the expected one the judge has gone on.
use Rattle.std.proofs.Common.{refl, sym, ◌∙◌}
use Rattle.ule_seq.specs.Locks.{lock_list}
use Rattle.ule_check.proofs.JudgeLaws.{can, hears, is_behind, judged_reply, seat_within, told_fits}
use Rattle.ule_check.proofs.judge.Judge.perform.Goals as goal

pub step-reply-requires : goal.step-reply-requires
step-reply-requires c =
    let n = c.requires.timely.0 in
    let j = c.requires.timely.1 in
    let d = c.requires.timely.2 in
    let judge = c.requires.timely.3 in
    let timely = c.requires.timely.4 in
    (j.world, judge.world, can c.args.s.now n c.args.self.now j judge c.args.e d timely)

pub returns-in-Some : goal.returns-in-Some
returns-in-Some c n j d judge timely locks =
    let made = c.step-reply.ensures.steps j.world judge.world (can c.args.s.now n c.args.self.now j judge c.args.e d timely) in
    judged_reply c.args.s.now n c.args.self.now j judge c.args.e d timely _ c.step-reply.result c.in-Some.why made.1 (sym c.reply_fault.ensures ∙ c.in-Some.is)

pub hear-requires-clause-worker : goal.hear-requires-clause-worker
hear-requires-clause-worker c =
    seat_within c.args.s.now c.requires.timely.0 c.args.self.now c.requires.timely.1 c.requires.timely.3 c.args.e c.requires.timely.2 c.requires.timely.4

pub hear-requires-clause-hears : goal.hear-requires-clause-hears
hear-requires-clause-hears c x got =
    let n = c.requires.timely.0 in
    let j = c.requires.timely.1 in
    let d = c.requires.timely.2 in
    let judge = c.requires.timely.3 in
    let timely = c.requires.timely.4 in
    let made = c.step-reply.ensures.steps j.world judge.world (can c.args.s.now n c.args.self.now j judge c.args.e d timely) in
    hears c.args.s.now n c.args.self.now j judge c.args.e d timely c.step-reply.result made.1 (sym c.reply_fault.ensures ∙ c.in_default.is) x got

pub hear-requires-clause-fits : goal.hear-requires-clause-fits
hear-requires-clause-fits c x got =
    let n = c.requires.timely.0 in
    let j = c.requires.timely.1 in
    let d = c.requires.timely.2 in
    let judge = c.requires.timely.3 in
    let timely = c.requires.timely.4 in
    let made = c.step-reply.ensures.steps j.world judge.world (can c.args.s.now n c.args.self.now j judge c.args.e d timely) in
    told_fits c.args.s.now n c.args.self.now j judge c.args.e d timely c.step-reply.result made.1 (sym c.reply_fault.ensures ∙ c.in_default.is) x got

pub returns : goal.returns
returns c n j d judge timely locks =
    let made = c.step-reply.ensures.steps j.world judge.world (can c.args.s.now n c.args.self.now j judge c.args.e d timely) in
    is_behind c.args.s.now n c.args.self.now j judge c.args.e d timely c.step-reply.result made.1 (sym c.reply_fault.ensures ∙ c.in_default.is)
    (record { world = c.step-reply.new.self; seats = c.hear.new.seats; latest = c.note.new.latest; end = c.args.self.now.end })
    (lock_list c.args.locks.now) made.0 c.hear.ensures c.note.ensures refl locks c.requires.within

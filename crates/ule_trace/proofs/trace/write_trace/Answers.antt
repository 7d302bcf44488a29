use Rattle.std.proofs.Common.{◌≡◌, ◌+◌, ◌-◌, ◌<◌, ◌≤◌, [], ◌∷◌, codes, length, get_or, false, sym, ap, ◌∙◌, refl, arith}
use Rattle.std.specs.Prelude.{slice_get}
use Rattle.std.proofs.lemmas.List.{append-nil}
use Rattle.std.proofs.lemmas.Result.{err_from_is_err_and}
use Rattle.ule_trace.proofs.Progress.{nothing_spelled, spelled, made_room, failed, finished}
use Rattle.ule_trace.proofs.Rest.{after_entries, entry_spelled, entries_spelled, thread_spelled, threads_spelled, cpu_next, cpus_end}
use Rattle.ule_score.specs.declared.record.CpuLine.{CpuLine}
use Rattle.ule_trace.specs.Line.{line_text, lines_text}
use Rattle.ule_trace.specs.Trace.{closing_lines, trace_text}
use Rattle.ule_trace.proofs.trace.write_trace.Goals as goal

pub loop-k-init : goal.loop-k-init
loop-k-init g c =
    let o = c.args.o.now in
    let begun = spelled (line_text (codes "ule-trace" ∷ codes "1" ∷ [])) (after_entries o 0) (nothing_spelled (g.K.Sink.state c.args.out.now) (trace_text o)) refl in
    rw (c.text.ensures, c.new-held.ensures) begun

pub returns-in_err-make_room : goal.returns-in_err-make_room
returns-in_err-make_room g c =
    let p = err_from_is_err_and c.from_residual.result c.from_residual.ensures.1 in
    rw (p.1, p.2) (failed c.loop-k.invariant c.in_err-make_room.ensures.moved)

pub loop-k-preserved : goal.loop-k-preserved
loop-k-preserved g c =
    let same : c.loop-k.k ≡ c.loop-k.k + 1 - 1 = omega arith in
    rw (c.spell_entry.ensures, c.from.ensures)
    (entry_spelled c.args.o.now c.loop-k.k c.entry.result.now (ap (slice_get c.args.o.now.entries) same ∙ c.entry.ensures) c.loop-k.invariant c.in_ok-make_room.ensures.moved)

pub loop-line-init : goal.loop-line-init
loop-line-init g c =
    let past : length c.args.o.now.entries ≤ c.loop-k.k = omega arith in
    entries_spelled c.args.o.now c.loop-k.k past c.loop-k.invariant

pub returns-in_err-make_room-2 : goal.returns-in_err-make_room-2
returns-in_err-make_room-2 g c =
    let p = err_from_is_err_and c.from_residual-in_err-make_room-2.result c.from_residual-in_err-make_room-2.ensures.1 in
    rw (p.1, p.2) (failed c.loop-line.invariant c.in_err-make_room-2.ensures.moved)

pub loop-line-preserved : goal.loop-line-preserved
loop-line-preserved g c =
    let lines = c.threads-line-items.ensures.lines in
    let within : c.loop-line.line-index < length c.args.o.now.threads = omega (arith, ap length lines) in
    let read : c.line-item.result ≡ get_or c.args.o.now.threads c.loop-line.line-index c.line-item.result = c.line-item.is ∙ ap (λ ls. get_or ls c.loop-line.line-index c.line-item.result) lines in
    rw c.spell_thread.ensures
    (thread_spelled c.args.o.now c.loop-line.line-index c.line-item.result within read c.loop-line.invariant c.in_ok-make_room-2.ensures.moved)

pub loop-c-init : goal.loop-c-init
loop-c-init g c =
    let past : length c.args.o.now.threads ≤ c.loop-line.line-index = omega (arith, ap length c.threads-line-items.ensures.lines) in
    threads_spelled c.args.o.now c.loop-line.line-index past c.loop-line.invariant

pub returns-in_err-make_room-3 : goal.returns-in_err-make_room-3
returns-in_err-make_room-3 g c =
    let p = err_from_is_err_and c.from_residual-in_err-make_room-3.result c.from_residual-in_err-make_room-3.ensures.1 in
    rw (p.1, p.2) (failed c.loop-c.invariant c.in_err-make_room-3.ensures.moved)

-- what a read past the end would give
abbrev blank : CpuLine
blank = record { idx = 0; ridx = 0; resched = false; slice_end = false; switches = 0; old_switches = 0; balance = 0 }

pub loop-c-preserved : goal.loop-c-preserved
loop-c-preserved g c =
    let next = cpu_next c.args.o.now c.cpus-line-items.result.now c.loop-c.c blank c.cpus-line-items.ensures.lines c.loop-c-test.true in
    rw c.spell_cpu.ensures (spelled _ _ (made_room c.loop-c.invariant c.in_ok-make_room-3.ensures.moved) next)

pub returns-in_err-make_room-4 : goal.returns-in_err-make_room-4
returns-in_err-make_room-4 g c =
    let p = err_from_is_err_and c.from_residual-in_err-make_room-4.result c.from_residual-in_err-make_room-4.ensures.1 in
    rw (p.1, p.2) (failed c.loop-c.invariant c.in_err-make_room-4.ensures.moved)

pub returns : goal.returns
returns g c =
    let o = c.args.o.now in
    let past : length o.cpus ≤ c.loop-c.c = omega (arith, ap length c.cpus-line-items.ensures.lines) in
    let last = closing_lines o.now (length o.entries) in
    let rest = cpus_end o c.loop-c.c past ∙ sym (append-nil (lines_text last)) in
    let h = spelled (lines_text last) [] (made_room c.loop-c.invariant c.in_ok-make_room-4.ensures.moved) rest in
    finished (rw (c.spell_closing.ensures, c.end_time.ensures, c.from-2.ensures, c.len.ensures) h) (rw c.as_slice.ensures at c.write_all.ensures.wrote)

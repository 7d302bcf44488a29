-- Whether two events, replies or final lines are the same: what their `==` computes.
use Rattle.std.specs.Prelude.{Bool}
use Rattle.ule_score.specs.contracts.record.CpuLinePartialEq.TheImpl.{ghosts as cpu_lines}
use Rattle.ule_score.specs.declared.record.CpuLine.{CpuLine}
use Rattle.ule_types.specs.contracts.event.EventPartialEq.TheImpl.{ghosts as events}
use Rattle.ule_types.specs.contracts.event.ReplyPartialEq.TheImpl.{ghosts as replies}
use Rattle.ule_types.specs.contracts.outcome.ThreadLinePartialEq.TheImpl.{ghosts as thread_lines}
use Rattle.ule_types.specs.declared.event.Event.{Event}
use Rattle.ule_types.specs.declared.event.Reply.{Reply}
use Rattle.ule_types.specs.declared.outcome.ThreadLine.{ThreadLine}

abbrev pub is_same_event : Event → Event → Bool
is_same_event x y = events.eq x y

abbrev pub is_same_reply : Reply → Reply → Bool
is_same_reply x y = replies.eq x y

abbrev pub is_same_thread_line : ThreadLine → ThreadLine → Bool
is_same_thread_line x y = thread_lines.eq x y

abbrev pub is_same_cpu_line : CpuLine → CpuLine → Bool
is_same_cpu_line x y = cpu_lines.eq x y

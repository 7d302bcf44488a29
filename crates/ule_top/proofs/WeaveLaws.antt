-- What `weave` comes to, from what reading and writing come to.
use Rattle.std.proofs.Common.{◌≡◌, ℕ, List, Ok, inl, refl, subst, arith}
use Rattle.ule_io.specs.Sink.{Appends, SinkState}
use Rattle.ule_io.specs.Source.{SourceState}
use Rattle.ule_task.proofs.ScenarioLaws.{below_six, not_usage, reads_setup, reads_unread}
use Rattle.ule_task.specs.Input.{Gave, HasAnswered, IsHad, IsUnread, Reads, Tells}
use Rattle.ule_task.specs.Scenario.{one_text, scenario_intake}
use Rattle.ule_task.specs.declared.input.Unread.{Unread}
use Rattle.ule_top.specs.Weave.{HasWoven, Weaves}
use Rattle.ule_types.specs.declared.setup.Setup.{Setup}
use Rattle.ule_weave.proofs.Opened.{weaves_are_sound}
use Rattle.ule_weave.specs.WeaveText.{weave_text}

-- where the text that is due was written, the headline holds
has_woven : (s0 s1 : SourceState) (k0 k1 : SinkState) (status : ℕ) → HasAnswered scenario_intake (one_text weave_text) s0 s1 k0 k1 status → HasWoven s0 s1 k0 k1
has_woven s0 s1 k0 k1 status has = record {
  input = has.input;
  setup = has.setup;
  read = has.read;
  spelled = record { reading = has.given.0; read = has.given.1; gives = has.given.2 };
  written = subst (λ (text : List ℕ). Appends k0.taken k1.taken text) has.due.1 has.wrote.written;
  flushed = has.wrote.flushed;
  one_flush = has.wrote.one_flush;
  sound = weaves_are_sound has.setup;
}

-- what reads so and writes the weave text is `weave`
weaves_if_reads : (s0 s1 : SourceState) (k0 k1 : SinkState) (status : ℕ) → Reads scenario_intake (one_text weave_text) s0 s1 k0 k1 status → Weaves s0 s1 k0 k1 status
weaves_if_reads s0 s1 k0 k1 status reads = record {
  known = below_six (λ s text. text ≡ weave_text s) s0 s1 k0 k1 status reads;
  done = λ is. has_woven s0 s1 k0 k1 status (reads.answered (inl (omega arith)));
  reads = reads;
}

-- what reading a setup and writing its weave text come to is `weave`
pub weaves_setup : (s0 s1 : SourceState) (k0 k1 : SinkState) (status : ℕ) (s : Setup) → IsHad scenario_intake s0 s1 (Ok s) →
    Gave (record { status = 0; text = weave_text s }) k0 k1 status → Weaves s0 s1 k0 k1 status
weaves_setup s0 s1 k0 k1 status s had gave = weaves_if_reads s0 s1 k0 k1 status (reads_setup (λ x text. text ≡ weave_text x) s0 s1 k0 k1 status s (weave_text s) had refl gave)

-- what reading no setup and telling why come to is `weave`
pub weaves_unread : (s0 s1 : SourceState) (k0 k1 : SinkState) (status : ℕ) (why : Unread) → IsUnread scenario_intake s0 s1 why → Tells why k0 k1 status → Weaves s0 s1 k0 k1 status
weaves_unread s0 s1 k0 k1 status why is told = weaves_if_reads s0 s1 k0 k1 status (reads_unread (λ s text. text ≡ weave_text s) s0 s1 k0 k1 status why is told)

-- 1 is no status of `weave`
pub weave_is_known : (s0 s1 : SourceState) (k0 k1 : SinkState) (status : ℕ) → Weaves s0 s1 k0 k1 status → status ≡ 1 → ⊥
weave_is_known s0 s1 k0 k1 status weaves is = not_usage (λ s text. text ≡ weave_text s) s0 s1 k0 k1 status weaves.reads is

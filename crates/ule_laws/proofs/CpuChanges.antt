-- What a change of a priority, the removal of a queued thread and a fork make of a CPU's value is what they make
-- of its side of a world.
use Rattle.std.proofs.Common.{◌≡◌, ℕ, ℤ, false, if◌then◌else◌, Option, Some, None, refl, sym, ◌≢◌, ◌∙◌, ap, subst}
use Rattle.std.specs.Option.{option_map}
use Rattle.std.proofs.lemmas.Bool.{or_left}
use Rattle.std.proofs.lemmas.Option.{none-some}
use Rattle.ule_prio.specs.declared.kind.Kind.{Kind}
use Rattle.ule_score.proofs.ChangeLaws.{change_number, change_numbers, child_numbers}
use Rattle.ule_score.specs.Changes.{forked, forks, record_after}
use Rattle.ule_score.specs.declared.place.Place.{Place}
use Rattle.ule_score.specs.declared.place.Place.TheVariants.{Queued}
use Rattle.ule_score.specs.declared.record.Settings.{Settings}
use Rattle.ule_score.specs.declared.record.ThreadRecord.{ThreadRecord}
use Rattle.ule_types.specs.declared.event.Reply.{Reply}
use Rattle.ule_types.specs.declared.event.Reply.TheVariants.{Forked, Nothing}
use Rattle.ule_model.specs.CpuChange.{ForkedFrom, forked_reply, value_forked, value_forked_from, value_forked_with, value_removed}
use Rattle.ule_model.specs.CpuValue.{CpuValue, StandsFor, removed_from, thread_in}
use Rattle.ule_model.specs.Places.{is_on, runs_on, waits_on}
use Rattle.ule_model.specs.Action.{action_done}
use Rattle.ule_model.specs.Actions.{fork_action}
use Rattle.ule_model.specs.ActionStep.{seen_on}
use Rattle.ule_model.specs.CpuActions.{carried_off, forked_on}
use Rattle.ule_model.specs.Switch.{lifted}
use Rattle.ule_model.specs.Tick.{load_of}
use Rattle.ule_model.specs.WellMade.{IsWellMade}
use Rattle.ule_model.specs.World.{Member, Side, current_of, standing_of, thread_of, with_change, with_record}
use Rattle.ule_laws.proofs.Beside.{gone_put, lifted_stands}
use Rattle.ule_laws.proofs.ChoosingLaws.{elsewhere_recorded, recorded_stands, removed_cpu}
use Rattle.ule_laws.proofs.WellMade.{well_made-with_record}
use Rattle.ule_members.proofs.Threads.{current_runs, thread_of-changed, thread_of-changed_apart, thread_of_within, thread_on_within, within_current}
use Rattle.ule_members.proofs.Within.{Within, within_thread}

-- ---- a queued thread less

-- a queued thread is taken out, by the index rule, and goes to a place away from the CPU
pub removed_stands : (k : Kind) (b : ℕ) (m : Member) (place : Place) (order : ℤ) (v : CpuValue) (s : Side) → StandsFor v s →
    Within m.thread.id m s.members → m.place ≡ Queued v.cpu k b → is_on v.cpu place ≡ false →
    StandsFor (value_removed k m.thread.id v) (carried_off v.cpu m place order s)
removed_stands k b m place order v s stands w here off =
    gone_put m (removed_from k m.thread.id v) (lifted v.cpu m s) w (lifted_stands k b m v s w stands here) place order
    (subst (λ (c : ℕ). is_on c place ≡ false) (sym (removed_cpu k m.thread.id v)) off)

-- ---- a fork

-- what a fork of thread t gives on the side of CPU c, where it finds this current thread and this child
abbrev forks_of : ℕ → ℕ → ℕ → Side → Option Member → Option Member → Side × Reply
forks_of c now t s o child = action_done c now (fork_action t (option_map (λ m. m.thread) o) (option_map standing_of child) (seen_on c c now child s)) s

-- what a fork of this thread gives, on the value and on the side, where its record is the one that the value gives
pub record AreForked (born : Member) (v : CpuValue) (made : ForkedFrom) (meant : Side × Reply) : Type 0 where
  pub stands : StandsFor made.value meant.0
  pub answer : meant.1 ≡ forked_reply made.parent made.child
  pub child : thread_of born.thread.id meant.0.members ≡ Some (record born { thread = made.child })
  pub well_made : IsWellMade meant.0.members
  pub cpu : made.value.cpu ≡ v.cpu

-- the record that the value has of its current thread m
current_recorded_as : (m : Member) (v : CpuValue) (s : Side) → StandsFor v s → IsWellMade s.members → current_of v.cpu s.members ≡ Some m →
    thread_in v m.thread.id ≡ Some m.thread
current_recorded_as m v s stands made runs =
    stands.threads m.thread.id ∙ ap (option_map (λ (x : Member). x.thread))
    (thread_on_within v.cpu m.thread.id m s.members (within_current v.cpu s.members m made runs)
    ∙ ap (λ d. if d then Some m else None) (or_left (runs_on v.cpu m.place) (waits_on v.cpu m.place) (current_runs v.cpu s.members m runs)))

-- the current thread m forks a thread that is on no CPU, by the settings and the load of the value
forked_thread : (now : ℕ) (m born : Member) (v : CpuValue) (s : Side) → StandsFor v s → IsWellMade s.members →
    current_of v.cpu s.members ≡ Some m → thread_of born.thread.id s.members ≡ Some born → is_on v.cpu born.place ≡ false →
    AreForked born v (value_forked_with (Some m.thread) m.thread.id now born.thread v) (forks_of v.cpu now born.thread.id s (Some m) (Some born))
forked_thread now m born v s stands made runs found off =
    subst (λ (settings : Settings). AreForked born v forked_value (meant settings (load_of v.cpu s.members))) stands.settings
    (subst (λ (load : ℕ). AreForked born v forked_value (meant v.settings load)) stands.load
    (record {
      stands = recorded_stands t charge m v born_side charge_kept away.1 at_parent;
      answer = refl;
      child = thread_of-changed_apart u t charged_member born_side.members (λ n. charge_kept n.thread) (λ e. apart (sym e)) ∙ at_birth;
      well_made =
          well_made-with_record t charge born_side.members charge_kept
          (λ r has. change_numbers v.settings now forks r tt has) still;
      cpu = refl;
    }))
  where
    t : ℕ
    t = m.thread.id

    u : ℕ
    u = born.thread.id

    meant : Settings → ℕ → Side × Reply
    meant settings load =
        let birth = forked m.thread v.cpu load in (
          record s { members = with_change settings now t forks (with_change settings now u birth s.members) },
          Forked t (record_after settings now birth born.thread).priority,
        )

    forked_value : ForkedFrom
    forked_value = value_forked_with (Some m.thread) t now born.thread v

    birth : ThreadRecord → ThreadRecord
    birth r = record_after v.settings now (forked m.thread v.cpu v.load) r

    birth_kept : (r : ThreadRecord) → (birth r).id ≡ r.id
    birth_kept r = change_number v.settings now (forked m.thread v.cpu v.load) r

    charge : ThreadRecord → ThreadRecord
    charge r = record_after v.settings now forks r

    charge_kept : (r : ThreadRecord) → (charge r).id ≡ r.id
    charge_kept r = change_number v.settings now forks r

    charged_member : Member → Member
    charged_member n = record n { thread = charge n.thread }

    born_member : Member → Member
    born_member n = record n { thread = birth n.thread }

    born_side : Side
    born_side = record s { members = with_record u birth s.members }

    parent : Within t m s.members
    parent = within_current v.cpu s.members m made runs

    at : Within u born s.members
    at = within_thread u s.members born made found

    away : (thread_in v u ≡ None) × StandsFor v born_side
    away = elsewhere_recorded u birth born v s birth_kept stands at off

    apart : t ≢ u
    apart e = none-some m.thread (sym away.0 ∙ ap (thread_in v) (sym e) ∙ current_recorded_as m v s stands made runs)

    still : IsWellMade born_side.members
    still =
        well_made-with_record u birth s.members birth_kept
        (λ r has. child_numbers v.settings now m.thread v.cpu v.load r parent.made.numbers has) made

    at_birth : thread_of u born_side.members ≡ Some (born_member born)
    at_birth = thread_of-changed u born s.members at born_member (birth_kept born.thread)

    at_parent : Within t m born_side.members
    at_parent =
        within_thread t born_side.members m still
        (thread_of-changed_apart t u born_member s.members (λ n. birth_kept n.thread) apart ∙ thread_of_within t m s.members parent)

-- the step of a fork: the current thread, if there is one, forks a thread that is on no CPU
pub forked_stands : (now : ℕ) (born : Member) (v : CpuValue) (s : Side) → StandsFor v s → IsWellMade s.members →
    thread_of born.thread.id s.members ≡ Some born → is_on v.cpu born.place ≡ false →
    AreForked born v (value_forked now born.thread v) (forked_on v.cpu born.thread.id now s)
forked_stands now born v s stands made found off =
    subst (λ (o : Option Member). AreForked born v (value_forked now born.thread v) (forks_of v.cpu now born.thread.id s (current_of v.cpu s.members) o)) (sym found)
    (split (current_of v.cpu s.members) refl)
  where
    split : (o : Option Member) → current_of v.cpu s.members ≡ o →
        AreForked born v (value_forked now born.thread v) (forks_of v.cpu now born.thread.id s o (Some born))
    split None none =
        subst (λ (o : Option ℕ). AreForked born v (value_forked_from o now born.thread v) (s, Nothing))
        (sym (stands.current ∙ ap (option_map (λ (n : Member). n.thread.id)) none))
        (record { stands = stands; answer = refl; child = found; well_made = made; cpu = refl })
    split (Some m) runs =
        subst (λ (o : Option ℕ). AreForked born v (value_forked_from o now born.thread v) (forks_of v.cpu now born.thread.id s (Some m) (Some born)))
        (sym (stands.current ∙ ap (option_map (λ (n : Member). n.thread.id)) runs))
        (subst (λ (o : Option ThreadRecord). AreForked born v (value_forked_with o m.thread.id now born.thread v) (forks_of v.cpu now born.thread.id s (Some m) (Some born)))
        (sym (current_recorded_as m v s stands made runs)) (forked_thread now m born v s stands made runs found off))

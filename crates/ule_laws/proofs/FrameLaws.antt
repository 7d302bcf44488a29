-- What an event leaves that touches threads within its reach alone: what stands under locks that it doesn't take, and in other
-- hands.
use Rattle.std.proofs.Common.{◌≡◌, ℕ, ◌&&◌, true, false, sym, ◌∙◌, ap}
use Rattle.std.specs.Option.{option_map}
use Rattle.std.proofs.lemmas.Bool.{and_right, false_from_ne_true, both_ways, or_parts}
use Rattle.ule_prio.specs.declared.kind.Kind.{Kind}
use Rattle.ule_types.specs.Commands.{is_among}
use Rattle.ule_types.specs.declared.event.Event.{Event}
use Rattle.ule_model.specs.CpuValue.{CpuValue, StandsFor}
use Rattle.ule_model.specs.Events.{is_reached, locks_of}
use Rattle.ule_model.specs.Frames.{AreTouched, LeavesRest}
use Rattle.ule_model.specs.Insertion.{members_in}
use Rattle.ule_model.specs.Places.{is_hand_of, is_on, is_under, runs_on, waits_in, waits_on}
use Rattle.ule_model.specs.Shows.{by_order, numbers_of}
use Rattle.ule_model.specs.WellMade.{IsWellMadeWorld}
use Rattle.ule_model.specs.World.{Member, World, is_numbered, side_of}
use Rattle.ule_members.proofs.Apart.{waits_on_where}
use Rattle.ule_members.proofs.Untouched.{SeesNone, reached_no_other, reached_no_other_hand, reached_off, touched_count, touched_filter, touched_find}
use Rattle.ule_laws.proofs.WorldLaws.{IsFrame}

module _ (w : World) (worker : ℕ) (e : Event) (now : ℕ) (n : World) (touched : AreTouched w worker e now w.members n.members) (rest : LeavesRest w e n) where
  -- the value of a CPU whose lock the event doesn't take stands for the CPU's side afterwards
  elsewhere_stands : (v : CpuValue) → is_among (locks_of w e) v.cpu ≡ false → StandsFor v (side_of v.cpu w) → StandsFor v (side_of v.cpu n)
  elsewhere_stands v none stands = record {
    settings = stands.settings ∙ sym rest.settings;
    line = stands.line ∙ sym (rest.lines v.cpu none);
    balance_word = λ zero. stands.balance_word zero ∙ sym (rest.balance_word (ap (is_among (locks_of w e)) (sym zero) ∙ none));
    current = stands.current ∙ ap (option_map (λ m. m.thread.id)) (sym (touched_find w worker e now (λ m. runs_on v.cpu m.place) w.members n.members (λ m here. (parts m here).0) touched));
    load = stands.load ∙ sym (touched_count w worker e now (λ m. is_on v.cpu m.place) w.members n.members off touched);
    slots = stands.slots;
    threads = λ t.
        stands.threads t ∙ ap (option_map (λ m. m.thread))
        (sym (touched_find w worker e now (λ m. is_numbered t m && is_on v.cpu m.place) w.members n.members (λ m here. and_right (is_numbered t m) (is_on v.cpu m.place) (off m here)) touched));
    queues = λ k. record { buckets = (stands.queues k).buckets; each = λ b small. (stands.queues k).each b small ∙ ap (λ ms. numbers_of (by_order ms)) (sym (bucket k b)) };
    index = stands.index;
  }
    where
      off : SeesNone w worker e now (λ m. is_on v.cpu m.place)
      off m here = reached_off w worker e v.cpu m.place none here

      parts : (m : Member) → is_reached w worker e m.place ≡ true → (runs_on v.cpu m.place ≡ false) × (waits_on v.cpu m.place ≡ false)
      parts m here = or_parts (runs_on v.cpu m.place) (waits_on v.cpu m.place) (off m here)

      out : (k : Kind) (b : ℕ) → SeesNone w worker e now (λ m. waits_in v.cpu k b m.place)
      out k b m here =
          false_from_ne_true (waits_in v.cpu k b m.place)
          (λ waits. both_ways (waits_on v.cpu m.place) (parts m here).1 (waits_on_where v.cpu k b m.place waits))

      bucket : (k : Kind) (b : ℕ) → members_in v.cpu k b n.members ≡ members_in v.cpu k b w.members
      bucket k b = touched_filter w worker e now (λ m. waits_in v.cpu k b m.place) w.members n.members (out k b) touched

  -- what lies under other locks and in other hands is left
  pub touched_frame : IsWellMadeWorld n → IsFrame w worker e n
  touched_frame made = record {
    rest = rest;
    made = made.members;
    indexes = made.indexes;
    under = λ l t none.
        touched_find w worker e now (λ m. is_numbered t m && is_under l m.place) w.members n.members
        (λ m here. and_right (is_numbered t m) (is_under l m.place) (reached_no_other w worker e l m.place none here)) touched;
    in_hand = λ h t other.
        touched_find w worker e now (λ m. is_numbered t m && is_hand_of h m.place) w.members n.members
        (λ m here. and_right (is_numbered t m) (is_hand_of h m.place) (reached_no_other_hand w worker e h m.place other here)) touched;
    elsewhere = elsewhere_stands;
  }

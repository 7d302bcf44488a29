-- The calls of a chain and of limbo stand for what their events make of a world.
use Rattle.std.proofs.Common.{◌≡◌, ℕ, ◌+◌, ◌%◌, true, inl, inr, pos, List, slice_set, Option, Some, option_map, refl, sym, ◌∙◌, ap, subst, arith}
use Rattle.std.proofs.lemmas.Bool.{eq-eqb}
use Rattle.ule_score.proofs.ChangeLaws.{change_number}
use Rattle.ule_score.specs.Changes.{after_change, changed, record_after, woken}
use Rattle.ule_score.specs.declared.place.Place.{Place}
use Rattle.ule_score.specs.declared.place.Place.TheVariants.{Asleep, Unborn, Gone, Hand}
use Rattle.ule_score.specs.declared.record.Change.{Change}
use Rattle.ule_score.specs.declared.record.Settings.{Settings}
use Rattle.ule_sleep.specs.Chain.{standing_changed, standing_in, with_standing, without_standing}
use Rattle.ule_threads.specs.declared.standing.Standing.{Standing}
use Rattle.ule_model.specs.Places.{is_number, is_under, lock_of}
use Rattle.ule_model.specs.World.{Member, World, moved_to, with_change, with_record}
use Rattle.ule_model.specs.WorldValue.{IsAsleepOn}
use Rattle.ule_members.proofs.Moves.{moved_member}
use Rattle.ule_members.proofs.Threads.{changed_further}
use Rattle.ule_members.proofs.Within.{Within, within_thread}
use Rattle.ule_laws.proofs.SlotStands.{AreSlots, IsStill, chain_slots, is_chain, is_limbo, limbo_slots, slots_joined, slots_left, slots_noted}
use Rattle.ule_laws.specs.SleepCalls.{ChainCallsStand, IsThreadOf, LimboCallsStand}

-- the threads with this one in a worker's hand, woken
abbrev taken_up : Settings → ℕ → ℕ → ℕ → List Member → List Member
taken_up settings now worker t members = moved_to t (Hand worker) (pos 0) (with_change settings now t woken members)

-- a thread of a world, among the threads with places under lock l
module _ (w : World) (l t : ℕ) (m : Member) (is : IsThreadOf w t m) (P : Standing → Type 0) (slots : List (Option Standing)) (are : AreSlots l P w.members slots) where
  -- it has the number that names it
  number : m.thread.id ≡ t
  number = (within_thread t w.members m is.made is.found).number

  -- and stands in the list
  within : Within m.thread.id m w.members
  within = subst (λ (u : ℕ). Within u m w.members) (sym number) (within_thread t w.members m is.made is.found)

  -- it comes there
  comes : (to : Place) → is_under l to ≡ true → P (record { thread = m.thread; place = to }) → AreSlots l P (moved_to t to (pos 0) w.members) (with_standing m.thread to slots)
  comes to under so = subst (λ (u : ℕ). AreSlots l P (moved_to u to (pos 0) w.members) (with_standing m.thread to slots)) number (slots_joined l P m w.members slots within are to under so)

  -- it is woken
  wakes : (worker now : ℕ) (settings : Settings) → AreSlots l P (taken_up settings now worker m.thread.id w.members) (without_standing t slots)
  wakes worker now settings =
      subst (λ (u : ℕ). AreSlots l P (taken_up settings now worker m.thread.id w.members) (without_standing u slots)) number
      (subst (λ (ms : List Member). AreSlots l P ms (without_standing m.thread.id slots))
      (sym (changed_further m.thread.id (λ n. record n { thread = record_after settings now woken n.thread }) (moved_member (Hand worker) (pos 0)) w.members (λ n. change_number settings now woken n.thread)))
      (slots_left l P m w.members slots within are (λ n. record n { thread = record_after settings now woken n.thread; place = Hand worker; order = pos 0 }) (change_number settings now woken m.thread) refl))

  -- it goes as it is
  goes : (worker : ℕ) → AreSlots l P (moved_to t (Hand worker) (pos 0) w.members) (without_standing t slots)
  goes worker =
      subst (λ (u : ℕ). AreSlots l P (moved_to u (Hand worker) (pos 0) w.members) (without_standing u slots)) number (slots_left l P m w.members slots within are (moved_member (Hand worker) (pos 0)) refl refl)

  -- its record changes
  is_changed : (settings : Settings) (given : Change) → ((s : Standing) → P s → P (standing_changed settings given s)) → lock_of m.place ≡ Some l →
      AreSlots l P (with_record t (after_change settings given) w.members) (slice_set slots t (option_map (standing_changed settings given) (standing_in slots t)))
  is_changed settings given keeps lock =
      subst (λ (u : ℕ). AreSlots l P (with_record u (after_change settings given) w.members) (slice_set slots u (option_map (standing_changed settings given) (standing_in slots u)))) number
      (slots_noted l P m w.members slots within are (after_change settings given) (change_number settings 0 (changed given) m.thread) keeps (ap (is_number l) lock ∙ eq-eqb l l refl))

-- the calls of a chain
pub chain_calls : ChainCallsStand
chain_calls = record {
  bed = λ w l t channel m v thread is same.
      is_chain w (record w { members = moved_to t (Asleep channel) (pos 0) w.members }) l v _ is
      (comes w l t m thread (IsAsleepOn v.number) v.slots (chain_slots w l v is) (Asleep channel) (eq-eqb l (16 + channel % 8) (let number = is.number in omega arith)) (record { channel = channel; place = refl; chain = same }));
  take_out = λ w l t worker now settings m v thread is.
      is_chain w (record w { members = taken_up settings now worker m.thread.id w.members }) l v _ is (wakes w l t m thread (IsAsleepOn v.number) v.slots (chain_slots w l v is) worker now settings);
  change = λ w l t settings given m v thread is lock.
      is_chain w (record w { members = with_record t (after_change settings given) w.members }) l v _ is
      (is_changed w l t m thread (IsAsleepOn v.number) v.slots (chain_slots w l v is) settings given (λ s so. record { channel = so.channel; place = so.place; chain = so.chain }) lock);
}

-- the calls of limbo
pub limbo_calls : LimboCallsStand
limbo_calls = record {
  unborn = λ w l t m v thread is.
      is_limbo w (record w { members = moved_to t Unborn (pos 0) w.members }) l v _ is (comes w l t m thread IsStill v.slots (limbo_slots w l v is) Unborn (eq-eqb l 24 is.number) (inl refl));
  bury = λ w l t m v thread is.
      is_limbo w (record w { members = moved_to t Gone (pos 0) w.members }) l v _ is (comes w l t m thread IsStill v.slots (limbo_slots w l v is) Gone (eq-eqb l 24 is.number) (inr refl));
  hatch = λ w l t worker m v thread is.
      is_limbo w (record w { members = moved_to t (Hand worker) (pos 0) w.members }) l v _ is (goes w l t m thread IsStill v.slots (limbo_slots w l v is) worker);
  change = λ w l t settings given m v thread is lock.
      is_limbo w (record w { members = with_record t (after_change settings given) w.members }) l v _ is
      (is_changed w l t m thread IsStill v.slots (limbo_slots w l v is) settings given (λ s so. so) lock);
}

-- A switch on a CPU's value, and on the side of a world that it stands for.
use Rattle.std.proofs.Common.{◌≡◌, ◌+◌, false, ◌&&◌, [], ◌∷◌, ◌++◌, slice_set, Some, None, refl, sym, ◌∙◌, ap}
use Rattle.std.specs.Option.{option_map}
use Rattle.std.proofs.lemmas.Bool.{and_right, eq-eqb, or_parts}
use Rattle.ule_score.specs.Changes.{HasNumbers}
use Rattle.ule_score.specs.declared.record.ThreadRecord.{ThreadRecord}
use Rattle.ule_model.specs.CpuValue.{CpuValue, StandsFor, queue_of, value_laid}
use Rattle.ule_model.specs.declared.insertion.Insertion.TheVariants.{Ordinary}
use Rattle.ule_model.specs.Places.{is_on, runs_on, waits_on}
use Rattle.ule_model.specs.Start.{laid_on, unborn_member}
use Rattle.ule_model.specs.WellMade.{IsWellMade}
use Rattle.ule_model.specs.World.{Member, Side, is_numbered, thread_of}
use Rattle.ule_laws.proofs.Beside.{absent_lifted, off_out}
use Rattle.ule_laws.proofs.Buckets.{shows-appended}
use Rattle.ule_laws.proofs.Queueing.{IsJoined, inserted_stands}
use Rattle.ule_laws.proofs.WellMade.{well_made_appended}
use Rattle.ule_members.proofs.Loads.{load-appended_off}
use Rattle.ule_members.proofs.Threads.{find-appended, find-appended_new}
use Rattle.ule_members.proofs.Within.{Within, within_thread}

-- ---- a thread more

-- a thread on no CPU leaves what a value stands for
pub appended_stands : (n : Member) (v : CpuValue) (s : Side) → StandsFor v s → is_on v.cpu n.place ≡ false → StandsFor v (record s { members = s.members ++ n ∷ [] })
appended_stands n v s stands off = record {
  settings = stands.settings;
  line = stands.line;
  balance_word = stands.balance_word;
  current =
      stands.current ∙ ap (option_map (λ (m : Member). m.thread.id))
      (sym (find-appended (λ m. runs_on v.cpu m.place) s.members n (or_parts (runs_on v.cpu n.place) (waits_on v.cpu n.place) off).0));
  load = stands.load ∙ sym (load-appended_off v.cpu s.members n off);
  slots = stands.slots;
  threads = λ t.
      stands.threads t ∙ ap (option_map (λ (m : Member). m.thread))
      (sym (find-appended (λ m. is_numbered t m && is_on v.cpu m.place) s.members n (and_right (is_numbered t n) (is_on v.cpu n.place) off)));
  queues = λ k. shows-appended (queue_of k v) v.cpu k s.members n (off_out v.cpu k n.place off) (stands.queues k);
  index = stands.index;
}

-- a new thread is queued
pub laid_stands : (r : ThreadRecord) (v : CpuValue) (s : Side) → StandsFor v s → IsWellMade s.members → HasNumbers r → thread_of r.id s.members ≡ None →
    IsJoined (record v { threads = slice_set v.threads r.id (Some r); load = v.load + 1 }) (value_laid r v) (laid_on v.cpu r s)
laid_stands r v s stands made numbers new =
    inserted_stands Ordinary n (record v { threads = slice_set v.threads r.id (Some r); load = v.load + 1 }) more within
    (absent_lifted n v more within (appended_stands n v s stands refl) refl)
  where
    n : Member
    n = unborn_member r

    more : Side
    more = record s { members = s.members ++ n ∷ [] }

    within : Within r.id n more.members
    within =
        within_thread r.id more.members n (well_made_appended s.members n made (record { numbers = numbers; place = tt }) (λ c. refl) new)
        (find-appended_new (is_numbered r.id) s.members n new (eq-eqb r.id r.id refl))

-- What the parts of an action leave of the side of a lock: one lemma a part, and one induction.
use Rattle.std.proofs.Common.{◌≡◌, ◌≢◌, ℕ, ◌<◌, ◌==◌, Bool, List, [], ◌∷◌, length, Option, refl, ◌∙◌, ap, if◌then◌else◌}
use Rattle.std.specs.Prelude.{nat_le}
use Rattle.std.proofs.lemmas.Bool.{and_left, ne_eqb}
use Rattle.ule_prio.specs.declared.kind.Kind.TheVariants.{Batch}
use Rattle.ule_model.specs.Insertion.{members_in}
use Rattle.ule_model.specs.Tick.{word_after_tick}
use Rattle.ule_model.specs.World.{Side, others}
use Rattle.ule_members.proofs.Rest.{after_leaving_within, choosing_kept, queued_kept, turn_within}
use Rattle.ule_model.specs.Action.{Part, choose, clock, insert, leaving, move, part_done, parts_done}

-- the side of lock c keeps its settings, its balance word unless it is CPU 0's, and a removal index that is that of a bucket
pub record KeepsSide (c : ℕ) (s n : Side) : Type 0 where
  pub settings_are : n.settings ≡ s.settings
  pub balance_word : c ≢ 0 → n.balance_word ≡ s.balance_word
  pub index : s.line.ridx < 64 → n.line.ridx < 64

-- each part keeps the side
pub part_kept : (c now : ℕ) (p : Part) (s : Side) (into : Option ℕ) → KeepsSide c s (part_done c now p (s, into)).0
part_kept c now (move t from to) s into =
    record { settings_are = refl; balance_word = λ other. refl; index = after_leaving_within from c s.line (others t s.members) }
part_kept c now (insert t from how) s into =
    let kept = queued_kept how c t (leaving from c t s) in record {
      settings_are = kept.settings_are;
      balance_word = λ other. kept.balance_word;
      index = λ at. kept.index (after_leaving_within from c s.line (others t s.members) at);
    }
part_kept c now choose s into =
    let kept = choosing_kept c now s in record { settings_are = kept.settings_are; balance_word = λ other. kept.balance_word; index = kept.index }
part_kept c now clock s into = record {
  settings_are = refl;
  balance_word = λ other. ap (λ (d : Bool). if d then word_after_tick 0 0 s.balance_word else s.balance_word) (and_left (c == 0) (nat_le s.line.balance 1) (ne_eqb c 0 other));
  index = turn_within s.line.idx s.line.ridx (length (members_in c Batch s.line.ridx s.members) == 0);
}
part_kept c now p s into = record { settings_are = refl; balance_word = λ other. refl; index = λ at. at }

-- so all parts do
pub parts_kept : (c now : ℕ) (ps : List Part) (s : Side) (into : Option ℕ) → KeepsSide c s (parts_done c now ps (s, into)).0
parts_kept c now [] s into = record { settings_are = refl; balance_word = λ other. refl; index = λ at. at }
parts_kept c now (p ∷ ps) s into =
    let first = part_kept c now p s into in
    let next = part_done c now p (s, into) in
    let second = parts_kept c now ps next.0 next.1 in record {
      settings_are = second.settings_are ∙ first.settings_are;
      balance_word = λ other. second.balance_word other ∙ first.balance_word other;
      index = λ at. second.index (first.index at);
    }

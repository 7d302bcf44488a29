-- What a small scheduler keeps of the end of a play, and that it does so as the laws ask.
use Rattle.std.specs.Prelude.{ℕ, ◌+◌, ◌-◌, ◌≤◌, ◌==◌, Bool, List, [], ◌∷◌, ◌++◌, Option, Some, max, if◌then◌else◌}
use Rattle.std.proofs.Common.{refl, arith}
use Rattle.ule_micro.specs.Notes.{AreSound, Notes}
use Rattle.ule_micro_rows.specs.declared.ends.Noted.{Noted}

-- end state: the entries that were told, and for how many more there is room; how many locks' values were told in order; the last lock that the thread stands under; the word of thread 0; and the time
pub record EndState (E R : Type 0) : Type 0 where
  pub entries : List (Noted E R)
  pub room : ℕ
  pub values : ℕ
  pub place : Option ℕ
  pub word : Option ℕ
  pub time : ℕ

module _ {E R : Type 0} where
  -- with entry: one more entry was told
  abbrev pub with_entry : EndState E R → ℕ → ℕ → E → R → EndState E R
  with_entry s w now e r = record s { entries = s.entries ++ record { worker = w; now = now; event = e; reply = r } ∷ []; room = s.room - 1 }

  -- with value: a lock's value was told, under which the thread stands or not
  abbrev pub with_value : EndState E R → ℕ → Bool → EndState E R
  with_value s l here = record s { values = max s.values (l + 1); place = (if here then Some l else s.place) }

  -- with word: a thread's word was told
  abbrev pub with_word : EndState E R → ℕ → Option ℕ → EndState E R
  with_word s t word = record s { word = (if t == 0 then word else s.word) }

  -- with now: the time was told
  abbrev pub with_now : EndState E R → ℕ → EndState E R
  with_now s now = record s { time = now }

module _ {G E R : Type 0} where
  -- end notes: how the end is kept of a scheduler of one thread, where this says whether it stands under a value
  abbrev pub end_notes : (G → Bool) → Notes (EndState E R) G E R
  end_notes here = record {
    entry = with_entry;
    value = λ s l v. with_value s l (here v);
    word = with_word;
    now = with_now;
    room = λ s. s.room;
    ready = λ s l. l ≤ s.values;
  }

  pub ends_sound : (here : G → Bool) → AreSound (end_notes here)
  ends_sound here = record {
    room = record {
      entry = λ s w now e r some. omega arith;
      value = λ s l v. refl;
      word = λ s t w. refl;
      now = λ s now. refl;
    };
    order = record {
      first = λ s. omega arith;
      next = λ s l v ready. omega arith;
      by_entry = λ s w now e r k ready. ready;
      by_value = λ s l v k ready. omega arith;
      by_word = λ s t w k ready. ready;
      by_now = λ s now k ready. ready;
    };
  }

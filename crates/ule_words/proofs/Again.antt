-- A time that a worker read under its locks serves again behind a commit.
use Rattle.std.proofs.Common.{◌≡◌, ℕ, zero, suc, ◌≤◌, ◌∷◌, sym, ap, ◌∙◌, subst, arith}
use Rattle.std.specs.Prelude.{Some, slice_get}
use Rattle.std.proofs.lemmas.Option.{same_Some}
use mathlib.Core.Logic.{dite}
use native.Mathlib.Decide.{ℕ_discrete}
use Rattle.ule_micro.specs.declared.entry.Entry.{Entry}
use Rattle.ule_micro.specs.declared.entry.HeldLocks.{HeldLocks}
use Rattle.ule_micro.specs.Histories.{entry_made}
use Rattle.ule_micro.specs.Means.{Means}
use Rattle.ule_micro.specs.Standings.{Acted}
use Rattle.ule_micro.specs.Shared.{Agrees, IsTimely, Shared, TimeRead, committed, unstamped}
use Rattle.ule_micro.proofs.SharedSteps.{put_else}

module _ {H O G E R C : Type 0} (m : Means H O G E R C) (s : Shared H G E R) (w : ℕ) (e : E) (held : HeldLocks) (now amount : ℕ) (after : Acted H G R) where
  -- behind the commit, with the times that were read before it
  abbrev pub again : Shared H G E R
  again = record (committed m s w e held now amount after) { read = s.read }

  module _ (old : Agrees m s) (read : s.read w ≡ Some (record { locks = held; now = now })) (new : Agrees m (committed m s w e held now amount after)) where
    none_later : (r : TimeRead) → s.read w ≡ Some r → (j : ℕ) (x : Entry E R) → slice_get (entry_made w e held now after.reply ∷ unstamped s.history) j ≡ Some x
        → ((i : ℕ) → slice_get (unstamped s.history) i ≡ Some x → x.now ≤ r.now) → x.now ≤ r.now
    none_later r is zero x at rest = let a : now ≡ r.now = ap (λ (z : TimeRead). z.now) (same_Some _ r (sym read ∙ is)) in let b : now ≡ x.now = ap (λ (z : Entry E R). z.now) (same_Some _ x at) in omega arith
    none_later r is (suc j) x at rest = rest j at

    its_time : (r : TimeRead) → s.read w ≡ Some r → IsTimely again w r
    its_time r is = let t = old.times w r is in record {
      holds = t.holds;
      past = t.past;
      own = t.own;
      no_earlier = record {
        begun = t.no_earlier.begun;
        after = λ j x at shares. none_later r is j x at (λ i at_i. t.no_earlier.after i x at_i shares);
      };
    }

    other_time : (v : ℕ) (r : TimeRead) → IsTimely (committed m s w e held now amount after) v r → IsTimely again v r
    other_time v r t = record { holds = t.holds; past = t.past; own = t.own; no_earlier = t.no_earlier }

    -- it agrees
    pub agrees_again : Agrees m again
    agrees_again = record {
      values = new.values;
      locks = new.locks;
      threads = new.threads;
      undeclared = new.undeclared;
      changes = new.changes;
      times = λ v r is. dite (ℕ_discrete v w)
          (λ same. subst (λ z. IsTimely again z r) (sym same) (its_time r (ap s.read (sym same) ∙ is)))
          (λ far. other_time v r (new.times v r (put_else s.read w _ v far ∙ is)));
      past = new.past;
      now = new.now;
      ticket = new.ticket;
      history = new.history;
    }

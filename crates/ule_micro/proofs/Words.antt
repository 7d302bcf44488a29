-- A lock word names the one worker that holds the lock, after it was taken, given back, or left alone.
use Rattle.std.proofs.Common.{◌≡◌, ◌≢◌, ℕ, Bool, true, false, sym, ap, ◌∙◌, subst, true≢false}
use Rattle.std.specs.Prelude.{Option, Some, None}
use Rattle.std.proofs.lemmas.Option.{none-some, same_Some}
use mathlib.Core.Logic.{dite}
use native.Mathlib.Decide.{ℕ_discrete}
use Rattle.ule_micro.specs.Agreement.{NamesOneHolder}

-- two workers that hold a lock are one
pub one_holder : (word : Option ℕ) (holds : ℕ → Bool) → NamesOneHolder word holds → (v w : ℕ) → holds v ≡ true → holds w ≡ true → v ≡ w
one_holder word holds r v w a b = same_Some v w (sym (r.named v a) ∙ r.named w b)

module _ (word word' : Option ℕ) (holds holds' : ℕ → Bool) (r : NamesOneHolder word holds) where
  -- a word and holders that stay agree as before
  pub names_kept : word' ≡ word → ((v : ℕ) → holds' v ≡ holds v) → NamesOneHolder word' holds'
  names_kept same has = record {
    named = λ v h. same ∙ r.named v (sym (has v) ∙ h);
    held = λ v e. has v ∙ r.held v (sym same ∙ e);
  }

  module _ (w : ℕ) (others : (v : ℕ) → v ≢ w → holds' v ≡ holds v) where
    -- a word that now names the worker agrees with the one that took the lock
    pub names_taken : word ≡ None → word' ≡ Some w → holds' w ≡ true → NamesOneHolder word' holds'
    names_taken free is has = record {
      named = λ v h. dite (ℕ_discrete v w) (λ z. is ∙ ap Some (sym z)) (λ far. absurd (none-some v (sym free ∙ r.named v (sym (others v far) ∙ h))));
      held = λ v e. subst (λ u. holds' u ≡ true) (same_Some w v (sym is ∙ e)) has;
    }

    -- a word that is now free agrees with the one that gave the lock back
    pub names_freed : holds w ≡ true → word' ≡ None → holds' w ≡ false → NamesOneHolder word' holds'
    names_freed had is gone = record {
      named = λ v h. absurd (dite (ℕ_discrete v w) (λ z. true≢false (sym h ∙ (ap holds' z ∙ gone))) (λ far. far (one_holder word holds r v w (sym (others v far) ∙ h) had)));
      held = λ v e. absurd (none-some v (sym is ∙ e));
    }

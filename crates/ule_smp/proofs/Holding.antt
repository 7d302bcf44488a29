-- One event, from the locks that it takes to none.
use Rattle.std.proofs.Common.{◌≡◌, ℕ, ◌+◌, ◌<◌, ◌≤◌, List, [], ◌∷◌, Some, None, ap, refl, sym, subst, ◌∙◌, arith}
use Rattle.std.specs.Prelude.{Option, nat_lt, false, if◌then◌else◌}
use Rattle.std.proofs.lemmas.Option.{same_Some}
use Rattle.ule_micro.specs.Histories.{entry_made}
use Rattle.ule_micro.specs.Means.{Means}
use Rattle.ule_micro.specs.Standings.{asks, has}
use Rattle.ule_micro.specs.declared.entry.HeldLocks.{HeldLocks}
use Rattle.ule_micro.specs.declared.entry.HeldLocks.TheVariants.{One, Two}
use Rattle.ule_micro.specs.declared.todo.Todo.TheVariants.{Event}
use Rattle.ule_words.specs.Held.{held_values, held_with, locks_of}
use Rattle.ule_words.specs.Passes.{PassState}
use Rattle.ule_words.specs.Programs.{StandsAt}
use Rattle.ule_words.specs.Tells.{CanCommit, HasCommitted}
use Rattle.ule_words.specs.Workers.{act_of, calm, entries_in, read_under, taking, timed}
use Rattle.ule_smp.specs.Taken.{ActsSo, AreHeld, HasPerformed, Serve, holding}

module _ {G : Type 0} where
  -- held locks: the locks that are held
  pub held_locks : (locks : HeldLocks) (held : List (ℕ × G)) → AreHeld locks held → locks_of held ≡ Some locks
  held_locks (One a) held h = ap locks_of h.1
  held_locks (Two a b) held h = ap locks_of h.3 ∙ ap (λ c. Some (if c then Two b a else Two a b)) (above a b h.2) where
    above : (a b : ℕ) → a < b → nat_lt b a ≡ false
    above a b lt = grind arith

  -- held still: the same locks are held, whatever the values
  pub held_still : (locks : HeldLocks) (held : List (ℕ × G)) (vs : List G) → AreHeld locks held → AreHeld locks (held_with held vs)
  held_still (One a) held vs h = subst (λ x. AreHeld (One a) (held_with x vs)) (sym h.1) (by vs) where
    by : (vs : List G) → AreHeld (One a) (held_with ((a, h.0) ∷ []) vs)
    by [] = (h.0, refl)
    by (v ∷ vs) = (v, refl)
  held_still (Two a b) held vs h = subst (λ x. AreHeld (Two a b) (held_with x vs)) (sym h.3) (by vs) where
    by : (vs : List G) → AreHeld (Two a b) (held_with ((b, h.0) ∷ (a, h.1) ∷ []) vs)
    by [] = (h.0, h.1, h.2, refl)
    by (v ∷ []) = (h.0, h.1, h.2, refl)
    by (v ∷ u ∷ us) = (_, _, h.2, refl)

module _ {H O G E R C : Type 0} (m : Means H O G E R C) (e : E) (locks : HeldLocks) where
  -- time read: a pass that holds these locks reads a time under them
  time_read : (p : PassState O H G E R) (now : ℕ) → AreHeld locks p.worker.held → (timed p.worker now).read ≡ Some (locks, now)
  time_read p now held = ap (λ z. read_under z now) (held_locks locks p.worker.held held)

  -- can commit under: a pass that holds the locks of an event that it asks for, and read a time, can commit it
  pub can_commit_under : (p q : PassState O H G E R) (now : ℕ) → q ≡ record p { worker = timed p.worker now } → Serve m e locks p.worker.held → p.worker.pending ≡ None → 0 < p.worker.allowance
      → m.asks p.worker.number (entries_in p.worker.mine) p.worker.hand e → CanCommit m q.worker e locks now
  can_commit_under p q now is serve still left wants = subst (λ z. CanCommit m z.worker e locks now) (sym is) record {
    calm = still;
    left = left;
    read = time_read p now serve.0;
    holds = held_locks locks p.worker.held serve.0;
    needs = serve.1;
    asks = wants;
  }

  -- held behind: the locks are still held behind the commit
  pub held_behind : (p q r s : PassState O H G E R) (now : ℕ) (reply : R) → q ≡ record p { worker = timed p.worker now } → HasCommitted m q e reply r → s ≡ record r { worker = calm r.worker }
      → AreHeld locks p.worker.held → AreHeld locks s.worker.held
  held_behind p q r s now reply is d settled held = subst (λ z. AreHeld locks z.worker.held) (sym settled) (subst (λ z. AreHeld locks z.held) (sym d.worker)
      (held_still locks q.worker.held _ (subst (λ z. AreHeld locks z.worker.held) (sym is) held)))

  -- same time: the time of the commit is the one that the pass read
  same_time : (p r : PassState O H G E R) (now : ℕ) (reply : R) (d : HasCommitted m (record p { worker = timed p.worker now }) e reply r) → AreHeld locks p.worker.held → d.now ≡ now
  same_time p r now reply d held = ap (λ x. x.1) (same_Some (d.locks, d.now) (locks, now) (sym d.read ∙ time_read p now held))

  -- has performed timed: the event, from the time that the pass read to where it gave its locks back
  has_performed_timed : (p r s z : PassState O H G E R) (now : ℕ) (reply : R) → HasCommitted m (record p { worker = timed p.worker now }) e reply r → s ≡ record r { worker = calm r.worker }
      → z ≡ record s { worker = holding s.worker [] } → AreHeld locks p.worker.held → HasPerformed m p e (reply, now) z
  has_performed_timed p r s z now reply d settled free held =
      let same = same_time p r now reply d held in
      let behind : z ≡ record r { worker = holding (calm r.worker) [] } = free ∙ ap {A = PassState O H G E R} (λ x. record x { worker = holding x.worker [] }) settled in record {
        hand = (act_of m p.worker e d.now).hand;
        entry = record { number = d.ticket; entry = entry_made p.worker.number e d.locks d.now (act_of m p.worker e d.now).reply };
        event = refl;
        is_reply = sym d.is_reply;
        time = same;
        above = d.above;
        table = ap (λ x. x.table) behind ∙ d.table;
        own = ap (λ x. x.own) behind ∙ d.own;
        worker = ap (λ x. x.worker) behind ∙ ap (λ x. holding (calm x) []) d.worker;
        stands = λ given stands. subst (λ x. StandsAt m given x (asks (Some (reply, now))) × (m.left x.own (asks (Some (reply, now))) + 1 ≤ m.left p.own (has (Event e)))) (sym behind)
            (subst (λ n. StandsAt m given r (asks (Some (reply, n))) × (m.left r.own (asks (Some (reply, n))) + 1 ≤ m.left p.own (has (Event e)))) same (d.stands given stands));
      }

  -- has performed under: an event, from the locks that were taken for it to none
  pub has_performed_under : (p q r s z : PassState O H G E R) (now : ℕ) (reply : R) → q ≡ record p { worker = timed p.worker now } → HasCommitted m q e reply r → s ≡ record r { worker = calm r.worker }
      → z ≡ record s { worker = holding s.worker [] } → AreHeld locks p.worker.held → HasPerformed m p e (reply, now) z
  has_performed_under p q r s z now reply is d settled free held = has_performed_timed p r s z now reply (subst (λ x. HasCommitted m x e reply r) is d) settled free held

  -- acts so: the event was performed where it may be
  pub acts_so : (p q r : PassState O H G E R) (now : ℕ) (reply : R) → q ≡ record p { worker = timed p.worker now } → HasCommitted m q e reply r → AreHeld locks p.worker.held
      → ActsSo m p.worker.number p.worker.hand (held_values p.worker.held) e (reply, now)
  acts_so p q r now reply is d held = by (subst (λ x. HasCommitted m x e reply r) is d) where
    by : HasCommitted m (record p { worker = timed p.worker now }) e reply r → ActsSo m p.worker.number p.worker.hand (held_values p.worker.held) e (reply, now)
    by d = subst (λ n. ActsSo m p.worker.number p.worker.hand (held_values p.worker.held) e (reply, n)) (same_time p r now reply d held) record { may = d.may; is_reply = d.is_reply }

module _ {H O G E R : Type 0} where
  -- took: a lock that was taken behind a time that was forgotten
  pub took : (a b d : PassState O H G E R) (l : ℕ) (v : G) (x : Option (HeldLocks × ℕ)) → b ≡ record a { worker = record a.worker { read = x } } → d ≡ record b { worker = taking b.worker l v } → d ≡ record a { worker = taking a.worker l v }
  took a b d l v x is e = e ∙ ap {A = PassState O H G E R} (λ z. record z { worker = taking z.worker l v }) is

module _ {H O G E R C : Type 0} (m : Means H O G E R C) where
  -- performed from: an event that a pass performed is one of the pass before it took the locks
  pub performed_from : (p q z : PassState O H G E R) (held : List (ℕ × G)) (e : E) (told : R × ℕ) → q ≡ record p { worker = holding p.worker held } → HasPerformed m q e told z → HasPerformed m p e told z
  performed_from p q z held e told is d = own_again (subst (λ x. HasPerformed m x e told z) is d) where
    own_again : HasPerformed m (record p { worker = holding p.worker held }) e told z → HasPerformed m p e told z
    own_again d = record {
      hand = d.hand;
      entry = d.entry;
      event = d.event;
      is_reply = d.is_reply;
      time = d.time;
      above = d.above;
      table = d.table;
      own = d.own;
      worker = d.worker;
      stands = d.stands;
    }

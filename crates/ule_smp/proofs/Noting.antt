-- What is told at the end of a play: the entries in order, the lines of the CPUs and of the threads, and the threads' words.
use Rattle.std.proofs.Common.{◌≡◌, ℕ, zero, suc, ◌+◌, ◌<◌, ◌≤◌, Bool, true, false, ◌==◌, nat_lt, List, [], ◌∷◌, ◌++◌, length, slice_get, Option, Some, None, IfSome, option_to_list, if◌then◌else◌, refl, sym, ap, ◌∙◌, subst, ⊎_elim, ◌⊎◌, inl, inr, arith, append-nil, append_assoc, length-append}
use Rattle.std.specs.Prelude.{find, min, unwrap_or}
use Rattle.std.specs.List.{AllByRecursion, cons_option}
use Rattle.std.proofs.lemmas.Bool.{cases_eq, ltb-false, ltb-true}
use Rattle.std.proofs.lemmas.Option.{none-some, same_Some}
use Rattle.ule_score.specs.declared.record.CpuLine.{CpuLine}
use Rattle.ule_types.specs.Outcome.{OutcomeValue, placed, with_cpu}
use Rattle.ule_types.specs.declared.event.Event.{Event}
use Rattle.ule_types.specs.declared.event.Reply.{Reply}
use Rattle.ule_types.specs.declared.outcome.ThreadLine.{ThreadLine}
use Rattle.ule_types.specs.declared.setup.Setup.{Setup}
use Rattle.ule_model.specs.CpuValue.{first_found}
use Rattle.ule_model.specs.LockValue.{LockValue, chain, limbo, line_under, nothing, queue}
use Rattle.ule_model.specs.World.{World}
use Rattle.ule_model.specs.WorldValue.{StandsUnder}
use Rattle.ule_micro.specs.declared.entry.Entry.{Entry}
use Rattle.ule_micro.specs.declared.word.Word.{Word}
use Rattle.ule_parts.specs.Histories.{entries_in_order, world_entry}
use Rattle.ule_parts.proofs.Replays.{in_order_more}
use Rattle.ule_seq.specs.Notes.{blank_line, sched_notes, with_cpu_under, with_line, with_lines_under, with_word, with_word_in}
use Rattle.ule_seq.specs.Outcomes.{queue_line, queue_lines}
use Rattle.ule_seq.proofs.FinalLaws.{with_next_cpu}
use Rattle.ule_seq.proofs.NoteSteps.{line_more, no_line_more, none_before}
use Rattle.ule_words.specs.Ends.{entries_noted, lock_named, values_noted, words_noted}
use Rattle.ule_smp.proofs.Lines.{AreNumbered, found_line, lines_from, placed_told, same_lines, told_else, told_here, told_numbered, with_told}

-- ---- the lines of what is under a lock

-- is told over: these lines are those of n threads, of which the first ones are told by a value where it has them, and else as before
record IsToldOver (v : LockValue) (count n : ℕ) (f : ℕ → Option ThreadLine) (lines : List ThreadLine) : Type 0 where
  told : ℕ → Option ThreadLine
  lines_are : lines ≡ lines_from told 0 count
  numbered : AreNumbered told
  below : (t : ℕ) → t < n → told t ≡ first_found (line_under v t) (f t)
  past : (t : ℕ) → n ≤ t → told t ≡ f t

module _ (v : LockValue) (count : ℕ) (f : ℕ → Option ThreadLine) (numbered : AreNumbered f) (numbered_under : AreNumbered (line_under v)) where
  -- one thread more
  over_more : (n : ℕ) → n < count → (lines : List ThreadLine) (r : IsToldOver v count n f lines) (o : Option ThreadLine) → line_under v n ≡ o → IsToldOver v count (n + 1) f (with_line o lines)
  over_more n low lines r None is = record {
    told = r.told;
    lines_are = r.lines_are;
    numbered = r.numbered;
    below = λ t few. ⊎_elim (λ (e : t ≡ n). r.past t (omega (arith, e)) ∙ ap (λ p. first_found p (f t)) (sym (ap (line_under v) e ∙ is))) (λ far. r.below t (omega (arith, few, far))) (cases_eq t n);
    past = λ t more. r.past t (omega (arith, more));
  }
  over_more n low lines r (Some l) is = let its : l.id ≡ n = numbered_under n l is in record {
    told = with_told l r.told;
    lines_are = ap (placed l) r.lines_are ∙ placed_told r.told r.numbered l 0 count (omega arith) (omega (arith, its, low));
    numbered = told_numbered l r.told r.numbered;
    below = λ t few. ⊎_elim (λ (e : t ≡ n). told_here l r.told t (e ∙ sym its) ∙ ap (λ p. first_found p (f t)) (sym (ap (line_under v) e ∙ is)))
        (λ far. told_else l r.told t (λ e. far (e ∙ its)) ∙ r.below t (omega (arith, few, far))) (cases_eq t n);
    past = λ t more. told_else l r.told t (λ e. omega (arith, e, its, more)) ∙ r.past t (omega (arith, more));
  }

  over : (n : ℕ) → n ≤ count → IsToldOver v count n f (with_lines_under v n (lines_from f 0 count))
  over zero low = record { told = f; lines_are = none_before v (lines_from f 0 count); numbered = numbered; below = λ t few. absurd (omega (arith, few)); past = λ t more. refl }
  over (suc n) low = by (line_under v n) refl (over n (omega (arith, low)))
    where
      next : suc n ≡ n + 1
      next = omega arith

      more : (o : Option ThreadLine) → line_under v n ≡ o → with_lines_under v (n + 1) (lines_from f 0 count) ≡ with_line o (with_lines_under v n (lines_from f 0 count))
      more None is = no_line_more v n (lines_from f 0 count) is
      more (Some l) is = line_more v n (lines_from f 0 count) l is

      by : (o : Option ThreadLine) → line_under v n ≡ o → IsToldOver v count n f (with_lines_under v n (lines_from f 0 count)) → IsToldOver v count (suc n) f (with_lines_under v (suc n) (lines_from f 0 count))
      by o is r = subst (λ k. IsToldOver v count k f (with_lines_under v k (lines_from f 0 count))) (sym next)
          (subst (IsToldOver v count (n + 1) f) (sym (more o is)) (over_more n (omega (arith, low)) (with_lines_under v n (lines_from f 0 count)) r o is))

  -- all lines that a value tells
  pub under_told : with_lines_under v count (lines_from f 0 count) ≡ lines_from (λ t. first_found (line_under v t) (f t)) 0 count
  under_told = let r = over count (omega arith) in r.lines_are ∙ same_lines r.told (λ t. first_found (line_under v t) (f t)) 0 count (λ t low few. r.below t (omega (arith, few)))

  under_numbered : AreNumbered (λ t. first_found (line_under v t) (f t))
  under_numbered t line is = by (line_under v t) refl is
    where
      by : (o : Option ThreadLine) → line_under v t ≡ o → first_found o (f t) ≡ Some line → line.id ≡ t
      by None told is = numbered t line is
      by (Some l) told is = numbered_under t line (told ∙ is)

-- told after: what is told of a thread once these values were told, the last of which stands
abbrev pub told_after : List LockValue → (ℕ → Option ThreadLine) → ℕ → Option ThreadLine
told_after [] f = f
told_after (v ∷ vs) f = told_after vs (λ t. first_found (line_under v t) (f t))

-- where each value tells this of a thread or nothing, and one of them tells it, it is told
pub one_told : (t : ℕ) (o : Option ThreadLine) (vs : List LockValue) (f : ℕ → Option ThreadLine) → ((l : ℕ) (v : LockValue) → slice_get vs l ≡ Some v → (line_under v t ≡ o) ⊎ (line_under v t ≡ None))
    → (f t ≡ o) ⊎ ((f t ≡ None) × ((l : ℕ) × (v : LockValue) × (slice_get vs l ≡ Some v) × (line_under v t ≡ o))) → told_after vs f t ≡ o
one_told t o [] f each (inl is) = is
one_told t o [] f each (inr (none, (l, v, at, is))) = absurd (none-some v at)
one_told t o (v ∷ vs) f each (inl is) = one_told t o vs (λ u. first_found (line_under v u) (f u)) (λ l u at. each (suc l) u at) (inl (kept (line_under v t) (f t) o (each 0 v refl) is))
  where
    kept : (p q o : Option ThreadLine) → (p ≡ o) ⊎ (p ≡ None) → q ≡ o → first_found p q ≡ o
    kept None q o either is = is
    kept (Some l) q o (inl same) is = same
    kept (Some l) q o (inr none) is = absurd (none-some l (sym none))
one_told t o (v ∷ vs) f each (inr (none, (zero, u, at, is))) = one_told t o vs (λ u. first_found (line_under v u) (f u)) (λ l u at. each (suc l) u at)
    (inl (come (line_under v t) (f t) o none (ap (λ x. line_under x t) (same_Some v u at) ∙ is)))
  where
    come : (p q o : Option ThreadLine) → q ≡ None → p ≡ o → first_found p q ≡ o
    come None q o none is = none ∙ is
    come (Some l) q o none is = is
one_told t o (v ∷ vs) f each (inr (none, (suc l, u, at, is))) = one_told t o vs (λ u. first_found (line_under v u) (f u)) (λ l u at. each (suc l) u at)
    (by (line_under v t) (f t) (each 0 v refl) none)
  where
    by : (p q : Option ThreadLine) → (p ≡ o) ⊎ (p ≡ None) → q ≡ None
        → (first_found p q ≡ o) ⊎ ((first_found p q ≡ None) × ((k : ℕ) × (x : LockValue) × (slice_get vs k ≡ Some x) × (line_under x t ≡ o)))
    by None q either none = inr (none, (l, u, at, is))
    by (Some m) q (inl same) none = inl same
    by (Some m) q (inr other) none = absurd (none-some m (sym other))

module _ (s : Setup) where
  -- ---- entries

  -- the entries are told in order, and no lines with them
  pub entries_told : (h : List (Entry Event Reply)) (x : OutcomeValue) → (entries_noted (sched_notes s) h x).entries ≡ x.entries ++ entries_in_order h
  entries_told [] x = sym (append-nil x.entries)
  entries_told (e ∷ h) x = ap (λ es. es ++ world_entry e ∷ []) (entries_told h x) ∙ (append_assoc x.entries (entries_in_order h) (world_entry e ∷ []) ∙ ap (λ es. x.entries ++ es) (sym (in_order_more e h)))

  pub entries_leave_threads : (h : List (Entry Event Reply)) (x : OutcomeValue) → (entries_noted (sched_notes s) h x).threads ≡ x.threads
  entries_leave_threads [] x = refl
  entries_leave_threads (e ∷ h) x = entries_leave_threads h x

  pub entries_leave_cpus : (h : List (Entry Event Reply)) (x : OutcomeValue) → (entries_noted (sched_notes s) h x).cpus ≡ x.cpus
  entries_leave_cpus [] x = refl
  entries_leave_cpus (e ∷ h) x = entries_leave_cpus h x

  -- ---- values

  pub values_leave_entries : (l : ℕ) (vs : List LockValue) (x : OutcomeValue) → (values_noted (sched_notes s) l vs x).entries ≡ x.entries
  values_leave_entries l [] x = refl
  values_leave_entries l (v ∷ vs) x = values_leave_entries (l + 1) vs ((sched_notes s).value x l v)

  -- the lines of the threads
  pub values_tell_threads : (l : ℕ) (vs : List LockValue) (x : OutcomeValue) (f : ℕ → Option ThreadLine) → AreNumbered f → ((k : ℕ) (v : LockValue) → slice_get vs k ≡ Some v → AreNumbered (line_under v))
      → x.threads ≡ lines_from f 0 256 → (values_noted (sched_notes s) l vs x).threads ≡ lines_from (told_after vs f) 0 256
  values_tell_threads l [] x f numbered each is = is
  values_tell_threads l (v ∷ vs) x f numbered each is = values_tell_threads (l + 1) vs ((sched_notes s).value x l v) (λ t. first_found (line_under v t) (f t))
      (under_numbered v 256 f numbered (each 0 v refl)) (λ k u at. each (suc k) u at) (ap (with_lines_under v 256) is ∙ under_told v 256 f numbered (each 0 v refl))

  -- the line of a CPU is told behind those before it, and no line of another lock
  other_told : (l : ℕ) (v : LockValue) (lines : List CpuLine) → queue_line v ≡ None → s.cpus ≤ l → length lines ≡ min l s.cpus
      → (with_cpu_under s.cpus l v lines ≡ lines ++ option_to_list (queue_line v)) × (length (lines ++ option_to_list (queue_line v)) ≡ min (l + 1) s.cpus)
  other_told l v lines none past count = (
    (let is : nat_lt l s.cpus ≡ false = grind arith in (λ i. if is i then with_cpu l (unwrap_or (queue_line v) blank_line) lines else lines))
        ∙ (sym (append-nil lines) ∙ ap (λ o. lines ++ option_to_list o) (sym none)),
    ap (λ (o : Option CpuLine). length (lines ++ option_to_list o)) none ∙ (ap length (append-nil lines) ∙ (omega (arith, past, count))),
  )

  cpu_told : (w : World) (l : ℕ) (v : LockValue) (lines : List CpuLine) → length w.lines ≡ s.cpus → s.cpus ≤ 16 → StandsUnder w l v → length lines ≡ min l s.cpus
      → (with_cpu_under s.cpus l v lines ≡ lines ++ option_to_list (queue_line v)) × (length (lines ++ option_to_list (queue_line v)) ≡ min (l + 1) s.cpus)
  cpu_told w l (queue v) lines many few stands count = let there : l < s.cpus = let z = stands.there in omega (arith, many) in
      let next : l ≡ length lines = omega (arith, there, count) in let is : nat_lt l s.cpus ≡ true = grind arith in (
        (λ i. if is i then with_cpu l v.line lines else lines) ∙ with_next_cpu l v.line lines next,
        length-append lines (v.line ∷ []) ∙ (omega (arith, there, count)),
      )
  cpu_told w l (chain v) lines many few stands count = other_told l (chain v) lines refl (let z = stands.number in omega (arith, few)) count
  cpu_told w l (limbo v) lines many few stands count = other_told l (limbo v) lines refl (let z = stands.number in omega (arith, few)) count
  cpu_told w l nothing lines many few stands count = other_told l nothing lines refl (let z = stands.past in omega (arith, many)) count

  -- the lines of the CPUs
  pub values_tell_cpus : (w : World) → length w.lines ≡ s.cpus → s.cpus ≤ 16 → (l : ℕ) (vs : List LockValue) (x : OutcomeValue) → ((k : ℕ) → IfSome (slice_get vs k) (StandsUnder w (l + k)))
      → length x.cpus ≡ min l s.cpus → (values_noted (sched_notes s) l vs x).cpus ≡ x.cpus ++ queue_lines vs
  values_tell_cpus w many few l [] x each count = sym (append-nil x.cpus)
  values_tell_cpus w many few l (v ∷ vs) x each count = let z : l + 0 ≡ l = omega arith in let told = cpu_told w l v x.cpus many few (subst (λ i. StandsUnder w i v) z (each 0)) count in
      values_tell_cpus w many few (l + 1) vs ((sched_notes s).value x l v) (λ k. subst (λ i. IfSome (slice_get vs k) (StandsUnder w i)) (let a : l + suc k ≡ l + 1 + k = omega arith in a) (each (suc k)))
      (ap length told.0 ∙ told.1)
      ∙ (ap (λ ls. ls ++ queue_lines vs) told.0 ∙ (append_assoc x.cpus (option_to_list (queue_line v)) (queue_lines vs) ∙ ap (λ ls. x.cpus ++ ls) (front (queue_line v) (queue_lines vs))))
    where
      front : (o : Option CpuLine) (ls : List CpuLine) → option_to_list o ++ ls ≡ cons_option o ls
      front None ls = refl
      front (Some l) ls = refl

  -- ---- words

  -- a word that stands in the thread's line already changes nothing
  pub word_kept : (words : ℕ → Word) (x : OutcomeValue) → AllByRecursion (λ m. (placed m x.threads ≡ x.threads) × (m.word ≡ lock_named (words m.id))) x.threads
      → (t : ℕ) → with_word x t (lock_named (words t)) ≡ x
  word_kept words x all t = by (find (λ m. m.id == t) x.threads) refl
    where
      by : (o : Option ThreadLine) → find (λ m. m.id == t) x.threads ≡ o → with_word x t (lock_named (words t)) ≡ x
      by None is = (λ i. record x { threads = with_line (with_word_in (lock_named (words t)) (is i)) x.threads })
      by (Some line) is = let at = found_line (λ m. (placed m x.threads ≡ x.threads) × (m.word ≡ lock_named (words m.id))) t x.threads line all is in
          let word : lock_named (words t) ≡ line.word = ap (λ u. lock_named (words u)) (sym at.1) ∙ sym at.0.1 in
          (λ i. record x { threads = with_line (with_word_in (lock_named (words t)) (is i)) x.threads })
          ∙ ((λ i. record x { threads = placed (record line { word = word i }) x.threads }) ∙ (λ i. record x { threads = at.0.0 i }))

  pub words_told : (words : ℕ → Word) (x : OutcomeValue) → AllByRecursion (λ m. (placed m x.threads ≡ x.threads) × (m.word ≡ lock_named (words m.id))) x.threads
      → (n : ℕ) → words_noted (sched_notes s) n words x ≡ x
  unfolding words_noted
  words_told words x all zero = refl
  words_told words x all (suc t) = ap (λ (y : OutcomeValue). with_word y t (lock_named (words t))) (words_told words x all t) ∙ word_kept words x all t

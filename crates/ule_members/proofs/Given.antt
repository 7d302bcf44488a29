-- What a move between two CPUs can be: it is refused, or a thread that is queued on the first goes to the second, which is
-- another CPU. For what the steal rule gives is queued on its CPU.
use Rattle.std.proofs.Common.{◌≡◌, ◌≢◌, ℕ, ◌<◌, ◌==◌, ◌&&◌, ◌||◌, Bool, true, false, cond, List, [], ◌∷◌, filter, Option, Some, None, if◌then◌else◌, refl, sym, ◌∙◌, ap, subst, arith}
use Rattle.std.specs.List.{concat}
use Rattle.std.specs.Option.{option_map}
use Rattle.std.specs.Prelude.{is_none, nat_le, nat_lt, option_and_then, slice_get}
use Rattle.std.proofs.lemmas.Bool.{and_parts, both_ways, eq-eqb, eqb-true, le-leb, lt-ltb, or_parts}
use Rattle.std.proofs.lemmas.Option.{none-some, same_Some}
use Rattle.ule_prio.specs.declared.kind.Kind.{Kind}
use Rattle.ule_prio.specs.declared.kind.Kind.TheVariants.{Real, Batch, Idle}
use Rattle.ule_runq.specs.Runq.{threads_from}
use Rattle.ule_score.specs.declared.place.Place.{Place}
use Rattle.ule_score.specs.declared.place.Place.TheVariants.{Queued}
use Rattle.ule_score.specs.declared.record.ThreadRecord.{ThreadRecord}
use Rattle.ule_types.specs.declared.event.MoveWhy.{MoveWhy}
use Rattle.ule_types.specs.declared.event.MoveWhy.TheVariants.{Steal, Balance}
use Rattle.ule_model.specs.Action.{PairAction}
use Rattle.ule_model.specs.Actions.{Seen, given_action, is_refused, move_action, refused_action}
use Rattle.ule_model.specs.ActionStep.{seen_on}
use Rattle.ule_model.specs.CpuValue.{first_found}
use Rattle.ule_model.specs.Places.{is_on, waits_on}
use Rattle.ule_model.specs.Steal.{buckets_of, calendar_pick, first_movable, given_by, is_movable_on, plain_pick, queues_pick, with_first_last}
use Rattle.ule_model.specs.Tick.{load_of}
use Rattle.ule_model.specs.World.{Member, Side, World, is_numbered, side_of, standing_of, thread_of}
use Rattle.ule_members.proofs.CalendarMoves.{IsQueuedOn, queued_where_waits}
use Rattle.ule_members.proofs.CalendarPlaces.{FindsEach}
use Rattle.ule_members.proofs.Loads.{has_load}
use Rattle.ule_members.proofs.Membership.{Has, has_any, has_thread_of}
use Rattle.ule_members.proofs.PartDone.{StandsAt}

-- ---- the steal rule

-- the first movable thread of a line is movable
first_is_movable : (movable : ℕ → Bool) (line : List ℕ) (t : ℕ) → first_movable movable line ≡ Some t → movable t ≡ true
first_is_movable movable [] t is = absurd (none-some t is)
first_is_movable movable (u ∷ line) t is = split (movable u) refl is (first_is_movable movable line t)
  where
    split : (b : Bool) → movable u ≡ b → slice_get (cond b (u ∷ filter movable line) (filter movable line)) 0 ≡ Some t →
        (first_movable movable line ≡ Some t → movable t ≡ true) → movable t ≡ true
    split true passes is rest = ap movable (sym (same_Some u t is)) ∙ passes
    split false passes is rest = rest is

-- what holds of what each of two gives holds of the first of them
of_first_found : (P : ℕ → Type 0) (one other : Option ℕ) (t : ℕ) → (one ≡ Some t → P t) → (other ≡ Some t → P t) → first_found one other ≡ Some t → P t
of_first_found P None other t first second is = second is
of_first_found P (Some u) other t first second is = first is

-- the thread that three queues give is movable
pick_is_movable : (movable : ℕ → Bool) (ridx : ℕ) (real batch idle : List (List ℕ)) (t : ℕ) → queues_pick movable ridx real batch idle ≡ Some t → movable t ≡ true
pick_is_movable movable ridx real batch idle t =
    of_first_found (λ u. movable u ≡ true) (plain_pick movable real) (first_found (calendar_pick movable batch ridx) (plain_pick movable idle)) t
    (first_is_movable movable (concat real) t)
    (of_first_found (λ u. movable u ≡ true) (calendar_pick movable batch ridx) (plain_pick movable idle) t
    (first_is_movable movable (with_first_last (threads_from batch ridx)) t) (first_is_movable movable (concat idle) t))

-- a thread that is queued on CPU c
pub record IsQueuedThread (c : ℕ) (m : Member) (ms : List Member) : Type 0 where
  pub kind : Kind
  pub bucket : ℕ
  pub stands : StandsAt m.thread.id (Queued c kind bucket) ms
  pub place_is : m.place ≡ Queued c kind bucket

-- the thread that a CPU gives to another is queued on it
pub given_queued : (c : ℕ) (s : Side) (m : Member) → FindsEach s.members → given_by c s ≡ Some m → IsQueuedThread c m s.members
given_queued c s m finds given = split picked refl given
  where
    picked : Option ℕ
    picked = queues_pick (is_movable_on c s.members) s.line.ridx (buckets_of c Real s.members) (buckets_of c Batch s.members) (buckets_of c Idle s.members)

    queued_thread : Has m s.members → waits_on c m.place ≡ true → IsQueuedThread c m s.members
    queued_thread has waits =
        let at : IsQueuedOn c m.place = queued_where_waits c m.place waits in record {
          kind = at.kind;
          bucket = at.bucket;
          stands = record { member = m; found = finds m has; place_is = at.place_is };
          place_is = at.place_is;
        }

    movable_thread : (t : ℕ) → is_movable_on c s.members t ≡ true → thread_of t s.members ≡ Some m → IsQueuedThread c m s.members
    movable_thread t movable found =
        let one = has_any (λ x. is_numbered t x && (waits_on c x.place && is_none x.thread.bound)) s.members movable in
        let tests = and_parts (is_numbered t one.0) (waits_on c one.0.place && is_none one.0.thread.bound) one.1.1 in
        let same : one.0 ≡ m =
        same_Some one.0 m (sym (finds one.0 one.1.0) ∙ ap (λ (u : ℕ). thread_of u s.members) (eqb-true one.0.thread.id t tests.0) ∙ found) in
        queued_thread (has_thread_of t m s.members found).0
        (subst (λ (x : Member). waits_on c x.place ≡ true) same (and_parts (waits_on c one.0.place) (is_none one.0.thread.bound) tests.1).0)

    split : (o : Option ℕ) → picked ≡ o → option_and_then (λ t. thread_of t s.members) o ≡ Some m → IsQueuedThread c m s.members
    split None is found = absurd (none-some m found)
    split (Some t) is found =
        movable_thread t
        (pick_is_movable (is_movable_on c s.members) s.line.ridx (buckets_of c Real s.members) (buckets_of c Batch s.members) (buckets_of c Idle s.members) t is) found

-- ---- moves

-- what a move of a worker sees under the lock of CPU c
abbrev pub move_sees : World → ℕ → ℕ → ℕ → Seen
move_sees w worker now c = seen_on c worker now None (side_of c w)

module _ (w : World) (worker now a b : ℕ) where
  -- the first CPU has a load where a thread is queued on it
  queued_load : (t l : ℕ) (k : Kind) → StandsAt t (Queued a k l) w.members → 0 < load_of a w.members
  queued_load t l k at =
      has_load a at.member w.members (has_thread_of t at.member w.members at.found).0 (ap (is_on a) at.place_is ∙ eq-eqb a a refl)

  -- a move that isn't refused is between two CPUs: no load is less than itself, and a steal is by a CPU without load
  allowed_apart : (why : MoveWhy) → 0 < load_of a w.members → is_refused why (move_sees w worker now a) (move_sees w worker now b) ≡ false → a ≢ b
  allowed_apart Steal some allowed same =
      let from = move_sees w worker now a in
      let to = move_sees w worker now b in
      both_ways (nat_lt 0 to.load) (or_parts (nat_lt 0 to.load) (nat_lt from.load from.settings.steal || (from.movable == 0)) allowed).0
      (lt-ltb 0 to.load (subst (λ (c : ℕ). 0 < load_of c w.members) same some))
  allowed_apart Balance some allowed same =
      let from = move_sees w worker now a in
      let to = move_sees w worker now b in
      let equal : load_of a w.members ≡ load_of b w.members = ap (λ (c : ℕ). load_of c w.members) same in
      both_ways (nat_le from.load to.load) (or_parts (from.movable == 0) (nat_le from.load to.load) allowed).1 (le-leb from.load to.load (omega arith))

  -- what holds of a refused move, and of each by which a thread queued on the first CPU goes to another, holds of every move
  pub each_move : (P : PairAction → Type 0) (why : MoveWhy) → FindsEach w.members → P (refused_action (move_sees w worker now a) (move_sees w worker now b)) →
      ((r : ThreadRecord) (k : Kind) (l : ℕ) → a ≢ b → StandsAt r.id (Queued a k l) w.members →
      P (given_action (Some (record { thread = r; place = Queued a k l })) (move_sees w worker now a) (move_sees w worker now b))) →
      P (move_action why (move_sees w worker now a) (move_sees w worker now b))
  each_move P why finds refused gives = by_refusal (is_refused why (move_sees w worker now a) (move_sees w worker now b)) refl
    where
      by_given : (o : Option Member) → given_by a (side_of a w) ≡ o → is_refused why (move_sees w worker now a) (move_sees w worker now b) ≡ false →
          P (given_action (option_map standing_of o) (move_sees w worker now a) (move_sees w worker now b))
      by_given None given allowed = refused
      by_given (Some m) given allowed =
          let q : IsQueuedThread a m w.members = given_queued a (side_of a w) m finds given in
          subst (λ (p : Place). P (given_action (Some (record { thread = m.thread; place = p })) (move_sees w worker now a) (move_sees w worker now b))) (sym q.place_is)
          (gives m.thread q.kind q.bucket (allowed_apart why (queued_load m.thread.id q.bucket q.kind q.stands) allowed) q.stands)

      by_refusal : (d : Bool) → is_refused why (move_sees w worker now a) (move_sees w worker now b) ≡ d →
          P (if d then refused_action (move_sees w worker now a) (move_sees w worker now b)
          else given_action (option_map standing_of (given_by a (side_of a w))) (move_sees w worker now a) (move_sees w worker now b))
      by_refusal true is = refused
      by_refusal false is = by_given (given_by a (side_of a w)) refl is

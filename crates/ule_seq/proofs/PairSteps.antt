-- The step of a move is what the calls of its arm make of the two CPUs and of the hand.
use Rattle.std.proofs.Common.{◌≡◌, ℕ, Bool, true, false, if◌then◌else◌, Option, Some, None, refl, sym, ◌∙◌, ap, option_and_then}
use Rattle.std.specs.Prelude.{IsSome, IsTrue}
use Rattle.ule_prio.specs.declared.kind.Kind.{Kind}
use Rattle.ule_prio.specs.declared.kind.Kind.TheVariants.{Real, Batch, Idle}
use Rattle.ule_score.specs.declared.place.Place.TheVariants.{Queued}
use Rattle.ule_score.specs.declared.record.ThreadRecord.{ThreadRecord}
use Rattle.ule_threads.specs.declared.standing.Standing.{Standing}
use Rattle.ule_types.specs.declared.event.MoveWhy.{MoveWhy}
use Rattle.ule_types.specs.declared.event.Reply.{Reply}
use Rattle.ule_model.specs.Actions.{Seen, given_action, is_refused, refused_action}
use Rattle.ule_model.specs.ActionStep.{PairStepped, seen_in}
use Rattle.ule_model.specs.ActionValue.{parts_on_cpu}
use Rattle.ule_model.specs.CpuChange.{kind_queued, value_removed, value_removed_from}
use Rattle.ule_model.specs.CpuNumbers.{is_movable}
use Rattle.ule_model.specs.CpuValue.{CpuValue, removed_from, thread_in}
use Rattle.ule_model.specs.LockValue.{LockValue, found_on, queue}
use Rattle.ule_model.specs.Steal.{given_in, stolen_in}
use Rattle.ule_model.specs.Step.{pair_on_cpus}
use Rattle.ule_tdq.proofs.PickLaws.{IsFoundQueued, movable_found}
use Rattle.ule_seq.specs.Calls.{queue_taken_in, queues_moved}

-- a removal from a queue leaves the records
removed_thread : (k : Kind) (t u : ℕ) (v : CpuValue) → thread_in (removed_from k t v) u ≡ thread_in v u
removed_thread Real t u v = refl
removed_thread Batch t u v = refl
removed_thread Idle t u v = refl

-- what was made is what a move makes of the hand and of two CPUs, whenever it happens
abbrev pub IsMoved : ℕ → MoveWhy → Option ThreadRecord → CpuValue → CpuValue → (hand : Option ThreadRecord) (from to : LockValue) (reply : Reply) → Type 0
IsMoved worker why held v u hand from to reply = record {
  hand : (now : ℕ) → hand ≡ (queues_moved worker now why held v u).hand;
  from : (now : ℕ) → from ≡ (queues_moved worker now why held v u).from;
  to : (now : ℕ) → to ≡ (queues_moved worker now why held v u).to;
  reply : (now : ℕ) → reply ≡ (queues_moved worker now why held v u).reply;
}

module _ (worker : ℕ) (why : MoveWhy) (held : Option ThreadRecord) (v u : CpuValue) where
  -- what is seen of the two CPUs
  abbrev giver : ℕ → Seen
  giver now = seen_in worker now None v

  abbrev taker : ℕ → Seen
  taker now = seen_in worker now None u

  -- what a move comes to
  abbrev Comes : ℕ → PairStepped → Type 0
  Comes now made = queues_moved worker now why held v u ≡ made

  -- it is what was made
  is_moved : (hand : Option ThreadRecord) (from to : LockValue) (reply : Reply) →
      ((now : ℕ) → Comes now (record { hand = hand; from = from; to = to; reply = reply })) → IsMoved worker why held v u hand from to reply
  is_moved hand from to reply comes = record {
    hand = λ now. sym (ap (λ (s : PairStepped). s.hand) (comes now));
    from = λ now. sym (ap (λ (s : PairStepped). s.from) (comes now));
    to = λ now. sym (ap (λ (s : PairStepped). s.to) (comes now));
    reply = λ now. sym (ap (λ (s : PairStepped). s.reply) (comes now));
  }

  -- a move by whether it is refused
  by_refusal : (now : ℕ) (d : Bool) → is_refused why (giver now) (taker now) ≡ d →
      Comes now (pair_on_cpus now (if d then refused_action (giver now) (taker now) else given_action (given_in v) (giver now) (taker now)) held v u)
  by_refusal now d is =
      ap (λ (b : Bool). pair_on_cpus now (if b then refused_action (giver now) (taker now) else given_action (given_in v) (giver now) (taker now)) held v u) is

  -- a move that is refused
  pub move_refused : (reply : Reply) → ((now : ℕ) → is_refused why (giver now) (taker now) ≡ true) →
      ((now : ℕ) → reply ≡ (refused_action (giver now) (taker now)).reply) → IsMoved worker why held v u held (queue v) (queue u) reply
  move_refused reply refused told =
      is_moved held (queue v) (queue u) reply
      (λ now. by_refusal now true (refused now) ∙ ap (λ (x : Reply). record { hand = held; from = queue v; to = queue u; reply = x }) (sym (told now)))

  -- a move where no thread is given
  pub none_given : (reply : Reply) → ((now : ℕ) → is_refused why (giver now) (taker now) ≡ false) → stolen_in v ≡ None →
      ((now : ℕ) → reply ≡ (refused_action (giver now) (taker now)).reply) → IsMoved worker why held v u held (queue v) (queue u) reply
  none_given reply goes none told =
      is_moved held (queue v) (queue u) reply
      (λ now.
      by_refusal now false (goes now) ∙
      ap (λ (o : Option ℕ). pair_on_cpus now (given_action (option_and_then (found_on v) o) (giver now) (taker now)) held v u) none ∙
      ap (λ (x : Reply). record { hand = held; from = queue v; to = queue u; reply = x }) (sym (told now)))

  -- a thread that is given goes by the hand
  module _ (t : ℕ) (r : ThreadRecord) (given : stolen_in v ≡ Some t) (f : IsFoundQueued v t) (own : f.thread ≡ r) (number : r.id ≡ t) where
    -- the thread with its place
    abbrev standing : Standing
    standing = record { thread = f.thread; place = Queued v.cpu f.kind f.bucket }

    -- what the second part comes to, with this thread in the hand
    abbrev then_with : ℕ → Option ThreadRecord → CpuValue → PairStepped
    then_with now hand left =
        let action = given_action (Some standing) (giver now) (taker now) in
        let second = (parts_on_cpu now action.to (record { hand = hand; value = u }, None)).0 in
        record { hand = second.hand; from = queue left; to = queue second.value; reply = action.reply }

    -- what was made
    abbrev made_of : ThreadRecord → CpuValue → PairStepped
    made_of x left = record { hand = None; from = queue left; to = (queue_taken_in worker (Some x) u).value; reply = (queue_taken_in worker (Some x) u).reply }

    -- the thread is in the hand between the two parts
    in_hand : thread_in (removed_from f.kind f.thread.id v) f.thread.id ≡ Some f.thread
    in_hand = removed_thread f.kind f.thread.id f.thread.id v ∙ ap (thread_in v) (ap (λ (x : ThreadRecord). x.id) own ∙ number) ∙ f.record_is

    -- the CPU that it left
    left_is : value_removed f.kind f.thread.id v ≡ value_removed_from (kind_queued v t) t v
    left_is =
        ap (λ (n : ℕ). value_removed f.kind n v) (ap (λ (x : ThreadRecord). x.id) own ∙ number) ∙
        ap (λ (o : Option Kind). value_removed_from o t v) (sym f.queued)

    given_comes : (now : ℕ) → is_refused why (giver now) (taker now) ≡ false → Comes now (made_of r (value_removed_from (kind_queued v t) t v))
    given_comes now goes =
        by_refusal now false goes ∙
        ap (λ (o : Option ℕ). pair_on_cpus now (given_action (option_and_then (found_on v) o) (giver now) (taker now)) held v u) given ∙
        ap (λ (o : Option Standing). pair_on_cpus now (given_action o (giver now) (taker now)) held v u) f.found ∙
        ap (λ (o : Option ThreadRecord). then_with now o (value_removed f.kind f.thread.id v)) in_hand ∙
        ap (λ (x : CpuValue). made_of f.thread x) left_is ∙
        ap (λ (x : ThreadRecord). made_of x (value_removed_from (kind_queued v t) t v)) own

  -- a thread is moved
  pub thread_moved : (t : ℕ) (r : ThreadRecord) → ((now : ℕ) → is_refused why (giver now) (taker now) ≡ false) → Some t ≡ stolen_in v →
      IsTrue (is_movable v t) → IsSome (kind_queued v t) → Some r ≡ thread_in v t → r.id ≡ t →
      (hand : Option ThreadRecord) (from to : LockValue) (reply : Reply) → hand ≡ None → from ≡ queue (value_removed_from (kind_queued v t) t v) →
      to ≡ (queue_taken_in worker (Some r) u).value → reply ≡ (queue_taken_in worker (Some r) u).reply →
      IsMoved worker why held v u hand from to reply
  thread_moved t r goes given movable queued was number hand from to reply hand_is from_is to_is reply_is =
      let f = movable_found v t movable queued in
      is_moved hand from to reply
      (λ now.
      given_comes t r (sym given) f (same_record f.thread r (sym f.record_is ∙ sym was)) number now (goes now) ∙
      ap (λ (x : Option ThreadRecord). record { hand = x; from = queue (value_removed_from (kind_queued v t) t v); to = (queue_taken_in worker (Some r) u).value; reply = (queue_taken_in worker (Some r) u).reply }) (sym hand_is) ∙
      ap (λ (x : LockValue). record { hand = hand; from = x; to = (queue_taken_in worker (Some r) u).value; reply = (queue_taken_in worker (Some r) u).reply }) (sym from_is) ∙
      ap (λ (x : LockValue). record { hand = hand; from = from; to = x; reply = (queue_taken_in worker (Some r) u).reply }) (sym to_is) ∙
      ap (λ (x : Reply). record { hand = hand; from = from; to = to; reply = x }) (sym reply_is))
    where
      same_record : (x y : ThreadRecord) → Some x ≡ Some y → x ≡ y
      same_record x y e = cc

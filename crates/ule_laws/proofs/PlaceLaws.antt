-- What the tests of a place say of it.
use Rattle.std.proofs.Common.{◌≡◌, ℕ, true, false, ◌&&◌, ◌==◌, refl, sym, ◌∙◌, ap}
use Rattle.std.proofs.lemmas.Bool.{and_parts, both_ways, eqb-true, eq-eqb}
use Rattle.ule_prio.specs.declared.kind.Kind.{Kind}
use Rattle.ule_prio.specs.declared.kind.Kind.TheVariants.{Real, Batch, Idle}
use Rattle.ule_score.specs.declared.place.Place.{Place}
use Rattle.ule_score.specs.declared.place.Place.TheVariants.{Running, Queued, Asleep, Unborn, Gone, Hand}
use Rattle.ule_laws.proofs.Buckets.{waits_in_itself}
use Rattle.ule_model.specs.Places.{rank_of, is_kind, runs_on, waits_in, waits_on}

-- two kinds of one rank are one
pub kind_from_rank : (k j : Kind) → rank_of k ≡ rank_of j → k ≡ j
kind_from_rank Real Real same = refl
kind_from_rank Real Batch same = cc
kind_from_rank Real Idle same = cc
kind_from_rank Batch Real same = cc
kind_from_rank Batch Batch same = refl
kind_from_rank Batch Idle same = cc
kind_from_rank Idle Real same = cc
kind_from_rank Idle Batch same = cc
kind_from_rank Idle Idle same = refl

-- a place in a bucket is that bucket
pub place_from_waits_in : (c : ℕ) (k : Kind) (b : ℕ) (p : Place) → waits_in c k b p ≡ true → p ≡ Queued c k b
place_from_waits_in c k b (Running d) waits = cc
place_from_waits_in c k b (Queued d j e) waits =
    let outer = and_parts (c == d) (is_kind k j && (b == e)) waits in
    let inner = and_parts (is_kind k j) (b == e) outer.1 in
    sym (ap (λ x. Queued x k b) (eqb-true c d outer.0)
    ∙ ap (λ x. Queued d x b) (kind_from_rank k j (eqb-true (rank_of k) (rank_of j) inner.0))
    ∙ ap (λ x. Queued d j x) (eqb-true b e inner.1))
place_from_waits_in c k b (Asleep channel) waits = cc
place_from_waits_in c k b Unborn waits = cc
place_from_waits_in c k b Gone waits = cc
place_from_waits_in c k b (Hand w) waits = cc

-- a place that is a bucket is in it
pub waits_in_place : (c : ℕ) (k : Kind) (b : ℕ) (p : Place) → p ≡ Queued c k b → waits_in c k b p ≡ true
waits_in_place c k b p is = ap (waits_in c k b) is ∙ waits_in_itself c k b

-- a place in a CPU's queues is one of their buckets
pub place_from_waits_on : (c : ℕ) (p : Place) → waits_on c p ≡ true → (k : Kind) × ((b : ℕ) × (p ≡ Queued c k b))
place_from_waits_on c (Running d) waits = absurd (cc)
place_from_waits_on c (Queued d k b) waits = (k, (b, ap (λ x. Queued x k b) (sym (eqb-true c d waits))))
place_from_waits_on c (Asleep channel) waits = absurd (cc)
place_from_waits_on c Unborn waits = absurd (cc)
place_from_waits_on c Gone waits = absurd (cc)
place_from_waits_on c (Hand w) waits = absurd (cc)

-- a place that is a bucket of a CPU's queue is in its queues
pub waits_on_place : (c : ℕ) (k : Kind) (b : ℕ) (p : Place) → p ≡ Queued c k b → waits_on c p ≡ true
waits_on_place c k b p is = ap (waits_on c) is ∙ eq-eqb c c refl

-- a place where a thread runs
pub place_from_runs_on : (c : ℕ) (p : Place) → runs_on c p ≡ true → p ≡ Running c
place_from_runs_on c (Running d) runs = ap (λ (e : ℕ). Running e) (sym (eqb-true c d runs))
place_from_runs_on c (Queued d k b) runs = absurd (both_ways false refl runs)
place_from_runs_on c (Asleep channel) runs = absurd (both_ways false refl runs)
place_from_runs_on c Unborn runs = absurd (both_ways false refl runs)
place_from_runs_on c Gone runs = absurd (both_ways false refl runs)
place_from_runs_on c (Hand w) runs = absurd (both_ways false refl runs)

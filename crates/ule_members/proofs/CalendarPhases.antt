-- What the parts of an action make of the calendar of a CPU, and what they choose from it: one lemma a part, and one induction.
use Rattle.std.proofs.Common.{◌≡◌, ℕ, ◌<◌, ◌≤◌, ◌==◌, pos, Bool, true, List, [], ◌∷◌, length, Option, Some, None, inl, inr, ⊎_elim, refl, sym, ◌∙◌, ap, subst}
use Rattle.std.proofs.lemmas.Bool.{both_ways, cases_eq}
use Rattle.std.proofs.lemmas.Option.{none-some, same_Some}
use Rattle.ule_prio.specs.declared.kind.Kind.{Kind}
use Rattle.ule_prio.specs.declared.kind.Kind.TheVariants.{Batch}
use Rattle.ule_score.proofs.ChangeLaws.{change_number}
use Rattle.ule_score.specs.Changes.{record_after}
use Rattle.ule_score.specs.declared.place.Place.{Place}
use Rattle.ule_score.specs.declared.place.Place.TheVariants.{Queued}
use Rattle.ule_model.specs.CalendarIndexes.{distance_of, idx_after_turn, ridx_after_turn}
use Rattle.ule_model.specs.CalendarPromise.{IsInBucket, choosing_from}
use Rattle.ule_model.specs.declared.insertion.Insertion.{Insertion}
use Rattle.ule_model.specs.declared.insertion.Insertion.TheVariants.{Ordinary}
use Rattle.ule_model.specs.Insertion.{members_in, queued}
use Rattle.ule_model.specs.Switch.{choosing_next}
use Rattle.ule_score.specs.declared.record.CpuLine.{CpuLine}
use Rattle.ule_members.proofs.Membership.{has_thread_of}
use Rattle.ule_model.specs.World.{Member, Side, moved_to, thread_of}
use Rattle.ule_members.proofs.CalendarMoves.{AreMoved, Others, choosing_moved, moved, moved_finds, noted_moved, queued_moved, unmoved}
use Rattle.ule_members.proofs.CalendarParts.{HasJoined, IsNextIf, Joins, SidePassage, chosen_no_farther, choosing_chose, joined_came, joined_chose, joined_passes, lifted_rule, nobody_joins, queued_joins, unaltered, without_itself, without_one, without_other, without_within}
use Rattle.ule_members.proofs.CalendarPlaces.{Filing, FindsEach, IsFiled, filed_at, filed_elsewhere, filed_found, filed_from, filing_found, filing_moved, filing_moved_aside, filing_moved_other, filing_of, filing_recorded, none_where_filed, some_filed}
use Rattle.ule_members.proofs.CalendarRules.{IndexRule, IsClose, TellsEmpty, indexes_within, rule_from, turns}
use Rattle.ule_model.specs.Action.{Part, choose, clock, insert, leaving, move, note, part_done, parts_done}
use Rattle.ule_members.proofs.PartDone.{HasMover, IsKnown, Known, StandsAt, known_after, known_after_all, known_then}

-- how far parts have come in a calendar: nothing happened there, a thread joined, or the index rule was applied
pub data Phase : Type 0 where
  fresh : Phase
  joined : Phase
  passed : Phase

-- a place in no calendar of any CPU
abbrev pub IsOff : Place → Type 0
IsOff (Queued d k b) = ⊥
IsOff place = Unit {0}

off_filed : (d : ℕ) (place : Place) → IsOff place → filed_at d place ≡ None
off_filed d (Queued e k b) off = absurd off
off_filed d place off = refl

-- what a move needs that leaves this place: a queue that it leaves is the CPU's
abbrev pub NeedsMove : ℕ → Place → Type 0
NeedsMove c (Queued d k b) = d ≡ c
NeedsMove c place = Unit {0}

-- the phase after it
abbrev pub moved_phase : Place → Phase → Phase
moved_phase (Queued d k b) phase = passed
moved_phase place phase = phase

-- what an insertion needs that leaves this place: one that leaves a queue of the CPU is taken up, and goes next
abbrev pub NeedsInsert : (taken next : ℕ → Bool) → ℕ → ℕ → Place → Insertion → Type 0
NeedsInsert taken next c t (Queued d k b) how = (d ≡ c) × IsNextIf how (next t ≡ true) × (next t ≡ true) × (taken t ≡ true)
NeedsInsert taken next c t place how = IsNextIf how (next t ≡ true)

-- the phase after it
abbrev pub inserted_phase : Place → Phase
inserted_phase (Queued d k b) = passed
inserted_phase place = joined

-- what a part on CPU c needs in a phase, of which threads stand where, and of who is taken up and goes next
abbrev pub NeedsPhase : (taken next : ℕ → Bool) → ℕ → Part → Known → Phase → Type 0
NeedsPhase taken next c (move t from to) known fresh = known t from × NeedsMove c from × IsOff to
NeedsPhase taken next c (move t from to) known phase = ⊥
NeedsPhase taken next c (insert t from how) known fresh = known t from × NeedsInsert taken next c t from how
NeedsPhase taken next c (insert t from how) known phase = ⊥
NeedsPhase taken next c choose known passed = ⊥
NeedsPhase taken next c clock known fresh = Unit {0}
NeedsPhase taken next c clock known phase = ⊥
NeedsPhase taken next c p known phase = Unit {0}

-- the phase after a part
abbrev pub phase_after : Part → Phase → Phase
phase_after (move t from to) phase = moved_phase from phase
phase_after (insert t from how) phase = inserted_phase from
phase_after choose phase = passed
phase_after clock phase = passed
phase_after p phase = phase

-- that parts have what they need, one after another
abbrev pub FollowsPhase : (taken next : ℕ → Bool) → ℕ → Known → Phase → List Part → Type 0
FollowsPhase taken next c known phase [] = Unit {0}
FollowsPhase taken next c known phase (p ∷ ps) = NeedsPhase taken next c p known phase × FollowsPhase taken next c (known_after p known) (phase_after p phase) ps

module _ (taken next : ℕ → Bool) (c now : ℕ) (s : Side) (close : IsClose s.line.idx s.line.ridx (filing_of c s.members)) (finds : FindsEach s.members) where
  -- a side whose calendar is as it was
  pub record IsAsItWas (n : Side) : Type 0 where
    pub insertion : n.line.idx ≡ s.line.idx
    pub removal : n.line.ridx ≡ s.line.ridx
    pub alike : (t : ℕ) → filing_of c n.members t ≡ filing_of c s.members t

  -- a side where a thread joined
  pub record HasJoiner (n : Side) : Type 0 where
    pub how : Insertion
    pub joiner : ℕ
    pub goes : IsNextIf how (next joiner ≡ true)
    pub joins : Joins how c joiner s.line.idx s.line.ridx (filing_of c s.members) n

  -- what a phase says of a side
  abbrev pub IsAt : Phase → Side → Type 0
  IsAt fresh n = IsAsItWas n
  IsAt joined n = HasJoiner n
  IsAt passed n = SidePassage taken next c s n

  -- it says it of a side with the same calendar
  at_alike : (phase : Phase) (n m : Side) → m.line.idx ≡ n.line.idx → m.line.ridx ≡ n.line.ridx → ((t : ℕ) → filing_of c m.members t ≡ filing_of c n.members t) → IsAt phase n → IsAt phase m
  at_alike fresh n m idx ridx alike at = record { insertion = idx ∙ at.insertion; removal = ridx ∙ at.removal; alike = λ t. alike t ∙ at.alike t }
  at_alike joined n m idx ridx alike at = record {
    how = at.how;
    joiner = at.joiner;
    goes = at.goes;
    joins = record {
      insertion = idx ∙ at.joins.insertion;
      removal = ridx ∙ at.joins.removal;
      kept = λ t b is. alike t ∙ at.joins.kept t b is;
      came = λ t b is. at.joins.came t b (sym (alike t) ∙ is);
    };
  }
  at_alike passed n m idx ridx alike at = record {
    between = at.between;
    rule = subst (λ (j : ℕ). IndexRule s.line.idx s.line.ridx j m.line.ridx (filing_of c s.members) at.between) (sym idx)
        (subst (λ (q : ℕ). IndexRule s.line.idx s.line.ridx n.line.idx q (filing_of c s.members) at.between) (sym ridx) at.rule);
    kept = λ t b is. alike t ∙ at.kept t b is;
    stood = λ t b before after left. at.stood t b before (sym (alike t) ∙ after) left;
    came = λ t b is. at.came t b (sym (alike t) ∙ is);
  }

  -- the end
  pub at_end : (phase : Phase) (n : Side) → IsAt phase n → SidePassage taken next c s n
  at_end fresh n at = unaltered taken next c s close n at.insertion at.removal at.alike
  at_end joined n at = joined_passes taken next c s close at.how at.joiner n at.goes at.joins
  at_end passed n at = at

  -- ---- a part

  -- a thread that leaves a place in no calendar leaves the numbers
  leaving_off : (from : Place) (t : ℕ) (n : Side) → IsOff from → (leaving from c t n).line ≡ n.line
  leaving_off (Queued d k b) t n off = absurd off
  leaving_off from t n off = refl

  -- a thread that stands at a place in no calendar is filed in none
  stands_unfiled : (t : ℕ) (from : Place) (ms : List Member) → StandsAt t from ms → IsOff from → (d : ℕ) → filing_of d ms t ≡ None
  stands_unfiled t from ms at off d = filing_found d t at.member ms at.found ∙ ap (filed_at d) at.place_is ∙ off_filed d from off

  -- whether the bucket at the removal index is empty
  bucket_tells : (n : Side) → FindsEach n.members → TellsEmpty (length (members_in c Batch n.line.ridx n.members) == 0) n.line.ridx (filing_of c n.members)
  bucket_tells n each = record {
    some = λ is. let one = some_filed c n.line.ridx n.members n.members each (λ m has. has) is in (one.0.thread.id, one.1.1);
    none = λ t is.
        let filed : IsFiled c n.line.ridx t n.members = filed_found c n.line.ridx t n.members is in
        none_where_filed c n.line.ridx filed.member n.members (has_thread_of t filed.member n.members filed.found).0 filed.place;
  }

  -- a thread in no calendar joins
  joins_passes : (t : ℕ) (from : Place) (how : Insertion) (n : Side) → StandsAt t from n.members → IsOff from → IsNextIf how (next t ≡ true) → IsAsItWas n → AreMoved (Others c) s.members n.members →
      HasJoiner (queued how c t (leaving from c t n)) × AreMoved (Others c) s.members (queued how c t (leaving from c t n)).members
  joins_passes t from how n stands off goes at moves =
      let out : Side = leaving from c t n in
      let none = stands_unfiled t from n.members stands off in
      let was = at_alike fresh n out (ap (λ (line : CpuLine). line.idx) (leaving_off from t n off)) (ap (λ (line : CpuLine). line.ridx) (leaving_off from t n off)) (λ u. refl) at in
      let joins =
      subst (λ (i : ℕ). Joins how c t i s.line.ridx (filing_of c s.members) (queued how c t out)) was.insertion
      (subst (λ (r : ℕ). Joins how c t out.line.idx r (filing_of c s.members) (queued how c t out)) was.removal
      (queued_joins how c t out (filing_of c s.members) (λ u apart. was.alike u) (sym (was.alike t) ∙ none c))) in
      (record { how = how; joiner = t; goes = goes; joins = joins }, queued_moved (Others c) s.members how c t out (λ d other. other) (λ d other. none d) moves)

  -- a queued thread leaves its queue by the index rule
  leaving_rule : (t d b : ℕ) (k : Kind) (n : Side) → StandsAt t (Queued d k b) n.members → d ≡ c → IsAsItWas n → AreMoved (Others c) s.members n.members →
      IndexRule s.line.idx s.line.ridx (leaving (Queued d k b) c t n).line.idx (leaving (Queued d k b) c t n).line.ridx (filing_of c s.members) (without_one t (filing_of c n.members))
  leaving_rule t d b k n stands own at moves =
      rule_from s.line.idx s.line.ridx out.line.idx out.line.ridx (filing_of c s.members) f (without_one t f) (λ u a is. at.alike u ∙ is)
      (subst (λ (i : ℕ). IndexRule i s.line.ridx out.line.idx out.line.ridx f (without_one t f)) at.insertion
      (subst (λ (r : ℕ). IndexRule n.line.idx r out.line.idx out.line.ridx f (without_one t f)) at.removal left))
    where
      f : Filing
      f = filing_of c n.members

      out : Side
      out = leaving (Queued d k b) c t n

      number : stands.member.thread.id ≡ t
      number = (has_thread_of t stands.member n.members stands.found).1

      -- the rule by which a thread leaves a place
      left_by : Place → ℕ → Type 0
      left_by place u = IndexRule n.line.idx n.line.ridx (leaving place c u n).line.idx (leaving place c u n).line.ridx f (without_one u f)

      left : left_by (Queued d k b) t
      left =
          subst (left_by (Queued d k b)) number
          (subst (λ (p : Place). left_by p stands.member.thread.id) stands.place_is
          (lifted_rule c stands.member n (moved_finds (Others c) s.members n.members finds moves) (ap (λ (u : ℕ). thread_of u n.members) number ∙ stands.found) k b
          (stands.place_is ∙ ap (λ (y : ℕ). Queued y k b) own)))

  -- a thread queued on this CPU is in no calendar of another
  queued_aside : (t d b x : ℕ) (k : Kind) (n : Side) → StandsAt t (Queued d k b) n.members → d ≡ c → Others c x → filing_of x n.members t ≡ None
  queued_aside t d b x k n stands own other =
      filing_found x t stands.member n.members stands.found ∙ ap (filed_at x) (stands.place_is ∙ ap (λ (y : ℕ). Queued y k b) own) ∙ filed_elsewhere x c k b other

  -- a queued thread leaves its queue for a place in no calendar
  leave_passes : (t d b : ℕ) (k : Kind) (to : Place) (n : Side) (into : Option ℕ) → StandsAt t (Queued d k b) n.members → d ≡ c → IsOff to → IsAsItWas n → AreMoved (Others c) s.members n.members →
      SidePassage taken next c s (part_done c now (move t (Queued d k b) to) (n, into)).0 × AreMoved (Others c) s.members (part_done c now (move t (Queued d k b) to) (n, into)).0.members
  leave_passes t d b k to n into stands own off at moves = (
    record {
      between = without_one t f;
      rule = leaving_rule t d b k n stands own at moves;
      kept = λ u a is. alike u ∙ is;
      stood = λ u a before after left. sym (alike u) ∙ after;
      came = λ u a is. inl (sym (at.alike u) ∙ without_within t f u a (sym (alike u) ∙ is));
    },
    moved n.members t to (pos 0) (λ x other. queued_aside t d b x k n stands own other) (λ x other. off_filed x to off) moves,
  )
    where
      f : Filing
      f = filing_of c n.members

      alike : (u : ℕ) → filing_of c (moved_to t to (pos 0) n.members) u ≡ without_one t f u
      alike u =
          ⊎_elim
          (λ (same : u ≡ t).
          ap (filing_of c (moved_to t to (pos 0) n.members)) same ∙ filing_moved c t stands.member to (pos 0) n.members stands.found ∙ off_filed c to off ∙
          sym (ap (without_one t f) same ∙ without_itself t f))
          (λ (other : u ≡ t → ⊥). filing_moved_other c t u to (pos 0) n.members other ∙ sym (without_other t u f other))
          (cases_eq u t)

  -- a thread goes to a place in no calendar, by the place that it leaves
  move_passes : (t : ℕ) (from to : Place) (n : Side) (into : Option ℕ) → StandsAt t from n.members → NeedsMove c from → IsOff to → IsAsItWas n → AreMoved (Others c) s.members n.members →
      IsAt (moved_phase from fresh) (part_done c now (move t from to) (n, into)).0 × AreMoved (Others c) s.members (part_done c now (move t from to) (n, into)).0.members
  move_passes t (Queued d k b) to n into stands own off at moves = leave_passes t d b k to n into stands own off at moves
  move_passes t from to n into stands own off at moves =
      let none = stands_unfiled t from n.members stands tt in (
        at_alike fresh n (part_done c now (move t from to) (n, into)).0 (ap (λ (line : CpuLine). line.idx) (leaving_off from t n tt)) (ap (λ (line : CpuLine). line.ridx) (leaving_off from t n tt))
            (λ u. filing_moved_aside c t u to (pos 0) n.members (none c) (off_filed c to off)) at,
        moved n.members t to (pos 0) (λ d other. none d) (λ d other. off_filed d to off) moves,
      )

  -- a queued thread leaves its queue, by the index rule, and joins
  requeue_passes : (t d b : ℕ) (k : Kind) (how : Insertion) (n : Side) → StandsAt t (Queued d k b) n.members → NeedsInsert taken next c t (Queued d k b) how → IsAsItWas n → AreMoved (Others c) s.members n.members →
      SidePassage taken next c s (queued how c t (leaving (Queued d k b) c t n)) × AreMoved (Others c) s.members (queued how c t (leaving (Queued d k b) c t n)).members
  requeue_passes t d b k how n stands needs at moves = (
    record {
      between = without_one t f;
      rule = subst (λ (j : ℕ). IndexRule s.line.idx s.line.ridx j made.line.ridx (filing_of c s.members) (without_one t f)) (sym joins.insertion)
          (subst (λ (q : ℕ). IndexRule s.line.idx s.line.ridx out.line.idx q (filing_of c s.members) (without_one t f)) (sym joins.removal) rule);
      kept = joins.kept;
      stood = λ u a before after left. without_other t u f (λ same. both_ways (taken u) left (ap taken same ∙ needs.3)) ∙ at.alike u ∙ before;
      came = λ u a is. ⊎_elim
          (λ (old : without_one t f u ≡ Some a). inl (sym (at.alike u) ∙ without_within t f u a old))
          (λ (new : (u ≡ t) × HasJoined how out.line.idx out.line.ridx a).
          inr ((joined_came next how t out.line.idx out.line.ridx u a within needs.1 new.0 new.1).0, λ apart here. ap next new.0 ∙ needs.2))
          (joins.came u a is);
    },
    queued_moved (Others c) s.members how c t out (λ x other. other) (λ x other. queued_aside t d b x k n stands needs.0 other) moves,
  )
    where
      f : Filing
      f = filing_of c n.members

      out : Side
      out = leaving (Queued d k b) c t n

      made : Side
      made = queued how c t out

      rule : IndexRule s.line.idx s.line.ridx out.line.idx out.line.ridx (filing_of c s.members) (without_one t f)
      rule = leaving_rule t d b k n stands needs.0 at moves

      joins : Joins how c t out.line.idx out.line.ridx (without_one t f) made
      joins = queued_joins how c t out (without_one t f) (λ u apart. sym (without_other t u f apart)) (without_itself t f)

      within : out.line.ridx < 64
      within = (indexes_within s.line.idx s.line.ridx out.line.idx out.line.ridx (filing_of c s.members) (without_one t f) close rule).1

  -- an insertion, by the place that the thread leaves
  insert_passes : (t : ℕ) (from : Place) (how : Insertion) (n : Side) → StandsAt t from n.members → NeedsInsert taken next c t from how → IsAsItWas n → AreMoved (Others c) s.members n.members →
      IsAt (inserted_phase from) (queued how c t (leaving from c t n)) × AreMoved (Others c) s.members (queued how c t (leaving from c t n)).members
  insert_passes t (Queued d k b) how n stands goes at moves = requeue_passes t d b k how n stands goes at moves
  insert_passes t from how n stands goes at moves = joins_passes t from how n stands tt goes at moves

  part_passes : (p : Part) (known : Known) (phase : Phase) (n : Side) (into : Option ℕ) → IsKnown known n.members → NeedsPhase taken next c p known phase → IsAt phase n →
      AreMoved (Others c) s.members n.members → IsAt (phase_after p phase) (part_done c now p (n, into)).0 × AreMoved (Others c) s.members (part_done c now p (n, into)).0.members
  part_passes (note t place change) known phase n into is goes at moves = (
    at_alike phase n (part_done c now (note t place change) (n, into)).0 refl refl (λ u. filing_recorded c t u (record_after n.settings now change) n.members (change_number n.settings now change)) at,
    noted_moved (Others c) s.members n.settings now t change n.members moves,
  )
  part_passes (move t from to) known fresh n into is goes at moves = move_passes t from to n into (is t from goes.0) goes.1 goes.2 at moves
  part_passes (move t from to) known joined n into is goes at moves = absurd goes
  part_passes (move t from to) known passed n into is goes at moves = absurd goes
  part_passes (insert t from how) known fresh n into is goes at moves = insert_passes t from how n (is t from goes.0) goes.1 at moves
  part_passes (insert t from how) known joined n into is goes at moves = absurd goes
  part_passes (insert t from how) known passed n into is goes at moves = absurd goes
  part_passes choose known fresh n into is goes at moves =
      let each = moved_finds (Others c) s.members n.members finds moves in (
        joined_chose taken next c s close Ordinary 0 n (choosing_next c now n).0 tt
            (nobody_joins Ordinary c 0 s.line.idx s.line.ridx (filing_of c s.members) n at.insertion at.removal at.alike) (choosing_chose c now n each),
        choosing_moved (Others c) s.members c now n (λ d other. other) each moves,
      )
  part_passes choose known joined n into is goes at moves =
      let each = moved_finds (Others c) s.members n.members finds moves in
      (joined_chose taken next c s close at.how at.joiner n (choosing_next c now n).0 at.goes at.joins (choosing_chose c now n each), choosing_moved (Others c) s.members c now n (λ d other. other) each moves)
  part_passes choose known passed n into is goes at moves = absurd goes
  part_passes clock known fresh n into is goes at moves =
      let each = moved_finds (Others c) s.members n.members finds moves in
      let empty : Bool = length (members_in c Batch n.line.ridx n.members) == 0 in (
        record {
          between = filing_of c n.members;
          rule = turns empty (subst (λ (r : ℕ). TellsEmpty empty r (filing_of c n.members)) at.removal (bucket_tells n each)) (λ t b is. at.alike t ∙ is)
              (ap (λ (i : ℕ). idx_after_turn i n.line.ridx) at.insertion ∙ ap (idx_after_turn s.line.idx) at.removal)
              (ap (λ (i : ℕ). ridx_after_turn i n.line.ridx empty) at.insertion ∙ ap (λ (r : ℕ). ridx_after_turn s.line.idx r empty) at.removal);
          kept = λ t b is. is;
          stood = λ t b before after left. at.alike t ∙ before;
          came = λ t b is. inl (sym (at.alike t) ∙ is);
        },
        moves,
      )
  part_passes clock known joined n into is goes at moves = absurd goes
  part_passes clock known passed n into is goes at moves = absurd goes
  part_passes p known phase n into is goes at moves = (at_alike phase n (part_done c now p (n, into)).0 refl refl (λ u. refl) at, moves)

  -- what a part needs to be known of whom it moves
  mover_known : (p : Part) (known : Known) (phase : Phase) → NeedsPhase taken next c p known phase → HasMover p known
  mover_known (move t from to) known fresh needs = needs.0
  mover_known (move t from to) known joined needs = absurd needs
  mover_known (move t from to) known passed needs = absurd needs
  mover_known p known phase needs = tt

  -- ---- and one induction

  parts_pass : (ps : List Part) (known : Known) (phase : Phase) (n : Side) (into : Option ℕ) → IsKnown known n.members → FollowsPhase taken next c known phase ps → IsAt phase n →
      AreMoved (Others c) s.members n.members → SidePassage taken next c s (parts_done c now ps (n, into)).0 × AreMoved (Others c) s.members (parts_done c now ps (n, into)).0.members
  parts_pass [] known phase n into is goes at moves = (at_end phase n at, moves)
  parts_pass (p ∷ ps) known phase n into is goes at moves =
      let one = part_passes p known phase n into is goes.0 at moves in
      let m = part_done c now p (n, into) in
      parts_pass ps (known_after p known) (phase_after p phase) m.0 m.1 (known_then c now p known n into is (mover_known p known phase goes.0)) goes.1 one.0 one.1

  -- parts, from their own side
  pub parts_passage : (ps : List Part) (known : Known) → IsKnown known s.members → FollowsPhase taken next c known fresh ps →
      SidePassage taken next c s (parts_done c now ps (s, None)).0 × AreMoved (Others c) s.members (parts_done c now ps (s, None)).0.members
  parts_passage ps known is goes = parts_pass ps known fresh s None is goes (record { insertion = refl; removal = refl; alike = λ t. refl }) unmoved

  -- what is known after parts is so
  pub parts_known : (ps : List Part) (known : Known) (phase : Phase) (n : Side) (into : Option ℕ) → IsKnown known n.members → FollowsPhase taken next c known phase ps →
      IsKnown (known_after_all ps known) (parts_done c now ps (n, into)).0.members
  parts_known [] known phase n into is goes = is
  parts_known (p ∷ ps) known phase n into is goes =
      let m = part_done c now p (n, into) in
      parts_known ps (known_after p known) (phase_after p phase) m.0 m.1 (known_then c now p known n into is (mover_known p known phase goes.0)) goes.1

  -- ---- the choice

  -- after the choice no part chooses again
  into_kept : (ps : List Part) (known : Known) (n : Side) (into : Option ℕ) → FollowsPhase taken next c known passed ps → (parts_done c now ps (n, into)).1 ≡ into
  into_kept [] known n into goes = refl
  into_kept (move t from to ∷ ps) known n into goes = absurd goes.0
  into_kept (insert t from how ∷ ps) known n into goes = absurd goes.0
  into_kept (choose ∷ ps) known n into goes = absurd goes.0
  into_kept (clock ∷ ps) known n into goes = absurd goes.0
  into_kept (p ∷ ps) known n into goes = into_kept ps (known_after p known) (part_done c now p (n, into)).0 into goes.1

  module _ (t b : ℕ) (stands : filing_of c s.members t ≡ Some b) where
    -- what these parts choose from a side is no farther than bucket b
    abbrev IsNoFarther : List Part → Side × Option ℕ → Type 0
    IsNoFarther ps at =
        (g : Side) (u a : ℕ) → choosing_from c now ps at ≡ Some g → (parts_done c now ps at).1 ≡ Some u → IsInBucket c a u g.members → distance_of g.line.ridx a ≤ distance_of g.line.ridx b

    -- the choice from a side where the thread stands in its bucket
    chosen_near : (ps : List Part) (known : Known) (n : Side) (into : Option ℕ) → FollowsPhase taken next c known passed ps → AreMoved (Others c) s.members n.members →
        filing_of c n.members t ≡ Some b → IsNoFarther (choose ∷ ps) (n, into)
    chosen_near ps known n into goes moves here g u a from is old =
        subst (λ (x : Side). IsInBucket c a u x.members → distance_of x.line.ridx a ≤ distance_of x.line.ridx b) (same_Some n g from)
        (λ old. chosen_no_farther c now u t a b n (moved_finds (Others c) s.members n.members finds moves)
        (sym (into_kept ps known (choosing_next c now n).0 (choosing_next c now n).1 goes) ∙ is) (filed_from c a u n.members old) here) old

    -- the thread stands in its bucket until the choice
    stands_still : (phase : Phase) (n : Side) (known : Known) → NeedsPhase taken next c choose known phase → IsAt phase n → filing_of c n.members t ≡ Some b
    stands_still fresh n known goes at = at.alike t ∙ stands
    stands_still joined n known goes at = at.joins.kept t b stands
    stands_still passed n known goes at = absurd goes

    parts_pick : (ps : List Part) (known : Known) (phase : Phase) (n : Side) (into : Option ℕ) → IsKnown known n.members → FollowsPhase taken next c known phase ps → IsAt phase n →
        AreMoved (Others c) s.members n.members → IsNoFarther ps (n, into)
    parts_pick [] known phase n into is goes at moves = λ g u a from chosen old. absurd (none-some g from)
    parts_pick (choose ∷ ps) known phase n into is goes at moves =
        chosen_near ps (known_after choose known) n into goes.1 moves (stands_still phase n known goes.0 at)
    parts_pick (p ∷ ps) known phase n into is goes at moves =
        let one = part_passes p known phase n into is goes.0 at moves in
        let m = part_done c now p (n, into) in
        parts_pick ps (known_after p known) (phase_after p phase) m.0 m.1 (known_then c now p known n into is (mover_known p known phase goes.0)) goes.1 one.0 one.1

    -- what parts choose, from their own side
    pub parts_choose : (ps : List Part) → FollowsPhase taken next c (λ u place. StandsAt u place s.members) fresh ps → IsNoFarther ps (s, None)
    parts_choose ps goes =
        parts_pick ps (λ u place. StandsAt u place s.members) fresh s None (λ u place is. is) goes (record { insertion = refl; removal = refl; alike = λ u. refl }) unmoved

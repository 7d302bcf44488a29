-- How many threads of a list are on a CPU, and what one thread's change does to that.
use Rattle.std.proofs.Common.{◌≡◌, ℕ, ◌+◌, ◌<◌, ⊎_elim, Bool, true, false, cond, List, [], ◌∷◌, ◌++◌, if◌then◌else◌, refl, sym, ◌∙◌, ap, arith}
use Rattle.std.proofs.lemmas.List.{append-nil}
use Rattle.std.proofs.lemmas.List.Sums.{sum_by-cons}
use Rattle.ule_score.specs.declared.place.Place.{Place}
use Rattle.ule_score.specs.declared.record.ThreadRecord.{ThreadRecord}
use Rattle.ule_model.specs.Places.{is_on}
use Rattle.ule_model.specs.Tick.{load_of}
use Rattle.ule_model.specs.World.{Member, is_numbered, with_record}
use Rattle.ule_members.proofs.Membership.{Has}
use Rattle.ule_members.proofs.Within.{Within, changed, changed_within}

-- what a thread at this place adds to the load of CPU c
abbrev pub load_at : ℕ → Place → ℕ
load_at c place = cond (is_on c place) 1 0

-- the load of threads with one more in front
load-cons : (c : ℕ) (m : Member) (ms : List Member) → load_of c (m ∷ ms) ≡ load_at c m.place + load_of c ms
load-cons c m ms = sum_by-cons (λ n. cond (is_on c n.place) 1 0) m ms

-- the load of threads with one more between
pub load-between : (c : ℕ) (before : List Member) (m : Member) (after : List Member) → load_of c (before ++ m ∷ after) ≡ load_at c m.place + load_of c (before ++ after)
load-between c [] m after = load-cons c m after
load-between c (b ∷ bs) m after =
    let rest : load_of c (bs ++ m ∷ after) ≡ load_at c m.place + load_of c (bs ++ after) = load-between c bs m after in
    let whole : load_of c (b ∷ bs ++ m ∷ after) ≡ load_at c b.place + load_of c (bs ++ m ∷ after) = load-cons c b (bs ++ m ∷ after) in
    let parts : load_of c (b ∷ bs ++ after) ≡ load_at c b.place + load_of c (bs ++ after) = load-cons c b (bs ++ after) in
    omega arith

-- the load of a list is that of the others and what its one thread adds
pub load-within : (c t : ℕ) (m : Member) (ms : List Member) (w : Within t m ms) → load_of c ms ≡ load_at c m.place + load_of c (w.before ++ w.after)
load-within c t m ms w = ap (load_of c) w.whole ∙ load-between c w.before m w.after

-- the load once a thread is changed is that of the others and what the changed one adds
pub load-changed : (c t : ℕ) (m : Member) (ms : List Member) (w : Within t m ms) (f : Member → Member) → load_of c (changed t f ms) ≡ load_at c (f m).place + load_of c (w.before ++ w.after)
load-changed c t m ms w f = ap (load_of c) (changed_within t m ms w f) ∙ load-between c w.before (f m) w.after

-- a thread that is on the CPU before and after its change, or neither, leaves the load
pub load-changed_kept : (c t : ℕ) (m : Member) (ms : List Member) (w : Within t m ms) (f : Member → Member) → is_on c (f m).place ≡ is_on c m.place → load_of c (changed t f ms) ≡ load_of c ms
load-changed_kept c t m ms w f same =
    load-changed c t m ms w f ∙ ap (λ (b : Bool). cond b 1 0 + load_of c (w.before ++ w.after)) same ∙ sym (load-within c t m ms w)

-- a change of records leaves the load
pub load-with_record : (c t : ℕ) (change : ThreadRecord → ThreadRecord) (ms : List Member) → load_of c (with_record t change ms) ≡ load_of c ms
load-with_record c t change [] = refl
load-with_record c t change (m ∷ ms) =
    load-cons c (one (is_numbered t m)) (with_record t change ms) ∙ ap (λ n. load_at c (one (is_numbered t m)).place + n) (load-with_record c t change ms)
    ∙ ap (λ place. load_at c place + load_of c ms) (place_kept (is_numbered t m)) ∙ sym (load-cons c m ms)
  where
    one : Bool → Member
    one d = if d then record m { thread = change m.thread } else m

    place_kept : (d : Bool) → (one d).place ≡ m.place
    place_kept true = refl
    place_kept false = refl

-- a thread on another place than the CPU joins a list and leaves its load
pub load-appended_off : (c : ℕ) (ms : List Member) (n : Member) → is_on c n.place ≡ false → load_of c (ms ++ n ∷ []) ≡ load_of c ms
load-appended_off c ms n off =
    load-between c ms n [] ∙ ap (λ (b : Bool). cond b 1 0 + load_of c (ms ++ [])) off ∙ left
  where
    left : 0 + load_of c (ms ++ []) ≡ load_of c ms
    left = let whole : load_of c (ms ++ []) ≡ load_of c ms = ap (load_of c) (append-nil ms) in omega arith

-- a CPU that has a thread on it has a load
pub has_load : (c : ℕ) (m : Member) (ms : List Member) → Has m ms → is_on c m.place ≡ true → 0 < load_of c ms
has_load c m [] has on = absurd has
has_load c m (x ∷ xs) has on =
    let whole : load_of c (x ∷ xs) ≡ load_at c x.place + load_of c xs = load-cons c x xs in
    ⊎_elim
    (λ (here : x ≡ m).
    let one : load_at c x.place ≡ 1 = ap (λ (z : Member). load_at c z.place) here ∙ ap (λ (b : Bool). cond b 1 0) on in omega arith)
    (λ (there : Has m xs). let rest : 0 < load_of c xs = has_load c m xs there on in omega arith)
    has

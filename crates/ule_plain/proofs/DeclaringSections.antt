-- What the sections of groups and of threads give.
use Rattle.std.proofs.Common.{◌≡◌, ℕ, ◌<◌, ◌≤◌, ◌==◌, max, Bool, true, false, ◌||◌, List, [], ◌∷◌, ◌++◌, length, map, replicate, refl, sym, ap, ◌∙◌, subst, append_assoc, arith}
use Rattle.std.specs.Prelude.{nat_lt, nat_le, is_ok}
use Rattle.std.specs.List.{list_all}
use Rattle.std.proofs.lemmas.Bool.{and_parts, leb-true, ltb-true}
use Rattle.std.proofs.lemmas.List.{append-nil, length-append, map-append}
use Rattle.std.proofs.lemmas.List.Folds.{list_all-append, list_any-append}
use Rattle.ule_topo.specs.Build.{built}
use Rattle.ule_topo.specs.declared.group.GroupLine.{GroupLine}
use Rattle.ule_types.specs.Commands.{is_among}
use Rattle.ule_types.specs.Rules.{is_spec, is_distinct, declared_ids}
use Rattle.ule_types.specs.declared.command.Command.{Command}
use Rattle.ule_types.specs.declared.setup.Setup.{Setup}
use Rattle.ule_types.specs.declared.setup.ThreadSpec.{ThreadSpec}
use Rattle.ule_scenario.specs.Reading.{Reading}
use Rattle.ule_trace.specs.Line.{lines_text}
use Rattle.ule_plain.proofs.DeclaringLines.{IsOpen, thread_leads, unborn_leads}
use Rattle.ule_plain.proofs.GroupLines.{group_leads}
use Rattle.ule_plain.proofs.Leading.{Leads, leads_nowhere, leads_on}
use Rattle.ule_plain.proofs.Scripts.{none_before}
use Rattle.ule_plain.proofs.Topologies.{is_in_range, front_is_built, lines_in_range}
use Rattle.ule_plain.specs.Lines.{group_words, thread_words, unborn_words}

-- the setup so far behind the number of CPUs, by what the lines behind it gave
abbrev pub reading_at : Setup → ℕ → List GroupLine → List ThreadSpec → List ℕ → ℕ → List (List Command) → List ℕ → Reading
reading_at s place groups threads unborn from scripts turns = record {
  place = place;
  settings_from = 4;
  script_from = from;
  settings = s.settings;
  jitter = s.jitter;
  cpus = s.cpus;
  groups = groups;
  threads = threads;
  unborn = unborn;
  scripts = scripts;
  turns = turns;
}

-- the setup so far before any script
abbrev pub declared_at : Setup → ℕ → List GroupLine → List ThreadSpec → List ℕ → Reading
declared_at s place groups threads unborn = reading_at s place groups threads unborn 0 (replicate 16 []) []

-- lines lead to a setup so far whose place is one of some
pub record Reaches (high : ℕ) (r : Reading) (text : List ℕ) (behind : ℕ → Reading) : Type 0 where
  pub place : ℕ
  pub from : 4 ≤ place
  pub to : place ≤ high
  pub leads : Leads r text (behind place)

-- at most 16 CPUs
pub few_cpus : (s : Setup) → s.cpus ≤ 16
few_cpus s = leb-true s.cpus 16 (and_parts (nat_le 1 s.cpus) (nat_le s.cpus 16) s.rules.cpus).1

-- a line may stand before any script
open_at : (s : Setup) (high place : ℕ) (groups : List GroupLine) (threads : List ThreadSpec) (unborn : List ℕ) → 4 ≤ place → place ≤ high → IsOpen high (declared_at s place groups threads unborn)
open_at s high place groups threads unborn from to = record { from = from; to = to; turns = refl; budget = omega arith }

-- ---- groups

-- the groups behind some
groups_reach : (s : Setup) (place : ℕ) (done rest : List GroupLine) → 4 ≤ place → place ≤ 5 → s.groups ≡ done ++ rest →
    list_all (is_in_range s.cpus) rest ≡ true → list_all (λ l. nat_lt 0 l.cpus) rest ≡ true →
    Reaches 5 (declared_at s place done [] []) (lines_text (map group_words rest)) (λ p. declared_at s p s.groups [] [])
groups_reach s place done [] from to is range some =
    let all : done ≡ s.groups = sym (is ∙ append-nil done) in
    record { place = place; from = from; to = to; leads = subst (λ gs. Leads (declared_at s place done [] []) [] (declared_at s place gs [] [])) all (leads_nowhere (declared_at s place done [] [])) }
groups_reach s place done (g ∷ rest) from to is range some =
    let own = and_parts (is_in_range s.cpus g) (list_all (is_in_range s.cpus) rest) range in
    let has = and_parts (nat_lt 0 g.cpus) (list_all (λ (l : GroupLine). nat_lt 0 l.cpus) rest) some in
    let cut : s.groups ≡ (done ++ g ∷ []) ++ rest = is ∙ sym (append_assoc done (g ∷ []) rest) in
    let few = leb-true (length s.groups) 15 s.rules.group_count in
    let fits : length done < 15 = omega (arith, few, ap length is, length-append done (g ∷ rest)) in
    let ok = front_is_built s.cpus (done ++ g ∷ []) rest (ap (λ gs. is_ok (built s.cpus gs)) (sym cut) ∙ s.rules.groups) in
    let next = groups_reach s (max place 5) (done ++ g ∷ []) rest (omega arith) (omega arith) cut own.1 has.1 in
    record {
      place = next.place;
      from = next.from;
      to = next.to;
      leads = leads_on (group_leads (declared_at s place done [] []) g (few_cpus s) own.0 has.0 ok fits (open_at s 5 place done [] [] from to)) next.leads;
    }

-- all of them
pub all_groups_reach : (s : Setup) → Reaches 5 (declared_at s 4 [] [] []) (lines_text (map group_words s.groups)) (λ p. declared_at s p s.groups [] [])
all_groups_reach s = groups_reach s 4 [] s.groups (omega arith) (omega arith) refl (lines_in_range s.cpus s.groups s.rules.groups) s.rules.group_cpus

-- ---- threads

-- all declared numbers are below 256, and distinct
pub numbers_of : (s : Setup) → (list_all (λ t. nat_lt t 256) (declared_ids s.threads s.unborn) ≡ true) × (is_distinct (declared_ids s.threads s.unborn) ≡ true)
numbers_of s = and_parts (list_all (λ t. nat_lt t 256) (declared_ids s.threads s.unborn)) (is_distinct (declared_ids s.threads s.unborn)) s.rules.numbers

-- a number of those is below 256, and none of those before it
number_new : (xs : List ℕ) (t : ℕ) (ys : List ℕ) → list_all (λ u. nat_lt u 256) (xs ++ t ∷ ys) ≡ true → is_distinct (xs ++ t ∷ ys) ≡ true → (t < 256) × (is_among xs t ≡ false)
number_new xs t ys small distinct =
    let below : ℕ → Bool = λ u. nat_lt u 256 in
    let behind = and_parts (list_all below xs) (list_all below (t ∷ ys)) (sym (list_all-append below xs (t ∷ ys)) ∙ small) in
    (ltb-true t 256 (and_parts (nat_lt t 256) (list_all below ys) behind.1).0, none_before xs t ys distinct)

-- a thread is not known before its line
unknown : (threads : List ThreadSpec) (unborn : List ℕ) (t : ℕ) → is_among (declared_ids threads unborn) t ≡ false → is_among (map (λ spec. spec.id) threads) t || is_among unborn t ≡ false
unknown threads unborn t none = sym (list_any-append (λ u. u == t) (map (λ spec. spec.id) threads) unborn) ∙ none

-- the numbers of threads, cut at one
ids_cut : (done : List ThreadSpec) (t : ThreadSpec) (rest : List ThreadSpec) (unborn : List ℕ) →
    declared_ids (done ++ t ∷ rest) unborn ≡ map (λ spec. spec.id) done ++ t.id ∷ declared_ids rest unborn
ids_cut done t rest unborn =
    ap (λ (ids : List ℕ). ids ++ unborn) (map-append (λ (spec : ThreadSpec). spec.id) done (t ∷ rest))
    ∙ append_assoc (map (λ spec. spec.id) done) (t.id ∷ map (λ spec. spec.id) rest) unborn

-- the threads behind some
threads_reach : (s : Setup) (place : ℕ) (done rest : List ThreadSpec) → 4 ≤ place → place ≤ 6 → s.threads ≡ done ++ rest → list_all (is_spec s.cpus) rest ≡ true →
    Reaches 6 (declared_at s place s.groups done []) (lines_text (map thread_words rest)) (λ p. declared_at s p s.groups s.threads [])
threads_reach s place done [] from to is specs =
    let all : done ≡ s.threads = sym (is ∙ append-nil done) in
    record { place = place; from = from; to = to; leads = subst (λ ts. Leads (declared_at s place s.groups done []) [] (declared_at s place s.groups ts [])) all (leads_nowhere (declared_at s place s.groups done [])) }
threads_reach s place done (t ∷ rest) from to is specs =
    let own = and_parts (is_spec s.cpus t) (list_all (is_spec s.cpus) rest) specs in
    let cut : s.threads ≡ (done ++ t ∷ []) ++ rest = is ∙ sym (append_assoc done (t ∷ []) rest) in
    let ids : List ℕ = map (λ (spec : ThreadSpec). spec.id) done in
    let named : declared_ids s.threads s.unborn ≡ ids ++ t.id ∷ declared_ids rest s.unborn = ap (λ (ts : List ThreadSpec). declared_ids ts s.unborn) is ∙ ids_cut done t rest s.unborn in
    let all = numbers_of s in
    let new = number_new ids t.id (declared_ids rest s.unborn) (ap (list_all (λ u. nat_lt u 256)) (sym named) ∙ all.0) (ap is_distinct (sym named) ∙ all.1) in
    let none : is_among (declared_ids done []) t.id ≡ false = ap (λ (us : List ℕ). is_among us t.id) (append-nil ids) ∙ new.1 in
    let next = threads_reach s (max place 6) (done ++ t ∷ []) rest (omega arith) (omega arith) cut own.1 in
    record {
      place = next.place;
      from = next.from;
      to = next.to;
      leads = leads_on (thread_leads (declared_at s place s.groups done []) t (few_cpus s) own.0 new.0 (unknown done [] t.id none) (open_at s 6 place s.groups done [] from to)) next.leads;
    }

-- all of them
pub all_threads_reach : (s : Setup) (place : ℕ) → 4 ≤ place → place ≤ 5 → Reaches 6 (declared_at s place s.groups [] []) (lines_text (map thread_words s.threads)) (λ p. declared_at s p s.groups s.threads [])
all_threads_reach s place from to = threads_reach s place [] s.threads from (omega arith) refl s.rules.threads

-- ---- unborn threads

-- the unborn threads behind some
unborn_reach : (s : Setup) (place : ℕ) (done rest : List ℕ) → 4 ≤ place → place ≤ 6 → s.unborn ≡ done ++ rest →
    Reaches 6 (declared_at s place s.groups s.threads done) (lines_text (map unborn_words rest)) (λ p. declared_at s p s.groups s.threads s.unborn)
unborn_reach s place done [] from to is =
    let all : done ≡ s.unborn = sym (is ∙ append-nil done) in
    record { place = place; from = from; to = to; leads = subst (λ ts. Leads (declared_at s place s.groups s.threads done) [] (declared_at s place s.groups s.threads ts)) all (leads_nowhere (declared_at s place s.groups s.threads done)) }
unborn_reach s place done (t ∷ rest) from to is =
    let cut : s.unborn ≡ (done ++ t ∷ []) ++ rest = is ∙ sym (append_assoc done (t ∷ []) rest) in
    let ids : List ℕ = map (λ (spec : ThreadSpec). spec.id) s.threads in
    let named : declared_ids s.threads s.unborn ≡ declared_ids s.threads done ++ t ∷ rest = ap (declared_ids s.threads) is ∙ sym (append_assoc ids done (t ∷ rest)) in
    let all = numbers_of s in
    let new = number_new (declared_ids s.threads done) t rest (ap (list_all (λ u. nat_lt u 256)) (sym named) ∙ all.0) (ap is_distinct (sym named) ∙ all.1) in
    let next = unborn_reach s (max place 6) (done ++ t ∷ []) rest (omega arith) (omega arith) cut in
    record {
      place = next.place;
      from = next.from;
      to = next.to;
      leads = leads_on (unborn_leads (declared_at s place s.groups s.threads done) t new.0 (unknown s.threads done t new.1) (open_at s 6 place s.groups s.threads done from to)) next.leads;
    }

-- all of them
pub all_unborn_reach : (s : Setup) (place : ℕ) → 4 ≤ place → place ≤ 6 → Reaches 6 (declared_at s place s.groups s.threads []) (lines_text (map unborn_words s.unborn)) (λ p. declared_at s p s.groups s.threads s.unborn)
all_unborn_reach s place from to = unborn_reach s place [] s.unborn from to refl

-- The setup so far as its fields have it, and what they keep beside its lists.
use Rattle.std.specs.Prelude.{◌≡◌, ◌<◌, ◌≤◌, [], length, map, replicate}
use Rattle.ule_types.specs.Rules.{forked_in_all}
use Rattle.ule_scenario.specs.Reading.{Reading, spent_items}
use Rattle.ule_scenario.specs.Marks.{AreMarks}
use Rattle.ule_scenario.specs.declared.draft.Draft.TheInside.{Inside}

-- what the fields give
abbrev pub reading_of : Inside → Reading
reading_of a = record {
  place = a.place;
  settings_from = a.settings_from;
  script_from = a.script_from;
  settings = a.settings;
  jitter = a.jitter;
  cpus = a.cpus;
  groups = a.groups;
  threads = a.threads;
  unborn = a.unborn;
  scripts = a.scripts;
  turns = a.turns;
}

-- the tables and the count of items say what the lists say, which are no longer than a scenario lets them be
pub record KeepsTables (a : Inside) : Type 0 where
  pub queued : AreMarks a.queued (map (λ spec. spec.id) a.threads)
  pub waiting : AreMarks a.waiting a.unborn
  pub forked : AreMarks a.forked (forked_in_all a.scripts)
  pub spent : a.spent ≡ spent_items (reading_of a)
  pub within : a.spent ≤ 65536
  pub workers : length a.scripts ≡ 16
  pub few_turns : length a.turns ≤ 4096
  pub few_groups : length a.groups ≤ 15
  pub few_cpus : a.cpus ≤ 16
  pub some_cpus : 1 ≤ a.cpus
  pub unplayed : a.place < 7 → a.scripts ≡ replicate 16 []

-- The entries of a legal history name channels in range: those of the commands that a setup allows.
use Rattle.std.proofs.Common.{◌≡◌, ℕ, ◌<◌, ◌≤◌, ◌==◌, true, nat_le, List, [], ◌∷◌, map, Some, refl, sym, subst, arith}
use Rattle.std.specs.Prelude.{slice_index_or}
use Rattle.std.specs.List.{AllByRecursion, list_all}
use Rattle.std.proofs.lemmas.Bool.{and_parts, eq-eqb, leb-true}
use Rattle.ule_types.specs.Commands.{is_command}
use Rattle.ule_types.specs.Rules.{declared_ids}
use Rattle.ule_types.specs.declared.command.Command.{Command}
use Rattle.ule_types.specs.declared.command.Command.TheVariants as command
use Rattle.ule_types.specs.declared.event.Entry.{Entry}
use Rattle.ule_types.specs.declared.event.Item.TheVariants as item
use Rattle.ule_types.specs.declared.setup.Setup.{Setup}
use Rattle.ule_program.specs.Courses.{Course}
use Rattle.ule_model.specs.Legal.{BeginsProgram, IsLegal, Performs, Timed, acts, advances, entries_of, opening_of, stays}
use Rattle.ule_members.proofs.Membership.{Has, all_from_has, all_has, has-filter}
use Rattle.ule_members.proofs.Rest.{all_at}
use Rattle.ule_members.proofs.Setups.{all_from_list_all, setup_scripts}
use Rattle.ule_members.proofs.Within.{all_along}
use Rattle.ule_ranges.proofs.Channels.{BidsChannel, CourseChannels, NamesChannel, step_channel}
use Rattle.ule_ranges.proofs.HistoryRanges.{IsEntryOnChannel}

-- what a worker at a course performs names channels in range
performs_channels : (course end : Course) (amount total : ℕ) (es : List Timed) → Performs course amount es end total → CourseChannels course →
    AllByRecursion (λ x. NamesChannel x.entry.event) es
performs_channels _ _ _ _ _ (stays course amount) names = tt
performs_channels _ _ _ _ _ (advances course after end amount k total es next performs) names =
    performs_channels after end _ total es performs (step_channel course (item.Advance k, after) names next).1
performs_channels _ _ _ _ _ (acts course after end amount total e es next performs) names =
    let z = step_channel course (item.Event e.event, after) names next in
    (z.0, performs_channels (record after { last = Some (e.reply, e.now) }) end amount total es performs (record { script = z.1.script; stage = z.1.stage }))

-- a valid command bids a channel in range
bids_channel : (ids : List ℕ) (cpus : ℕ) (c : Command) → is_command ids cpus c ≡ true → BidsChannel c
bids_channel ids cpus (command.Sleep channel) valid =
    let z : channel ≤ 65535 = leb-true channel 65535 (and_parts (nat_le 0 channel) (nat_le channel 65535) valid).1 in omega (arith, z)
bids_channel ids cpus _ valid = tt

module _ (s : Setup) where
  -- a worker's script does
  script_bids : (worker : ℕ) → AllByRecursion BidsChannel (slice_index_or s.scripts worker [])
  script_bids worker =
      let valid = all_at (λ script. list_all (is_command (declared_ids s.threads s.unborn) s.cpus) script ≡ true) s.scripts worker []
      (all_from_list_all (λ script. list_all (is_command (declared_ids s.threads s.unborn) s.cpus) script) s.scripts (setup_scripts s).valid) refl in
      all_along (λ (c : Command). is_command (declared_ids s.threads s.unborn) s.cpus c ≡ true) BidsChannel (slice_index_or s.scripts worker []) (bids_channel (declared_ids s.threads s.unborn) s.cpus)
      (all_from_list_all (is_command (declared_ids s.threads s.unborn) s.cpus) (slice_index_or s.scripts worker []) valid)

  -- so does each worker at the start
  opening_channels : (worker : ℕ) → CourseChannels (opening_of s s.scripts worker)
  opening_channels worker = record { script = script_bids worker; stage = tt }

  module _ {es : List Entry} (legal : IsLegal s s.scripts es) where
    -- each entry names a channel in range, since it is one of its worker's
    timed_channel : (x : Timed) → Has x legal.timed → x.entry.worker < s.cpus → NamesChannel x.entry.event
    timed_channel x has there =
        let begins : BeginsProgram s s.scripts legal.timed x.entry.worker = legal.programs x.entry.worker there in
        all_has (λ (y : Timed). NamesChannel y.entry.event) x (entries_of x.entry.worker legal.timed)
        (performs_channels (opening_of s s.scripts x.entry.worker) begins.end 0 begins.total (entries_of x.entry.worker legal.timed) begins.performs (opening_channels x.entry.worker))
        (has-filter (λ (y : Timed). y.entry.worker == x.entry.worker) x legal.timed has (eq-eqb x.entry.worker x.entry.worker refl))

    -- what holds of each entry holds of each with its amount, and the other way round
    of_timed : (P : Entry → Type 0) (xs : List Timed) → AllByRecursion P (map (λ x. x.entry) xs) → AllByRecursion (λ x. P x.entry) xs
    of_timed P [] all = tt
    of_timed P (x ∷ xs) all = (all.0, of_timed P xs all.1)

    of_entries : (P : Entry → Type 0) (xs : List Timed) → AllByRecursion (λ x. P x.entry) xs → AllByRecursion P (map (λ x. x.entry) xs)
    of_entries P [] all = tt
    of_entries P (x ∷ xs) all = (all.0, of_entries P xs all.1)

    -- the entries of a legal history of a setup's scripts name channels in range
    pub legal_channels : AllByRecursion IsEntryOnChannel es
    legal_channels =
        let there = of_timed (λ e. e.worker < s.cpus) legal.timed (subst (AllByRecursion (λ e. e.worker < s.cpus)) (sym legal.entries) legal.workers) in
        subst (AllByRecursion IsEntryOnChannel) legal.entries
        (of_entries IsEntryOnChannel legal.timed
        (all_from_has (λ (x : Timed). NamesChannel x.entry.event) legal.timed
        (λ x has. timed_channel x has (all_has (λ (y : Timed). y.entry.worker < s.cpus) x legal.timed there has))))

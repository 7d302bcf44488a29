-- The judge at the start, and the time at the end.
use Rattle.std.proofs.Common.{◌≡◌, ℕ, zero, suc, ◌+◌, ◌^◌, ◌<◌, ◌≤◌, List, [], ◌∷◌, ◌++◌, drop, get_or, length, replicate, slice_get, slice_index_or, Some, option_and_then, refl, sym, ◌∙◌, ap, subst, arith}
use Rattle.std.proofs.lemmas.List.Sums.{sum_by-cons}
use Rattle.std.proofs.lemmas.Option.{slice_get-get_or}
use Rattle.ule_types.specs.Commands.{amount_of}
use Rattle.ule_types.specs.declared.command.Command.{Command}
use Rattle.ule_types.specs.declared.setup.Setup.{Setup}
use Rattle.ule_program.specs.Courses.{Course}
use Rattle.ule_model.specs.Ends.{end_time}
use Rattle.ule_model.specs.Legal.{amount_in, amount_in_all, opening_of}
use Rattle.ule_model.specs.Rounds.{opening_courses}
use Rattle.ule_model.specs.Start.{world_at_start}
use Rattle.ule_model.specs.WorldValue.{Shows}
use Rattle.ule_members.proofs.Lists.{drop_at}
use Rattle.ule_members.proofs.Setups.{setup_scripts}
use Rattle.ule_rounds.proofs.Plays.{opening_count, opening_is}
use Rattle.ule_seq.specs.Playing.{script_of}
use Rattle.ule_seq.proofs.PlayLaws.{each_push}
use Rattle.ule_check.specs.Judge.{due_of, judge_at_start}
use Rattle.ule_check.specs.JudgeValue.{AreSeats, IsJudge, IsSeat, starts}
use Rattle.ule_check.specs.Seats.{due_in, time_ahead}
use Rattle.ule_check.specs.declared.judge.Judge as code
use Rattle.ule_check.specs.declared.seat.Seat.{Seat}
use Rattle.ule_check.proofs.Complete.{spare}
use Rattle.ule_check.proofs.Kept.{end_below}

-- ---- the time that lists add

-- one list adds no more than all
pub one_of_all : (lists : List (List Command)) (worker : ℕ) → amount_in (slice_index_or lists worker []) ≤ amount_in_all lists
one_of_all [] worker = omega arith
one_of_all (list ∷ lists) zero = omega (arith, sum_by-cons amount_in list lists)
one_of_all (list ∷ lists) (suc worker) = omega (arith, one_of_all lists worker, sum_by-cons amount_in list lists)

-- the time of a worker's list is within bounds
pub script_fits : (s : Setup) (worker : ℕ) → amount_in (script_of s worker) < 2 ^ 36
script_fits s worker = omega (arith, one_of_all s.scripts worker, end_below s)

-- the time of the commands from one on is that of the first and that of those behind it
pub amount_next : (list : List Command) (k : ℕ) (c : Command) → slice_get list k ≡ Some c → amount_in (drop k list) ≡ amount_of c + amount_in (drop (k + 1) list)
amount_next list k c got = ap amount_in (drop_at list k c got) ∙ sum_by-cons amount_of c (drop (k + 1) list)

-- the same of lists
pub amounts_next : (s : Setup) (worker : ℕ) → worker < 16 → amount_in_all (drop worker s.scripts) ≡ amount_in (script_of s worker) + amount_in_all (drop (worker + 1) s.scripts)
amounts_next s worker below =
    let there : slice_get s.scripts worker ≡ Some (script_of s worker) = slice_get-get_or s.scripts worker [] (omega (arith, below, (setup_scripts s).count)) in
    ap amount_in_all (drop_at s.scripts worker (script_of s worker) there) ∙ sum_by-cons amount_in (script_of s worker) (drop (worker + 1) s.scripts)

-- ---- seats at the start

-- a worker of the setup opens with its course
opening_there : (s : Setup) (worker : ℕ) → worker < s.cpus → slice_get (opening_courses s) worker ≡ Some (opening_of s s.scripts worker)
opening_there s worker below =
    let course = get_or (opening_courses s) worker (spare s) in
    let got : slice_get (opening_courses s) worker ≡ Some course = slice_get-get_or (opening_courses s) worker (spare s) (subst (λ n. worker < n) (sym (opening_count s)) below) in
    got ∙ ap (λ (c : Course). Some c) (sym (opening_is s worker course got))

-- a seat that has come to the first event of its worker's program
pub seat_opens : (s : Setup) (worker : ℕ) (x : Seat) → worker < s.cpus → due_of 0 (opening_of s s.scripts worker) ≡ due_in s worker x → x.own ≡ 20000 →
    time_ahead s worker x ≤ amount_in (script_of s worker) → IsSeat s (judge_at_start s) worker x
seat_opens s worker x below due own time = record {
  due = ap (option_and_then (due_of 0)) (opening_there s worker below) ∙ due;
  own = own;
  time = omega (arith, time, one_of_all s.scripts worker);
}

-- seats with one more
pub seats_more : (s : Setup) (xs : List Seat) (x : Seat) → ((worker : ℕ) (y : Seat) → slice_get xs worker ≡ Some y → IsSeat s (judge_at_start s) worker y) →
    IsSeat s (judge_at_start s) (length xs) x → (worker : ℕ) (y : Seat) → slice_get (xs ++ x ∷ []) worker ≡ Some y → IsSeat s (judge_at_start s) worker y
seats_more s xs x each last worker y got =
    let first : 0 + worker ≡ worker = omega arith in
    let behind : length xs ≡ 0 + length xs = omega arith in
    subst (λ k. IsSeat s (judge_at_start s) k y) first
    (each_push (IsSeat s (judge_at_start s)) 0 xs x (λ i z found. (let at : i ≡ 0 + i = omega arith in subst (λ k. IsSeat s (judge_at_start s) k z) at (each i z found)))
    (subst (λ k. IsSeat s (judge_at_start s) k x) behind last) worker y got)

-- ---- the judge

-- a number of a list of one number many times
same_times : (n l t : ℕ) → l < n → slice_get (replicate n t) l ≡ Some t
same_times zero l t below = absurd (omega arith)
same_times (suc n) zero t below = refl
same_times (suc n) (suc l) t below = same_times n l t (omega arith)

-- the code's judge at the start
pub judge_starts : (s : Setup) (v : code.Judge) → Shows v.world (world_at_start s) → AreSeats s (judge_at_start s) v.seats.items → v.latest.items ≡ replicate 25 20000 → v.end ≡ end_time s.scripts →
    IsJudge s 0 v (judge_at_start s)
judge_starts s v shows seats latest end = record {
  reached = starts;
  world = shows;
  seats = seats;
  locks = ap length latest;
  latest = λ l below. ap (λ (xs : List ℕ). slice_get xs l) latest ∙ same_times 25 l 20000 below;
  end = end;
}

use Rattle.std.proofs.Common.{ℕ, ◌+◌, ◌*◌, ◌/◌, ◌<◌, ◌≤◌, arith}
use Rattle.std.proofs.Math.Nat.{mul-div-le, lt-mul-div-succ, le-mul_of_pos_right, lt_of_mul-lt-mul_left}
use Rattle.std.proofs.lemmas.Bool.Decides.{nat_tests}
use Rattle.std.proofs.lemmas.Nat.{le-div}
use Rattle.ule_history.specs.ForkDecay.{divided_history, child_history, ForkDecayIsBounded}

-- two parts, divided by the whole units in their sum, are less than two units together
pub quotients-lt : (a b unit : ℕ) → 0 < unit → unit < a + b →
    a / ((a + b) / unit) + b / ((a + b) / unit) < 2 * unit
quotients-lt a b unit some above =
    let ratio : ℕ = (a + b) / unit in
    let positive : 1 ≤ ratio = le-div 1 (a + b) unit some (omega arith) in
    let within : a + b < unit * (ratio + 1) = lt-mul-div-succ (a + b) some in
    let step : unit ≤ unit * ratio = le-mul_of_pos_right unit positive in
    let product : ratio * (a / ratio + b / ratio) < ratio * (2 * unit) = omega (arith, mul-div-le a ratio, mul-div-le b ratio) in
    lt_of_mul-lt-mul_left ratio product

-- a child begins with less than one second
pub child_history-lt : ForkDecayIsBounded
unfolding child_history divided_history
child_history-lt h = grind (arith, nat_tests, quotients-lt h.run h.slept 512000 (omega arith))

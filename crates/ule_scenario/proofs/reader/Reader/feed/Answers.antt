use Rattle.std.proofs.Common.{◌++◌, subst, sym}
use Rattle.ule_scenario.specs.ReaderKept.{HasRead}
use Rattle.ule_scenario.specs.ReaderValue.{ReaderValue}
use Rattle.ule_scenario.specs.ReaderView.{reader_shown}
use Rattle.ule_scenario.proofs.reader.Reader.feed.Goals as goal

pub invariant_of-self : goal.invariant_of-self
invariant_of-self c = λ sound. let had = c.self.invariant sound in (had.0 ++ c.args.piece.now, c.in-Ok.ensures had.0 had.1)

pub returns-clause-read : goal.returns-clause-read
returns-clause-read c = λ bytes has.
    let h : HasRead (reader_shown c.self.inside) bytes = subst (λ (v : ReaderValue). HasRead v bytes) (sym c.self.view_is) has in
    record { sound = h.sound; fed = c.in-Ok.ensures bytes h.fed }

-- What the written words of an event are read as.
use Rattle.std.proofs.Common.{◌≡◌, true, List, ◌++◌, Some, refl, arith}
use Rattle.std.specs.List.{list_all}
use Rattle.ule_text.specs.Words.{Word}
use Rattle.ule_text.proofs.Numbers.{decimal_is_word}
use Rattle.ule_text.proofs.Printed.{is_word}
use Rattle.ule_trace.proofs.FieldsBack.{amount_back, byte_back, channel_back, cpu_back, move_why_back, move_why_is_word, nice_back, nice_is_word, why_back, why_is_word}
use Rattle.ule_trace.specs.EventForm.{event_form}
use Rattle.ule_trace.specs.EventText.{event_words}
use Rattle.ule_trace.specs.Ranges.{EventFits}
use Rattle.ule_types.specs.declared.event.Event.{Event}
use Rattle.ule_types.specs.declared.event.Event.TheVariants.{Tick, Switch, Drop, Bed, Wake, Look, Land, Move, Lend, Unlend, Renice, Hatch, Fork, Return, Exit, Bury, Inherit}

-- an event, with the words behind it
pub event_back : (e : Event) → EventFits e → (behind : List Word) → event_form (event_words e ++ behind) ≡ Some (e, behind)
event_back (Tick c) fits behind = rw (cpu_back c fits) refl
event_back (Switch c y) fits behind = rw (cpu_back c fits, why_back y) refl
event_back (Drop c channel) fits behind = rw (cpu_back c fits.0, channel_back channel fits.1) refl
event_back (Bed t channel) fits behind = rw (byte_back t fits.0, channel_back channel fits.1) refl
event_back (Wake t) fits behind = rw (byte_back t fits) refl
event_back (Look c) fits behind = rw (cpu_back c fits) refl
event_back (Land t c) fits behind = rw (byte_back t fits.0, cpu_back c fits.1) refl
event_back (Move a b y) fits behind = rw (cpu_back a fits.0, cpu_back b fits.1, move_why_back y) refl
event_back (Lend t p) fits behind = rw (byte_back t fits.0, byte_back p fits.1) refl
event_back (Unlend t) fits behind = rw (byte_back t fits) refl
event_back (Renice t n) fits behind = rw (byte_back t fits.0, nice_back n fits.1) refl
event_back (Hatch t) fits behind = rw (byte_back t fits) refl
event_back (Fork c t) fits behind = rw (cpu_back c fits.0, byte_back t fits.1) refl
event_back (Return t) fits behind = rw (byte_back t fits) refl
event_back (Exit c) fits behind = rw (cpu_back c fits) refl
event_back (Bury t) fits behind = rw (byte_back t fits) refl
event_back (Inherit t run) fits behind = rw (byte_back t fits.0, amount_back run fits.1) refl

-- its words are those of a written line
pub event_are_words : (e : Event) → EventFits e → list_all is_word (event_words e) ≡ true
event_are_words (Tick c) fits = rw (decimal_is_word c (omega (arith, fits))) refl
event_are_words (Switch c y) fits = rw (decimal_is_word c (omega (arith, fits)), why_is_word y) refl
event_are_words (Drop c channel) fits = rw (decimal_is_word c (omega (arith, fits.0)), decimal_is_word channel (omega (arith, fits.1))) refl
event_are_words (Bed t channel) fits = rw (decimal_is_word t (omega (arith, fits.0)), decimal_is_word channel (omega (arith, fits.1))) refl
event_are_words (Wake t) fits = rw (decimal_is_word t (omega (arith, fits))) refl
event_are_words (Look c) fits = rw (decimal_is_word c (omega (arith, fits))) refl
event_are_words (Land t c) fits = rw (decimal_is_word t (omega (arith, fits.0)), decimal_is_word c (omega (arith, fits.1))) refl
event_are_words (Move a b y) fits = rw (decimal_is_word a (omega (arith, fits.0)), decimal_is_word b (omega (arith, fits.1)), move_why_is_word y) refl
event_are_words (Lend t p) fits = rw (decimal_is_word t (omega (arith, fits.0)), decimal_is_word p (omega (arith, fits.1))) refl
event_are_words (Unlend t) fits = rw (decimal_is_word t (omega (arith, fits))) refl
event_are_words (Renice t n) fits = rw (decimal_is_word t (omega (arith, fits.0)), nice_is_word n fits.1) refl
event_are_words (Hatch t) fits = rw (decimal_is_word t (omega (arith, fits))) refl
event_are_words (Fork c t) fits = rw (decimal_is_word c (omega (arith, fits.0)), decimal_is_word t (omega (arith, fits.1))) refl
event_are_words (Return t) fits = rw (decimal_is_word t (omega (arith, fits))) refl
event_are_words (Exit c) fits = rw (decimal_is_word c (omega (arith, fits))) refl
event_are_words (Bury t) fits = rw (decimal_is_word t (omega (arith, fits))) refl
event_are_words (Inherit t run) fits = rw (decimal_is_word t (omega (arith, fits.0)), decimal_is_word run fits.1) refl

-- What the written words of a reply are read as.
use Rattle.std.proofs.Common.{◌≡◌, true, [], Some, refl, arith}
use Rattle.std.specs.List.{list_all}
use Rattle.ule_text.proofs.Numbers.{decimal_is_word}
use Rattle.ule_text.proofs.Printed.{is_word}
use Rattle.ule_trace.proofs.FieldsBack.{amount_back, bucket_back, byte_back, byte_if_any_back, cpu_back, cpu_if_any_back, cpu_if_any_is_word, flag_back, flag_is_word, if_any_is_word, kind_back, kind_is_word}
use Rattle.ule_trace.proofs.PlacesBack.{place_back, place_is_word}
use Rattle.ule_trace.specs.Ranges.{ReplyFits}
use Rattle.ule_trace.specs.ReplyForm.{reply_form}
use Rattle.ule_trace.specs.ReplyText.{reply_words}
use Rattle.ule_types.specs.declared.event.Reply.{Reply}
use Rattle.ule_types.specs.declared.event.Reply.TheVariants.{Ticked, Unmarked, Nothing, Switched, Dropped, Bedded, NotAsleep, Woken, Seen, Landed, Moved, NoneMovable, Changed, NotAllowed, Hatched, Forked, Returned, Exited, Buried, ParentGone}

-- a reply
pub reply_back : (r : Reply) → ReplyFits r → reply_form (reply_words r) ≡ Some (r, [])
reply_back (Ticked current due ended) fits = rw (byte_if_any_back current fits, flag_back due, flag_back ended) refl
reply_back Unmarked fits = refl
reply_back Nothing fits = refl
reply_back (Switched out into preempted) fits = rw (byte_if_any_back out fits.0, byte_if_any_back into fits.1, flag_back preempted) refl
reply_back (Dropped out into) fits = rw (byte_back out fits.0, byte_if_any_back into fits.1) refl
reply_back Bedded fits = refl
reply_back (NotAsleep at) fits = rw (place_back at fits) refl
reply_back (Woken p bound last last_run) fits = rw (byte_back p fits.0, cpu_if_any_back bound fits.1, cpu_back last fits.2, amount_back last_run fits.3) refl
reply_back (Seen load movable low) fits = rw (amount_back load fits.0, amount_back movable fits.1, byte_back low fits.2) refl
reply_back (Landed k b preempts) fits = rw (kind_back k, bucket_back b fits, flag_back preempts) refl
reply_back (Moved t k b preempts) fits = rw (byte_back t fits.0, kind_back k, bucket_back b fits.1, flag_back preempts) refl
reply_back (NoneMovable load movable other) fits = rw (amount_back load fits.0, amount_back movable fits.1, amount_back other fits.2) refl
reply_back (Changed p requeued marked) fits = rw (byte_back p fits, flag_back requeued, flag_back marked) refl
reply_back (NotAllowed at) fits = rw (place_back at fits) refl
reply_back Hatched fits = refl
reply_back (Forked parent p) fits = rw (byte_back parent fits.0, byte_back p fits.1) refl
reply_back Returned fits = refl
reply_back (Exited out into parent run) fits = rw (byte_back out fits.0, byte_if_any_back into fits.1, byte_if_any_back parent fits.2, amount_back run fits.3) refl
reply_back Buried fits = refl
reply_back ParentGone fits = refl

-- its words are those of a written line
pub reply_are_words : (r : Reply) → ReplyFits r → list_all is_word (reply_words r) ≡ true
reply_are_words (Ticked current due ended) fits = rw (if_any_is_word current fits, flag_is_word due, flag_is_word ended) refl
reply_are_words Unmarked fits = refl
reply_are_words Nothing fits = refl
reply_are_words (Switched out into preempted) fits = rw (if_any_is_word out fits.0, if_any_is_word into fits.1, flag_is_word preempted) refl
reply_are_words (Dropped out into) fits = rw (decimal_is_word out (omega (arith, fits.0)), if_any_is_word into fits.1) refl
reply_are_words Bedded fits = refl
reply_are_words (NotAsleep at) fits = rw (place_is_word at fits) refl
reply_are_words (Woken p bound last last_run) fits = rw (decimal_is_word p (omega (arith, fits.0)), cpu_if_any_is_word bound fits.1, decimal_is_word last (omega (arith, fits.2)), decimal_is_word last_run fits.3) refl
reply_are_words (Seen load movable low) fits = rw (decimal_is_word load fits.0, decimal_is_word movable fits.1, decimal_is_word low (omega (arith, fits.2))) refl
reply_are_words (Landed k b preempts) fits = rw (kind_is_word k, decimal_is_word b (omega (arith, fits)), flag_is_word preempts) refl
reply_are_words (Moved t k b preempts) fits = rw (decimal_is_word t (omega (arith, fits.0)), kind_is_word k, decimal_is_word b (omega (arith, fits.1)), flag_is_word preempts) refl
reply_are_words (NoneMovable load movable other) fits = rw (decimal_is_word load fits.0, decimal_is_word movable fits.1, decimal_is_word other fits.2) refl
reply_are_words (Changed p requeued marked) fits = rw (decimal_is_word p (omega (arith, fits)), flag_is_word requeued, flag_is_word marked) refl
reply_are_words (NotAllowed at) fits = rw (place_is_word at fits) refl
reply_are_words Hatched fits = refl
reply_are_words (Forked parent p) fits = rw (decimal_is_word parent (omega (arith, fits.0)), decimal_is_word p (omega (arith, fits.1))) refl
reply_are_words Returned fits = refl
reply_are_words (Exited out into parent run) fits = rw (decimal_is_word out (omega (arith, fits.0)), if_any_is_word into fits.1, if_any_is_word parent fits.2, decimal_is_word run fits.3) refl
reply_are_words Buried fits = refl
reply_are_words ParentGone fits = refl

-- Which reply words spell: the words of each, behind its name.
use Rattle.std.specs.Prelude.{Option, Some, None, if◌then◌else◌, List, codes, bytes_eq}
use Rattle.ule_text.specs.Words.{Word}
use Rattle.ule_trace.specs.Parts.{Spelled, taken, next, form0, form1, form2, form3, form4}
use Rattle.ule_trace.specs.Fields.{cpu, thread, priority, bucket, amount, flag, kind_named, maybe}
use Rattle.ule_trace.specs.PlaceForm.{place}
use Rattle.ule_trace.specs.declared.reply_form.ReplyName.{ReplyName}
use Rattle.ule_trace.specs.declared.reply_form.ReplyName.TheVariants as name
use Rattle.ule_types.specs.declared.event.Reply.{Reply}
use Rattle.ule_types.specs.declared.event.Reply.TheVariants as reply

-- the name of a reply to an event whose first word is a thread
abbrev pub thread_reply_named : Word → Option ReplyName
thread_reply_named word =
    if bytes_eq word (codes "bedded") then Some name.Bedded else (
    if bytes_eq word (codes "notasleep") then Some name.NotAsleep else (
    if bytes_eq word (codes "woken") then Some name.Woken else (
    if bytes_eq word (codes "landed") then Some name.Landed else (
    if bytes_eq word (codes "changed") then Some name.Changed else (
    if bytes_eq word (codes "notallowed") then Some name.NotAllowed else (
    if bytes_eq word (codes "hatched") then Some name.Hatched else (
    if bytes_eq word (codes "returned") then Some name.Returned else (
    if bytes_eq word (codes "buried") then Some name.Buried else (
    if bytes_eq word (codes "parentgone") then Some name.ParentGone else (
    None))))))))))

-- the name that a word is
abbrev pub reply_named : Word → Option ReplyName
reply_named word =
    if bytes_eq word (codes "ticked") then Some name.Ticked else (
    if bytes_eq word (codes "unmarked") then Some name.Unmarked else (
    if bytes_eq word (codes "nothing") then Some name.Nothing else (
    if bytes_eq word (codes "switched") then Some name.Switched else (
    if bytes_eq word (codes "dropped") then Some name.Dropped else (
    if bytes_eq word (codes "seen") then Some name.Seen else (
    if bytes_eq word (codes "moved") then Some name.Moved else (
    if bytes_eq word (codes "nonemovable") then Some name.NoneMovable else (
    if bytes_eq word (codes "forked") then Some name.Forked else (
    if bytes_eq word (codes "exited") then Some name.Exited else (
    thread_reply_named word))))))))))

-- the words behind a name
abbrev pub reply_behind : ReplyName → List Word → Spelled Reply
reply_behind name.Ticked ws = form3 reply.Ticked (maybe thread) flag flag ws
reply_behind name.Unmarked ws = form0 reply.Unmarked ws
reply_behind name.Nothing ws = form0 reply.Nothing ws
reply_behind name.Switched ws = form3 reply.Switched (maybe thread) (maybe thread) flag ws
reply_behind name.Dropped ws = form2 reply.Dropped thread (maybe thread) ws
reply_behind name.Bedded ws = form0 reply.Bedded ws
reply_behind name.NotAsleep ws = form1 reply.NotAsleep place ws
reply_behind name.Woken ws = form4 reply.Woken priority (maybe cpu) cpu amount ws
reply_behind name.Seen ws = form3 reply.Seen amount amount priority ws
reply_behind name.Landed ws = form3 reply.Landed kind_named bucket flag ws
reply_behind name.Moved ws = form4 reply.Moved thread kind_named bucket flag ws
reply_behind name.NoneMovable ws = form3 reply.NoneMovable amount amount amount ws
reply_behind name.Changed ws = form3 reply.Changed priority flag flag ws
reply_behind name.NotAllowed ws = form1 reply.NotAllowed place ws
reply_behind name.Hatched ws = form0 reply.Hatched ws
reply_behind name.Forked ws = form2 reply.Forked thread priority ws
reply_behind name.Returned ws = form0 reply.Returned ws
reply_behind name.Exited ws = form4 reply.Exited thread (maybe thread) (maybe thread) amount ws
reply_behind name.Buried ws = form0 reply.Buried ws
reply_behind name.ParentGone ws = form0 reply.ParentGone ws

-- a reply
abbrev pub reply_form : List Word → Spelled Reply
reply_form ws = next (taken reply_named ws) reply_behind

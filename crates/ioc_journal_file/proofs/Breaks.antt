-- The line of an entry has no line break but its last byte.
use Rattle.std.proofs.Common.{◌≡◌, ℕ, suc, ◌≤◌, ◌<◌, ◌^◌, Bool, true, false, not, eqb, ◌||◌, ◌&&◌, List, [], ◌∷◌, ◌++◌, length, Result, Ok, Err, ℤ, pos, negsuc, refl, sym, ap, ◌∙◌, arith}
use Rattle.std.specs.Prelude.{FitsSigned, codes, decimal}
use Rattle.std.specs.Int.{w16, w32, w64}
use Rattle.std.specs.List.{list_all, flat_map, AllByRecursion}
use Rattle.std.specs.Fmt.{signed_decimal}
use Rattle.std.proofs.lemmas.Int.{ints}
use Rattle.ioc_values.specs.declared.error.IocError.{IocError}
use Rattle.ioc_values.specs.declared.value.Value.{Value}
use Rattle.ioc_values.specs.declared.value.Value.TheVariants.{Long, ULong, Short, UShort, UChar, Enum, Int64, Double, Text}
use Rattle.ioc_values.specs.declared.value.Finished.{Finished}
use Rattle.ioc_values.specs.declared.value.Finished.TheVariants as finished
use Rattle.ioc_values.specs.declared.input.Input.{Input}
use Rattle.ioc_values.specs.declared.input.Input.TheVariants as input
use Rattle.ioc_values.specs.Words.{refusal_words}
use Rattle.ioc_device.specs.declared.Answer.{Answer}
use Rattle.ioc_device.specs.declared.Answer.TheVariants as answer
use Rattle.ioc_fields.specs.Names.{name_of}
use Rattle.ioc_links.specs.declared.link.Link.{Link}
use Rattle.ioc_links.specs.declared.link.Link.TheVariants.{Empty, Constant, Real, Device, Database}
use Rattle.ioc_dbcommon.specs.declared.link_field.Lead.{Lead}
use Rattle.ioc_dbcommon.specs.declared.link_field.Lead.TheVariants.{Nowhere, Field, OwnDevice}
use Rattle.ioc_events.specs.declared.event.Event.{Event}
use Rattle.ioc_events.specs.declared.event.Event.TheVariants.{Process, Put, Complete, Notify, Cancel}
use Rattle.ioc_events.specs.declared.event.Call.{Call}
use Rattle.ioc_events.specs.declared.event.Call.TheVariants as call
use Rattle.ioc_events.specs.declared.reply.Reply.{Reply}
use Rattle.ioc_events.specs.declared.reply.Reply.TheVariants as reply
use Rattle.ioc_journal_file.specs.declared.line.Mark.{Mark}
use Rattle.ioc_journal_file.specs.Words.{ends_word}
use Rattle.ioc_journal_file.specs.Texts.{quoted}
use Rattle.ioc_journal_file.specs.Bits.{bits_text}
use Rattle.ioc_journal_file.specs.Lists.{outcome_word, mode_word}
use Rattle.ioc_journal_file.specs.Form.{value_text, input_text, finished_text, answer_text, answers_text, reply_text, shown_text, changed_text, live_word, process_word, link_text, lead_text, event_text, call_text, mark_text, line_of}
use Rattle.ioc_journal_file.specs.Fits.{IsNumber, IsValue, IsInput, IsFinished, IsAnswer, IsReply, IsShown, IsLink, IsLead, IsEvent, IsCall, IsMark, IsEntry}
use Rattle.ioc_journal_file.specs.Breaks.{no_break, EndsOnce}
use Rattle.ioc_journal_file.proofs.Splitting.{is_whole, both, and_true, negated}
use Rattle.ioc_journal_file.proofs.NumbersAgain.{decimal_whole, signed_whole}
use Rattle.ioc_journal_file.proofs.TextsAgain.{quoted_whole}
use Rattle.ioc_journal_file.proofs.BitsAgain.{bits_whole}
use Rattle.ioc_journal_file.proofs.RepliesAgain.{error_word, outcome_is}
use Rattle.ioc_journal_file.proofs.LinksAgain.{name_whole, mode_read, process_read}

abbrev Unbroken : List ℕ → Type 0
Unbroken w = no_break w ≡ true

or_false : (a b : Bool) → (a || b) ≡ false → b ≡ false
or_false true b h = absurd cc
or_false false b h = h

whole : (w : List ℕ) → is_whole w ≡ true → Unbroken w
whole [] h = refl
whole (b ∷ bs) h =
    let p = both (not (ends_word b)) (is_whole bs) h in
    let last : eqb b 10 ≡ false = or_false (eqb b 9) (eqb b 10) (negated (ends_word b) p.0) in
    and_true (not (eqb b 10)) (no_break bs) (ap not last) (whole bs p.1)

onto : (v w : List ℕ) → Unbroken v → Unbroken w → Unbroken (v ++ w)
onto [] w h k = k
onto (b ∷ bs) w h k = let p = both (not (eqb b 10)) (no_break bs) h in and_true (not (eqb b 10)) (no_break (bs ++ w)) p.0 (onto bs w p.1 k)

next : (v w : List ℕ) → Unbroken v → Unbroken w → Unbroken (v ++ 9 ∷ w)
next v w h k = onto v (9 ∷ w) h k

number : (n : ℕ) → IsNumber n → Unbroken (decimal n)
number n h = whole (decimal n) (decimal_whole n h)

integer : (z : ℤ) → FitsSigned w64 z → Unbroken (signed_decimal z)
integer z h = whole (signed_decimal z) (signed_whole z h)

text : (t : List ℕ) → Unbroken (quoted t)
text t = whole (quoted t) (quoted_whole t)

wide31 : (z : ℤ) → FitsSigned w32 z → FitsSigned w64 z
wide31 (pos n) h = omega (arith, ints)
wide31 (negsuc n) h = omega (arith, ints)

wide15 : (z : ℤ) → FitsSigned w16 z → FitsSigned w64 z
wide15 (pos n) h = omega (arith, ints)
wide15 (negsuc n) h = omega (arith, ints)

small : (n limit : ℕ) → n < limit → limit ≤ 2 ^ 32 → IsNumber n
small n limit h k = omega (arith, h, k)

value : (v : Value) → IsValue v → Unbroken (value_text v)
unfolding value_text
value (Long z) h = next (codes "long") (signed_decimal z) refl (integer z (wide31 z h))
value (ULong n) h = next (codes "ulong") (decimal n) refl (number n (omega (arith, h)))
value (Short z) h = next (codes "short") (signed_decimal z) refl (integer z (wide15 z h))
value (UShort n) h = next (codes "ushort") (decimal n) refl (number n (omega (arith, h)))
value (UChar n) h = next (codes "uchar") (decimal n) refl (number n (omega (arith, h)))
value (Enum n) h = next (codes "enum") (decimal n) refl (number n (omega (arith, h)))
value (Int64 z) h = next (codes "int64") (signed_decimal z) refl (integer z h)
value (Double x) h = next (codes "double") (bits_text x) refl (whole (bits_text x) (bits_whole x))
value (Text t) h = next (codes "text") (quoted t) refl (text t)

given : (v : Input) → IsInput v → Unbroken (input_text v)
unfolding input_text
given (input.Value v) h = value v h
given (input.LongText t) h = next (codes "longtext") (quoted t) refl (text t)

ended : (x : Finished) → IsFinished x → Unbroken (finished_text x)
unfolding finished_text
ended (finished.Done v) h = value v h
ended finished.Fault h = refl

answered : (a : Answer) → IsAnswer a → Unbroken (answer_text a)
unfolding answer_text
answered (answer.Done v) h = value v h
answered answer.Fault h = refl
answered answer.Later h = refl

listed : (xs : List Answer) → AllByRecursion IsAnswer xs → Unbroken (flat_map (λ answer. 9 ∷ answer_text answer) xs)
listed [] h = refl
listed (a ∷ xs) h = onto (9 ∷ answer_text a) _ (answered a h.0) (listed xs h.1)

all_answers : (xs : List Answer) → AllByRecursion IsAnswer xs → IsNumber (length xs) → Unbroken (answers_text xs)
unfolding answers_text
all_answers xs h few = onto (decimal (length xs)) _ (number (length xs) few) (listed xs h)

refused : (e : IocError) → Unbroken (refusal_words e)
refused e = whole (refusal_words e) (error_word e).whole

replied : (r : Reply) → IsReply r → Unbroken (reply_text r)
unfolding reply_text
replied reply.Plain h = refl
replied (reply.Outcome o) h = whole (outcome_word o) (outcome_is o).whole
replied (reply.Notify n) h = next (codes "notify") (decimal n) refl (number n h)
replied (reply.Refused e) h = refused e

shown : (r : Result (List ℕ) IocError) → Unbroken (shown_text r)
unfolding shown_text
shown (Ok t) = text t
shown (Err e) = refused e

changed : (r : Result (Unit {0}) IocError) → Unbroken (changed_text r)
unfolding changed_text
changed (Ok x) = refl
changed (Err e) = refused e

live : (b : Bool) → Unbroken (live_word b)
unfolding live_word
live true = refl
live false = refl

name : (f : _) → Unbroken (name_of f)
name f = whole (name_of f) (name_whole f)

link : (l : Link) → IsLink l → Unbroken (link_text l)
unfolding link_text
link Empty h = refl
link (Constant z) h = next (codes "constant") (signed_decimal z) refl (integer z h)
link (Real t) h = next (codes "real") (quoted t) refl (text t)
link (Device t) h = next (codes "device") (quoted t) refl (text t)
link (Database target flags) h =
    next (codes "database" ++ 9 ∷ quoted target.record_name ++ 9 ∷ quoted target.field ++ 9 ∷ process_word flags.process_passive) (mode_word flags.mode)
    (next (codes "database" ++ 9 ∷ quoted target.record_name ++ 9 ∷ quoted target.field) (process_word flags.process_passive)
    (next (codes "database" ++ 9 ∷ quoted target.record_name) (quoted target.field)
    (next (codes "database") (quoted target.record_name) refl (text target.record_name)) (text target.field))
    (whole (process_word flags.process_passive) (process_read flags.process_passive).1)) (whole (mode_word flags.mode) (mode_read flags.mode).1)

lead : (l : Lead) → IsLead l → Unbroken (lead_text l)
unfolding lead_text
lead Nowhere h = refl
lead OwnDevice h = refl
lead (Field to) h = next (codes "to" ++ 9 ∷ decimal to.number) (name_of to.field) (next (codes "to") (decimal to.number) refl (number to.number h)) (name to.field)

happened : (e : Event) → IsEvent e → Unbroken (event_text e)
unfolding event_text
happened (Process n) h = next (codes "process") (decimal n) refl (number n h)
happened (Put n f v) h =
    next (codes "put" ++ 9 ∷ decimal n ++ 9 ∷ name_of f) (input_text v) (next (codes "put" ++ 9 ∷ decimal n) (name_of f) (next (codes "put") (decimal n) refl (number n h.0)) (name f)) (given v h.1)
happened (Complete n w x) h =
    next (codes "complete" ++ 9 ∷ decimal n ++ 9 ∷ decimal w) (finished_text x) (next (codes "complete" ++ 9 ∷ decimal n) (decimal w) (next (codes "complete") (decimal n) refl (number n h.0)) (number w h.1)) (ended x h.2)
happened (Notify n m f v) h =
    next (codes "notify" ++ 9 ∷ decimal n ++ 9 ∷ decimal m ++ 9 ∷ name_of f) (input_text v)
    (next (codes "notify" ++ 9 ∷ decimal n ++ 9 ∷ decimal m) (name_of f)
    (next (codes "notify" ++ 9 ∷ decimal n) (decimal m) (next (codes "notify") (decimal n) refl (number n h.0)) (number m h.1)) (name f)) (given v h.2)
happened (Cancel n) h = next (codes "cancel") (decimal n) refl (number n h)

called : (c : Call) → IsCall c → Unbroken (call_text c)
unfolding call_text
called (call.Event e r) h = next (event_text e) (reply_text r) (happened e h.0) (replied r h.1)
called (call.Get n f r) h = next (codes "get" ++ 9 ∷ decimal n ++ 9 ∷ name_of f) (shown_text r) (next (codes "get" ++ 9 ∷ decimal n) (name_of f) (next (codes "get") (decimal n) refl (number n h.0)) (name f)) (shown r)
called (call.IsLive n b) h = next (codes "live" ++ 9 ∷ decimal n) (live_word b) (next (codes "live") (decimal n) refl (number n h)) (live b)
called (call.Link n f l r) h =
    next (codes "link" ++ 9 ∷ decimal n ++ 9 ∷ name_of f ++ 9 ∷ (link_text l.link ++ 9 ∷ lead_text l.lead)) (changed_text r)
    (next (codes "link" ++ 9 ∷ decimal n ++ 9 ∷ name_of f) (link_text l.link ++ 9 ∷ lead_text l.lead)
    (next (codes "link" ++ 9 ∷ decimal n) (name_of f) (next (codes "link") (decimal n) refl (number n h.0)) (name f))
    (next (link_text l.link) (lead_text l.lead) (link l.link h.1) (lead l.lead h.2))) (changed r)
called (call.Post t n) h = next (codes "post" ++ 9 ∷ quoted t) (decimal n) (next (codes "post") (quoted t) refl (text t)) (number n h.1)
called (call.Interrupt t n) h = next (codes "interrupt" ++ 9 ∷ quoted t) (decimal n) (next (codes "interrupt") (quoted t) refl (text t)) (number n h.1)

marked : (m : Mark) → IsMark m → Unbroken (mark_text m)
unfolding mark_text
marked m h =
    next (decimal m.place ++ 9 ∷ decimal m.desk ++ 9 ∷ decimal m.call) (decimal m.moment)
    (next (decimal m.place ++ 9 ∷ decimal m.desk) (decimal m.call) (next (decimal m.place) (decimal m.desk) (number m.place h.place) (number m.desk h.desk)) (number m.call h.call)) (number m.moment h.moment)

pub ends_once : (m : Mark) (c : Call) (xs : List Answer) → IsEntry m c xs → EndsOnce (line_of m c xs)
unfolding line_of
ends_once m c xs h = (
  mark_text m ++ 9 ∷ call_text c ++ 9 ∷ answers_text xs,
  refl,
  next (mark_text m ++ 9 ∷ call_text c) (answers_text xs) (next (mark_text m) (call_text c) (marked m h.mark) (called c h.call)) (all_answers xs h.answers h.count),
)

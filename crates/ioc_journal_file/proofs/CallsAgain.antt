-- Printed calls are read.
use Rattle.std.proofs.Common.{◌≡◌, ℕ, ◌≤◌, Bool, true, List, ◌∷◌, ◌++◌, length, Some, Result, refl, ap, ◌∙◌}
use Rattle.std.specs.Prelude.{decimal}
use Rattle.ioc_values.specs.declared.error.IocError.{IocError}
use Rattle.ioc_values.specs.declared.input.Input.{Input}
use Rattle.ioc_values.specs.declared.value.Finished.{Finished}
use Rattle.ioc_fields.specs.declared.field_no.FieldNo.{FieldNo}
use Rattle.ioc_fields.specs.Names.{name_of}
use Rattle.ioc_dbcommon.specs.declared.link_field.LinkField.{LinkField}
use Rattle.ioc_events.specs.declared.event.Event.{Event}
use Rattle.ioc_events.specs.declared.event.Event.TheVariants.{Process, Put, Complete, Notify, Cancel}
use Rattle.ioc_events.specs.declared.event.Call.{Call}
use Rattle.ioc_events.specs.declared.event.Call.TheVariants as call
use Rattle.ioc_events.specs.declared.reply.Reply.{Reply}
use Rattle.ioc_journal_file.specs.Words.{ends_word}
use Rattle.ioc_journal_file.specs.Lists.{call_word}
use Rattle.ioc_journal_file.specs.Form.{input_text, finished_text, reply_text, shown_text, changed_text, live_word, link_field_text, event_text, call_text}
use Rattle.ioc_journal_file.specs.Calls.{replied_at, process_at, put_at, complete_at, notify_at, cancel_at, get_at, is_live_at, relink_at, post_at, interrupt_at, call_by, call_at}
use Rattle.ioc_journal_file.specs.Fits.{IsNumber, IsInput, IsFinished, IsReply, IsShown, IsLink, IsLead, IsCall}
use Rattle.ioc_journal_file.proofs.Splitting.{two, three, four, five}
use Rattle.ioc_journal_file.proofs.NumbersAgain.{number_again}
use Rattle.ioc_journal_file.specs.Texts.{quoted}
use Rattle.ioc_journal_file.proofs.TextsAgain.{text_again}
use Rattle.ioc_journal_file.proofs.ValuesAgain.{input_again, finished_again}
use Rattle.ioc_journal_file.proofs.RepliesAgain.{reply_again, shown_again, changed_again, live_again}
use Rattle.ioc_journal_file.proofs.LinksAgain.{field_again, link_field_again}

-- ---- Events with their replies

replied_again : (event : Event) (r : Reply) (c : ℕ) (rest : List ℕ) → IsReply r → ends_word c ≡ true → replied_at event (reply_text r ++ c ∷ rest) ≡ Some (call.Event event r, rest)
unfolding replied_at
replied_again event r c rest h e = rw (reply_again r c rest h e) refl

process_again : (n : ℕ) (r : Reply) (c : ℕ) (rest : List ℕ) → IsNumber n → IsReply r → ends_word c ≡ true
    → process_at (decimal n ++ 9 ∷ (reply_text r ++ c ∷ rest)) ≡ Some (call.Event (Process n) r, rest)
unfolding process_at
process_again n r c rest h k e = rw (number_again n 9 (reply_text r ++ c ∷ rest) h refl) (replied_again (Process n) r c rest k e)

put_again : (n : ℕ) (f : FieldNo) (v : Input) (r : Reply) (c : ℕ) (rest : List ℕ) → IsNumber n → IsInput v → IsReply r → ends_word c ≡ true
    → put_at (decimal n ++ 9 ∷ (name_of f ++ 9 ∷ (input_text v ++ 9 ∷ (reply_text r ++ c ∷ rest)))) ≡ Some (call.Event (Put n f v) r, rest)
unfolding put_at
put_again n f v r c rest h i k e =
    let last = reply_text r ++ c ∷ rest in
    rw (number_again n 9 (name_of f ++ 9 ∷ (input_text v ++ 9 ∷ last)) h refl, field_again f 9 (input_text v ++ 9 ∷ last) refl, input_again v 9 last i refl)
    (replied_again (Put n f v) r c rest k e)

complete_again : (n w : ℕ) (x : Finished) (r : Reply) (c : ℕ) (rest : List ℕ) → IsNumber n → IsNumber w → IsFinished x → IsReply r → ends_word c ≡ true
    → complete_at (decimal n ++ 9 ∷ (decimal w ++ 9 ∷ (finished_text x ++ 9 ∷ (reply_text r ++ c ∷ rest)))) ≡ Some (call.Event (Complete n w x) r, rest)
unfolding complete_at
complete_again n w x r c rest h i j k e =
    let last = reply_text r ++ c ∷ rest in
    rw (number_again n 9 (decimal w ++ 9 ∷ (finished_text x ++ 9 ∷ last)) h refl, number_again w 9 (finished_text x ++ 9 ∷ last) i refl, finished_again x 9 last j refl)
    (replied_again (Complete n w x) r c rest k e)

notify_again : (n m : ℕ) (f : FieldNo) (v : Input) (r : Reply) (c : ℕ) (rest : List ℕ) → IsNumber n → IsNumber m → IsInput v → IsReply r → ends_word c ≡ true
    → notify_at (decimal n ++ 9 ∷ (decimal m ++ 9 ∷ (name_of f ++ 9 ∷ (input_text v ++ 9 ∷ (reply_text r ++ c ∷ rest))))) ≡ Some (call.Event (Notify n m f v) r, rest)
unfolding notify_at
notify_again n m f v r c rest h i j k e =
    let last = reply_text r ++ c ∷ rest in
    rw (
      number_again n 9 (decimal m ++ 9 ∷ (name_of f ++ 9 ∷ (input_text v ++ 9 ∷ last))) h refl,
      number_again m 9 (name_of f ++ 9 ∷ (input_text v ++ 9 ∷ last)) i refl,
      field_again f 9 (input_text v ++ 9 ∷ last) refl,
      input_again v 9 last j refl,
    )
    (replied_again (Notify n m f v) r c rest k e)

cancel_again : (n : ℕ) (r : Reply) (c : ℕ) (rest : List ℕ) → IsNumber n → IsReply r → ends_word c ≡ true
    → cancel_at (decimal n ++ 9 ∷ (reply_text r ++ c ∷ rest)) ≡ Some (call.Event (Cancel n) r, rest)
unfolding cancel_at
cancel_again n r c rest h k e = rw (number_again n 9 (reply_text r ++ c ∷ rest) h refl) (replied_again (Cancel n) r c rest k e)

-- ---- Other calls

get_again : (n : ℕ) (f : FieldNo) (r : Result (List ℕ) IocError) (c : ℕ) (rest : List ℕ) → IsNumber n → IsShown r → ends_word c ≡ true
    → get_at (decimal n ++ 9 ∷ (name_of f ++ 9 ∷ (shown_text r ++ c ∷ rest))) ≡ Some (call.Get n f r, rest)
unfolding get_at
get_again n f r c rest h i e =
    let last = shown_text r ++ c ∷ rest in
    rw (number_again n 9 (name_of f ++ 9 ∷ last) h refl, field_again f 9 last refl, shown_again r c rest i e) refl

is_live_again : (n : ℕ) (live : Bool) (c : ℕ) (rest : List ℕ) → IsNumber n → ends_word c ≡ true
    → is_live_at (decimal n ++ 9 ∷ (live_word live ++ c ∷ rest)) ≡ Some (call.IsLive n live, rest)
unfolding is_live_at
is_live_again n live c rest h e = rw (number_again n 9 (live_word live ++ c ∷ rest) h refl, live_again live c rest e) refl

relink_again : (n : ℕ) (f : FieldNo) (l : LinkField) (r : Result (Unit {0}) IocError) (c : ℕ) (rest : List ℕ) → IsNumber n → IsLink l.link → IsLead l.lead → ends_word c ≡ true
    → relink_at (decimal n ++ 9 ∷ (name_of f ++ 9 ∷ (link_field_text l ++ 9 ∷ (changed_text r ++ c ∷ rest)))) ≡ Some (call.Link n f l r, rest)
unfolding relink_at
relink_again n f l r c rest h i j e =
    let last = changed_text r ++ c ∷ rest in
    rw (
      number_again n 9 (name_of f ++ 9 ∷ (link_field_text l ++ 9 ∷ last)) h refl,
      field_again f 9 (link_field_text l ++ 9 ∷ last) refl,
      link_field_again l 9 last i j refl,
      changed_again r c rest e,
    ) refl

post_again : (name : List ℕ) (n c : ℕ) (rest : List ℕ) → length name ≤ 39 → IsNumber n → ends_word c ≡ true
    → post_at (quoted name ++ 9 ∷ (decimal n ++ c ∷ rest)) ≡ Some (call.Post name n, rest)
unfolding post_at
post_again name n c rest h i e = rw (text_again 39 name 9 (decimal n ++ c ∷ rest) h refl, number_again n c rest i e) refl

interrupt_again : (device : List ℕ) (n c : ℕ) (rest : List ℕ) → length device ≤ 119 → IsNumber n → ends_word c ≡ true
    → interrupt_at (quoted device ++ 9 ∷ (decimal n ++ c ∷ rest)) ≡ Some (call.Interrupt device n, rest)
unfolding interrupt_at
interrupt_again device n c rest h i e = rw (text_again 119 device 9 (decimal n ++ c ∷ rest) h refl, number_again n c rest i e) refl

-- ---- Calls of any kind

event_again : (event : Event) (r : Reply) (c : ℕ) (rest : List ℕ) → IsCall (call.Event event r) → ends_word c ≡ true
    → call_at ((event_text event ++ 9 ∷ reply_text r) ++ c ∷ rest) ≡ Some (call.Event event r, rest)
unfolding event_text call_at call_by call_word
event_again (Process n) r c rest h e = ap process_at (two (decimal n) (reply_text r) (c ∷ rest)) ∙ process_again n r c rest h.0 h.1 e
event_again (Put n f v) r c rest h e = ap put_at (four (decimal n) (name_of f) (input_text v) (reply_text r) (c ∷ rest)) ∙ put_again n f v r c rest h.0.0 h.0.1 h.1 e
event_again (Complete n w x) r c rest h e =
    ap complete_at (four (decimal n) (decimal w) (finished_text x) (reply_text r) (c ∷ rest)) ∙ complete_again n w x r c rest h.0.0 h.0.1 h.0.2 h.1 e
event_again (Notify n m f v) r c rest h e =
    ap notify_at (five (decimal n) (decimal m) (name_of f) (input_text v) (reply_text r) (c ∷ rest)) ∙ notify_again n m f v r c rest h.0.0 h.0.1 h.0.2 h.1 e
event_again (Cancel n) r c rest h e = ap cancel_at (two (decimal n) (reply_text r) (c ∷ rest)) ∙ cancel_again n r c rest h.0 h.1 e

pub call_again : (made : Call) (c : ℕ) (rest : List ℕ) → IsCall made → ends_word c ≡ true → call_at (call_text made ++ c ∷ rest) ≡ Some (made, rest)
unfolding call_text call_at call_by call_word
call_again (call.Event event r) c rest h e = event_again event r c rest h e
call_again (call.Get n f r) c rest h e = ap get_at (three (decimal n) (name_of f) (shown_text r) (c ∷ rest)) ∙ get_again n f r c rest h.0 h.1 e
call_again (call.IsLive n live) c rest h e = ap is_live_at (two (decimal n) (live_word live) (c ∷ rest)) ∙ is_live_again n live c rest h e
call_again (call.Link n f l r) c rest h e =
    ap relink_at (four (decimal n) (name_of f) (link_field_text l) (changed_text r) (c ∷ rest)) ∙ relink_again n f l r c rest h.0 h.1 h.2 e
call_again (call.Post name n) c rest h e = ap post_at (two (quoted name) (decimal n) (c ∷ rest)) ∙ post_again name n c rest h.0 h.1 e
call_again (call.Interrupt device n) c rest h e = ap interrupt_at (two (quoted device) (decimal n) (c ∷ rest)) ∙ interrupt_again device n c rest h.0 h.1 e

-- Printed lines of a base are read.
use Rattle.std.proofs.Common.{◌≡◌, ℕ, ◌<◌, Bool, true, false, ◌&&◌, IsTrue, List, [], ◌∷◌, ◌++◌, Option, Some, None, refl, sym, ap, ◌∙◌, append_assoc, arith}
use Rattle.std.specs.Prelude.{◌↔◌, codes, decimal, ◌==◌}
use Rattle.std.specs.Char.{digit_value}
use Rattle.std.specs.Str.Parse.{IsNumeral}
use Rattle.std.proofs.lemmas.Int.{ints}
use Rattle.std.proofs.lemmas.Bool.Decides.{nat_tests}
use Rattle.std.proofs.lemmas.Fmt.{decimal_is_IsNumeral}
use Rattle.ioc_values.specs.declared.value.Value.{Value}
use Rattle.ioc_values.specs.declared.value.Value.TheVariants as value
use Rattle.ioc_links.specs.declared.link.Link.{Link}
use Rattle.ioc_links.specs.declared.link.Link.TheVariants as link
use Rattle.ioc_fields.specs.declared.field_no.FieldNo.{FieldNo}
use Rattle.ioc_fields.specs.Names.{name_of}
use Rattle.ioc_notify.specs.declared.waiting_lists.Waiting.{Waiting as Waits}
use Rattle.ioc_journal_file.specs.declared.kinds.ValueKind.{ValueKind}
use Rattle.ioc_journal_file.specs.declared.kinds.ValueKind.TheVariants as kind
use Rattle.ioc_journal_file.specs.declared.base.Part.{Part}
use Rattle.ioc_journal_file.specs.declared.base.Part.TheVariants as part
use Rattle.ioc_journal_file.specs.declared.base.HiddenState.{HiddenState}
use Rattle.ioc_journal_file.specs.declared.base.BaseItem.{BaseItem}
use Rattle.ioc_journal_file.specs.declared.base.BaseItem.TheVariants.{Field, State, Waiting, Desk}
use Rattle.ioc_journal_file.specs.declared.next_file.NextFile.{NextFile}
use Rattle.ioc_journal_file.specs.Words.{ends_word, word_of, is_word}
use Rattle.ioc_journal_file.specs.Texts.{quoted}
use Rattle.ioc_journal_file.specs.Lists.{kind_of, kind_word}
use Rattle.ioc_journal_file.specs.Form.{value_text, link_text, lead_text, link_field_text}
use Rattle.ioc_journal_file.specs.Bases.{option_text, part_text, state_text, item_line, next_line, IsOption, IsPart, IsState, IsWaiting, IsItem, IsNext}
use Rattle.ioc_journal_file.specs.BaseReading.{some_at, option_at, value_part_at, link_part_at, part_by, part_at, state_at, field_item_at, state_item_at, waiting_item_at, desk_item_at, item_at, next_at}
use Rattle.ioc_journal_file.specs.Parts.{number_at, text_at}
use Rattle.ioc_journal_file.specs.Reading.{◌>>=◌}
use Rattle.ioc_journal_file.specs.Fits.{IsNumber}
use Rattle.ioc_journal_file.proofs.Splitting.{is_whole, word_cut, after_cut, two, three, four, five}
use Rattle.ioc_journal_file.proofs.NumbersAgain.{number_again, decimal_whole}
use Rattle.ioc_journal_file.proofs.TextsAgain.{text_again}
use Rattle.ioc_journal_file.proofs.ValuesAgain.{value_again, otherwise}
use Rattle.ioc_journal_file.proofs.LinksAgain.{field_again, link_field_again}

-- ---- Numbers, or none

no_digit : (c : ℕ) → digit_value c < 10 → (c == 110) ≡ false
no_digit c h = grind (arith, nat_tests)

digits_not_none : (cs : List ℕ) → IsNumeral 10 cs → is_word cs (codes "none") ≡ false
digits_not_none [] h = absurd (omega (arith, h.0))
digits_not_none (c ∷ cs) h = ap (λ (b : Bool). b && is_word cs (codes "one")) (no_digit c h.1.0)

number_not_none : (n c : ℕ) (rest : List ℕ) → IsNumber n → ends_word c ≡ true → is_word (word_of (decimal n ++ c ∷ rest)) (codes "none") ≡ false
number_not_none n c rest h e =
    ap (λ (w : List ℕ). is_word w (codes "none")) (word_cut (decimal n) c rest (decimal_whole n h) e)
    ∙ digits_not_none (decimal n) (decimal_is_IsNumeral n (omega (arith, ints, h))).0

none_again : (w : List ℕ) (c : ℕ) (rest : List ℕ) → is_whole w ≡ true → is_word w (codes "none") ≡ true → ends_word c ≡ true → option_at (w ++ c ∷ rest) ≡ Some (None, rest)
unfolding option_at
none_again w c rest h n e = rw (word_cut w c rest h e, after_cut w c rest h e, n) refl

pub option_again : (o : Option ℕ) (c : ℕ) (rest : List ℕ) → IsOption o → ends_word c ≡ true → option_at (option_text o ++ c ∷ rest) ≡ Some (o, rest)
unfolding option_at option_text some_at
option_again None c rest h e = none_again (codes "none") c rest refl refl e
option_again (Some n) c rest h e =
    otherwise (is_word (word_of (decimal n ++ c ∷ rest)) (codes "none")) _ _ _ (number_not_none n c rest h e) (rw (number_again n c rest h e) refl)

-- ---- What a field has

abbrev value_kind : Value → ValueKind
value_kind (value.Long z) = kind.Long
value_kind (value.ULong n) = kind.ULong
value_kind (value.Short z) = kind.Short
value_kind (value.UShort n) = kind.UShort
value_kind (value.UChar n) = kind.UChar
value_kind (value.Enum n) = kind.Enum
value_kind (value.Int64 z) = kind.Int64
value_kind (value.Double x) = kind.Double
value_kind (value.Text text) = kind.Text

kind_read : (v : Value) (rest : List ℕ) → kind_of (word_of (value_text v ++ rest)) ≡ Some (value_kind v)
unfolding value_text kind_word
kind_read (value.Long z) rest = refl
kind_read (value.ULong n) rest = refl
kind_read (value.Short z) rest = refl
kind_read (value.UShort n) rest = refl
kind_read (value.UChar n) rest = refl
kind_read (value.Enum n) rest = refl
kind_read (value.Int64 z) rest = refl
kind_read (value.Double x) rest = refl
kind_read (value.Text text) rest = refl

no_kind : (l : Link) (rest : List ℕ) → kind_of (word_of (link_text l ++ 9 ∷ rest)) ≡ None
unfolding link_text kind_word
no_kind link.Empty rest = refl
no_kind (link.Constant z) rest = refl
no_kind (link.Real text) rest = refl
no_kind (link.Device text) rest = refl
no_kind (link.Database target flags) rest = refl

pub part_again : (p : Part) (c : ℕ) (rest : List ℕ) → IsPart p → ends_word c ≡ true → part_at (part_text p ++ c ∷ rest) ≡ Some (p, rest)
unfolding part_at part_text value_part_at link_part_at
part_again (part.Value v) c rest h e =
    ap (λ (k : Option ValueKind). part_by k (value_text v ++ c ∷ rest)) (kind_read v (c ∷ rest)) ∙ rw (value_again v c rest h e) refl
part_again (part.Link l) c rest h e =
    ap (λ (k : Option ValueKind). part_by k (link_field_text l ++ c ∷ rest))
    (ap (λ (bytes : List ℕ). kind_of (word_of bytes)) (append_assoc (link_text l.link) (9 ∷ lead_text l.lead) (c ∷ rest)) ∙ no_kind l.link (lead_text l.lead ++ c ∷ rest))
    ∙ rw (link_field_again l c rest h.0 h.1 e) refl

-- ---- What no field shows

pub state_again : (s : HiddenState) (c : ℕ) (rest : List ℕ) → IsState s → ends_word c ≡ true → state_at (state_text s ++ c ∷ rest) ≡ Some (s, rest)
unfolding state_at state_text
state_again s c rest h e =
    let last : List ℕ = option_text s.notification ++ c ∷ rest in
    let changes : List ℕ = decimal s.last_change ++ 9 ∷ last in
    let waits : List ℕ = decimal s.last_pending ++ 9 ∷ changes in
    ap state_at (five (decimal s.time) (option_text s.pending) (decimal s.last_pending) (decimal s.last_change) (option_text s.notification) (c ∷ rest))
    ∙ rw (
      number_again s.time 9 (option_text s.pending ++ 9 ∷ waits) h.time refl,
      option_again s.pending 9 waits h.pending refl,
      number_again s.last_pending 9 changes h.last_pending refl,
      number_again s.last_change 9 last h.last_change refl,
      option_again s.notification c rest h.notification e,
    ) refl

-- ---- Lines

field_item_again : (n : ℕ) (f : FieldNo) (p : Part) → IsNumber n → IsPart p → field_item_at (decimal n ++ 9 ∷ (name_of f ++ 9 ∷ (part_text p ++ 10 ∷ []))) ≡ Some (Field n f p)
unfolding field_item_at
field_item_again n f p h k =
    rw (number_again n 9 (name_of f ++ 9 ∷ (part_text p ++ 10 ∷ [])) h refl, field_again f 9 (part_text p ++ 10 ∷ []) refl, part_again p 10 [] k refl) refl

state_item_again : (n : ℕ) (s : HiddenState) → IsNumber n → IsState s → state_item_at (decimal n ++ 9 ∷ (state_text s ++ 10 ∷ [])) ≡ Some (State n s)
unfolding state_item_at
state_item_again n s h k = rw (number_again n 9 (state_text s ++ 10 ∷ []) h refl, state_again s 10 [] k refl) refl

waiting_item_again : (w : Waits) → IsWaiting w
    → waiting_item_at (decimal w.number ++ 9 ∷ (decimal w.target ++ 9 ∷ (name_of w.field ++ 9 ∷ (value_text w.value ++ 10 ∷ [])))) ≡ Some (Waiting w)
unfolding waiting_item_at
waiting_item_again w h =
    let last : List ℕ = value_text w.value ++ 10 ∷ [] in
    let field : List ℕ = name_of w.field ++ 9 ∷ last in
    rw (
      number_again w.number 9 (decimal w.target ++ 9 ∷ field) h.number refl,
      number_again w.target 9 field h.target refl,
      field_again w.field 9 last refl,
      value_again w.value 10 [] h.value refl,
    ) refl

desk_item_again : (d k : ℕ) → IsNumber d → IsNumber k → desk_item_at (decimal d ++ 9 ∷ (decimal k ++ 10 ∷ [])) ≡ Some (Desk d k)
unfolding desk_item_at
desk_item_again d k h i = rw (number_again d 9 (decimal k ++ 10 ∷ []) h refl, number_again k 10 [] i refl) refl

pub item_again : (item : BaseItem) → IsItem item → item_at (item_line item) ≡ Some item
unfolding item_at item_line
item_again (Field n f p) h = ap field_item_at (three (decimal n) (name_of f) (part_text p) (10 ∷ [])) ∙ field_item_again n f p h.0 h.1
item_again (State n s) h = ap state_item_at (two (decimal n) (state_text s) (10 ∷ [])) ∙ state_item_again n s h.0 h.1
item_again (Waiting w) h = ap waiting_item_at (four (decimal w.number) (decimal w.target) (name_of w.field) (value_text w.value) (10 ∷ [])) ∙ waiting_item_again w h
item_again (Desk d k) h = ap desk_item_at (two (decimal d) (decimal k) (10 ∷ [])) ∙ desk_item_again d k h.0 h.1

-- The name and the place behind the first word.
abbrev next_in : List ℕ → Option NextFile
next_in rest =
    let name = text_at 255 rest in
    number_at name.1 >>= λ place. Some (record { name = name.0; place = place.0 })

next_parts : (next : NextFile) → IsNext next → next_in (quoted next.name ++ 9 ∷ (decimal next.place ++ 10 ∷ [])) ≡ Some next
next_parts next h = rw (text_again 255 next.name 9 (decimal next.place ++ 10 ∷ []) h.name refl, number_again next.place 10 [] h.place refl) refl

pub next_again : (next : NextFile) → IsNext next → next_at (next_line next) ≡ Some next
unfolding next_at next_line
next_again next h = ap next_in (two (quoted next.name) (decimal next.place) (10 ∷ [])) ∙ next_parts next h

-- ---- What is read is what was printed

-- A value that was read is the only one with this line.
pub read_alone : {X : Type 0} (read : List ℕ → Option X) (line printed : List ℕ) (x y : X) → line ≡ printed → read printed ≡ Some y → read line ≡ Some x
    → (let found : Option X = Some x in found ≡ Some y)
read_alone read line printed x y is again found = sym found ∙ ap read is ∙ again

-- Some value was read.
pub none_unread : {X : Type 0} (read : List ℕ → Option X) (line printed : List ℕ) (y : X) → line ≡ printed → read printed ≡ Some y → read line ≡ None → ⊥
none_unread {X} read line printed y is again found = let e : (let none : Option X = None in none ≡ Some y) = sym found ∙ ap read is ∙ again in absurd cc

some_same : {X : Type 0} (x y : X) → (let found : Option X = Some x in found ≡ Some y) → x ≡ y
some_same x y is = cc

contradicts : (b : Bool) → IsTrue b → b ≡ false → ⊥
contradicts true t h = absurd cc
contradicts false t h = absurd cc

-- What was read has this line.
pub none_refused : {X : Type 0} (read : List ℕ → Option X) (print : X → List ℕ) (b : Bool) (line made : List ℕ) (x y : X) → line ≡ print y → read (print y) ≡ Some y
    → read line ≡ Some x → made ≡ print x → (IsTrue b ↔ (line ≡ made)) → b ≡ false → ⊥
none_refused read print b line made x y is again found printed told refused =
    let same : x ≡ y = some_same x y (read_alone read line (print y) x y is again found) in
    contradicts b (told.1 (is ∙ sym (ap print same) ∙ sym printed)) refused

-- Printed fields and links are read.
use Rattle.std.proofs.Common.{◌≡◌, ℕ, ◌≤◌, Bool, true, false, List, ◌∷◌, ◌++◌, length, Some, refl, ap, ◌∙◌, append_assoc}
use Rattle.std.specs.Prelude.{codes, decimal}
use Rattle.ioc_fields.specs.declared.field_no.FieldNo.{FieldNo}
use Rattle.ioc_fields.specs.declared.field_no.FieldNo.TheVariants.{Common, Own}
use Rattle.ioc_fields.specs.declared.field_no.CommonField.TheVariants.{Name}
use Rattle.ioc_fields.specs.declared.field_no.OwnField.TheVariants.{StateValue, StateText, StateSeverity, Lnk, Letter, LastLetter, InputLink}
use Rattle.ioc_fields.specs.declared.field_no.FieldSlot.TheVariants.{N0}
use Rattle.ioc_fields.specs.Names.{common_name, own_name, link_name, last_letter_name, input_name, state_value_name, state_text_name, state_severity_name, name_of, all_fields}
use Rattle.ioc_links.specs.declared.link.Link.{Link}
use Rattle.ioc_links.specs.declared.link.Link.TheVariants.{Empty, Constant, Real, Device, Database}
use Rattle.ioc_links.specs.declared.link.Mode.{Mode}
use Rattle.ioc_links.specs.declared.link.Mode.TheVariants.{Nms, Ms, Msi, Mss}
use Rattle.ioc_dbcommon.specs.declared.link_field.LinkField.{LinkField}
use Rattle.ioc_dbcommon.specs.declared.link_field.Lead.{Lead}
use Rattle.ioc_dbcommon.specs.declared.link_field.Lead.TheVariants.{Nowhere, Field, OwnDevice}
use Rattle.ioc_journal_file.specs.Words.{ends_word, is_word}
use Rattle.ioc_journal_file.specs.Texts.{quoted}
use Rattle.ioc_journal_file.specs.Lists.{field_of, mode_word, mode_of}
use Rattle.ioc_journal_file.specs.Form.{process_word, link_text, lead_text, link_field_text}
use Rattle.ioc_journal_file.specs.Parts.{field_at, database_at, constant_at, link_at, address_at, lead_at, link_field_at}
use Rattle.ioc_journal_file.specs.Fits.{IsLink, IsLead}
use Rattle.ioc_journal_file.proofs.Splitting.{is_whole, word_cut, after_cut, two, four}
use Rattle.ioc_journal_file.proofs.NumbersAgain.{number_again, integer_again}
use Rattle.ioc_journal_file.proofs.TextsAgain.{text_again}

field_read : (f : FieldNo) → field_of (name_of f) ≡ Some f
unfolding all_fields common_name own_name link_name last_letter_name input_name state_value_name state_text_name state_severity_name
field_read (Common Name) = refl
field_read (Own (StateValue N0)) = refl
field_read (Own (StateText N0)) = refl
field_read (Own (StateSeverity N0)) = refl
field_read (Own (Lnk N0)) = refl
field_read (Own (Letter N0)) = refl
field_read (Own (LastLetter N0)) = refl
field_read (Own (InputLink N0)) = refl
field_read _ = refl

pub name_whole : (f : FieldNo) → is_whole (name_of f) ≡ true
unfolding common_name own_name link_name last_letter_name input_name state_value_name state_text_name state_severity_name
name_whole (Common Name) = refl
name_whole (Own (StateValue N0)) = refl
name_whole (Own (StateText N0)) = refl
name_whole (Own (StateSeverity N0)) = refl
name_whole (Own (Lnk N0)) = refl
name_whole (Own (Letter N0)) = refl
name_whole (Own (LastLetter N0)) = refl
name_whole (Own (InputLink N0)) = refl
name_whole _ = refl

pub field_again : (f : FieldNo) (c : ℕ) (rest : List ℕ) → ends_word c ≡ true → field_at (name_of f ++ c ∷ rest) ≡ Some (f, rest)
unfolding field_at
field_again f c rest e = rw (word_cut (name_of f) c rest (name_whole f) e, after_cut (name_of f) c rest (name_whole f) e, field_read f) refl

pub mode_read : (m : Mode) → (mode_of (mode_word m) ≡ Some m) × (is_whole (mode_word m) ≡ true)
unfolding mode_word
mode_read Nms = (refl, refl)
mode_read Ms = (refl, refl)
mode_read Msi = (refl, refl)
mode_read Mss = (refl, refl)

pub process_read : (p : Bool) → (is_word (process_word p) (codes "PP") ≡ p) × (is_whole (process_word p) ≡ true)
process_read true = (refl, refl)
process_read false = (refl, refl)

database_again : (name field : List ℕ) (p : Bool) (m : Mode) (c : ℕ) (rest : List ℕ) → length name ≤ 60 → length field ≤ 8 → ends_word c ≡ true
    → database_at (quoted name ++ 9 ∷ (quoted field ++ 9 ∷ (process_word p ++ 9 ∷ (mode_word m ++ c ∷ rest))))
    ≡ Some (Database (record { record_name = name; field = field }) (record { process_passive = p; mode = m }), rest)
unfolding database_at
database_again name field p m c rest h k e =
    let mode = mode_read m in
    let processed = process_read p in
    let last = mode_word m ++ c ∷ rest in
    rw (
      text_again 60 name 9 (quoted field ++ 9 ∷ (process_word p ++ 9 ∷ last)) h refl,
      text_again 8 field 9 (process_word p ++ 9 ∷ last) k refl,
      word_cut (process_word p) 9 last processed.1 refl,
      after_cut (process_word p) 9 last processed.1 refl,
      word_cut (mode_word m) c rest mode.1 e,
      after_cut (mode_word m) c rest mode.1 e,
      mode.0,
      processed.0,
    ) refl

empty_link : (w : List ℕ) (c : ℕ) (rest : List ℕ) → is_whole w ≡ true → is_word w (codes "empty") ≡ true → ends_word c ≡ true → link_at (w ++ c ∷ rest) ≡ Some (Empty, rest)
unfolding link_at
empty_link w c rest h d e = rw (word_cut w c rest h e, after_cut w c rest h e, d) refl

pub link_again : (l : Link) (c : ℕ) (rest : List ℕ) → IsLink l → ends_word c ≡ true → link_at (link_text l ++ c ∷ rest) ≡ Some (l, rest)
unfolding link_text link_at constant_at
link_again Empty c rest h e = empty_link (codes "empty") c rest refl refl e
link_again (Constant z) c rest h e = rw (integer_again z c rest h e) refl
link_again (Real text) c rest h e = ap (λ (p : List ℕ × List ℕ). Some (Real p.0, p.1)) (text_again 39 text c rest h e)
link_again (Device text) c rest h e = ap (λ (p : List ℕ × List ℕ). Some (Device p.0, p.1)) (text_again 119 text c rest h e)
link_again (Database target flags) c rest h e =
    ap database_at (four (quoted target.record_name) (quoted target.field) (process_word flags.process_passive) (mode_word flags.mode) (c ∷ rest))
    ∙ database_again target.record_name target.field flags.process_passive flags.mode c rest h.0 h.1 e

nowhere_lead : (w : List ℕ) (c : ℕ) (rest : List ℕ) → is_whole w ≡ true → is_word w (codes "nowhere") ≡ true → ends_word c ≡ true → lead_at (w ++ c ∷ rest) ≡ Some (Nowhere, rest)
unfolding lead_at
nowhere_lead w c rest h d e = rw (word_cut w c rest h e, after_cut w c rest h e, d) refl

own_lead : (w : List ℕ) (c : ℕ) (rest : List ℕ) → is_whole w ≡ true → is_word w (codes "nowhere") ≡ false → is_word w (codes "own") ≡ true → ends_word c ≡ true
    → lead_at (w ++ c ∷ rest) ≡ Some (OwnDevice, rest)
unfolding lead_at
own_lead w c rest h d o e = rw (word_cut w c rest h e, after_cut w c rest h e, d, o) refl

pub lead_again : (l : Lead) (c : ℕ) (rest : List ℕ) → IsLead l → ends_word c ≡ true → lead_at (lead_text l ++ c ∷ rest) ≡ Some (l, rest)
unfolding lead_text lead_at address_at
lead_again Nowhere c rest h e = nowhere_lead (codes "nowhere") c rest refl refl e
lead_again OwnDevice c rest h e = own_lead (codes "own") c rest refl refl refl e
lead_again (Field to) c rest h e =
    rw (two (decimal to.number) (name_of to.field) (c ∷ rest), number_again to.number 9 (name_of to.field ++ c ∷ rest) h refl, field_again to.field c rest e) refl

pub link_field_again : (l : LinkField) (c : ℕ) (rest : List ℕ) → IsLink l.link → IsLead l.lead → ends_word c ≡ true → link_field_at (link_field_text l ++ c ∷ rest) ≡ Some (l, rest)
unfolding link_field_at
link_field_again l c rest h k e =
    ap link_field_at (append_assoc (link_text l.link) (9 ∷ lead_text l.lead) (c ∷ rest))
    ∙ rw (link_again l.link 9 (lead_text l.lead ++ c ∷ rest) h refl, lead_again l.lead c rest k e) refl

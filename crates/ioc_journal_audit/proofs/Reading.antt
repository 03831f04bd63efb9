-- The entries of a journal, read line by line.
use Rattle.std.proofs.Common.{◌≡◌, ◌≢◌, ℕ, suc, ◌+◌, Bool, true, false, List, [], ◌∷◌, ◌++◌, length, Option, Some, None, refl, sym, ap, subst, ◌∙◌, arith, append_assoc}
use Rattle.std.proofs.lemmas.List.{append-nil}
use Rattle.std.specs.Prelude.{Result, Ok, Err, IfSome, not, ◌==◌}
use Rattle.std.proofs.Common.{inl, inr}
use Rattle.std.proofs.lemmas.Bool.Decides.{Decides-eqb}
use Rattle.std.specs.Io.BufRead.{DropsThrough}
use Rattle.ioc_journal_audit.specs.declared.difference.Difference.{Difference}
use Rattle.ioc_journal_audit.specs.Journal.{Differed, Ended, AllAgreed, IsNoEntry, IsCutOff, IsEnd, IsWhole, Finds}
use Rattle.ioc_journal_audit.specs.declared.journal.Audited.{Audited}
use Rattle.ioc_journal_audit.specs.declared.journal.Audited.TheVariants.{Agree, Differs, NoEntry, CutOff}
use Rattle.std.specs.Io.BufRead.{take_through, drop_through}
use Rattle.ioc_device.specs.declared.Answer.{Answer}
use Rattle.ioc_events.specs.declared.event.Call.{Call}
use Rattle.ioc_journal_file.specs.declared.line.Line.{Line}
use Rattle.ioc_journal_file.specs.declared.line.Mark.{Mark}
use Rattle.ioc_journal_file.specs.declared.line_error.LineError.{LineError}
use Rattle.ioc_journal_file.specs.declared.line_error.LineError.TheVariants.{NotALine}
use Rattle.ioc_journal_file.specs.Fits.{IsEntry}
use Rattle.ioc_journal_file.specs.Form.{line_of}
use Rattle.ioc_journal_file.specs.Lines.{IsReadAs}
use Rattle.ioc_journal_audit.specs.declared.auditor.Auditor.{Auditor}
use Rattle.ioc_journal_audit.specs.Audit.{HasAudited}
use Rattle.ioc_journal_audit.specs.Journal.{text_of, texts_of, IsOnly, AreOnly, ReadsLine, Checks, Agreed}
use Rattle.ioc_journal_audit.proofs.Cutting.{through-all, none-through}
use Rattle.ioc_journal_audit.proofs.Following.{length-one}

-- What reading a text says of every entry with this text.
abbrev pub Only : List ℕ → Result Line LineError → Type 0
Only text r = (mark : Mark) (call : Call) (answers : List Answer) → IsEntry mark call answers → text ≡ line_of mark call answers → IsReadAs mark call answers r

pub read_only : (text : List ℕ) (line : Line) (r : Result Line LineError) → r ≡ Ok line → text ≡ text_of line → Only text r → IsOnly line
read_only text line r is found only = λ mark call answers entry same.
    subst (λ (x : Result Line LineError). IsReadAs mark call answers x) is (only mark call answers entry (found ∙ same))

pub no_line : (text : List ℕ) (r : Result Line LineError) → r ≡ Err NotALine → Only text r
    → (mark : Mark) (call : Call) (answers : List Answer) → IsEntry mark call answers → text ≡ line_of mark call answers → ⊥
no_line text r is only mark call answers entry same = subst (λ (x : Result Line LineError). IsReadAs mark call answers x) is (only mark call answers entry same)

pub agreed_none : (a : Auditor) (text : List ℕ) → Agreed a text a text 0
agreed_none a text = record {
  lines = [];
  begins = refl;
  many = refl;
  only = tt;
  audited = λ start first done audited. subst (λ (ls : List Line). HasAudited start first ls a) (sym (append-nil done)) audited;
}

only-more : (lines : List Line) (line : Line) → AreOnly lines → IsOnly line → AreOnly (lines ++ line ∷ [])
only-more [] line are is = (is, tt)
only-more (x ∷ lines) line are is = (are.0, only-more lines line are.1 is)

texts-more : (lines : List Line) (line : Line) (rest : List ℕ) → texts_of lines ++ (text_of line ++ rest) ≡ texts_of (lines ++ line ∷ []) ++ rest
texts-more [] line rest = ap (λ (t : List ℕ). t ++ rest) (sym (append-nil (text_of line)))
texts-more (x ∷ lines) line rest =
    append_assoc (text_of x) (texts_of lines) (text_of line ++ rest) ∙ ap (λ (t : List ℕ). text_of x ++ t) (texts-more lines line rest) ∙ sym (append_assoc (text_of x) (texts_of (lines ++ line ∷ [])) rest)

-- The line that was read, and what is behind it.
pub line_and_rest : (rest text : List ℕ) (line : Line) → text ≡ take_through 10 rest → text ≡ text_of line → rest ≡ text_of line ++ drop_through 10 rest
line_and_rest rest text line first is = through-all 10 rest ∙ ap (λ (t : List ℕ). t ++ drop_through 10 rest) (sym first ∙ is)

pub agreed_more : (a m b : Auditor) (whole rest text : List ℕ) (count : ℕ) → Agreed a whole m rest count → text ≡ take_through 10 rest → Checks m text b None → Agreed a whole b (drop_through 10 rest) (count + 1)
agreed_more a m b whole rest text count agreed first checks = record {
  lines = agreed.lines ++ checks.line ∷ [];
  begins = agreed.begins ∙ ap (λ (t : List ℕ). texts_of agreed.lines ++ t) (line_and_rest rest text checks.line first checks.is_its) ∙ texts-more agreed.lines checks.line (drop_through 10 rest);
  many = let e = length-one agreed.lines checks.line in omega (arith, e, agreed.many);
  only = only-more agreed.lines checks.line agreed.only checks.only;
  audited = λ start first_world done audited. subst (λ (ls : List Line). HasAudited start first_world ls b) (append_assoc done agreed.lines (checks.line ∷ []))
      (checks.checks start first_world (done ++ agreed.lines) (agreed.audited start first_world done audited));
}

-- What was read, where the bytes of the reader are known.
pub reads : (old new : Option (List ℕ)) (before line : List ℕ) (some : Bool) → before ≡ [] → IfSome old (λ xs. line ≡ before ++ take_through 10 xs) → DropsThrough old new 10 → some ≡ not (length line == 0)
    → IfSome old (λ xs. ReadsLine xs some line new)
reads None new before line some none bytes rest found = tt
reads (Some xs) new before line some none bytes rest found = record { first = bytes ∙ ap (λ (l : List ℕ). l ++ take_through 10 xs) none; left = rest; found = found }

empty_line : (line : List ℕ) → (length line == 0) ≡ true → line ≡ []
empty_line [] e = refl
empty_line (b ∷ line) e = let zero_long : length (b ∷ line) ≡ 0 = (Decides-eqb (length (b ∷ line)) 0).0 e in absurd (omega (arith, zero_long))

pub not_true : (b : Bool) → not b ≡ false → b ≡ true
not_true true e = refl
not_true false e = absurd cc

pub not_false : (b : Bool) → not b ≡ true → b ≡ false
not_false true e = absurd cc
not_false false e = refl

-- Nothing was left of the text.
pub at_end : (rest line : List ℕ) (new : Option (List ℕ)) → ReadsLine rest false line new → rest ≡ []
at_end rest line new reads = none-through 10 rest (sym reads.first ∙ empty_line line (not_true (length line == 0) (sym reads.found)))

not_empty : (rest line : List ℕ) (new : Option (List ℕ)) → ReadsLine rest true line new → rest ≢ []
not_empty rest line new reads none =
    let empty : line ≡ [] = reads.first ∙ ap (take_through 10) none in
    let zero_long : (length line == 0) ≡ true = (Decides-eqb (length line) 0).1 (ap (λ (l : List ℕ). length l) empty) in
    let nothing = not_false (length line == 0) (sym reads.found) in
    absurd (let h : true ≡ false = sym zero_long ∙ nothing in cc)

pub found_ended : (a m : Auditor) (whole rest line : List ℕ) (new : Option (List ℕ)) (count : ℕ) → Agreed a whole m rest count → ReadsLine rest true line new → IsNoEntry line → Ended a whole count
found_ended a m whole rest line new count agreed reads none =
    record { middle = m; rest = rest; agreed = agreed; some = not_empty rest line new reads; none = subst (λ (l : List ℕ). IsNoEntry l) reads.first none }

pub found_differed : (a m b : Auditor) (whole rest line : List ℕ) (count : ℕ) (difference : Difference) → Agreed a whole m rest count → line ≡ take_through 10 rest → Checks m line b (Some difference) → Differed a whole count
found_differed a m b whole rest line count difference agreed first checks = record {
  middle = m;
  rest = rest;
  agreed = agreed;
  line = checks.line;
  behind = drop_through 10 rest;
  begins = line_and_rest rest line checks.line first checks.is_its;
  only = checks.only;
  illegal = λ start first_world last done more audited legal. checks.checks start first_world last (done ++ agreed.lines) more (agreed.audited start first_world done audited) legal;
}

-- So many entries were read and agree, where the bytes of the reader are known.
abbrev pub ReadSoFar : Auditor → Option (List ℕ) → Auditor → Option (List ℕ) → ℕ → Type 0
ReadSoFar before None now left count = Unit {0}
ReadSoFar before (Some text) now left count = (rest : List ℕ) × ((left ≡ Some rest) × Agreed before text now rest count)

pub read_none : (a : Auditor) (bytes : Option (List ℕ)) → ReadSoFar a bytes a bytes 0
read_none a None = tt
read_none a (Some text) = (text, (refl, agreed_none a text))

pub read_more : (a m b : Auditor) (bytes left new : Option (List ℕ)) (line : List ℕ) (some : Bool) (count : ℕ) → ReadSoFar a bytes m left count → IfSome left (λ rest. ReadsLine rest some line new)
    → Checks m line b None → ReadSoFar a bytes b new (count + 1)
read_more a m b None left new line some count so reads checks = tt
read_more a m b (Some text) left new line some count so reads checks =
    let read : ReadsLine so.0 some line new = subst (λ (o : Option (List ℕ)). IfSome o (λ rest. ReadsLine rest some line new)) so.1.0 reads in
    (drop_through 10 so.0, (read.left, agreed_more a m b text so.0 line count so.1.1 read.first checks))

pub finds_end : (a m : Auditor) (bytes left new : Option (List ℕ)) (line : List ℕ) (some : Bool) (most count : ℕ) → ReadSoFar a bytes m left count → IfSome left (λ rest. ReadsLine rest some line new) → some ≡ false
    → IfSome bytes (λ text. AllAgreed a text most m count)
finds_end a m None left new line some most count so reads ends = tt
finds_end a m (Some text) left new line some most count so reads ends =
    let read : ReadsLine so.0 some line new = subst (λ (o : Option (List ℕ)). IfSome o (λ rest. ReadsLine rest some line new)) so.1.0 reads in
    let last : ReadsLine so.0 false line new = subst (λ (b : Bool). ReadsLine so.0 b line new) ends read in
    record { rest = so.0; agreed = so.1.1; ends = inr (at_end so.0 line new last) }

pub finds_most : (a m : Auditor) (bytes left : Option (List ℕ)) (most count : ℕ) → ReadSoFar a bytes m left count → count ≡ most → IfSome bytes (λ text. AllAgreed a text most m count)
finds_most a m None left most count so all = tt
finds_most a m (Some text) left most count so all = record { rest = so.0; agreed = so.1.1; ends = inl all }

pub finds_difference : (a m b : Auditor) (bytes left new : Option (List ℕ)) (line : List ℕ) (some : Bool) (count n : ℕ) (difference : Difference) → ReadSoFar a bytes m left count
    → IfSome left (λ rest. ReadsLine rest some line new) → Checks m line b (Some difference) → n ≡ suc count → IfSome bytes (λ text. (k : ℕ) × ((n ≡ suc k) × Differed a text k))
finds_difference a m b None left new line some count n difference so reads checks is = tt
finds_difference a m b (Some text) left new line some count n difference so reads checks is =
    let read : ReadsLine so.0 some line new = subst (λ (o : Option (List ℕ)). IfSome o (λ rest. ReadsLine rest some line new)) so.1.0 reads in
    (count, (is, found_differed a m b text so.0 line count difference so.1.1 read.first checks))

-- A line that no entry has ends the audit, whole or cut off.
pub finds_ended : (a m b : Auditor) (bytes left new : Option (List ℕ)) (line : List ℕ) (some : Bool) (most count : ℕ) (found : Audited) → ReadSoFar a bytes m left count
    → IfSome left (λ rest. ReadsLine rest some line new) → some ≡ true → IsNoEntry line × (b ≡ m) → IsEnd count line found → IfSome bytes (λ text. Finds a text most b found)
finds_ended a m b None left new line some most count found so reads more none end = tt
finds_ended a m b (Some text) left new line some most count (Agree n) so reads more none end = absurd end
finds_ended a m b (Some text) left new line some most count (Differs n difference) so reads more none end = absurd end
finds_ended a m b (Some text) left new line some most count (NoEntry n) so reads more none end =
    let read : ReadsLine so.0 some line new = subst (λ (o : Option (List ℕ)). IfSome o (λ rest. ReadsLine rest some line new)) so.1.0 reads in
    let there : ReadsLine so.0 true line new = subst (λ (b : Bool). ReadsLine so.0 b line new) more read in
    (count, (end.0, found_ended a m text so.0 line new count so.1.1 there none.0))
finds_ended a m b (Some text) left new line some most count (CutOff n) so reads more none end =
    let read : ReadsLine so.0 some line new = subst (λ (o : Option (List ℕ)). IfSome o (λ rest. ReadsLine rest some line new)) so.1.0 reads in
    let there : ReadsLine so.0 true line new = subst (λ (b : Bool). ReadsLine so.0 b line new) more read in
    let is : IsCutOff a text m count = record {
      rest = so.0;
      agreed = so.1.1;
      some = not_empty so.0 line new there;
      none = subst (λ (l : List ℕ). IsNoEntry l) read.first none.0;
      cut = λ whole. end.1 (subst (λ (l : List ℕ). IsWhole l) (sym read.first) whole);
    } in
    subst (λ (k : ℕ). IsCutOff a text b k) (sym end.0) (subst (λ (x : Auditor). IsCutOff a text x count) (sym none.1) is)

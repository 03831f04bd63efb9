-- Writes in succession.
use Rattle.std.proofs.Common.{◌≡◌, ℕ, false, eqb, length, List, [], ◌∷◌, ◌++◌, take, drop, Option, Some, None, refl, sym, ap, subst, ◌∙◌, append_assoc, append-nil, take-append-drop}
use Rattle.std.specs.Prelude.{IfSome}
use Rattle.std.specs.Io.KnownBytes.{Appends, Keeps}
use Rattle.ioc_main.specs.Written.{Writes, WritesPart, StopsLine, StopsScript}
use Rattle.ioc_main.specs.declared.fault.LineFault.{LineFault}
use Rattle.ioc_main.specs.declared.fault.LineFault.TheVariants as line
use Rattle.ioc_main.specs.Faults.{script_fault_of}

pub appends_trans : (a b c : Option (List ℕ)) (bs cs : List ℕ) → Appends a b bs → Appends b c cs → Appends a c (bs ++ cs)
appends_trans None b c bs cs p q = tt
appends_trans (Some x) None c bs cs p q = absurd p
appends_trans (Some x) (Some y) None bs cs p q = absurd q
appends_trans (Some x) (Some y) (Some z) bs cs p q = q ∙ ap (λ l. l ++ cs) p ∙ append_assoc x bs cs

appends_none : (a : Option (List ℕ)) → Appends a a []
appends_none None = tt
appends_none (Some x) = sym (append-nil x)

pub writes_trans : (a b c : Option (List ℕ)) (x y z : List ℕ) → Writes a x b y → Writes b y c z → Writes a x c z
writes_trans a b c x y z p q =
    (p.0 ++ q.0, p.1 ∙ ap (λ l. p.0 ++ l) q.1 ∙ sym (append_assoc p.0 q.0 z), appends_trans a b c p.0 q.0 p.2 q.2)

-- A writer took `n` bytes of the rest.
pub writes_more : (a b c : Option (List ℕ)) (x y z : List ℕ) (n : ℕ) → Writes a x b y → Appends b c (take n y) → z ≡ drop n y → Writes a x c z
writes_more a b c x y z n p q e =
    writes_trans a b c x y z p (take n y, sym (take-append-drop n y) ∙ ap (λ l. take n y ++ l) (sym e), q)

pub writes_then_part : (a b c : Option (List ℕ)) (x y : List ℕ) → Writes a x b y → WritesPart b y c → WritesPart a x c
writes_then_part a b c x y p q = (q.0, q.1, writes_trans a b c x y (q.0 ∷ q.1) p q.2)

pub writes_then_stops : (fault : LineFault) (a b c : Option (List ℕ)) (x y : List ℕ) → Writes a x b y → StopsLine fault b y c → StopsLine fault a x c
writes_then_stops line.Write a b c x y p q = writes_then_part a b c x y p q
writes_then_stops line.Memory a b c x y p q = (q.0, writes_trans a b c x y q.0 p q.1)

-- The fault of a line stops the script.
pub stops_script : (fault : LineFault) (a b : Option (List ℕ)) (x : List ℕ) → StopsLine fault a x b → StopsScript (script_fault_of fault) a x b
stops_script line.Write a b x p = p
stops_script line.Memory a b x p = p

pub script_stops : (fault : LineFault) (script a b : Option (List ℕ)) (t : List ℕ → List ℕ) → IfSome script (λ text. StopsLine fault a (t text) b) → IfSome script (λ text. StopsScript (script_fault_of fault) a (t text) b)
script_stops fault None a b t p = tt
script_stops fault (Some text) a b t p = stops_script fault a b (t text) p

-- A writer with unchanged contents took nothing.
appends_kept : (a b : Option (List ℕ)) → Keeps a b → Appends a b []
appends_kept None b k = tt
appends_kept (Some x) None k = absurd k
appends_kept (Some x) (Some y) k = k ∙ sym (append-nil x)

pub writes_kept : (a b c : Option (List ℕ)) (x y : List ℕ) → Writes a x b y → Keeps b c → Writes a x c y
writes_kept a b c x y p k = writes_trans a b c x y y p ([], refl, appends_kept b c k)

pub writes_zero : (a b c : Option (List ℕ)) (x y : List ℕ) (n : ℕ) → n ≡ 0 → Writes a x b y → Appends b c (take n y) → Writes a x c y
writes_zero a b c x y n e p q = writes_more a b c x y y 0 p (subst (λ (k : ℕ). Appends b c (take k y)) e q) refl

-- If something is left, not all was written.
pub part_left : (a b : Option (List ℕ)) (x y : List ℕ) → false ≡ eqb (length y) 0 → Writes a x b y → WritesPart a x b
part_left a b x [] h p = absurd cc
part_left a b x (c ∷ cs) h p = (c, cs, p)

-- All of the first text was written.
pub writes_all : (a b : Option (List ℕ)) (x y : List ℕ) → Appends a b x → Writes a (x ++ y) b y
writes_all a b x y p = (x, refl, p)

pub appends_all : (a b : Option (List ℕ)) (x : List ℕ) → Writes a x b [] → Appends a b x
appends_all a b x p = subst (Appends a b) (sym (p.1 ∙ append-nil p.0)) p.2

-- A part of the beginning of a text is a part of the text.
pub part_more : (a b : Option (List ℕ)) (x y : List ℕ) → WritesPart a x b → WritesPart a (x ++ y) b
part_more a b x y p = (p.0, p.1 ++ y, (p.2.0, ap (λ l. l ++ y) p.2.1 ∙ append_assoc p.2.0 (p.0 ∷ p.1) y, p.2.2))

-- There was nothing to write.
pub writes_same : (a : Option (List ℕ)) (x y : List ℕ) → x ≡ y → Writes a x a y
writes_same a x y e = ([], e, appends_none a)

-- If a second text isn't written whole after the first one, neither are both together.
pub all_then_part : (a b c : Option (List ℕ)) (x y : List ℕ) → Appends a b x → WritesPart b y c → WritesPart a (x ++ y) c
all_then_part a b c x y p q = writes_then_part a b c (x ++ y) y (writes_all a b x y p) q

-- What follows a text is still to be written.
pub writes_behind : (a b : Option (List ℕ)) (x y z : List ℕ) → Writes a x b y → Writes a (x ++ z) b (y ++ z)
writes_behind a b x y z p = (p.0, ap (λ l. l ++ z) p.1 ∙ append_assoc p.0 y z, p.2)

-- What is pending isn't written yet.
pub keeps_back : (a : Option (List ℕ)) (said more : List ℕ) → more ≡ [] → Writes a (said ++ more) a said
keeps_back a said more none = writes_same a (said ++ more) said (ap (λ l. said ++ l) none ∙ append-nil said)

-- All that is left is written.
pub writes_rest : (a b c : Option (List ℕ)) (x said more : List ℕ) → more ≡ [] → Writes a x b said → Appends b c (said ++ more) → Appends a c x
writes_rest a b c x said more none p q =
    let r : Appends b c said = subst (Appends b c) (ap (λ l. said ++ l) none ∙ append-nil said) q in
    appends_all a c x (writes_trans a b c x said [] p (said, sym (append-nil said), r))

pub writes_no_rest : (a b c : Option (List ℕ)) (x said more : List ℕ) → more ≡ [] → Writes a x b said → WritesPart b (said ++ more) c → WritesPart a x c
writes_no_rest a b c x said more none p q = writes_then_part a b c x said p (subst (λ l. WritesPart b l c) (ap (λ l. said ++ l) none ∙ append-nil said) q)

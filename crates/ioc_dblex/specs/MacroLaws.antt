-- The replacement of macros in the terms of a user: a text is a list of parts, each of which has a
-- value. EPICS Application Developer's Guide, "Database Definition", "Macro substitution".
use Rattle.std.specs.Prelude.{◌≡◌, ℕ, true, List, [], ◌∷◌, ◌++◌, Some}
use Rattle.ioc_dblex.specs.Macros.{Defined, is_macro_name, value_of, or_default, lacks, replaced}

-- The brackets of a macro: ( and ), or { and }.
pub data Brackets : Type 0 where
  Round : Brackets
  Curly : Brackets

abbrev pub opening : Brackets → ℕ
opening Round = 40
opening Curly = 123

abbrev pub closing : Brackets → ℕ
closing Round = 41
closing Curly = 125

-- A part of a text.
pub data Part : Type 0 where
  -- Bytes, none of which is a `$`.
  Plain : List ℕ → Part
  -- The use $(N).
  Use : Brackets → List ℕ → Part
  -- The use $(N=D).
  UseOr : Brackets → List ℕ → List ℕ → Part

-- The text of the parts as it is written.
abbrev pub written : List Part → List ℕ
written [] = []
written (Plain bytes ∷ ps) = bytes ++ written ps
written (Use b name ∷ ps) = 36 ∷ opening b ∷ name ++ (closing b ∷ written ps)
written (UseOr b name default ∷ ps) = 36 ∷ opening b ∷ name ++ (61 ∷ default ++ (closing b ∷ written ps))

-- Holds if the parts have this value: plain bytes are their own value, and a macro has its value or
-- else its default.
abbrev pub StandsFor : List Defined → List Part → List ℕ → Type 0
StandsFor ds [] text = text ≡ []
StandsFor ds (Plain bytes ∷ ps) text = (rest : List ℕ) × (lacks 36 bytes ≡ true) × (text ≡ bytes ++ rest) × StandsFor ds ps rest
StandsFor ds (Use b name ∷ ps) text = (value : List ℕ) × (rest : List ℕ) × (is_macro_name name ≡ true) × (value_of ds name ≡ Some value) × (text ≡ value ++ rest) × StandsFor ds ps rest
StandsFor ds (UseOr b name default ∷ ps) text =
    (value : List ℕ) × (rest : List ℕ) × (is_macro_name name ≡ true) × (lacks 36 default ≡ true) × (lacks (closing b) default ≡ true) × (or_default (value_of ds name) (Some default) ≡ Some value) × (text ≡ value ++ rest) × StandsFor ds ps rest

-- Holds if a text is replaced by the values of its parts.
abbrev pub PartsAreReplaced : List Defined → Type 0
PartsAreReplaced ds = (parts : List Part) (text : List ℕ) → StandsFor ds parts text → replaced ds (written parts) ≡ Some text

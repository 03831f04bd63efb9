-- The lines of a script that expect a reply: `expect TEXT`.
use Rattle.std.proofs.Common.{◌≡◌, ℕ, List, [], ◌∷◌, length, take, Option, Some, None, codes, nat_lt, nat_eq, if◌then◌else◌, unwrap_or, refl, sym, ap, ◌∙◌, inl, inr, arith}
use Rattle.std.specs.Cmp.Lexicographic.{pointwise}
use Rattle.std.proofs.lemmas.Bool.{cases_lt, lt-ltb}
use Rattle.std.proofs.lemmas.List.{length-take, take_all}
use Rattle.ioc_commands.specs.Commands.{before, behind, cut}
use Rattle.ioc_main.specs.Coming.{CutsLines}

-- The text that a line of at most 1,024 bytes expects. It may be missing.
unfoldable pub expected_in : List ℕ → Option (List ℕ)
expected_in line =
    if nat_lt 1024 (length line) then None
    else (if pointwise nat_eq (before 32 line) (codes "expect") then Some (unwrap_or (behind 32 line) []) else None)

-- These lines, behind one that expects this text or nothing.
abbrev pub unexpecting_from : Option (List ℕ) → List ℕ → List (List ℕ) → List (List ℕ)
unexpecting_from (Some text) line lines = lines
unexpecting_from None line lines = line ∷ lines

-- The lines that expect no reply.
abbrev pub unexpecting : List (List ℕ) → List (List ℕ)
unexpecting [] = []
unexpecting (line ∷ lines) = unexpecting_from (expected_in line) line (unexpecting lines)

-- The bytes of a line past its 1,025th have no effect on what it expects.
cut-expected : (line : List ℕ) → expected_in (cut line) ≡ expected_in line
unfolding expected_in cut
cut-expected line =
    elim (cases_lt 4097 (length line)) [
      | inl long ↦ rw (
        lt-ltb 1024 (length (take 4097 line)) (omega (arith, length-take 4097 line)),
        lt-ltb 1024 (length line) (omega arith),
      ) refl
      | inr short ↦ rw (take_all 4097 line short) refl
    ]

same_from : (transcript : List (List ℕ) → List ℕ) → CutsLines transcript → (expected : Option (List ℕ)) (a b : List ℕ) (lines : List (List ℕ))
    → cut a ≡ cut b → transcript (unexpecting_from expected a lines) ≡ transcript (unexpecting_from expected b lines)
same_from transcript law (Some text) a b lines e = refl
same_from transcript law None a b lines e = law a b lines e

-- If the bytes of a line past its 1,025th have no effect on a transcript, they have none either on
-- that of the lines that expect no reply.
pub same-lines : (transcript : List (List ℕ) → List ℕ) → CutsLines transcript → (a b : List ℕ) (lines : List (List ℕ))
    → cut a ≡ cut b → transcript (unexpecting (a ∷ lines)) ≡ transcript (unexpecting (b ∷ lines))
same-lines transcript law a b lines e =
    ap (λ expected. transcript (unexpecting_from expected a (unexpecting lines))) (sym (cut-expected a) ∙ ap expected_in e ∙ cut-expected b)
    ∙ same_from transcript law (expected_in b) a b (unexpecting lines) e

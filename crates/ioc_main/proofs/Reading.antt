-- A run piece by piece.
use Rattle.std.proofs.Common.{◌≡◌, ℕ, List, [], ◌++◌, Option, Some, None, refl, sym, ap, subst, ◌∙◌, append-nil, take}
use Rattle.std.specs.Prelude.{IfSome}
use Rattle.std.specs.Io.KnownBytes.{Appends, Consumes, IsAtEnd}
use Rattle.ioc_commands.specs.Commands.{lines_of}
use Rattle.ioc_main.specs.Written.{Writes, WritesFront, StopsLine}
use Rattle.ioc_main.specs.declared.fault.LineFault.{LineFault}
use Rattle.ioc_main.specs.Coming.{still, to_come, ReadsSo}
use Rattle.ioc_main.proofs.ComingLemmas.{starts}
use Rattle.ioc_main.proofs.WrittenLemmas.{writes_same, writes_trans, writes_then_stops, appends_all}

abbrev Transcript : Type 0
Transcript = List (List ℕ) → List ℕ

pub starts_so : (t : Transcript) (a w : Option (List ℕ)) (line : List ℕ) → line ≡ [] → ReadsSo t a a w t line w
starts_so t None w line e = tt
starts_so t (Some script) w line e = writes_same w (t (lines_of script)) (to_come t line script) (sym (starts t script) ∙ ap (λ (l : List ℕ). to_come t l script) (sym e))

-- No replies are pending yet.
pub starts_unsaid : (t : Transcript) (a w : Option (List ℕ)) (said line : List ℕ) → said ≡ [] → line ≡ [] → ReadsSo t a a w (still said t) line w
starts_unsaid t a w said line none e = subst (λ (p : List ℕ). ReadsSo t a a w (still p t) line w) (sym none) (starts_so t a w line e)

pub reads_on : (whole t s : Transcript) (a b d w v u : Option (List ℕ)) (line more piece : List ℕ) → Consumes b d piece
    → ((rest : List ℕ) → Writes v (to_come t line (piece ++ rest)) u (to_come s more rest))
    → ReadsSo whole a b w t line v → ReadsSo whole a d w s more u
reads_on whole t s None b d w v u line more piece q p inv = tt
reads_on whole t s (Some x) None d w v u line more piece q p inv = absurd inv
reads_on whole t s (Some x) (Some y) None w v u line more piece q p inv = absurd q
reads_on whole t s (Some x) (Some y) (Some z) w v u line more piece q p inv =
    writes_trans w v u (whole (lines_of x)) _ (to_come s more z) (subst (λ (l : List ℕ). Writes w (whole (lines_of x)) v (to_come t line l)) q inv) (p z)

pub reads_fail : (fault : LineFault) (whole t : Transcript) (a b d w v u : Option (List ℕ)) (line piece : List ℕ) → Consumes b d piece
    → ((rest : List ℕ) → StopsLine fault v (to_come t line (piece ++ rest)) u)
    → ReadsSo whole a b w t line v → IfSome a (λ text. StopsLine fault w (whole (lines_of text)) u)
reads_fail fault whole t None b d w v u line piece q p inv = tt
reads_fail fault whole t (Some x) None d w v u line piece q p inv = absurd inv
reads_fail fault whole t (Some x) (Some y) None w v u line piece q p inv = absurd q
reads_fail fault whole t (Some x) (Some y) (Some z) w v u line piece q p inv =
    writes_then_stops fault w v u (whole (lines_of x)) _ (subst (λ (l : List ℕ). Writes w (whole (lines_of x)) v (to_come t line l)) q inv) (p z)

-- The reader is at its end.
at_end : (b d : Option (List ℕ)) (y : List ℕ) → b ≡ Some y → Consumes b d [] → IsAtEnd d → y ≡ []
at_end None d y e q h = absurd cc
at_end (Some x) None y e q h = absurd q
at_end (Some x) (Some z) y e q h = let k : x ≡ y = cc in sym k ∙ q ∙ h

reads_all : (whole t : Transcript) (x y : List ℕ) (d w v : Option (List ℕ)) (line : List ℕ) → Consumes (Some y) d [] → IsAtEnd d
    → Writes w (whole (lines_of x)) v (to_come t line y) → Writes w (whole (lines_of x)) v (to_come t line [])
reads_all whole t x y d w v line q h p = subst (λ (l : List ℕ). Writes w (whole (lines_of x)) v (to_come t line l)) (at_end (Some y) d y refl q h) p

pub reads_end : (whole t : Transcript) (a b d w v u : Option (List ℕ)) (line : List ℕ) → Consumes b d [] → IsAtEnd d
    → Appends v u (to_come t line []) → ReadsSo whole a b w t line v → IfSome a (λ text. Appends w u (whole (lines_of text)))
reads_end whole t None b d w v u line q h p inv = tt
reads_end whole t (Some x) None d w v u line q h p inv = absurd inv
reads_end whole t (Some x) (Some y) d w v u line q h p inv =
    appends_all w u (whole (lines_of x)) (writes_trans w v u (whole (lines_of x)) (to_come t line []) [] (reads_all whole t x y d w v line q h inv) (to_come t line [], sym (append-nil (to_come t line [])), p))

pub reads_end_fails : (fault : LineFault) (whole t : Transcript) (a b d w v u : Option (List ℕ)) (line : List ℕ) → Consumes b d [] → IsAtEnd d
    → StopsLine fault v (to_come t line []) u → ReadsSo whole a b w t line v → IfSome a (λ text. StopsLine fault w (whole (lines_of text)) u)
reads_end_fails fault whole t None b d w v u line q h p inv = tt
reads_end_fails fault whole t (Some x) None d w v u line q h p inv = absurd inv
reads_end_fails fault whole t (Some x) (Some y) d w v u line q h p inv =
    writes_then_stops fault w v u (whole (lines_of x)) (to_come t line []) (reads_all whole t x y d w v line q h inv) p

pub none_read : (b d : Option (List ℕ)) (n : ℕ) (buf : List ℕ) → n ≡ 0 → Consumes b d (take n buf) → Consumes b d []
none_read b d n buf e q = subst (λ (k : ℕ). Consumes b d (take k buf)) e q

-- A read failed: what was written is the beginning of the transcript.
pub reads_stop : (whole t : Transcript) (a b w v : Option (List ℕ)) (line : List ℕ) → ReadsSo whole a b w t line v
    → IfSome a (λ text. WritesFront w (whole (lines_of text)) v)
reads_stop whole t None b w v line inv = tt
reads_stop whole t (Some x) None w v line inv = absurd inv
reads_stop whole t (Some x) (Some y) w v line inv = (to_come t line y, inv)

-- Where nothing was written for a prompt, and the session prints what it would have, all is as before.
pub prompted : (whole : Transcript) (a left w v u : Option (List ℕ)) (said line : List ℕ) (t s : Transcript) → s ≡ t → u ≡ v
    → ReadsSo whole a left w (still said t) line v → ReadsSo whole a left w (still said s) line u
prompted whole a left w v u said line t s same kept so =
    subst (λ (o : Option (List ℕ)). ReadsSo whole a left w (still said s) line o) (sym kept) (subst (λ (r : Transcript). ReadsSo whole a left w (still said r) line v) (sym same) so)

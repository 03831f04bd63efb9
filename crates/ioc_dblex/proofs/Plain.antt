-- Texts in which no byte begins a comment or a macro.
use Rattle.std.proofs.Common.{◌≡◌, ℕ, Bool, true, false, cond, ◌&&◌, ◌||◌, eqb, List, [], ◌∷◌, ◌++◌, Some, refl, sym, ap, ◌∙◌}
use Rattle.ioc_dblex.specs.Macros.{Defined, lacks, replaced}
use Rattle.ioc_dblex.specs.declared.lines.Quoting.TheVariants.{Outside}
use Rattle.ioc_dblex.specs.Lines.{begins_with, without_end, is_plain, line_text}
use Rattle.ioc_dblex.proofs.Pieces.{lacks_first, replaced_plain}
use Rattle.ioc_dblex.proofs.LineEnds.{no_comment}

both : (a b : Bool) → (a && b) ≡ true → (a ≡ true) × (b ≡ true)
both true b e = (refl, e)
both false b e = cc

cut_lacks : (c b : ℕ) (t : Bool) (bs : List ℕ) → eqb b c ≡ false → lacks c bs ≡ true → lacks c (cond t [] (b ∷ bs)) ≡ true
cut_lacks c b true bs other h = refl
cut_lacks c b false bs other h = rw other h

lacks_end : (c : ℕ) (bs : List ℕ) → lacks c bs ≡ true → lacks c (without_end bs) ≡ true
lacks_end c [] h = refl
lacks_end c (b ∷ bs) h =
    let k = lacks_first c b bs h in
    cut_lacks c b ((eqb b 10) || ((eqb b 13) && begins_with 10 bs)) (without_end bs) k.0 (lacks_end c bs k.1)

lacks_parts : (c : ℕ) (xs ys : List ℕ) → lacks c (xs ++ ys) ≡ true → (lacks c xs ≡ true) × (lacks c ys ≡ true)
lacks_parts c [] ys h = (refl, h)
lacks_parts c (x ∷ xs) ys h =
    let k = lacks_first c x (xs ++ ys) h in
    let more = lacks_parts c xs ys k.1 in
    (rw (k.0) (more.0), more.1)

joined : (a b : Bool) → a ≡ true → b ≡ true → (a && b) ≡ true
joined a b h k = rw (h, k) refl

-- The parts of a plain text are plain.
pub plain_parts : (rest line behind : List ℕ) → line ++ behind ≡ rest → is_plain rest ≡ true → (is_plain line ≡ true) × (is_plain behind ≡ true)
plain_parts rest line behind parted h =
    let p = both (lacks 35 rest) (lacks 36 rest) h in
    let number = lacks_parts 35 line behind (ap (lacks 35) parted ∙ p.0) in
    let dollar = lacks_parts 36 line behind (ap (lacks 36) parted ∙ p.1) in
    (joined (lacks 35 line) (lacks 36 line) number.0 dollar.0, joined (lacks 35 behind) (lacks 36 behind) number.1 dollar.1)

-- The text of a plain line is the line without its end.
pub plain_line : (ds : List Defined) (line : List ℕ) → is_plain line ≡ true → Some (without_end line) ≡ line_text ds line
unfolding line_text
plain_line ds line h =
    let p = both (lacks 35 line) (lacks 36 line) h in
    sym (replaced_plain ds (without_end line) (lacks_end 36 line p.1)) ∙ ap (replaced ds) (no_comment Outside (without_end line) (lacks_end 35 line p.0))

-- A script piece by piece.
use Rattle.std.proofs.Common.{◌≡◌, ℕ, ◌<◌, List, [], ◌∷◌, ◌++◌, length, take, ◌≤◌, arith, Option, Some, None, refl, sym, ap, subst, ◌∙◌, append-nil}
use Rattle.std.specs.Io.KnownBytes.{Appends}
use Rattle.std.proofs.Math.Seq.{take-append_seam}
use Rattle.ioc_commands.specs.Commands.{lines_of, cut, before, behind}
use Rattle.ioc_main.specs.Coming.{onto, still, Stands, to_come, CutsLines}
use Rattle.ioc_main.specs.Written.{Writes, WritesPart, WritesFront, StopsLine}
use Rattle.ioc_main.specs.declared.fault.LineFault.{LineFault}
use Rattle.ioc_main.proofs.ComingLemmas.{at_end, at_more, starts, cut-cut, last_line-of}
use Rattle.ioc_main.proofs.WrittenLemmas.{writes_same, writes_trans, writes_then_stops, writes_behind, writes_all, writes_then_part, part_more}

-- A line ends in the piece.
module _ (t : List (List ℕ) → List ℕ) (w v : Option (List ℕ)) (line piece after last : List ℕ) (is : behind 10 piece ≡ Some after) (same : last ≡ before 10 piece) where
  ends : (rest : List ℕ) → to_come t line (piece ++ rest) ≡ t ((line ++ last) ∷ lines_of (after ++ rest))
  ends rest = at_end t line piece after rest is ∙ ap (λ (l : List ℕ). t ((line ++ l) ∷ lines_of (after ++ rest))) (sym same)

  pub line_ends : (u : List (List ℕ) → List ℕ) (kept : List ℕ) → (kept ≡ []) × ((lines : List (List ℕ)) → Writes w (t ((line ++ last) ∷ lines)) v (u lines))
      → (rest : List ℕ) → Writes w (to_come t line (piece ++ rest)) v (to_come u kept (after ++ rest))
  line_ends u kept p rest =
      let e : to_come u kept (after ++ rest) ≡ u (lines_of (after ++ rest)) = ap (λ (k : List ℕ). to_come u k (after ++ rest)) p.0 ∙ starts u (after ++ rest) in
      let q : Writes w (to_come t line (piece ++ rest)) v (u (lines_of (after ++ rest))) = subst (λ (l : List ℕ). Writes w l v (u (lines_of (after ++ rest)))) (sym (ends rest)) (p.1 (lines_of (after ++ rest))) in
      subst (λ (l : List ℕ). Writes w (to_come t line (piece ++ rest)) v l) (sym e) q

  pub line_fails : (fault : LineFault) → ((lines : List (List ℕ)) → StopsLine fault w (t ((line ++ last) ∷ lines)) v)
      → (rest : List ℕ) → StopsLine fault w (to_come t line (piece ++ rest)) v
  line_fails fault p rest = subst (λ (l : List ℕ). StopsLine fault w l v) (sym (ends rest)) (p (lines_of (after ++ rest)))

-- No line ends in the piece.
pub kept_on : (t : List (List ℕ) → List ℕ) → CutsLines t → (w : Option (List ℕ)) (line piece kept last : List ℕ) → behind 10 piece ≡ None → last ≡ piece → kept ≡ take 4097 (line ++ last)
    → (rest : List ℕ) → Writes w (to_come t line (piece ++ rest)) w (to_come t kept rest)
unfolding cut
kept_on t cuts w line piece kept last is same e rest =
    writes_same w (to_come t line (piece ++ rest)) (to_come t kept rest) (at_more t cuts line piece rest kept is (e ∙ ap (λ (l : List ℕ). cut (line ++ l)) same))

-- Two writes in succession.
pub feed_step : (w0 w v : Option (List ℕ)) (all come more : List ℕ) → Writes w come v more → Writes w0 all w come → Writes w0 all v more
feed_step w0 w v all come more p inv = writes_trans w0 w v all come more inv p

pub feed_fails : (fault : LineFault) (w0 w v : Option (List ℕ)) (all come : List ℕ) → StopsLine fault w come v → Writes w0 all w come → StopsLine fault w0 all v
feed_fails fault w0 w v all come p inv = writes_then_stops fault w0 w v all come inv p

-- A line that was read in one piece.
pub came_whole : (t u : List (List ℕ) → List ℕ) (w v : Option (List ℕ)) (line last : List ℕ) → line ≡ [] → ((lines : List (List ℕ)) → Writes w (t (last ∷ lines)) v (u lines))
    → (line ≡ []) × ((lines : List (List ℕ)) → Writes w (t ((line ++ last) ∷ lines)) v (u lines))
came_whole t u w v line last e p = (e, λ lines. subst (λ (l : List ℕ). Writes w (t ((l ++ last) ∷ lines)) v (u lines)) (sym e) (p lines))

-- A line of several pieces, of which the bytes past the 1,025th have no effect.
pub came_in_pieces : (t : List (List ℕ) → List ℕ) → CutsLines t → (line last kept slice : List ℕ) → kept ≡ take 4097 (line ++ last) → slice ≡ kept → (lines : List (List ℕ))
    → t (slice ∷ lines) ≡ t ((line ++ last) ∷ lines)
unfolding cut
came_in_pieces t cuts line last kept slice e f lines =
    ap (λ (l : List ℕ). t (l ∷ lines)) (f ∙ e) ∙ cuts (cut (line ++ last)) (line ++ last) lines (cut-cut (line ++ last))

-- A last line without a line feed.
module _ (t : List (List ℕ) → List ℕ) where
  empty_line : (line : List ℕ) → length line < 1 → line ≡ []
  empty_line [] h = refl
  empty_line (c ∷ cs) h = absurd (omega (arith, h))

  last_is : (line slice : List ℕ) → slice ≡ line → 1 ≤ length slice → to_come t line [] ≡ t (line ∷ [])
  last_is line slice e h = last_line-of t line (subst (λ (l : List ℕ). 1 ≤ length l) e h)

  pub last_fails : (fault : LineFault) (w v : Option (List ℕ)) (line slice said : List ℕ) → slice ≡ line → 1 ≤ length slice → said ≡ line
      → StopsLine fault w (t (said ∷ [])) v → StopsLine fault w (to_come t line []) v
  last_fails fault w v line slice said e h same p =
      subst (λ (l : List ℕ). StopsLine fault w l v) (ap (λ (l : List ℕ). t (l ∷ [])) same ∙ sym (last_is line slice e h)) p

-- The pending replies precede what is printed for further lines.
module _ (p : List ℕ) (t : List (List ℕ) → List ℕ) where
  pub still_cuts : CutsLines t → CutsLines (still p t)
  still_cuts cuts a b lines e = ap (λ (l : List ℕ). p ++ l) (cuts a b lines e)

  still_read : t [] ≡ [] → to_come (still p t) [] [] ≡ p
  unfolding to_come
  still_read none = ap (λ (l : List ℕ). p ++ l) none ∙ append-nil p

  -- A line was answered, and the pending replies were written as far as possible.
  pub answered_on : (w v : Option (List ℕ)) (u : List (List ℕ) → List ℕ) (line q more r : List ℕ) → ((lines : List (List ℕ)) → still p t (line ∷ lines) ≡ still (q ++ more) u lines)
      → Writes w (q ++ more) v r → (lines : List (List ℕ)) → Writes w (still p t (line ∷ lines)) v (still r u lines)
  answered_on w v u line q more r e x lines =
      subst (λ (l : List ℕ). Writes w l v (still r u lines)) (sym (e lines)) (writes_behind w v (q ++ more) r (u lines) x)

  pub answered_fails : (w v : Option (List ℕ)) (u : List (List ℕ) → List ℕ) (line q more : List ℕ) → ((lines : List (List ℕ)) → still p t (line ∷ lines) ≡ still (q ++ more) u lines)
      → WritesPart w (q ++ more) v → (lines : List (List ℕ)) → WritesPart w (still p t (line ∷ lines)) v
  answered_fails w v u line q more e x lines = subst (λ (l : List ℕ). WritesPart w l v) (sym (e lines)) (part_more w v (q ++ more) (u lines) x)

  -- A line wasn't answered, and the pending replies before it are written.
  front_of : (q slice : List ℕ) (n : ℕ) → n ≡ length p → Stands p q → slice ≡ take n q → slice ≡ p
  front_of q slice n many stands is = is ∙ ap (λ (m : ℕ). take m q) many ∙ ap (λ (l : List ℕ). take (length p) l) stands.1 ∙ take-append_seam p stands.0

  pub gives_up : (w v : Option (List ℕ)) (line q slice : List ℕ) (n : ℕ) → n ≡ length p → Stands p q → slice ≡ take n q
      → Appends w v slice → (lines : List (List ℕ)) → WritesFront w (still p t (line ∷ lines)) v
  gives_up w v line q slice n many stands is x lines =
      (t (line ∷ lines), writes_all w v p (t (line ∷ lines)) (subst (λ (l : List ℕ). Appends w v l) (front_of q slice n many stands is) x))

  pub gives_up_midway : (w v : Option (List ℕ)) (line q slice : List ℕ) (n : ℕ) → n ≡ length p → Stands p q → slice ≡ take n q
      → WritesPart w slice v → (lines : List (List ℕ)) → WritesPart w (still p t (line ∷ lines)) v
  gives_up_midway w v line q slice n many stands is x lines =
      part_more w v p (t (line ∷ lines)) (subst (λ (l : List ℕ). WritesPart w l v) (front_of q slice n many stands is) x)

  -- The script is at its end.
  pub rest_empty : (w : Option (List ℕ)) (line slice : List ℕ) → slice ≡ line → length slice < 1 → t [] ≡ [] → Writes w (to_come (still p t) line []) w p
  rest_empty w line slice e h none =
      let is : line ≡ [] = sym e ∙ empty_line (still p t) slice h in
      writes_same w (to_come (still p t) line []) p (ap (λ (l : List ℕ). to_come (still p t) l []) is ∙ still_read none)

  pub rest_answered : (u : List (List ℕ) → List ℕ) (w v : Option (List ℕ)) (line slice said r : List ℕ) → slice ≡ line → 1 ≤ length slice → said ≡ line → u [] ≡ []
      → Writes w (still p t (said ∷ [])) v (still r u []) → Writes w (to_come (still p t) line []) v r
  rest_answered u w v line slice said r e h same none x =
      let a : Writes w (still p t (line ∷ [])) v (still r u []) = subst (λ (l : List ℕ). Writes w (still p t (l ∷ [])) v (still r u [])) same x in
      let b : Writes w (still p t (line ∷ [])) v r = subst (λ (l : List ℕ). Writes w (still p t (line ∷ [])) v l) (ap (λ (l : List ℕ). r ++ l) none ∙ append-nil r) a in
      subst (λ (l : List ℕ). Writes w l v r) (sym (last_is (still p t) line slice e h)) b

-- The replies of a piece are written after what was written before.
module _ (t : List (List ℕ) → List ℕ) (w0 w v : Option (List ℕ)) (all said more line rest : List ℕ) (none : more ≡ []) where
  pub piece_written : (left : List ℕ) → left ≡ [] → Writes w0 all w (to_come (still said t) line rest) → Appends w v (said ++ more) → Writes w0 all v (to_come (still left t) line rest)
  unfolding to_come
  piece_written left empty p q =
      let come = t (onto line (lines_of rest)) in
      let q' : Appends w v said = subst (Appends w v) (ap (λ l. said ++ l) none ∙ append-nil said) q in
      subst (λ (l : List ℕ). Writes w0 all v (l ++ come)) (sym empty) (writes_trans w0 w v all (said ++ come) come p (writes_all w v said come q'))

  pub piece_fails : Writes w0 all w (to_come (still said t) line rest) → WritesPart w (said ++ more) v → WritesPart w0 all v
  unfolding to_come
  piece_fails p q =
      let come = t (onto line (lines_of rest)) in
      let q' : WritesPart w said v = subst (λ l. WritesPart w l v) (ap (λ l. said ++ l) none ∙ append-nil said) q in
      writes_then_part w0 w v all (said ++ come) p (part_more w v said come q')

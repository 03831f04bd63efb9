-- The tokens of a line that begin before a limit, one at a time.
use Rattle.std.proofs.Common.{◌≡◌, ℕ, suc, ◌+◌, ◌-◌, ◌<◌, List, length, true, refl, sym, ap, ◌∙◌, arith, lt-ltb, ltb}
use Rattle.ioc_dblex.specs.Bytes.{behind_gap}
use Rattle.ioc_dblex.specs.Lexing.{token_at, rest_of, behind_begun}

module _ (turns i past : ℕ) (bs solid total : List ℕ) (lt : i < turns) (gap : solid ≡ behind_gap bs) (so_far : behind_begun (turns - i) past bs ≡ total) where
  turn : turns - i ≡ suc (turns - (i + 1))
  turn = omega arith

  -- One more token begins before the limit.
  pub begun_more : (rest : List ℕ) → past < length solid → rest ≡ rest_of (token_at 0 solid) solid → behind_begun (turns - (i + 1)) past rest ≡ total
  begun_more rest more e =
      let longer : ltb past (length (behind_gap bs)) ≡ true = rw (← gap) (lt-ltb past (length solid) more) in
      let one : behind_begun (turns - i) past bs ≡ behind_begun (turns - (i + 1)) past (rest_of (token_at 0 (behind_gap bs)) (behind_gap bs)) = rw (turn, longer) refl in
      let same : rest ≡ rest_of (token_at 0 (behind_gap bs)) (behind_gap bs) = e ∙ ap (λ (s : List ℕ). rest_of (token_at 0 s) s) gap in
      ap (behind_begun (turns - (i + 1)) past) same ∙ sym one ∙ so_far

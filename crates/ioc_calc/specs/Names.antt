-- The names of what is left out.
use Rattle.std.specs.Prelude.{ℕ, List, codes}
use Rattle.ioc_calc.specs.declared.token.LeftOut.{LeftOut}
use Rattle.ioc_calc.specs.declared.token.LeftOut.TheVariants.{Acos, Asin, Atan, Atan2, Cos, Cosh, Exp, Ln, Log, Loge, Rndm, Sin, Sinh, Tan, Tanh, Caret, Stars}

-- the name in capitals, or the sign
abbrev pub name_of : LeftOut → List ℕ
name_of Acos = codes "ACOS"
name_of Asin = codes "ASIN"
name_of Atan = codes "ATAN"
name_of Atan2 = codes "ATAN2"
name_of Cos = codes "COS"
name_of Cosh = codes "COSH"
name_of Exp = codes "EXP"
name_of Ln = codes "LN"
name_of Log = codes "LOG"
name_of Loge = codes "LOGE"
name_of Rndm = codes "RNDM"
name_of Sin = codes "SIN"
name_of Sinh = codes "SINH"
name_of Tan = codes "TAN"
name_of Tanh = codes "TANH"
name_of Caret = codes "^"
name_of Stars = codes "**"

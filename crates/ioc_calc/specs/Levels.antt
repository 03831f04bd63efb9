-- The levels of operators, the tightest first.
use Rattle.std.specs.Prelude.{ℕ}
use Rattle.ioc_calc.specs.declared.operators.Infix.{Infix}
use Rattle.ioc_calc.specs.declared.operators.Infix.TheVariants.{Multiply, Divide, Remainder, Add, Subtract, Less, LessOrEqual, Greater, GreaterOrEqual, Equal, NotEqual, BitAnd, And, ShiftLeft, ShiftRight, ShiftRightUnsigned, BitOr, BitXor, Or}

-- Level 1 is that of powers.
abbrev pub level_of : Infix → ℕ
level_of Multiply = 2
level_of Divide = 2
level_of Remainder = 2
level_of Add = 3
level_of Subtract = 3
level_of Less = 4
level_of LessOrEqual = 4
level_of Greater = 4
level_of GreaterOrEqual = 4
level_of Equal = 4
level_of NotEqual = 4
level_of BitAnd = 5
level_of And = 5
level_of ShiftLeft = 5
level_of ShiftRight = 5
level_of ShiftRightUnsigned = 5
level_of BitOr = 6
level_of BitXor = 6
level_of Or = 6

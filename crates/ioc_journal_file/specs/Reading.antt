-- What is read from the front of a line: a value and the bytes after it, or nothing if no such value
-- stands there.
use Rattle.std.specs.Prelude.{◌≡◌, Option, Some, None}

infixl 10 ◌>>=◌
abbrev pub ◌>>=◌ : {A B : Type 0} → Option A → (A → Option B) → Option B
(Some x) >>= f = f x
None >>= f = None

-- What a function returned, seen by `view`, is what reading gives.
abbrev pub Gives : {X Y : Type 0} → (X → Y) → Option X → Option Y → Type 0
Gives view (Some x) read = read ≡ Some (view x)
Gives view None read = read ≡ None

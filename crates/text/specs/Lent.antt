-- What writing into a lent buffer comes to, byte by byte.
use Rattle.std.specs.Prelude.{Bool, false, cond, List, [], ◌∷◌, ℕ, ◌+◌, ltb, length, set}
use Rattle.std.specs.Borrow.{MutBor}
use Rattle.text.specs.declared.Lent.{Lent}

-- a lent buffer, and the place in it
abbrev pub lent : MutBor (List ℕ) → ℕ → Bool → Lent
lent page at whole = record { page = page; at = at; whole = whole }

-- a byte goes to the place where there is room, and the next one behind it; where there is none no byte is
-- touched, and not all has found room
unfoldable pub with_byte : Lent → ℕ → Lent
with_byte x byte =
    cond (ltb x.at (length x.page.now))
    (record x { page = record x.page { now = set x.page.now x.at byte }; at = x.at + 1 })
    (record x { whole = false })

-- a text goes there byte by byte
unfoldable pub with_text : Lent → List ℕ → Lent
with_text x [] = x
with_text x (byte ∷ more) = with_text (with_byte x byte) more

-- The bytes of a sheet: which may stand where, refusals 1 and 2, and numbers.
use Rattle.std.specs.Prelude.{ℕ, suc, zero, ◌+◌, ◌*◌, ◌-◌, Bool, cond, ◌&&◌, ◌||◌, List, length, get_or, ltb, leb, eqb}
use Rattle.limits.specs.declared.Refusal.TheVariants.{EndsEarly, WrongByte}
use Rattle.text.specs.Ascii.{space, line_feed, digit}
use Rattle.sheet_lines.specs.Found.{Found, found, offence, on_found, and_then}

-- the kinds of marks in ASCII: `S`, `R` and `D`
abbrev pub send : ℕ
send = 83

abbrev pub receive : ℕ
receive = 82

abbrev pub dark : ℕ
dark = 68

-- what the bus recorder heard: `1`, `0`, and `-` for silence
abbrev pub heard_one : ℕ
heard_one = digit 1

abbrev pub heard_zero : ℕ
heard_zero = digit 0

abbrev pub heard_silence : ℕ
heard_silence = 45

-- ---- which byte may stand where

-- `0` to `9`
abbrev pub is_digit : ℕ → Bool
is_digit byte = leb (digit 0) byte && leb byte (digit 9)

abbrev pub is_space : ℕ → Bool
is_space byte = eqb byte space

abbrev pub is_line_feed : ℕ → Bool
is_line_feed byte = eqb byte line_feed

abbrev pub is_kind : ℕ → Bool
is_kind byte = eqb byte send || eqb byte receive || eqb byte dark

abbrev pub is_heard : ℕ → Bool
is_heard byte = eqb byte heard_one || eqb byte heard_zero || eqb byte heard_silence

-- one byte that can stand there. Else the sheet ends where a byte is needed, 1, or the byte cannot stand there, 2
unfoldable pub byte_at : (ℕ → Bool) → List ℕ → ℕ → Found ℕ
byte_at can sheet at =
    let byte = get_or sheet at 0 in
    cond (ltb at (length sheet)) (cond (can byte) (found byte (at + 1)) (offence WrongByte at)) (offence EndsEarly (length sheet))

-- ---- numbers

-- at most k digits more, after the value so far: what is no digit ends the number, and is not of it
unfoldable pub digits_at : ℕ → ℕ → List ℕ → ℕ → Found ℕ
digits_at zero value sheet at = found value at
digits_at (suc k) value sheet at =
    on_found (byte_at is_digit sheet at) (λ byte next. digits_at k (value * 10 + (byte - digit 0)) sheet next) (λ why place. found value at)

-- a number: 1 to 5 digits without a leading zero (`0` itself is allowed)
unfoldable pub number_at : List ℕ → ℕ → Found ℕ
number_at sheet at =
    and_then (byte_at is_digit sheet at) (λ byte next. cond (eqb byte (digit 0)) (found 0 next) (digits_at 4 (byte - digit 0) sheet next))

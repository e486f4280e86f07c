-- `put_word`: before each byte of the word those before it are written. Assumes nothing.
use Rattle.std.proofs.Common.{◌≡◌, drop}
use Rattle.text.specs.Lent.{with_text}
use Rattle.text.proofs.Lent.put_word.Given as goal

abbrev pub invariant-loop-byte : goal.invariant-loop-byte
invariant-loop-byte l = with_text l.self (drop l.byte-index l.word) ≡ with_text l.fn.self l.word

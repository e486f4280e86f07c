-- `put_word`: the word's next byte, and at the end none is left. Assumes nothing.
use Rattle.std.proofs.Common.{arith}
use Rattle.std.proofs.lemmas.List.{drop_more, drop_all}
use Rattle.text.specs.Lent.{with_text}
use Rattle.text.proofs.Lent.put_word.Goals as goal

pub loop-byte-preserved : goal.loop-byte-preserved
unfolding with_text
loop-byte-preserved c =
    let next = drop_more c.args.word.now c.loop-byte.byte-index 0 (omega arith) in
    rw c.put_byte.ensures (rw next at c.loop-byte.invariant)

pub returns : goal.returns
unfolding with_text
returns c = let none = drop_all c.loop-byte.byte-index c.args.word.now (omega arith) in rw none at c.loop-byte.invariant

-- `holds_with`: before seat q it is known whether those below it keep apart, and the sound ones among them are counted. Assumes
-- nothing.
use Rattle.std.proofs.Common.{◌≡◌}
use Rattle.lists.specs.Counted.{all_below, count_below}
use Rattle.terms.proofs.Found.{apart_at, sound_at}
use Rattle.terms.proofs.holds_with.Given as goal

abbrev pub invariant-loop-q : goal.invariant-loop-q
invariant-loop-q l = record {
  apart : l.apart ≡ all_below l.q (apart_at l.faults l.p l.f);
  counted : l.sound ≡ count_below l.q (sound_at l.faults l.p l.f);
}

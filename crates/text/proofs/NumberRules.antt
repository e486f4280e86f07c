-- The laws that a number's digits are written by, as one list for the tactics. Assumes nothing.
use Rattle.text.proofs.Decimals.{decimal_one, decimal_more}
use Rattle.text.proofs.Writing.{text_after, byte_alone}

pub ruleset number_rules = (decimal_one, decimal_more, text_after, byte_alone)

-- `end`: a line feed is wanted. Assumes nothing.
use Rattle.sheet_lines.specs.Bytes.{is_line_feed}
use Rattle.sheet_lines.proofs.end.Given as goal

abbrev pub ghost-byte : goal.ghost-byte
ghost-byte a = is_line_feed

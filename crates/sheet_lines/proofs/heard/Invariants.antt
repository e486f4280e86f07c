-- `heard`: a mark of the bus recorder is wanted. Assumes nothing.
use Rattle.sheet_lines.specs.Bytes.{is_heard}
use Rattle.sheet_lines.proofs.heard.Given as goal

abbrev pub ghost-lone : goal.ghost-lone
ghost-lone a = is_heard

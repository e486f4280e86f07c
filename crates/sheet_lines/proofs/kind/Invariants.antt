-- `kind`: a kind is wanted. Assumes nothing.
use Rattle.sheet_lines.specs.Bytes.{is_kind}
use Rattle.sheet_lines.proofs.kind.Given as goal

abbrev pub ghost-lone : goal.ghost-lone
ghost-lone a = is_kind

-- The proof of each claim.
use Rattle.lparse_format.specs.Claims.{LparseIsRead, ExportIsFaithful}
use Rattle.lparse_format.proofs.Reading.{read_program}
use Rattle.lparse_format.proofs.Meaning.{same_models}

pub lparse_is_read : LparseIsRead
lparse_is_read = read_program

pub export_is_faithful : ExportIsFaithful
export_is_faithful = same_models

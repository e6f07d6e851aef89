-- `lparse_sizes::atoms_length` meets its contract, one law for each way through it.
use native.Mathlib.Omega.{arith}
use borrow.Author.Rules.{rules}
use Rattle.lparse_lines.proofs.Lines.{size_low}
use Rattle.lparse_sizes.proofs.Lengths.{atoms_enough, atoms_length}
use Rattle.lparse_sizes.proofs.atoms_length.Goals as goal

pub overflow_mul-result : goal.overflow_mul-result
overflow_mul-result c = omega (arith, size_low _ _ c.requires)

pub overflow_sub-result : goal.overflow_sub-result
overflow_sub-result c = search (rules, atoms_enough)

pub returns : goal.returns
returns c = search (rules, atoms_length)

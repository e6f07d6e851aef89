-- The room is enough, and the text read back.
use mathlib.Core.List.{List}
use mathlib.Core.Path.{◌≡◌, refl, sym, ◌∙◌, ap}
use Prim.Native.Nat.{ℕ}
use native.Mathlib.Omega.{arith}
use borrow.Author.Tests.{eqb-true, eq-eqb, le-leb}
use lib.Dec.{eqb}
use lib.ListN.{length}
use Rattle.lists.proofs.Bools.{by_bool}
use Rattle.sheet.specs.Questions.{ask, ◌then◌, first_refusal}
use Rattle.sheet.proofs.Questions.{then_none, first_yes}
use Rattle.operations.specs.Outputs.{lparse_output}
use Rattle.operations.specs.Questions.{question10, sheet_questions}
use Rattle.operations.specs.Calls.{describe, input_questions}
use Rattle.operations.specs.Calls as call
use Rattle.operations.specs.inner.Refusals.{sheet_refusal}
use Rattle.operations.proofs.Questions.{call_parted}
use Rattle.guarantees.proofs.Demands.{solver_reads}
use Rattle.office.specs.Office.{office}
use Rattle.office.proofs.Laws.{office_lparse_fits}
use Rattle.lparse.specs.Printed.{lent_bytes, refusal, printed}
use Rattle.lparse.proofs.Texts.{lent_size}
use Rattle.lparse.specs.Claims.{RoomIsEnough, PrintedIsRead}

-- What is asked: the questions about the sheet, then whether the text fits.
asked : (input : List ℕ) → refusal input ≡ sheet_refusal office input then question10 (lparse_output input) 65536
unfolding refusal describe input_questions first_refusal
asked input =
    call_parted office (call.lparse input lent_bytes)
    ∙ ap (λ r. sheet_refusal office input then r)
    (then_none (question10 (lparse_output input) (length lent_bytes)) ∙ ap (question10 (lparse_output input)) lent_size)

pub room_is_enough : RoomIsEnough
unfolding ask ◌then◌
room_is_enough input =
    asked input
    ∙ by_bool (eqb (sheet_refusal office input) 0)
    (λ t.
    let z = eqb-true (sheet_refusal office input) 0 t in
    let fits = office_lparse_fits input (first_yes (sheet_questions office input) z) in
    rw (z, le-leb (length (lparse_output input)) 65536 (omega arith)) refl)
    (λ f. rw f refl)

pub printed_is_read : PrintedIsRead
unfolding printed
printed_is_read input z = rw (eq-eqb (refusal input) 0 z) (solver_reads office input (sym (room_is_enough input) ∙ z))

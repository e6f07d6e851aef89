-- `copies::kept_rules` meets its contract, one law for each way through it.
use borrow.Author.Rules.{rules}
use Rattle.copies.proofs.Keeping.{keeping_start, keeping_yes, keeping_no, keeping_end}
use Rattle.copies.proofs.kept_rules.Goals as goal
use Rattle.copies.proofs.kept_rules.Goals.{then-is_kept, else-is_kept}

pub loop-j-init : goal.loop-j-init
loop-j-init c = search (rules, keeping_start)

pub loop-j-preserved : goal.loop-j-preserved
loop-j-preserved c =
    elim c.if-is_kept.branch [
      | then-is_kept w ↦ rw (w.entries-is, w.kept-is) (search (rules, keeping_yes))
      | else-is_kept w ↦ rw (w.entries-is, w.kept-is) (search (rules, keeping_no))
    ]

pub returns : goal.returns
returns c = search (rules, keeping_end)

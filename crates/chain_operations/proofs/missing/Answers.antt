-- `chain_operations::missing` meets its contract, one law for each way through it.
use Rattle.sheet_check.proofs.Sheets.{sheet_low, sheet_small}
use Rattle.sequence_check.proofs.Entries.{sequence_long, sequence_low}
use Rattle.chain_operations.proofs.Finding.{still_room, missing_refused, missing_malformed, missing_low, missing_position, missing_none, missing_roomy, some_missing, missing_no_room, missing_put}
use borrow.Author.Rules.{rules}
use mathlib.Core.List.{[]}
use Rattle.chain_operations.proofs.missing.Goals as goal

pub returns-in_err-a : goal.returns-in_err-a
returns-in_err-a c = search (rules, missing_refused)

pub returns-in_err-check_entries : goal.returns-in_err-check_entries
returns-in_err-check_entries c = search (rules, missing_malformed, c.in_ok-a.ensures)

pub find_start-requires : goal.find_start-requires
find_start-requires c = let known = c.in_ok-a.ensures.value in search (rules, sheet_low, sheet_small, sequence_long, sequence_low, known, c.in_ok-check_entries.ensures)

pub returns-in_default : goal.returns-in_default
returns-in_default c = missing_none _ _ _ _ _ _ _ _ c.in_ok-a.ensures c.in_ok-check_entries.ensures c.in_default.ensures

pub returns-then-out-start : goal.returns-then-out-start
returns-then-out-start c = missing_no_room _ _ _ _ _ _ _ _ c.in_ok-a.ensures c.in_ok-check_entries.ensures _ c.in-Some.ensures c.if-out-start.true

pub put_missing-requires : goal.put_missing-requires
put_missing-requires c =
    let pre = c.requires in
    let asked = c.in_ok-a.ensures in
    let entries = c.in_ok-check_entries.ensures in
    let start = c.in-Some.ensures in
    (search rules, missing_roomy _ _ _ [] _ _ _ _ asked entries _ start pre.0 _ (still_room _ _ _ pre.1 (search rules)), missing_position _ _ _ [] _ _ _ _ asked entries pre.0, missing_low _ _ _ [] _ _ _ _ asked entries, some_missing _ _ _ [] _ _ _ _ asked entries _ start)

pub returns : goal.returns
returns c = missing_put _ _ _ _ _ _ _ _ c.in_ok-a.ensures c.in_ok-check_entries.ensures _ c.in-Some.ensures _ _ (search rules) c.put_missing.ensures

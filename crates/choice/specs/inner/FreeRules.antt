-- The rules of a count over the written atoms: a choice rule is one free rule (it applies only in states that hold its head).
use Rattle.std.specs.Prelude.{Bool, ◌||◌, List, map, eqb}
use Rattle.lists.specs.Lists.{filter}
use Rattle.sheet.specs.Sheet.{Record, rule_in}
use Rattle.search.specs.inner.Decided.{CountRule}

-- The record is a rule or a choice rule.
abbrev pub is_rule : Record → Bool
is_rule r = eqb r.kind 0 || eqb r.kind 2

-- Its rule of the count.
abbrev pub count_rule : Record → CountRule
count_rule r = record { rule = rule_in r; free = eqb r.kind 2 }

-- The rules of the count of records.
unfoldable pub free_rules : List Record → List CountRule
free_rules rs = map count_rule (filter is_rule rs)

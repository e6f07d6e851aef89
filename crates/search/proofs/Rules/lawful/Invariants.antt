-- `search::Rules::lawful` meets its contract, one law for each way through it.
use Rattle.search.proofs.Constraints.{Obeying}
use Rattle.search.proofs.Rules.lawful.Given as goal

abbrev pub invariant-loop-j : goal.invariant-loop-j
invariant-loop-j l = Obeying l.self.records.now l.x l.self.sizes.rules l.j

-- The three demands of a service with these limits, what a solver reads of its lparse text, and what its missing chains are, over the answers that it
-- allows to a call.
use mathlib.Core.List.{List, [], ◌∷◌, Memᴰ}
use Rattle.std.specs.Prelude.{◌↔◌, ◌≡◌, ℕ, ◌≤◌, ℤ, length, take}
use Rattle.asp.specs.Program.{Program, State}
use Rattle.asp.specs.AnswerSet.{IsAnswerSet}
use Rattle.asp.specs.Count.{verdict, Enumerates}
use Rattle.unfolding.specs.Chain.{Passes}
use Rattle.unfolding.specs.Missing.{ShortestMissing}
use Rattle.unfolding.specs.Unfolded.{NoPositiveLoop, unfolded}
use Rattle.unfolding.specs.Decoded.{read_unfolded, nameless}
use Rattle.unfolding.specs.Clauses.{Literal, Clause, variable_of, read_words}
use Rattle.unfolding.specs.Faithful.{clauses_of, variables_of}
use Rattle.sheet.specs.Questions.{AllYes, FirstNo}
use Rattle.sheet.specs.Format.{atoms_byte}
use Rattle.sheet.specs.Sequence.{entries}
use Rattle.sheet.specs.Sheet.{records, program}
use Rattle.sheet.specs.declared.Limits.{Limits}
use Rattle.choice.specs.Written.{ProjectedAnswerSet, WrittenFaithful}
use Rattle.lparse_format.specs.Program.{LparseProgram, lparse_program}
use Rattle.lparse_format.specs.Decoded.{read_lparse}
use Rattle.lparse_format.specs.Meaning.{SameModels}
use Rattle.operations.specs.Outcome.{Outcome, refused, answered}
use Rattle.operations.specs.Verdicts.{code}
use Rattle.operations.specs.Outputs.{default_output}
use Rattle.operations.specs.Questions.{sheet_questions}
use Rattle.operations.specs.Calls.{Call, with_sequence, Buffer, naturals, integers, describe, input_questions, questions, Service}
use Rattle.operations.specs.Calls as call

-- The first no refuses, by its number alone, and what is lent stays as it was; without a no the values are answered and the output is written.
pub data Decided (L : Limits) (c : Call) (o : Outcome) (b : Buffer) : Type 0 where
  refuses : (k : ℕ) → FirstNo (questions L c) k → o ≡ refused k → b ≡ (describe c).lent → Decided L c o b
  answers : AllYes (questions L c) → o ≡ answered (describe c).values → b ≡ (describe c).written → Decided L c o b

-- Demand 1: every call is decided so, whatever the sheet, the sequence and the buffer.
abbrev pub Demand1 : Limits → Service → Type 0
Demand1 L S = (c : Call) (o : Outcome) (b : Buffer) → S c o b → Decided L c o b

-- There is a list of exactly the states with the property, each once, and these are its length and the verdict on it.
pub record Counts (S : State → Type 0) (counted : List ℕ) : Type 0 where
  pub list : List State
  pub listed : Enumerates S list
  pub exact : (l : List State) → Enumerates S l → counted ≡ length l ∷ code (verdict (length l)) ∷ []

-- The count and the verdict of document 000: those of the answer sets, and of their different cuts to the n written atoms.
pub record AnswerSetsCounted (n : ℕ) (P : Program) (counted : List ℕ) : Type 0 where
  pub answer_sets : Counts (IsAnswerSet P) counted
  pub projections : Counts (ProjectedAnswerSet n P) counted

-- The words of the unfolded program that document 01 derives: read back they are it, and it has no positive loop.
pub record UnfoldedWords (s q words : List ℕ) : Type 0 where
  pub derived : read_unfolded words ≡ nameless (unfolded (program s) (entries q))
  pub no_loop : NoPositiveLoop (read_unfolded words)

-- The words of the clauses that document 01 derives, v variables and c clauses: read back they are these.
pub record ClauseWords (s q : List ℕ) (words : List ℤ) (v c : ℕ) : Type 0 where
  pub derived : read_words words ≡ clauses_of (program s) (entries q)
  pub variables : v ≡ variables_of (program s) (entries q)
  pub clauses : c ≡ length (read_words words)

-- Demand 2.
pub record Demand2 (L : Limits) (S : Service) : Type 0 where
  -- The count and the verdict on a sheet that counting does not refuse.
  pub counted : (s counted : List ℕ) (b : Buffer) → S (call.count s) (answered counted) b → AnswerSetsCounted (atoms_byte s) (program s) counted
  -- The l words of the unfolded program.
  pub unfolds : (s q old new : List ℕ) (l : ℕ) → S (call.unfolded s q old) (answered (l ∷ [])) (naturals new) → UnfoldedWords s q (take l new)
  -- The l words of its clauses, with the numbers of variables and of clauses.
  pub derives : (s q : List ℕ) (old new : List ℤ) (l v c : ℕ) → S (call.clauses s q old) (answered (l ∷ v ∷ c ∷ [])) (integers new)
      → ClauseWords s q (take l new) v c

-- A sheet and a sequence are accepted: no question that testing asks gets a no.
abbrev pub Accepted : Limits → List ℕ → List ℕ → Type 0
Accepted L s q = AllYes (questions L (call.test s q))

-- They come as far as the chain question.
abbrev pub AsFarAsChains : Limits → List ℕ → List ℕ → Type 0
AsFarAsChains L s q = AllYes (input_questions L (with_sequence s q))

-- The literals name variables from 1 to v.
abbrev pub Numbered : List Clause → ℕ → Type 0
Numbered cs v = (c : Clause) → Memᴰ c cs → (l : Literal) → Memᴰ l c → (1 ≤ variable_of l) × (variable_of l ≤ v)

-- Whatever is answered to the call, it is not 9 just when every chain is found in the sequence.
abbrev pub NineIsChains : Service → Call → List ℕ → List ℕ → Type 0
NineIsChains S c s q = (o : Outcome) (b : Buffer) → S c o b → (o ≡ refused 9 → ⊥) ↔ Passes (program s) (entries q)

-- Demand 3.
pub record Demand3 (L : Limits) (S : Service) : Type 0 where
  -- The models of the clauses derived, cut to the written atoms, are exactly the stable models cut to the same, one model for each, and the clauses
  -- name these variables alone.
  pub faithful : (s q : List ℕ) → Accepted L s q → WrittenFaithful (atoms_byte s) (program s) (entries q)
  pub numbered : (s q : List ℕ) → Accepted L s q → Numbered (clauses_of (program s) (entries q)) (variables_of (program s) (entries q))
  -- Where clauses are written, whatever the room, this holds of them: testing accepts, and the words' literals are numbered up to the v answered.
  pub accepted : (s q : List ℕ) (old new : List ℤ) (l v c : ℕ) → S (call.clauses s q old) (answered (l ∷ v ∷ c ∷ [])) (integers new) → Accepted L s q
  pub written : (s q : List ℕ) (old new : List ℤ) (l v c : ℕ) → S (call.clauses s q old) (answered (l ∷ v ∷ c ∷ [])) (integers new)
      → Numbered (read_words (take l new)) v
  -- The chain question, in every operation that asks it, whatever the room.
  pub tested : (s q : List ℕ) → AsFarAsChains L s q → NineIsChains S (call.test s q) s q
  pub unfolds : (s q old : List ℕ) → AsFarAsChains L s q → NineIsChains S (call.unfolded s q old) s q
  pub derives : (s q : List ℕ) (old : List ℤ) → AsFarAsChains L s q → NineIsChains S (call.clauses s q old) s q

-- What a solver reads of a sheet: the rules, the symbol table, B+ and B- of document 02, W3; and by the published meaning of the format their stable
-- models are those of the sheet, over the written atoms, each once.
pub record SolverReads (s : List ℕ) (E : LparseProgram) : Type 0 where
  pub exported : E ≡ lparse_program (atoms_byte s) (records s)
  pub models : SameModels (atoms_byte s) (program s) E

-- The text that a call answers as written, its l bytes, read back, is such a program.
abbrev pub TextForSolvers : Service → Type 0
TextForSolvers S = (s old new : List ℕ) (l : ℕ) → S (call.lparse s old) (answered (l ∷ [])) (naturals new) → SolverReads s (read_lparse (take l new))

-- The missing chains that a service answers (document 02, W4).
pub record MissingChains (S : Service) : Type 0 where
  -- The l bytes written are the shortest chain that is not found in the sequence, and among equals the one whose first differing atom is smallest.
  pub shortest : (s q old new : List ℕ) (l : ℕ) → S (call.missing s q old) (answered (l ∷ [])) (naturals new)
      → ShortestMissing (program s) (entries q) (take l new)
  -- Whatever the room, 14 is answered just when testing passes.
  pub fourteen : (s q old : List ℕ) (o t : Outcome) (b c : Buffer) → S (call.missing s q old) o b → S (call.test s q) t c
      → (o ≡ refused 14) ↔ (t ≡ answered [])

-- Questions 8, 16 and 9 never stop the default sequence.
abbrev pub DefaultAccepted : Limits → Type 0
DefaultAccepted L = (s : List ℕ) → AllYes (sheet_questions L s) → Accepted L s (default_output s)

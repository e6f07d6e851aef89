-- What is proved of the definitions; `proofs/Claims.antt` has the proof of each.
use Rattle.std.specs.Prelude.{true, false, ◌↔◌, ◌≢◌, ◌≡◌, ℕ, ◌≤◌, ◌<◌}
use mathlib.Core.List.{List, [], Memᴰ, Sublistᴰ}
use Rattle.lists.specs.Lists.{below}
use Rattle.asp.specs.Program.{Body, Program, State, well_formed}
use Rattle.unfolding.specs.Graph.{edge, reach, same_component, component}
use Rattle.unfolding.specs.Component.{Component}
use Rattle.unfolding.specs.Chain.{Chain, Passes, chains, passes}
use Rattle.unfolding.specs.Missing.{missing_chain, ShortestMissing}
use Rattle.unfolding.specs.Default.{default_sequence}
use Rattle.unfolding.specs.Unfolded.{Copy, NoPositiveLoop, unfolded, words}
use Rattle.unfolding.specs.Decoded.{read_unfolded, nameless, named}
use Rattle.unfolding.specs.Clauses.{Literal, Clause, variable_of, signed_words, read_words}
use Rattle.unfolding.specs.Faithful.{Assignment, is_model, clauses_of, variables_of, Faithful}
use Rattle.unfolding.specs.Shortened.{Shortened}
use Rattle.unfolding.specs.Lengthened.{LaterCopiesTrue}

-- The relation is reflexive and closed under edges, for every start a among the atoms.
pub record AlongEdges (P : Program) (R : ℕ → ℕ → Type 0) : Type 0 where
  pub reflexive : (a : ℕ) → a < P.atoms → R a a
  pub closed : (a b c : ℕ) → a < P.atoms → R a b → edge P b c ≡ true → R a c

-- Reach is such a relation, and lies in every other.
pub record LeastAlongEdges (P : Program) : Type 1 where
  pub along : AlongEdges P (λ a b. reach P a b ≡ true)
  pub least : (R : ℕ → ℕ → Type 0) → AlongEdges P R → (a b : ℕ) → a < P.atoms → reach P a b ≡ true → R a b

abbrev pub ReachIsLeast : Type 1
ReachIsLeast = (P : Program) → well_formed P ≡ true → LeastAlongEdges P

-- Every atom is in just one component.
pub record OneComponent (P : Program) (a : ℕ) : Type 0 where
  pub own : Component P (same_component P a)
  pub holds_it : same_component P a a ≡ true
  pub only : (C : State) → Component P C → C a ≡ true → C ≡ same_component P a

abbrev pub EveryAtomInOne : Type 0
EveryAtomInOne = (P : Program) → well_formed P ≡ true → (a : ℕ) → a < P.atoms → OneComponent P a

-- A component is named by its smallest atom.
pub record Smallest (P : Program) (a : ℕ) : Type 0 where
  pub inside : same_component P a (component P a) ≡ true
  pub smallest : (b : ℕ) → same_component P a b ≡ true → component P a ≤ b

abbrev pub NamedBySmallest : Type 0
NamedBySmallest = (P : Program) → well_formed P ≡ true → (a : ℕ) → a < P.atoms → Smallest P a

-- The listed chains are the chains, and the test of a sequence says whether every chain is found in it.
abbrev pub ChainsAreListed : Type 0
ChainsAreListed = (P : Program) → well_formed P ≡ true → (w : List ℕ) → Memᴰ w (chains P) ↔ Chain P w

abbrev pub TestIsPasses : Type 0
TestIsPasses = (P : Program) → well_formed P ≡ true → (s : List ℕ) → (passes P s ≡ true) ↔ Passes P s

-- A missing chain is there just when the test says no; it is the shortest, and among equals the first; and no other list is.
abbrev pub MissingIsThere : Type 0
MissingIsThere = (P : Program) → well_formed P ≡ true → (s : List ℕ) → (missing_chain P s ≢ []) ↔ (passes P s ≡ false)

abbrev pub MissingIsShortest : Type 0
MissingIsShortest = (P : Program) → well_formed P ≡ true → (s : List ℕ) → passes P s ≡ false → ShortestMissing P s (missing_chain P s)

abbrev pub ShortestIsOnly : Type 0
ShortestIsOnly = (P : Program) → well_formed P ≡ true → (s w : List ℕ) → ShortestMissing P s w → w ≡ missing_chain P s

-- The default sequence passes.
abbrev pub DefaultPasses : Type 0
DefaultPasses = (P : Program) → well_formed P ≡ true → Passes P (default_sequence P)

-- The unfolded program has no positive loop, whatever the sequence of atoms.
abbrev pub UnfoldedHasNoLoop : Type 0
UnfoldedHasNoLoop = (P : Program) → well_formed P ≡ true → (s : List ℕ) → below P.atoms s ≡ true → NoPositiveLoop (unfolded P s)

-- The words of the unfolded program, read back, are the unfolded program, and so have no positive loop; its copies' atoms are the entries.
abbrev pub WordsAreUnfolded : Type 0
WordsAreUnfolded = (P : Program) (s : List ℕ) → read_unfolded (words (unfolded P s)) ≡ nameless (unfolded P s)

abbrev pub WordsHaveNoLoop : Type 0
WordsHaveNoLoop = (P : Program) → well_formed P ≡ true → (s : List ℕ) → below P.atoms s ≡ true → NoPositiveLoop (read_unfolded (words (unfolded P s)))

abbrev pub AtomsAreEntries : Type 0
AtomsAreEntries = (P : Program) (s : List ℕ) → named s (nameless (unfolded P s)).copies ≡ (unfolded P s).copies

-- Dropping rules that read a copy without a rule only shortens the unfolded program, and no kept rule reads such a copy of its own component.
abbrev pub UnfoldedIsShortened : Type 0
UnfoldedIsShortened = (P : Program) (s : List ℕ) → Shortened P s

abbrev pub ReadsKeptCopies : Type 0
ReadsKeptCopies = (P : Program) → well_formed P ≡ true → (s : List ℕ) → below P.atoms s ≡ true
    → (c d : Copy) → Memᴰ c (unfolded P s).copies → Memᴰ d (unfolded P s).copies → same_component P c.atom d.atom ≡ true
    → (b : Body) → Memᴰ b c.kept → Memᴰ d.var b.pos → d.kept ≢ []

-- A program and a sequence of its atoms that passes.
pub record Accepted (P : Program) (s : List ℕ) : Type 0 where
  pub program : well_formed P ≡ true
  pub entries : below P.atoms s ≡ true
  pub found : Passes P s

-- Demand 3.
abbrev pub ClausesAreFaithful : Type 0
ClausesAreFaithful = (P : Program) (s : List ℕ) → Accepted P s → Faithful P s

-- The clauses name the variables from 1 to the number of variables only, and their words, split at 0, give them back.
abbrev pub LiteralsAreNumbered : Type 0
LiteralsAreNumbered = (P : Program) (s : List ℕ) → Accepted P s → (c : Clause) → Memᴰ c (clauses_of P s) → (l : Literal) → Memᴰ l c
    → (1 ≤ variable_of l) × (variable_of l ≤ variables_of P s)

abbrev pub WordsAreClauses : Type 0
WordsAreClauses = (P : Program) (s : List ℕ) → Accepted P s → read_words (signed_words (clauses_of P s)) ≡ clauses_of P s

-- Where every chain is found, it is found in every sequence with entries inserted.
abbrev pub LengthenedPasses : Type 0
LengthenedPasses = (P : Program) (s longer : List ℕ) → Sublistᴰ s longer → Passes P s → Passes P longer

-- In each model an atom's later copies are true where an earlier one is, whatever the sequence.
abbrev pub CopiesGrow : Type 0
CopiesGrow = (P : Program) → well_formed P ≡ true → (s : List ℕ) (M : Assignment) → is_model M (clauses_of P s) ≡ true → LaterCopiesTrue (unfolded P s).copies M

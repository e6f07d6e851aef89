-- Laws of the questions about the graph of records.
use mathlib.Core.Bool.{◌&&◌}
use mathlib.Core.List.{List}
use mathlib.Core.Path.{◌≡◌, refl, sym, ◌∙◌, ap}
use Prim.Native.Nat.{ℕ, ◌≤◌, ◌<◌}
use native.Mathlib.Omega.{arith}
use borrow.Author.Tests.{le-leb, lt-leb}
use lib.Dec.{leb}
use Rattle.sheet.specs.Questions.{ask}
use Rattle.sheet.specs.Sheet.{program_of}
use Rattle.sheet.specs.declared.Limits.{Limits}
use Rattle.sheet.proofs.Questions.{ask_no, ask_yes}
use Rattle.translation.specs.inner.Records.{Records, records_in}
use Rattle.translation.specs.inner.Linked.{EdgesIn}
use Rattle.components.specs.Limit.{components_fit}
use Rattle.components.specs.inner.Reachability.{names_fit, Largest, ComponentsOf, GraphOf}
use Rattle.components.proofs.Graphs.{fits_same}
use Rattle.choice.proofs.Expanded.{expanded_formed}
use Rattle.operations.proofs.Questions.{graph_parted}
use Rattle.sheet_check.specs.inner.Checked.{Expands, sizes_refusal, GraphChecked}
use Rattle.sheet_check.specs.declared.SheetNumbers.{SheetNumbers}

-- The sizes of components, each way.
module _ (L : Limits) (n k : ℕ) where
  pub sizes_large : L.component < k → 7 ≡ sizes_refusal L n k
  unfolding sizes_refusal
  sizes_large l = sym (ask_no (lt-leb k L.component l) 7 _ (λ e. omega arith))

  module _ (l : k ≤ L.component) where
    behind_seven : sizes_refusal L n k ≡ ask (leb n L.taken.atoms && leb k L.taken.component) 15
    unfolding sizes_refusal
    behind_seven = ask_yes (le-leb k L.component l) 7 _

    pub sizes_many : L.taken.atoms < n → 15 ≡ sizes_refusal L n k
    unfolding ask
    sizes_many m = sym (behind_seven ∙ rw (lt-leb n L.taken.atoms m) refl)

    pub sizes_wide : n ≤ L.taken.atoms → L.taken.component < k → 15 ≡ sizes_refusal L n k
    unfolding ask
    sizes_wide m w = sym (behind_seven ∙ rw (le-leb n L.taken.atoms m, lt-leb k L.taken.component w) refl)

    pub sizes_fine : n ≤ L.taken.atoms → k ≤ L.taken.component → 0 ≡ sizes_refusal L n k
    unfolding ask
    sizes_fine m w = sym (behind_seven ∙ rw (le-leb n L.taken.atoms m, le-leb k L.taken.component w) refl)

-- The graph of records that can be made a program.
module _ (t : Records) (r : SheetNumbers) (E : Expands t r) where
  pub graph_checked : (L : Limits) (es cs ss : List ℕ) → EdgesIn r.written t es → GraphOf r.atoms es cs ss → (k : ℕ) → Largest r.atoms ss k
      → (refusal : ℕ) → refusal ≡ sizes_refusal L r.atoms k → GraphChecked L r.written (records_in t) es cs ss refusal
  unfolding sizes_refusal program_of
  graph_checked L es cs ss D G k K refusal e =
      let P = program_of r.written (records_in t) in
      let atoms : P.atoms ≡ r.atoms = sym E.atoms in
      let graph : ComponentsOf P cs ss = G.is P (expanded_formed r.written (records_in t) E.expandable.sound) atoms D in
      let fits : (most : ℕ) → leb k most ≡ components_fit most P =
      λ most. K.is cs (rw (sym atoms) graph.grouped) most ∙ (ap (names_fit most cs) (sym atoms) ∙ fits_same P cs graph.named most)
      in
      record {
        says = e ∙ sym (graph_parted L P ∙ sym (rw (fits L.component, fits L.taken.component, E.atoms) refl));
        edged = D;
        graph = graph;
      }

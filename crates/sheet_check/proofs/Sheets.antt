-- Laws of all questions about a sheet: those about the bytes and the records, then those about the graph.
use mathlib.Core.Bool.{true}
use mathlib.Core.List.{List}
use mathlib.Core.Path.{◌≡◌, refl, sym, ◌∙◌, ap, subst}
use Prim.Native.Nat.{ℕ, ◌^◌, ◌≤◌, ◌<◌}
use lib.Pow.{pow_mono}
use native.Mathlib.Omega.{arith}
use borrow.Author.Tests.{ltb-true}
use lib.Dec.{eqb, ltb}
use lib.ListN.{length, get_or}
use Rattle.lists.proofs.Bools.{by_bool}
use Rattle.lists.proofs.Members.{range_in}
use Rattle.unfolding.specs.Default.{members}
use Rattle.bits.specs.inner.Visited.{listed}
use Rattle.std.proofs.Common.{Result, Ok, Err}
use Rattle.refusals.specs.declared.Refusal.{Refusal}
use Rattle.refusals.specs.Numbers.{number}
use Rattle.refusals.proofs.Asking.{number_positive, asked_value, asked_refusal}
use Rattle.sheet.specs.Sheet.{program_of, program}
use Rattle.sheet.specs.declared.Limits.{Limits}
use Rattle.sheet.proofs.Questions.{then_refused, then_zero}
use Rattle.translation.specs.inner.Records.{held, records_in}
use Rattle.components.specs.Limit.{components_fit}
use Rattle.components.specs.inner.Reachability.{EdgesOf, ComponentsOf, SetsOf, named}
use Rattle.components.proofs.Naming.{sets_named}
use Rattle.components.proofs.Graphs.{fits_members, named_members}
use Rattle.chains.specs.inner.Components.{Graph, Small}
use Rattle.choice.proofs.Sheets.{program_formed}
use Rattle.operations.specs.Requirements.{Supported}
use Rattle.operations.specs.inner.Refusals.{bytes_refusal, graph_refusal, sheet_refusal}
use Rattle.operations.proofs.Questions.{sheet_parted, sheet_passed}
use Rattle.sheet_check.specs.inner.Checked.{BytesChecked, Expands, GraphChecked, SheetAccepted, SheetPassed, SheetChecked, RecordsPassed, RecordsChecked}
use Rattle.sheet_check.specs.declared.SheetNumbers.{SheetNumbers}
use Rattle.sheet_check.proofs.Bytes.{kept_program, kept_expands}

module _ (L : Limits) (s t : List ℕ) where
  pub checked_bytes : (es cs ss : List ℕ) (e : Refusal) → BytesChecked L s t (Err e) → RecordsChecked L s t es cs ss (Err e)
  checked_bytes es cs ss e B =
      let p = number_positive e in
      let f = B.says in
      asked_refusal _ (RecordsPassed L s t es cs ss) e (f ∙ sym (sheet_parted L s ∙ then_refused (bytes_refusal L s) _ (λ z. omega arith)))

  module _ (S : Supported L) (r : SheetNumbers) (B : BytesChecked L s t (Ok r)) where
    pub checked_expands : Expands (held r.records t) r
    checked_expands = kept_expands L s S t r B.value.accepted B.value.kept

    module _ (es cs ss : List ℕ) (q : ℕ) (G : GraphChecked L r.written (records_in (held r.records t)) es cs ss q) where
      same : program_of r.written (records_in (held r.records t)) ≡ program s
      same = kept_program L s S t r B.value.accepted B.value.kept

      says : q ≡ sheet_refusal L s
      says = G.says ∙ (ap (graph_refusal L) same ∙ sym (sheet_parted L s ∙ then_zero (bytes_refusal L s) _ (sym B.says)))

      pub checked_graph : (e : Refusal) → q ≡ number e → RecordsChecked L s t es cs ss (Err e)
      checked_graph e f = asked_refusal _ (RecordsPassed L s t es cs ss) e (sym f ∙ says)

      pub checked_fine : q ≡ 0 → RecordsChecked L s t es cs ss (Ok r)
      checked_fine y =
          let P = sheet_passed L s (sym says ∙ y) in
          asked_value _ (RecordsPassed L s t es cs ss) r (sym y ∙ says)
          record {
            sheet = record {
              accepted = record {
                bytes = B.value.accepted;
                graph = subst (λ P. ComponentsOf P cs ss) same G.graph;
                limit = P.components;
                taken = P.taken_components;
              };
              edged = subst (λ P. EdgesOf P es) same G.edged;
            };
            kept = B.value.kept;
          }

  -- The records are not needed.
  pub checked_sheet : (es cs ss : List ℕ) (r : Result SheetNumbers Refusal) → RecordsChecked L s t es cs ss r → SheetChecked L s es cs ss r
  checked_sheet es cs ss (Ok r) R = record { says = R.says; value = R.value.sheet }
  checked_sheet es cs ss (Err e) R = record { says = R.says; value = tt }

-- A sheet that is accepted.
module _ (L : Limits) (s cs ss : List ℕ) (r : SheetNumbers) (A : SheetAccepted L s cs ss r) where
  grouped_here : SetsOf cs r.atoms ss
  grouped_here = rw A.bytes.atoms A.graph.grouped

  -- The set of a component's name lists its members.
  pub set_members : (c : ℕ) → c < r.atoms → listed (get_or ss c 0) ≡ members (program s) c
  set_members c l =
      let low = A.bytes.low in
      sets_named cs r.atoms ss grouped_here low c (omega arith)
      ∙ (ap (named cs c) A.bytes.atoms ∙ named_members (program s) cs A.graph.named c)

  -- How many there are at most, by a limit of components.
  members_few : (most : ℕ) → components_fit most (program s) ≡ true → (c : ℕ) → c < r.atoms → length (listed (get_or ss c 0)) ≤ most
  members_few most fits c l =
      let e = ap length (set_members c l) in
      let a = A.bytes.atoms in
      let m = fits_members (program s) most fits c (range_in 0 (program s).atoms c (omega arith) (omega arith)) in
      omega arith

  components_small : Supported L → (rows : ℕ) → 2 ^ L.taken.component ≤ rows → Small r.atoms ss rows
  components_small S rows T =
      record {
        few = λ c l.
            let k = S.component in
            let m = members_few L.component A.limit c l in
            let w = pow_mono {i = length (listed (get_or ss c 0))} {j = L.taken.component} (members_few L.taken.component A.taken c l) in
            record { few = omega arith; room = omega arith };
      }

  pub graph_here : (es : List ℕ) → EdgesOf (program s) es → Graph (program s) r.atoms es ss
  graph_here es E =
      let low = A.bytes.low in
      let a = A.bytes.atoms in
      record {
        size = sym a;
        edged = record { formed = program_formed L s A.bytes.form; low = omega arith; edges = E.bits };
        grouped = λ c h. record {
          members = λ b. A.graph.grouped.members c h b
              ∙ by_bool (ltb b (program s).atoms) (λ t. rw t (ap (λ x. eqb x c) (A.graph.named.name b (ltb-true b (program s).atoms t)))) (λ f. rw f refl);
        };
      }

-- Behind the questions about a sheet.
module _ (L : Limits) (s es cs ss : List ℕ) (a : SheetNumbers) (A : SheetPassed L s es cs ss a) where
  pub sheet_low : a.atoms ≤ 64
  sheet_low = A.accepted.bytes.low

  pub sheet_small : Supported L → (rows : ℕ) → 2 ^ L.taken.component ≤ rows → Small a.atoms ss rows
  sheet_small = components_small L s cs ss a A.accepted

  pub sheet_graph : Graph (program s) a.atoms es ss
  sheet_graph = graph_here L s cs ss a A.accepted es A.edged

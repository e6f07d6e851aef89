-- From an answer to the numbers that C sees: a success stores its values, and a refusal nothing.
use mathlib.Core.List.{List}
use mathlib.Core.Path.{◌≡◌, sym, ◌∙◌, ap}
use Prim.Native.Nat.{ℕ}
use Rattle.std.proofs.Common.{Result, Ok, Err}
use Rattle.refusals.specs.declared.Refusal.{Refusal}
use Rattle.refusals.specs.Numbers.{number}
use Rattle.operations.specs.Outcome.{from_result}
use Rattle.interface.specs.Exported.{status, stored, Stores}

module _ {A : Type 0} (values : A → List ℕ) (answer : Result A Refusal) (old : List ℕ) where
  pub stores_values : (x : A) (new : List ℕ) → answer ≡ Ok x → new ≡ values x → Stores (from_result values answer) 0 old new
  unfolding status stored
  stores_values x new e v =
      record { returns = sym (ap (λ r. status (from_result values r)) e); numbers = v ∙ sym (ap (λ r. stored (from_result values r) old) e) }

  pub stores_refusal : (e : Refusal) (k : ℕ) → answer ≡ Err e → k ≡ number e → Stores (from_result values answer) k old old
  unfolding status stored
  stores_refusal e k is n =
      record { returns = n ∙ sym (ap (λ r. status (from_result values r)) is); numbers = sym (ap (λ r. stored (from_result values r) old) is) }

-- From an operation's promise, and what was stored of its answer, to the promise of its function in a C interface, for any limits.
use mathlib.Core.List.{List, [], append-nil}
use mathlib.Core.Path.{◌≡◌, refl, sym, ◌∙◌, ap, subst}
use Prim.Native.Nat.{ℕ}
use native.Mathlib.Omega.{arith}
use borrow.Author.Tests.{eq-eqb}
use Rattle.std.proofs.Common.{Result, Ok, Err}
use Rattle.refusals.specs.declared.Refusal.{Refusal}
use Rattle.refusals.specs.Numbers.{number}
use Rattle.refusals.proofs.Asking.{number_positive}
use Rattle.sheet.specs.declared.Limits.{Limits}
use Rattle.operations.specs.Outcome.{Outcome, answered, outcome}
use Rattle.operations.specs.Outputs.{body_start, body_end, body_positives}
use Rattle.operations.specs.Calls.{Call, Buffer, nothing, describe, outcome_of, left, Promised}
use Rattle.operations.specs.Calls as call
use Rattle.operations.specs.Bodies.{body_refusal, body_place, FindPromise}
use Rattle.operations.specs.inner.Refusals.{call_refusal}
use Rattle.operations.specs.declared.BodyPlace.{BodyPlace}
use Rattle.operations.proofs.Promises.{outcome_refused, outcome_answered, refused_is, answered_is}
use Rattle.interface.specs.Exported.{Stores, from_shown}
use Rattle.interface.specs.Seen.{place_numbers, Returned}

module _ (L : Limits) (r : ℕ) (before after : List ℕ) where
  -- What is stored of an answer is stored of the outcome that it stands for.
  stores_of : {a o : Outcome} → a ≡ o → Stores a r before after → Stores o r before after
  stores_of e S = subst (λ o. Stores o r before after) e S

  -- Every call but showing a body stores its values alone.
  pub returned : (c : Call) (o : Outcome) (b : Buffer) → place_numbers c ≡ [] → Promised L c o b → Stores o r before after → Returned L c r before after b
  unfolding outcome_of
  returned c o b alone P S =
      record { stores = stores_of (P.says ∙ ap (outcome (call_refusal L c)) (sym (rw (alone, append-nil) refl))) S; leaves = P.leaves }

  pub body_returned : (i : ℕ) (s : List ℕ) (place : Result BodyPlace Refusal) → FindPromise L i s place → Stores (from_shown place) r before after
      → Returned L (call.body i s) r before after nothing
  unfolding describe outcome_of left body_place outcome
  body_returned i s (Err e) F S =
      let known = refused_is (body_refusal L i s) _ (number e) F.is in
      record { stores = stores_of (outcome_refused (body_refusal L i s) (number e) _ known.0 (λ z. let p = number_positive e in omega arith)) S; leaves = sym (rw known.1 refl) }
  body_returned i s (Ok p) F S =
      let known = answered_is (body_refusal L i s) _ _ F.is in
      let vs = known.1 in
      let a : p.start ≡ body_start i s = cc in
      let e : p.end ≡ body_end i s = cc in
      let k : p.positives ≡ body_positives i s = cc in
      record {
        stores = stores_of (ap answered (rw (a, e, k) refl) ∙ outcome_answered (body_refusal L i s) _ known.0) S;
        leaves = sym (rw (eq-eqb (body_refusal L i s) 0 known.0) refl);
      }

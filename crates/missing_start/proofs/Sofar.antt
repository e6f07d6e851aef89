-- Laws of the start in the components so far.
use mathlib.Core.Bool.{Bool, true}
use mathlib.Core.List.{List, ◌∷◌, Sublistᴰ}
use mathlib.Core.Logic.{◌⊎◌, inl, inr, ⊎_elim}
use mathlib.Core.Path.{◌≡◌, refl, sym, ◌∙◌}
use Prim.Native.Nat.{ℕ, ◌+◌, ◌≤◌, ◌<◌}
use native.Mathlib.Omega.{arith}
use borrow.Author.Tests.{eqb-true, eqb-false}
use lib.Dec.{eqb}
use lib.ListN.{length, get_or, take}
use lib.Seq.{get_or-take}
use Rattle.std.specs.Prelude.{Option, Some, None}
use Rattle.std.proofs.lemmas.List.{length-take}
use Rattle.lists.proofs.Bools.{by_bool}
use Rattle.asp.specs.Program.{Program}
use Rattle.unfolding.specs.Graph.{component}
use Rattle.unfolding.specs.Chain.{Chain}
use Rattle.unfolding.proofs.Reach.{same_refl, component_smallest}
use Rattle.bits.specs.inner.Sets.{Gathered, Subset, Size}
use Rattle.chains.specs.inner.Components.{Graph}
use Rattle.chains.proofs.Components.{set_alone}
use Rattle.starts.specs.declared.Start.{Start}
use Rattle.starts.specs.inner.Starts.{Begins, StartIn, ComponentStart, NotBehind, Earlier}
use Rattle.starts.proofs.Starts.{start_none}
use Rattle.missing_start.specs.inner.StartOf.{Improved, StartOf}

module _ (P : Program) (s : List ℕ) where
  -- A start stays where the other chains that come before it are found.
  begins_with : (C D : ℕ → Type 0) (a : Start) → Begins P s C a → ((b : ℕ) (w : List ℕ) → D b → Chain P (b ∷ w) → length (b ∷ w) < a.length → Sublistᴰ (b ∷ w) s)
      → ((b : ℕ) (w : List ℕ) → D b → Chain P (b ∷ w) → length (b ∷ w) ≡ a.length → b < a.atom → Sublistᴰ (b ∷ w) s) → Begins P s (λ b. C b ⊎ D b) a
  begins_with C D a A shorter lower =
      record {
        shorter = λ b w. ⊎_elim (A.shorter b w) (shorter b w);
        lower = λ b w. ⊎_elim (A.lower b w) (lower b w);
        lacks = A.lacks;
        low = A.low;
        whole = A.whole;
      }

  begins_narrow : (C D : ℕ → Type 0) (a : Start) → ((b : ℕ) → D b → C b) → Begins P s C a → Begins P s D a
  begins_narrow C D a h A = record { shorter = λ b w d. A.shorter b w (h b d); lower = λ b w d. A.lower b w (h b d); lacks = A.lacks; low = A.low; whole = A.whole }

  start_narrow : (C D : ℕ → Type 0) (r : Option Start) → ((b : ℕ) → D b → C b) → StartIn P s C r → StartIn P s D r
  start_narrow C D r h A = record { none = λ e b w d. A.none e b w (h b d); some = λ a e. begins_narrow C D a h (A.some a e) }

  -- So it does where all other chains are found.
  start_with : (C D : ℕ → Type 0) (r : Option Start) → StartIn P s C r → ((b : ℕ) (w : List ℕ) → D b → Chain P (b ∷ w) → Sublistᴰ (b ∷ w) s) → StartIn P s (λ b. C b ⊎ D b) r
  start_with C D r A all =
      record {
        none = λ e b w. ⊎_elim (A.none e b w) (all b w);
        some = λ a e. begins_with C D a (A.some a e) (λ b w d G l. all b w d G) (λ b w d G i l. all b w d G);
      }

  -- Chains that come before a start are found where their own start is not before it.
  ahead_shorter : (D : ℕ → Type 0) (x : Start) (r : Option Start) → StartIn P s D r → ((y : Start) → r ≡ Some y → NotBehind x y)
      → (b : ℕ) (w : List ℕ) → D b → Chain P (b ∷ w) → length (b ∷ w) < x.length → Sublistᴰ (b ∷ w) s
  ahead_shorter D x None B n b w d G l = B.none refl b w d G
  ahead_shorter D x (Some y) B n b w d G l = (B.some y refl).shorter b w d G (⊎_elim (λ h. omega arith) (λ h. let e = h.0 in omega arith) (n y refl))

  ahead_lower : (D : ℕ → Type 0) (x : Start) (r : Option Start) → StartIn P s D r → ((y : Start) → r ≡ Some y → NotBehind x y)
      → (b : ℕ) (w : List ℕ) → D b → Chain P (b ∷ w) → length (b ∷ w) ≡ x.length → b < x.atom → Sublistᴰ (b ∷ w) s
  ahead_lower D x None B n b w d G e l = B.none refl b w d G
  ahead_lower D x (Some y) B n b w d G e l =
      ⊎_elim (λ h. (B.some y refl).shorter b w d G (omega arith)) (λ h. let g = h.0 in let i = h.1 in (B.some y refl).lower b w d G (omega arith) (omega arith)) (n y refl)

  start_earlier : (C D : ℕ → Type 0) (a b r : Option Start) → StartIn P s C a → StartIn P s D b → Earlier a b r → StartIn P s (λ y. C y ⊎ D y) r
  start_earlier C D a b r A B E =
      record {
        none = λ e y w. ⊎_elim (A.none (E.none e).0 y w) (B.none (E.none e).1 y w);
        some = λ x e. ⊎_elim
            (λ h. begins_with C D x (A.some x (sym h ∙ e)) (ahead_shorter D x b B (λ y i. E.first x y e (inr i))) (ahead_lower D x b B (λ y i. E.first x y e (inr i))))
            (λ h. begins_narrow (λ y. D y ⊎ C y) (λ y. C y ⊎ D y) x (λ y. ⊎_elim inr inl)
            (begins_with D C x (B.some x (sym h ∙ e)) (ahead_shorter C x a A (λ y i. E.first x y e (inl i))) (ahead_lower C x a A (λ y i. E.first x y e (inl i)))))
            E.either;
      }

-- One component more.
module _ (best : Option Start) (rows : List ℕ) (x : ℕ) (s : List ℕ) where
  below_or : (P : Program) (c b : ℕ) → component P b < c + 1 → (component P b < c) ⊎ (component P b ≡ c)
  below_or P c b l = by_bool (eqb (component P b) c) (λ e. inr (eqb-true (component P b) c e)) (λ e. let ne = eqb-false (component P b) c e in inl (omega arith))

  -- An atom alone that stands in the sequence.
  pub improved_found : (size entries : ℕ) (b : Bool) → Gathered s entries → Size x size → size ≤ 1 → Subset x entries b → b ≡ true → Improved best rows x s best
  improved_found size entries b A Z one T e =
      record {
        is = λ P c G M B.
            let all = ((set_alone rows s x size entries b Z one A T).is P c G M).is.0 e in
            start_narrow P s (λ b. (component P b < c) ⊎ (component P b ≡ c)) (λ b. component P b < c + 1) best (below_or P c)
            (start_with P s (λ b. component P b < c) (λ b. component P b ≡ c) best B (λ b w d C. all b w C d));
      }

  pub improved_lacking : (a r : Option Start) → ComponentStart rows x s a → Earlier best a r → Improved best rows x s r
  improved_lacking a r A E =
      record {
        is = λ P c G M B.
            start_narrow P s (λ b. (component P b < c) ⊎ (component P b ≡ c)) (λ b. component P b < c + 1) r (below_or P c)
            (start_earlier P s (λ b. component P b < c) (λ b. component P b ≡ c) best a r B (A.is P c G M) E);
      }

-- The start in the components named below c.
pub record StartSofar (n : ℕ) (rows sets s : List ℕ) (c : ℕ) (r : Option Start) : Type 0 where
  pub is : (P : Program) → Graph P n rows sets → StartIn P s (λ b. component P b < c) r

module _ (n : ℕ) (rows sets s : List ℕ) where
  pub sofar_start : StartSofar n rows sets s 0 None
  sofar_start = record { is = λ P G. start_none P s (λ b. component P b < 0) (λ b w l. absurd (omega arith)) }

  pub sofar_turn : (c : ℕ) (old new : Option Start) → StartSofar n rows sets s c old → c < length (take n sets) → n ≤ 64 → Improved old rows (get_or (take n sets) c 0) s new
      → StartSofar n rows sets s (c + 1) new
  sofar_turn c old new F l h I =
      let within : c < n = omega (arith, length-take n sets) in
      record { is = λ P G. I.is P c G.edged (rw (get_or-take n sets c 0 within) (G.grouped c (omega arith))) (F.is P G) }

  pub sofar_end : (c : ℕ) (r : Option Start) → StartSofar n rows sets s c r → length (take n sets) ≤ c → n ≤ length sets → StartOf n rows sets s r
  sofar_end c r F l m =
      let end : n ≤ c = omega (arith, length-take n sets) in
      record {
        is = λ P G.
            start_narrow P s (λ b. component P b < c) (λ b. b < P.atoms) r
            (λ b low. let h = component_smallest P G.edged.formed b b low (same_refl P G.edged.formed b low) in let e = G.size in omega arith) (F.is P G);
      }

-- Chains from their first atom: how the chains found grow with one entry more in front of a sequence.
use mathlib.Core.Bool.{true}
use mathlib.Core.List.Memᴰ
use mathlib.Core.List.Sublistᴰ
use mathlib.Core.List.{List, [], ◌∷◌, Memᴰ, cons≢nil}
use mathlib.Core.Logic.{⊎_elim}
use mathlib.Core.Path.{◌≡◌, refl, sym, subst}
use Prim.Native.Nat.{ℕ, ◌<◌}
use Rattle.lists.proofs.Bools.{and_intro, and_left}
use Rattle.lists.proofs.Members.{all_intro}
use Rattle.lists.proofs.Nodup.{nodup_head}
use Rattle.lists.proofs.Sublists.{sublist_tail}
use Rattle.asp.specs.Program.{Program, well_formed}
use Rattle.unfolding.specs.Graph.{edge, same_component}
use Rattle.unfolding.specs.Chain.{linked, Chain}
use Rattle.unfolding.specs.inner.Started.{Started}
use Rattle.unfolding.proofs.Reach.{same_trans}
use Rattle.unfolding.proofs.Chains.{component_at, chain_tail, chain_one, chain_cons}

module _ (P : Program) where
  -- What the first atom of a chain is to the second.
  pub chain_edge : (x b : ℕ) (w : List ℕ) → Chain P (x ∷ b ∷ w) → edge P x b ≡ true
  unfolding linked
  chain_edge x b w C = and_left (edge P x b) (linked P (b ∷ w)) C.links

  pub chain_joined : (x b : ℕ) (w : List ℕ) → Chain P (x ∷ b ∷ w) → same_component P x b ≡ true
  chain_joined x b w C = component_at P (x ∷ b ∷ w) C x b (Memᴰ.head refl) (Memᴰ.tail (Memᴰ.head refl))

module _ (P : Program) (wf : well_formed P ≡ true) where
  pub started_none : (X : ℕ → Type 0) (a : ℕ) → a < P.atoms → X a → Started P [] X a → ⊥
  started_none X a l x D = cons≢nil (Sublistᴰ.eq-nil (D [] (chain_one P wf a l) (λ b m. subst X (sym (Memᴰ.eq_of_singleton m)) x)))

  pub started_more : (x : ℕ) (s : List ℕ) (X : ℕ → Type 0) (a : ℕ) → Started P s X a → Started P (x ∷ s) X a
  started_more x s X a D w C i = Sublistᴰ.cons (D w C i)

  -- Another atom's entry changes nothing.
  pub started_other : (x : ℕ) (s : List ℕ) (X : ℕ → Type 0) (a : ℕ) → (x ≡ a → ⊥) → Started P (x ∷ s) X a → Started P s X a
  started_other x s X a ne D w C i = ⊎_elim (λ k. k) (λ k. absurd (ne (sym k.0))) (Sublistᴰ.cases_cons-cons (D w C i))

  -- An atom in front of a chain of its component that it has an edge to.
  pub chain_front : (x b : ℕ) (w : List ℕ) → x < P.atoms → edge P x b ≡ true → same_component P x b ≡ true → Chain P (b ∷ w) → (Memᴰ x (b ∷ w) → ⊥) → Chain P (x ∷ b ∷ w)
  unfolding linked
  chain_front x b w l e t C =
      chain_cons P wf x (b ∷ w) l C (and_intro e C.links) (all_intro (same_component P x) (b ∷ w) (λ y m. same_trans P wf x b y l t (component_at P (b ∷ w) C b y (Memᴰ.head refl) m)))

  -- The atom's own entry: what follows it in its chains, itself left out, must be found behind the entry.
  module _ (x : ℕ) (s : List ℕ) (X Y : ℕ → Type 0) where
    pub started_onward : x < P.atoms → X x → ((b : ℕ) → Y b → X b × (b ≡ x → ⊥)) → Started P (x ∷ s) X x → (b : ℕ) → edge P x b ≡ true → same_component P x b ≡ true → Started P s Y b
    started_onward l x_in h D b e t w C i =
        let found = D (b ∷ w) (chain_front x b w l e t C (λ m. (h x (i x m)).1 refl)) (λ y m. ⊎_elim (λ q. subst X (sym q) x_in) (λ k. (h y (i y k)).0) (Memᴰ.cases_cons m)) in
        ⊎_elim (λ k. sublist_tail k) (λ k. k.1) (Sublistᴰ.cases_cons-cons found)

    pub started_own : ((b : ℕ) → X b → (b ≡ x → ⊥) → Y b) → ((b : ℕ) → edge P x b ≡ true → same_component P x b ≡ true → Y b → Started P s Y b) → Started P (x ∷ s) X x
    started_own back h [] C i = Sublistᴰ.cons-cons refl (Sublistᴰ.nil-sublist s)
    started_own back h (b ∷ w) C i =
        let other : (y : ℕ) → Memᴰ y (b ∷ w) → Y y = λ y m. back y (i y (Memᴰ.tail m)) (λ e. nodup_head C.different (subst (λ z. Memᴰ z (b ∷ w)) e m)) in
        Sublistᴰ.cons-cons refl (h b (chain_edge P x b w C) (chain_joined P x b w C)
        (other b (Memᴰ.head refl)) w (chain_tail P x b w C) other)

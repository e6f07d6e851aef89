-- For a sequence that passes, the states that the copies reproduce are the stable ones.
use mathlib.Core.Bool.{Bool, true, false, ◌&&◌, false≢true}
use mathlib.Core.List.Memᴰ
use mathlib.Core.List.Pairwise
use mathlib.Core.List.Sublistᴰ
use mathlib.Core.List.{List, [], ◌∷◌, reverse, reverse_aux, reverse-reverse, Memᴰ, Nodup, Sublistᴰ, cons≢nil}
use mathlib.Core.Logic.{⊎_elim}
use mathlib.Core.Path.{◌≡◌, refl, sym, ◌∙◌, ap, subst}
use Prim.Native.Nat.{ℕ, zero, suc, ◌<◌}
use borrow.Author.Tests.{eqb-true, eqb-false}
use lib.Dec.{eqb}
use Rattle.lists.specs.Lists.{all}
use Rattle.lists.proofs.Bools.{by_bool, true_false, is_true, is_false, and_intro, and_left, and_right}
use Rattle.lists.proofs.Members.{below_in, all_at, all_intro, all_fails}
use Rattle.lists.proofs.Nodup.{nodup_cons, nodup_reverse}
use Rattle.lists.proofs.Sublists.{sublist_tail, mem_reverse}
use Rattle.asp.specs.Program.{Program, State, well_formed}
use Rattle.asp.specs.LeastModel.{iterate, least_model, Inside}
use Rattle.asp.specs.StableModel.{derived}
use Rattle.asp.proofs.Rounds.{iterate_up, iterate_below}
use Rattle.asp.proofs.Derived.{next, Fires, fires_in, fires_out, derives}
use Rattle.unfolding.specs.Graph.{edge, same_component}
use Rattle.unfolding.specs.Chain.{linked, Chain}
use Rattle.unfolding.proofs.Reach.{edge_in, same_refl, same_sym, same_trans}
use Rattle.unfolding.proofs.Current.{reads, copy_value, current, current_here, current_other, reads_same, reads_other}

-- A chain read backwards: each atom has an edge from the next.
unfoldable linked_back : Program → List ℕ → Bool
linked_back P [] = true
linked_back P (a ∷ []) = true
linked_back P (a ∷ b ∷ w) = edge P b a && linked_back P (b ∷ w)

linked_back_lem : (P : Program) (a : ℕ) (w acc : List ℕ) → linked_back P (a ∷ w) ≡ true → linked P (a ∷ acc) ≡ true → linked P (reverse_aux (a ∷ w) acc) ≡ true
unfolding linked_back linked
linked_back_lem P a [] acc e l = l
linked_back_lem P a (b ∷ w) acc e l =
    linked_back_lem P b w (a ∷ acc) (and_right (edge P b a) (linked_back P (b ∷ w)) e) (and_intro (and_left (edge P b a) (linked_back P (b ∷ w)) e) l)

module _ (P : Program) (wf : well_formed P ≡ true) (X : State) where
  -- The atoms derived in k rounds.
  T : ℕ → State
  T = iterate (next P X)

  -- A chain of atoms of T k that ends in a and is not found in the past s; both stand latest first.
  record Missing (k a : ℕ) (s : List ℕ) : Type 0 where
    rest : List ℕ
    derived_in : (x : ℕ) → Memᴰ x (a ∷ rest) → T k x ≡ true
    different : Nodup (a ∷ rest)
    near : (x : ℕ) → Memᴰ x (a ∷ rest) → same_component P a x ≡ true
    links : linked_back P (a ∷ rest) ≡ true
    missing : Sublistᴰ (a ∷ rest) s → ⊥

  below_t : (k x : ℕ) → T k x ≡ true → x < P.atoms
  unfolding T
  below_t k x e = iterate_below P.atoms (next P X) (derives P wf X) k x e

  up_t : (k : ℕ) → Inside (T k) (T (suc k))
  unfolding T
  up_t k = iterate_up P.atoms (next P X) (derives P wf X) k

  missing_chain_lem : (k a : ℕ) (s : List ℕ) (M : Missing k a s) → Chain P (reverse (a ∷ M.rest))
  unfolding linked
  missing_chain_lem k a s M =
      record {
        atoms = below_in P.atoms (reverse (a ∷ M.rest)) (λ x m. low x (mem_reverse (a ∷ M.rest) m));
        some = λ e. cons≢nil (sym (reverse-reverse (a ∷ M.rest)) ∙ ap reverse e);
        different = nodup_reverse (a ∷ M.rest) M.different;
        component = all_intro (λ x. all (same_component P x) (reverse (a ∷ M.rest))) (reverse (a ∷ M.rest)) (λ x m. all_intro (same_component P x) (reverse (a ∷ M.rest)) (λ y k.
            let mx = mem_reverse (a ∷ M.rest) m in
            same_trans P wf x a y (low x mx) (same_sym P wf a x (M.near x mx)) (M.near y (mem_reverse (a ∷ M.rest) k))));
        links = linked_back_lem P a M.rest [] M.links refl;
      }
    where
      low : (x : ℕ) → Memᴰ x (a ∷ M.rest) → x < P.atoms
      low x m = below_t k x (M.derived_in x m)

  -- Complete: what is derived but not current at a past has a chain that is missing from it.
  module _ (S : List ℕ) (pass : (w : List ℕ) → Chain P (reverse w) → Sublistᴰ w S) (over : Inside (current P X S) X) where
    in_state : (k : ℕ) → ((a : ℕ) → T k a ≡ true → (s : List ℕ) → current P X s a ≡ false → Missing k a s) → Inside (T k) (current P X S)
    in_state k miss a t = is_true (λ f. let M = miss a t S f in M.missing (pass (a ∷ M.rest) (missing_chain_lem k a S M)))

    -- One round more, for an atom that this round adds.
    module _ (k : ℕ) (miss : (a : ℕ) → T k a ≡ true → (s : List ℕ) → current P X s a ≡ false → Missing k a s)
        (a : ℕ) (new : T k a ≡ false) (low : a < P.atoms) (F : Fires P.rules X (T k) a) (now : T (suc k) a ≡ true) where
      alone : (s : List ℕ) → (Sublistᴰ (a ∷ []) s → ⊥) → Missing (suc k) a s
      unfolding linked_back
      alone s gone =
          record {
            rest = [];
            derived_in = λ x m. subst (λ y. T (suc k) y ≡ true) (sym (Memᴰ.eq_of_singleton m)) now;
            different = nodup_cons (λ m. Memᴰ.not-nil m) Pairwise.nil;
            near = λ x m. subst (λ y. same_component P a y ≡ true) (sym (Memᴰ.eq_of_singleton m)) (same_refl P wf a low);
            links = refl;
            missing = gone;
          }

      -- The missing chain of a positive atom b, with a behind it.
      longer : (b : ℕ) (past : List ℕ) → Memᴰ b F.rule.body.pos → same_component P a b ≡ true → Missing k b past → Missing (suc k) a (a ∷ past)
      unfolding linked_back
      longer b past m t M =
          record {
            rest = b ∷ M.rest;
            derived_in = λ x n. ⊎_elim (λ e. subst (λ y. T (suc k) y ≡ true) (sym e) now) (λ j. up_t k x (M.derived_in x j)) (Memᴰ.cases_cons n);
            different = nodup_cons (λ n. true_false (M.derived_in a n) new) M.different;
            near = λ x n. ⊎_elim (λ e. subst (λ y. same_component P a y ≡ true) (sym e) (same_refl P wf a low)) (λ j. same_trans P wf a b x low t (M.near x j)) (Memᴰ.cases_cons n);
            links = and_intro (edge_in P F.rule F.stands b a F.head m) M.links;
            missing = λ s. ⊎_elim (λ u. M.missing (sublist_tail u)) (λ u. M.missing u.1) (Sublistᴰ.cases_cons-cons s);
          }

      -- At an entry of a whose value is false, a positive atom of the rule that fires reads false.
      at_entry : (past : List ℕ) → copy_value P X (current P X past) a ≡ false → Missing (suc k) a (a ∷ past)
      unfolding copy_value
      at_entry past f =
          let L = reads P X (current P X past) a in
          let v = all_fails L F.rule.body.pos (is_false (λ t. true_false (fires_in P.rules X L a (record { rule = F.rule; stands = F.stands; head = F.head; negatives = F.negatives; positives = t })) f)) in
          let b = v.0 in
          let t = all_at (T k) F.rule.body.pos F.positives b v.1 in
          by_bool (same_component P a b)
          (λ c. longer b past v.1 c (miss b t past (sym (reads_same P X (current P X past) a b c) ∙ v.2)))
          (λ c. absurd (true_false (over b (in_state k miss b t)) (sym (reads_other P X (current P X past) a b c) ∙ v.2)))

      added : (s : List ℕ) → current P X s a ≡ false → Missing (suc k) a s
      added [] f = alone [] (λ s. cons≢nil (Sublistᴰ.eq-nil s))
      added (x ∷ past) f =
          by_bool (eqb x a)
          (λ q. let e = eqb-true x a q in subst (λ y. Missing (suc k) a (y ∷ past)) (sym e) (at_entry past (subst (λ y. copy_value P X (current P X past) y ≡ false) e (sym (current_here P X past x a e) ∙ f))))
          (λ q. let ne = eqb-false x a q in skip ne (added past (sym (current_other P X past x a ne) ∙ f)))
        where
          skip : (x ≡ a → ⊥) → Missing (suc k) a past → Missing (suc k) a (x ∷ past)
          skip ne M =
              record {
                rest = M.rest;
                derived_in = M.derived_in;
                different = M.different;
                near = M.near;
                links = M.links;
                missing = λ s. ⊎_elim M.missing (λ u. ne (sym u.0)) (Sublistᴰ.cases_cons-cons s);
              }

    miss : (k a : ℕ) → T k a ≡ true → (s : List ℕ) → current P X s a ≡ false → Missing k a s
    unfolding T iterate
    miss zero a t s f = absurd (false≢true t)
    miss (suc k) a t s f =
        by_bool (T k a) (λ old. weaken (miss k a old s f))
        (λ new. added k (miss k) a new (below_t (suc k) a t) (fires_out P.rules X (T k) a t) t s f)
      where
        weaken : Missing k a s → Missing (suc k) a s
        weaken M =
            record {
              rest = M.rest;
              derived_in = λ x m. up_t k x (M.derived_in x m);
              different = M.different;
              near = M.near;
              links = M.links;
              missing = M.missing;
            }

    pub complete : Inside (derived P X) (current P X S)
    unfolding derived least_model T
    complete = in_state P.atoms (miss P.atoms)

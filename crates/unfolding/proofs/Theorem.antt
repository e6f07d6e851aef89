-- Demand 3: the models of the clauses, cut to the atoms, are exactly the stable models, one model for each.
use mathlib.Core.Bool.{Bool, true, not, ◌&&◌, cond, false≢true}
use mathlib.Core.List.Memᴰ
use mathlib.Core.List.{List, [], ◌∷◌, map, reverse, Memᴰ, Sublistᴰ}
use mathlib.Core.Logic.{inl, inr, ⊎_elim}
use mathlib.Core.Path.{◌≡◌, refl, sym, ◌∙◌, ap, subst, fun_ext}
use Prim.Native.Nat.{ℕ, suc, ◌≤◌, ◌<◌}
use native.Mathlib.Omega.{arith}
use borrow.Author.Tests.{eqb-true, eqb-false, ltb-true, lt-ltb}
use lib.Dec.{eqb, ltb}
use lib.ListN.{length}
use Rattle.lists.specs.Lists.{below, all, member}
use Rattle.lists.proofs.Bools.{by_bool, bool_ext, and_left}
use Rattle.lists.proofs.Members.{below_at, all_map, all_cong, range_out}
use Rattle.lists.proofs.Sublists.{mem_sublist, mem_reverse, sublist_reversed}
use Rattle.asp.specs.Program.{Body, Program, State, outside, holds, well_formed}
use Rattle.asp.specs.StableModel.{lawful, StableModel}
use Rattle.asp.proofs.Derived.{constraint_atoms}
use Rattle.unfolding.specs.Chain.{Chain, Passes}
use Rattle.unfolding.specs.Unfolded.{Copy, Unfolded, last, renamed, kept_for, variable, copies_from, unfolded}
use Rattle.unfolding.specs.Clauses.{Literal, variable_of, Clause, variables, signed_words, read_words}
use Rattle.unfolding.specs.Faithful.{Assignment, is_model, projection, clauses_of, variables_of, Faithful}
use Rattle.unfolding.specs.Lengthened.{LaterCopiesTrue}
use Rattle.unfolding.proofs.Chains.{chain_one}
use Rattle.unfolding.proofs.Current.{current, current_other}
use Rattle.unfolding.proofs.Grounded.{current_stable, stable_current}
use Rattle.unfolding.proofs.Copies.{Follows, outside_last, solves_follows, follows_solves, agrees_none, last_value}
use Rattle.unfolding.proofs.Later.{later_true}
use Rattle.unfolding.proofs.Numbering.{Entries, copies_length, atoms_fit, variable_range, all_variables, assign, assign_follows}
use Rattle.unfolding.proofs.Completion.{Models, models_in, models_out, extend, extend_agrees, extend_models, models_agree, bodies, Names, Agree}
use Rattle.unfolding.proofs.Words.{BodyOn, on_clauses, read_words_lem}
use Rattle.unfolding.proofs.Bounds.{bodies_name, constraints_name}

-- An atom whose latest copy is true stands in the past.
current_stands : (P : Program) (X : State) (s : List ℕ) (a : ℕ) → current P X s a ≡ true → Memᴰ a s
unfolding current
current_stands P X [] a e = absurd (false≢true e)
current_stands P X (x ∷ s) a e =
    by_bool (eqb x a) (λ t. Memᴰ.head (sym (eqb-true x a t)))
    (λ f. Memᴰ.tail (current_stands P X s a (sym (current_other P X s x a (eqb-false x a f)) ∙ e)))

-- Two assignments that follow the same state agree on the copies.
follows_agree : (P : Program) (X : State) (M M' : Assignment) (s : List ℕ) (e : ℕ) (past : List ℕ) (made : List Copy) → Follows P X M e past s → Follows P X M' e past s
    → (c : Copy) → Memᴰ c (copies_from P e made s) → M c.var ≡ M' c.var
unfolding copies_from
follows_agree P X M M' [] e past made f g c m = absurd (Memᴰ.not-nil m)
follows_agree P X M M' (a ∷ s) e past made f g c m =
    ⊎_elim (λ q. subst (λ (c : Copy). M c.var ≡ M' c.var) (sym q) (f.0 ∙ sym g.0))
    (λ k. follows_agree P X M M' s (cond (member a s) (suc e) e) (a ∷ past) (record { atom = a; var = variable P e a (member a s); kept = kept_for P made a } ∷ made) f.1 g.1 c k)
    (Memᴰ.cases_cons m)

module _ (P : Program) (wf : well_formed P ≡ true) where
  -- Constraints over last copies say of an assignment what the constraints say of its cut.
  constraints_same : (M : Assignment) (X : State) → ((b : ℕ) → b < P.atoms → M (last b) ≡ X b) → (s : List ℕ)
      → all (λ b. not (holds M b)) (unfolded P s).constraints ≡ lawful P X
  unfolding unfolded lawful renamed holds
  constraints_same M X h s =
      all_map (λ b. not (holds M b)) (renamed last) P.constraints
      ∙ all_cong (λ b. not (holds M (renamed last b))) (λ b. not (holds X b)) P.constraints (λ b m.
      let low = constraint_atoms P wf b m in
      ap not (ap (λ (x : Bool). x && outside M (map last b.neg)) (all_map M last b.pos ∙ all_cong (λ a. M (last a)) X b.pos (λ a k. h a (low a (inl k))))
      ∙ ap (λ (x : Bool). all X b.pos && x) (outside_last M X b.neg (λ a k. h a (low a (inr k))))))

  projection_at : (M : Assignment) (b : ℕ) → b < P.atoms → M (last b) ≡ projection P.atoms M b
  unfolding projection last
  projection_at M b l = rw (lt-ltb b P.atoms l) refl

  -- A model gives each copy the value that its cut says.
  model_follows : (s : List ℕ) (M : Assignment) → Models M (unfolded P s) → Follows P (projection P.atoms M) M 0 [] s
  unfolding unfolded
  model_follows s M m = solves_follows P wf M (projection P.atoms M) (projection_at M) s 0 [] (agrees_none P wf M (projection P.atoms M) (projection_at M)) m.solves

  -- So an atom's later copies are true where an earlier one is, whatever the sequence.
  pub model_grows : (s : List ℕ) (M : Assignment) → is_model M (clauses_of P s) ≡ true → LaterCopiesTrue (unfolded P s).copies M
  unfolding clauses_of unfolded
  model_grows s M e = later_true P (projection P.atoms M) M s 0 [] [] (model_follows s M (models_out M (unfolded P s) e))

  module _ (s : List ℕ) (atoms : below P.atoms s ≡ true) (passes : Passes P s) where
    low : Entries P s
    low = below_at P.atoms s atoms

    full : (b : ℕ) → b < P.atoms → Memᴰ b s
    full b l = mem_sublist (passes (b ∷ []) (chain_one P wf b l)) (Memᴰ.head refl)

    pass : (w : List ℕ) → Chain P (reverse w) → Sublistᴰ w (reverse s)
    pass w C = sublist_reversed (passes (reverse w) C)

    U : Unfolded
    U = unfolded P s

    numbered : (c : Copy) → Memᴰ c (copies_from P 0 [] s) → (1 ≤ c.var) × (c.var ≤ length (copies_from P 0 [] s))
    numbered c m =
        let r = range_out 1 (length s) c.var (variable_range P s low full c m) in
        let q = copies_length P s 0 [] in
        (r.low, omega (arith, r.high))

    fits : P.atoms ≤ length (copies_from P 0 [] s)
    fits = let l = atoms_fit P s low full in let q = copies_length P s 0 [] in omega arith

    bodies_named : (b : Body) → Memᴰ b (bodies U) → Names (length U.copies) b
    unfolding U unfolded
    bodies_named = bodies_name P wf (length (copies_from P 0 [] s)) fits s numbered

    projection_below : (M : Assignment) (b : ℕ) → projection P.atoms M b ≡ true → b < P.atoms
    unfolding projection
    projection_below M b e = ltb-true b P.atoms (and_left (ltb b P.atoms) (M (suc b)) e)

    projection_current : (M : Assignment) → Models M U → (a : ℕ) → projection P.atoms M a ≡ current P (projection P.atoms M) (reverse s) a
    unfolding U
    projection_current M m a =
        bool_ext (λ e. sym (here (projection_below M a e)) ∙ e) (λ e. here (low a (mem_reverse s (current_stands P (projection P.atoms M) (reverse s) a e))) ∙ e)
      where
        here : a < P.atoms → projection P.atoms M a ≡ current P (projection P.atoms M) (reverse s) a
        here l = sym (projection_at M a l) ∙ last_value P (projection P.atoms M) M s 0 [] (model_follows s M m) a (full a l)

    model_stable : (M : Assignment) → Models M U → StableModel P (projection P.atoms M)
    unfolding U
    model_stable M m =
        record {
          within = projection_below M;
          fixpoint = current_stable P wf (reverse s) pass (projection P.atoms M) (projection_current M m);
          obeys = sym (constraints_same M (projection P.atoms M) (projection_at M) s) ∙ m.lawful;
        }

    -- A stable model gives each copy a value.
    module _ (X : State) (S : StableModel P X) where
      valuation : Assignment
      valuation = assign P X 0 [] s

      valuation_follows : Follows P X valuation 0 [] s
      unfolding valuation
      valuation_follows = assign_follows P X valuation s low 0 [] (λ v _. refl)

      valuation_last : (b : ℕ) → b < P.atoms → valuation (last b) ≡ X b
      valuation_last b l = last_value P X valuation s 0 [] valuation_follows b (full b l) ∙ sym (stable_current P wf (reverse s) pass X S b)

      lifted : Assignment
      lifted = extend (length U.copies) (bodies U) valuation

      lifted_models : Models lifted U
      unfolding lifted U unfolded
      lifted_models =
          extend_models U bodies_named valuation numbered (constraints_name P wf (length (copies_from P 0 [] s)) fits s)
          (follows_solves P wf valuation X valuation_last s 0 [] (agrees_none P wf valuation X valuation_last) valuation_follows)
          (constraints_same valuation X valuation_last s ∙ S.obeys)

      lifted_projection : projection P.atoms lifted ≡ X
      unfolding lifted U unfolded last
      lifted_projection =
          fun_ext (λ a. bool_ext (λ e. sym (here a (projection_below lifted a e)) ∙ e) (λ e. here a (S.within a e) ∙ e))
        where
          here : (a : ℕ) → a < P.atoms → projection P.atoms lifted a ≡ X a
          here a l = sym (projection_at lifted a l) ∙ (extend_agrees (length U.copies) (bodies U) valuation (last a) (omega arith) (let h = fits in omega arith) ∙ valuation_last a l)

    models_one : (M M' : Assignment) → Models M U → Models M' U → projection P.atoms M ≡ projection P.atoms M' → Agree (variables U) M M'
    unfolding U unfolded
    models_one M M' m m' e =
        models_agree U bodies_named M M' m m' (λ v l h.
        let c = all_variables P s low full v l (let q = copies_length P s 0 [] in omega arith) in
        subst (λ x. M x ≡ M' x) c.2
        (follows_agree P (projection P.atoms M) M M' s 0 [] [] (model_follows s M m) (subst (λ X. Follows P X M' 0 [] s) (sym e) (model_follows s M' m')) c.0 c.1))

    pub faithful : Faithful P s
    unfolding clauses_of variables_of U
    faithful =
        record {
          projects = λ M e. model_stable M (models_out M U e);
          lifts = λ X S. (lifted X S, models_in (lifted X S) U (lifted_models X S), lifted_projection X S);
          one_each = λ M M' e e' q. models_one M M' (models_out M U e) (models_out M' U e') q;
        }

    -- The literals name variables of 1 .. the number of variables.
    pub literals_numbered : (c : Clause) → Memᴰ c (clauses_of P s) → (l : Literal) → Memᴰ l c → (1 ≤ variable_of l) × (variable_of l ≤ variables_of P s)
    unfolding clauses_of variables_of variables U unfolded
    literals_numbered =
        let t = length (copies_from P 0 [] s) in
        let wide : (v : ℕ) → (1 ≤ v) × (v ≤ t) → (1 ≤ v) × (v ≤ variables U) = λ v p. (p.0, let h = p.1 in omega arith) in
        let body : (b : Body) → Names t b → BodyOn (λ v. (1 ≤ v) × (v ≤ variables U)) b = λ b n v. ⊎_elim (λ m. wide v (n.pos v m)) (λ m. wide v (n.neg v m)) in
        on_clauses (λ v. (1 ≤ v) × (v ≤ variables U)) U (λ c m. wide c.var (numbered c m)) (λ v l h. (omega arith, h))
        (λ b m. body b (bodies_named b m)) (λ b m. body b (constraints_name P wf t fits s b m))

    -- The words written are the clauses.
    pub words_clauses : read_words (signed_words (clauses_of P s)) ≡ clauses_of P s
    words_clauses = read_words_lem (clauses_of P s) (λ c m l k. (literals_numbered c m l k).0)

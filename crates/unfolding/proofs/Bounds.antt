-- The bodies of an unfolded program name variables of 1 .. k only, where its copies and last copies lie there.
use mathlib.Core.Bool.{true, false, cond}
use mathlib.Core.List.Memᴰ
use mathlib.Core.List.{List, [], ◌∷◌, Memᴰ}
use mathlib.Core.Logic.{inl, inr, ⊎_elim}
use mathlib.Core.Path.{◌≡◌, refl, sym, ◌∙◌, ap, subst}
use Prim.Native.Nat.{ℕ, suc, ◌≤◌, ◌<◌}
use native.Mathlib.Omega.{arith}
use borrow.Author.Tests.{eqb-true, ltb-true}
use lib.Dec.{eqb}
use lib.ListN.{length}
use Rattle.lists.specs.Lists.{all, filter, member}
use Rattle.lists.proofs.Bools.{by_bool, true_false, and_left, and_right}
use Rattle.lists.proofs.Members.{all_at, filter_out, flat_map_out}
use Rattle.asp.specs.Program.{Body, Rule, Program, well_formed}
use Rattle.asp.proofs.Derived.{rule_atoms, constraint_atoms}
use Rattle.unfolding.specs.Graph.{edge, same_component}
use Rattle.unfolding.specs.Unfolded.{Copy, last, latest_keeps, latest, usable, replaced, renamed, is_kept, kept_for, variable, copies_from, unfolded}
use Rattle.unfolding.proofs.Reach.{edge_in}
use Rattle.unfolding.proofs.Completion.{Names, bodies}

-- The latest copy, where it keeps a rule.
keeps_latest : (past : List Copy) (b : ℕ) → latest_keeps past b ≡ true → (c : Copy) × Memᴰ c past × (c.atom ≡ b) × (0 < length c.kept) × (latest past b ≡ c.var)
unfolding latest_keeps latest
keeps_latest [] b e = absurd (true_false e refl)
keeps_latest (c ∷ past) b e =
    by_bool (eqb c.atom b) (λ t. rw t (c, Memᴰ.head refl, eqb-true c.atom b t, ltb-true 0 (length c.kept) (rw t at e), refl))
    (λ f. let u = keeps_latest past b (rw f at e) in rw f (u.0, Memᴰ.tail u.1, u.2, u.3, u.4))

-- Where a positive variable of a kept rule comes from: an earlier copy of an atom of a's component that keeps a rule, or the last
-- copy of an atom of another.
pub data Source (P : Program) (past : List Copy) (a v : ℕ) : Type 0 where
  earlier : (c : Copy) → Memᴰ c past → same_component P a c.atom ≡ true → 0 < length c.kept → v ≡ c.var → Source P past a v
  final : (b : ℕ) → edge P b a ≡ true → b < P.atoms → same_component P a b ≡ false → v ≡ last b → Source P past a v

module _ (P : Program) (wf : well_formed P ≡ true) where
  pub source : (past : List Copy) (a : ℕ) (b : Body) → Memᴰ b (kept_for P past a) → (v : ℕ) → Memᴰ v b.pos → Source P past a v
  unfolding kept_for is_kept renamed usable replaced
  source past a b m v k =
      let q = Memᴰ.of_map (λ (r : Rule). renamed (replaced P past a) r.body) (filter (is_kept P past a) P.rules) m in
      let r = q.0 in
      let f = filter_out (is_kept P past a) P.rules r q.1 in
      let u = Memᴰ.of_map (replaced P past a) r.body.pos (subst (λ (b : Body). Memᴰ v b.pos) (sym q.2) k) in
      let head = eqb-true r.head a (and_left (eqb r.head a) (all (usable P past a) r.body.pos) f.1) in
      let can = all_at (usable P past a) r.body.pos (and_right (eqb r.head a) (all (usable P past a) r.body.pos) f.1) u.0 u.1 in
      by_bool (same_component P a u.0) (λ t. same u.0 t can u.2) (λ t. final u.0 (edge_in P r f.0 u.0 a head u.1) (rule_atoms P wf r f.0 u.0 (inl u.1)) t (other u.0 t u.2))
    where
      same : (x : ℕ) → same_component P a x ≡ true → usable P past a x ≡ true → replaced P past a x ≡ v → Source P past a v
      same x t can e =
          let c = keeps_latest past x (rw t at can) in
          earlier c.0 c.1 (ap (same_component P a) c.2 ∙ t) c.3 (sym (rw t at e) ∙ c.4)

      other : (x : ℕ) → same_component P a x ≡ false → replaced P past a x ≡ v → v ≡ last x
      other x t e = sym (rw t at e)

  -- The negative variables of a kept rule are last copies.
  negative_last : (past : List Copy) (a : ℕ) (b : Body) → Memᴰ b (kept_for P past a) → (v : ℕ) → Memᴰ v b.neg → (x : ℕ) × (x < P.atoms) × (v ≡ last x)
  unfolding kept_for renamed
  negative_last past a b m v k =
      let q = Memᴰ.of_map (λ (r : Rule). renamed (replaced P past a) r.body) (filter (is_kept P past a) P.rules) m in
      let r = q.0 in
      let f = filter_out (is_kept P past a) P.rules r q.1 in
      let u = Memᴰ.of_map last r.body.neg (subst (λ (b : Body). Memᴰ v b.neg) (sym q.2) k) in
      (u.0, rule_atoms P wf r f.0 u.0 (inr u.1), sym u.2)

  module _ (k : ℕ) (fits : P.atoms ≤ k) where
    -- The copy's variable is one of 1 .. k.
    abbrev Numbered : Copy → Type 0
    Numbered c = (1 ≤ c.var) × (c.var ≤ k)

    last_numbered : (v x : ℕ) → x < P.atoms → v ≡ last x → (1 ≤ v) × (v ≤ k)
    unfolding last
    last_numbered v x l e = (omega arith, omega arith)

    kept_names : (past : List Copy) → ((c : Copy) → Memᴰ c past → Numbered c) → (a : ℕ) (b : Body) → Memᴰ b (kept_for P past a) → Names k b
    kept_names past h a b m =
        record { pos = λ v n. from (source past a b m v n); neg = λ v n. let u = negative_last past a b m v n in last_numbered v u.0 u.1 u.2 }
      where
        from : {v : ℕ} → Source P past a v → (1 ≤ v) × (v ≤ k)
        from (earlier c n t k e) = let u = h c n in (omega (arith, u.0), omega (arith, u.1))
        from {v} (final x n l t e) = last_numbered v x l e

    copies_name : (s : List ℕ) (e : ℕ) (past : List Copy) → ((c : Copy) → Memᴰ c past → Numbered c)
        → ((c : Copy) → Memᴰ c (copies_from P e past s) → Numbered c) → (c : Copy) → Memᴰ c (copies_from P e past s) → (b : Body) → Memᴰ b c.kept → Names k b
    unfolding copies_from
    copies_name [] e past h g c m b n = absurd (Memᴰ.not-nil m)
    copies_name (a ∷ s) e past h g c m b n =
        let c₀ : Copy = record { atom = a; var = variable P e a (member a s); kept = kept_for P past a } in
        ⊎_elim (λ q. kept_names past h a b (subst (λ (c : Copy). Memᴰ b c.kept) q n))
        (λ j. copies_name s (cond (member a s) (suc e) e) (c₀ ∷ past)
        (λ d i. ⊎_elim (λ q. subst Numbered (sym q) (g c₀ (Memᴰ.head refl))) (h d) (Memᴰ.cases_cons i)) (λ d i. g d (Memᴰ.tail i)) c j b n)
        (Memᴰ.cases_cons m)

    -- All bodies, and all constraints.
    pub bodies_name : (s : List ℕ) → ((c : Copy) → Memᴰ c (copies_from P 0 [] s) → (1 ≤ c.var) × (c.var ≤ k)) → (b : Body) → Memᴰ b (bodies (unfolded P s)) → Names k b
    unfolding unfolded
    bodies_name s g b m =
        let u = flat_map_out (λ (c : Copy). c.kept) (copies_from P 0 [] s) b m in
        copies_name s 0 [] (λ c n. absurd (Memᴰ.not-nil n)) g u.0 u.1 b u.2

    pub constraints_name : (s : List ℕ) (b : Body) → Memᴰ b (unfolded P s).constraints → Names k b
    unfolding unfolded renamed
    constraints_name s b m =
        let q = Memᴰ.of_map (renamed last) P.constraints m in
        record {
          pos = λ v n. let u = Memᴰ.of_map last q.0.pos (subst (λ (b : Body). Memᴰ v b.pos) (sym q.2) n) in last_numbered v u.0 (constraint_atoms P wf q.0 q.1 u.0 (inl u.1)) (sym u.2);
          neg = λ v n. let u = Memᴰ.of_map last q.0.neg (subst (λ (b : Body). Memᴰ v b.neg) (sym q.2) n) in last_numbered v u.0 (constraint_atoms P wf q.0 q.1 u.0 (inr u.1)) (sym u.2);
        }

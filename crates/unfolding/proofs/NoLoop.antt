-- The unfolded program has no positive loop: a body names earlier copies of the same component, or atoms with fewer ancestors.
use mathlib.Core.Bool.{Bool, true, false, ◌&&◌}
use mathlib.Core.List.Memᴰ
use mathlib.Core.List.{List, [], ◌∷◌, Memᴰ}
use mathlib.Core.Logic.{⊎_elim}
use mathlib.Core.Path.{◌≡◌, refl, sym, ◌∙◌, ap, subst}
use mathlib.Core.WellFounded.Acc
use mathlib.Core.WellFounded.{Acc}
use Prim.Native.Nat.{ℕ, zero, suc, ◌<◌}
use native.Mathlib.Nat.{not-suc-le-zero}
use native.Mathlib.Omega.{arith}
use borrow.Author.Tests.{eqb-true}
use lib.Dec.{eqb}
use Rattle.lists.specs.Lists.{below, any, member}
use Rattle.lists.proofs.Bools.{and_left, and_right}
use Rattle.lists.proofs.Members.{below_at, any_at, member_out}
use Rattle.lists.proofs.Nodup.{nodup_map_one}
use Rattle.asp.specs.Program.{Body, Program, well_formed}
use Rattle.unfolding.specs.Unfolded.{Copy, Unfolded, last, kept_for, variable, copies_from, unfolded, needs, Leads, step, onwards, NoPositiveLoop}
use Rattle.unfolding.proofs.Ancestors.{ancestors, ancestors_same, ancestors_less}
use Rattle.unfolding.proofs.Numbering.{Entries, counted, variables_differ}
use Rattle.unfolding.proofs.Bounds.{Source, earlier, final, source}

-- What a step along a positive body is made of.
pub record Needed (U : Unfolded) (v u : ℕ) : Type 0 where
  pub copy : Copy
  pub made : Memᴰ copy U.copies
  pub named : copy.var ≡ v
  pub rule : Body
  pub kept : Memᴰ rule copy.kept
  pub stands : Memᴰ u rule.pos

needed : (U : Unfolded) (v u : ℕ) → needs U v u ≡ true → Needed U v u
unfolding needs
needed U v u e =
    let p = any_at (λ (c : Copy). eqb c.var v && any (λ (b : Body). member u b.pos) c.kept) U.copies e in
    let c = p.0 in
    let q = any_at (λ (b : Body). member u b.pos) c.kept (and_right (eqb c.var v) (any (λ (b : Body). member u b.pos) c.kept) p.2) in
    record {
      copy = c;
      made = p.1;
      named = eqb-true c.var v (and_left (eqb c.var v) (any (λ (b : Body). member u b.pos) c.kept) p.2);
      rule = q.0;
      kept = q.1;
      stands = member_out u q.0.pos q.2;
    }

-- Every way along positive bodies from the variable ends; such a variable is on no loop.
abbrev Ends : Unfolded → ℕ → Type 0
Ends U = Acc (λ u v. needs U v u ≡ true)

leads_more : (U : Unfolded) {v u w : ℕ} → Leads U v u → needs U u w ≡ true → Leads U v w
leads_more U (step n) k = onwards n (step k)
leads_more U (onwards n l) k = onwards n (leads_more U l k)

leads_first : (U : Unfolded) {v w : ℕ} → Leads U v w → (u : ℕ) × (needs U v u ≡ true)
leads_first U (step {u = u} n) = (u, n)
leads_first U (onwards {u = u} n l) = (u, n)

ends_loopless : (U : Unfolded) (v : ℕ) → Ends U v → Leads U v v → ⊥
ends_loopless U v =
    Acc.ndrec {C = λ v. Leads U v v → ⊥} (λ v _ ih l. turn v ih l)
  where
    round : (v w : ℕ) → ((u : ℕ) → needs U v u ≡ true → Leads U u u → ⊥) → Leads U v w → w ≡ v → ⊥
    round v w ih (step n) e = ih v (subst (λ x. needs U v x ≡ true) e n) (step (subst (λ x. needs U v x ≡ true) e n))
    round v w ih (onwards {u = u} n l) e = ih u n (leads_more U (subst (Leads U u) e l) n)

    turn : (v : ℕ) → ((u : ℕ) → needs U v u ≡ true → Leads U u u → ⊥) → Leads U v v → ⊥
    turn v ih l = round v v ih l refl

-- A copy whose variable is the last of an atom is a copy of that atom.
pub last_atom : (P : Program) (s : List ℕ) (e : ℕ) (past : List Copy) (c : Copy) → Memᴰ c (copies_from P e past s) → (b : ℕ) → b < P.atoms → c.var ≡ last b → c.atom ≡ b
unfolding copies_from variable last
last_atom P [] e past c m b l q = absurd (Memᴰ.not-nil m)
last_atom P (a ∷ s) e past c m b l q =
    ⊎_elim (λ p. ap (λ (c : Copy). c.atom) p ∙ own (member a s) (ap (λ (c : Copy). c.var) (sym p) ∙ q))
    (λ k. last_atom P s (counted e (member a s)) (record { atom = a; var = variable P e a (member a s); kept = kept_for P past a } ∷ past) c k b l q) (Memᴰ.cases_cons m)
  where
    own : (more : Bool) → variable P e a more ≡ last b → a ≡ b
    own true e = absurd (omega arith)
    own false e = omega arith

module _ (P : Program) (wf : well_formed P ≡ true) (s : List ℕ) (low : Entries P s) where
  U : Unfolded
  U = unfolded P s

  -- Copies of atoms with fewer ancestors end.
  abbrev EndsBelow : ℕ → List Copy → Type 0
  EndsBelow m cs = (c : Copy) → Memᴰ c cs → ancestors P c.atom < m → Ends U c.var

  module _ (m : ℕ) (fewer : EndsBelow m (copies_from P 0 [] s)) where
    -- The last copy of an atom with fewer ancestors, if it is made.
    last_ends : (b : ℕ) → b < P.atoms → ancestors P b < m → Ends U (last b)
    unfolding U unfolded
    last_ends b l h =
        Acc.intro (last b) (λ u n.
        let N = needed U (last b) u n in
        let e = last_atom P s 0 [] N.copy N.made b l N.named in
        Acc.inv (subst (Ends U) N.named (fewer N.copy N.made (subst (λ x. ancestors P x < m) (sym e) h))) n)

    copy_ends : (a : ℕ) (past : List Copy) → a < P.atoms → EndsBelow (suc m) past → ancestors P a < suc m
        → (v : ℕ) → Memᴰ (record { atom = a; var = v; kept = kept_for P past a }) (copies_from P 0 [] s) → Ends U v
    unfolding U unfolded
    copy_ends a past l ends h v made =
        Acc.intro v (λ u n.
        let N = needed U v u n in
        let same = nodup_map_one (λ (c : Copy). c.var) (copies_from P 0 [] s) (variables_differ P s low 0 []) N.copy (record { atom = a; var = v; kept = kept_for P past a }) N.made made N.named in
        from u (source P wf past a N.rule (subst (λ (c : Copy). Memᴰ N.rule c.kept) same N.kept) u N.stands))
      where
        from : (u : ℕ) → Source P past a u → Ends U u
        from u (earlier c k t n e) = subst (Ends U) (sym e) (ends c k (subst (λ x. x < suc m) (ancestors_same P wf a c.atom l t) h))
        from u (final b k bl t e) = subst (Ends U) (sym e) (last_ends b bl (let less = ancestors_less P wf b a bl k t in omega arith))

    along : (r : List ℕ) → Entries P r → (e : ℕ) (past : List Copy) → EndsBelow (suc m) past
        → ((c : Copy) → Memᴰ c (copies_from P e past r) → Memᴰ c (copies_from P 0 [] s)) → EndsBelow (suc m) (copies_from P e past r)
    unfolding copies_from
    along [] lows e past ends made c k h = absurd (Memᴰ.not-nil k)
    along (a ∷ r) lows e past ends made c k h =
        let c₀ : Copy = record { atom = a; var = variable P e a (member a r); kept = kept_for P past a } in
        let here : ancestors P a < suc m → Ends U (variable P e a (member a r)) = λ h. copy_ends a past (lows a (Memᴰ.head refl)) ends h (variable P e a (member a r)) (made c₀ (Memᴰ.head refl)) in
        ⊎_elim (λ q. subst (λ (c : Copy). Ends U c.var) (sym q) (here (subst (λ (c : Copy). ancestors P c.atom < suc m) q h)))
        (λ j. along r (λ x i. lows x (Memᴰ.tail i)) (counted e (member a r)) (c₀ ∷ past)
        (λ d i g. ⊎_elim (λ q. subst (λ (c : Copy). Ends U c.var) (sym q) (here (subst (λ (c : Copy). ancestors P c.atom < suc m) q g))) (λ i'. ends d i' g) (Memᴰ.cases_cons i))
        (λ d i. made d (Memᴰ.tail i)) c j h)
        (Memᴰ.cases_cons k)

  all_end : (m : ℕ) → EndsBelow m (copies_from P 0 [] s)
  all_end zero c k h = absurd (not-suc-le-zero h)
  all_end (suc m) c k h = along m (all_end m) s low 0 [] (λ d i. absurd (Memᴰ.not-nil i)) (λ d i. i) c k h

pub no_positive_loop : (P : Program) → well_formed P ≡ true → (s : List ℕ) → below P.atoms s ≡ true → NoPositiveLoop (unfolded P s)
unfolding unfolded U
no_positive_loop P wf s atoms v l = let n = leads_first (unfolded P s) l in ends_loopless (unfolded P s) v (ends n.0 n.1) l
  where
    ends : (u : ℕ) → needs (unfolded P s) v u ≡ true → Ends (unfolded P s) v
    ends u n =
        let N = needed (unfolded P s) v u n in
        subst (Ends (unfolded P s)) N.named (all_end P wf s (below_at P.atoms s atoms) (suc (ancestors P N.copy.atom)) N.copy N.made (omega arith))

-- A kept rule reads no copy of its own component that keeps none.
use mathlib.Core.Bool.{cond}
use mathlib.Core.List.Memᴰ
use mathlib.Core.List.{List, [], ◌∷◌, Memᴰ}
use mathlib.Core.Logic.{⊎_elim}
use mathlib.Core.Path.{◌≡◌, refl, sym, ◌∙◌, ap, subst}
use Prim.Native.Nat.{ℕ, suc}
use native.Mathlib.Omega.{arith}
use lib.ListN.{length}
use Rattle.lists.specs.Lists.{member}
use Rattle.lists.proofs.Bools.{true_false}
use Rattle.lists.proofs.Members.{below_at}
use Rattle.lists.proofs.Nodup.{nodup_map_one}
use Rattle.asp.specs.Program.{Program}
use Rattle.unfolding.specs.Graph.{same_component}
use Rattle.unfolding.specs.Unfolded.{Copy, kept_for, variable, copies_from, unfolded}
use Rattle.unfolding.specs.Claims.{ReadsKeptCopies}
use Rattle.unfolding.proofs.Numbering.{variables_differ}
use Rattle.unfolding.proofs.Bounds.{Source, earlier, final, source}
use Rattle.unfolding.proofs.NoLoop.{last_atom}

-- The rules of a copy are those kept for it behind copies of the same list.
behind : (P : Program) (all : List Copy) (s : List ℕ) (e : ℕ) (past : List Copy) → ((d : Copy) → Memᴰ d past → Memᴰ d all)
    → ((d : Copy) → Memᴰ d (copies_from P e past s) → Memᴰ d all) → (c : Copy) → Memᴰ c (copies_from P e past s)
    → (before : List Copy) × (c.kept ≡ kept_for P before c.atom) × ((d : Copy) → Memᴰ d before → Memᴰ d all)
unfolding copies_from
behind P all [] e past old new c m = absurd (Memᴰ.not-nil m)
behind P all (a ∷ s) e past old new c m =
    let c₀ : Copy = record { atom = a; var = variable P e a (member a s); kept = kept_for P past a } in
    ⊎_elim (λ q. (past, ap (λ (d : Copy). d.kept) q ∙ ap (λ (d : Copy). kept_for P past d.atom) (sym q), old))
    (λ k. behind P all s (cond (member a s) (suc e) e) (c₀ ∷ past)
    (λ d i. ⊎_elim (λ q. subst (λ (d : Copy). Memᴰ d all) (sym q) (new c₀ (Memᴰ.head refl))) (old d) (Memᴰ.cases_cons i)) (λ d i. new d (Memᴰ.tail i)) c k)
    (Memᴰ.cases_cons m)

pub reads_kept : ReadsKeptCopies
unfolding unfolded
reads_kept P wf s atoms c d made other same b kept stands none =
    let all = copies_from P 0 [] s in
    let u = behind P all s 0 [] (λ x i. absurd (Memᴰ.not-nil i)) (λ x i. i) c made in
    from u.2 (source P wf u.0 c.atom b (subst (Memᴰ b) u.1 kept) d.var stands)
  where
    from : {past : List Copy} → ((x : Copy) → Memᴰ x past → Memᴰ x (copies_from P 0 [] s)) → Source P past c.atom d.var → ⊥
    from old (earlier x i t l e) =
        let q = nodup_map_one (λ (x : Copy). x.var) (copies_from P 0 [] s) (variables_differ P s (below_at P.atoms s atoms) 0 []) x d (old x i) other (sym e) in
        let k = ap (λ (x : Copy). length x.kept) q ∙ ap length none in
        omega arith
    from old (final x i l t e) = true_false (ap (same_component P c.atom) (sym (last_atom P s 0 [] d other x l e)) ∙ same) t

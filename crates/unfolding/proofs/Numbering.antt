-- The copies' variables are different and are all of 1 .. t, so any values of the copies are those of some assignment.
use mathlib.Core.Bool.{Bool, true, false, cond}
use mathlib.Core.List.Pairwise
use mathlib.Core.List.{List, [], ◌∷◌, map, Memᴰ, Nodup}
use mathlib.Core.Logic.{◌⊎◌, inl, inr, ⊎_elim}
use mathlib.Core.Path.{◌≡◌, refl, sym, ◌∙◌, ap, subst}
use Prim.Native.Nat.{ℕ, suc, ◌+◌, ◌≤◌, ◌<◌}
use native.Mathlib.Omega.{arith}
use borrow.Author.Tests.{eq-eqb, ne_eqb}
use lib.Dec.{eqb}
use lib.ListN.{length, length-map}
use Rattle.lists.specs.Lists.{member, range}
use Rattle.lists.proofs.Bools.{by_bool, true_false}
use Rattle.lists.proofs.Members.{member_in, member_out, range_in, range_out}
use Rattle.lists.proofs.Nodup.{nodup_cons, nodup_le, nodup_covers, nodup_range, length_range}
use Rattle.asp.specs.Program.{Program, State}
use Rattle.unfolding.specs.Unfolded.{Copy, last, kept_for, variable, copies_from}
use Rattle.unfolding.specs.Faithful.{Assignment}
use Rattle.unfolding.proofs.Current.{copy_value, current}
use Rattle.unfolding.proofs.Copies.{Follows}

-- How many of e + 1 copies that are not their atom's last are made with this one.
abbrev pub counted : ℕ → Bool → ℕ
counted e more = cond more (suc e) e

-- Variables that copies of s can have where e copies are made that are not their atom's last.
abbrev pub Free : Program → ℕ → List ℕ → ℕ → Type 0
Free P e s v = ((b : ℕ) × Memᴰ b s × (v ≡ last b)) ⊎ (P.atoms + e < v)

-- The entries are atoms of the program.
abbrev pub Entries : Program → List ℕ → Type 0
Entries P s = (x : ℕ) → Memᴰ x s → x < P.atoms

module _ (P : Program) where
  free_head : (e a : ℕ) (s : List ℕ) (more : Bool) → Free P e (a ∷ s) (variable P e a more)
  unfolding variable
  free_head e a s true = inr (omega arith)
  free_head e a s false = inl (a, mathlib.Core.List.Memᴰ.head refl, refl)

  free_tail : (e a : ℕ) (s : List ℕ) (more : Bool) (v : ℕ) → Free P (counted e more) s v → Free P e (a ∷ s) v
  free_tail e a s true v = ⊎_elim (λ u. inl (u.0, mathlib.Core.List.Memᴰ.tail u.1, u.2)) (λ l. inr (omega arith))
  free_tail e a s false v = ⊎_elim (λ u. inl (u.0, mathlib.Core.List.Memᴰ.tail u.1, u.2)) (λ l. inr l)

  -- The copies behind have other variables.
  free_other : (e a : ℕ) (s : List ℕ) → Entries P (a ∷ s) → (more : Bool) → member a s ≡ more → (v : ℕ) → Free P (counted e more) s v → variable P e a more ≡ v → ⊥
  unfolding variable last
  free_other e a s low true q v f e' =
      ⊎_elim (λ u. let l = low u.0 (mathlib.Core.List.Memᴰ.tail u.1) in let k = u.2 in omega arith) (λ l. omega arith) f
  free_other e a s low false q v f e' =
      ⊎_elim (λ u. let k = u.2 in true_false (member_in a s (subst (λ x. Memᴰ x s) (omega arith) u.1)) q) (λ l. let k = low a (mathlib.Core.List.Memᴰ.head refl) in omega arith) f

  -- The copies' variables are free ones, and different.
  copy_free : (s : List ℕ) (e : ℕ) (past : List Copy) (c : Copy) → Memᴰ c (copies_from P e past s) → Free P e s c.var
  unfolding copies_from
  copy_free [] e past c m = absurd (mathlib.Core.List.Memᴰ.not-nil m)
  copy_free (a ∷ s) e past c m =
      ⊎_elim (λ q. subst (λ (c : Copy). Free P e (a ∷ s) c.var) (sym q) (free_head e a s (member a s)))
      (λ k. free_tail e a s (member a s) c.var (copy_free s (counted e (member a s)) (record { atom = a; var = variable P e a (member a s); kept = kept_for P past a } ∷ past) c k))
      (mathlib.Core.List.Memᴰ.cases_cons m)

  pub variables_differ : (s : List ℕ) → Entries P s → (e : ℕ) (past : List Copy) → Nodup (map (λ c. c.var) (copies_from P e past s))
  unfolding copies_from
  variables_differ [] low e past = Pairwise.nil
  variables_differ (a ∷ s) low e past =
      let past' : List Copy = record { atom = a; var = variable P e a (member a s); kept = kept_for P past a } ∷ past in
      let e' = counted e (member a s) in
      nodup_cons
      (λ m. let u = mathlib.Core.List.Memᴰ.of_map (λ (c : Copy). c.var) (copies_from P e' past' s) m in
      free_other e a s low (member a s) refl u.0.var (copy_free s e' past' u.0 u.1) (sym u.2))
      (variables_differ s (λ x m. low x (mathlib.Core.List.Memᴰ.tail m)) e' past')

  pub copies_length : (s : List ℕ) (e : ℕ) (past : List Copy) → length (copies_from P e past s) ≡ length s
  unfolding copies_from
  copies_length [] e past = refl
  copies_length (a ∷ s) e past = ap suc (copies_length s (counted e (member a s)) (record { atom = a; var = variable P e a (member a s); kept = kept_for P past a } ∷ past))

-- The entries that are their atom's last, and how many are not.
lasts : List ℕ → List ℕ
lasts [] = []
lasts (a ∷ s) = cond (member a s) (lasts s) (a ∷ lasts s)

others : List ℕ → ℕ
others [] = 0
others (a ∷ s) = counted (others s) (member a s)

lasts_others : (s : List ℕ) → length s ≡ length (lasts s) + others s
unfolding lasts others
lasts_others [] = refl
lasts_others (a ∷ s) = by_bool (member a s) (λ t. rw t (let h = lasts_others s in omega arith)) (λ f. rw f (let h = lasts_others s in omega arith))

lasts_all : (s : List ℕ) (b : ℕ) → Memᴰ b s → Memᴰ b (lasts s)
unfolding lasts
lasts_all [] b m = m
lasts_all (a ∷ s) b m =
    by_bool (member a s)
    (λ t. rw t (lasts_all s b (⊎_elim (λ q. member_out b s (ap (λ x. member x s) q ∙ t)) (λ k. k) (mathlib.Core.List.Memᴰ.cases_cons m))))
    (λ f. rw f (⊎_elim (λ q. mathlib.Core.List.Memᴰ.head q) (λ k. mathlib.Core.List.Memᴰ.tail (lasts_all s b k)) (mathlib.Core.List.Memᴰ.cases_cons m)))

module _ (P : Program) where
  variable_le : (s : List ℕ) → Entries P s → (e : ℕ) (past : List Copy) (c : Copy) → Memᴰ c (copies_from P e past s) → c.var ≤ P.atoms + e + others s
  unfolding copies_from others variable last
  variable_le [] low e past c m = absurd (mathlib.Core.List.Memᴰ.not-nil m)
  variable_le (a ∷ s) low e past c m =
      ⊎_elim (λ q. subst (λ (c : Copy). c.var ≤ P.atoms + e + counted (others s) (member a s)) (sym q) (head (member a s)))
      (λ k. tail (member a s) (variable_le s (λ x n. low x (mathlib.Core.List.Memᴰ.tail n)) (counted e (member a s)) (record { atom = a; var = variable P e a (member a s); kept = kept_for P past a } ∷ past) c k))
      (mathlib.Core.List.Memᴰ.cases_cons m)
    where
      head : (more : Bool) → variable P e a more ≤ P.atoms + e + counted (others s) more
      head true = omega arith
      head false = let l = low a (mathlib.Core.List.Memᴰ.head refl) in omega arith

      tail : (more : Bool) → c.var ≤ P.atoms + counted e more + others s → c.var ≤ P.atoms + e + counted (others s) more
      tail true l = omega arith
      tail false l = l

  variable_above : (s : List ℕ) (e : ℕ) (past : List Copy) (c : Copy) → Memᴰ c (copies_from P e past s) → 1 ≤ c.var
  unfolding last
  variable_above s e past c m = ⊎_elim (λ u. let q = u.2 in omega arith) (λ l. omega arith) (copy_free P s e past c m)

  -- A sequence in which every atom of the program stands.
  module _ (s : List ℕ) (low : Entries P s) (full : (b : ℕ) → b < P.atoms → Memᴰ b s) where
    atoms_le : P.atoms + others s ≤ length s
    atoms_le =
        let fit = nodup_le (range 0 P.atoms) (lasts s) (nodup_range 0 P.atoms) (λ b m. lasts_all s b (full b (let r = range_out 0 P.atoms b m in omega (arith, r.high)))) in
        let size = length_range 0 P.atoms in
        let sum = lasts_others s in
        omega arith

    pub atoms_fit : P.atoms ≤ length s
    atoms_fit = let l = atoms_le in omega arith

    pub variable_range : (c : Copy) → Memᴰ c (copies_from P 0 [] s) → Memᴰ c.var (range 1 (length s))
    variable_range c m =
        let a = variable_above s 0 [] c m in
        let b = variable_le s low 0 [] c m in
        let l = atoms_le in
        range_in 1 (length s) c.var a (omega arith)

    -- Every number of 1 .. t is a copy's variable.
    pub all_variables : (v : ℕ) → 1 ≤ v → v ≤ length s → (c : Copy) × Memᴰ c (copies_from P 0 [] s) × (c.var ≡ v)
    all_variables v a b =
        let cs = copies_from P 0 [] s in
        mathlib.Core.List.Memᴰ.of_map (λ (c : Copy). c.var) cs
        (nodup_covers (map (λ (c : Copy). c.var) cs) 1 (length s) (variables_differ P s low 0 [])
        (λ x m. let u = mathlib.Core.List.Memᴰ.of_map (λ (c : Copy). c.var) cs m in subst (λ y. Memᴰ y (range 1 (length s))) u.2 (variable_range u.0 u.1))
        (let p = length-map cs (λ (c : Copy). c.var) in let q = copies_length P s 0 [] in omega arith)
        v (range_in 1 (length s) v a (omega arith)))

-- The assignment that gives each copy its value.
pub assign : Program → State → ℕ → List ℕ → List ℕ → Assignment
assign P X e past [] v = false
assign P X e past (a ∷ s) v =
    cond (eqb (variable P e a (member a s)) v) (copy_value P X (current P X past) a) (assign P X (counted e (member a s)) (a ∷ past) s v)

pub assign_follows : (P : Program) (X : State) (M : Assignment) (s : List ℕ) → Entries P s → (e : ℕ) (past : List ℕ)
    → ((v : ℕ) → Free P e s v → M v ≡ assign P X e past s v) → Follows P X M e past s
unfolding assign
assign_follows P X M [] low e past h = tt
assign_follows P X M (a ∷ s) low e past h =
    let v = variable P e a (member a s) in (
      h v (free_head P e a s (member a s)) ∙ rw (eq-eqb v v refl) refl,
      assign_follows P X M s (λ x m. low x (mathlib.Core.List.Memᴰ.tail m)) (counted e (member a s)) (a ∷ past)
          (λ u f. h u (free_tail P e a s (member a s) u f) ∙ rw (ne_eqb v u (free_other P e a s low (member a s) refl u f)) refl),
    )

-- In each model an atom's later copies are true where an earlier one is.
use mathlib.Core.Bool.{true, cond}
use mathlib.Core.List.Memᴰ
use mathlib.Core.List.Sublistᴰ
use mathlib.Core.List.{List, [], ◌∷◌, Memᴰ, cons≢nil}
use mathlib.Core.Logic.{⊎_elim}
use mathlib.Core.Path.{◌≡◌, refl, sym, ◌∙◌, ap}
use Prim.Native.Nat.{ℕ, suc}
use Rattle.lists.specs.Lists.{member}
use Rattle.lists.proofs.Sublists.{mem_sublist}
use Rattle.asp.specs.Program.{Program, State}
use Rattle.asp.specs.LeastModel.{Inside}
use Rattle.unfolding.specs.Unfolded.{Copy, kept_for, variable, copies_from}
use Rattle.unfolding.specs.Faithful.{Assignment}
use Rattle.unfolding.specs.Lengthened.{LaterCopiesTrue}
use Rattle.unfolding.proofs.Current.{copy_value, current, copy_mono, current_grows}
use Rattle.unfolding.proofs.Copies.{Follows}

module _ (P : Program) (X : State) (M : Assignment) where
  -- A copy behind the past is true where a copy of its atom that reads no more than the past's values is.
  behind_true : (L : State) (s : List ℕ) (e : ℕ) (past : List ℕ) (made : List Copy) → Inside L (current P X past) → Follows P X M e past s
      → (d : Copy) → Memᴰ d (copies_from P e made s) → copy_value P X L d.atom ≡ true → M d.var ≡ true
  unfolding copies_from
  behind_true L [] e past made i f d m v = absurd (Memᴰ.not-nil m)
  behind_true L (a ∷ s) e past made i f d m v =
      ⊎_elim (λ q. ap (λ (d : Copy). M d.var) q ∙ (f.0 ∙ copy_mono P X L (current P X past) i a (ap (λ (d : Copy). copy_value P X L d.atom) (sym q) ∙ v)))
      (λ k. behind_true L s (cond (member a s) (suc e) e) (a ∷ past) (record { atom = a; var = variable P e a (member a s); kept = kept_for P made a } ∷ made) (λ b t. current_grows P X past a b (i b t)) f.1 d k v)
      (Memᴰ.cases_cons m)

  pub later_true : (s : List ℕ) (e : ℕ) (past : List ℕ) (made : List Copy) → Follows P X M e past s → LaterCopiesTrue (copies_from P e made s) M
  unfolding copies_from
  later_true [] e past made f c d w same t = absurd (cons≢nil (Sublistᴰ.eq-nil w))
  later_true (a ∷ s) e past made f c d w same t =
      let more = cond (member a s) (suc e) e in
      let made' : List Copy = record { atom = a; var = variable P e a (member a s); kept = kept_for P made a } ∷ made in
      ⊎_elim (λ k. later_true s more (a ∷ past) made' f.1 c d k same t)
      (λ k. behind_true (current P X past) s more (a ∷ past) made' (current_grows P X past a) f.1 d (mem_sublist k.1 (Memᴰ.head refl))
      (ap (copy_value P X (current P X past)) (sym same ∙ ap (λ (c : Copy). c.atom) k.0) ∙ (sym f.0 ∙ (ap (λ (c : Copy). M c.var) (sym k.0) ∙ t))))
      (Sublistᴰ.cases_cons-cons w)

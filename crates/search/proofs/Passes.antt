-- Laws of the passes.
use mathlib.Core.Bool.{Bool, true}
use mathlib.Core.List.{List}
use mathlib.Core.Logic.{⊎_elim}
use mathlib.Core.Path.{◌≡◌, refl, sym, ◌∙◌, subst}
use Prim.Native.Nat.{ℕ, ◌+◌, ◌-◌, ◌*◌, ◌^◌, ◌≤◌, ◌<◌}
use native.Mathlib.Omega.{arith}
use borrow.Author.Tests.{eqb-true, eqb-false}
use lib.Dec.{eqb}
use lib.ListN.{get_or}
use Rattle.lists.proofs.Bools.{by_bool, true_false}
use Rattle.asp.specs.Program.{State}
use Rattle.asp.specs.LeastModel.{Inside}
use Rattle.asp.specs.Least.{Closed}
use Rattle.search.specs.inner.Decided.{CountRule}
use Rattle.search.proofs.Branching.{fires_out, fires_in}
use Rattle.bits.specs.inner.Sets.{has}
use Rattle.tables.specs.inner.Rows.{row_at}
use Rattle.tables.specs.declared.SheetRecord.{SheetRecord}
use Rattle.search.specs.inner.Rules.{Masks, Bound, RuleAt, HeldRules, passes, Applies, Fired, FiredAt, operator, Ready, Onward, LeastBy}
use Rattle.search.proofs.Firing.{masked_all, all_masked}

pub head_low : (t : List ℕ) (j h : ℕ) (R : SheetRecord) → R ≡ row_at t j → h ≡ R.head → (row_at t j).head < 64 → h < 64
head_low t j h R same e l = rw (e, same) l

pub fired_here : (t gate : List ℕ) (j : ℕ) (B : Bound) (l r h : ℕ) (R : SheetRecord) (b : Bool) → R ≡ row_at t j → h ≡ R.head
    → Applies B R.neg (get_or gate j 0) b → Fired l h R.pos b r → FiredAt t gate j B l r
fired_here t gate j B l r h R b same e A F = record { flag = b; asked = rw same at A; fired = rw (e, same) at F }

module _ (M : Masks) (B : Bound) where
  abbrev FiresAt : ℕ → ℕ → ℕ → Type 0
  FiresAt j x y = FiredAt M.records M.gate j B x y

  abbrev head_at : ℕ → ℕ
  head_at j = (row_at M.records j).head

  abbrev pos_at : ℕ → ℕ
  pos_at j = (row_at M.records j).pos

  -- The rules before j add nothing.
  pub record Passing (l j x : ℕ) : Type 0 where
    pub below : (rs : List CountRule) → HeldRules rs M → (Y : State) → Closed (operator B rs) Y → Inside (has l) Y → Inside (has x) Y
    pub still : (i : ℕ) → i < j → (r : CountRule) → RuleAt M r i → passes B r ≡ true → Inside (has (pos_at i)) (has x) → has x (head_at i) ≡ true

  pub passing_start : (l : ℕ) → Passing l 0 l
  passing_start l = record { below = λ rs H Y c s. s; still = λ i h. absurd (omega arith) }

  -- Where rule j adds its head, the rules before back[j] ask for nothing new.
  pub passing_turn : (back : List ℕ) (l j x y j₁ : ℕ) → Ready M.records back M.sizes → Passing l j x → j < M.sizes.rules → FiresAt j x y → Onward x y (get_or back j 0) j j₁
      → Passing l j₁ y
  passing_turn back l j x y j₁ R P h F on = record { below = below; still = still }
    where
      below : (rs : List CountRule) → HeldRules rs M → (Y : State) → Closed (operator B rs) Y → Inside (has l) Y → Inside (has y) Y
      below rs H Y c s a e =
          ⊎_elim (P.below rs H Y c s a)
          (λ u. let m = H.sound j (omega arith) (omega arith) in
          let r = m.0 in
          subst (λ b. Y b ≡ true) (sym m.2.heads ∙ sym u.0) (c r.rule.head (fires_in (passes B) rs Y r.rule.head (record {
            rule = r;
            stands = m.1;
            passes = sym (F.asked.is r (head_at j) (pos_at j) m.2) ∙ u.1;
            head = refl;
            positives = masked_all (pos_at j) r.rule.body.pos m.2.body.positives Y (λ b t. P.below rs H Y c s b (u.2 b t));
          }))))
          (F.fired.adds a e)

      -- What rule i asks for was there before.
      before : (i : ℕ) → i < j₁ → Inside (has (pos_at i)) (has y) → (i ≤ j) × Inside (has (pos_at i)) (has x)
      before i lt s =
          by_bool (eqb x y)
          (λ q. let e = eqb-true x y q in let next = on.same e in (omega arith, λ a t. subst (λ z. has z a ≡ true) (sym e) (s a t)))
          (λ q. let next = on.other (eqb-false x y q) in
          let n = R.returns.near j h in
          let less : i < get_or back j 0 = omega arith in
          (omega arith, λ a t. ⊎_elim (λ u. u) (λ u. absurd (true_false (subst (λ b. has (pos_at i) b ≡ true) u.0 t) (R.returns.lacks j h i less))) (F.fired.adds a (s a t))))

      still : (i : ℕ) → i < j₁ → (r : CountRule) → RuleAt M r i → passes B r ≡ true → Inside (has (pos_at i)) (has y) → has y (head_at i) ≡ true
      still i lt r m t s =
          let u = before i lt s in
          let near = u.0 in
          by_bool (eqb i j)
          (λ q. let e = eqb-true i j q in
          subst (λ j'. has y (head_at j') ≡ true) (sym e)
          (F.fired.closes (F.asked.is r (head_at j) (pos_at j) (subst (RuleAt M r) e m) ∙ t) (subst (λ j'. Inside (has (pos_at j')) (has x)) e u.1)))
          (λ q. let ne = eqb-false i j q in F.fired.keeps (head_at i) (P.still i (omega arith) r m t u.1))

  pub passing_end : (l j x : ℕ) → Passing l j x → M.sizes.rules ≤ j → LeastBy M B l x
  passing_end l j x P h =
      record {
        closed = λ rs H a t.
            let F = fires_out (passes B) rs (has x) a t in
            let m = H.complete F.rule F.stands in
            let low = m.2 in
            subst (λ b. has x b ≡ true) (m.3.heads ∙ F.head)
            (P.still m.0 (omega arith) F.rule m.3 F.passes (all_masked (pos_at m.0) F.rule.rule.body.pos m.3.body.positives (has x) F.positives));
        below = P.below;
      }

-- Either the set grows or the pass goes on behind j.
pub pass_falls : (t gate : List ℕ) (B : Bound) (k m j x y b j₁ : ℕ) → k + m ≤ 128 → j < k → y < 2 ^ 64 → FiredAt t gate j B x y → Onward x y b j j₁
    → 129 * (2 ^ 64 - y) + (k - j₁) < 129 * (2 ^ 64 - x) + (k - j)
pass_falls t gate B k m j x y b j₁ few h small F on =
    let up = F.fired.grows in
    by_bool (eqb x y) (λ q. let e = eqb-true x y q in let next = on.same e in omega arith) (λ q. let ne = eqb-false x y q in omega arith)

-- Laws of the search, one for each way out.
use mathlib.Core.Bool.{Bool, true, false, not, ◌&&◌, ◌||◌, cond}
use mathlib.Core.List.{List}
use mathlib.Core.Logic.{◌⊎◌, inl, inr, ⊎_elim}
use mathlib.Core.Path.{◌≡◌, refl, sym, ◌∙◌, ap, subst, fun_ext}
use Prim.Native.Nat.{ℕ, suc, ◌+◌, ◌^◌, ◌≤◌, ◌<◌}
use native.Mathlib.Nat.{pow-suc}
use native.Mathlib.Omega.{arith}
use borrow.Author.Tests.{eqb-true, eq-eqb}
use lib.Dec.{eqb}
use lib.Pow.{pow_pos, pow_mono}
use Rattle.std.specs.Int.{from_bool}
use Rattle.lists.specs.Lists.{range}
use Rattle.lists.proofs.Bools.{by_bool, true_false, is_true, is_false, bool_ext, and_intro, and_left, and_right, or_cases, or_left, or_right, not_intro, not_elim}
use Rattle.lists.proofs.Members.{range_in}
use Rattle.lists.proofs.Nodup.{filter_lt, nodup_range}
use Rattle.asp.specs.Program.{Body}
use Rattle.asp.specs.LeastModel.{Inside}
use Rattle.asp.specs.Count.{with}
use Rattle.search.specs.inner.Decided.{CountRule, count_by}
use Rattle.search.proofs.Branching.{count_split}
use Rattle.bits.specs.inner.Sets.{has, With, Subset, Both, Either, Difference}
use Rattle.bits.proofs.Digits.{zero_has}
use Rattle.search.specs.inner.Rules.{Masks, LeastBy, Lawful}
use Rattle.search.specs.inner.Search.{lower, deciding, is_open, undecided, Task, Leaf, Last, Refuted, Follows, Member, Counted}
use Rattle.search.specs.declared.Sizes.{Sizes}
use Rattle.search.specs.declared.Decisions.{Decisions}
use Rattle.search.proofs.Tasks.{candidate, more, met}

-- One decision more.
eqb_flip : (a b : ℕ) → eqb a b ≡ eqb b a
eqb_flip a b = bool_ext (λ e. eq-eqb b a (sym (eqb-true a b e))) (λ e. eq-eqb a b (sym (eqb-true b a e)))

with_state : (x c y : ℕ) → With x c y → has y ≡ with c (has x)
unfolding with
with_state x c y W = fun_ext (λ a. W.members a ∙ ap (λ (b : Bool). b || has x a) (eqb_flip a c))

module _ (x c y : ℕ) (W : With x c y) where
  with_own : has y c ≡ true
  with_own = W.members c ∙ or_left (has x c) (eq-eqb c c refl)

  with_kept : Inside (has x) (has y)
  with_kept a e = W.members a ∙ or_right (eqb a c) e

  with_cases : (a : ℕ) → has y a ≡ true → (a ≡ c) ⊎ (has x a ≡ true)
  with_cases a e = ⊎_elim (λ q. inl (eqb-true a c q)) inr (or_cases (eqb a c) (has x a) (sym (W.members a) ∙ e))

number : (d : Bool) → from_bool d ≡ cond d 1 0
number true = refl
number false = refl

-- The leaf's code.
module _ (t : List ℕ) (s : Sizes) (i l : ℕ) where
  pub leaf_lacks : (b : Bool) → Subset i l b → b ≡ false → Leaf t s i l 0
  leaf_lacks b S f = record { holds_in = b; asked = S; obeys = true; tested = λ t. absurd (true_false t f); is = rw f refl }

  pub leaf_tested : (b d : Bool) (v : ℕ) → Subset i l b → b ≡ true → Lawful t s l d → v ≡ from_bool d → Leaf t s i l v
  leaf_tested b d v S t K e = record { holds_in = b; asked = S; obeys = d; tested = λ _. K; is = e ∙ (number d ∙ rw t refl) }

  leaf_small : (v : ℕ) → Leaf t s i l v → v ≤ 1
  leaf_small v K =
      by_bool K.holds_in
      (λ t. by_bool K.obeys (λ d. let e : v ≡ 1 = K.is ∙ rw (t, d) refl in omega arith) (λ d. let e : v ≡ 0 = K.is ∙ rw (t, d) refl in omega arith))
      (λ f. let e : v ≡ 0 = K.is ∙ rw f refl in omega arith)

-- With everything decided.
module _ (M : Masks) (d : Decisions) (l : ℕ) (B : LeastBy M (lower d) 0 l) where
  pub last_met : (r : ℕ) → r < 2 ^ 64 → Both l d.outs r → (r ≡ 0 → ⊥) → Last M d 0
  last_met r s W ne = record { is = λ n rs cs T _. sym (met n rs cs M d T l B r s W ne); small = omega arith }

  pub last_leaf : (r v : ℕ) → r < 2 ^ 64 → Both l d.outs r → r ≡ 0 → Leaf M.records M.sizes d.ins l v → Last M d v
  last_leaf r v s W z K =
      record { is = λ n rs cs T all-decided. candidate n rs cs M d T l B all-decided r s W z v K; small = leaf_small M.records M.sizes d.ins l v K }

-- Fewer atoms are undecided.
fewer : (d e : Decisions) (c : ℕ) → e.atoms ≡ d.atoms → Inside (has d.ins) (has e.ins) → Inside (has d.outs) (has e.outs) → c < 64 → is_open d c ≡ true → (has e.ins c || has e.outs c) ≡ true
    → undecided e < undecided d
unfolding undecided
fewer d e c same p q l t h =
    filter_lt (is_open e) (is_open d) (range 0 64) (nodup_range 0 64)
    (λ a _ h. open_more a h) c (range_in 0 64 c (omega arith) (omega arith))
    (is_false (λ s. true_false h (not_elim (and_right (has e.atoms c) (not (has e.ins c || has e.outs c)) s)))) t
  where
    open_more : (a : ℕ) → is_open e a ≡ true → is_open d a ≡ true
    open_more a h =
        and_intro (ap (λ x. has x a) (sym same) ∙ and_left (has e.atoms a) (not (has e.ins a || has e.outs a)) h)
        (not_intro (is_false (λ s. true_false (⊎_elim (λ v. or_left (has e.outs a) (p a v)) (λ v. or_right (has e.ins a) (q a v)) (or_cases (has d.ins a) (has d.outs a) s))
        (not_elim (and_right (has e.atoms a) (not (has e.ins a || has e.outs a)) h)))))

-- The ways out of the search.
pub found_none : (M : Masks) (d : Decisions) → Refuted M d → Counted M d 0
found_none M d R = record { is = λ n rs cs T. sym (R.is n rs cs T); small = omega arith }

module _ (M : Masks) (d p : Decisions) (N : Follows M d p) where
  abbrev ins : ℕ
  ins = p.ins

  abbrev outs : ℕ
  outs = p.outs

  module _ (e z : ℕ) (E : Either ins outs e) (D : Difference p.atoms e z) where
    open_here : (a : ℕ) → has z a ≡ is_open p a
    open_here a = D.members a ∙ ap (λ (b : Bool). has p.atoms a && not b) (E.members a)

    pub found_last : (v : ℕ) → z ≡ 0 → Last M p v → Counted M d v
    found_last v none K =
        record {
          is = λ n rs cs T. let U = N.is n rs cs T in
              K.is n rs cs U.task (λ a t. is_true (λ q. true_false (open_here a ∙ and_intro t (not_intro q)) (ap (λ z. has z a) none ∙ zero_has a))) ∙ sym U.same;
          small = let s = pow_pos (undecided d) in let q = K.small in omega arith;
        }

    module _ (c : ℕ) (C : Member z c) where
      here : is_open p c ≡ true
      here = sym (open_here c) ∙ C.inside

      free : (has ins c || has outs c) ≡ false
      free = not_elim (and_right (has p.atoms c) (not (has ins c || has outs c)) here)

      opened : is_open d c ≡ true
      opened =
          and_intro (ap (λ x. has x c) (sym N.atoms) ∙ and_left (has p.atoms c) (not (has ins c || has outs c)) here)
          (not_intro (is_false (λ s. true_false (⊎_elim (λ v. or_left (has outs c) (N.more_ins c v)) (λ v. or_right (has ins c) (N.more_outs c v)) (or_cases (has d.ins c) (has d.outs c) s)) free)))

      pub fewer_in : (i : ℕ) → With ins c i → undecided (deciding p i outs) < undecided d
      fewer_in i I =
          fewer d (deciding p i outs) c N.atoms (λ a t. with_kept ins c i I a (N.more_ins a t)) N.more_outs C.low opened (or_left (has outs c) (with_own ins c i I))

      pub fewer_out : (o : ℕ) → With outs c o → undecided (deciding p ins o) < undecided d
      fewer_out o O =
          fewer d (deciding p ins o) c N.atoms N.more_ins (λ a t. with_kept outs c o O a (N.more_outs a t)) C.low opened (or_right (has ins c) (with_own outs c o O))

      module _ (n : ℕ) (rs : List CountRule) (cs : List Body) (T : Task n rs cs M p) where
        own : c < n
        own = T.low c (and_left (has p.atoms c) (not (has ins c || has outs c)) here)

        task_in : (i : ℕ) → With ins c i → Task n rs cs M (deciding p i outs)
        task_in i I =
            more n rs cs M p T i outs
            (λ a t. ⊎_elim (λ q. subst (λ b. b < n) (sym q) own) (T.ins_low a) (with_cases ins c i I a t))
            (λ a t. ⊎_elim (λ q. ap (has outs) q ∙ is_false (λ s. true_false (or_right (has ins c) s) free)) (T.apart a) (with_cases ins c i I a t))

        task_out : (o : ℕ) → With outs c o → Task n rs cs M (deciding p ins o)
        task_out o O =
            more n rs cs M p T ins o T.ins_low
            (λ a t. is_false (λ s. ⊎_elim (λ q. true_false (or_left (has outs c) (subst (λ b. has ins b ≡ true) q t)) free) (λ q. true_false q (T.apart a t)) (with_cases outs c o O a s)))

      pub found_sum : (i o v w : ℕ) → With ins c i → With outs c o → Counted M (deciding p i outs) v → Counted M (deciding p ins o) w → Counted M d (v + w)
      found_sum i o v w I O A B =
          record {
            is = λ n rs cs T.
                let U = N.is n rs cs T in
                let T' = U.task in
                ap (λ z. z + w) (A.is n rs cs (task_in n rs cs T' i I) ∙ ap (λ X. count_by n rs cs X (has outs)) (with_state ins c i I))
                ∙ (ap (λ z. count_by n rs cs (with c (has ins)) (has outs) + z) (B.is n rs cs (task_out n rs cs T' o O) ∙ ap (count_by n rs cs (has ins)) (with_state outs c o O))
                ∙ (sym (count_split n rs cs (has ins) (has outs) c (own n rs cs T')) ∙ sym U.same));
            small =
                let a = A.small in
                let b = B.small in
                let g = pow_mono {i = suc (undecided (deciding p i outs))} {j = undecided d} (fewer_in i I) in
                let h = pow_mono {i = suc (undecided (deciding p ins o))} {j = undecided d} (fewer_out o O) in
                let s = pow-suc 2 (undecided (deciding p i outs)) in
                let t = pow-suc 2 (undecided (deciding p ins o)) in
                omega arith;
          }

-- What the code of the search asks on the way.
pub falls_below : (a b t : ℕ) → a < b → b ≡ t → a < t
falls_below a b t l e = omega arith

pub stays_few : (a b : ℕ) → a < b → b ≤ 16 → a ≤ 16
stays_few a b l h = omega arith

pub few : (t r : ℕ) → t ≤ 16 → r ≤ 2 ^ t → r ≤ 65536
few t r l s = let k = pow_mono {i = t} {j = 16} l in omega arith

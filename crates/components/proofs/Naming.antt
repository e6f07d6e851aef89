-- Laws of the loops over the closed table and over the components' names and sets.
use mathlib.Core.Bool.{Bool, true, false, ◌&&◌, ◌||◌, cond, and-true, and-false, and_assoc}
use mathlib.Core.List.{List, [], ◌∷◌}
use mathlib.Core.Path.{◌≡◌, refl, sym, ◌∙◌, ap}
use Prim.Native.Nat.{ℕ, ◌+◌, ◌-◌, ◌*◌, ◌^◌, ◌≤◌, ◌<◌, max}
use native.Mathlib.Nat.{sub-zero}
use native.Mathlib.Omega.{arith}
use borrow.Author.Tests.{eqb-true, eqb-false, eq-eqb, ne_eqb, lt-ltb, le-ltb, ltb-true, ltb-false, leb-true, le-leb}
use lib.Bits.{bit_and}
use lib.Dec.{eqb, ltb, leb}
use lib.ListN.{length, get_or, set, take, length-set, replicate, length-replicate, get_or-replicate}
use lib.Seq.{get_or-set_same, get_or-set_other}
use Rattle.std.proofs.lemmas.List.{get_or-take}
use Rattle.lists.specs.Lists.{all, filter, range}
use Rattle.lists.proofs.Bools.{by_bool, bool_ext, true_false, and_intro, and_left, and_right}
use Rattle.lists.proofs.Members.{filter_cong, filter_none, filter_out, filter_range, range_left, range_over, range_out}
use Rattle.unfolding.specs.Graph.{first}
use Rattle.bits.specs.inner.Sets.{has, With, Size}
use Rattle.bits.specs.inner.Visited.{listed, Lowest, Rest}
use Rattle.bits.proofs.Digits.{zero_has}
use Rattle.bits.proofs.Visiting.{listed_lowest, listed_none, has_some, rest_is}
use Rattle.components.specs.inner.Reachability.{both_ways, NameOf, NamedBy, NamesLow, SetsOf, named, names_fit, Largest}

-- The first number that passes both tests, by the list of those that pass the one.
first_filter : (p q : ℕ → Bool) (d : ℕ) (l : List ℕ) → first (λ b. p b && q b) d l ≡ first q d (filter p l)
unfolding first filter
first_filter p q d [] = refl
first_filter p q d (x ∷ l) = by_bool (p x) (λ t. rw (t, first_filter p q d l) refl) (λ f. rw f (first_filter p q d l))

filter_twice : (p q : ℕ → Bool) (l : List ℕ) → filter q (filter p l) ≡ filter (λ b. p b && q b) l
unfolding filter
filter_twice p q [] = refl
filter_twice p q (x ∷ l) = by_bool (p x) (λ t. by_bool (q x) (λ u. rw (t, u) (ap (λ m. x ∷ m) (filter_twice p q l))) (λ u. rw (t, u) (filter_twice p q l))) (λ f. rw f (filter_twice p q l))

-- The smallest atom: what is left of the atoms that lead to a, those below a, decides.
pub record Seeking (rows : List ℕ) (a left : ℕ) : Type 0 where
  pub same : first (λ b. has (get_or rows b 0) a) a (filter (λ b. ltb b a) (listed left)) ≡ first (both_ways rows a) a (range 0 a)

module _ (rows : List ℕ) (a : ℕ) where
  pub seeking_start : a < 64 → Seeking rows a (get_or rows a 0)
  unfolding listed
  seeking_start l =
      let p : ℕ → Bool = has (get_or rows a 0) in
      record {
        same = ap (first (λ b. has (get_or rows b 0) a) a)
            (filter_twice p (λ b. ltb b a) (range 0 64)
            ∙ (filter_range (λ b. p b && ltb b a) a 64 (omega arith) (λ b t. ltb-true b a (and_right (p b) (ltb b a) t))
            ∙ filter_cong (λ b. p b && ltb b a) p (range 0 a) (λ b m. let r = (range_out 0 a b m).high in rw (lt-ltb b a (omega arith)) (and-true (p b)))))
            ∙ sym (first_filter p (λ b. has (get_or rows b 0) a) a (range 0 a));
      }

  module _ (left b : ℕ) (S : Seeking rows a left) (L : Lowest left b) where
    pub seeking_past : a ≤ b → NameOf rows a a
    unfolding listed first
    seeking_past h =
        record {
          is = sym (ap (first (λ b. has (get_or rows b 0) a) a)
              (filter_none (λ b. ltb b a) (listed left) (λ x m. let f = (filter_out (has left) (range 0 64) x m).1 in
              le-ltb x a (by_bool (ltb x b) (λ t. absurd (true_false f (L.first x (ltb-true x b t)))) (λ n. let k = ltb-false x b n in omega arith)))))
              ∙ S.same;
          low = omega arith;
        }

    step : (r : ℕ) → b < a → Rest left r → cond (has (get_or rows b 0) a) b (first (λ b. has (get_or rows b 0) a) a (filter (λ b. ltb b a) (listed r))) ≡ first (both_ways rows a) a (range 0 a)
    unfolding first filter
    step r l R = sym (ap (λ l. first (λ b. has (get_or rows b 0) a) a (filter (λ b. ltb b a) l)) (listed_lowest left b L r R) ∙ rw (lt-ltb b a l) refl) ∙ S.same

    pub seeking_turn : (r : ℕ) (x : Bool) → b < a → x ≡ has (get_or rows b 0) a → x ≡ false → Rest left r → Seeking rows a r
    seeking_turn r x l e f R = record { same = rw (sym e ∙ f) at (step r l R) }

    pub seeking_found : (x : Bool) → b < a → x ≡ has (get_or rows b 0) a → x ≡ true → NameOf rows a b
    unfolding first filter
    seeking_found x l e t =
        record { is = rw (sym e ∙ t) at (step (bit_and left (left - 1)) l (rest_is left (has_some left b L.is))); low = omega arith }

  pub seeking_end : (left : ℕ) → Seeking rows a left → left ≤ 0 → NameOf rows a a
  unfolding first filter
  seeking_end left S l = record { is = sym (ap (λ l. first (λ b. has (get_or rows b 0) a) a (filter (λ b. ltb b a) l)) (ap listed (let z : left ≡ 0 = omega arith in z) ∙ listed_none)) ∙ S.same; low = omega arith }

-- The names so far.
pub record Naming (n : ℕ) (rows : List ℕ) (a : ℕ) (names : List ℕ) : Type 0 where
  pub long : length names ≡ 64
  pub done : (i : ℕ) → i < a → NameOf rows i (get_or names i 0)

module _ (n : ℕ) (rows : List ℕ) where
  pub naming_start : (names : List ℕ) → length names ≡ 64 → Naming n rows 0 names
  naming_start names l = record { long = l; done = λ i l. absurd (omega arith) }

  pub naming_turn : (a r : ℕ) (names : List ℕ) → Naming n rows a names → a < 64 → NameOf rows a r → Naming n rows (a + 1) (set names a r)
  naming_turn a r names K l S =
      record {
        long = length-set names a r ∙ K.long;
        done = λ i h. by_bool (eqb i a)
            (λ q. let w = K.long in rw (eqb-true i a q, get_or-set_same names a r 0 (omega arith)) S)
            (λ q. let ne = eqb-false i a q in rw (get_or-set_other names a i r 0 ne) (K.done i (omega arith)));
      }

  pub naming_end : (a : ℕ) (names : List ℕ) → Naming n rows a names → n ≤ a → NamedBy n rows names
  naming_end a names K l = record { long = K.long; name = λ i h. K.done i (omega arith) }

  pub named_low : (names : List ℕ) → NamedBy n rows names → n ≤ 64 → NamesLow n names
  named_low names N m = record { low = λ a l. let h = (N.name a l).low in omega arith }

module _ (n : ℕ) (names : List ℕ) (N : NamesLow n names) where
  pub name_low : (a d : ℕ) → a < n → d ≡ get_or names a 0 → d < 64
  name_low a d l e = let h = N.low a l in omega arith

  pub name_scale : (a d : ℕ) → a < n → d ≡ get_or names a 0 → d * 8 < 2 ^ 64
  name_scale a d l e = let h = name_low a d l e in omega arith

-- The sets so far.
pub record Grouping (names : List ℕ) (a : ℕ) (sets : List ℕ) : Type 0 where
  pub long : length sets ≡ 64
  pub members : (c : ℕ) → c < 64 → (b : ℕ) → has (get_or sets c 0) b ≡ (ltb b a && eqb (get_or names b 0) c)

module _ (names : List ℕ) where
  pub grouping_start : (sets : List ℕ) → sets ≡ replicate 64 0 → Grouping names 0 sets
  grouping_start sets e = rw e record { long = length-replicate {A = ℕ} 64 0; members = λ c l b. rw (get_or-replicate {A = ℕ} 64 c 0 0 l, zero_has b, le-ltb b 0 (omega arith)) refl }

  pub grouping_turn : (a d r : ℕ) (sets : List ℕ) → Grouping names a sets → d ≡ get_or names a 0 → d < 64 → With (get_or sets d 0) a r → Grouping names (a + 1) (set sets d r)
  grouping_turn a d r sets K e low W =
      record {
        long = length-set sets d r ∙ K.long;
        members = λ c l b. by_bool (eqb c d)
            (λ t. let q = eqb-true c d t in
            rw (q, get_or-set_same sets d r 0 (let w = K.long in omega arith)) (W.members b ∙ (rw (K.members d low b) (joins b))))
            (λ f. let ne = eqb-false c d f in rw (get_or-set_other sets d c r 0 ne) (K.members c l b ∙ stays c ne b));
      }
    where
      joins : (b : ℕ) → (eqb b a || ltb b a && eqb (get_or names b 0) d) ≡ (ltb b (a + 1) && eqb (get_or names b 0) d)
      joins b =
          by_bool (eqb b a)
          (λ t. let q = eqb-true b a t in rw (t, lt-ltb b (a + 1) (omega arith), eq-eqb (get_or names b 0) d (ap (λ i. get_or names i 0) q ∙ sym e)) refl)
          (λ f. rw (f, later b f) refl)
        where
          later : (b : ℕ) → eqb b a ≡ false → ltb b a ≡ ltb b (a + 1)
          later b f = let ne = eqb-false b a f in bool_ext (λ t. let u = ltb-true b a t in lt-ltb b (a + 1) (omega arith)) (λ t. let u = ltb-true b (a + 1) t in lt-ltb b a (omega arith))

      stays : (c : ℕ) → (c ≡ d → ⊥) → (b : ℕ) → (ltb b a && eqb (get_or names b 0) c) ≡ (ltb b (a + 1) && eqb (get_or names b 0) c)
      stays c ne b =
          by_bool (eqb b a)
          (λ t. let q = eqb-true b a t in rw (ne_eqb (get_or names b 0) c (λ g. ne (sym (e ∙ (ap (λ i. get_or names i 0) (sym q) ∙ g))))) (and-false (ltb b a) ∙ sym (and-false (ltb b (a + 1)))))
          (λ f. let u = eqb-false b a f in
          let same : ltb b a ≡ ltb b (a + 1) = bool_ext (λ t. let v = ltb-true b a t in lt-ltb b (a + 1) (omega arith)) (λ t. let v = ltb-true b (a + 1) t in lt-ltb b a (omega arith)) in
          rw same refl)

  pub grouping_end : (a n : ℕ) (sets : List ℕ) → Grouping names a sets → a ≤ n → n ≤ a → SetsOf names n sets
  grouping_end a n sets K l m = let e : a ≡ n = omega arith in record { members = λ c h b. rw (← e) (K.members c h b) }

-- The set of a name lists the atoms that have it.
pub sets_named : (names : List ℕ) (n : ℕ) (sets : List ℕ) → SetsOf names n sets → n ≤ 64 → (c : ℕ) → c < 64 → listed (get_or sets c 0) ≡ named names c n
unfolding named listed
sets_named names n sets S l c h =
    filter_range (has (get_or sets c 0)) n 64 l (λ a t. ltb-true a n (and_left (ltb a n) (eqb (get_or names a 0) c) (sym (S.members c h a) ∙ t)))
    ∙ filter_cong (has (get_or sets c 0)) (λ a. eqb (get_or names a 0) c) (range 0 n) (λ a m. let r = (range_out 0 n a m).high in S.members c h a ∙ (rw (lt-ltb a n (omega arith)) refl))

-- The largest set: r is the size of the largest of those before c.
pub record Growing (n : ℕ) (sets : List ℕ) (r c : ℕ) : Type 0 where
  pub same : (names : List ℕ) → SetsOf names n sets → (most : ℕ)
      → (leb r most && all (λ i. leb (length (named names i n)) most) (range c (n - c))) ≡ names_fit most names n

-- What the larger of two numbers is not above, neither is.
leb_max : (a b most : ℕ) → leb (max a b) most ≡ (leb a most && leb b most)
leb_max a b most =
    bool_ext
    (λ t. let h = leb-true (max a b) most t in and_intro (le-leb a most (omega arith)) (le-leb b most (omega arith)))
    (λ t. let h = leb-true a most (and_left (leb a most) (leb b most) t) in let k = leb-true b most (and_right (leb a most) (leb b most) t) in
    le-leb (max a b) most (omega arith))

module _ (n : ℕ) (sets : List ℕ) where
  pub growing_start : Growing n sets 0 0
  unfolding names_fit
  growing_start = record { same = λ names S most. rw (le-leb 0 most (omega arith)) (ap (λ k. all (λ i. leb (length (named names i n)) most) (range 0 k)) (sub-zero n)) }

  pub growing_turn : (r c x : ℕ) → Growing n sets r c → c < n → n ≤ 64 → Size (get_or (take n sets) c 0) x → Growing n sets (max r x) (c + 1)
  unfolding all listed
  growing_turn r c x G l low Z =
      record {
        same = λ names S most.
            let rest = all (λ i. leb (length (named names i n)) most) (range (c + 1) (n - (c + 1))) in
            ap (λ b. b && rest) (leb_max r x most)
            ∙ (and_assoc (leb r most) (leb x most) rest
            ∙ (ap (λ k. leb r most && (leb k most && rest)) (Z.is ∙ ap (λ x. length (listed x)) (get_or-take n sets c 0 l) ∙ ap length (sets_named names n sets S low c (omega arith)))
            ∙ (sym (ap (λ k. leb r most && all (λ i. leb (length (named names i n)) most) k) (range_left c n l)) ∙ G.same names S most)));
      }

  pub growing_end : (r c : ℕ) → Growing n sets r c → n ≤ c → Largest n sets r
  unfolding all
  growing_end r c G l =
      record {
        is = λ names S most.
            sym (and-true (leb r most))
            ∙ (sym (ap (λ k. leb r most && all (λ i. leb (length (named names i n)) most) k) (range_over c n l)) ∙ G.same names S most);
      }

-- A line of the text: the type and the head of a rule, by its kind, and its body; how long lines are, and that they have room.
use mathlib.Core.List.{List, [], ◌∷◌, ◌++◌}
use mathlib.Core.Path.{◌≡◌, refl, sym, ap, subst}
use Prim.Native.Nat.{ℕ, ◌+◌, ◌≤◌, ◌<◌}
use native.Mathlib.Omega.{arith}
use borrow.Author.Tests.{eq-eqb, ne_eqb}
use lib.ListN.{length, length-append}
use Rattle.bits.specs.inner.Sets.{Size}
use Rattle.bits.specs.inner.Visited.{listed, Lowest}
use Rattle.bits.proofs.Visiting.{listed_few}
use Rattle.writer.specs.inner.Wrote.{Wrote}
use Rattle.writer.proofs.Writing.{wrote_append, room_front, room_behind}
use Rattle.writer.proofs.Loops.{SetLeft, set_room, set_end}
use Rattle.text.specs.Text.{ascii}
use Rattle.lparse_format.specs.Program.{lparse_atom}
use Rattle.lparse_format.specs.Text.{field_text}
use Rattle.lparse_lines.specs.inner.Lines.{head_text, atoms_text, literals_text, body_text}

-- Where parts have room, the second has, and one element behind the second.
module _ {A : Type 0} (old xs ys : List A) (at : ℕ) (one : List A) (a : ℕ) (U : Wrote old at xs one a) where
  pub room_second : (rest : List A) → at + length (xs ++ (ys ++ rest)) ≤ length old → a + length ys ≤ length one
  room_second rest h = room_front one ys rest a (room_behind old one xs (ys ++ rest) at a U h)

  pub room_one : (two : List A) (b : ℕ) (z : A) → Wrote one a ys two b → at + length (xs ++ (ys ++ (z ∷ []))) ≤ length old → b < length two
  room_one two b z W h = let l = room_behind one two ys (z ∷ []) a b W (room_behind old one xs (ys ++ (z ∷ [])) at a U h) in omega arith

-- The type and the head, by the kind.
module _ (kind head : ℕ) where
  pub constraint_head : kind ≡ 1 → head_text kind head ≡ ascii "1 1"
  unfolding head_text
  constraint_head e = rw (eq-eqb kind 1 e) refl

  module _ (h : ℕ) (same : h ≡ head) where
    pub choice_head : kind ≡ 2 → head_text kind head ≡ ascii "3 1" ++ field_text (lparse_atom h)
    unfolding head_text
    choice_head e = rw (ne_eqb kind 1 (λ f. omega arith), eq-eqb kind 2 e, same) refl

    pub rule_head : (kind ≡ 1 → ⊥) → (kind ≡ 2 → ⊥) → head_text kind head ≡ ascii "1" ++ field_text (lparse_atom h)
    unfolding head_text
    rule_head other ne = rw (ne_eqb kind 1 other, ne_eqb kind 2 ne, same) refl

  -- They have room, and are written.
  module _ (old : List ℕ) (at : ℕ) where
    module _ (room : at + length (head_text kind head) ≤ length old) where
      pub constraint_fits : kind ≡ 1 → at + length (ascii "1 1") ≤ length old
      constraint_fits e = rw (constraint_head e) at room

      pub choice_fits : kind ≡ 2 → at + length (ascii "3 1") ≤ length old
      choice_fits e = room_front old (ascii "3 1") (field_text (lparse_atom head)) at (rw (choice_head head refl e) at room)

      pub rule_fits : (kind ≡ 1 → ⊥) → (kind ≡ 2 → ⊥) → at + length (ascii "1") ≤ length old
      rule_fits other ne = room_front old (ascii "1") (field_text (lparse_atom head)) at (rw (rule_head head refl other ne) at room)

      module _ (mid : List ℕ) (a h : ℕ) (same : h ≡ head) where
        pub choice_behind : Wrote old at (ascii "3 1") mid a → kind ≡ 2 → a + length (field_text (lparse_atom h)) ≤ length mid
        choice_behind W e = room_behind old mid (ascii "3 1") (field_text (lparse_atom h)) at a W (rw (choice_head h same e) at room)

        pub rule_behind : Wrote old at (ascii "1") mid a → (kind ≡ 1 → ⊥) → (kind ≡ 2 → ⊥) → a + length (field_text (lparse_atom h)) ≤ length mid
        rule_behind W other ne = room_behind old mid (ascii "1") (field_text (lparse_atom h)) at a W (rw (rule_head h same other ne) at room)

    module _ (new : List ℕ) (next : ℕ) where
      pub wrote_constraint : kind ≡ 1 → Wrote old at (ascii "1 1") new next → Wrote old at (head_text kind head) new next
      wrote_constraint e W = rw (constraint_head e) W

      module _ (mid : List ℕ) (a h : ℕ) (same : h ≡ head) where
        pub wrote_choice : kind ≡ 2 → Wrote old at (ascii "3 1") mid a → Wrote mid a (field_text (lparse_atom h)) new next → Wrote old at (head_text kind head) new next
        wrote_choice e U W = rw (choice_head h same e) (wrote_append old mid new (ascii "3 1") (field_text (lparse_atom h)) at a next U W)

        pub wrote_rule : (kind ≡ 1 → ⊥) → (kind ≡ 2 → ⊥) → Wrote old at (ascii "1") mid a → Wrote mid a (field_text (lparse_atom h)) new next → Wrote old at (head_text kind head) new next
        wrote_rule other ne U W = rw (rule_head h same other ne) (wrote_append old mid new (ascii "1") (field_text (lparse_atom h)) at a next U W)

-- The size of a set.
pub size_low : (x k : ℕ) → Size x k → k ≤ 64
unfolding listed
size_low x k K = let e = K.is in omega (arith, listed_few x)

pub size_small : (x k : ℕ) → Size x k → k < 1000
size_small x k K = omega (arith, size_low x k K)

-- A body, from the sizes of its sets.
module _ (pos neg k p : ℕ) (K : Size neg k) (P : Size pos p) where
  body_is : body_text pos neg ≡ field_text (k + p) ++ (field_text k ++ literals_text pos neg)
  unfolding body_text listed
  body_is = rw (K.is, P.is) refl

  pub body_size : length (body_text pos neg) ≡ length (field_text (k + p)) + length (field_text k) + length (atoms_text neg) + length (atoms_text pos) + 1
  unfolding literals_text
  body_size =
      let e = ap length body_is in
      let f = length-append (field_text (k + p)) (field_text k ++ literals_text pos neg) in
      let g = length-append (field_text k) (literals_text pos neg) in
      let h = length-append (atoms_text neg) (atoms_text pos ++ ascii "\n") in
      let i = length-append (atoms_text pos) (ascii "\n") in
      omega arith

  pub literals_low : k + p < 1000
  literals_low = omega (arith, size_low neg k K, size_low pos p P)

  -- Each part has room, and they are written.
  module _ (old : List ℕ) (at : ℕ) where
    module _ (room : at + length (body_text pos neg) ≤ length old) where
      pub body_first : at + length (field_text (k + p)) ≤ length old
      body_first = room_front old (field_text (k + p)) (field_text k ++ literals_text pos neg) at (rw body_is at room)

      module _ (one : List ℕ) (a : ℕ) (A : Wrote old at (field_text (k + p)) one a) where
        behind_first : a + length (field_text k ++ literals_text pos neg) ≤ length one
        behind_first = room_behind old one (field_text (k + p)) (field_text k ++ literals_text pos neg) at a A (rw body_is at room)

        pub body_second : a + length (field_text k) ≤ length one
        body_second = room_front one (field_text k) (literals_text pos neg) a behind_first

        pub body_third : (two : List ℕ) (b : ℕ) → Wrote one a (field_text k) two b → b + length (literals_text pos neg) ≤ length two
        body_third two b B = room_behind one two (field_text k) (literals_text pos neg) a b B behind_first

    pub wrote_body : (one two new : List ℕ) (a b next : ℕ) → Wrote old at (field_text (k + p)) one a → Wrote one a (field_text k) two b → Wrote two b (literals_text pos neg) new next
        → Wrote old at (body_text pos neg) new next
    wrote_body one two new a b next A B C =
        subst (λ t. Wrote old at t new next) (sym body_is) (wrote_append old one new _ _ at a next A (wrote_append one two new _ _ a b next B C))

-- The atoms of a set, one by one.
module _ (old : List ℕ) (at x : ℕ) where
  abbrev pub AtomsLeft : List ℕ → ℕ → ℕ → Type 0
  AtomsLeft = SetLeft (λ a. field_text (lparse_atom a)) old at x

  module _ (cur : List ℕ) (next left : ℕ) (S : AtomsLeft cur next left) where
    pub atoms_room : (a : ℕ) → 0 < left → Lowest left a → at + length (atoms_text x) ≤ length old → next + length (field_text (lparse_atom a)) ≤ length cur
    unfolding atoms_text
    atoms_room a p L h = set_room (λ a. field_text (lparse_atom a)) old at x cur next left S a p L h

    pub atoms_end : left ≤ 0 → Wrote old at (atoms_text x) cur next
    unfolding atoms_text
    atoms_end h = set_end (λ a. field_text (lparse_atom a)) old at x cur next left S h

-- Bounds of the unfolded program: how many bodies a copy has and how many atoms they have.
use mathlib.Core.Bool.{Bool}
use mathlib.Core.List.Memᴰ
use mathlib.Core.List.{List, [], ◌∷◌, ◌++◌, map, map-map, flat_map, Memᴰ}
use mathlib.Core.Logic.{⊎_elim}
use mathlib.Core.Path.{◌≡◌, refl, sym, ◌∙◌, ap, subst}
use Prim.Native.Nat.{ℕ, ◌+◌, ◌-◌, ◌*◌, ◌≤◌}
use native.Mathlib.Nat.{suc-mul}
use native.Mathlib.Omega.{arith}
use lib.ListN.{length, length-append, length-map, length-drop}
use Rattle.lists.specs.Lists.{filter, member, range}
use Rattle.lists.proofs.Bools.{by_bool}
use Rattle.lists.proofs.Members.{map_cong, filter_out, flat_map_out}
use Rattle.lists.proofs.Nodup.{length_range}
use Rattle.asp.specs.Program.{Body, Rule, Program}
use Rattle.unfolding.specs.Unfolded.{Copy, last, renamed, replaced, is_kept, kept_for, variable, copies_from, unfolded}
use Rattle.unfolding.proofs.Numbering.{counted, copies_length}
use Rattle.bits.specs.inner.Visited.{listed}
use Rattle.bits.proofs.Visiting.{listed_few}
use Rattle.sheet.specs.Sequence.{entries}
use Rattle.program.specs.inner.Held.{table_rule, ProgramTable, added_atom, body_of, rule_of, rules_at, bodies_at, program_in}
use Rattle.program.specs.declared.TableRule.{TableRule}
use Rattle.copies.specs.inner.Tables.{Values}
use Rattle.copies.specs.inner.Bodies.{body_by, entry_body, atom_count, kept_bodies}
use Rattle.copies.specs.inner.Ready.{Ready, unfolded_in}
use Rattle.copies.proofs.Tables.{listed_last}
use Rattle.copies.proofs.Keeping.{added_few}
use Rattle.copies.proofs.Selecting.{atoms_renamed}

-- A body of at most 129 atoms.
unfoldable pub Short : Body → Type 0
Short b = length b.pos + length b.neg ≤ 129

-- At most 192 bodies of at most 129 atoms each.
pub record Sized (bs : List Body) : Type 0 where
  pub few : length bs ≤ 192
  pub short : (b : Body) → Memᴰ b bs → Short b

-- Lists that are each at most k long, one behind the other.
flat_map_bound : {A B : Type 0} (f : A → List B) (k : ℕ) (l : List A) → ((x : A) → Memᴰ x l → length (f x) ≤ k) → length (flat_map f l) ≤ length l * k
unfolding flat_map
flat_map_bound f k [] h = omega arith
flat_map_bound f k (x ∷ l) h =
    let a = length-append (f x) (flat_map f l) in
    let b = h x (Memᴰ.head refl) in
    let c = flat_map_bound f k l (λ y m. h y (Memᴰ.tail m)) in
    let d = suc-mul (length l) k in
    omega arith

filter_size : {A : Type 0} (p : A → Bool) (l : List A) → length (filter p l) ≤ length l
unfolding filter
filter_size p [] = omega arith
filter_size p (x ∷ l) = let h = filter_size p l in by_bool (p x) (λ t. rw t (omega arith)) (λ f. rw f (omega arith))

-- Bodies of at most 129 atoms each.
atoms_bound : (bs : List Body) → ((b : Body) → Memᴰ b bs → Short b) → atom_count bs ≤ length bs * 129
unfolding atom_count Short
atoms_bound [] h = omega arith
atoms_bound (b ∷ bs) h = let f = h b (Memᴰ.head refl) in let g = atoms_bound bs (λ x m. h x (Memᴰ.tail m)) in let k = suc-mul (length bs) 129 in omega arith

renamed_short : (f : ℕ → ℕ) (r : TableRule) → Short (renamed f (body_of r))
unfolding renamed body_of Short
renamed_short f r =
    let p = length-map (body_of r).pos f in
    let n = length-map (body_of r).neg last in
    let u = listed_few r.pos in
    let v = listed_few r.neg in
    let w = length-append (listed r.neg) (added_atom r.added) in
    let x = added_few r.added in
    omega arith

module _ (t : ProgramTable) (components q : List ℕ) (R : Ready t components q) where
  abbrev P : Program
  P = program_in t

  kept_sized : (past : List Copy) (a : ℕ) → Sized (kept_for P past a)
  unfolding kept_for program_in rules_at rule_of
  kept_sized past a =
      let rule : ℕ → Rule = λ i. rule_of (table_rule t.records t.entries i) in
      record {
        few = let x = length-map (filter (is_kept P past a) P.rules) (λ (r : Rule). renamed (replaced P past a) r.body) in let y = filter_size (is_kept P past a) P.rules in
            let z = length-map (range 0 t.rules) rule in let w = length_range 0 t.rules in let f = R.readable.few in omega arith;
        short = λ b k. let u = Memᴰ.of_map (λ (r : Rule). renamed (replaced P past a) r.body) (filter (is_kept P past a) P.rules) k in
            let w = Memᴰ.of_map rule (range 0 t.rules) (filter_out (is_kept P past a) P.rules u.0 u.1).0 in
            subst Short u.2 (subst (λ (r : Rule). Short (renamed (replaced P past a) r.body)) w.2 (renamed_short (replaced P past a) (table_rule t.records t.entries w.0)));
      }

  copies_sized : (l : List ℕ) (e : ℕ) (past : List Copy) (c : Copy) → Memᴰ c (copies_from P e past l) → Sized c.kept
  unfolding copies_from
  copies_sized [] e past c k = absurd (Memᴰ.not-nil k)
  copies_sized (a ∷ l) e past c k =
      ⊎_elim (λ q. subst (λ (c : Copy). Sized c.kept) (sym q) (kept_sized past a))
      (λ i. copies_sized l (counted e (member a l)) (record { atom = a; var = variable P e a (member a l); kept = kept_for P past a } ∷ past) c i)
      (Memᴰ.cases_cons k)

  copy_sized : (c : Copy) → Memᴰ c (unfolded_in t q).copies → Sized c.kept
  unfolding unfolded_in unfolded
  copy_sized c k = copies_sized (entries q) 0 [] c k

  pub copies_number : length (unfolded_in t q).copies ≡ length q - 3
  unfolding unfolded_in unfolded
  copies_number = copies_length P (entries q) 0 [] ∙ length-drop 3 q

  pub rules_short : length (kept_bodies (unfolded_in t q).copies) ≤ 122880
  rules_short =
      let e = flat_map_bound (λ (c : Copy). c.kept) 192 (unfolded_in t q).copies (λ c k. (copy_sized c k).few) in
      let f = copies_number in
      let g = R.short in
      omega arith

  pub atoms_short : atom_count (kept_bodies (unfolded_in t q).copies) ≤ 15851520
  atoms_short =
      let e = atoms_bound (kept_bodies (unfolded_in t q).copies)
      (λ b k. let u = flat_map_out (λ (c : Copy). c.kept) (unfolded_in t q).copies b k in (copy_sized u.0 u.1).short b u.2) in
      let f = rules_short in
      omega arith

  -- The constraints.
  abbrev body : ℕ → Body
  body i = body_of (table_rule t.records t.entries i)

  constraints_are : (unfolded_in t q).constraints ≡ map (λ i. renamed last (body_of (table_rule t.records t.entries i))) (range t.rules t.constraints)
  unfolding unfolded_in unfolded program_in bodies_at
  constraints_are = map-map (renamed last) body (range t.rules t.constraints)

  -- By a table of last copies.
  pub constraints_by_last : (lasts : List ℕ) → Values last lasts → map (entry_body t.records t.entries lasts) (range t.rules (t.rules + t.constraints - t.rules)) ≡ (unfolded_in t q).constraints
  unfolding entry_body body_by renamed body_of
  constraints_by_last lasts F =
      ap (λ k. map (entry_body t.records t.entries lasts) (range t.rules k)) (let e : t.rules + t.constraints - t.rules ≡ t.constraints = omega arith in e)
      ∙ (map_cong (entry_body t.records t.entries lasts) (λ i. renamed last (body i)) (range t.rules t.constraints)
      (λ i m. ap (λ ps. record { pos = ps; neg = map last (listed (table_rule t.records t.entries i).neg ++ added_atom (table_rule t.records t.entries i).added) }) (listed_last lasts (table_rule t.records t.entries i).pos F))
      ∙ sym constraints_are)

  pub constraints_number : t.constraints ≡ length (unfolded_in t q).constraints
  constraints_number =
      sym (ap length constraints_are ∙ (length-map (range t.rules t.constraints) (λ i. renamed last (body i)) ∙ length_range t.rules t.constraints))

  pub constraints_atoms : atom_count (bodies_at t.records t.entries t.rules t.constraints) ≡ atom_count (unfolded_in t q).constraints
  unfolding bodies_at
  constraints_atoms = sym (ap atom_count constraints_are ∙ atoms_renamed last body (range t.rules t.constraints))

  pub constraints_few : length (unfolded_in t q).constraints ≤ 192
  constraints_few = let e = constraints_number in let f = R.readable.few in omega arith

  pub constraints_short : atom_count (unfolded_in t q).constraints ≤ 24768
  constraints_short =
      let e = atoms_bound (unfolded_in t q).constraints
      (λ b k. let u = Memᴰ.of_map (λ i. renamed last (body i)) (range t.rules t.constraints) (subst (λ bs. Memᴰ b bs) constraints_are k) in
      subst Short u.2 (renamed_short last (table_rule t.records t.entries u.0))) in
      let f = constraints_few in
      omega arith

-- Leaving out rules that read a copy without a rule only shortens the derivation.
use mathlib.Core.Bool.{true, not, ◌||◌, cond}
use mathlib.Core.List.{List, [], ◌∷◌, ◌++◌, map, flat_map, Sublistᴰ, Forall₂}
use mathlib.Core.Path.{◌≡◌, refl, ◌∙◌, ap}
use Prim.Native.Nat.{ℕ, suc, ◌+◌, ◌≤◌}
use native.Mathlib.Omega.{arith}
use lib.Dec.{eqb}
use lib.IntN.{pos}
use lib.ListN.{length, length-append, length-map}
use Rattle.lists.specs.Lists.{all, any, member, range}
use Rattle.lists.proofs.Bools.{by_bool, true_false, and_intro, and_left, and_right}
use Rattle.lists.proofs.Members.{all_mono}
use Rattle.lists.proofs.Nodup.{length_range}
use Rattle.lists.proofs.Sublists.{sublist_filter, sublist_map, sublist_length, sublist_flat_map_length}
use Rattle.asp.specs.Program.{Body, Rule, Program}
use Rattle.unfolding.specs.Graph.{same_component}
use Rattle.unfolding.specs.Unfolded.{Copy, last, latest, latest_keeps, usable, replaced, renamed, is_kept, kept_for, variable, copies_from, unfolded, body_words, copy_words, words}
use Rattle.unfolding.specs.Clauses.{Literal, positive, negative, negated, Clause, literals, rule_clauses, rules_clauses, copy_clauses, copies_clauses, clauses, variables, clause_words, signed_words, constraint_clause, signed}
use Rattle.unfolding.specs.Shortened.{copied, was_kept, were_kept, unshortened_from, unshortened, Shortens, Shortened}

-- The same copies so far, some with fewer rules: the latest copies are the same, and those that keep a rule are there.
same_latest : {past old : List Copy} → Forall₂ Shortens past old → (b : ℕ) → latest past b ≡ latest old b
unfolding latest
same_latest Forall₂.nil b = refl
same_latest (Forall₂.cons S F) b = rw (S.atom, S.var, same_latest F b) refl

keeps_copied : {past old : List Copy} → Forall₂ Shortens past old → (b : ℕ) → latest_keeps past b ≡ true → copied old b ≡ true
unfolding latest_keeps copied any
keeps_copied Forall₂.nil b e = absurd (true_false e refl)
keeps_copied (Forall₂.cons {a = c} {b = d} S F) b e =
    by_bool (eqb d.atom b) (λ t. rw t refl) (λ f. rw f (keeps_copied F b (rw (S.atom, f) at e)))

module _ (P : Program) where
  module _ {past old : List Copy} (F : Forall₂ Shortens past old) (a : ℕ) where
    kept_was : (r : Rule) → is_kept P past a r ≡ true → was_kept P old a r ≡ true
    unfolding is_kept was_kept usable
    kept_was r e =
        and_intro (and_left (eqb r.head a) (all (usable P past a) r.body.pos) e)
        (all_mono (usable P past a) (λ b. not (same_component P a b) || copied old b) r.body.pos each
        (and_right (eqb r.head a) (all (usable P past a) r.body.pos) e))
      where
        each : (b : ℕ) → usable P past a b ≡ true → (not (same_component P a b) || copied old b) ≡ true
        each b u = by_bool (same_component P a b) (λ t. rw t (keeps_copied F b (rw t at u))) (λ f. rw f refl)

    same_replaced : replaced P past a ≡ replaced P old a
    unfolding replaced
    same_replaced i b = cond (same_component P a b) (same_latest F b i) (last b)

    kept_shortens : Sublistᴰ (kept_for P past a) (were_kept P old a)
    unfolding kept_for were_kept
    kept_shortens = rw same_replaced (sublist_map (λ (r : Rule). renamed (replaced P old a) r.body) (sublist_filter (is_kept P past a) (was_kept P old a) P.rules kept_was))

  copies_shorten : (s : List ℕ) (e : ℕ) {past old : List Copy} → Forall₂ Shortens past old → Forall₂ Shortens (copies_from P e past s) (unshortened_from P e old s)
  unfolding copies_from unshortened_from
  copies_shorten [] e F = Forall₂.nil
  copies_shorten (a ∷ s) e F =
      let v = variable P e a (member a s) in
      let S : Shortens (record { atom = a; var = v; kept = kept_for P _ a }) (record { atom = a; var = v; kept = were_kept P _ a }) = record { atom = refl; var = refl; kept = kept_shortens F a } in
      Forall₂.cons S (copies_shorten s (cond (member a s) (suc e) e) (Forall₂.cons S F))

-- Numbers of words and of rules: what each copy has less, all have less.
each_shorter : {B : Type 0} (f : Copy → List B) → ((c d : Copy) → Shortens c d → length (f c) ≤ length (f d)) → {cs ds : List Copy} → Forall₂ Shortens cs ds
    → length (flat_map f cs) ≤ length (flat_map f ds)
unfolding flat_map
each_shorter f h Forall₂.nil = omega arith
each_shorter f h (Forall₂.cons {a = c} {b = d} {l₁ = cs} {l₂ = ds} S F) =
    let k = each_shorter f h F in
    let g = h c d S in
    let e = length-append (f c) (flat_map f cs) in
    let i = length-append (f d) (flat_map f ds) in
    omega arith

copy_words_lem : (c d : Copy) → Shortens c d → length (copy_words c) ≤ length (copy_words d)
unfolding copy_words
copy_words_lem c d S = let h = sublist_flat_map_length body_words S.kept in omega arith

same_number : {cs ds : List Copy} → Forall₂ Shortens cs ds → length cs ≡ length ds
same_number Forall₂.nil = refl
same_number (Forall₂.cons S F) = ap suc (same_number F)

-- Clauses, each with a weight that grows with its length: 1 to count clauses, its words to count those.
total : (ℕ → ℕ) → List Clause → ℕ
total w [] = 0
total w (c ∷ cs) = w (length c) + total w cs

module _ (w : ℕ → ℕ) (grows : (j k : ℕ) → j ≤ k → w j ≤ w k) where
  total_append : (cs ds : List Clause) → total w (cs ++ ds) ≡ total w cs + total w ds
  unfolding total
  total_append [] ds = omega arith
  total_append (c ∷ cs) ds = let h = total_append cs ds in omega arith

  -- A rule's clauses weigh the same whatever its variables.
  pairs_total : (d d' : ℕ) (ls : List Literal) → total w (map (λ l. negative d ∷ l ∷ []) ls) ≡ total w (map (λ l. negative d' ∷ l ∷ []) ls)
  unfolding total
  pairs_total d d' [] = refl
  pairs_total d d' (l ∷ ls) = ap (λ k. w 2 + k) (pairs_total d d' ls)

  rule_total : (h h' d d' : ℕ) (b : Body) → total w (rule_clauses h d b) ≡ total w (rule_clauses h' d' b)
  unfolding total rule_clauses
  rule_total h h' d d' b =
      let e = total_append (map (λ l. negative d ∷ l ∷ []) (literals b)) ((positive d ∷ map negated (literals b)) ∷ []) in
      let f = total_append (map (λ l. negative d' ∷ l ∷ []) (literals b)) ((positive d' ∷ map negated (literals b)) ∷ []) in
      let g = pairs_total d d' (literals b) in
      omega arith

  rules_total : (h h' d d' : ℕ) {l m : List Body} → Sublistᴰ l m → total w (rules_clauses h d l) ≤ total w (rules_clauses h' d' m)
  unfolding rules_clauses
  rules_total h h' d d' Sublistᴰ.slnil = omega arith
  rules_total h h' d d' (Sublistᴰ.cons {a = b} {l₂ = m} s) =
      let k = rules_total h h' d (suc d') s in
      let e = total_append (rule_clauses h' d' b) (rules_clauses h' (suc d') m) in
      omega arith
  rules_total h h' d d' (Sublistᴰ.cons-cons {a = b} {b = c} {l₁ = l} {l₂ = m} q s) =
      let k = rules_total h h' (suc d) (suc d') s in
      let e = total_append (rule_clauses h d b) (rules_clauses h (suc d) l) in
      let f = total_append (rule_clauses h' d' c) (rules_clauses h' (suc d') m) in
      let g = rule_total h h' d d' b ∙ ap (λ x. total w (rule_clauses h' d' x)) q in
      omega arith

  copy_total : (d d' : ℕ) (c c' : Copy) → Shortens c c' → total w (copy_clauses d c) ≤ total w (copy_clauses d' c')
  unfolding total copy_clauses
  copy_total d d' c c' S =
      let k = rules_total c.var c'.var d d' S.kept in
      let i = grows (suc (length (map positive (range d (length c.kept))))) (suc (length (map positive (range d' (length c'.kept)))))
      (let e = length-map (range d (length c.kept)) positive in
      let f = length-map (range d' (length c'.kept)) positive in
      let g = length_range d (length c.kept) in
      let h = length_range d' (length c'.kept) in
      let l = sublist_length S.kept in
      omega arith) in
      omega arith

  copies_total : (d d' : ℕ) {cs ds : List Copy} → Forall₂ Shortens cs ds → total w (copies_clauses d cs) ≤ total w (copies_clauses d' ds)
  unfolding copies_clauses
  copies_total d d' Forall₂.nil = omega arith
  copies_total d d' (Forall₂.cons {a = a} {b = b} {l₁ = cs} {l₂ = ds} S F) =
      let k = copies_total (d + length a.kept) (d' + length b.kept) F in
      let i = copy_total d d' a b S in
      let e = total_append (copy_clauses d a) (copies_clauses (d + length a.kept) cs) in
      let f = total_append (copy_clauses d' b) (copies_clauses (d' + length b.kept) ds) in
      omega arith

  clauses_total : (cs ds : List Copy) (bs : List Body) → Forall₂ Shortens cs ds
      → total w (clauses (record { copies = cs; constraints = bs })) ≤ total w (clauses (record { copies = ds; constraints = bs }))
  unfolding clauses
  clauses_total cs ds bs F =
      let k = copies_total (suc (length cs)) (suc (length ds)) F in
      let e = total_append (copies_clauses (suc (length cs)) cs) (map constraint_clause bs) in
      let f = total_append (copies_clauses (suc (length ds)) ds) (map constraint_clause bs) in
      omega arith

number_total : (cs : List Clause) → length cs ≡ total (λ _. 1) cs
unfolding total
number_total [] = refl
number_total (c ∷ cs) = let h = number_total cs in omega arith

words_total : (cs : List Clause) → length (signed_words cs) ≡ total suc cs
unfolding total signed_words flat_map clause_words
words_total [] = refl
words_total (c ∷ cs) =
    let h = words_total cs in
    let e = length-append (clause_words c) (signed_words cs) in
    let f = length-append (map signed c) (pos 0 ∷ []) in
    let g = length-map c signed in
    omega arith

-- The same without the copies' atoms.
pub nameless_shortens : {cs ds : List Copy} → Forall₂ Shortens cs ds
    → Forall₂ Shortens (map (λ c. record { atom = 0; var = c.var; kept = c.kept }) cs) (map (λ c. record { atom = 0; var = c.var; kept = c.kept }) ds)
nameless_shortens Forall₂.nil = Forall₂.nil
nameless_shortens (Forall₂.cons S F) = Forall₂.cons (record { atom = refl; var = S.var; kept = S.kept }) (nameless_shortens F)

-- A copy without rules.
negation_alone : (d : ℕ) (c : Copy) → c.kept ≡ [] → copy_clauses d c ≡ (negative c.var ∷ []) ∷ []
unfolding copy_clauses rules_clauses range
negation_alone d c e = rw e refl

pub shortened : (P : Program) (s : List ℕ) → Shortened P s
unfolding unfolded unshortened words variables
shortened P s =
    let F = copies_shorten P s 0 Forall₂.nil in
    let cs = copies_from P 0 [] s in
    let ds = unshortened_from P 0 [] s in
    let bs = map (renamed last) P.constraints in
    record {
      copies = F;
      constraints = refl;
      alone = λ c m e d. negation_alone d c e;
      fewer_words =
          let n = same_number F in
          let k = each_shorter copy_words copy_words_lem F in
          let e = length-append (flat_map copy_words cs) (length bs ∷ flat_map body_words bs) in
          let f = length-append (flat_map copy_words ds) (length bs ∷ flat_map body_words bs) in
          omega arith;
      fewer_variables =
          let n = same_number F in
          let k = each_shorter (λ (c : Copy). c.kept) (λ c d S. sublist_length S.kept) F in
          omega arith;
      fewer_clauses =
          let k = clauses_total (λ _. 1) (λ i j l. omega arith) cs ds bs F in
          let e = number_total (clauses (record { copies = cs; constraints = bs })) in
          let f = number_total (clauses (record { copies = ds; constraints = bs })) in
          omega arith;
      fewer_signed_words =
          let k = clauses_total suc (λ i j l. omega arith) cs ds bs F in
          let e = words_total (clauses (record { copies = cs; constraints = bs })) in
          let f = words_total (clauses (record { copies = ds; constraints = bs })) in
          omega arith;
    }

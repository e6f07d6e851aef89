-- The words of an unfolded program, read back, give it back, but for its copies' atoms.
use mathlib.Core.Bool.{◌&&◌, cond}
use mathlib.Core.List.{List, [], ◌∷◌, ◌++◌, map, flat_map, append-nil, append_assoc}
use mathlib.Core.Path.{◌≡◌, refl, sym, ◌∙◌, ap, ap₂, subst}
use Prim.Native.Nat.{ℕ, suc}
use lib.Dec.{eqb}
use lib.ListN.{length, take, drop}
use lib.Seq.{take-append_seam, drop-append_seam}
use Rattle.lists.specs.Lists.{any, member}
use Rattle.lists.proofs.Members.{any_map}
use Rattle.asp.specs.Program.{Body, Program}
use Rattle.unfolding.specs.Unfolded.{Copy, Unfolded, kept_for, variable, copies_from, unfolded, body_words, copy_words, words, needs, Leads, step, onwards, NoPositiveLoop}
use Rattle.unfolding.specs.Decoded.{read_body, after_body, read_bodies, after_bodies, read_copies, after_copies, read_constraints, read_unfolded, nameless, named}

module _ (b : Body) (rest : List ℕ) where
  abbrev behind : List ℕ
  behind = b.pos ++ (b.neg ++ rest)

  body_split : body_words b ++ rest ≡ length b.pos ∷ length b.neg ∷ behind
  unfolding body_words
  body_split = ap (λ l. length b.pos ∷ length b.neg ∷ l) (append_assoc b.pos b.neg rest)

  negatives : drop (length b.pos) behind ≡ b.neg ++ rest
  negatives = drop-append_seam b.pos (b.neg ++ rest)

  body_read : read_body (body_words b ++ rest) ≡ b
  unfolding read_body
  body_read =
      ap read_body body_split
      ∙ ap₂ (λ (ps ns : List ℕ). record { pos = ps; neg = ns }) (take-append_seam b.pos (b.neg ++ rest)) (ap (take (length b.neg)) negatives ∙ take-append_seam b.neg rest)

  body_after : after_body (body_words b ++ rest) ≡ rest
  unfolding after_body
  body_after = ap after_body body_split ∙ (ap (drop (length b.neg)) negatives ∙ drop-append_seam b.neg rest)

bodies_split : (b : Body) (bs : List Body) (rest : List ℕ) → flat_map body_words (b ∷ bs) ++ rest ≡ body_words b ++ (flat_map body_words bs ++ rest)
unfolding flat_map
bodies_split b bs rest = append_assoc (body_words b) (flat_map body_words bs) rest

bodies_read : (bs : List Body) (rest : List ℕ) → read_bodies (length bs) (flat_map body_words bs ++ rest) ≡ bs
unfolding read_bodies
bodies_read [] rest = refl
bodies_read (b ∷ bs) rest =
    let more = flat_map body_words bs ++ rest in
    ap (λ l. read_body l ∷ read_bodies (length bs) (after_body l)) (bodies_split b bs rest)
    ∙ ap₂ (λ (x : Body) (l : List ℕ). x ∷ read_bodies (length bs) l) (body_read b more) (body_after b more) ∙ ap (λ l. b ∷ l) (bodies_read bs rest)

bodies_after : (bs : List Body) (rest : List ℕ) → after_bodies (length bs) (flat_map body_words bs ++ rest) ≡ rest
unfolding after_bodies flat_map
bodies_after [] rest = refl
bodies_after (b ∷ bs) rest =
    ap (λ l. after_bodies (length bs) (after_body l)) (bodies_split b bs rest) ∙ (ap (after_bodies (length bs)) (body_after b (flat_map body_words bs ++ rest)) ∙ bodies_after bs rest)

plain : Copy → Copy
plain c = record { atom = 0; var = c.var; kept = c.kept }

copies_split : (c : Copy) (cs : List Copy) (rest : List ℕ) → flat_map copy_words (c ∷ cs) ++ rest ≡ c.var ∷ length c.kept ∷ (flat_map body_words c.kept ++ (flat_map copy_words cs ++ rest))
unfolding flat_map copy_words
copies_split c cs rest = ap (λ l. c.var ∷ length c.kept ∷ l) (append_assoc (flat_map body_words c.kept) (flat_map copy_words cs) rest)

copies_read : (cs : List Copy) (rest : List ℕ) → read_copies (length cs) (flat_map copy_words cs ++ rest) ≡ map plain cs
unfolding read_copies plain
copies_read [] rest = refl
copies_read (c ∷ cs) rest =
    let more = flat_map copy_words cs ++ rest in
    ap (read_copies (suc (length cs))) (copies_split c cs rest)
    ∙ (ap₂ (λ (bs : List Body) (l : List ℕ). record { atom = 0; var = c.var; kept = bs } ∷ read_copies (length cs) l) (bodies_read c.kept more) (bodies_after c.kept more)
    ∙ ap (λ l. record { atom = 0; var = c.var; kept = c.kept } ∷ l) (copies_read cs rest))

copies_after : (cs : List Copy) (rest : List ℕ) → after_copies (length cs) (flat_map copy_words cs ++ rest) ≡ rest
unfolding after_copies flat_map
copies_after [] rest = refl
copies_after (c ∷ cs) rest =
    ap (after_copies (suc (length cs))) (copies_split c cs rest) ∙ (ap (after_copies (length cs)) (bodies_after c.kept (flat_map copy_words cs ++ rest)) ∙ copies_after cs rest)

module _ (U : Unfolded) where
  abbrev tail : List ℕ
  tail = length U.constraints ∷ flat_map body_words U.constraints

  constraints_read : read_constraints tail ≡ U.constraints
  unfolding read_constraints
  constraints_read = ap (read_bodies (length U.constraints)) (sym (append-nil (flat_map body_words U.constraints))) ∙ bodies_read U.constraints []

  pub words_unfolded : read_unfolded (words U) ≡ nameless U
  unfolding read_unfolded words nameless plain
  words_unfolded =
      ap₂ (λ (cs : List Copy) (bs : List Body). record { copies = cs; constraints = bs }) (copies_read U.copies tail) (ap read_constraints (copies_after U.copies tail) ∙ constraints_read)

  -- Loops have nothing to do with the copies' atoms.
  same_needs : (v u : ℕ) → needs (nameless U) v u ≡ needs U v u
  unfolding needs nameless
  same_needs v u =
      any_map (λ (c : Copy). eqb c.var v && any (λ b. member u b.pos) c.kept) (λ (c : Copy). record { atom = 0; var = c.var; kept = c.kept }) U.copies

  leads_back : (v u : ℕ) → Leads (nameless U) v u → Leads U v u
  leads_back v u (step e) = step (sym (same_needs v u) ∙ e)
  leads_back v u (onwards {u = w} e l) = onwards (sym (same_needs v w) ∙ e) (leads_back w u l)

  pub words_no_loop : NoPositiveLoop U → NoPositiveLoop (read_unfolded (words U))
  words_no_loop h = subst NoPositiveLoop (sym words_unfolded) (λ v l. h v (leads_back v v l))

-- With the entries as atoms the copies are those of the unfolded program again.
copies_named : (P : Program) (s : List ℕ) (e : ℕ) (past : List Copy) → named s (map plain (copies_from P e past s)) ≡ copies_from P e past s
unfolding named copies_from plain
copies_named P [] e past = refl
copies_named P (a ∷ s) e past =
    let c : Copy = record { atom = a; var = variable P e a (member a s); kept = kept_for P past a } in
    ap (λ cs. c ∷ cs) (copies_named P s (cond (member a s) (suc e) e) (c ∷ past))

pub nameless_named : (P : Program) (s : List ℕ) → named s (nameless (unfolded P s)).copies ≡ (unfolded P s).copies
unfolding unfolded nameless plain
nameless_named P s = copies_named P s 0 []

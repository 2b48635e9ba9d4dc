-- The own rows of a row's denials, by kind.
-- Assumes nothing.
use mathlib.Core.Path.{◌≡◌, refl, sym, ap, ◌∙◌, subst}
use mathlib.Core.Bool.{Bool, true, false, cond}
use mathlib.Core.List.{List, [], ◌∷◌, map}
use Prim.Native.Nat.{ℕ, zero, suc, ◌+◌, ◌*◌, ◌-◌, ◌≤◌, ◌<◌}
use native.Mathlib.Omega.{arith}
use lib.ListN.{length, get_or}
use lib.Dec.{eqb}
use borrow.Author.Tests.{eqb-true, eqb-false, eq-eqb, ne_eqb}
use Rattle.scenario.specs.Rows.{full_half, set_of, lower_half, upper_half, denying_rows, denying_free, end, complement}
use Rattle.scenario.specs.Fields.{fields, decode}
use Rattle.row.specs.declared.Line.{Line}
use Rattle.row.specs.Row.{six, row_in}
use Rattle.row.specs.Memory.{put, lay}
use Rattle.sheet.specs.Count.{edge, weight, weight_free}
use Rattle.sheet.proofs.Count.{weight_6, weight_9, weight-low, weight-high}
use Rattle.scenario.proofs.Numbers.{any-kind}
use Rattle.scenario.proofs.Halves.{lower_half_of, upper_half_of}
use Rattle.sheet.specs.Text.{numbers_of}
use Rattle.denial.specs.Build.{own, free_rows, line_from, before_of, inside_of}

-- one denial has number 0
only : (v k p q : ℕ) → v < weight k p q → 1 ≡ weight k p q → v ≡ 0
only v k p q h e = omega arith

module _ (far : ℕ) (l : Line) (v : ℕ) (h : v < weight l.kind l.p l.q) where
  low : (l.kind ≡ 1 → ⊥) → l.kind < 4 → v ≡ 0
  low n k = only v l.kind l.p l.q h (weight-low l.kind l.p l.q n k)

  high : 6 ≤ l.kind → (l.kind ≡ 6 → ⊥) → (l.kind ≡ 9 → ⊥) → v ≡ 0
  high k n m = only v l.kind l.p l.q h (weight-high l.kind l.p l.q k n m)

  -- both halves of the set are carried
  pub own_2 : l.a ≤ full_half → l.kind ≡ 2 → own far l v ≡ six l.section 9 l.q far l.a l.b ∷ []
  unfolding own row_in decode denying_rows fields line_from numbers_of
  own_2 f e = let z = low (λ x. omega arith) (omega arith) in rw (e, z, lower_half_of l.a l.b f, upper_half_of l.a l.b f)

  pub own_3 : l.a ≤ full_half → l.kind ≡ 3 → own far l v ≡ six l.section 9 far l.q l.a l.b ∷ []
  unfolding own row_in decode denying_rows fields line_from numbers_of
  own_3 f e = let z = low (λ x. omega arith) (omega arith) in rw (e, z, lower_half_of l.a l.b f, upper_half_of l.a l.b f)

  pub own_6 : l.kind ≡ 6 → own far l v ≡ before_of l.section l.p l.q v ∷ []
  unfolding own row_in decode denying_rows fields line_from numbers_of
  own_6 e = go v (subst (λ (w : ℕ). v < w) (sym (weight_6 l.kind l.p l.q e)) h)
    where
      go : (v : ℕ) → v < 2 → own far l v ≡ before_of l.section l.p l.q v ∷ []
      go zero h = rw e
      go (suc zero) h = rw e
      go (suc (suc v)) h = absurd (omega arith)

  pub own_7 : l.kind ≡ 7 → own far l v ≡ six l.section 8 l.p l.q 0 0 ∷ []
  unfolding own row_in decode denying_rows fields line_from numbers_of
  own_7 e = let z = high (omega arith) (λ x. omega arith) (λ x. omega arith) in rw (e, z)

  pub own_8 : l.kind ≡ 8 → own far l v ≡ six l.section 7 l.p l.q 0 0 ∷ []
  unfolding own row_in decode denying_rows fields line_from numbers_of
  own_8 e = let z = high (omega arith) (λ x. omega arith) (λ x. omega arith) in rw (e, z)

  pub own_10 : l.kind ≡ 10 → own far l v ≡ six l.section 11 l.p l.q l.a l.b ∷ []
  unfolding own row_in decode denying_rows fields line_from numbers_of
  own_10 e = let z = high (omega arith) (λ x. omega arith) (λ x. omega arith) in rw (e, z)

  pub own_11 : l.kind ≡ 11 → own far l v ≡ six l.section 10 l.p l.q l.a l.b ∷ []
  unfolding own row_in decode denying_rows fields line_from numbers_of
  own_11 e = let z = high (omega arith) (λ x. omega arith) (λ x. omega arith) in rw (e, z)

  pub own_12 : l.a ≤ full_half → l.kind ≡ 12 → own far l v ≡ six l.section 12 l.p 0 (full_half - l.a) (full_half - l.b) ∷ []
  unfolding own row_in decode denying_rows fields line_from numbers_of complement
  own_12 f e =
      let z = high (omega arith) (λ x. omega arith) (λ x. omega arith) in
      let c : full_half - l.a ≤ full_half = omega arith in
      rw (e, z, lower_half_of l.a l.b f, upper_half_of l.a l.b f, lower_half_of (full_half - l.a) (full_half - l.b) c, upper_half_of (full_half - l.a) (full_half - l.b) c)

-- kinds that no accepted row has, and those without denials
module _ (far s p q a b v : ℕ) where
  abbrev Other : ℕ → Type 0
  Other k = (k ≡ 2 → ⊥) → (k ≡ 3 → ⊥) → (k ≡ 6 → ⊥) → (k ≡ 7 → ⊥) → (k ≡ 8 → ⊥) → (k ≡ 9 → ⊥) → (k ≡ 10 → ⊥) → (k ≡ 11 → ⊥) → (k ≡ 12 → ⊥)
      → v < weight k p q → own far (six s k p q a b) v ≡ six s 8 0 0 0 0 ∷ []

  other : (k : ℕ) → Other k
  unfolding own row_in decode denying_rows fields line_from numbers_of weight
  other =
      any-kind Other
      (λ n2 n3 n6 n7 n8 n9 n10 n11 n12 h. let z : v ≡ 0 = omega arith in rw z)
      (λ n2 n3 n6 n7 n8 n9 n10 n11 n12 h. absurd (omega arith))
      (λ n2 n3 n6 n7 n8 n9 n10 n11 n12 h. absurd (n2 refl))
      (λ n2 n3 n6 n7 n8 n9 n10 n11 n12 h. absurd (n3 refl))
      (λ n2 n3 n6 n7 n8 n9 n10 n11 n12 h. absurd (omega arith))
      (λ n2 n3 n6 n7 n8 n9 n10 n11 n12 h. absurd (omega arith))
      (λ n2 n3 n6 n7 n8 n9 n10 n11 n12 h. absurd (n6 refl))
      (λ n2 n3 n6 n7 n8 n9 n10 n11 n12 h. absurd (n7 refl))
      (λ n2 n3 n6 n7 n8 n9 n10 n11 n12 h. absurd (n8 refl))
      (λ n2 n3 n6 n7 n8 n9 n10 n11 n12 h. absurd (n9 refl))
      (λ n2 n3 n6 n7 n8 n9 n10 n11 n12 h. absurd (n10 refl))
      (λ n2 n3 n6 n7 n8 n9 n10 n11 n12 h. absurd (n11 refl))
      (λ n2 n3 n6 n7 n8 n9 n10 n11 n12 h. absurd (n12 refl))
      (λ k n2 n3 n6 n7 n8 n9 n10 n11 n12 h.
      let z : v ≡ 0 = only v (suc (suc (suc (suc (suc (suc (suc (suc (suc (suc (suc (suc (suc k))))))))))))) p q h (weight-high (suc (suc (suc (suc (suc (suc (suc (suc (suc (suc (suc (suc (suc k))))))))))))) p q (omega arith) n6 n9) in rw z)

pub own-other : (far : ℕ) (l : Line) (v : ℕ) → (l.kind ≡ 2 → ⊥) → (l.kind ≡ 3 → ⊥) → (l.kind ≡ 6 → ⊥) → (l.kind ≡ 7 → ⊥) → (l.kind ≡ 8 → ⊥) → (l.kind ≡ 9 → ⊥)
    → (l.kind ≡ 10 → ⊥) → (l.kind ≡ 11 → ⊥) → (l.kind ≡ 12 → ⊥) → v < weight l.kind l.p l.q → own far l v ≡ six l.section 8 0 0 0 0 ∷ []
own-other far l v = other far l.section l.p l.q l.a l.b v l.kind

-- FREE
module _ (s r p q t : ℕ) where
  free_go : (x y z w : Bool) → eqb p 0 ≡ x → eqb p 99 ≡ y → eqb q 0 ≡ z → eqb q 99 ≡ w → (v : ℕ) → v < weight_free p q
      → map (line_from s) (get_or (denying_free r p q t (end p) (end q)) v []) ≡ free_rows s r p q (lower_half t) (upper_half t) v
  unfolding denying_free end weight_free edge line_from numbers_of fields
  free_go true y true w ep fp eq fq v h = let e : weight_free p q ≡ 0 = rw (eqb-true p 0 ep, eqb-true q 0 eq) in absurd (omega arith)
  free_go true y false true ep fp eq fq zero h = rw (eqb-true p 0 ep, eqb-true q 99 fq)
  free_go true y false true ep fp eq fq (suc v) h = let e : weight_free p q ≡ 1 = rw (eqb-true p 0 ep, eqb-true q 99 fq) in absurd (omega arith)
  free_go true y false false ep fp eq fq zero h = rw (eqb-true p 0 ep) (simp (eq, fq))
  free_go true y false false ep fp eq fq (suc v) h = let e : weight_free p q ≡ 1 = rw (eqb-true p 0 ep) (simp (eq, fq, ne_eqb 0 q (λ e. eqb-false q 0 eq (sym e)))) in absurd (omega arith)
  free_go false true true w ep fp eq fq zero h = rw (eqb-true p 99 fp, eqb-true q 0 eq)
  free_go false true true w ep fp eq fq (suc v) h = let e : weight_free p q ≡ 1 = rw (eqb-true p 99 fp, eqb-true q 0 eq) in absurd (omega arith)
  free_go false true false true ep fp eq fq v h = let e : weight_free p q ≡ 0 = rw (eqb-true p 99 fp, eqb-true q 99 fq) in absurd (omega arith)
  free_go false true false false ep fp eq fq zero h = rw (eqb-true p 99 fp) (simp (eq, fq))
  free_go false true false false ep fp eq fq (suc v) h = let e : weight_free p q ≡ 1 = rw (eqb-true p 99 fp) (simp (eq, fq, ne_eqb 99 q (λ e. eqb-false q 99 fq (sym e)))) in absurd (omega arith)
  free_go false false true w ep fp eq fq zero h = simp (ep, fp, eq)
  free_go false false true w ep fp eq fq (suc v) h = let e : weight_free p q ≡ 1 = simp (ep, fp, eq) in absurd (omega arith)
  free_go false false false true ep fp eq fq zero h = simp (ep, fp, eq, fq)
  free_go false false false true ep fp eq fq (suc v) h = let e : weight_free p q ≡ 1 = simp (ep, fp, eq, fq) in absurd (omega arith)
  free_go false false false false ep fp eq fq zero h = simp (ep, fp, eq, fq)
  free_go false false false false ep fp eq fq (suc zero) h = simp (ep, fp, eq, fq)
  free_go false false false false ep fp eq fq (suc (suc v)) h = let e : weight_free p q ≡ 2 = simp (ep, fp, eq, fq) in absurd (omega arith)

pub own_9 : (far : ℕ) (l : Line) (v : ℕ) → l.a ≤ full_half → l.kind ≡ 9 → v < weight_free l.p l.q
    → own far l v ≡ free_rows l.section (10 * l.section + 9) l.p l.q l.a l.b v
unfolding own row_in decode denying_rows
own_9 far l v f e h =
    rw e
    (free_go l.section (10 * l.section + 9) l.p l.q (set_of l.a l.b) (eqb l.p 0) (eqb l.p 99) (eqb l.q 0) (eqb l.q 99) refl refl refl refl v h
    ∙ rw (lower_half_of l.a l.b f, upper_half_of l.a l.b f))

-- at most three rows
pub free-short : (s r p q a b v : ℕ) → length (free_rows s r p q a b v) ≤ 3
free-short s r p q a b v = go (edge p) (edge q) (eqb v 0)
  where
    go : (x y z : Bool) → length (six s 1 r 0 a b ∷ cond x (cond y [] (inside_of s r p q ∷ [])) (cond y (inside_of s r q p ∷ [])
        (cond z (six s 6 p r 0 0 ∷ six s 6 r q 0 0 ∷ []) (six s 6 q r 0 0 ∷ six s 6 r p 0 0 ∷ [])))) ≤ 3
    go true true z = omega arith
    go true false z = omega arith
    go false true z = omega arith
    go false false true = omega arith
    go false false false = omega arith

-- rows stored one after another
module _ (at : ℕ) (out : List ℕ) where
  pub done-one : (ls : List Line) (x : Line) (o : List ℕ) → ls ≡ x ∷ [] → o ≡ put at x out → (at + 1 ≡ at + length ls) × (o ≡ lay at ls out)
  unfolding lay
  done-one ls x o e p = rw e (omega arith, p)

  pub done-two : (ls : List Line) (x y : Line) (o o' : List ℕ) → ls ≡ x ∷ y ∷ [] → o ≡ put at x out → o' ≡ put (at + 1) y o → (at + 2 ≡ at + length ls) × (o' ≡ lay at ls out)
  unfolding lay
  done-two ls x y o o' e p p' = let n : suc at ≡ at + 1 = omega arith in rw e (omega arith, rw n (p' ∙ ap (put (at + 1) y) p))

  pub done-three : (ls : List Line) (x y z : Line) (o o' o'' : List ℕ) → ls ≡ x ∷ y ∷ z ∷ [] → o ≡ put at x out → o' ≡ put (at + 1) y o → o'' ≡ put (at + 2) z o' → (at + 3 ≡ at + length ls) × (o'' ≡ lay at ls out)
  unfolding lay
  done-three ls x y z o o' o'' e p p' p'' =
      let n : suc at ≡ at + 1 = omega arith in
      let n' : suc (at + 1) ≡ at + 2 = omega arith in
      rw e (omega arith, rw n (rw n' (p'' ∙ ap (put (at + 2) z) (p' ∙ ap (put (at + 1) y) p))))

-- FREE's own rows, by its ends
module _ (l : Line) (v : ℕ) where
  abbrev spare : ℕ
  spare = 10 * l.section + 9

  abbrev first : Line
  first = six l.section 1 spare 0 l.a l.b

  pub free_1 : edge l.p ≡ true → edge l.q ≡ true → free_rows l.section spare l.p l.q l.a l.b v ≡ first ∷ []
  free_1 e f = simp (e, f)

  pub free_2 : edge l.p ≡ true → edge l.q ≡ false → free_rows l.section spare l.p l.q l.a l.b v ≡ first ∷ inside_of l.section spare l.p l.q ∷ []
  free_2 e f = simp (e, f)

  pub free_3 : edge l.p ≡ false → edge l.q ≡ true → free_rows l.section spare l.p l.q l.a l.b v ≡ first ∷ inside_of l.section spare l.q l.p ∷ []
  free_3 e f = simp (e, f)

  pub free_4 : edge l.p ≡ false → edge l.q ≡ false → v ≡ 0 → free_rows l.section spare l.p l.q l.a l.b v ≡ first ∷ six l.section 6 l.p spare 0 0 ∷ six l.section 6 spare l.q 0 0 ∷ []
  free_4 e f z = simp (e, f, eq-eqb v 0 z)

  pub free_5 : edge l.p ≡ false → edge l.q ≡ false → (v ≡ 0 → ⊥) → free_rows l.section spare l.p l.q l.a l.b v ≡ first ∷ six l.section 6 l.q spare 0 0 ∷ six l.section 6 spare l.p 0 0 ∷ []
  free_5 e f z = simp (e, f, ne_eqb v 0 z)

-- stored, they are the own rows of a row of kind 9
pub free_own : (far : ℕ) (l : Line) (v at r : ℕ) (out o : List ℕ) → l.a ≤ full_half → l.kind ≡ 9 → v < weight l.kind l.p l.q
    → r ≡ at + length (free_rows l.section (10 * l.section + 9) l.p l.q l.a l.b v) → o ≡ lay at (free_rows l.section (10 * l.section + 9) l.p l.q l.a l.b v) out
    → (r ≡ at + length (own far l v)) × (o ≡ lay at (own far l v) out)
free_own far l v at r out o a k h e f =
    let q = own_9 far l v a k (subst (λ (w : ℕ). v < w) (sym (weight_9 l.kind l.p l.q k)) h) in
    (e ∙ ap (λ (ls : List Line). at + length ls) (sym q), f ∙ ap (λ (ls : List Line). lay at ls out) (sym q))

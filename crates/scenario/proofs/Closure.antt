-- The denials are the paper's: their closure is the introducing rows of the points used and of those they need in turn, in sheet order, and nothing else.
-- Assumes nothing.
use mathlib.Core.Path.{◌≡◌, refl, sym, ◌∙◌, ap, subst}
use mathlib.Core.Logic.{◌⊎◌, inl, inr, ⊎_elim, ◌↔◌}
use mathlib.Core.Bool.{not}
use mathlib.Core.List.Memᴰ
use mathlib.Core.List.{List, [], ◌∷◌, ◌++◌, map, reverse, reverse_aux, reverse-cons, reverse-reverse, Memᴰ}
use Prim.Native.Nat.{ℕ, zero, suc, ◌+◌, ◌*◌, ◌<◌}
use native.Mathlib.Omega.{arith}
use lib.ListN.{length, get_or}
use lib.Dec.{T, eqb, eqb_refl, T_not}
use Rattle.scenario.specs.Rows.{Row, introduced, needs, points, elem, brings, closure, far_end, denying_rows, denials}
use Rattle.scenario.specs.Denials.{Needed, used, in_turn, Introduces, Picked, done, taken, passed, Denial}
use Rattle.scenario.specs.Sheet.{Sheet, choices}
use Rattle.scenario.specs.Reading.{SheetRead}
use Rattle.scenario.proofs.Base.{either, left, right, tell, is_true, is_false, elem_at, elem-front, elem_back, elem_split, brings-at}
use Rattle.scenario.proofs.Section.{Known, Fitting, Ready, passed_fitting}
use Rattle.scenario.proofs.Agreement.{Base}
use Rattle.scenario.proofs.Reading.{sound}
use Rattle.scenario.proofs.Glue.{section_at_lem}

brings_get : (l ps : List ℕ) → T (brings l ps) → (p : ℕ) × T (elem p l) × T (elem p ps)
unfolding brings elem
brings_get [] ps t = absurd t
brings_get (p ∷ l) ps t =
    ⊎_elim (λ s. (p, left (eqb p p) (elem p l) (eqb_refl p), s))
    (λ s. let r = brings_get l ps s in (r.0, right (eqb r.0 p) (elem r.0 l) r.1, r.2)) (either (elem p ps) (brings l ps) t)

-- more rows
need-on : (x : Row) (ks : List Row) (ps : List ℕ) {m : ℕ} → Needed ks ps m → Needed (x ∷ ks) ps m
need-on x ks ps (used t) = used t
need-on x ks ps (in_turn k p i o n t) = in_turn k p (Memᴰ.tail i) o (need-on x ks ps n) t

-- what the row x needs, where x introduces a point p of ps
need_via : (x : Row) (ks : List Row) (ps : List ℕ) (p : ℕ) → T (elem p (introduced x)) → T (elem p ps) → {m : ℕ} → Needed ks (needs x ++ ps) m → Needed (x ∷ ks) ps m
need_via x ks ps p o u {m} (used t) = ⊎_elim (λ s. in_turn x p (Memᴰ.head refl) o (used u) s) (λ s. used s) (elem_split m (needs x) ps t)
need_via x ks ps p o u (in_turn k q i o' n t) = in_turn k q (Memᴰ.tail i) o' (need_via x ks ps p o u n) t

-- the same rows in another order
need-within : (ks ls : List Row) (ps : List ℕ) → ((k : Row) → Memᴰ k ks → Memᴰ k ls) → {m : ℕ} → Needed ks ps m → Needed ls ps m
need-within ks ls ps f (used t) = used t
need-within ks ls ps f (in_turn k p i o n t) = in_turn k p (f k i) o (need-within ks ls ps f n) t

mem_reverse_onto : (l r : List Row) {k : Row} → Memᴰ k l ⊎ Memᴰ k r → Memᴰ k (reverse_aux l r)
mem_reverse_onto [] r h = ⊎_elim (λ a. absurd (Memᴰ.not-nil a)) (λ b. b) h
mem_reverse_onto (x ∷ l) r h =
    ⊎_elim (λ a. ⊎_elim (λ q. mem_reverse_onto l (x ∷ r) (inr (Memᴰ.head q))) (λ m. mem_reverse_onto l (x ∷ r) (inl m)) (Memᴰ.cases_cons a))
    (λ b. mem_reverse_onto l (x ∷ r) (inr (Memᴰ.tail b))) h

mem_reversed : (l : List Row) {k : Row} → Memᴰ k l → Memᴰ k (reverse l)
mem_reversed l h = mem_reverse_onto l [] (inl h)

reversed_mem : (l : List Row) {k : Row} → Memᴰ k (reverse l) → Memᴰ k l
reversed_mem l {k} h = subst (λ (z : List Row). Memᴰ k z) (reverse-reverse l) (mem_reversed (reverse l) h)

-- Picking

module _ (P : Row → Type 0) where
  picked_one_more : {rows picked : List Row} (x : Row) → P x → Picked P rows picked → Picked P (rows ++ (x ∷ [])) (picked ++ (x ∷ []))
  picked_one_more x h done = taken h done
  picked_one_more x h (taken a p) = taken a (picked_one_more x h p)
  picked_one_more x h (passed a p) = passed a (picked_one_more x h p)

  picked_none_more : {rows picked : List Row} (x : Row) → (P x → ⊥) → Picked P rows picked → Picked P (rows ++ (x ∷ [])) picked
  picked_none_more x h done = passed h done
  picked_none_more x h (taken a p) = taken a (picked_none_more x h p)
  picked_none_more x h (passed a p) = passed a (picked_none_more x h p)

  -- what is picked is determined
  pub picked_once : {rows a b : List Row} → Picked P rows a → Picked P rows b → a ≡ b
  picked_once done done = refl
  picked_once (taken {k} h p) (taken g q) = ap (λ (l : List Row). k ∷ l) (picked_once p q)
  picked_once (taken h p) (passed g q) = absurd (g h)
  picked_once (passed h p) (taken g q) = absurd (h g)
  picked_once (passed h p) (passed g q) = picked_once p q

picked_same : (P Q : Row → Type 0) → ((k : Row) → P k → Q k) → ((k : Row) → Q k → P k) → {rows picked : List Row} → Picked P rows picked → Picked Q rows picked
picked_same P Q f g done = done
picked_same P Q f g (taken {k} a p) = taken (f k a) (picked_same P Q f g p)
picked_same P Q f g (passed {k} a p) = passed (λ b. a (g k b)) (picked_same P Q f g p)

module _ (base : ℕ → Type 0) (r : ℕ) where
  -- a row's needs were known before it
  need-known : (ks : List Row) → Fitting base r ks → (k : Row) → Memᴰ k ks → (p : ℕ) → T (elem p (needs k)) → Known base ks p
  unfolding points
  need-known [] g k i p t = absurd (Memᴰ.not-nil i)
  need-known (x ∷ ks) g k i p t =
      ⊎_elim (λ b. inl b) (λ s. inr (elem_back p (introduced x) (points ks) s))
      (⊎_elim (λ q. elem_at (Known base ks) p (needs x) (subst (λ (z : Row). T (elem p (needs z))) q t) g.0.known)
      (λ h. need-known ks g.1 k h p t) (Memᴰ.cases_cons i))

  module _ (x : Row) (ks : List Row) (ps : List ℕ) (g : Fitting base r (x ∷ ks)) where
    -- what the last row introduces is needed only where it is used outright
    own-used : (p : ℕ) → T (elem p (introduced x)) → Needed (x ∷ ks) ps p → T (elem p ps)
    own-used p o (used t) = t
    own-used p o (in_turn k q i o' n t) =
        absurd
        ((elem_at (λ (p : ℕ). (Known base ks p → ⊥) × (p ≡ r → ⊥)) p (introduced x) o g.0.new).0
        (⊎_elim (λ e. elem_at (Known base ks) p (needs x) (subst (λ (z : Row). T (elem p (needs z))) e t) g.0.known)
        (λ h. need-known ks g.1 k h p t) (Memᴰ.cases_cons i)))

    strip_yes : (m : ℕ) → Needed (x ∷ ks) ps m → Needed ks (needs x ++ ps) m
    strip_yes m (used t) = used (elem_back m (needs x) ps t)
    strip_yes m (in_turn k q i o n t) =
        let n' = strip_yes q n in
        ⊎_elim (λ e. used (elem-front m (needs x) ps (subst (λ (z : Row). T (elem m (needs z))) e t)))
        (λ h. in_turn k q h o n' t) (Memᴰ.cases_cons i)

    strip_no : T (not (brings (introduced x) ps)) → (m : ℕ) → Needed (x ∷ ks) ps m → Needed ks ps m
    strip_no b m (used t) = used t
    strip_no b m (in_turn k q i o n t) =
        let n' = strip_no b q n in
        ⊎_elim
        (λ e. let o' = subst (λ (z : Row). T (elem q (introduced z))) e o in
        absurd (T_not (brings (introduced x) ps) b (brings-at q (introduced x) ps o' (own-used q o' n))))
        (λ h. in_turn k q h o n' t) (Memᴰ.cases_cons i)

  -- The closure, of rows reversed, is those that introduce a needed point, in sheet order.
  closure_picks : (ks : List Row) (ps : List ℕ) → Fitting base r ks → Picked (Introduces ks ps) (reverse ks) (closure ks ps)
  unfolding closure
  closure_picks [] ps g = done
  closure_picks (x ∷ ks) ps g = rw (reverse-cons x ks)
      (⊎_elim
      (λ y. let p = brings_get (introduced x) ps y in rw (is_true (brings (introduced x) ps) y)
      (picked_one_more (Introduces (x ∷ ks) ps) x (record { at = p.0; own = p.1; need = used p.2 })
      (picked_same (Introduces ks (needs x ++ ps)) (Introduces (x ∷ ks) ps)
      (λ k v. record { at = v.at; own = v.own; need = need_via x ks ps p.0 p.1 p.2 v.need })
      (λ k v. record { at = v.at; own = v.own; need = strip_yes x ks ps g v.at v.need })
      (closure_picks ks (needs x ++ ps) g.1))))
      (λ n. rw (is_false (brings (introduced x) ps) n)
      (picked_none_more (Introduces (x ∷ ks) ps) x
      (λ v. T_not (brings (introduced x) ps) n (brings-at v.at (introduced x) ps v.own (own-used x ks ps g v.at v.own v.need)))
      (picked_same (Introduces ks ps) (Introduces (x ∷ ks) ps)
      (λ k v. record { at = v.at; own = v.own; need = need-on x ks ps v.need })
      (λ k v. record { at = v.at; own = v.own; need = strip_no x ks ps g n v.at v.need })
      (closure_picks ks ps g.1))))
      (tell (brings (introduced x) ps)))

  -- the same of the rows before a row, in sheet order
  pub closure-is : (front : List Row) (x : Row) (back : List Row) → Ready base r [] (front ++ (x ∷ back))
      → Picked (Introduces front (needs x)) front (closure (reverse front) (needs x))
  closure-is front x back f =
      picked_same (Introduces (reverse front) (needs x)) (Introduces front (needs x))
      (λ k v. record { at = v.at; own = v.own; need = need-within (reverse front) front (needs x) (λ k h. reversed_mem front h) v.need })
      (λ k v. record { at = v.at; own = v.own; need = need-within front (reverse front) (needs x) (λ k h. mem_reversed front h) v.need })
      (subst (λ (l : List Row). Picked (Introduces (reverse front) (needs x)) l (closure (reverse front) (needs x))) (reverse-reverse front)
      (closure_picks (reverse front) (needs x) (passed_fitting base r [] front (x ∷ back) tt f)))

  module _ (z : Row → ℕ) where
    denial_in : (ks front : List Row) (x : Row) (back own : List Row) → Memᴰ own (denying_rows (z x) r x)
        → Memᴰ (closure (reverse_aux front ks) (needs x) ++ own) (denials z r ks (front ++ (x ∷ back)))
    unfolding denials
    denial_in ks [] x back own i = Memᴰ.append_left (denials z r (x ∷ ks) back) (Memᴰ.map (λ d. closure ks (needs x) ++ d) i)
    denial_in ks (y ∷ front) x back own i =
        Memᴰ.append_right (map (λ d. closure ks (needs y) ++ d) (denying_rows (z y) r y)) (denial_in (y ∷ ks) front x back own i)

    -- a member, found
    record Found (ks rs d : List Row) : Type 0 where
      pub front : List Row
      pub row : Row
      pub back : List Row
      pub own : List Row
      pub place : rs ≡ front ++ (row ∷ back)
      pub denying : Memᴰ own (denying_rows (z row) r row)
      pub joined : d ≡ closure (reverse_aux front ks) (needs row) ++ own

    denial_out : (ks rs d : List Row) → Memᴰ d (denials z r ks rs) → Found ks rs d
    unfolding denials
    denial_out ks [] d i = absurd (Memᴰ.not-nil i)
    denial_out ks (x ∷ rs) d i =
        ⊎_elim
        (λ h. let o = Memᴰ.of_map (λ d. closure ks (needs x) ++ d) (denying_rows (z x) r x) h in
        record { front = []; row = x; back = rs; own = o.0; place = refl; denying = o.1; joined = sym o.2 })
        (λ h. let f = denial_out (x ∷ ks) rs d h in
        record { front = x ∷ f.front; row = f.row; back = f.back; own = f.own; place = ap (λ (l : List Row). x ∷ l) f.place; denying = f.denying; joined = f.joined })
        (Memᴰ.append_cases (map (λ d. closure ks (needs x) ++ d) (denying_rows (z x) r x)) i)

    -- The denials of a consequent are exactly the paper's.
    pub denials-are : (c : List Row) → Ready base r [] c → (d : List Row) → Memᴰ d (denials z r [] c) ↔ Denial z r c d
    denials-are c f d = (to, from)
      where
        to : Memᴰ d (denials z r [] c) → Denial z r c d
        to i = let o = denial_out [] c d i in
            record {
              front = o.front;
              row = o.row;
              back = o.back;
              brought = closure (reverse o.front) (needs o.row);
              own = o.own;
              place = o.place;
              closed = closure-is o.front o.row o.back (subst (Ready base r []) o.place f);
              denying = o.denying;
              joined = o.joined;
            }

        from : Denial z r c d → Memᴰ d (denials z r [] c)
        from o =
            let q : o.brought ≡ closure (reverse o.front) (needs o.row) =
            picked_once (Introduces o.front (needs o.row)) o.closed (closure-is o.front o.row o.back (subst (Ready base r []) o.place f)) in
            let e : d ≡ closure (reverse o.front) (needs o.row) ++ o.own = o.joined ∙ ap (λ (l : List Row). l ++ o.own) q in
            subst (λ (l : List Row). Memᴰ d (denials z r [] l)) (sym o.place)
            (subst (λ (l : List Row). Memᴰ l (denials z r [] (o.front ++ (o.row ∷ o.back)))) (sym e) (denial_in [] o.front o.row o.back o.own o.denying))

-- For a sheet that is read: the denials that consequent number i + 1 is chosen from.
pub choices-at : (antecedent : List Row) (i : ℕ) (cs : List (List Row)) (n : ℕ) → n < length cs
    → get_or (choices (far_end antecedent) i cs) n [] ≡ denials (far_end antecedent (get_or cs n [])) (10 * (i + n) + 9) [] (get_or cs n [])
unfolding choices
choices-at antecedent i [] n h = absurd (omega arith)
choices-at antecedent i (c ∷ cs) zero h = let q : i + 0 ≡ i = omega arith in rw q
choices-at antecedent i (c ∷ cs) (suc n) h = let q : i + suc n ≡ suc i + n = omega arith in rw q (choices-at antecedent (suc i) cs n (omega arith))

pub sheet-denials-are : (sheet : Sheet) → SheetRead sheet → (i : ℕ) → i < length sheet.consequents → (d : List Row)
    → Memᴰ d (get_or (choices (far_end sheet.antecedent) 1 sheet.consequents) i [])
    ↔ Denial (far_end sheet.antecedent (get_or sheet.consequents i [])) (10 * (1 + i) + 9) (get_or sheet.consequents i []) d
sheet-denials-are sheet R i h d = rw (choices-at sheet.antecedent 1 sheet.consequents i h)
    (denials-are (Base sheet) (10 * (1 + i) + 9) (far_end sheet.antecedent (get_or sheet.consequents i [])) (get_or sheet.consequents i [])
    (section_at_lem (Base sheet) 1 sheet.consequents (sound sheet R).sections i h).ready d)

-- At any width: the spelling of a number is read as the number, and no other bytes are.
-- Assumes nothing.
use mathlib.Core.Path.{◌≡◌, refl, sym, ap, ap₂, ◌∙◌, subst}
use mathlib.Core.List.{List, [], ◌∷◌, ◌++◌, append_assoc, append-nil}
use mathlib.Core.Bool.{Bool, true, false, cond, not, ◌&&◌}
use Prim.Native.Nat.{ℕ, zero, suc, ◌+◌, ◌*◌, ◌-◌, ◌/◌, ◌%◌, ◌^◌, ◌≤◌, ◌<◌}
use native.Mathlib.Nat.{pow-suc}
use native.Mathlib.Omega.{arith}
use lib.ListN.{length, take, length-append, length-replicate}
use lib.Seq.{length-take-le}
use lib.Dec.{eqb, leb}
use borrow.Author.Tests.{eqb-true, eqb-false, leb-true, le-leb, ne_eqb}
use Rattle.columns.specs.Number.{after_spaces, is_digit, all_digits, decimal, well_led, scan, numeral, field_at}
use Rattle.columns.specs.Spell.{last_byte, left_byte, left, spell}
use Rattle.std.specs.Prelude.{Some, None}
use Rattle.columns.proofs.Both.{both, pair}
use Rattle.columns.proofs.Padded.{bad_not, spaces, padded}

-- d is v without leading zeros, and nothing where v is 0
data Digits : List ℕ → ℕ → Type 0 where
  none : Digits [] 0
  more : {d : List ℕ} {v : ℕ} (c : ℕ) → Digits d v → c < 10 → (v * 10 + c ≡ 0 → ⊥) → Digits (d ++ ((48 + c) ∷ [])) (v * 10 + c)

-- a digit more at the end
decimal-more : (v : ℕ) (d : List ℕ) (b : ℕ) → decimal v (d ++ (b ∷ [])) ≡ decimal v d * 10 + (b - 48)
decimal-more v [] b = refl
decimal-more v (x ∷ d) b = decimal-more (v * 10 + (x - 48)) d b

digit_is : (c : ℕ) → c < 10 → is_digit (48 + c) ≡ true
digit_is c h = pair (leb 48 (48 + c)) (leb (48 + c) 57) (le-leb 48 (48 + c) (omega arith)) (le-leb (48 + c) 57 (omega arith))

digits_more : (d : List ℕ) (b : ℕ) → all_digits d ≡ true → is_digit b ≡ true → all_digits (d ++ (b ∷ [])) ≡ true
digits_more [] b h k = pair (is_digit b) true k refl
digits_more (x ∷ d) b h k = let z = both (is_digit x) (all_digits d) h in pair (is_digit x) (all_digits (d ++ (b ∷ []))) z.0 (digits_more d b z.1 k)

digits_less : (d : List ℕ) (b : ℕ) → all_digits (d ++ (b ∷ [])) ≡ true → (all_digits d ≡ true) × (is_digit b ≡ true)
digits_less [] b h = (refl, (both (is_digit b) true h).0)
digits_less (x ∷ d) b h =
    let z = both (is_digit x) (all_digits (d ++ (b ∷ []))) h in
    let r = digits_less d b z.1 in
    (pair (is_digit x) (all_digits d) z.0 r.0, r.1)

-- the first digit is not 0
abbrev Lead : List ℕ → Type 0
Lead [] = Unit {0}
Lead (b ∷ d) = b ≡ 48 → ⊥

lead_more : (d : List ℕ) (b : ℕ) → Lead d → (d ≡ [] → b ≡ 48 → ⊥) → Lead (d ++ (b ∷ []))
lead_more [] b h f = f refl
lead_more (x ∷ d) b h f = h

led_lead : (d : List ℕ) (b : ℕ) → Lead d → well_led (d ++ (b ∷ [])) ≡ true
led_lead [] b h = refl
led_lead (x ∷ []) b h = simp (ne_eqb x 48 h)
led_lead (x ∷ y ∷ d) b h = simp (ne_eqb x 48 h)

lead_led : (d : List ℕ) (b : ℕ) → well_led (d ++ (b ∷ [])) ≡ true → Lead d
lead_led [] b h = tt
lead_led (x ∷ []) b h = eqb-false x 48 (not_true' (eqb x 48) h)
  where
    not_true' : (t : Bool) → not t ≡ true → t ≡ false
    not_true' true e = sym e
    not_true' false e = refl
lead_led (x ∷ y ∷ d) b h = eqb-false x 48 (not_true' (eqb x 48) h)
  where
    not_true' : (t : Bool) → not t ≡ true → t ≡ false
    not_true' true e = sym e
    not_true' false e = refl

-- what the reader sees of them
digits_read : {d : List ℕ} {v : ℕ} → Digits d v → (all_digits d ≡ true) × (decimal 0 d ≡ v) × Lead d
digits_read none = (refl, refl, tt)
digits_read (more {d} {v} c D h ne) =
    let r = digits_read D in (
      digits_more d (48 + c) r.0 (digit_is c h),
      omega (arith, decimal-more 0 d (48 + c), r.1),
      lead_more d (48 + c) r.2 (λ e q. ne (omega (arith, sym (ap (decimal 0) e) ∙ r.1))),
    )

-- Columns

spaces-more : (w : ℕ) → spaces w ++ (32 ∷ []) ≡ spaces (suc w)
spaces-more zero = refl
spaces-more (suc w) = ap (λ (l : List ℕ). 32 ∷ l) (spaces-more w)

left-zero : (w : ℕ) → left w 0 ≡ spaces w
unfolding left left_byte
left-zero zero = refl
left-zero (suc w) = ap (λ (l : List ℕ). l ++ (32 ∷ [])) (left-zero w) ∙ spaces-more w

pub left-length : (w v : ℕ) → length (left w v) ≡ w
unfolding left
left-length zero v = refl
left-length (suc w) v = omega (arith, length-append (left w (v / 10)) (left_byte v ∷ []), left-length w (v / 10))

pub spell-length : (w v : ℕ) → length (spell w v) ≡ w
unfolding spell
spell-length zero v = refl
spell-length (suc w) v = omega (arith, length-append (left w (v / 10)) (last_byte v ∷ []), left-length w (v / 10))

left_byte_lem : (v : ℕ) → (v ≡ 0 → ⊥) → left_byte v ≡ last_byte v
unfolding left_byte
left_byte_lem v h = simp (ne_eqb v 0 h)

one_more : (v : ℕ) → (v ≡ 0 → ⊥) → (d : List ℕ) → Digits d (v / 10) → Digits (d ++ (last_byte v ∷ [])) v
unfolding last_byte
one_more v n d D =
    let e : v / 10 * 10 + v % 10 ≡ v = omega arith in
    subst (Digits (d ++ ((48 + v % 10) ∷ []))) e (more (v % 10) D (omega arith) (λ z. n (omega arith)))

record Spelt (l : List ℕ) (v : ℕ) : Type 0 where
  m : ℕ
  d : List ℕ
  is : l ≡ spaces m ++ d
  digits : Digits d v

-- the columns are spaces and the digits
left_digits : (w v : ℕ) → v < 10 ^ w → Spelt (left w v) v
unfolding left
left_digits zero v h = let e : 0 ≡ v = omega arith in record { m = 0; d = []; is = refl; digits = subst (Digits []) e none }
left_digits (suc w) v h = go (eqb v 0) refl (left_digits w (v / 10) (omega (arith, pow-suc 10 w)))
  where
    go : (b : Bool) → eqb v 0 ≡ b → Spelt (left w (v / 10)) (v / 10) → Spelt (left (suc w) v) v
    go true e S =
        let z = eqb-true v 0 e in
        record { m = suc w; d = []; is = ap (left (suc w)) z ∙ left-zero (suc w) ∙ sym (append-nil (spaces (suc w))); digits = subst (Digits []) (sym z) none }
    go false e S =
        let n = eqb-false v 0 e in
        record {
          m = S.m;
          d = S.d ++ (last_byte v ∷ []);
          is = ap₂ (λ (l : List ℕ) (b : ℕ). l ++ (b ∷ [])) S.is (left_byte_lem v n) ∙ append_assoc (spaces S.m) S.d (last_byte v ∷ []);
          digits = one_more v n S.d S.digits;
        }

-- a spelling is read as its number
numeral_of : (d : List ℕ) (v : ℕ) → well_led d ≡ true → all_digits d ≡ true → decimal 0 d ≡ v → v ≤ 4294967295 → numeral d ≡ Some v
unfolding numeral scan
numeral_of d v a b c h = rw (a, b, c) (simp (le-leb v 4294967295 h))

pub spell-read : (w v : ℕ) (rest : List ℕ) → 1 ≤ w → v < 10 ^ w → v ≤ 4294967295 → field_at (spell w v ++ rest) w ≡ Some v
unfolding spell last_byte
spell-read zero v rest l h k = absurd (omega arith)
spell-read (suc w) v rest l h k =
    let S = left_digits w (v / 10) (omega (arith, pow-suc 10 w)) in
    let r = digits_read S.digits in
    let d = S.d ++ ((48 + v % 10) ∷ []) in
    let n : numeral d ≡ Some v =
    numeral_of d v (led_lead S.d (48 + v % 10) r.2) (digits_more S.d (48 + v % 10) r.0 (digit_is (v % 10) (omega arith)))
    (omega (arith, decimal-more 0 S.d (48 + v % 10), r.1)) k in
    let e : (left w (v / 10) ++ ((48 + v % 10) ∷ [])) ++ rest ≡ spaces S.m ++ (d ++ rest) =
    ap (λ (x : List ℕ). (x ++ ((48 + v % 10) ∷ [])) ++ rest) S.is ∙ ap (λ (x : List ℕ). x ++ rest) (append_assoc (spaces S.m) S.d ((48 + v % 10) ∷ [])) ∙ append_assoc (spaces S.m) d rest in
    let z : suc w ≡ S.m + length d =
    omega (arith, left-length w (v / 10), ap length S.is, length-append (spaces S.m) S.d, length-replicate {A = ℕ} S.m 32, length-append S.d ((48 + v % 10) ∷ [])) in
    ap₂ field_at e z ∙ padded S.m v d rest n

-- No other spelling

digits_left : {d : List ℕ} {v : ℕ} → Digits d v → (m : ℕ) → left (m + length d) v ≡ spaces m ++ d
unfolding left last_byte
digits_left none m = let e : m + length {A = ℕ} [] ≡ m = omega arith in rw e (left-zero m ∙ sym (append-nil (spaces m)))
digits_left (more {d} {v} c D h ne) m =
    let e : m + length (d ++ ((48 + c) ∷ [])) ≡ suc (m + length d) = omega (arith, length-append d ((48 + c) ∷ [])) in
    let q : (v * 10 + c) / 10 ≡ v = omega arith in
    let r : (v * 10 + c) % 10 ≡ c = omega arith in
    rw (e, left_byte_lem (v * 10 + c) ne, q, r)
    (ap (λ (l : List ℕ). l ++ ((48 + c) ∷ [])) (digits_left D m) ∙ append_assoc (spaces m) d ((48 + c) ∷ []))

-- digits that follow digits
digits_of : {p : List ℕ} {v : ℕ} → Digits p v → (d : List ℕ) → all_digits d ≡ true → (v ≡ 0 → Lead d) → Digits (p ++ d) (decimal v d)
digits_of {p} {v} D [] h l = subst (λ (x : List ℕ). Digits x v) (sym (append-nil p)) D
digits_of {p} {v} D (b ∷ d) h l =
    let z = both (is_digit b) (all_digits d) h in
    let i = both (leb 48 b) (leb b 57) z.0 in
    let lo = leb-true 48 b i.0 in
    let hi = leb-true b 57 i.1 in
    let e : 48 + (b - 48) ≡ b = omega arith in
    let ne : v * 10 + (b - 48) ≡ 0 → ⊥ = λ q. l (omega arith) (omega arith) in
    let E : Digits (p ++ (b ∷ [])) (v * 10 + (b - 48)) = subst (λ (x : ℕ). Digits (p ++ (x ∷ [])) (v * 10 + (b - 48))) e (more (b - 48) D (omega arith) ne) in
    subst (λ (x : List ℕ). Digits x (decimal (v * 10 + (b - 48)) d)) (append_assoc p (b ∷ []) d) (digits_of {p = p ++ (b ∷ [])} {v = v * 10 + (b - 48)} E d z.1 (λ q. absurd (ne q)))

record Split (t : List ℕ) : Type 0 where
  m : ℕ
  is : t ≡ spaces m ++ after_spaces t

split : (t : List ℕ) → Split t
split [] = record { m = 0; is = refl }
split (b ∷ t) = go (eqb b 32) refl (split t)
  where
    go : (x : Bool) → eqb b 32 ≡ x → Split t → Split (b ∷ t)
    go true e S = record { m = suc S.m; is = rw e (ap₂ ◌∷◌ (eqb-true b 32 e) S.is) }
    go false e S = record { m = 0; is = rw e }

record Last (l : List ℕ) : Type 0 where
  d : List ℕ
  b : ℕ
  is : l ≡ d ++ (b ∷ [])

last : (x : ℕ) (l : List ℕ) → Last (x ∷ l)
last x [] = record { d = []; b = x; is = refl }
last x (y ∷ l) = let r = last y l in record { d = x ∷ r.d; b = r.b; is = ap (λ (k : List ℕ). x ∷ k) r.is }

record Numeral (l : List ℕ) (v : ℕ) : Type 0 where
  led : well_led l ≡ true
  digits : all_digits l ≡ true
  value : decimal 0 l ≡ v

numeral-is : (l : List ℕ) (v : ℕ) → numeral l ≡ Some v → Numeral l v
unfolding numeral scan
numeral-is l v e = go (well_led l) (all_digits l) (leb (decimal 0 l) 4294967295) refl refl e
  where
    go : (a b c : Bool) → well_led l ≡ a → all_digits l ≡ b → cond a (cond (b && c) (Some (decimal 0 l)) None) None ≡ Some v → Numeral l v
    go true true true x y e = record { led = x; digits = y; value = cc }
    go true true false x y e = absurd (bad_not v e)
    go true false c x y e = absurd (bad_not v e)
    go false b c x y e = absurd (bad_not v e)

-- the bytes of a numeral, with spaces before it
spelt_only : (m v : ℕ) (l : List ℕ) → Numeral l v → spaces m ++ l ≡ spell (m + length l) v
unfolding spell last_byte
spelt_only m v [] N = let z : ◌≡◌ {A = ℕ} 0 1 = cc N.led in absurd (omega arith)
spelt_only m v (x ∷ k) N =
    let L = last x k in
    let D = digits_less L.d L.b (ap all_digits (sym L.is) ∙ N.digits) in
    let i = both (leb 48 L.b) (leb L.b 57) D.1 in
    let lo = leb-true 48 L.b i.0 in
    let hi = leb-true L.b 57 i.1 in
    let e : decimal 0 L.d * 10 + (L.b - 48) ≡ v = sym (decimal-more 0 L.d L.b) ∙ ap (decimal 0) (sym L.is) ∙ N.value in
    let q : v / 10 ≡ decimal 0 L.d = omega arith in
    let r : 48 + v % 10 ≡ L.b = omega arith in
    let n : m + length (x ∷ k) ≡ suc (m + length L.d) = omega (arith, ap length L.is, length-append L.d (L.b ∷ [])) in
    let G = digits_of none L.d D.0 (λ z. lead_led L.d L.b (ap well_led (sym L.is) ∙ N.led)) in
    let s : left (m + length L.d) (decimal 0 L.d) ≡ spaces m ++ L.d = digits_left G m in
    ap (λ (l : List ℕ). spaces m ++ l) L.is ∙ sym (append_assoc (spaces m) L.d (L.b ∷ []))
    ∙ sym (ap (λ (j : ℕ). spell j v) n ∙ ap₂ (λ (l : List ℕ) (b : ℕ). l ++ (b ∷ [])) (ap (left (m + length L.d)) q ∙ s) r)

-- what is read as v has v's spelling
pub only_spelling : (s : List ℕ) (w v : ℕ) → field_at s w ≡ Some v → (w ≤ length s) × (take w s ≡ spell w v)
unfolding field_at
only_spelling s w v e = go (leb w (length s)) refl e
  where
    go : (b : Bool) → leb w (length s) ≡ b → cond b (numeral (after_spaces (take w s))) None ≡ Some v → (w ≤ length s) × (take w s ≡ spell w v)
    go true x e =
        let h = leb-true w (length s) x in
        let S = split (take w s) in
        let N = numeral-is (after_spaces (take w s)) v e in
        let n : S.m + length (after_spaces (take w s)) ≡ w =
        omega (arith, ap length S.is, length-append (spaces S.m) (after_spaces (take w s)), length-replicate {A = ℕ} S.m 32, length-take-le w s h) in
        (h, S.is ∙ spelt_only S.m v (after_spaces (take w s)) N ∙ ap (λ (j : ℕ). spell j v) n)
    go false x e = absurd (bad_not v e)

-- two fields that are read as one number are equal
pub one_spelling : (s t : List ℕ) (w v : ℕ) → field_at s w ≡ Some v → field_at t w ≡ Some v → take w s ≡ take w t
one_spelling s t w v e f = (only_spelling s w v e).1 ∙ sym (only_spelling t w v f).1

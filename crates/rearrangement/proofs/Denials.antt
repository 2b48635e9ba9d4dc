-- The denials of a consequent that has become another section are its denials, moved there with it.
-- Carried by the points that its rows name: no two of them come to one number, and those that every section may use keep theirs.
-- Assumes nothing.
use mathlib.Core.Path.{◌≡◌, refl, sym, ◌∙◌, ap, ap₂, subst}
use mathlib.Core.Logic.{inl, ⊎_elim}
use mathlib.Core.Bool.{Bool, true, false, not, ◌&&◌, ◌||◌, cond}
use mathlib.Core.List.{List, [], ◌∷◌, ◌++◌, map, map-append}
use Prim.Native.Nat.{ℕ, ◌+◌, ◌*◌, ◌≤◌}
use lib.Dec.{eqb}
use Rattle.scenario.specs.Links.{Link, link, leads}
use Rattle.scenario.specs.Rows.{Row, point, next, last, earlier, later, before, apart, same, free, within, outside, event, introduced, needs, points, elem, brings, closure, End, start, close, inner, end, gather, before_link, ascends, may_end, ends_next, ends_last, first_or, far_end, denying_free, denying_rows, denials}
use Rattle.scenario.specs.Reading.{All}
use Rattle.scenario.specs.Renumber.{move, renamed, moved}
use Rattle.scenario.proofs.Base.{is_false, neq→neqb, all_map, all_append, elem_at}
use Rattle.scenario.proofs.Links.{all-gather}
use Rattle.scenario.proofs.Far.{first_or-has}
use Rattle.scenario.proofs.Renumber.{Such, needs-renamed, introduced-renamed, eqb-renamed, Common, fixed-start, fixed-close, Named, move_common, move-spare, move-one, common_or_not}

-- Rows and links

-- a link with its points renumbered
abbrev relinked : (ℕ → ℕ) → Link → Link
relinked f l = link (f l.from) (f l.to)

module _ (f : ℕ → ℕ) where
  link-renamed : (row : Row) → before_link (renamed f row) ≡ map (relinked f) (before_link row)
  link-renamed (point p s) = refl
  link-renamed (next p q s) = refl
  link-renamed (last p q s) = refl
  link-renamed (earlier p q a) = refl
  link-renamed (later p q a) = refl
  link-renamed (before p q) = refl
  link-renamed (apart p q) = refl
  link-renamed (same p q) = refl
  link-renamed (free p q s) = refl
  link-renamed (within p q lo hi) = refl
  link-renamed (outside p q lo hi) = refl
  link-renamed (event p s) = refl

  links_renamed : (rows : List Row) → gather before_link (map (renamed f) rows) ≡ map (relinked f) (gather before_link rows)
  unfolding gather
  links_renamed [] = refl
  links_renamed (row ∷ rows) =
      ap₂ (λ (l m : List Link). l ++ m) (link-renamed row) (links_renamed rows) ∙ sym (map-append (relinked f) (before_link row) (gather before_link rows))

  free-renamed : (r p q s : ℕ) (a b : End) → denying_free (f r) (f p) (f q) s a b ≡ map (map (renamed f)) (denying_free r p q s a b)
  unfolding denying_free
  free-renamed r p q s start start = refl
  free-renamed r p q s start close = refl
  free-renamed r p q s start inner = refl
  free-renamed r p q s close start = refl
  free-renamed r p q s close close = refl
  free-renamed r p q s close inner = refl
  free-renamed r p q s inner start = refl
  free-renamed r p q s inner close = refl
  free-renamed r p q s inner inner = refl

  -- what stands before each denial
  fronts_renamed : (brought : List Row) (ds : List (List Row))
      → map (λ d. map (renamed f) brought ++ d) (map (map (renamed f)) ds) ≡ map (map (renamed f)) (map (λ d. brought ++ d) ds)
  fronts_renamed brought [] = refl
  fronts_renamed brought (d ∷ ds) = ap₂ (λ x xs. x ∷ xs) (sym (map-append (renamed f) brought d)) (fronts_renamed brought ds)

-- a row's link is of points that it needs
module _ (Q : ℕ → Type 0) where
  link_of_lem : (row : Row) → All Q (needs row) → All (λ (l : Link). Q l.from × Q l.to) (before_link row)
  link_of_lem (point p s) h = tt
  link_of_lem (next p q s) h = tt
  link_of_lem (last p q s) h = tt
  link_of_lem (earlier p q a) h = tt
  link_of_lem (later p q a) h = tt
  link_of_lem (before p q) h = ((h.0, h.1.0), tt)
  link_of_lem (apart p q) h = tt
  link_of_lem (same p q) h = tt
  link_of_lem (free p q s) h = tt
  link_of_lem (within p q lo hi) h = tt
  link_of_lem (outside p q lo hi) h = tt
  link_of_lem (event p s) h = tt

  links_of_lem : (rows : List Row) → All (λ (row : Row). All Q (needs row)) rows → All (λ (l : Link). Q l.from × Q l.to) (gather before_link rows)
  links_of_lem rows h = all-gather (λ (l : Link). Q l.from × Q l.to) before_link rows (all_map link_of_lem rows h)

-- A relation by links of such points leads from no other to one, and from none to another.
module _ (Q : ℕ → Type 0) where
  off : (a b : ℕ) → (a ≡ b → ⊥) → eqb a b ≡ false
  off a b h = is_false (eqb a b) (neq→neqb a b h)

  no_both : (a b : Bool) → b ≡ false → a && b ≡ false
  no_both true b q = q
  no_both false b q = refl

  none_from : (ls : List Link) → All (λ (l : Link). Q l.from × Q l.to) ls → (x y : ℕ) → (Q x → ⊥) → Q y → leads ls x y ≡ false
  unfolding leads
  none_from [] h x y a b = off x y (λ q. a (subst Q (sym q) b))
  none_from (l ∷ ls) h x y a b =
      ap₂ (λ s t. s || t) (none_from ls h.1 x y a b) (ap (λ (s : Bool). s && leads ls l.to y) (none_from ls h.1 x l.from a h.0.0))

  none-to : (ls : List Link) → All (λ (l : Link). Q l.from × Q l.to) ls → (x y : ℕ) → Q x → (Q y → ⊥) → leads ls x y ≡ false
  unfolding leads
  none-to [] h x y a b = off x y (λ q. b (subst Q q a))
  none-to (l ∷ ls) h x y a b =
      ap₂ (λ s t. s || t) (none-to ls h.1 x y a b) (no_both (leads ls x l.from) (leads ls l.to y) (none-to ls h.1 l.to y h.0.1 b))

  module _ (rows : List Row) (uses : All (λ (row : Row). All Q (needs row)) rows) where
    ascends-from : (x y : ℕ) → (Q x → ⊥) → Q y → ascends rows x y ≡ false
    unfolding ascends
    ascends-from x y a b = no_both (not (eqb x y)) (leads (gather before_link rows) x y) (none_from (gather before_link rows) (links_of_lem Q rows uses) x y a b)

    ascends-to : (x y : ℕ) → Q x → (Q y → ⊥) → ascends rows x y ≡ false
    unfolding ascends
    ascends-to x y a b = no_both (not (eqb x y)) (leads (gather before_link rows) x y) (none-to (gather before_link rows) (links_of_lem Q rows uses) x y a b)

-- The first of the points that passes goes by the tests alone; and so does whether a point may be the far end.
first-same : (d : ℕ) (g h : ℕ → Bool) (zs : List ℕ) → All (λ (z : ℕ). h z ≡ g z) zs → first_or d h zs ≡ first_or d g zs
unfolding first_or
first-same d g h [] a = refl
first-same d g h (z ∷ zs) a = ap₂ (λ b y. cond b z y) a.0 (first-same d g h zs a.1)

may_end-same : (beyond beyond' ordered ordered' : ℕ → Bool) (q q' edge z : ℕ) → beyond' z ≡ beyond z → eqb z q' ≡ eqb z q → eqb q' edge ≡ eqb q edge → ordered' z ≡ ordered z
    → may_end beyond' ordered' q' edge z ≡ may_end beyond ordered q edge z
unfolding may_end
may_end-same beyond beyond' ordered ordered' q q' edge z a b c d = ap₂ (λ s t. s && t) (ap₂ (λ s t. s && not t) a b) (ap₂ (λ s t. s || t) c d)

-- Section j as section i

module _ (j i : ℕ) (jl : 1 ≤ j) (jh : j ≤ 6) (il : 1 ≤ i) (ih : i ≤ 6) where
  abbrev f : ℕ → ℕ
  f = move j i

  stays : (m : ℕ) → Common m → f m ≡ m
  stays = move_common j i jl jh

  told : (a b : ℕ) → Named j a → Named j b → eqb (f a) (f b) ≡ eqb a b
  told = eqb-renamed f (Named j) (move-one j i jl jh il ih)

  -- against a point that keeps its number
  told_common : (a b : ℕ) → Named j a → Common b → eqb (f a) b ≡ eqb a b
  told_common a b h c = ap (eqb (f a)) (sym (stays b c)) ∙ told a b h (inl c)

  common_told : (a b : ℕ) → Common a → Named j b → eqb a (f b) ≡ eqb a b
  common_told a b c h = ap (λ (x : ℕ). eqb x (f b)) (sym (stays a c)) ∙ told a b (inl c) h

  -- What a denial brings

  elem-moved : (a : ℕ) (l : List ℕ) → Named j a → All (Named j) l → elem (f a) (map f l) ≡ elem a l
  unfolding elem
  elem-moved a [] h k = refl
  elem-moved a (x ∷ l) h k = ap₂ (λ s t. s || t) (told a x h k.0) (elem-moved a l h k.1)

  brings-moved : (l used : List ℕ) → All (Named j) l → All (Named j) used → brings (map f l) (map f used) ≡ brings l used
  unfolding brings
  brings-moved [] used h k = refl
  brings-moved (x ∷ l) used h k = ap₂ (λ s t. s || t) (elem-moved x used h.0 k) (brings-moved l used h.1 k)

  closure-moved : (passed : List Row) (used : List ℕ) → All (Such (Named j)) passed → All (Named j) used → closure (moved j i passed) (map f used) ≡ moved j i (closure passed used)
  unfolding closure
  closure-moved [] used h k = refl
  closure-moved (x ∷ passed) used h k =
      ap (λ (b : Bool). cond b (closure (moved j i passed) (needs (renamed f x) ++ map f used) ++ (renamed f x ∷ [])) (closure (moved j i passed) (map f used)))
      (ap (λ (l : List ℕ). brings l (map f used)) (introduced-renamed f x) ∙ brings-moved (introduced x) used h.0.1 k)
      ∙ go (brings (introduced x) used) (closure-moved passed (needs x ++ used) h.1 (all_append (Named j) (needs x) used h.0.0 k)) (closure-moved passed used h.1 k)
    where
      go : (b : Bool) → closure (moved j i passed) (map f (needs x ++ used)) ≡ moved j i (closure passed (needs x ++ used))
          → closure (moved j i passed) (map f used) ≡ moved j i (closure passed used)
          → cond b (closure (moved j i passed) (needs (renamed f x) ++ map f used) ++ (renamed f x ∷ [])) (closure (moved j i passed) (map f used))
          ≡ moved j i (cond b (closure passed (needs x ++ used) ++ (x ∷ [])) (closure passed used))
      go true u v =
          ap (λ (l : List ℕ). closure (moved j i passed) l ++ (renamed f x ∷ [])) (ap (λ (l : List ℕ). l ++ map f used) (needs-renamed f x) ∙ sym (map-append f (needs x) used))
          ∙ ap (λ (l : List Row). l ++ (renamed f x ∷ [])) u
          ∙ sym (map-append (renamed f) (closure passed (needs x ++ used)) (x ∷ []))
      go false u v = v

  -- The rows of a denial

  end_moved : (p : ℕ) → Named j p → end (f p) ≡ end p
  unfolding end
  end_moved p h = ap₂ (λ a b. cond a start (cond b close inner)) (told_common p 0 h (fixed-start refl)) (told_common p 99 h (fixed-close refl))

  denying-moved : (far r : ℕ) (k : Row) → Such (Named j) k → denying_rows (f far) (f r) (renamed f k) ≡ map (moved j i) (denying_rows far r k)
  unfolding denying_rows
  denying-moved far r (point p s) h = refl
  denying-moved far r (next p q s) h = refl
  denying-moved far r (last p q s) h = refl
  denying-moved far r (earlier p q a) h = refl
  denying-moved far r (later p q a) h = refl
  denying-moved far r (before p q) h = refl
  denying-moved far r (apart p q) h = refl
  denying-moved far r (same p q) h = refl
  denying-moved far r (free p q s) h =
      ap₂ (λ a b. denying_free (f r) (f p) (f q) s a b) (end_moved p h.0.0) (end_moved q h.0.1.0) ∙ free-renamed f r p q s (end p) (end q)
  denying-moved far r (within p q lo hi) h = refl
  denying-moved far r (outside p q lo hi) h = refl
  denying-moved far r (event p s) h = refl

  rows-denied : (far far' : Row → ℕ) (r : ℕ) (passed rows : List Row) → All (λ (k : Row). far' (renamed f k) ≡ f (far k)) rows → All (Such (Named j)) passed → All (Such (Named j)) rows
      → denials far' (f r) (moved j i passed) (moved j i rows) ≡ map (moved j i) (denials far r passed rows)
  unfolding denials
  rows-denied far far' r passed [] e h k = refl
  rows-denied far far' r passed (x ∷ rows) e h k =
      ap₂ (λ a b. a ++ b)
      (ap₂ (λ brought ds. map (λ d. brought ++ d) ds)
      (ap (closure (moved j i passed)) (needs-renamed f x) ∙ closure-moved passed (needs x) h k.0.0)
      (ap (λ (y : ℕ). denying_rows y (f r) (renamed f x)) e.0 ∙ denying-moved (far x) r x k.0)
      ∙ fronts_renamed f (closure passed (needs x)) (denying_rows (far x) r x))
      (rows-denied far far' r (x ∷ passed) rows e.1 (k.0, h) k.1)
      ∙ sym (map-append (moved j i) (map (λ d. closure passed (needs x) ++ d) (denying_rows (far x) r x)) (denials far r (x ∷ passed) rows))

  -- The far end of a missing point

  leads-moved : (ls : List Link) → All (λ (l : Link). Named j l.from × Named j l.to) ls → (x y : ℕ) → Named j x → Named j y
      → leads (map (relinked f) ls) (f x) (f y) ≡ leads ls x y
  unfolding leads
  leads-moved [] h x y a b = told x y a b
  leads-moved (l ∷ ls) h x y a b =
      ap₂ (λ s t. s || t) (leads-moved ls h.1 x y a b) (ap₂ (λ s t. s && t) (leads-moved ls h.1 x l.from a h.0.0) (leads-moved ls h.1 l.to y h.0.1 b))

  module _ (antecedent c : List Row) (common : All (λ (k : Row). All Common (needs k)) antecedent) (named : All (Such (Named j)) c) where
    ascends-moved : (x y : ℕ) → Named j x → Named j y → ascends (moved j i c) (f x) (f y) ≡ ascends c x y
    unfolding ascends
    ascends-moved x y a b =
        ap₂ (λ s t. not s && t) (told x y a b)
        (ap (λ (ls : List Link). leads ls (f x) (f y)) (links_renamed f c)
        ∙ leads-moved (gather before_link c) (links_of_lem (Named j) c (all_map (λ row u. u.0) c named)) x y a b)

    -- the antecedent's order sees a consequent's point nowhere, under whatever number
    from-same : (q z : ℕ) → Named j q → Common z → ascends antecedent (f q) z ≡ ascends antecedent q z
    from-same q z h cz =
        ⊎_elim (λ k. ap (λ (x : ℕ). ascends antecedent x z) (stays q k))
        (λ k. ascends-from Common antecedent common (f q) z k.1 cz ∙ sym (ascends-from Common antecedent common q z k.0 cz)) (common_or_not j i jl jh il ih q h)

    to_same : (z q : ℕ) → Common z → Named j q → ascends antecedent z (f q) ≡ ascends antecedent z q
    to_same z q cz h =
        ⊎_elim (λ k. ap (ascends antecedent z) (stays q k))
        (λ k. ascends-to Common antecedent common z (f q) cz k.1 ∙ sym (ascends-to Common antecedent common z q cz k.0)) (common_or_not j i jl jh il ih q h)

    next-same : (p q : ℕ) → Named j p → Named j q → (z : ℕ) → Common z → ends_next antecedent (moved j i c) (f p) (f q) z ≡ ends_next antecedent c p q z
    next-same p q h k z cz =
        may_end-same (ascends c p) (ascends (moved j i c) (f p)) (ascends antecedent q) (ascends antecedent (f q)) q (f q) 0 z
        (ap (ascends (moved j i c) (f p)) (sym (stays z cz)) ∙ ascends-moved p z h (inl cz)) (common_told z q cz k) (told_common q 0 k (fixed-start refl)) (from-same q z k cz)

    last-same : (p q : ℕ) → Named j p → Named j q → (z : ℕ) → Common z → ends_last antecedent (moved j i c) (f p) (f q) z ≡ ends_last antecedent c p q z
    last-same p q h k z cz =
        may_end-same (λ z. ascends c z p) (λ z. ascends (moved j i c) z (f p)) (λ z. ascends antecedent z q) (λ z. ascends antecedent z (f q)) q (f q) 99 z
        (ap (λ (x : ℕ). ascends (moved j i c) x (f p)) (sym (stays z cz)) ∙ ascends-moved z p (inl cz) h) (common_told z q cz k) (told_common q 99 k (fixed-close refl)) (to_same z q cz k)

    module _ (ps : All Common (points antecedent)) where
      -- it is one of the antecedent's points, or 0 or 99, and keeps its number
      first_stays : (d : ℕ) (g : ℕ → Bool) → Common d → first_or d g (points antecedent) ≡ f (first_or d g (points antecedent))
      first_stays d g h = sym (stays (first_or d g (points antecedent)) (first_or-has Common d g h (points antecedent) (λ z t u. elem_at Common z (points antecedent) t ps)))

      zero_stays : 0 ≡ f 0
      zero_stays = sym (stays 0 (fixed-start refl))

      far_end-moved : (k : Row) → Such (Named j) k → far_end antecedent (moved j i c) (renamed f k) ≡ f (far_end antecedent c k)
      unfolding far_end
      far_end-moved (point p s) h = zero_stays
      far_end-moved (next p q s) h =
          first-same 99 (ends_next antecedent c p q) (ends_next antecedent (moved j i c) (f p) (f q)) (points antecedent) (all_map (next-same p q h.1.0 h.0.0) (points antecedent) ps)
          ∙ first_stays 99 (ends_next antecedent c p q) (fixed-close refl)
      far_end-moved (last p q s) h =
          first-same 0 (ends_last antecedent c p q) (ends_last antecedent (moved j i c) (f p) (f q)) (points antecedent) (all_map (last-same p q h.1.0 h.0.0) (points antecedent) ps)
          ∙ first_stays 0 (ends_last antecedent c p q) (fixed-start refl)
      far_end-moved (earlier p q a) h = zero_stays
      far_end-moved (later p q a) h = zero_stays
      far_end-moved (before p q) h = zero_stays
      far_end-moved (apart p q) h = zero_stays
      far_end-moved (same p q) h = zero_stays
      far_end-moved (free p q s) h = zero_stays
      far_end-moved (within p q lo hi) h = zero_stays
      far_end-moved (outside p q lo hi) h = zero_stays
      far_end-moved (event p s) h = zero_stays

      -- The denials of section j's rows as section i's.
      pub denials-moved : denials (far_end antecedent (moved j i c)) (10 * i + 9) [] (moved j i c) ≡ map (moved j i) (denials (far_end antecedent c) (10 * j + 9) [] c)
      denials-moved =
          ap (λ (r : ℕ). denials (far_end antecedent (moved j i c)) r [] (moved j i c)) (sym (move-spare j i jl jh))
          ∙ rows-denied (far_end antecedent c) (far_end antecedent (moved j i c)) (10 * j + 9) [] c (all_map far_end-moved c named) tt named

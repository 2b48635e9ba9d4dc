-- A table with a link entered, and with several.
-- Assumes nothing.
use mathlib.Core.Path.{◌≡◌, refl, sym, ap, ap₂, ◌∙◌}
use mathlib.Core.Bool.{Bool, true, false, ◌&&◌, ◌||◌}
use mathlib.Core.List.{List, [], ◌∷◌, ◌++◌}
use Prim.Native.Nat.{ℕ, ◌<◌}
use lib.Bits.{bit_or}
use lib.Dec.{eqb}
use Rattle.scenario.specs.Links.{Link, link, leads}
use Rattle.scenario.specs.Log.{in_set}
use Rattle.scenario.proofs.Sets.{in_set_or}
use Rattle.scenario.specs.Reading.{All}
use Rattle.links.specs.Table.{told, Tells, Onward, by_link, entered, leads_on}

or_none : (b : Bool) → b ≡ b || false
or_none true = refl
or_none false = refl

-- the set of a place that leads to the link's first, and of one that does not
module _ (set from beyond : ℕ) where
  pub enters : in_set set from ≡ true → Onward set from beyond (bit_or set beyond)
  enters e y = in_set_or y set beyond ∙ ap (λ (b : Bool). in_set set y || (b && in_set beyond y)) (sym e)

  pub passes : in_set set from ≡ false → Onward set from beyond set
  passes e y = or_none (in_set set y) ∙ ap (λ (b : Bool). in_set set y || (b && in_set beyond y)) (sym e)

-- relations that agree on n places agree with links between these, too
module _ (n : ℕ) (R S : ℕ → ℕ → Bool) (same : (x y : ℕ) → x < n → y < n → R x y ≡ S x y) where
  leads_on-same : (links : List Link) → All (λ (l : Link). (l.from < n) × (l.to < n)) links → (x y : ℕ) → x < n → y < n → leads_on R links x y ≡ leads_on S links x y
  unfolding leads_on
  leads_on-same [] h x y a b = same x y a b
  leads_on-same (l ∷ links) h x y a b =
      ap₂ ◌||◌ (leads_on-same links h.1 x y a b)
      (ap₂ ◌&&◌ (leads_on-same links h.1 x l.from a h.0.0) (leads_on-same links h.1 l.to y h.0.1 b))

-- a table that tells a relation tells it with the links, once they are entered
pub links_entered : (n : ℕ) (R : ℕ → ℕ → Bool) (table table' : List ℕ) (links : List Link) → All (λ (l : Link). (l.from < n) × (l.to < n)) links
    → Tells n table R → Tells n table' (leads_on (told table) links) → Tells n table' (leads_on R links)
links_entered n R table table' links h t u = record { size = u.size; tells = λ x y a b. u.tells x y a b ∙ leads_on-same n (told table) R t.tells links h x y a b }

pub link-entered : (n : ℕ) (R : ℕ → ℕ → Bool) (table table' : List ℕ) (from to : ℕ) → from < n → to < n → Tells n table R
    → Tells n table' (entered table from to) → Tells n table' (by_link R from to)
unfolding leads_on
link-entered n R table table' from to f g = links_entered n R table table' (link from to ∷ []) ((f, g), tt)

-- `leads` is what links add to "leads to itself"
pub leads_on-eqb : (links : List Link) (x y : ℕ) → leads_on eqb links x y ≡ leads links x y
unfolding leads_on leads
leads_on-eqb [] x y = refl
leads_on-eqb (l ∷ links) x y = ap₂ ◌||◌ (leads_on-eqb links x y) (ap₂ ◌&&◌ (leads_on-eqb links x l.from) (leads_on-eqb links l.to y))

-- links in front of others are entered after them
pub leads_on_append : (R : ℕ → ℕ → Bool) (ks ls : List Link) → leads_on (leads_on R ls) ks ≡ leads_on R (ks ++ ls)
unfolding leads_on
leads_on_append R [] ls = refl
leads_on_append R (k ∷ ks) ls = ap (λ (S : ℕ → ℕ → Bool). by_link S k.from k.to) (leads_on_append R ks ls)

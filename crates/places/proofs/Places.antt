-- One position more in front of what was there.
-- Assumes nothing.
use mathlib.Core.Path.{◌≡◌, sym, ◌∙◌}
use mathlib.Core.List.{List, [], ◌∷◌, ◌++◌, map, map-append}
use Prim.Native.Nat.{ℕ, suc, ◌+◌, ◌<◌}
use native.Mathlib.Numerals.{add-one}
use native.Mathlib.Omega.{arith}
use lib.ListN.{length, get_or, set, drop, take, length-map}
use lib.Seq.{drop-cons, length-take-le, take-suc, append_snoc, set_at}

pub copied : (f : ℕ → ℕ) (ps l : List ℕ) (i : ℕ) → i < length ps → i < length l → (l' : List ℕ) → l' ≡ map f (take i ps) ++ drop i l
    → set l' i (f (get_or ps i 0)) ≡ map f (take (i + 1) ps) ++ drop (i + 1) l
copied f ps l i h k l' e =
    rw (e, add-one i, take-suc ps i 0 h, drop-cons l i 0 k, map-append f (take i ps) (get_or ps i 0 ∷ []))
    (set_at (map f (take i ps)) (get_or l i 0) (drop (suc i) l) (f (get_or ps i 0)) i (length-map (take i ps) f ∙ length-take-le i ps (omega arith)) ∙ sym (append_snoc (map f (take i ps)) (f (get_or ps i 0)) (drop (suc i) l)))

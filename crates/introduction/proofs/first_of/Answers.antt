-- `first_of` meets its contract: it finds the first row of the section.
use mathlib.Core.Path.{◌≡◌, refl, sym, ap, ◌∙◌, subst}
use native.Mathlib.Nat.{sub-zero}
use native.Mathlib.Omega.{arith}
use Prim.Native.Nat.{ℕ, ◌≤◌}
use lib.Dec.{eqb}
use Rattle.std.proofs.Common.{Option, Some, None, unwrap_or, rules, tests}
use Rattle.std.specs.Option.{option_map}
use Rattle.std.proofs.lemmas.Iterator.{YieldsList-from_range}
use Rattle.std.proofs.lemmas.Iterator.Search.{find_from_yields_List}
use Rattle.row.specs.Memory.{section_at}
use Rattle.introduction.specs.Bringing.{NoneBefore}
use Rattle.introduction.proofs.Bringing.{first-from}
use Rattle.introduction.proofs.first_of.Goals as goal

unmapped : (r : Option ℕ) → option_map (λ x. x) r ≡ r
unmapped None = refl
unmapped (Some x) = refl

pub returns : goal.returns
returns c =
    let a = c.args in
    let found = find_from_yields_List (λ i. eqb (section_at a.rows.now i) a.section) _ _ c.find.result c.find.ensures.ran (YieldsList-from_range 0 a.n a.n refl (sub-zero a.n)) (λ x b q k. search (rules, tests)) in
    let result = c.unwrap_or.ensures ∙ ap (λ (r : Option ℕ). unwrap_or r a.n) (sym (unmapped c.find.result) ∙ found) in
    subst (λ (u : ℕ). (u ≤ a.n) × NoneBefore a.rows.now a.section u) (sym result) (first-from a.rows.now a.section 0 a.n a.n (omega arith) (λ k h e. omega (arith, h)))

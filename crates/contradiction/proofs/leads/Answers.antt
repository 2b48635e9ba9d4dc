-- `leads` meets its contract: by the places of both points.
use mathlib.Core.Path.{◌∙◌, ap₂}
use Prim.Native.Nat.{ℕ}
use native.Mathlib.Omega.{arith}
use Rattle.links.specs.Table.{told}
use Rattle.contradiction.proofs.Places.{is-low}
use borrow.Author.Rules.{rules}
use Rattle.contradiction.proofs.leads.Goals as goal

pub returns : goal.returns
returns c =
    let a = c.args in c.member.ensures ∙ ap₂ (λ (x y : ℕ). told a.table.now x y) c.place.ensures c.place-2.ensures

pub bounds-table-place : goal.bounds-table-place
bounds-table-place c = let h = is-low _ _ c.place.ensures in search rules

pub member-requires : goal.member-requires
member-requires c = let h = is-low _ _ c.place-2.ensures in omega arith

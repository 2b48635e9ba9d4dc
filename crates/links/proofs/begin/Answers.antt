-- `begin` meets its contract: the sets so far have their own place alone.
use mathlib.Core.Path.{ap, ◌∙◌}
use Prim.Native.Nat.{ℕ}
use native.Mathlib.Omega.{arith}
use borrow.Author.Rules.{rules}
use Rattle.scenario.specs.Log.{in_set}
use Rattle.scenario.proofs.Sets.{in_set-one}
use Rattle.links.proofs.Sets.{small}
use Rattle.links.proofs.begin.Goals as goal

pub overflow_mul-alone : goal.overflow_mul-alone
overflow_mul-alone c =
    let l = c.loop-set in record { fits = omega (arith, l.invariant.0, small l.set-index (omega (arith, c.loop-set-test.true, c.requires))) }

pub returns : goal.returns
returns c =
    let l = c.loop-set in record {
      size = search rules;
      tells = λ x y h k. ap (λ (s : ℕ). in_set s y) (l.invariant.1 x (search rules)) ∙ in_set-one x y;
    }

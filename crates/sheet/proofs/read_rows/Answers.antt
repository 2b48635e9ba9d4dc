-- `read_rows` meets its contract: carried by `Left`, what is left from a row on is the whole, with the memory so far.
use mathlib.Core.Path.{◌≡◌, refl, sym, ap, ◌∙◌}
use Prim.Native.Nat.{◌+◌, ◌<◌}
use native.Mathlib.Omega.{arith}
use lib.ListN.{length}
use Rattle.rules.specs.declared.Stand.{Stand}
use Rattle.rules.specs.Rules.{advance}
use Rattle.row.specs.Row.{line_of}
use Rattle.refusal.proofs.Numbers.{sheet_refused}
use Rattle.rules.specs.Numbered.{numbered}
use Rattle.sheet.specs.Reading.{after, row_bytes}
use Rattle.sheet.proofs.Loop.{Within, Rest, within-start, within-enter, left-start, left-on, left-stop, left-none, step_bad, step-refused, within-after, rest_first, rest_next, rest_none, row-left, row-there}
use Rattle.row.proofs.Memory.{put-length}
use Rattle.sheet.proofs.read_rows.Goals as goal
use Rattle.sheet.proofs.read_rows.Goals.{After-after_row-at, In-Some}

bytes-long : (c : In-Some) → length c.in-Some.bytes.now ≡ 35
bytes-long c = c.in-Some.ensures.steps.0.1.1 ∙ c.loop-i.invariant.0

-- a row is left, and it is the next one
left : (c : In-Some) → c.loop-i.i-iterator.count < c.args.n
left c = row-left _ _ _ _ _ _ c.loop-i.invariant.1 c.in-Some.ensures.steps.0.1.0 (bytes-long c)

bytes-are : (c : In-Some) → c.in-Some.bytes.now ≡ row_bytes c.args.s.now c.loop-i.i-iterator.count
bytes-are c = row-there _ _ _ _ _ _ c.loop-i.invariant.1 c.in-Some.ensures.steps.0.1.0 (bytes-long c)

rest-on : (c : In-Some) → Rest c.args.s.now c.args.n (c.loop-i.i-iterator.count + 1) c.next.new.self.iter.rest.now
rest-on c = rest_next _ _ _ _ _ _ c.loop-i.invariant.1 c.in-Some.ensures.steps.0.1.0 (bytes-long c)

at-is : (c : After-after_row-at) → c.after_row-at.result ≡ after c.loop-i.at c.in-Some-parse.line
unfolding after
at-is c = c.after_row-at.ensures ∙ ap (λ (h : Stand). advance h c.in-Some-parse.line.kind) c.enter_section.ensures

pub loop-i-init : goal.loop-i-init
loop-i-init c =
    rw (c.into_iter-i-iterator.ensures.into_iter_gives, c.enumerate-i-items.ensures.source, c.enumerate-i-items.ensures.count, c.chunks_exact.ensures.size, c.chunks_exact.ensures.rest)
    (refl, rest_first _ c.args.n c.requires.2 _ (omega arith), refl, within-start, left-start _ _ _ _)

pub parse-requires : goal.parse-requires
parse-requires c = bytes-long (goal.at.parse-requires c).In-Some

pub returns-in_default : goal.returns-in_default
returns-in_default c =
    let l = c.loop-i in
    let some = (goal.at.returns-in_default c).In-Some in
    let e = sym (ap line_of (bytes-are some)) ∙ sym c.parse.ensures ∙ c.in_default.is in
    let told = left-stop _ _ _ _ _ _ _ l.invariant.4 4 (l.i-iterator.count + 1) (step_bad _ _ _ _ _ (left some) e) in
    record { ok = tt; err = rw c.in-Some.ensures.steps.1 told.0; memory = told.1 }

pub returns-in-Err : goal.returns-in-Err
returns-in-Err c =
    let l = c.loop-i in
    let some = (goal.at.returns-in-Err c).In-Some in
    let e = sym (ap line_of (bytes-are some)) ∙ sym c.parse.ensures ∙ c.in-Some-parse.is in
    let told = left-stop _ _ _ _ _ _ _ l.invariant.4 _ (l.i-iterator.count + 1) (step-refused _ _ _ _ _ (left some) _ _ e (ap numbered (sym c.in-Err.is) ∙ c.permit.ensures) (sheet_refused _)) in
    record { ok = tt; err = rw c.in-Some.ensures.steps.1 told.0; memory = told.1 }

pub after_row-at-requires : goal.after_row-at-requires
after_row-at-requires c =
    let l = c.loop-i in
    let w : Within c.enter_section.result l.i-iterator.count = rw c.enter_section.ensures (within-enter _ _ l.invariant.3 _) in
    let h = left (goal.at.after_row-at-requires c).In-Some in
    (omega (arith, w.rows, h, c.requires.1), omega (arith, w.antecedent, h, c.requires.1), omega (arith, w.own, h, c.requires.1))

pub loop-i-preserved : goal.loop-i-preserved
loop-i-preserved c =
    let l = c.loop-i in
    let some = (goal.at.loop-i-preserved c).In-Some in
    let steps = c.in-Some.ensures.steps in
    let e = sym (ap line_of (bytes-are some)) ∙ sym c.parse.ensures ∙ c.in-Some-parse.is in
    rw (steps.2, c.put_line.ensures, steps.1, at-is (goal.at.loop-i-preserved c).After-after_row-at) (
      steps.0.0 ∙ l.invariant.0,
      rest-on some,
      put-length _ _ _ ∙ l.invariant.2,
      within-after _ _ l.invariant.3 _,
      left-on _ _ _ _ _ _ _ l.invariant.4 _ (left some) e (ap numbered (sym c.in_default-permit.is) ∙ c.permit.ensures),
    )

pub returns : goal.returns
returns c =
    let steps = c.in-None.ensures.steps in
    let none = rest_none _ _ _ _ c.loop-i.invariant.1 (omega (arith, steps.0.1.0, c.loop-i.invariant.0)) in
    let told = left-none _ _ _ _ _ _ _ c.loop-i.invariant.4 none in record { ok = sym told.0.0; err = tt; memory = told.1 }

-- What reading leaves in memory is the sheet of the text.
-- Assumes nothing.
use mathlib.Core.Path.{◌≡◌, sym, ap, ap₂, ◌∙◌, subst}
use mathlib.Core.List.{List, ◌∷◌, map}
use Prim.Native.Nat.{ℕ, ◌≤◌}
use native.Mathlib.Omega.{arith}
use lib.ListN.{length, replicate, length-replicate}
use Rattle.scenario.specs.Fields.{five, fields, tagged}
use Rattle.scenario.specs.Sheet.{Sheet, count}
use Rattle.scenario.specs.Reading.{All, SheetRead}
use Rattle.row.specs.declared.Line.{Line}
use Rattle.row.specs.Row.{row_in}
use Rattle.row.specs.Memory.{lay, line_in, lines_in, row_at, tags_of}
use Rattle.row.proofs.Memory.{listed-lines, lay-length}
use Rattle.sheet.specs.Reading.{Answer}
use Rattle.sheet.specs.Reading.{sheet_of, sheet_in, taken, answer}
use Rattle.sheet.specs.Text.{Fits}
use Rattle.sheet.specs.Held.{sheet_at, SheetHeld, SheetLoaded}
use Rattle.sheet.proofs.Theorems.{AcceptedSheet, accepted-sheet, accepted-rows, tag}

-- The sheet, of which `load_sheet` gave the answer r and left its rows in the memory mem

module _ (s : List ℕ) (r : Answer) (e : r ≡ answer s) (z : r.refusal ≡ 0) (mem m₀ : List ℕ) (room : 1056 ≤ length m₀) (f : mem ≡ lay 0 (taken s).lines m₀) where
  accepted : (answer s).refusal ≡ 0
  accepted = sym (ap (λ (a : Answer). a.refusal) e) ∙ z

  S : AcceptedSheet s (sheet_in s) (taken s).lines
  S = accepted-sheet s accepted

  lines_are : lines_in mem 0 r.rows ≡ (taken s).lines
  lines_are = ap₂ (λ (m : List ℕ) (a : Answer). lines_in m 0 a.rows) f e ∙ S.memory m₀ room

  pub sheet_is : sheet_at mem r.rows r.k ≡ sheet_in s
  sheet_is = ap₂ (λ (a : Answer) (ls : List Line). sheet_of a.k ls) e lines_are

  tags-are : tags_of mem r.rows ≡ tagged 0 ((sheet_in s).antecedent ∷ (sheet_in s).consequents)
  unfolding tags_of row_at line_in
  tags-are = listed-lines tag mem r.rows 0 ∙ ap (map tag) lines_are ∙ sym S.rows

  sheet-held : SheetHeld mem r.rows r.k
  sheet-held = record {
    read = subst SheetRead (sym sheet_is) S.read;
    tags = tags-are ∙ ap (λ (z : Sheet). tagged 0 (z.antecedent ∷ z.consequents)) (sym sheet_is);
    few = subst (λ (a : Answer). a.rows ≤ 176) (sym e) S.short;
    consequents = ap (λ (z : Sheet). length z.consequents) sheet_is ∙ S.consequents ∙ ap (λ (a : Answer). a.k) (sym e);
  }

  pub sheet_loaded : SheetLoaded mem r
  sheet_loaded = record {
    held = sheet-held;
    numbers = subst (All (λ (l : Line). fields (row_in l) ≡ five l.kind l.p l.q l.a l.b)) (sym lines_are) S.numbers;
    columns = subst (All Fits) (sym lines_are) (accepted-rows s accepted).columns;
    count = ap (λ (a : Answer). a.count) e ∙ S.count ∙ ap count (sym sheet_is);
    room = omega (arith, room, ap length f, lay-length 0 (taken s).lines m₀);
  }

-- the program's own memory
pub room_1056 : 1056 ≤ length (replicate {A = ℕ} 1056 0)
room_1056 = omega (arith, length-replicate {A = ℕ} 1056 0)

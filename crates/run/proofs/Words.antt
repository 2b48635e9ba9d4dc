-- Words of positions: their halves by position, and how many there are.
-- Assumes nothing.
use mathlib.Core.Path.{◌≡◌, refl, sym, ◌∙◌, ap}
use mathlib.Core.List.{List}
use Prim.Native.Nat.{ℕ, ◌≤◌, ◌<◌}
use lib.ListN.{length, get_or, take, length-map, get_or-map}
use lib.Seq.{get_or-take, length-take-le}
use Rattle.scenario.specs.Rows.{lower_half, upper_half}
use Rattle.run.specs.Words.{position_count, ticks_in, events_in}

pub lower_none : lower_half 0 ≡ 0
unfolding lower_half
lower_none = refl

upper-none : upper_half 0 ≡ 0
unfolding upper_half
upper-none = refl

module _ (run : List ℕ) where
  module _ (x : ℕ) (h : x < position_count) where
    pub tick_half : lower_half (get_or run x 0) ≡ get_or (ticks_in run) x 0
    unfolding ticks_in
    tick_half = sym (ap (get_or (ticks_in run) x) (sym lower_none) ∙ get_or-map lower_half (take position_count run) x 0 ∙ ap lower_half (get_or-take position_count run x 0 h))

    pub event_half : upper_half (get_or run x 0) ≡ get_or (events_in run) x 0
    unfolding events_in
    event_half = sym (ap (get_or (events_in run) x) (sym upper-none) ∙ get_or-map upper_half (take position_count run) x 0 ∙ ap upper_half (get_or-take position_count run x 0 h))

  module _ (h : position_count ≤ length run) where
    pub ticks-length : length (ticks_in run) ≡ position_count
    unfolding ticks_in
    ticks-length = length-map (take position_count run) lower_half ∙ length-take-le position_count run h

    pub events-length : length (events_in run) ≡ position_count
    unfolding events_in
    events-length = length-map (take position_count run) upper_half ∙ length-take-le position_count run h

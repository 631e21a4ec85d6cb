-- Sixteen words of the schedule in lanes.
use Rattle.std.specs.Prelude.{ℕ, List, ◌++◌}
use Rattle.sha256.specs.declared.schedule.Window.{Window}

-- the sixteen words of a window
abbrev pub window_words : Window → List ℕ
window_words w = w.x0 ++ (w.x1 ++ (w.x2 ++ w.x3))

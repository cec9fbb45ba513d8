-- What a film over a film shows of the film m below.
use Rattle.std.specs.Prelude.{ℕ, ◌+◌, ◌-◌, ◌*◌, Bool, cond, not, ◌&&◌, ◌∷◌, pos, ◌+ℤ◌, nat_le, nat_lt}
use Rattle.film.specs.Frame.{Frame, framed}
use Rattle.film.specs.Film.{Meaning, Beside}
use Rattle.film.specs.Made.{window_on}
use Rattle.film.specs.declared.window.Window.{Window}

-- dark exactly where m is clear
abbrev pub negated : Meaning → Meaning
negated m = record { frame = m.frame; pixel = λ c r. not (m.pixel c r) }

-- left and right exchanged
abbrev pub mirrored : Meaning → Meaning
mirrored m = record { frame = m.frame; pixel = λ c r. m.pixel (m.frame.width - 1 - c) r }

-- the numbers of the window v: its size, the pitch, and the origin where it begins; rows count from
-- the top and the origin is at the bottom
abbrev pub cut_frame : Window → Frame → Frame
cut_frame v f = framed v.width v.height f.pitch
    (f.ox +ℤ pos (f.pitch * v.x)) (f.oy +ℤ pos (f.pitch * (f.height - v.y - v.height)))

-- the window v of m
abbrev pub cut : Window → Meaning → Meaning
cut v m = record { frame = cut_frame v m.frame; pixel = λ c r. m.pixel (v.x + c) (v.y + r) }

-- a window that does not lie on the film counts as the whole film; no cut-out has one
abbrev pub whole : Frame → Window
whole f = record { x = 0; y = 0; width = f.width; height = f.height }

-- where a cut-out lies
abbrev pub fitted : Frame → Window → Window
fitted f v = cond (window_on f v) v (whole f)

-- what a cut-out shows
abbrev pub cut_out : Window → Meaning → Meaning
cut_out v m = cut (fitted m.frame v) m

-- the pixel (c, r) lies in the window
abbrev pub in_window : Window → ℕ → ℕ → Bool
in_window v c r = nat_le v.x c && nat_lt c (v.x + v.width) && nat_le v.y r && nat_lt r (v.y + v.height)

-- the pixel (c, r) of the film below is not shown in the window
abbrev pub hidden : Window → Frame → ℕ → ℕ → Bool
hidden v f c r = (nat_lt c f.width && nat_lt r f.height) && not (in_window (fitted f v) c r)

-- the dark pixels of m that a cut-out hides
abbrev pub outside : Window → Meaning → ℕ → ℕ → Bool
outside v m c r = hidden v m.frame c r && m.pixel c r

-- what lies beside a cut-out: the pixels that it hides, and all that lies beside m
abbrev pub beside_cut : Window → Meaning → Beside → Beside
beside_cut v m b = record { memory = b.memory; pixels = outside v m ∷ b.pixels }

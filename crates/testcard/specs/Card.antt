-- The test card of a film of width w and height h: which pixels are dark.
use Rattle.std.specs.Prelude.{ℕ, ◌+◌, ◌-◌, ◌/◌, Bool, ◌&&◌, ◌||◌, ◌==◌, nat_le, nat_lt}

-- the border, one pixel wide
abbrev pub on_edge : ℕ → ℕ → ℕ → ℕ → Bool
on_edge w h c r = (c == 0 || (r == 0 || r + 1 == h)) || c + 1 == w

-- squares of 8 by 8 pixels that step down from the top left corner
abbrev pub on_steps : ℕ → ℕ → Bool
on_steps c r = c / 8 == r / 8

-- the cross in the centre: an arm over the middle half of the width
abbrev pub on_arm : ℕ → ℕ → ℕ → ℕ → Bool
on_arm w h c r = r == h / 2 && (nat_le (w / 4) c && nat_lt c (w - w / 4))

-- and a post over the middle half of the height
abbrev pub on_post : ℕ → ℕ → ℕ → ℕ → Bool
on_post w h c r = c == w / 2 && (nat_le (h / 4) r && nat_lt r (h - h / 4))

-- all of these are dark, and nothing else
abbrev pub card_pixel : ℕ → ℕ → ℕ → ℕ → Bool
card_pixel w h c r = ((on_edge w h c r || on_steps c r) || on_arm w h c r) || on_post w h c r

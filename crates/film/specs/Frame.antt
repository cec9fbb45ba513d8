-- A film's numbers and their limits, and where its pixels lie.
use Rattle.std.specs.Prelude.{◌≡◌, ℕ, ◌+◌, ◌-◌, ◌*◌, ◌/◌, ◌%◌, ◌<◌, ◌≤◌, Bool, true, ◌&&◌, ℤ, pos, negsuc, ◌+ℤ◌, ◌≤ℤ◌, ◌==◌, int_le, nat_le}

-- width and height in pixels, pitch and origin in ticks
pub record Frame : Type 0 where
  pub width : ℕ
  pub height : ℕ
  pub pitch : ℕ
  pub ox : ℤ
  pub oy : ℤ

-- the five numbers as one record
abbrev pub framed : ℕ → ℕ → ℕ → ℤ → ℤ → Frame
framed w h p x y = record { width = w; height = h; pitch = p; ox = x; oy = y }

-- the x of the centres of column c
abbrev pub centre_x : Frame → ℕ → ℤ
centre_x f c = f.ox +ℤ pos (f.pitch * c + f.pitch / 2)

-- the y of the centres of row r; row 0 is on top
abbrev pub centre_y : Frame → ℕ → ℤ
centre_y f r = f.oy +ℤ pos (f.pitch * (f.height - 1 - r) + f.pitch / 2)

-- a centre may lie from −30,000 to 90,000
abbrev pub lowest : ℤ
lowest = negsuc 29999

abbrev pub highest : ℤ
highest = pos 90000

-- each side has a pixel and at most 60,000 ticks, and the pitch is even and 2 to 64
abbrev pub sized : ℕ → ℕ → ℕ → Bool
sized w h p =
    nat_le 1 w && (nat_le 1 h && (nat_le 2 p && (nat_le p 64 && (p % 2 == 0 && (nat_le (w * p) 60000 && nat_le (h * p) 60000)))))

-- the numbers are within the limits: sizes and pitch, and the outermost columns' and rows' centres
unfoldable pub in_limits : Frame → Bool
in_limits f = sized f.width f.height f.pitch
    && ((int_le lowest (centre_x f 0) && int_le (centre_x f (f.width - 1)) highest)
    && (int_le lowest (centre_y f (f.height - 1)) && int_le (centre_y f 0) highest))

-- the same limits, of every pixel's centre
pub record Limits (f : Frame) : Type 0 where
  pub wide : 1 ≤ f.width
  pub tall : 1 ≤ f.height
  pub least : 2 ≤ f.pitch
  pub most : f.pitch ≤ 64
  pub even : f.pitch % 2 ≡ 0
  pub across : f.width * f.pitch ≤ 60000
  pub down : f.height * f.pitch ≤ 60000
  pub columns : (c : ℕ) → c < f.width → (lowest ≤ℤ centre_x f c) × (centre_x f c ≤ℤ highest)
  pub rows : (r : ℕ) → r < f.height → (lowest ≤ℤ centre_y f r) × (centre_y f r ≤ℤ highest)

-- the limits hold exactly if they hold of every centre
abbrev pub EveryCentre : Type 0
EveryCentre = (f : Frame) → (in_limits f ≡ true → Limits f) × (Limits f → in_limits f ≡ true)

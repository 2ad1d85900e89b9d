-- The lines of a text: a line ends with LF (10), with CR LF (13, 10), or with the text.
use Rattle.std.specs.Prelude.{ℕ, Bool, false, ◌||◌, ◌&&◌, ◌==◌, List, [], ◌∷◌, drop, if◌then◌else◌}

-- the bytes begin with LF
abbrev pub begins_feed : List ℕ → Bool
begins_feed [] = false
begins_feed (b ∷ bs) = b == 10

-- how many bytes the line end at the front takes; 0 where none is there
abbrev pub end_len : List ℕ → ℕ
end_len [] = 0
end_len (b ∷ bs) = if b == 10 then 1 else (if (b == 13) && begins_feed bs then 2 else 0)

-- the bytes before the first line end
abbrev pub first_line : List ℕ → List ℕ
first_line [] = []
first_line (b ∷ bs) = if end_len (b ∷ bs) == 0 then b ∷ first_line bs else []

-- the bytes behind the first line end
abbrev pub other_lines : List ℕ → List ℕ
other_lines [] = []
other_lines (b ∷ bs) = if end_len (b ∷ bs) == 0 then other_lines bs else drop (end_len (b ∷ bs)) (b ∷ bs)

-- a space or a tab
abbrev pub is_blank : ℕ → Bool
is_blank b = (b == 32) || (b == 9)

-- the first byte is a blank
abbrev pub begins_blank : List ℕ → Bool
begins_blank [] = false
begins_blank (b ∷ bs) = is_blank b
